use Rattle.std.proofs.Common.{◌≡◌, List, [], ◌∷◌, length, false, ◌&&◌, ◌≢◌, refl, sym, ap, ◌∙◌, arith}
use Rattle.std.proofs.Math.Bool.{and-false}
use Rattle.uc_values.specs.Values.{same_scalar}
use Rattle.uc_values.specs.Tables.{same_scalars}
use Rattle.uc_values.specs.declared.value.Value.{Value}
use Rattle.uc_values.proofs.table.same_scalars.Goals as goal

lengths : (xs ys : List Value) → length xs ≢ length ys → same_scalars xs ys ≡ false
lengths [] [] h = absurd (h refl)
lengths [] (y ∷ ys) h = refl
lengths (x ∷ xs) [] h = refl
lengths (x ∷ xs) (y ∷ ys) h = ap (λ b. same_scalar x y && b) (lengths xs ys (λ e. h (omega arith))) ∙ and-false (same_scalar x y)

pub returns-then-left-right : goal.returns-then-left-right
returns-then-left-right c = sym (lengths c.args.left.now c.args.right.now c.if-left-right.true)
