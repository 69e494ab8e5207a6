use Rattle.std.proofs.Common.{◌≡◌, ℕ, List, [], ◌∷◌, length, false, ◌&&◌, ◌≢◌, refl, sym, ap, ◌∙◌, arith}
use Rattle.std.proofs.Math.Bool.{and-false}
use Rattle.std.specs.Prelude.{nat_eq}
use Rattle.uc_meaning.specs.Cells.{same_path}
use Rattle.uc_layout.proofs.layout_cells.same_path.Goals as goal

lengths : (xs ys : List ℕ) → length xs ≢ length ys → same_path xs ys ≡ false
unfolding same_path
lengths [] [] h = absurd (h refl)
lengths [] (y ∷ ys) h = refl
lengths (x ∷ xs) [] h = refl
lengths (x ∷ xs) (y ∷ ys) h = ap (λ b. nat_eq x y && b) (lengths xs ys (λ e. h (omega arith))) ∙ and-false (nat_eq x y)

pub returns-then-left-right : goal.returns-then-left-right
returns-then-left-right c = sym (lengths c.args.left.now c.args.right.now c.if-left-right.true)
