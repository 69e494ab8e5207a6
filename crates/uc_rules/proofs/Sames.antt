-- Lists of fields of different lengths.
use Rattle.std.proofs.Common.{◌≡◌, ◌≢◌, suc, Bool, false, List, [], ◌∷◌, length, refl, ap, arith}
use Rattle.std.specs.Prelude.{◌&&◌, nat_eq}
use Rattle.uc_values.specs.declared.ty.Ty.{Ty}
use Rattle.uc_values.specs.declared.ty.Field.{Field}
use Rattle.uc_rules.specs.Same.{same_fields, tests}

both_false : (a b c : Bool) → c ≡ false → (a && (b && c)) ≡ false
both_false a b c e = grind (arith, e)

pub same_fields_lengths : (fs : List (Field (Ty → Bool))) (gs : List (Field Ty)) → length fs ≢ length gs → same_fields fs gs ≡ false
same_fields_lengths [] [] h = absurd (h refl)
same_fields_lengths [] (g ∷ gs) h = refl
same_fields_lengths (f ∷ fs) [] h = refl
same_fields_lengths (f ∷ fs) (g ∷ gs) h = both_false (nat_eq f.name g.name) (f.ty g.ty) (same_fields fs gs) (same_fields_lengths fs gs (λ e. h (omega (arith, e))))

pub tests_length : (fs : List (Field Ty)) → length (tests fs) ≡ length fs
tests_length [] = refl
tests_length (f ∷ fs) = ap suc (tests_length fs)
