-- Types that are repeated.
use Rattle.std.proofs.Common.{◌≡◌, ℕ, ◌+◌, List, [], ◌++◌, refl, sym, ap, ◌∙◌, zero, suc, append-nil, append_assoc, add-one}
use Rattle.uc_values.specs.declared.ty.Ty.{Ty}
use Rattle.uc_flat.specs.Flats.{repeated}

pub repeated_none : (types : List Ty) → [] ≡ repeated 0 types
unfolding repeated
repeated_none types = refl

after_all : (types : List Ty) (n : ℕ) → repeated n types ++ types ≡ repeated (suc n) types
unfolding repeated
after_all types zero = sym (append-nil types)
after_all types (suc n) = append_assoc types (repeated n types) types ∙ ap (λ ts. types ++ ts) (after_all types n)

pub repeated_more : (types : List Ty) (n : ℕ) → repeated n types ++ types ≡ repeated (n + 1) types
repeated_more types n = after_all types n ∙ ap (λ k. repeated k types) (sym (add-one n))
