-- What stands at a place of a list that is mapped, or what stands in for it.
use Rattle.std.proofs.Common.{◌≡◌, ℕ, ◌≤◌, List, map, length, get_or, Option, Some, None, refl, ap, ◌∙◌, sym}
use Rattle.std.specs.Prelude.{slice_get, slice_index_or, unwrap_or}
use Rattle.std.specs.Option.{option_map}
use Rattle.std.proofs.lemmas.Option.{unwrap_or-slice_get, slice_get-map, slice_get_past}

pub picked : {A B : Type 0} (f : A → B) (xs : List A) (k : ℕ) (d : B) → slice_index_or (map f xs) k d ≡ unwrap_or (option_map f (slice_get xs k)) d
picked f xs k d = sym (unwrap_or-slice_get (map f xs) k d) ∙ ap (λ o. unwrap_or o d) (slice_get-map f xs k)

pub picked_none : {A B : Type 0} (f : A → B) (xs : List A) (k : ℕ) (d : B) → None ≡ slice_get xs k → d ≡ slice_index_or (map f xs) k d
picked_none f xs k d none = ap (λ o. unwrap_or (option_map f o) d) none ∙ sym (picked f xs k d)

pub picked_some : {A B : Type 0} (f : A → B) (xs : List A) (k : ℕ) (x : A) (d : B) → Some x ≡ slice_get xs k → f x ≡ slice_index_or (map f xs) k d
picked_some f xs k x d some = ap (λ o. unwrap_or (option_map f o) d) some ∙ sym (picked f xs k d)

pub stands_none : {A : Type 0} (xs : List A) (k : ℕ) (d : A) → None ≡ slice_get xs k → d ≡ slice_index_or xs k d
stands_none xs k d none = ap (λ o. unwrap_or o d) none ∙ unwrap_or-slice_get xs k d

pub stands_some : {A : Type 0} (xs : List A) (k : ℕ) (x d : A) → Some x ≡ slice_get xs k → x ≡ slice_index_or xs k d
stands_some xs k x d some = ap (λ o. unwrap_or o d) some ∙ unwrap_or-slice_get xs k d
