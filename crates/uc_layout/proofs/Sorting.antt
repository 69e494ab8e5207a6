-- Lists of fields, one for each cell.
use Rattle.std.proofs.Common.{◌≡◌, ℕ, zero, suc, ◌<◌, Bool, true, false, List, [], ◌∷◌, ◌++◌, length, get_or, refl, ap, ◌∙◌, sym, arith}
use Rattle.std.specs.Prelude.{nat_eq, slice_set, if◌then◌else◌}
use Rattle.std.specs.Borrow.{Bor}
use Rattle.std.specs.Global.{Vec}
use Rattle.std.proofs.lemmas.List.{map-append, get_or-set_same, get_or-set_other, length-set}
use Rattle.std.proofs.lemmas.Option.{slice_get-get_or}
use Rattle.std.proofs.lemmas.Bool.Decides.{nat_tests}
use Rattle.uc_layout.specs.Kept.{lent}
use Rattle.uc_layout.specs.Sorted.{listed, list_at}

abbrev Lists : Type 0
Lists = List (Vec (Bor (List ℕ)))

-- one more list that is empty
pub empty_more : (cells : Lists) (v : Vec (Bor (List ℕ))) → v.items ≡ [] → ((k : ℕ) → lent (list_at cells k) ≡ []) → (k : ℕ) → lent (list_at (cells ++ v ∷ []) k) ≡ []
empty_more [] v none before zero = ap lent none
empty_more [] v none before (suc k) = refl
empty_more (x ∷ cells) v none before zero = before 0
empty_more (x ∷ cells) v none before (suc k) = empty_more cells v none (λ j. before (suc j)) k

pub list_is : (cells : Lists) (k : ℕ) (d : Vec (Bor (List ℕ))) → k < length cells → list_at cells k ≡ (get_or cells k d).items
list_is cells k d within = ap listed (slice_get-get_or cells k d within)

-- the list at a place with one more, and the others
pub pushed : (cells : Lists) (place : ℕ) (v d : Vec (Bor (List ℕ))) (f : Bor (List ℕ)) → place < length cells → v.items ≡ (get_or cells place d).items ++ f ∷ [] → (k : ℕ) → k < length cells →
    lent (list_at (slice_set cells place v) k) ≡ (if nat_eq place k then lent (list_at cells k) ++ f.now ∷ [] else lent (list_at cells k))
pushed cells place v d f within grown k below = by (nat_eq place k) refl
  where
    inside : k < length (slice_set cells place v)
    inside = let same : length (slice_set cells place v) ≡ length cells = length-set cells place v in omega (arith, same, below)

    items_of : Vec (Bor (List ℕ)) → List (Bor (List ℕ))
    items_of u = u.items

    by : (b : Bool) → nat_eq place k ≡ b → lent (list_at (slice_set cells place v) k) ≡ (if b then lent (list_at cells k) ++ f.now ∷ [] else lent (list_at cells k))
    by true is =
        let same : place ≡ k = grind (arith, nat_tests, is) in
        ap lent (list_is (slice_set cells place v) k d inside ∙ ap items_of (ap (λ j. get_or (slice_set cells place v) j d) (sym same) ∙ get_or-set_same cells place v d within) ∙ grown)
        ∙ map-append (λ (w : Bor (List ℕ)). w.now) (get_or cells place d).items (f ∷ [])
        ∙ ap (λ ls. lent ls ++ f.now ∷ []) (sym (list_is cells place d within) ∙ ap (list_at cells) same)
    by false is =
        let other : k ≡ place → ⊥ = λ e. grind (arith, nat_tests, is, e) in
        ap lent (list_is (slice_set cells place v) k d inside ∙ ap items_of (get_or-set_other cells place k v d other) ∙ sym (list_is cells k d below))
