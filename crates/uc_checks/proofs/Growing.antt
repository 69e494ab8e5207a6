-- Parts that are written one after another.
use Rattle.std.proofs.Common.{◌≡◌, ℕ, zero, suc, ◌+◌, ◌<◌, ◌≤◌, List, [], ◌∷◌, ◌++◌, map, length, take, get_or, refl, ap, ◌∙◌, sym, subst, append_assoc, arith}
use Rattle.std.specs.List.{flat_map}
use Rattle.std.proofs.lemmas.List.{append-nil, map-append, take_all, take_more}
use Rattle.std.proofs.lemmas.Grind.{flat_map-append}
use Rattle.uc_values.specs.declared.value.Value.{Value}
use Rattle.uc_meaning.specs.declared.scope.Scope.{Scope}
use Rattle.uc_meaning.specs.Steps.{CellPart, Watched, writes}
use Rattle.uc_layout.specs.declared.part.Part.{Part}
use Rattle.uc_layout.specs.Kept.{cell_part}
use Rattle.uc_checks.specs.declared.seen.Seen.{Seen}
use Rattle.uc_checks.specs.Watches.{watched, Grows}

with_written : Scope → List Value → Seen → List CellPart → Watched
with_written s choices w parts = record (watched s choices w) { written = parts }

module _ (start : Seen) where
  pub grows_none : Grows start [] start
  unfolding with_written
  grows_none s choices = ap (with_written s choices start) (sym (append-nil (map cell_part start.written)))

  pub grows_one : (p : Part) (w : Seen) → w ≡ record { written = start.written ++ p ∷ []; violated = start.violated; used = start.used } → Grows start (cell_part p ∷ []) w
  unfolding with_written
  grows_one p w is s choices = ap (watched s choices) is ∙ ap (with_written s choices start) (map-append cell_part start.written (p ∷ []))

  pub grows_then : (mid w : Seen) (xs ys : List CellPart) → Grows start xs mid → Grows mid ys w → Grows start (xs ++ ys) w
  unfolding with_written
  grows_then mid w xs ys first second s choices =
      second s choices ∙ ap (writes ys) (first s choices) ∙ ap (with_written s choices start) (append_assoc (map cell_part start.written) xs ys)

  -- parts of each element of a list
  module _ {X : Type 0} (f : X → List CellPart) (xs : List X) (k : ℕ) (here : Seen) (so_far : Grows start (flat_map f (take k xs)) here) where
    pub grows_more : (x : X) (next : Seen) → k < length xs → x ≡ get_or xs k x → Grows here (f x) next → Grows start (flat_map f (take (k + 1) xs)) next
    grows_more x next within is more =
        let one : flat_map f (take (k + 1) xs) ≡ flat_map f (take k xs) ++ f x =
        ap (flat_map f) (take_more xs k x within)
        ∙ flat_map-append f (take k xs) (get_or xs k x ∷ [])
        ∙ ap (λ y. flat_map f (take k xs) ++ y) (append-nil (f (get_or xs k x)) ∙ ap f (sym is)) in
        subst (λ ps. Grows start ps next) (sym one) (grows_then here next (flat_map f (take k xs)) (f x) so_far more)

    pub grows_all : length xs ≤ k → Grows start (flat_map f xs) here
    grows_all past = subst (λ ys. Grows start (flat_map f ys) here) (take_all k xs past) so_far

-- what a place of a list of numbers has, whatever stands in for what is not there
pub same_at : (xs : List ℕ) (k a b : ℕ) → k < length xs → get_or xs k a ≡ get_or xs k b
same_at [] k a b within = absurd (omega (arith, within))
same_at (x ∷ xs) zero a b within = refl
same_at (x ∷ xs) (suc k) a b within = same_at xs k a b (omega (arith, within))
