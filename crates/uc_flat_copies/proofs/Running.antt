-- Where the copies of a model refute a line, the trace of their places does.
use Rattle.std.proofs.Common.{◌≡◌, ℕ, ◌+◌, ◌<◌, ◌≤◌, List, [], ◌∷◌, ◌++◌, length, map, Some, refl, sym, ap, ◌∙◌, subst, arith, slice_get, zero, suc, add-one, inl, inr, All}
use Rattle.std.specs.Prelude.{true, ◌&&◌}
use Rattle.std.specs.List.{list_all}
use Rattle.std.proofs.lemmas.Bool.Decides.{leb_tells}
use Rattle.std.proofs.lemmas.List.Elements.{All-nil, All-cons, All-head, All-tail}
use Rattle.uc_values.proofs.Shapes.{and_true}
use Rattle.uc_values.specs.declared.ty.Ty.{Ty}
use Rattle.uc_values.specs.declared.value.Value.{Value}
use Rattle.uc_ops.specs.declared.model.Model.{Model}
use Rattle.uc_ops.specs.Typing.{Valid, AllValid}
use Rattle.uc_ops.proofs.Fitting.{fitting-fits}
use Rattle.uc_ops.proofs.Lists.{at_place, slice_get-within}
use Rattle.uc_flat.specs.declared.flat.Flat.{Flat}
use Rattle.uc_flat.specs.Drawn.{Drawn}
use Rattle.uc_flat.specs.Flats.{cell_types, IsSound}
use Rattle.uc_flat.specs.Laws.{AgreeBelow}
use Rattle.uc_flat.specs.Unrolled.{free_values, doubled, stepped, initial, after_step, axioms_hold}
use Rattle.uc_flat.specs.Executions.{FitAll, IsInitial, IsStep}
use Rattle.uc_flat.proofs.Choosing.{drawn_runs}
use Rattle.uc_flat.proofs.Executing.{initial_is, step_is}
use Rattle.uc_flat.specs.declared.trace.FlatPosition.{FlatPosition}
use Rattle.uc_flat.specs.Traces.{HasConstants}
use Rattle.uc_flat.specs.FlatTracesLaws.{IsPositionOf}
use Rattle.uc_flat_copies.specs.declared.trace.FlatCopies.{FlatCopies}
use Rattle.uc_flat_copies.specs.declared.trace.Start.{Start}
use Rattle.uc_flat_copies.specs.declared.trace.Start.TheVariants.{Initially, Anywhere}
use Rattle.uc_flat_copies.specs.Traces.{CopyLine, IsAny, Starts, IsLinked, IsCopy, cells_in, sites_in, cells_at, sites_at, ask_all, fails, RefutesCopies}
use Rattle.uc_flat_copies.specs.Places.{begins_at, place, copies_of, cells_of, sites_of, all_below, is_refuted_by}
use Rattle.uc_flat_copies.specs.Laws.{ArePlaces, AllPlaces, none, one}
use Rattle.uc_flat_copies.proofs.Places.{count, place_zero, place_suc, all_below_at, reads_agree, reads_count}

-- where all assumptions hold after a step, they held before it
went : (f : Flat) (m : Model) (r : Drawn) → IsSound f → (after_step f m r).goes ≡ true → r.goes ≡ true
unfolding stepped
went f m r s g = (drawn_runs m (cell_types f ++ cell_types f) m.symbols f.step (doubled r) s.step refl g).went

went_to : (f : Flat) (start : Start) (m : Model) → IsSound f → (n k : ℕ) → k ≤ n → (place f start m n).goes ≡ true → (place f start m k).goes ≡ true
went_to f start m s zero k l g = let e : 0 ≡ k = omega (arith, l) in subst (λ i. (place f start m i).goes ≡ true) e g
went_to f start m s (suc n) k l g =
    elim (leb_tells k n) [
      | inl x ↦ went_to f start m s n k x.1 (went f m (place f start m n) s (ap (λ (d : Drawn). d.goes) (sym (place_suc f start m n)) ∙ g))
      | inr x ↦ let e : suc n ≡ k = omega (arith, l, x.1) in subst (λ i. (place f start m i).goes ≡ true) e g
    ]

free_values-fit : (frees : List Value) (types : List Ty) (n : ℕ) → AllValid types → FitAll types (free_values frees types n)
unfolding free_values FitAll
free_values-fit frees [] n h = tt
free_values-fit frees (ty ∷ types) n h = (fitting-fits ty (slice_get frees n) (All-head Valid ty types h), free_values-fit frees types (n + 1) (All-tail Valid ty types h))

initial_as : (f : Flat) (m : Model) (r : Drawn) (p : FlatPosition) → IsPositionOf r p → IsInitial f m r.cells r.chosen r.sites → IsInitial f m p.cells p.choices p.sites
initial_as f m r p a h =
    subst (IsInitial f m p.cells p.choices) a.sites (subst (λ cs. IsInitial f m p.cells cs r.sites) a.choices (subst (λ cs. IsInitial f m cs r.chosen r.sites) a.cells h))

step_as : (f : Flat) (m : Model) (r s : Drawn) (p q : FlatPosition) → IsPositionOf r p → IsPositionOf s q → IsStep f m r.cells s.cells s.chosen s.sites → IsStep f m p.cells q.cells q.choices q.sites
step_as f m r s p q a b h =
    subst (IsStep f m p.cells q.cells q.choices) b.sites
    (subst (λ cs. IsStep f m p.cells q.cells cs s.sites) b.choices (subst (λ cs. IsStep f m p.cells cs s.chosen s.sites) b.cells (subst (λ cs. IsStep f m cs s.cells s.chosen s.sites) a.cells h)))

starts_as : (f : Flat) (m : Model) (start : Start) (p : FlatPosition) → IsSound f → IsPositionOf (begins_at f start (count f) m) p → (begins_at f start (count f) m).goes ≡ true → Starts f m start p
starts_as f m Initially p s a g = initial_as f m (initial f (count f) m) p a (initial_is f m (count f) s g)
starts_as f m Anywhere p s a g = record { fits = subst (FitAll (cell_types f)) a.cells (free_values-fit m.symbols (cell_types f) (count f) s.valid); no_choices = sym a.choices; no_sites = sym a.sites }

-- the places of a copy in which all assumptions hold are linked
places_linked : (f : Flat) (start : Start) (steps : ℕ) (m : Model) (ps : List FlatPosition) → IsSound f → ArePlaces f start steps m ps → (place f start m steps).goes ≡ true → IsLinked f m start steps ps
places_linked f start steps m ps s a g =
    let goes : (k : ℕ) (p : FlatPosition) → slice_get ps k ≡ Some p → (place f start m k).goes ≡ true = λ k p at.
    went_to f start m s steps k (omega (arith, slice_get-within ps k p at, a.count)) g in
    record {
      count = a.count;
      begins = λ p at.
          starts_as f m start p s (subst (λ d. IsPositionOf d p) (place_zero f start m) (a.each 0 p at)) (ap (λ (d : Drawn). d.goes) (sym (place_zero f start m)) ∙ goes 0 p at);
      goes_on = λ k p q at next.
          let e : k + 1 ≡ suc k = add-one k in
          let later = subst (λ i. slice_get ps i ≡ Some q) e next in
          step_as f m (place f start m k) (after_step f m (place f start m k)) p q (a.each k p at) (subst (λ d. IsPositionOf d q) (place_suc f start m k) (a.each (suc k) q later))
          (step_is f m (place f start m k) s (ap (λ (d : Drawn). d.goes) (sym (place_suc f start m k)) ∙ goes (suc k) q later));
    }

all_linked : (f : Flat) (start : Start) (steps : ℕ) (m : Model) (ms : List Model) (pss : List (List FlatPosition)) → IsSound f → All (AgreeBelow (count f) m) ms → AllPlaces f start steps ms pss
    → list_all (λ c. (place f start c steps).goes) ms ≡ true → All (IsCopy f m start steps) pss
all_linked f start steps m _ _ s h none g = All-nil (IsCopy f m start steps)
all_linked f start steps m _ _ s h (one c ps ms rest a b) g =
    let both = and_true g in
    All-cons (IsCopy f m start steps) ps rest (record { own = c; agrees = All-head (AgreeBelow (count f) m) c ms h; linked = places_linked f start steps c ps s a both.0 })
    (all_linked f start steps m ms rest s (All-tail (AgreeBelow (count f) m) c ms h) b both.1)

pub places_cells : (f : Flat) (start : Start) (steps k : ℕ) (ms : List Model) (pss : List (List FlatPosition)) → k < steps + 1 → AllPlaces f start steps ms pss → cells_of f start ms k ≡ cells_at k pss
places_cells f start steps k _ _ l none = refl
places_cells f start steps k _ _ l (one m ps ms rest a b) =
    let p = at_place ps k (omega (arith, l, a.count)) in
    let here : (place f start m k).cells ≡ cells_in (slice_get ps k) = (a.each k p.0 p.1).cells ∙ sym (ap cells_in p.1) in
    λ i. here i ∷ places_cells f start steps k ms rest l b i

pub places_sites : (f : Flat) (start : Start) (steps k : ℕ) (ms : List Model) (pss : List (List FlatPosition)) → k < steps + 1 → AllPlaces f start steps ms pss → sites_of f start ms k ≡ sites_at k pss
places_sites f start steps k _ _ l none = refl
places_sites f start steps k _ _ l (one m ps ms rest a b) =
    let p = at_place ps k (omega (arith, l, a.count)) in
    let here : (place f start m k).sites ≡ sites_in (slice_get ps k) = (a.each k p.0 p.1).sites ∙ sym (ap sites_in p.1) in
    λ i. here i ∷ places_sites f start steps k ms rest l b i

places_count : (f : Flat) (start : Start) (steps : ℕ) (ms : List Model) (pss : List (List FlatPosition)) → AllPlaces f start steps ms pss → length pss ≡ length ms
places_count f start steps _ _ none = refl
places_count f start steps _ _ (one m ps ms rest a b) = ap suc (places_count f start steps ms rest b)

pub refutes : (f : Flat) (l : CopyLine) (width : ℕ) (m : Model) (t : FlatCopies) → IsSound f → HasConstants f t.constants m → AllPlaces f l.start l.steps (copies_of f width l.copies m) t.copies
    → is_refuted_by f l width m ≡ true → RefutesCopies f l t
refutes f l width m t s c a h =
    let ms = copies_of f width l.copies m in
    let first = and_true h in
    let second = and_true first.1 in
    let third = and_true second.1 in
    let fourth = and_true third.1 in
    record {
      model = m;
      constants = c;
      axioms = first.0;
      number = places_count f l.start l.steps ms t.copies a ∙ reads_count (count f) width m 0 l.copies;
      linked = all_linked f l.start l.steps m ms t.copies s (reads_agree (count f) width m 0 l.copies) a second.0;
      before = λ k b.
          ap (λ cs. ask_all f m cs l.before) (sym (places_cells f l.start l.steps k ms t.copies (omega (arith, b)) a))
          ∙ all_below_at l.steps (λ i. ask_all f m (cells_of f l.start ms i) l.before) third.0 k b;
      throughout = λ k b.
          ap (λ cs. ask_all f m cs l.throughout) (sym (places_cells f l.start l.steps k ms t.copies b a))
          ∙ all_below_at (l.steps + 1) (λ i. ask_all f m (cells_of f l.start ms i) l.throughout) fourth.0 k b;
      fails =
          ap (λ cs. fails f m cs (sites_at l.steps t.copies) l.subject) (sym (places_cells f l.start l.steps l.steps ms t.copies (omega arith) a))
          ∙ ap (λ ns. fails f m (cells_of f l.start ms l.steps) ns l.subject) (sym (places_sites f l.start l.steps l.steps ms t.copies (omega arith) a))
          ∙ fourth.1;
    }
