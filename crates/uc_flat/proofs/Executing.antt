-- Initial states and steps on free values are those on choices, both ways.
use Rattle.std.proofs.Common.{◌≡◌, ℕ, ◌+◌, ◌<◌, ◌≤◌, List, [], ◌∷◌, ◌++◌, length, take, drop, Option, Some, refl, sym, ap, ◌∙◌, arith, slice_get, append-nil, zero, suc}
use Rattle.std.specs.Prelude.{true}
use Rattle.std.proofs.lemmas.List.{length-take-le}
use Rattle.std.proofs.lemmas.List.Elements.{All-head, All-tail}
use Rattle.uc_values.specs.declared.ty.Ty.{Ty}
use Rattle.uc_values.specs.declared.value.Value.{Value}
use Rattle.uc_ops.specs.declared.model.Model.{Model}
use Rattle.uc_ops.specs.Typing.{Valid, AllValid}
use Rattle.uc_ops.specs.Meaning.{fitting}
use Rattle.uc_ops.proofs.Fitting.{fitting-fits}
use Rattle.uc_flat.specs.declared.flat.Flat.{Flat}
use Rattle.uc_flat.specs.Drawn.{Drawn, free, drawn}
use Rattle.uc_flat.specs.Running.{Placed, run_all}
use Rattle.uc_flat.specs.Laws.{StandAt, AgreeBelow}
use Rattle.uc_flat.specs.Flats.{cell_types, init_types, IsSound}
use Rattle.uc_flat.specs.Unrolled.{free_values, begun, widened, wider, started, doubled, stepped, initial, after_step}
use Rattle.uc_flat.specs.Executions.{FitAll, IsInitial, IsStep, IsFound}
use Rattle.uc_flat.proofs.Extending.{slice_get-front, slice_get-back}
use Rattle.uc_flat.proofs.Choosing.{place, drawn_runs}
use Rattle.uc_flat.proofs.Finding.{runs_drawn, fitting_is, front_stands, back_stands}
use Rattle.uc_flat.proofs.Constants.{same_drawn, same_widened}

free_values-fit : (frees : List Value) (types : List Ty) (n : ℕ) → AllValid types → FitAll types (free_values frees types n)
unfolding free_values FitAll
free_values-fit frees [] n h = tt
free_values-fit frees (ty ∷ types) n h = (fitting-fits ty (slice_get frees n) (All-head Valid ty types h), free_values-fit frees types (n + 1) (All-tail Valid ty types h))

fit_length : (types : List Ty) (values : List Value) → FitAll types values → length values ≡ length types
unfolding FitAll
fit_length [] [] h = refl
fit_length [] (v ∷ values) h = absurd h
fit_length (ty ∷ types) [] h = absurd h
fit_length (ty ∷ types) (v ∷ values) h = omega (arith, fit_length types values h.1)

-- the free values are those that stand there, where they fit
free_values-are : (list : List Value) (types : List Ty) (values : List Value) (n : ℕ) → FitAll types values → StandAt list n values → free_values list types n ≡ values
unfolding free_values FitAll
free_values-are list [] [] n h s = refl
free_values-are list [] (v ∷ values) n h s = absurd h
free_values-are list (ty ∷ types) [] n h s = absurd h
free_values-are list (ty ∷ types) (v ∷ values) n h s =
    let first : free list ty n ≡ v = ap (λ k. fitting ty (slice_get list k)) (omega arith) ∙ ap (fitting ty) (s 0 (omega arith)) ∙ fitting_is ty v h.0 in
    ap (λ x. x ∷ free_values list types (n + 1)) first
    ∙ ap (λ xs. v ∷ xs) (free_values-are list types values (n + 1) h.1 (λ k l. ap (slice_get list) (omega arith) ∙ s (suc k) (omega (arith, l))))

run_through : (m : Model) (types : List Ty) (f : Flat) (cells left others : List Value) (l o : List Value) (end : Option Placed) → l ≡ left → o ≡ others
    → run_all m types f.init (place cells l o []) ≡ end → run_all m types f.init (place cells left others []) ≡ end
run_through m types f cells left others l o end i j h = ap (λ x. run_all m types f.init (place cells x others [])) (sym i) ∙ ap (λ x. run_all m types f.init (place cells l x [])) (sym j) ∙ h

pub initial_is : (f : Flat) (m : Model) (first : ℕ) → IsSound f → (initial f first m).goes ≡ true → IsInitial f m (initial f first m).cells (initial f first m).chosen (initial f first m).sites
unfolding started
initial_is f m first s g =
    let types = cell_types f in
    let start = wider m types f.further (begun m.symbols types first) in
    let end = drawn m (init_types f) m.symbols f.init start in
    let u = drawn_runs m (init_types f) m.symbols f.init start s.init refl g in
    record {
      firsts = free_values m.symbols types first;
      rest = u.used;
      others = u.others;
      last = end.cells;
      begins = free_values-fit m.symbols types first s.valid;
      all = u.chosen;
      ends =
          run_through m (init_types f) f start.cells u.used u.others (u.used ++ []) (u.others ++ []) _ (append-nil u.used) (append-nil u.others) (u.ends [] [] [])
          ∙ ap (λ ns. Some (place end.cells [] [] ns)) (sym u.listed);
      reaches = refl;
    }

step_through : (m : Model) (types : List Ty) (f : Flat) (cells left others : List Value) (l o : List Value) (end : Option Placed) → l ≡ left → o ≡ others
    → run_all m types f.step (place cells l o []) ≡ end → run_all m types f.step (place cells left others []) ≡ end
step_through m types f cells left others l o end i j h = ap (λ x. run_all m types f.step (place cells x others [])) (sym i) ∙ ap (λ x. run_all m types f.step (place cells l x [])) (sym j) ∙ h

pub step_is : (f : Flat) (m : Model) (r : Drawn) → IsSound f → (after_step f m r).goes ≡ true → IsStep f m r.cells (after_step f m r).cells (after_step f m r).chosen (after_step f m r).sites
unfolding stepped
step_is f m r s g =
    let types = cell_types f ++ cell_types f in
    let end = drawn m types m.symbols f.step (doubled r) in
    let u = drawn_runs m types m.symbols f.step (doubled r) s.step refl g in
    record {
      others = u.others;
      last = end.cells;
      ends =
          step_through m types f (r.cells ++ r.cells) end.chosen u.others (u.used ++ []) (u.others ++ []) _ (append-nil u.used ∙ sym u.chosen) (append-nil u.others) (u.ends [] [] [])
          ∙ ap (λ ns. Some (place end.cells [] [] ns)) (sym u.listed);
      reaches = refl;
    }

slice_get-take : {A : Type 0} (xs : List A) (n k : ℕ) → k < n → slice_get (take n xs) k ≡ slice_get xs k
slice_get-take [] zero k h = refl
slice_get-take [] (suc n) k h = refl
slice_get-take (x ∷ xs) zero k h = absurd (omega (arith, h))
slice_get-take (x ∷ xs) (suc n) zero h = refl
slice_get-take (x ∷ xs) (suc n) (suc k) h = slice_get-take xs n k (omega (arith, h))

-- the model whose symbols from a number on are these values
abbrev with_values : ℕ → Model → List Value → Model
with_values n m values = record { symbols = take n m.symbols ++ values; tables = m.tables }

with_agrees : (n : ℕ) (m : Model) (values : List Value) → n ≤ length m.symbols → AgreeBelow n m (with_values n m values)
with_agrees n m values h = record {
  symbols = λ k l. sym (slice_get-front (take n m.symbols) values k (omega (arith, l, length-take-le n m.symbols h)) ∙ slice_get-take m.symbols n k l);
  tables = refl;
}

with_stands : (n : ℕ) (m : Model) (values : List Value) → n ≤ length m.symbols → StandAt (with_values n m values).symbols n values
with_stands n m values h k l = ap (slice_get (take n m.symbols ++ values)) (omega (arith, length-take-le n m.symbols h)) ∙ slice_get-back (take n m.symbols) values k

fewer : (c n : ℕ) (m k : Model) → c ≤ n → AgreeBelow n m k → AgreeBelow c m k
fewer c n m k h a = record { symbols = λ i l. a.symbols i (omega (arith, h, l)); tables = a.tables }

nothing_left : (used left rest : List Value) → rest ≡ used ++ left → left ≡ [] → rest ≡ used
nothing_left used left rest h e = h ∙ ap (λ l. used ++ l) e ∙ append-nil used

pub initial_found : (f : Flat) (m : Model) (first : ℕ) (cells choices : List Value) (sites : List ℕ) → IsSound f → length f.constants ≤ first → first ≤ length m.symbols
    → IsInitial f m cells choices sites → IsFound first m (initial f first) cells choices sites
unfolding started
initial_found f m first cells choices sites s c l i =
    let types = cell_types f in
    let w = runs_drawn m (init_types f) f.init (place (widened m types f.further i.firsts) i.rest i.others []) (place i.last [] [] sites) i.ends in
    let n = with_values first m (i.firsts ++ w.frees) in
    let agrees = with_agrees first m (i.firsts ++ w.frees) l in
    let below = fewer (length f.constants) first m n c agrees in
    let stands = with_stands first m (i.firsts ++ w.frees) l in
    let values = free_values-are n.symbols types i.firsts first i.begins (front_stands n.symbols first i.firsts w.frees stands) in
    let start = wider n types f.further (begun n.symbols types first) in
    let begins : start.cells ≡ widened m types f.further i.firsts =
    ap (widened n types f.further) values ∙ sym (same_widened (length f.constants) m n types i.firsts f.further below s.further_reads) in
    let later_stands = back_stands n.symbols first (first + length types) i.firsts w.frees (omega (arith, fit_length types i.firsts i.begins)) stands in
    let goes = w.ways n.symbols start later_stands begins refl refl in
    let same = same_drawn (length f.constants) m n (init_types f) f.init n.symbols start s.init_reads below in
    record {
      model = n;
      agrees = agrees;
      at = record {
        goes = ap (λ (d : Drawn). d.goes) (sym same) ∙ goes.goes;
        cells = ap (λ (d : Drawn). take (length types) d.cells) (sym same) ∙ ap (take (length types)) goes.cells ∙ i.reaches;
        chosen = ap (λ (d : Drawn). d.chosen) (sym same) ∙ goes.lists ∙ ap (λ vs. vs ++ w.used) values ∙ ap (λ vs. i.firsts ++ vs) (sym (nothing_left w.used [] i.rest w.left refl)) ∙ sym i.all;
        sites = ap (λ (d : Drawn). d.sites) (sym same) ∙ goes.listed ∙ sym w.sites;
      };
    }

pub step_found : (f : Flat) (m : Model) (r : Drawn) (new choices : List Value) (sites : List ℕ) → IsSound f → length f.constants ≤ r.next → r.next ≤ length m.symbols → r.goes ≡ true
    → IsStep f m r.cells new choices sites → IsFound r.next m (λ n. after_step f n r) new choices sites
unfolding stepped
step_found f m r new choices sites s c l g i =
    let types = cell_types f ++ cell_types f in
    let w = runs_drawn m types f.step (place (r.cells ++ r.cells) choices i.others []) (place i.last [] [] sites) i.ends in
    let n = with_values r.next m w.frees in
    let agrees = with_agrees r.next m w.frees l in
    let goes = w.ways n.symbols (doubled r) (with_stands r.next m w.frees l) refl g refl in
    let same = same_drawn (length f.constants) m n types f.step n.symbols (doubled r) s.step_reads (fewer (length f.constants) r.next m n c agrees) in
    record {
      model = n;
      agrees = agrees;
      at = record {
        goes = ap (λ (d : Drawn). d.goes) (sym same) ∙ goes.goes;
        cells = ap (λ (d : Drawn). drop (length (cell_types f)) d.cells) (sym same) ∙ ap (drop (length (cell_types f))) goes.cells ∙ i.reaches;
        chosen = ap (λ (d : Drawn). d.chosen) (sym same) ∙ goes.lists ∙ sym (nothing_left w.used [] choices w.left refl);
        sites = ap (λ (d : Drawn). d.sites) (sym same) ∙ goes.listed ∙ sym w.sites;
      };
    }
