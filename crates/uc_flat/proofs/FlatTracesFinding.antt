-- Each trace that refutes a formula is a run on free values.
use Rattle.std.proofs.Common.{◌≡◌, ℕ, ◌+◌, ◌<◌, ◌≤◌, List, [], ◌∷◌, ◌++◌, length, take, Some, refl, sym, ap, ◌∙◌, arith, slice_get, zero, suc, add-one, length-append}
use Rattle.std.specs.Prelude.{true, false, not, ◌&&◌, drop, All}
use Rattle.std.specs.List.{list_all}
use Rattle.std.proofs.lemmas.List.{length-map, length-take-le}
use Rattle.std.proofs.lemmas.List.Elements.{All-head, All-tail}
use Rattle.uc_values.specs.declared.ty.Ty.{Ty}
use Rattle.uc_values.specs.declared.value.Value.{Value}
use Rattle.uc_values.specs.Values.{truth_of}
use Rattle.uc_ops.specs.declared.model.Model.{Model}
use Rattle.uc_ops.specs.Meaning.{fitting}
use Rattle.uc_ops.proofs.Lists.{at_place}
use Rattle.uc_flat.specs.declared.flat.Flat.{Flat}
use Rattle.uc_flat.specs.declared.flat.Formula.{Formula}
use Rattle.uc_flat.specs.Counts.{all_draws}
use Rattle.uc_flat.specs.Drawn.{Drawn, free}
use Rattle.uc_flat.specs.Laws.{StandAt, AgreeBelow}
use Rattle.uc_flat.specs.Flats.{cell_types, init_types, repeated, axioms_of, IsSound, IsFormula}
use Rattle.uc_flat.specs.Unrolled.{free_values, begun, widened, wider, started, doubled, stepped, holds_in, axioms_hold, is_refuted}
use Rattle.uc_flat.specs.Executions.{FitAll, IsInitial, IsStep}
use Rattle.uc_flat.proofs.Extending.{slice_get-front, slice_get-back, next_after}
use Rattle.uc_flat.proofs.Choosing.{place}
use Rattle.uc_flat.proofs.Finding.{runs_drawn, fitting_is, front_stands, back_stands}
use Rattle.uc_flat.proofs.Constants.{same_drawn, same_value, same_widened}
use Rattle.uc_flat.specs.declared.trace.FlatPosition.{FlatPosition}
use Rattle.uc_flat.specs.declared.trace.FlatTrace.{FlatTrace}
use Rattle.uc_flat.specs.Traces.{constant_types, IsRun, RefutesFlat}
use Rattle.uc_flat.specs.FlatTracesLaws.{after}
use Rattle.uc_flat.proofs.Running.{after_zero, after_suc}

fit_length : (types : List Ty) (values : List Value) → FitAll types values → length values ≡ length types
unfolding FitAll
fit_length [] [] h = refl
fit_length [] (v ∷ values) h = absurd h
fit_length (ty ∷ types) [] h = absurd h
fit_length (ty ∷ types) (v ∷ values) h = omega (arith, fit_length types values h.1)

-- the free values are those that stand there, where they fit
free_values-are : (list : List Value) (types : List Ty) (values : List Value) (n : ℕ) → FitAll types values → StandAt list n values → free_values list types n ≡ values
unfolding free_values FitAll
free_values-are list [] [] n h s = refl
free_values-are list [] (v ∷ values) n h s = absurd h
free_values-are list (ty ∷ types) [] n h s = absurd h
free_values-are list (ty ∷ types) (v ∷ values) n h s =
    let first : free list ty n ≡ v = ap (λ k. fitting ty (slice_get list k)) (omega arith) ∙ ap (fitting ty) (s 0 (omega arith)) ∙ fitting_is ty v h.0 in
    ap (λ x. x ∷ free_values list types (n + 1)) first
    ∙ ap (λ xs. v ∷ xs) (free_values-are list types values (n + 1) h.1 (λ k l. ap (slice_get list) (omega arith) ∙ s (suc k) (omega (arith, l))))

slice_get-take : {A : Type 0} (xs : List A) (n k : ℕ) → k < n → slice_get (take n xs) k ≡ slice_get xs k
slice_get-take [] zero k h = refl
slice_get-take [] (suc n) k h = refl
slice_get-take (x ∷ xs) zero k h = absurd (omega (arith, h))
slice_get-take (x ∷ xs) (suc n) zero h = refl
slice_get-take (x ∷ xs) (suc n) (suc k) h = slice_get-take xs n k (omega (arith, h))

-- the model whose symbols from a number on are these values
abbrev with_values : ℕ → Model → List Value → Model
with_values n m values = record { symbols = take n m.symbols ++ values; tables = m.tables }

with_agrees : (n : ℕ) (m : Model) (values : List Value) → n ≤ length m.symbols → AgreeBelow n m (with_values n m values)
with_agrees n m values h = record {
  symbols = λ k l. sym (slice_get-front (take n m.symbols) values k (omega (arith, l, length-take-le n m.symbols h)) ∙ slice_get-take m.symbols n k l);
  tables = refl;
}

with_stands : (n : ℕ) (m : Model) (values : List Value) → n ≤ length m.symbols → StandAt (with_values n m values).symbols n values
with_stands n m values h k l = ap (slice_get (take n m.symbols ++ values)) (omega (arith, length-take-le n m.symbols h)) ∙ slice_get-back (take n m.symbols) values k

abbrev count : Flat → ℕ
count f = length f.constants

-- after k steps all assumptions held, the cells are these, and so many free values were read
record Reaches (f : Flat) (n : Model) (k : ℕ) (end frees : List Value) : Type 0 where
  goes : (after f n k).goes ≡ true
  cells : (after f n k).cells ≡ end
  next : (after f n k).next ≡ count f + length frees

-- there are free values on which, wherever they follow the constants of the model, k steps lead to the cells
record FoundTo (f : Flat) (m : Model) (k : ℕ) (end : List Value) : Type 0 where
  frees : List Value
  ways : (n : Model) → AgreeBelow (count f) m n → StandAt n.symbols (count f) frees → Reaches f n k end frees

found_first : (f : Flat) (m : Model) (cells choices : List Value) (sites : List ℕ) → IsSound f → IsInitial f m cells choices sites → FoundTo f m 0 cells
unfolding started
found_first f m cells choices sites s i =
    let types = cell_types f in
    let w = runs_drawn m (init_types f) f.init (place (widened m types f.further i.firsts) i.rest i.others []) (place i.last [] [] sites) i.ends in
    record {
      frees = i.firsts ++ w.frees;
      ways = λ n agrees stands.
          let values = free_values-are n.symbols types i.firsts (count f) i.begins (front_stands n.symbols (count f) i.firsts w.frees stands) in
          let start = wider n types f.further (begun n.symbols types (count f)) in
          let begins : start.cells ≡ widened m types f.further i.firsts =
          ap (widened n types f.further) values ∙ sym (same_widened (count f) m n types i.firsts f.further agrees s.further_reads) in
          let later_stands = back_stands n.symbols (count f) (count f + length types) i.firsts w.frees (omega (arith, fit_length types i.firsts i.begins)) stands in
          let goes = w.ways n.symbols start later_stands begins refl refl in
          let same = same_drawn (count f) m n (init_types f) f.init n.symbols start s.init_reads agrees in
          record {
            goes = ap (λ (d : Drawn). d.goes) (after_zero f n) ∙ ap (λ (d : Drawn). d.goes) (sym same) ∙ goes.goes;
            cells = ap (λ (d : Drawn). d.cells) (after_zero f n) ∙ ap (λ (d : Drawn). take (length types) d.cells) (sym same) ∙ ap (take (length types)) goes.cells ∙ i.reaches;
            next =
                let e : (after f n 0).next ≡ count f + length types + all_draws f.init = ap (λ (d : Drawn). d.next) (after_zero f n) ∙ next_after n (init_types f) f.init n.symbols start in
                omega (arith, e, w.count, fit_length types i.firsts i.begins, length-append i.firsts w.frees);
          };
    }

found_next : (f : Flat) (m : Model) (k : ℕ) (old new choices : List Value) (sites : List ℕ) → IsSound f → FoundTo f m k old → IsStep f m old new choices sites → FoundTo f m (suc k) new
unfolding stepped
found_next f m k old new choices sites s h i =
    let types = cell_types f ++ cell_types f in
    let w = runs_drawn m types f.step (place (old ++ old) choices i.others []) (place i.last [] [] sites) i.ends in
    record {
      frees = h.frees ++ w.frees;
      ways = λ n agrees stands.
          let r = h.ways n agrees (front_stands n.symbols (count f) h.frees w.frees stands) in
          let start = doubled (after f n k) in
          let here = back_stands n.symbols (count f) (after f n k).next h.frees w.frees r.next stands in
          let goes = w.ways n.symbols start here (ap (λ cs. cs ++ cs) r.cells) r.goes refl in
          let same = same_drawn (count f) m n types f.step n.symbols start s.step_reads agrees in
          record {
            goes = ap (λ (d : Drawn). d.goes) (after_suc f n k) ∙ ap (λ (d : Drawn). d.goes) (sym same) ∙ goes.goes;
            cells = ap (λ (d : Drawn). d.cells) (after_suc f n k) ∙ ap (λ (d : Drawn). drop (length (cell_types f)) d.cells) (sym same) ∙ ap (drop (length (cell_types f))) goes.cells ∙ i.reaches;
            next =
                let e : (after f n (suc k)).next ≡ (after f n k).next + all_draws f.step = ap (λ (d : Drawn). d.next) (after_suc f n k) ∙ next_after n types f.step n.symbols start in
                omega (arith, e, r.next, w.count, length-append h.frees w.frees);
          };
    }

found_to : (f : Flat) (m : Model) (positions : List FlatPosition) → IsSound f → IsRun f m positions → (k : ℕ) → k < length positions → (p : FlatPosition) → slice_get positions k ≡ Some p → FoundTo f m k p.cells
found_to f m positions s run zero l p at = found_first f m p.cells p.choices p.sites s (run.begins p at)
found_to f m positions s run (suc k) l p at =
    let before = at_place positions k (omega (arith, l)) in
    let next : slice_get positions (k + 1) ≡ Some p = ap (slice_get positions) (add-one k) ∙ at in
    found_next f m k before.0.cells p.cells p.choices p.sites s (found_to f m positions s run k (omega (arith, l)) before.0 before.1) (run.goes_on k before.0 p before.1 next)

-- formulas have the same truth under models that agree on the constants and functions
same_holds : (f : Flat) (m n : Model) (x : Formula) (cells : List Value) → AgreeBelow (count f) m n → IsFormula f x → holds_in f x m cells ≡ holds_in f x n cells
same_holds f m n x cells a h = ap truth_of (same_value (count f) m n (repeated x.copies (cell_types f)) cells a x.condition h.reads)

same_axioms : (f : Flat) (m n : Model) (xs : List Formula) → AgreeBelow (count f) m n → All (IsFormula f) xs → list_all (λ x. holds_in f x m []) xs ≡ list_all (λ x. holds_in f x n []) xs
same_axioms f m n [] a h = refl
same_axioms f m n (x ∷ xs) a h =
    ap (λ b. b && list_all (λ y. holds_in f y m []) xs) (same_holds f m n x [] a (All-head (IsFormula f) x xs h))
    ∙ ap (λ b. holds_in f x n [] && b) (same_axioms f m n xs a (All-tail (IsFormula f) x xs h))

one_more : {A : Type 0} (P : A → Type 0) (y : A) (ys : List A) → P y → All P ys → All P (y ∷ ys)
one_more P y ys p q zero d l = p
one_more P y ys p q (suc k) d l = q k d (omega (arith, l))

take_all_of : {A : Type 0} (P : A → Type 0) (n : ℕ) (xs : List A) → All P xs → All P (take n xs)
take_all_of P zero [] h = h
take_all_of P (suc n) [] h = h
take_all_of P zero (x ∷ xs) h = λ k d l. absurd (omega (arith, l))
take_all_of P (suc n) (x ∷ xs) h = one_more P x (take n xs) (All-head P x xs h) (take_all_of P n xs (All-tail P x xs h))

pub found : (f : Flat) (x : Formula) (n : ℕ) (t : FlatTrace) → IsSound f → IsFormula f x → RefutesFlat f x n t → (m : Model) × (is_refuted f x m (after f m n) ≡ true)
found f x n t s h r =
    let long : count f ≤ length r.model.symbols =
    omega (arith, ap length r.constants.symbols, length-append t.constants r.constants.others, fit_length (constant_types f) t.constants r.constants.fit, length-map f.constants (λ c. c.ty)) in
    let within : n < length t.positions = omega (arith, r.steps) in
    let last = at_place t.positions n within in
    let w = found_to f r.model t.positions s r.run n within last.0 last.1 in
    let m = with_values (count f) r.model w.frees in
    let agrees = with_agrees (count f) r.model w.frees long in
    let here = w.ways m agrees (with_stands (count f) r.model w.frees long) in
    let axioms : axioms_hold f m ≡ true = sym (same_axioms f r.model m (axioms_of f) agrees (take_all_of (IsFormula f) f.axioms f.formulas s.formulas)) ∙ r.axioms in
    let fails : holds_in f x m (after f m n).cells ≡ false = ap (holds_in f x m) here.cells ∙ sym (same_holds f r.model m x last.0.cells agrees h) ∙ r.fails last.0 last.1 in
    (m, ap (λ b. b && ((after f m n).goes && not (holds_in f x m (after f m n).cells))) axioms ∙ ap (λ b. b && not (holds_in f x m (after f m n).cells)) here.goes ∙ ap not fails)
