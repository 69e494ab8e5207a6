-- A run on free values under which a formula is refuted gives a trace.
use Rattle.std.proofs.Common.{◌≡◌, ℕ, ◌+◌, ◌<◌, ◌≤◌, List, [], ◌∷◌, ◌++◌, length, Some, refl, sym, ap, ◌∙◌, subst, arith, slice_get, zero, suc, add-one, inl, inr}
use Rattle.std.specs.Prelude.{Bool as Truth, true, false, not, ◌&&◌}
use Rattle.std.proofs.lemmas.Bool.Decides.{leb_tells}
use Rattle.uc_values.proofs.Shapes.{and_true}
use Rattle.uc_ops.specs.declared.model.Model.{Model}
use Rattle.uc_flat.specs.declared.flat.Flat.{Flat}
use Rattle.uc_flat.specs.declared.flat.Formula.{Formula}
use Rattle.uc_flat.specs.Drawn.{Drawn}
use Rattle.uc_flat.specs.Flats.{cell_types, IsSound}
use Rattle.uc_flat.specs.Unrolled.{doubled, seen, stepped, initial, after_step, holds_in, axioms_hold, is_refuted}
use Rattle.uc_flat.specs.Executions.{IsInitial, IsStep}
use Rattle.uc_flat.proofs.Choosing.{drawn_runs}
use Rattle.uc_flat.proofs.Executing.{initial_is, step_is}
use Rattle.uc_flat.specs.declared.trace.FlatPosition.{FlatPosition}
use Rattle.uc_flat.specs.declared.trace.FlatTrace.{FlatTrace}
use Rattle.uc_flat.specs.Traces.{HasConstants, RefutesFlat}
use Rattle.uc_flat.specs.FlatTracesLaws.{after, IsPositionOf, ArePositions}

pub after_zero : (f : Flat) (m : Model) → after f m 0 ≡ initial f (length f.constants) m
unfolding seen
after_zero f m = refl

pub after_suc : (f : Flat) (m : Model) (k : ℕ) → after f m (suc k) ≡ after_step f m (after f m k)
unfolding seen
after_suc f m k = refl

-- where all assumptions hold after a step, they held before it
went : (f : Flat) (m : Model) (r : Drawn) → IsSound f → (after_step f m r).goes ≡ true → r.goes ≡ true
unfolding stepped
went f m r s g = (drawn_runs m (cell_types f ++ cell_types f) m.symbols f.step (doubled r) s.step refl g).went

pub went_to : (f : Flat) (m : Model) → IsSound f → (n k : ℕ) → k ≤ n → (after f m n).goes ≡ true → (after f m k).goes ≡ true
went_to f m s zero k l g = let e : 0 ≡ k = omega (arith, l) in subst (λ i. (after f m i).goes ≡ true) e g
went_to f m s (suc n) k l g =
    elim (leb_tells k n) [
      | inl x ↦ went_to f m s n k x.1 (went f m (after f m n) s (ap (λ (d : Drawn). d.goes) (sym (after_suc f m n)) ∙ g))
      | inr x ↦ let e : suc n ≡ k = omega (arith, l, x.1) in subst (λ i. (after f m i).goes ≡ true) e g
    ]

initial_as : (f : Flat) (m : Model) (r : Drawn) (p : FlatPosition) → IsPositionOf r p → IsInitial f m r.cells r.chosen r.sites → IsInitial f m p.cells p.choices p.sites
initial_as f m r p a h =
    subst (IsInitial f m p.cells p.choices) a.sites (subst (λ cs. IsInitial f m p.cells cs r.sites) a.choices (subst (λ cs. IsInitial f m cs r.chosen r.sites) a.cells h))

step_as : (f : Flat) (m : Model) (r s : Drawn) (p q : FlatPosition) → IsPositionOf r p → IsPositionOf s q → IsStep f m r.cells s.cells s.chosen s.sites → IsStep f m p.cells q.cells q.choices q.sites
step_as f m r s p q a b h =
    subst (IsStep f m p.cells q.cells q.choices) b.sites
    (subst (λ cs. IsStep f m p.cells q.cells cs s.sites) b.choices (subst (λ cs. IsStep f m p.cells cs s.chosen s.sites) b.cells (subst (λ cs. IsStep f m cs s.cells s.chosen s.sites) a.cells h)))

some_within : {A : Type 0} (xs : List A) (k : ℕ) (x : A) → slice_get xs k ≡ Some x → k < length xs
some_within [] k x h = cc
some_within (y ∷ xs) zero x h = omega arith
some_within (y ∷ xs) (suc k) x h = omega (arith, some_within xs k x h)

not_true : (b : Truth) → not b ≡ true → b ≡ false
not_true false h = refl
not_true true h = cc

pub refutes : (f : Flat) (x : Formula) (n : ℕ) (m : Model) (t : FlatTrace) → IsSound f → HasConstants f t.constants m → ArePositions f m n t.positions
    → is_refuted f x m (after f m n) ≡ true → RefutesFlat f x n t
refutes f x n m t s c a h =
    let one : (axioms_hold f m ≡ true) × (((after f m n).goes && not (holds_in f x m (after f m n).cells)) ≡ true) = and_true h in
    let two : ((after f m n).goes ≡ true) × (not (holds_in f x m (after f m n).cells) ≡ true) = and_true one.1 in
    let goes : (k : ℕ) (p : FlatPosition) → slice_get t.positions k ≡ Some p → (after f m k).goes ≡ true = λ k p at.
    went_to f m s n k (omega (arith, some_within t.positions k p at, a.count)) two.0 in
    record {
      model = m;
      constants = c;
      axioms = one.0;
      run = record {
        begins = λ p at.
            initial_as f m (initial f (length f.constants) m) p (subst (λ d. IsPositionOf d p) (after_zero f m) (a.each 0 p at))
            (initial_is f m (length f.constants) s (ap (λ (d : Drawn). d.goes) (sym (after_zero f m)) ∙ goes 0 p at));
        goes_on = λ k p q at next.
            let e : k + 1 ≡ suc k = add-one k in
            let later = subst (λ i. slice_get t.positions i ≡ Some q) e next in
            step_as f m (after f m k) (after_step f m (after f m k)) p q (a.each k p at) (subst (λ d. IsPositionOf d q) (after_suc f m k) (a.each (suc k) q later))
            (step_is f m (after f m k) s (ap (λ (d : Drawn). d.goes) (sym (after_suc f m k)) ∙ goes (suc k) q later));
      };
      steps = a.count;
      fails = λ p at. ap (holds_in f x m) (sym (a.each n p at).cells) ∙ not_true (holds_in f x m (after f m n).cells) two.1;
    }
