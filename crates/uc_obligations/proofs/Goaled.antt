-- From the terms of a state to the goal of a formula, and to the traces that its models tell.
use Rattle.std.proofs.Common.{◌≡◌, ℕ, ◌<◌, ◌≤◌, List, [], ◌∷◌, ◌++◌, length, length-append, Some, refl, sym, ap, ◌∙◌, subst, arith, get_or, slice_get, zero, suc}
use Rattle.std.specs.Prelude.{Bool as Truth, true, false, not, ◌&&◌, map, nat_le}
use Rattle.std.proofs.lemmas.Bool.Decides.{nat_tests}
use Rattle.uc_values.specs.declared.ty.Ty.TheVariants.{Bool}
use Rattle.uc_values.specs.declared.value.Value.{Value}
use Rattle.uc_values.specs.declared.value.Value.TheVariants.{Bool as Boolean}
use Rattle.uc_values.specs.Values.{truth_of}
use Rattle.uc_ops.specs.declared.model.Model.{Model}
use Rattle.uc_ops.specs.declared.node.Node.{Node}
use Rattle.uc_terms.specs.Values.{value}
use Rattle.uc_flat.specs.declared.flat.Flat.{Flat}
use Rattle.uc_flat.specs.declared.flat.Formula.{Formula}
use Rattle.uc_flat.specs.Drawn.{Drawn}
use Rattle.uc_flat.specs.Flats.{IsSound, IsFormula}
use Rattle.uc_flat.specs.Unrolled.{holds_in, axioms_hold}
use Rattle.uc_symstep.specs.declared.state.SymState.{SymState}
use Rattle.uc_symstep.specs.Growing.{Grows, IsTerm}
use Rattle.uc_ops.proofs.Lists.{at_place}
use Rattle.uc_symstep.specs.Stands.{holds, IsTruth}
use Rattle.uc_symstep.proofs.Grown.{grows_value}
use Rattle.uc_symstep.proofs.Runs.{last_state}
use Rattle.uc_flat.specs.declared.trace.FlatPosition.{FlatPosition}
use Rattle.uc_flat.specs.Traces.{HasConstants}
use Rattle.uc_flat_copies.specs.declared.trace.FlatCopies.{FlatCopies}
use Rattle.uc_flat_copies.specs.declared.trace.Start.{Start}
use Rattle.uc_flat_copies.specs.Traces.{RefutesCopies}
use Rattle.uc_flat_copies.specs.Places.{place}
use Rattle.uc_flat_copies.specs.Laws.{ArePlaces}
use Rattle.uc_flat_copies.specs.Lines.{line_over, supposed_below, is_refuted_at}
use Rattle.uc_flat_copies.proofs.Single.{found_alone, refutes_alone}
use Rattle.uc_obligations.specs.declared.unrolling.Unrolling.{Unrolling}
use Rattle.uc_obligations.specs.Unrolling.{IsUnrolled}
use Rattle.uc_obligations.specs.Reading.{position_read, IsTraceOf}
use Rattle.uc_obligations.specs.Goals.{IsGoal, IsObligation}
use Rattle.uc_obligations.proofs.Read.{positions_are}

abbrev Refuted : Flat → Formula → List Node → Unrolling → SymState → Model → Value
Refuted f x nodes u s m = Boolean (holds m nodes u.axioms && (holds m nodes s.path && (holds m nodes u.assumed && not (holds_in f x m (map (value m nodes) s.cells)))))

pub goal_means : (f : Flat) (x : Formula) (n : ℕ) (now new : List Node) (u : Unrolling) (run : List SymState) (s : SymState) (goal : ℕ) → IsUnrolled f now n u → run ≡ u.states → s ≡ get_or run n s
    → IsTerm now new goal Bool (Refuted f x now u s) → IsGoal f u.start x n new goal
goal_means f x n now new u run s goal h i j t m =
    let r = h.run in
    let own = last_state f u.start (length f.constants) h.begins now n u.fresh.next u.states run s r i j in
    t.means m
    ∙ ap (λ v. Boolean (truth_of v && (holds m now s.path && (holds m now u.assumed && not (holds_in f x m (map (value m now) s.cells)))))) (grows_value h.begins now r.grown m u.axioms h.axioms.there ∙ h.axioms.means m)
    ∙ ap (λ b. Boolean (axioms_hold f m && (holds m now s.path && (b && not (holds_in f x m (map (value m now) s.cells)))))) (h.assumed.tells m)
    ∙ ap (λ (d : Drawn). Boolean (axioms_hold f m && (d.goes && (supposed_below f u.start m n && not (holds_in f x m d.cells))))) (r.last s own m)

formula_sound : (f : Flat) (k : ℕ) (x : Formula) → IsSound f → k < length f.formulas → slice_get f.formulas k ≡ Some x → IsFormula f x
formula_sound f k x s l at = subst (IsFormula f) (get_is f.formulas k x at) (s.formulas k x l)
  where
    get_is : (xs : List Formula) (j : ℕ) (y : Formula) → slice_get xs j ≡ Some y → get_or xs j y ≡ y
    get_is [] j y e = cc
    get_is (z ∷ xs) zero y e = cc
    get_is (z ∷ xs) (suc j) y e = get_is xs j y e

abbrev pub Refutes : Flat → ℕ → List Node → List Node → Unrolling → SymState → ℕ → Type 0
Refutes f k now new u s goal = (x : Formula) → slice_get f.formulas k ≡ Some x → IsTerm now new goal Bool (Refuted f x now u s)

pub goal_there : (f : Flat) (k : ℕ) (now new : List Node) (u : Unrolling) (s : SymState) (goal : ℕ) → k < length f.formulas → Refutes f k now new u s goal → IsTruth new goal
goal_there f k now new u s goal l t = let x = at_place f.formulas k l in let b = t x.0 x.1 in record { there = b.there; typed = b.typed }

pub goal_grown : (f : Flat) (k : ℕ) (now new : List Node) (u : Unrolling) (s : SymState) (goal : ℕ) → k < length f.formulas → Refutes f k now new u s goal → Grows now new
goal_grown f k now new u s goal l t = let x = at_place f.formulas k l in (t x.0 x.1).grown

pub goal_all : (f : Flat) (k n : ℕ) (now new : List Node) (u : Unrolling) (run : List SymState) (s : SymState) (goal : ℕ) → IsUnrolled f now n u → run ≡ u.states → s ≡ get_or run n s → Refutes f k now new u s goal
    → (x : Formula) → slice_get f.formulas k ≡ Some x → IsGoal f u.start x n new goal
goal_all f k n now new u run s goal h i j t x at = goal_means f x n now new u run s goal h i j (t x at)

-- The positions of a run.

position : Flat → Start → Model → ℕ → FlatPosition
position f start m k = let r : Drawn = place f start m k in record { cells = r.cells; choices = r.chosen; sites = r.sites }

unfoldable positions : Flat → Start → Model → ℕ → List FlatPosition
positions f start m zero = []
positions f start m (suc n) = positions f start m n ++ position f start m n ∷ []

positions_count : (f : Flat) (start : Start) (m : Model) (n : ℕ) → length (positions f start m n) ≡ n
unfolding positions
positions_count f start m zero = refl
positions_count f start m (suc n) = omega (arith, length-append (positions f start m n) (position f start m n ∷ []), positions_count f start m n)

in_front : (xs : List FlatPosition) (x p : FlatPosition) (k : ℕ) → k < length xs → slice_get (xs ++ x ∷ []) k ≡ Some p → slice_get xs k ≡ Some p
in_front [] x p k l h = absurd (omega (arith, l))
in_front (y ∷ xs) x p zero l h = h
in_front (y ∷ xs) x p (suc k) l h = in_front xs x p k (omega (arith, l)) h

at_end : (xs : List FlatPosition) (x p : FlatPosition) (k : ℕ) → length xs ≤ k → slice_get (xs ++ x ∷ []) k ≡ Some p → (k ≡ length xs) × (x ≡ p)
at_end [] x p zero l h = (refl, (let e : Some x ≡ Some p = h in cc))
at_end [] x p (suc k) l h = cc
at_end (y ∷ xs) x p zero l h = absurd (omega (arith, l))
at_end (y ∷ xs) x p (suc k) l h = let r = at_end xs x p k (omega (arith, l)) h in (omega (arith, r.0), r.1)

position_is : (f : Flat) (start : Start) (m : Model) (n k : ℕ) (p : FlatPosition) → ((at : slice_get (positions f start m n) k ≡ Some p) → position f start m k ≡ p) → slice_get (positions f start m n ++ position f start m n ∷ []) k ≡ Some p
    → (b : Truth) → nat_le (length (positions f start m n)) k ≡ b → position f start m k ≡ p
position_is f start m n k p before h true e =
    let le : length (positions f start m n) ≤ k = grind (arith, nat_tests, e) in
    let r = at_end (positions f start m n) (position f start m n) p k le h in
    ap (position f start m) (r.0 ∙ positions_count f start m n) ∙ r.1
position_is f start m n k p before h false e =
    let l : k < length (positions f start m n) = grind (arith, nat_tests, e) in
    before (in_front (positions f start m n) (position f start m n) p k l h)

positions_each : (f : Flat) (start : Start) (m : Model) (n k : ℕ) (p : FlatPosition) → slice_get (positions f start m n) k ≡ Some p → position f start m k ≡ p
unfolding positions
positions_each f start m zero k p h = cc
positions_each f start m (suc n) k p h = position_is f start m n k p (positions_each f start m n k p) h (nat_le (length (positions f start m n)) k) refl

positions_placed : (f : Flat) (start : Start) (m : Model) (n : ℕ) → ArePlaces f start n m (positions f start m (suc n))
unfolding position
positions_placed f start m n = record {
  count = omega (arith, positions_count f start m (suc n));
  each = λ k p at.
      let e = positions_each f start m (suc n) k p at in
      record { cells = ap (λ (q : FlatPosition). q.cells) e; choices = ap (λ (q : FlatPosition). q.choices) e; sites = ap (λ (q : FlatPosition). q.sites) e };
}

-- the models of a goal are the refuting traces
pub obligation : (f : Flat) (start : Start) (k n : ℕ) (x : Formula) (nodes : List Node) (goal : ℕ) → IsSound f → k < length f.formulas → slice_get f.formulas k ≡ Some x → x.copies ≡ 1 → IsGoal f start x n nodes goal → IsObligation f start x n nodes goal
obligation f start k n x nodes goal s l at single g = record {
  found = λ t r.
      let m = found_alone f start n x t s (formula_sound f k x s l at) single r in
      (m.0, ap truth_of (g m.0) ∙ m.1);
  refutes = λ m constants c h.
      let ps = positions f start m (suc n) in
      let t : FlatCopies = record { constants = constants; copies = ps ∷ [] } in
      (t, refl, refutes_alone f start n x m constants ps s single c (positions_placed f start m n) (sym (ap truth_of (g m)) ∙ h));
}

pub obligation_all : (f : Flat) (start : Start) (k n : ℕ) (nodes : List Node) (goal : ℕ) → IsSound f → k < length f.formulas → ((x : Formula) → slice_get f.formulas k ≡ Some x → x.copies ≡ 1)
    → ((x : Formula) → slice_get f.formulas k ≡ Some x → IsGoal f start x n nodes goal) → (x : Formula) → slice_get f.formulas k ≡ Some x → IsObligation f start x n nodes goal
obligation_all f start k n nodes goal s l single g x at = obligation f start k n x nodes goal s l at (single x at) (g x at)

-- the trace of a model that makes the goal true refutes the formula
pub trace_refutes : (f : Flat) (x : Formula) (n : ℕ) (now : List Node) (u : Unrolling) (run : List SymState) (goal : ℕ) (t : FlatCopies) → IsSound f → IsUnrolled f now n u → run ≡ u.states → IsTraceOf f now goal run t → x.copies ≡ 1
    → IsGoal f u.start x n now goal → RefutesCopies f (line_over f u.start n x) t
trace_refutes f x n now u run goal t s h i r single g =
    let ps = map (position_read r.values) run in
    let placed = positions_are f u.start r.model n now r.values u.states ps h.run.states r.are (ap (map (position_read r.values)) i) in
    subst (λ cs. RefutesCopies f (line_over f u.start n x) (record { constants = t.constants; copies = cs })) (sym r.copies)
    (refutes_alone f u.start n x r.model t.constants ps s single r.constants placed (sym (ap truth_of (g r.model)) ∙ r.goal_true))

-- a goal stays one where terms are added
pub goal_grows : (f : Flat) (start : Start) (x : Formula) (n : ℕ) (old new : List Node) (goal : ℕ) → Grows old new → goal < length old → IsGoal f start x n old goal → IsGoal f start x n new goal
goal_grows f start x n old new goal grown l g m = grows_value old new grown m goal l ∙ g m
