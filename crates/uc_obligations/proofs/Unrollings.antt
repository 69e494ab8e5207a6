-- The states after so many steps, while the table grows.
use Rattle.std.proofs.Common.{◌≡◌, ℕ, zero, suc, ◌+◌, ◌<◌, List, [], ◌∷◌, ◌++◌, length, refl, sym, ap, ◌∙◌, subst, arith, get_or, add-one, map}
use Rattle.std.specs.Prelude.{Bool as Truth, true, ◌&&◌}
use Rattle.std.specs.List.{list_all}
use Rattle.uc_values.specs.declared.ty.Ty.TheVariants.{Bool}
use Rattle.uc_values.specs.declared.value.Value.{Value}
use Rattle.uc_values.specs.declared.value.Value.TheVariants.{Bool as Boolean}
use Rattle.uc_values.specs.Values.{truth_of}
use Rattle.uc_ops.specs.declared.model.Model.{Model}
use Rattle.uc_ops.specs.declared.node.Node.{Node}
use Rattle.uc_flat.specs.declared.flat.Flat.{Flat}
use Rattle.uc_flat.specs.Flats.{cell_types}
use Rattle.uc_terms.specs.Values.{value}
use Rattle.uc_flat.specs.Drawn.{Drawn}
use Rattle.uc_flat.specs.Unrolled.{after_step, axioms_hold, holds_in}
use Rattle.uc_flat_copies.specs.declared.trace.Start.{Start}
use Rattle.uc_flat_copies.specs.Places.{begins_at, place, all_below}
use Rattle.uc_flat_copies.specs.Lines.{before_of, supposed_below}
use Rattle.uc_symstep.specs.declared.state.SymState.{SymState}
use Rattle.uc_symstep.specs.Growing.{Grows, IsTerm}
use Rattle.uc_symstep.specs.Stands.{holds, IsTruth}
use Rattle.uc_symstep.specs.Unrolled.{IsSeen, StartsAs, StepsAs}
use Rattle.uc_symstep.specs.Designs.{Unrolls}
use Rattle.uc_symstep.specs.Known.{ReadsOwnTypes}
use Rattle.uc_symstep.proofs.Grown.{grows_on, grows_value}
use Rattle.uc_symstep.proofs.Runs.{shows_grows, seen_grows, states_grow, unrolls_first, unrolls_more, last_state, goal_ready, truth_later}
use Rattle.uc_symstep.proofs.States.{truth_grows}
use Rattle.uc_obligations.specs.declared.unrolling.Unrolling.{Unrolling}
use Rattle.uc_obligations.specs.Unrolling.{Tells, KnowsLast, IsUnrolled, IsSimpler}
use Rattle.uc_obligations.proofs.Knowing.{last_grows}

pub unrolls_grow : (f : Flat) (start : Start) (first : ℕ) (old now new : List Node) (n : ℕ) (run : List SymState) (next : ℕ) → Grows now new → Unrolls f start first old now n run next → Unrolls f start first old new n run next
unrolls_grow f start first old now new n run next g u = record {
  grown = grows_on old now new u.grown g;
  states = states_grow now new f start first n run g u.states;
  last = λ s h m. shows_grows now new (cell_types f) s next g (u.states.each n s h).state m ∙ u.last s h m;
}

pub tells_grow : (old now new : List Node) (t : ℕ) (test : Model → Truth) → Grows now new → Tells old now t test → Tells old new t test
tells_grow old now new t test g h = record {
  grown = grows_on old now new h.grown g;
  truth = truth_grows now new t g h.truth;
  tells = λ m. ap truth_of (grows_value now new g m t h.truth.there) ∙ h.tells m;
}

pub unrolled_grows : (f : Flat) (now new : List Node) (n : ℕ) (u : Unrolling) → Grows now new → IsUnrolled f now n u → IsUnrolled f new n u
unrolled_grows f now new n u g h = record {
  begins = h.begins;
  axioms = h.axioms;
  assumed = tells_grow [] now new u.assumed (λ m. supposed_below f u.start m n) g h.assumed;
  run = unrolls_grow f u.start (length f.constants) h.begins now new n u.states u.fresh.next g h.run;
  known = λ reads. last_grows f now new n u g (h.known reads);
}

starts_simpler : (a b c : List Node) (f : Flat) (start : Start) (s t : SymState) (first n : ℕ) → StartsAs a b (cell_types f) (begins_at f start first) s n → IsSimpler b c (cell_types f) s t → StartsAs a c (cell_types f) (begins_at f start first) t n
starts_simpler a b c f start s t first n p q = record { grown = grows_on a b c p.grown q.grown; state = q.state; same = λ m. q.same m n ∙ p.same m }

steps_simpler : (a b c : List Node) (f : Flat) (r s t : SymState) (k n : ℕ) → StepsAs a b (cell_types f) (after_step f) r k s n → IsSimpler b c (cell_types f) s t → StepsAs a c (cell_types f) (after_step f) r k t n
steps_simpler a b c f r s t k n p q = record { grown = grows_on a b c p.grown q.grown; state = q.state; same = λ m. q.same m n ∙ p.same m }

-- What is assumed.

-- before the first state nothing is
pub assumed_first : (f : Flat) (start : Start) (old now : List Node) (t : ℕ) → IsTerm old now t Bool (λ m. Boolean true) → Tells [] now t (λ m. supposed_below f start m 0)
unfolding all_below
assumed_first f start old now t h = record { grown = record { more = now; is = refl }; truth = record { there = h.there; typed = h.typed }; tells = λ m. ap truth_of (h.means m) }

-- what a state shows of the cells after n steps
cells_there : (f : Flat) (now : List Node) (n : ℕ) (u : Unrolling) (run : List SymState) (s : SymState) → IsUnrolled f now n u → run ≡ u.states → s ≡ get_or run n s → (m : Model) → map (value m now) s.cells ≡ (place f u.start m n).cells
cells_there f now n u run s h i j m =
    ap (λ (d : Drawn). d.cells) (h.run.last s (last_state f u.start (length f.constants) h.begins now n u.fresh.next u.states run s h.run i j) m)

-- before the next one it is what was assumed before, and what is asked of the last state
pub assumed_more : (f : Flat) (now new : List Node) (n t : ℕ) (u : Unrolling) (run : List SymState) (s : SymState) → IsUnrolled f now n u → run ≡ u.states → s ≡ get_or run n s
    → Tells now new t (λ m. holds m now u.assumed && list_all (λ x. holds_in f x m (map (value m now) s.cells)) (before_of f u.start 1)) → Tells [] new t (λ m. supposed_below f u.start m (n + 1))
unfolding all_below
assumed_more f now new n t u run s h i j a = record {
  grown = grows_on [] now new (record { more = now; is = refl }) a.grown;
  truth = a.truth;
  tells = λ m.
      a.tells m
      ∙ ap (λ b. b && list_all (λ x. holds_in f x m (map (value m now) s.cells)) (before_of f u.start 1)) (h.assumed.tells m)
      ∙ ap (λ cs. supposed_below f u.start m n && list_all (λ x. holds_in f x m cs) (before_of f u.start 1)) (cells_there f now n u run s h i j m)
      ∙ ap (supposed_below f u.start m) (sym (add-one n));
}

pub assumed_ready : (f : Flat) (now : List Node) (n : ℕ) (u : Unrolling) → IsUnrolled f now n u → IsTruth now u.assumed
assumed_ready f now n u h = h.assumed.truth

-- the beginning
pub begun_is : (f : Flat) (start : Start) (old mid a b c : List Node) (assumed axioms first next : ℕ) (s t : SymState) (states : List SymState) → IsTerm old mid assumed Bool (λ m. Boolean true) → IsTerm mid a axioms Bool (λ m. Boolean (axioms_hold f m))
    → first ≡ length f.constants → StartsAs a b (cell_types f) (begins_at f start first) s next → IsSimpler b c (cell_types f) s t → states ≡ t ∷ []
    → (ReadsOwnTypes f → KnowsLast f c 0 (record { start = start; axioms = axioms; assumed = assumed; states = states; fresh = record { next = next } }))
    → IsUnrolled f c 0 (record { start = start; axioms = axioms; assumed = assumed; states = states; fresh = record { next = next } })
begun_is f start old mid a b c assumed axioms first next s t states z h i p q j k = record {
  begins = a;
  axioms = record { grown = record { more = a; is = refl }; there = h.there; typed = h.typed; means = h.means };
  assumed = tells_grow [] mid c assumed (λ m. supposed_below f start m 0) (grows_on mid a c h.grown (grows_on a b c p.grown q.grown)) (assumed_first f start old mid assumed z);
  run = unrolls_first f start (length f.constants) a c t next states (starts_simpler a b c f start s t (length f.constants) next (subst (λ n. StartsAs a b (cell_types f) (begins_at f start n) s next) i p) q) j;
  known = k;
}

-- a step more
pub advanced_is : (f : Flat) (now mid b c : List Node) (n next assumed : ℕ) (u : Unrolling) (run more : List SymState) (r s t : SymState) → IsUnrolled f now n u → run ≡ u.states → r ≡ get_or run n r
    → Tells now mid assumed (λ m. holds m now u.assumed && list_all (λ x. holds_in f x m (map (value m now) r.cells)) (before_of f u.start 1))
    → StepsAs mid b (cell_types f) (after_step f) r u.fresh.next s next → IsSimpler b c (cell_types f) s t → more ≡ u.states ++ t ∷ []
    → (ReadsOwnTypes f → KnowsLast f c (n + 1) (record { start = u.start; axioms = u.axioms; assumed = assumed; states = more; fresh = record { next = next } }))
    → IsUnrolled f c (n + 1) (record { start = u.start; axioms = u.axioms; assumed = assumed; states = more; fresh = record { next = next } })
advanced_is f now mid b c n next assumed u run more r s t h i j a p q e k =
    let here = unrolls_grow f u.start (length f.constants) h.begins now mid n u.states u.fresh.next a.grown h.run in
    record {
      begins = h.begins;
      axioms = h.axioms;
      assumed = tells_grow [] mid c assumed (λ m. supposed_below f u.start m (n + 1)) (grows_on mid b c p.grown q.grown) (assumed_more f now mid n assumed u run r h i j a);
      run = unrolls_more f u.start (length f.constants) h.begins mid c n u.fresh.next next u.states more run r t here i j (steps_simpler mid b c f r s t u.fresh.next next p q) e;
      known = k;
    }

pub state_within : (f : Flat) (now : List Node) (n : ℕ) (u : Unrolling) (run : List SymState) → IsUnrolled f now n u → run ≡ u.states → n < length run
state_within f now n u run h i = omega (arith, ap length i, h.run.states.count)

pub state_ready : (f : Flat) (now : List Node) (n : ℕ) (u : Unrolling) (run : List SymState) (s : SymState) → IsUnrolled f now n u → run ≡ u.states → s ≡ get_or run n s → IsSeen now (cell_types f) s
state_ready f now n u run s h i j = goal_ready h.begins now f u.start (length f.constants) n u.fresh.next u.states run s h.run i j

-- the same where terms were added
pub state_later : (f : Flat) (now new : List Node) (n : ℕ) (u : Unrolling) (run : List SymState) (s : SymState) → Grows now new → IsUnrolled f now n u → run ≡ u.states → s ≡ get_or run n s → IsSeen new (cell_types f) s
state_later f now new n u run s g h i j = seen_grows now new (cell_types f) s g (state_ready f now n u run s h i j)

pub axioms_ready : (f : Flat) (now : List Node) (n : ℕ) (u : Unrolling) → IsUnrolled f now n u → IsTruth now u.axioms
axioms_ready f now n u h = truth_later [] h.begins now u.axioms (λ m. Boolean (axioms_hold f m)) h.axioms h.run.grown
