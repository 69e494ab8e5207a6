-- What a run lists is among the sites of its last step, or of the initial code.
use Rattle.std.proofs.Common.{◌≡◌, List, [], ◌∷◌, sym, subst, ◌⊎◌, inl, inr, ℕ, zero, suc, length, take, drop, arith}
use Rattle.uc_values.specs.declared.value.Value.{Value}
use Rattle.uc_meaning.specs.declared.scope.Interp.{Interp}
use Rattle.uc_meaning.specs.declared.scope.State.{State}
use Rattle.uc_meaning.specs.declared.scope.Site.{Site}
use Rattle.uc_meaning.specs.Lookup.{System}
use Rattle.uc_meaning.specs.Cells.{cells_of}
use Rattle.uc_meaning.specs.Steps.{watched_first, main_next, IsStep, IsInitial, scope_of, state_of}
use Rattle.uc_meaning.specs.Runs.{Position, Continues, IsRunListing}
use Rattle.uc_meaning.specs.Lines.{sites_in, step_sites, init_sites, sites_after}
use Rattle.uc_laws.proofs.Among.{Among}
use Rattle.uc_laws.proofs.CheckForms.{Holds, block_lists}
use Rattle.uc_laws.proofs.Sites.{Lists, order_keeps, init_lists}

no_left : {A : Type 0} → ⊥ ⊎ A → A
no_left (inl h) = elim h [ ]
no_left (inr a) = a

step_listed : (system : System) (i : Interp) (old new : State) (choices : List Value) (sites : List Site) → IsStep system i old new choices sites → (s : Site) → Among s sites → Among s (step_sites system)
unfolding step_sites
step_listed system i old new choices sites step s in' =
    let g = subst (Holds [] [] (sites_in system (main_next system) [])) step.holds (block_lists system (main_next system) (watched_first i old new choices)) in
    order_keeps system s (sites_in system (main_next system) []) (no_left (g.listed s (subst (Among s) (sym step.lists) in')))

begin_listed : (system : System) (i : Interp) (s0 : State) (choices : List Value) (sites : List Site) → IsInitial system i s0 choices sites → (s : Site) → Among s sites → Among s (init_sites system)
begin_listed system i s0 choices sites begins s in' =
    let l = subst (Lists [] (init_sites system)) begins.ends (init_lists system (record { scope = scope_of i [] (state_of (take (length (cells_of system)) choices)); sites = []; left = drop (length (cells_of system)) choices })) in
    no_left (l s (subst (Among s) (sym begins.lists) in'))

continues_listed : (system : System) (i : Interp) (s0 : State) (sites : List Site) (p : Position) (ps : List Position) (listed : List Site) → Continues system i s0 sites (p ∷ ps) listed →
    (s : Site) → Among s listed → Among s (step_sites system)
unfolding Continues
continues_listed system i s0 sites p [] listed (is, next, step, rest) s in' = step_listed system i s0 p.0 p.1 next step s (subst (Among s) rest in')
continues_listed system i s0 sites p (q ∷ ps) listed (is, next, step, rest) s in' = continues_listed system i p.0 next q ps listed rest s in'

pub run_listed : (system : System) (i : Interp) (run : List Position) (listed : List Site) (steps : ℕ) → IsRunListing system i run listed → length run ≡ suc steps →
    (s : Site) → Among s listed → Among s (sites_after system steps)
unfolding IsRunListing Continues
run_listed system i [] listed steps h e s in' = elim h [ ]
run_listed system i (p ∷ []) listed zero (is, first, begins, rest) e s in' = begin_listed system i p.0 p.1 first begins s (subst (Among s) rest in')
run_listed system i (p ∷ []) listed (suc k) h e s in' = absurd (omega arith)
run_listed system i (p ∷ (q ∷ ps)) listed zero h e s in' = absurd (omega arith)
run_listed system i (p ∷ (q ∷ ps)) listed (suc k) (is, first, begins, rest) e s in' = continues_listed system i p.0 first q ps listed rest s in'
