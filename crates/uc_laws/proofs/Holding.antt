-- From lines that are valid to what holds in all runs.
use Rattle.std.proofs.Common.{◌≡◌, List, [], ◌∷◌, map, Some, refl, ap, ◌∙◌, sym, subst, inl, inr, ℕ, zero, suc, ◌+◌, ◌-◌, ◌≤◌, ◌<◌, length, take, drop, Bool, true, false, arith}
use Rattle.std.specs.Prelude.{◌&&◌, nat_eq, nat_lt}
use Rattle.std.specs.List.{All}
use Rattle.std.proofs.lemmas.Bool.{cases_lt, eqb-true}
use Rattle.std.proofs.lemmas.List.{length-take-le, length-map, length-drop}
use Rattle.std.proofs.lemmas.List.Elements.{All-nil, All-cons, All-map, All-weaker}
use Rattle.uc_syntax.specs.declared.expression.Expr.{Expr}
use Rattle.uc_meaning.specs.declared.scope.Interp.{Interp}
use Rattle.uc_meaning.specs.declared.scope.State.{State}
use Rattle.uc_meaning.specs.declared.scope.Site.{Site}
use Rattle.uc_meaning.specs.declared.line.At.TheVariants.{Step}
use Rattle.uc_meaning.specs.declared.line.What.TheVariants.{Formula, AtSite}
use Rattle.uc_meaning.specs.Lookup.{System}
use Rattle.uc_meaning.specs.Cells.{InstanceAt, instances}
use Rattle.uc_meaning.specs.Expressions.{is_true}
use Rattle.uc_meaning.specs.Steps.{scope_of}
use Rattle.uc_meaning.specs.Runs.{Position, IsAdmitted, IsRun, IsRunListing, lists_site, position_at, states_at, copies_scope, of_arity, AreInStep, HyperaxiomsAt}
use Rattle.uc_meaning.specs.Lines.{Judged, all_judged, sites_after, step_sites, IsFalseAt, FailsAt, FailsInduction, AreLinked, InvariantsIn, HyperinvariantsIn, formula_of}
use Rattle.uc_laws.specs.Laws.{AreFound, invariants_of, hyperinvariants_of}
use Rattle.uc_laws.proofs.Among.{Among}
use Rattle.uc_laws.proofs.Sites.{site_among}
use Rattle.uc_laws.proofs.Judges.{all_among, among_all, invariant_judges, hyper_judges, site_judged, line_for}
use Rattle.uc_laws.proofs.Segments.{run_front, run_end, segment, linked_cleared, linked_listing, length-segment, segment_at, segment_states, front_at, front_states, single, in_step_front}
use Rattle.uc_laws.proofs.Listings.{run_listed}

-- nothing that is judged fails after just so many steps
abbrev pub NoneAfter : System → ℕ → Type 0
NoneAfter system steps =
    (j : Judged) → Among j (all_judged system (sites_after system steps)) → (i : Interp) (copies : List (List Position)) → IsAdmitted system i →
    AreInStep system i j.1 steps copies → FailsAt system i copies steps (IsRunListing system i) j.0 → ⊥

-- nothing that is judged fails at the end of linked states
abbrev pub NoneLinked : System → ℕ → ℕ → Type 0
NoneLinked system command depth =
    (j : Judged) → Among j (all_judged system (step_sites system)) → (i : Interp) (copies : List (List Position)) → IsAdmitted system i →
    FailsInduction system (line_for command (Step depth) j) depth i copies → ⊥

-- all invariants in a state, and all hyperinvariants of n states
abbrev pub Invariants : System → Interp → State → Type 0
Invariants system i s = All (InvariantsIn system i s) (instances system)

abbrev pub HypersIn : System → Interp → ℕ → List State → InstanceAt → Type 0
HypersIn system i n states here = All (λ h. h.0 ≡ n → is_true system (copies_scope i here.path states) h.1 ≡ true) (hyperinvariants_of here.code)

abbrev pub Hyperinvariants : System → Interp → ℕ → List State → Type 0
Hyperinvariants system i n states = All (HypersIn system i n states) (instances system)

unless_false : (b : Bool) → (b ≡ false → ⊥) → b ≡ true
unless_false true h = refl
unless_false false h = absurd (h refl)

unless_true : (b : Bool) → (b ≡ true → ⊥) → b ≡ false
unless_true true h = absurd (h refl)
unless_true false h = refl

one : {X : Type 0} (P : X → Type 0) (x : X) → P x → All P (x ∷ [])
one P x p = All-cons P x [] p (All-nil P)

both : (a b : Bool) → (a && b) ≡ true → (a ≡ true) × (b ≡ true)
both true b e = (refl, e)
both false b e = absurd (cc)

-- all invariants hold in a state where none of them fails there
invariants_unless : (system : System) (i : Interp) (sites : List Site) (s : State) → AreFound system →
    ((path : List ℕ) (n : ℕ) (e : Expr) → Among (Formula path n, 1) (all_judged system sites) → formula_of system path n ≡ Some (false, e) → is_true system (scope_of i path s) e ≡ false → ⊥) →
    Invariants system i s
invariants_unless system i sites s are never =
    among_all (InvariantsIn system i s) (instances system) (λ here in'.
    among_all (λ e. is_true system (scope_of i here.path s) e ≡ true) (invariants_of here.code) (λ e has.
    let j = invariant_judges system sites here e are in' has in
    unless_false (is_true system (scope_of i here.path s) e) (never here.path j.number e j.among j.is)))

hyper_unless : (system : System) (i : Interp) (sites : List Site) (n : ℕ) (states : List State) → AreFound system →
    ((path : List ℕ) (k : ℕ) (e : Expr) → Among (Formula path k, n) (all_judged system sites) → formula_of system path k ≡ Some (true, e) → is_true system (copies_scope i path states) e ≡ false → ⊥) →
    Hyperinvariants system i n states
hyper_unless system i sites n states are never =
    among_all (HypersIn system i n states) (instances system) (λ here in'.
    among_all (λ h. h.0 ≡ n → is_true system (copies_scope i here.path states) h.1 ≡ true) (hyperinvariants_of here.code) (λ h has same.
    let j = hyper_judges system sites here h are in' has in
    unless_false (is_true system (copies_scope i here.path states) h.1)
    (never here.path j.number h.1 (subst (λ m. Among (Formula here.path j.number, m) (all_judged system sites)) same j.among) j.is)))

-- the hyperinvariants that a step line takes
taken_hypers : (system : System) (i : Interp) (n : ℕ) (states : List State) → Hyperinvariants system i n states → All (HyperinvariantsIn system i n states) (instances system)
taken_hypers system i n states all =
    All-weaker (HypersIn system i n states) (HyperinvariantsIn system i n states)
    (λ here hs. All-weaker (λ h. h.0 ≡ n → is_true system (copies_scope i here.path states) h.1 ≡ true) (λ h. of_arity n h ≡ true → is_true system (copies_scope i here.path states) h.1 ≡ true)
    (λ h f of'. f (eqb-true h.0 n (both (nat_lt 1 n) (nat_eq h.0 n) of').1)) (hyperinvariants_of here.code) hs)
    (instances system) all

-- a single state has no hyperinvariants that a step line takes
lone_hypers : (system : System) (i : Interp) (states : List State) → All (HyperinvariantsIn system i 1 states) (instances system)
lone_hypers system i states k d less m e less' of' = absurd (cc)

-- after just so many steps
pub invariants_after : (system : System) (steps : ℕ) → AreFound system → NoneAfter system steps → (i : Interp) (run : List Position) → IsAdmitted system i → IsRun system i run → length run ≡ steps + 1 →
    Invariants system i (position_at steps run).0
invariants_after system steps are none i run adm is e =
    invariants_unless system i (sites_after system steps) (position_at steps run).0 are (λ path n formula among' found' fails.
    none (Formula path n, 1) among' i (run ∷ []) adm (single system i steps run is e)
    (subst (IsFalseAt system i path (run ∷ []) steps) (sym found') (one (λ r. is_true system (scope_of i path (position_at steps r).0) formula ≡ false) run fails)))

pub sites_after_run : (system : System) (steps : ℕ) → NoneAfter system steps → (i : Interp) (run : List Position) (listed : List Site) (site : Site) → IsAdmitted system i → IsRunListing system i run listed → length run ≡ steps + 1 →
    lists_site listed site ≡ false
sites_after_run system steps none i run listed site adm is e =
    unless_true (lists_site listed site) (λ lists.
    none (AtSite site, 1) (site_judged system (sites_after system steps) site (run_listed system i run listed steps is (omega arith) site (site_among site listed lists))) i (run ∷ []) adm
    (single system i steps run (listed, is) e)
    (one (λ r. (l : List Site) × IsRunListing system i r l × (lists_site l site ≡ true)) run (listed, is, lists)))

pub hyper_after : (system : System) (steps : ℕ) → AreFound system → NoneAfter system steps → (i : Interp) (n : ℕ) (copies : List (List Position)) → IsAdmitted system i → AreInStep system i n steps copies →
    Hyperinvariants system i n (states_at steps copies)
hyper_after system steps are none i n copies adm is =
    hyper_unless system i (sites_after system steps) n (states_at steps copies) are (λ path k formula among' found' fails.
    none (Formula path k, n) among' i copies adm is (subst (IsFalseAt system i path copies steps) (sym found') fails))

-- the last states of copies, where all before satisfy what a step line takes
segments : (system : System) (command depth steps : ℕ) (j : Judged) (i : Interp) (copies : List (List Position)) → depth ≤ steps → AreInStep system i j.1 steps copies →
    ((k : ℕ) → k < steps → All (λ run. Invariants system i (position_at k run).0) copies) →
    ((k : ℕ) → k < steps → All (HyperinvariantsIn system i j.1 (states_at k copies)) (instances system)) →
    FailsAt system i (map (segment (steps - depth)) copies) depth (AreLinked system i) j.0 →
    FailsInduction system (line_for command (Step depth) j) depth i (map (segment (steps - depth)) copies)
segments system command depth steps j i copies low is invariants hypers fails =
    let m = steps - depth in
    record {
      copied = record {
        number = length-map copies (segment m) ∙ is.copied.number;
        even = All-map (λ r. length r ≡ depth + 1) (segment m) copies (All-weaker (λ r. length r ≡ steps + 1) (λ r. length (segment m r) ≡ depth + 1) (λ r e. length-segment m (depth + 1) r (omega arith)) copies is.copied.even);
      };
      linked = All-map (λ r. (listed : List Site) × AreLinked system i r listed) (segment m) copies (among_all (λ r. (listed : List Site) × AreLinked system i (segment m r) listed) copies (λ r in'.
          let run = all_among (IsRun system i) copies r is.runs in' in
          let e = all_among (λ r. length r ≡ steps + 1) copies r is.copied.even in' in
          linked_cleared system i (drop m r) run.0 (run_end system i m r run.0 run.1 (omega arith))));
      invariants = λ k less. subst (All (Invariants system i)) (sym (segment_states m k copies)) (All-map (Invariants system i) (λ run. (position_at (m + k) run).0) copies (invariants (m + k) (omega arith)));
      hyperinvariants = λ k less. subst (λ states. All (HyperinvariantsIn system i j.1 states) (instances system)) (sym (segment_states m k copies)) (hypers (m + k) (omega arith));
      hyperaxioms = λ k less. subst (HyperaxiomsAt system i j.1) (sym (segment_states m k copies)) (is.agree (m + k) (omega arith));
      fails = fails;
    }

-- What an induction's valid lines give.
pub record Grounds (system : System) (command depth : ℕ) : Type 0 where
  pub found : AreFound system
  pub positive : 1 ≤ depth
  pub base : (t : ℕ) → t < depth → NoneAfter system t
  pub step : NoneLinked system command depth

invariants_linked : (system : System) (command depth : ℕ) → Grounds system command depth → (steps : ℕ) (i : Interp) (run : List Position) → IsAdmitted system i → IsRun system i run → length run ≡ steps + 1 → depth ≤ steps →
    ((t : ℕ) → t < steps → Invariants system i (position_at t run).0) → Invariants system i (position_at steps run).0
invariants_linked system command depth g steps i run adm is e low earlier =
    let m = steps - depth in
    let at : (position_at depth (segment m run)).0 ≡ (position_at steps run).0 = segment_at m depth run ∙ ap (λ k. (position_at k run).0) (omega arith) in
    invariants_unless system i (step_sites system) (position_at steps run).0 g.found (λ path n formula among' found' fails.
    g.step (Formula path n, 1) among' i (map (segment m) (run ∷ [])) adm
    (segments system command depth steps (Formula path n, 1) i (run ∷ []) low (single system i steps run is e)
    (λ t less. one (λ r. Invariants system i (position_at t r).0) run (earlier t less))
    (λ t less. lone_hypers system i (states_at t (run ∷ [])))
    (subst (IsFalseAt system i path (segment m run ∷ []) depth) (sym found')
    (one (λ r. is_true system (scope_of i path (position_at depth r).0) formula ≡ false) (segment m run) (subst (λ s. is_true system (scope_of i path s) formula ≡ false) (sym at) fails)))))

-- all invariants at each position of a run
pub all_invariants : (system : System) (command depth : ℕ) → Grounds system command depth → (n k : ℕ) → k < n → (i : Interp) (run : List Position) → IsAdmitted system i → IsRun system i run → k < length run →
    Invariants system i (position_at k run).0
all_invariants system command depth g zero k less i run adm is within = absurd (omega arith)
all_invariants system command depth g (suc n) k less i run adm is within =
    let front = take (suc k) run in
    let is' = run_front system i k run is in
    let e : length front ≡ suc k = length-take-le (suc k) run (omega arith) in
    subst (λ p. Invariants system i p.0) (front_at (suc k) k run (omega arith)) (elim (cases_lt k depth) [
      | inl low ↦ invariants_after system k g.found (g.base k low) i front adm is' (omega arith)
      | inr high ↦ invariants_linked system command depth g k i front adm is' (omega arith) high (λ t less'. all_invariants system command depth g n t (omega arith) i front adm is' (omega arith))
    ])

sites_linked : (system : System) (command depth : ℕ) → Grounds system command depth → (steps : ℕ) (i : Interp) (run : List Position) (listed : List Site) (site : Site) → IsAdmitted system i → IsRunListing system i run listed →
    length run ≡ steps + 1 → depth ≤ steps → Among site (step_sites system) → lists_site listed site ≡ false
sites_linked system command depth g steps i run listed site adm is e low in' =
    let m = steps - depth in
    let positive = g.positive in
    let size : length (drop m run) ≡ length run - m = length-drop m run in
    unless_true (lists_site listed site) (λ lists.
    g.step (AtSite site, 1) (site_judged system (step_sites system) site in') i (map (segment m) (run ∷ [])) adm
    (segments system command depth steps (AtSite site, 1) i (run ∷ []) low (single system i steps run (listed, is) e)
    (λ t less. one (λ r. Invariants system i (position_at t r).0) run (all_invariants system command depth g (suc t) t (omega arith) i run adm (listed, is) (omega arith)))
    (λ t less. lone_hypers system i (states_at t (run ∷ [])))
    (one (λ r. (l : List Site) × AreLinked system i r l × (lists_site l site ≡ true)) (segment m run)
    (listed, linked_listing system i (drop m run) listed (run_end system i m run listed is (omega arith)) (omega arith), lists))))

-- no run lists any site
pub all_sites_pass : (system : System) (command depth : ℕ) → Grounds system command depth → (steps : ℕ) (i : Interp) (run : List Position) (listed : List Site) (site : Site) → IsAdmitted system i → IsRunListing system i run listed →
    length run ≡ steps + 1 → lists_site listed site ≡ false
all_sites_pass system command depth g steps i run listed site adm is e = elim (cases_lt steps depth) [
  | inl low ↦ sites_after_run system steps (g.base steps low) i run listed site adm is e
  | inr high ↦ unless_true (lists_site listed site) (λ lists. sure (lists_site listed site) lists
      (sites_linked system command depth g steps i run listed site adm is e high (after_step steps (g.positive) high (run_listed system i run listed steps is (omega arith) site (site_among site listed lists)))))
]
  where
    sure : (b : Bool) → b ≡ true → b ≡ false → ⊥
    sure b p q = absurd (cc)

    after_step : (steps' : ℕ) → 1 ≤ depth → depth ≤ steps' → Among site (sites_after system steps') → Among site (step_sites system)
    after_step zero pos high h = absurd (omega arith)
    after_step (suc k) pos high h = h

hypers_linked : (system : System) (command depth : ℕ) → Grounds system command depth → (steps n : ℕ) (i : Interp) (copies : List (List Position)) → IsAdmitted system i → AreInStep system i n steps copies → depth ≤ steps →
    ((t : ℕ) → t < steps → Hyperinvariants system i n (states_at t copies)) → Hyperinvariants system i n (states_at steps copies)
hypers_linked system command depth g steps n i copies adm is low earlier =
    let m = steps - depth in
    let at : states_at depth (map (segment m) copies) ≡ states_at steps copies = segment_states m depth copies ∙ ap (λ k. states_at k copies) (omega arith) in
    hyper_unless system i (step_sites system) n (states_at steps copies) g.found (λ path k formula among' found' fails.
    g.step (Formula path k, n) among' i (map (segment m) copies) adm
    (segments system command depth steps (Formula path k, n) i copies low is
    (λ t less. among_all (λ r. Invariants system i (position_at t r).0) copies (λ r in'.
    let e = all_among (λ r. length r ≡ steps + 1) copies r is.copied.even in' in
    all_invariants system command depth g (suc t) t (omega arith) i r adm (all_among (IsRun system i) copies r is.runs in') (omega arith)))
    (λ t less. taken_hypers system i n (states_at t copies) (earlier t less))
    (subst (IsFalseAt system i path (map (segment m) copies) depth) (sym found') (subst (λ states. is_true system (copies_scope i path states) formula ≡ false) (sym at) fails))))

-- all hyperinvariants at the end of runs in step
pub all_hypers : (system : System) (command depth : ℕ) → Grounds system command depth → (bound steps n : ℕ) → steps < bound → (i : Interp) (copies : List (List Position)) → IsAdmitted system i → AreInStep system i n steps copies →
    Hyperinvariants system i n (states_at steps copies)
all_hypers system command depth g zero steps n less i copies adm is = absurd (omega arith)
all_hypers system command depth g (suc bound) steps n less i copies adm is = elim (cases_lt steps depth) [
  | inl low ↦ hyper_after system steps g.found (g.base steps low) i n copies adm is
  | inr high ↦ hypers_linked system command depth g steps n i copies adm is high (λ t less'.
      subst (Hyperinvariants system i n) (front_states (suc t) t copies (omega arith))
      (all_hypers system command depth g bound t n (omega arith) i (map (take (suc t)) copies) adm (in_step_front system i n steps t copies is (omega arith))))
]
