-- The laws of inductions and unrollings.
use Rattle.std.proofs.Common.{◌≡◌, List, ◌++◌, refl, sym, subst, ℕ, suc, ◌+◌, ◌≤◌, ◌<◌, true, arith}
use Rattle.std.specs.List.{All}
use Rattle.uc_meaning.specs.declared.scope.Interp.{Interp}
use Rattle.uc_meaning.specs.declared.line.At.TheVariants.{Exactly, Base, Step}
use Rattle.uc_meaning.specs.Lookup.{System}
use Rattle.uc_meaning.specs.Cells.{instances}
use Rattle.uc_meaning.specs.Expressions.{is_true}
use Rattle.uc_meaning.specs.Steps.{scope_of}
use Rattle.uc_meaning.specs.Runs.{Position, IsAdmitted, IsRun, last_state, states_at, copies_scope, Always, HyperAlways}
use Rattle.uc_meaning.specs.Lines.{all_judged, step_sites, lines_at, lines_from, induction_lines, InvariantsIn, IsValid}
use Rattle.uc_laws.specs.Laws.{AreFound, invariants_of, hyperinvariants_of, InductionLaw, UnrollLaw}
use Rattle.uc_laws.proofs.Among.{among_left, among_right}
use Rattle.uc_laws.proofs.Judges.{all_among, among_all, line_for, line_among, line_after}
use Rattle.uc_laws.proofs.Paths.{found_holds}
use Rattle.uc_laws.proofs.Segments.{last_at, run_length}
use Rattle.uc_laws.proofs.Holding.{NoneAfter, NoneLinked, Invariants, HypersIn, Grounds, invariants_after, sites_after_run, hyper_after, all_invariants, all_sites_pass, all_hypers}

base_none : (system : System) (command depth : ℕ) → All (IsValid system) (induction_lines system command depth) → (t : ℕ) → t < depth → NoneAfter system t
base_none system command depth valid t less j in' i copies adm is fails =
    let first = lines_from system command Base 0 depth in
    let last = lines_at command (Step depth) (all_judged system (step_sites system)) in
    all_among (IsValid system) (first ++ last) (line_for command (Base t) j) valid
    (among_left (line_for command (Base t) j) first last (line_after system command Base depth 0 t j (omega arith) (omega arith) in'))
    (record { interp = i; copies = copies }) (record { admitted = adm; fails = record { runs = is; fails = fails } })

step_none : (system : System) (command depth : ℕ) → All (IsValid system) (induction_lines system command depth) → NoneLinked system command depth
step_none system command depth valid j in' i copies adm fails =
    let first = lines_from system command Base 0 depth in
    let last = lines_at command (Step depth) (all_judged system (step_sites system)) in
    all_among (IsValid system) (first ++ last) (line_for command (Step depth) j) valid
    (among_right (line_for command (Step depth) j) first last (line_among command (Step depth) j (all_judged system (step_sites system)) in'))
    (record { interp = i; copies = copies }) (record { admitted = adm; fails = fails })

pub grounds : (system : System) (command depth : ℕ) → AreFound system → 1 ≤ depth → All (IsValid system) (induction_lines system command depth) → Grounds system command depth
grounds system command depth are positive valid = record {
  found = are;
  positive = positive;
  base = base_none system command depth valid;
  step = step_none system command depth valid;
}

at_end : (system : System) (command depth : ℕ) → Grounds system command depth → (i : Interp) (run : List Position) → IsAdmitted system i → IsRun system i run → Invariants system i (last_state run)
at_end system command depth g i run adm is =
    let n = run_length system i run is in
    subst (Invariants system i) (sym (last_at run n.0 n.1)) (all_invariants system command depth g (suc n.0) n.0 (omega arith) i run adm is (omega arith))

pub induction_holds : InductionLaw
induction_holds system command depth apart positive valid =
    let g = grounds system command depth (found_holds system apart) positive valid in
    record {
      invariants = among_all (λ here. All (Always system here.path) (invariants_of here.code)) (instances system) (λ here in'.
          among_all (Always system here.path) (invariants_of here.code) (λ e has i run adm is.
          all_among (λ x. is_true system (scope_of i here.path (last_state run)) x ≡ true) (invariants_of here.code) e
          (all_among (InvariantsIn system i (last_state run)) (instances system) here (at_end system command depth g i run adm is) in') has));
      sites = λ site i run listed adm is.
          let n = run_length system i run (listed, is) in
          all_sites_pass system command depth g n.0 i run listed site adm is (omega arith);
      hyperinvariants = among_all (λ here. All (λ h. HyperAlways system here.path h.0 h.1) (hyperinvariants_of here.code)) (instances system) (λ here in'.
          among_all (λ h. HyperAlways system here.path h.0 h.1) (hyperinvariants_of here.code) (λ h has i steps copies adm is.
          all_among (λ x. x.0 ≡ h.0 → is_true system (copies_scope i here.path (states_at steps copies)) x.1 ≡ true) (hyperinvariants_of here.code) h
          (all_among (HypersIn system i h.0 (states_at steps copies)) (instances system) here (all_hypers system command depth g (suc steps) steps h.0 (omega arith) i copies adm is) in') has refl));
    }

exactly_none : (system : System) (command bound : ℕ) → All (IsValid system) (lines_from system command Exactly 0 (bound + 1)) → (t : ℕ) → t ≤ bound → NoneAfter system t
exactly_none system command bound valid t less j in' i copies adm is fails =
    all_among (IsValid system) (lines_from system command Exactly 0 (bound + 1)) (line_for command (Exactly t) j) valid
    (line_after system command Exactly (bound + 1) 0 t j (omega arith) (omega arith) in')
    (record { interp = i; copies = copies }) (record { admitted = adm; fails = record { runs = is; fails = fails } })

pub unroll_holds : UnrollLaw
unroll_holds system command bound apart valid =
    let are = found_holds system apart in
    record {
      invariants = λ i run adm is short.
          let n = run_length system i run is in
          subst (Invariants system i) (sym (last_at run n.0 n.1)) (invariants_after system n.0 are (exactly_none system command bound valid n.0 (omega arith)) i run adm is (omega arith));
      sites = λ i run listed site adm is short.
          let n = run_length system i run (listed, is) in
          sites_after_run system n.0 (exactly_none system command bound valid n.0 (omega arith)) i run listed site adm is (omega arith);
      hyperinvariants = λ i n steps copies adm is short. hyper_after system steps are (exactly_none system command bound valid steps short) i n copies adm is;
    }
