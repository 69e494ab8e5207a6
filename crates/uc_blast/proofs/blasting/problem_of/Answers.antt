use Rattle.std.specs.Prelude.{length}
use Rattle.std.proofs.Common.{ap, ◌∙◌}
use Rattle.uc_circuit.proofs.Pushing.{if_ok-weaker}
use Rattle.uc_blast.proofs.Problems.{goal-within, atoms-count, stands, constant-value, constant-stands, constant-inputs}
use Rattle.uc_blast.proofs.blasting.problem_of.Goals as goal

pub of-requires-clause-goal : goal.of-requires-clause-goal
of-requires-clause-goal c = goal-within c.args.terms.now c.args.t c.in_ok-blasted.blasted.atoms.items c.in_ok-blasted.blasted.circuit c.in_ok-blasted.blasted.goal c.in-Of.literal c.in_ok-blasted.ensures c.in-Of.is

pub of-requires-clause-atoms : goal.of-requires-clause-atoms
of-requires-clause-atoms c =
    ap length c.from_vec.ensures ∙ atoms-count c.args.terms.now c.args.t c.in_ok-blasted.blasted.atoms.items c.in_ok-blasted.blasted.circuit c.in_ok-blasted.blasted.goal c.in_ok-blasted.ensures

pub returns-in-Of-clause-stands : goal.returns-in-Of-clause-stands
returns-in-Of-clause-stands c =
    stands c.args.terms.now c.args.t c.in_ok-blasted.blasted.atoms.items c.from_vec.result c.in_ok-blasted.blasted.circuit c.in_ok-blasted.blasted.goal c.in-Of.literal c.of.result
    c.in_ok-blasted.ensures c.in-Of.is c.from_vec.ensures c.of.ensures

pub returns-in-Constant-clause-stands : goal.returns-in-Constant-clause-stands
returns-in-Constant-clause-stands c =
    let value = constant-value c.args.terms.now c.args.t c.in_ok-blasted.blasted.atoms.items c.in_ok-blasted.blasted.circuit c.in_ok-blasted.blasted.goal c.in-Constant.constant c.in_ok-blasted.ensures c.in-Constant.is in
    if_ok-weaker _ _ _ (λ q e. constant-stands c.args.terms.now c.args.t c.in-Constant.constant q value e) c.constant_problem.ensures

pub returns-in-Constant-clause-inputs : goal.returns-in-Constant-clause-inputs
returns-in-Constant-clause-inputs c =
    let value = constant-value c.args.terms.now c.args.t c.in_ok-blasted.blasted.atoms.items c.in_ok-blasted.blasted.circuit c.in_ok-blasted.blasted.goal c.in-Constant.constant c.in_ok-blasted.ensures c.in-Constant.is in
    if_ok-weaker _ _ _ (λ q e. constant-inputs c.args.terms.now c.args.t c.in-Constant.constant q value e) c.constant_problem.ensures
