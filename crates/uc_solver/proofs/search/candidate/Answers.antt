use Rattle.std.proofs.Common.{◌≡◌, ◌∙◌, sym, ap, subst, All, length}
use Rattle.std.specs.Option.{option_copied}
use Rattle.uc_blast.specs.Blasting.{IsOpaqueBit}
use Rattle.uc_learner.specs.Learners.{valuation}
use Rattle.uc_solver.proofs.Candidates.{opened_candidate, candidate_bits, atoms_long, candidate_model}
use Rattle.uc_solver.proofs.search.candidate.Goals as goal

pub model_of_inputs-requires-clause-opaque : goal.model_of_inputs-requires-clause-opaque
model_of_inputs-requires-clause-opaque g c =
    let p = c.in-Some.problem.now in
    let v = valuation c.args.learner.now.values in
    let k = opened_candidate c.args.terms.now c.args.u _ v p c.requires.candidate (sym (ap option_copied c.in-Some.is) ∙ c.problem.ensures) in
    subst (All (IsOpaqueBit c.args.terms.now c.args.u)) (sym c.atoms.ensures.atoms) (candidate_bits c.args.terms.now c.args.u p v k).opaque

pub model_of_inputs-requires-clause-long : goal.model_of_inputs-requires-clause-long
model_of_inputs-requires-clause-long g c =
    let p = c.in-Some.problem.now in
    let v = valuation c.args.learner.now.values in
    let k = opened_candidate c.args.terms.now c.args.u _ v p c.requires.candidate (sym (ap option_copied c.in-Some.is) ∙ c.problem.ensures) in
    atoms_long c.args.terms.now c.args.u p v c.atoms.result.now c.circuit.result.now c.in_ok-inputs-in-Some.inputs.items k c.atoms.ensures.atoms c.circuit.ensures.circuit c.in_ok-inputs-in-Some.ensures ∙ ap length (sym c.as_slice.ensures.value)

pub returns : goal.returns
returns g c =
    let p = c.in-Some.problem.now in
    let v = valuation c.args.learner.now.values in
    let k = opened_candidate c.args.terms.now c.args.u _ v p c.requires.candidate (sym (ap option_copied c.in-Some.is) ∙ c.problem.ensures) in
    candidate_model c.args.terms.now c.args.u p v c.in_ok-model-in-Some.model c.atoms.result.now c.circuit.result.now c.as_slice.result.now k c.atoms.ensures.atoms c.circuit.ensures.circuit
    (c.as_slice.ensures.value ∙ c.in_ok-inputs-in-Some.ensures) c.in_ok-model-in-Some.ensures.agrees c.in_ok-model-in-Some.ensures.fits
