use Rattle.std.proofs.Common.{◌≡◌, sym, ap, ◌∙◌, subst, arith, length}
use Rattle.uc_solver.specs.Inputs.{AreBitValues}
use Rattle.uc_solver.specs.Symbols.{FitSymbols, HasValues}
use Rattle.uc_solver.proofs.Setting.{term_bits, symbols_fit, inputs_agree}
use Rattle.uc_solver.proofs.inputs.model_of_inputs.Goals as goal

pub words-requires-clause-bits : goal.words-requires-clause-bits
words-requires-clause-bits c = term_bits c.args.terms.now c.args.t c.args.atoms.now c.nodes-well_typed.ensures.well c.requires.lowered.there c.requires.opaque

pub model_of-requires-clause-fit : goal.model_of-requires-clause-fit
model_of-requires-clause-fit c =
    let read : AreBitValues c.args.terms.now c.in_ok-words.words.items c.in_ok-values.values.items = subst (λ ws. AreBitValues c.args.terms.now ws c.in_ok-values.values.items) c.as_slice.ensures.value c.in_ok-values.ensures in
    subst (FitSymbols c.args.terms.now c.args.t) (sym c.as_slice-2.ensures.value)
    (symbols_fit c.args.terms.now c.args.t c.args.atoms.now c.args.inputs.now (length c.args.atoms.now) c.in_ok-words.words.items c.in_ok-values.values.items c.nodes-well_typed.ensures.well c.requires.lowered c.in_ok-words.ensures read)

pub returns-clause-agrees : goal.returns-clause-agrees
returns-clause-agrees c =
    let read : AreBitValues c.args.terms.now c.in_ok-words.words.items c.in_ok-values.values.items = subst (λ ws. AreBitValues c.args.terms.now ws c.in_ok-values.values.items) c.as_slice.ensures.value c.in_ok-values.ensures in
    let has : HasValues c.in_ok-model.model c.args.terms.now c.args.t c.in_ok-values.values.items = subst (HasValues c.in_ok-model.model c.args.terms.now c.args.t) c.as_slice-2.ensures.value c.in_ok-model.ensures in
    inputs_agree c.in_ok-model.model c.args.terms.now c.args.t c.args.atoms.now c.args.inputs.now c.in_ok-words.words.items c.in_ok-values.values.items c.nodes-well_typed.ensures.well c.requires.lowered c.requires.opaque c.requires.long
    c.in_ok-words.ensures read has
