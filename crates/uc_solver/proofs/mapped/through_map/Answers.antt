use Rattle.std.proofs.Common.{◌≡◌, sym, ap, ◌∙◌, subst, arith, length}
use Rattle.uc_solver.specs.Symbols.{FitSymbols, HasValues}
use Rattle.uc_solver.specs.Codes.{AreRead}
use Rattle.uc_solver.proofs.Reading.{read_fits, goes_back}
use Rattle.uc_solver.proofs.mapped.through_map.Goals as goal

pub model_of-requires-clause-fit : goal.model_of-requires-clause-fit
model_of-requires-clause-fit c =
    let read : AreRead c.args.terms.now c.in_ok-codes.codes.items c.in_ok-values.values.items = subst (λ cs. AreRead c.args.terms.now cs c.in_ok-values.values.items) c.as_slice.ensures.value c.in_ok-values.ensures in
    subst (FitSymbols c.args.terms.now c.args.t) (sym c.as_slice-2.ensures.value) (read_fits c.args.terms.now c.args.t c.in_ok-codes.codes.items c.in_ok-values.values.items c.nodes-well_typed.ensures.well c.requires.there read)

pub returns : goal.returns
returns c =
    let read : AreRead c.args.terms.now c.in_ok-codes.codes.items c.in_ok-values.values.items = subst (λ cs. AreRead c.args.terms.now cs c.in_ok-values.values.items) c.as_slice.ensures.value c.in_ok-values.ensures in
    let has : HasValues c.in_ok-found.found c.args.terms.now c.args.t c.in_ok-values.values.items = subst (HasValues c.in_ok-found.found c.args.terms.now c.args.t) c.as_slice-2.ensures.value c.in_ok-found.ensures in
    goes_back c.in_ok-found.found c.args.model.now c.args.terms.now c.args.t c.args.pairs.now c.in_ok-codes.codes.items c.in_ok-values.values.items c.nodes-well_typed.ensures.well c.requires.there c.in_ok-codes.ensures read has
