use Rattle.std.proofs.Common.{◌≡◌, ap, ◌∙◌, sym, subst, refl, length, ◌≤◌, arith}
use Rattle.std.specs.Prelude.{IfOk}
use Rattle.uc_meaning.specs.declared.code.CodeEnd.TheVariants.{BadChoice}
use Rattle.uc_meaning.specs.Ends.{IsInitEndAt, first_unfit, cell_types}
use Rattle.uc_operators.specs.Overflows.{first_wide}
use Rattle.uc_evaluator.proofs.Told.{told_all}
use Rattle.uc_layout.proofs.Fits.{enough}
use Rattle.uc_executions.specs.Starts.{start_met_at}
use Rattle.uc_executions.proofs.Inits.{as_many_cells}
use Rattle.uc_executions.proofs.starts_entry.init_end.Goals as goal

pub init_from-requires-clause-cells : goal.init_from-requires-clause-cells
init_from-requires-clause-cells c = c.len.ensures ∙ as_many_cells c.args.layout.now c.in_ok-types.types (c.in_ok-types.ensures ∙ ap cell_types c.tables.ensures)

pub init_from-requires-clause-enough : goal.init_from-requires-clause-enough
init_from-requires-clause-enough c =
    let fits : length c.as_slice.result.now ≤ length c.args.choices.now = enough 0 c.as_slice.result.now c.args.choices.now (sym c.in-None.ensures) in
    let same : length c.as_slice.result.now ≡ length c.in_ok-types.types = ap length c.as_slice.ensures in
    omega (arith, fits, same)

pub returns-in-Some-clause-value : goal.returns-in-Some-clause-value
returns-in-Some-clause-value c =
    subst (IsInitEndAt c.args.layout.now c.args.interp.now c.args.choices.now (BadChoice c.in-Some.number))
    (c.in-Some.ensures ∙ ap (λ ts. first_unfit 0 ts c.args.choices.now) (c.as_slice.ensures ∙ c.in_ok-types.ensures ∙ ap cell_types c.tables.ensures))
    refl

pub returns-in-Some-clause-wide : goal.returns-in-Some-clause-wide
returns-in-Some-clause-wide c =
    ap (λ o. first_wide (start_met_at c.args.layout.now c.args.interp.now c.args.choices.now o))
    (sym (c.in-Some.ensures ∙ ap (λ ts. first_unfit 0 ts c.args.choices.now) (c.as_slice.ensures ∙ c.in_ok-types.ensures ∙ ap cell_types c.tables.ensures)))

pub returns-clause-value : goal.returns-clause-value
returns-clause-value c =
    subst (λ o. IfOk c.init_from.result (λ end. IsInitEndAt c.args.layout.now c.args.interp.now c.args.choices.now end o))
    (c.in-None.ensures ∙ ap (λ ts. first_unfit 0 ts c.args.choices.now) (c.as_slice.ensures ∙ c.in_ok-types.ensures ∙ ap cell_types c.tables.ensures))
    c.init_from.ensures.value

pub returns-clause-wide : goal.returns-clause-wide
returns-clause-wide c =
    told_all _ _ c.init_from.result
    (ap (start_met_at c.args.layout.now c.args.interp.now c.args.choices.now) (c.in-None.ensures ∙ ap (λ ts. first_unfit 0 ts c.args.choices.now) (c.as_slice.ensures ∙ c.in_ok-types.ensures ∙ ap cell_types c.tables.ensures)))
    c.init_from.ensures.wide
