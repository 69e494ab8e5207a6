use Rattle.std.proofs.Common.{◌≡◌, Some, false, ap, ◌∙◌, sym, subst}
use Rattle.std.specs.Prelude.{IfOk, slice_index_or}
use Rattle.uc_values.specs.declared.value.Value.TheVariants.{Bool as truth_value}
use Rattle.uc_meaning.specs.Expressions.{state_in, in_cell}
use Rattle.uc_type_reader.proofs.Picked.{stands_in}
use Rattle.uc_readings.specs.Scopes.{scope_in}
use Rattle.uc_readings.proofs.meant.cell_value.Goals as goal

pub returns-in-Some : goal.returns-in-Some
returns-in-Some c =
    subst (λ w. IfOk c.value_at.result (λ v. v ≡ w))
    (ap (λ xs. slice_index_or xs c.in-Some.place (truth_value false)) c.as_slice.ensures
    ∙ sym (stands_in c.state_in-state.result.now.cells c.in-Some.place (truth_value false))
    ∙ ap (λ state. in_cell state (Some c.in-Some.place)) c.state_in-state.ensures
    ∙ ap (in_cell (state_in (scope_in c.args.scope.now) c.args.is_primed)) c.in-Some.ensures)
    c.value_at.ensures
