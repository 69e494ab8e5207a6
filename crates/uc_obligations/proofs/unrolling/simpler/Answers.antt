use Rattle.std.proofs.Common.{◌∙◌, ap, map, length, slice_index, arith}
use Rattle.uc_obligations.proofs.Terms.{answers_within, same_cells, path_answer, simpler_state}
use Rattle.uc_obligations.proofs.Knowing.{state_known}
use Rattle.uc_obligations.proofs.unrolling.simpler.Goals as goal

pub answer_at-path-requires : goal.answer_at-path-requires
answer_at-path-requires c = omega (arith, c.requires.path.there, c.in_ok-answers.ensures.answers.size, ap length c.as_slice-all.ensures.value)

pub chosen-requires : goal.chosen-requires
chosen-requires c =
    rw c.as_slice-all.ensures.value (answers_within _ _ _ c.args.state.cells _ c.in_ok-answers.ensures.answers c.requires.cells.there c.as_slice.ensures)

pub returns-clause-ok : goal.returns-clause-ok
returns-clause-ok c =
    simpler_state _ _ _ _ _ _ _ _ c.requires c.as_slice.ensures
    (same_cells _ _ c.in_ok-answers.answers.items c.args.state.cells _ _ c.in_ok-answers.ensures.answers c.requires.cells.there c.as_slice.ensures (c.in_ok-cells.ensures ∙ ap (λ xs. map (slice_index xs) c.as_slice.result.now) c.as_slice-all.ensures.value))
    (path_answer _ _ c.in_ok-answers.answers.items c.args.state.path _ c.in_ok-answers.ensures.answers c.requires.path.there (c.answer_at-path.ensures ∙ ap (λ xs. slice_index xs c.args.state.path) c.as_slice-all.ensures.value))

pub returns-clause-known : goal.returns-clause-known
returns-clause-known c = λ supply next h.
    state_known supply _ _ _ c.args.state c.in_ok-answers.answers.items _ _ _ next c.len-well.ensures.well c.in_ok-answers.ensures.answers c.requires c.as_slice.ensures
    (c.in_ok-cells.ensures ∙ ap (λ xs. map (slice_index xs) c.as_slice.result.now) c.as_slice-all.ensures.value)
    (c.answer_at-path.ensures ∙ ap (λ xs. slice_index xs c.args.state.path) c.as_slice-all.ensures.value) h
