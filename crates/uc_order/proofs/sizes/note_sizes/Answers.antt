use Rattle.std.proofs.Common.{ap, ◌∙◌}
use Rattle.uc_meaning.specs.Lookup.{System}
use Rattle.uc_rules.specs.Faults.{first_of}
use Rattle.uc_order_rules.specs.Order.{loop_faults, enum_faults}
use Rattle.uc_statement_rules.proofs.Noted.{on_ok}
use Rattle.uc_order.proofs.Whole.{none_told, noted_whole}
use Rattle.uc_order.proofs.sizes.note_sizes.Goals as goal

pub returns : goal.returns
returns c =
    on_ok c.note_whole.result
    (λ judged ends before. noted_whole c.args.names.now c.args.first.now c.note_loops.new.first c.note_enums.new.first c.note_whole.new.first c.is_none-is_acyclic.result c.is_none-is_bounded.result before
    (none_told _ _ c.is_none-is_acyclic.ensures)
    (c.note_loops.ensures ∙ ap (λ (s : System). first_of c.args.first.now (loop_faults s)) c.system.ensures)
    (none_told _ _ c.is_none-is_bounded.ensures)
    (c.in_ok-note_enums.ensures ∙ ap (λ (s : System). first_of c.note_loops.new.first (enum_faults s)) c.system.ensures)
    (judged ends))
    c.note_whole.ensures
