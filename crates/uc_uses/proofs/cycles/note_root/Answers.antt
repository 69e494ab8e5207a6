use Rattle.std.proofs.Common.{subst, ◌∙◌}
use Rattle.uc_graph.specs.Cycles.{MarksCycles}
use Rattle.uc_uses.proofs.Judging.{all_noted}
use Rattle.uc_uses.proofs.cycles.note_root.Goals as goal

pub returns : goal.returns
returns c = λ s k knows at known.
    let r = c.in_ok-uses.ensures s k knows at in
    c.note_flagged.ensures
    ∙ all_noted s known k c.args.root.now at c.in_ok-uses.uses.tree c.in_ok-uses.uses.table r.tree r.table c.in_ok-flags.flags (subst (λ g. MarksCycles g c.in_ok-flags.flags) (c.uses.ensures ∙ r.graph) c.in_ok-flags.ensures) c.args.first.now
