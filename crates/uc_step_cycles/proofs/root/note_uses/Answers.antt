use Rattle.std.proofs.Common.{ap, subst, sym, ◌∙◌}
use Rattle.uc_rules.specs.Faults.{first_of}
use Rattle.uc_step_cycles.specs.Blocks.{KnowsTree}
use Rattle.uc_step_cycles.specs.Noted.{noted_all}
use Rattle.uc_step_cycles.proofs.Same.{all_noted}
use Rattle.uc_step_cycles.proofs.root.note_uses.Goals as goal

pub returns : goal.returns
returns c = λ s root cells uses graph.
    let n = c.args.names.now in
    let blocks = c.as_slice-known.result.now in
    let knows : KnowsTree n.tree.now blocks = subst (KnowsTree n.tree.now) (sym c.as_slice-known.ensures) c.in_ok-blocks.ensures in
    c.note_blocks.ensures
    ∙ ap (λ fs. first_of c.args.first.now (noted_all n fs blocks)) c.as_slice.ensures
    ∙ all_noted s n c.args.uses.now blocks c.in_ok-flags.flags root cells uses graph knows c.in_ok-flags.ensures c.args.first.now
