use Rattle.uc_symstep.specs.Known.{supply_from}
use Rattle.uc_flat_lines.proofs.Gathering.{all_unrefuted}
use Rattle.uc_flat_lines.proofs.joint.none_refuted.Goals as goal

pub has_no_model-requires-clause-there : goal.has_no_model-requires-clause-there
has_no_model-requires-clause-there c = c.in-Ok.ensures.truth.there

pub has_no_model-requires-clause-boolean : goal.has_no_model-requires-clause-boolean
has_no_model-requires-clause-boolean c = c.in-Ok.ensures.truth.typed

pub has_no_model-requires-clause-known : goal.has_no_model-requires-clause-known
has_no_model-requires-clause-known c = (supply_from c.args.f.now c.args.run.now.start c.args.steps, c.in-Ok.ensures.known c.requires.own)

pub returns-in-Ok-clause-unrefuted : goal.returns-in-Ok-clause-unrefuted
returns-in-Ok-clause-unrefuted c = λ is. all_unrefuted c.args.f.now c.args.run.now.start c.args.steps _ c.in-Ok.any c.in-Ok.ensures.hit (c.has_no_model.ensures is)
