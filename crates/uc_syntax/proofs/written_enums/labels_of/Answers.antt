use Rattle.std.proofs.Common.{◌∙◌, sym}
use Rattle.uc_syntax.proofs.Added.{added_end}
use Rattle.uc_syntax.proofs.Labels.{labels_of_modules}
use Rattle.uc_syntax.proofs.written_enums.labels_of.Goals as goal

pub returns : goal.returns
returns c = added_end _ _ _ _ _ c.loop-module.invariant c.loop-module-test.false ∙ sym (labels_of_modules c.args.modules.now)
