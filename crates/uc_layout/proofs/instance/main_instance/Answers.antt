use Rattle.std.proofs.Common.{ap, ◌∙◌}
use Rattle.uc_layout.proofs.Listed.{main_is, main_at}
use Rattle.uc_layout.proofs.instance.main_instance.Goals as goal

pub returns : goal.returns
returns c = ap (main_at c.args.code.now) c.new.ensures ∙ main_is c.args.code.now
