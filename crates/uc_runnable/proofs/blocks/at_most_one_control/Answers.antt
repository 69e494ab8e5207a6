use Rattle.std.proofs.Common.{nat_le, ap, ◌∙◌}
use Rattle.uc_meaning.specs.Fragment.{is_control}
use Rattle.uc_runnable.proofs.Once.{counted_once}
use Rattle.uc_runnable.proofs.blocks.at_most_one_control.Goals as goal

pub returns : goal.returns
returns c = ap (λ n. nat_le n 1) c.count_control.ensures ∙ counted_once is_control c.args.decls.now
