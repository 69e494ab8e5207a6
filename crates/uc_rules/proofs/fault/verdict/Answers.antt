use Rattle.std.proofs.Common.{◌∙◌, sym}
use Rattle.uc_rules.proofs.Orders.{kept_is_first, nothing_kept}
use Rattle.uc_rules.proofs.fault.verdict.Goals as goal

pub returns-in-Some : goal.returns-in-Some
returns-in-Some c = λ fs is. kept_is_first fs c.in-Some.fault (sym is ∙ c.in-Some.is)

pub returns-in-None : goal.returns-in-None
returns-in-None c = λ fs is. nothing_kept fs (sym is ∙ c.in-None.is)
