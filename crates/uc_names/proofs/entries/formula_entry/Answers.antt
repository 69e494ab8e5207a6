use Rattle.std.proofs.Common.{ap, sym}
use Rattle.uc_rules.specs.Names.{formula_name}
use Rattle.uc_names.proofs.entries.formula_entry.Goals as goal

pub returns-in-None : goal.returns-in-None
returns-in-None c = λ ms. sym (ap formula_name c.in-None.is)

pub returns-in-Some : goal.returns-in-Some
returns-in-Some c = λ ms. sym (ap formula_name c.in-Some.is)
