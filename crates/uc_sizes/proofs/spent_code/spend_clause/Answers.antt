use Rattle.std.proofs.Common.{ap}
use Rattle.uc_lookup.specs.Parts.{system_in}
use Rattle.uc_sizes.proofs.Spending.{spends_none}
use Rattle.uc_sizes.specs.Levels.{clause_size}
use Rattle.uc_sizes.proofs.spent_code.spend_clause.Goals as goal

pub returns-in-Ensures : goal.returns-in-Ensures
returns-in-Ensures c = spends_none _ _ (ap (clause_size (system_in c.args.system.now) c.args.path.now) c.in-Ensures.is)

pub returns-in-Modifies : goal.returns-in-Modifies
returns-in-Modifies c = spends_none _ _ (ap (clause_size (system_in c.args.system.now) c.args.path.now) c.in-Modifies.is)
