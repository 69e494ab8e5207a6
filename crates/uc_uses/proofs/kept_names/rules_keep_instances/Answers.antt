use Rattle.uc_uses.proofs.KeptNamesKept.{rules_keep_instances}
use Rattle.uc_uses.proofs.kept_names.rules_keep_instances.Goals as goal

pub returns : goal.returns
returns c = rules_keep_instances
