use Rattle.uc_uses.proofs.KeptModulesKept.{rules_keep_modules}
use Rattle.uc_uses.proofs.kept_modules.rules_keep_modules.Goals as goal

pub returns : goal.returns
returns c = rules_keep_modules
