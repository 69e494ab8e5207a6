use Rattle.std.proofs.Common.{◌∙◌}
use Rattle.uc_lookup.proofs.Found.{first_instance}
use Rattle.uc_lookup.proofs.instances.instance_of.Goals as goal

pub returns : goal.returns
returns c = c.first_instance.ensures ∙ first_instance c.args.name c.args.decls.now
