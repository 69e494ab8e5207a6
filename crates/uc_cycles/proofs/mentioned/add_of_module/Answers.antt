use Rattle.std.proofs.Common.{◌≡◌, None, subst}
use Rattle.uc_meaning.specs.Lookup.{System, module_named}
use Rattle.uc_rules.specs.Cycles.{name_of_module}
use Rattle.uc_cycles.proofs.Forms.{adds_nothing}
use Rattle.uc_cycles.proofs.Steps.{no_other}
use Rattle.uc_cycles.proofs.mentioned.add_of_module.Goals as goal

pub returns-in-None : goal.returns-in-None
returns-in-None c =
    adds_nothing c.args.numbers.now c.args.needs.now (name_of_module c.args.name (module_named c.args.homes.now c.args.owner)) (no_other c.args.homes.now c.args.name c.args.owner (subst (λ (s : System). None ≡ module_named s c.args.owner) c.design.ensures c.in-None.ensures))
