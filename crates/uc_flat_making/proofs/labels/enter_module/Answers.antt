use Rattle.std.proofs.Common.{sym, ap, ◌∙◌}
use Rattle.uc_meaning.specs.Lookup.{module_named}
use Rattle.uc_flat_making.proofs.Entered.{module_none, module_some}
use Rattle.uc_flat_making.proofs.labels.enter_module.Goals as goal

pub returns-in-None : goal.returns-in-None
returns-in-None c = module_none c.args.tables.now c.args.owner _ (sym (c.in-None.ensures ∙ ap (λ q. module_named q c.args.owner) c.system.ensures))

pub returns-in_ok-enter_own-in-Some : goal.returns-in_ok-enter_own-in-Some
returns-in_ok-enter_own-in-Some c = module_some c.args.tables.now c.args.owner _ _ _ (sym (c.in-Some.ensures ∙ ap (λ q. module_named q c.args.owner) c.system.ensures)) c.in_ok-enter_own-in-Some.ensures
