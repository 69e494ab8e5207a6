use Rattle.uc_module_writes.specs.Stepped.{summary_by}
use Rattle.uc_module_writes.proofs.Entered.{tables_more}
use Rattle.uc_module_writes.proofs.tables.enter_declaration.Goals as goal

pub returns : goal.returns
returns c =
    λ ds.
    tables_more c.args.names.now (summary_by c.args.places.now c.args.summaries.now) ds c.args.declaration.now c.args.effects.now c.enter_procedure.new.effects c.enter_instance.new.effects c.args.table.now c.enter_instance.new.table c.in_ok-enter_procedure.ensures.procedures c.in_ok-enter_procedure.ensures.steps
    c.in_ok-enter_instance.ensures.named c.in_ok-enter_instance.ensures.procedures c.in_ok-enter_instance.ensures.instances
