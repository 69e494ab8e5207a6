use Rattle.std.proofs.Common.{Some, refl}
use Rattle.std.specs.Borrow.{Bor}
use Rattle.uc_syntax.specs.declared.declaration.Procedure.{Procedure as ProcedureParts}
use Rattle.uc_rules.specs.Names.{as_called, as_instance, as_procedure, as_type, as_value, is_entry}
use Rattle.uc_lookup.specs.Parts.{instance_parts}
use Rattle.uc_names.specs.Senses.{called_meant, declared_meant, entry_meant, value_meant}
use Rattle.uc_names.proofs.FirstEntries.{first_more}
use Rattle.uc_names.proofs.table.NameTable.add.Goals as goal

pub returns : goal.returns
returns c = λ ms es held. record {
  entries = first_more is_entry (entry_meant ms) (λ e. Some e) _ _ es (entry_meant ms c.args.entry) (Some c.args.entry) held.entries refl c.in_ok-enter.ensures;
  values = first_more is_entry value_meant (λ e. as_value e.sense) _ _ es (entry_meant ms c.args.entry) c.as_value.result held.values (c.as_value.ensures ms) c.in_ok-enter-2.ensures;
  calls = first_more is_entry called_meant (λ e. as_called e.sense) _ _ es (entry_meant ms c.args.entry) c.as_called.result held.calls (c.as_called.ensures ms) c.in_ok-enter-3.ensures;
  types = first_more is_entry (declared_meant ms) (λ e. as_type e.sense) _ _ es (entry_meant ms c.args.entry) c.as_type.result held.types (c.as_type.ensures ms) c.in_ok-enter-4.ensures;
  procedures = first_more is_entry (λ (p : Bor ProcedureParts). p.now) (λ e. as_procedure e.sense) _ _ es (entry_meant ms c.args.entry) c.as_procedure.result held.procedures (c.as_procedure.ensures ms) c.in_ok-enter-5.ensures;
  instances = first_more is_entry instance_parts (λ e. as_instance e.sense) _ _ es (entry_meant ms c.args.entry) c.as_instance.result held.instances (c.as_instance.ensures ms) c.in_ok-enter-6.ensures;
}
