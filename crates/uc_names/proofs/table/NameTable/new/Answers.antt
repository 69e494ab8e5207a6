use Rattle.std.proofs.Common.{Some}
use Rattle.std.specs.Borrow.{Bor}
use Rattle.uc_syntax.specs.declared.declaration.Procedure.{Procedure as ProcedureParts}
use Rattle.uc_rules.specs.Names.{as_called, as_instance, as_procedure, as_type, as_value, is_entry}
use Rattle.uc_lookup.specs.Parts.{instance_parts}
use Rattle.uc_names.specs.Senses.{called_meant, declared_meant, entry_meant, value_meant}
use Rattle.uc_names.proofs.FirstEntries.{first_begin}
use Rattle.uc_names.proofs.table.NameTable.new.Goals as goal

pub returns : goal.returns
returns c = λ ms. record {
  entries = first_begin is_entry (entry_meant ms) (λ e. Some e) _ c.new-entries.ensures;
  values = first_begin is_entry value_meant (λ e. as_value e.sense) _ c.new-values.ensures;
  calls = first_begin is_entry called_meant (λ e. as_called e.sense) _ c.new-calls.ensures;
  types = first_begin is_entry (declared_meant ms) (λ e. as_type e.sense) _ c.new-types.ensures;
  procedures = first_begin is_entry (λ (p : Bor ProcedureParts). p.now) (λ e. as_procedure e.sense) _ c.new-procedures.ensures;
  instances = first_begin is_entry instance_parts (λ e. as_instance e.sense) _ c.new-instances.ensures;
}
