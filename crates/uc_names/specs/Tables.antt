-- What a table of names holds.
use Rattle.std.specs.Prelude.{◌≡◌, ℕ, Bool, nat_eq, List, Option, Some}
use Rattle.std.specs.Borrow.{Bor}
use Rattle.std.specs.Option.{option_map}
use Rattle.indexmap.specs.IndexMap.{get}
use Rattle.uc_syntax.specs.declared.declaration.Procedure.{Procedure as ProcedureParts}
use Rattle.uc_syntax.specs.declared.declaration.Module.{Module}
use Rattle.uc_meaning.specs.Lookup.{first_some}
use Rattle.uc_rules.specs.Names.{Entry as Meant, as_called, as_instance, as_procedure, as_type, as_value, is_entry, only_if}
use Rattle.uc_lookup.specs.Parts.{instance_parts}
use Rattle.uc_names.specs.declared.table.NameTable.{NameTable}
use Rattle.uc_names.specs.Senses.{called_meant, declared_meant, entry_meant, value_meant}

-- what a name has in a table is what the first thing of the name gives that gives something
unfoldable pub AreFirst : {A T B : Type 0} → (ℕ → A → Bool) → (T → B) → (A → Option B) → (ℕ → Option T) → List A → Type 0
AreFirst is_of meant gives table xs = (x : ℕ) → option_map meant (table x) ≡ first_some (λ e. only_if (is_of x e) (gives e)) xs

-- A table of names among these modules holds these entries: of each kind it has the first.
pub record Holds (ms : List Module) (t : NameTable) (es : List Meant) : Type 0 where
  pub entries : AreFirst is_entry (entry_meant ms) (λ e. Some e) (get nat_eq t.entries.things) es
  pub values : AreFirst is_entry value_meant (λ e. as_value e.sense) (get nat_eq t.values.things) es
  pub calls : AreFirst is_entry called_meant (λ e. as_called e.sense) (get nat_eq t.calls.things) es
  pub types : AreFirst is_entry (declared_meant ms) (λ e. as_type e.sense) (get nat_eq t.types.things) es
  pub procedures : AreFirst is_entry (λ (p : Bor ProcedureParts). p.now) (λ e. as_procedure e.sense) (get nat_eq t.procedures.things) es
  pub instances : AreFirst is_entry instance_parts (λ e. as_instance e.sense) (get nat_eq t.instances.things) es
