-- The names of a module that were seen, as the rules' definitions say of them.
use Rattle.std.specs.Prelude.{Bool, ◌||◌, nat_eq, List, Some}
use Rattle.std.specs.List.{find}
use Rattle.indexmap.specs.IndexMap.{get}
use Rattle.uc_syntax.specs.declared.declaration.Module.{Module}
use Rattle.uc_meaning.specs.Lookup.{System}
use Rattle.uc_rules.specs.declared.fault.Fault.{Fault}
use Rattle.uc_rules.specs.declared.rule.Rule.TheVariants.{DuplicateName}
use Rattle.uc_rules.specs.Faults.{breaks_where}
use Rattle.uc_rules.specs.Names.{Entry as Meant, is_bit_function, is_entry, is_taken}
use Rattle.uc_names.specs.Senses.{entry_meant}
use Rattle.uc_names.specs.Tables.{AreFirst}
use Rattle.uc_declaration_rules.specs.declared.seen.SeenNames.{SeenNames}

-- what was seen has the first of these entries for each name
abbrev pub HasSeen : List Module → SeenNames → List Meant → Type 0
HasSeen ms seen es = AreFirst is_entry (entry_meant ms) (λ e. Some e) (get nat_eq seen.entries.things) es

-- whether an entry that comes behind others has a name again
abbrev pub is_repeated : System → List Meant → Meant → Bool
is_repeated system earlier e = is_bit_function system e.identifier.name || is_taken e (find (is_entry e.identifier.name) earlier)

-- the fault of an entry that comes behind others
abbrev pub name_faults : System → List Meant → Meant → List Fault
name_faults system earlier e = breaks_where (is_repeated system earlier e) DuplicateName e.identifier.place
