-- What names stand for among the modules of a design, by what the rules' definitions say of it.
use Rattle.std.specs.Prelude.{ℕ, List, [], map, slice_get, slice_index_or, Option, Some}
use Rattle.uc_syntax.specs.declared.declaration.Decl.{Decl}
use Rattle.uc_syntax.specs.declared.declaration.Decl.TheVariants.{TypeAlias}
use Rattle.uc_syntax.specs.declared.declaration.Module.{Module}
use Rattle.uc_meaning.specs.Types.{TypeEntry, Alias, Opaque}
use Rattle.uc_rules.specs.Names.{Sense as SenseMeant, SenseType, SenseVariable, SenseLabel, SenseFunction, SenseDefine, SenseProcedure, SenseInstance, SenseFormula, Entry as Meant, Valued, ValuedVariable, ValuedLabel, Called as CalledMeant, CalledFunction, CalledDefine}
use Rattle.uc_lookup.specs.Parts.{defined_parts, signature_parts, instance_parts}
use Rattle.uc_names.specs.declared.senses.DeclaredType.{DeclaredType}
use Rattle.uc_names.specs.declared.senses.Entry.{Entry}
use Rattle.uc_names.specs.declared.senses.Sense.{Sense}
use Rattle.uc_names.specs.declared.senses.Sense.TheVariants.{Declared, Variable, Label, Function, Define, Procedure, Instance, Formula}
use Rattle.uc_names.specs.declared.senses.Value.{Value}
use Rattle.uc_names.specs.declared.senses.Value.TheVariants.{Variable as VariableValue, Label as LabelValue}
use Rattle.uc_names.specs.declared.senses.Called.{Called}
use Rattle.uc_names.specs.declared.senses.Called.TheVariants.{Function as FunctionCalled, Define as DefineCalled}

-- what stands for a module where there is none
abbrev pub no_module : Module
no_module = record { place = record { file = 0; line = 0; col = 0 }; name = 0; decls = [] }

-- the module at a place among some
abbrev pub module_in : List Module → ℕ → Module
module_in ms k = slice_index_or ms k no_module

-- what a declaration says of its type
abbrev pub entry_at : Option Decl → TypeEntry
entry_at (Some (TypeAlias place i type)) = Alias type
entry_at other = Opaque

abbrev pub declared_meant : List Module → DeclaredType → Module × TypeEntry
declared_meant ms d = (module_in ms d.home, entry_at (slice_get (module_in ms d.home).decls d.declaration))

abbrev pub sense_meant : List Module → Sense → SenseMeant
sense_meant ms (Declared d) = SenseType (module_in ms d.home) (entry_at (slice_get (module_in ms d.home).decls d.declaration))
sense_meant ms (Variable v) = SenseVariable v.kind v.ty.now
sense_meant ms (Label l) = SenseLabel l.enum_number l.place
sense_meant ms (Function s) = SenseFunction (signature_parts s)
sense_meant ms (Define d) = SenseDefine (defined_parts d)
sense_meant ms (Procedure p) = SenseProcedure p.now
sense_meant ms (Instance i) = SenseInstance (instance_parts i)
sense_meant ms Formula = SenseFormula

abbrev pub entry_meant : List Module → Entry → Meant
entry_meant ms e = record { identifier = e.identifier; sense = sense_meant ms e.sense }

unfoldable pub entries_meant : List Module → List Entry → List Meant
entries_meant ms es = map (entry_meant ms) es

abbrev pub value_meant : Value → Valued
value_meant (VariableValue v) = ValuedVariable v.kind v.ty.now
value_meant (LabelValue e) = ValuedLabel e

abbrev pub called_meant : Called → CalledMeant
called_meant (FunctionCalled s) = CalledFunction (signature_parts s)
called_meant (DefineCalled d) = CalledDefine (defined_parts d)
