-- Cycles: types that stand for themselves by aliases, and modules that have themselves as instances.
use Rattle.std.specs.Prelude.{ℕ, zero, suc, Bool, false, ◌&&◌, ◌||◌, nat_eq, List, [], ◌∷◌, ◌++◌, map, length, Option, Some, None}
use Rattle.std.specs.List.{flat_map, list_any}
use Rattle.uc_syntax.specs.declared.type_expression.TypeExpr.{TypeExpr}
use Rattle.uc_syntax.specs.declared.type_expression.TypeExpr.TheOpen.{TypeExpr-F}
use Rattle.uc_syntax.specs.declared.type_expression.TypeExpr.TheOpen.TypeExpr-F.{Record, Array, Named, OfModule}
use Rattle.uc_syntax.specs.declared.type_expression.TypeExpr.TheFolds.{fold-TypeExpr}
use Rattle.uc_syntax.specs.declared.declaration.Decl.{Decl}
use Rattle.uc_syntax.specs.declared.declaration.Decl.TheVariants.{TypeAlias}
use Rattle.uc_syntax.specs.declared.declaration.Module.{Module}
use Rattle.uc_meaning.specs.Lookup.{System, module_named, instances_of}
use Rattle.uc_meaning.specs.Types.{TypeEntry, Alias, Opaque}
use Rattle.uc_rules.specs.declared.fault.Fault.{Fault}
use Rattle.uc_rules.specs.declared.rule.Rule.TheVariants.{Cycle}
use Rattle.uc_rules.specs.Faults.{breaks_where}
use Rattle.uc_rules.specs.Names.{type_named, type_of_module}
use Rattle.uc_rules.specs.Types.{longest_alias}

-- whether some way of at least one and at most n steps leads from x to what passes a test
unfoldable pub leads_to : {A : Type 0} → ℕ → (A → List A) → (A → Bool) → A → Bool
leads_to zero steps test x = false
leads_to (suc n) steps test x = list_any (λ y. test y || leads_to n steps test y) (steps x)

-- A type by the names of the module that declares it and its own.
abbrev pub TypeName : Type 0
TypeName = ℕ × ℕ

abbrev pub same_type_name : TypeName → TypeName → Bool
same_type_name p q = nat_eq p.0 q.0 && nat_eq p.1 q.1

abbrev pub entry_name : ℕ → Option (Module × TypeEntry) → List TypeName
entry_name x None = []
entry_name x (Some entry) = (entry.0.name, x) ∷ []

abbrev pub name_of_module : ℕ → Option Module → List TypeName
name_of_module x None = []
name_of_module x (Some m) = entry_name x (type_of_module m x)

-- the types that a written type names in a module
abbrev pub mentioned_form : System → Module → TypeExpr-F (List TypeName) → List TypeName
mentioned_form system m (Named place x) = entry_name x (type_named system m x)
mentioned_form system m (OfModule place n i) = name_of_module i.name (module_named system n)
mentioned_form system m (Record place ps) = flat_map (λ p. p.ty) ps
mentioned_form system m (Array place index element) = index ++ element
mentioned_form system m other = []

unfoldable pub mentioned : System → Module → TypeExpr → List TypeName
mentioned system m = fold-TypeExpr (List TypeName) (mentioned_form system m)

-- the types that an alias names
abbrev pub entry_steps : System → Module → TypeEntry → List TypeName
entry_steps system m (Alias type) = mentioned system m type
entry_steps system m Opaque = []

abbrev pub alias_steps_in : System → Option (Module × TypeEntry) → List TypeName
alias_steps_in system None = []
alias_steps_in system (Some entry) = entry_steps system entry.0 entry.1

abbrev pub alias_steps_from : System → ℕ → Option Module → List TypeName
alias_steps_from system x None = []
alias_steps_from system x (Some m) = alias_steps_in system (type_of_module m x)

abbrev pub alias_steps : System → TypeName → List TypeName
alias_steps system p = alias_steps_from system p.1 (module_named system p.0)

-- a type's name lies on a cycle of aliases
abbrev pub on_alias_cycle : System → TypeName → Bool
on_alias_cycle system p = leads_to (longest_alias system) (alias_steps system) (same_type_name p) p

-- each `type` declaration on a cycle is a fault at its first token; the first of them is the one that is answered
abbrev pub alias_cycle_in : System → Module → Decl → List Fault
alias_cycle_in system m (TypeAlias place i type) = breaks_where (on_alias_cycle system (m.name, i.name)) Cycle place
alias_cycle_in system m other = []

-- the modules of a module's instances
abbrev pub instance_steps_from : Option Module → List ℕ
instance_steps_from None = []
instance_steps_from (Some m) = map (λ i. i.module_name) (instances_of m)

abbrev pub instance_steps : System → ℕ → List ℕ
instance_steps system n = instance_steps_from (module_named system n)

-- a module's name lies on a cycle of instances
abbrev pub on_instance_cycle : System → ℕ → Bool
on_instance_cycle system n = leads_to (length system.modules) (instance_steps system) (nat_eq n) n

-- the faults of cycles in a module: the module's at its first token
abbrev pub cycle_faults : System → Module → List Fault
cycle_faults system m = breaks_where (on_instance_cycle system m.name) Cycle m.place ++ flat_map (alias_cycle_in system m) m.decls
