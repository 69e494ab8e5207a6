-- The modules of a design as a graph. A node is the place of a module.
use Rattle.std.specs.Prelude.{◌≡◌, ℕ, List, [], ◌∷◌, map}
use Rattle.std.specs.List.{filter_map}
use Rattle.uc_syntax.specs.declared.declaration.Decl.{Decl}
use Rattle.uc_meaning.specs.Lookup.{System, instance_in}
use Rattle.uc_rules.specs.Cycles.{instance_steps}
use Rattle.uc_names.specs.Senses.{module_in}

-- the names of the modules of the instances that are declared
abbrev pub names_in : List Decl → List ℕ
names_in ds = map (λ i. i.module_name) (filter_map instance_in ds)

-- the one that a declaration names, if it does
abbrev pub names_by : Decl → List ℕ
names_by d = names_in (d ∷ [])

-- the names to which a node leads
abbrev pub steps_of : System → ℕ → List ℕ
steps_of system k = names_in (module_in system.modules k).decls

-- a node stands for a name: both lead to the same names
abbrev pub IsNode : System → ℕ → ℕ → Type 0
IsNode system x k = steps_of system k ≡ instance_steps system x

-- nodes stand for names, one by one
unfoldable pub AreNodes : System → List ℕ → List ℕ → Type 0
AreNodes system [] [] = Unit {0}
AreNodes system (k ∷ ks) (x ∷ xs) = IsNode system x k × AreNodes system ks xs
AreNodes system [] (x ∷ xs) = ⊥
AreNodes system (k ∷ ks) [] = ⊥
