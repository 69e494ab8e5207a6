-- The next blocks of a module are no larger than all next blocks together.
use Rattle.std.proofs.Common.{◌≡◌, ℕ, ◌≤◌, List, [], ◌∷◌, map, Option, Some, None, refl, arith}
use Rattle.std.specs.Option.{option_and_then}
use Rattle.uc_lexer.specs.declared.place.Place.{Place}
use Rattle.uc_syntax.specs.declared.place.Identifier.{Identifier}
use Rattle.uc_syntax.specs.declared.declaration.Decl.{Decl}
use Rattle.uc_syntax.specs.declared.declaration.Decl.TheVariants.{Next as NextDecl}
use Rattle.uc_syntax.specs.declared.declaration.Module.{Module}
use Rattle.uc_syntax.specs.declared.statement.Stmt.{Stmt}
use Rattle.uc_syntax.specs.declared.statement.Stmt.TheOpen.Stmt-F.{Next as NextForm}
use Rattle.uc_syntax.specs.declared.statement.Stmt.TheViews.{roll-Stmt}
use Rattle.uc_syntax.specs.declared.statement.Stmt.TheVariants.{Next}
use Rattle.uc_syntax.specs.declared.statement.Stmt.TheFolds.{fold-roll-Stmt}
use Rattle.uc_meaning.specs.Lookup.{System, InstanceParts, instance_of, module_named, module_from, module_at, main_module, next_in}
use Rattle.uc_meaning.specs.Shapes.{total}
use Rattle.uc_evaluator.proofs.Bodies.{weight, weighed}
use Rattle.uc_runs.proofs.Sizes.{size, sizes}
use Rattle.uc_runs.proofs.Bodies.{weight_below, weight_found, weight_got}

-- the size of the next blocks among declarations
abbrev pub decl_size : Decl → ℕ
decl_size d = sizes (next_in d)

abbrev pub decls_size : List Decl → ℕ
decls_size decls = total (map decl_size decls)

abbrev module_size : Module → ℕ
module_size m = decls_size m.decls

-- the size of all next blocks
abbrev pub blocks : System → ℕ
blocks system = total (map module_size system.modules)

module _ (system : System) where
  in_instance : (m : Module) (i : ℕ) → weight module_size (option_and_then (λ p. module_named system p.module_name) (instance_of m i)) ≤ blocks system
  in_instance m i = below (instance_of m i)
    where
      below : (o : Option InstanceParts) → weight module_size (option_and_then (λ p. module_named system p.module_name) o) ≤ blocks system
      below None = omega arith
      below (Some p) = weight_found module_size _ system.modules

  module_weight : (m : Module) (path : List ℕ) → module_size m ≤ blocks system → weight module_size (module_from system m path) ≤ blocks system
  unfolding module_from
  module_weight m [] within = within
  module_weight m (i ∷ path) within =
      weight_below module_size module_size (λ n. module_from system n path) (blocks system) (λ n h. module_weight n path h)
      (option_and_then (λ p. module_named system p.module_name) (instance_of m i)) (in_instance m i)

  at_path_weight : (path : List ℕ) → weight module_size (module_at system path) ≤ blocks system
  at_path_weight path =
      weight_below module_size module_size (λ m. module_from system m path) (blocks system) (λ m h. module_weight m path h)
      (main_module system) (weight_got module_size system.modules system.main)

  pub stepped_size : (path : List ℕ) (m : Module) → Some m ≡ module_at system path → decls_size m.decls ≤ blocks system
  stepped_size path m found = weighed module_size (module_at system path) m (blocks system) found (at_path_weight path)

-- a step of an instance is one statement
pub next_size : (p : Place) (i : Identifier) → size (Next p i) ≡ 1
unfolding size roll-Stmt denote.Hole.Carrier.roll
next_size p i = fold-roll-Stmt ℕ _ (NextForm p i)

-- a declaration that is no next block has none
pub no_next : (d : Decl) → ((p : Place) (block : List Stmt) → d ≡ NextDecl p block → ⊥) → next_in d ≡ []
no_next (NextDecl p block) other = absurd (other p block refl)
no_next other' other = refl
