-- The body of a procedure is no larger than all bodies together.
use Rattle.std.proofs.Common.{◌≡◌, ℕ, zero, suc, ◌+◌, ◌≤◌, Bool, true, false, cond, List, [], ◌∷◌, map, Option, Some, None, arith}
use Rattle.std.specs.Prelude.{slice_get}
use Rattle.std.specs.Option.{option_and_then}
use Rattle.std.specs.List.{find}
use Rattle.uc_syntax.specs.declared.declaration.Procedure.{Procedure as ProcedureParts}
use Rattle.uc_syntax.specs.declared.declaration.Decl.{Decl}
use Rattle.uc_syntax.specs.declared.declaration.Decl.TheVariants.{Procedure}
use Rattle.uc_syntax.specs.declared.declaration.Module.{Module}
use Rattle.uc_meaning.specs.Lookup.{System, InstanceParts, first_some, or_else, some_if, is_named, instance_of, module_named, module_from, module_at, main_module, procedure_in, procedure_of}
use Rattle.uc_meaning.specs.Shapes.{total}
use Rattle.uc_evaluator.proofs.Bodies.{weight, weighed}
use Rattle.uc_runs.proofs.Sizes.{sizes}

abbrev pub body_size : ProcedureParts → ℕ
body_size p = sizes p.body

abbrev declaration_size : Decl → ℕ
declaration_size (Procedure place p) = body_size p
declaration_size other = 0

abbrev module_size : Module → ℕ
module_size m = total (map declaration_size m.decls)

-- the size of all bodies of procedures
abbrev pub bodies : System → ℕ
bodies system = total (map module_size system.modules)

module _ {A B : Type 0} (w : B → ℕ) (v : A → ℕ) (f : A → Option B) where
  or_weight : (o rest : Option B) (a b : ℕ) → weight w o ≤ a → weight w rest ≤ b → weight w (or_else o rest) ≤ a + b
  or_weight None rest a b first second = omega (arith, second)
  or_weight (Some y) rest a b first second = omega (arith, first)

  weight_first : (each : (a : A) → weight w (f a) ≤ v a) (xs : List A) → weight w (first_some f xs) ≤ total (map v xs)
  unfolding first_some total
  weight_first each [] = omega arith
  weight_first each (x ∷ xs) = or_weight (f x) (first_some f xs) (v x) (total (map v xs)) (each x) (weight_first each xs)

  pub weight_below : (most : ℕ) (each : (a : A) → v a ≤ most → weight w (f a) ≤ most) (o : Option A) → weight v o ≤ most → weight w (option_and_then f o) ≤ most
  weight_below most each None within = omega arith
  weight_below most each (Some a) within = each a within

picked_weight : {A : Type 0} (w : A → ℕ) (b : Bool) (x : A) (rest : Option A) (n : ℕ) → weight w rest ≤ n → weight w (cond b (Some x) rest) ≤ w x + n
picked_weight w true x rest n within = omega arith
picked_weight w false x rest n within = omega (arith, within)

pub weight_found : {A : Type 0} (w : A → ℕ) (p : A → Bool) (xs : List A) → weight w (find p xs) ≤ total (map w xs)
unfolding total
weight_found w p [] = omega arith
weight_found w p (x ∷ xs) = picked_weight w (p x) x (find p xs) (total (map w xs)) (weight_found w p xs)

pub weight_got : {A : Type 0} (w : A → ℕ) (xs : List A) (k : ℕ) → weight w (slice_get xs k) ≤ total (map w xs)
unfolding total
weight_got w [] k = omega arith
weight_got w (x ∷ xs) zero = omega arith
weight_got w (x ∷ xs) (suc k) = omega (arith, weight_got w xs k)

some_weight : {B : Type 0} (w : B → ℕ) (b : Bool) (y : B) → weight w (some_if b y) ≤ w y
some_weight w true y = omega arith
some_weight w false y = omega arith

procedure_weight : (x : ℕ) (d : Decl) → weight body_size (procedure_in x d) ≤ declaration_size d
procedure_weight x (Procedure place p) = some_weight body_size (is_named x p.identifier) p
procedure_weight x other = omega arith

module _ (system : System) where
  in_instance : (m : Module) (i : ℕ) → weight module_size (option_and_then (λ p. module_named system p.module_name) (instance_of m i)) ≤ bodies system
  in_instance m i = below (instance_of m i)
    where
      below : (o : Option InstanceParts) → weight module_size (option_and_then (λ p. module_named system p.module_name) o) ≤ bodies system
      below None = omega arith
      below (Some p) = weight_found module_size _ system.modules

  module_weight : (m : Module) (path : List ℕ) → module_size m ≤ bodies system → weight module_size (module_from system m path) ≤ bodies system
  unfolding module_from
  module_weight m [] within = within
  module_weight m (i ∷ path) within =
      weight_below module_size module_size (λ n. module_from system n path) (bodies system) (λ n h. module_weight n path h)
      (option_and_then (λ p. module_named system p.module_name) (instance_of m i)) (in_instance m i)

  at_path_weight : (path : List ℕ) → weight module_size (module_at system path) ≤ bodies system
  at_path_weight path =
      weight_below module_size module_size (λ m. module_from system m path) (bodies system) (λ m h. module_weight m path h)
      (main_module system) (weight_got module_size system.modules system.main)

  pub called_size : (path : List ℕ) (m : Module) (f : ℕ) (p : ProcedureParts) → Some m ≡ module_at system path → Some p ≡ procedure_of m f → sizes p.body ≤ bodies system
  called_size path m f p at_module found =
      weighed body_size (procedure_of m f) p (bodies system) found
      (omega (arith, weight_first body_size declaration_size (procedure_in f) (procedure_weight f) m.decls, weighed module_size (module_at system path) m (bodies system) at_module (at_path_weight path)))
