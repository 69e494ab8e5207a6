-- The expressions that a design reads elsewhere, bodies of defines and what is bound, are no larger than all of them together.
use Rattle.std.proofs.Common.{◌≡◌, ℕ, zero, suc, ◌+◌, ◌<◌, ◌≤◌, Bool, true, false, cond, List, [], ◌∷◌, map, Option, Some, None, refl, ap, ◌∙◌, sym, arith}
use Rattle.std.specs.Prelude.{slice_get, nat_eq}
use Rattle.std.specs.Option.{option_map, option_and_then}
use Rattle.std.specs.List.{find, filter_map, cons_option}
use Rattle.uc_syntax.specs.declared.expression.Expr.{Expr}
use Rattle.uc_syntax.specs.declared.type_expression.TypeExpr.{TypeExpr}
use Rattle.uc_syntax.specs.declared.declaration.Binding.{Binding}
use Rattle.uc_syntax.specs.declared.declaration.VariableKind.{VariableKind}
use Rattle.uc_syntax.specs.declared.declaration.VariableKind.TheVariants.{Variable, Input, Output, Constant}
use Rattle.uc_syntax.specs.declared.declaration.Decl.{Decl}
use Rattle.uc_syntax.specs.declared.declaration.Decl.TheVariants.{Define, Instance}
use Rattle.uc_syntax.specs.declared.declaration.Module.{Module}
use Rattle.uc_values.specs.declared.value.Value.{Value}
use Rattle.uc_meaning.specs.declared.scope.Scope.{Scope}
use Rattle.uc_meaning.specs.declared.scope.Local.{Local}
use Rattle.uc_meaning.specs.Lookup.{System, Defined, Signature, InstanceParts, first_some, or_else, some_if, is_named, define_in, define_of, function_of, instance_in, instances_of, instance_of, bound_to, module_named, module_from, module_at, main_module, variable_of, parent_of}
use Rattle.uc_meaning.specs.Types.{label_of}
use Rattle.uc_meaning.specs.Expressions.{Source, OfValue, OfCell, OfBinding, Meant, meaning_of, name_meaning, global_meaning, module_meaning, declared_meaning, variable_source, cell_source, binding_from, binding_of, local_of, Applied, OfDefine, applied, applied_in, applied_name, applied_function}
use Rattle.uc_meaning.specs.Shapes.{size, total}

-- what is weighed, and nothing where there is none
abbrev pub weight : {A : Type 0} → (A → ℕ) → Option A → ℕ
weight w None = 0
weight w (Some x) = w x

abbrev pub binding_size : Binding → ℕ
binding_size b = size b.expression

abbrev pub declaration_size : Decl → ℕ
declaration_size (Define place i parameters type body) = size body
declaration_size (Instance place i m bindings) = total (map binding_size bindings)
declaration_size other = 0

abbrev pub module_size : Module → ℕ
module_size m = total (map declaration_size m.decls)

-- the size of all bodies of defines and of all that is bound
abbrev pub bodies : System → ℕ
bodies system = total (map module_size system.modules)

module _ {A B : Type 0} (w : B → ℕ) (v : A → ℕ) (f : A → Option B) where
  weight_then : (each : (a : A) → weight w (f a) ≤ v a) (o : Option A) → weight w (option_and_then f o) ≤ weight v o
  weight_then each None = omega arith
  weight_then each (Some a) = each a

  or_weight : (o rest : Option B) (a b : ℕ) → weight w o ≤ a → weight w rest ≤ b → weight w (or_else o rest) ≤ a + b
  or_weight None rest a b first second = omega (arith, second)
  or_weight (Some y) rest a b first second = omega (arith, first)

  weight_first : (each : (a : A) → weight w (f a) ≤ v a) (xs : List A) → weight w (first_some f xs) ≤ total (map v xs)
  unfolding first_some total
  weight_first each [] = omega arith
  weight_first each (x ∷ xs) = or_weight (f x) (first_some f xs) (v x) (total (map v xs)) (each x) (weight_first each xs)

  kept_weight : (o : Option B) (ys : List B) (a b : ℕ) → weight w o ≤ a → total (map w ys) ≤ b → total (map w (cons_option o ys)) ≤ a + b
  unfolding total
  kept_weight None ys a b first second = omega (arith, second)
  kept_weight (Some y) ys a b first second = omega (arith, first, second)

  weight_filtered : (each : (a : A) → weight w (f a) ≤ v a) (xs : List A) → total (map w (filter_map f xs)) ≤ total (map v xs)
  unfolding total
  weight_filtered each [] = omega arith
  weight_filtered each (x ∷ xs) = kept_weight (f x) (filter_map f xs) (v x) (total (map v xs)) (each x) (weight_filtered each xs)

  weight_below : (most : ℕ) (each : (a : A) → v a ≤ most → weight w (f a) ≤ most) (o : Option A) → weight v o ≤ most → weight w (option_and_then f o) ≤ most
  weight_below most each None within = omega arith
  weight_below most each (Some a) within = each a within

picked_weight : {A : Type 0} (w : A → ℕ) (b : Bool) (x : A) (rest : Option A) (n : ℕ) → weight w rest ≤ n → weight w (cond b (Some x) rest) ≤ w x + n
picked_weight w true x rest n within = omega arith
picked_weight w false x rest n within = omega (arith, within)

weight_found : {A : Type 0} (w : A → ℕ) (p : A → Bool) (xs : List A) → weight w (find p xs) ≤ total (map w xs)
unfolding total
weight_found w p [] = omega arith
weight_found w p (x ∷ xs) = picked_weight w (p x) x (find p xs) (total (map w xs)) (weight_found w p xs)

weight_got : {A : Type 0} (w : A → ℕ) (xs : List A) (k : ℕ) → weight w (slice_get xs k) ≤ total (map w xs)
unfolding total
weight_got w [] k = omega arith
weight_got w (x ∷ xs) zero = omega arith
weight_got w (x ∷ xs) (suc k) = omega (arith, weight_got w xs k)

-- where it is said, the weight is that of the thing
pub weighed : {A : Type 0} (w : A → ℕ) (o : Option A) (x : A) (n : ℕ) → Some x ≡ o → weight w o ≤ n → w x ≤ n
weighed w o x n is within = omega (arith, ap (weight w) is, within)

some_weight : {B : Type 0} (w : B → ℕ) (b : Bool) (y : B) → weight w (some_if b y) ≤ w y
some_weight w true y = omega arith
some_weight w false y = omega arith

abbrev instance_size : InstanceParts → ℕ
instance_size i = total (map binding_size i.bindings)

abbrev defined_size : Defined → ℕ
defined_size d = size d.body

instance_weight : (d : Decl) → weight instance_size (instance_in d) ≤ declaration_size d
instance_weight (Instance place i m bindings) = omega arith
instance_weight other = omega arith

define_weight : (x : ℕ) (d : Decl) → weight defined_size (define_in x d) ≤ declaration_size d
define_weight x (Define place i parameters type body) = some_weight defined_size (is_named x i) (record { parameters = parameters; type = type; body = body })
define_weight x other = omega arith

module _ (system : System) where
  in_named : (m : ℕ) → weight module_size (module_named system m) ≤ bodies system
  in_named m = weight_found module_size _ system.modules

  in_instance : (m : Module) (i : ℕ) → weight module_size (option_and_then (λ p. module_named system p.module_name) (instance_of m i)) ≤ bodies system
  in_instance m i = all_below (instance_of m i)
    where
      all_below : (o : Option InstanceParts) → weight module_size (option_and_then (λ p. module_named system p.module_name) o) ≤ bodies system
      all_below None = omega arith
      all_below (Some p) = in_named p.module_name

  module_weight : (m : Module) (path : List ℕ) → module_size m ≤ bodies system → weight module_size (module_from system m path) ≤ bodies system
  unfolding module_from
  module_weight m [] within = within
  module_weight m (i ∷ path) within =
      weight_below module_size module_size (λ n. module_from system n path) (bodies system) (λ n h. module_weight n path h)
      (option_and_then (λ p. module_named system p.module_name) (instance_of m i)) (in_instance m i)

  pub at_path_weight : (path : List ℕ) → weight module_size (module_at system path) ≤ bodies system
  at_path_weight path =
      weight_below module_size module_size (λ m. module_from system m path) (bodies system) (λ m h. module_weight m path h)
      (main_module system) (weight_got module_size system.modules system.main)

  instances_weight : (m : Module) (i : ℕ) → weight instance_size (instance_of m i) ≤ module_size m
  instances_weight m i =
      omega (arith, weight_found instance_size (λ p. nat_eq p.name i) (instances_of m), weight_filtered instance_size declaration_size instance_in instance_weight m.decls)

  bound_weight : (i : InstanceParts) (x : ℕ) → weight size (bound_to i x) ≤ instance_size i
  bound_weight i x = weight_first size binding_size (λ b. some_if (is_named x b.identifier) b.expression) (λ b. some_weight size (is_named x b.identifier) b.expression) i.bindings

  abbrev pub pair_size : List ℕ × Expr → ℕ
  pair_size b = size b.1

  placed_weight : (path : List ℕ) (o : Option Expr) (n : ℕ) → weight size o ≤ n → weight pair_size (option_map (λ e. (path, e)) o) ≤ n
  placed_weight path None n within = omega arith
  placed_weight path (Some e) n within = within

  binding_weight : (x : ℕ) (o : Option (List ℕ × ℕ)) → weight pair_size (binding_from system x o) ≤ bodies system
  binding_weight x None = omega arith
  binding_weight x (Some p) =
      let inner : Option InstanceParts = option_and_then (λ m. instance_of m p.1) (module_at system p.0) in
      let first = weight_then instance_size module_size (λ m. instance_of m p.1) (λ m. instances_weight m p.1) (module_at system p.0) in
      let second = weight_then size instance_size (λ i. bound_to i x) (λ i. bound_weight i x) inner in
      placed_weight p.0 (option_and_then (λ i. bound_to i x) inner) (bodies system) (omega (arith, first, second, at_path_weight p.0))

  module _ (s : Scope) (x : ℕ) (primed : Bool) where
    abbrev pub source_size : Source → ℕ
    source_size (OfBinding there e) = size e
    source_size other = 0

    cell_size : (b : Option (List ℕ × Expr)) → weight pair_size b ≤ bodies system → source_size (cell_source system s x primed b) ≤ bodies system
    cell_size None within = omega arith
    cell_size (Some b) within = within

    kind_size : (m : Module) (kind : VariableKind) → source_size (variable_source system s m x primed kind) ≤ bodies system
    kind_size m Constant = omega arith
    kind_size m Variable = omega arith
    kind_size m Input = cell_size (binding_of system s.path x) (binding_weight x (parent_of s.path))
    kind_size m Output = cell_size (binding_of system s.path x) (binding_weight x (parent_of s.path))

    declared_size : (m : Module) (o : Option (VariableKind × TypeExpr)) → source_size (declared_meaning system s m x primed o).source ≤ bodies system
    declared_size m None = omega arith
    declared_size m (Some d) = kind_size m d.0

    label_size : (m : Module) (o : Option (ℕ × ℕ)) → source_size (module_meaning system s x primed m o).source ≤ bodies system
    label_size m None = declared_size m (variable_of m x)
    label_size m (Some l) = omega arith

    global_size : (o : Option Module) → source_size (global_meaning system s x primed o).source ≤ bodies system
    global_size None = omega arith
    global_size (Some m) = label_size m (label_of system m x)

    local_size : (o : Option Local) → source_size (name_meaning system s x primed o).source ≤ bodies system
    local_size None = global_size (module_at system s.path)
    local_size (Some l) = omega arith

    pub meaning_size : source_size (meaning_of system s x primed).source ≤ bodies system
    unfolding meaning_of
    meaning_size = local_size (local_of s x)

  module _ (s : Scope) (f : ℕ) (arguments : List Value) where
    abbrev pub applied_size : Applied → ℕ
    applied_size (OfDefine t there body) = size body
    applied_size other = 0

    function_size : (m : Module) (o : Option Signature) → applied_size (applied_function system s m f o) ≤ bodies system
    function_size m None = omega arith
    function_size m (Some signature) = omega arith

    define_size : (m : Module) (o : Option Defined) → weight defined_size o ≤ bodies system → applied_size (applied_name system s m f arguments o) ≤ bodies system
    define_size m None within = function_size m (function_of m f)
    define_size m (Some d) within = within

    in_module_size : (o : Option Module) → weight module_size o ≤ bodies system → applied_size (applied_in system s f arguments o) ≤ bodies system
    in_module_size None within = omega arith
    in_module_size (Some m) within =
        define_size m (define_of m f) (omega (arith, within, weight_first defined_size declaration_size (define_in f) (define_weight f) m.decls))

    pub application_size : applied_size (applied system s f arguments) ≤ bodies system
    unfolding applied
    application_size = in_module_size (module_at system s.path) (at_path_weight s.path)
