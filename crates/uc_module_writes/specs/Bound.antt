-- What instances bind.
use Rattle.std.specs.Prelude.{◌≡◌, ℕ, Bool, false, List, [], map, Option, Some, None}
use Rattle.std.specs.List.{flat_map}
use Rattle.std.specs.Option.{option_and_then}
use Rattle.uc_syntax.specs.declared.declaration.Binding.{Binding}
use Rattle.uc_syntax.specs.declared.declaration.Decl.{Decl}
use Rattle.uc_syntax.specs.declared.declaration.Decl.TheVariants.{Instance}
use Rattle.uc_syntax.specs.declared.declaration.Module.{Module}
use Rattle.uc_syntax.specs.declared.expression.Expr.TheViews.{out-Expr}
use Rattle.uc_meaning.specs.Code.{name_form}
use Rattle.uc_meaning.specs.Lookup.{first_some, is_named, some_if}
use Rattle.uc_rules.specs.Names.{names_one_of}

abbrev pub declared_bindings : Decl → List Binding
declared_bindings (Instance place i n bindings) = bindings
declared_bindings other = []

abbrev pub bound_in : Decl → List ℕ
bound_in d = map (λ b. b.identifier.name) (declared_bindings d)

-- all names that are bound
unfoldable pub all_bound : List Module → List ℕ
all_bound ms = flat_map (λ m. flat_map bound_in m.decls) ms

-- the name to which bindings bind a name
abbrev pub bound_by : List Binding → ℕ → Option ℕ
bound_by bs x = option_and_then (λ e. name_form (out-Expr e)) (first_some (λ b. some_if (is_named x b.identifier) b.expression) bs)

-- no two names are bound to one name
abbrev pub BindsApart : List Binding → Type 0
BindsApart bs = (x y z : ℕ) → bound_by bs x ≡ Some z → bound_by bs y ≡ Some z → x ≡ y

abbrev pub seen_in : List ℕ → Option ℕ → Bool
seen_in seen None = false
seen_in seen (Some z) = names_one_of seen z
