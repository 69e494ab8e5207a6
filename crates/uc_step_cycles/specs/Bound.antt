-- What is bound to the names of an instance's module.
use Rattle.std.specs.Prelude.{◌≡◌, ℕ, nat_eq, List, Option}
use Rattle.std.specs.Option.{option_map}
use Rattle.indexmap.specs.IndexMap.{get}
use Rattle.uc_syntax.specs.declared.expression.Expr.TheViews.{out-Expr}
use Rattle.uc_syntax.specs.declared.declaration.Binding.{Binding}
use Rattle.uc_meaning.specs.Lookup.{first_some, is_named, some_if}
use Rattle.uc_meaning.specs.Code.{name_form}
use Rattle.uc_names.specs.declared.firsts.Firsts.{Firsts}

-- what is bound to a name, by the name that it is, if it is one
abbrev pub bound_in : List Binding → ℕ → Option (Option ℕ)
bound_in bs x = option_map (λ e. name_form (out-Expr e)) (first_some (λ b. some_if (is_named x b.identifier) b.expression) bs)

unfoldable pub KnowsBound : List Binding → Firsts (Option ℕ) → Type 0
KnowsBound bs t = (x : ℕ) → get nat_eq t.things x ≡ bound_in bs x
