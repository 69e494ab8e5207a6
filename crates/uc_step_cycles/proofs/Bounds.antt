-- Bindings are entered one by one.
use Rattle.std.proofs.Common.{◌≡◌, ℕ, ◌+◌, ◌<◌, ◌≤◌, Bool, true, false, List, [], ◌∷◌, ◌++◌, length, take, get_or, Option, Some, None, refl, ap, sym, ◌∙◌}
use Rattle.std.specs.Prelude.{nat_eq}
use Rattle.std.specs.Option.{option_map}
use Rattle.std.proofs.lemmas.List.{take_all}
use Rattle.indexmap.specs.IndexMap.{get}
use Rattle.uc_syntax.specs.declared.expression.Expr.{Expr}
use Rattle.uc_syntax.specs.declared.expression.Expr.TheViews.{out-Expr}
use Rattle.uc_syntax.specs.declared.declaration.Binding.{Binding}
use Rattle.uc_rules.specs.Names.{only_if}
use Rattle.uc_rules.proofs.Lists.{take_turn}
use Rattle.uc_meaning.specs.Lookup.{first_some, is_named, or_else, some_if}
use Rattle.uc_meaning.specs.Code.{name_form}
use Rattle.uc_names.specs.declared.firsts.Firsts.{Firsts}
use Rattle.uc_step_cycles.specs.Bound.{KnowsBound, bound_in}

or_none : {B : Type 0} (o : Option B) → or_else o None ≡ o
or_none None = refl
or_none (Some y) = refl

or_or : {B : Type 0} (a b c : Option B) → or_else (or_else a b) c ≡ or_else a (or_else b c)
or_or None b c = refl
or_or (Some y) b c = refl

first_push : {A B : Type 0} (f : A → Option B) (xs : List A) (y : A) → first_some f (xs ++ y ∷ []) ≡ or_else (first_some f xs) (f y)
unfolding first_some
first_push f [] y = or_none (f y)
first_push f (x ∷ xs) y = ap (or_else (f x)) (first_push f xs y) ∙ sym (or_or (f x) (first_some f xs) (f y))

map_or : {A B : Type 0} (g : A → B) (a b : Option A) → option_map g (or_else a b) ≡ or_else (option_map g a) (option_map g b)
map_or g None b = refl
map_or g (Some y) b = refl

abbrev named : Expr → Option ℕ
named e = name_form (out-Expr e)

one : (c : Bool) (e : Expr) (o : Option ℕ) → o ≡ named e → only_if c (Some o) ≡ option_map named (some_if c e)
one true e o is = ap (λ q. Some q) is
one false e o is = refl

pub bound_begin : (bs : List Binding) (t : Firsts (Option ℕ)) → ((x : ℕ) → get nat_eq t.things x ≡ None) → KnowsBound (take 0 bs) t
unfolding KnowsBound first_some
bound_begin bs t none x = none x

pub bound_more : (bs : List Binding) (t u : Firsts (Option ℕ)) (k : ℕ) (b d : Binding) (o : Option ℕ) → KnowsBound (take k bs) t → k < length bs → b ≡ get_or bs k d → o ≡ name_form (out-Expr b.expression) →
    ((x : ℕ) → get nat_eq u.things x ≡ or_else (get nat_eq t.things x) (only_if (nat_eq b.identifier.name x) (Some o))) → KnowsBound (take (k + 1) bs) u
unfolding KnowsBound
bound_more bs t u k b d o held within at is entered x =
    entered x
    ∙ (λ i. or_else (held x i) (one (nat_eq b.identifier.name x) b.expression o is i))
    ∙ sym (map_or named (first_some (λ c. some_if (is_named x c.identifier) c.expression) (take k bs)) (some_if (is_named x b.identifier) b.expression))
    ∙ ap (option_map named) (sym (first_push (λ c. some_if (is_named x c.identifier) c.expression) (take k bs) b))
    ∙ ap (λ ys. bound_in ys x) (sym (take_turn bs k b d within at))

pub bound_end : (bs : List Binding) (t : Firsts (Option ℕ)) (k : ℕ) → KnowsBound (take k bs) t → length bs ≤ k → KnowsBound bs t
unfolding KnowsBound
bound_end bs t k held past x = held x ∙ ap (λ ys. bound_in ys x) (take_all k bs past)
