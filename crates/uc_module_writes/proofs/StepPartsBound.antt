-- Names that are bound.
use Rattle.std.proofs.Common.{◌≡◌, ℕ, ◌+◌, ◌<◌, ◌≤◌, Bool, true, false, not, List, [], ◌∷◌, ◌++◌, length, take, get_or, Option, Some, None, refl, ap, ◌∙◌, sym}
use Rattle.std.specs.Prelude.{◌||◌, nat_eq, if◌then◌else◌}
use Rattle.std.specs.List.{cons_option, filter_map, flat_map, list_any}
use Rattle.std.specs.Option.{is_some, option_and_then, option_map}
use Rattle.std.proofs.lemmas.List.{take_all, take_more}
use Rattle.uc_syntax.specs.declared.declaration.Binding.{Binding}
use Rattle.uc_syntax.specs.declared.expression.Expr.{Expr}
use Rattle.uc_syntax.specs.declared.expression.Expr.TheViews.{out-Expr}
use Rattle.uc_meaning.specs.Cells.{as_list}
use Rattle.uc_meaning.specs.Code.{name_form}
use Rattle.uc_meaning.specs.Lookup.{InstanceParts, first_some, is_named, or_else, some_if}
use Rattle.uc_rules.specs.Names.{only_if}
use Rattle.uc_order_rules.specs.Writes.{Part, outer_name, outer_part, part_of_name, stepped_parts}
use Rattle.uc_module_writes.specs.declared.outer.OuterNames.{OuterNames}
use Rattle.uc_module_writes.specs.Outer.{IsOuter, flat, outer_part_by}

abbrev pub name_bound : Binding → Option ℕ
name_bound b = name_form (out-Expr b.expression)

abbrev form_of : Expr → Option ℕ
form_of e = name_form (out-Expr e)

-- what the first of some bindings to a name gives
abbrev pub first_bound : ℕ → List Binding → Option (Option ℕ)
first_bound x bs = first_some (λ b. only_if (nat_eq b.identifier.name x) (Some (name_bound b))) bs

-- A table has the first of the bindings before place k.
abbrev pub BoundTo : (ℕ → Option (Option ℕ)) → List Binding → ℕ → Type 0
BoundTo table bs k = (x : ℕ) → table x ≡ first_bound x (take k bs)

or_none : {B : Type 0} (o : Option B) → or_else o None ≡ o
or_none None = refl
or_none (Some y) = refl

or_assoc : {B : Type 0} (a b c : Option B) → or_else (or_else a b) c ≡ or_else a (or_else b c)
or_assoc None b c = refl
or_assoc (Some y) b c = refl

first_push : {A B : Type 0} (f : A → Option B) (xs : List A) (e : A) → first_some f (xs ++ e ∷ []) ≡ or_else (first_some f xs) (f e)
unfolding first_some
first_push f [] e = or_none (f e)
first_push f (x ∷ xs) e = ap (or_else (f x)) (first_push f xs e) ∙ sym (or_assoc (f x) (first_some f xs) (f e))

pub bound_begin : (table : ℕ → Option (Option ℕ)) (bs : List Binding) → ((x : ℕ) → table x ≡ None) → BoundTo table bs 0
unfolding first_some
bound_begin table bs none x = none x ∙ ap (first_bound x) (sym (nothing bs))
  where
    nothing : (bs : List Binding) → take 0 bs ≡ []
    nothing [] = refl
    nothing (b ∷ bs) = refl

pub bound_more : (old new : ℕ → Option (Option ℕ)) (bs : List Binding) (k : ℕ) (b d : Binding) (o : Option ℕ) → BoundTo old bs k → k < length bs → b ≡ get_or bs k d → o ≡ name_bound b →
    ((x : ℕ) → new x ≡ or_else (old x) (only_if (nat_eq b.identifier.name x) (Some o))) → BoundTo new bs (k + 1)
bound_more old new bs k b d o held within at is says x =
    says x
    ∙ (λ j. or_else (held x j) (only_if (nat_eq b.identifier.name x) (Some (is j))))
    ∙ sym (first_push (λ c. only_if (nat_eq c.identifier.name x) (Some (name_bound c))) (take k bs) b)
    ∙ ap (λ c. first_bound x (take k bs ++ c ∷ [])) at
    ∙ sym (ap (first_bound x) (take_more bs k d within))

flat_first : (x : ℕ) (bs : List Binding) → flat (first_bound x bs) ≡ option_and_then form_of (first_some (λ b. some_if (is_named x b.identifier) b.expression) bs)
unfolding first_some
flat_first x [] = refl
flat_first x (b ∷ bs) = by (nat_eq b.identifier.name x) (flat_first x bs)
  where
    by : (c : Bool) → flat (first_bound x bs) ≡ option_and_then form_of (first_some (λ e. some_if (is_named x e.identifier) e.expression) bs) → flat (or_else (only_if c (Some (name_bound b))) (first_bound x bs)) ≡
        option_and_then form_of (or_else (some_if c b.expression) (first_some (λ e. some_if (is_named x e.identifier) e.expression) bs))
    by true rest = refl
    by false rest = rest

-- the table of all bindings is that of the instance
pub bound_all : (table : ℕ → Option (Option ℕ)) (bs : List Binding) (k : ℕ) (i : InstanceParts) → BoundTo table bs k → length bs ≤ k → i.bindings ≡ bs → (x : ℕ) → flat (table x) ≡ outer_name i x
bound_all table bs k i held past is x =
    ap flat (held x ∙ ap (first_bound x) (take_all k bs past))
    ∙ flat_first x bs
    ∙ ap (λ cs. option_and_then form_of (first_some (λ b. some_if (is_named x b.identifier) b.expression) cs)) (sym is)

-- Parts of the parent.

pub outer_as : (t : OuterNames) (i : InstanceParts) → IsOuter t i → (p : Part) → outer_part_by t p ≡ outer_part i p
outer_as t i outer [] = refl
outer_as t i outer (x ∷ fields) = ap (option_map (λ y. y ∷ fields)) (outer x)

filter_as : {A B : Type 0} (f g : A → Option B) (xs : List A) → ((x : A) → f x ≡ g x) → filter_map f xs ≡ filter_map g xs
filter_as f g [] h = refl
filter_as f g (x ∷ xs) h = (λ k. cons_option (h x k) (filter_as f g xs h k))

any_as : {A : Type 0} (f g : A → Bool) (xs : List A) → ((x : A) → f x ≡ g x) → list_any f xs ≡ list_any g xs
any_as f g [] h = refl
any_as f g (x ∷ xs) h = (λ k. h x k || any_as f g xs h k)

joined_one : {B : Type 0} (o : Option B) (ys zs : List B) → ys ≡ zs → as_list o ++ ys ≡ cons_option o zs
joined_one None ys zs e = e
joined_one (Some y) ys zs e = ap (λ us. y ∷ us) e

filter_flat : {A B : Type 0} (f : A → Option B) (xs : List A) → flat_map (λ x. as_list (f x)) xs ≡ filter_map f xs
filter_flat f [] = refl
filter_flat f (x ∷ xs) = joined_one (f x) (flat_map (λ y. as_list (f y)) xs) (filter_map f xs) (filter_flat f xs)

module _ (t : OuterNames) (instance : ℕ) (parts named own stepped : List Part) (b : Bool) (named-is : named ≡ flat_map (λ p. as_list (outer_part_by t p)) parts) (b-is : b ≡ list_any (λ p. not (is_some (outer_part_by t p))) parts)
    (own-is : own ≡ (if b then part_of_name instance ∷ [] else [])) (stepped-is : stepped ≡ named ++ own) where
  pub all_stepped : (i : InstanceParts) → IsOuter t i → i.name ≡ instance → stepped ≡ stepped_parts i parts
  all_stepped i outer same =
      let inside = b-is ∙ any_as (λ p. not (is_some (outer_part_by t p))) (λ p. not (is_some (outer_part i p))) parts (λ p. ap (λ o. not (is_some o)) (outer_as t i outer p)) in
      stepped-is
      ∙ (λ k. (named-is ∙ filter_flat (outer_part_by t) parts ∙ filter_as (outer_part_by t) (outer_part i) parts (outer_as t i outer)) k ++ (own-is ∙ (λ j. if inside j then part_of_name (sym same j) ∷ [] else [])) k)
