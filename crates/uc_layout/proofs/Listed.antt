-- What instances and cells that are listed one after another stand for.
use Rattle.std.proofs.Common.{◌≡◌, ℕ, suc, ◌-◌, List, [], ◌∷◌, ◌++◌, map, length, Option, Some, None, Bool, true, false, ◌||◌, refl, sym, ap, ◌∙◌, subst, append_assoc, arith}
use Rattle.std.specs.Prelude.{cond, if◌then◌else◌, is_some, Result, Ok, Err, IfOk, OnOk, replicate}
use Rattle.std.specs.List.{flat_map, filter, filter_map, list_any, cons_option}
use Rattle.std.proofs.lemmas.List.{map-append}
use Rattle.uc_lexer.specs.declared.place.Place.{Place}
use Rattle.uc_syntax.specs.declared.place.Identifier.{Identifier}
use Rattle.uc_syntax.specs.declared.type_expression.TypeExpr.{TypeExpr}
use Rattle.uc_syntax.specs.declared.declaration.VariableKind.{VariableKind}
use Rattle.uc_syntax.specs.declared.declaration.Binding.{Binding}
use Rattle.uc_syntax.specs.declared.declaration.VariableKind.TheVariants.{Constant}
use Rattle.uc_syntax.specs.declared.declaration.Decl.{Decl}
use Rattle.uc_syntax.specs.declared.declaration.Decl.TheVariants.{Variables}
use Rattle.uc_syntax.specs.declared.declaration.Module.{Module}
use Rattle.uc_syntax.proofs.Added.{append_nil}
use Rattle.uc_meaning.specs.Lookup.{System, InstanceParts, first_some, some_if, is_named, instance_in, main_module}
use Rattle.uc_meaning.specs.Types.{type_of_written}
use Rattle.uc_meaning.specs.Cells.{InstanceAt, Cell as CellMeant, instances, instances_from, instances_below, main_instance, as_list, longest_chain, is_cell}
use Rattle.uc_meaning.proofs.Equations.{map-map}
use Rattle.uc_layout.specs.Instances.{declared_in, named_cell}
use Rattle.uc_layout.specs.InstancesSymbols.{constants_typed}

-- one more that stands for what is added
pub pushed : {A B : Type 0} (g : A → B) (old now : List A) (x : A) (y : B) → now ≡ old ++ x ∷ [] → g x ≡ y → map g now ≡ map g old ++ y ∷ []
pushed g old now x y is same = ap (map g) is ∙ map-append g old (x ∷ []) ∙ ap (λ z. map g old ++ z ∷ []) same

pub added_none : {B : Type 0} (xs ys : List B) → ys ≡ [] → xs ≡ xs ++ ys
added_none xs ys none = sym (ap (λ zs. xs ++ zs) none ∙ append_nil xs)

-- main has the empty path and binds nothing
abbrev pub main_at : Module → List ℕ → InstanceAt
main_at m path = record { path = path; code = m; is_bound = λ x. is_some (first_some (λ (b : Binding). some_if (is_named x b.identifier) b.expression) []) }

pub main_is : (m : Module) → main_at m [] ≡ main_instance m
unfolding first_some
main_is m = refl

pub flat_of_map : {A B C : Type 0} (f : B → List C) (g : A → B) (xs : List A) → flat_map (λ x. f (g x)) xs ≡ flat_map f (map g xs)
flat_of_map f g [] = refl
flat_of_map f g (x ∷ xs) = ap (λ ys. f (g x) ++ ys) (flat_of_map f g xs)

module _ (s : System) (here : InstanceAt) where
  abbrev inner : InstanceParts → List InstanceAt
  inner i = declared_in s here (Some i)

  inner_step : (o : Option InstanceParts) (is : List InstanceParts) → flat_map inner (cons_option o is) ≡ declared_in s here o ++ flat_map inner is
  inner_step None is = refl
  inner_step (Some i) is = refl

  pub below_all : (ds : List Decl) → flat_map (λ d. declared_in s here (instance_in d)) ds ≡ flat_map inner (filter_map instance_in ds)
  below_all [] = refl
  below_all (d ∷ ds) = ap (λ ys. declared_in s here (instance_in d) ++ ys) (below_all ds) ∙ sym (inner_step (instance_in d) (filter_map instance_in ds))

-- instances on chains of at most n modules
pub from_none : (n : ℕ) (s : System) (here : InstanceAt) (xs : List InstanceAt) → n ≡ 0 → xs ≡ xs ++ instances_from n s here
unfolding instances_from
from_none n s here xs is = added_none xs (instances_from n s here) (ap (λ m. instances_from m s here) is)

from_suc : (n m : ℕ) (s : System) (here : InstanceAt) (old one now : List InstanceAt) → n ≡ suc m → one ≡ old ++ here ∷ [] →
    now ≡ one ++ flat_map (instances_from m s) (instances_below s here) → now ≡ old ++ instances_from n s here
unfolding instances_from
from_suc n m s here old one now is first second =
    second ∙ ap (λ ys. ys ++ flat_map (instances_from m s) (instances_below s here)) first
    ∙ append_assoc old (here ∷ []) (flat_map (instances_from m s) (instances_below s here))
    ∙ sym (ap (λ k. old ++ instances_from k s here) is)

pub from_some : (n : ℕ) (s : System) (here : InstanceAt) (old one now : List InstanceAt) → (n ≡ 0 → ⊥) → one ≡ old ++ here ∷ [] →
    now ≡ one ++ flat_map (instances_from (n - 1) s) (instances_below s here) → now ≡ old ++ instances_from n s here
from_some n s here old one now some first second = from_suc n (n - 1) s here old one now (omega (arith, some)) first second

pub all_main : (s : System) (m : Module) (xs : List InstanceAt) → Some m ≡ main_module s → xs ≡ [] ++ instances_from longest_chain s (main_instance m) → xs ≡ instances s
unfolding instances
all_main s m xs some is =
    is ∙ sym (append_nil (instances_from longest_chain s (main_instance m)))
    ∙ ap (λ o. flat_map (λ n. instances_from longest_chain s (main_instance n)) (as_list o)) some

pub all_none : (s : System) → None ≡ main_module s → [] ≡ instances s
unfolding instances
all_none s none = ap (λ o. flat_map (λ n. instances_from longest_chain s (main_instance n)) (as_list o)) none

-- the cells of the names of a declaration
module _ (s : System) (here : InstanceAt) (kind : VariableKind) (type : TypeExpr) where
  abbrev cell_at_name : Identifier → CellMeant
  cell_at_name i = record { path = here.path; name = i.name; kind = kind; type = type_of_written s here.code type }

  kept : (i : Identifier) (is : List Identifier) (b : Bool) →
      flat_map (λ j. named_cell s here kind type j.name) is ≡ map cell_at_name (filter (λ j. is_cell here kind j.name) is) →
      (if b then cell_at_name i ∷ [] else []) ++ flat_map (λ j. named_cell s here kind type j.name) is
      ≡ map cell_at_name (cond b (i ∷ filter (λ j. is_cell here kind j.name) is) (filter (λ j. is_cell here kind j.name) is))
  kept i is true rest = ap (λ ys. cell_at_name i ∷ ys) rest
  kept i is false rest = rest

  pub named_all : (is : List Identifier) → flat_map (λ i. named_cell s here kind type i.name) is ≡ map cell_at_name (filter (λ i. is_cell here kind i.name) is)
  named_all [] = refl
  named_all (i ∷ is) = kept i is (is_cell here kind i.name) (named_all is)

-- each of some names gives the same
for_each : {A B : Type 0} (y : B) (xs : List A) → replicate (length xs) y ≡ map (λ x. y) xs
for_each y [] = refl
for_each y (x ∷ xs) = ap (λ ys. y ∷ ys) (for_each y xs)

pub each_typed : (s : System) (m : Module) (place : Place) (names : List Identifier) (type : TypeExpr) →
    replicate (length names) (type_of_written s m type) ≡ constants_typed s m (Variables place Constant names type)
each_typed s m place names type =
    for_each (type_of_written s m type) names
    ∙ sym (map-map (λ c. c.type) (λ i. record { symbol = record { module_name = m.name; name = i.name }; type = type_of_written s m type }) names)

-- what passes, one after another
pub passed : {A : Type 0} (p : A → Bool) (xs : List A) → flat_map (λ x. if p x then x ∷ [] else []) xs ≡ filter p xs
passed p [] = refl
passed p (x ∷ xs) = by (p x) (passed p xs)
  where
    by : (b : Bool) → flat_map (λ y. if p y then y ∷ [] else []) xs ≡ filter p xs →
        (if b then x ∷ [] else []) ++ flat_map (λ y. if p y then y ∷ [] else []) xs ≡ cond b (x ∷ filter p xs) (filter p xs)
    by true rest = ap (λ ys. x ∷ ys) rest
    by false rest = rest

pub any_of_map : {A B : Type 0} (p : B → Bool) (g : A → B) (xs : List A) → list_any (λ x. p (g x)) xs ≡ list_any p (map g xs)
any_of_map p g [] = refl
any_of_map p g (x ∷ xs) = ap (λ b. p (g x) || b) (any_of_map p g xs)

pub map_of_flat : {A B C : Type 0} (g : B → C) (f : A → List B) (xs : List A) → flat_map (λ x. map g (f x)) xs ≡ map g (flat_map f xs)
map_of_flat g f [] = refl
map_of_flat g f (x ∷ xs) = ap (λ ys. map g (f x) ++ ys) (map_of_flat g f xs) ∙ sym (map-append g (f x) (flat_map f xs))

pub same_flat : {A B : Type 0} (f g : A → List B) → ((x : A) → f x ≡ g x) → (xs : List A) → flat_map f xs ≡ flat_map g xs
same_flat f g same [] = refl
same_flat f g same (x ∷ xs) = (λ i. same x i ++ same_flat f g same xs i)

pub ok_as : {A E : Type 0} {x y : A} (r : Result A E) → x ≡ y → IfOk r (λ z. z ≡ x) → IfOk r (λ z. z ≡ y)
ok_as {A} {E} {x} r same is = subst (λ v. IfOk r (λ z. z ≡ v)) same is

pub on_ok_as : {A E : Type 0} {P Q : Type 0} (r : Result A E) → (P → Q) → OnOk r P → OnOk r Q
on_ok_as (Ok x) so is = so is
on_ok_as (Err e) so is = is
