-- What is listed of instances, in terms of what is listed of those inside them.
use Rattle.std.proofs.Common.{◌≡◌, ℕ, zero, suc, ◌+◌, ◌-◌, List, [], ◌∷◌, ◌++◌, map, Option, Some, None, refl, ap, ◌∙◌, sym, arith, append_assoc}
use Rattle.std.specs.Prelude.{is_some}
use Rattle.std.specs.List.{flat_map, filter_map, cons_option}
use Rattle.std.proofs.lemmas.Grind.{flat_map-append}
use Rattle.uc_syntax.specs.declared.declaration.Binding.{Binding}
use Rattle.uc_syntax.specs.declared.declaration.Decl.{Decl}
use Rattle.uc_syntax.specs.declared.declaration.Module.{Module}
use Rattle.uc_syntax.proofs.Added.{append_nil}
use Rattle.uc_syntax.proofs.Labels.{flat_flat}
use Rattle.uc_meaning.specs.Lookup.{System, InstanceParts, first_some, some_if, is_named, instance_in, module_named, main_module}
use Rattle.uc_meaning.specs.Cells.{InstanceAt, instances, instances_from, instances_below, module_of_instance, main_instance, as_list, longest_chain}
use Rattle.uc_layout.specs.Listing.{walk, walk_inside, walk_instance, below, inside, listed}

module _ {A : Type 0} (f : InstanceAt → List A) (n : ℕ) (s : System) (here : InstanceAt) where
  module_step : (i : InstanceParts) (o : Option Module) → flat_map (walk f n s) (map (λ m. inside here i m) (as_list o)) ≡ walk_inside f n s here i o
  module_step i None = refl
  module_step i (Some m) = append_nil (walk f n s (inside here i m))

  abbrev inner : InstanceParts → List InstanceAt
  inner i = map (λ m. inside here i m) (module_of_instance s i)

  instance_step : (o : Option InstanceParts) (is : List InstanceParts) →
      flat_map (walk f n s) (flat_map inner (cons_option o is)) ≡ walk_instance f n s here o ++ flat_map (walk f n s) (flat_map inner is)
  instance_step None is = refl
  instance_step (Some i) is =
      flat_map-append (walk f n s) (inner i) (flat_map inner is)
      ∙ ap (λ ys. ys ++ flat_map (walk f n s) (flat_map inner is)) (module_step i (module_named s i.module_name))

  below_all : (ds : List Decl) → flat_map (walk f n s) (flat_map inner (filter_map instance_in ds)) ≡ flat_map (below f n s here) ds
  below_all [] = refl
  below_all (d ∷ ds) = instance_step (instance_in d) (filter_map instance_in ds) ∙ ap (λ ys. walk_instance f n s here (instance_in d) ++ ys) (below_all ds)

walk_more : {A : Type 0} (f : InstanceAt → List A) (n : ℕ) (s : System) (here : InstanceAt) → walk f (suc n) s here ≡ f here ++ flat_map (below f n s here) here.code.decls
unfolding instances_from
walk_more f n s here =
    ap (λ ys. f here ++ ys) (flat_flat f (instances_from n s) (instances_below s here) ∙ below_all f n s here here.code.decls)

pub walked_none : {A : Type 0} (f : InstanceAt → List A) (n : ℕ) (s : System) (here : InstanceAt) (xs : List A) → n ≡ 0 → xs ≡ xs ++ walk f n s here
unfolding instances_from
walked_none f n s here xs is = sym (ap (λ m. xs ++ walk f m s here) is ∙ append_nil xs)

walked_suc : {A : Type 0} (f : InstanceAt → List A) (n m : ℕ) (s : System) (here : InstanceAt) (old one now : List A) → n ≡ suc m → one ≡ old ++ f here →
    now ≡ one ++ flat_map (below f m s here) here.code.decls → now ≡ old ++ walk f n s here
walked_suc f n m s here old one now is first second =
    second ∙ ap (λ ys. ys ++ flat_map (below f m s here) here.code.decls) first ∙ append_assoc old (f here) (flat_map (below f m s here) here.code.decls)
    ∙ ap (λ ys. old ++ ys) (sym (ap (λ k. walk f k s here) is ∙ walk_more f m s here))

pub walked_all : {A : Type 0} (f : InstanceAt → List A) (n : ℕ) (s : System) (here : InstanceAt) (old one now : List A) → (n ≡ 0 → ⊥) → one ≡ old ++ f here →
    now ≡ one ++ flat_map (below f (n - 1) s here) here.code.decls → now ≡ old ++ walk f n s here
walked_all f n s here old one now some first second = walked_suc f n (n - 1) s here old one now (omega (arith, some)) first second

pub no_instance : {A : Type 0} (f : InstanceAt → List A) (n : ℕ) (s : System) (here : InstanceAt) (d : Decl) (xs : List A) → None ≡ instance_in d → xs ≡ xs ++ below f n s here d
no_instance f n s here d xs none = sym (ap (λ o. xs ++ walk_instance f n s here o) (sym none) ∙ append_nil xs)

pub one_instance : {A : Type 0} (f : InstanceAt → List A) (n : ℕ) (s : System) (here : InstanceAt) (d : Decl) (i : InstanceParts) (xs ys : List A) → Some i ≡ instance_in d →
    ys ≡ xs ++ walk_instance f n s here (Some i) → ys ≡ xs ++ below f n s here d
one_instance f n s here d i xs ys some is = is ∙ ap (λ o. xs ++ walk_instance f n s here o) some

pub no_module : {A : Type 0} (f : InstanceAt → List A) (n : ℕ) (s : System) (here : InstanceAt) (i : InstanceParts) (xs : List A) → None ≡ module_named s i.module_name →
    xs ≡ xs ++ walk_instance f n s here (Some i)
no_module f n s here i xs none = sym (ap (λ o. xs ++ walk_inside f n s here i o) (sym none) ∙ append_nil xs)

pub one_module : {A : Type 0} (f : InstanceAt → List A) (n : ℕ) (s : System) (here : InstanceAt) (i : InstanceParts) (m : Module) (xs ys : List A) → Some m ≡ module_named s i.module_name →
    ys ≡ xs ++ walk f n s (inside here i m) → ys ≡ xs ++ walk_instance f n s here (Some i)
one_module f n s here i m xs ys some is = is ∙ ap (λ o. xs ++ walk_inside f n s here i o) some

-- main has the empty path and binds nothing
pub main_is : (m : Module) → record { path = []; code = m; is_bound = λ x. is_some (first_some (λ (b : Binding). some_if (is_named x b.identifier) b.expression) []) } ≡ main_instance m
unfolding first_some
main_is m = refl

pub listed_main : {A : Type 0} (f : InstanceAt → List A) (s : System) (m : Module) (xs : List A) → Some m ≡ main_module s → xs ≡ walk f longest_chain s (main_instance m) → xs ≡ listed f s
unfolding instances
listed_main f s m xs some is =
    is ∙ ap (flat_map f) (sym (append_nil (instances_from longest_chain s (main_instance m))))
    ∙ ap (λ o. flat_map f (flat_map (λ n. instances_from longest_chain s (main_instance n)) (as_list o))) some

pub listed_none : {A : Type 0} (f : InstanceAt → List A) (s : System) → None ≡ main_module s → [] ≡ listed f s
unfolding instances
listed_none f s none = ap (λ o. flat_map f (flat_map (λ n. instances_from longest_chain s (main_instance n)) (as_list o))) none
