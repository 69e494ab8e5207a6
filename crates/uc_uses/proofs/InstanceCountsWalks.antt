-- Instances, in terms of those inside them.
use Rattle.std.proofs.Common.{◌≡◌, ℕ, zero, suc, ◌+◌, ◌-◌, List, [], ◌∷◌, ◌++◌, length, map, Option, Some, None, true, refl, ap, ◌∙◌, sym, arith}
use Rattle.std.specs.Prelude.{is_some}
use Rattle.std.specs.List.{flat_map, filter_map, cons_option}
use Rattle.std.proofs.lemmas.Grind.{flat_map-append}
use Rattle.uc_syntax.specs.declared.declaration.Decl.{Decl}
use Rattle.uc_syntax.specs.declared.declaration.Module.{Module}
use Rattle.uc_syntax.proofs.Added.{append_nil}
use Rattle.uc_meaning.specs.Lookup.{System, InstanceParts, first_some, instance_in, is_named, main_module, module_named, some_if}
use Rattle.uc_meaning.specs.Cells.{InstanceAt, as_list, cells_in, cells_of, instances, instances_below, instances_from, longest_chain, main_instance, module_of_instance}
use Rattle.uc_order_rules.specs.Roots.{instances_in}
use Rattle.uc_order_rules.specs.Sizes.{total}
use Rattle.uc_uses.specs.declared.counts.Counted.{Counted}
use Rattle.uc_uses.specs.declared.counts.Counted.TheVariants.{Instances, Cells}
use Rattle.uc_uses.specs.declared.counts.Place.{Place}
use Rattle.uc_uses.specs.Counting.{IsPlace, all_own, cell_count, inside, instances_by, instances_of_main, instances_with, own, own_inside}
use Rattle.uc_uses.proofs.Counting.{length_flat, total_flat}

module _ (n : ℕ) (s : System) (here : InstanceAt) where
  step_module : (i : InstanceParts) (o : Option Module) → flat_map (instances_from n s) (map (λ m. inside here i m) (as_list o)) ≡ instances_with n s here i o
  step_module i None = refl
  step_module i (Some m) = append_nil (instances_from n s (inside here i m))

  abbrev inner : InstanceParts → List InstanceAt
  inner i = map (λ m. inside here i m) (module_of_instance s i)

  step_instance : (o : Option InstanceParts) (is : List InstanceParts) →
      flat_map (instances_from n s) (flat_map inner (cons_option o is)) ≡ instances_by n s here o ++ flat_map (instances_from n s) (flat_map inner is)
  step_instance None is = refl
  step_instance (Some i) is =
      flat_map-append (instances_from n s) (inner i) (flat_map inner is)
      ∙ ap (λ ys. ys ++ flat_map (instances_from n s) (flat_map inner is)) (step_module i (module_named s i.module_name))

  below_all : (ds : List Decl) → flat_map (instances_from n s) (flat_map inner (filter_map instance_in ds)) ≡ flat_map (λ d. instances_by n s here (instance_in d)) ds
  below_all [] = refl
  below_all (d ∷ ds) = step_instance (instance_in d) (filter_map instance_in ds) ∙ ap (λ ys. instances_by n s here (instance_in d) ++ ys) (below_all ds)

pub instances_more : (n : ℕ) (s : System) (here : InstanceAt) → instances_from (suc n) s here ≡ here ∷ flat_map (λ d. instances_by n s here (instance_in d)) here.code.decls
unfolding instances_from
instances_more n s here = ap (λ ys. here ∷ ys) (below_all n s here here.code.decls)

pub no_depth : (counted : Counted) (n : ℕ) (s : System) (here : InstanceAt) → n ≡ 0 → all_own counted s (instances_from n s here) ≡ 0
unfolding instances_from
no_depth counted n s here is = ap (λ k. all_own counted s (instances_from k s here)) is

pub own_more : (counted : Counted) (n m : ℕ) (s : System) (here : InstanceAt) (ds : List Decl) → n ≡ suc m → ds ≡ here.code.decls →
    all_own counted s (instances_from n s here) ≡ own counted s here + total (map (own_inside counted m s here) ds)
own_more counted n m s here ds is same =
    ap (λ k. all_own counted s (instances_from k s here)) is ∙ ap (all_own counted s) (instances_more m s here)
    ∙ ap (λ k. own counted s here + k) (total_flat (own counted s) (λ d. instances_by m s here (instance_in d)) here.code.decls)
    ∙ ap (λ xs. own counted s here + total (map (own_inside counted m s here) xs)) (sym same)

pub inside_none : (counted : Counted) (n : ℕ) (s : System) (here : InstanceAt) (d : Decl) → None ≡ instance_in d → own_inside counted n s here d ≡ 0
inside_none counted n s here d is = ap (λ o. all_own counted s (instances_by n s here o)) (sym is)

pub inside_lost : (counted : Counted) (n : ℕ) (s : System) (here : InstanceAt) (d : Decl) (i : InstanceParts) → Some i ≡ instance_in d → None ≡ module_named s i.module_name → own_inside counted n s here d ≡ 0
inside_lost counted n s here d i is none = ap (λ o. all_own counted s (instances_by n s here o)) (sym is) ∙ ap (λ o. all_own counted s (instances_with n s here i o)) (sym none)

pub inside_is : (counted : Counted) (n : ℕ) (s : System) (here : InstanceAt) (d : Decl) (i : InstanceParts) (m : Module) → Some i ≡ instance_in d → Some m ≡ module_named s i.module_name →
    own_inside counted n s here d ≡ all_own counted s (instances_from n s (inside here i m))
inside_is counted n s here d i m is some = ap (λ o. all_own counted s (instances_by n s here o)) (sym is) ∙ ap (λ o. all_own counted s (instances_with n s here i o)) (sym some)

pub main_none : (counted : Counted) (n : ℕ) (s : System) → None ≡ main_module s → all_own counted s (instances_of_main n s) ≡ 0
main_none counted n s none = ap (λ o. all_own counted s (flat_map (λ m. instances_from n s (main_instance m)) (as_list o))) (sym none)

pub main_is : (counted : Counted) (n : ℕ) (s : System) (m : Module) → Some m ≡ main_module s → all_own counted s (instances_of_main n s) ≡ all_own counted s (instances_from n s (main_instance m))
main_is counted n s m some =
    ap (λ o. all_own counted s (flat_map (λ k. instances_from n s (main_instance k)) (as_list o))) (sym some) ∙ ap (all_own counted s) (append_nil (instances_from n s (main_instance m)))

pub place_of_main : (p : Place) (m : Module) → p.code.now ≡ m → p.bindings.now ≡ [] → true ≡ p.is_main → IsPlace p (main_instance m)
unfolding first_some
place_of_main p m code none main = record {
  code = sym code;
  main = main;
  bound = λ x. ap (λ bs. is_some (first_some (λ b. some_if (is_named x b.identifier) b.expression) bs)) (sym none);
}

ones : (s : System) (is : List InstanceAt) → all_own Instances s is ≡ length is
ones s [] = refl
ones s (i ∷ is) = let e = ones s is in omega (arith, e)

pub instances_are : (n : ℕ) (s : System) → n ≡ suc (length s.modules) → all_own Instances s (instances_of_main n s) ≡ length (instances_in s)
unfolding instances_in
instances_are n s is = ap (λ k. all_own Instances s (instances_of_main k s)) is ∙ ones s (instances_of_main (suc (length s.modules)) s)

each_cells : (s : System) (is : List InstanceAt) → total (map (λ here. length (flat_map (cells_in s here) here.code.decls)) is) ≡ all_own Cells s is
each_cells s [] = refl
each_cells s (i ∷ is) = (λ k. length_flat (cells_in s i) i.code.decls k + each_cells s is k)

pub cells_are : (s : System) → all_own Cells s (instances_of_main longest_chain s) ≡ length (cells_of s)
unfolding cells_of instances
cells_are s = sym (length_flat (λ here. flat_map (cells_in s here) here.code.decls) (instances_of_main longest_chain s) ∙ each_cells s (instances_of_main longest_chain s))

pub decls_are : (p : Place) (here : InstanceAt) (ds : List Decl) → IsPlace p here → ds ≡ p.code.now.decls → here.code.decls ≡ ds
decls_are p here ds is same = ap (λ (m : Module). m.decls) is.code ∙ sym same
