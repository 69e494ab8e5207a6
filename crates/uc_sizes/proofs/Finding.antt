-- The first instance of a module.
use Rattle.std.proofs.Common.{◌≡◌, ℕ, zero, suc, ◌+◌, ◌<◌, ◌≤◌, Bool, true, false, List, [], ◌∷◌, ◌++◌, length, drop, map, get_or, Option, Some, None, refl, ap, ◌∙◌, sym, arith}
use Rattle.std.specs.Prelude.{nat_eq, is_some, cond, ◌||◌, if◌then◌else◌, unwrap_or}
use Rattle.std.specs.List.{filter_map, cons_option, flat_map, list_any}
use Rattle.std.proofs.lemmas.List.{drop_all}
use Rattle.uc_rules.proofs.Lists.{drop_turn}
use Rattle.uc_syntax.specs.declared.expression.Expr.{Expr}
use Rattle.uc_syntax.specs.declared.declaration.Decl.{Decl}
use Rattle.uc_syntax.specs.declared.declaration.Module.{Module}
use Rattle.uc_syntax.proofs.Added.{append_nil}
use Rattle.uc_meaning.specs.Lookup.{System, InstanceParts, axiom_in, first_some, instance_in, main_module, module_named, or_else}
use Rattle.uc_meaning.specs.Cells.{InstanceAt, as_list, instances, instances_from, longest_chain, main_instance}
use Rattle.uc_order_rules.specs.Roots.{instances_in}
use Rattle.uc_order_rules.specs.Sizes.{axiom_nodes, first_path, nodes, size, total}
use Rattle.uc_uses.specs.Counting.{inside, instances_by, instances_of_main, instances_with}
use Rattle.uc_uses.proofs.InstanceCountsWalks.{instances_more}
use Rattle.uc_sizes.specs.Expanding.{IsHere, expression_sizes, first_place, place_inside, used_axioms}

place_turn : (name : ℕ) (i : InstanceAt) (is js : List InstanceAt) (b : Bool) → first_place name (is ++ js) ≡ or_else (first_place name is) (first_place name js) →
    cond b (Some i.path) (first_place name (is ++ js)) ≡ or_else (cond b (Some i.path) (first_place name is)) (first_place name js)
place_turn name i is js true h = refl
place_turn name i is js false h = h

place_join : (name : ℕ) (is js : List InstanceAt) → first_place name (is ++ js) ≡ or_else (first_place name is) (first_place name js)
unfolding first_place
place_join name [] js = refl
place_join name (i ∷ is) js = place_turn name i is js (nat_eq i.code.name name) (place_join name is js)

place_flat : (name n : ℕ) (s : System) (here : InstanceAt) (ds : List Decl) → first_place name (flat_map (λ d. instances_by n s here (instance_in d)) ds) ≡ first_some (place_inside name n s here) ds
unfolding first_place first_some
place_flat name n s here [] = refl
place_flat name n s here (d ∷ ds) =
    place_join name (instances_by n s here (instance_in d)) (flat_map (λ e. instances_by n s here (instance_in e)) ds) ∙ ap (or_else (place_inside name n s here d)) (place_flat name n s here ds)

pub place_none : (name n : ℕ) (s : System) (here : InstanceAt) → n ≡ 0 → None ≡ first_place name (instances_from n s here)
unfolding instances_from first_place
place_none name n s here is = sym (ap (λ k. first_place name (instances_from k s here)) is)

place_more : (name n m : ℕ) (s : System) (here : InstanceAt) → n ≡ suc m → first_place name (instances_from n s here) ≡ cond (nat_eq here.code.name name) (Some here.path) (first_some (place_inside name m s here) here.code.decls)
unfolding first_place
place_more name n m s here is =
    ap (λ k. first_place name (instances_from k s here)) is ∙ ap (first_place name) (instances_more m s here) ∙ ap (cond (nat_eq here.code.name name) (Some here.path)) (place_flat name m s here here.code.decls)

pub place_here : (name n m : ℕ) (s : System) (path : List ℕ) (code : Module) (here : InstanceAt) (found : List ℕ) → n ≡ suc m → IsHere path code here → code.name ≡ name → found ≡ path → Some found ≡ first_place name (instances_from n s here)
place_here name n m s path code here found is at same there =
    let hit : nat_eq here.code.name name ≡ true = let e = ap (λ (k : Module). k.name) at.code in grind (arith, e, same) in
    ap Some (there ∙ sym at.path) ∙ sym (place_more name n m s here is ∙ ap (λ b. cond b (Some here.path) (first_some (place_inside name m s here) here.code.decls)) hit)

pub place_away : (name n m : ℕ) (s : System) (path : List ℕ) (code : Module) (here : InstanceAt) (ds : List Decl) (o : Option (List ℕ)) → n ≡ suc m → IsHere path code here → (code.name ≡ name → ⊥) → ds ≡ code.decls →
    o ≡ first_some (place_inside name m s here) ds → o ≡ first_place name (instances_from n s here)
place_away name n m s path code here ds o is at other same found =
    let miss : nat_eq here.code.name name ≡ false = let e = ap (λ (k : Module). k.name) at.code in grind (arith, e, other) in
    found ∙ ap (first_some (place_inside name m s here)) (same ∙ sym (ap (λ (k : Module). k.decls) at.code))
    ∙ sym (place_more name n m s here is ∙ ap (λ b. cond b (Some here.path) (first_some (place_inside name m s here) here.code.decls)) miss)

pub inside_none : (name n : ℕ) (s : System) (here : InstanceAt) (d : Decl) → None ≡ instance_in d → None ≡ place_inside name n s here d
unfolding first_place
inside_none name n s here d is = ap (λ o. first_place name (instances_by n s here o)) is

pub inside_lost : (name n : ℕ) (s : System) (here : InstanceAt) (d : Decl) (i : InstanceParts) → Some i ≡ instance_in d → None ≡ module_named s i.module_name → None ≡ place_inside name n s here d
unfolding first_place
inside_lost name n s here d i is none = ap (λ o. first_place name (instances_with n s here i o)) none ∙ ap (λ o. first_place name (instances_by n s here o)) is

pub inside_is : (name n : ℕ) (s : System) (here : InstanceAt) (d : Decl) (i : InstanceParts) (m : Module) → Some i ≡ instance_in d → Some m ≡ module_named s i.module_name →
    first_place name (instances_from n s (inside here i m)) ≡ place_inside name n s here d
inside_is name n s here d i m is some = ap (λ o. first_place name (instances_with n s here i o)) some ∙ ap (λ o. first_place name (instances_by n s here o)) is

pub main_none : (name n : ℕ) (s : System) → None ≡ main_module s → None ≡ first_place name (instances_of_main n s)
unfolding first_place
main_none name n s none = ap (λ o. first_place name (flat_map (λ m. instances_from n s (main_instance m)) (as_list o))) none

pub main_is : (name n : ℕ) (s : System) (m : Module) → Some m ≡ main_module s → first_place name (instances_from n s (main_instance m)) ≡ first_place name (instances_of_main n s)
main_is name n s m some =
    ap (first_place name) (sym (append_nil (instances_from n s (main_instance m)))) ∙ ap (λ o. first_place name (flat_map (λ k. instances_from n s (main_instance k)) (as_list o))) some

-- what is found of a module
any_turn : (b : Bool) (path : List ℕ) (c : Bool) (o : Option (List ℕ)) → c ≡ is_some o → (b || c) ≡ is_some (cond b (Some path) o)
any_turn true path c o h = refl
any_turn false path c o h = h

any_place : (name : ℕ) (is : List InstanceAt) → list_any (λ i. nat_eq i.code.name name) is ≡ is_some (first_place name is)
unfolding first_place
any_place name [] = refl
any_place name (i ∷ is) = any_turn (nat_eq i.code.name name) i.path (list_any (λ j. nat_eq j.code.name name) is) (first_place name is) (any_place name is)

path_turn : (b : Bool) (path other : List ℕ) (o : Option (List ℕ)) → other ≡ unwrap_or o [] → cond b path other ≡ unwrap_or (cond b (Some path) o) []
path_turn true path other o h = refl
path_turn false path other o h = h

path_is : (name : ℕ) (is : List InstanceAt) → first_path name is ≡ unwrap_or (first_place name is) []
unfolding first_place
path_is name [] = refl
path_is name (i ∷ is) = path_turn (nat_eq i.code.name name) i.path (first_path name is) (first_place name is) (path_is name is)

pub not_used : (s : System) (m : Module) (b : Bool) → b ≡ is_some (first_place m.name (instances_of_main longest_chain s)) → b ≡ false → used_axioms s m ≡ size 0 0
unfolding instances
not_used s m b is away = ap (λ c. cond c (size 0 (axiom_nodes s m)) (size 0 0)) (any_place m.name (instances_of_main longest_chain s) ∙ sym is ∙ away)

pub used_at : (s : System) (m : Module) (b : Bool) (path shown : List ℕ) (ds : List Decl) → b ≡ is_some (first_place m.name (instances_of_main longest_chain s)) → b ≡ true →
    path ≡ unwrap_or (first_place m.name (instances_of_main (suc (length s.modules)) s)) [] → shown ≡ path → ds ≡ m.decls → used_axioms s m ≡ expression_sizes s shown (filter_map axiom_in ds)
unfolding instances instances_in
used_at s m b path shown ds is some at same all =
    ap (λ c. cond c (size 0 (axiom_nodes s m)) (size 0 0)) (any_place m.name (instances_of_main longest_chain s) ∙ sym is ∙ some)
    ∙ ap (λ q. expression_sizes s q (filter_map axiom_in m.decls)) (path_is m.name (instances_of_main (suc (length s.modules)) s) ∙ sym at ∙ sym same)
    ∙ ap (λ xs. expression_sizes s shown (filter_map axiom_in xs)) (sym all)

axioms_turn : (o : Option Expr) (c : Bool) (es : List Expr) → (c ≡ false → es ≡ []) → (is_some o || c) ≡ false → cons_option o es ≡ []
axioms_turn None c es h k = h k
axioms_turn (Some x) c es h k = absurd cc

no_axioms : (ds : List Decl) → list_any (λ d. is_some (axiom_in d)) ds ≡ false → filter_map axiom_in ds ≡ []
no_axioms [] h = refl
no_axioms (d ∷ ds) h = axioms_turn (axiom_in d) (list_any (λ e. is_some (axiom_in e)) ds) (filter_map axiom_in ds) (no_axioms ds) h

pub without_axioms : (s : System) (m : Module) (ds : List Decl) (b : Bool) → b ≡ list_any (λ d. is_some (axiom_in d)) ds → b ≡ false → ds ≡ m.decls → used_axioms s m ≡ size 0 0
without_axioms s m ds b is away same =
    ap (λ es. if list_any (λ i. nat_eq i.code.name m.name) (instances s) then size 0 (total (map (nodes s (first_path m.name (instances_in s))) es)) else size 0 0) (ap (filter_map axiom_in) (sym same) ∙ no_axioms ds (sym is ∙ away))
    ∙ by (list_any (λ i. nat_eq i.code.name m.name) (instances s))
  where
    by : (c : Bool) → cond c (size 0 0) (size 0 0) ≡ size 0 0
    by true = refl
    by false = refl

-- The first place found declaration by declaration.

kept : (o p : Option (List ℕ)) → is_some o ≡ true → or_else o p ≡ o
kept (Some x) p h = refl
kept None p h = absurd cc

passed : (o p : Option (List ℕ)) → is_some o ≡ false → or_else o p ≡ p
passed (Some x) p h = absurd cc
passed None p h = refl

pub record NoneUpTo (name n : ℕ) (s : System) (here : InstanceAt) (ds : List Decl) (k : ℕ) : Type 0 where
  pub rest : first_some (place_inside name n s here) (drop k ds) ≡ first_some (place_inside name n s here) ds

pub none_begin : (name n : ℕ) (s : System) (here : InstanceAt) (ds : List Decl) → NoneUpTo name n s here ds 0
none_begin name n s here ds = record { rest = refl }

module _ (name n : ℕ) (s : System) (here : InstanceAt) (ds : List Decl) (k : ℕ) (d x : Decl) (o : Option (List ℕ)) (held : NoneUpTo name n s here ds k) (within : k < length ds) (at : d ≡ get_or ds k x) (found : o ≡ place_inside name n s here d) where
  turn : first_some (place_inside name n s here) ds ≡ or_else o (first_some (place_inside name n s here) (drop (k + 1) ds))
  unfolding first_some
  turn = sym held.rest ∙ ap (first_some (place_inside name n s here)) (drop_turn ds k d x within at) ∙ ap (λ p. or_else p (first_some (place_inside name n s here) (drop (k + 1) ds))) (sym found)

  pub none_found : is_some o ≡ true → o ≡ first_some (place_inside name n s here) ds
  none_found some = sym (turn ∙ kept o (first_some (place_inside name n s here) (drop (k + 1) ds)) some)

  pub none_more : is_some o ≡ false → NoneUpTo name n s here ds (k + 1)
  none_more none = record { rest = sym (turn ∙ passed o (first_some (place_inside name n s here) (drop (k + 1) ds)) none) }

pub none_end : (name n : ℕ) (s : System) (here : InstanceAt) (ds : List Decl) (k : ℕ) → NoneUpTo name n s here ds k → length ds ≤ k → None ≡ first_some (place_inside name n s here) ds
unfolding first_some
none_end name n s here ds k held past = sym (ap (first_some (place_inside name n s here)) (drop_all k ds past)) ∙ held.rest
