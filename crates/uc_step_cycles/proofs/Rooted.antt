-- The tree of a root that is judged.
use Rattle.std.proofs.Common.{◌≡◌, ℕ, zero, suc, ◌<◌, Bool, true, false, List, [], ◌∷◌, map, length, Option, Some, None, refl, ap, sym, subst, ◌∙◌, inl, inr, ⊎_elim, arith}
use Rattle.std.specs.Prelude.{cond, nat_eq, not, slice_get, ◌||◌}
use Rattle.std.specs.List.{find, list_any}
use Rattle.std.specs.Option.{option_and_then}
use Rattle.uc_syntax.specs.declared.declaration.Module.{Module}
use Rattle.uc_meaning.specs.Lookup.{System, InstanceParts, instance_of, instances_of, module_at, module_from, module_named}
use Rattle.uc_rules.specs.Cycles.{instance_steps, instance_steps_from}
use Rattle.uc_declared_types.specs.AliasLaw.{IsAmong}
use Rattle.uc_declared_types.proofs.Along.{any_there}
use Rattle.uc_declared_types.proofs.Among.{find_among}
use Rattle.uc_order_rules.specs.Roots.{rooted}
use Rattle.uc_order_rules.specs.Uses.{UsedInput, has_way}
use Rattle.uc_order_rules.specs.Sizes.{has_deep_chain, has_many_instances}
use Rattle.uc_order_rules.specs.Order.{is_judged}
use Rattle.uc_uses.specs.BoundLaw.{InstancesEnd}
use Rattle.uc_uses.proofs.UseBoundsFollowed.{uses_followed}
use Rattle.uc_uses.specs.declared.tree.InstanceTree.{InstanceTree}
use Rattle.uc_uses.specs.Trees.{IsBelow, IsTree, code_at, node_at}
use Rattle.uc_uses.specs.PathLaw.{NodesHavePaths}
use Rattle.uc_uses.proofs.Paths.{trees_have_paths}
use Rattle.uc_uses.specs.KeptModules.{HasModules}
use Rattle.uc_step_cycles.proofs.Lists.{get_among, none_some, some_same}
use Rattle.uc_step_cycles.proofs.NodePaths.{node_code}
use Rattle.uc_step_cycles.specs.RootTree.{IsRootTree}

clash : {A : Type 0} → true ≡ false → A
clash h = cc

equal : (n m : ℕ) → nat_eq n m ≡ true → n ≡ m
equal n m h = grind (arith, h)

left_false : (b c : Bool) → not (b || c) ≡ true → b ≡ false
left_false true c h = clash (sym h)
left_false false c h = refl

none_passes : {A : Type 0} (f : A → Bool) (xs : List A) (x : A) → list_any f xs ≡ false → IsAmong x xs → f x ≡ false
none_passes f xs x none among = by (f x) refl
  where
    by : (b : Bool) → f x ≡ b → f x ≡ false
    by true e = clash (sym (any_there f xs x among e) ∙ none)
    by false e = e

among_map : {A B : Type 0} (f : A → B) (x : A) (xs : List A) → IsAmong x xs → IsAmong (f x) (map f xs)
unfolding IsAmong
among_map f x [] h = absurd h
among_map f x (y ∷ xs) h = ⊎_elim (λ e. inl (ap f e)) (λ r. inr (among_map f x xs r)) h

found_named : (x : ℕ) (ms : List Module) (m : Module) → find (λ k. nat_eq k.name x) ms ≡ Some m → m.name ≡ x
found_named x [] m h = none_some m h
found_named x (k ∷ ms) m h = by (nat_eq k.name x) refl h (found_named x ms m)
  where
    by : (b : Bool) → nat_eq k.name x ≡ b → cond b (Some k) (find (λ n. nat_eq n.name x) ms) ≡ Some m → (find (λ n. nat_eq n.name x) ms ≡ Some m → m.name ≡ x) → m.name ≡ x
    by true is h more = ap (λ (n : Module). n.name) (sym (some_same k m h)) ∙ equal k.name x is
    by false is h more = more h

-- the module of an instance, and the way on from there
record Enters (s : System) (c : Module) (i : ℕ) (path : List ℕ) (d : Module) : Type 0 where
  parts : InstanceParts
  is : instance_of c i ≡ Some parts
  code : Module
  named : module_named s parts.module_name ≡ Some code
  rest : module_from s code path ≡ Some d

enters : (s : System) (c : Module) (i : ℕ) (path : List ℕ) (d : Module) → module_from s c (i ∷ path) ≡ Some d → Enters s c i path d
unfolding module_from
enters s c i path d h = by (instance_of c i) refl h
  where
    deeper : (p : InstanceParts) → instance_of c i ≡ Some p → (o : Option Module) → module_named s p.module_name ≡ o → option_and_then (λ n. module_from s n path) o ≡ Some d → Enters s c i path d
    deeper p is None named h = none_some d h
    deeper p is (Some e) named h = record { parts = p; is = is; code = e; named = named; rest = h }

    by : (o : Option InstanceParts) → instance_of c i ≡ o → option_and_then (λ n. module_from s n path) (option_and_then (λ p. module_named s p.module_name) o) ≡ Some d → Enters s c i path d
    by None is h = none_some d h
    by (Some p) is h = deeper p is (module_named s p.module_name) refl h

module _ (s : System) (known : InstancesEnd s) (has : HasModules s) (k : ℕ) where
  abbrev K : System
  K = rooted s k

  among_from : (path : List ℕ) (c d : Module) → IsAmong c s.modules → module_from K c path ≡ Some d → IsAmong d s.modules
  unfolding module_from
  among_from [] c d among h = subst (λ m. IsAmong m s.modules) (some_same c d h) among
  among_from (i ∷ path) c d among h =
      let e = enters K c i path d h in
      among_from path e.code d (find_among (λ n. nat_eq n.name e.parts.module_name) s.modules e.code e.named) e.rest

  short_from : (n : ℕ) (path : List ℕ) (c d : Module) → module_named s c.name ≡ Some c → has_way n (instance_steps s) c.name ≡ false → module_from K c path ≡ Some d → length path < n
  unfolding has_way
  short_from zero path c d named short h = clash short
  short_from (suc n) [] c d named short h = omega arith
  short_from (suc n) (i ∷ path) c d named short h =
      let e = enters K c i path d h in
      let of : IsAmong e.parts (instances_of c) = find_among (λ p. nat_eq p.name i) (instances_of c) e.parts e.is in
      let steps : IsAmong e.parts.module_name (instance_steps s c.name) = subst (λ o. IsAmong e.parts.module_name (instance_steps_from o)) (sym named) (among_map (λ (p : InstanceParts). p.module_name) e.parts (instances_of c) of) in
      let name : e.code.name ≡ e.parts.module_name = found_named e.parts.module_name s.modules e.code e.named in
      let less : length path < n =
      short_from n path e.code d (ap (module_named s) name ∙ e.named) (ap (has_way n (instance_steps s)) name ∙ none_passes (has_way n (instance_steps s)) (instance_steps s c.name) e.parts.module_name short steps) e.rest in
      omega (arith, less)

  module _ (m : Module) (at : slice_get s.modules k ≡ Some m) (judged : is_judged (rooted s k, m) ≡ true) (t : InstanceTree) (tree : IsTree (rooted s k) t) where
    paths : NodesHavePaths K t
    paths = trees_have_paths K t m at tree

    from_root : (path : List ℕ) (d : Module) → module_at K path ≡ Some d → module_from K m path ≡ Some d
    from_root path d h = sym (ap (option_and_then (λ c. module_from K c path)) at) ∙ h

    code_among : (j : ℕ) (c : Module) → code_at t j ≡ Some c → IsAmong c s.modules
    code_among j c code =
        let p = paths.reached j c code in
        among_from p.0 m c (get_among s.modules k m at) (from_root p.0 c (sym (paths.codes p.0) ∙ ap (option_and_then (code_at t)) p.1 ∙ code))

    short : (path : List ℕ) (j : ℕ) → node_at t path ≡ Some j → length path < 32
    short path j to =
        let c = node_code K t m at tree path j to in
        short_from 32 path m c.0 (known.alone k m at) (left_false (has_deep_chain (rooted s k) m) (has_many_instances (rooted s k)) judged) (from_root path c.0 (sym (paths.codes path) ∙ ap (option_and_then (code_at t)) to ∙ c.1))

    away : (c : Module) (x : ℕ) → IsAmong c s.modules → (o : Option InstanceParts) → instance_of c x ≡ o → IsBelow K t.nodes (Some None) o → ⊥
    away c x among None is h = h
    away c x among (Some p) is h = has c p among (find_among (λ q. nat_eq q.name x) (instances_of c) p is) h

    pub root_tree : IsRootTree (rooted s k) t
    root_tree = record {
      root = m;
      is_root = at;
      tree = tree;
      alone = λ j c i code among. known.stand c i (code_among j c code) among;
      shallow = short;
      whole = λ j x c code none. away c x (code_among j c code) (instance_of c x) refl (subst (λ o. IsBelow K t.nodes o (instance_of c x)) none (tree.below j x c code));
      ends = λ n v bound ways. uses_followed s known k (UsedInput n) v bound ways;
    }
