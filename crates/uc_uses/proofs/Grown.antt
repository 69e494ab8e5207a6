-- The nodes get their instances in order.
use Rattle.std.proofs.Common.{◌≡◌, ℕ, zero, suc, ◌+◌, ◌<◌, ◌≤◌, List, [], ◌∷◌, ◌++◌, length, Option, Some, None, refl, ap, sym, subst, ◌∙◌, ◌⊎◌, inl, inr, ⊎_elim, arith}
use Rattle.std.specs.Prelude.{slice_get, nat_eq}
use Rattle.std.specs.Option.{option_and_then, option_map}
use Rattle.indexmap.specs.IndexMap.{get}
use Rattle.uc_syntax.specs.declared.declaration.Module.{Module}
use Rattle.uc_meaning.specs.Lookup.{System, InstanceParts, instance_of, main_module, module_named}
use Rattle.uc_names.specs.declared.firsts.Firsts.{Firsts}
use Rattle.uc_uses.specs.declared.modules.ModuleTable.{ModuleTable}
use Rattle.uc_uses.specs.declared.tree.Node.{Node}
use Rattle.uc_uses.specs.declared.tree.InstanceTree.{InstanceTree}
use Rattle.uc_uses.specs.Modules.{AreNamed, KnowsModules, named_in}
use Rattle.uc_uses.specs.Trees.{IsBelow, IsTree, Stands, code_at, instance_at, step}
use Rattle.uc_uses.specs.Growing.{Adds, Grows, IsFound, IsRootAlone}
use Rattle.uc_uses.proofs.Lists.{get_before, get_next, get_within, length_push, none_some, some_same}

-- The first nodes have their instances.
pub record GrownTo (system : System) (t : InstanceTree) (done : ℕ) : Type 0 where
  pub count : length t.instances ≡ done
  pub root : (n : Node) × (slice_get t.nodes 0 ≡ Some n) × (main_module system ≡ Some n.code.now)
  pub below : (k x : ℕ) (m : Module) → k < done → code_at t k ≡ Some m → IsBelow system t.nodes (instance_at t k x) (instance_of m x)
  pub above : (k x j : ℕ) → instance_at t k x ≡ Some (Some j) → (n : Node) × (slice_get t.nodes j ≡ Some n) × (n.above ≡ Some (step k x))
  pub stands : (j : ℕ) (n : Node) → slice_get t.nodes j ≡ Some n → Stands t j n

one_node : (r n : Node) (j : ℕ) → slice_get (r ∷ []) j ≡ Some n → (j ≡ 0) × (r ≡ n)
one_node r n zero h = (refl, some_same r n h)
one_node r n (suc zero) h = none_some n h
one_node r n (suc (suc j)) h = none_some n h

pub grown_begin : (system : System) (t : InstanceTree) (m : Module) → main_module system ≡ Some m → IsRootAlone m t → GrownTo system t 0
grown_begin system t m main r = record {
  count = ap length r.none;
  root = (r.root, ap (λ ns. slice_get ns 0) r.nodes, main ∙ ap (λ q. Some q) (sym r.code));
  below = λ k x c l h. absurd (omega (arith, l));
  above = λ k x j h. none_some (Some j) (sym (empty k x) ∙ h);
  stands = λ j n h. let o = one_node r.root n j (sym (ap (λ ns. slice_get ns j) r.nodes) ∙ h) in
      inl (record { first = o.0; above = ap (λ (q : Node). q.above) (sym o.1) ∙ r.above; unbound = ap (λ (q : Node). q.bindings.now) (sym o.1) ∙ r.unbound });
}
  where
    nothing_at : {A : Type 0} (k : ℕ) → slice_get {X = A} [] k ≡ None
    nothing_at zero = refl
    nothing_at (suc k) = refl

    empty : (k x : ℕ) → instance_at t k x ≡ None
    empty k x = ap (λ is. option_and_then (λ f. get nat_eq f.things x) (slice_get is k)) r.none ∙ ap (option_and_then (λ (f : Firsts (Option ℕ)). get nat_eq f.things x)) (nothing_at {A = Firsts (Option ℕ)} k)

module _ (system : System) (modules : ModuleTable) (knows : KnowsModules system.modules modules) where
  is_named : (x : ℕ) → named_in modules.modules x ≡ module_named system x
  unfolding AreNamed
  is_named x = knows x

  to_below : (nodes : List Node) (o : Option (Option ℕ)) (i : Option InstanceParts) → IsFound modules nodes o i → IsBelow system nodes o i
  to_below nodes None None h = h
  to_below nodes None (Some p) h = h
  to_below nodes (Some None) None h = h
  to_below nodes (Some None) (Some p) h = sym (is_named p.module_name) ∙ h
  to_below nodes (Some (Some j)) None h = h
  to_below nodes (Some (Some j)) (Some p) h = (h.0, h.1, sym (is_named p.module_name) ∙ h.2, h.3)

  below_grows : (old new : List Node) → ((j : ℕ) (n : Node) → slice_get old j ≡ Some n → slice_get new j ≡ Some n) → (o : Option (Option ℕ)) (i : Option InstanceParts) → IsBelow system old o i → IsBelow system new o i
  below_grows old new grows None None h = h
  below_grows old new grows None (Some p) h = h
  below_grows old new grows (Some None) None h = h
  below_grows old new grows (Some None) (Some p) h = h
  below_grows old new grows (Some (Some j)) None h = h
  below_grows old new grows (Some (Some j)) (Some p) h = (h.0, grows j h.0 h.1, h.2, h.3)

  code_of : (t : InstanceTree) (k : ℕ) (m : Module) → code_at t k ≡ Some m → (n : Node) × (slice_get t.nodes k ≡ Some n) × (n.code.now ≡ m)
  code_of t k m h = by (slice_get t.nodes k) refl h
    where
      by : (o : Option Node) → slice_get t.nodes k ≡ o → option_map (λ n. n.code.now) o ≡ Some m → (n : Node) × (slice_get t.nodes k ≡ Some n) × (n.code.now ≡ m)
      by None is h = none_some m h
      by (Some n) is h = (n, is, some_same n.code.now m h)

  module _ (k : ℕ) (m : Module) (old new : InstanceTree) (held : GrownTo system old k) (here : code_at old k ≡ Some m) (g : Grows modules k m.decls old new) where
    abbrev a : Adds modules k old.nodes m.decls g.found new.nodes
    a = g.adds

    at_new : (x : ℕ) → instance_at new k x ≡ get nat_eq g.found.things x
    at_new x =
        ap (λ is. option_and_then (λ (f : Firsts (Option ℕ)). get nat_eq f.things x) (slice_get is k)) g.instances
        ∙ ap (λ j. option_and_then (λ (f : Firsts (Option ℕ)). get nat_eq f.things x) (slice_get (old.instances ++ g.found ∷ []) j)) (sym held.count)
        ∙ ap (option_and_then (λ (f : Firsts (Option ℕ)). get nat_eq f.things x)) (get_next old.instances g.found)

    at_old : (j x : ℕ) → j < k → instance_at new j x ≡ instance_at old j x
    at_old j x less =
        ap (λ is. option_and_then (λ (f : Firsts (Option ℕ)). get nat_eq f.things x) (slice_get is j)) g.instances
        ∙ ap (option_and_then (λ (f : Firsts (Option ℕ)). get nat_eq f.things x)) (get_before old.instances (g.found ∷ []) j (omega (arith, less, held.count)))

    past : (j x : ℕ) (o : Option ℕ) → instance_at new j x ≡ Some o → j < suc k
    past j x o h = by (slice_get new.instances j) refl h
      where
        size : length new.instances ≡ suc k
        size = ap length g.instances ∙ length_push old.instances g.found ∙ ap suc held.count

        by : (f : Option (Firsts (Option ℕ))) → slice_get new.instances j ≡ f → option_and_then (λ (q : Firsts (Option ℕ)). get nat_eq q.things x) f ≡ Some o → j < suc k
        by None is h = none_some o h
        by (Some f) is h = let l = get_within new.instances j f is in omega (arith, l, size)

    less_or_same : (j : ℕ) → j < suc k → (j < k) ⊎ (j ≡ k)
    less_or_same j l = split j k l
      where
        split : (n m : ℕ) → n < suc m → (n < m) ⊎ (n ≡ m)
        split zero zero l = inr refl
        split zero (suc m) l = inl (omega arith)
        split (suc n) zero l = absurd (omega (arith, l))
        split (suc n) (suc m) l = ⊎_elim (λ p. inl (omega (arith, p))) (λ e. inr (ap suc e)) (split n m (omega (arith, l)))

    within : (j x : ℕ) (o : Option ℕ) → instance_at old j x ≡ Some o → j < k
    within j x o h = by (slice_get old.instances j) refl h
      where
        by : (f : Option (Firsts (Option ℕ))) → slice_get old.instances j ≡ f → option_and_then (λ (q : Firsts (Option ℕ)). get nat_eq q.things x) f ≡ Some o → j < k
        by None is h = none_some o h
        by (Some f) is h = let l = get_within old.instances j f is in omega (arith, l, held.count)

    leads_on : (j x : ℕ) (o : Option ℕ) → instance_at old j x ≡ Some o → instance_at new j x ≡ Some o
    leads_on j x o h = at_old j x (within j x o h) ∙ h

    there : (j : ℕ) (c : Module) → j < suc k → code_at new j ≡ Some c → code_at old j ≡ Some c
    there j c l h =
        let at = code_of old k m here in
        let inside = get_within old.nodes k at.0 at.1 in
        let n = code_of new j c h in
        ⊎_elim (λ b. ap (option_map (λ (q : Node). q.code.now)) b ∙ ap (λ q. Some q) n.2) (λ r. let far = r.1 in absurd (omega (arith, l, far, inside))) (a.new j n.0 n.1)

    stands_on : (j : ℕ) (n : Node) → Stands old j n → Stands new j n
    stands_on j n s = ⊎_elim (λ f. inl f) (λ i. inr (record { above = i.above; is = i.is; before = i.before; leads = leads_on i.above.node i.above.name (Some j) i.leads })) s

    pub grown_more : GrownTo system new (k + 1)
    grown_more = record {
      count = let size : length new.instances ≡ suc (length old.instances) = ap length g.instances ∙ length_push old.instances g.found in omega (arith, size, held.count);
      root = let r = held.root in (r.0, a.kept 0 r.0 r.1, r.2);
      below = λ j x c l h.
          ⊎_elim
          (λ less. subst (λ o. IsBelow system new.nodes o (instance_of c x)) (sym (at_old j x less)) (below_grows old.nodes new.nodes a.kept (instance_at old j x) (instance_of c x) (held.below j x c less (there j c (omega (arith, l)) h))))
          (λ now.
          let same : m ≡ c = some_same m c (sym here ∙ ap (code_at old) (sym now) ∙ there j c (omega (arith, l)) h) in
          subst (λ i. IsBelow system new.nodes (instance_at new i x) (instance_of c x)) (sym now)
          (subst (λ o. IsBelow system new.nodes o (instance_of c x)) (sym (at_new x)) (subst (λ (q : Module). IsBelow system new.nodes (get nat_eq g.found.things x) (instance_of q x)) same (to_below new.nodes (get nat_eq g.found.things x) (instance_of m x) (a.below x)))))
          (less_or_same j (omega (arith, l)));
      above = λ j x i h.
          ⊎_elim
          (λ less. let r = held.above j x i (sym (at_old j x less) ∙ h) in (r.0, a.kept i r.0 r.1, r.2))
          (λ now. let r = a.above x i (sym (at_new x) ∙ ap (λ q. instance_at new q x) (sym now) ∙ h) in (r.0, r.1, r.2 ∙ ap (λ q. Some (step q x)) (sym now)))
          (less_or_same j (past j x (Some i) h));
      stands = λ j n h.
          ⊎_elim
          (λ b. stands_on j n (held.stands j n b))
          (λ r.
          let at = code_of old k m here in
          let inside = get_within old.nodes k at.0 at.1 in
          let far = r.1 in
          inr (record { above = step k r.0; is = r.2; before = omega (arith, far, inside); leads = at_new r.0 ∙ r.3 }))
          (a.new j n h);
    }

pub grown_end : (system : System) (t : InstanceTree) (done : ℕ) → length t.nodes ≤ done → GrownTo system t done → IsTree system t
grown_end system t done past g = record {
  root = ap (option_map (λ (n : Node). n.code.now)) g.root.1 ∙ sym g.root.2;
  below = λ k x m h. g.below k x m (inside k m (slice_get t.nodes k) refl h) h;
  above = g.above;
  stands = g.stands;
}
  where
    inside : (k : ℕ) (m : Module) (o : Option Node) → slice_get t.nodes k ≡ o → option_map (λ n. n.code.now) o ≡ Some m → k < done
    inside k m None is h = none_some m h
    inside k m (Some n) is h = let l = get_within t.nodes k n is in omega (arith, l, past)
