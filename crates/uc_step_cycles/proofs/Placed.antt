-- The instances of a design and the nodes of its tree.
use Rattle.std.proofs.Common.{◌≡◌, ℕ, zero, suc, ◌<◌, false, List, [], ◌∷◌, ◌++◌, length, map, Option, Some, None, refl, ap, sym, subst, ◌∙◌, inl, inr, ⊎_elim, arith, append_assoc}
use Rattle.std.specs.Prelude.{not, nat_eq, is_some, slice_get}
use Rattle.std.specs.Option.{option_and_then, option_map}
use Rattle.uc_syntax.specs.declared.declaration.Module.{Module}
use Rattle.uc_syntax.specs.declared.expression.Expr.{Expr}
use Rattle.uc_syntax.specs.declared.expression.Expr.TheViews.{out-Expr}
use Rattle.uc_syntax.proofs.Added.{append_nil}
use Rattle.uc_declared_types.specs.AliasLaw.{IsAmong}
use Rattle.uc_declared_types.proofs.Among.{among_back, among_flat, find_among}
use Rattle.uc_meaning.specs.Lookup.{System, InstanceParts, bound_to, first_some, instance_of, instances_of, module_named}
use Rattle.uc_meaning.specs.Cells.{InstanceAt, as_list, instances_below, instances_from, is_main, main_instance, module_of_instance}
use Rattle.uc_meaning.specs.Code.{name_form}
use Rattle.uc_uses.specs.declared.tree.Node.{Node}
use Rattle.uc_uses.specs.declared.tree.InstanceTree.{InstanceTree}
use Rattle.uc_uses.specs.Trees.{IsBelow, code_at, instance_at, joined, node_at, node_from}
use Rattle.uc_uses.specs.PathLaw.{NodesHavePaths}
use Rattle.uc_uses.proofs.Lists.{none_some, some_same}
use Rattle.uc_uses.proofs.Paths.{trees_have_paths}
use Rattle.uc_step_cycles.specs.declared.table.CellTable.{CellTable}
use Rattle.uc_step_cycles.specs.Bound.{bound_in}
use Rattle.uc_step_cycles.specs.Cells.{is_root}
use Rattle.uc_step_cycles.specs.CellNumbersNumbers.{AreCellsOf}
use Rattle.uc_step_cycles.proofs.Positions.{equal, found_passes}

some_map : {A B : Type 0} (f : A → B) (o : Option A) → is_some o ≡ is_some (option_map f o)
some_map f None = refl
some_map f (Some x) = refl

in_list : {A : Type 0} (o : Option A) (x : A) → IsAmong x (as_list o) → o ≡ Some x
unfolding IsAmong
in_list None x h = absurd h
in_list (Some y) x h = ⊎_elim (λ e. ap (λ z. Some z) (sym e)) (λ r. absurd r) h

to_list : {A : Type 0} (o : Option A) (x : A) → o ≡ Some x → IsAmong x (as_list o)
unfolding IsAmong
to_list None x h = none_some x h
to_list (Some y) x h = inl (sym (some_same y x h))

not_main : (q : List ℕ) (i : ℕ) → is_main (q ++ i ∷ []) ≡ false
not_main [] i = refl
not_main (j ∷ q) i = refl

module _ (system : System) (t : InstanceTree) (c : CellTable) (known : AreCellsOf system t c) where
  pub paths : NodesHavePaths system t
  paths = trees_have_paths system t known.root known.is_root known.tree

  -- an instance of the design stands at a node
  pub record Placed (here : InstanceAt) (j : ℕ) (node : Node) : Type 0 where
    pub at : node_at t here.path ≡ Some j
    pub there : slice_get t.nodes j ≡ Some node
    pub code : node.code.now ≡ here.code
    pub bound : (x : ℕ) → here.is_bound x ≡ is_some (bound_in node.bindings.now x)
    pub main : is_main here.path ≡ is_root node

  node_root : (j : ℕ) (m : Module) → code_at t j ≡ Some m → (node : Node) × (slice_get t.nodes j ≡ Some node) × (node.code.now ≡ m)
  node_root j m h = by (slice_get t.nodes j) refl h
    where
      by : (o : Option Node) → slice_get t.nodes j ≡ o → option_map (λ (n : Node). n.code.now) o ≡ Some m → (node : Node) × (slice_get t.nodes j ≡ Some node) × (node.code.now ≡ m)
      by None is h = none_some m h
      by (Some n) is h = (n, is, some_same n.code.now m h)

  pub first_alone : (node : Node) → slice_get t.nodes 0 ≡ Some node → (node.above ≡ None) × (node.bindings.now ≡ [])
  first_alone node is = ⊎_elim (λ f. (f.above, f.unbound)) (λ i. let b = i.before in absurd (omega (arith, b))) (known.tree.stands 0 node is)

  pub root_node : (node : Node) × (slice_get t.nodes 0 ≡ Some node) × (node.code.now ≡ known.root)
  root_node = node_root 0 known.root (known.tree.root ∙ known.is_root)

  pub root_placed : Placed (main_instance known.root) 0 root_node.0
  unfolding node_from first_some
  root_placed =
      let alone = first_alone root_node.0 root_node.1 in
      record {
        at = refl;
        there = root_node.1;
        code = root_node.2;
        bound = λ x. sym (ap (λ bs. is_some (bound_in bs x)) alone.1);
        main = sym (ap (λ o. not (is_some o)) alone.0);
      }

  -- an instance that a module declares, and its node
  below_node : (k i : ℕ) (m : Module) (p : InstanceParts) (n : Module) → code_at t k ≡ Some m → instance_of m i ≡ Some p → module_named system p.module_name ≡ Some n →
      (j : ℕ) × (node : Node) × (instance_at t k i ≡ Some (Some j)) × (slice_get t.nodes j ≡ Some node) × (node.code.now ≡ n) × (node.bindings.now ≡ p.bindings)
  below_node k i m p n at is named = by (instance_at t k i) refl (subst (IsBelow system t.nodes (instance_at t k i)) is (known.tree.below k i m at))
    where
      by : (o : Option (Option ℕ)) → instance_at t k i ≡ o → IsBelow system t.nodes o (Some p) →
          (j : ℕ) × (node : Node) × (instance_at t k i ≡ Some (Some j)) × (slice_get t.nodes j ≡ Some node) × (node.code.now ≡ n) × (node.bindings.now ≡ p.bindings)
      by None e h = absurd h
      by (Some None) e h = none_some n (sym h ∙ named)
      by (Some (Some j)) e h = (j, h.0, e, h.1, some_same h.0.code.now n (sym h.2 ∙ named), h.3)

  abbrev instance_below : InstanceAt → InstanceParts → Module → InstanceAt
  instance_below here p m = record { path = here.path ++ p.name ∷ []; code = m; is_bound = λ x. is_some (bound_to p x) }

  placed_below : (here : InstanceAt) (k : ℕ) (node : Node) (p : InstanceParts) (m : Module) → Placed here k node → instance_of here.code p.name ≡ Some p → module_named system p.module_name ≡ Some m →
      (j : ℕ) × (below : Node) × Placed (instance_below here p m) j below × (instance_at t k p.name ≡ Some (Some j))
  placed_below here k node p m placed is named =
      let code : code_at t k ≡ Some here.code = ap (option_map (λ (n : Node). n.code.now)) placed.there ∙ ap (λ n. Some n) placed.code in
      let b = below_node k p.name here.code p m code is named in
      let a = known.tree.above k p.name b.0 b.2 in
      let same_node : a.0 ≡ b.1 = some_same a.0 b.1 (sym a.1 ∙ b.3) in (
        b.0,
        b.1,
        record {
          at = paths.last here.path p.name ∙ ap (option_and_then (λ q. joined (instance_at t q p.name))) placed.at ∙ ap joined b.2;
          there = b.3;
          code = b.4;
          bound = λ x. some_map (λ (e : Expr). name_form (out-Expr e)) (bound_to p x) ∙ ap (λ bs. is_some (bound_in bs x)) (sym b.5);
          main = not_main here.path p.name ∙ sym (ap (λ o. not (is_some o)) (sym (ap (λ (n : Node). n.above) same_node) ∙ a.2));
        },
        b.2,
      )

  abbrev pub Somewhere : InstanceAt → Type 0
  Somewhere here = (j : ℕ) × (node : Node) × Placed here j node

  mapped : (start : InstanceAt) (i : InstanceParts) (b : InstanceAt) (ms : List Module) → IsAmong b (map (λ m. instance_below start i m) ms) → (m : Module) × IsAmong m ms × (b ≡ instance_below start i m)
  unfolding IsAmong
  mapped start i b [] h = absurd h
  mapped start i b (m ∷ ms) h = ⊎_elim (λ e. (m, inl refl, e)) (λ r. let q = mapped start i b ms r in (q.0, inr q.1, q.2)) h

  all_placed : (n : ℕ) (start here : InstanceAt) → Somewhere start → IsAmong here (instances_from n system start) → Somewhere here
  unfolding instances_from IsAmong
  all_placed zero start here s h = absurd h
  all_placed (suc n) start here s h =
      ⊎_elim
      (λ e. subst Somewhere (sym e) s)
      (λ r.
      let b = among_back (instances_from n system) here (instances_below system start) r in
      let i = among_back (λ (i : InstanceParts). map (λ m. instance_below start i m) (module_of_instance system i)) b.0 (instances_of start.code) b.1 in
      let m = mapped start i.0 b.0 (module_of_instance system i.0) i.2 in
      let code : code_at t s.0 ≡ Some start.code = ap (option_map (λ (q : Node). q.code.now)) s.2.there ∙ ap (λ q. Some q) s.2.code in
      let p = placed_below start s.0 s.1 i.0 m.0 s.2 (known.alone s.0 start.code i.0 code i.1) (in_list (module_named system i.0.module_name) m.0 m.1) in
      all_placed n b.0 here (subst Somewhere (sym m.2) (p.0, p.1, p.2)) b.2)
      h

  pub instances_placed : (n : ℕ) (here : InstanceAt) → IsAmong here (instances_from n system (main_instance known.root)) → Somewhere here
  instances_placed n here h = all_placed n (main_instance known.root) here (0, root_node.0, root_placed) h

  among_instance : (start : InstanceAt) (i : InstanceParts) (m : Module) (ms : List Module) → IsAmong m ms → IsAmong (instance_below start i m) (map (λ m. instance_below start i m) ms)
  unfolding IsAmong
  among_instance start i m [] h = absurd h
  among_instance start i m (n ∷ ms) h = ⊎_elim (λ e. inl (ap (instance_below start i) e)) (λ r. inr (among_instance start i m ms r)) h

  -- an instance at each path that leads to a node

  abbrev Reaches : ℕ → InstanceAt → List ℕ → Type 0
  Reaches n start path = (here : InstanceAt) × IsAmong here (instances_from n system start) × (here.path ≡ path)

  abbrev More : ℕ → List ℕ → ℕ → Type 0
  More n q j = (start : InstanceAt) (k : ℕ) (node : Node) → Placed start k node → node_from t k q ≡ Some j → Reaches n start (start.path ++ q)

  module _ (n : ℕ) (start : InstanceAt) (k : ℕ) (node : Node) (x : ℕ) (q : List ℕ) (j : ℕ) (more : More n q j) (placed : Placed start k node) where
    code_is : code_at t k ≡ Some start.code
    code_is = ap (option_map (λ (n : Node). n.code.now)) placed.there ∙ ap (λ n. Some n) placed.code

    abbrev Result : Type 0
    Result = Reaches (suc n) start (start.path ++ x ∷ q)

    found : (l : ℕ) (o : Option InstanceParts) → instance_of start.code x ≡ o → instance_at t k x ≡ Some (Some l) → IsBelow system t.nodes (Some (Some l)) o → node_from t l q ≡ Some j → Result
    unfolding instances_from IsAmong
    found l None e at h way = absurd h
    found l (Some p) e at h way =
        let name : p.name ≡ x = equal p.name x (found_passes (λ (i : InstanceParts). nat_eq i.name x) (instances_of start.code) p e) in
        let m = h.0.code.now in
        let b = placed_below start k node p m placed (ap (instance_of start.code) name ∙ e) h.2 in
        let same_node : b.0 ≡ l = some_same b.0 l (some_same (Some b.0) (Some l) (sym b.3 ∙ ap (instance_at t k) name ∙ at)) in
        let r = more (instance_below start p m) b.0 b.1 b.2 (ap (λ a. node_from t a q) same_node ∙ way) in
        let among : IsAmong (instance_below start p m) (instances_below system start) =
        among_flat (λ (i : InstanceParts). map (λ m. instance_below start i m) (module_of_instance system i)) p (instance_below start p m) (instances_of start.code)
        (find_among (λ (i : InstanceParts). nat_eq i.name x) (instances_of start.code) p e) (among_instance start p m (module_of_instance system p) (to_list (module_named system p.module_name) m h.2)) in (
          r.0,
          inr (among_flat (instances_from n system) (instance_below start p m) r.0 (instances_below system start) among r.1),
          r.2 ∙ append_assoc start.path (p.name ∷ []) q ∙ ap (λ y. start.path ++ y ∷ q) name,
        )

    by_step : (o : Option (Option ℕ)) → instance_at t k x ≡ o → option_and_then (λ l. node_from t l q) (joined o) ≡ Some j → Result
    by_step None e h = none_some j h
    by_step (Some None) e h = none_some j h
    by_step (Some (Some l)) e h = found l (instance_of start.code x) refl e (subst (λ o. IsBelow system t.nodes o (instance_of start.code x)) e (known.tree.below k x start.code code_is)) h

  reaches : (n : ℕ) (q : List ℕ) (j : ℕ) → length q < n → More n q j
  unfolding instances_from IsAmong node_from
  reaches zero q j less start k node placed is = absurd (omega (arith, less))
  reaches (suc n) [] j less start k node placed is = (start, inl refl, sym (append_nil start.path))
  reaches (suc n) (x ∷ q) j less start k node placed is = by_step n start k node x q j (reaches n q j (omega (arith, less))) placed (instance_at t k x) refl is

  pub node_instance : (n : ℕ) (path : List ℕ) (j : ℕ) → length path < n → node_at t path ≡ Some j → (here : InstanceAt) × IsAmong here (instances_from n system (main_instance known.root)) × (here.path ≡ path)
  node_instance n path j less is = reaches n path j less (main_instance known.root) 0 root_node.0 root_placed is
