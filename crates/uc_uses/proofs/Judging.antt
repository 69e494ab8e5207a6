-- The uses of a root that have flags, and its faults.
use Rattle.std.proofs.Common.{◌≡◌, ℕ, zero, suc, ◌<◌, ◌≤◌, Bool, true, false, List, [], ◌∷◌, ◌++◌, map, length, Option, Some, None, refl, ap, sym, subst, ◌∙◌, ◌⊎◌, inl, inr, ⊎_elim, arith}
use Rattle.std.specs.Prelude.{slice_get, slice_index_or, is_some, nat_eq, ◌||◌, if◌then◌else◌}
use Rattle.std.specs.List.{flat_map, list_any}
use Rattle.std.specs.Option.{option_and_then, option_map}
use Rattle.uc_syntax.specs.declared.declaration.Binding.{Binding}
use Rattle.uc_syntax.specs.declared.declaration.Decl.{Decl}
use Rattle.uc_syntax.specs.declared.declaration.Decl.TheVariants.{Define, Procedure, Instance}
use Rattle.uc_syntax.specs.declared.declaration.Module.{Module}
use Rattle.uc_syntax.proofs.Added.{append_nil}
use Rattle.uc_meaning.specs.Lookup.{System, InstanceParts, bound_to, instance_of, instances_of, main_module, module_at, module_from, module_named}
use Rattle.uc_meaning.specs.Cells.{InstanceAt, as_list, instances_below, instances_from, main_instance, module_of_instance}
use Rattle.uc_rules.specs.declared.fault.Fault.{Fault}
use Rattle.uc_rules.specs.declared.rule.Rule.TheVariants.{Cycle}
use Rattle.uc_rules.specs.Cycles.{leads_to}
use Rattle.uc_rules.specs.Faults.{breaks_where, first_of}
use Rattle.uc_graph.specs.Order.{needs}
use Rattle.uc_graph.specs.Cycles.{MarksCycles}
use Rattle.uc_declared_types.specs.AliasLaw.{IsAmong}
use Rattle.uc_declared_types.proofs.Along.{any_by, any_there}
use Rattle.uc_declared_types.proofs.Among.{among_back, among_flat, among_left, among_right, find_among}
use Rattle.uc_order_rules.specs.Roots.{name_at, rooted, is_bound_input, instances_in}
use Rattle.uc_order_rules.specs.Uses.{Used, UsedDefine, UsedProcedure, UsedInput, UsePlace, all_uses, binding_places, has_long_chain, has_way, on_use_cycle, same_use, use_cycles, uses_in, uses_of}
use Rattle.uc_uses.proofs.Instances.{as_list_is, get_among, is_as_list}
use Rattle.uc_uses.specs.BoundLaw.{InstancesEnd, is_counted}
use Rattle.uc_uses.proofs.UseBoundsFollowed.{covered, map_back, uses_followed}
use Rattle.uc_uses.proofs.Listed.{located}
use Rattle.uc_uses.specs.declared.tree.Node.{Node}
use Rattle.uc_uses.specs.declared.tree.InstanceTree.{InstanceTree}
use Rattle.uc_uses.specs.Trees.{IsTree, code_at, instance_at, joined, node_at}
use Rattle.uc_uses.specs.PathLaw.{NodesHavePaths}
use Rattle.uc_uses.proofs.Lists.{get_within, none_some, some_same}
use Rattle.uc_uses.proofs.Paths.{trees_have_paths}
use Rattle.uc_uses.specs.declared.uses.UseKind.TheVariants.{Define as DefineKind, Procedure as ProcedureKind, Input as InputKind}
use Rattle.uc_uses.specs.declared.uses.UseName.{UseName}
use Rattle.uc_uses.specs.declared.table.UseTable.{UseTable}
use Rattle.uc_uses.specs.Tables.{KnowsUses, number, use_name}
use Rattle.uc_uses.specs.Resolving.{all_source_uses}
use Rattle.uc_uses.specs.Numbers.{FollowsUses, number_of}
use Rattle.uc_uses.proofs.UseWaysFollowed.{graphs_follow_uses}
use Rattle.uc_uses.specs.Noted.{flag_of, is_flagged, noted, noted_all, noted_at, noted_binding, noted_bindings, noted_in, numbers_below}
use Rattle.uc_uses.proofs.Same.{same_first}

clash : {A : Type 0} → false ≡ true → A
clash h = cc

same_bool : (b c : Bool) → (b ≡ true → c ≡ true) → (c ≡ true → b ≡ true) → b ≡ c
same_bool true c h k = sym (h refl)
same_bool false true h k = clash (k refl)
same_bool false false h k = refl

among_map : {A B : Type 0} (f : A → B) (x : A) (xs : List A) → IsAmong x xs → IsAmong (f x) (map f xs)
unfolding IsAmong
among_map f x [] h = absurd h
among_map f x (y ∷ xs) h = ⊎_elim (λ e. inl (ap f e)) (λ r. inr (among_map f x xs r)) h

below_among : (n k : ℕ) → k < n → IsAmong k (numbers_below n)
unfolding numbers_below IsAmong
below_among zero k l = absurd (omega (arith, l))
below_among (suc n) k l = ⊎_elim (λ less. among_left k (numbers_below n) (n ∷ []) (below_among n k less)) (λ now. among_right k (numbers_below n) (n ∷ []) (inl now)) (side k n l)
  where
    side : (k n : ℕ) → k < suc n → (k < n) ⊎ (k ≡ n)
    side zero zero l = inr refl
    side zero (suc n) l = inl (omega arith)
    side (suc k) zero l = absurd (omega (arith, l))
    side (suc k) (suc n) l = ⊎_elim (λ p. inl (omega (arith, p))) (λ e. inr (ap suc e)) (side k n (omega (arith, l)))

-- ---- flags of a list

flag_place : (flags : List Bool) → list_any (λ b. b) flags ≡ true → (n : ℕ) × (slice_index_or flags n false ≡ true)
flag_place [] h = clash h
flag_place (true ∷ flags) h = (0, refl)
flag_place (false ∷ flags) h = let r = flag_place flags h in (suc r.0, r.1)

flag_there : (flags : List Bool) (n : ℕ) → slice_index_or flags n false ≡ true → list_any (λ b. b) flags ≡ true
flag_there [] zero h = clash h
flag_there [] (suc n) h = clash h
flag_there (b ∷ flags) zero h = ap (λ c. c || list_any (λ b. b) flags) h
flag_there (true ∷ flags) (suc n) h = refl
flag_there (false ∷ flags) (suc n) h = flag_there flags n h

needs_past : (g : List (List ℕ)) (n : ℕ) → length g ≤ n → needs g n ≡ []
needs_past [] zero h = refl
needs_past [] (suc n) h = refl
needs_past (x ∷ g) zero h = absurd (omega (arith, h))
needs_past (x ∷ g) (suc n) h = needs_past g n (omega (arith, h))

less_or_more : (n m : ℕ) → (n < m) ⊎ (m ≤ n)
less_or_more n zero = inr (omega arith)
less_or_more zero (suc m) = inl (omega arith)
less_or_more (suc n) (suc m) = ⊎_elim (λ l. inl (omega (arith, l))) (λ g. inr (omega (arith, g))) (less_or_more n m)

-- ---- instances

one_more : {A B : Type 0} (f : A → Option B) (o : Option A) (g : B → Option B) → ((y : B) → g y ≡ Some y) → option_and_then g (option_and_then f o) ≡ option_and_then f o
one_more f None g same = refl
one_more {A = A} {B = B} f (Some x) g same = by (f x)
  where
    by : (o : Option B) → option_and_then g o ≡ o
    by None = refl
    by (Some y) = same y

module_push : (s : System) (m : Module) (q : List ℕ) (i : ℕ) → module_from s m (q ++ i ∷ []) ≡ option_and_then (λ c. option_and_then (λ p. module_named s p.module_name) (instance_of c i)) (module_from s m q)
unfolding module_from
module_push s m [] i = one_more (λ (p : InstanceParts). module_named s p.module_name) (instance_of m i) (λ n. module_from s n []) (λ n. refl)
module_push s m (a ∷ q) i = by (option_and_then (λ p. module_named s p.module_name) (instance_of m a)) (λ n. module_push s n q i)
  where
    by : (o : Option Module) → ((n : Module) → module_from s n (q ++ i ∷ []) ≡ option_and_then (λ c. option_and_then (λ p. module_named s p.module_name) (instance_of c i)) (module_from s n q)) →
        option_and_then (λ n. module_from s n (q ++ i ∷ [])) o ≡ option_and_then (λ c. option_and_then (λ p. module_named s p.module_name) (instance_of c i)) (option_and_then (λ n. module_from s n q) o)
    by None more = refl
    by (Some n) more = more n

module _ (s : System) (known : InstancesEnd s) (k : ℕ) where
  abbrev K : System
  K = rooted s k

  at_push : (q : List ℕ) (i : ℕ) (c : Module) → module_at K q ≡ Some c → module_at K (q ++ i ∷ []) ≡ option_and_then (λ p. module_named K p.module_name) (instance_of c i)
  at_push q i c h = by (main_module K) refl h
    where
      by : (o : Option Module) → main_module K ≡ o → option_and_then (λ m. module_from K m q) o ≡ Some c → option_and_then (λ m. module_from K m (q ++ i ∷ [])) (main_module K) ≡ option_and_then (λ p. module_named K p.module_name) (instance_of c i)
      by None is h = none_some c h
      by (Some m) is h =
          ap (option_and_then (λ (x : Module). module_from K x (q ++ i ∷ []))) is ∙ module_push K m q i ∙ ap (option_and_then (λ (x : Module). option_and_then (λ p. module_named K p.module_name) (instance_of x i))) h

  -- the module of a listed instance is found at its path
  stands_from : (n : ℕ) (e here : InstanceAt) → module_at K e.path ≡ Some e.code → IsAmong e.code s.modules → IsAmong here (instances_from n K e) → module_at K here.path ≡ Some here.code
  unfolding instances_from IsAmong
  stands_from zero e here at among h = absurd h
  stands_from (suc n) e here at among h =
      ⊎_elim
      (λ same. ap (λ (x : InstanceAt). module_at K x.path) same ∙ at ∙ ap (λ (x : InstanceAt). Some x.code) (sym same))
      (λ r.
      let x = among_back (instances_from n K) here (instances_below K e) r in
      let p = among_back (λ i. map (λ (c : Module). record { path = e.path ++ i.name ∷ []; code = c; is_bound = λ y. is_some (bound_to i y) }) (module_of_instance K i)) x.0 (instances_of e.code) x.1 in
      let c = map_back (λ (c : Module). record { path = e.path ++ p.0.name ∷ []; code = c; is_bound = λ y. is_some (bound_to p.0 y) }) x.0 (module_of_instance K p.0) p.2 in
      let named : module_named K p.0.module_name ≡ Some c.0 = as_list_is c.0 (module_named K p.0.module_name) c.1 in
      let found : module_at K (e.path ++ p.0.name ∷ []) ≡ Some c.0 = at_push e.path p.0.name e.code at ∙ ap (option_and_then (λ (q : InstanceParts). module_named K q.module_name)) (known.stand e.code p.0 among p.1) ∙ named in
      stands_from n x.0 here (ap (λ (y : InstanceAt). module_at K y.path) c.2 ∙ found ∙ ap (λ (y : InstanceAt). Some y.code) (sym c.2))
      (subst (λ m. IsAmong m s.modules) (ap (λ (y : InstanceAt). y.code) (sym c.2)) (find_among (λ m. nat_eq m.name p.0.module_name) s.modules c.0 named))
      x.2)
      h

  module _ (m : Module) (at : slice_get s.modules k ≡ Some m) where
    listed_stands : (here : InstanceAt) → IsAmong here (instances_in K) → module_at K here.path ≡ Some here.code
    unfolding instances_in module_from
    listed_stands here h =
        let r = among_back (λ c. instances_from (suc (length s.modules)) K (main_instance c)) here (as_list (main_module K)) h in
        let root : slice_get s.modules k ≡ Some r.0 = as_list_is r.0 (main_module K) r.1 in
        stands_from (suc (length s.modules)) (main_instance r.0) here (ap (option_and_then (λ (c : Module). module_from K c [])) root) (get_among r.0 s.modules k root) r.2

    module _ (t : InstanceTree) (u : UseTable) (tree : IsTree K t) (knows : KnowsUses t u) where
      abbrev graph : List (List ℕ)
      graph = all_source_uses t u

      follows : FollowsUses K t u graph
      follows = graphs_follow_uses K m t u at tree knows

      paths : NodesHavePaths K t
      paths = trees_have_paths K t m at tree

      counted : (v : Used) (i : ℕ) → number_of t u v ≡ Some i → is_counted K v ≡ true
      counted (UsedDefine n) i h = refl
      counted (UsedProcedure n) i h = refl
      counted (UsedInput n) i h = sym (follows.inputs n) ∙ ap is_some h

      listed_counted : (here : InstanceAt) (d : Decl) (v : UsePlace) → IsAmong v (uses_in K here d) → is_counted K v.used ≡ true
      unfolding IsAmong
      listed_counted here (Define place i ps type body) v h = ⊎_elim (λ e. ap (λ (x : UsePlace). is_counted K x.used) e) (λ r. absurd r) h
      listed_counted here (Procedure place p) v h = ⊎_elim (λ e. ap (λ (x : UsePlace). is_counted K x.used) e) (λ r. absurd r) h
      listed_counted here (Instance place i n bs) v h =
          let r = among_back (binding_places K (here.path ++ i.name ∷ [])) v bs h in
          by r.0 (is_bound_input K (name_at (here.path ++ i.name ∷ []) r.0.identifier.name)) refl r.2
        where
          by : (b : Binding) (c : Bool) → is_bound_input K (name_at (here.path ++ i.name ∷ []) b.identifier.name) ≡ c →
              IsAmong v (if c then record { used = UsedInput (name_at (here.path ++ i.name ∷ []) b.identifier.name); place = b.identifier.place } ∷ [] else []) → is_counted K v.used ≡ true
          by b true is h = ⊎_elim (λ e. ap (λ (x : UsePlace). is_counted K x.used) e ∙ is) (λ r. absurd r) h
          by b false is h = absurd h
      listed_counted here other v h = absurd h

      -- ---- cycles

      module _ (flags : List Bool) (marks : MarksCycles graph flags) where
        abbrev fault_of : UsePlace → List Fault
        fault_of v = breaks_where (on_use_cycle K v.used) Cycle v.place

        leads_none : (n : ℕ) (v : Used) → uses_of K v ≡ [] → leads_to n (uses_of K) (same_use v) v ≡ false
        unfolding leads_to
        leads_none zero v none = refl
        leads_none (suc n) v none = ap (list_any (λ y. same_use v y || leads_to n (uses_of K) (same_use v) y)) none

        numbered_flag : (v : Used) (i : ℕ) → number_of t u v ≡ Some i → slice_index_or flags i false ≡ on_use_cycle K v
        unfolding MarksCycles
        numbered_flag v i is =
            same_bool (slice_index_or flags i false) (on_use_cycle K v)
            (λ h. uses_followed s known k v v (counted v i is) ((follows.cycles v i is).0 ((marks i).0 h)))
            (λ h. (marks i).1 ((follows.cycles v i is).1 (length (all_uses K), h)))

        flag_is : (v : Used) (name : UseName) → number_of t u v ≡ number u name → (number_of t u v ≡ None → uses_of K v ≡ []) → is_flagged u flags name ≡ on_use_cycle K v
        flag_is v name same idle = by (number u name) refl
          where
            by : (o : Option ℕ) → number u name ≡ o → flag_of flags (number u name) ≡ on_use_cycle K v
            by None e = ap (flag_of flags) e ∙ sym (leads_none (length (all_uses K)) v (idle (same ∙ e)))
            by (Some i) e = ap (flag_of flags) e ∙ numbered_flag v i (same ∙ e)

        one_fault : (v : UsePlace) → flat_map fault_of (v ∷ []) ≡ fault_of v
        one_fault v = append_nil (fault_of v)

        -- what a declaration of a node gives
        module _ (here : InstanceAt) (j : ℕ) (to : node_at t here.path ≡ Some j) where
          binding_noted : (path : List ℕ) (o : Option ℕ) → node_at t path ≡ o → (bs : List Binding) → noted_bindings u flags o bs ≡ flat_map fault_of (flat_map (binding_places K path) bs)
          binding_noted path None none [] = refl
          binding_noted path None none (b ∷ bs) =
              binding_noted path None none bs
              ∙ ap (λ c. flat_map fault_of ((if c then record { used = UsedInput (name_at path b.identifier.name); place = b.identifier.place } ∷ [] else []) ++ flat_map (binding_places K path) bs))
              (ap (λ o. is_some (option_and_then (λ i. number u (use_name InputKind i b.identifier.name)) o)) (sym none) ∙ follows.inputs (name_at path b.identifier.name))
          binding_noted path (Some i) there [] = refl
          binding_noted path (Some i) there (b ∷ bs) =
              ap (λ fs. noted_binding u flags i b ++ fs) (binding_noted path (Some i) there bs)
              ∙ by (number u (use_name InputKind i b.identifier.name)) refl
            where
              rest : List UsePlace
              rest = flat_map (binding_places K path) bs

              bound : UsePlace
              bound = record { used = UsedInput (name_at path b.identifier.name); place = b.identifier.place }

              is_number : number_of t u (UsedInput (name_at path b.identifier.name)) ≡ number u (use_name InputKind i b.identifier.name)
              is_number = ap (option_and_then (λ x. number u (use_name InputKind x b.identifier.name))) there

              by : (o : Option ℕ) → number u (use_name InputKind i b.identifier.name) ≡ o → noted_binding u flags i b ++ flat_map fault_of rest ≡ flat_map fault_of (binding_places K path b ++ rest)
              by None e =
                  ap (λ o. breaks_where (flag_of flags o) Cycle b.identifier.place ++ flat_map fault_of rest) e
                  ∙ ap (λ c. flat_map fault_of ((if c then bound ∷ [] else []) ++ rest)) (ap is_some (sym (is_number ∙ e)) ∙ follows.inputs (name_at path b.identifier.name))
              by (Some n) e =
                  ap (λ o. breaks_where (flag_of flags o) Cycle b.identifier.place ++ flat_map fault_of rest) e
                  ∙ ap (λ c. breaks_where c Cycle b.identifier.place ++ flat_map fault_of rest) (numbered_flag (UsedInput (name_at path b.identifier.name)) n (is_number ∙ e))
                  ∙ ap (λ c. flat_map fault_of ((if c then bound ∷ [] else []) ++ rest)) (ap is_some (sym (is_number ∙ e)) ∙ follows.inputs (name_at path b.identifier.name))

          noted_is : (d : Decl) → noted t u flags j d ≡ flat_map fault_of (uses_in K here d)
          noted_is (Define place i ps type body) =
              ap (λ c. breaks_where c Cycle place)
              (flag_is (UsedDefine (name_at here.path i.name)) (use_name DefineKind j i.name) (ap (option_and_then (λ x. number u (use_name DefineKind x i.name))) to) (λ none. follows.defines (name_at here.path i.name) none))
              ∙ sym (one_fault (record { used = UsedDefine (name_at here.path i.name); place = place }))
          noted_is (Procedure place p) =
              ap (λ c. breaks_where c Cycle place)
              (flag_is (UsedProcedure (name_at here.path p.identifier.name)) (use_name ProcedureKind j p.identifier.name) (ap (option_and_then (λ x. number u (use_name ProcedureKind x p.identifier.name))) to)
              (λ none. follows.procedures (name_at here.path p.identifier.name) none))
              ∙ sym (one_fault (record { used = UsedProcedure (name_at here.path p.identifier.name); place = place }))
          noted_is (Instance place i n bs) =
              binding_noted (here.path ++ i.name ∷ []) (joined (instance_at t j i.name)) (paths.last here.path i.name ∙ ap (option_and_then (λ x. joined (instance_at t x i.name))) to) bs
          noted_is other = refl

        -- ---- the same faults

        there : (f : Fault) → IsAmong f (noted_all t u flags) → IsAmong f (use_cycles K)
        unfolding noted_all noted_at all_uses instances_in IsAmong
        there f h =
            let j = among_back (noted_at t u flags) f (numbers_below (length t.nodes)) h in
            by j.0 (slice_get t.nodes j.0) refl j.2
          where
            by : (j : ℕ) (o : Option Node) → slice_get t.nodes j ≡ o → IsAmong f (noted_in t u flags j o) → IsAmong f (use_cycles K)
            by j None is h = absurd h
            by j (Some n) is h =
                let code : code_at t j ≡ Some n.code.now = ap (option_map (λ (x : Node). x.code.now)) is in
                let p = paths.reached j n.code.now code in
                let found : module_at K p.0 ≡ Some n.code.now = sym (paths.codes p.0) ∙ ap (option_and_then (code_at t)) p.1 ∙ code in
                let x = located s known k p.0 n.code.now found in
                let d = among_back (noted t u flags j) f n.code.now.decls h in
                let to : node_at t x.here.path ≡ Some j = ap (node_at t) x.at ∙ p.1 in
                let v = among_back fault_of f (uses_in K x.here d.0) (subst (IsAmong f) (noted_is x.here j to d.0) d.2) in
                let here_listed : IsAmong x.here (instances_in K) = among_flat (λ c. instances_from (suc (length s.modules)) K (main_instance c)) x.root x.here (as_list (main_module K)) (is_as_list x.root (main_module K) x.is_root) x.among in
                among_flat fault_of v.0 f (all_uses K)
                (among_flat (λ y. flat_map (uses_in K y) y.code.decls) x.here v.0 (instances_in K) here_listed
                (among_flat (uses_in K x.here) d.0 v.0 x.here.code.decls (subst (λ c. IsAmong d.0 c.decls) (sym x.code) d.1) v.1))
                v.2

        node_there : (path : List ℕ) (c : Module) → module_at K path ≡ Some c → (j : ℕ) × (node_at t path ≡ Some j) × (n : Node) × (slice_get t.nodes j ≡ Some n) × (n.code.now ≡ c)
        node_there path c h = by (node_at t path) refl (paths.codes path ∙ h)
          where
            deeper : (j : ℕ) → node_at t path ≡ Some j → (o : Option Node) → slice_get t.nodes j ≡ o → option_map (λ n. n.code.now) o ≡ Some c → (j : ℕ) × (node_at t path ≡ Some j) × (n : Node) × (slice_get t.nodes j ≡ Some n) × (n.code.now ≡ c)
            deeper j to None is h = none_some c h
            deeper j to (Some n) is h = (j, to, n, is, some_same n.code.now c h)

            by : (o : Option ℕ) → node_at t path ≡ o → option_and_then (code_at t) o ≡ Some c → (j : ℕ) × (node_at t path ≡ Some j) × (n : Node) × (slice_get t.nodes j ≡ Some n) × (n.code.now ≡ c)
            by None to h = none_some c h
            by (Some j) to h = deeper j to (slice_get t.nodes j) refl h

        back : (f : Fault) → IsAmong f (use_cycles K) → IsAmong f (noted_all t u flags)
        unfolding noted_all noted_at all_uses
        back f h =
            let v = among_back fault_of f (all_uses K) h in
            let here = among_back (λ y. flat_map (uses_in K y) y.code.decls) v.0 (instances_in K) v.1 in
            let d = among_back (uses_in K here.0) v.0 here.0.code.decls here.2 in
            let n = node_there here.0.path here.0.code (listed_stands here.0 here.1) in
            let inside = get_within t.nodes n.0 n.2 n.3 in
            among_flat (noted_at t u flags) n.0 f (numbers_below (length t.nodes)) (below_among (length t.nodes) n.0 inside)
            (subst (λ o. IsAmong f (noted_in t u flags n.0 o)) (sym n.3)
            (among_flat (noted t u flags n.0) d.0 f n.2.code.now.decls (subst (λ (c : Module). IsAmong d.0 c.decls) (sym n.4) d.1)
            (subst (IsAmong f) (sym (noted_is here.0 n.0 n.1 d.0)) (among_flat fault_of v.0 f (uses_in K here.0 d.0) d.2 v.2))))

        pub all_noted : (o : Option Fault) → first_of o (noted_all t u flags) ≡ first_of o (use_cycles K)
        all_noted o = same_first o (noted_all t u flags) (use_cycles K) there back

      -- ---- long chains

      module _ (flags : List Bool) (long : (n : ℕ) → slice_index_or flags n false ≡ has_way 32 (needs graph) n) where
        way_nowhere : (n : ℕ) → length graph ≤ n → has_way 32 (needs graph) n ≡ false
        unfolding has_way
        way_nowhere n past = ap (list_any (has_way 31 (needs graph))) (needs_past graph n past)

        way_idle : (v : Used) → uses_of K v ≡ [] → has_way 32 (uses_of K) v ≡ false
        unfolding has_way
        way_idle v none = ap (list_any (has_way 31 (uses_of K))) none

        way_used : (v : Used) → has_way 32 (uses_of K) v ≡ true → (y : Used) × IsAmong y (uses_of K v)
        unfolding has_way
        way_used v h = let y = any_by (has_way 31 (uses_of K)) (uses_of K v) h in (y.0, y.1)

        chain_there : list_any (λ b. b) flags ≡ true → has_long_chain K ≡ true
        chain_there h =
            let n = flag_place flags h in
            let way : has_way 32 (needs graph) n.0 ≡ true = sym (long n.0) ∙ n.1 in
            ⊎_elim
            (λ within.
            let v = follows.owners n.0 within in
            let used_way : has_way 32 (uses_of K) v.0 ≡ true = sym (follows.ways 32 v.0 n.0 v.1) ∙ way in
            let y = way_used v.0 used_way in
            let listed = covered s known k v.0 y.0 (counted v.0 n.0 v.1) y.1 in
            let w = map_back (λ (x : UsePlace). x.used) v.0 (all_uses K) listed in
            any_there (λ x. has_way 32 (uses_of K) x.used) (all_uses K) w.0 w.1 (ap (has_way 32 (uses_of K)) (sym w.2) ∙ used_way))
            (λ past. clash (sym (way_nowhere n.0 past) ∙ way))
            (less_or_more n.0 (length graph))

        flagged_by : (v : Used) (i : ℕ) → number_of t u v ≡ Some i → has_way 32 (uses_of K) v ≡ true → list_any (λ b. b) flags ≡ true
        flagged_by v i is way = flag_there flags i (long i ∙ follows.ways 32 v i is ∙ way)

        used_flagged : (v : Used) → is_counted K v ≡ true → (o : Option ℕ) → number_of t u v ≡ o → has_way 32 (uses_of K) v ≡ true → list_any (λ b. b) flags ≡ true
        used_flagged v counts (Some i) is way = flagged_by v i is way
        used_flagged (UsedDefine n) counts None is way = clash (sym (way_idle (UsedDefine n) (follows.defines n is)) ∙ way)
        used_flagged (UsedProcedure n) counts None is way = clash (sym (way_idle (UsedProcedure n) (follows.procedures n is)) ∙ way)
        used_flagged (UsedInput n) counts None is way = clash (ap is_some (sym is) ∙ follows.inputs n ∙ counts)

        chain_back : has_long_chain K ≡ true → list_any (λ b. b) flags ≡ true
        unfolding all_uses
        chain_back h =
            let v = any_by (λ x. has_way 32 (uses_of K) x.used) (all_uses K) h in
            let here = among_back (λ y. flat_map (uses_in K y) y.code.decls) v.0 (instances_in K) v.1 in
            let d = among_back (uses_in K here.0) v.0 here.0.code.decls here.2 in
            used_flagged v.0.used (listed_counted here.0 d.0 v.0 d.2) (number_of t u v.0.used) refl v.2

        pub long_is : list_any (λ b. b) flags ≡ has_long_chain K
        long_is = same_bool (list_any (λ b. b) flags) (has_long_chain K) chain_there chain_back
