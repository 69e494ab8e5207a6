-- The defines, procedures and bound inputs at the path of a module are among those of the root.
use Rattle.std.proofs.Common.{◌≡◌, ℕ, zero, suc, ◌<◌, ◌≤◌, Bool, true, false, List, [], ◌∷◌, ◌++◌, map, length, Option, Some, None, refl, ap, sym, subst, ◌∙◌, inl, inr, ⊎_elim, arith, append_assoc}
use Rattle.std.specs.Prelude.{nat_eq, ◌&&◌, if◌then◌else◌, is_some, slice_get}
use Rattle.std.specs.List.{filter_map, cons_option}
use Rattle.std.specs.Option.{option_and_then, option_map}
use Rattle.uc_lexer.specs.declared.place.Place.{Place}
use Rattle.uc_syntax.specs.declared.expression.Expr.{Expr}
use Rattle.uc_syntax.specs.declared.declaration.Binding.{Binding}
use Rattle.uc_syntax.specs.declared.declaration.Procedure.{Procedure as ProcedureParts}
use Rattle.uc_syntax.specs.declared.declaration.Decl.{Decl}
use Rattle.uc_syntax.specs.declared.declaration.Decl.TheVariants.{Define, Procedure, Instance}
use Rattle.uc_syntax.specs.declared.declaration.Module.{Module}
use Rattle.uc_meaning.specs.Lookup.{System, Defined, InstanceParts, first_some, or_else, some_if, module_at, module_from, module_named, instance_in, instance_of, instances_of, bound_to, define_in, define_of, procedure_in, procedure_of, parent_of, variable_of}
use Rattle.uc_meaning.specs.Cells.{InstanceAt, module_of_instance, instances_below, instances_from, main_instance}
use Rattle.uc_meaning.specs.Expressions.{binding_of, binding_from}
use Rattle.uc_declared_types.specs.AliasLaw.{IsAmong}
use Rattle.uc_declared_types.proofs.Among.{among_flat, find_among}
use Rattle.uc_order_rules.specs.Roots.{NameAt, rooted, name_at, is_input, is_bound_input}
use Rattle.uc_order_rules.specs.Uses.{Used, UsedDefine, UsedProcedure, UsedInput, UsePlace, binding_places, uses_in, all_uses}
use Rattle.uc_uses.proofs.Instances.{is_as_list, listed}
use Rattle.uc_uses.specs.BoundLaw.{InstancesEnd}
use Rattle.uc_uses.proofs.Ranks.{depth, equal, first, instance_is, rank, rank_most}

nothing : {A : Type 0} → false ≡ true → A
nothing h = cc

none_some : {A B : Type 0} (x : B) → None ≡ Some x → A
none_some x h = cc

some_same : {A : Type 0} (x y : A) → Some x ≡ Some y → x ≡ y
some_same x y h = cc

append_nil : {A : Type 0} (xs : List A) → xs ++ [] ≡ xs
append_nil [] = refl
append_nil (x ∷ xs) = ap (λ ys. x ∷ ys) (append_nil xs)

pub among_map : {A B : Type 0} (f : A → B) (x : A) (xs : List A) → IsAmong x xs → IsAmong (f x) (map f xs)
unfolding IsAmong
among_map f x [] h = absurd h
among_map f x (y ∷ xs) h = ⊎_elim (λ e. inl (ap f e)) (λ r. inr (among_map f x xs r)) h

-- what gives the first answer
first_back : {A B : Type 0} (f : A → Option B) (xs : List A) (y : B) → first_some f xs ≡ Some y → (x : A) × IsAmong x xs × (f x ≡ Some y)
unfolding first_some IsAmong
first_back f [] y h = none_some y h
first_back {A = A} {B = B} f (x ∷ xs) y h = by (f x) refl h (first_back f xs y)
  where
    by : (o : Option B) → f x ≡ o → or_else o (first_some f xs) ≡ Some y → (first_some f xs ≡ Some y → (z : A) × IsAmong z xs × (f z ≡ Some y)) → (z : A) × IsAmong z (x ∷ xs) × (f z ≡ Some y)
    by (Some w) is h more = (x, inl refl, is ∙ h)
    by None is h more = let r = more h in (r.0, inr r.1, r.2)

filtered_back : {A B : Type 0} (f : A → Option B) (xs : List A) (y : B) → IsAmong y (filter_map f xs) → (x : A) × IsAmong x xs × (f x ≡ Some y)
unfolding IsAmong
filtered_back f [] y h = absurd h
filtered_back {A = A} {B = B} f (x ∷ xs) y h = by (f x) refl h (filtered_back f xs y)
  where
    by : (o : Option B) → f x ≡ o → IsAmong y (cons_option o (filter_map f xs)) → (IsAmong y (filter_map f xs) → (z : A) × IsAmong z xs × (f z ≡ Some y)) → (z : A) × IsAmong z (x ∷ xs) × (f z ≡ Some y)
    by (Some w) is h more = ⊎_elim (λ e. (x, inl refl, is ∙ ap (λ v. Some v) (sym e))) (λ r. let b = more r in (b.0, inr b.1, b.2)) h
    by None is h more = let r = more h in (r.0, inr r.1, r.2)

if_true : {A : Type 0} (b : Bool) (x y : A) → some_if b x ≡ Some y → b ≡ true
if_true true x y h = refl
if_true false x y h = none_some y h

both_right : (b c : Bool) → (b && c) ≡ true → c ≡ true
both_right true c h = h
both_right false c h = nothing h

some_of : {A : Type 0} (o : Option A) → is_some o ≡ true → (x : A) × (o ≡ Some x)
some_of None h = nothing h
some_of (Some x) h = (x, refl)

-- an answer that is made in two steps
then_some : {A B : Type 0} (f : A → Option B) (o : Option A) (y : B) → option_and_then f o ≡ Some y → (x : A) × (o ≡ Some x) × (f x ≡ Some y)
then_some f None y h = none_some y h
then_some f (Some x) y h = (x, refl, h)

mapped_some : {A B : Type 0} (f : A → B) (o : Option A) (y : B) → option_map f o ≡ Some y → (x : A) × (o ≡ Some x)
mapped_some f None y h = none_some y h
mapped_some f (Some x) y h = (x, refl)

parent_is : (path : List ℕ) (r : List ℕ × ℕ) → parent_of path ≡ Some r → path ≡ r.0 ++ r.1 ∷ []
unfolding parent_of
parent_is [] r h = none_some r h
parent_is (i ∷ []) r h = ap (λ (q : List ℕ × ℕ). q.0 ++ q.1 ∷ []) (some_same ([], i) r h)
parent_is (i ∷ (j ∷ path)) r h = by (parent_of (j ∷ path)) refl h (parent_is (j ∷ path))
  where
    by : (o : Option (List ℕ × ℕ)) → parent_of (j ∷ path) ≡ o → option_map (λ (p : List ℕ × ℕ). (i ∷ p.0, p.1)) o ≡ Some r → ((q : List ℕ × ℕ) → parent_of (j ∷ path) ≡ Some q → j ∷ path ≡ q.0 ++ q.1 ∷ []) → i ∷ (j ∷ path) ≡ r.0 ++ r.1 ∷ []
    by None is h more = none_some r h
    by (Some q) is h more = ap (λ p. i ∷ p) (more q is) ∙ ap (λ (p : List ℕ × ℕ). p.0 ++ p.1 ∷ []) (some_same (i ∷ q.0, q.1) r h)

module _ (s : System) (known : InstancesEnd s) (k : ℕ) where
  abbrev K : System
  K = rooted s k

  abbrev below : InstanceAt → InstanceParts → Module → InstanceAt
  below here p m = record { path = here.path ++ p.name ∷ []; code = m; is_bound = λ x. is_some (bound_to p x) }

  -- an instance at a path, among some
  abbrev IsAt : List InstanceAt → List ℕ → Module → Type 0
  IsAt hs path c = (here : InstanceAt) × IsAmong here hs × (here.path ≡ path) × (here.code ≡ c)

  is_below : (e : InstanceAt) (p : InstanceParts) (m : Module) (i : ℕ) → instance_of e.code i ≡ Some p → module_named s p.module_name ≡ Some m → IsAmong (below e p m) (instances_below K e)
  is_below e p m i is named =
      among_flat (λ q. map (below e q) (module_of_instance K q)) p (below e p m) (instances_of e.code) (find_among (λ q. nat_eq q.name i) (instances_of e.code) p is)
      (among_map (below e p) m (module_of_instance K p) (is_as_list m (module_named s p.module_name) named))

  find_from : (n : ℕ) (e : InstanceAt) (path : List ℕ) (c : Module) → module_from K e.code path ≡ Some c → length path < n → IsAt (instances_from n K e) (e.path ++ path) c
  unfolding instances_from module_from IsAmong
  find_from zero e path c h lt = absurd (omega (arith, lt))
  find_from (suc n) e [] c h lt = (e, inl refl, sym (append_nil e.path), some_same e.code c h)
  find_from (suc n) e (i ∷ q) c h lt =
      let f = first s known.ends k e.code i q c h in
      let r = find_from n (below e f.parts f.code) q c f.rest (omega (arith, lt)) in (
        r.0,
        inr (among_flat (instances_from n K) (below e f.parts f.code) r.0 (instances_below K e) (is_below e f.parts f.code i f.is f.named) r.1),
        r.2 ∙ append_assoc e.path (f.parts.name ∷ []) q ∙ ap (λ x. e.path ++ x ∷ q) (instance_is s known.ends e.code i f.parts f.is),
        r.3,
      )

  -- the module at a path, with its instance
  pub record IsThere (path : List ℕ) (c : Module) : Type 0 where
    pub root : Module
    pub is_root : slice_get s.modules k ≡ Some root
    pub here : InstanceAt
    pub among : IsAmong here (instances_from (suc (length s.modules)) K (main_instance root))
    pub at : here.path ≡ path
    pub code : here.code ≡ c

  pub located : (path : List ℕ) (c : Module) → module_at K path ≡ Some c → IsThere path c
  located path c h =
      let m = then_some (λ (x : Module). module_from K x path) (slice_get s.modules k) c h in
      let d : length path ≤ rank s known.ends m.0.name = depth s known.ends k path m.0 c (known.alone k m.0 m.1) m.2 in
      let r = find_from (suc (length s.modules)) (main_instance m.0) path c m.2 (omega (arith, d, rank_most s known.ends m.0.name)) in
      record { root = m.0; is_root = m.1; here = r.0; among = r.1; at = r.2; code = r.3 }

  abbrev pub nodes : List Used
  nodes = map (λ u. u.used) (all_uses K)

  node_of : (path : List ℕ) (c : Module) (d : Decl) (u : UsePlace) (t : IsThere path c) → IsAmong d c.decls → IsAmong u (uses_in K t.here d) → IsAmong u.used nodes
  node_of path c d u t declared among =
      among_map (λ v. v.used) u (all_uses K)
      (listed s k (suc (length s.modules)) t.root t.here u t.is_root (omega arith) t.among (among_flat (uses_in K t.here) d u t.here.code.decls (subst (λ m. IsAmong d m.decls) (sym t.code) declared) among))

  define_at : (n : NameAt) (c : Module) (t : IsThere n.path c) (e : Decl) (d : Defined) → IsAmong e c.decls → define_in n.name e ≡ Some d → IsAmong (UsedDefine n) nodes
  unfolding IsAmong
  define_at n c t (Define place i ps type body) d declared is =
      let named : i.name ≡ n.name = equal i.name n.name (if_true (nat_eq i.name n.name) (record { parameters = ps; type = type; body = body }) d is) in
      subst (λ u. IsAmong u nodes) (ap (λ q. UsedDefine (name_at q i.name)) t.at ∙ ap (λ x. UsedDefine (name_at n.path x)) named)
      (node_of n.path c (Define place i ps type body) (record { used = UsedDefine (name_at t.here.path i.name); place = place }) t declared (inl refl))
  define_at n c t other d declared is = none_some d is

  pub define_listed : (n : NameAt) (d : Defined) → option_and_then (λ m. define_of m n.name) (module_at K n.path) ≡ Some d → IsAmong (UsedDefine n) nodes
  define_listed n d h =
      let m = then_some (λ (x : Module). define_of x n.name) (module_at K n.path) d h in
      let e = first_back (define_in n.name) m.0.decls d m.2 in
      define_at n m.0 (located n.path m.0 m.1) e.0 d e.1 e.2

  procedure_at : (n : NameAt) (c : Module) (t : IsThere n.path c) (e : Decl) (d : ProcedureParts) → IsAmong e c.decls → procedure_in n.name e ≡ Some d → IsAmong (UsedProcedure n) nodes
  unfolding IsAmong
  procedure_at n c t (Procedure place p) d declared is =
      let named : p.identifier.name ≡ n.name = equal p.identifier.name n.name (if_true (nat_eq p.identifier.name n.name) p d is) in
      subst (λ u. IsAmong u nodes) (ap (λ q. UsedProcedure (name_at q p.identifier.name)) t.at ∙ ap (λ x. UsedProcedure (name_at n.path x)) named)
      (node_of n.path c (Procedure place p) (record { used = UsedProcedure (name_at t.here.path p.identifier.name); place = place }) t declared (inl refl))
  procedure_at n c t other d declared is = none_some d is

  pub procedure_listed : (n : NameAt) (d : ProcedureParts) → option_and_then (λ m. procedure_of m n.name) (module_at K n.path) ≡ Some d → IsAmong (UsedProcedure n) nodes
  procedure_listed n d h =
      let m = then_some (λ (x : Module). procedure_of x n.name) (module_at K n.path) d h in
      let e = first_back (procedure_in n.name) m.0.decls d m.2 in
      procedure_at n m.0 (located n.path m.0 m.1) e.0 d e.1 e.2

  -- ---- bound inputs

  abbrev input_use : List ℕ → ℕ → Place → UsePlace
  input_use path x place = record { used = UsedInput (name_at path x); place = place }

  bound_place : (path : List ℕ) (x : ℕ) (b : Binding) → b.identifier.name ≡ x → is_bound_input K (name_at path x) ≡ true → IsAmong (input_use path x b.identifier.place) (binding_places K path b)
  unfolding IsAmong
  bound_place path x b named bound =
      subst (λ y. IsAmong (input_use path y b.identifier.place) (binding_places K path b)) named
      (subst (λ c. IsAmong (input_use path b.identifier.name b.identifier.place) (if c then input_use path b.identifier.name b.identifier.place ∷ [] else [])) (sym (ap (λ y. is_bound_input K (name_at path y)) named ∙ bound)) (inl refl))

  input_at : (path : List ℕ) (x i : ℕ) (c : Module) (t : IsThere path c) (d : Decl) (p : InstanceParts) (b : Binding) → IsAmong d c.decls → instance_in d ≡ Some p → p.name ≡ i → IsAmong b p.bindings → b.identifier.name ≡ x →
      is_bound_input K (name_at (path ++ i ∷ []) x) ≡ true → IsAmong (UsedInput (name_at (path ++ i ∷ []) x)) nodes
  input_at path x i c t (Instance place name n bs) p b declared is named among bound_name bound =
      let parts = some_same (record { name = name.name; module_name = n.name; bindings = bs }) p is in
      let same_name : name.name ≡ i = ap (λ (q : InstanceParts). q.name) parts ∙ named in
      let same_path : t.here.path ++ name.name ∷ [] ≡ path ++ i ∷ [] = ap (λ q. q ++ name.name ∷ []) t.at ∙ ap (λ y. path ++ y ∷ []) same_name in
      node_of path c (Instance place name n bs) (input_use (path ++ i ∷ []) x b.identifier.place) t declared
      (among_flat (binding_places K (t.here.path ++ name.name ∷ [])) b (input_use (path ++ i ∷ []) x b.identifier.place) bs (subst (λ (q : InstanceParts). IsAmong b q.bindings) (sym parts) among)
      (subst (λ q. IsAmong (input_use (path ++ i ∷ []) x b.identifier.place) (binding_places K q b)) (sym same_path) (bound_place (path ++ i ∷ []) x b bound_name bound)))
  input_at path x i c t other p b declared is named among bound_name bound = none_some p is

  pub input_listed : (n : NameAt) → is_bound_input K n ≡ true → IsAmong (UsedInput n) nodes
  input_listed n bound =
      let some = some_of (binding_of K n.path n.name) (both_right (is_input (option_and_then (λ m. variable_of m n.name) (module_at K n.path))) (is_some (binding_of K n.path n.name)) bound) in
      by (parent_of n.path) refl some.0 some.1
    where
      by : (o : Option (List ℕ × ℕ)) → parent_of n.path ≡ o → (b : List ℕ × Expr) → binding_from K n.name o ≡ Some b → IsAmong (UsedInput n) nodes
      by None is b h = none_some b h
      by (Some r) is b h =
          let e = mapped_some (λ (x : Expr). (r.0, x)) (option_and_then (λ (i : InstanceParts). bound_to i n.name) (option_and_then (λ (m : Module). instance_of m r.1) (module_at K r.0))) b h in
          let p = then_some (λ (i : InstanceParts). bound_to i n.name) (option_and_then (λ (m : Module). instance_of m r.1) (module_at K r.0)) e.0 e.1 in
          let c = then_some (λ (m : Module). instance_of m r.1) (module_at K r.0) p.0 p.1 in
          let binding = first_back (λ (x : Binding). some_if (nat_eq x.identifier.name n.name) x.expression) p.0.bindings e.0 p.2 in
          let d = filtered_back instance_in c.0.decls p.0 (find_among (λ q. nat_eq q.name r.1) (instances_of c.0) p.0 c.2) in
          let path : n.path ≡ r.0 ++ r.1 ∷ [] = parent_is n.path r is in
          subst (λ q. IsAmong (UsedInput (name_at q n.name)) nodes) (sym path)
          (input_at r.0 n.name r.1 c.0 (located r.0 c.0 c.1) d.0 p.0 binding.0 d.1 d.2 (instance_is s known.ends c.0 r.1 p.0 c.2) binding.1
          (equal binding.0.identifier.name n.name (if_true (nat_eq binding.0.identifier.name n.name) binding.0.expression e.0 binding.2))
          (subst (λ q. is_bound_input K (name_at q n.name) ≡ true) path bound))
