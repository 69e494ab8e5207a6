-- Nodes and paths.
use Rattle.std.proofs.Common.{◌≡◌, ℕ, zero, suc, ◌<◌, List, [], ◌∷◌, ◌++◌, Option, Some, None, refl, ap, sym, subst, ◌∙◌, ◌⊎◌, inl, inr, ⊎_elim, arith}
use Rattle.std.specs.Prelude.{slice_get, is_some, if◌then◌else◌}
use Rattle.std.specs.Option.{option_and_then, option_map}
use Rattle.uc_syntax.specs.declared.declaration.Module.{Module}
use Rattle.uc_meaning.specs.Lookup.{System, InstanceParts, instance_of, main_module, module_at, module_from, module_named}
use Rattle.uc_order_rules.specs.Roots.{NameAt, led, name_at}
use Rattle.uc_uses.specs.declared.tree.Step.{Step}
use Rattle.uc_uses.specs.declared.tree.Node.{Node}
use Rattle.uc_uses.specs.declared.tree.InstanceTree.{InstanceTree}
use Rattle.uc_uses.specs.Trees.{IsBelow, IsInstanceIn, IsTree, code_at, instance_at, joined, led_node, led_on, node_at, node_from, step}
use Rattle.uc_uses.specs.PathLaw.{IsLed, TreesHavePaths}
use Rattle.uc_uses.proofs.Lists.{none_some, some_same}

snoc : (p : List ℕ) → (p ≡ []) ⊎ ((q : List ℕ) × (x : ℕ) × (p ≡ q ++ x ∷ []))
snoc [] = inl refl
snoc (y ∷ p) = ⊎_elim (λ e. inr ([], y, ap (λ q. y ∷ q) e)) (λ r. inr (y ∷ r.0, r.1, ap (λ q. y ∷ q) r.2)) (snoc p)

get_earlier : {A : Type 0} (xs : List A) (j k : ℕ) (x : A) → slice_get xs k ≡ Some x → j < k → (y : A) × (slice_get xs j ≡ Some y)
get_earlier [] j zero x h l = none_some x h
get_earlier [] j (suc k) x h l = none_some x h
get_earlier (z ∷ xs) j zero x h l = absurd (omega (arith, l))
get_earlier (z ∷ xs) zero (suc k) x h l = (z, refl)
get_earlier (z ∷ xs) (suc j) (suc k) x h l = get_earlier xs j k x h (omega (arith, l))

then_some : {A B : Type 0} (f : A → Option B) (o : Option A) (y : B) → option_and_then f o ≡ Some y → (x : A) × (o ≡ Some x) × (f x ≡ Some y)
then_some f None y h = none_some y h
then_some f (Some x) y h = (x, refl, h)

joined_some : (o : Option (Option ℕ)) (j : ℕ) → joined o ≡ Some j → o ≡ Some (Some j)
joined_some None j h = none_some j h
joined_some (Some o) j h = ap (λ q. Some q) h

code_of : (t : InstanceTree) (k : ℕ) (m : Module) → code_at t k ≡ Some m → (n : Node) × (slice_get t.nodes k ≡ Some n)
code_of t k m h = by (slice_get t.nodes k) refl h
  where
    by : (o : Option Node) → slice_get t.nodes k ≡ o → option_map (λ n. n.code.now) o ≡ Some m → (n : Node) × (slice_get t.nodes k ≡ Some n)
    by None is h = none_some m h
    by (Some n) is h = (n, is)

module _ (system : System) (t : InstanceTree) (tree : IsTree system t) where
  -- ---- modules

  from_code : (path : List ℕ) (k : ℕ) (m : Module) → code_at t k ≡ Some m → option_and_then (code_at t) (node_from t k path) ≡ module_from system m path
  unfolding node_from module_from
  from_code [] k m here = here
  from_code (x ∷ path) k m here = by (instance_at t k x) (instance_of m x) (tree.below k x m here) (λ j c h. from_code path j c h)
    where
      by : (o : Option (Option ℕ)) (i : Option InstanceParts) → IsBelow system t.nodes o i →
          ((j : ℕ) (c : Module) → code_at t j ≡ Some c → option_and_then (code_at t) (node_from t j path) ≡ module_from system c path) →
          option_and_then (code_at t) (option_and_then (λ j. node_from t j path) (joined o)) ≡ option_and_then (λ n. module_from system n path) (option_and_then (λ p. module_named system p.module_name) i)
      by None None h more = refl
      by None (Some p) h more = absurd h
      by (Some None) None h more = absurd h
      by (Some None) (Some p) h more = sym (ap (option_and_then (λ n. module_from system n path)) h)
      by (Some (Some j)) None h more = absurd h
      by (Some (Some j)) (Some p) h more =
          more j h.0.code.now (ap (option_map (λ (n : Node). n.code.now)) h.1) ∙ sym (ap (option_and_then (λ n. module_from system n path)) h.2)

  module _ (m : Module) (main : main_module system ≡ Some m) where
    root_code : code_at t 0 ≡ Some m
    root_code = tree.root ∙ main

    pub codes : (path : List ℕ) → option_and_then (code_at t) (node_at t path) ≡ module_at system path
    codes path = from_code path 0 m root_code ∙ sym (ap (option_and_then (λ c. module_from system c path)) main)

  -- ---- the last instance of a path

  from_last : (path : List ℕ) (x k : ℕ) → node_from t k (path ++ x ∷ []) ≡ option_and_then (λ j. joined (instance_at t j x)) (node_from t k path)
  unfolding node_from
  from_last [] x k = one (joined (instance_at t k x))
    where
      one : (o : Option ℕ) → option_and_then (λ j. Some j) o ≡ o
      one None = refl
      one (Some j) = refl
  from_last (y ∷ path) x k = by (joined (instance_at t k y)) (λ j. from_last path x j)
    where
      by : (o : Option ℕ) → ((j : ℕ) → node_from t j (path ++ x ∷ []) ≡ option_and_then (λ i. joined (instance_at t i x)) (node_from t j path)) → option_and_then (λ j. node_from t j (path ++ x ∷ [])) o ≡ option_and_then (λ j. joined (instance_at t j x)) (option_and_then (λ j. node_from t j path) o)
      by None more = refl
      by (Some j) more = more j

  -- ---- each node has one path

  to_root : (p : List ℕ) (n : Node) → slice_get t.nodes 0 ≡ Some n → n.above ≡ None → node_at t p ≡ Some 0 → p ≡ []
  to_root p n at free is =
      ⊎_elim (λ e. e)
      (λ r.
      let k = then_some (λ j. joined (instance_at t j r.1)) (node_at t r.0) 0 (sym (from_last r.0 r.1 0) ∙ ap (node_at t) (sym r.2) ∙ is) in
      let a = tree.above k.0 r.1 0 (joined_some (instance_at t k.0 r.1) 0 k.2) in
      let same : a.0 ≡ n = some_same a.0 n (sym a.1 ∙ at) in
      none_some (step k.0 r.1) (sym free ∙ ap (λ (q : Node). q.above) (sym same) ∙ a.2))
      (snoc p)

  to_instance : (p : List ℕ) (k : ℕ) (n : Node) → slice_get t.nodes k ≡ Some n → (i : IsInstanceIn t k n) → node_at t p ≡ Some k → (q : List ℕ) × (p ≡ q ++ i.above.name ∷ []) × (node_at t q ≡ Some i.above.node)
  unfolding node_from
  to_instance p k n at i is =
      ⊎_elim
      (λ e.
      let zero_is : 0 ≡ k = some_same 0 k (sym (ap (node_at t) e) ∙ is) in
      let less = i.before in
      absurd (omega (arith, zero_is, less)))
      (λ r.
      let j = then_some (λ j. joined (instance_at t j r.1)) (node_at t r.0) k (sym (from_last r.0 r.1 0) ∙ ap (node_at t) (sym r.2) ∙ is) in
      let a = tree.above j.0 r.1 k (joined_some (instance_at t j.0 r.1) k j.2) in
      let same : a.0 ≡ n = some_same a.0 n (sym a.1 ∙ at) in
      let steps : step j.0 r.1 ≡ i.above = some_same (step j.0 r.1) i.above (sym a.2 ∙ ap (λ (q : Node). q.above) same ∙ i.is) in
      (r.0, r.2 ∙ ap (λ (s : Step). r.0 ++ s.name ∷ []) steps, j.1 ∙ ap (λ (s : Step). Some s.node) steps))
      (snoc p)

  one_path : (fuel k : ℕ) (n : Node) (p q : List ℕ) → k < fuel → slice_get t.nodes k ≡ Some n → node_at t p ≡ Some k → node_at t q ≡ Some k → p ≡ q
  one_path zero k n p q l at a b = absurd (omega (arith, l))
  one_path (suc fuel) k n p q l at a b =
      ⊎_elim
      (λ f.
      let root : slice_get t.nodes 0 ≡ Some n = ap (slice_get t.nodes) (sym f.first) ∙ at in
      to_root p n root f.above (a ∙ ap (λ j. Some j) f.first) ∙ sym (to_root q n root f.above (b ∙ ap (λ j. Some j) f.first)))
      (λ i.
      let x = to_instance p k n at i a in
      let y = to_instance q k n at i b in
      let less = i.before in
      let up = get_earlier t.nodes i.above.node k n at less in
      x.1 ∙ ap (λ r. r ++ i.above.name ∷ []) (one_path fuel i.above.node up.0 x.0 y.0 (omega (arith, l, less)) up.1 x.2 y.2) ∙ sym y.1)
      (tree.stands k n at)

  some_path : (fuel k : ℕ) (n : Node) → k < fuel → slice_get t.nodes k ≡ Some n → (path : List ℕ) × (node_at t path ≡ Some k)
  unfolding node_from
  some_path zero k n l at = absurd (omega (arith, l))
  some_path (suc fuel) k n l at =
      ⊎_elim
      (λ f. ([], ap (λ j. Some j) (sym f.first)))
      (λ i.
      let less = i.before in
      let up = get_earlier t.nodes i.above.node k n at less in
      let p = some_path fuel i.above.node up.0 (omega (arith, l, less)) up.1 in
      (p.0 ++ i.above.name ∷ [], from_last p.0 i.above.name 0 ∙ ap (option_and_then (λ j. joined (instance_at t j i.above.name))) p.1 ∙ ap joined i.leads))
      (tree.stands k n at)

  -- ---- where names lead

  led_nowhere : (q : List ℕ) (y : ℕ) (ys : List ℕ) → module_at system q ≡ None → led system q y ys ≡ name_at q y
  unfolding led
  led_nowhere q y [] none = refl
  led_nowhere q y (z ∷ ys) none = ap (λ o. if is_some (option_and_then (λ m. instance_of m y) o) then led system (q ++ y ∷ []) z ys else name_at q y) none

  module _ (m : Module) (main : main_module system ≡ Some m) where
    one : (o : Option ℕ) → option_and_then (code_at t) o ≡ option_and_then (code_at t) (option_and_then (λ j. Some j) o)
    one None = refl
    one (Some j) = refl

    two : (o : Option Module) → option_and_then (λ n. Some n) o ≡ o
    two None = refl
    two (Some n) = refl

    below_at : (path : List ℕ) (k : ℕ) (c : Module) (x : ℕ) → node_at t path ≡ Some k → code_at t k ≡ Some c → module_at system (path ++ x ∷ []) ≡ option_and_then (λ p. module_named system p.module_name) (instance_of c x)
    unfolding node_from module_from
    below_at path k c x at here =
        sym (codes m main (path ++ x ∷ []))
        ∙ ap (option_and_then (code_at t)) (from_last path x 0 ∙ ap (option_and_then (λ j. joined (instance_at t j x))) at)
        ∙ one (joined (instance_at t k x))
        ∙ from_code (x ∷ []) k c here
        ∙ two (option_and_then (λ p. module_named system p.module_name) (instance_of c x))

    leads : (ys path : List ℕ) (k : ℕ) (c : Module) (x : ℕ) → node_at t path ≡ Some k → code_at t k ≡ Some c → IsLed system t (led_node t k x ys) (led system path x ys)
    unfolding led led_node
    leads [] path k c x at here = (at, refl)
    leads (y ∷ ys) path k c x at here =
        subst (λ o. IsLed system t (led_on (Some (step k x)) (λ j. led_node t j y ys) (instance_at t k x)) (if is_some (option_and_then (λ n. instance_of n x) o) then led system (path ++ x ∷ []) y ys else name_at path x)) (sym there)
        (by (instance_at t k x) refl (instance_of c x) refl (tree.below k x c here) (λ q j n to h. leads ys q j n y to h))
      where
        there : module_at system path ≡ Some c
        there = sym (codes m main path) ∙ ap (option_and_then (code_at t)) at ∙ here

        below : (i : Option InstanceParts) → instance_of c x ≡ i → module_at system (path ++ x ∷ []) ≡ option_and_then (λ p. module_named system p.module_name) i
        below i is = below_at path k c x at here ∙ ap (option_and_then (λ p. module_named system p.module_name)) is

        by : (o : Option (Option ℕ)) → instance_at t k x ≡ o → (i : Option InstanceParts) → instance_of c x ≡ i → IsBelow system t.nodes o i →
            ((q : List ℕ) (j : ℕ) (n : Module) → node_at t q ≡ Some j → code_at t j ≡ Some n → IsLed system t (led_node t j y ys) (led system q y ys)) →
            IsLed system t (led_on (Some (step k x)) (λ j. led_node t j y ys) o) (if is_some i then led system (path ++ x ∷ []) y ys else name_at path x)
        by None oi None is h more = (at, refl)
        by None oi (Some p) is h more = absurd h
        by (Some None) oi None is h more = absurd h
        by (Some None) oi (Some p) is h more =
            let none : module_at system (path ++ x ∷ []) ≡ None = below (Some p) is ∙ h in
            subst (λ (n : NameAt). module_at system n.path ≡ None) (sym (led_nowhere (path ++ x ∷ []) y ys none)) none
        by (Some (Some j)) oi None is h more = absurd h
        by (Some (Some j)) oi (Some p) is h more =
            more (path ++ x ∷ []) j h.0.code.now (from_last path x 0 ∙ ap (option_and_then (λ i. joined (instance_at t i x))) at ∙ ap joined oi) (ap (option_map (λ (n : Node). n.code.now)) h.1)

pub trees_have_paths : TreesHavePaths
trees_have_paths system t m main tree = record {
  codes = codes system t tree m main;
  alone = λ p q k c here a b. let n = code_of t k c here in one_path system t tree (suc k) k n.0 p q (omega arith) n.1 a b;
  reached = λ k c here. let n = code_of t k c here in some_path system t tree (suc k) k n.0 (omega arith) n.1;
  last = λ path x. from_last system t tree path x 0;
  leads = λ path k c x ys at here. leads system t tree m main ys path k c x at here;
}
