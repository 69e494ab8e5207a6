-- Nodes stand for the names of modules.
use Rattle.std.proofs.Common.{◌⊎◌, inl, inr, ◌≡◌, ℕ, zero, suc, ◌+◌, ◌<◌, ◌≤◌, Bool, true, false, List, [], ◌∷◌, ◌++◌, length, take, drop, map, get_or, Option, Some, None, refl, ap, ◌∙◌, sym, subst, arith}
use Rattle.std.specs.Prelude.{slice_index_or, ◌||◌}
use Rattle.std.specs.List.{filter_map, cons_option, list_any}
use Rattle.std.specs.Option.{option_map}
use Rattle.std.proofs.lemmas.List.{drop_all, take_all}
use Rattle.uc_syntax.specs.declared.declaration.Decl.{Decl}
use Rattle.uc_syntax.specs.declared.declaration.Module.{Module}
use Rattle.uc_syntax.proofs.Added.{append_nil}
use Rattle.uc_meaning.specs.Lookup.{InstanceParts, System, instance_in, module_named}
use Rattle.uc_rules.specs.Cycles.{instance_steps, instance_steps_from}
use Rattle.uc_rules.proofs.Lists.{drop_turn, take_turn}
use Rattle.uc_names.specs.Senses.{module_in, no_module}
use Rattle.uc_order_rules.specs.Uses.{has_way}
use Rattle.uc_order_rules.specs.Sizes.{has_deep_module}
use Rattle.uc_uses.specs.Graph.{AreNodes, IsNode, names_by, names_in, steps_of}

pub node_found : (s : System) (x k : ℕ) (o : Option ℕ) → o ≡ Some k → option_map (module_in s.modules) o ≡ module_named s x → IsNode s x k
node_found s x k o at is = ap instance_steps_from (sym (ap (option_map (module_in s.modules)) at) ∙ is)

past_modules : (ms : List Module) (k : ℕ) → length ms ≤ k → module_in ms k ≡ no_module
past_modules [] zero h = refl
past_modules [] (suc k) h = refl
past_modules (m ∷ ms) zero h = absurd (omega (arith, h))
past_modules (m ∷ ms) (suc k) h = past_modules ms k (omega (arith, h))

no_steps : (s : System) (k : ℕ) → length s.modules ≤ k → steps_of s k ≡ []
no_steps s k h = ap (λ (m : Module). names_in m.decls) (past_modules s.modules k h)

pub node_away : (s : System) (x k : ℕ) (o : Option ℕ) → o ≡ None → option_map (module_in s.modules) o ≡ module_named s x → length s.modules ≤ k → IsNode s x k
node_away s x k o at is past = no_steps s k past ∙ ap instance_steps_from (sym (ap (option_map (module_in s.modules)) at) ∙ is)

pub nodes_join : (s : System) (ks ls xs ys : List ℕ) → AreNodes s ks xs → AreNodes s ls ys → AreNodes s (ks ++ ls) (xs ++ ys)
unfolding AreNodes
nodes_join s [] ls [] ys h i = i
nodes_join s (k ∷ ks) ls (x ∷ xs) ys h i = (h.0, nodes_join s ks ls xs ys h.1 i)
nodes_join s [] ls (x ∷ xs) ys h i = absurd h
nodes_join s (k ∷ ks) ls [] ys h i = absurd h

by_option : (d : Decl) (o : Option InstanceParts) → instance_in d ≡ o → names_by d ≡ map (λ i. i.module_name) (cons_option o [])
by_option d o is = ap (λ p. map (λ i. i.module_name) (cons_option p [])) is

pub node_added : (s : System) (d : Decl) (name node : ℕ) (o : Option ℕ) (old new : List ℕ) → o ≡ option_map (λ i. i.module_name) (instance_in d) → o ≡ Some name → IsNode s name node → new ≡ old ++ node ∷ [] →
    (names : List ℕ) → AreNodes s old names → AreNodes s new (names ++ names_by d)
unfolding AreNodes
node_added s d name node o old new o-is some stands is names held =
    let one : names_by d ≡ name ∷ [] = only (instance_in d) refl (sym o-is ∙ some) in
    subst (λ ns. AreNodes s ns (names ++ names_by d)) (sym is)
    (subst (λ xs. AreNodes s (old ++ node ∷ []) (names ++ xs)) (sym one) (nodes_join s old (node ∷ []) names (name ∷ []) held (stands, tt)))
  where
    only : (p : Option InstanceParts) → instance_in d ≡ p → option_map (λ (i : InstanceParts). i.module_name) p ≡ Some name → names_by d ≡ name ∷ []
    only (Some i) at e = by_option d (Some i) at ∙ ap (λ q. list_of q) e
      where
        list_of : Option ℕ → List ℕ
        list_of (Some x) = x ∷ []
        list_of None = []
    only None at e = absurd cc

pub none_added : (s : System) (d : Decl) (o : Option ℕ) (nodes : List ℕ) → o ≡ option_map (λ i. i.module_name) (instance_in d) → o ≡ None → (names : List ℕ) → AreNodes s nodes names → AreNodes s nodes (names ++ names_by d)
none_added s d o nodes o-is none names held =
    let nothing : names_by d ≡ [] = only (instance_in d) refl (sym o-is ∙ none) in
    subst (λ xs. AreNodes s nodes (names ++ xs)) (sym nothing) (subst (AreNodes s nodes) (sym (append_nil names)) held)
  where
    only : (p : Option InstanceParts) → instance_in d ≡ p → option_map (λ (i : InstanceParts). i.module_name) p ≡ None → names_by d ≡ []
    only None at e = by_option d None at
    only (Some i) at e = absurd cc

names_turn : (d : Decl) (ds : List Decl) → names_in (d ∷ ds) ≡ names_by d ++ names_in ds
names_turn d ds = turned (instance_in d) refl
  where
    turned : (p : Option InstanceParts) → instance_in d ≡ p → map (λ i. i.module_name) (cons_option (instance_in d) (filter_map instance_in ds)) ≡ map (λ i. i.module_name) (cons_option (instance_in d) []) ++ names_in ds
    turned None at = (λ k. map (λ i. i.module_name) (cons_option (at k) (filter_map instance_in ds))) ∙ sym (λ k. map (λ i. i.module_name) (cons_option (at k) []) ++ names_in ds)
    turned (Some i) at = (λ k. map (λ i. i.module_name) (cons_option (at k) (filter_map instance_in ds))) ∙ sym (λ k. map (λ i. i.module_name) (cons_option (at k) []) ++ names_in ds)

names_join : (ds es : List Decl) → names_in (ds ++ es) ≡ names_in ds ++ names_in es
names_join [] es = refl
names_join (d ∷ ds) es = names_turn d (ds ++ es) ∙ ap (λ xs. names_by d ++ xs) (names_join ds es) ∙ regroup (names_by d) (names_in ds) (names_in es) ∙ ap (λ xs. xs ++ names_in es) (sym (names_turn d ds))
  where
    regroup : (a b c : List ℕ) → a ++ (b ++ c) ≡ (a ++ b) ++ c
    regroup [] b c = refl
    regroup (x ∷ a) b c = ap (λ xs. x ∷ xs) (regroup a b c)

-- the nodes of the first declarations are there
pub record NodesUpTo (s : System) (ds : List Decl) (k : ℕ) (nodes : List ℕ) : Type 0 where
  pub are : AreNodes s nodes (names_in (take k ds))

pub nodes_begin : (s : System) (ds : List Decl) (none : List ℕ) → none ≡ [] → NodesUpTo s ds 0 none
unfolding AreNodes
nodes_begin s ds none is = record { are = subst (λ ns. AreNodes s ns []) (sym is) tt }

pub nodes_more : (s : System) (ds : List Decl) (k : ℕ) (nodes nodes' : List ℕ) (d x : Decl) → NodesUpTo s ds k nodes → k < length ds → d ≡ get_or ds k x →
    ((names : List ℕ) → AreNodes s nodes names → AreNodes s nodes' (names ++ names_by d)) → NodesUpTo s ds (k + 1) nodes'
nodes_more s ds k nodes nodes' d x held within at add = record {
  are = subst (AreNodes s nodes') (sym (names_join (take k ds) (d ∷ [])) ∙ sym (ap names_in (take_turn ds k d x within at))) (add (names_in (take k ds)) held.are);
}

pub nodes_end : (s : System) (ds : List Decl) (k : ℕ) (nodes : List ℕ) → NodesUpTo s ds k nodes → length ds ≤ k → AreNodes s nodes (names_in ds)
nodes_end s ds k nodes held past = subst (λ xs. AreNodes s nodes (names_in xs)) (take_all k ds past) held.are

-- The rows of the graph, from a node on.
pub Rows : System → ℕ → List (List ℕ) → Type 0
Rows s j [] = Unit {0}
Rows s j (row ∷ rows) = AreNodes s row (steps_of s j) × Rows s (suc j) rows

pub record RowsUpTo (s : System) (k : ℕ) (graph : List (List ℕ)) : Type 0 where
  pub count : length graph ≡ k
  pub rows : Rows s 0 graph

pub rows_begin : (s : System) (none : List (List ℕ)) → none ≡ [] → RowsUpTo s 0 none
unfolding Rows
rows_begin s none is = record { count = ap length is; rows = subst (Rows s 0) (sym is) tt }

row_added : (s : System) (j : ℕ) (graph : List (List ℕ)) (row : List ℕ) → Rows s j graph → AreNodes s row (steps_of s (j + length graph)) → Rows s j (graph ++ row ∷ [])
unfolding Rows
row_added s j [] row held new = let e : j + zero ≡ j = omega arith in (subst (λ n. AreNodes s row (steps_of s n)) e new, tt)
row_added s j (r ∷ rows) row held new =
    let e : j + suc (length rows) ≡ suc j + length rows = omega arith in (held.0, row_added s (suc j) rows row held.1 (subst (λ n. AreNodes s row (steps_of s n)) e new))

length_more : (graph : List (List ℕ)) (row : List ℕ) → length (graph ++ row ∷ []) ≡ length graph + 1
length_more [] row = refl
length_more (r ∷ graph) row = ap suc (length_more graph row) ∙ omega arith

pub rows_more : (s : System) (k : ℕ) (graph graph' : List (List ℕ)) (row : List ℕ) (ds : List Decl) → RowsUpTo s k graph → ds ≡ (module_in s.modules k).decls → AreNodes s row (names_in ds) → graph' ≡ graph ++ row ∷ [] → RowsUpTo s (k + 1) graph'
rows_more s k graph graph' row ds held same new is =
    let at : k ≡ 0 + length graph = let c = held.count in omega (arith, c) in
    record {
      count = ap length is ∙ length_more graph row ∙ ap (λ n. n + 1) held.count;
      rows = subst (Rows s 0) (sym is) (row_added s 0 graph row held.rows (subst (λ n. AreNodes s row (steps_of s n)) at (subst (λ xs. AreNodes s row (names_in xs)) same new)));
    }

row_at : (s : System) (j : ℕ) (graph : List (List ℕ)) → Rows s j graph → (k : ℕ) → k < length graph → AreNodes s (slice_index_or graph k []) (steps_of s (j + k))
unfolding Rows
row_at s j [] held k within = absurd (omega (arith, within))
row_at s j (row ∷ rows) held zero within = let e : j ≡ j + zero = omega arith in subst (λ n. AreNodes s row (steps_of s n)) e held.0
row_at s j (row ∷ rows) held (suc k) within =
    let e : suc j + k ≡ j + suc k = omega arith in subst (λ n. AreNodes s (slice_index_or rows k []) (steps_of s n)) e (row_at s (suc j) rows held.1 k (omega (arith, within)))

past_rows : (graph : List (List ℕ)) (k : ℕ) → length graph ≤ k → slice_index_or graph k [] ≡ []
past_rows [] zero h = refl
past_rows [] (suc k) h = refl
past_rows (r ∷ graph) zero h = absurd (omega (arith, h))
past_rows (r ∷ graph) (suc k) h = past_rows graph k (omega (arith, h))

no_nodes : (s : System) → AreNodes s [] []
unfolding AreNodes
no_nodes s = tt

pub rows_end : (s : System) (count n : ℕ) (graph : List (List ℕ)) → RowsUpTo s count graph → n ≤ count → length s.modules ≡ n → (k : ℕ) → AreNodes s (slice_index_or graph k []) (steps_of s k)
rows_end s count n graph held past size k = elim (side k (length graph)) [
  | inl within ↦ let e : 0 + k ≡ k = omega arith in subst (λ n. AreNodes s (slice_index_or graph k []) (steps_of s n)) e (row_at s 0 graph held.rows k within)
  | inr beyond ↦ subst (λ ks. AreNodes s ks (steps_of s k)) (sym (past_rows graph k beyond))
      (subst (AreNodes s []) (sym (no_steps s k (let c = held.count in omega (arith, c, past, size, beyond)))) (no_nodes s))
]
  where
    side : (a b : ℕ) → (a < b) ⊎ (b ≤ a)
    side a zero = inr (omega arith)
    side zero (suc b) = inl (omega arith)
    side (suc a) (suc b) = elim (side a b) [ inl l ↦ inl (omega (arith, l)) | inr m ↦ inr (omega (arith, m)) ]

-- Ways through the graph are ways along the names.

module _ (s : System) (graph : List (List ℕ)) (rows : (k : ℕ) → AreNodes s (slice_index_or graph k []) (steps_of s k)) where
  any_nodes : (f g : ℕ → Bool) (ks xs : List ℕ) → ((k x : ℕ) → IsNode s x k → f k ≡ g x) → AreNodes s ks xs → list_any f ks ≡ list_any g xs
  unfolding AreNodes
  any_nodes f g [] [] same h = refl
  any_nodes f g (k ∷ ks) (x ∷ xs) same h = (λ j. same k x h.0 j || any_nodes f g ks xs same h.1 j)
  any_nodes f g [] (x ∷ xs) same h = absurd h
  any_nodes f g (k ∷ ks) [] same h = absurd h

  pub way_same : (n k x : ℕ) → IsNode s x k → has_way n (λ j. slice_index_or graph j []) k ≡ has_way n (instance_steps s) x
  unfolding has_way
  way_same zero k x h = refl
  way_same (suc n) k x h =
      any_nodes (has_way n (λ j. slice_index_or graph j [])) (has_way n (instance_steps s)) (slice_index_or graph k []) (instance_steps s x) (way_same n) (subst (AreNodes s (slice_index_or graph k [])) h (rows k))

-- the modules before the k-th begin no long chain
pub record NoneDeepUpTo (s : System) (ms : List Module) (k : ℕ) : Type 0 where
  pub rest : list_any (λ m. has_way 32 (instance_steps s) m.name) (drop k ms) ≡ list_any (λ m. has_way 32 (instance_steps s) m.name) ms

pub deep_begin : (s : System) (ms : List Module) → NoneDeepUpTo s ms 0
deep_begin s ms = record { rest = refl }

module _ (s : System) (graph : List (List ℕ)) (rows : (k : ℕ) → AreNodes s (slice_index_or graph k []) (steps_of s k)) (flags : List Bool)
    (ways : (n : ℕ) → slice_index_or flags n false ≡ has_way 32 (λ j. slice_index_or graph j []) n) (ms : List Module) (k : ℕ) (m d : Module) (node : ℕ) (b : Bool)
    (held : NoneDeepUpTo s ms k) (within : k < length ms) (at : m ≡ get_or ms k d) (stands : IsNode s m.name node) (flag : b ≡ slice_index_or flags node false) where
  turn : list_any (λ m. has_way 32 (instance_steps s) m.name) ms ≡ (b || list_any (λ m. has_way 32 (instance_steps s) m.name) (drop (k + 1) ms))
  turn =
      sym held.rest ∙ ap (list_any (λ m. has_way 32 (instance_steps s) m.name)) (drop_turn ms k m d within at)
      ∙ ap (λ c. c || list_any (λ m. has_way 32 (instance_steps s) m.name) (drop (k + 1) ms)) (sym (flag ∙ ways node ∙ way_same s graph rows 32 node m.name stands))

  pub deep_found : b ≡ true → ms ≡ s.modules → true ≡ has_deep_module s
  deep_found hit same = sym (ap (list_any (λ m. has_way 32 (instance_steps s) m.name)) (sym same) ∙ turn ∙ ap (λ c. c || list_any (λ m. has_way 32 (instance_steps s) m.name) (drop (k + 1) ms)) hit)

  pub deep_more : b ≡ false → NoneDeepUpTo s ms (k + 1)
  deep_more away = record { rest = sym (turn ∙ ap (λ c. c || list_any (λ m. has_way 32 (instance_steps s) m.name) (drop (k + 1) ms)) away) }

pub deep_end : (s : System) (ms : List Module) (k : ℕ) → NoneDeepUpTo s ms k → length ms ≤ k → ms ≡ s.modules → false ≡ has_deep_module s
deep_end s ms k held past same =
    sym (ap (list_any (λ m. has_way 32 (instance_steps s) m.name)) (sym same) ∙ sym held.rest ∙ ap (list_any (λ m. has_way 32 (instance_steps s) m.name)) (drop_all k ms past))
