-- The blocks that are stepped, by nodes and by paths.
use Rattle.std.proofs.Common.{◌≡◌, ℕ, zero, suc, ◌<◌, Bool, true, false, List, [], ◌∷◌, ◌++◌, length, take, Option, Some, None, refl, ap, sym, subst, ◌∙◌, ◌⊎◌, inl, inr, ⊎_elim, arith}
use Rattle.std.specs.Prelude.{nat_eq, slice_get, ◌&&◌}
use Rattle.std.specs.List.{list_any}
use Rattle.std.specs.Option.{option_and_then, option_map}
use Rattle.uc_syntax.specs.declared.declaration.Module.{Module}
use Rattle.uc_meaning.specs.Lookup.{System, main_module, module_at}
use Rattle.uc_declared_types.specs.AliasLaw.{IsAmong}
use Rattle.uc_declared_types.proofs.Along.{any_by, any_there}
use Rattle.uc_uses.specs.declared.tree.Node.{Node}
use Rattle.uc_uses.specs.declared.tree.Step.{Step}
use Rattle.uc_uses.specs.declared.tree.InstanceTree.{InstanceTree}
use Rattle.uc_uses.specs.Trees.{IsTree, code_at, instance_at, joined, node_at, node_from, step}
use Rattle.uc_uses.specs.PathLaw.{NodesHavePaths}
use Rattle.uc_uses.proofs.Lists.{get_within, none_some, some_same}
use Rattle.uc_uses.proofs.Paths.{trees_have_paths}
use Rattle.uc_step_cycles.specs.declared.acts.Act.{Act}
use Rattle.uc_step_cycles.specs.declared.acts.Act.TheVariants.{Writes, Steps}
use Rattle.uc_step_cycles.specs.declared.acts.Acts.{Acts}
use Rattle.uc_step_cycles.specs.Acts.{AreActs}
use Rattle.uc_step_cycles.specs.Stepping.{IsStepped, IsSteppedIn, KnowsBlocks}
use Rattle.uc_step_cycles.specs.declared.stepped_blocks.Block.{Block}
use Rattle.uc_step_cycles.specs.Blocks.{KnowsTree, flag_in, flag_of}
use Rattle.uc_step_cycles.specs.Steps.{KnowsSteps, steps_name}
use Rattle.uc_step_cycles.specs.StepLaw.{FollowsSteps, IsShallow, StepsAreFollowed, acts_at, acts_in}

clash : {A : Type 0} → false ≡ true → A
clash h = cc

equal : (n m : ℕ) → nat_eq n m ≡ true → n ≡ m
equal n m h = grind (arith, h)

same : (n : ℕ) → nat_eq n n ≡ true
same n = grind arith

both_left : (b c : Bool) → (b && c) ≡ true → b ≡ true
both_left true c h = refl
both_left false c h = clash h

both_right : (b c : Bool) → (b && c) ≡ true → c ≡ true
both_right true c h = h
both_right false c h = clash h

both : (b c : Bool) → b ≡ true → c ≡ true → (b && c) ≡ true
both true c h g = g
both false c h g = clash h

get_taken : {A : Type 0} (n : ℕ) (xs : List A) (k : ℕ) → k < n → slice_get (take n xs) k ≡ slice_get xs k
get_taken zero xs k h = absurd (omega (arith, h))
get_taken (suc n) [] k h = refl
get_taken (suc n) (x ∷ xs) zero h = refl
get_taken (suc n) (x ∷ xs) (suc k) h = get_taken n xs k (omega (arith, h))

joined_some : (o : Option (Option ℕ)) (j : ℕ) → joined o ≡ Some j → o ≡ Some (Some j)
joined_some None j h = none_some j h
joined_some (Some o) j h = ap (λ q. Some q) h

-- an act that steps an instance of a name
step_named : (x : ℕ) (a : Act) → steps_name x a ≡ true → (k : ℕ) × (a ≡ Steps x k)
step_named x (Writes w) h = clash h
step_named x (Steps i k) h = (k, ap (λ y. Steps y k) (equal i x h))

Ends : List ℕ → Type 0
Ends path = (path ≡ []) ⊎ ((q : List ℕ) × (i : ℕ) × (path ≡ q ++ i ∷ []))

ends : (path : List ℕ) → Ends path
unfolding Ends
ends [] = inl refl
ends (x ∷ path) = inr (⊎_elim (λ e. ([], x, ap (λ p. x ∷ p) e)) (λ r. (x ∷ r.0, r.1, ap (λ p. x ∷ p) r.2)) (ends path))

push_not_empty : {A : Type 0} (q : List ℕ) (i : ℕ) → q ++ i ∷ [] ≡ [] → A
push_not_empty [] i h = cc
push_not_empty (j ∷ q) i h = cc

push_same : (p q : List ℕ) (i j : ℕ) → p ++ i ∷ [] ≡ q ++ j ∷ [] → (p ≡ q) × (i ≡ j)
push_same [] [] i j h = (refl, cc)
push_same [] (y ∷ q) i j h = let e : [] ≡ q ++ j ∷ [] = cc in push_not_empty q j (sym e)
push_same (x ∷ p) [] i j h = let e : p ++ i ∷ [] ≡ [] = cc in push_not_empty p i e
push_same (x ∷ p) (y ∷ q) i j h = let e : p ++ i ∷ [] ≡ q ++ j ∷ [] = cc in let f : x ≡ y = cc in let r = push_same p q i j e in ((λ k. f k ∷ r.0 k), r.1)

module _ (system : System) (t : InstanceTree) (blocks : List Block) (m : Module) (is_root : main_module system ≡ Some m) (tree : IsTree system t) (shallow : IsShallow t) (known : KnowsTree t blocks) where
  abbrev acts : List ℕ → Acts
  acts path = acts_at t blocks path

  paths : NodesHavePaths system t
  paths = trees_have_paths system t m is_root tree

  code_node : (j : ℕ) (n : Module) → code_at t j ≡ Some n → (node : Node) × (slice_get t.nodes j ≡ Some node) × (node.code.now ≡ n)
  code_node j n h = by (slice_get t.nodes j) refl h
    where
      by : (o : Option Node) → slice_get t.nodes j ≡ o → option_map (λ (z : Node). z.code.now) o ≡ Some n → (node : Node) × (slice_get t.nodes j ≡ Some node) × (node.code.now ≡ n)
      by None is h = none_some n h
      by (Some z) is h = (z, is, some_same z.code.now n h)

  path_node : (path : List ℕ) (n : Module) → module_at system path ≡ Some n → (j : ℕ) × (node_at t path ≡ Some j) × (code_at t j ≡ Some n)
  path_node path n h = by (node_at t path) refl (paths.codes path ∙ h)
    where
      by : (o : Option ℕ) → node_at t path ≡ o → option_and_then (code_at t) o ≡ Some n → (j : ℕ) × (node_at t path ≡ Some j) × (code_at t j ≡ Some n)
      by None is h = none_some n h
      by (Some j) is h = (j, is, h)

  acts_is : (path : List ℕ) (j : ℕ) (b : Block) → node_at t path ≡ Some j → slice_get blocks j ≡ Some b → acts path ≡ b.acts
  acts_is path j b at there = ap (λ o. acts_in (option_and_then (slice_get blocks) o)) at ∙ ap acts_in there

  blocks_known : KnowsBlocks system (acts_at t blocks)
  blocks_known = record {
    root = m;
    is_root = is_root;
    acts_are = λ path n h.
        let j = path_node path n h in
        let node = code_node j.0 n j.2 in
        let b = known.at j.0 node.0 node.1 in
        subst (AreActs n) (sym (acts_is path j.0 b.0 j.1 b.1)) (subst (λ z. AreActs z b.0.acts) node.2 b.2.acts_are);
    shallow = λ path n h. let j = path_node path n h in shallow path j.0 j.1;
  }

  -- a node that stands in another one
  record Below (q : List ℕ) (i j : ℕ) : Type 0 where
    k : ℕ
    at : node_at t q ≡ Some k
    leads : instance_at t k i ≡ Some (Some j)
    node : Node
    there : slice_get t.nodes j ≡ Some node
    above : node.above ≡ Some (step k i)
    before : k < j

  below : (q : List ℕ) (i j : ℕ) → node_at t (q ++ i ∷ []) ≡ Some j → Below q i j
  below q i j h = by (node_at t q) refl (sym (paths.last q i) ∙ h)
    where
      by : (o : Option ℕ) → node_at t q ≡ o → option_and_then (λ k. joined (instance_at t k i)) o ≡ Some j → Below q i j
      by None is h = none_some j h
      by (Some k) is h =
          let leads = joined_some (instance_at t k i) j h in
          let a = tree.above k i j leads in
          record {
            k = k;
            at = is;
            leads = leads;
            node = a.0;
            there = a.1;
            above = a.2;
            before = ⊎_elim
                (λ f. none_some (step k i) (sym f.above ∙ a.2))
                (λ s.
                let one = some_same s.above (step k i) (sym s.is ∙ a.2) in
                let same_node = ap (λ (z : Step). z.node) one in
                let less = s.before in
                omega (arith, same_node, less))
                (tree.stands j a.0 a.1);
          }

  node_there : (q : List ℕ) (i j : ℕ) (b : Below q i j) → (node : Node) × (slice_get t.nodes b.k ≡ Some node)
  node_there q i j b = there_below t.nodes b.k (let l = get_within t.nodes j b.node b.there in let less = b.before in omega (arith, l, less))
    where
      there_below : {A : Type 0} (xs : List A) (k : ℕ) → k < length xs → (x : A) × (slice_get xs k ≡ Some x)
      there_below [] k h = absurd (omega (arith, h))
      there_below (x ∷ xs) zero h = (x, refl)
      there_below (x ∷ xs) (suc k) h = there_below xs k (omega (arith, h))

  flag_below : (q : List ℕ) (i j : ℕ) (b : Below q i j) (mine above : Block) → slice_get blocks j ≡ Some mine → slice_get blocks b.k ≡ Some above → mine.is_stepped ≡ (above.is_stepped && list_any (steps_name i) above.acts.acts)
  unfolding KnowsSteps
  flag_below q i j b mine above at at_above =
      let d = known.at j b.node b.there in
      let one : d.0 ≡ mine = some_same d.0 mine (sym d.1 ∙ at) in
      let n = node_there q i j b in
      let e = known.at b.k n.0 n.1 in
      let two : e.0 ≡ above = some_same e.0 above (sym e.1 ∙ at_above) in
      let steps : KnowsSteps above.acts.acts above.steps = subst (λ (z : Block). KnowsSteps z.acts.acts z.steps) two e.2.steps_are in
      ap (λ (z : Block). z.is_stepped) (sym one)
      ∙ d.2.flag
      ∙ ap (flag_of (take j blocks)) b.above
      ∙ ap (flag_in i) (get_taken j blocks b.k b.before ∙ at_above)
      ∙ ap (λ c. above.is_stepped && c) (steps i)

  block_there : (j : ℕ) (node : Node) → slice_get t.nodes j ≡ Some node → (b : Block) × (slice_get blocks j ≡ Some b)
  block_there j node h = let b = known.at j node h in (b.0, b.1)

  module_there : (path : List ℕ) (j : ℕ) (node : Node) → node_at t path ≡ Some j → slice_get t.nodes j ≡ Some node → module_at system path ≡ Some node.code.now
  module_there path j node at there = sym (paths.codes path) ∙ ap (option_and_then (code_at t)) at ∙ ap (option_map (λ (z : Node). z.code.now)) there

  step_in : (q : List ℕ) (i k : ℕ) (a : Block) → node_at t q ≡ Some k → slice_get blocks k ≡ Some a → list_any (steps_name i) a.acts.acts ≡ true → (n : ℕ) × IsAmong (Steps i n) (acts q).acts
  step_in q i k a at there h =
      let s = any_by (steps_name i) a.acts.acts h in
      let n = step_named i s.0 s.2 in
      (n.0, subst (λ (x : Acts). IsAmong (Steps i n.0) x.acts) (sym (acts_is q k a at there)) (subst (λ (z : Act). IsAmong z a.acts.acts) n.1 s.1))

  one_deeper : (q : List ℕ) (i k j : ℕ) (path : List ℕ) (a : Block) (node : Node) → path ≡ q ++ i ∷ [] → node_at t q ≡ Some k → slice_get blocks k ≡ Some a → node_at t path ≡ Some j → slice_get t.nodes j ≡ Some node →
      list_any (steps_name i) a.acts.acts ≡ true → IsStepped system acts q → IsStepped system acts path
  unfolding IsSteppedIn
  one_deeper q i k j path a node is at_q at_k at_path there steps up =
      let n = step_in q i k a at_q at_k steps in
      (suc up.0, (q, i, n.0, node.code.now, up.1, is, n.1, module_there path j node at_path there))

  length_one : (q : List ℕ) (i : ℕ) → length (q ++ i ∷ []) ≡ suc (length q)
  length_one [] i = refl
  length_one (x ∷ q) i = ap suc (length_one q i)

  abbrev To : ℕ → Type 0
  To fuel = (path : List ℕ) (j : ℕ) (b : Block) → length path < fuel → node_at t path ≡ Some j → slice_get blocks j ≡ Some b → b.is_stepped ≡ true → IsStepped system acts path

  to_more : (fuel : ℕ) → To fuel → (q : List ℕ) (i : ℕ) (path : List ℕ) (j : ℕ) (b : Block) → path ≡ q ++ i ∷ [] → length path < suc fuel → node_at t path ≡ Some j → slice_get blocks j ≡ Some b → b.is_stepped ≡ true → Below q i j → IsStepped system acts path
  to_more fuel more q i path j b is less at there flag w = by (node_there q i j w)
    where
      by_block : (a : Block) → slice_get blocks w.k ≡ Some a → IsStepped system acts path
      by_block a at_a =
          let both_is : (a.is_stepped && list_any (steps_name i) a.acts.acts) ≡ true = sym (flag_below q i j w b a there at_a) ∙ flag in
          let shorter : length q < fuel = (let l = ap length is in let e = length_one q i in omega (arith, less, l, e)) in
          one_deeper q i w.k j path a w.node is w.at at_a at w.there (both_right a.is_stepped (list_any (steps_name i) a.acts.acts) both_is)
          (more q w.k a shorter w.at at_a (both_left a.is_stepped (list_any (steps_name i) a.acts.acts) both_is))

      by : (n : Node) × (slice_get t.nodes w.k ≡ Some n) → IsStepped system acts path
      by n = let a = block_there w.k n.0 n.1 in by_block a.0 a.1

  to_path : (fuel : ℕ) → To fuel
  unfolding Ends IsSteppedIn
  to_path zero path j b less at there flag = absurd (omega (arith, less))
  to_path (suc fuel) path j b less at there flag =
      ⊎_elim
      (λ none. (0, none))
      (λ r. to_more fuel (to_path fuel) r.0 r.1 path j b r.2 less at there flag (below r.0 r.1 j (ap (node_at t) (sym r.2) ∙ at)))
      (ends path)

  from_path : (n : ℕ) (path : List ℕ) (j : ℕ) (b : Block) → IsSteppedIn system acts n path → node_at t path ≡ Some j → slice_get blocks j ≡ Some b → b.is_stepped ≡ true
  unfolding IsSteppedIn node_from
  from_path zero path j b s at there =
      let first : 0 ≡ j = some_same 0 j (sym (ap (node_at t) s) ∙ at) in
      let n = root_there in
      let d = known.at 0 n.0 n.1 in
      let one : d.0 ≡ b = some_same d.0 b (sym d.1 ∙ ap (slice_get blocks) first ∙ there) in
      ap (λ (z : Block). z.is_stepped) (sym one) ∙ d.2.flag ∙ ap (flag_of (take 0 blocks)) (alone n.0 n.1)
    where
      root_there : (node : Node) × (slice_get t.nodes 0 ≡ Some node)
      root_there = let c = code_node 0 m (tree.root ∙ is_root) in (c.0, c.1)

      alone : (node : Node) → slice_get t.nodes 0 ≡ Some node → node.above ≡ None
      alone node is = ⊎_elim (λ f. f.above) (λ i. let l = i.before in absurd (omega (arith, l))) (tree.stands 0 node is)
  from_path (suc n) path j b s at there =
      let w = below s.0 s.1 j (ap (node_at t) (sym s.5) ∙ at) in
      let v = node_there s.0 s.1 j w in
      let a = block_there w.k v.0 v.1 in
      let up = from_path n s.0 w.k a.0 s.4 w.at a.1 in
      flag_below s.0 s.1 j w b a.0 there a.1
      ∙ both a.0.is_stepped (list_any (steps_name s.1) a.0.acts.acts) up
      (any_there (steps_name s.1) a.0.acts.acts (Steps s.1 s.2) (subst (λ xs. IsAmong (Steps s.1 s.2) xs.acts) (acts_is s.0 w.k a.0 w.at a.1) s.6) (same s.1))

  pub follows : FollowsSteps system t blocks
  follows = record {
    known = blocks_known;
    stepped = λ path j b at there. ((λ flag. to_path (suc (length path)) path j b (omega arith) at there flag), (λ s. from_path s.0 path j b s.1 at there));
  }

pub steps_are_followed : StepsAreFollowed
steps_are_followed system t blocks m is_root tree shallow known = follows system t blocks m is_root tree shallow known
