-- Ways in the graph, and ways of uses.
use Rattle.std.proofs.Common.{◌≡◌, ℕ, zero, suc, ◌<◌, Bool, true, false, List, [], ◌∷◌, map, length, Some, refl, ap, sym, subst, ◌∙◌, ◌⊎◌, inl, inr, ⊎_elim, arith}
use Rattle.std.specs.Prelude.{slice_get, nat_eq, ◌||◌}
use Rattle.std.specs.List.{list_any}
use Rattle.std.specs.Option.{option_and_then, option_map}
use Rattle.uc_syntax.specs.declared.declaration.Module.{Module}
use Rattle.uc_meaning.specs.Lookup.{System, main_module}
use Rattle.uc_graph.specs.Order.{has, needs}
use Rattle.uc_graph.specs.Cycles.{IsWay, LeadsTo, LiesOnCycle}
use Rattle.uc_graph.proofs.GraphCyclesWays.{by_edge, leads_on}
use Rattle.uc_declared_types.specs.AliasLaw.{IsAmong}
use Rattle.uc_order_rules.specs.Roots.{NameAt, name_at}
use Rattle.uc_order_rules.specs.Uses.{Used, UsedDefine, UsedProcedure, UsedInput, has_way, uses_of}
use Rattle.uc_uses.specs.Ways.{Leads}
use Rattle.uc_uses.proofs.UseBoundsWays.{Way, Goes, goes_one, goes_on}
use Rattle.uc_uses.proofs.UseBoundsNames.{goes, leads}
use Rattle.uc_uses.specs.declared.tree.Node.{Node}
use Rattle.uc_uses.specs.declared.tree.InstanceTree.{InstanceTree}
use Rattle.uc_uses.specs.Trees.{IsTree}
use Rattle.uc_uses.proofs.Lists.{get_within, some_same}
use Rattle.uc_uses.specs.declared.uses.UseKind.{UseKind}
use Rattle.uc_uses.specs.declared.uses.UseKind.TheVariants.{Define, Procedure, Input}
use Rattle.uc_uses.specs.declared.uses.UseName.{UseName}
use Rattle.uc_uses.specs.declared.uses.NumberedUse.{NumberedUse}
use Rattle.uc_uses.specs.declared.table.UseTable.{UseTable}
use Rattle.uc_uses.specs.Tables.{KnowsUses, number, use_name}
use Rattle.uc_uses.specs.Resolving.{all_source_uses, source_uses}
use Rattle.uc_uses.specs.Sources.{source_meant}
use Rattle.uc_uses.specs.Numbers.{FollowsUses, GraphsFollowUses, number_of, numbered}
use Rattle.uc_uses.proofs.Texts.{at_path, idle_define, idle_procedure, inputs, node_of, paths, text, texts}
use Rattle.uc_uses.proofs.Standing.{AreNumbered, StandsFor, graph, stands_on}

nothing : {A : Type 0} → false ≡ true → A
nothing h = cc

equal : (n m : ℕ) → nat_eq n m ≡ true → n ≡ m
equal n m h = grind (arith, h)

same : (n : ℕ) → nat_eq n n ≡ true
same n = grind arith

either : (b c : Bool) → (b || c) ≡ true → (b ≡ true) ⊎ (c ≡ true)
either true c h = inl refl
either false c h = inr h

or_left : (b c : Bool) → b ≡ true → (b || c) ≡ true
or_left b c h = ap (λ x. x || c) h

or_right : (b c : Bool) → c ≡ true → (b || c) ≡ true
or_right true c h = refl
or_right false c h = h

get_some : {A : Type 0} (xs : List A) (k : ℕ) → k < length xs → (x : A) × (slice_get xs k ≡ Some x)
get_some [] k h = absurd (omega (arith, h))
get_some (x ∷ xs) zero h = (x, refl)
get_some (x ∷ xs) (suc k) h = get_some xs k (omega (arith, h))

length_map : {A B : Type 0} (f : A → B) (xs : List A) → length (map f xs) ≡ length xs
length_map f [] = refl
length_map f (x ∷ xs) = ap suc (length_map f xs)

kind_of : Used → UseKind
kind_of (UsedDefine n) = Define
kind_of (UsedProcedure n) = Procedure
kind_of (UsedInput n) = Input

name_of : Used → NameAt
name_of (UsedDefine n) = n
name_of (UsedProcedure n) = n
name_of (UsedInput n) = n

used : UseKind → NameAt → Used
used Define n = UsedDefine n
used Procedure n = UsedProcedure n
used Input n = UsedInput n

used_is : (v : Used) → used (kind_of v) (name_of v) ≡ v
unfolding used kind_of name_of
used_is (UsedDefine n) = refl
used_is (UsedProcedure n) = refl
used_is (UsedInput n) = refl

module _ (system : System) (m : Module) (t : InstanceTree) (main : main_module system ≡ Some m) (tree : IsTree system t) (u : UseTable) (knows : KnowsUses t u) where
  abbrev g : List (List ℕ)
  g = graph system m t main tree u knows

  abbrev Stand : Used → ℕ → Type 0
  Stand v i = StandsFor system m t main tree u knows v i

  abbrev Are : List ℕ → List Used → Type 0
  Are is vs = AreNumbered system m t main tree u knows is vs

  on : (v : Used) (i : ℕ) → Stand v i → Are (needs g i) (uses_of system v)
  on v i h = stands_on system m t main tree u knows v i h

  -- ---- how long ways are

  any_same : (f : ℕ → Bool) (h : Used → Bool) → ((v : Used) (i : ℕ) → Stand v i → f i ≡ h v) → (is : List ℕ) (vs : List Used) → Are is vs → list_any f is ≡ list_any h vs
  unfolding AreNumbered
  any_same f h each [] [] a = refl
  any_same f h each [] (v ∷ vs) a = absurd a
  any_same f h each (i ∷ is) [] a = absurd a
  any_same f h each (i ∷ is) (v ∷ vs) a = ap (λ b. b || list_any f is) (each v i a.0) ∙ ap (λ b. h v || b) (any_same f h each is vs a.1)

  ways : (n : ℕ) (v : Used) (i : ℕ) → Stand v i → has_way n (needs g) i ≡ has_way n (uses_of system) v
  unfolding has_way
  ways zero v i h = refl
  ways (suc n) v i h = any_same (has_way n (needs g)) (has_way n (uses_of system)) (λ w j s. ways n w j s) (needs g i) (uses_of system v) (on v i h)

  -- ---- where ways lead

  there : (is : List ℕ) (vs : List Used) (y : Used) → Are is vs → IsAmong y vs → (j : ℕ) × (has is j ≡ true) × Stand y j
  unfolding AreNumbered IsAmong
  there [] [] y a h = absurd h
  there [] (v ∷ vs) y a h = absurd a
  there (i ∷ is) [] y a h = absurd a
  there (i ∷ is) (v ∷ vs) y a h =
      ⊎_elim
      (λ e. (i, or_left (nat_eq i i) (has is i) (same i), subst (λ w. Stand w i) (sym e) a.0))
      (λ r. let x = there is vs y a.1 r in (x.0, or_right (nat_eq x.0 i) (has is x.0) x.1, x.2))
      h

  back : (is : List ℕ) (vs : List Used) (j : ℕ) → Are is vs → has is j ≡ true → (y : Used) × IsAmong y vs × Stand y j
  unfolding AreNumbered IsAmong
  back [] vs j a h = nothing h
  back (i ∷ is) [] j a h = absurd a
  back (i ∷ is) (v ∷ vs) j a h =
      ⊎_elim
      (λ e. (v, inl refl, subst (λ k. Stand v k) (sym (equal j i e)) a.0))
      (λ r. let y = back is vs j a.1 r in (y.0, inr y.1, y.2))
      (either (nat_eq j i) (has is j) h)

  way_there : (n : ℕ) (v w : Used) (i : ℕ) → Way (uses_of system) n v w → Stand v i → (j : ℕ) × LeadsTo g i j × Stand w j
  unfolding Way
  way_there zero v w i h s = let x = there (needs g i) (uses_of system v) w (on v i s) h in (x.0, by_edge g i x.0 x.1, x.2)
  way_there (suc n) v w i h s =
      let x = there (needs g i) (uses_of system v) h.0 (on v i s) h.1 in
      let y = way_there n h.0 w x.0 h.2 x.2 in
      (y.0, leads_on g i x.0 y.0 (by_edge g i x.0 x.1) y.1, y.2)

  way_back : (n i j : ℕ) (v : Used) → IsWay g n i j → Stand v i → (w : Used) × Goes (uses_of system) v w × Stand w j
  unfolding IsWay
  way_back zero i j v h s = let y = back (needs g i) (uses_of system v) j (on v i s) h in (y.0, goes_one (uses_of system) v y.0 y.1, y.2)
  way_back (suc n) i j v h s =
      let x = way_back n i h.0 v h.1 s in
      let y = back (needs g h.0) (uses_of system x.0) j (on x.0 h.0 x.2) h.2 in
      (y.0, goes_on (uses_of system) v x.0 y.0 x.1 (goes_one (uses_of system) x.0 y.0 y.1), y.2)

  first_edge : (n i j : ℕ) → IsWay g n i j → (k : ℕ) × (has (needs g i) k ≡ true)
  unfolding IsWay
  first_edge zero i j h = (j, h)
  first_edge (suc n) i j h = first_edge n i h.0 h.1

  first_use : (n : ℕ) (v w : Used) → Way (uses_of system) n v w → (y : Used) × IsAmong y (uses_of system v)
  unfolding Way
  first_use zero v w h = (w, h)
  first_use (suc n) v w h = (h.0, h.1)

  -- ---- each number is that of one use

  numbered_by : (v : Used) → number_of t u v ≡ numbered t u (kind_of v) (name_of v)
  unfolding kind_of name_of
  numbered_by (UsedDefine n) = refl
  numbered_by (UsedProcedure n) = refl
  numbered_by (UsedInput n) = refl

  alone : (v w : Used) (i : ℕ) → number_of t u v ≡ Some i → number_of t u w ≡ Some i → v ≡ w
  alone v w i a b =
      let p = at_path system m t main tree u knows (kind_of v) (name_of v) i (sym (numbered_by v) ∙ a) in
      let q = at_path system m t main tree u knows (kind_of w) (name_of w) i (sym (numbered_by w) ∙ b) in
      let x = text system m t main tree u knows (kind_of v) p.0 (name_of v).name i p.2 in
      let y = text system m t main tree u knows (kind_of w) q.0 (name_of w).name i q.2 in
      let one : x.numbered_use ≡ y.numbered_use = some_same x.numbered_use y.numbered_use (sym x.at ∙ y.at) in
      let names : use_name (kind_of v) p.0 (name_of v).name ≡ use_name (kind_of w) q.0 (name_of w).name = sym x.owner ∙ ap (λ (e : NumberedUse). e.owner) one ∙ y.owner in
      let node = node_of system m t main tree u knows (kind_of v) p.0 (name_of v).name i p.2 in
      let path : (name_of v).path ≡ (name_of w).path =
      (paths system m t main tree).alone (name_of v).path (name_of w).path p.0 node.0.code.now (ap (option_map (λ (r : Node). r.code.now)) node.1) p.1 (q.1 ∙ ap (λ (r : UseName). Some r.node) (sym names)) in
      sym (used_is v)
      ∙ ap (λ (r : UseName). used r.kind (name_at (name_of v).path r.name)) names
      ∙ ap (λ r. used (kind_of w) (name_at r (name_of w).name)) path
      ∙ used_is w

  cycle_back : (v : Used) (i : ℕ) → number_of t u v ≡ Some i → LiesOnCycle g i → Leads system v v
  cycle_back v i is c =
      let w = way_back c.0 i i v c.1 (inl is) in
      ⊎_elim
      (λ there. leads system v v (subst (λ x. Goes (uses_of system) v x) (alone w.0 v i there is) w.1))
      (λ idle. let e = first_edge c.0 i i c.1 in nothing (sym (ap (λ ns. has ns e.0) idle.1) ∙ e.1))
      w.2

  cycle_there : (v : Used) (i : ℕ) → number_of t u v ≡ Some i → Leads system v v → LiesOnCycle g i
  unfolding IsAmong
  cycle_there v i is l =
      let w = goes system v v l in
      let j = way_there w.0 v v i w.1 (inl is) in
      ⊎_elim
      (λ here. subst (λ k. LeadsTo g i k) (some_same j.0 i (sym here ∙ is)) j.1)
      (λ idle. let y = first_use w.0 v v w.1 in absurd (subst (λ vs. IsAmong y.0 vs) idle.0 y.1))
      j.2

  size : length g ≡ length u.uses
  unfolding all_source_uses
  size = length_map (λ (e : NumberedUse). source_uses t u (source_meant e.source)) u.uses

  owned : (i : ℕ) → i < length g → (v : Used) × (number_of t u v ≡ Some i)
  unfolding used
  owned i l =
      let e = get_some u.uses i (omega (arith, l, size)) in
      let is = knows.owners i e.0 e.1 in
      let n = node_of system m t main tree u knows e.0.owner.kind e.0.owner.node e.0.owner.name i is in
      let p = (paths system m t main tree).reached e.0.owner.node n.0.code.now (ap (option_map (λ (r : Node). r.code.now)) n.1) in
      by e.0.owner.kind (name_at p.0 e.0.owner.name) (ap (option_and_then (λ k. number u (use_name e.0.owner.kind k e.0.owner.name))) p.1 ∙ is)
    where
      by : (kind : UseKind) (n : NameAt) → numbered t u kind n ≡ Some i → (v : Used) × (number_of t u v ≡ Some i)
      by Define n h = (UsedDefine n, h)
      by Procedure n h = (UsedProcedure n, h)
      by Input n h = (UsedInput n, h)

  inside : (v : Used) (i : ℕ) → number_of t u v ≡ Some i → i < length g
  inside v i is = let x = texts system m t main tree u knows v i is in let l = get_within u.uses i x.numbered_use x.at in omega (arith, l, size)

  pub follows : FollowsUses system t u (all_source_uses t u)
  follows = record {
    inputs = inputs system m t main tree u knows;
    defines = idle_define system m t main tree u knows;
    procedures = idle_procedure system m t main tree u knows;
    owners = owned;
    within = inside;
    ways = λ n v i is. ways n v i (inl is);
    cycles = λ v i is. (cycle_back v i is, cycle_there v i is);
  }

pub graphs_follow_uses : GraphsFollowUses
graphs_follow_uses system m t u main tree knows = follows system m t main tree u knows
