-- The nodes get their cells in order.
use Rattle.std.proofs.Common.{◌≡◌, ℕ, zero, suc, ◌+◌, ◌<◌, ◌≤◌, List, [], ◌∷◌, ◌++◌, length, get_or, Option, Some, None, refl, ap, sym, subst, ◌∙◌, ◌⊎◌, inl, inr, ⊎_elim, arith}
use Rattle.std.specs.Prelude.{slice_get, nat_eq}
use Rattle.std.specs.List.{list_any}
use Rattle.std.specs.Option.{option_and_then}
use Rattle.std.proofs.lemmas.Option.{slice_get-get_or}
use Rattle.indexmap.specs.IndexMap.{get}
use Rattle.uc_uses.specs.declared.tree.Node.{Node}
use Rattle.uc_uses.specs.declared.tree.Step.{Step}
use Rattle.uc_uses.specs.declared.tree.InstanceTree.{InstanceTree}
use Rattle.uc_uses.specs.Trees.{step}
use Rattle.uc_uses.proofs.Lists.{get_left, get_next, get_within, length_push, none_some, some_same}
use Rattle.uc_step_cycles.specs.declared.table.NodeCells.{NodeCells}
use Rattle.uc_step_cycles.specs.declared.table.CellTable.{CellTable}
use Rattle.uc_step_cycles.specs.Cells.{EntersNode, declares_cell, is_root}
use Rattle.uc_step_cycles.specs.Tables.{KnowsCells, KnowsNode, followed_up, or_here, outer_at, own_cell}
use Rattle.uc_step_cycles.proofs.Entered.{has_grows}

abbrev table : List Step → List NodeCells → CellTable
table cells nodes = record { cells = cells; nodes = nodes }

-- The first nodes have their cells.
pub record TabledTo (t : InstanceTree) (k : ℕ) (cells : List Step) (nodes : List NodeCells) : Type 0 where
  pub count : length nodes ≡ k
  pub known : (j : ℕ) (node : Node) → slice_get t.nodes j ≡ Some node → j < k → (n : NodeCells) × (slice_get nodes j ≡ Some n) × KnowsNode j node n cells
  pub owners : (i : ℕ) (s : Step) → slice_get cells i ≡ Some s → own_cell (table cells nodes) s ≡ Some i

pub tabled_begin : (t : InstanceTree) (cells : List Step) (nodes : List NodeCells) → cells ≡ [] → nodes ≡ [] → TabledTo t 0 cells nodes
tabled_begin t cells nodes none empty = record {
  count = ap length empty;
  known = λ j node at l. absurd (omega (arith, l));
  owners = λ i s h. nothing_there i s (sym (ap (λ us. slice_get us i) none) ∙ h);
}
  where
    nothing_there : {A : Type 0} (i : ℕ) (s : Step) → slice_get [] i ≡ Some s → A
    nothing_there zero s h = none_some s h
    nothing_there (suc i) s h = none_some s h

less_or_same : (n m : ℕ) → n < m + 1 → (n < m) ⊎ (n ≡ m)
less_or_same zero zero l = inr refl
less_or_same zero (suc m) l = inl (omega arith)
less_or_same (suc n) zero l = absurd (omega (arith, l))
less_or_same (suc n) (suc m) l = ⊎_elim (λ p. inl (omega (arith, p))) (λ e. inr (ap suc e)) (less_or_same n m (omega (arith, l)))

grown : (k : ℕ) (node : Node) (n : NodeCells) (cells more : List Step) → ((i : ℕ) (s : Step) → slice_get cells i ≡ Some s → slice_get more i ≡ Some s) → KnowsNode k node n cells → KnowsNode k node n more
grown k node n cells more grows h = record {
  bound = h.bound;
  there = λ x. has_grows cells more grows (step k x) (get nat_eq n.own.things x) (list_any (declares_cell (is_root node) n.bound x) node.code.now.decls) (h.there x);
}

module _ (t : InstanceTree) (k : ℕ) (node d : Node) (cells more : List Step) (nodes all : List NodeCells) (found : NodeCells) where
  module _ (held : TabledTo t k cells nodes) (within : k < length t.nodes) (at : node ≡ get_or t.nodes k d) (e : EntersNode k node cells found more) (pushed : all ≡ nodes ++ found ∷ []) where
    node_at_k : slice_get t.nodes k ≡ Some node
    node_at_k = slice_get-get_or t.nodes k d within ∙ ap (λ n. Some n) (sym at)

    found_at_k : slice_get all k ≡ Some found
    found_at_k = ap (λ ns. slice_get ns k) pushed ∙ ap (slice_get (nodes ++ found ∷ [])) (sym held.count) ∙ get_next nodes found

    node_kept : (j : ℕ) (n : NodeCells) → slice_get nodes j ≡ Some n → slice_get all j ≡ Some n
    node_kept j n h = ap (λ ns. slice_get ns j) pushed ∙ get_left nodes (found ∷ []) j n h

    own_kept : (s : Step) (i : ℕ) → own_cell (table cells nodes) s ≡ Some i → own_cell (table more all) s ≡ Some i
    own_kept s i h = by (slice_get nodes s.node) refl h
      where
        by : (o : Option NodeCells) → slice_get nodes s.node ≡ o → option_and_then (λ n. get nat_eq n.own.things s.name) o ≡ Some i → own_cell (table more all) s ≡ Some i
        by None is h = none_some i h
        by (Some n) is h = ap (option_and_then (λ (q : NodeCells). get nat_eq q.own.things s.name)) (node_kept s.node n is) ∙ h

    known_here : KnowsNode k node found more
    known_here = record { bound = e.bound; there = e.enters.there }

    pub tabled_more : TabledTo t (k + 1) more all
    tabled_more = record {
      count = let size : length all ≡ suc (length nodes) = ap length pushed ∙ length_push nodes found in omega (arith, size, held.count);
      known = λ j other is l.
          ⊎_elim
          (λ less. let n = held.known j other is less in (n.0, node_kept j n.0 n.1, grown j other n.0 cells more e.enters.kept n.2))
          (λ now.
          let one : node ≡ other = some_same node other (sym node_at_k ∙ ap (slice_get t.nodes) (sym now) ∙ is) in
          (found, ap (slice_get all) now ∙ found_at_k, subst (λ i. KnowsNode i other found more) (sym now) (subst (λ n. KnowsNode k n found more) one known_here)))
          (less_or_same j k l);
      owners = λ i s h.
          ⊎_elim
          (λ b. own_kept s i (held.owners i s b))
          (λ r. ap (own_cell (table more all)) r.1 ∙ ap (option_and_then (λ (q : NodeCells). get nat_eq q.own.things r.0)) found_at_k ∙ r.2)
          (e.enters.new i s h);
    }

past_none : {A : Type 0} (xs : List A) (k : ℕ) → length xs ≤ k → slice_get xs k ≡ None
past_none [] zero h = refl
past_none [] (suc k) h = refl
past_none (x ∷ xs) zero h = absurd (omega (arith, h))
past_none (x ∷ xs) (suc k) h = past_none xs k (omega (arith, h))

none_past : {A : Type 0} (xs : List A) (k : ℕ) → slice_get xs k ≡ None → length xs ≤ k
none_past [] k h = omega arith
none_past (x ∷ xs) zero h = cc
none_past (x ∷ xs) (suc k) h = let l = none_past xs k h in omega (arith, l)

pub tabled_end : (t : InstanceTree) (k : ℕ) (cells : List Step) (nodes : List NodeCells) → length t.nodes ≡ k → TabledTo t k cells nodes → KnowsCells t (record { cells = cells; nodes = nodes })
tabled_end t k cells nodes all held = record {
  nodes = λ j node at. held.known j node at (let l = get_within t.nodes j node at in omega (arith, l, all));
  none = λ j at. past_none nodes j (let l = none_past t.nodes j at in omega (arith, l, all, held.count));
  owners = held.owners;
}

-- ---- followed upwards

pub record FollowedTo (t : InstanceTree) (c : CellTable) (s : Step) (most k : ℕ) (at : Step) : Type 0 where
  pub is : (n : ℕ) → n + k ≡ most → followed_up n t c at ≡ followed_up most t c s

module _ (t : InstanceTree) (c : CellTable) (s : Step) (most : ℕ) where
  pub follow_begin : FollowedTo t c s most 0 s
  follow_begin = record { is = λ n e. let h : n ≡ most = omega (arith, e) in ap (λ m. followed_up m t c s) h }

  pub follow_more : (k : ℕ) (at next : Step) → FollowedTo t c s most k at → outer_at t c at ≡ Some next → FollowedTo t c s most (k + 1) next
  unfolding followed_up
  follow_more k at next held outer = record { is = λ n e. sym (ap (or_here at (followed_up n t c)) outer) ∙ held.is (suc n) (omega (arith, e)) }

  pub follow_stop : (k : ℕ) (at : Step) → FollowedTo t c s most k at → k < most → outer_at t c at ≡ None → at ≡ followed_up most t c s
  unfolding followed_up
  follow_stop k at held less none = let left = rest k most less in sym (ap (or_here at (followed_up left.0 t c)) none) ∙ held.is (suc left.0) left.1
    where
      rest : (k most : ℕ) → k < most → (n : ℕ) × (suc n + k ≡ most)
      rest zero zero l = absurd (omega (arith, l))
      rest zero (suc most) l = (most, omega arith)
      rest (suc k) zero l = absurd (omega (arith, l))
      rest (suc k) (suc most) l = let r = rest k most (omega (arith, l)) in (r.0, omega (arith, r.1))

  pub follow_end : (at : Step) (k : ℕ) → FollowedTo t c s most k at → k ≡ most → at ≡ followed_up most t c s
  unfolding followed_up
  follow_end at k held all = held.is zero (omega (arith, all))
