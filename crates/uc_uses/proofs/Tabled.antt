-- The nodes get their uses in order.
use Rattle.std.proofs.Common.{◌≡◌, ℕ, zero, suc, ◌+◌, ◌<◌, ◌≤◌, List, [], ◌∷◌, ◌++◌, length, get_or, Option, Some, None, refl, ap, sym, subst, ◌∙◌, ◌⊎◌, inl, inr, ⊎_elim, arith}
use Rattle.std.specs.Prelude.{slice_get}
use Rattle.std.specs.Option.{option_and_then}
use Rattle.std.proofs.lemmas.Option.{slice_get-get_or}
use Rattle.uc_uses.specs.declared.tree.Node.{Node}
use Rattle.uc_uses.specs.declared.tree.InstanceTree.{InstanceTree}
use Rattle.uc_uses.proofs.Lists.{get_before, get_left, get_next, length_push, none_some}
use Rattle.uc_uses.specs.declared.uses.UseKind.{UseKind}
use Rattle.uc_uses.specs.declared.uses.UseKind.TheVariants.{Define, Procedure, Input}
use Rattle.uc_uses.specs.declared.uses.UseName.{UseName}
use Rattle.uc_uses.specs.declared.uses.NumberedUse.{NumberedUse}
use Rattle.uc_uses.specs.declared.table.NodeUses.{NodeUses}
use Rattle.uc_uses.specs.declared.table.UseTable.{UseTable}
use Rattle.uc_uses.specs.Sources.{declared_source, input_source, source_in}
use Rattle.uc_uses.specs.Entering.{Enters, EntersNode}
use Rattle.uc_uses.specs.Tables.{HasSource, KnowsUses, number, numbers_of, source_at, use_name}
use Rattle.uc_uses.proofs.Entered.{has_grows}

-- three tables of one node
pub node_entered : (k : ℕ) (node : Node) (us vs ws xs : List NumberedUse) (n : NodeUses) →
    Enters Define k us (declared_source Define k node.code.now.decls) n.defines vs → Enters Procedure k vs (declared_source Procedure k node.code.now.decls) n.procedures ws → Enters Input k ws (input_source node) n.inputs xs →
    EntersNode k node us n xs
node_entered k node us vs ws xs n a b c = record {
  kept = λ i e h. c.kept i e (b.kept i e (a.kept i e h));
  sources = λ kind x. by kind x;
  new = λ i e h.
      ⊎_elim
      (λ w. ⊎_elim (λ v. ⊎_elim (λ u. inl u) (λ r. inr (Define, r.0, r.1, r.2)) (a.new i e v)) (λ r. inr (Procedure, r.0, r.1, r.2)) (b.new i e w))
      (λ r. inr (Input, r.0, r.1, r.2))
      (c.new i e h);
}
  where
    by : (kind : UseKind) (x : ℕ) → HasSource xs (use_name kind k x) (numbers_of n kind x) (source_in kind k node x)
    by Define x = has_grows vs xs (λ i e h. c.kept i e (b.kept i e h)) (use_name Define k x) (numbers_of n Define x) (source_in Define k node x) (a.sources x)
    by Procedure x = has_grows ws xs c.kept (use_name Procedure k x) (numbers_of n Procedure x) (source_in Procedure k node x) (b.sources x)
    by Input x = c.sources x

-- The first nodes have their uses.
pub record TabledTo (t : InstanceTree) (k : ℕ) (uses : List NumberedUse) (nodes : List NodeUses) : Type 0 where
  pub count : length nodes ≡ k
  pub sources : (name : UseName) → name.node < k → HasSource uses name (number (record { uses = uses; nodes = nodes }) name) (source_at t name)
  pub owners : (i : ℕ) (e : NumberedUse) → slice_get uses i ≡ Some e → number (record { uses = uses; nodes = nodes }) e.owner ≡ Some i

pub tabled_begin : (t : InstanceTree) (uses : List NumberedUse) (nodes : List NodeUses) → uses ≡ [] → nodes ≡ [] → TabledTo t 0 uses nodes
tabled_begin t uses nodes none empty = record {
  count = ap length empty;
  sources = λ name l. absurd (omega (arith, l));
  owners = λ i e h. nothing_there i e (sym (ap (λ us. slice_get us i) none) ∙ h);
}
  where
    nothing_there : {A : Type 0} (i : ℕ) (e : NumberedUse) → slice_get [] i ≡ Some e → A
    nothing_there zero e h = none_some e h
    nothing_there (suc i) e h = none_some e h

less_or_same : (n m : ℕ) → n < m + 1 → (n < m) ⊎ (n ≡ m)
less_or_same zero zero l = inr refl
less_or_same zero (suc m) l = inl (omega arith)
less_or_same (suc n) zero l = absurd (omega (arith, l))
less_or_same (suc n) (suc m) l = ⊎_elim (λ p. inl (omega (arith, p))) (λ e. inr (ap suc e)) (less_or_same n m (omega (arith, l)))

module _ (t : InstanceTree) (k : ℕ) (node d : Node) (uses more : List NumberedUse) (nodes all : List NodeUses) (found : NodeUses) where
  abbrev old : UseTable
  old = record { uses = uses; nodes = nodes }

  abbrev new : UseTable
  new = record { uses = more; nodes = all }

  module _ (held : TabledTo t k uses nodes) (within : k < length t.nodes) (at : node ≡ get_or t.nodes k d) (e : EntersNode k node uses found more) (pushed : all ≡ nodes ++ found ∷ []) where
    node_at_k : slice_get t.nodes k ≡ Some node
    node_at_k = slice_get-get_or t.nodes k d within ∙ ap (λ n. Some n) (sym at)

    found_at_k : slice_get all k ≡ Some found
    found_at_k = ap (λ ns. slice_get ns k) pushed ∙ ap (slice_get (nodes ++ found ∷ [])) (sym held.count) ∙ get_next nodes found

    kept_number : (name : UseName) (i : ℕ) → number old name ≡ Some i → number new name ≡ Some i
    kept_number name i h = by (slice_get nodes name.node) refl h
      where
        by : (o : Option NodeUses) → slice_get nodes name.node ≡ o → option_and_then (λ n. numbers_of n name.kind name.name) o ≡ Some i → number new name ≡ Some i
        by None is h = none_some i h
        by (Some n) is h = ap (option_and_then (λ (q : NodeUses). numbers_of q name.kind name.name)) (ap (λ ns. slice_get ns name.node) pushed ∙ get_left nodes (found ∷ []) name.node n is) ∙ h

    same_number : (name : UseName) → name.node < k → number new name ≡ number old name
    same_number name l = ap (option_and_then (λ (q : NodeUses). numbers_of q name.kind name.name)) (ap (λ ns. slice_get ns name.node) pushed ∙ get_before nodes (found ∷ []) name.node (omega (arith, l, held.count)))

    number_here : (kind : UseKind) (j x : ℕ) → j ≡ k → number new (use_name kind j x) ≡ numbers_of found kind x
    number_here kind j x is = ap (option_and_then (λ (q : NodeUses). numbers_of q kind x)) (ap (slice_get all) is ∙ found_at_k)

    source_here : (kind : UseKind) (j x : ℕ) → j ≡ k → source_at t (use_name kind j x) ≡ source_in kind k node x
    source_here kind j x is = ap (λ i. option_and_then (λ n. source_in kind i n x) (slice_get t.nodes i)) is ∙ ap (option_and_then (λ n. source_in kind k n x)) node_at_k

    pub tabled_more : TabledTo t (k + 1) more all
    tabled_more = record {
      count = let size : length all ≡ suc (length nodes) = ap length pushed ∙ length_push nodes found in omega (arith, size, held.count);
      sources = λ name l.
          ⊎_elim
          (λ less. subst (λ o. HasSource more name o (source_at t name)) (sym (same_number name less)) (has_grows uses more e.kept name (number old name) (source_at t name) (held.sources name less)))
          (λ now.
          let same_name : use_name name.kind k name.name ≡ name = ap (λ j. use_name name.kind j name.name) (sym now) in
          subst (λ (q : UseName). HasSource more q (number new name) (source_at t name)) same_name
          (subst (λ o. HasSource more (use_name name.kind k name.name) o (source_at t name)) (sym (number_here name.kind name.node name.name now))
          (subst (HasSource more (use_name name.kind k name.name) (numbers_of found name.kind name.name)) (sym (source_here name.kind name.node name.name now)) (e.sources name.kind name.name))))
          (less_or_same name.node k l);
      owners = λ i u h.
          ⊎_elim
          (λ b. kept_number u.owner i (held.owners i u b))
          (λ r. ap (number new) r.2 ∙ number_here r.0 k r.1 refl ∙ r.3)
          (e.new i u h);
    }

past_none : {A : Type 0} (xs : List A) (k : ℕ) → length xs ≤ k → slice_get xs k ≡ None
past_none [] zero h = refl
past_none [] (suc k) h = refl
past_none (x ∷ xs) zero h = absurd (omega (arith, h))
past_none (x ∷ xs) (suc k) h = past_none xs k (omega (arith, h))

less_or_more : (n m : ℕ) → (n < m) ⊎ (m ≤ n)
less_or_more n zero = inr (omega arith)
less_or_more zero (suc m) = inl (omega arith)
less_or_more (suc n) (suc m) = ⊎_elim (λ l. inl (omega (arith, l))) (λ g. inr (omega (arith, g))) (less_or_more n m)

pub tabled_end : (t : InstanceTree) (k : ℕ) (uses : List NumberedUse) (nodes : List NodeUses) → length t.nodes ≤ k → TabledTo t k uses nodes → KnowsUses t (record { uses = uses; nodes = nodes })
tabled_end t k uses nodes past held = record {
  sources = λ name.
      ⊎_elim (λ l. held.sources name l)
      (λ g.
      subst (λ o. HasSource uses name o (source_at t name)) (sym (ap (option_and_then (λ (n : NodeUses). numbers_of n name.kind name.name)) (past_none nodes name.node (omega (arith, g, held.count)))))
      (subst (HasSource uses name None) (sym (ap (option_and_then (λ (n : Node). source_in name.kind name.node n name.name)) (past_none t.nodes name.node (omega (arith, g, past))))) tt))
      (less_or_more name.node k);
  owners = held.owners;
}
