-- Names that are followed upwards, in the design and in the tree.
use Rattle.std.proofs.Common.{◌≡◌, ℕ, zero, suc, ◌<◌, List, [], ◌∷◌, ◌++◌, length, Option, Some, None, refl, ap, sym, subst, ◌∙◌, ⊎_elim, arith}
use Rattle.std.specs.Prelude.{nat_eq, slice_get, unwrap_or}
use Rattle.std.specs.Option.{option_and_then, option_map}
use Rattle.indexmap.specs.IndexMap.{get}
use Rattle.uc_syntax.specs.declared.declaration.Module.{Module}
use Rattle.uc_syntax.specs.declared.declaration.Binding.{Binding}
use Rattle.uc_syntax.specs.declared.expression.Expr.{Expr}
use Rattle.uc_syntax.specs.declared.expression.Expr.TheViews.{out-Expr}
use Rattle.uc_meaning.specs.Lookup.{System, InstanceParts, bound_to, instance_of, module_at, parent_of}
use Rattle.uc_meaning.specs.Expressions.{binding_from}
use Rattle.uc_meaning.specs.Code.{Reached, bound_name as bound_there, bound_name_in, followed, name_form}
use Rattle.uc_uses.specs.declared.tree.Node.{Node}
use Rattle.uc_uses.specs.declared.tree.Step.{Step}
use Rattle.uc_uses.specs.declared.tree.InstanceTree.{InstanceTree}
use Rattle.uc_uses.specs.Trees.{IsBelow, code_at, instance_at, joined, node_at, node_from, step}
use Rattle.uc_uses.proofs.Lists.{get_within, none_some, some_same}
use Rattle.uc_step_cycles.specs.declared.table.NodeCells.{NodeCells}
use Rattle.uc_step_cycles.specs.declared.table.CellTable.{CellTable}
use Rattle.uc_step_cycles.specs.Bound.{KnowsBound, bound_in}
use Rattle.uc_step_cycles.specs.Tables.{above_at, bound_name, flat, followed_up, or_here, outer_at}
use Rattle.uc_step_cycles.specs.CellNumbersNumbers.{AreCellsOf}
use Rattle.uc_step_cycles.proofs.Positions.{parent_push, split_path}
use Rattle.uc_step_cycles.proofs.Placed.{first_alone, paths}

abbrev named : Expr → Option ℕ
named e = name_form (out-Expr e)

there_below : {A : Type 0} (xs : List A) (k : ℕ) → k < length xs → (x : A) × (slice_get xs k ≡ Some x)
there_below [] k h = absurd (omega (arith, h))
there_below (x ∷ xs) zero h = (x, refl)
there_below (x ∷ xs) (suc k) h = there_below xs k (omega (arith, h))

joined_some : (o : Option (Option ℕ)) (j : ℕ) → joined o ≡ Some j → o ≡ Some (Some j)
joined_some None j h = none_some j h
joined_some (Some o) j h = ap (λ q. Some q) h

-- the same name, or neither
abbrev pub IsSame : InstanceTree → Option Reached → Option Step → Type 0
IsSame t None None = Unit {0}
IsSame t (Some r) (Some s) = (node_at t r.0 ≡ Some s.node) × (r.1 ≡ s.name)
IsSame t None (Some s) = ⊥
IsSame t (Some r) None = ⊥

module _ (system : System) (t : InstanceTree) (c : CellTable) (known : AreCellsOf system t c) where
  finish : (q : List ℕ) (k : ℕ) → node_at t q ≡ Some k → (o : Option Expr) →
      IsSame t (option_and_then (λ (b : List ℕ × Expr). bound_name_in b.0 (name_form (out-Expr b.1))) (option_map (λ e. (q, e)) o)) (option_map (λ y. step k y) (flat (option_map named o)))
  finish q k at None = tt
  finish q k at (Some e) = by (named e)
    where
      by : (o : Option ℕ) → IsSame t (bound_name_in q o) (option_map (λ y. step k y) o)
      by None = tt
      by (Some y) = (at, refl)

  at_root : (j x : ℕ) → node_at t [] ≡ Some j → IsSame t (bound_there system ([], x)) (outer_at t c (step j x))
  unfolding parent_of node_from
  at_root j x at =
      let here = known.tree.root in
      let above : above_at t j ≡ None = ap (above_at t) (sym (some_same 0 j at)) ∙ root_above (slice_get t.nodes 0) refl in
      subst (IsSame t None) (sym (ap (option_and_then (λ (a : Step). option_map (λ y. step a.node y) (bound_name c (step j x)))) above)) tt
    where
      root_above : (o : Option Node) → slice_get t.nodes 0 ≡ o → option_and_then (λ (n : Node). n.above) o ≡ None
      root_above None is = refl
      root_above (Some n) is = (first_alone system t c known n is).0

  says_bound : (x : ℕ) (bs : List Binding) (n : NodeCells) → KnowsBound bs n.bound → get nat_eq n.bound.things x ≡ bound_in bs x
  unfolding KnowsBound
  says_bound x bs n says = says x

  below : (q : List ℕ) (i k j x : ℕ) → node_at t q ≡ Some k → instance_at t k i ≡ Some (Some j) → IsSame t (bound_there system (q ++ i ∷ [], x)) (outer_at t c (step j x))
  below q i k j x at leads = by_instance (instance_of m.0 i) refl (subst (λ o. IsBelow system t.nodes o (instance_of m.0 i)) leads (known.tree.below k i m.0 m.1))
    where
      above : (n : Node) × (slice_get t.nodes j ≡ Some n) × (n.above ≡ Some (step k i))
      above = known.tree.above k i j leads

      before : k < length t.nodes
      before =
          ⊎_elim
          (λ f. none_some (step k i) (sym f.above ∙ above.2))
          (λ s.
          let one = some_same s.above (step k i) (sym s.is ∙ above.2) in
          let same_node = ap (λ (z : Step). z.node) one in
          let less = s.before in
          let within = get_within t.nodes j above.0 above.1 in
          omega (arith, same_node, less, within))
          (known.tree.stands j above.0 above.1)

      m : (m : Module) × (code_at t k ≡ Some m)
      m = let n = there_below t.nodes k before in (n.0.code.now, ap (option_map (λ (n : Node). n.code.now)) n.1)

      module_is : module_at system q ≡ Some m.0
      module_is = sym ((paths system t c known).codes q) ∙ ap (option_and_then (code_at t)) at ∙ m.1

      by_instance : (o : Option InstanceParts) → instance_of m.0 i ≡ o → IsBelow system t.nodes (Some (Some j)) o → IsSame t (bound_there system (q ++ i ∷ [], x)) (outer_at t c (step j x))
      by_instance None is h = absurd h
      by_instance (Some p) is h =
          let n = known.cells.nodes j h.0 h.1 in
          subst (λ o. IsSame t o (outer_at t c (step j x))) (sym bound_is)
          (subst (IsSame t (option_and_then (λ (b : List ℕ × Expr). bound_name_in b.0 (name_form (out-Expr b.1))) (option_map (λ e. (q, e)) (bound_to p x)))) (sym (outer_is n.0 n.1 (told n.0 n.2.bound)))
          (finish q k at (bound_to p x)))
        where
          bound_is : bound_there system (q ++ i ∷ [], x) ≡ option_and_then (λ (b : List ℕ × Expr). bound_name_in b.0 (name_form (out-Expr b.1))) (option_map (λ e. (q, e)) (bound_to p x))
          bound_is =
              ap (option_and_then (λ (b : List ℕ × Expr). bound_name_in b.0 (name_form (out-Expr b.1))))
              (ap (binding_from system x) (parent_push q i)
              ∙ ap (λ o. option_map (λ e. (q, e)) (option_and_then (λ r. bound_to r x) (option_and_then (λ d. instance_of d i) o))) module_is
              ∙ ap (λ o. option_map (λ e. (q, e)) (option_and_then (λ r. bound_to r x) o)) is)

          told : (n : NodeCells) → KnowsBound h.0.bindings.now n.bound → get nat_eq n.bound.things x ≡ option_map named (bound_to p x)
          told n says = says_bound x h.0.bindings.now n says ∙ ap (λ bs. bound_in bs x) h.3

          outer_is : (n : NodeCells) → slice_get c.nodes j ≡ Some n → get nat_eq n.bound.things x ≡ option_map named (bound_to p x) → outer_at t c (step j x) ≡ option_map (λ y. step k y) (flat (option_map named (bound_to p x)))
          outer_is n there says =
              ap (option_and_then (λ (a : Step). option_map (λ y. step a.node y) (bound_name c (step j x)))) (ap (option_and_then (λ (q : Node). q.above)) above.1 ∙ above.2)
              ∙ ap (option_map (λ y. step k y)) (ap (option_and_then (λ (q : NodeCells). flat (get nat_eq q.bound.things x))) there ∙ ap flat says)

  one_up : (path : List ℕ) (j x : ℕ) → node_at t path ≡ Some j → IsSame t (bound_there system (path, x)) (outer_at t c (step j x))
  one_up path j x at =
      split_path path
      (λ none. subst (λ p. IsSame t (bound_there system (p, x)) (outer_at t c (step j x))) (sym none) (at_root j x (ap (node_at t) (sym none) ∙ at)))
      (λ q i is.
      let last = sym ((paths system t c known).last q i) ∙ ap (node_at t) (sym is) ∙ at in
      subst (λ p. IsSame t (bound_there system (p, x)) (outer_at t c (step j x))) (sym is) (up q i (node_at t q) refl last))
    where
      up : (q : List ℕ) (i : ℕ) (o : Option ℕ) → node_at t q ≡ o → option_and_then (λ k. joined (instance_at t k i)) o ≡ Some j → IsSame t (bound_there system (q ++ i ∷ [], x)) (outer_at t c (step j x))
      up q i None is h = none_some j h
      up q i (Some k) is h = below q i k j x is (joined_some (instance_at t k i) j h)

  abbrev Same : Reached → Step → Type 0
  Same r s = (node_at t r.0 ≡ Some s.node) × (r.1 ≡ s.name)

  abbrev Follows : ℕ → Type 0
  Follows n = (path : List ℕ) (j x : ℕ) → node_at t path ≡ Some j → Same (followed n system (path, x)) (followed_up n t c (step j x))

  same_by : (n : ℕ) (path : List ℕ) (j x : ℕ) → node_at t path ≡ Some j → Follows n → (a : Option Reached) (b : Option Step) → IsSame t a b → Same (unwrap_or (option_map (followed n system) a) (path, x)) (or_here (step j x) (followed_up n t c) b)
  same_by n path j x at more None None h = (at, refl)
  same_by n path j x at more None (Some s) h = absurd h
  same_by n path j x at more (Some r) None h = absurd h
  same_by n path j x at more (Some r) (Some s) h = subst (λ y. Same (followed n system r) (followed_up n t c (step s.node y))) h.1 (more r.0 s.node r.1 h.0)

  pub followed_same : (n : ℕ) → Follows n
  unfolding followed followed_up
  followed_same zero path j x at = (at, refl)
  followed_same (suc n) path j x at = same_by n path j x at (followed_same n) (bound_there system (path, x)) (outer_at t c (step j x)) (one_up path j x at)
