-- Nodes that are taken one after another.
use Rattle.std.proofs.Common.{◌≡◌, ℕ, ◌+◌, ◌<◌, ◌≤◌, Bool, true, false, List, [], ◌∷◌, ◌++◌, length, take, get_or, refl, ap, sym, subst, ◌∙◌, arith}
use Rattle.std.specs.Prelude.{nat_eq, not, ◌&&◌, ◌||◌, slice_get, slice_index_or, slice_set, None, Some}
use Rattle.std.proofs.lemmas.List.{length-append, take_all}
use Rattle.uc_graph.proofs.Places.{index_found, index_past}
use Rattle.uc_graph.specs.Order.{has, needs}
use Rattle.uc_graph.specs.Reached.{is_left}
use Rattle.uc_graph.specs.Taking.{Takes, left_count, edge_from}
use Rattle.uc_graph.proofs.Bools.{nothing, and_none, and_all, or_none, left_two, taken_two}
use Rattle.uc_graph.proofs.Members.{edge_more, equal, has_more, has_push, left_set, count_set, length_set}

-- the same test by another equation
pub by_test : (a b : ℕ → Bool) (left : List Bool) (taken : List ℕ) (after : List Bool) (more : List ℕ) → ((n : ℕ) → a n ≡ b n) → Takes a left taken after more → Takes b left taken after more
by_test a b left taken after more same t = record {
  size = t.size;
  left_now = λ n. t.left_now n ∙ ap (λ c. is_left left n && not c) (same n);
  taken_now = λ n. t.taken_now n ∙ ap (λ c. has taken n || (is_left left n && c)) (same n);
  count = t.count;
}

-- nothing is taken
pub takes_none : (left : List Bool) (taken : List ℕ) → Takes (λ n. false) left taken left taken
takes_none left taken = record {
  size = refl;
  left_now = λ n. and_all (is_left left n);
  taken_now = λ n. or_none (has taken n) ∙ ap (λ b. has taken n || b) (sym (and_none (is_left left n)));
  count = refl;
}

-- one after another
pub takes_two : (a b : ℕ → Bool) (left : List Bool) (taken : List ℕ) (after : List Bool) (more : List ℕ) (last : List Bool) (most : List ℕ) →
    Takes a left taken after more → Takes b after more last most → Takes (λ n. a n || b n) left taken last most
takes_two a b left taken after more last most t u = record {
  size = u.size ∙ t.size;
  left_now = λ n. u.left_now n ∙ ap (λ l. l && not (b n)) (t.left_now n) ∙ left_two (is_left left n) (a n) (b n);
  taken_now = λ n.
      u.taken_now n
      ∙ ap (λ h. h || (is_left after n && b n)) (t.taken_now n)
      ∙ ap (λ l. (has taken n || (is_left left n && a n)) || (l && b n)) (t.left_now n)
      ∙ taken_two (has taken n) (is_left left n) (a n) (b n);
  count = u.count ∙ t.count;
}

-- a node that is left
pub takes_one : (left : List Bool) (taken : List ℕ) (after : List Bool) (more : List ℕ) (node : ℕ) → is_left left node ≡ true → after ≡ slice_set left node false → more ≡ taken ++ node ∷ [] →
    Takes (λ n. nat_eq n node) left taken after more
takes_one left taken after more node there l m = record {
  size = ap length l ∙ length_set left node;
  left_now = λ n. ap (λ bs. is_left bs n) l ∙ left_set left node n;
  taken_now = λ n. ap (λ ns. has ns n) m ∙ has_push taken node n ∙ ap (λ b. has taken n || b) (left_then n (nat_eq n node) refl);
  count = let e : left_count after ≡ left_count (slice_set left node false) = ap left_count l in let f : length more ≡ length (taken ++ node ∷ []) = ap length m in omega (arith, e, f, length-append taken (node ∷ []), count_set left node there);
}
  where
    left_then : (n : ℕ) (b : Bool) → nat_eq n node ≡ b → nat_eq n node ≡ (is_left left n && nat_eq n node)
    left_then n true is = is ∙ sym (ap (λ c. is_left left n && c) is ∙ sym (and_all (is_left left n)) ∙ ap (is_left left) (equal n node is) ∙ there)
    left_then n false is = is ∙ sym (ap (λ c. is_left left n && c) is ∙ and_none (is_left left n))

-- a node that isn't
pub takes_skip : (left : List Bool) (taken : List ℕ) (node : ℕ) → is_left left node ≡ false → Takes (λ n. nat_eq n node) left taken left taken
takes_skip left taken node gone = record {
  size = refl;
  left_now = λ n. first n (nat_eq n node) refl;
  taken_now = λ n. or_none (has taken n) ∙ ap (λ b. has taken n || b) (second n (nat_eq n node) refl);
  count = refl;
}
  where
    first : (n : ℕ) (b : Bool) → nat_eq n node ≡ b → is_left left n ≡ (is_left left n && not (nat_eq n node))
    first n true is = ap (is_left left) (equal n node is) ∙ gone ∙ sym (ap (λ l. l && not (nat_eq n node)) (ap (is_left left) (equal n node is) ∙ gone))
    first n false is = and_all (is_left left n) ∙ ap (λ c. is_left left n && not c) (sym is)

    second : (n : ℕ) (b : Bool) → nat_eq n node ≡ b → false ≡ (is_left left n && nat_eq n node)
    second n true is = sym (ap (λ l. l && nat_eq n node) (ap (is_left left) (equal n node is) ∙ gone))
    second n false is = sym (and_none (is_left left n)) ∙ ap (λ c. is_left left n && c) (sym is)

-- one more of some nodes
pub takes_more : (nodes : List ℕ) (k d : ℕ) (left : List Bool) (taken : List ℕ) (after : List Bool) (more : List ℕ) (last : List Bool) (most : List ℕ) → k < length nodes →
    Takes (has (take k nodes)) left taken after more → Takes (λ n. nat_eq n (get_or nodes k d)) after more last most → Takes (has (take (k + 1) nodes)) left taken last most
takes_more nodes k d left taken after more last most within t u =
    by_test (λ n. has (take k nodes) n || nat_eq n (get_or nodes k d)) (has (take (k + 1) nodes)) left taken last most (λ n. sym (has_more nodes k d n within))
    (takes_two (has (take k nodes)) (λ n. nat_eq n (get_or nodes k d)) left taken after more last most t u)

pub takes_end : (nodes : List ℕ) (k : ℕ) (left : List Bool) (taken : List ℕ) (after : List Bool) (more : List ℕ) → length nodes ≤ k → Takes (has (take k nodes)) left taken after more → Takes (has nodes) left taken after more
takes_end nodes k left taken after more past t = subst (λ ns. Takes (has ns) left taken after more) (take_all k nodes past) t

-- the edges of one more node
pub edges_more : (graph : List (List ℕ)) (nodes : List ℕ) (k d : ℕ) (left : List Bool) (taken : List ℕ) (after : List Bool) (more : List ℕ) (last : List Bool) (most : List ℕ) → k < length nodes →
    Takes (edge_from graph (take k nodes)) left taken after more → Takes (has (needs graph (get_or nodes k d))) after more last most → Takes (edge_from graph (take (k + 1) nodes)) left taken last most
edges_more graph nodes k d left taken after more last most within t u =
    by_test (λ n. edge_from graph (take k nodes) n || has (needs graph (get_or nodes k d)) n) (edge_from graph (take (k + 1) nodes)) left taken last most (λ n. sym (edge_more graph nodes k d n within))
    (takes_two (edge_from graph (take k nodes)) (has (needs graph (get_or nodes k d))) left taken after more last most t u)

pub edges_end : (graph : List (List ℕ)) (nodes : List ℕ) (k : ℕ) (left : List Bool) (taken : List ℕ) (after : List Bool) (more : List ℕ) → length nodes ≤ k → Takes (edge_from graph (take k nodes)) left taken after more →
    Takes (edge_from graph nodes) left taken after more
edges_end graph nodes k left taken after more past t = subst (λ ns. Takes (edge_from graph ns) left taken after more) (take_all k nodes past) t

-- a node that has no edges
pub takes_no_edges : (graph : List (List ℕ)) (node : ℕ) (left : List Bool) (taken : List ℕ) → None ≡ slice_get graph node → Takes (has (needs graph node)) left taken left taken
takes_no_edges graph node left taken none = by_test (λ n. false) (has (needs graph node)) left taken left taken (λ n. ap (λ ns. has ns n) (index_past graph node [] none)) (takes_none left taken)

pub takes_edges : (graph : List (List ℕ)) (node : ℕ) (ns ms : List ℕ) (left : List Bool) (taken : List ℕ) (after : List Bool) (more : List ℕ) → Some ns ≡ slice_get graph node → ms ≡ ns → Takes (has ms) left taken after more →
    Takes (has (needs graph node)) left taken after more
takes_edges graph node ns ms left taken after more there is t = subst (λ xs. Takes (has xs) left taken after more) (is ∙ index_found graph node ns [] there) t
