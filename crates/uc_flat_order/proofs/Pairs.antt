-- Code writes no part again where no statement does so by itself, nor of two of them the second after the first.
use Rattle.std.proofs.Common.{◌≡◌, ℕ, List, [], ◌∷◌, ◌++◌, map, refl, sym, ap, ◌∙◌, true, false, Bool, Some, None, inl, inr, ⊎_elim}
use Rattle.std.specs.Prelude.{if◌then◌else◌, ◌&&◌, not}
use Rattle.std.specs.Option.{is_some}
use Rattle.std.specs.List.{flat_map, list_all}
use Rattle.std.proofs.lemmas.List.Folds.{list_all-append}
use Rattle.uc_syntax.specs.declared.statement.Stmt.{Stmt}
use Rattle.uc_flat_expressions.specs.declared.typed.Meant.{Meant}
use Rattle.uc_graph.specs.Arranged.{in_order, IsReordered}
use Rattle.uc_graph.proofs.Arranged.{and_true, true_and, all_reordered, keeps_items, in_order_stays, ordered_if_any}
use Rattle.uc_flat_code.specs.declared.once.Part.{Part}
use Rattle.uc_flat_code.specs.Once.{touched, each_writes, writer, written_by}
use Rattle.uc_flat_code.specs.Written.{written_parts}
use Rattle.uc_flat_code.proofs.Shapes.{as_writer, Shape, spared_none, one_more_is, statement_shape}
use Rattle.uc_flat_order.specs.Slices.{all_slices}
use Rattle.uc_flat_order.specs.Arranged.{may_go, in_turn, is_once, block_arranged, IsTakenFrom}
use Rattle.uc_flat_order.specs.Laws.{OrderLaw}
use Rattle.uc_flat_order.specs.Uses.{spared}

pub and_right : (b : Bool) → (b && true) ≡ b
and_right true = refl
and_right false = refl

module _ (names : List Meant) (n : ℕ) where
  abbrev pub shape : (s : Stmt) → Shape (writer names n s) (written_parts names s)
  shape s = statement_shape names n s

  -- a statement writes no part again by itself
  abbrev pub fine : Stmt → Bool
  fine s = (shape s).fine

  abbrev pub parts : Stmt → List Part
  parts s = (shape s).parts

  abbrev pub writes : Stmt → List Part
  writes s = written_parts names s

  abbrev all_writes : List Stmt → List Part
  all_writes xs = flat_map writes xs

  abbrev pub all_fine : List Stmt → Bool
  all_fine [] = true
  all_fine (s ∷ xs) = fine s && (all_fine xs && spared (parts s) (all_writes xs))

  abbrev all_parts : List Stmt → List Part
  all_parts [] = []
  all_parts (s ∷ xs) = parts s ++ all_parts xs

  whole_shape : (xs : List Stmt) → (before : List Part) → each_writes (map (writer names n) xs) before ≡ as_writer (all_fine xs) (all_parts xs) (all_writes xs) before
  unfolding each_writes
  whole_shape [] before = refl
  whole_shape (s ∷ xs) before =
      one_more_is (writer names n s) (map (writer names n) xs) (writes s) (all_writes xs) (shape s) (record { fine = all_fine xs; parts = all_parts xs; is = whole_shape xs }) before

  alone : (b : Bool) (ps ws : List Part) → is_some (as_writer b ps ws []) ≡ b
  alone b ps ws = ap (λ c. is_some (if b && c then Some ps else None)) (spared_none ws) ∙ by_test b
    where
      by_test : (b : Bool) → is_some (if b && true then Some ps else None) ≡ b
      by_test true = refl
      by_test false = refl

  pub once_is : (xs : List Stmt) → is_some (written_by names n xs []) ≡ all_fine xs
  unfolding written_by
  once_is xs = ap is_some (whole_shape xs []) ∙ alone (all_fine xs) (all_parts xs) (all_writes xs)

  -- what one statement writes, where it is there
  pub fine_is : (s : Stmt) → is_some (writer names n s []) ≡ fine s
  fine_is s = ap is_some ((shape s).is []) ∙ alone (fine s) (parts s) (writes s)

  pub parts_are : (s : Stmt) (ps : List Part) → writer names n s [] ≡ Some ps → parts s ≡ ps
  parts_are s ps h = by_test (fine s && spared [] (writes s)) (sym ((shape s).is []) ∙ h)
    where
      by_test : (b : Bool) → (if b then Some (parts s) else None) ≡ Some ps → parts s ≡ ps
      by_test true e = cc
      by_test false e = absurd (cc)

  pub pair_is : (s t : Stmt) → may_go names n s t ≡ (fine s && (fine t && spared (parts s) (writes t)))
  pair_is s t =
      once_is (s ∷ t ∷ [])
      ∙ ap (λ b. fine s && (b && spared (parts s) (writes t ++ []))) (and_right (fine t))
      ∙ ap (λ ps. fine s && (fine t && spared (parts s) ps)) (append_none (writes t))
    where
      append_none : (xs : List Part) → xs ++ [] ≡ xs
      append_none [] = refl
      append_none (x ∷ xs) = ap (λ ys. x ∷ ys) (append_none xs)

  spared_each : (s : Stmt) (xs : List Stmt) → spared (parts s) (all_writes xs) ≡ list_all (λ t. spared (parts s) (writes t)) xs
  spared_each s [] = refl
  spared_each s (t ∷ xs) = list_all-append (λ p. not (touched (parts s) p)) (writes t) (all_writes xs) ∙ ap (λ b. spared (parts s) (writes t) && b) (spared_each s xs)

  goes_each : (s : Stmt) (xs : List Stmt) → fine s ≡ true → list_all fine xs ≡ true → list_all (may_go names n s) xs ≡ list_all (λ t. spared (parts s) (writes t)) xs
  goes_each s [] f h = refl
  goes_each s (t ∷ xs) f h =
      let a = and_true (fine t) (list_all fine xs) h in
      ap (λ b. b && list_all (may_go names n s) xs)
      (pair_is s t ∙ ap (λ b. b && (fine t && spared (parts s) (writes t))) f ∙ ap (λ b. b && spared (parts s) (writes t)) a.0)
      ∙ ap (λ b. spared (parts s) (writes t) && b) (goes_each s xs f a.1)

  -- where each statement is so by itself, it is the order that counts
  pub order_is : (xs : List Stmt) → list_all fine xs ≡ true → all_fine xs ≡ in_order (may_go names n) xs
  unfolding in_order
  order_is [] h = refl
  order_is (s ∷ xs) h =
      let a = and_true (fine s) (list_all fine xs) h in
      ap (λ b. b && (all_fine xs && spared (parts s) (all_writes xs))) a.0
      ∙ turned (all_fine xs) (spared (parts s) (all_writes xs))
      ∙ ap (λ b. b && all_fine xs) (spared_each s xs ∙ sym (goes_each s xs a.0 a.1))
      ∙ ap (λ b. list_all (may_go names n s) xs && b) (order_is xs a.1)
    where
      turned : (b c : Bool) → (b && c) ≡ (c && b)
      turned true c = sym (and_right c)
      turned false true = refl
      turned false false = refl

  pub each_fine : (xs : List Stmt) → all_fine xs ≡ true → list_all fine xs ≡ true
  each_fine [] h = refl
  each_fine (s ∷ xs) h =
      let a = and_true (fine s) (all_fine xs && spared (parts s) (all_writes xs)) h in
      let b = and_true (all_fine xs) (spared (parts s) (all_writes xs)) a.1 in
      true_and (fine s) (list_all fine xs) a.0 (each_fine xs b.0)

  -- the statements in another order
  pub arranged_has : (code : List Stmt) → IsReordered (in_turn names n code) code
  arranged_has code = keeps_items (may_go names n) _ code

  pub arranged_fine : (code : List Stmt) → list_all fine (in_turn names n code) ≡ list_all fine code
  arranged_fine code = all_reordered fine (in_turn names n code) code (arranged_has code)

  pub arranged_is : (code : List Stmt) → list_all fine code ≡ true → is_some (written_by names n (in_turn names n code) []) ≡ in_order (may_go names n) (in_turn names n code)
  arranged_is code h = once_is (in_turn names n code) ∙ order_is (in_turn names n code) (arranged_fine code ∙ h)

  -- a statement that is at odds with itself is so in any order
  pub arranged_not : (code : List Stmt) → list_all fine code ≡ false → is_some (written_by names n (in_turn names n code) []) ≡ false
  arranged_not code h = by_test (all_fine (in_turn names n code)) refl
    where
      true_false : true ≡ false → ⊥
      true_false e = cc

      by_test : (b : Bool) → all_fine (in_turn names n code) ≡ b → is_some (written_by names n (in_turn names n code) []) ≡ false
      by_test true e = absurd (true_false (sym (each_fine (in_turn names n code) e) ∙ arranged_fine code ∙ h))
      by_test false e = once_is (in_turn names n code) ∙ e

  -- in turn the statements write no part again where some order of them writes none
  enough_in_turn : (code other : List Stmt) → IsReordered other code → is_once names n other ≡ true → is_once names n (in_turn names n code) ≡ true
  enough_in_turn code other r h =
      let whole : all_fine other ≡ true = sym (once_is other) ∙ h in
      let each = each_fine other whole in
      let own : list_all fine code ≡ true = sym (all_reordered fine other code r) ∙ each in
      arranged_is code own ∙ ordered_if_any (may_go names n) _ code other refl r (sym (order_is other each) ∙ whole)

  stays_in_turn : (code : List Stmt) → is_once names n code ≡ true → in_turn names n code ≡ code
  stays_in_turn code h =
      let whole : all_fine code ≡ true = sym (once_is code) ∙ h in
      in_order_stays (may_go names n) _ code (sym (order_is code (each_fine code whole)) ∙ whole)

  -- ---- the block as it is run

  pub block_whole : (code : List Stmt) → is_once names n (in_turn names n code) ≡ true → block_arranged names n code ≡ in_turn names n code
  block_whole code h = ap (λ b. if b then in_turn names n code else in_turn names n (all_slices code)) h

  pub block_apart : (code : List Stmt) → is_once names n (in_turn names n code) ≡ false → block_arranged names n code ≡ in_turn names n (all_slices code)
  block_apart code h = ap (λ b. if b then in_turn names n code else in_turn names n (all_slices code)) h

  pub block_taken : (code : List Stmt) → IsTakenFrom (block_arranged names n code) code
  block_taken code = by_test (is_once names n (in_turn names n code))
    where
      by_test : (b : Bool) → IsTakenFrom (if b then in_turn names n code else in_turn names n (all_slices code)) code
      by_test true = inl (arranged_has code)
      by_test false = inr (arranged_has (all_slices code))

  block_enough : (code other : List Stmt) → IsTakenFrom other code → is_once names n other ≡ true → is_once names n (block_arranged names n code) ≡ true
  block_enough code other r h = by_test (is_once names n (in_turn names n code)) refl
    where
      true_not_false : true ≡ false → ⊥
      true_not_false e = cc

      by_test : (b : Bool) → is_once names n (in_turn names n code) ≡ b → is_once names n (if b then in_turn names n code else in_turn names n (all_slices code)) ≡ true
      by_test true e = e
      by_test false e = ⊎_elim (λ whole. absurd (true_not_false (sym (enough_in_turn code other whole h) ∙ e))) (λ apart. enough_in_turn (all_slices code) other apart h) r

pub order_holds : OrderLaw
order_holds = record {
  same = λ names n code. block_taken names n code;
  enough = λ names n code other r h. block_enough names n code other r h;
  stays = λ names n code h.
      let whole = stays_in_turn names n code h in
      block_whole names n code (ap (is_once names n) whole ∙ h) ∙ whole;
}
