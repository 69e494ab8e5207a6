-- What the statements of a block use, and which they need.
use Rattle.std.proofs.Common.{◌≡◌, ℕ, zero, suc, ◌+◌, ◌<◌, ◌≤◌, List, [], ◌∷◌, ◌++◌, map, length, get_or, refl, sym, ap, ◌∙◌, true, false, Bool, Option, Some, None, ◌⊎◌, inl, inr, ⊎_elim, arith, length-append}
use Rattle.std.specs.Prelude.{not, ◌&&◌, nat_eq, slice_get}
use Rattle.std.specs.Option.{option_map, option_and_then, is_some}
use Rattle.std.specs.List.{list_all}
use Rattle.std.proofs.lemmas.Bool.Decides.{nat_tests}
use Rattle.uc_syntax.specs.declared.statement.Stmt.{Stmt}
use Rattle.uc_flat_expressions.specs.declared.typed.Meant.{Meant}
use Rattle.uc_flat_expressions.specs.Expressions.{all_of}
use Rattle.uc_graph.specs.Order.{has, needs}
use Rattle.uc_flat_code.specs.declared.once.Part.{Part}
use Rattle.uc_flat_code.specs.Once.{writer}
use Rattle.uc_flat_code.specs.Written.{written_parts}
use Rattle.uc_flat_order.specs.declared.uses.Uses.{Uses}
use Rattle.uc_flat_order.specs.Uses.{spared, use_of, AreNeeds}
use Rattle.uc_flat_order.proofs.Pairs.{fine, parts, writes, fine_is, parts_are}

-- ---- an item at a place

pub item_at : {A : Type 0} (xs : List A) (k : ℕ) (x : A) → k < length xs → x ≡ get_or xs k x → slice_get xs k ≡ Some x
item_at [] k x l h = absurd (omega (arith, l))
item_at (y ∷ xs) zero x l h = ap Some (sym h)
item_at (y ∷ xs) (suc k) x l h = item_at xs k x (omega (arith, l)) h

pub within : {A : Type 0} (xs : List A) (k : ℕ) (x : A) → slice_get xs k ≡ Some x → k < length xs
within [] k x h = absurd (cc)
within (y ∷ xs) zero x h = omega arith
within (y ∷ xs) (suc k) x h = omega (arith, within xs k x h)

some_same : {A : Type 0} (x y : A) → Some x ≡ Some y → x ≡ y
some_same x y h = cc

pub same : (n : ℕ) → nat_eq n n ≡ true
same n = grind (arith, nat_tests)

pub here_or_before : (j k : ℕ) → j < k + 1 → (j < k) ⊎ (j ≡ k)
here_or_before zero zero l = inr refl
here_or_before zero (suc k) l = inl (omega arith)
here_or_before (suc j) zero l = absurd (omega (arith, l))
here_or_before (suc j) (suc k) l = ⊎_elim (λ h. inl (omega (arith, h))) (λ h. inr (ap suc h)) (here_or_before j k (omega (arith, l)))

-- ---- all needs

needs_front : (graph : List (List ℕ)) (ns : List ℕ) (i : ℕ) → i < length graph → needs (graph ++ ns ∷ []) i ≡ needs graph i
needs_front [] ns i l = absurd (omega (arith, l))
needs_front (g ∷ graph) ns zero l = refl
needs_front (g ∷ graph) ns (suc i) l = needs_front graph ns i (omega (arith, l))

needs_last : (graph : List (List ℕ)) (ns : List ℕ) → needs (graph ++ ns ∷ []) (length graph) ≡ ns
needs_last [] ns = refl
needs_last (g ∷ graph) ns = needs_last graph ns

-- the needs of the first statements
pub record GraphUpTo (uses : List Uses) (k : ℕ) (graph : List (List ℕ)) : Type 0 where
  pub count : length graph ≡ k
  pub are : (i j : ℕ) (u v : Uses) → i < k → slice_get uses i ≡ Some u → slice_get uses j ≡ Some v → has (needs graph i) j ≡ not (spared u.parts v.writes)

pub graph_begin : (uses : List Uses) → GraphUpTo uses 0 []
graph_begin uses = record { count = refl; are = λ i j u v l e f. absurd (omega (arith, l)) }

pub graph_more : (uses : List Uses) (k : ℕ) (graph more : List (List ℕ)) (u : Uses) (ps : List Part) (ns : List ℕ) → GraphUpTo uses k graph → slice_get uses k ≡ Some u → ps ≡ u.parts → ((j : ℕ) (v : Uses) → slice_get uses j ≡ Some v → has ns j ≡ not (spared ps v.writes)) → more ≡ graph ++ ns ∷ []
    → GraphUpTo uses (k + 1) more
graph_more uses k graph more u ps ns s at own h added = record {
  count = ap length added ∙ omega (arith, length-append graph (ns ∷ []), s.count);
  are = λ i j w v l e f. ap (λ g. has (needs g i) j) added ∙ ⊎_elim
      (λ b. ap (λ ms. has ms j) (needs_front graph ns i (omega (arith, b, s.count))) ∙ s.are i j w v b e f)
      (λ b. ap (λ m. has (needs (graph ++ ns ∷ []) m) j) (b ∙ sym s.count) ∙ ap (λ ms. has ms j) (needs_last graph ns) ∙ h j v f
      ∙ ap (λ qs. not (spared qs v.writes)) (own ∙ sym (ap (λ (x : Uses). x.parts) (some_same w u (sym e ∙ ap (slice_get uses) b ∙ at)))))
      (here_or_before i k l);
}

pub graph_end : (uses : List Uses) (k : ℕ) (graph : List (List ℕ)) → GraphUpTo uses k graph → length uses ≤ k → k ≤ length uses → AreNeeds uses graph
graph_end uses k graph s l m = record { each = omega (arith, s.count, l, m); are = λ i j u v e f. s.are i j u v (omega (arith, within uses i u e, l)) e f }

-- ---- what the statements use

module _ (names : List Meant) (n : ℕ) where
  abbrev pub own : Stmt → Uses
  own s = record { parts = parts names n s; writes = writes names n s }

  use_there : (s : Stmt) (u : Uses) → use_of names n s ≡ Some u → (fine names n s ≡ true) × (u ≡ own s)
  use_there s u h = by_case (writer names n s []) refl h
    where
      by_case : (o : Option (List Part)) → writer names n s [] ≡ o → option_map (λ ps. let x : Uses = record { parts = ps; writes = written_parts names s } in x) o ≡ Some u → (fine names n s ≡ true) × (u ≡ own s)
      by_case None e k = absurd (cc)
      by_case (Some ps) e k =
          let x : Uses = record { parts = ps; writes = written_parts names s } in
          (sym (fine_is names n s) ∙ ap is_some e, sym (some_same x u k) ∙ ap (λ qs. let z : Uses = record { parts = qs; writes = written_parts names s } in z) (sym (parts_are names n s ps e)))

  use_missing : (s : Stmt) → use_of names n s ≡ None → fine names n s ≡ false
  use_missing s h = by_case (writer names n s []) refl h
    where
      by_case : (o : Option (List Part)) → writer names n s [] ≡ o → option_map (λ ps. let x : Uses = record { parts = ps; writes = written_parts names s } in x) o ≡ None → fine names n s ≡ false
      by_case None e k = sym (fine_is names n s) ∙ ap is_some e
      by_case (Some ps) e k = absurd (cc)

  -- each is at one with itself, and uses this
  pub used : (code : List Stmt) (uses : List Uses) → all_of (map (use_of names n) code) ≡ Some uses → (list_all (fine names n) code ≡ true) × (uses ≡ map own code)
  used [] uses h = (refl, sym (some_same [] uses h))
  used (s ∷ code) uses h = by_case (λ us e. used code us e) (use_of names n s) refl h
    where
      by_rest : (u : Uses) → (o : Option (List Uses)) → option_map (λ us. u ∷ us) o ≡ Some uses → (us : List Uses) × (o ≡ Some us) × (uses ≡ u ∷ us)
      by_rest u None k = absurd (cc)
      by_rest u (Some us) k = (us, refl, sym (some_same (u ∷ us) uses k))

      by_case : ((us : List Uses) → all_of (map (use_of names n) code) ≡ Some us → (list_all (fine names n) code ≡ true) × (us ≡ map own code)) → (o : Option Uses) → use_of names n s ≡ o
          → option_and_then (λ x. option_map (λ us. x ∷ us) (all_of (map (use_of names n) code))) o ≡ Some uses → ((fine names n s && list_all (fine names n) code) ≡ true) × (uses ≡ own s ∷ map own code)
      by_case rest None e k = absurd (cc)
      by_case rest (Some u) e k =
          let a = use_there s u e in
          let b = by_rest u (all_of (map (use_of names n) code)) k in
          let c = rest b.0 b.1 in
          (ap (λ z. z && list_all (fine names n) code) a.0 ∙ c.0, b.2 ∙ ap (λ x. x ∷ b.0) a.1 ∙ ap (λ us. own s ∷ us) c.1)

  pub unused : (code : List Stmt) → all_of (map (use_of names n) code) ≡ None → list_all (fine names n) code ≡ false
  unused [] h = absurd (cc)
  unused (s ∷ code) h = by_case (λ e. unused code e) (use_of names n s) refl h
    where
      no_more : (u : Uses) (o : Option (List Uses)) → option_map (λ us. u ∷ us) o ≡ None → o ≡ None
      no_more u None k = refl
      no_more u (Some us) k = absurd (cc)

      and_false : (b c : Bool) → c ≡ false → (b && c) ≡ false
      and_false true c e = e
      and_false false c e = refl

      by_case : (all_of (map (use_of names n) code) ≡ None → list_all (fine names n) code ≡ false) → (o : Option Uses) → use_of names n s ≡ o
          → option_and_then (λ x. option_map (λ us. x ∷ us) (all_of (map (use_of names n) code))) o ≡ None → (fine names n s && list_all (fine names n) code) ≡ false
      by_case rest None e k = ap (λ z. z && list_all (fine names n) code) (use_missing s e)
      by_case rest (Some u) e k = and_false (fine names n s) (list_all (fine names n) code) (rest (no_more u (all_of (map (use_of names n) code)) k))
