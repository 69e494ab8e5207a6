-- What statements ask of two states does not depend on their order, and is what their slices ask.
use Rattle.std.proofs.Common.{◌≡◌, ℕ, ◌+◌, List, [], ◌∷◌, ◌++◌, map, length, refl, sym, ap, ◌∙◌, subst, true, false, Bool, Option, Some, None, ⊎_elim}
use Rattle.std.specs.Prelude.{◌&&◌, ◌||◌, nat_eq}
use Rattle.std.specs.Option.{is_some}
use Rattle.std.specs.List.{list_all, list_any}
use Rattle.std.proofs.lemmas.List.{map-append}
use Rattle.std.proofs.lemmas.List.Folds.{list_any-append}
use Rattle.uc_syntax.specs.declared.statement.Stmt.{Stmt}
use Rattle.uc_values.specs.declared.ty.Ty.{Ty}
use Rattle.uc_values.specs.declared.value.Value.{Value}
use Rattle.uc_meaning.specs.declared.scope.Interp.{Interp}
use Rattle.uc_meaning.specs.declared.scope.Scope.{Scope}
use Rattle.uc_meaning.specs.declared.scope.Site.{Site}
use Rattle.uc_meaning.specs.Lookup.{System}
use Rattle.uc_meaning.specs.Cells.{Cell}
use Rattle.uc_meaning.specs.Steps.{CellPart, Watched, Check, Kept, Broken, Blocks, AllKeep, then_check, check_each, kept_if, writes, is_prefix, is_written, state_of, check_statement, check_by, watched_first}
use Rattle.uc_ops.specs.declared.model.Model.{Model}
use Rattle.uc_flat.specs.declared.statement.Statement.{Statement}
use Rattle.uc_flat.specs.Executions.{FitAll}
use Rattle.uc_flat_expressions.specs.declared.typed.Meant.{Meant}
use Rattle.uc_flat_code.specs.Code.{MayBe, statement_of, code_of}
use Rattle.uc_graph.specs.Arranged.{IsReordered}
use Rattle.uc_graph.proofs.Arranged.{and_true, all_reordered}
use Rattle.uc_flat_order.proofs.Coded.{is_coded, coded}
use Rattle.uc_flat_order.specs.Slices.{all_slices}
use Rattle.uc_flat_order.specs.GuardedLaws.{is_plain, AreAlike, AskAlike}
use Rattle.uc_flat_order.proofs.Asked.{asked_alike as slices_alike}
use Rattle.uc_flat_order.specs.Arranged.{IsTakenFrom}
use Rattle.uc_flat_order.proofs.PlainCode.{plain_if_taken}
use Rattle.uc_flat_design.specs.Next.{between, primed_behind, IsNextTable, IsAsked}
use Rattle.uc_flat_design.proofs.Effects.{Effect, parts_in, all_agree, agree_append, writes_none, kept_true}
use Rattle.uc_flat_design.proofs.Told.{both, asked, asks_both, statement_gives}

broken_kept : (w : Watched) → Broken ≡ Kept w → ⊥
broken_kept w h = cc

-- ---- checks that see alike

kept_same : (v w : Watched) → Kept v ≡ Kept w → v ≡ w
kept_same v w h = cc

carried : (p q : Check) (v : Watched) → AskAlike p q → p ≡ Kept v → (w : Watched) × (q ≡ Kept w) × AreAlike v w
carried (Kept x) (Kept y) v h e = let P : Watched → Type 0 = λ z. AreAlike z y in (y, refl, subst P (kept_same x v e) h)
carried (Kept x) Broken v h e = absurd h
carried Broken (Kept y) v h e = absurd h
carried Broken Broken v h e = absurd (broken_kept v e)

turned_round : (p q : Check) → AskAlike p q → AskAlike q p
turned_round (Kept x) (Kept y) h = record { scope = sym h.scope; left = sym h.left; sites = sym h.sites; written = λ k fields. sym (h.written k fields) }
turned_round (Kept x) Broken h = absurd h
turned_round Broken (Kept y) h = absurd h
turned_round Broken Broken h = tt

-- ---- cells that keep their values

keep_alike : (cells : List Cell) (k : ℕ) (ps qs : List CellPart) (old new : List Value) → ((j : ℕ) (fields : List ℕ) → is_written ps j fields ≡ is_written qs j fields) → AllKeep ps k cells old new → AllKeep qs k cells old new
unfolding AllKeep
keep_alike [] k ps qs old new e h = h
keep_alike (c ∷ cells) k ps qs [] new e h = h
keep_alike (c ∷ cells) k ps qs (v ∷ old) [] e h = h
keep_alike (c ∷ cells) k ps qs (v ∷ old) (w ∷ new) e h = (record { kept = λ fields p i free. h.0.kept fields p i (e k fields ∙ free) }, keep_alike cells (k + 1) ps qs old new e h.1)

-- ---- effects that ask the same

module _ (types : List Ty) (new : List Value) where
  pub record SameAsked (ms ns : List Effect) : Type 0 where
    pub agree : all_agree types new ms ≡ all_agree types new ns
    pub written : (k : ℕ) (fields : List ℕ) → is_written (parts_in ms) k fields ≡ is_written (parts_in ns) k fields

  abbrev pub Same : Option (List Effect) → Option (List Effect) → Type 0
  Same None None = Unit {0}
  Same (Some ms) (Some ns) = SameAsked ms ns
  Same e f = ⊥

  same_itself : (e : Option (List Effect)) → Same e e
  same_itself None = tt
  same_itself (Some ms) = record { agree = refl; written = λ k fields. refl }

  pub same_turned : (e f : Option (List Effect)) → Same e f → Same f e
  same_turned None None h = tt
  same_turned (Some ms) (Some ns) h = record { agree = sym h.agree; written = λ k fields. sym (h.written k fields) }
  same_turned None (Some ns) h = absurd h
  same_turned (Some ms) None h = absurd h

  same_then : (e f g : Option (List Effect)) → Same e f → Same f g → Same e g
  same_then None None g h k = k
  same_then (Some ms) (Some ns) (Some ls) h k = record { agree = h.agree ∙ k.agree; written = λ j fields. h.written j fields ∙ k.written j fields }
  same_then (Some ms) (Some ns) None h k = absurd k
  same_then None (Some ns) g h k = absurd h
  same_then (Some ms) None g h k = absurd h

  written_both : (ms ns : List Effect) (k : ℕ) (fields : List ℕ) → is_written (parts_in (ms ++ ns)) k fields ≡ (is_written (parts_in ms) k fields || is_written (parts_in ns) k fields)
  unfolding is_written
  written_both ms ns k fields =
      ap (list_any (λ (w : CellPart). nat_eq w.cell k && (is_prefix w.fields fields || is_prefix fields w.fields))) (map-append (λ (x : Effect). let p : CellPart = record { cell = x.0; fields = x.1 } in p) ms ns)
      ∙ list_any-append (λ (w : CellPart). nat_eq w.cell k && (is_prefix w.fields fields || is_prefix fields w.fields)) (parts_in ms) (parts_in ns)

  same_under : (d e f : Option (List Effect)) → Same e f → Same (both d e) (both d f)
  same_under None e f h = tt
  same_under (Some ls) None None h = tt
  same_under (Some ls) (Some ms) (Some ns) h = record {
    agree = agree_append types new ls ms ∙ ap (λ b. all_agree types new ls && b) h.agree ∙ sym (agree_append types new ls ns);
    written = λ k fields. written_both ls ms k fields ∙ ap (λ b. is_written (parts_in ls) k fields || b) (h.written k fields) ∙ sym (written_both ls ns k fields);
  }
  same_under (Some ls) None (Some ns) h = absurd h
  same_under (Some ls) (Some ms) None h = absurd h

  and_turned : (a b c : Bool) → (a && (b && c)) ≡ (b && (a && c))
  and_turned true b c = refl
  and_turned false true c = refl
  and_turned false false c = refl

  or_turned : (a b c : Bool) → (a || (b || c)) ≡ (b || (a || c))
  or_turned true true c = refl
  or_turned true false c = refl
  or_turned false b c = refl

  none_behind : (e : Option (List Effect)) → both e None ≡ None
  none_behind None = refl
  none_behind (Some ms) = refl

  same_swapped : (d e f : Option (List Effect)) → Same (both d (both e f)) (both e (both d f))
  same_swapped None e f = subst (Same None) (sym (none_behind e)) tt
  same_swapped (Some ls) None f = tt
  same_swapped (Some ls) (Some ms) None = tt
  same_swapped (Some ls) (Some ms) (Some ns) = record {
    agree = agree_append types new ls (ms ++ ns) ∙ ap (λ b. all_agree types new ls && b) (agree_append types new ms ns) ∙ and_turned (all_agree types new ls) (all_agree types new ms) (all_agree types new ns)
        ∙ ap (λ b. all_agree types new ms && b) (sym (agree_append types new ls ns)) ∙ sym (agree_append types new ms (ls ++ ns));
    written = λ k fields. written_both ls (ms ++ ns) k fields ∙ ap (λ b. is_written (parts_in ls) k fields || b) (written_both ms ns k fields)
        ∙ or_turned (is_written (parts_in ls) k fields) (is_written (parts_in ms) k fields) (is_written (parts_in ns) k fields)
        ∙ ap (λ b. is_written (parts_in ms) k fields || b) (sym (written_both ls ns k fields)) ∙ sym (written_both ms (ls ++ ns) k fields);
  }

  -- the effects of statements in order
  module _ (one : Stmt → Option (List Effect)) where
    abbrev pub effects_of : List Stmt → Option (List Effect)
    effects_of [] = Some []
    effects_of (s ∷ ss) = both (one s) (effects_of ss)

    taken_out : (front behind : List Stmt) (s : Stmt) → Same (both (one s) (effects_of (front ++ behind))) (effects_of (front ++ s ∷ behind))
    taken_out [] behind s = same_itself (both (one s) (effects_of behind))
    taken_out (t ∷ front) behind s =
        same_then (both (one s) (both (one t) (effects_of (front ++ behind)))) (both (one t) (both (one s) (effects_of (front ++ behind)))) (both (one t) (effects_of (front ++ s ∷ behind)))
        (same_swapped (one s) (one t) (effects_of (front ++ behind))) (same_under (one t) (both (one s) (effects_of (front ++ behind))) (effects_of (front ++ s ∷ behind)) (taken_out front behind s))

    pub in_any_order : (xs ys : List Stmt) → IsReordered xs ys → Same (effects_of xs) (effects_of ys)
    unfolding IsReordered
    in_any_order [] ys h = subst (λ zs. Same (Some []) (effects_of zs)) (sym h) (same_itself (Some []))
    in_any_order (x ∷ xs) ys h =
        subst (λ zs. Same (both (one x) (effects_of xs)) (effects_of zs)) (sym h.2)
        (same_then (both (one x) (effects_of xs)) (both (one x) (effects_of (h.0 ++ h.1))) (effects_of (h.0 ++ x ∷ h.1))
        (same_under (one x) (effects_of xs) (effects_of (h.0 ++ h.1)) (in_any_order xs (h.0 ++ h.1) h.3)) (taken_out h.0 h.1 x))

-- ---- what statements ask

module _ (system : System) (blocks : Blocks) (i : Interp) (m : Model) (types : List Ty) (names : List Meant) (old new : List Value)
    (fit_old : FitAll types old) (fit_new : FitAll types new) (table : IsNextTable system m types names i) (n : ℕ) (count : n ≡ length types) where
  abbrev here : Scope
  here = between i new old

  abbrev seen_by : Option (List Effect) → Watched → Check
  seen_by = asked system blocks i m types names old new fit_old fit_new table n count

  abbrev flat_of_one : Stmt → MayBe
  flat_of_one s = statement_of names (primed_behind n) s

  effect_by : (s : Stmt) (o : MayBe) → flat_of_one s ≡ o → Option (List Effect)
  effect_by s None e = None
  effect_by s (Some flat) e = (statement_gives system blocks i m types names old new fit_old fit_new table n count s flat e).effects

  effect_of : Stmt → Option (List Effect)
  effect_of s = effect_by s (flat_of_one s) refl

  one_asks : (s : Stmt) (o : MayBe) (e : flat_of_one s ≡ o) → is_some o ≡ true → (w : Watched) → w.scope ≡ here → check_statement system blocks s w ≡ seen_by (effect_by s o e) w
  unfolding effect_by
  one_asks s None e h w f = absurd (cc)
  one_asks s (Some flat) e h w f = (statement_gives system blocks i m types names old new fit_old fit_new table n count s flat e).asks w f

  abbrev all_effects : List Stmt → Option (List Effect)
  all_effects = effects_of types new effect_of

  all_ask : (code : List Stmt) → list_all (is_coded names (primed_behind n)) code ≡ true → (w : Watched) → w.scope ≡ here → check_by system blocks code w ≡ seen_by (all_effects code) w
  unfolding check_by check_each effect_of
  all_ask [] h w f = ap Kept (sym (writes_none w))
  all_ask (s ∷ code) h w f =
      let a = and_true (is_coded names (primed_behind n) s) (list_all (is_coded names (primed_behind n)) code) h in
      ap (λ q. then_check q (check_each (map (check_statement system blocks) code))) (one_asks s (flat_of_one s) refl a.0 w f)
      ∙ asks_both system blocks i m types names old new fit_old fit_new table n count (effect_of s) (all_effects code) (check_each (map (check_statement system blocks) code)) w f (λ v g. all_ask code a.1 v g)

  asked_alike : (cells : List Cell) (xs ys : List Stmt) (choices : List Value) (sites : List Site) → list_all (is_coded names (primed_behind n)) xs ≡ true → list_all (is_coded names (primed_behind n)) ys ≡ true → Same types new (all_effects xs) (all_effects ys)
      → IsAsked system blocks i cells xs old new choices sites → IsAsked system blocks i cells ys old new choices sites
  asked_alike cells xs ys choices sites cx cy same a = by_effects (all_effects xs) (all_effects ys) refl refl same
    where
      start : Watched
      start = watched_first i (state_of old) (state_of new) choices

      by_effects : (e f : Option (List Effect)) → all_effects xs ≡ e → all_effects ys ≡ f → Same types new e f → IsAsked system blocks i cells ys old new choices sites
      by_effects None f p q s = absurd (broken_kept a.seen (sym (all_ask xs cx start refl ∙ ap (λ o. seen_by o start) p) ∙ a.holds))
      by_effects (Some ms) None p q s = absurd s
      by_effects (Some ms) (Some ns) p q s =
          let k = kept_true (all_agree types new ms) (writes (parts_in ms) start) a.seen (sym (all_ask xs cx start refl ∙ ap (λ o. seen_by o start) p) ∙ a.holds) in
          record {
            seen = writes (parts_in ns) start;
            holds = all_ask ys cy start refl ∙ ap (λ o. seen_by o start) q ∙ ap (λ b. kept_if b (writes (parts_in ns) start)) (sym s.agree ∙ k.0);
            uses_all = ap (λ (w : Watched). w.left) k.1 ∙ a.uses_all;
            lists = ap (λ (w : Watched). w.sites) k.1 ∙ a.lists;
            keeps = keep_alike cells 0 (parts_in ms) (parts_in ns) old new s.written (subst (λ (w : Watched). AllKeep w.written 0 cells old new) (sym k.1) a.keeps);
          }

  -- from a block to its statements in some order that have code
  asked_in_turn : (cells : List Cell) (order code : List Stmt) (flat : List Statement) (choices : List Value) (sites : List Site) → IsReordered order code → code_of names (primed_behind n) order ≡ Some flat
      → IsAsked system blocks i cells code old new choices sites → IsAsked system blocks i cells order old new choices sites
  asked_in_turn cells order code flat choices sites same is a =
      let c = coded names (primed_behind n) order flat is in
      asked_alike cells code order choices sites (sym (all_reordered (is_coded names (primed_behind n)) order code same) ∙ c) c (same_turned types new (all_effects order) (all_effects code) (in_any_order types new effect_of order code same)) a

  -- and back
  asked_in_text : (cells : List Cell) (order code : List Stmt) (flat : List Statement) (choices : List Value) (sites : List Site) → IsReordered order code → code_of names (primed_behind n) order ≡ Some flat
      → IsAsked system blocks i cells order old new choices sites → IsAsked system blocks i cells code old new choices sites
  asked_in_text cells order code flat choices sites same is a =
      let c = coded names (primed_behind n) order flat is in
      asked_alike cells order code choices sites c (sym (all_reordered (is_coded names (primed_behind n)) order code same) ∙ c) (in_any_order types new effect_of order code same) a

  -- ---- slices

  abbrev start_at : List Value → Watched
  start_at choices = watched_first i (state_of old) (state_of new) choices

  asked_as : (cells : List Cell) (xs ys : List Stmt) (choices : List Value) (sites : List Site) → AskAlike (check_by system blocks xs (start_at choices)) (check_by system blocks ys (start_at choices))
      → IsAsked system blocks i cells xs old new choices sites → IsAsked system blocks i cells ys old new choices sites
  asked_as cells xs ys choices sites same a =
      let c = carried (check_by system blocks xs (start_at choices)) (check_by system blocks ys (start_at choices)) a.seen same a.holds in
      record {
        seen = c.0;
        holds = c.1;
        uses_all = sym c.2.left ∙ a.uses_all;
        lists = sym c.2.sites ∙ a.lists;
        keeps = keep_alike cells 0 a.seen.written c.0.written old new c.2.written a.keeps;
      }

  slices_ask : (code : List Stmt) (choices : List Value) → list_all is_plain code ≡ true → AskAlike (check_by system blocks (all_slices code) (start_at choices)) (check_by system blocks code (start_at choices))
  slices_ask code choices h = slices_alike system blocks (start_at choices).scope code h (start_at choices) refl

  to_slices : (cells : List Cell) (code : List Stmt) (choices : List Value) (sites : List Site) → list_all is_plain code ≡ true → IsAsked system blocks i cells code old new choices sites → IsAsked system blocks i cells (all_slices code) old new choices sites
  to_slices cells code choices sites h a =
      asked_as cells code (all_slices code) choices sites (turned_round (check_by system blocks (all_slices code) (start_at choices)) (check_by system blocks code (start_at choices)) (slices_ask code choices h)) a

  from_slices : (cells : List Cell) (code : List Stmt) (choices : List Value) (sites : List Site) → list_all is_plain code ≡ true → IsAsked system blocks i cells (all_slices code) old new choices sites → IsAsked system blocks i cells code old new choices sites
  from_slices cells code choices sites h a = asked_as cells (all_slices code) code choices sites (slices_ask code choices h) a

  -- from a block to what is taken from it, and back
  pub asked_in_order : (cells : List Cell) (order code : List Stmt) (flat : List Statement) (choices : List Value) (sites : List Site) → IsTakenFrom order code → code_of names (primed_behind n) order ≡ Some flat
      → IsAsked system blocks i cells code old new choices sites → IsAsked system blocks i cells order old new choices sites
  asked_in_order cells order code flat choices sites taken is a =
      ⊎_elim (λ whole. asked_in_turn cells order code flat choices sites whole is a)
      (λ apart. asked_in_turn cells order (all_slices code) flat choices sites apart is (to_slices cells code choices sites (plain_if_taken names (primed_behind n) order code flat taken is) a)) taken

  pub asked_of_block : (cells : List Cell) (order code : List Stmt) (flat : List Statement) (choices : List Value) (sites : List Site) → IsTakenFrom order code → code_of names (primed_behind n) order ≡ Some flat
      → IsAsked system blocks i cells order old new choices sites → IsAsked system blocks i cells code old new choices sites
  asked_of_block cells order code flat choices sites taken is a =
      ⊎_elim (λ whole. asked_in_text cells order code flat choices sites whole is a)
      (λ apart. from_slices cells code choices sites (plain_if_taken names (primed_behind n) order code flat taken is) (asked_in_text cells order (all_slices code) flat choices sites apart is a)) taken
