-- Stretches that are added behind others.
use Rattle.std.proofs.Common.{◌≡◌, Bool, List, [], ◌∷◌, ◌++◌, refl, ap, ◌∙◌, sym, append_assoc}
use Rattle.std.specs.Prelude.{not}
use Rattle.std.specs.List.{list_any}
use Rattle.uc_syntax.proofs.Added.{append_nil}
use Rattle.uc_order_rules.specs.Paths.{Along, Stretch, both, nothing, in_turn, one_of}
use Rattle.uc_order_rules.specs.Writes.{is_empty}
use Rattle.uc_order_rules.specs.Pairs.{Meeting, Only, Paired, SameThings, any_pair, cross}
use Rattle.uc_order_rules.proofs.Paired.{Judged, paired_as, paired_either, paired_then}

both_assoc : {A : Type 0} (a b c : Along A) → both a (both b c) ≡ both (both a b) c
both_assoc a b c = λ k. record { happens = sym (append_assoc a.happens b.happens c.happens) k; faults = sym (append_assoc a.faults b.faults c.faults) k }

both_nothing : {A : Type 0} (a : Along A) → both a nothing ≡ a
both_nothing a = λ k. record { happens = append_nil a.happens k; faults = append_nil a.faults k }

module _ {A : Type 0} where
  turn_step : (s : Stretch A) (ss : List (Stretch A)) (before : List A) → in_turn (s ∷ ss) before ≡ both (s before) (in_turn ss (before ++ (s before).happens))
  unfolding in_turn
  turn_step s ss before = refl

  turn_none : (before : List A) → in_turn [] before ≡ nothing
  unfolding in_turn
  turn_none before = refl

  pub turn_one : (s : Stretch A) (before : List A) → in_turn (s ∷ []) before ≡ s before
  turn_one s before = turn_step s [] before ∙ ap (both (s before)) (turn_none (before ++ (s before).happens)) ∙ both_nothing (s before)

  pub turn_join : (ss ts : List (Stretch A)) (before : List A) → in_turn (ss ++ ts) before ≡ both (in_turn ss before) (in_turn ts (before ++ (in_turn ss before).happens))
  turn_join [] ts before =
      sym (ap (in_turn ts) (append_nil before)) ∙ (λ k. both (sym (turn_none before) k) (in_turn ts (before ++ (sym (turn_none before) k).happens)))
  turn_join (s ∷ ss) ts before =
      let now = (s before).happens in
      let next = before ++ now in
      let rest = in_turn ss next in
      turn_step s (ss ++ ts) before
      ∙ ap (both (s before)) (turn_join ss ts next)
      ∙ both_assoc (s before) rest (in_turn ts (next ++ rest.happens))
      ∙ ap (λ l. both (both (s before) rest) (in_turn ts l)) (append_assoc before now rest.happens)
      ∙ (λ k. both (sym (turn_step s ss before) k) (in_turn ts (before ++ (sym (turn_step s ss before) k).happens)))

  -- stretches within a stretch
  pub turn_flat : (ss ts : List (Stretch A)) (before : List A) → in_turn (ss ++ in_turn ts ∷ []) before ≡ in_turn (ss ++ ts) before
  turn_flat ss ts before =
      turn_join ss (in_turn ts ∷ []) before
      ∙ ap (both (in_turn ss before)) (turn_one (in_turn ts) (before ++ (in_turn ss before).happens))
      ∙ sym (turn_join ss ts before)

  pub turn_idle : (ss : List (Stretch A)) (before : List A) → in_turn (ss ++ (λ b. nothing) ∷ []) before ≡ in_turn ss before
  turn_idle ss before =
      turn_join ss ((λ b. nothing) ∷ []) before ∙ ap (both (in_turn ss before)) (turn_one (λ b. nothing) (before ++ (in_turn ss before).happens)) ∙ both_nothing (in_turn ss before)

  one_step : (s : Stretch A) (ss : List (Stretch A)) (before : List A) → one_of (s ∷ ss) before ≡ both (s before) (one_of ss before)
  unfolding one_of
  one_step s ss before = refl

  one_none : (before : List A) → one_of [] before ≡ nothing
  unfolding one_of
  one_none before = refl

  one_one : (s : Stretch A) (before : List A) → one_of (s ∷ []) before ≡ s before
  one_one s before = one_step s [] before ∙ ap (both (s before)) (one_none before) ∙ both_nothing (s before)

  one_join : (ss ts : List (Stretch A)) (before : List A) → one_of (ss ++ ts) before ≡ both (one_of ss before) (one_of ts before)
  one_join [] ts before = ap (λ a. both a (one_of ts before)) (sym (one_none before))
  one_join (s ∷ ss) ts before =
      one_step s (ss ++ ts) before ∙ ap (both (s before)) (one_join ss ts before) ∙ both_assoc (s before) (one_of ss before) (one_of ts before)
      ∙ ap (λ a. both a (one_of ts before)) (sym (one_step s ss before))

module _ {A : Type 0} (keep : A → Bool) where
  -- the same of code in which the same happens, and that has faults where the other has some
  pub paired_like : (s t : Judged A) (h : List A) (ps : List (A × A)) → ((meets : Meeting A) (before : List A) → (s meets before).happens ≡ (t meets before).happens) →
      ((meets : Meeting A) (before : List A) → not (is_empty (s meets before).faults) ≡ not (is_empty (t meets before).faults)) → Paired A keep s h ps → Paired A keep t h ps
  paired_like s t h ps same fails a = record {
    same = λ meets before test. ap (list_any test) (sym (same meets before)) ∙ a.same meets before test;
    fails = λ meets before only. sym (fails meets before) ∙ a.fails meets before only;
  }

  pub paired_equal : (s t : Judged A) (h : List A) (ps : List (A × A)) → ((meets : Meeting A) (before : List A) → s meets before ≡ t meets before) → Paired A keep s h ps → Paired A keep t h ps
  paired_equal s t h ps same a =
      paired_like s t h ps (λ meets before. ap (λ (r : Along A). r.happens) (same meets before)) (λ meets before. ap (λ (r : Along A). not (is_empty r.faults)) (same meets before)) a

  paired_last : (s : Judged A) (h : List A) (ps : List (A × A)) → Paired A keep s h ps → Paired A keep (λ meets. in_turn (s meets ∷ [])) h ps
  paired_last s h ps a = paired_equal s (λ meets. in_turn (s meets ∷ [])) h ps (λ meets before. sym (turn_one (s meets) before)) a

  paired_alone : (s : Judged A) (h : List A) (ps : List (A × A)) → Paired A keep s h ps → Paired A keep (λ meets. one_of (s meets ∷ [])) h ps
  paired_alone s h ps a = paired_equal s (λ meets. one_of (s meets ∷ [])) h ps (λ meets before. sym (one_one (s meets) before)) a

  -- one more stretch behind others
  pub paired_more : (ss : Meeting A → List (Stretch A)) (t : Judged A) (h k l : List A) (ps qs rs : List (A × A)) → Paired A keep (λ meets. in_turn (ss meets)) h ps → Paired A keep t k qs → SameThings (h ++ k) l →
      ((meets : Meeting A) → Only keep meets → any_pair meets (ps ++ (qs ++ cross h k)) ≡ any_pair meets rs) → Paired A keep (λ meets. in_turn (ss meets ++ t meets ∷ [])) l rs
  paired_more ss t h k l ps qs rs a b things pairs =
      paired_as keep (λ meets. in_turn (ss meets ++ t meets ∷ [])) (h ++ k) l (ps ++ (qs ++ cross h k)) rs things pairs
      (paired_equal (λ meets. in_turn (in_turn (ss meets) ∷ (t meets ∷ []))) (λ meets. in_turn (ss meets ++ t meets ∷ [])) (h ++ k) (ps ++ (qs ++ cross h k))
      (λ meets before. turn_step (in_turn (ss meets)) (t meets ∷ []) before ∙ sym (turn_join (ss meets) (t meets ∷ []) before))
      (paired_then keep (λ meets. in_turn (ss meets)) (λ meets. t meets ∷ []) h k ps qs a (paired_last t k qs b)))

  -- one more of several
  pub paired_other : (ss : Meeting A → List (Stretch A)) (t : Judged A) (h k l : List A) (ps qs rs : List (A × A)) → Paired A keep (λ meets. one_of (ss meets)) h ps → Paired A keep t k qs → SameThings (h ++ k) l →
      ((meets : Meeting A) → Only keep meets → any_pair meets (ps ++ qs) ≡ any_pair meets rs) → Paired A keep (λ meets. one_of (ss meets ++ t meets ∷ [])) l rs
  paired_other ss t h k l ps qs rs a b things pairs =
      paired_as keep (λ meets. one_of (ss meets ++ t meets ∷ [])) (h ++ k) l (ps ++ qs) rs things pairs
      (paired_equal (λ meets. one_of (one_of (ss meets) ∷ (t meets ∷ []))) (λ meets. one_of (ss meets ++ t meets ∷ [])) (h ++ k) (ps ++ qs)
      (λ meets before. one_step (one_of (ss meets)) (t meets ∷ []) before ∙ sym (one_join (ss meets) (t meets ∷ []) before))
      (paired_either keep (λ meets. one_of (ss meets)) (λ meets. t meets ∷ []) h k ps qs a (paired_alone t k qs b)))
