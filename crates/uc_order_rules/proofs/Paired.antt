-- Pairs of stretches one after another, of one of several, and of the turns of a loop.
use Rattle.std.proofs.Common.{◌≡◌, ℕ, zero, suc, Bool, true, false, List, [], ◌∷◌, ◌++◌, map, refl, ap, ◌∙◌, sym, inl, inr}
use Rattle.std.specs.Prelude.{◌⊎◌, ◌||◌, not}
use Rattle.std.specs.List.{list_any}
use Rattle.std.proofs.lemmas.List.Folds.{list_any-append}
use Rattle.uc_rules.specs.declared.fault.Fault.{Fault}
use Rattle.uc_order_rules.specs.Paths.{Stretch, nothing, in_turn, one_of, times}
use Rattle.uc_order_rules.specs.Writes.{is_empty}
use Rattle.uc_order_rules.specs.Pairs.{Meeting, Only, Paired, SameThings, any_met, any_pair, cross}

or_assoc : (a b c : Bool) → ((a || b) || c) ≡ (a || (b || c))
or_assoc true b c = refl
or_assoc false b c = refl

or_false : (b : Bool) → (b || false) ≡ b
or_false true = refl
or_false false = refl

any_false : {A : Type 0} (xs : List A) → list_any (λ x. false) xs ≡ false
any_false [] = refl
any_false (x ∷ xs) = any_false xs

any_as : {A : Type 0} (f g : A → Bool) (xs : List A) → ((x : A) → f x ≡ g x) → list_any f xs ≡ list_any g xs
any_as f g [] h = refl
any_as f g (x ∷ xs) h = (λ k. h x k || any_as f g xs h k)

any_or : {A : Type 0} (f g : A → Bool) (xs : List A) → list_any (λ x. f x || g x) xs ≡ (list_any f xs || list_any g xs)
any_or f g [] = refl
any_or f g (x ∷ xs) = ap (λ b. (f x || g x) || b) (any_or f g xs) ∙ swap (f x) (g x) (list_any f xs) (list_any g xs)
  where
    swap : (a b c d : Bool) → ((a || b) || (c || d)) ≡ ((a || c) || (b || d))
    swap true b c d = refl
    swap false true true d = refl
    swap false true false d = refl
    swap false false c d = refl

any_mapped : {A B : Type 0} (f : A → B) (p : B → Bool) (xs : List A) → list_any p (map f xs) ≡ list_any (λ x. p (f x)) xs
any_mapped f p [] = refl
any_mapped f p (x ∷ xs) = ap (λ b. p (f x) || b) (any_mapped f p xs)

pub has_both : (fs gs : List Fault) → not (is_empty (fs ++ gs)) ≡ (not (is_empty fs) || not (is_empty gs))
has_both [] gs = refl
has_both (f ∷ fs) gs = refl

-- A stretch of a way to judge.
abbrev pub Judged : Type 0 → Type 0
Judged A = Meeting A → Stretch A

module _ {A : Type 0} where
  -- what meets a first or a second list
  met_both : (meets : Meeting A) (a b later : List A) → any_met meets (a ++ b) later ≡ (any_met meets a later || any_met meets b later)
  met_both meets a b later =
      any_as (λ x. list_any (λ q. meets q x) (a ++ b)) (λ x. list_any (λ q. meets q x) a || list_any (λ q. meets q x) b) later (λ x. list_any-append (λ q. meets q x) a b)
      ∙ any_or (λ x. list_any (λ q. meets q x) a) (λ x. list_any (λ q. meets q x) b) later

  met_later : (meets : Meeting A) (before a b : List A) → any_met meets before (a ++ b) ≡ (any_met meets before a || any_met meets before b)
  met_later meets before a b = list_any-append (λ x. list_any (λ q. meets q x) before) a b

  -- the same of lists with the same things
  met_same : (meets : Meeting A) (a b later : List A) → SameThings a b → any_met meets a later ≡ any_met meets b later
  met_same meets a b later same = any_as (λ x. list_any (λ q. meets q x) a) (λ x. list_any (λ q. meets q x) b) later (λ x. same (λ q. meets q x))

  pub met_none : (meets : Meeting A) (later : List A) → any_met meets [] later ≡ false
  met_none meets later = any_false later

  met_one : (meets : Meeting A) (u : A) (as' later : List A) → any_met meets (u ∷ as') later ≡ (list_any (λ x. meets u x) later || any_met meets as' later)
  met_one meets u as' later = any_or (λ x. meets u x) (λ x. list_any (λ q. meets q x) as') later

  pub any_cross : (meets : Meeting A) (as' bs : List A) → any_pair meets (cross as' bs) ≡ any_met meets as' bs
  any_cross meets [] bs = sym (met_none meets bs)
  any_cross meets (a ∷ as') bs =
      list_any-append (λ p. meets p.0 p.1) (map (λ b. (a, b)) bs) (cross as' bs)
      ∙ (λ k. any_mapped {B = A × A} (λ b. (a, b)) (λ p. meets p.0 p.1) bs k || any_cross meets as' bs k)
      ∙ sym (met_one meets a as' bs)

  pub pair_both : (meets : Meeting A) (ps qs : List (A × A)) → any_pair meets (ps ++ qs) ≡ (any_pair meets ps || any_pair meets qs)
  pair_both meets ps qs = list_any-append (λ p. meets p.0 p.1) ps qs

module _ {A : Type 0} (keep : A → Bool) where
  pub paired_nothing : Paired A keep (λ meets before. nothing) [] []
  paired_nothing = record { same = λ meets before test. refl; fails = λ meets before only. refl }

  -- one stretch before others
  pub paired_then : (s : Judged A) (rest : Meeting A → List (Stretch A)) (h k : List A) (ps qs : List (A × A)) → Paired A keep s h ps → Paired A keep (λ meets. in_turn (rest meets)) k qs →
      Paired A keep (λ meets. in_turn (s meets ∷ rest meets)) (h ++ k) (ps ++ (qs ++ cross h k))
  unfolding in_turn
  paired_then s rest h k ps qs a b = record {
    same = λ meets before test.
        list_any-append test (s meets before).happens (in_turn (rest meets) (before ++ (s meets before).happens)).happens
        ∙ (λ j. a.same meets before test j || b.same meets (before ++ (s meets before).happens) test j)
        ∙ sym (list_any-append test h k);
    fails = λ meets before only.
        let now = (s meets before).happens in
        has_both (s meets before).faults (in_turn (rest meets) (before ++ now)).faults
        ∙ (λ j. a.fails meets before only j || (b.fails meets (before ++ now) only ∙ ap (λ c. c || any_pair meets qs) (met_both meets before now k ∙ ap (λ c. any_met meets before k || c) (met_same meets now h k (a.same meets before)))) j)
        ∙ sorted (any_met meets before h) (any_pair meets ps) (any_met meets before k) (any_met meets h k) (any_pair meets qs)
        ∙ sym (λ j. met_later meets before h k j || (pair_both meets ps (qs ++ cross h k) ∙ ap (λ c. any_pair meets ps || c) (pair_both meets qs (cross h k) ∙ ap (λ c. any_pair meets qs || c) (any_cross meets h k))) j);
  }
    where
      sorted : (b p c x q : Bool) → ((b || p) || ((c || x) || q)) ≡ ((b || c) || (p || (q || x)))
      sorted true p c x q = refl
      sorted false true true x q = refl
      sorted false true false x q = refl
      sorted false false true x q = refl
      sorted false false false true true = refl
      sorted false false false true false = refl
      sorted false false false false q = sym (or_false q)

  pub paired_end : Paired A keep (λ meets. in_turn []) [] []
  unfolding in_turn
  paired_end = record { same = λ meets before test. refl; fails = λ meets before only. refl }

  -- one of several
  pub paired_either : (s : Judged A) (rest : Meeting A → List (Stretch A)) (h k : List A) (ps qs : List (A × A)) → Paired A keep s h ps → Paired A keep (λ meets. one_of (rest meets)) k qs →
      Paired A keep (λ meets. one_of (s meets ∷ rest meets)) (h ++ k) (ps ++ qs)
  unfolding one_of
  paired_either s rest h k ps qs a b = record {
    same = λ meets before test.
        list_any-append test (s meets before).happens (one_of (rest meets) before).happens
        ∙ (λ j. a.same meets before test j || b.same meets before test j)
        ∙ sym (list_any-append test h k);
    fails = λ meets before only.
        has_both (s meets before).faults (one_of (rest meets) before).faults
        ∙ (λ j. a.fails meets before only j || b.fails meets before only j)
        ∙ sorted (any_met meets before h) (any_pair meets ps) (any_met meets before k) (any_pair meets qs)
        ∙ sym (λ j. met_later meets before h k j || pair_both meets ps qs j);
  }
    where
      sorted : (b p c q : Bool) → ((b || p) || (c || q)) ≡ ((b || c) || (p || q))
      sorted true p c q = refl
      sorted false true true q = refl
      sorted false true false q = refl
      sorted false false c q = refl

  pub paired_none : Paired A keep (λ meets. one_of []) [] []
  unfolding one_of
  paired_none = record { same = λ meets before test. refl; fails = λ meets before only. refl }

  -- the same things and pairs by other lists
  pub paired_as : (s : Judged A) (h k : List A) (ps qs : List (A × A)) → SameThings h k → ((meets : Meeting A) → Only keep meets → any_pair meets ps ≡ any_pair meets qs) → Paired A keep s h ps → Paired A keep s k qs
  paired_as s h k ps qs same pairs a = record {
    same = λ meets before test. a.same meets before test ∙ same test;
    fails = λ meets before only. a.fails meets before only ∙ (λ j. same (λ x. list_any (λ q. meets q x) before) j || pairs meets only j);
  }

  -- the turns of a loop
  module _ (s : Judged A) (h : List A) (ps : List (A × A)) (a : Paired A keep s h ps) where
    later_same : (n : ℕ) (meets : Meeting A) (before : List A) (test : A → Bool) → list_any test (in_turn (times (suc n) (s meets)) before).happens ≡ list_any test h
    unfolding in_turn times
    later_same zero meets before test = list_any-append test (s meets before).happens [] ∙ or_false (list_any test (s meets before).happens) ∙ a.same meets before test
    later_same (suc n) meets before test =
        list_any-append test (s meets before).happens (in_turn (times (suc n) (s meets)) (before ++ (s meets before).happens)).happens
        ∙ (λ j. a.same meets before test j || later_same n meets (before ++ (s meets before).happens) test j)
        ∙ twice (list_any test h)
      where
        twice : (b : Bool) → (b || b) ≡ b
        twice true = refl
        twice false = refl

    once_fails : (meets : Meeting A) (before : List A) → Only keep meets → not (is_empty (in_turn (times (suc zero) (s meets)) before).faults) ≡ (any_met meets before h || any_pair meets ps)
    unfolding in_turn times
    once_fails meets before only = has_both (s meets before).faults [] ∙ or_false (not (is_empty (s meets before).faults)) ∙ a.fails meets before only

    -- whether a turn after another one fails
    abbrev often : Meeting A → List A → Bool
    often meets before = any_met meets before h || (any_pair meets ps || any_met meets h h)

    next_fails : (meets : Meeting A) (before : List A) (only : Only keep meets) (rest : Bool) (later : Bool) →
        later ≡ (any_met meets (before ++ (s meets before).happens) h || (any_pair meets ps || rest)) → (rest ≡ false) ⊎ (rest ≡ any_met meets h h) →
        (not (is_empty (s meets before).faults) || later) ≡ often meets before
    next_fails meets before only rest later is small =
        (λ j. a.fails meets before only j || (is ∙ ap (λ c. c || (any_pair meets ps || rest)) (met_both meets before (s meets before).happens h ∙ ap (λ c. any_met meets before h || c) (met_same meets (s meets before).happens h h (a.same meets before)))) j)
        ∙ elim small [ inl none ↦ ap (λ r. (any_met meets before h || any_pair meets ps) || ((any_met meets before h || any_met meets h h) || (any_pair meets ps || r))) none ∙ sorted (any_met meets before h) (any_pair meets ps) (any_met meets h h) false (or_false (any_met meets h h)) | inr some ↦ ap (λ r. (any_met meets before h || any_pair meets ps) || ((any_met meets before h || any_met meets h h) || (any_pair meets ps || r))) some ∙ sorted (any_met meets before h) (any_pair meets ps) (any_met meets h h) (any_met meets h h) (twice (any_met meets h h)) ]
      where
        twice : (b : Bool) → (b || b) ≡ b
        twice true = refl
        twice false = refl

        sorted : (b p x r : Bool) → (x || r) ≡ x → ((b || p) || ((b || x) || (p || r))) ≡ (b || (p || x))
        sorted true p x r e = refl
        sorted false true x r e = refl
        sorted false false x r e = e

    often_fails : (n : ℕ) (meets : Meeting A) (before : List A) → Only keep meets → not (is_empty (in_turn (times (suc (suc n)) (s meets)) before).faults) ≡ often meets before
    unfolding in_turn times
    often_fails zero meets before only =
        let next = before ++ (s meets before).happens in
        has_both (s meets before).faults (in_turn (times (suc zero) (s meets)) next).faults
        ∙ next_fails meets before only false (not (is_empty (in_turn (times (suc zero) (s meets)) next).faults))
        (once_fails meets next only ∙ ap (λ c. any_met meets next h || c) (sym (or_false (any_pair meets ps)))) (inl refl)
    often_fails (suc n) meets before only =
        let next = before ++ (s meets before).happens in
        has_both (s meets before).faults (in_turn (times (suc (suc n)) (s meets)) next).faults
        ∙ next_fails meets before only (any_met meets h h) (not (is_empty (in_turn (times (suc (suc n)) (s meets)) next).faults)) (often_fails n meets next only) (inr refl)

    pub paired_never : Paired A keep (λ meets. in_turn (times zero (s meets))) [] []
    unfolding in_turn times
    paired_never = record { same = λ meets before test. refl; fails = λ meets before only. refl }

    pub paired_once : Paired A keep (λ meets. in_turn (times (suc zero) (s meets))) h ps
    paired_once = record { same = later_same zero; fails = once_fails }

    pub paired_often : (n : ℕ) → Paired A keep (λ meets. in_turn (times (suc (suc n)) (s meets))) h (ps ++ cross h h)
    paired_often n = record {
      same = later_same (suc n);
      fails = λ meets before only.
          often_fails n meets before only
          ∙ sym (ap (λ c. any_met meets before h || c) (pair_both meets ps (cross h h) ∙ ap (λ c. any_pair meets ps || c) (any_cross meets h h)));
    }
