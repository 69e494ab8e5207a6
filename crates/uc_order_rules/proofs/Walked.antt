-- What a walk finds is what is found along the paths.
use Rattle.std.proofs.Common.{◌≡◌, ℕ, zero, suc, Bool, true, false, List, [], ◌∷◌, ◌++◌, length, take, drop, refl, ap, ◌∙◌, sym, subst, append_assoc}
use Rattle.std.specs.Prelude.{◌||◌}
use Rattle.std.proofs.Math.Seq.{take-append_seam, drop-append_seam}
use Rattle.uc_syntax.proofs.Added.{append_nil}
use Rattle.uc_order_rules.specs.Paths.{Along, Stretch, nothing, in_turn, one_of, times}
use Rattle.uc_order_rules.specs.Walks.{Parted, Walk, joined, parted_after, passed, walk_arms, walk_each, walk_turns}
use Rattle.uc_order_rules.proofs.SameFaults.{Among, SameFaults, among_join, in_left, in_right, none_in, same_both, same_equal, same_then}
use Rattle.uc_order_rules.proofs.Tame.{Tame, AllTame, Within, tame_in_turn, tame_nothing, tame_one_of, tame_times, within_join, within_left, within_right}

same_none : SameFaults [] []
same_none = same_equal [] [] refl

same_where : (b c : Bool) → (b ≡ true → c ≡ true) → (c ≡ true → b ≡ true) → b ≡ c
same_where true c h i = sym (h refl)
same_where false true h i = i refl
same_where false false h i = refl

-- `hits before x`: what happened before makes x a fault
module _ {A : Type 0} (hits : List A → A → Bool) (hits_join : (a b : List A) (x : A) → hits (a ++ b) x ≡ (hits a x || hits b x)) (hits_none : (x : A) → hits [] x ≡ false) where
  abbrev Inside : List A → List A → Type 0
  Inside a b = Within hits hits_join a b

  -- two lists make the same a fault
  abbrev pub Alike : List A → List A → Type 0
  Alike a b = (x : A) → hits a x ≡ hits b x

  pub alike_both : (a b c d : List A) → Alike a c → Alike b d → Alike (a ++ b) (c ++ d)
  alike_both a b c d h i x = hits_join a b x ∙ (λ k. h x k || i x k) ∙ sym (hits_join c d x)

  -- a walk finds what happens and the faults along the paths
  pub record Finds (s : Stretch A) (w : Walk A) : Type 0 where
    pub calm : Tame hits hits_join s
    pub extra : List A
    pub adds : (again : Bool) (seen : List A) → (w again seen).seen ≡ seen ++ extra
    pub same : Alike extra (s []).happens
    pub plain : (before seen : List A) → Alike before seen → SameFaults (s before).faults (w false seen).faults
    pub again : (before seen : List A) → Within hits hits_join (s []).happens before → SameFaults (s before).faults (w true seen).faults

  pub finds_nothing : Finds (λ before. nothing) (λ again seen. passed seen [])
  finds_nothing = record {
    calm = tame_nothing hits hits_join;
    extra = [];
    adds = λ again seen. sym (append_nil seen);
    same = λ x. refl;
    plain = λ before seen same. same_none;
    again = λ before seen inside. same_none;
  }

  same_at : (s : Stretch A) (w : Walk A) (f : Finds s w) (a : List A) → Alike f.extra (s a).happens
  same_at s w f a x = f.same x ∙ ap (λ h. hits h x) (f.calm.fixed [] a)

  -- the same of a stretch that happens the same, with the same faults
  pub finds_as : (s z : Stretch A) (w : Walk A) → Finds s w → Tame hits hits_join z → ((a : List A) → (s a).happens ≡ (z a).happens) → ((a : List A) → SameFaults (z a).faults (s a).faults) → Finds z w
  finds_as s z w f calm happens faults = record {
    calm = calm;
    extra = f.extra;
    adds = f.adds;
    same = λ x. f.same x ∙ ap (λ h. hits h x) (happens []);
    plain = λ before seen alike. same_then _ _ _ (faults before) (f.plain before seen alike);
    again = λ before seen inside. same_then _ _ _ (faults before) (f.again before seen (λ x h. inside x (ap (λ k. hits k x) (sym (happens [])) ∙ h)));
  }

  abbrev pub AllFind : List (Stretch A) → List (Walk A) → Type 0
  AllFind [] [] = Unit {0}
  AllFind (s ∷ ss) (w ∷ ws) = Finds s w × AllFind ss ws
  AllFind [] (w ∷ ws) = ⊥
  AllFind (s ∷ ss) [] = ⊥

  pub find_append : (ss ts : List (Stretch A)) (ws vs : List (Walk A)) → AllFind ss ws → AllFind ts vs → AllFind (ss ++ ts) (ws ++ vs)
  find_append [] ts [] vs all more = more
  find_append (s ∷ ss) ts (w ∷ ws) vs all more = (all.0, find_append ss ts ws vs all.1 more)
  find_append [] ts (w ∷ ws) vs all more = absurd all
  find_append (s ∷ ss) ts [] vs all more = absurd all

  all_calm : (ss : List (Stretch A)) (ws : List (Walk A)) → AllFind ss ws → AllTame hits hits_join ss
  all_calm [] [] all = tt
  all_calm (s ∷ ss) (w ∷ ws) all = (all.0.calm, all_calm ss ws all.1)
  all_calm [] (w ∷ ws) all = absurd all
  all_calm (s ∷ ss) [] all = absurd all

  -- what walks add, one after another
  extras : (ss : List (Stretch A)) (ws : List (Walk A)) → AllFind ss ws → List A
  extras [] [] all = []
  extras (s ∷ ss) (w ∷ ws) all = all.0.extra ++ extras ss ws all.1
  extras [] (w ∷ ws) all = []
  extras (s ∷ ss) [] all = []

  -- One after another.

  each_adds : (ss : List (Stretch A)) (ws : List (Walk A)) (all : AllFind ss ws) (again : Bool) (seen : List A) → (walk_each ws again seen).seen ≡ seen ++ extras ss ws all
  unfolding walk_each extras
  each_adds [] [] all again seen = sym (append_nil seen)
  each_adds (s ∷ ss) (w ∷ ws) all again seen =
      each_adds ss ws all.1 again (w again seen).seen ∙ ap (λ x. x ++ extras ss ws all.1) (all.0.adds again seen) ∙ append_assoc seen all.0.extra (extras ss ws all.1)
  each_adds [] (w ∷ ws) all again seen = absurd all
  each_adds (s ∷ ss) [] all again seen = absurd all

  each_same : (ss : List (Stretch A)) (ws : List (Walk A)) (all : AllFind ss ws) (a : List A) → Alike (extras ss ws all) (in_turn ss a).happens
  unfolding in_turn extras
  each_same [] [] all a = λ x. refl
  each_same (s ∷ ss) (w ∷ ws) all a =
      alike_both all.0.extra (extras ss ws all.1) (s a).happens (in_turn ss (a ++ (s a).happens)).happens (same_at s w all.0 a) (each_same ss ws all.1 (a ++ (s a).happens))
  each_same [] (w ∷ ws) all a = absurd all
  each_same (s ∷ ss) [] all a = absurd all

  later_alike : (s : Stretch A) (w : Walk A) (f : Finds s w) (before seen : List A) (again : Bool) → Alike before seen → Alike (before ++ (s before).happens) (w again seen).seen
  later_alike s w f before seen again alike x =
      alike_both before (s before).happens seen f.extra alike (λ y. sym (same_at s w f before y)) x ∙ ap (λ l. hits l x) (sym (f.adds again seen))

  each_plain : (ss : List (Stretch A)) (ws : List (Walk A)) → AllFind ss ws → (before seen : List A) → Alike before seen → SameFaults (in_turn ss before).faults (walk_each ws false seen).faults
  unfolding walk_each in_turn
  each_plain [] [] all before seen alike = same_none
  each_plain (s ∷ ss) (w ∷ ws) all before seen alike =
      same_both (s before).faults (in_turn ss (before ++ (s before).happens)).faults (w false seen).faults (walk_each ws false (w false seen).seen).faults
      (all.0.plain before seen alike)
      (each_plain ss ws all.1 (before ++ (s before).happens) (w false seen).seen (later_alike s w all.0 before seen false alike))
  each_plain [] (w ∷ ws) all before seen alike = absurd all
  each_plain (s ∷ ss) [] all before seen alike = absurd all

  each_again : (ss : List (Stretch A)) (ws : List (Walk A)) → AllFind ss ws → (a before seen : List A) → Inside (in_turn ss a).happens before → SameFaults (in_turn ss before).faults (walk_each ws true seen).faults
  unfolding walk_each in_turn
  each_again [] [] all a before seen inside = same_none
  each_again (s ∷ ss) (w ∷ ws) all a before seen inside =
      let rest = (in_turn ss (a ++ (s a).happens)).happens in
      same_both (s before).faults (in_turn ss (before ++ (s before).happens)).faults (w true seen).faults (walk_each ws true (w true seen).seen).faults
      (all.0.again before seen (λ x h. inside x (within_left hits hits_join (s a).happens rest x (ap (λ xs. hits xs x) (all.0.calm.fixed a []) ∙ h))))
      (each_again ss ws all.1 (a ++ (s a).happens) (before ++ (s before).happens) (w true seen).seen
      (λ x h. within_left hits hits_join before (s before).happens x (inside x (within_right hits hits_join (s a).happens rest x h))))
  each_again [] (w ∷ ws) all a before seen inside = absurd all
  each_again (s ∷ ss) [] all a before seen inside = absurd all

  pub each_finds : (ss : List (Stretch A)) (ws : List (Walk A)) → AllFind ss ws → Finds (in_turn ss) (walk_each ws)
  each_finds ss ws all = record {
    calm = tame_in_turn hits hits_join ss (all_calm ss ws all);
    extra = extras ss ws all;
    adds = each_adds ss ws all;
    same = each_same ss ws all [];
    plain = each_plain ss ws all;
    again = λ before seen inside. each_again ss ws all [] before seen inside;
  }

  -- One of several.

  arms_step : (s : Stretch A) (w : Walk A) (f : Finds s w) (ws : List (Walk A)) (again : Bool) (seen aside : List A) →
      walk_arms (w ∷ ws) again seen aside ≡ parted_after (w again seen).faults (walk_arms ws again seen (aside ++ f.extra))
  unfolding walk_arms
  arms_step s w f ws again seen aside =
      (λ k. parted_after (w again seen).faults
      (walk_arms ws again ((ap (take (length seen)) (f.adds again seen) ∙ take-append_seam seen f.extra) k) (aside ++ (ap (drop (length seen)) (f.adds again seen) ∙ drop-append_seam seen f.extra) k)))

  module _ (again : Bool) (seen : List A) where
    arms_seen : (ss : List (Stretch A)) (ws : List (Walk A)) → AllFind ss ws → (aside : List A) → (walk_arms ws again seen aside).seen ≡ seen
    unfolding walk_arms
    arms_seen [] [] all aside = refl
    arms_seen (s ∷ ss) (w ∷ ws) all aside =
        ap (λ (p : Parted A). p.seen) (arms_step s w all.0 ws again seen aside) ∙ arms_seen ss ws all.1 (aside ++ all.0.extra)
    arms_seen [] (w ∷ ws) all aside = absurd all
    arms_seen (s ∷ ss) [] all aside = absurd all

    arms_aside : (ss : List (Stretch A)) (ws : List (Walk A)) (all : AllFind ss ws) (aside : List A) → (walk_arms ws again seen aside).aside ≡ aside ++ extras ss ws all
    unfolding walk_arms extras
    arms_aside [] [] all aside = sym (append_nil aside)
    arms_aside (s ∷ ss) (w ∷ ws) all aside =
        ap (λ (p : Parted A). p.aside) (arms_step s w all.0 ws again seen aside) ∙ arms_aside ss ws all.1 (aside ++ all.0.extra)
        ∙ append_assoc aside all.0.extra (extras ss ws all.1)
    arms_aside [] (w ∷ ws) all aside = absurd all
    arms_aside (s ∷ ss) [] all aside = absurd all

  arms_same : (ss : List (Stretch A)) (ws : List (Walk A)) (all : AllFind ss ws) (a : List A) → Alike (extras ss ws all) (one_of ss a).happens
  unfolding one_of extras
  arms_same [] [] all a = λ x. refl
  arms_same (s ∷ ss) (w ∷ ws) all a = alike_both all.0.extra (extras ss ws all.1) (s a).happens (one_of ss a).happens (same_at s w all.0 a) (arms_same ss ws all.1 a)
  arms_same [] (w ∷ ws) all a = absurd all
  arms_same (s ∷ ss) [] all a = absurd all

  arms_plain : (ss : List (Stretch A)) (ws : List (Walk A)) → AllFind ss ws → (before seen aside : List A) → Alike before seen → SameFaults (one_of ss before).faults (walk_arms ws false seen aside).faults
  unfolding walk_arms one_of
  arms_plain [] [] all before seen aside alike = same_none
  arms_plain (s ∷ ss) (w ∷ ws) all before seen aside alike =
      subst (λ (p : Parted A). SameFaults ((s before).faults ++ (one_of ss before).faults) p.faults) (sym (arms_step s w all.0 ws false seen aside))
      (same_both (s before).faults (one_of ss before).faults (w false seen).faults (walk_arms ws false seen (aside ++ all.0.extra)).faults
      (all.0.plain before seen alike) (arms_plain ss ws all.1 before seen (aside ++ all.0.extra) alike))
  arms_plain [] (w ∷ ws) all before seen aside alike = absurd all
  arms_plain (s ∷ ss) [] all before seen aside alike = absurd all

  arms_again : (ss : List (Stretch A)) (ws : List (Walk A)) → AllFind ss ws → (a before seen aside : List A) → Inside (one_of ss a).happens before → SameFaults (one_of ss before).faults (walk_arms ws true seen aside).faults
  unfolding walk_arms one_of
  arms_again [] [] all a before seen aside inside = same_none
  arms_again (s ∷ ss) (w ∷ ws) all a before seen aside inside =
      let rest = (one_of ss a).happens in
      subst (λ (p : Parted A). SameFaults ((s before).faults ++ (one_of ss before).faults) p.faults) (sym (arms_step s w all.0 ws true seen aside))
      (same_both (s before).faults (one_of ss before).faults (w true seen).faults (walk_arms ws true seen (aside ++ all.0.extra)).faults
      (all.0.again before seen (λ x h. inside x (within_left hits hits_join (s a).happens rest x (ap (λ xs. hits xs x) (all.0.calm.fixed a []) ∙ h))))
      (arms_again ss ws all.1 a before seen (aside ++ all.0.extra) (λ x h. inside x (within_right hits hits_join (s a).happens rest x h))))
  arms_again [] (w ∷ ws) all a before seen aside inside = absurd all
  arms_again (s ∷ ss) [] all a before seen aside inside = absurd all

  pub choice_finds : (ss : List (Stretch A)) (ws : List (Walk A)) → AllFind ss ws → Finds (one_of ss) (λ again seen. joined (walk_arms ws again seen []))
  choice_finds ss ws all = record {
    calm = tame_one_of hits hits_join ss (all_calm ss ws all);
    extra = extras ss ws all;
    adds = λ again seen. (λ k. arms_seen again seen ss ws all [] k ++ arms_aside again seen ss ws all [] k);
    same = arms_same ss ws all [];
    plain = λ before seen alike. arms_plain ss ws all before seen [] alike;
    again = λ before seen inside. arms_again ss ws all [] before seen [] inside;
  }

  -- The turns of a loop.

  module _ (s : Stretch A) (w : Walk A) (f : Finds s w) where
    -- what happens in a turn
    abbrev turn : List A
    turn = (s []).happens

    turn_at : (a : List A) → Inside (s a).happens turn
    turn_at a x h = ap (λ xs. hits xs x) (f.calm.fixed [] a) ∙ h

    turn_of : (a : List A) → Inside turn (s a).happens
    turn_of a x h = ap (λ xs. hits xs x) (f.calm.fixed a []) ∙ h

    no_hit : (x : A) → hits [] x ≡ true → ⊥
    no_hit x h = let bad : false ≡ true = sym (hits_none x) ∙ h in absurd cc

    turns_within : (n : ℕ) (a : List A) → Inside (in_turn (times n s) a).happens turn
    unfolding times in_turn
    turns_within zero a = λ x h. absurd (no_hit x h)
    turns_within (suc n) a =
        within_join hits hits_join (s a).happens (in_turn (times n s) (a ++ (s a).happens)).happens turn (turn_at a) (turns_within n (a ++ (s a).happens))

    -- all faults of turns after a first one are those of the walk that knows of it
    later_faults : (n : ℕ) (a seen : List A) → Inside turn a → Among (in_turn (times n s) a).faults (w true seen).faults
    unfolding times in_turn
    later_faults zero a seen inside = λ g h. absurd (none_in g h)
    later_faults (suc n) a seen inside =
        among_join (s a).faults (in_turn (times n s) (a ++ (s a).happens)).faults (w true seen).faults ((f.again a seen inside).0)
        (later_faults n (a ++ (s a).happens) seen (λ x h. within_left hits hits_join a (s a).happens x (inside x h)))

    after_one : (a : List A) → Inside turn (a ++ (s a).happens)
    after_one a x h = within_right hits hits_join a (s a).happens x (turn_of a x h)

    often_plain : (n : ℕ) (before seen : List A) → SameFaults (in_turn (times (suc (suc n)) s) before).faults (w true seen).faults
    unfolding times in_turn
    often_plain n before seen =
        let next = before ++ (s before).happens in
        let rest = (in_turn (times n s) (next ++ (s next).happens)).faults in (
          among_join (s before).faults ((s next).faults ++ rest) (w true seen).faults
              (λ g h. (f.again next seen (after_one before)).0 g (f.calm.grows before next (within_left hits hits_join before (s before).happens) g h))
              (later_faults (suc n) next seen (after_one before)),
          λ g h. in_right g (s before).faults ((s next).faults ++ rest) (in_left g (s next).faults rest ((f.again next seen (after_one before)).1 g h)),
        )

    often_alike : (n : ℕ) → Alike turn (in_turn (times (suc (suc n)) s) []).happens
    unfolding times in_turn
    often_alike n x =
        same_where (hits turn x) (hits (in_turn (times (suc (suc n)) s) []).happens x)
        (within_left hits hits_join turn (in_turn (times (suc n) s) ([] ++ turn)).happens x) (turns_within (suc (suc n)) [] x)

    once_happens : (a : List A) → (in_turn (times (suc zero) s) a).happens ≡ (s a).happens
    unfolding times in_turn
    once_happens a = append_nil (s a).happens

    once_faults : (a : List A) → (in_turn (times (suc zero) s) a).faults ≡ (s a).faults
    unfolding times in_turn
    once_faults a = append_nil (s a).faults

    never_is : (a : List A) → in_turn (times zero s) a ≡ nothing
    unfolding times in_turn
    never_is a = refl

    turns_calm : (n : ℕ) → Tame hits hits_join (in_turn (times n s))
    turns_calm n = tame_in_turn hits hits_join (times n s) (tame_times hits hits_join s f.calm n)

    pub turns_find : (n : ℕ) → Finds (in_turn (times n s)) (walk_turns n w)
    turns_find zero = record {
      calm = turns_calm zero;
      extra = [];
      adds = λ again seen. sym (append_nil seen);
      same = λ x. ap (λ (p : Along A). hits p.happens x) (sym (never_is []));
      plain = λ before seen alike. same_equal _ _ (ap (λ (p : Along A). p.faults) (never_is before));
      again = λ before seen inside. same_equal _ _ (ap (λ (p : Along A). p.faults) (never_is before));
    }
    turns_find (suc zero) = record {
      calm = turns_calm (suc zero);
      extra = f.extra;
      adds = f.adds;
      same = λ x. f.same x ∙ ap (λ h. hits h x) (sym (once_happens []));
      plain = λ before seen alike. same_then _ (s before).faults _ (same_equal _ _ (once_faults before)) (f.plain before seen alike);
      again = λ before seen inside.
          same_then _ (s before).faults _ (same_equal _ _ (once_faults before)) (f.again before seen (λ x h. inside x (ap (λ xs. hits xs x) (once_happens []) ∙ h)));
    }
    turns_find (suc (suc n)) = record {
      calm = turns_calm (suc (suc n));
      extra = f.extra;
      adds = λ again seen. f.adds true seen;
      same = λ x. f.same x ∙ often_alike n x;
      plain = λ before seen alike. often_plain n before seen;
      again = λ before seen inside. often_plain n before seen;
    }
