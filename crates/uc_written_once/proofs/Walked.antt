-- What the walk finds is what is found along the paths.
use Rattle.std.proofs.Common.{◌≡◌, ℕ, zero, suc, Bool, true, false, List, [], ◌∷◌, ◌++◌, length, take, drop, refl, ap, ◌∙◌, sym, subst, arith, append_assoc}
use Rattle.std.specs.Prelude.{◌||◌, nat_eq, if◌then◌else◌}
use Rattle.std.specs.List.{list_any}
use Rattle.std.proofs.Math.Seq.{take-append_seam, drop-append_seam}
use Rattle.std.proofs.lemmas.List.Folds.{list_any-append}
use Rattle.uc_lexer.specs.declared.place.Place.{Place}
use Rattle.uc_syntax.proofs.Added.{append_nil}
use Rattle.uc_rules.specs.declared.rule.Rule.TheVariants.{SteppedTwice}
use Rattle.uc_rules.specs.Faults.{breaks_where}
use Rattle.uc_rules.specs.Names.{names_one_of}
use Rattle.uc_type_names.specs.NameSets.{with_name}
use Rattle.uc_order_rules.specs.Paths.{Along, Stretch, nothing, in_turn, one_of, times}
use Rattle.uc_written_once.specs.SteppedOnceWalks.{Parted, Walk, joined, parted_after, passed, walk_arms, walk_each, walk_turns, with_names}
use Rattle.uc_order_rules.proofs.SameFaults.{Among, SameFaults, among_join, breaks_grow, in_left, in_right, none_in, same_both, same_equal, same_then}
use Rattle.uc_order_rules.proofs.Tame.{Tame, AllTame, Within, tame_in_turn, tame_nothing, tame_one_of, tame_times, within_join, within_left, within_right}

abbrev has : List ℕ → ℕ → Bool
has = names_one_of

pub names_join : (a b : List ℕ) (x : ℕ) → names_one_of (a ++ b) x ≡ (names_one_of a x || names_one_of b x)
names_join a b x = list_any-append (nat_eq x) a b

abbrev pub Calm : Stretch ℕ → Type 0
Calm s = Tame names_one_of names_join s

abbrev Inside : List ℕ → List ℕ → Type 0
Inside a b = Within names_one_of names_join a b

abbrev SameNames : List ℕ → List ℕ → Type 0
SameNames a b = (x : ℕ) → has a x ≡ has b x

-- to some names others are added at the end, which are those of a list where they are new
pub record Adds (seen later more : List ℕ) : Type 0 where
  pub extra : List ℕ
  pub is : later ≡ seen ++ extra
  pub names : (x : ℕ) → (has seen x || has extra x) ≡ (has seen x || has more x)

adds_none : (seen : List ℕ) → Adds seen seen []
adds_none seen = record { extra = []; is = sym (append_nil seen); names = λ x. refl }

or_assoc : (a b c : Bool) → (a || (b || c)) ≡ ((a || b) || c)
or_assoc true b c = refl
or_assoc false b c = refl

adds_then : (seen mid later h k : List ℕ) → Adds seen mid h → Adds mid later k → Adds seen later (h ++ k)
adds_then seen mid later h k a b = record {
  extra = a.extra ++ b.extra;
  is = b.is ∙ ap (λ xs. xs ++ b.extra) a.is ∙ append_assoc seen a.extra b.extra;
  names = λ x.
      let mid-is : has mid x ≡ (has seen x || has a.extra x) = ap (λ xs. has xs x) a.is ∙ names_join seen a.extra x in
      ap (λ c. has seen x || c) (names_join a.extra b.extra x) ∙ or_assoc (has seen x) (has a.extra x) (has b.extra x)
      ∙ sym (ap (λ c. c || has b.extra x) mid-is) ∙ b.names x ∙ ap (λ c. c || has k x) (mid-is ∙ a.names x)
      ∙ sym (or_assoc (has seen x) (has h x) (has k x)) ∙ sym (ap (λ c. has seen x || c) (names_join h k x));
}

absorbed : (b c : Bool) → (c ≡ true → b ≡ true) → (b || false) ≡ (b || c)
absorbed true c h = refl
absorbed false true h = h refl
absorbed false false h = refl

only_name : (x y : ℕ) (e : List ℕ) → has e y ≡ true → has (y ∷ []) x ≡ true → has e x ≡ true
only_name x y e there h = let is : x ≡ y = grind (arith, h) in ap (has e) is ∙ there

adds_where : (seen : List ℕ) (x : ℕ) (b : Bool) → has seen x ≡ b → Adds seen (if b then seen else seen ++ x ∷ []) (x ∷ [])
adds_where seen x true there = record { extra = []; is = sym (append_nil seen); names = λ y. absorbed (has seen y) (has (x ∷ []) y) (only_name y x seen there) }
adds_where seen x false away = record { extra = x ∷ []; is = refl; names = λ y. refl }

adds_one : (seen : List ℕ) (x : ℕ) → Adds seen (with_name seen x) (x ∷ [])
adds_one seen x = adds_where seen x (has seen x) refl

adds_all : (seen xs : List ℕ) → Adds seen (with_names seen xs) xs
unfolding with_names
adds_all seen [] = adds_none seen
adds_all seen (x ∷ xs) = adds_then seen (with_name seen x) (with_names (with_name seen x) xs) (x ∷ []) xs (adds_one seen x) (adds_all (with_name seen x) xs)

adds_same : (seen later h k : List ℕ) → Adds seen later h → ((x : ℕ) → (has seen x || has h x) ≡ (has seen x || has k x)) → Adds seen later k
adds_same seen later h k a e = record { extra = a.extra; is = a.is; names = λ x. a.names x ∙ e x }

same_later : (before seen later h : List ℕ) → SameNames before seen → Adds seen later h → SameNames (before ++ h) later
same_later before seen later h same a x =
    names_join before h x ∙ ap (λ c. c || has h x) (same x) ∙ sym (a.names x) ∙ sym (names_join seen a.extra x) ∙ sym (ap (λ xs. has xs x) a.is)

-- a walk finds what happens and the faults along the paths
pub record Finds (s : Stretch ℕ) (w : Walk) : Type 0 where
  pub calm : Calm s
  pub adds : (again : Bool) (seen : List ℕ) → Adds seen (w again seen).seen (s []).happens
  pub plain : (before seen : List ℕ) → SameNames before seen → SameFaults (s before).faults (w false seen).faults
  pub again : (before seen : List ℕ) → Inside (s []).happens before → SameFaults (s before).faults (w true seen).faults

same_none : SameFaults [] []
same_none = same_equal [] [] refl

pub finds_nothing : Finds (λ before. nothing) (λ again seen. passed seen [])
finds_nothing = record {
  calm = tame_nothing names_one_of names_join;
  adds = λ again seen. adds_none seen;
  plain = λ before seen same. same_none;
  again = λ before seen inside. same_none;
}

own_name : (x : ℕ) → has (x ∷ []) x ≡ true
own_name x = grind arith

pub finds_step : (place : Place) (x : ℕ) → Finds (λ before. record { happens = x ∷ []; faults = breaks_where (list_any (nat_eq x) before) SteppedTwice place })
    (λ again seen. passed (with_name seen x) (breaks_where (again || names_one_of seen x) SteppedTwice place))
finds_step place x = record {
  calm = record { fixed = λ a b. refl; grows = λ a b w. breaks_grow (has a x) (has b x) SteppedTwice place (w x) };
  adds = λ again seen. adds_one seen x;
  plain = λ before seen same. same_equal _ _ (ap (λ b. breaks_where b SteppedTwice place) (same x));
  again = λ before seen inside. same_equal _ _ (ap (λ b. breaks_where b SteppedTwice place) (inside x (own_name x)));
}

abbrev pub AllFind : List (Stretch ℕ) → List Walk → Type 0
AllFind [] [] = Unit {0}
AllFind (s ∷ ss) (w ∷ ws) = Finds s w × AllFind ss ws
AllFind [] (w ∷ ws) = ⊥
AllFind (s ∷ ss) [] = ⊥

pub find_append : (ss ts : List (Stretch ℕ)) (ws vs : List Walk) → AllFind ss ws → AllFind ts vs → AllFind (ss ++ ts) (ws ++ vs)
find_append [] ts [] vs all more = more
find_append (s ∷ ss) ts (w ∷ ws) vs all more = (all.0, find_append ss ts ws vs all.1 more)
find_append [] ts (w ∷ ws) vs all more = absurd all
find_append (s ∷ ss) ts [] vs all more = absurd all

all_calm : (ss : List (Stretch ℕ)) (ws : List Walk) → AllFind ss ws → AllTame names_one_of names_join ss
all_calm [] [] all = tt
all_calm (s ∷ ss) (w ∷ ws) all = (all.0.calm, all_calm ss ws all.1)
all_calm [] (w ∷ ws) all = absurd all
all_calm (s ∷ ss) [] all = absurd all

adds_at : (s : Stretch ℕ) (w : Walk) → Finds s w → (again : Bool) (seen a : List ℕ) → Adds seen (w again seen).seen (s a).happens
adds_at s w f again seen a = subst (Adds seen (w again seen).seen) (f.calm.fixed [] a) (f.adds again seen)

-- One after another.

each_adds : (ss : List (Stretch ℕ)) (ws : List Walk) → AllFind ss ws → (again : Bool) (seen a : List ℕ) → Adds seen (walk_each ws again seen).seen (in_turn ss a).happens
unfolding walk_each in_turn
each_adds [] [] all again seen a = adds_none seen
each_adds (s ∷ ss) (w ∷ ws) all again seen a =
    adds_then seen (w again seen).seen (walk_each ws again (w again seen).seen).seen (s a).happens (in_turn ss (a ++ (s a).happens)).happens
    (adds_at s w all.0 again seen a) (each_adds ss ws all.1 again (w again seen).seen (a ++ (s a).happens))
each_adds [] (w ∷ ws) all again seen a = absurd all
each_adds (s ∷ ss) [] all again seen a = absurd all

each_plain : (ss : List (Stretch ℕ)) (ws : List Walk) → AllFind ss ws → (before seen : List ℕ) → SameNames before seen → SameFaults (in_turn ss before).faults (walk_each ws false seen).faults
unfolding walk_each in_turn
each_plain [] [] all before seen same = same_none
each_plain (s ∷ ss) (w ∷ ws) all before seen same =
    same_both (s before).faults (in_turn ss (before ++ (s before).happens)).faults (w false seen).faults (walk_each ws false (w false seen).seen).faults
    (all.0.plain before seen same)
    (each_plain ss ws all.1 (before ++ (s before).happens) (w false seen).seen (same_later before seen (w false seen).seen (s before).happens same (adds_at s w all.0 false seen before)))
each_plain [] (w ∷ ws) all before seen same = absurd all
each_plain (s ∷ ss) [] all before seen same = absurd all

each_again : (ss : List (Stretch ℕ)) (ws : List Walk) → AllFind ss ws → (a before seen : List ℕ) → Inside (in_turn ss a).happens before → SameFaults (in_turn ss before).faults (walk_each ws true seen).faults
unfolding walk_each in_turn
each_again [] [] all a before seen inside = same_none
each_again (s ∷ ss) (w ∷ ws) all a before seen inside =
    let rest = (in_turn ss (a ++ (s a).happens)).happens in
    same_both (s before).faults (in_turn ss (before ++ (s before).happens)).faults (w true seen).faults (walk_each ws true (w true seen).seen).faults
    (all.0.again before seen (λ x h. inside x (within_left names_one_of names_join (s a).happens rest x (ap (λ xs. has xs x) (all.0.calm.fixed a []) ∙ h))))
    (each_again ss ws all.1 (a ++ (s a).happens) (before ++ (s before).happens) (w true seen).seen
    (λ x h. within_left names_one_of names_join before (s before).happens x (inside x (within_right names_one_of names_join (s a).happens rest x h))))
each_again [] (w ∷ ws) all a before seen inside = absurd all
each_again (s ∷ ss) [] all a before seen inside = absurd all

pub each_finds : (ss : List (Stretch ℕ)) (ws : List Walk) → AllFind ss ws → Finds (in_turn ss) (walk_each ws)
each_finds ss ws all = record {
  calm = tame_in_turn names_one_of names_join ss (all_calm ss ws all);
  adds = λ again seen. each_adds ss ws all again seen [];
  plain = each_plain ss ws all;
  again = λ before seen inside. each_again ss ws all [] before seen inside;
}

-- One of several.

arms_step : (w : Walk) (ws : List Walk) (again : Bool) (seen aside h : List ℕ) (a : Adds seen (w again seen).seen h) →
    walk_arms (w ∷ ws) again seen aside ≡ parted_after (w again seen).faults (walk_arms ws again seen (aside ++ a.extra))
unfolding walk_arms
arms_step w ws again seen aside h a =
    (λ k. parted_after (w again seen).faults
    (walk_arms ws again ((ap (take (length seen)) a.is ∙ take-append_seam seen a.extra) k) (aside ++ (ap (drop (length seen)) a.is ∙ drop-append_seam seen a.extra) k)))

-- what is put aside is what happens in some arm
record Aside (seen aside later more : List ℕ) : Type 0 where
  extra : List ℕ
  is : later ≡ aside ++ extra
  names : (x : ℕ) → (has seen x || has extra x) ≡ (has seen x || has more x)

module _ (again : Bool) (seen a : List ℕ) where
  arms_seen : (ss : List (Stretch ℕ)) (ws : List Walk) → AllFind ss ws → (aside : List ℕ) → (walk_arms ws again seen aside).seen ≡ seen
  unfolding walk_arms
  arms_seen [] [] all aside = refl
  arms_seen (s ∷ ss) (w ∷ ws) all aside =
      let one = adds_at s w all.0 again seen a in
      ap (λ (p : Parted). p.seen) (arms_step w ws again seen aside (s a).happens one) ∙ arms_seen ss ws all.1 (aside ++ one.extra)
  arms_seen [] (w ∷ ws) all aside = absurd all
  arms_seen (s ∷ ss) [] all aside = absurd all

  arms_aside : (ss : List (Stretch ℕ)) (ws : List Walk) → AllFind ss ws → (aside : List ℕ) → Aside seen aside (walk_arms ws again seen aside).aside (one_of ss a).happens
  unfolding walk_arms one_of
  arms_aside [] [] all aside = record { extra = []; is = sym (append_nil aside); names = λ x. refl }
  arms_aside (s ∷ ss) (w ∷ ws) all aside =
      let one = adds_at s w all.0 again seen a in
      let rest = arms_aside ss ws all.1 (aside ++ one.extra) in
      record {
        extra = one.extra ++ rest.extra;
        is = ap (λ (p : Parted). p.aside) (arms_step w ws again seen aside (s a).happens one) ∙ rest.is ∙ append_assoc aside one.extra rest.extra;
        names = λ x.
            ap (λ c. has seen x || c) (names_join one.extra rest.extra x)
            ∙ either_way (has seen x) (has one.extra x) (has rest.extra x) (has (s a).happens x) (has (one_of ss a).happens x) (one.names x) (rest.names x)
            ∙ sym (ap (λ c. has seen x || c) (names_join (s a).happens (one_of ss a).happens x));
      }
    where
      either_way : (b c d e f : Bool) → (b || c) ≡ (b || e) → (b || d) ≡ (b || f) → (b || (c || d)) ≡ (b || (e || f))
      either_way true c d e f h i = refl
      either_way false c d e f h i = (λ k. h k || i k)
  arms_aside [] (w ∷ ws) all aside = absurd all
  arms_aside (s ∷ ss) [] all aside = absurd all

arms_plain : (ss : List (Stretch ℕ)) (ws : List Walk) → AllFind ss ws → (before seen aside : List ℕ) → SameNames before seen → SameFaults (one_of ss before).faults (walk_arms ws false seen aside).faults
unfolding walk_arms one_of
arms_plain [] [] all before seen aside same = same_none
arms_plain (s ∷ ss) (w ∷ ws) all before seen aside same =
    let one = adds_at s w all.0 false seen before in
    subst (λ (p : Parted). SameFaults ((s before).faults ++ (one_of ss before).faults) p.faults) (sym (arms_step w ws false seen aside (s before).happens one))
    (same_both (s before).faults (one_of ss before).faults (w false seen).faults (walk_arms ws false seen (aside ++ one.extra)).faults
    (all.0.plain before seen same) (arms_plain ss ws all.1 before seen (aside ++ one.extra) same))
arms_plain [] (w ∷ ws) all before seen aside same = absurd all
arms_plain (s ∷ ss) [] all before seen aside same = absurd all

arms_again : (ss : List (Stretch ℕ)) (ws : List Walk) → AllFind ss ws → (a before seen aside : List ℕ) → Inside (one_of ss a).happens before → SameFaults (one_of ss before).faults (walk_arms ws true seen aside).faults
unfolding walk_arms one_of
arms_again [] [] all a before seen aside inside = same_none
arms_again (s ∷ ss) (w ∷ ws) all a before seen aside inside =
    let one = adds_at s w all.0 true seen before in
    let rest = (one_of ss a).happens in
    subst (λ (p : Parted). SameFaults ((s before).faults ++ (one_of ss before).faults) p.faults) (sym (arms_step w ws true seen aside (s before).happens one))
    (same_both (s before).faults (one_of ss before).faults (w true seen).faults (walk_arms ws true seen (aside ++ one.extra)).faults
    (all.0.again before seen (λ x h. inside x (within_left names_one_of names_join (s a).happens rest x (ap (λ xs. has xs x) (all.0.calm.fixed a []) ∙ h))))
    (arms_again ss ws all.1 a before seen (aside ++ one.extra) (λ x h. inside x (within_right names_one_of names_join (s a).happens rest x h))))
arms_again [] (w ∷ ws) all a before seen aside inside = absurd all
arms_again (s ∷ ss) [] all a before seen aside inside = absurd all

choice_adds : (ss : List (Stretch ℕ)) (ws : List Walk) → AllFind ss ws → (again : Bool) (seen : List ℕ) → Adds seen (joined (walk_arms ws again seen [])).seen (one_of ss []).happens
choice_adds ss ws all again seen =
    let put = arms_aside again seen [] ss ws all [] in
    subst (λ later. Adds seen later (one_of ss []).happens) (λ k. with_names (sym (arms_seen again seen [] ss ws all []) k) (sym put.is k))
    (adds_same seen (with_names seen put.extra) put.extra (one_of ss []).happens (adds_all seen put.extra) put.names)

pub choice_finds : (ss : List (Stretch ℕ)) (ws : List Walk) → AllFind ss ws → Finds (one_of ss) (λ again seen. joined (walk_arms ws again seen []))
choice_finds ss ws all = record {
  calm = tame_one_of names_one_of names_join ss (all_calm ss ws all);
  adds = choice_adds ss ws all;
  plain = λ before seen same. arms_plain ss ws all before seen [] same;
  again = λ before seen inside. arms_again ss ws all [] before seen [] inside;
}

-- The turns of a loop.

module _ (s : Stretch ℕ) (w : Walk) (f : Finds s w) where
  -- the names of a turn
  abbrev names : List ℕ
  names = (s []).happens

  names_at : (a : List ℕ) → Inside (s a).happens names
  names_at a x h = ap (λ xs. has xs x) (f.calm.fixed [] a) ∙ h

  names_of : (a : List ℕ) → Inside names (s a).happens
  names_of a x h = ap (λ xs. has xs x) (f.calm.fixed a []) ∙ h

  no_names : (x : ℕ) → has [] x ≡ true → ⊥
  no_names x h = let bad : false ≡ true = h in absurd cc

  turn_names : (n : ℕ) (a : List ℕ) → Inside (in_turn (times n s) a).happens names
  unfolding times in_turn
  turn_names zero a = λ x h. absurd (no_names x h)
  turn_names (suc n) a =
      within_join names_one_of names_join (s a).happens (in_turn (times n s) (a ++ (s a).happens)).happens names (names_at a) (turn_names n (a ++ (s a).happens))

  -- all faults of turns after a first one are those of the walk that knows of it
  later_faults : (n : ℕ) (a seen : List ℕ) → Inside names a → Among (in_turn (times n s) a).faults (w true seen).faults
  unfolding times in_turn
  later_faults zero a seen inside = λ g h. absurd (none_in g h)
  later_faults (suc n) a seen inside =
      among_join (s a).faults (in_turn (times n s) (a ++ (s a).happens)).faults (w true seen).faults ((f.again a seen inside).0)
      (later_faults n (a ++ (s a).happens) seen (λ x h. within_left names_one_of names_join a (s a).happens x (inside x h)))

  after_one : (a : List ℕ) → Inside names (a ++ (s a).happens)
  after_one a x h = within_right names_one_of names_join a (s a).happens x (names_of a x h)

  often_plain : (n : ℕ) (before seen : List ℕ) → SameFaults (in_turn (times (suc (suc n)) s) before).faults (w true seen).faults
  unfolding times in_turn
  often_plain n before seen =
      let next = before ++ (s before).happens in
      let rest = (in_turn (times n s) (next ++ (s next).happens)).faults in (
        among_join (s before).faults ((s next).faults ++ rest) (w true seen).faults
            (λ g h. (f.again next seen (after_one before)).0 g (f.calm.grows before next (within_left names_one_of names_join before (s before).happens) g h))
            (later_faults (suc n) next seen (after_one before)),
        λ g h. in_right g (s before).faults ((s next).faults ++ rest) (in_left g (s next).faults rest ((f.again next seen (after_one before)).1 g h)),
      )

  often_names : (n : ℕ) (seen : List ℕ) (x : ℕ) → (has seen x || has names x) ≡ (has seen x || has (in_turn (times (suc (suc n)) s) []).happens x)
  unfolding times in_turn
  often_names n seen x =
      ap (λ b. has seen x || b) (same_where (has names x) (has (in_turn (times (suc (suc n)) s) []).happens x) (first_names x) (turn_names (suc (suc n)) [] x))
    where
      first_names : Inside names (in_turn (times (suc (suc n)) s) []).happens
      first_names = within_left names_one_of names_join names (in_turn (times (suc n) s) ([] ++ names)).happens

      same_where : (b c : Bool) → (b ≡ true → c ≡ true) → (c ≡ true → b ≡ true) → b ≡ c
      same_where true c h i = sym (h refl)
      same_where false true h i = i refl
      same_where false false h i = refl

  once_happens : (a : List ℕ) → (in_turn (times (suc zero) s) a).happens ≡ (s a).happens
  unfolding times in_turn
  once_happens a = append_nil (s a).happens

  once_faults : (a : List ℕ) → (in_turn (times (suc zero) s) a).faults ≡ (s a).faults
  unfolding times in_turn
  once_faults a = append_nil (s a).faults

  never_is : (a : List ℕ) → in_turn (times zero s) a ≡ nothing
  unfolding times in_turn
  never_is a = refl

  turns_calm : (n : ℕ) → Calm (in_turn (times n s))
  turns_calm n = tame_in_turn names_one_of names_join (times n s) (tame_times names_one_of names_join s f.calm n)

  pub turns_find : (n : ℕ) → Finds (in_turn (times n s)) (walk_turns n w)
  turns_find zero = record {
    calm = turns_calm zero;
    adds = λ again seen. subst (λ (p : Along ℕ). Adds seen seen p.happens) (sym (never_is [])) (adds_none seen);
    plain = λ before seen same. same_equal _ _ (ap (λ (p : Along ℕ). p.faults) (never_is before));
    again = λ before seen inside. same_equal _ _ (ap (λ (p : Along ℕ). p.faults) (never_is before));
  }
  turns_find (suc zero) = record {
    calm = turns_calm (suc zero);
    adds = λ again seen. subst (Adds seen (w again seen).seen) (sym (once_happens [])) (f.adds again seen);
    plain = λ before seen same. same_then _ (s before).faults _ (same_equal _ _ (once_faults before)) (f.plain before seen same);
    again = λ before seen inside.
        same_then _ (s before).faults _ (same_equal _ _ (once_faults before)) (f.again before seen (λ x h. inside x (ap (λ xs. has xs x) (once_happens []) ∙ h)));
  }
  turns_find (suc (suc n)) = record {
    calm = turns_calm (suc (suc n));
    adds = λ again seen. adds_same seen (w true seen).seen names (in_turn (times (suc (suc n)) s) []).happens (f.adds true seen) (often_names n seen);
    plain = λ before seen same. often_plain n before seen;
    again = λ before seen inside. often_plain n before seen;
  }
