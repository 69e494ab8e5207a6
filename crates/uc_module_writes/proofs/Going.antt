-- Code that goes on.
use Rattle.std.proofs.Common.{◌≡◌, ℕ, zero, suc, ◌+◌, ◌<◌, ◌≤◌, Bool, true, false, cond, List, [], ◌∷◌, ◌++◌, length, take, get_or, map, Option, Some, None, refl, ap, ◌∙◌, sym, subst, arith, append_assoc}
use Rattle.std.specs.Prelude.{◌||◌, ◌&&◌, not, filter, nat_lt, Result, Ok, IfOk, OnOk}
use Rattle.std.specs.List.{flat_map, list_any}
use Rattle.std.proofs.lemmas.List.{take_all, map-append}
use Rattle.uc_lexer.specs.declared.place.Place.{Place}
use Rattle.uc_syntax.specs.declared.place.Identifier.{Identifier}
use Rattle.uc_syntax.specs.declared.statement.Arm.{Arm}
use Rattle.uc_syntax.specs.declared.statement.Stmt.{Stmt}
use Rattle.uc_syntax.specs.declared.declaration.Decl.{Decl}
use Rattle.uc_meaning.specs.Lookup.{next_in}
use Rattle.uc_syntax.proofs.Added.{append_nil}
use Rattle.uc_rules.specs.declared.rule.Rule.{Rule}
use Rattle.uc_rules.specs.declared.rule.Rule.TheVariants.{TwiceAssigned}
use Rattle.uc_rules.specs.Faults.{breaks_where}
use Rattle.uc_rules.proofs.Lists.{take_turn}
use Rattle.uc_order_rules.specs.Paths.{Along, Stretch, nothing, in_turn, one_of, times}
use Rattle.uc_order_rules.specs.Writes.{Meets, Part, Stepping, clash, is_empty, met, no_step, part_of_name, stepped_at, writes_at, written_by}
use Rattle.uc_order_rules.specs.Pairs.{Only, Paired, SameThings, any_pair, cross}
use Rattle.uc_order_rules.proofs.Paired.{met_none, has_both, pair_both, paired_as, paired_end, paired_none, paired_often, paired_once}
use Rattle.uc_order_rules.proofs.Behind.{paired_equal, paired_like, paired_more, paired_other, turn_idle, turn_join, turn_one}
use Rattle.uc_order_rules.proofs.Chosen.{kept_both, kept_pairs}
use Rattle.uc_module_writes.specs.declared.written.WrittenPairs.{WrittenPairs}
use Rattle.uc_written_once.specs.declared.effects.Effects.{Effects}
use Rattle.uc_written_once.specs.Effects.{modified_by}
use Rattle.uc_written_once.proofs.Single.{twice_mapped}
use Rattle.uc_module_writes.specs.declared.steps.StepTable.{StepTable}
use Rattle.uc_module_writes.specs.Found.{Code, Finds, FindsArms, FindsBlock, FindsCode, FindsInTurn, FindsOneOf, FindsStep, FindsStepAs, FindsSteps, GoesOn, GoesOnWith, GoesOr, GoesOrLast, Steps, TellsKept, arm_stretches, is_kept, single, stretch_of, stretches}

or_false : (b : Bool) → (b || false) ≡ b
or_false true = refl
or_false false = refl

or_assoc : (a b c : Bool) → ((a || b) || c) ≡ (a || (b || c))
or_assoc true b c = refl
or_assoc false b c = refl

-- a fault is noted where a test holds
pub breaks_is : (b : Bool) (rule : Rule) (place : Place) → not (is_empty (breaks_where b rule place)) ≡ b
breaks_is true rule place = refl
breaks_is false rule place = refl

-- what a call says that returned of what it changed, which was held beside it
pub held_on : {T U E : Type 0} (P : T → Type 0) (after held : T) (r : Result U E) (u : U) → (held ≡ after) × (r ≡ Ok u) → OnOk r (P after) → P held
held_on P after held r u both on = subst P (sym both.0) (subst (λ x. OnOk x (P after)) both.1 on)

module _ (names : List ℕ) where
  abbrev keep : Part → Bool
  keep = is_kept names

  tells_nothing : (w : WrittenPairs) → w.parts ≡ [] → w.kept ≡ [] → TellsKept names w
  tells_nothing w parts kept test = ap (list_any test) kept ∙ sym (ap (λ ps. list_any test (filter keep ps)) parts)

  -- nothing at the beginning
  pub turn_empty : (w : WrittenPairs) → w.parts ≡ [] → w.kept ≡ [] → w.pairs ≡ [] → FindsInTurn names (λ meets. []) w
  turn_empty w parts kept pairs = record {
    paired =
        subst (λ h. Paired Part keep (λ meets. in_turn []) h w.pairs) (sym parts)
        (subst (λ ps. Paired Part keep (λ meets. in_turn []) [] ps) (sym pairs) (paired_end keep));
    kept = tells_nothing w parts kept;
  }

  pub one_empty : (w : WrittenPairs) → w.parts ≡ [] → w.kept ≡ [] → w.pairs ≡ [] → FindsOneOf names (λ meets. []) w
  one_empty w parts kept pairs = record {
    paired =
        subst (λ h. Paired Part keep (λ meets. one_of []) h w.pairs) (sym parts)
        (subst (λ ps. Paired Part keep (λ meets. one_of []) [] ps) (sym pairs) (paired_none keep));
    kept = tells_nothing w parts kept;
  }

  -- what is written next
  module _ (old next new : WrittenPairs) (mid : List (Part × Part)) (mid-is : SameThings mid (old.pairs ++ next.pairs)) (pairs-is : SameThings new.pairs (mid ++ cross old.kept next.kept)) (parts-is : SameThings new.parts (old.parts ++ next.parts))
      (kept-is : SameThings new.kept (old.kept ++ next.kept)) where
    pub then_on : (stretch : Meets → Stretch Part) → Finds names stretch next → GoesOn names (λ meets. stretch meets ∷ []) old new
    then_on stretch b code a = record {
      paired = paired_more keep code stretch old.parts next.parts new.parts old.pairs next.pairs new.pairs a.paired b.paired (λ test. sym (parts-is test)) (λ meets only. joined meets only a.kept b.kept);
      kept = kept_both keep old.parts next.parts old.kept next.kept new.parts new.kept a.kept b.kept parts-is kept-is;
    }
      where
        joined : (meets : Meets) → Only keep meets → TellsKept names old → TellsKept names next → any_pair meets (old.pairs ++ (next.pairs ++ cross old.parts next.parts)) ≡ any_pair meets new.pairs
        joined meets only first second =
            pair_both meets old.pairs (next.pairs ++ cross old.parts next.parts)
            ∙ ap (λ b. any_pair meets old.pairs || b) (pair_both meets next.pairs (cross old.parts next.parts)
            ∙ ap (λ b. any_pair meets next.pairs || b) (sym (kept_pairs keep meets only old.parts next.parts old.kept next.kept first second)))
            ∙ sym (or_assoc (any_pair meets old.pairs) (any_pair meets next.pairs) (any_pair meets (cross old.kept next.kept)))
            ∙ sym (pairs-is (λ p. meets p.0 p.1) ∙ pair_both meets mid (cross old.kept next.kept)
            ∙ ap (λ b. b || any_pair meets (cross old.kept next.kept)) (mid-is (λ p. meets p.0 p.1) ∙ pair_both meets old.pairs next.pairs))

  -- what is written on other paths
  pub or_on : (old other new : WrittenPairs) → SameThings new.pairs (old.pairs ++ other.pairs) → SameThings new.parts (old.parts ++ other.parts) → SameThings new.kept (old.kept ++ other.kept) →
      (arms arm : Code) → FindsOneOf names arms old → FindsInTurn names arm other → FindsOneOf names (λ meets. arms meets ++ in_turn (arm meets) ∷ []) new
  or_on old other new pairs-is parts-is kept-is arms arm a b = record {
    paired =
        paired_other keep arms (λ meets. in_turn (arm meets)) old.parts other.parts new.parts old.pairs other.pairs new.pairs a.paired b.paired (λ test. sym (parts-is test))
        (λ meets only. sym (pairs-is (λ p. meets p.0 p.1)));
    kept = kept_both keep old.parts other.parts old.kept other.kept new.parts new.kept a.kept b.kept parts-is kept-is;
  }

  -- turns of a loop
  pub repeat_on : (old new : WrittenPairs) → new.parts ≡ old.parts → new.kept ≡ old.kept → SameThings new.pairs (old.pairs ++ cross old.kept old.kept) → (body : Code) (n : ℕ) → 1 < n → FindsInTurn names body old →
      Finds names (λ meets. in_turn (times n (in_turn (body meets)))) new
  repeat_on old new parts-is kept-is pairs-is body zero h a = absurd (omega (arith, h))
  repeat_on old new parts-is kept-is pairs-is body (suc zero) h a = absurd (omega (arith, h))
  repeat_on old new parts-is kept-is pairs-is body (suc (suc n)) h a = record {
    paired =
        paired_as keep (λ meets. in_turn (times (suc (suc n)) (in_turn (body meets)))) old.parts new.parts (old.pairs ++ cross old.parts old.parts) new.pairs (λ test. sym (ap (list_any test) parts-is))
        (λ meets only.
        pair_both meets old.pairs (cross old.parts old.parts) ∙ ap (λ b. any_pair meets old.pairs || b) (sym (kept_pairs keep meets only old.parts old.parts old.kept old.kept a.kept a.kept))
        ∙ sym (pairs-is (λ p. meets p.0 p.1) ∙ pair_both meets old.pairs (cross old.kept old.kept)))
        (paired_often keep (λ meets. in_turn (body meets)) old.parts old.pairs a.paired n);
    kept = λ test. ap (list_any test) kept-is ∙ a.kept test ∙ sym (ap (λ ps. list_any test (filter keep ps)) parts-is);
  }

  pub once_on : (w : WrittenPairs) (body : Code) (n : ℕ) → 0 < n → false ≡ nat_lt 1 n → FindsInTurn names body w → Finds names (λ meets. in_turn (times n (in_turn (body meets)))) w
  once_on w body zero h one a = absurd (omega (arith, h))
  once_on w body (suc zero) h one a = record { paired = paired_once keep (λ meets. in_turn (body meets)) w.parts w.pairs a.paired; kept = a.kept }
  once_on w body (suc (suc n)) h one a = let bad : nat_lt 1 (suc (suc n)) ≡ true = grind arith in let worse : false ≡ true = one ∙ bad in absurd cc

  -- Code that is the same, or does the same.

  pub on_equal : (more other : Code) (old new : WrittenPairs) → ((meets : Meets) → more meets ≡ other meets) → GoesOn names more old new → GoesOn names other old new
  on_equal more other old new e = subst (λ (j : Code). GoesOn names j old new) (λ k meets. e meets k)

  on_alike : (more other : Code) (old new : WrittenPairs) → ((meets : Meets) (before : List Part) → (in_turn (more meets) before).happens ≡ (in_turn (other meets) before).happens) →
      ((meets : Meets) (before : List Part) → not (is_empty (in_turn (more meets) before).faults) ≡ not (is_empty (in_turn (other meets) before).faults)) → GoesOn names more old new → GoesOn names other old new
  on_alike more other old new same fails on code a =
      let b = on code a in
      record {
        paired = paired_like keep (λ meets. in_turn (code meets ++ more meets)) (λ meets. in_turn (code meets ++ other meets)) new.parts new.pairs happen fail b.paired;
        kept = b.kept;
      }
    where
      happen : (meets : Meets) (before : List Part) → (in_turn (code meets ++ more meets) before).happens ≡ (in_turn (code meets ++ other meets) before).happens
      happen meets before =
          ap (λ (r : Along Part). r.happens) (turn_join (code meets) (more meets) before)
          ∙ ap (λ ps. (in_turn (code meets) before).happens ++ ps) (same meets (before ++ (in_turn (code meets) before).happens))
          ∙ sym (ap (λ (r : Along Part). r.happens) (turn_join (code meets) (other meets) before))

      fail : (meets : Meets) (before : List Part) → not (is_empty (in_turn (code meets ++ more meets) before).faults) ≡ not (is_empty (in_turn (code meets ++ other meets) before).faults)
      fail meets before =
          ap (λ (r : Along Part). not (is_empty r.faults)) (turn_join (code meets) (more meets) before)
          ∙ has_both (in_turn (code meets) before).faults (in_turn (more meets) (before ++ (in_turn (code meets) before).happens)).faults
          ∙ ap (λ b. not (is_empty (in_turn (code meets) before).faults) || b) (fails meets (before ++ (in_turn (code meets) before).happens))
          ∙ sym (has_both (in_turn (code meets) before).faults (in_turn (other meets) (before ++ (in_turn (code meets) before).happens)).faults)
          ∙ sym (ap (λ (r : Along Part). not (is_empty r.faults)) (turn_join (code meets) (other meets) before))

  -- a block in a block
  pub on_block : (more : Code) (old new : WrittenPairs) → GoesOn names more old new → GoesOn names (λ meets. in_turn (more meets) ∷ []) old new
  on_block more old new =
      on_alike more (λ meets. in_turn (more meets) ∷ []) old new (λ meets before. sym (ap (λ (r : Along Part). r.happens) (turn_one (in_turn (more meets)) before)))
      (λ meets before. sym (ap (λ (r : Along Part). not (is_empty r.faults)) (turn_one (in_turn (more meets)) before)))

  pub on_idle : (w : WrittenPairs) → GoesOn names (λ meets. (λ before. nothing) ∷ []) w w
  on_idle w code a = record {
    paired = paired_equal keep (λ meets. in_turn (code meets)) (λ meets. in_turn (code meets ++ (λ before. nothing) ∷ [])) w.parts w.pairs (λ meets before. sym (turn_idle (code meets) before)) a.paired;
    kept = a.kept;
  }

  pub on_nothing : (w : WrittenPairs) → GoesOn names (λ meets. []) w w
  on_nothing w code a = record {
    paired = paired_equal keep (λ meets. in_turn (code meets)) (λ meets. in_turn (code meets ++ [])) w.parts w.pairs (λ meets before. ap (λ ss. in_turn ss before) (sym (append_nil (code meets)))) a.paired;
    kept = a.kept;
  }

  pub on_then : (more next : Code) (old mid new : WrittenPairs) → GoesOn names more old mid → GoesOn names next mid new → GoesOn names (λ meets. more meets ++ next meets) old new
  on_then more next old mid new first second code a =
      let b = second (λ meets. code meets ++ more meets) (first code a) in
      record {
        paired =
            paired_equal keep (λ meets. in_turn ((code meets ++ more meets) ++ next meets)) (λ meets. in_turn (code meets ++ (more meets ++ next meets))) new.parts new.pairs
            (λ meets before. ap (λ ss. in_turn ss before) (append_assoc (code meets) (more meets) (next meets))) b.paired;
        kept = b.kept;
      }

  -- Loops over what writes.

  module _ {X : Type 0} (f : X → Code) where
    -- the code of the things before place k
    pub record OnFrom (xs : List X) (old : WrittenPairs) (k : ℕ) (now : WrittenPairs) : Type 0 where
      pub on : GoesOn names (λ meets. flat_map (λ x. f x meets) (take k xs)) old now

    pub on_begin : (xs : List X) (old : WrittenPairs) → OnFrom xs old 0 old
    on_begin [] old = record { on = on_nothing old }
    on_begin (x ∷ xs) old = record { on = on_nothing old }

    flat_more : (xs : List X) (x : X) (meets : Meets) → flat_map (λ y. f y meets) xs ++ f x meets ≡ flat_map (λ y. f y meets) (xs ++ x ∷ [])
    flat_more [] x meets = sym (append_nil (f x meets))
    flat_more (y ∷ xs) x meets = append_assoc (f y meets) (flat_map (λ z. f z meets) xs) (f x meets) ∙ ap (λ ys. f y meets ++ ys) (flat_more xs x meets)

    pub on_more : (xs : List X) (old now later : WrittenPairs) (k : ℕ) (x d : X) → OnFrom xs old k now → k < length xs → x ≡ get_or xs k d → GoesOn names (f x) now later → OnFrom xs old (k + 1) later
    on_more xs old now later k x d held within at next = record {
      on =
          on_equal (λ meets. flat_map (λ y. f y meets) (take k xs) ++ f x meets) (λ meets. flat_map (λ y. f y meets) (take (k + 1) xs)) old later
          (λ meets. flat_more (take k xs) x meets ∙ ap (flat_map (λ y. f y meets)) (sym (take_turn xs k x d within at)))
          (on_then (λ meets. flat_map (λ y. f y meets) (take k xs)) (f x) old now later held.on next);
    }

    pub on_end : (xs : List X) (old now : WrittenPairs) (k : ℕ) → OnFrom xs old k now → length xs ≤ k → GoesOn names (λ meets. flat_map (λ x. f x meets) xs) old now
    on_end xs old now k held past =
        on_equal (λ meets. flat_map (λ x. f x meets) (take k xs)) (λ meets. flat_map (λ x. f x meets) xs) old now (λ meets. ap (flat_map (λ x. f x meets)) (take_all k xs past)) held.on

  module _ {X : Type 0} (f : X → Meets → Stretch Part) where
    flat_one : (meets : Meets) (xs : List X) → flat_map (λ x. f x meets ∷ []) xs ≡ map (λ x. f x meets) xs
    flat_one meets [] = refl
    flat_one meets (x ∷ xs) = ap (λ ys. f x meets ∷ ys) (flat_one meets xs)

    pub on_end_ones : (xs : List X) (old now : WrittenPairs) (k : ℕ) → OnFrom (λ x meets. f x meets ∷ []) xs old k now → length xs ≤ k → GoesOn names (λ meets. map (λ x. f x meets) xs) old now
    on_end_ones xs old now k held past =
        on_equal (λ meets. flat_map (λ x. f x meets ∷ []) xs) (λ meets. map (λ x. f x meets) xs) old now (λ meets. flat_one meets xs) (on_end (λ x meets. f x meets ∷ []) xs old now k held past)

  -- Single parts.

  single_paired : (place : Place) (p : Part) → Paired Part keep (single place p) (p ∷ []) []
  single_paired place p = record {
    same = λ meets before test. refl;
    fails = λ meets before only. breaks_is (met meets before p) TwiceAssigned place ∙ sym (or_false (met meets before p)) ∙ sym (or_false (met meets before p || false));
  }

  pub single_found : (place : Place) (p : Part) (w : WrittenPairs) → SameThings w.parts (p ∷ []) → SameThings w.kept (filter keep (p ∷ [])) → w.pairs ≡ [] → Finds names (single place p) w
  single_found place p w parts-is kept-is pairs-is = record {
    paired = paired_as keep (single place p) (p ∷ []) w.parts [] w.pairs (λ test. sym (parts-is test)) (λ meets only. ap (any_pair meets) (sym pairs-is)) (single_paired place p);
    kept = λ test. kept-is test ∙ same_kept test;
  }
    where
      same_kept : (test : Part → Bool) → list_any test (filter keep (p ∷ [])) ≡ list_any test (filter keep w.parts)
      same_kept test = chosen (p ∷ []) ∙ sym (parts-is (λ x. keep x && test x)) ∙ sym (chosen w.parts)
        where
          chosen : (xs : List Part) → list_any test (filter keep xs) ≡ list_any (λ x. keep x && test x) xs
          chosen [] = refl
          chosen (x ∷ xs) = by (keep x) (chosen xs)
            where
              by : (c : Bool) → list_any test (filter keep xs) ≡ list_any (λ y. keep y && test y) xs → list_any test (cond c (x ∷ filter keep xs) (filter keep xs)) ≡ ((c && test x) || list_any (λ y. keep y && test y) xs)
              by true e = ap (λ d. test x || d) e
              by false e = e

  -- parts one by one
  singles_happen : (place : Place) (meets : Meets) (ps a : List Part) → (in_turn (map (λ p. single place p meets) ps) a).happens ≡ ps
  unfolding in_turn
  singles_happen place meets [] a = refl
  singles_happen place meets (p ∷ ps) a = ap (λ qs. p ∷ qs) (singles_happen place meets ps (a ++ p ∷ []))

  singles_fail : (place : Place) (meets : Meets) (ps before : List Part) → not (is_empty (in_turn (map (λ p. single place p meets) ps) before).faults) ≡ clash meets before ps
  unfolding in_turn clash
  singles_fail place meets [] before = refl
  singles_fail place meets (p ∷ ps) before =
      has_both (breaks_where (met meets before p) TwiceAssigned place) (in_turn (map (λ q. single place q meets) ps) (before ++ p ∷ [])).faults
      ∙ (λ k. breaks_is (met meets before p) TwiceAssigned place k || singles_fail place meets ps (before ++ p ∷ []) k)

  pub on_parts : (place : Place) (ps : List Part) (old new : WrittenPairs) → GoesOn names (λ meets. map (λ p. single place p meets) ps) old new → GoesOn names (λ meets. writes_at meets place ps ∷ []) old new
  on_parts place ps old new =
      on_alike (λ meets. map (λ p. single place p meets) ps) (λ meets. writes_at meets place ps ∷ []) old new
      (λ meets before. singles_happen place meets ps before ∙ sym (ap (λ (r : Along Part). r.happens) (turn_one (writes_at meets place ps) before)))
      (λ meets before.
      singles_fail place meets ps before ∙ sym (breaks_is (clash meets before ps) TwiceAssigned place)
      ∙ sym (ap (λ (r : Along Part). not (is_empty r.faults)) (turn_one (writes_at meets place ps) before)))

  -- Steps.

  pub step_found : (place : Place) (step : Meets → Stepping) (w : WrittenPairs) → FindsStep names step w → Finds names (λ meets. stepped_at meets place (step meets)) w
  step_found place step w f = record {
    paired = record {
      same = λ meets before test. f.parts meets test;
      fails = λ meets before only.
          breaks_is (list_any (met meets before) (step meets).parts || (step meets).meet) TwiceAssigned place
          ∙ (λ k. f.parts meets (met meets before) k || f.meet meets only k);
    };
    kept = f.kept;
  }

  pub step_none : (place : Place) (step : Meets → Stepping) (w : WrittenPairs) → ((meets : Meets) → step meets ≡ no_step) → GoesOn names (λ meets. stepped_at meets place (step meets) ∷ []) w w
  step_none place step w none =
      on_equal (λ meets. (λ before. nothing) ∷ []) (λ meets. stepped_at meets place (step meets) ∷ []) w w (λ meets. ap (λ s. stepped_at meets place s ∷ []) (sym (none meets))) (on_idle w)

  -- Arms.

  pub or_nothing : (w : WrittenPairs) → GoesOr names (λ meets. []) w w
  or_nothing w arms a = record {
    paired = paired_equal keep (λ meets. one_of (arms meets)) (λ meets. one_of (arms meets ++ [])) w.parts w.pairs (λ meets before. ap (λ ss. one_of ss before) (sym (append_nil (arms meets)))) a.paired;
    kept = a.kept;
  }

pub above_one : (n : ℕ) → true ≡ nat_lt 1 n → 1 < n
above_one n h = grind (arith, h)

map_flat : {X Y Z : Type 0} (f : Y → Z) (g : X → List Y) (xs : List X) → flat_map (λ x. map f (g x)) xs ≡ map f (flat_map g xs)
map_flat f g [] = refl
map_flat f g (x ∷ xs) = ap (λ ys. map f (g x) ++ ys) (map_flat f g xs) ∙ sym (map-append f (g x) (flat_map g xs))

module _ (names : List ℕ) (old new : WrittenPairs) where
  pub write_as : (place : Place) (p q : Part) → p ≡ q → GoesOn names (λ meets. single place p meets ∷ []) old new → GoesOn names (λ meets. single place q meets ∷ []) old new
  write_as place p q same = subst (λ r. GoesOn names (λ meets. single place r meets ∷ []) old new) same

  abbrev named : Place → List ℕ → Code
  named place xs meets = map (λ x. single place (part_of_name x) meets) xs

  pub names_as : (place : Place) (xs ys : List ℕ) → xs ≡ ys → GoesOn names (named place xs) old new → GoesOn names (named place ys) old new
  names_as place xs ys same = subst (λ zs. GoesOn names (named place zs) old new) same

  pub identifiers_as : (place : Place) (is : List Identifier) (xs : List ℕ) → map (λ i. i.name) is ≡ xs → GoesOn names (λ meets. map (λ (i : Identifier). single place (part_of_name i.name) meets) is) old new → GoesOn names (named place xs) old new
  identifiers_as place is xs same =
      on_equal names (λ meets. map (λ (i : Identifier). single place (part_of_name i.name) meets) is) (named place xs) old new
      (λ meets. twice_mapped (λ (i : Identifier). i.name) (λ x. single place (part_of_name x) meets) is ∙ ap (map (λ x. single place (part_of_name x) meets)) same)

  pub names_flat : {X : Type 0} (place : Place) (g : X → List ℕ) (cs : List X) → GoesOn names (λ meets. flat_map (λ c. named place (g c) meets) cs) old new → GoesOn names (named place (flat_map g cs)) old new
  names_flat place g cs = on_equal names (λ meets. flat_map (λ c. named place (g c) meets) cs) (named place (flat_map g cs)) old new (λ meets. map_flat (λ x. single place (part_of_name x) meets) g cs)

pub names_none : (names : List ℕ) (place : Place) (xs : List ℕ) (w : WrittenPairs) → [] ≡ xs → GoesOn names (named names w w place xs) w w
names_none names place xs w none = subst (λ zs. GoesOn names (named names w w place zs) w w) none (on_nothing names w)

step_at : (names : List ℕ) (step : Meets → Stepping) (o p : Option WrittenPairs) → o ≡ p → FindsStepAs names step p → FindsStepAs names step o
step_at names step o p same = subst (FindsStepAs names step) (sym same)

pub none_stepped : (names : List ℕ) (place : Place) (step : Meets → Stepping) (w : WrittenPairs) (o : Option WrittenPairs) → None ≡ o → FindsStepAs names step o → GoesOn names (λ meets. stepped_at meets place (step meets) ∷ []) w w
none_stepped names place step w o same finds = step_none names place step w (step_at names step None o same finds)

pub some_stepped : (names : List ℕ) (place : Place) (step : Meets → Stepping) (w : WrittenPairs) (o : Option WrittenPairs) → Some w ≡ o → FindsStepAs names step o → Finds names (λ meets. stepped_at meets place (step meets)) w
some_stepped names place step w o same finds = step_found names place step w (step_at names step (Some w) o same finds)

module _ (e : Effects) (t : StepTable) where
  pub declared_on : (ds : List Decl) (old new : WrittenPairs) (steps : Steps) → GoesOn t.names.now (λ meets. flat_map (λ d. stretches e steps (next_in d) meets) ds) old new → GoesOn t.names.now (stretches e steps (flat_map next_in ds)) old new
  declared_on ds old new steps =
      on_equal t.names.now (λ meets. flat_map (λ d. stretches e steps (next_in d) meets) ds) (stretches e steps (flat_map next_in ds)) old new (λ meets. map_flat (stretch_of e steps meets) next_in ds)

  pub block_as : (shown code : List Stmt) (old new : WrittenPairs) → shown ≡ code → GoesOnWith e t shown old new → GoesOnWith e t code old new
  block_as shown code old new same = subst (λ b. GoesOnWith e t b old new) same

  -- a block by itself
  pub code_found : (code : List Stmt) (none w : WrittenPairs) → none.parts ≡ [] → none.kept ≡ [] → none.pairs ≡ [] → GoesOnWith e t code none w → FindsCode e t code w
  code_found code none w p k q on steps finds = on steps finds (λ meets. []) (turn_empty t.names.now none p k q)

  code_as : {E : Type 0} (shown code : List Stmt) (own : WrittenPairs) (r : Result WrittenPairs E) → shown ≡ code → IfOk r (FindsCode e t shown) → r ≡ Ok own → FindsCode e t code own
  code_as shown code own r same finds ok = subst (λ b. FindsCode e t b own) same (subst (λ x. IfOk x (FindsCode e t shown)) ok finds)

  -- Arms.

  abbrev Joins : WrittenPairs → WrittenPairs → WrittenPairs → Type 0
  Joins others own either = (names : List ℕ) (arms arm : Code) → FindsOneOf names arms others → FindsInTurn names arm own → FindsOneOf names (λ meets. arms meets ++ in_turn (arm meets) ∷ []) either

  -- the arms before place k
  pub record ArmsFrom (as' : List (Arm Stmt)) (k : ℕ) (now : WrittenPairs) : Type 0 where
    pub found : FindsArms e t (take k as') now

  pub arms_begin : (as' : List (Arm Stmt)) (none : WrittenPairs) → none.parts ≡ [] → none.kept ≡ [] → none.pairs ≡ [] → ArmsFrom as' 0 none
  arms_begin [] none p k q = record { found = λ steps finds. one_empty t.names.now none p k q }
  arms_begin (a ∷ as') none p k q = record { found = λ steps finds. one_empty t.names.now none p k q }

  pub arms_more : {E : Type 0} (as' : List (Arm Stmt)) (now others own later : WrittenPairs) (k : ℕ) (a d : Arm Stmt) (shown : List Stmt) (r : Result WrittenPairs E) → ArmsFrom as' k now → k < length as' → a ≡ get_or as' k d → shown ≡ a.body →
      IfOk r (FindsCode e t shown) → (others ≡ now) × (r ≡ Ok own) → Joins others own later → ArmsFrom as' (k + 1) later
  arms_more as' now others own later k a d shown r held within at same finds both joins = record {
    found = λ steps ties.
        let more : Code = λ meets. arm_stretches e steps (take k as') meets ++ in_turn (stretches e steps a.body meets) ∷ [] in
        let is : (meets : Meets) → more meets ≡ arm_stretches e steps (take (k + 1) as') meets = λ meets.
        sym (map-append (λ (x : Arm Stmt). in_turn (stretches e steps x.body meets)) (take k as') (a ∷ [])) ∙ ap (λ xs. arm_stretches e steps xs meets) (sym (take_turn as' k a d within at)) in
        subst (λ (j : Code). FindsOneOf t.names.now j later) (λ i meets. is meets i)
        (joins t.names.now (arm_stretches e steps (take k as')) (stretches e steps a.body) (subst (FindsOneOf t.names.now (arm_stretches e steps (take k as'))) (sym both.0) (held.found steps ties))
        (code_as shown a.body own r same finds both.1 steps ties));
  }

  pub arms_end : (as' : List (Arm Stmt)) (now : WrittenPairs) (k : ℕ) → ArmsFrom as' k now → length as' ≤ k → FindsArms e t as' now
  arms_end as' now k held past = subst (λ xs. FindsArms e t xs now) (take_all k as' past) held.found

  pub last_none : (o : Option (List Stmt)) (w : WrittenPairs) → o ≡ None → GoesOrLast e t o w w
  last_none o w is = subst (λ x. GoesOrLast e t x w w) (sym is) (λ steps finds. or_nothing t.names.now w)

  pub last_some : {E : Type 0} (o : Option (List Stmt)) (code shown : List Stmt) (before others own later : WrittenPairs) (r : Result WrittenPairs E) → o ≡ Some code → shown ≡ code → IfOk r (FindsCode e t shown) → (others ≡ before) × (r ≡ Ok own) →
      Joins others own later → GoesOrLast e t o before later
  last_some o code shown before others own later r is same finds both joins =
      subst (λ x. GoesOrLast e t x before later) (sym is)
      (λ steps ties arms found. joins t.names.now arms (stretches e steps code) (subst (FindsOneOf t.names.now arms) (sym both.0) found) (code_as shown code own r same finds both.1 steps ties))

  -- the whole block
  own_found : (code : List Stmt) (w : WrittenPairs) (steps : Steps) → FindsInTurn t.names.now (stretches e steps code) w → FindsBlock t.names.now (λ meets. written_by (modified_by e) (steps meets) meets code []) w
  unfolding written_by stretch_of
  own_found code w steps found = record {
    parts = λ meets test. found.paired.same meets [] test;
    meet = λ meets only. found.paired.fails meets [] only ∙ ap (λ b. b || any_pair meets w.pairs) (met_none meets w.parts);
    kept = found.kept;
  }

  pub block_found : (code : List Stmt) (none w : WrittenPairs) → none.parts ≡ [] → none.kept ≡ [] → none.pairs ≡ [] → GoesOnWith e t code none w → (modified : ℕ → List ℕ) (steps : Steps) → ((f : ℕ) → modified_by e f ≡ modified f) → FindsSteps t steps →
      FindsBlock t.names.now (λ meets. written_by modified (steps meets) meets code []) w
  block_found code none w p k q on modified steps same finds =
      subst (λ (m : ℕ → List ℕ). FindsBlock t.names.now (λ meets. written_by m (steps meets) meets code []) w) (λ j f. same f j)
      (own_found code w steps (on steps finds (λ meets. []) (turn_empty t.names.now none p k q)))
