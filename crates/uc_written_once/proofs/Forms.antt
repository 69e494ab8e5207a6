-- What the walk does in each form of a statement.
use Rattle.std.proofs.Common.{◌≡◌, ℕ, zero, suc, ◌<◌, ◌≤◌, Bool, true, false, List, [], ◌∷◌, ◌++◌, length, map, take, drop, Option, None, Some, refl, sym, ap, ◌∙◌, arith, append_assoc}
use Rattle.std.specs.Prelude.{◌||◌, nat_lt, min, ◌^◌, ◌-◌}
use Rattle.uc_lexer.specs.declared.place.Place.{Place}
use Rattle.uc_syntax.specs.declared.place.Identifier.{Identifier}
use Rattle.uc_syntax.specs.declared.type_expression.TypeExpr.{TypeExpr}
use Rattle.uc_syntax.specs.declared.expression.Expr.{Expr}
use Rattle.uc_syntax.specs.declared.statement.Target.{Target}
use Rattle.uc_syntax.specs.declared.statement.RangeBound.{RangeBound}
use Rattle.uc_syntax.specs.declared.statement.Arm.{Arm}
use Rattle.uc_syntax.specs.declared.statement.Stmt.{Stmt}
use Rattle.uc_syntax.specs.declared.statement.Stmt.TheOpen.Stmt-F.{Local as LocalForm, Skip as SkipForm, Block as BlockForm, Assert as AssertForm, Assume as AssumeForm, Havoc as HavocForm, Assign as AssignForm, If as IfForm, Case as CaseForm, For as ForForm, Call as CallForm, Next as NextForm}
use Rattle.uc_syntax.specs.declared.statement.Stmt.TheViews.{roll-Stmt, Block, If, Case, For}
use Rattle.uc_syntax.specs.declared.statement.Stmt.TheVariants.{Local, Skip, Assert, Assume, Havoc, Assign, Call, Next}
use Rattle.uc_syntax.specs.declared.statement.Stmt.TheFolds.{fold-roll-Stmt}
use Rattle.uc_syntax.proofs.Added.{append_nil}
use Rattle.uc_meaning.specs.Code.{turns}
use Rattle.uc_rules.specs.declared.fault.Fault.{Fault}
use Rattle.uc_rules.specs.Faults.{first_of}
use Rattle.uc_rules.proofs.Chains.{first_of_append}
use Rattle.uc_order_rules.specs.Writes.{Part, Stepping}
use Rattle.uc_order_rules.specs.Walks.{Parted, Passed, Walk, joined, parted, parted_after, passed, walk_arms, walk_each, walk_turns}
use Rattle.uc_written_once.specs.Walks.{one_name, one_target, walk_arm, walk_block, walk_form, walk_of, walk_step, walk_targets, Went, WentAside}
use Rattle.uc_written_once.proofs.WrittenOnceTurns.{went_as, went_nothing}

or_true : (b : Bool) → (b || true) ≡ true
or_true true = refl
or_true false = refl

or_false : (b : Bool) → (b || false) ≡ b
or_false true = refl
or_false false = refl

cut_off : (n : ℕ) → nat_lt 1 (min n (2 ^ 128 - 1)) ≡ nat_lt 1 n
cut_off n = grind arith

none_left : (n count : ℕ) → count ≡ min n (2 ^ 128 - 1) → count ≤ 0 → n ≡ 0
none_left n count is h = omega (arith, is, h)

some_left : (n count : ℕ) → count ≡ min n (2 ^ 128 - 1) → 0 < count → 0 < n
some_left n count is h = omega (arith, is, h)

never_turns : (n : ℕ) (w : Walk Part) (again : Bool) (seen : List Part) → n ≡ 0 → walk_turns n w again seen ≡ passed seen []
never_turns n w again seen h = ap (λ k. walk_turns k w again seen) h

some_turns : (n : ℕ) (w : Walk Part) (again : Bool) (seen : List Part) → 0 < n → walk_turns n w again seen ≡ w (again || nat_lt 1 n) seen
some_turns zero w again seen h = absurd (omega (arith, h))
some_turns (suc zero) w again seen h = ap (λ b. w b seen) (sym (or_false again))
some_turns (suc (suc n)) w again seen h = let l : nat_lt 1 (suc (suc n)) ≡ true = grind arith in ap (λ b. w b seen) (sym (ap (λ c. again || c) l ∙ or_true again))

module _ (modified : ℕ → List ℕ) (steps : ℕ → Stepping) where
  abbrev W : Stmt → Walk Part
  W = walk_of modified steps

  abbrev F : Bool → List Part → (Walk Part) → Passed Part
  F again seen w = w again seen

  -- a form, by what the walk makes of it
  went_form : (s y : Stmt) → s ≡ y → (again : Bool) (seen : List Part) (p : Passed Part) → W y again seen ≡ p → (old : Option Fault) (now : List Part) (first : Option Fault) →
      Went p old now first → Went (W s again seen) old now first
  went_form s y is again seen p form old now first went = went_as p (W s again seen) old now first (sym (ap (λ x. W x again seen) is ∙ form)) went

  module _ (s : Stmt) (place : Place) (again : Bool) (seen : List Part) (old : Option Fault) where
    form_local : (names : List Identifier) (type : TypeExpr) → W (Local place names type) again seen ≡ passed seen []
    unfolding walk_of roll-Stmt denote.Hole.Carrier.roll
    form_local names type = ap (F again seen) (fold-roll-Stmt (Walk Part) (walk_form modified steps) (LocalForm place names type))

    pub local_went : (names : List Identifier) (type : TypeExpr) → s ≡ Local place names type → Went (W s again seen) old seen old
    local_went names type is = went_form s (Local place names type) is again seen _ (form_local names type) old seen old (went_nothing old seen)

    form_skip : W (Skip place) again seen ≡ passed seen []
    unfolding walk_of roll-Stmt denote.Hole.Carrier.roll
    form_skip = ap (F again seen) (fold-roll-Stmt (Walk Part) (walk_form modified steps) (SkipForm place))

    pub skip_went : s ≡ Skip place → Went (W s again seen) old seen old
    skip_went is = went_form s (Skip place) is again seen _ form_skip old seen old (went_nothing old seen)

    form_asserts : (name : Option Identifier) (e : Expr) → W (Assert place name e) again seen ≡ passed seen []
    unfolding walk_of roll-Stmt denote.Hole.Carrier.roll
    form_asserts name e = ap (F again seen) (fold-roll-Stmt (Walk Part) (walk_form modified steps) (AssertForm place name e))

    pub asserts_went : (name : Option Identifier) (e : Expr) → s ≡ Assert place name e → Went (W s again seen) old seen old
    asserts_went name e is = went_form s (Assert place name e) is again seen _ (form_asserts name e) old seen old (went_nothing old seen)

    form_assumes : (e : Expr) → W (Assume place e) again seen ≡ passed seen []
    unfolding walk_of roll-Stmt denote.Hole.Carrier.roll
    form_assumes e = ap (F again seen) (fold-roll-Stmt (Walk Part) (walk_form modified steps) (AssumeForm place e))

    pub assumes_went : (e : Expr) → s ≡ Assume place e → Went (W s again seen) old seen old
    assumes_went e is = went_form s (Assume place e) is again seen _ (form_assumes e) old seen old (went_nothing old seen)

    form_havoc : (i : Identifier) (primed : Bool) → W (Havoc place i primed) again seen ≡ one_name place i.name again seen
    unfolding walk_of roll-Stmt denote.Hole.Carrier.roll
    form_havoc i primed = ap (F again seen) (fold-roll-Stmt (Walk Part) (walk_form modified steps) (HavocForm place i primed))

    pub havoc_went : (i : Identifier) (primed : Bool) (now : List Part) (first : Option Fault) → s ≡ Havoc place i primed → Went (one_name place i.name again seen) old now first → Went (W s again seen) old now first
    havoc_went i primed now first is went = went_form s (Havoc place i primed) is again seen _ (form_havoc i primed) old now first went

    form_assign : (targets : List Target) (sources : List Expr) → W (Assign place targets sources) again seen ≡ walk_targets place targets again seen
    unfolding walk_of roll-Stmt denote.Hole.Carrier.roll
    form_assign targets sources = ap (F again seen) (fold-roll-Stmt (Walk Part) (walk_form modified steps) (AssignForm place targets sources))

    pub assign_went : (targets shown : List Target) (sources : List Expr) (now : List Part) (first : Option Fault) → s ≡ Assign place targets sources → shown ≡ targets → Went (walk_targets place shown again seen) old now first →
        Went (W s again seen) old now first
    assign_went targets shown sources now first is same went =
        went_form s (Assign place targets sources) is again seen _ (form_assign targets sources) old now first (went_as _ _ old now first (ap (λ ts. walk_targets place ts again seen) same) went)

    form_call : (targets : List Target) (f : Identifier) (arguments : List Expr) → W (Call place targets f arguments) again seen ≡
        walk_each (map (one_target place) targets ++ map (one_name place) (modified f.name)) again seen
    unfolding walk_of roll-Stmt denote.Hole.Carrier.roll
    form_call targets f arguments = ap (F again seen) (fold-roll-Stmt (Walk Part) (walk_form modified steps) (CallForm place targets f arguments))

    pub call_went : (targets shown : List Target) (f : Identifier) (arguments : List Expr) (now : List Part) (first : Option Fault) → s ≡ Call place targets f arguments → shown ≡ targets →
        Went (walk_each (map (one_target place) shown ++ map (one_name place) (modified f.name)) again seen) old now first → Went (W s again seen) old now first
    call_went targets shown f arguments now first is same went =
        went_form s (Call place targets f arguments) is again seen _ (form_call targets f arguments) old now first
        (went_as _ _ old now first (ap (λ ts. walk_each (map (one_target place) ts ++ map (one_name place) (modified f.name)) again seen) same) went)

    form_step : (i : Identifier) → W (Next place i) again seen ≡ walk_step place (steps i.name) again seen
    unfolding walk_of roll-Stmt denote.Hole.Carrier.roll
    form_step i = ap (F again seen) (fold-roll-Stmt (Walk Part) (walk_form modified steps) (NextForm place i))

    pub step_went : (i : Identifier) (now : List Part) (first : Option Fault) → s ≡ Next place i → Went (walk_step place (steps i.name) again seen) old now first → Went (W s again seen) old now first
    step_went i now first is went = went_form s (Next place i) is again seen _ (form_step i) old now first went

    form_block : (block : List Stmt) → W (Block place block) again seen ≡ walk_block modified steps block again seen
    unfolding walk_of roll-Stmt denote.Hole.Carrier.roll
    form_block block = ap (F again seen) (fold-roll-Stmt (Walk Part) (walk_form modified steps) (BlockForm place block))

    pub block_went : (code shown : List Stmt) (now : List Part) (first : Option Fault) → s ≡ Block place code → shown ≡ code → Went (walk_block modified steps shown again seen) old now first → Went (W s again seen) old now first
    block_went code shown now first is same went =
        went_form s (Block place code) is again seen _ (form_block code) old now first (went_as _ _ old now first (ap (λ b. walk_block modified steps b again seen) same) went)

  -- Conditionals.

  through : Arm Stmt → Arm (Walk Part)
  through a = record { condition = a.condition; body = map W a.body }

  of_arms : (as' : List (Arm Stmt)) → map (λ (a : Arm (Walk Part)). walk_each a.body) (map through as') ≡ map (walk_arm modified steps) as'
  unfolding through
  of_arms [] = refl
  of_arms (a ∷ as') = ap (λ ws. walk_arm modified steps a ∷ ws) (of_arms as')

  arms_join : (ws vs : List (Walk Part)) (again : Bool) (seen aside : List Part) → walk_arms (ws ++ vs) again seen aside ≡
      parted_after (walk_arms ws again seen aside).faults (walk_arms vs again (walk_arms ws again seen aside).seen (walk_arms ws again seen aside).aside)
  unfolding walk_arms
  arms_join [] vs again seen aside = refl
  arms_join (w ∷ ws) vs again seen aside =
      let one = w again seen in
      let begin = take (length seen) one.seen in
      let put = aside ++ drop (length seen) one.seen in
      let front = walk_arms ws again begin put in
      let rest = walk_arms vs again front.seen front.aside in
      ap (parted_after one.faults) (arms_join ws vs again begin put)
      ∙ ap (λ fs. parted rest.seen rest.aside fs) (sym (append_assoc one.faults front.faults rest.faults))

  abbrev alone : List (Arm Stmt) → Bool → List Part → Parted Part
  alone as' again seen = walk_arms (map (walk_arm modified steps) as') again seen []

  arms_alone : (as' : List (Arm Stmt)) (again : Bool) (seen : List Part) → walk_arms (map (λ (a : Arm (Walk Part)). walk_each a.body) (map through as') ++ []) again seen [] ≡ alone as' again seen
  arms_alone as' again seen = ap (λ ws. walk_arms ws again seen []) (append_nil _ ∙ of_arms as')

  -- the arms, and then a last one
  abbrev with_last : List (Arm Stmt) → List Stmt → Bool → List Part → Parted Part
  with_last as' code again seen =
      parted (take (length (alone as' again seen).seen) (walk_block modified steps code again (alone as' again seen).seen).seen)
      ((alone as' again seen).aside ++ drop (length (alone as' again seen).seen) (walk_block modified steps code again (alone as' again seen).seen).seen)
      ((alone as' again seen).faults ++ ((walk_block modified steps code again (alone as' again seen).seen).faults ++ []))

  last_step : (w : Walk Part) (again : Bool) (seen aside : List Part) → walk_arms (w ∷ []) again seen aside ≡ parted (take (length seen) (w again seen).seen) (aside ++ drop (length seen) (w again seen).seen) ((w again seen).faults ++ [])
  unfolding walk_arms
  last_step w again seen aside = refl

  arms_last : (as' : List (Arm Stmt)) (code : List Stmt) (again : Bool) (seen : List Part) →
      walk_arms (map (λ (a : Arm (Walk Part)). walk_each a.body) (map through as') ++ walk_each (map W code) ∷ []) again seen [] ≡ with_last as' code again seen
  arms_last as' code again seen =
      ap (λ ws. walk_arms (ws ++ walk_block modified steps code ∷ []) again seen []) (of_arms as') ∙ arms_join (map (walk_arm modified steps) as') (walk_block modified steps code ∷ []) again seen []
      ∙ ap (parted_after (alone as' again seen).faults) (last_step (walk_block modified steps code) again (alone as' again seen).seen (alone as' again seen).aside)

  form_choice_alone : (place : Place) (as' : List (Arm Stmt)) (again : Bool) (seen : List Part) → W (If place as' None) again seen ≡ joined (alone as' again seen)
  unfolding walk_of through roll-Stmt denote.Hole.Carrier.roll
  form_choice_alone place as' again seen = ap (F again seen) (fold-roll-Stmt (Walk Part) (walk_form modified steps) (IfForm place as' None)) ∙ ap joined (arms_alone as' again seen)

  form_choice_else : (place : Place) (as' : List (Arm Stmt)) (code : List Stmt) (again : Bool) (seen : List Part) → W (If place as' (Some code)) again seen ≡ joined (with_last as' code again seen)
  unfolding walk_of through roll-Stmt denote.Hole.Carrier.roll
  form_choice_else place as' code again seen = ap (F again seen) (fold-roll-Stmt (Walk Part) (walk_form modified steps) (IfForm place as' (Some code))) ∙ ap joined (arms_last as' code again seen)

  form_cases_alone : (place : Place) (as' : List (Arm Stmt)) (again : Bool) (seen : List Part) → W (Case place as' None) again seen ≡ joined (alone as' again seen)
  unfolding walk_of through roll-Stmt denote.Hole.Carrier.roll
  form_cases_alone place as' again seen = ap (F again seen) (fold-roll-Stmt (Walk Part) (walk_form modified steps) (CaseForm place as' None)) ∙ ap joined (arms_alone as' again seen)

  form_cases_else : (place : Place) (as' : List (Arm Stmt)) (code : List Stmt) (again : Bool) (seen : List Part) → W (Case place as' (Some code)) again seen ≡ joined (with_last as' code again seen)
  unfolding walk_of through roll-Stmt denote.Hole.Carrier.roll
  form_cases_else place as' code again seen = ap (F again seen) (fold-roll-Stmt (Walk Part) (walk_form modified steps) (CaseForm place as' (Some code))) ∙ ap joined (arms_last as' code again seen)

  module _ (as' shown : List (Arm Stmt)) (again : Bool) (seen none mid aside : List Part) (old found : Option Fault) (same : shown ≡ as') (empty : none ≡ [])
      (arms : WentAside (walk_arms (map (walk_arm modified steps) shown) again seen none) old mid aside found) where
    mid-is : mid ≡ (alone as' again seen).seen
    mid-is = arms.seen ∙ (λ j. (walk_arms (map (walk_arm modified steps) (same j)) again seen (empty j)).seen)

    aside-is : aside ≡ (alone as' again seen).aside
    aside-is = arms.aside_is ∙ (λ j. (walk_arms (map (walk_arm modified steps) (same j)) again seen (empty j)).aside)

    found-is : found ≡ first_of old (alone as' again seen).faults
    found-is = arms.faults ∙ (λ j. first_of old (walk_arms (map (walk_arm modified steps) (same j)) again seen (empty j)).faults)

    went_alone : (now : List Part) → now ≡ mid ++ aside → Went (joined (alone as' again seen)) old now found
    went_alone now is = record { seen = is ∙ (λ j. mid-is j ++ aside-is j); faults = found-is }

    went_else : (code shown_code : List Stmt) (lasts nows : List Part) (first : Option Fault) (start : ℕ) → shown_code ≡ code → start ≡ length mid → Went (walk_block modified steps shown_code again mid) found lasts first →
        nows ≡ take start lasts ++ (aside ++ drop start lasts) → Went (joined (with_last as' code again seen)) old nows first
    went_else code shown_code lasts nows first start same_code start-is block is =
        let own = (walk_block modified steps code again (alone as' again seen).seen).faults in
        let l : lasts ≡ (walk_block modified steps code again (alone as' again seen).seen).seen = block.seen ∙ (λ j. (walk_block modified steps (same_code j) again (mid-is j)).seen) in
        let n : start ≡ length (alone as' again seen).seen = start-is ∙ ap length mid-is in
        record {
          seen = is ∙ (λ j. take (n j) (l j) ++ (aside-is j ++ drop (n j) (l j)));
          faults =
              block.faults ∙ (λ j. first_of (found-is j) (walk_block modified steps (same_code j) again (mid-is j)).faults)
              ∙ sym (first_of_append old (alone as' again seen).faults own)
              ∙ ap (λ fs. first_of old ((alone as' again seen).faults ++ fs)) (sym (append_nil own));
        }

    module _ (s : Stmt) (place : Place) (o : Option (List Stmt)) (now : List Part) where
      pub choice_alone_went : s ≡ If place as' o → o ≡ None → now ≡ mid ++ aside → Went (W s again seen) old now found
      choice_alone_went is otherwise now-is =
          went_form s (If place as' None) (is ∙ ap (If place as') otherwise) again seen _ (form_choice_alone place as' again seen) old now found (went_alone now now-is)

      pub cases_alone_went : s ≡ Case place as' o → o ≡ None → now ≡ mid ++ aside → Went (W s again seen) old now found
      cases_alone_went is otherwise now-is =
          went_form s (Case place as' None) (is ∙ ap (Case place as') otherwise) again seen _ (form_cases_alone place as' again seen) old now found (went_alone now now-is)

      pub choice_else_went : (code shown_code : List Stmt) (last : List Part) (first : Option Fault) (start : ℕ) → s ≡ If place as' o → o ≡ Some code → shown_code ≡ code → start ≡ length mid →
          Went (walk_block modified steps shown_code again mid) found last first → now ≡ take start last ++ (aside ++ drop start last) → Went (W s again seen) old now first
      choice_else_went code shown_code last first start is otherwise same_code start-is block now-is =
          went_form s (If place as' (Some code)) (is ∙ ap (If place as') otherwise) again seen _ (form_choice_else place as' code again seen) old now first
          (went_else code shown_code last now first start same_code start-is block now-is)

      pub cases_else_went : (code shown_code : List Stmt) (last : List Part) (first : Option Fault) (start : ℕ) → s ≡ Case place as' o → o ≡ Some code → shown_code ≡ code → start ≡ length mid →
          Went (walk_block modified steps shown_code again mid) found last first → now ≡ take start last ++ (aside ++ drop start last) → Went (W s again seen) old now first
      cases_else_went code shown_code last first start is otherwise same_code start-is block now-is =
          went_form s (Case place as' (Some code)) (is ∙ ap (Case place as') otherwise) again seen _ (form_cases_else place as' code again seen) old now first
          (went_else code shown_code last now first start same_code start-is block now-is)

  -- Loops.

  form_for : (place : Place) (i : Identifier) (type : Option TypeExpr) (from to : RangeBound) (code : List Stmt) (again : Bool) (seen : List Part) →
      W (For place i type from to code) again seen ≡ walk_turns (length (turns from to)) (walk_block modified steps code) again seen
  unfolding walk_of roll-Stmt denote.Hole.Carrier.roll
  form_for place i type from to code again seen = ap (F again seen) (fold-roll-Stmt (Walk Part) (walk_form modified steps) (ForForm place i type from to code))

  module _ (s : Stmt) (place : Place) (i : Identifier) (type : Option TypeExpr) (from to : RangeBound) (code : List Stmt) (again : Bool) (seen : List Part) (old : Option Fault) (count : ℕ)
      (is : s ≡ For place i type from to code) (counted : count ≡ min (length (turns from to)) (2 ^ 128 - 1)) where
    form_never : count ≤ 0 → W (For place i type from to code) again seen ≡ passed seen []
    form_never h = form_for place i type from to code again seen ∙ never_turns (length (turns from to)) (walk_block modified steps code) again seen (none_left (length (turns from to)) count counted h)

    form_some : 0 < count → W (For place i type from to code) again seen ≡ walk_block modified steps code (again || nat_lt 1 count) seen
    form_some h =
        form_for place i type from to code again seen ∙ some_turns (length (turns from to)) (walk_block modified steps code) again seen (some_left (length (turns from to)) count counted h)
        ∙ ap (λ b. walk_block modified steps code (again || b) seen) (sym (ap (nat_lt 1) counted ∙ cut_off (length (turns from to))))

    pub no_turns_went : count ≤ 0 → Went (W s again seen) old seen old
    no_turns_went h = went_form s (For place i type from to code) is again seen _ (form_never h) old seen old (went_nothing old seen)

    pub turned_went : (shown : List Stmt) (b : Bool) (now : List Part) (first : Option Fault) → 0 < count → shown ≡ code → b ≡ (again || nat_lt 1 count) → Went (walk_block modified steps shown b seen) old now first →
        Went (W s again seen) old now first
    turned_went shown b now first h same b-is went =
        went_form s (For place i type from to code) is again seen _ (form_some h) old now first (went_as _ _ old now first (λ k. walk_block modified steps (same k) (b-is k) seen) went)
