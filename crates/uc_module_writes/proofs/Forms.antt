-- What is found of each form of a statement.
use Rattle.std.proofs.Common.{◌≡◌, ℕ, ◌<◌, ◌≤◌, Bool, List, [], ◌∷◌, ◌++◌, length, map, Option, None, Some, refl, sym, subst, ap, ◌∙◌, arith}
use Rattle.std.specs.Prelude.{nat_lt, min, ◌^◌, ◌-◌}
use Rattle.std.proofs.lemmas.List.{map-append}
use Rattle.uc_lexer.specs.declared.place.Place.{Place}
use Rattle.uc_syntax.specs.declared.place.Identifier.{Identifier}
use Rattle.uc_syntax.specs.declared.type_expression.TypeExpr.{TypeExpr}
use Rattle.uc_syntax.specs.declared.expression.Expr.{Expr}
use Rattle.uc_syntax.specs.declared.statement.Target.{Target}
use Rattle.uc_syntax.specs.declared.statement.RangeBound.{RangeBound}
use Rattle.uc_syntax.specs.declared.statement.Arm.{Arm}
use Rattle.uc_syntax.specs.declared.statement.Stmt.{Stmt}
use Rattle.uc_syntax.specs.declared.statement.Stmt.TheOpen.Stmt-F.{Local as LocalForm, Skip as SkipForm, Block as BlockForm, Assert as AssertForm, Assume as AssumeForm, Havoc as HavocForm, Assign as AssignForm, If as IfForm, Case as CaseForm, For as ForForm, Call as CallForm, Next as NextForm}
use Rattle.uc_syntax.specs.declared.statement.Stmt.TheViews.{roll-Stmt, Block, If, Case, For}
use Rattle.uc_syntax.specs.declared.statement.Stmt.TheVariants.{Local, Skip, Assert, Assume, Havoc, Assign, Call, Next}
use Rattle.uc_syntax.specs.declared.statement.Stmt.TheFolds.{fold-roll-Stmt}
use Rattle.uc_meaning.specs.Code.{turns}
use Rattle.uc_order_rules.specs.Paths.{Stretch, nothing, in_turn, one_of, times}
use Rattle.uc_order_rules.specs.Writes.{Meets, Part, part_of_name, part_of_target, stepped_at, writes_at, writes_form}
use Rattle.uc_written_once.specs.declared.effects.Effects.{Effects}
use Rattle.uc_written_once.specs.Effects.{modified_by}
use Rattle.uc_written_once.proofs.Single.{twice_mapped}
use Rattle.uc_module_writes.specs.declared.written.WrittenPairs.{WrittenPairs}
use Rattle.uc_module_writes.specs.declared.steps.StepTable.{StepTable}
use Rattle.uc_module_writes.specs.Found.{Code, Finds, FindsArms, FindsCode, FindsInTurn, FindsOneOf, FindsSteps, GoesOn, GoesOnWith, GoesOrLast, Steps, arm_stretches, last_stretches, single, stretch_of, stretches}
use Rattle.uc_module_writes.proofs.Going.{on_block, on_equal, on_idle, on_parts, on_then}

some_left : (n count : ℕ) → count ≡ min n (2 ^ 128 - 1) → 0 < count → 0 < n
some_left n count is h = omega (arith, is, h)

none_left : (n count : ℕ) → count ≡ min n (2 ^ 128 - 1) → count ≤ 0 → n ≡ 0
none_left n count is h = omega (arith, is, h)

cut_off : (n : ℕ) → nat_lt 1 (min n (2 ^ 128 - 1)) ≡ nat_lt 1 n
cut_off n = grind arith

never : (s : Stretch Part) → in_turn (times 0 s) ≡ (λ before. nothing)
unfolding in_turn times
never s = refl

module _ (e : Effects) (steps : Steps) where
  abbrev S : Meets → Stmt → Stretch Part
  S meets = stretch_of e steps meets

  through : Meets → Arm Stmt → Arm (Stretch Part)
  through meets a = record { condition = a.condition; body = map (S meets) a.body }

  of_arms : (meets : Meets) (as' : List (Arm Stmt)) → map (λ (a : Arm (Stretch Part)). in_turn a.body) (map (through meets) as') ≡ arm_stretches e steps as' meets
  unfolding through
  of_arms meets [] = refl
  of_arms meets (a ∷ as') = ap (λ ws. in_turn (map (S meets) a.body) ∷ ws) (of_arms meets as')

  module _ (place : Place) (meets : Meets) where
    form_local : (names : List Identifier) (type : TypeExpr) → S meets (Local place names type) ≡ (λ before. nothing)
    unfolding stretch_of roll-Stmt denote.Hole.Carrier.roll
    form_local names type = fold-roll-Stmt (Stretch Part) (writes_form (modified_by e) (steps meets) meets) (LocalForm place names type)

    form_skip : S meets (Skip place) ≡ (λ before. nothing)
    unfolding stretch_of roll-Stmt denote.Hole.Carrier.roll
    form_skip = fold-roll-Stmt (Stretch Part) (writes_form (modified_by e) (steps meets) meets) (SkipForm place)

    form_asserts : (name : Option Identifier) (x : Expr) → S meets (Assert place name x) ≡ (λ before. nothing)
    unfolding stretch_of roll-Stmt denote.Hole.Carrier.roll
    form_asserts name x = fold-roll-Stmt (Stretch Part) (writes_form (modified_by e) (steps meets) meets) (AssertForm place name x)

    form_assumes : (x : Expr) → S meets (Assume place x) ≡ (λ before. nothing)
    unfolding stretch_of roll-Stmt denote.Hole.Carrier.roll
    form_assumes x = fold-roll-Stmt (Stretch Part) (writes_form (modified_by e) (steps meets) meets) (AssumeForm place x)

    form_havoc : (i : Identifier) (primed : Bool) → S meets (Havoc place i primed) ≡ writes_at meets place (part_of_name i.name ∷ [])
    unfolding stretch_of roll-Stmt denote.Hole.Carrier.roll
    form_havoc i primed = fold-roll-Stmt (Stretch Part) (writes_form (modified_by e) (steps meets) meets) (HavocForm place i primed)

    form_assign : (targets : List Target) (sources : List Expr) → S meets (Assign place targets sources) ≡ writes_at meets place (map part_of_target targets)
    unfolding stretch_of roll-Stmt denote.Hole.Carrier.roll
    form_assign targets sources = fold-roll-Stmt (Stretch Part) (writes_form (modified_by e) (steps meets) meets) (AssignForm place targets sources)

    form_call : (targets : List Target) (f : Identifier) (arguments : List Expr) → S meets (Call place targets f arguments) ≡ writes_at meets place (map part_of_target targets ++ map part_of_name (modified_by e f.name))
    unfolding stretch_of roll-Stmt denote.Hole.Carrier.roll
    form_call targets f arguments = fold-roll-Stmt (Stretch Part) (writes_form (modified_by e) (steps meets) meets) (CallForm place targets f arguments)

    form_step : (i : Identifier) → S meets (Next place i) ≡ stepped_at meets place (steps meets i.name)
    unfolding stretch_of roll-Stmt denote.Hole.Carrier.roll
    form_step i = fold-roll-Stmt (Stretch Part) (writes_form (modified_by e) (steps meets) meets) (NextForm place i)

    form_block : (block : List Stmt) → S meets (Block place block) ≡ in_turn (map (S meets) block)
    unfolding stretch_of roll-Stmt denote.Hole.Carrier.roll
    form_block block = fold-roll-Stmt (Stretch Part) (writes_form (modified_by e) (steps meets) meets) (BlockForm place block)

    form_if : (as' : List (Arm Stmt)) (o : Option (List Stmt)) → S meets (If place as' o) ≡ one_of (arm_stretches e steps as' meets ++ last_stretches e steps o meets)
    unfolding stretch_of through roll-Stmt denote.Hole.Carrier.roll
    form_if as' None = fold-roll-Stmt (Stretch Part) (writes_form (modified_by e) (steps meets) meets) (IfForm place as' None) ∙ ap (λ ws. one_of (ws ++ [])) (of_arms meets as')
    form_if as' (Some code) =
        fold-roll-Stmt (Stretch Part) (writes_form (modified_by e) (steps meets) meets) (IfForm place as' (Some code)) ∙ ap (λ ws. one_of (ws ++ in_turn (map (S meets) code) ∷ [])) (of_arms meets as')

    form_case : (as' : List (Arm Stmt)) (o : Option (List Stmt)) → S meets (Case place as' o) ≡ one_of (arm_stretches e steps as' meets ++ last_stretches e steps o meets)
    unfolding stretch_of through roll-Stmt denote.Hole.Carrier.roll
    form_case as' None = fold-roll-Stmt (Stretch Part) (writes_form (modified_by e) (steps meets) meets) (CaseForm place as' None) ∙ ap (λ ws. one_of (ws ++ [])) (of_arms meets as')
    form_case as' (Some code) =
        fold-roll-Stmt (Stretch Part) (writes_form (modified_by e) (steps meets) meets) (CaseForm place as' (Some code)) ∙ ap (λ ws. one_of (ws ++ in_turn (map (S meets) code) ∷ [])) (of_arms meets as')

    form_for : (i : Identifier) (type : Option TypeExpr) (from to : RangeBound) (code : List Stmt) → S meets (For place i type from to code) ≡ in_turn (times (length (turns from to)) (in_turn (map (S meets) code)))
    unfolding stretch_of roll-Stmt denote.Hole.Carrier.roll
    form_for i type from to code = fold-roll-Stmt (Stretch Part) (writes_form (modified_by e) (steps meets) meets) (ForForm place i type from to code)

module _ (e : Effects) (t : StepTable) (old new : WrittenPairs) (s : Stmt) (place : Place) where
  abbrev ns : List ℕ
  ns = t.names.now

  -- a form, by what it is
  goes_as : (r : Steps → Meets → Stretch Part) (y : Stmt) → s ≡ y → ((steps : Steps) (meets : Meets) → stretch_of e steps meets y ≡ r steps meets) → ((steps : Steps) → FindsSteps t steps → GoesOn ns (λ meets. r steps meets ∷ []) old new) →
      GoesOnWith e t (s ∷ []) old new
  goes_as r y is form on steps finds =
      on_equal ns (λ meets. r steps meets ∷ []) (stretches e steps (s ∷ [])) old new (λ meets. ap (λ x. x ∷ []) (sym (ap (stretch_of e steps meets) is ∙ form steps meets))) (on steps finds)

  abbrev idle : Steps → Meets → Stretch Part
  idle steps meets before = nothing

  stays_idle : (y : Stmt) → s ≡ y → ((steps : Steps) (meets : Meets) → stretch_of e steps meets y ≡ (λ before. nothing)) → new ≡ old → GoesOnWith e t (s ∷ []) old new
  stays_idle y is form stays = goes_as idle y is form (λ steps finds. subst (λ w. GoesOn ns (λ meets. (λ before. nothing) ∷ []) old w) (sym stays) (on_idle ns old))

  pub local_on : (names : List Identifier) (type : TypeExpr) → s ≡ Local place names type → new ≡ old → GoesOnWith e t (s ∷ []) old new
  local_on names type is = stays_idle (Local place names type) is (λ steps meets. form_local e steps place meets names type)

  pub skip_on : s ≡ Skip place → new ≡ old → GoesOnWith e t (s ∷ []) old new
  skip_on is = stays_idle (Skip place) is (λ steps meets. form_skip e steps place meets)

  pub asserts_on : (name : Option Identifier) (x : Expr) → s ≡ Assert place name x → new ≡ old → GoesOnWith e t (s ∷ []) old new
  asserts_on name x is = stays_idle (Assert place name x) is (λ steps meets. form_asserts e steps place meets name x)

  pub assumes_on : (x : Expr) → s ≡ Assume place x → new ≡ old → GoesOnWith e t (s ∷ []) old new
  assumes_on x is = stays_idle (Assume place x) is (λ steps meets. form_assumes e steps place meets x)

  pub block_on : (code shown : List Stmt) → s ≡ Block place code → shown ≡ code → GoesOnWith e t shown old new → GoesOnWith e t (s ∷ []) old new
  block_on code shown is same goes =
      goes_as (λ steps meets. in_turn (stretches e steps code meets)) (Block place code) is (λ steps meets. form_block e steps place meets code)
      (λ steps finds. on_block ns (stretches e steps code) old new (subst (λ b. GoesOn ns (stretches e steps b) old new) same (goes steps finds)))

  module _ (names : List ℕ) (names-is : names ≡ ns) where
    renamed : (code : Code) (a b : WrittenPairs) → GoesOn names code a b → GoesOn ns code a b
    renamed code a b = subst (λ xs. GoesOn xs code a b) names-is

    pub havoc_on : (i : Identifier) (primed : Bool) → s ≡ Havoc place i primed → ((p : Place) → GoesOn names (λ meets. single p (part_of_name i.name) meets ∷ []) old new) → GoesOnWith e t (s ∷ []) old new
    havoc_on i primed is on =
        goes_as (λ steps meets. writes_at meets place (part_of_name i.name ∷ [])) (Havoc place i primed) is (λ steps meets. form_havoc e steps place meets i primed)
        (λ steps finds. on_parts ns place (part_of_name i.name ∷ []) old new (renamed (λ meets. single place (part_of_name i.name) meets ∷ []) old new (on place)))

    pub assign_on : (targets shown : List Target) (sources : List Expr) → s ≡ Assign place targets sources → shown ≡ targets → ((p : Place) → GoesOn names (λ meets. map (λ x. single p (part_of_target x) meets) shown) old new) →
        GoesOnWith e t (s ∷ []) old new
    assign_on targets shown sources is same on =
        goes_as (λ steps meets. writes_at meets place (map part_of_target targets)) (Assign place targets sources) is (λ steps meets. form_assign e steps place meets targets sources)
        (λ steps finds.
        on_parts ns place (map part_of_target targets) old new
        (on_equal ns (λ meets. map (λ x. single place (part_of_target x) meets) shown) (λ meets. map (λ p. single place p meets) (map part_of_target targets)) old new
        (λ meets. ap (map (λ x. single place (part_of_target x) meets)) same ∙ twice_mapped part_of_target (λ p. single place p meets) targets)
        (renamed (λ meets. map (λ x. single place (part_of_target x) meets) shown) old new (on place))))

    pub call_on : (targets shown : List Target) (f : Identifier) (arguments : List Expr) (mid : WrittenPairs) (names' : List ℕ) → s ≡ Call place targets f arguments → shown ≡ targets → names' ≡ ns →
        ((p : Place) → GoesOn names (λ meets. map (λ x. single p (part_of_target x) meets) shown) old mid) → ((p : Place) → GoesOn names' (λ meets. map (λ x. single p (part_of_name x) meets) (modified_by e f.name)) mid new) →
        GoesOnWith e t (s ∷ []) old new
    call_on targets shown f arguments mid names' is same names'-is first second =
        let xs = modified_by e f.name in
        let ps = map part_of_target targets ++ map part_of_name xs in
        goes_as (λ steps meets. writes_at meets place (map part_of_target targets ++ map part_of_name (modified_by e f.name))) (Call place targets f arguments) is (λ steps meets. form_call e steps place meets targets f arguments)
        (λ steps finds.
        on_parts ns place ps old new
        (on_equal ns (λ meets. map (λ x. single place (part_of_target x) meets) shown ++ map (λ x. single place (part_of_name x) meets) xs) (λ meets. map (λ p. single place p meets) ps) old new
        (λ meets.
        (λ k. (ap (map (λ x. single place (part_of_target x) meets)) same ∙ twice_mapped part_of_target (λ p. single place p meets) targets) k ++ twice_mapped part_of_name (λ p. single place p meets) xs k)
        ∙ sym (map-append (λ p. single place p meets) (map part_of_target targets) (map part_of_name xs)))
        (on_then ns (λ meets. map (λ x. single place (part_of_target x) meets) shown) (λ meets. map (λ x. single place (part_of_name x) meets) xs) old mid new
        (renamed (λ meets. map (λ x. single place (part_of_target x) meets) shown) old mid (first place))
        (subst (λ ys. GoesOn ys (λ meets. map (λ x. single place (part_of_name x) meets) xs) mid new) names'-is (second place)))))

  pub step_on : (i : Identifier) → s ≡ Next place i → ((p : Place) (steps : Steps) → FindsSteps t steps → GoesOn ns (λ meets. stepped_at meets p (steps meets i.name) ∷ []) old new) → GoesOnWith e t (s ∷ []) old new
  step_on i is on = goes_as (λ steps meets. stepped_at meets place (steps meets i.name)) (Next place i) is (λ steps meets. form_step e steps place meets i) (on place)

  -- Conditionals.

  module _ (as' shown : List (Arm Stmt)) (o : Option (List Stmt)) (others either : WrittenPairs) (same : shown ≡ as') (arms : FindsArms e t shown others) (last : GoesOrLast e t o others either)
      (on : (names : List ℕ) (stretch : Meets → Stretch Part) → Finds names stretch either → GoesOn names (λ meets. stretch meets ∷ []) old new) where
    found_all : (steps : Steps) → FindsSteps t steps → FindsOneOf ns (λ meets. arm_stretches e steps as' meets ++ last_stretches e steps o meets) either
    found_all steps finds = last steps finds (arm_stretches e steps as') (subst (λ a. FindsOneOf ns (arm_stretches e steps a) others) same (arms steps finds))

    abbrev chosen : Steps → Meets → Stretch Part
    chosen steps meets = one_of (arm_stretches e steps as' meets ++ last_stretches e steps o meets)

    pub if_on : s ≡ If place as' o → GoesOnWith e t (s ∷ []) old new
    if_on is = goes_as chosen (If place as' o) is (λ steps meets. form_if e steps place meets as' o) (λ steps finds. on ns (chosen steps) (found_all steps finds))

    pub case_on : s ≡ Case place as' o → GoesOnWith e t (s ∷ []) old new
    case_on is = goes_as chosen (Case place as' o) is (λ steps meets. form_case e steps place meets as' o) (λ steps finds. on ns (chosen steps) (found_all steps finds))

  -- Loops.

  module _ (i : Identifier) (type : Option TypeExpr) (from to : RangeBound) (code : List Stmt) (count : ℕ) (is : s ≡ For place i type from to code) (counted : count ≡ min (length (turns from to)) (2 ^ 128 - 1)) where
    abbrev n : ℕ
    n = length (turns from to)

    abbrev loop : Steps → Meets → Stretch Part
    loop steps meets = in_turn (times n (in_turn (stretches e steps code meets)))

    pub never_on : count ≤ 0 → new ≡ old → GoesOnWith e t (s ∷ []) old new
    never_on h =
        stays_idle (For place i type from to code) is
        (λ steps meets. form_for e steps place meets i type from to code ∙ ap (λ m. in_turn (times m (in_turn (stretches e steps code meets)))) (none_left n count counted h) ∙ never (in_turn (stretches e steps code meets)))

    pub turns_on : (shown : List Stmt) (turn : WrittenPairs) (b : Bool) → 0 < count → shown ≡ code → FindsCode e t shown turn → b ≡ nat_lt 1 count →
        ((names : List ℕ) (body : Code) (m : ℕ) → 0 < m → b ≡ nat_lt 1 m → FindsInTurn names body turn → GoesOn names (λ meets. in_turn (times m (in_turn (body meets))) ∷ []) old new) → GoesOnWith e t (s ∷ []) old new
    turns_on shown turn b h same found often on =
        goes_as loop (For place i type from to code) is (λ steps meets. form_for e steps place meets i type from to code)
        (λ steps finds.
        on ns (stretches e steps code) n (some_left n count counted h) (often ∙ ap (nat_lt 1) counted ∙ cut_off n)
        (subst (λ x. FindsInTurn ns (stretches e steps x) turn) same (found steps finds)))
