-- What is told of the conditions of a step of an induction, up to the first that does not hold.
use Rattle.std.proofs.Common.{ℕ, ◌<◌, List, None, Bool}
use Rattle.std.specs.Prelude.{Result, Err}
use Rattle.std.specs.List.{All}
use Rattle.uc_meaning.specs.declared.scope.Interp.{Interp}
use Rattle.uc_meaning.specs.declared.line.Line.{Line}
use Rattle.uc_meaning.specs.Lookup.{System}
use Rattle.uc_meaning.specs.Runs.{Position}
use Rattle.uc_operators.specs.declared.error.EvalError.{EvalError}
use Rattle.uc_checks.specs.declared.walk.Beginning.TheVariants.{Anywhere}
use Rattle.uc_checks.specs.Tellings.{Telling, Followed, Tells}
use Rattle.uc_checks.specs.Refutations.{AreWalked, CopiesTell, InvariantsBefore, AllInvariantsTell, HyperinvariantsAt, HyperinvariantsTell, EndTells, InductionTells}
use Rattle.uc_checks.proofs.Told.{told_here, told_on, told_stop, told_next, told_err_next}

module _ (system : System) (line : Line) (steps : ℕ) (i : Interp) (copies : List (List Position)) where
  abbrev WalkTells : Telling
  WalkTells = CopiesTell Anywhere system i line.arity steps copies

  abbrev Linked : Type 0
  Linked = AreWalked Anywhere system i line.arity steps copies

  abbrev InvariantsTold : Telling
  InvariantsTold = AllInvariantsTell system i steps copies

  abbrev Invariants : Type 0
  Invariants = All (InvariantsBefore system i steps) copies

  abbrev HyperinvariantsTold : Telling
  HyperinvariantsTold = HyperinvariantsTell system i line.arity copies steps

  abbrev Hyperinvariants : Type 0
  Hyperinvariants = (k : ℕ) → k < steps → HyperinvariantsAt system i line.arity copies k

  abbrev End : Telling
  End = EndTells system line steps i copies

  abbrev AfterInvariants : Telling
  AfterInvariants = Followed HyperinvariantsTold Hyperinvariants End

  abbrev AfterWalk : Telling
  AfterWalk = Followed InvariantsTold Invariants AfterInvariants

  abbrev Whole : Telling
  Whole = InductionTells system line steps i copies

  pub walk_told : (A : Type 0) (e : EvalError) → Tells {A = A} WalkTells (Err e) → Tells {A = Bool} Whole (Err e)
  walk_told A e told = told_here WalkTells Linked AfterWalk A Bool e told

  pub walk_stops : WalkTells None → (Linked → ⊥) → Whole None
  walk_stops fine never = told_stop WalkTells Linked AfterWalk fine never

  module _ (walk : WalkTells None) (linked : Linked) where
    pub invariants_told : (e : EvalError) → Tells {A = Bool} InvariantsTold (Err e) → Tells {A = Bool} Whole (Err e)
    invariants_told e told = told_err_next Bool Bool WalkTells Linked AfterWalk e walk linked (told_here InvariantsTold Invariants AfterInvariants Bool Bool e told)

    pub invariants_stop : InvariantsTold None → (Invariants → ⊥) → Whole None
    invariants_stop fine never = told_on WalkTells Linked AfterWalk None walk linked (told_stop InvariantsTold Invariants AfterInvariants fine never)

    module _ (asked : InvariantsTold None) (hold : Invariants) where
      pub hyperinvariants_told : (e : EvalError) → Tells {A = Bool} HyperinvariantsTold (Err e) → Tells {A = Bool} Whole (Err e)
      hyperinvariants_told e told =
          told_err_next Bool Bool WalkTells Linked AfterWalk e walk linked
          (told_err_next Bool Bool InvariantsTold Invariants AfterInvariants e asked hold (told_here HyperinvariantsTold Hyperinvariants End Bool Bool e told))

      pub hyperinvariants_stop : HyperinvariantsTold None → (Hyperinvariants → ⊥) → Whole None
      hyperinvariants_stop fine never =
          told_on WalkTells Linked AfterWalk None walk linked
          (told_on InvariantsTold Invariants AfterInvariants None asked hold (told_stop HyperinvariantsTold Hyperinvariants End fine never))

      pub end_told : (r : Result Bool EvalError) → HyperinvariantsTold None → Hyperinvariants → Tells End r → Tells Whole r
      end_told r fine agree told =
          told_next WalkTells Linked AfterWalk r walk linked
          (told_next InvariantsTold Invariants AfterInvariants r asked hold (told_next HyperinvariantsTold Hyperinvariants End r fine agree told))
