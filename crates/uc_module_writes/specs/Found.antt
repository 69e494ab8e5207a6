-- What is found of the parts that code writes.
use Rattle.std.specs.Prelude.{◌≡◌, ℕ, Bool, false, not, List, [], ◌∷◌, ◌++◌, filter, map, nat_eq, Option, Some, None}
use Rattle.indexmap.specs.IndexMap.{get}
use Rattle.uc_lexer.specs.declared.place.Place.{Place}
use Rattle.uc_syntax.specs.declared.statement.Arm.{Arm}
use Rattle.uc_syntax.specs.declared.statement.Stmt.{Stmt}
use Rattle.uc_syntax.specs.declared.statement.Stmt.TheFolds.{fold-Stmt}
use Rattle.uc_rules.specs.Faults.{breaks_where}
use Rattle.uc_rules.specs.Names.{names_one_of}
use Rattle.uc_rules.specs.declared.rule.Rule.TheVariants.{TwiceAssigned}
use Rattle.uc_order_rules.specs.Paths.{Along, Stretch, in_turn, one_of}
use Rattle.uc_order_rules.specs.Writes.{Meets, Part, Stepping, is_empty, met, no_step, writes_form}
use Rattle.uc_order_rules.specs.Pairs.{Only, Paired, SameThings, any_pair}
use Rattle.uc_written_once.specs.declared.effects.Effects.{Effects}
use Rattle.uc_written_once.specs.Effects.{modified_by}
use Rattle.uc_module_writes.specs.declared.written.WrittenPairs.{WrittenPairs}
use Rattle.uc_module_writes.specs.declared.steps.StepTable.{StepTable}

-- a part of one of some names
abbrev pub is_kept : List ℕ → Part → Bool
is_kept names [] = false
is_kept names (x ∷ fields) = names_one_of names x

-- a statement that writes one part
abbrev pub single : Place → Part → Meets → Stretch Part
single place p meets before = record { happens = p ∷ []; faults = breaks_where (met meets before p) TwiceAssigned place }

-- of the parts that were found, those of some names are told apart
abbrev pub TellsKept : List ℕ → WrittenPairs → Type 0
TellsKept names w = SameThings w.kept (filter (is_kept names) w.parts)

-- A stretch of code, judged by what meets, writes the parts that were found, and on one path the pairs of parts of some names.
pub record Finds (names : List ℕ) (stretch : Meets → Stretch Part) (w : WrittenPairs) : Type 0 where
  pub paired : Paired Part (is_kept names) stretch w.parts w.pairs
  pub kept : TellsKept names w

-- stretches of code, judged by what meets
abbrev pub Code : Type 0
Code = Meets → List (Stretch Part)

abbrev pub FindsInTurn : List ℕ → Code → WrittenPairs → Type 0
FindsInTurn names code w = Finds names (λ meets. in_turn (code meets)) w

abbrev pub FindsOneOf : List ℕ → Code → WrittenPairs → Type 0
FindsOneOf names arms w = Finds names (λ meets. one_of (arms meets)) w

-- behind any code, what was found of it goes on to what is found of it with more code behind it
abbrev pub GoesOn : List ℕ → Code → WrittenPairs → WrittenPairs → Type 0
GoesOn names more old new = (code : Code) → FindsInTurn names code old → FindsInTurn names (λ meets. code meets ++ more meets) new

-- the same of more arms
abbrev pub GoesOr : List ℕ → Code → WrittenPairs → WrittenPairs → Type 0
GoesOr names more old new = (arms : Code) → FindsOneOf names arms old → FindsOneOf names (λ meets. arms meets ++ more meets) new

-- What was found of the step of an instance.
pub record FindsStep (names : List ℕ) (step : Meets → Stepping) (w : WrittenPairs) : Type 0 where
  pub parts : (meets : Meets) → SameThings (step meets).parts w.parts
  pub meet : (meets : Meets) → Only (is_kept names) meets → (step meets).meet ≡ any_pair meets w.pairs
  pub kept : TellsKept names w

-- where nothing was entered, nothing is stepped
abbrev pub FindsStepAs : List ℕ → (Meets → Stepping) → Option WrittenPairs → Type 0
FindsStepAs names step None = (meets : Meets) → step meets ≡ no_step
FindsStepAs names step (Some w) = FindsStep names step w

-- what was entered for the instance of a name
abbrev pub entered_by : StepTable → ℕ → Option WrittenPairs
entered_by t i = get nat_eq t.steps i

-- what it is to step instances, by their names
abbrev pub Steps : Type 0
Steps = Meets → ℕ → Stepping

abbrev pub FindsSteps : StepTable → Steps → Type 0
FindsSteps t steps = (i : ℕ) → FindsStepAs t.names.now (λ meets. steps meets i) (entered_by t i)

-- a statement, judged by what meets
unfoldable pub stretch_of : Effects → Steps → Meets → Stmt → Stretch Part
stretch_of e steps meets = fold-Stmt (Stretch Part) (writes_form (modified_by e) (steps meets) meets)

abbrev pub stretches : Effects → Steps → List Stmt → Code
stretches e steps code meets = map (stretch_of e steps meets) code

abbrev pub arm_stretches : Effects → Steps → List (Arm Stmt) → Code
arm_stretches e steps as' meets = map (λ a. in_turn (stretches e steps a.body meets)) as'

-- the block of an `else` or a `default`, as one more arm
abbrev pub last_stretches : Effects → Steps → Option (List Stmt) → Code
last_stretches e steps None meets = []
last_stretches e steps (Some block) meets = in_turn (stretches e steps block meets) ∷ []

-- what is found goes on with a block
abbrev pub GoesOnWith : Effects → StepTable → List Stmt → WrittenPairs → WrittenPairs → Type 0
GoesOnWith e t code old new = (steps : Steps) → FindsSteps t steps → GoesOn t.names.now (stretches e steps code) old new

-- what is found of a block, or of arms
abbrev pub FindsCode : Effects → StepTable → List Stmt → WrittenPairs → Type 0
FindsCode e t code w = (steps : Steps) → FindsSteps t steps → FindsInTurn t.names.now (stretches e steps code) w

abbrev pub FindsArms : Effects → StepTable → List (Arm Stmt) → WrittenPairs → Type 0
FindsArms e t as' w = (steps : Steps) → FindsSteps t steps → FindsOneOf t.names.now (arm_stretches e steps as') w

-- what is found of arms goes on with the last one
abbrev pub GoesOrLast : Effects → StepTable → Option (List Stmt) → WrittenPairs → WrittenPairs → Type 0
GoesOrLast e t otherwise old new = (steps : Steps) → FindsSteps t steps → GoesOr t.names.now (last_stretches e steps otherwise) old new

-- What was found of a next block, judged by what meets.
pub record FindsBlock (names : List ℕ) (along : Meets → Along Part) (w : WrittenPairs) : Type 0 where
  pub parts : (meets : Meets) → SameThings (along meets).happens w.parts
  pub meet : (meets : Meets) → Only (is_kept names) meets → not (is_empty (along meets).faults) ≡ any_pair meets w.pairs
  pub kept : TellsKept names w
