-- What valid lines say of all runs.
use Rattle.std.specs.Prelude.{◌≡◌, ℕ, zero, suc, ◌+◌, ◌≤◌, false, true, List, [], ◌∷◌, ◌++◌, length, Option, Some, None}
use Rattle.std.specs.List.{filter_map, list_any, All}
use Rattle.uc_syntax.specs.declared.place.Identifier.{Identifier}
use Rattle.uc_syntax.specs.declared.expression.Expr.{Expr}
use Rattle.uc_syntax.specs.declared.declaration.Procedure.{Procedure}
use Rattle.uc_syntax.specs.declared.declaration.Decl.{Decl}
use Rattle.uc_syntax.specs.declared.declaration.Decl.TheVariants.{Invariant}
use Rattle.uc_syntax.specs.declared.declaration.Module.{Module}
use Rattle.uc_lexer.specs.declared.place.Place.{Place}
use Rattle.uc_syntax.specs.declared.declaration.Command.{Command}
use Rattle.uc_syntax.specs.declared.declaration.Command.TheVariants.{Run as RunCommand}
use Rattle.uc_syntax.specs.declared.declaration.WrittenRun.{WrittenRun}
use Rattle.uc_syntax.specs.declared.declaration.WrittenRun.TheVariants.{Unroll, Induction, Verify}
use Rattle.uc_meaning.specs.declared.scope.Interp.{Interp}
use Rattle.uc_meaning.specs.declared.scope.Site.{Site}
use Rattle.uc_meaning.specs.declared.line.Line.{Line}
use Rattle.uc_meaning.specs.declared.line.At.TheVariants.{Exactly, Base}
use Rattle.uc_meaning.specs.declared.line.What.TheVariants.{Formula}
use Rattle.uc_meaning.specs.Lookup.{System, InstanceParts, instances_of, module_at, main_module, procedure_of, invariant_in, hyperinvariant_in}
use Rattle.uc_meaning.specs.Cells.{instances}
use Rattle.uc_meaning.specs.Expressions.{is_true}
use Rattle.uc_meaning.specs.Runs.{Position, no_state, IsAdmitted, IsRun, IsRunListing, last_state, lists_site, states_at, copies_scope, AreInStep, Always, NeverViolated, HyperAlways, IsCorrect}
use Rattle.uc_meaning.specs.Lines.{IsValid, InvariantsIn, induction_lines, lines_of, formula_of, commands_of, is_check, all_lines}

-- each instance has its module at its path, as it does where no name is declared twice
abbrev pub AreFound : System → Type 0
AreFound system = All (λ here. module_at system here.path ≡ Some here.code) (instances system)

abbrev pub invariants_of : Module → List Expr
invariants_of m = filter_map invariant_in m.decls

abbrev pub hyperinvariants_of : Module → List (ℕ × Expr)
hyperinvariants_of m = filter_map hyperinvariant_in m.decls

-- no two instances in a list have one name
abbrev pub AreApart : List InstanceParts → Type 0
AreApart [] = Unit {0}
AreApart (i ∷ is) = All (λ j. j.name ≡ i.name → ⊥) is × AreApart is

-- no module in use declares two instances of one name
abbrev pub InstancesApart : System → Type 0
InstancesApart system = All (λ here. AreApart (instances_of here.code)) (instances system)

-- where instances are apart, each is found at its path
abbrev pub FoundLaw : Type 0
FoundLaw = (system : System) → InstancesApart system → AreFound system

-- every invariant and hyperinvariant of every instance holds in all runs, and no run lists any site
pub record HoldsAlways (system : System) : Type 0 where
  pub invariants : All (λ here. All (Always system here.path) (invariants_of here.code)) (instances system)
  pub sites : (site : Site) → NeverViolated system site
  pub hyperinvariants : All (λ here. All (λ h. HyperAlways system here.path h.0 h.1) (hyperinvariants_of here.code)) (instances system)

abbrev pub InductionLaw : Type 0
InductionLaw =
    (system : System) (command depth : ℕ) → InstancesApart system → 1 ≤ depth → All (IsValid system) (induction_lines system command depth) → HoldsAlways system

-- the same for all runs of at most so many steps
pub record HoldsUpTo (system : System) (bound : ℕ) : Type 0 where
  pub invariants : (i : Interp) (run : List Position) → IsAdmitted system i → IsRun system i run → length run ≤ bound + 1 →
      All (InvariantsIn system i (last_state run)) (instances system)
  pub sites : (i : Interp) (run : List Position) (listed : List Site) (site : Site) → IsAdmitted system i → IsRunListing system i run listed → length run ≤ bound + 1 →
      lists_site listed site ≡ false
  pub hyperinvariants : (i : Interp) (n steps : ℕ) (copies : List (List Position)) → IsAdmitted system i → AreInStep system i n steps copies → steps ≤ bound →
      All (λ here. All (λ h. h.0 ≡ n → is_true system (copies_scope i here.path (states_at steps copies)) h.1 ≡ true) (hyperinvariants_of here.code)) (instances system)

abbrev pub UnrollLaw : Type 0
UnrollLaw =
    (system : System) (command bound : ℕ) → InstancesApart system → All (IsValid system) (lines_of system command (Unroll bound)) → HoldsUpTo system bound

abbrev pub VerifyLaw : Type 0
VerifyLaw =
    (system : System) (command : ℕ) (name : Identifier) (m : Module) (p : Procedure) → main_module system ≡ Some m → procedure_of m name.name ≡ Some p →
    All (IsValid system) (lines_of system command (Verify name)) → IsCorrect system m p

-- A line of a hyperinvariant after so many steps speaks of so many runs in step under one interpretation, and of nothing else.
pub record IsComposed (system : System) (line : Line) (path : List ℕ) (n steps : ℕ) (formula : Expr) : Type 0 where
  pub says : IsValid system line → (i : Interp) (copies : List (List Position)) → IsAdmitted system i → AreInStep system i n steps copies →
      is_true system (copies_scope i path (states_at steps copies)) formula ≡ true
  pub needs : ((i : Interp) (copies : List (List Position)) → IsAdmitted system i → AreInStep system i n steps copies →
      is_true system (copies_scope i path (states_at steps copies)) formula ≡ true) → IsValid system line

abbrev pub CompositionLaw : Type 0
CompositionLaw =
    (system : System) (command n steps k : ℕ) (path : List ℕ) (formula : Expr) → formula_of system path k ≡ Some (true, formula) →
    IsComposed system (record { command = command; at = Exactly steps; what = Formula path k; arity = n }) path n steps formula
    × IsComposed system (record { command = command; at = Base steps; what = Formula path k; arity = n }) path n steps formula

-- What holds up to a bound makes each line of an unrolling valid, and a correct procedure each line of its own.
abbrev pub UnrollNeeds : Type 0
UnrollNeeds =
    (system : System) (command bound : ℕ) → InstancesApart system → HoldsUpTo system bound → All (IsValid system) (lines_of system command (Unroll bound))

abbrev pub VerifyNeeds : Type 0
VerifyNeeds =
    (system : System) (command : ℕ) (name : Identifier) (m : Module) (p : Procedure) → main_module system ≡ Some m → procedure_of m name.name ≡ Some p →
    IsCorrect system m p → All (IsValid system) (lines_of system command (Verify name))

-- Where a later `check` follows a command, its lines are those of all lines that have its number.
abbrev pub CommandLaw : Type 0
CommandLaw =
    (system : System) (place : Place) (name : Option Identifier) (run : WrittenRun) (before after : List Command) →
    commands_of system ≡ before ++ (RunCommand place name run ∷ after) → list_any is_check after ≡ true →
    All (λ line. line.command ≡ length before → IsValid system line) (all_lines system) → All (IsValid system) (lines_of system (length before) run)

-- how deep an induction is
abbrev pub depth_of : Option ℕ → ℕ
depth_of None = 1
depth_of (Some k) = k

-- Where a later `check` follows an induction, and all lines of its number are valid, everything holds in all runs.
abbrev pub CheckedInductionLaw : Type 0
CheckedInductionLaw =
    (system : System) (place : Place) (name : Option Identifier) (depth : Option ℕ) (before after : List Command) → InstancesApart system → 1 ≤ depth_of depth →
    commands_of system ≡ before ++ (RunCommand place name (Induction depth) ∷ after) → list_any is_check after ≡ true →
    All (λ line. line.command ≡ length before → IsValid system line) (all_lines system) → HoldsAlways system

-- A design of one module, which declares one invariant alone, meets the premises and has a run of each length.
abbrev pub one_module : Place → ℕ → List Decl → System
one_module place name decls = record { names = []; files = []; modules = record { place = place; name = name; decls = decls } ∷ []; main = 0 }

abbrev pub no_interpretation : Interp
no_interpretation = record { consts = []; tables = [] }

unfoldable pub later : ℕ → List Position
later zero = []
later (suc n) = (no_state, []) ∷ later n

abbrev pub still : ℕ → List Position
still n = (no_state, []) ∷ later n

abbrev pub RunsExist : Type 0
RunsExist =
    (place at : Place) (i : Identifier) (e : Expr) (n : ℕ) →
    let system = one_module place 0 (Invariant at i e ∷ []) in
    InstancesApart system × IsAdmitted system no_interpretation × IsRun system no_interpretation (still n)
