-- What the walk over an expression finds: a type, and the first of what was noted before and of the faults that are found.
use Rattle.std.specs.Prelude.{◌≡◌, ℕ, List, [], ◌∷◌, ◌++◌, map, reverse, Option, Some, None, if◌then◌else◌}
use Rattle.uc_lexer.specs.declared.place.Place.{Place}
use Rattle.uc_syntax.specs.declared.expression.Expr.{Expr}
use Rattle.uc_syntax.specs.declared.expression.Branch.{Branch}
use Rattle.uc_syntax.specs.declared.expression.Primary.{Primary}
use Rattle.uc_syntax.specs.declared.expression.Selection.{Selection}
use Rattle.uc_syntax.specs.declared.expression.BitFunction.{BitFunction}
use Rattle.uc_values.specs.declared.ty.Ty.{Ty}
use Rattle.uc_rules.specs.declared.fault.Fault.{Fault}
use Rattle.uc_rules.specs.declared.rule.Rule.TheVariants.{WrongType}
use Rattle.uc_rules.specs.declared.outcome.Outcome.{Outcome}
use Rattle.uc_rules.specs.declared.outcome.Outcome.TheVariants.{Breaks}
use Rattle.uc_rules.specs.declared.rows.Chain.{Chain}
use Rattle.uc_rules.specs.declared.rows.Chain.TheVariants.{Boolean, Bits}
use Rattle.uc_rules.specs.Faults.{first_of}
use Rattle.uc_rules.specs.Outcomes.{type_in, faults_in}
use Rattle.uc_rules.specs.Rows.{condition, pair, same_outcome}
use Rattle.uc_rules.specs.Expressions.{Context, Judged, Own, Part, Standing, ValueOf, branch_faults, chained, extended, faults_of, is_extension, judged, judged_all, kept_where, on_bits_inner, on_bits_outcome, primary_inner, primary_standing, product_own, select, selection_inner, selections_faults, selections_type, standing, standing_faults, told, types_of}
use Rattle.uc_expression_rules.specs.declared.branches.JudgedBranch.{JudgedBranch}
use Rattle.uc_expression_rules.specs.Parts.{branch_parts, primary_parts, selection_parts, selections_parts}

-- this type, and the first of what was noted before and of these faults
pub record Finds (old new : Option Fault) (t : Option Ty) (fs : List Fault) (u : Option Ty) : Type 0 where
  pub type : t ≡ u
  pub found : new ≡ first_of old fs

abbrev pub FindsOwn : Option Fault → Option Fault → Option Ty → Own → Type 0
FindsOwn old new t o = Finds old new t o.faults o.type

abbrev pub FindsOutcome : Option Fault → Option Fault → Option Ty → Place → Outcome → Type 0
FindsOutcome old new t place outcome = Finds old new t (faults_in place outcome) (type_in outcome)

-- what is found of an expression
abbrev pub Judges : Context → Expr → Option Fault → Option Fault → Option Ty → Type 0
Judges c e old new t = Finds old new t (judged e c).faults (judged e c).type

abbrev pub parts_judged : Context → List Expr → List Judged
parts_judged c es = map (λ e. judged e c) es

-- what is found of several expressions
pub record JudgesAll (c : Context) (es : List Expr) (old new : Option Fault) (ts : List (Option Ty)) : Type 0 where
  pub types : ts ≡ types_of (parts_judged c es)
  pub found : new ≡ first_of old (faults_of (parts_judged c es))

-- what is found of the operands of a chain, and then of its operators
abbrev pub JudgesChain : Context → Chain → List Expr → List Place → Option Fault → Option Fault → Option Ty → Type 0
JudgesChain c chain es marks old new t =
    Finds old new t (faults_of (parts_judged c es) ++ (chained chain marks (types_of (parts_judged c es))).faults) (chained chain marks (types_of (parts_judged c es))).type

abbrev pub JudgesFromRight : Context → List Expr → List Place → Option Fault → Option Fault → Option Ty → Type 0
JudgesFromRight c es marks old new t =
    Finds old new t (faults_of (parts_judged c es) ++ (chained Boolean (reverse marks) (reverse (types_of (parts_judged c es)))).faults)
    (chained Boolean (reverse marks) (reverse (types_of (parts_judged c es)))).type

-- the operators of a product, by the types of its factors and by which of them are plain
abbrev pub product_found : Context → List Expr → List Place → Own
product_found c es marks = product_own marks (types_of (parts_judged c es)) (map (λ e. (judged e c).plain) es)

abbrev pub JudgesProduct : Context → List Expr → List Place → Option Fault → Option Fault → Option Ty → Type 0
JudgesProduct c es marks old new t = Finds old new t (faults_of (parts_judged c es) ++ (product_found c es marks).faults) (product_found c es marks).type

-- an arm of a conditional, with what is found of all that follows it
abbrev pub own_of_branch : JudgedBranch → Own → Own
own_of_branch b rest = record {
  faults = faults_in b.begin (condition b.condition) ++ (faults_in b.place (same_outcome b.value rest.type) ++ rest.faults);
  type = kept_where (type_in (condition b.condition)) (type_in (same_outcome b.value rest.type));
}

unfoldable pub own_with : List JudgedBranch → Own → Own
own_with [] rest = rest
own_with (b ∷ bs) rest = own_of_branch b (own_with bs rest)

abbrev pub branch_judged : Context → Branch Expr → JudgedBranch
branch_judged c b = record { place = b.place; begin = (judged b.condition c).place; condition = (judged b.condition c).type; value = (judged b.value c).type }

-- what is found of the arms of a conditional
pub record JudgesBranches (c : Context) (bs : List (Branch Expr)) (old new : Option Fault) (js : List JudgedBranch) : Type 0 where
  pub parts : js ≡ map (branch_judged c) bs
  pub found : new ≡ first_of old (branch_faults (map branch_parts bs) c)

-- what a function on bits gives, by the number of its first argument and by the types of all
abbrev pub bits_outcome : BitFunction → Option ℕ → List (Option Ty) → Outcome
bits_outcome function number (t ∷ (u ∷ [])) = if is_extension function then extended number t u else pair Bits t u
bits_outcome function number other = Breaks WrongType

-- all but the first of several expressions
abbrev pub behind : List Expr → List Expr
behind [] = []
behind (e ∷ es) = es

-- what is found of a function on bits
pub record JudgesOnBits (c : Context) (function : BitFunction) (es : List Expr) (old new : Option Fault) (o : Outcome) : Type 0 where
  pub outcome : o ≡ on_bits_outcome function (judged_all (map judged es) c)
  pub found : new ≡ first_of old (on_bits_inner function (judged_all (map judged es) c))

-- a selection on a value, and else what was there before
abbrev pub on_value : Place → (Option Ty → Outcome) → Standing → Standing
on_value place outcome (ValueOf t) = standing place (outcome t)
on_value place outcome other = other

-- what stands behind a selection, where its fault is told, and the first of what was noted before and of that fault
pub record Selects (c : Context) (begin : Place) (before : Standing) (s : Selection Part) (old new : Option Fault) (after : Standing) : Type 0 where
  pub told_after : after ≡ told (select c begin before s)
  pub found : new ≡ first_of old (standing_faults (select c begin before s))

-- what stands behind a selection, whose parts are judged first
abbrev pub JudgesSelection : Context → Place → Standing → Selection Expr → Option Fault → Option Fault → Standing → Type 0
JudgesSelection c begin before s old new after = Selects c begin before (selection_parts s) (first_of old (selection_inner c (selection_parts s))) new after

-- what is found of selections
abbrev pub JudgesSelections : Context → Place → Standing → List (Selection Expr) → Option Fault → Option Fault → Option Ty → Type 0
JudgesSelections c begin before ss old new t = Finds old new t (selections_faults c begin before (selections_parts ss)) (selections_type c begin before (selections_parts ss))

-- what a primary stands for, and the first of what was noted before and of the faults of its parts
pub record JudgesPrimary (c : Context) (begin : Place) (primary : Primary Expr) (old new : Option Fault) (before : Standing) : Type 0 where
  pub stands : before ≡ primary_standing c begin (primary_parts primary)
  pub found : new ≡ first_of old (primary_inner c (primary_parts primary))

-- what is found of what stands before selections, and then of them
abbrev pub JudgesTold : Context → Place → Standing → List (Selection Expr) → Option Fault → Option Fault → Option Ty → Type 0
JudgesTold c begin before ss old new t =
    Finds old new t (standing_faults before ++ selections_faults c begin (told before) (selections_parts ss)) (selections_type c begin (told before) (selections_parts ss))
