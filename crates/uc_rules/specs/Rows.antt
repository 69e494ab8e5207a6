-- The rows of the type table: what the operators make of the types of their operands.
use Rattle.std.specs.Prelude.{ℕ, ◌+◌, ◌-◌, ◌^◌, Bool, true, false, ◌&&◌, nat_eq, nat_lt, nat_le, if◌then◌else◌, List, [], ◌∷◌, ◌++◌, Option, Some, None}
use Rattle.std.specs.List.{find}
use Rattle.std.specs.Option.{is_some}
use Rattle.uc_lexer.specs.declared.place.Place.{Place}
use Rattle.uc_syntax.specs.declared.expression.Comparison.{Comparison}
use Rattle.uc_syntax.specs.declared.expression.Comparison.TheVariants.{Equal, Unequal, Less, AtMost, Greater, AtLeast}
use Rattle.uc_syntax.specs.declared.expression.UnaryOperator.{UnaryOperator}
use Rattle.uc_syntax.specs.declared.expression.UnaryOperator.TheVariants.{Not, Negate, Complement}
use Rattle.uc_values.specs.declared.ty.Ty.{Ty}
use Rattle.uc_values.specs.declared.ty.Field.{Field as TyField}
use Rattle.uc_values.specs.declared.ty.Ty.TheVariants.{Bool as boolean, Int as integer, Bv as bits}
use Rattle.uc_values.specs.declared.ty.Ty.TheOpen.{Ty-F}
use Rattle.uc_values.specs.declared.ty.Ty.TheViews.{out-Ty}
use Rattle.uc_values.specs.declared.ty.Ty.TheOpen.Ty-F.{Rec as record_of, Arr as array_of}
use Rattle.uc_values.specs.Types.{is_scalar, is_flat}
use Rattle.uc_rules.specs.declared.fault.Fault.{Fault}
use Rattle.uc_rules.specs.declared.rule.Rule.TheVariants.{UnknownName, WrongType, WideLiteral, BadWidth}
use Rattle.uc_rules.specs.declared.outcome.Outcome.{Outcome}
use Rattle.uc_rules.specs.declared.outcome.Outcome.TheVariants.{Has, Breaks, Unjudged}
use Rattle.uc_rules.specs.declared.rows.Chain.{Chain}
use Rattle.uc_rules.specs.declared.rows.Chain.TheVariants.{Boolean, Number, Bits, Concat}
use Rattle.uc_rules.specs.Outcomes.{type_in, faults_in}
use Rattle.uc_rules.specs.Same.{same_type}

-- Operators in chains.

-- `&& || <==> ==>`: two booleans
abbrev pub two_booleans : Ty → Ty → Outcome
two_booleans boolean boolean = Has boolean
two_booleans t u = Breaks WrongType

-- `& | ^`: two of one width
abbrev pub two_bits : Ty → Ty → Outcome
two_bits (bits w) (bits v) = if nat_eq w v then Has (bits w) else Breaks WrongType
two_bits t u = Breaks WrongType

-- `+ - *`: two integers, or two of one width
abbrev pub two_numbers : Ty → Ty → Outcome
two_numbers integer integer = Has integer
two_numbers (bits w) (bits v) = if nat_eq w v then Has (bits w) else Breaks WrongType
two_numbers t u = Breaks WrongType

-- `++`: widths add, up to 64
abbrev pub two_widths : Ty → Ty → Outcome
two_widths (bits w) (bits v) = if nat_lt 64 (w + v) then Breaks BadWidth else Has (bits (w + v))
two_widths t u = Breaks WrongType

abbrev pub joined : Chain → Ty → Ty → Outcome
joined Boolean t u = two_booleans t u
joined Number t u = two_numbers t u
joined Bits t u = two_bits t u
joined Concat t u = two_widths t u

abbrev pub pair : Chain → Option Ty → Option Ty → Outcome
pair chain (Some t) (Some u) = joined chain t u
pair chain t u = Unjudged

-- the type of a chain, grouped from the left
unfoldable pub chain_type : Chain → Option Ty → List Place → List (Option Ty) → Option Ty
chain_type chain t (m ∷ ms) (u ∷ us) = chain_type chain (type_in (pair chain t u)) ms us
chain_type chain t ms us = t

-- the faults of the operators of a chain, each at its token
unfoldable pub chain_faults : Chain → Option Ty → List Place → List (Option Ty) → List Fault
chain_faults chain t (m ∷ ms) (u ∷ us) = faults_in m (pair chain t u) ++ chain_faults chain (type_in (pair chain t u)) ms us
chain_faults chain t ms us = []

-- Comparisons. All give a boolean.

-- `== !=`: two of one type
abbrev pub two_alike : Ty → Ty → Outcome
two_alike t u = if same_type t u then Has boolean else Breaks WrongType

-- `< <= > >=`: two integers, or two of one width
abbrev pub two_ordered : Ty → Ty → Outcome
two_ordered integer integer = Has boolean
two_ordered (bits w) (bits v) = if nat_eq w v then Has boolean else Breaks WrongType
two_ordered t u = Breaks WrongType

-- `<_u <=_u >_u >=_u`: two of one width
abbrev pub two_unsigned : Ty → Ty → Outcome
two_unsigned (bits w) (bits v) = if nat_eq w v then Has boolean else Breaks WrongType
two_unsigned t u = Breaks WrongType

-- by its sign, each of two values of one type
abbrev pub compared : Comparison → Ty → Ty → Outcome
compared Equal t u = two_alike t u
compared Unequal t u = two_alike t u
compared Less t u = two_ordered t u
compared AtMost t u = two_ordered t u
compared Greater t u = two_ordered t u
compared AtLeast t u = two_ordered t u
compared unsigned t u = two_unsigned t u

abbrev pub comparison : Comparison → Option Ty → Option Ty → Outcome
comparison how (Some t) (Some u) = compared how t u
comparison how t u = Unjudged

-- Operators of one operand, conditions and choices.

-- `!`: a boolean
abbrev pub inverted : Ty → Outcome
inverted boolean = Has boolean
inverted t = Breaks WrongType

-- unary `-`: an integer or a bit-vector
abbrev pub negated : Ty → Outcome
negated integer = Has integer
negated (bits w) = Has (bits w)
negated t = Breaks WrongType

-- `~`: a bit-vector
abbrev pub complemented : Ty → Outcome
complemented (bits w) = Has (bits w)
complemented t = Breaks WrongType

abbrev pub with_operator : UnaryOperator → Ty → Outcome
with_operator Not t = inverted t
with_operator Negate t = negated t
with_operator Complement t = complemented t

abbrev pub unary : UnaryOperator → Option Ty → Outcome
unary operator (Some t) = with_operator operator t
unary operator None = Unjudged

-- a condition or a formula: a boolean
abbrev pub condition : Option Ty → Outcome
condition (Some boolean) = Has boolean
condition (Some other) = Breaks WrongType
condition None = Unjudged

-- two of one type, which is the type of both
abbrev pub same_outcome : Option Ty → Option Ty → Outcome
same_outcome (Some t) (Some u) = if same_type t u then Has t else Breaks WrongType
same_outcome t u = Unjudged

-- Literals.

-- an integer literal is below 2^127
abbrev pub number_literal : ℕ → Outcome
number_literal n = if nat_lt n (2 ^ 127) then Has integer else Breaks WideLiteral

-- a width is from 1 to 64
abbrev pub is_width : ℕ → Bool
is_width w = nat_lt 0 w && nat_lt w 65

abbrev pub width_outcome : ℕ → Outcome
width_outcome w = if is_width w then Has (bits w) else Breaks BadWidth

-- a bit-vector literal's width is from 1 to 64, and its value is below 2^width
abbrev pub bits_literal : ℕ → ℕ → Outcome
bits_literal n w = if is_width w && nat_lt n (2 ^ w) then Has (bits w) else Breaks BadWidth

-- Functions on bits.

-- an extension adds its number to the width, up to 64
abbrev pub extended_type : ℕ → Ty → Outcome
extended_type n (bits w) = if nat_lt 64 (w + n) then Breaks BadWidth else Has (bits (w + n))
extended_type n other = Breaks WrongType

-- Selections.

abbrev pub field_there : Option (TyField Ty) → Outcome
field_there (Some d) = Has d.ty
field_there None = Breaks UnknownName

-- `r.f`: a field of a record
abbrev pub field_outcome : ℕ → Ty-F Ty → Outcome
field_outcome f (record_of fields) = field_there (find (λ d. nat_eq f d.name) fields)
field_outcome f other = Breaks UnknownName

-- `a[i]`: an array, and an index of its index type
abbrev pub element_outcome : Ty-F Ty → Ty → Outcome
element_outcome (array_of index element) i = if same_type i index then Has element else Breaks WrongType
element_outcome other i = Breaks WrongType

-- `a[i -> v]`: an array, an index of its index type and a value of its element type
abbrev pub update_outcome : Ty → Ty-F Ty → Ty → Ty → Outcome
update_outcome t (array_of index element) i v = if same_type i index && same_type v element then Has t else Breaks WrongType
update_outcome t other i v = Breaks WrongType

-- `e[hi:lo]`: a bit-vector of a width above hi, and hi is at least lo
abbrev pub extract_outcome : ℕ → ℕ → Ty → Outcome
extract_outcome hi lo (bits w) = if nat_lt hi w && nat_le lo hi then Has (bits (hi - lo + 1)) else Breaks BadWidth
extract_outcome hi lo other = Breaks WrongType

abbrev pub field_on : Option Ty → ℕ → Outcome
field_on (Some t) f = field_outcome f (out-Ty t)
field_on None f = Unjudged

abbrev pub element_on : Option Ty → Option Ty → Outcome
element_on (Some t) (Some i) = element_outcome (out-Ty t) i
element_on t i = Unjudged

abbrev pub update_on : Option Ty → Option Ty → Option Ty → Outcome
update_on (Some t) (Some i) (Some v) = update_outcome t (out-Ty t) i v
update_on t i v = Unjudged

abbrev pub extract_on : Option Ty → ℕ → ℕ → Outcome
extract_on (Some t) hi lo = extract_outcome hi lo t
extract_on None hi lo = Unjudged

-- Written types.

-- an array's index is a scalar, and its element a scalar or a record of scalars
abbrev pub array_shape : Ty → Ty → Bool
array_shape index element = is_scalar index && is_flat element

-- Arguments, targets and values, which have the types that are asked for.

-- both have a type, and it is the same
abbrev pub suits : Option Ty → Option Ty → Bool
suits (Some t) (Some p) = same_type t p
suits t p = false

-- each has a type
abbrev pub all_judged : List (Option Ty) → Bool
all_judged [] = true
all_judged (t ∷ ts) = is_some t && all_judged ts

-- the types of two lists of one length are the same, one by one
abbrev pub all_suit : List (Option Ty) → List (Option Ty) → Bool
all_suit (p ∷ ps) (t ∷ ts) = suits t p && all_suit ps ts
all_suit ps ts = true

-- Whether the types of values are those that are asked for, one by one; unknown where one of either has no type. That they are as many is asked apart.
pub data Fit : Type 0 where
  Suits : Fit
  Misfits : Fit
  Unknown : Fit

-- one type that is not known leaves the whole open, so that no fault is told for what was at fault before
abbrev pub types_fit : List (Option Ty) → List (Option Ty) → Fit
types_fit ps ts = if all_judged ps && all_judged ts then (if all_suit ps ts then Suits else Misfits) else Unknown
