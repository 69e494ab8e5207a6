-- The faults of an expression and its type, by what its parts are judged to be.
use Rattle.std.specs.Prelude.{ℕ, Bool, true, false, not, ◌&&◌, ◌||◌, nat_eq, nat_le, if◌then◌else◌, List, [], ◌∷◌, ◌++◌, map, length, reverse, slice_index_or, Option, Some, None}
use Rattle.std.specs.List.{flat_map, find}
use Rattle.std.specs.Option.{is_some}
use Rattle.uc_lexer.specs.declared.place.Place.{Place}
use Rattle.uc_syntax.specs.declared.place.Identifier.{Identifier}
use Rattle.uc_syntax.specs.declared.expression.Expr.{Expr}
use Rattle.uc_syntax.specs.declared.expression.Expr.TheOpen.{Expr-F}
use Rattle.uc_syntax.specs.declared.expression.Expr.TheOpen.Expr-F.{If, Iff, Implies, Or, And, Compare, BitOr, BitXor, BitAnd, Concat as Concatenated, Sum, Product, Unary, Selected}
use Rattle.uc_syntax.specs.declared.expression.Expr.TheFolds.{fold-Expr}
use Rattle.uc_syntax.specs.declared.expression.Primary.{Primary}
use Rattle.uc_syntax.specs.declared.expression.Primary.TheVariants.{Truth, Number as Literal, BitsLiteral, Name, Apply, OnBits, Old, Grouped}
use Rattle.uc_syntax.specs.declared.expression.Selection.{Selection}
use Rattle.uc_syntax.specs.declared.expression.Selection.TheVariants.{Field, Copy, Element, Update, Extract}
use Rattle.uc_syntax.specs.declared.expression.Branch.{Branch}
use Rattle.uc_syntax.specs.declared.expression.UnaryOperator.{UnaryOperator}
use Rattle.uc_syntax.specs.declared.expression.UnaryOperator.TheVariants.{Negate}
use Rattle.uc_syntax.specs.declared.expression.BitFunction.{BitFunction}
use Rattle.uc_syntax.specs.declared.expression.BitFunction.TheVariants.{ZeroExtend, SignExtend}
use Rattle.uc_syntax.specs.declared.declaration.VariableKind.{VariableKind}
use Rattle.uc_syntax.specs.declared.declaration.VariableKind.TheVariants.{Constant}
use Rattle.uc_syntax.specs.declared.declaration.Module.{Module}
use Rattle.uc_syntax.specs.WrittenTypes.{labels_of}
use Rattle.uc_values.specs.declared.ty.Ty.{Ty}
use Rattle.uc_values.specs.declared.ty.Ty.TheVariants.{Bool as boolean, Int as integer, Enum as enum_type}
use Rattle.uc_meaning.specs.Lookup.{System, InstanceParts, module_named}
use Rattle.uc_rules.specs.declared.fault.Fault.{Fault}
use Rattle.uc_rules.specs.declared.rule.Rule.TheVariants.{UnknownName, WrongType, Nonlinear, BadPrime, BadCopy, AxiomState}
use Rattle.uc_rules.specs.declared.known.Known.{Known}
use Rattle.uc_rules.specs.declared.known.Role.{Role}
use Rattle.uc_rules.specs.declared.known.Role.TheVariants.{Counter}
use Rattle.uc_rules.specs.declared.outcome.Outcome.{Outcome}
use Rattle.uc_rules.specs.declared.outcome.Outcome.TheVariants.{Has, Breaks, Unjudged}
use Rattle.uc_rules.specs.declared.rows.Chain.{Chain}
use Rattle.uc_rules.specs.declared.rows.Chain.TheVariants.{Boolean, Number, Bits, Concat}
use Rattle.uc_rules.specs.Faults.{broken, breaks}
use Rattle.uc_rules.specs.Outcomes.{type_in, faults_in, outcome_of}
use Rattle.uc_rules.specs.Rows.{Fit, Suits, Misfits, Unknown, types_fit, chain_type, chain_faults, comparison, condition, same_outcome, unary, number_literal, bits_literal, extended_type, field_on, element_on, update_on, extract_on, pair}
use Rattle.uc_rules.specs.Names.{Valued, ValuedVariable, ValuedLabel, Called, CalledFunction, CalledDefine, value_named, called_named, instance_named}
use Rattle.uc_rules.specs.Types.{type_of, parameter_types}
use Rattle.uc_rules.specs.Reads.{define_reads}

-- Where an expression stands: its design and module, the names of the enclosing scopes, the innermost first, whether it stands in a next
-- block, an `ensures` or an axiom, how many copies a hyper formula has, and the names that the procedure around it may modify.
pub record Context : Type 0 where
  pub system : System
  pub home : Module
  pub bound : List Known
  pub in_next : Bool
  pub in_ensures : Bool
  pub in_axiom : Bool
  pub copies : Option ℕ
  pub modifies : Option (List ℕ)

-- What the rules say of an expression: where it begins, its faults and its type, where nothing in it is broken, whether it is a literal,
-- a negated literal or an integer loop variable, its number where it is a plain number, and its name where it is an unprimed name alone.
pub record Judged : Type 0 where
  pub place : Place
  pub faults : List Fault
  pub type : Option Ty
  pub plain : Bool
  pub number : Option ℕ
  pub name : Option ℕ

-- Parts of an expression, by what is said of them where they stand.
abbrev pub Part : Type 0
Part = Context → Judged

abbrev pub judged_all : List Part → Context → List Judged
judged_all parts c = map (λ p. p c) parts

-- What a form says of itself.
pub record Own : Type 0 where
  pub faults : List Fault
  pub type : Option Ty

abbrev pub own : Place → Outcome → Own
own place outcome = record { faults = faults_in place outcome; type = type_in outcome }

-- the faults of parts and then those of the form itself
abbrev pub judges : Place → List Fault → Own → Judged
judges place inner o = record { place = place; faults = inner ++ o.faults; type = o.type; plain = false; number = None; name = None }

abbrev pub faults_of : List Judged → List Fault
faults_of parts = flat_map (λ p. p.faults) parts

abbrev pub types_of : List Judged → List (Option Ty)
types_of parts = map (λ p. p.type) parts

-- Chains.

-- a chain of operators from the left
abbrev pub chained : Chain → List Place → List (Option Ty) → Own
chained chain marks [] = record { faults = []; type = None }
chained chain marks (t ∷ ts) = record { faults = chain_faults chain t marks ts; type = chain_type chain t marks ts }

abbrev pub chain_judged : Chain → Place → List Judged → List Place → Judged
chain_judged chain place parts marks = judges place (faults_of parts) (chained chain marks (types_of parts))

-- a chain that is grouped from the right
abbrev pub chain_from_right : Chain → Place → List Judged → List Place → Judged
chain_from_right chain place parts marks = judges place (faults_of parts) (chained chain (reverse marks) (reverse (types_of parts)))

-- An integer product may have one factor that is no literal, negated literal or loop variable. The operator before the second such factor
-- breaks the rule, where both its sides are integers; of the operators behind one that breaks a rule nothing is said.
abbrev pub times : Bool → Outcome → Outcome
times true (Has integer) = Breaks Nonlinear
times is_second o = o

-- the type of a product, grouped from the left, where such a factor may stand before
unfoldable pub product_type : Bool → Option Ty → List Place → List (Option Ty) → List Bool → Option Ty
product_type found t (m ∷ ms) (u ∷ us) (p ∷ ps) = product_type (found || not p) (type_in (times (found && not p) (pair Number t u))) ms us ps
product_type found t ms us ps = t

-- the faults of its operators, each at its token
unfoldable pub product_faults : Bool → Option Ty → List Place → List (Option Ty) → List Bool → List Fault
product_faults found t (m ∷ ms) (u ∷ us) (p ∷ ps) =
    faults_in m (times (found && not p) (pair Number t u)) ++ product_faults (found || not p) (type_in (times (found && not p) (pair Number t u))) ms us ps
product_faults found t ms us ps = []

-- a product, by the types of its factors and by which of them are literals, negated literals or loop variables
abbrev pub product_own : List Place → List (Option Ty) → List Bool → Own
product_own marks (t ∷ ts) (p ∷ ps) = record { faults = product_faults (not p) t marks ts ps; type = product_type (not p) t marks ts ps }
product_own marks ts ps = record { faults = []; type = None }

abbrev pub product_judged : Place → List Judged → List Place → Judged
product_judged place parts marks = judges place (faults_of parts) (product_own marks (types_of parts) (map (λ p. p.plain) parts))

abbrev pub is_integer : Option Ty → Bool
is_integer (Some integer) = true
is_integer other = false

-- Conditionals.

abbrev pub kept_where : Option Ty → Option Ty → Option Ty
kept_where (Some c) t = t
kept_where None t = None

-- `if c then x else y`: the condition at its own first token, the types of x and y at the `if`
abbrev pub conditional : Place → Judged → Judged → Own → Own
conditional place c x y = record {
  faults = faults_in c.place (condition c.type) ++ (faults_in place (same_outcome x.type y.type) ++ y.faults);
  type = kept_where (type_in (condition c.type)) (type_in (same_outcome x.type y.type));
}

-- a chain of `else if`, each `if` with all that follows it
abbrev pub branches : List (Branch Part) → Judged → Context → Own
branches [] otherwise c = record { faults = []; type = otherwise.type }
branches (b ∷ bs) otherwise c = conditional b.place (b.condition c) (b.value c) (branches bs otherwise c)

abbrev pub branch_faults : List (Branch Part) → Context → List Fault
branch_faults bs c = flat_map (λ b. (b.condition c).faults ++ (b.value c).faults) bs

abbrev pub if_judged : Place → List (Branch Part) → Judged → Context → Judged
if_judged place bs otherwise c = judges place (branch_faults bs c ++ otherwise.faults) (branches bs otherwise c)

-- Names.

-- What stands before a selection: a value, with its type where it has one; a variable, input or output, which a copy's number may follow;
-- an instance, whose name stands at a place and which one of its names must follow; a fault; or something that is broken already.
pub data Standing : Type 0 where
  ValueOf : Option Ty → Standing
  StateOf : Option Ty → Standing
  Inside : Place → Module → Standing
  Wrong : Fault → Standing
  Broken : Standing

abbrev pub standing : Place → Outcome → Standing
standing place (Has t) = ValueOf (Some t)
standing place (Breaks rule) = Wrong (broken rule place)
standing place Unjudged = ValueOf None

-- the number of an enum, and how many labels it has
abbrev pub enum_of : System → ℕ → Ty
enum_of system e = enum_type e (length (slice_index_or (labels_of system.modules) e []))

-- a prime stands in a next block alone, on a variable, input or output
abbrev pub variable_standing : Context → Place → Bool → VariableKind → Option Ty → Standing
variable_standing c begin primed Constant t = if primed then Wrong (broken BadPrime begin) else ValueOf t
variable_standing c begin primed kind t = if primed && not c.in_next then Wrong (broken BadPrime begin) else StateOf t

abbrev pub unprimed : Place → Bool → Standing → Standing
unprimed begin true s = Wrong (broken BadPrime begin)
unprimed begin false s = s

abbrev pub valued_standing : Context → Place → Bool → Valued → Standing
valued_standing c begin primed (ValuedVariable kind type) = variable_standing c begin primed kind (type_of c.system c.home type)
valued_standing c begin primed (ValuedLabel e) = unprimed begin primed (ValueOf (Some (enum_of c.system e)))

-- an instance of a module that isn't there is broken where it is declared
abbrev pub inside : Place → Option Module → Standing
inside place (Some m) = Inside place m
inside place None = Broken

abbrev pub instance_standing : System → Place → Option InstanceParts → Standing
instance_standing system place None = Wrong (broken UnknownName place)
instance_standing system place (Some i) = inside place (module_named system i.module_name)

abbrev pub instance_or_nothing : Context → Place → Bool → Option InstanceParts → Standing
instance_or_nothing c begin primed None = Wrong (broken UnknownName begin)
instance_or_nothing c begin primed (Some i) = unprimed begin primed (instance_standing c.system begin (Some i))

abbrev pub module_standing : Context → Place → ℕ → Bool → Option Valued → Standing
module_standing c begin x primed (Some v) = valued_standing c begin primed v
module_standing c begin x primed None = instance_or_nothing c begin primed (instance_named c.system c.home x)

abbrev pub bound_named : Context → ℕ → Option Known
bound_named c x = find (λ k. nat_eq k.name x) c.bound

abbrev pub bound_standing : Context → Place → ℕ → Bool → Option Known → Standing
bound_standing c begin x primed (Some k) = unprimed begin primed (ValueOf k.ty)
bound_standing c begin x primed None = module_standing c begin x primed (value_named c.system c.home x)

-- a name: one of an enclosing scope, else one of the module
abbrev pub name_standing : Context → Place → ℕ → Bool → Standing
name_standing c begin x primed = bound_standing c begin x primed (bound_named c x)

-- `old(x)` stands in an `ensures` alone, on a variable, input or output
abbrev pub old_variable : Place → VariableKind → Option Ty → Standing
old_variable begin Constant t = Wrong (broken BadPrime begin)
old_variable begin kind t = ValueOf t

abbrev pub old_instance : Place → Identifier → Option InstanceParts → Standing
old_instance begin x None = Wrong (broken UnknownName x.place)
old_instance begin x (Some i) = Wrong (broken BadPrime begin)

abbrev pub old_valued : Context → Place → Identifier → Option Valued → Standing
old_valued c begin x (Some (ValuedVariable kind type)) = old_variable begin kind (type_of c.system c.home type)
old_valued c begin x (Some (ValuedLabel e)) = Wrong (broken BadPrime begin)
old_valued c begin x None = old_instance begin x (instance_named c.system c.home x.name)

abbrev pub old_bound : Context → Place → Identifier → Option Known → Standing
old_bound c begin x (Some k) = Wrong (broken BadPrime begin)
old_bound c begin x None = old_valued c begin x (value_named c.system c.home x.name)

abbrev pub old_standing : Context → Place → Identifier → Standing
old_standing c begin x = if c.in_ensures then old_bound c begin x (bound_named c x.name) else Wrong (broken BadPrime begin)

-- Applications.

-- the number of arguments is judged whatever their types
abbrev pub fit_outcome : Option Ty → Fit → Outcome
fit_outcome result Suits = outcome_of result
fit_outcome result Misfits = Breaks WrongType
fit_outcome result Unknown = Unjudged

abbrev pub applied : Option Ty → List (Option Ty) → List (Option Ty) → Outcome
applied result ps ts = if nat_eq (length ps) (length ts) then fit_outcome result (types_fit ps ts) else Breaks WrongType

-- a define that reads state stands in no hyper formula and in no axiom
abbrev pub where_state_is_read : Context → Outcome → Outcome
where_state_is_read c (Breaks rule) = Breaks rule
where_state_is_read c other = if c.in_axiom then Breaks AxiomState else (if is_some c.copies then Breaks BadCopy else other)

abbrev pub called_outcome : Context → ℕ → Option Called → List (Option Ty) → Outcome
called_outcome c f None ts = Breaks UnknownName
called_outcome c f (Some (CalledFunction s)) ts = applied (type_of c.system c.home s.type) (parameter_types c.system c.home s.parameters) ts
called_outcome c f (Some (CalledDefine d)) ts =
    (if define_reads c.system c.home f then where_state_is_read c else (λ o. o))
    (applied (type_of c.system c.home d.type) (parameter_types c.system c.home d.parameters) ts)

-- Functions on bits.

abbrev pub is_extension : BitFunction → Bool
is_extension ZeroExtend = true
is_extension SignExtend = true
is_extension shift = false

abbrev pub extended : Option ℕ → Option Ty → Option Ty → Outcome
extended (Some n) t (Some u) = extended_type n u
extended None (Some t) (Some u) = Breaks WrongType
extended n t u = Unjudged

abbrev pub on_bits_outcome : BitFunction → List Judged → Outcome
on_bits_outcome function (n ∷ (e ∷ [])) = if is_extension function then extended n.number n.type e.type else pair Bits n.type e.type
on_bits_outcome function other = Breaks WrongType

-- the number of an extension is no expression of type integer, so no fault of a literal is in it
abbrev pub number_faults : Bool → Judged → List Fault
number_faults extension n = if extension && is_some n.number then [] else n.faults

abbrev pub on_bits_inner : BitFunction → List Judged → List Fault
on_bits_inner function [] = []
on_bits_inner function (n ∷ es) = number_faults (is_extension function) n ++ faults_of es

-- Primaries and selections.

abbrev pub primary_inner : Context → Primary Part → List Fault
primary_inner c (Apply f arguments) = faults_of (judged_all arguments c)
primary_inner c (OnBits function arguments) = on_bits_inner function (judged_all arguments c)
primary_inner c (Grouped e) = (e c).faults
primary_inner c other = []

abbrev pub primary_standing : Context → Place → Primary Part → Standing
primary_standing c begin (Truth b) = ValueOf (Some boolean)
primary_standing c begin (Literal n) = standing begin (number_literal n)
primary_standing c begin (BitsLiteral n w) = standing begin (bits_literal n w)
primary_standing c begin (Name x primed) = name_standing c begin x primed
primary_standing c begin (Apply f arguments) = standing begin (called_outcome c f (called_named c.system c.home f) (types_of (judged_all arguments c)))
primary_standing c begin (OnBits function arguments) = standing begin (on_bits_outcome function (judged_all arguments c))
primary_standing c begin (Old x) = old_standing c begin x
primary_standing c begin (Grouped e) = ValueOf (e c).type

-- a variable, input or output without a copy's number: not in a hyper formula, and never in an axiom
abbrev pub read_state : Context → Place → Option Ty → Standing
read_state c begin t =
    if c.in_axiom then Wrong (broken AxiomState begin) else (if is_some c.copies then Wrong (broken BadCopy begin) else ValueOf t)

-- what is read where no copy's number and no name of an instance follows
abbrev pub read : Context → Place → Standing → Standing
read c begin (StateOf t) = read_state c begin t
read c begin (Inside place m) = Wrong (broken UnknownName place)
read c begin other = other

-- a name of an instance: a variable, input or output of its module, or an instance in it
abbrev pub member_variable : Place → VariableKind → Option Ty → Standing
member_variable place Constant t = Wrong (broken UnknownName place)
member_variable place kind t = StateOf t

abbrev pub member_valued : Context → Place → Module → ℕ → Option Valued → Standing
member_valued c place m y (Some (ValuedVariable kind type)) = member_variable place kind (type_of c.system m type)
member_valued c place m y (Some (ValuedLabel e)) = Wrong (broken UnknownName place)
member_valued c place m y None = instance_standing c.system place (instance_named c.system m y)

abbrev pub member : Context → Place → Module → ℕ → Standing
member c place m y = member_valued c place m y (value_named c.system m y)

-- a copy's number is from 1 to the number of copies of a hyper formula
abbrev pub in_copies : Option ℕ → ℕ → Bool
in_copies None k = false
in_copies (Some n) k = nat_le 1 k && nat_le k n

abbrev pub copied : Context → Place → Place → Option Ty → ℕ → Standing
copied c begin place t k =
    if c.in_axiom then Wrong (broken AxiomState begin) else (if in_copies c.copies k then ValueOf t else Wrong (broken BadCopy place))

-- a selection on a value; a copy's number stands on a variable, input or output alone
abbrev pub selection_outcome : Context → Option Ty → Selection Part → Outcome
selection_outcome c t (Field place f) = field_on t f.name
selection_outcome c t (Element place i) = element_on t (i c).type
selection_outcome c t (Update place i v) = update_on t (i c).type (v c).type
selection_outcome c t (Extract place hi lo) = extract_on t hi lo
selection_outcome c t (Copy place k) = Breaks BadCopy

abbrev pub selection_place : {A : Type 0} → Selection A → Place
selection_place (Field place f) = place
selection_place (Copy place k) = place
selection_place (Element place i) = place
selection_place (Update place i v) = place
selection_place (Extract place hi lo) = place

abbrev pub selection_inner : Context → Selection Part → List Fault
selection_inner c (Element place i) = (i c).faults
selection_inner c (Update place i v) = (i c).faults ++ (v c).faults
selection_inner c other = []

abbrev pub select_value : Context → Standing → Selection Part → Standing
select_value c (ValueOf t) s = standing (selection_place s) (selection_outcome c t s)
select_value c other s = other

-- what stands behind a selection
abbrev pub select : Context → Place → Standing → Selection Part → Standing
select c begin (Inside p m) (Field place y) = member c place m y.name
select c begin (Inside p m) (Copy place k) = Wrong (broken BadCopy place)
select c begin (StateOf t) (Copy place k) = copied c begin place t k
select c begin before s = select_value c (read c begin before) s

abbrev pub standing_faults : Standing → List Fault
standing_faults (Wrong f) = f ∷ []
standing_faults other = []

-- a fault is told once
abbrev pub told : Standing → Standing
told (Wrong f) = Broken
told other = other

abbrev pub standing_type : Standing → Option Ty
standing_type (ValueOf t) = t
standing_type other = None

-- selections from left to right, and what is read in the end
unfoldable pub selections_faults : Context → Place → Standing → List (Selection Part) → List Fault
selections_faults c begin before [] = standing_faults (read c begin before)
selections_faults c begin before (s ∷ ss) =
    (selection_inner c s ++ standing_faults (select c begin before s)) ++ selections_faults c begin (told (select c begin before s)) ss

unfoldable pub selections_type : Context → Place → Standing → List (Selection Part) → Option Ty
selections_type c begin before [] = standing_type (read c begin before)
selections_type c begin before (s ∷ ss) = selections_type c begin (told (select c begin before s)) ss

abbrev pub is_counter : Role → Bool
is_counter Counter = true
is_counter other = false

abbrev pub is_integer_counter : Option Known → Bool
is_integer_counter (Some k) = is_counter k.role && is_integer k.ty
is_integer_counter None = false

-- a literal or an integer loop variable
abbrev pub is_plain : Context → Primary Part → List (Selection Part) → Bool
is_plain c (Literal n) [] = true
is_plain c (Name x false) [] = is_integer_counter (bound_named c x)
is_plain c other ss = false

abbrev pub number_in : Primary Part → List (Selection Part) → Option ℕ
number_in (Literal n) [] = Some n
number_in other ss = None

abbrev pub name_in : Primary Part → List (Selection Part) → Option ℕ
name_in (Name x false) [] = Some x
name_in other ss = None

abbrev pub selected : Place → Primary Part → List (Selection Part) → Context → Judged
selected place primary selections c = record {
  place = place;
  faults =
      (primary_inner c primary ++ standing_faults (primary_standing c place primary))
      ++ selections_faults c place (told (primary_standing c place primary)) selections;
  type = selections_type c place (told (primary_standing c place primary)) selections;
  plain = is_plain c primary selections;
  number = number_in primary selections;
  name = name_in primary selections;
}

abbrev pub is_negation : UnaryOperator → Bool
is_negation Negate = true
is_negation other = false

abbrev pub unary_judged : Place → UnaryOperator → Judged → Judged
unary_judged place operator e = record {
  place = place;
  faults = e.faults ++ faults_in place (unary operator e.type);
  type = type_in (unary operator e.type);
  plain = is_negation operator && is_some e.number;
  number = None;
  name = None;
}

-- an expression, by what its parts are judged to be
abbrev pub judged_form : Expr-F Part → Part
judged_form (If place bs otherwise) c = if_judged place bs (otherwise c) c
judged_form (Iff place parts marks) c = chain_judged Boolean place (judged_all parts c) marks
judged_form (Implies place parts marks) c = chain_from_right Boolean place (judged_all parts c) marks
judged_form (Or place parts marks) c = chain_judged Boolean place (judged_all parts c) marks
judged_form (And place parts marks) c = chain_judged Boolean place (judged_all parts c) marks
judged_form (Compare place how mark a b) c = judges place ((a c).faults ++ (b c).faults) (own mark (comparison how (a c).type (b c).type))
judged_form (BitOr place parts marks) c = chain_judged Bits place (judged_all parts c) marks
judged_form (BitXor place parts marks) c = chain_judged Bits place (judged_all parts c) marks
judged_form (BitAnd place parts marks) c = chain_judged Bits place (judged_all parts c) marks
judged_form (Concatenated place parts marks) c = chain_judged Concat place (judged_all parts c) marks
judged_form (Sum place parts signs) c = chain_judged Number place (judged_all parts c) (map (λ s. s.place) signs)
judged_form (Product place parts marks) c = product_judged place (judged_all parts c) marks
judged_form (Unary place operator e) c = unary_judged place operator (e c)
judged_form (Selected place primary selections) c = selected place primary selections c

unfoldable pub judged : Expr → Part
judged = fold-Expr Part judged_form

-- a condition or a formula where it stands: a boolean, else a fault at its first token
abbrev pub condition_faults : Context → Expr → List Fault
condition_faults c e = (judged e c).faults ++ faults_in (judged e c).place (condition (judged e c).type)
