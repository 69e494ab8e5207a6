-- The value of an expression in a scope.
use Rattle.std.specs.Prelude.{ℕ, zero, suc, pos, ◌+◌, ◌-◌, Bool, true, false, nat_eq, if◌then◌else◌, List, [], ◌∷◌, ◌++◌, map, length, slice_index_or, slice_get, Option, Some, None, unwrap_or}
use Rattle.std.specs.Option.{option_map, option_and_then}
use Rattle.std.specs.List.{find, position_from}
use Rattle.uc_syntax.specs.declared.type_expression.Parameter.{Parameter}
use Rattle.uc_syntax.specs.declared.type_expression.TypeExpr.{TypeExpr}
use Rattle.uc_syntax.specs.declared.expression.Expr.{Expr}
use Rattle.uc_syntax.specs.declared.expression.Expr.TheOpen.{Expr-F}
use Rattle.uc_syntax.specs.declared.expression.Expr.TheOpen.Expr-F.{If, Iff, Implies, Or, And, Compare, BitOr, BitXor, BitAnd, Concat, Sum, Product, Unary, Selected}
use Rattle.uc_syntax.specs.declared.expression.Expr.TheFolds.{fold-Expr}
use Rattle.uc_syntax.specs.declared.expression.Primary.{Primary}
use Rattle.uc_syntax.specs.declared.expression.Primary.TheVariants.{Truth, Number, BitsLiteral, Name, Apply, OnBits, Old, Grouped}
use Rattle.uc_syntax.specs.declared.expression.Branch.{Branch}
use Rattle.uc_syntax.specs.declared.expression.Selection.{Selection}
use Rattle.uc_syntax.specs.declared.expression.Selection.TheVariants.{Field, Copy, Element, Update, Extract}
use Rattle.uc_syntax.specs.declared.expression.BitFunction.{BitFunction}
use Rattle.uc_syntax.specs.declared.expression.BitFunction.TheVariants.{ZeroExtend, SignExtend}
use Rattle.uc_syntax.specs.declared.declaration.VariableKind.{VariableKind}
use Rattle.uc_syntax.specs.declared.declaration.VariableKind.TheVariants.{Variable, Constant}
use Rattle.uc_syntax.specs.declared.declaration.Module.{Module}
use Rattle.uc_values.specs.declared.ty.Ty.{Ty}
use Rattle.uc_values.specs.declared.ty.Ty.TheOpen.{Ty-F}
use Rattle.uc_values.specs.declared.ty.Ty.TheOpen.Ty-F.{Bv as bits_of, Rec as record_of, Arr as array_of}
use Rattle.uc_values.specs.declared.ty.Ty.TheViews.{out-Ty}
use Rattle.uc_values.specs.declared.ty.Ty.TheVariants.{Bool as boolean_type, Int as integer_type, Bv as bits_type, Enum as enum_type}
use Rattle.uc_values.specs.declared.ty.Field.{Field as TyField}
use Rattle.uc_values.specs.declared.value.Value.{Value}
use Rattle.uc_values.specs.declared.value.Value.TheVariants.{Bool as truth, Int as whole, Bv as word, Enum as label}
use Rattle.uc_values.specs.declared.table.Table.{Table}
use Rattle.uc_values.specs.Values.{parts_of}
use Rattle.uc_values.specs.Operators.{bv_and, bv_or, bv_xor}
use Rattle.uc_values.specs.Arrays.{at, store}
use Rattle.uc_values.specs.Tables.{result_of}
use Rattle.uc_meaning.specs.declared.scope.Scope.{Scope}
use Rattle.uc_meaning.specs.declared.scope.State.{State}
use Rattle.uc_meaning.specs.declared.scope.Local.{Local}
use Rattle.uc_meaning.specs.Lookup.{System, Defined, Signature, InstanceParts, module_at, parent_of, variable_of, define_of, function_of, instance_of, bound_to}
use Rattle.uc_syntax.specs.WrittenTypes.{labels_of}
use Rattle.uc_meaning.specs.Types.{type_of_written, label_of}
use Rattle.uc_meaning.specs.Cells.{longest_chain, cell_of, constant_number, function_number}
use Rattle.uc_meaning.specs.Operators.{holds, any_holds, all_hold, implied, equivalent, chained, product, summed, concatenated, unary, compared, extracted, on_bits}

-- What an expression says in a scope: its type and its value.
pub record Reading : Type 0 where
  pub type : Ty
  pub value : Value

abbrev pub reads : Ty → Value → Reading
reads t v = record { type = t; value = v }

abbrev pub reads_truth : Bool → Reading
reads_truth b = reads boolean_type (truth b)

-- for what no accepted design has
abbrev pub reads_nothing : Reading
reads_nothing = reads_truth false

-- Parts of an expression, by what they say in each scope.
abbrev pub Part : Type 0
Part = Scope → Reading

-- How expressions elsewhere in the design are read: bodies of defines, and what is bound to inputs and outputs.
abbrev pub Elsewhere : Type 0
Elsewhere = Scope → Expr → Reading

abbrev pub values : List Part → Scope → List Value
values parts s = map (λ p. (p s).value) parts

-- the type of a chain, but of `++`: that of its first part
abbrev pub first_type : List Part → Scope → Ty
first_type [] s = boolean_type
first_type (p ∷ ps) s = (p s).type

abbrev pub width_form : Ty-F Ty → ℕ
width_form (bits_of w) = w
width_form other = 0

abbrev pub width : Ty → ℕ
width t = width_form (out-Ty t)

unfoldable pub total_width : List Part → Scope → ℕ
total_width [] s = 0
total_width (p ∷ ps) s = width (p s).type + total_width ps s

-- the new state in place of the old one where a name is primed
abbrev pub state_in : Scope → Bool → State
state_in s false = s.before
state_in s true = unwrap_or s.after s.before

abbrev pub at_state : Scope → State → Scope
at_state s state = record s { before = state }

-- the scope of an instance or of a parent: another path, and no locals
abbrev pub at_path : Scope → List ℕ → Scope
at_path s path = record s { path = path; locals = [] }

-- the scope of a copy, by its number from 1
abbrev pub at_copy : Scope → ℕ → Scope
at_copy s k = at_state s (slice_index_or s.copies (k - 1) s.before)

-- the scope of `old`: the entry state in place of the present one
abbrev pub at_entry : Scope → Scope
at_entry s = at_state s (unwrap_or s.at_entry s.before)

abbrev pub local_of : Scope → ℕ → Option Local
local_of s x = find (λ l. nat_eq l.name x) s.locals

-- what a cell holds
abbrev pub in_cell : State → Option ℕ → Value
in_cell state cell = unwrap_or (option_and_then (slice_get state.cells) cell) (truth false)

-- the expression that the parent of an instance binds to a name, and the path of the parent
abbrev pub binding_from : System → ℕ → Option (List ℕ × ℕ) → Option (List ℕ × Expr)
binding_from system x None = None
binding_from system x (Some p) =
    option_map (λ e. (p.0, e)) (option_and_then (λ i. bound_to i x) (option_and_then (λ m. instance_of m p.1) (module_at system p.0)))

abbrev pub binding_of : System → List ℕ → ℕ → Option (List ℕ × Expr)
binding_of system path x = binding_from system x (parent_of path)

-- What a name stands for: a value, a cell in a state, or an expression that is read in another scope.
pub data Source : Type 0 where
  OfValue : Value → Source
  OfCell : State → Option ℕ → Source
  OfBinding : Scope → Expr → Source

pub record Meant : Type 0 where
  pub type : Ty
  pub source : Source

abbrev pub means : Ty → Source → Meant
means t source = record { type = t; source = source }

-- for what no accepted design has
abbrev pub means_nothing : Meant
means_nothing = means boolean_type (OfValue (truth false))

-- A cell is read in the old state, and primed in the new one; a bound name is what is bound, in the parent, with the new state in place of the old where it is primed.
abbrev pub cell_source : System → Scope → ℕ → Bool → Option (List ℕ × Expr) → Source
cell_source system s x primed None = OfCell (state_in s primed) (cell_of system s.path x)
cell_source system s x primed (Some b) = OfBinding (at_path (at_state s (state_in s primed)) b.0) b.1

-- how a declared name is read: a constant by the interpretation, a variable by its own cell, an input or an output by what is bound to it, else by a cell
abbrev pub variable_source : System → Scope → Module → ℕ → Bool → VariableKind → Source
variable_source system s m x primed Constant = OfValue (slice_index_or s.interp.consts (constant_number system m x) (truth false))
variable_source system s m x primed Variable = cell_source system s x primed None
variable_source system s m x primed kind = cell_source system s x primed (binding_of system s.path x)

abbrev pub declared_meaning : System → Scope → Module → ℕ → Bool → Option (VariableKind × TypeExpr) → Meant
declared_meaning system s m x primed None = means_nothing
declared_meaning system s m x primed (Some d) = means (type_of_written system m d.1) (variable_source system s m x primed d.0)

abbrev pub label_count : System → ℕ → ℕ
label_count system e = length (slice_index_or (labels_of system.modules) e [])

abbrev pub module_meaning : System → Scope → ℕ → Bool → Module → Option (ℕ × ℕ) → Meant
module_meaning system s x primed m (Some l) = means (enum_type l.0 (label_count system l.0)) (OfValue (label l.0 l.1))
module_meaning system s x primed m None = declared_meaning system s m x primed (variable_of m x)

abbrev pub global_meaning : System → Scope → ℕ → Bool → Option Module → Meant
global_meaning system s x primed None = means_nothing
global_meaning system s x primed (Some m) = module_meaning system s x primed m (label_of system m x)

-- a name: a local, else a label, a constant, or a variable, input or output of the module
abbrev pub name_meaning : System → Scope → ℕ → Bool → Option Local → Meant
name_meaning system s x primed (Some l) = means l.ty (OfValue l.value)
name_meaning system s x primed None = global_meaning system s x primed (module_at system s.path)

unfoldable pub meaning_of : System → Scope → ℕ → Bool → Meant
meaning_of system s x primed = name_meaning system s x primed (local_of s x)

-- what a source holds
abbrev pub held : Elsewhere → Source → Value
held elsewhere (OfValue v) = v
held elsewhere (OfCell state cell) = in_cell state cell
held elsewhere (OfBinding s e) = (elsewhere s e).value

abbrev pub meant_reading : Elsewhere → Meant → Reading
meant_reading elsewhere m = reads m.type (held elsewhere m.source)

-- what a name says
abbrev pub name : System → Elsewhere → Scope → ℕ → Bool → Reading
name system elsewhere s x primed = meant_reading elsewhere (meaning_of system s x primed)

-- the place of a field in a record's type, and its type
abbrev pub fields_form : Ty-F Ty → List (TyField Ty)
fields_form (record_of fields) = fields
fields_form other = []

abbrev pub fields_of : Ty → List (TyField Ty)
fields_of t = fields_form (out-Ty t)

abbrev pub field_number : List (TyField Ty) → ℕ → ℕ
field_number fields f = unwrap_or (position_from (λ d. nat_eq d.name f) 0 fields) 0

abbrev pub element_form : Ty-F Ty → Ty
element_form (array_of index element) = element
element_form other = boolean_type

abbrev pub element_type : Ty → Ty
element_type t = element_form (out-Ty t)

abbrev pub field_type : Ty → ℕ → Ty
field_type t f = slice_index_or (map (λ d. d.ty) (fields_of t)) (field_number (fields_of t) f) boolean_type

abbrev pub field_reading : Reading → ℕ → Reading
field_reading r f = reads (field_type r.type f) (slice_index_or (parts_of r.value) (field_number (fields_of r.type) f) (truth false))

-- what one selection makes of what stands before it
abbrev pub select : Scope → Reading → Selection Part → Reading
select s r (Field place f) = field_reading r f.name
select s r (Copy place k) = r
select s r (Element place index) = reads (element_type r.type) (at r.value (index s).value)
select s r (Update place index new) = reads r.type (store r.value (index s).value (new s).value)
select s r (Extract place hi lo) = reads (bits_type (hi - lo + 1)) (extracted hi lo r.value)

-- selections from left to right
unfoldable pub select_all : Scope → Reading → List (Selection Part) → Reading
select_all s r [] = r
select_all s r (x ∷ xs) = select_all s (select s r x) xs

-- the instance of a name in the module of the scope, None where the name is that of none
abbrev pub instance_at : System → Scope → ℕ → Option InstanceParts
instance_at system s x = option_and_then (λ m. instance_of m x) (module_at system s.path)

-- A name as it is reached through selections, in its own scope, with the selections that are left.
pub record Reached (A : Type 0) : Type 0 where
  pub scope : Scope
  pub name : ℕ
  pub primed : Bool
  pub rest : List (Selection A)

abbrev pub arrives : {A : Type 0} → Scope → ℕ → Bool → List (Selection A) → Reached A
arrives s x primed rest = record { scope = s; name = x; primed = primed; rest = rest }

abbrev pub if_instance : {A : Type 0} → Option InstanceParts → A → A → A
if_instance (Some i) inside here = inside
if_instance None inside here = here

-- Behind an instance's name stands a name of that instance. A copy's number changes the state.
unfoldable pub reached : {A : Type 0} → System → Scope → ℕ → Bool → List (Selection A) → Reached A
reached system s x primed [] = arrives s x primed []
reached system s x primed (Field place y ∷ rest) =
    if_instance (instance_at system s x) (reached system (at_path s (s.path ++ x ∷ [])) y.name primed rest) (arrives s x primed (Field place y ∷ rest))
reached system s x primed (Copy place k ∷ rest) = arrives (at_copy s k) x primed rest
reached system s x primed (other ∷ rest) = arrives s x primed (other ∷ rest)

-- a name with its selections; in an index or a new value the scope is that of the whole expression
abbrev pub reached_reading : System → Elsewhere → Scope → Reached Part → Reading
reached_reading system elsewhere s r = select_all s (name system elsewhere r.scope r.name r.primed) r.rest

-- parameters with the values of the arguments, the last one first
unfoldable pub bind : System → Module → List (Parameter TypeExpr) → List Value → List Local → List Local
bind system m (p ∷ ps) (v ∷ vs) locals = bind system m ps vs (record { name = p.identifier.name; ty = type_of_written system m p.ty; value = v } ∷ locals)
bind system m ps vs locals = locals

-- What an applied name stands for: the body of a define in a scope, a function's table, or nothing.
pub data Applied : Type 0 where
  OfDefine : Ty → Scope → Expr → Applied
  OfFunction : Ty → Option Table → Applied
  OfNothing : Applied

abbrev pub applied_function : System → Scope → Module → ℕ → Option Signature → Applied
applied_function system s m f None = OfNothing
applied_function system s m f (Some signature) =
    OfFunction (type_of_written system m signature.type) (slice_get s.interp.tables (function_number system m f))

abbrev pub applied_name : System → Scope → Module → ℕ → List Value → Option Defined → Applied
applied_name system s m f arguments (Some d) =
    OfDefine (type_of_written system m d.type) (record s { locals = bind system m d.parameters arguments [] }) d.body
applied_name system s m f arguments None = applied_function system s m f (function_of m f)

abbrev pub applied_in : System → Scope → ℕ → List Value → Option Module → Applied
applied_in system s f arguments None = OfNothing
applied_in system s f arguments (Some m) = applied_name system s m f arguments (define_of m f)

unfoldable pub applied : System → Scope → ℕ → List Value → Applied
applied system s f arguments = applied_in system s f arguments (module_at system s.path)

-- a define is its body with its parameters as locals; a function gives what its table lists
abbrev pub result_in_table : Option Table → List Value → Value
result_in_table None arguments = truth false
result_in_table (Some table) arguments = result_of table arguments

abbrev pub applied_reading : Elsewhere → List Value → Applied → Reading
applied_reading elsewhere arguments (OfDefine t s body) = reads t (elsewhere s body).value
applied_reading elsewhere arguments (OfFunction t table) = reads t (result_in_table table arguments)
applied_reading elsewhere arguments OfNothing = reads_nothing

-- an extension adds its number to the width; a shift keeps it
abbrev pub extension : Value → ℕ
extension (whole (pos n)) = n
extension other = 0

abbrev pub on_bits_type : BitFunction → Value → Ty → Ty
on_bits_type ZeroExtend n t = bits_type (width t + extension n)
on_bits_type SignExtend n t = bits_type (width t + extension n)
on_bits_type shift n t = t

abbrev pub on_bits_reading : BitFunction → List Reading → Reading
on_bits_reading function (n ∷ (e ∷ [])) = reads (on_bits_type function n.value e.type) (on_bits function n.value e.value)
on_bits_reading function other = reads_nothing

-- a primary with its selections
abbrev pub selected : System → Elsewhere → Primary Part → List (Selection Part) → Scope → Reading
selected system elsewhere (Name x primed) selections s = reached_reading system elsewhere s (reached system s x primed selections)
selected system elsewhere (Truth b) selections s = select_all s (reads_truth b) selections
selected system elsewhere (Number n) selections s = select_all s (reads integer_type (whole (pos n))) selections
selected system elsewhere (BitsLiteral n w) selections s = select_all s (reads (bits_type w) (word w n)) selections
selected system elsewhere (Apply f arguments) selections s = select_all s (applied_reading elsewhere (values arguments s) (applied system s f (values arguments s))) selections
selected system elsewhere (OnBits function arguments) selections s = select_all s (on_bits_reading function (map (λ a. a s) arguments)) selections
selected system elsewhere (Old x) selections s = select_all s (name system elsewhere (at_entry s) x.name false) selections
selected system elsewhere (Grouped e) selections s = select_all s (e s) selections

-- a conditional: the first arm whose condition holds, else what stands behind the last `else`; all of them have one type
abbrev pub chosen : List (Branch Part) → Part → Part
chosen [] otherwise s = otherwise s
chosen (b ∷ bs) otherwise s = if holds (b.condition s).value then b.value s else chosen bs otherwise s

-- an expression, by what its parts say
abbrev pub reading_form : System → Elsewhere → Expr-F Part → Part
reading_form system elsewhere (If place branches otherwise) s = chosen branches otherwise s
reading_form system elsewhere (Iff place parts marks) s = reads_truth (equivalent (values parts s))
reading_form system elsewhere (Implies place parts marks) s = reads_truth (implied (values parts s))
reading_form system elsewhere (Or place parts marks) s = reads_truth (any_holds (values parts s))
reading_form system elsewhere (And place parts marks) s = reads_truth (all_hold (values parts s))
reading_form system elsewhere (Compare place how mark a b) s = reads_truth (compared how (a s).type (a s).value (b s).value)
reading_form system elsewhere (BitOr place parts marks) s = reads (first_type parts s) (chained bv_or (values parts s))
reading_form system elsewhere (BitXor place parts marks) s = reads (first_type parts s) (chained bv_xor (values parts s))
reading_form system elsewhere (BitAnd place parts marks) s = reads (first_type parts s) (chained bv_and (values parts s))
reading_form system elsewhere (Concat place parts marks) s = reads (bits_type (total_width parts s)) (chained concatenated (values parts s))
reading_form system elsewhere (Sum place parts signs) s = reads (first_type parts s) (summed signs (values parts s))
reading_form system elsewhere (Product place parts marks) s = reads (first_type parts s) (chained product (values parts s))
reading_form system elsewhere (Unary place operator e) s = reads (e s).type (unary operator (e s).value)
reading_form system elsewhere (Selected place primary selections) s = selected system elsewhere primary selections s

-- what an expression says, where the expressions elsewhere are read as given
unfoldable pub reading_by : System → Elsewhere → Expr → Part
reading_by system elsewhere = fold-Expr Part (reading_form system elsewhere)

-- the same, through at most n uses of defines and bindings
unfoldable pub reading_through : ℕ → System → Scope → Expr → Reading
reading_through zero system s e = reads_nothing
reading_through (suc n) system s e = reading_by system (reading_through n system) e s

-- How bodies of defines and bindings are read. No accepted design has a longer chain: defines and inputs are at most longest_chain on one chain of uses, and
-- behind the last of them stand bound outputs alone, each a name one instance further up, of which no path has more.
abbrev pub longest_way : ℕ
longest_way = longest_chain + longest_chain

abbrev pub elsewhere : System → Elsewhere
elsewhere system = reading_through longest_way system

-- what an expression says in a scope
abbrev pub reading : System → Scope → Expr → Reading
reading system s e = reading_by system (elsewhere system) e s

-- the value of an expression in a scope
abbrev pub value : System → Scope → Expr → Value
value system s e = (reading system s e).value

-- a formula is true in a scope
abbrev pub is_true : System → Scope → Expr → Bool
is_true system s e = holds (value system s e)
