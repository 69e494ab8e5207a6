-- What sequential code does: init blocks and the bodies of procedures.
use Rattle.std.specs.Prelude.{ℕ, zero, suc, ℤ, pos, neg_ℤ, nat_abs, ◌+ℤ◌, ◌-ℤ◌, int_le, ◌+◌, ◌-◌, Bool, true, false, ◌&&◌, nat_eq, if◌then◌else◌, List, [], ◌∷◌, ◌++◌, map, length, drop, slice_set, Option, Some, None, unwrap_or}
use Rattle.std.specs.Option.{option_map, option_and_then}
use Rattle.std.specs.List.{list_any, flat_map, filter_map}
use Rattle.uc_lexer.specs.declared.place.Place.{Place}
use Rattle.uc_syntax.specs.declared.place.Identifier.{Identifier}
use Rattle.uc_syntax.specs.declared.type_expression.Parameter.{Parameter}
use Rattle.uc_syntax.specs.declared.type_expression.TypeExpr.{TypeExpr}
use Rattle.uc_syntax.specs.declared.expression.Expr.{Expr}
use Rattle.uc_syntax.specs.declared.expression.Expr.TheOpen.{Expr-F}
use Rattle.uc_syntax.specs.declared.expression.Expr.TheOpen.Expr-F.{Selected}
use Rattle.uc_syntax.specs.declared.expression.Expr.TheViews.{out-Expr}
use Rattle.uc_syntax.specs.declared.expression.Primary.{Primary}
use Rattle.uc_syntax.specs.declared.expression.Primary.TheVariants.{Name}
use Rattle.uc_syntax.specs.declared.statement.Target.{Target}
use Rattle.uc_syntax.specs.declared.statement.TargetPart.{TargetPart}
use Rattle.uc_syntax.specs.declared.statement.TargetPart.TheVariants.{Field, Element}
use Rattle.uc_syntax.specs.declared.statement.RangeBound.{RangeBound}
use Rattle.uc_syntax.specs.declared.statement.RangeBound.TheVariants.{Number, BitsLiteral}
use Rattle.uc_syntax.specs.declared.statement.Arm.{Arm}
use Rattle.uc_syntax.specs.declared.statement.Stmt.{Stmt}
use Rattle.uc_syntax.specs.declared.statement.Stmt.TheOpen.{Stmt-F}
use Rattle.uc_syntax.specs.declared.statement.Stmt.TheOpen.Stmt-F.{Local as Declare, Skip, Block, Assert, Assume, Havoc, Assign, If, Case, For, Call, Next}
use Rattle.uc_syntax.specs.declared.statement.Stmt.TheFolds.{fold-Stmt}
use Rattle.uc_syntax.specs.declared.declaration.Clause.{Clause}
use Rattle.uc_syntax.specs.declared.declaration.Clause.TheVariants.{Requires, Modifies}
use Rattle.uc_syntax.specs.declared.declaration.Procedure.{Procedure}
use Rattle.uc_syntax.specs.declared.declaration.Module.{Module}
use Rattle.uc_values.specs.declared.ty.Ty.{Ty}
use Rattle.uc_values.specs.declared.ty.Ty.TheVariants.{Int as integer_type, Bv as bits_type}
use Rattle.uc_values.specs.declared.value.Value.{Value}
use Rattle.uc_values.specs.declared.value.Value.TheOpen.Value-F.{Rec as record_of_parts}
use Rattle.uc_values.specs.declared.value.Value.TheViews.{roll-Value}
use Rattle.uc_values.specs.declared.value.Value.TheVariants.{Int as whole, Bv as word}
use Rattle.uc_values.specs.Values.{fits, parts_of}
use Rattle.uc_values.specs.Arrays.{at, store}
use Rattle.uc_meaning.specs.declared.scope.Scope.{Scope}
use Rattle.uc_meaning.specs.declared.scope.State.{State}
use Rattle.uc_meaning.specs.declared.scope.Local.{Local}
use Rattle.uc_meaning.specs.declared.scope.Site.{Site}
use Rattle.uc_meaning.specs.Lookup.{System, same_place, module_at, procedure_of}
use Rattle.uc_meaning.specs.Types.{type_of_written}
use Rattle.uc_meaning.specs.Cells.{longest_chain, same_path, cell_of}
use Rattle.uc_meaning.specs.Expressions.{Reading, value, is_true, name, reading, bind, binding_of, local_of, fields_of, field_number, field_reading, element_type}

-- Where an execution is: its scope, whose old state is the present one, the sites that are listed so far, and the choices that are left.
pub record Running : Type 0 where
  pub scope : Scope
  pub sites : List Site
  pub left : List Value

-- How code ends: it goes on, an `assume` is false, or a choice is missing or does not fit where it is wanted.
pub data Ending : Type 0 where
  Goes : Running → Ending
  Stopped : Ending
  Unfit : (left : List Value) → Ending

abbrev pub Execution : Type 0
Execution = Running → Ending

-- what follows runs only where the code before it goes on
abbrev pub then_run : Ending → Execution → Ending
then_run (Goes r) next = next r
then_run Stopped next = Stopped
then_run (Unfit left) next = Unfit left

unfoldable pub run_each : List Execution → Execution
run_each [] r = Goes r
run_each (x ∷ xs) r = then_run (x r) (run_each xs)

abbrev pub in_scope : Running → Scope → Running
in_scope r s = record r { scope = s }

-- the locals that a block declares end with it
abbrev pub keep_locals : ℕ → Scope → Scope
keep_locals n s = record s { locals = drop (length s.locals - n) s.locals }

-- statements one after another, whose locals end with them
abbrev pub run_block : List Execution → Execution
run_block block r = then_run (run_each block r) (λ r'. Goes (in_scope r' (keep_locals (length r.scope.locals) r'.scope)))

abbrev pub same_site : Site → Site → Bool
same_site a b = same_path a.path b.path && (same_place a.place b.place && nat_eq a.requires_ b.requires_)

-- a site is listed once
abbrev pub list_site : List Site → Site → List Site
list_site sites site = if list_any (same_site site) sites then sites else sites ++ site ∷ []

-- the site is listed where what is judged there is false; the code goes on all the same
abbrev pub site_unless : Bool → Place → ℕ → Running → Running
site_unless true place n r = r
site_unless false place n r = record r { sites = list_site r.sites (record { path = r.scope.path; place = place; requires_ = n }) }

-- the next choice, which must fit
abbrev pub take_choice : Ty → (Value → Execution) → List Value → Execution
take_choice t go [] r = Unfit []
take_choice t go (v ∷ rest) r = if fits t v then go v (record r { left = rest }) else Unfit (v ∷ rest)

abbrev pub choose : Ty → (Value → Execution) → Execution
choose t go r = take_choice t go r.left r

abbrev pub push_local : ℕ → Ty → Value → Running → Running
push_local x t v r = in_scope r (record r.scope { locals = record { name = x; ty = t; value = v } ∷ r.scope.locals })

-- variables that begin with the next choices
unfoldable pub declare : System → Module → List (ℕ × TypeExpr) → Execution
declare system m [] r = Goes r
declare system m (d ∷ ds) r =
    let t = type_of_written system m d.1 in
    choose t (λ v r'. declare system m ds (push_local d.0 t v r')) r

-- the value with the part that the selections name replaced by v, where an index is read in s
unfoldable pub replaced : System → Scope → Reading → List TargetPart → Value → Value
replaced system s whole_part [] v = v
replaced system s whole_part (Field place f ∷ parts) v =
    let k = field_number (fields_of whole_part.type) f.name in
    roll-Value (record_of_parts (slice_set (parts_of whole_part.value) k (replaced system s (field_reading whole_part f.name) parts v)))
replaced system s whole_part (Element place e ∷ parts) v =
    let i = value system s e in
    store whole_part.value i (replaced system s (record { type = element_type whole_part.type; value = at whole_part.value i }) parts v)

-- the name of an expression that is a name alone
abbrev pub name_of_primary : {E : Type 0} → Primary E → Option ℕ
name_of_primary (Name x primed) = Some x
name_of_primary other = None

abbrev pub name_form : Expr-F Expr → Option ℕ
name_form (Selected place primary selections) = name_of_primary primary
name_form other = None

-- A name in the scope of an instance.
abbrev pub Reached : Type 0
Reached = List ℕ × ℕ

abbrev pub bound_name_in : List ℕ → Option ℕ → Option Reached
bound_name_in path y = option_map (λ x. (path, x)) y

-- the parent's name that is bound to a name, if one is
abbrev pub bound_name : System → Reached → Option Reached
bound_name system c = option_and_then (λ b. bound_name_in b.0 (name_form (out-Expr b.1))) (binding_of system c.0 c.1)

-- a bound output is its parent's name, followed upwards
unfoldable pub followed : ℕ → System → Reached → Reached
followed zero system c = c
followed (suc n) system c = unwrap_or (option_map (followed n system) (bound_name system c)) c

-- the cell that a name in a scope stands for
abbrev pub written_cell : System → List ℕ → ℕ → Option ℕ
written_cell system path x = let c = followed longest_chain system (path, x) in cell_of system c.0 c.1

abbrev pub set_cell : State → Option ℕ → Value → State
set_cell state None v = state
set_cell state (Some k) v = record state { cells = slice_set state.cells k v }

unfoldable pub set_local : List Local → ℕ → Value → List Local
set_local [] x v = []
set_local (l ∷ ls) x v = if nat_eq l.name x then record l { value = v } ∷ ls else l ∷ set_local ls x v

-- a local is set where there is one of the name, else the cell for which the name stands
abbrev pub set_found : System → Scope → ℕ → Value → Option Local → Scope
set_found system s x v (Some l) = record s { locals = set_local s.locals x v }
set_found system s x v None = record s { before = set_cell s.before (written_cell system s.path x) v }

-- the scope after a name is given a value
unfoldable pub set_name : System → Scope → ℕ → Value → Scope
set_name system s x v = set_found system s x v (local_of s x)

abbrev pub name_now : System → Scope → ℕ → Reading
name_now system s x = name system (reading system) s x false

-- the scope after a target is written
unfoldable pub write : System → Scope → Target → Value → Scope
write system s t v = set_name system s t.name (replaced system s (name_now system s t.name) t.parts v)

-- targets are written from left to right
unfoldable pub write_all : System → List Target → List Value → Scope → Scope
write_all system (t ∷ ts) (v ∷ vs) s = write_all system ts vs (write system s t v)
write_all system ts vs s = s

-- the block of the first arm whose condition is true, else that of `else`, else nothing
abbrev pub else_block : {A : Type 0} → Option (List A) → List A
else_block None = []
else_block (Some block) = block

unfoldable pub taken : {A : Type 0} → System → Scope → List (Arm A) → Option (List A) → List A
taken system s [] otherwise = else_block otherwise
taken system s (arm ∷ arms) otherwise = if is_true system s arm.condition then arm.body else taken system s arms otherwise

-- the number of a bound, and the numbers from a to b
abbrev pub bound_number : RangeBound → ℤ
bound_number (Number place negative n) = if negative then neg_ℤ (pos n) else pos n
bound_number (BitsLiteral place n w) = pos n

unfoldable pub counted_up : ℕ → ℤ → List ℤ
counted_up zero a = []
counted_up (suc n) a = a ∷ counted_up n (a +ℤ pos 1)

abbrev pub numbers_to : ℤ → ℤ → List ℤ
numbers_to a b = if int_le a b then counted_up (nat_abs (b -ℤ a) + 1) a else []

-- the type of a loop's variable, and its value at a number
abbrev pub turn_type : RangeBound → Ty
turn_type (Number place negative n) = integer_type
turn_type (BitsLiteral place n w) = bits_type w

abbrev pub turn_value : RangeBound → ℤ → Value
turn_value (Number place negative n) k = whole k
turn_value (BitsLiteral place n w) k = word w (nat_abs k)

-- the values that a loop's variable takes, in order
abbrev pub turns : RangeBound → RangeBound → List Value
turns from to = map (turn_value from) (numbers_to (bound_number from) (bound_number to))

-- the block once for each value; the variable, and the locals of the block, end with each turn
unfoldable pub run_turns : ℕ → Ty → List Execution → List Value → Execution
run_turns x t block [] r = Goes r
run_turns x t block (v ∷ vs) r =
    then_run (run_each block (push_local x t v r))
    (λ r'. run_turns x t block vs (in_scope r' (keep_locals (length r.scope.locals) r'.scope)))

abbrev pub requires_in : Clause → Option Expr
requires_in (Requires place e) = Some e
requires_in other = None

abbrev pub requires_of : Procedure → List Expr
requires_of p = filter_map requires_in p.clauses

abbrev pub modifies_in : Clause → List ℕ
modifies_in (Modifies place names) = map (λ i. i.name) names
modifies_in other = []

abbrev pub modifies_of : Procedure → List ℕ
modifies_of p = flat_map modifies_in p.clauses

-- each false `requires` is a site of the call, numbered from 1
unfoldable pub judge_requires : System → Place → ℕ → List Expr → Running → Running
judge_requires system place n [] r = r
judge_requires system place n (e ∷ es) r =
    judge_requires system place (n + 1) es (site_unless (is_true system r.scope e) place n r)

abbrev pub names_with_types : List (Parameter TypeExpr) → List (ℕ × TypeExpr)
names_with_types ps = map (λ p. (p.identifier.name, p.ty)) ps

-- the values of the results, in order
unfoldable pub results : System → Scope → List (Parameter TypeExpr) → List Value
results system s [] = []
results system s (p ∷ ps) = (name_now system s p.identifier.name).value ∷ results system s ps

-- How the bodies of procedures are run.
abbrev pub Bodies : Type 0
Bodies = List Stmt → Execution

-- a call of a procedure: the arguments, the `requires`, the choices of the results, the body; and then the caller's scope again, with the results handed to the targets
abbrev pub call_in : System → Bodies → Place → List Target → List Expr → Module → Option Procedure → Execution
call_in system bodies place targets arguments m None r = Stopped
call_in system bodies place targets arguments m (Some p) r =
    let locals = bind system m p.parameters (map (value system r.scope) arguments) [] in
    let entry = judge_requires system place 1 (requires_of p) (in_scope r (record r.scope { locals = locals })) in
    then_run (declare system m (names_with_types p.results) entry)
    (λ r'. then_run (bodies p.body r')
    (λ r''. Goes (in_scope r'' (write_all system targets (results system r''.scope p.results) (record r.scope { before = r''.scope.before })))))

abbrev pub call_at : System → Bodies → Place → List Target → ℕ → List Expr → Option Module → Execution
call_at system bodies place targets f arguments None r = Stopped
call_at system bodies place targets f arguments (Some m) r = call_in system bodies place targets arguments m (procedure_of m f) r

unfoldable pub call : System → Bodies → Place → List Target → ℕ → List Expr → Execution
call system bodies place targets f arguments r = call_at system bodies place targets f arguments (module_at system r.scope.path) r

abbrev pub declare_at : System → Option Module → List Identifier → TypeExpr → Execution
declare_at system None names type r = Stopped
declare_at system (Some m) names type r = declare system m (map (λ i. (i.name, type)) names) r

-- a statement of sequential code, by what the statements inside it do
abbrev pub run_form : System → Bodies → Stmt-F Execution → Execution
run_form system bodies (Declare place names type) r = declare_at system (module_at system r.scope.path) names type r
run_form system bodies (Skip place) r = Goes r
run_form system bodies (Block place block) r = run_block block r
run_form system bodies (Assert place label e) r = Goes (site_unless (is_true system r.scope e) place 0 r)
run_form system bodies (Assume place e) r = if is_true system r.scope e then Goes r else Stopped
run_form system bodies (Havoc place x primed) r =
    choose (name_now system r.scope x.name).type (λ v r'. Goes (in_scope r' (set_name system r'.scope x.name v))) r
run_form system bodies (Assign place targets sources) r =
    Goes (in_scope r (write_all system targets (map (value system r.scope) sources) r.scope))
run_form system bodies (If place arms otherwise) r = run_block (taken system r.scope arms otherwise) r
run_form system bodies (Case place arms otherwise) r = run_block (taken system r.scope arms otherwise) r
run_form system bodies (For place x type from to block) r = run_turns x.name (turn_type from) block (turns from to) r
run_form system bodies (Call place targets f arguments) r = call system bodies place targets f.name arguments r
run_form system bodies (Next place i) r = Stopped

unfoldable pub run_statement : System → Bodies → Stmt → Execution
run_statement system bodies = fold-Stmt Execution (run_form system bodies)

-- statements one after another, where bodies of procedures are run as given
unfoldable pub run_by : System → Bodies → List Stmt → Execution
run_by system bodies code = run_each (map (run_statement system bodies) code)

-- the same, with at most n calls inside each other
unfoldable pub run_through : ℕ → System → List Stmt → Execution
run_through zero system code r = Stopped
run_through (suc n) system code r = run_by system (run_through n system) code r

-- how bodies of procedures are run: no accepted design has a longer chain of calls
abbrev pub bodies : System → Bodies
bodies system = run_through longest_chain system

-- what code does
abbrev pub run : System → List Stmt → Execution
run system = run_by system (bodies system)
