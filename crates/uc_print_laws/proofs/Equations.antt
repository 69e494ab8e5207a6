-- How many names each form of type and statement declares.
use Rattle.std.specs.Option.{option_map}
use Rattle.std.proofs.Common.{◌≡◌, ℕ, ◌+◌, Bool, List, [], ◌∷◌, length, map, Option, Some, None, refl, ap, ◌∙◌, arith}
use Rattle.uc_lexer.specs.declared.place.Place.{Place}
use Rattle.uc_syntax.specs.declared.place.Identifier.{Identifier}
use Rattle.uc_syntax.specs.declared.type_expression.Parameter.{Parameter}
use Rattle.uc_syntax.specs.declared.type_expression.TypeExpr.{TypeExpr}
use Rattle.uc_syntax.specs.declared.type_expression.TypeExpr.TheOpen.TypeExpr-F.{Boolean, Integer, Bits, Enumeration, Record, Array, Named, OfModule}
use Rattle.uc_syntax.specs.declared.type_expression.TypeExpr.TheVariants as types
use Rattle.uc_syntax.specs.declared.type_expression.TypeExpr.TheViews as type_views
use Rattle.uc_syntax.specs.declared.type_expression.TypeExpr.TheViews.{roll-TypeExpr}
use Rattle.uc_syntax.specs.declared.type_expression.TypeExpr.TheFolds.{fold-roll-TypeExpr}
use Rattle.uc_syntax.specs.declared.expression.Expr.{Expr}
use Rattle.uc_syntax.specs.declared.statement.Arm.{Arm}
use Rattle.uc_syntax.specs.declared.statement.Target.{Target}
use Rattle.uc_syntax.specs.declared.statement.RangeBound.{RangeBound}
use Rattle.uc_syntax.specs.declared.statement.Stmt.{Stmt}
use Rattle.uc_syntax.specs.declared.statement.Stmt.TheOpen.Stmt-F.{Local, Skip, Block, Assert, Assume, Havoc, Assign, If, Case, For, Call, Next}
use Rattle.uc_syntax.specs.declared.statement.Stmt.TheVariants as stmts
use Rattle.uc_syntax.specs.declared.statement.Stmt.TheViews as stmt_views
use Rattle.uc_syntax.specs.declared.statement.Stmt.TheViews.{roll-Stmt}
use Rattle.uc_syntax.specs.declared.statement.Stmt.TheFolds.{fold-roll-Stmt}
use Rattle.uc_print_laws.specs.Types.{each_parameter}
use Rattle.uc_print_laws.specs.Statements.{each_arm}
use Rattle.uc_print_laws.proofs.TypeLaw.{map_record}
use Rattle.uc_print_laws.proofs.StatementLaw.{map_if, map_case}
use Rattle.uc_print_laws.specs.Names.{total, in_option, field_count, type_count, type_names, parameter_names, sum, arm_count, stmt_count, stmt_names, code_names}

-- ---- sums

pub total_over : {A B : Type 0} (f : B → ℕ) (g : A → B) (xs : List A) → total f (map g xs) ≡ total (λ x. f (g x)) xs
total_over f g [] = refl
total_over f g (x ∷ xs) = ap (λ (n : ℕ). f (g x) + n) (total_over f g xs)

pub total_same : {A : Type 0} (f g : A → ℕ) → ((x : A) → f x ≡ g x) → (xs : List A) → total f xs ≡ total g xs
total_same f g e [] = refl
total_same f g e (x ∷ xs) = omega (arith, e x, total_same f g e xs)

pub total_ones : {A : Type 0} (xs : List A) → total (λ x. 1) xs ≡ length xs
total_ones [] = refl
total_ones (x ∷ xs) = omega (arith, total_ones xs)

pub in_option_over : {A B : Type 0} (f : B → ℕ) (g : A → B) (o : Option A) → in_option f (option_map g o) ≡ in_option (λ x. f (g x)) o
in_option_over f g None = refl
in_option_over f g (Some x) = refl

-- ---- types

pub names_boolean : (p : Place) → type_names (types.Boolean p) ≡ 0
unfolding roll-TypeExpr denote.Hole.Carrier.roll
names_boolean p = fold-roll-TypeExpr ℕ type_count (Boolean p)

pub names_integer : (p : Place) → type_names (types.Integer p) ≡ 0
unfolding roll-TypeExpr denote.Hole.Carrier.roll
names_integer p = fold-roll-TypeExpr ℕ type_count (Integer p)

pub names_bits : (p : Place) (w : ℕ) → type_names (types.Bits p w) ≡ 0
unfolding roll-TypeExpr denote.Hole.Carrier.roll
names_bits p w = fold-roll-TypeExpr ℕ type_count (Bits p w)

pub names_enumeration : (p : Place) (is : List Identifier) → type_names (types.Enumeration p is) ≡ length is
unfolding roll-TypeExpr denote.Hole.Carrier.roll
names_enumeration p is = fold-roll-TypeExpr ℕ type_count (Enumeration p is)

pub names_array : (p : Place) (i e : TypeExpr) → type_names (type_views.Array p i e) ≡ type_names i + type_names e
unfolding roll-TypeExpr denote.Hole.Carrier.roll
names_array p i e = fold-roll-TypeExpr ℕ type_count (Array p i e)

pub names_named : (p : Place) (n : ℕ) → type_names (types.Named p n) ≡ 0
unfolding roll-TypeExpr denote.Hole.Carrier.roll
names_named p n = fold-roll-TypeExpr ℕ type_count (Named p n)

pub names_of_module : (p : Place) (m : ℕ) (i : Identifier) → type_names (types.OfModule p m i) ≡ 0
unfolding roll-TypeExpr denote.Hole.Carrier.roll
names_of_module p m i = fold-roll-TypeExpr ℕ type_count (OfModule p m i)

pub names_record : (p : Place) (fs : List (Parameter TypeExpr)) → type_names (type_views.Record p fs) ≡ total parameter_names fs
unfolding roll-TypeExpr denote.Hole.Carrier.roll
names_record p fs = fold-roll-TypeExpr ℕ type_count (Record p fs) ∙ ap type_count (map_record type_names p fs) ∙ total_over field_count (each_parameter type_names) fs

-- ---- statements

pub names_local : (p : Place) (is : List Identifier) (t : TypeExpr) → stmt_names (stmts.Local p is t) ≡ length is + type_names t
unfolding roll-Stmt denote.Hole.Carrier.roll
names_local p is t = fold-roll-Stmt ℕ stmt_count (Local p is t)

pub names_skip : (p : Place) → stmt_names (stmts.Skip p) ≡ 0
unfolding roll-Stmt denote.Hole.Carrier.roll
names_skip p = fold-roll-Stmt ℕ stmt_count (Skip p)

pub names_assert : (p : Place) (o : Option Identifier) (e : Expr) → stmt_names (stmts.Assert p o e) ≡ 0
unfolding roll-Stmt denote.Hole.Carrier.roll
names_assert p o e = fold-roll-Stmt ℕ stmt_count (Assert p o e)

pub names_assume : (p : Place) (e : Expr) → stmt_names (stmts.Assume p e) ≡ 0
unfolding roll-Stmt denote.Hole.Carrier.roll
names_assume p e = fold-roll-Stmt ℕ stmt_count (Assume p e)

pub names_havoc : (p : Place) (i : Identifier) (b : Bool) → stmt_names (stmts.Havoc p i b) ≡ 0
unfolding roll-Stmt denote.Hole.Carrier.roll
names_havoc p i b = fold-roll-Stmt ℕ stmt_count (Havoc p i b)

pub names_assign : (p : Place) (ts : List Target) (es : List Expr) → stmt_names (stmts.Assign p ts es) ≡ 0
unfolding roll-Stmt denote.Hole.Carrier.roll
names_assign p ts es = fold-roll-Stmt ℕ stmt_count (Assign p ts es)

pub names_call : (p : Place) (ts : List Target) (i : Identifier) (es : List Expr) → stmt_names (stmts.Call p ts i es) ≡ 0
unfolding roll-Stmt denote.Hole.Carrier.roll
names_call p ts i es = fold-roll-Stmt ℕ stmt_count (Call p ts i es)

pub names_next : (p : Place) (i : Identifier) → stmt_names (stmts.Next p i) ≡ 0
unfolding roll-Stmt denote.Hole.Carrier.roll
names_next p i = fold-roll-Stmt ℕ stmt_count (Next p i)

code_sum : (ss : List Stmt) → sum (map stmt_names ss) ≡ code_names ss
code_sum ss = total_over (λ n. n) stmt_names ss

pub names_block : (p : Place) (ss : List Stmt) → stmt_names (stmt_views.Block p ss) ≡ code_names ss
unfolding roll-Stmt denote.Hole.Carrier.roll
names_block p ss = fold-roll-Stmt ℕ stmt_count (Block p ss) ∙ code_sum ss

pub names_for : (p : Place) (i : Identifier) (t : Option TypeExpr) (a b : RangeBound) (ss : List Stmt) → stmt_names (stmt_views.For p i t a b ss) ≡ (1 + in_option type_names t) + code_names ss
unfolding roll-Stmt denote.Hole.Carrier.roll
names_for p i t a b ss = fold-roll-Stmt ℕ stmt_count (For p i t a b ss) ∙ ap (λ (n : ℕ). (1 + in_option type_names t) + n) (code_sum ss)

abbrev pub arm_names : Arm Stmt → ℕ
arm_names a = code_names a.body

arms_sum : (arms : List (Arm Stmt)) → total arm_count (map (each_arm stmt_names) arms) ≡ total arm_names arms
arms_sum arms = total_over arm_count (each_arm stmt_names) arms ∙ total_same (λ a. arm_count (each_arm stmt_names a)) arm_names (λ a. code_sum a.body) arms

else_sum : (o : Option (List Stmt)) → in_option sum (option_map (map stmt_names) o) ≡ in_option code_names o
else_sum None = refl
else_sum (Some ss) = code_sum ss

pub names_if : (p : Place) (arms : List (Arm Stmt)) (o : Option (List Stmt)) → stmt_names (stmt_views.If p arms o) ≡ total arm_names arms + in_option code_names o
unfolding roll-Stmt denote.Hole.Carrier.roll
names_if p arms o = fold-roll-Stmt ℕ stmt_count (If p arms o) ∙ ap stmt_count (map_if stmt_names p arms o) ∙ omega (arith, arms_sum arms, else_sum o)

pub names_case : (p : Place) (arms : List (Arm Stmt)) (o : Option (List Stmt)) → stmt_names (stmt_views.Case p arms o) ≡ total arm_names arms + in_option code_names o
unfolding roll-Stmt denote.Hole.Carrier.roll
names_case p arms o = fold-roll-Stmt ℕ stmt_count (Case p arms o) ∙ ap stmt_count (map_case stmt_names p arms o) ∙ omega (arith, arms_sum arms, else_sum o)
