-- Trees without their places declare the same names.
use Rattle.std.specs.Option.{option_map}
use Rattle.std.proofs.Common.{◌≡◌, ℕ, List, [], ◌∷◌, length, map, Option, Some, None, refl, sym, ap, ◌∙◌, subst, arith}
use Rattle.uc_lexer.specs.declared.place.Place.{Place}
use Rattle.uc_syntax.specs.declared.type_expression.Parameter.{Parameter}
use Rattle.uc_syntax.specs.declared.type_expression.TypeExpr.{TypeExpr}
use Rattle.uc_syntax.specs.declared.type_expression.TypeExpr.TheOpen.{TypeExpr-F}
use Rattle.uc_syntax.specs.declared.type_expression.TypeExpr.TheOpen.TypeExpr-F.{Boolean, Integer, Bits, Enumeration, Record, Array, Named, OfModule}
use Rattle.uc_syntax.specs.declared.type_expression.TypeExpr.TheViews.{roll-TypeExpr}
use Rattle.uc_syntax.specs.declared.type_expression.TypeExpr.TheFolds.{map-TypeExpr, fold-roll-TypeExpr, ind-TypeExpr}
use Rattle.uc_syntax.specs.declared.statement.Arm.{Arm}
use Rattle.uc_syntax.specs.declared.statement.Stmt.{Stmt}
use Rattle.uc_syntax.specs.declared.statement.Stmt.TheOpen.{Stmt-F}
use Rattle.uc_syntax.specs.declared.statement.Stmt.TheOpen.Stmt-F.{Local, Skip, Block, Assert, Assume, Havoc, Assign, If, Case, For, Call, Next}
use Rattle.uc_syntax.specs.declared.statement.Stmt.TheViews.{roll-Stmt}
use Rattle.uc_syntax.specs.declared.statement.Stmt.TheFolds.{map-Stmt, fold-roll-Stmt, ind-Stmt}
use Rattle.uc_syntax.specs.declared.declaration.Decl.{Decl}
use Rattle.uc_syntax.specs.declared.declaration.Decl.TheVariants as decls
use Rattle.uc_syntax.specs.declared.declaration.Module.{Module}
use Rattle.uc_print_laws.specs.Printed.{nowhere, erased_identifier}
use Rattle.uc_print_laws.specs.Types.{each_parameter, parameter_nowhere, erase_type_form, erased_type}
use Rattle.uc_print_laws.specs.Expressions.{erased_expr}
use Rattle.uc_print_laws.specs.Statements.{erased_target, erased_bound, each_arm, arm_nowhere, erase_stmt_form, erased_stmt}
use Rattle.uc_print_laws.specs.Declarations.{erased_parameter, erased_decl, erased_module, erased_modules}
use Rattle.uc_print_laws.proofs.TypeLaw.{map_record}
use Rattle.uc_print_laws.proofs.StatementLaw.{map_if, map_case}
use Rattle.uc_print_laws.specs.Names.{total, in_option, type_count, type_names, parameter_names, stmt_count, stmt_names, code_names, decl_names, module_names, HaveFewNames}
use Rattle.uc_print_laws.proofs.Equations.{total_over, total_same, names_boolean, names_integer, names_bits, names_enumeration, names_record, names_array, names_named, names_of_module, names_local, names_skip, names_block, names_assert, names_assume, names_havoc, names_assign, names_if, names_case, names_for, names_call, names_next, arm_names}

length_over : {A B : Type 0} (f : A → B) (xs : List A) → length (map f xs) ≡ length xs
length_over f [] = refl
length_over f (x ∷ xs) = omega (arith, length_over f xs)

-- ---- types

abbrev SameType : TypeExpr → Type 0
SameType t = type_names (erased_type t) ≡ type_names t

abbrev TypeChild : Type 0
TypeChild = (t : TypeExpr) × SameType t

abbrev type_tree : TypeChild → TypeExpr
type_tree c = c.0

fields_same : (p : Place) (cs : List (Parameter TypeChild)) → type_names (erase_type_form (Record p (map (each_parameter erased_type) (map (each_parameter type_tree) cs)))) ≡ type_count (Record p (map (each_parameter type_names) (map (each_parameter type_tree) cs)))
fields_same p cs =
    names_record nowhere (map parameter_nowhere (map (each_parameter erased_type) (map (each_parameter type_tree) cs)))
    ∙ by cs
  where
    by : (cs : List (Parameter TypeChild)) → total parameter_names (map parameter_nowhere (map (each_parameter erased_type) (map (each_parameter type_tree) cs))) ≡ type_count (Record p (map (each_parameter type_names) (map (each_parameter type_tree) cs)))
    by [] = refl
    by (c ∷ cs) = omega (arith, c.ty.1, by cs)

type_layer : (y : TypeExpr-F TypeChild) → type_names (erase_type_form (map-TypeExpr TypeExpr TypeExpr erased_type (map-TypeExpr TypeChild TypeExpr type_tree y))) ≡ type_count (map-TypeExpr TypeExpr ℕ type_names (map-TypeExpr TypeChild TypeExpr type_tree y))
type_layer (Boolean p) = names_boolean nowhere
type_layer (Integer p) = names_integer nowhere
type_layer (Bits p w) = names_bits nowhere w
type_layer (Enumeration p is) = names_enumeration nowhere (map erased_identifier is) ∙ length_over erased_identifier is
type_layer (Record p cs) =
    ap (λ z. type_names (erase_type_form (map-TypeExpr TypeExpr TypeExpr erased_type z))) (map_record type_tree p cs)
    ∙ ap (λ z. type_names (erase_type_form z)) (map_record erased_type p (map (each_parameter type_tree) cs))
    ∙ fields_same p cs
    ∙ sym (ap (λ z. type_count (map-TypeExpr TypeExpr ℕ type_names z)) (map_record type_tree p cs) ∙ ap type_count (map_record type_names p (map (each_parameter type_tree) cs)))
type_layer (Array p i e) = names_array nowhere (erased_type i.0) (erased_type e.0) ∙ omega (arith, i.1, e.1)
type_layer (Named p n) = names_named nowhere n
type_layer (OfModule p m i) = names_of_module nowhere m (erased_identifier i)

type_step : (y : TypeExpr-F TypeChild) → SameType (roll-TypeExpr (map-TypeExpr TypeChild TypeExpr type_tree y))
type_step y =
    let z = map-TypeExpr TypeChild TypeExpr type_tree y in
    ap type_names (fold-roll-TypeExpr TypeExpr erase_type_form z) ∙ type_layer y ∙ sym (fold-roll-TypeExpr ℕ type_count z)

same_type : (t : TypeExpr) → SameType t
same_type = ind-TypeExpr SameType (λ x y is. subst (λ z. SameType (roll-TypeExpr z)) is (type_step y))

same_parameters : (ps : List (Parameter TypeExpr)) → total parameter_names (map erased_parameter ps) ≡ total parameter_names ps
same_parameters ps = total_over parameter_names erased_parameter ps ∙ total_same (λ p. parameter_names (erased_parameter p)) parameter_names (λ p. omega (arith, same_type p.ty)) ps

-- ---- statements

abbrev SameStmt : Stmt → Type 0
SameStmt s = stmt_names (erased_stmt s) ≡ stmt_names s

abbrev Child : Type 0
Child = (s : Stmt) × SameStmt s

abbrev tree : Child → Stmt
tree c = c.0

same_code : (cs : List Child) → code_names (map erased_stmt (map tree cs)) ≡ total (λ n. n) (map stmt_names (map tree cs))
same_code [] = refl
same_code (c ∷ cs) = omega (arith, c.1, same_code cs)

same_option : (t : Option TypeExpr) → in_option type_names (option_map erased_type t) ≡ in_option type_names t
same_option None = refl
same_option (Some t) = same_type t

abbrev Arms : Type 0
Arms = List (Arm Child)

abbrev Else : Type 0
Else = Option (List Child)

same_arms : (arms : Arms) → total arm_names (map arm_nowhere (map (each_arm erased_stmt) (map (each_arm tree) arms))) ≡ total (λ a. total (λ n. n) a.body) (map (each_arm stmt_names) (map (each_arm tree) arms))
same_arms [] = refl
same_arms (a ∷ arms) = omega (arith, same_code a.body, same_arms arms)

same_else : (o : Else) → in_option code_names (option_map (map erased_stmt) (option_map (map tree) o)) ≡ in_option (λ ns. total (λ n. n) ns) (option_map (map stmt_names) (option_map (map tree) o))
same_else None = refl
same_else (Some cs) = same_code cs

abbrev erased_layer : Stmt-F Stmt → ℕ
erased_layer z = stmt_names (erase_stmt_form (map-Stmt Stmt Stmt erased_stmt z))

abbrev counted_layer : Stmt-F Stmt → ℕ
counted_layer z = stmt_count (map-Stmt Stmt ℕ stmt_names z)

stmt_layer : (y : Stmt-F Child) → erased_layer (map-Stmt Child Stmt tree y) ≡ counted_layer (map-Stmt Child Stmt tree y)
stmt_layer (Local p is t) = names_local nowhere (map erased_identifier is) (erased_type t) ∙ omega (arith, length_over erased_identifier is, same_type t)
stmt_layer (Skip p) = names_skip nowhere
stmt_layer (Block p cs) = names_block nowhere (map erased_stmt (map tree cs)) ∙ same_code cs
stmt_layer (Assert p o e) = names_assert nowhere (option_map erased_identifier o) (erased_expr e)
stmt_layer (Assume p e) = names_assume nowhere (erased_expr e)
stmt_layer (Havoc p i b) = names_havoc nowhere (erased_identifier i) b
stmt_layer (Assign p ts es) = names_assign nowhere (map erased_target ts) (map erased_expr es)
stmt_layer (If p arms o) =
    let these = map (each_arm tree) arms in
    let os = option_map (map tree) o in
    ap erased_layer (map_if tree p arms o)
    ∙ ap (λ z. stmt_names (erase_stmt_form z)) (map_if erased_stmt p these os)
    ∙ names_if nowhere (map arm_nowhere (map (each_arm erased_stmt) these)) (option_map (map erased_stmt) os)
    ∙ omega (arith, same_arms arms, same_else o)
    ∙ sym (ap counted_layer (map_if tree p arms o) ∙ ap stmt_count (map_if stmt_names p these os))
stmt_layer (Case p arms o) =
    let these = map (each_arm tree) arms in
    let os = option_map (map tree) o in
    ap erased_layer (map_case tree p arms o)
    ∙ ap (λ z. stmt_names (erase_stmt_form z)) (map_case erased_stmt p these os)
    ∙ names_case nowhere (map arm_nowhere (map (each_arm erased_stmt) these)) (option_map (map erased_stmt) os)
    ∙ omega (arith, same_arms arms, same_else o)
    ∙ sym (ap counted_layer (map_case tree p arms o) ∙ ap stmt_count (map_case stmt_names p these os))
stmt_layer (For p i t a b cs) =
    names_for nowhere (erased_identifier i) (option_map erased_type t) (erased_bound a) (erased_bound b) (map erased_stmt (map tree cs)) ∙ omega (arith, same_option t, same_code cs)
stmt_layer (Call p ts i es) = names_call nowhere (map erased_target ts) (erased_identifier i) (map erased_expr es)
stmt_layer (Next p i) = names_next nowhere (erased_identifier i)

stmt_step : (y : Stmt-F Child) → SameStmt (roll-Stmt (map-Stmt Child Stmt tree y))
stmt_step y =
    let z = map-Stmt Child Stmt tree y in
    ap stmt_names (fold-roll-Stmt Stmt erase_stmt_form z) ∙ stmt_layer y ∙ sym (fold-roll-Stmt ℕ stmt_count z)

same_stmt : (s : Stmt) → SameStmt s
same_stmt = ind-Stmt SameStmt (λ x y is. subst (λ z. SameStmt (roll-Stmt z)) is (stmt_step y))

same_statements : (ss : List Stmt) → code_names (map erased_stmt ss) ≡ code_names ss
same_statements ss = total_over stmt_names erased_stmt ss ∙ total_same (λ s. stmt_names (erased_stmt s)) stmt_names same_stmt ss

-- ---- declarations and modules

same_decl : (e : Decl) → decl_names (erased_decl e) ≡ decl_names e
same_decl (decls.OpaqueType p i) = refl
same_decl (decls.TypeAlias p i t) = omega (arith, same_type t)
same_decl (decls.TypeImport p i) = refl
same_decl (decls.Variables p k is t) = omega (arith, length_over erased_identifier is, same_type t)
same_decl (decls.Function p i ps t) = omega (arith, same_parameters ps, same_type t)
same_decl (decls.Define p i ps t e) = omega (arith, same_parameters ps, same_type t)
same_decl (decls.Procedure p q) = omega (arith, same_parameters q.parameters, same_parameters q.results, same_statements q.body)
same_decl (decls.Instance p i m bs) = refl
same_decl (decls.Init p ss) = same_statements ss
same_decl (decls.Next p ss) = same_statements ss
same_decl (decls.Invariant p i e) = refl
same_decl (decls.Axiom p None e) = refl
same_decl (decls.Axiom p (Some i) e) = refl
same_decl (decls.Hyperinvariant p n i e) = refl
same_decl (decls.Hyperaxiom p n i e) = refl
same_decl (decls.Control p cs) = refl

same_module : (m : Module) → module_names (erased_module m) ≡ module_names m
same_module m = total_over decl_names erased_decl m.decls ∙ total_same (λ e. decl_names (erased_decl e)) decl_names same_decl m.decls

to_erased : (limit : ℕ) (ms : List Module) → HaveFewNames limit ms → HaveFewNames limit (erased_modules ms)
to_erased limit [] h = tt
to_erased limit (m ∷ ms) h = ((let e = same_module m in let i = h.0 in omega arith), to_erased limit ms h.1)

from_erased : (limit : ℕ) (ms : List Module) → HaveFewNames limit (erased_modules ms) → HaveFewNames limit ms
from_erased limit [] h = tt
from_erased limit (m ∷ ms) h = ((let e = same_module m in let i = h.0 in omega arith), from_erased limit ms h.1)

pub same_names : (limit : ℕ) (modules others : List Module) → erased_modules modules ≡ erased_modules others → HaveFewNames limit others → HaveFewNames limit modules
same_names limit modules others e h = from_erased limit modules (subst (HaveFewNames limit) (sym e) (to_erased limit others h))
