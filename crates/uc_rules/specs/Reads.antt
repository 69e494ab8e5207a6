-- Which defines read state: a variable, an input or an output, themselves or by a define.
use Rattle.std.specs.Prelude.{ℕ, zero, suc, Bool, true, false, ◌||◌, nat_eq, if◌then◌else◌, List, map, length, Option, Some}
use Rattle.std.specs.List.{list_any}
use Rattle.std.specs.Option.{is_some}
use Rattle.uc_syntax.specs.declared.type_expression.Parameter.{Parameter}
use Rattle.uc_syntax.specs.declared.type_expression.TypeExpr.{TypeExpr}
use Rattle.uc_syntax.specs.declared.expression.Expr.{Expr}
use Rattle.uc_syntax.specs.declared.expression.Expr.TheOpen.{Expr-F}
use Rattle.uc_syntax.specs.declared.expression.Expr.TheOpen.Expr-F.{If, Iff, Implies, Or, And, Compare, BitOr, BitXor, BitAnd, Concat, Sum, Product, Unary, Selected}
use Rattle.uc_syntax.specs.declared.expression.Expr.TheFolds.{fold-Expr}
use Rattle.uc_syntax.specs.declared.expression.Primary.{Primary}
use Rattle.uc_syntax.specs.declared.expression.Primary.TheVariants.{Name, Apply, OnBits, Old, Grouped}
use Rattle.uc_syntax.specs.declared.expression.Selection.{Selection}
use Rattle.uc_syntax.specs.declared.expression.Selection.TheVariants.{Element, Update}
use Rattle.uc_syntax.specs.declared.declaration.VariableKind.{VariableKind}
use Rattle.uc_syntax.specs.declared.declaration.VariableKind.TheVariants.{Constant}
use Rattle.uc_syntax.specs.declared.declaration.Module.{Module}
use Rattle.uc_meaning.specs.Lookup.{System}
use Rattle.uc_rules.specs.Names.{Valued, ValuedVariable, Called, CalledDefine, value_named, called_named, instance_named}

abbrev pub is_state_kind : VariableKind → Bool
is_state_kind Constant = false
is_state_kind other = true

abbrev pub is_state : Option Valued → Bool
is_state (Some (ValuedVariable kind type)) = is_state_kind kind
is_state other = false

-- a name that is no parameter: a variable, input or output of the module, or an instance, of which such a name is read
abbrev pub name_reads : System → Module → List ℕ → ℕ → Bool
name_reads system m bound x =
    if list_any (nat_eq x) bound then false else (is_state (value_named system m x) || is_some (instance_named system m x))

-- Parts of an expression, by whether they read state where these names are bound.
abbrev pub any_reads : List Bool → Bool
any_reads parts = list_any (λ p. p) parts

abbrev pub primary_reads : System → Module → List ℕ → (ℕ → Bool) → Primary Bool → Bool
primary_reads system m bound by_define (Name x primed) = name_reads system m bound x
primary_reads system m bound by_define (Old x) = name_reads system m bound x.name
primary_reads system m bound by_define (Apply f arguments) = by_define f || any_reads arguments
primary_reads system m bound by_define (OnBits function arguments) = any_reads arguments
primary_reads system m bound by_define (Grouped e) = e
primary_reads system m bound by_define other = false

abbrev pub selection_reads : Selection Bool → Bool
selection_reads (Element place i) = i
selection_reads (Update place i v) = i || v
selection_reads other = false

abbrev pub reads_form : System → Module → List ℕ → (ℕ → Bool) → Expr-F Bool → Bool
reads_form system m bound by_define (If place bs otherwise) = list_any (λ b. b.condition || b.value) bs || otherwise
reads_form system m bound by_define (Iff place parts marks) = any_reads parts
reads_form system m bound by_define (Implies place parts marks) = any_reads parts
reads_form system m bound by_define (Or place parts marks) = any_reads parts
reads_form system m bound by_define (And place parts marks) = any_reads parts
reads_form system m bound by_define (Compare place how mark a b) = a || b
reads_form system m bound by_define (BitOr place parts marks) = any_reads parts
reads_form system m bound by_define (BitXor place parts marks) = any_reads parts
reads_form system m bound by_define (BitAnd place parts marks) = any_reads parts
reads_form system m bound by_define (Concat place parts marks) = any_reads parts
reads_form system m bound by_define (Sum place parts signs) = any_reads parts
reads_form system m bound by_define (Product place parts marks) = any_reads parts
reads_form system m bound by_define (Unary place operator e) = e
reads_form system m bound by_define (Selected place primary selections) = primary_reads system m bound by_define primary || list_any selection_reads selections

-- whether an expression reads state, where a define does as given
unfoldable pub reads_by : System → Module → List ℕ → (ℕ → Bool) → Expr → Bool
reads_by system m bound by_define = fold-Expr Bool (reads_form system m bound by_define)

abbrev pub parameter_names : List (Parameter TypeExpr) → List ℕ
parameter_names ps = map (λ p. p.identifier.name) ps

abbrev pub body_reads : System → Module → (ℕ → Bool) → Option Called → Bool
body_reads system m by_define (Some (CalledDefine d)) = reads_by system m (parameter_names d.parameters) by_define d.body
body_reads system m by_define other = false

-- whether a define reads state, through at most n defines
unfoldable pub reads_through : ℕ → System → Module → ℕ → Bool
reads_through zero system m f = false
reads_through (suc n) system m f = body_reads system m (reads_through n system m) (called_named system m f)

-- No way from a define to what it reads is longer than the declarations of the module.
abbrev pub define_reads : System → Module → ℕ → Bool
define_reads system m f = reads_through (length m.decls) system m f
