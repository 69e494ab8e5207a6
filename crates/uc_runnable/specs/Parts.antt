-- The same of the parts of expressions and statements, as the trees hold them.
use Rattle.std.specs.Prelude.{List, Option, Some, None}
use Rattle.std.specs.Option.{option_or}
use Rattle.uc_lexer.specs.declared.place.Place.{Place}
use Rattle.uc_syntax.specs.declared.expression.Expr.{Expr}
use Rattle.uc_syntax.specs.declared.expression.Branch.{Branch}
use Rattle.uc_syntax.specs.declared.expression.Primary.{Primary}
use Rattle.uc_syntax.specs.declared.expression.Primary.TheVariants.{Number, Apply, OnBits, Grouped}
use Rattle.uc_syntax.specs.declared.expression.Selection.{Selection}
use Rattle.uc_syntax.specs.declared.expression.Selection.TheVariants.{Element, Update}
use Rattle.uc_syntax.specs.declared.statement.Arm.{Arm}
use Rattle.uc_syntax.specs.declared.statement.Stmt.{Stmt}
use Rattle.uc_meaning.specs.Lookup.{first_some}
use Rattle.uc_runnable.specs.Outside.{expressions_among, number_in, outside_block}

abbrev pub number_in_branch : Branch Expr → Option Place
number_in_branch b = option_or (number_in b.condition) (number_in b.value)

abbrev pub primary_in : Place → Primary Expr → Option Place
primary_in place (Number n) = Some place
primary_in place (Apply f arguments) = first_some number_in arguments
primary_in place (OnBits function arguments) = first_some number_in (expressions_among function arguments)
primary_in place (Grouped e) = number_in e
primary_in place other = None

abbrev pub selection_in : Selection Expr → Option Place
selection_in (Element place i) = number_in i
selection_in (Update place i v) = option_or (number_in i) (number_in v)
selection_in other = None

abbrev pub arm_in : Arm Stmt → Option Place
arm_in a = option_or (number_in a.condition) (outside_block a.body)

abbrev pub else_in : Option (List Stmt) → Option Place
else_in None = None
else_in (Some block) = outside_block block
