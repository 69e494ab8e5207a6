-- What is printed of the parts of an expression.
use Rattle.std.specs.Prelude.{ℕ, Bool, true, false}
use Rattle.uc_grammar.specs.declared.word.Kind.{Kind}
use Rattle.uc_grammar.specs.declared.word.Kind.TheVariants.{KwTrue, KwFalse}
use Rattle.uc_syntax.specs.declared.expression.Branch.{Branch}
use Rattle.uc_syntax.specs.declared.expression.Selection.{Selection}
use Rattle.uc_syntax.specs.declared.expression.Primary.{Primary}
use Rattle.uc_syntax.specs.declared.expression.Expr.{Expr}
use Rattle.uc_print_laws.specs.Printed.{Printed}
use Rattle.uc_print_laws.specs.Expressions.{at, leveled, branch_words, primary_words, selection_words, each_branch, each_primary, each_selection}

-- an expression where one of at most this height may stand
abbrev pub operand : ℕ → Expr → Printed
operand most e = at most (leveled e)

abbrev pub shown_branch : Branch Expr → Printed
shown_branch b = branch_words (each_branch leveled b)

abbrev pub shown_primary : Primary Expr → Printed
shown_primary q = primary_words (each_primary leveled q)

abbrev pub shown_selection : Selection Expr → Printed
shown_selection s = selection_words (each_selection leveled s)

abbrev pub truth_kind : Bool → Kind
truth_kind true = KwTrue
truth_kind false = KwFalse
