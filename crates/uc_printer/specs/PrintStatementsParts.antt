-- What is printed of the parts of a statement.
use Rattle.std.specs.Prelude.{ℕ, Bool, true, false, List, [], ◌∷◌, Option}
use Rattle.uc_grammar.specs.declared.word.Kind.TheVariants as kinds
use Rattle.uc_syntax.specs.declared.place.Identifier.{Identifier}
use Rattle.uc_syntax.specs.declared.type_expression.TypeExpr.{TypeExpr}
use Rattle.uc_syntax.specs.declared.statement.Arm.{Arm}
use Rattle.uc_syntax.specs.declared.statement.RangeBound.{RangeBound}
use Rattle.uc_syntax.specs.declared.statement.Stmt.{Stmt}
use Rattle.uc_print_laws.specs.Printed.{Printed, none, sign, ◌<+>◌, each, in_parens}
use Rattle.uc_print_laws.specs.Text.{kind_text, with_word}
use Rattle.uc_print_laws.specs.Statements.{arm_words, bound_words, case_words, each_arm, further_words, printed_stmt, variable_words}

-- an arm of `if`
abbrev pub arm : Arm Stmt → Printed
arm a = arm_words (each_arm printed_stmt a)

-- a further one, behind `else`
abbrev pub further : Arm Stmt → Printed
further a = further_words (each_arm printed_stmt a)

-- arms from the first one on, or further ones
abbrev pub arms_words : Bool → List (Arm Stmt) → Printed
arms_words is_first [] = none
arms_words true (a ∷ arms) = sign kinds.KwIf <+> (arm a <+> each further arms)
arms_words false (a ∷ arms) = each further (a ∷ arms)

-- the text goes on with what stands before the condition of an arm
abbrev pub opened : Bool → List ℕ → List ℕ
opened true out = with_word out (kind_text kinds.KwIf)
opened false out = with_word (with_word out (kind_text kinds.KwElse)) (kind_text kinds.KwIf)

-- an arm of `case`
abbrev pub guarded : Arm Stmt → Printed
guarded a = case_words (each_arm printed_stmt a)

-- what stands before the block of a loop
abbrev pub loop_head : Identifier → Option TypeExpr → RangeBound → RangeBound → Printed
loop_head i t from to = sign kinds.KwFor <+> (variable_words i t <+> (sign kinds.KwIn <+> (sign (kinds.Range 0) <+> in_parens (bound_words from <+> (sign kinds.Comma <+> bound_words to)))))
