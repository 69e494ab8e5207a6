-- Parts of forms that a function reads by itself.
use Rattle.std.specs.Prelude.{List, ◌⊎◌}
use Rattle.std.proofs.Common.{inl, inr}
use Rattle.uc_forms.specs.Form.{both, nothing, either, made, deep, word, many, after, before}
use Rattle.uc_grammar.specs.declared.word.Kind.TheVariants.{Arrow, Comma, Prime, RightBracket}
use Rattle.uc_lexer.specs.declared.place.Place.{Place}
use Rattle.uc_grammar.specs.declared.word.Word.{Word}
use Rattle.uc_grammar.specs.Syntax.{F, Head, a_name, arguments, named, selection, expr, branch, Placed, primary, selected_of}
use Rattle.uc_syntax.specs.declared.expression.Expr.{Expr}
use Rattle.uc_syntax.specs.declared.expression.Branch.{Branch}
use Rattle.uc_syntax.specs.declared.expression.Selection.{Selection}
use Rattle.uc_syntax.specs.declared.expression.Selection.TheVariants as selection_kinds

-- a primary that begins with a name
unfoldable pub named_primary : F Head
named_primary = made named (both a_name (either (word Prime) (either (deep arguments) nothing)))

-- a primary with its selections
unfoldable pub selected : F Placed
selected = made selected_of (both primary (many selection))

unfoldable pub selections : F (List (Selection Expr))
selections = many selection

-- the expressions behind the first of a list
abbrev pub more_expressions : F (List Expr)
more_expressions = many (after Comma expr)

abbrev pub more_branches : F (List (Branch Expr))
more_branches = many branch

-- the value that is put at an index
unfoldable pub new_value : F Expr
new_value = after Arrow (before expr RightBracket)

-- an index in brackets, and maybe a value that is put there
unfoldable pub element : F (Expr × (Word ⊎ Expr))
element = both expr (either (word RightBracket) new_value)

abbrev pub element_of : Place → Expr × (Word ⊎ Expr) → Selection Expr
element_of place y = elim y.1 [ inl w ↦ selection_kinds.Element place y.0 | inr e ↦ selection_kinds.Update place y.0 e ]
