-- The levels of expressions.
use Rattle.std.specs.Prelude.{ℕ, List, [], ◌∷◌}
use Rattle.uc_forms.specs.Counted.{Outcome, turned, paired}
use Rattle.uc_forms.specs.Form.{both, word, one_of, many}
use Rattle.uc_grammar.specs.Code.{code_of}
use Rattle.uc_grammar.specs.declared.word.Word.{Word}
use Rattle.uc_grammar.specs.declared.word.Kind.{Kind}
use Rattle.uc_grammar.specs.declared.word.Kind.TheVariants as kinds
use Rattle.uc_grammar.specs.Syntax.{Placed, product, bit_or, optional, chain_of, sum_of, compared_of}
use Rattle.uc_parse_expressions.specs.Chains.{operand_level, operand_form, sign_of, node_of}
use Rattle.uc_parse_expressions.specs.Signs.{minus, sum_codes, orders, order_codes}
use Rattle.uc_parse_expressions.specs.declared.chain.Chain.TheVariants.{Product, Concat, BitAnd, BitXor, BitOr, And, Or, Implies, Iff}
use Rattle.uc_parse_expressions.specs.declared.level.Level.{Level}
use Rattle.uc_parse_expressions.specs.declared.level.Level.TheVariants as level_kinds
use Rattle.uc_parse_expressions.specs.Reading.{form}

-- how many levels bind tighter
abbrev pub height : Level → ℕ
height level_kinds.Unary = 0
height (level_kinds.Chain Product) = 1
height level_kinds.Sum = 2
height (level_kinds.Chain Concat) = 3
height (level_kinds.Chain BitAnd) = 4
height (level_kinds.Chain BitXor) = 5
height (level_kinds.Chain BitOr) = 6
height level_kinds.Comparison = 7
height (level_kinds.Chain And) = 8
height (level_kinds.Chain Or) = 9
height (level_kinds.Chain Implies) = 10
height (level_kinds.Chain Iff) = 11

-- the level of the operands
abbrev pub below : Level → Level
below level_kinds.Unary = level_kinds.Unary
below level_kinds.Sum = level_kinds.Chain Product
below level_kinds.Comparison = level_kinds.Chain BitOr
below (level_kinds.Chain c) = operand_level c

-- the codes of the operators
abbrev pub signs : Level → List ℕ
signs level_kinds.Unary = []
signs level_kinds.Sum = sum_codes
signs level_kinds.Comparison = order_codes
signs (level_kinds.Chain c) = code_of (sign_of c) ∷ []

-- the level with this operator
abbrev pub level_of : Kind → Level
level_of kinds.Star = level_kinds.Chain Product
level_of kinds.Plus = level_kinds.Sum
level_of kinds.Minus = level_kinds.Sum
level_of kinds.Concat = level_kinds.Chain Concat
level_of kinds.Ampersand = level_kinds.Chain BitAnd
level_of kinds.Caret = level_kinds.Chain BitXor
level_of kinds.Bar = level_kinds.Chain BitOr
level_of kinds.Equal = level_kinds.Comparison
level_of kinds.NotEqual = level_kinds.Comparison
level_of kinds.Less = level_kinds.Comparison
level_of kinds.LessEqual = level_kinds.Comparison
level_of kinds.Greater = level_kinds.Comparison
level_of kinds.GreaterEqual = level_kinds.Comparison
level_of kinds.LessUnsigned = level_kinds.Comparison
level_of kinds.LessEqualUnsigned = level_kinds.Comparison
level_of kinds.GreaterUnsigned = level_kinds.Comparison
level_of kinds.GreaterEqualUnsigned = level_kinds.Comparison
level_of kinds.And = level_kinds.Chain And
level_of kinds.Or = level_kinds.Chain Or
level_of kinds.Implies = level_kinds.Chain Implies
level_of kinds.Iff = level_kinds.Chain Iff
level_of _ = level_kinds.Unary

-- the level with the operator that comes next
abbrev pub level_here : List Word → Level
level_here [] = level_kinds.Unary
level_here (w ∷ ws) = level_of w.kind

-- what a level gives from what its first operand gave
abbrev pub onward : ℕ → Level → Outcome Word Placed → Outcome Word Placed
onward levels level_kinds.Unary r = r
onward levels level_kinds.Sum r = turned sum_of (paired r (form levels (many (both (one_of kinds.Plus minus) product))))
onward levels level_kinds.Comparison r = turned compared_of (paired r (form levels (optional (both (one_of kinds.Equal orders) bit_or))))
onward levels (level_kinds.Chain c) r = turned (chain_of (node_of c)) (paired r (form levels (many (both (word (sign_of c)) (operand_form c)))))
