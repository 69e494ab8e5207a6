-- The levels at which one operator stands between all operands.
use Rattle.std.specs.Prelude.{List, ◌++◌, map}
use Rattle.uc_lexer.specs.declared.place.Place.{Place}
use Rattle.uc_grammar.specs.declared.word.Word.{Word}
use Rattle.uc_grammar.specs.declared.word.Kind.{Kind}
use Rattle.uc_grammar.specs.declared.word.Kind.TheVariants as kinds
use Rattle.uc_grammar.specs.Syntax.{F, Placed, unary, product, summed, concatenated, bit_and, bit_xor, bit_or, compared, conjunction, disjunction, implication, equivalence}
use Rattle.uc_parse_expressions.specs.declared.chain.Chain.{Chain}
use Rattle.uc_parse_expressions.specs.declared.chain.Chain.TheVariants.{Product, Concat, BitAnd, BitXor, BitOr, And, Or, Implies, Iff}
use Rattle.uc_parse_expressions.specs.declared.level.Level.{Level}
use Rattle.uc_parse_expressions.specs.declared.level.Level.TheVariants as level_kinds
use Rattle.uc_syntax.specs.declared.expression.Expr.{Expr}
use Rattle.uc_syntax.specs.declared.expression.Expr.TheViews as exprs

-- the form of each
abbrev pub chain_form : Chain → F Placed
chain_form Product = product
chain_form Concat = concatenated
chain_form BitAnd = bit_and
chain_form BitXor = bit_xor
chain_form BitOr = bit_or
chain_form And = conjunction
chain_form Or = disjunction
chain_form Implies = implication
chain_form Iff = equivalence

-- the level of its operands
abbrev pub operand_level : Chain → Level
operand_level Product = level_kinds.Unary
operand_level Concat = level_kinds.Sum
operand_level BitAnd = level_kinds.Chain Concat
operand_level BitXor = level_kinds.Chain BitAnd
operand_level BitOr = level_kinds.Chain BitXor
operand_level And = level_kinds.Comparison
operand_level Or = level_kinds.Chain And
operand_level Implies = level_kinds.Chain Or
operand_level Iff = level_kinds.Chain Implies

-- the form of a level
abbrev pub form_of : Level → F Placed
form_of level_kinds.Unary = unary
form_of level_kinds.Sum = summed
form_of level_kinds.Comparison = compared
form_of (level_kinds.Chain c) = chain_form c

-- the form of a chain's operands
abbrev pub operand_form : Chain → F Placed
operand_form c = form_of (operand_level c)

-- the operator
abbrev pub sign_of : Chain → Kind
sign_of Product = kinds.Star
sign_of Concat = kinds.Concat
sign_of BitAnd = kinds.Ampersand
sign_of BitXor = kinds.Caret
sign_of BitOr = kinds.Bar
sign_of And = kinds.And
sign_of Or = kinds.Or
sign_of Implies = kinds.Implies
sign_of Iff = kinds.Iff

-- the node of operands and of the places between them
abbrev pub node_of : Chain → Place → List Expr → List Place → Expr
node_of Product = exprs.Product
node_of Concat = exprs.Concat
node_of BitAnd = exprs.BitAnd
node_of BitXor = exprs.BitXor
node_of BitOr = exprs.BitOr
node_of And = exprs.And
node_of Or = exprs.Or
node_of Implies = exprs.Implies
node_of Iff = exprs.Iff

-- the operands and the marks of their operators, behind those before them
abbrev pub gathered : {M : Type 0} → (Word → M) → List Expr → List M → List (Word × Placed) → List Expr × List M
gathered mark operands marks found = (operands ++ map (λ x. x.1.1) found, marks ++ map (λ x. mark x.0) found)
