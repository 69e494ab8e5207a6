-- The kinds of words at the places where one of several kinds stands.
use Rattle.std.specs.Prelude.{ℕ, List, [], ◌∷◌}
use Rattle.uc_forms.specs.Form.{codes_of}
use Rattle.uc_grammar.specs.declared.word.Kind.{Kind}
use Rattle.uc_grammar.specs.declared.word.Kind.TheVariants.{Equal, NotEqual, Not, Less, LessEqual, Greater, GreaterEqual, LessUnsigned, LessEqualUnsigned, GreaterUnsigned, GreaterEqualUnsigned, Plus, Minus, Tilde}
use Rattle.uc_grammar.specs.Syntax.{words}

-- the sign of a sum beside `+`
abbrev pub minus : List Kind
minus = Minus ∷ []

abbrev pub sum_codes : List ℕ
sum_codes = codes_of words Plus minus

-- the signs of comparisons beside `==`
abbrev pub orders : List Kind
orders = NotEqual ∷ Less ∷ LessEqual ∷ Greater ∷ GreaterEqual ∷ LessUnsigned ∷ LessEqualUnsigned ∷ GreaterUnsigned ∷ GreaterEqualUnsigned ∷ []

abbrev pub order_codes : List ℕ
order_codes = codes_of words Equal orders

-- the signs before an operand, beside `!`
abbrev pub further_signs : List Kind
further_signs = Minus ∷ Tilde ∷ []

abbrev pub sign_codes : List ℕ
sign_codes = codes_of words Not further_signs
