-- The text of a design.
use Rattle.std.specs.Prelude.{ℕ, List, [], ◌∷◌, ◌++◌, codes, decimal, slice_get, Option, Some, None}
use Rattle.uc_grammar.specs.declared.word.Kind.{Kind}
use Rattle.uc_grammar.specs.declared.word.Kind.TheVariants as kinds
use Rattle.uc_syntax.specs.declared.expression.BitFunction.{BitFunction}
use Rattle.uc_syntax.specs.declared.expression.BitFunction.TheVariants.{ZeroExtend, SignExtend, ShiftLeft, ShiftRight, ShiftRightSigned}
use Rattle.uc_syntax.specs.declared.declaration.Module.{Module}
use Rattle.uc_print_laws.specs.Piece.{Piece, name, applied, fixed}
use Rattle.uc_print_laws.specs.Declarations.{module_words}

abbrev pub found : Option (List ℕ) → List ℕ
found (Some text) = text
found None = []

-- the text of a name by its number
abbrev pub name_text : List (List ℕ) → ℕ → List ℕ
name_text names n = found (slice_get names n)

abbrev pub function_text : BitFunction → List ℕ
function_text ZeroExtend = codes "bv_zero_extend"
function_text SignExtend = codes "bv_sign_extend"
function_text ShiftLeft = codes "bv_left_shift"
function_text ShiftRight = codes "bv_l_right_shift"
function_text ShiftRightSigned = codes "bv_a_right_shift"

-- the text of a word that is no name of the design
abbrev pub kind_text : Kind → List ℕ
kind_text (kinds.Number n) = decimal n
kind_text (kinds.BvType width) = codes "bv" ++ decimal width
kind_text (kinds.BvLit value width) = decimal value ++ (codes "bv" ++ decimal width)
kind_text (kinds.OnBits f n) = function_text f
kind_text (kinds.Range n) = codes "range"
kind_text (kinds.Unroll n) = codes "unroll"
kind_text (kinds.Induction n) = codes "induction"
kind_text (kinds.Verify n) = codes "verify"
kind_text (kinds.Check n) = codes "check"
kind_text (kinds.PrintResults n) = codes "print_results"
kind_text (kinds.PrintCex n) = codes "print_cex"
kind_text kinds.KwModule = codes "module"
kind_text kinds.KwType = codes "type"
kind_text kinds.KwVar = codes "var"
kind_text kinds.KwInput = codes "input"
kind_text kinds.KwOutput = codes "output"
kind_text kinds.KwConst = codes "const"
kind_text kinds.KwFunction = codes "function"
kind_text kinds.KwDefine = codes "define"
kind_text kinds.KwProcedure = codes "procedure"
kind_text kinds.KwReturns = codes "returns"
kind_text kinds.KwRequires = codes "requires"
kind_text kinds.KwEnsures = codes "ensures"
kind_text kinds.KwModifies = codes "modifies"
kind_text kinds.KwInstance = codes "instance"
kind_text kinds.KwInit = codes "init"
kind_text kinds.KwNext = codes "next"
kind_text kinds.KwInvariant = codes "invariant"
kind_text kinds.KwAxiom = codes "axiom"
kind_text kinds.KwHyperinvariant = codes "hyperinvariant"
kind_text kinds.KwHyperaxiom = codes "hyperaxiom"
kind_text kinds.KwControl = codes "control"
kind_text kinds.KwBoolean = codes "boolean"
kind_text kinds.KwInteger = codes "integer"
kind_text kinds.KwEnum = codes "enum"
kind_text kinds.KwRecord = codes "record"
kind_text kinds.KwIf = codes "if"
kind_text kinds.KwElse = codes "else"
kind_text kinds.KwThen = codes "then"
kind_text kinds.KwCase = codes "case"
kind_text kinds.KwDefault = codes "default"
kind_text kinds.KwEsac = codes "esac"
kind_text kinds.KwFor = codes "for"
kind_text kinds.KwIn = codes "in"
kind_text kinds.KwCall = codes "call"
kind_text kinds.KwSkip = codes "skip"
kind_text kinds.KwAssert = codes "assert"
kind_text kinds.KwAssume = codes "assume"
kind_text kinds.KwHavoc = codes "havoc"
kind_text kinds.KwOld = codes "old"
kind_text kinds.KwTrue = codes "true"
kind_text kinds.KwFalse = codes "false"
kind_text kinds.KwForall = codes "forall"
kind_text kinds.KwExists = codes "exists"
kind_text kinds.KwWhile = codes "while"
kind_text kinds.Iff = codes "<==>"
kind_text kinds.LessEqualUnsigned = codes "<=_u"
kind_text kinds.GreaterEqualUnsigned = codes ">=_u"
kind_text kinds.Implies = codes "==>"
kind_text kinds.LessUnsigned = codes "<_u"
kind_text kinds.GreaterUnsigned = codes ">_u"
kind_text kinds.Equal = codes "=="
kind_text kinds.NotEqual = codes "!="
kind_text kinds.And = codes "&&"
kind_text kinds.Or = codes "||"
kind_text kinds.LessEqual = codes "<="
kind_text kinds.GreaterEqual = codes ">="
kind_text kinds.Concat = codes "++"
kind_text kinds.Arrow = codes "->"
kind_text kinds.LeftParen = codes "("
kind_text kinds.RightParen = codes ")"
kind_text kinds.LeftBrace = codes "{"
kind_text kinds.RightBrace = codes "}"
kind_text kinds.LeftBracket = codes "["
kind_text kinds.RightBracket = codes "]"
kind_text kinds.Comma = codes ","
kind_text kinds.Semicolon = codes ";"
kind_text kinds.Colon = codes ":"
kind_text kinds.Dot = codes "."
kind_text kinds.Prime = codes "'"
kind_text kinds.Assign = codes "="
kind_text kinds.Not = codes "!"
kind_text kinds.Less = codes "<"
kind_text kinds.Greater = codes ">"
kind_text kinds.Plus = codes "+"
kind_text kinds.Minus = codes "-"
kind_text kinds.Star = codes "*"
kind_text kinds.Ampersand = codes "&"
kind_text kinds.Bar = codes "|"
kind_text kinds.Caret = codes "^"
kind_text kinds.Tilde = codes "~"
kind_text (kinds.Name n) = []

-- the same, where the words with numbers have none
abbrev pub plain_text : Kind → List ℕ
plain_text (kinds.Number n) = []
plain_text (kinds.BvType width) = []
plain_text (kinds.BvLit value width) = []
plain_text k = kind_text k

abbrev pub spelling : List (List ℕ) → Piece → List ℕ
spelling names (name n) = name_text names n
spelling names (applied n) = name_text names n
spelling names (fixed k) = kind_text k

-- a text goes on with a word, behind a blank
unfoldable pub with_word : List ℕ → List ℕ → List ℕ
with_word out word = out ++ 32 ∷ word

-- and with several
abbrev pub written : List (List ℕ) → List ℕ → List Piece → List ℕ
written names out [] = out
written names out (p ∷ ps) = written names (with_word out (spelling names p)) ps

-- one blank between neighbours
abbrev pub spaced : List (List ℕ) → List Piece → List ℕ
spaced names [] = []
spaced names (p ∷ ps) = written names (spelling names p) ps

-- a line feed after each module
abbrev pub design_text : List (List ℕ) → List Module → List ℕ
design_text names [] = []
design_text names (m ∷ ms) = (spaced names (module_words m).words ++ 10 ∷ []) ++ design_text names ms
