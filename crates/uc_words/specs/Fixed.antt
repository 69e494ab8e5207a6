-- The word that a token is, whatever its text.
use Rattle.std.specs.Prelude.{Option, None, Some}
use Rattle.uc_lexer.specs.declared.token.TokenKind.{TokenKind}
use Rattle.uc_lexer.specs.declared.token.TokenKind.TheVariants as token
use Rattle.uc_grammar.specs.declared.word.Kind.{Kind}
use Rattle.uc_grammar.specs.declared.word.Kind.TheVariants as word

-- Each token is the word of the same name and values. Only a name's word depends on its text.
abbrev pub fixed_kind : TokenKind → Option Kind
fixed_kind token.Name = None
fixed_kind (token.BvType width) = Some (word.BvType width)
fixed_kind (token.Number value) = Some (word.Number value)
fixed_kind (token.BvLit value width) = Some (word.BvLit value width)
fixed_kind token.KwModule = Some word.KwModule
fixed_kind token.KwType = Some word.KwType
fixed_kind token.KwVar = Some word.KwVar
fixed_kind token.KwInput = Some word.KwInput
fixed_kind token.KwOutput = Some word.KwOutput
fixed_kind token.KwConst = Some word.KwConst
fixed_kind token.KwFunction = Some word.KwFunction
fixed_kind token.KwDefine = Some word.KwDefine
fixed_kind token.KwProcedure = Some word.KwProcedure
fixed_kind token.KwReturns = Some word.KwReturns
fixed_kind token.KwRequires = Some word.KwRequires
fixed_kind token.KwEnsures = Some word.KwEnsures
fixed_kind token.KwModifies = Some word.KwModifies
fixed_kind token.KwInstance = Some word.KwInstance
fixed_kind token.KwInit = Some word.KwInit
fixed_kind token.KwNext = Some word.KwNext
fixed_kind token.KwInvariant = Some word.KwInvariant
fixed_kind token.KwAxiom = Some word.KwAxiom
fixed_kind token.KwHyperinvariant = Some word.KwHyperinvariant
fixed_kind token.KwHyperaxiom = Some word.KwHyperaxiom
fixed_kind token.KwControl = Some word.KwControl
fixed_kind token.KwBoolean = Some word.KwBoolean
fixed_kind token.KwInteger = Some word.KwInteger
fixed_kind token.KwEnum = Some word.KwEnum
fixed_kind token.KwRecord = Some word.KwRecord
fixed_kind token.KwIf = Some word.KwIf
fixed_kind token.KwElse = Some word.KwElse
fixed_kind token.KwThen = Some word.KwThen
fixed_kind token.KwCase = Some word.KwCase
fixed_kind token.KwDefault = Some word.KwDefault
fixed_kind token.KwEsac = Some word.KwEsac
fixed_kind token.KwFor = Some word.KwFor
fixed_kind token.KwIn = Some word.KwIn
fixed_kind token.KwCall = Some word.KwCall
fixed_kind token.KwSkip = Some word.KwSkip
fixed_kind token.KwAssert = Some word.KwAssert
fixed_kind token.KwAssume = Some word.KwAssume
fixed_kind token.KwHavoc = Some word.KwHavoc
fixed_kind token.KwOld = Some word.KwOld
fixed_kind token.KwTrue = Some word.KwTrue
fixed_kind token.KwFalse = Some word.KwFalse
fixed_kind token.KwForall = Some word.KwForall
fixed_kind token.KwExists = Some word.KwExists
fixed_kind token.KwWhile = Some word.KwWhile
fixed_kind token.LeftParen = Some word.LeftParen
fixed_kind token.RightParen = Some word.RightParen
fixed_kind token.LeftBrace = Some word.LeftBrace
fixed_kind token.RightBrace = Some word.RightBrace
fixed_kind token.LeftBracket = Some word.LeftBracket
fixed_kind token.RightBracket = Some word.RightBracket
fixed_kind token.Comma = Some word.Comma
fixed_kind token.Semicolon = Some word.Semicolon
fixed_kind token.Colon = Some word.Colon
fixed_kind token.Dot = Some word.Dot
fixed_kind token.Prime = Some word.Prime
fixed_kind token.Assign = Some word.Assign
fixed_kind token.Equal = Some word.Equal
fixed_kind token.NotEqual = Some word.NotEqual
fixed_kind token.Iff = Some word.Iff
fixed_kind token.Implies = Some word.Implies
fixed_kind token.And = Some word.And
fixed_kind token.Or = Some word.Or
fixed_kind token.Not = Some word.Not
fixed_kind token.Less = Some word.Less
fixed_kind token.LessEqual = Some word.LessEqual
fixed_kind token.Greater = Some word.Greater
fixed_kind token.GreaterEqual = Some word.GreaterEqual
fixed_kind token.LessUnsigned = Some word.LessUnsigned
fixed_kind token.LessEqualUnsigned = Some word.LessEqualUnsigned
fixed_kind token.GreaterUnsigned = Some word.GreaterUnsigned
fixed_kind token.GreaterEqualUnsigned = Some word.GreaterEqualUnsigned
fixed_kind token.Plus = Some word.Plus
fixed_kind token.Minus = Some word.Minus
fixed_kind token.Star = Some word.Star
fixed_kind token.Concat = Some word.Concat
fixed_kind token.Ampersand = Some word.Ampersand
fixed_kind token.Bar = Some word.Bar
fixed_kind token.Caret = Some word.Caret
fixed_kind token.Tilde = Some word.Tilde
fixed_kind token.Arrow = Some word.Arrow
