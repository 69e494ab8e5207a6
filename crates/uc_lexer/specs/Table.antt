-- The keywords and the signs, with their spellings.
use Rattle.std.specs.Prelude.{◌≡◌, ℕ, List, [], ◌∷◌, ◌⊎◌, codes}
use Rattle.uc_lexer.specs.declared.token.TokenKind.{TokenKind}
use Rattle.uc_lexer.specs.declared.token.TokenKind.TheVariants.{KwModule, KwType, KwVar, KwInput, KwOutput, KwConst, KwFunction, KwDefine, KwProcedure, KwReturns, KwRequires, KwEnsures, KwModifies, KwInstance, KwInit, KwNext, KwInvariant, KwAxiom, KwHyperinvariant, KwHyperaxiom, KwControl, KwBoolean, KwInteger, KwEnum, KwRecord, KwIf, KwElse, KwThen, KwCase, KwDefault, KwEsac, KwFor, KwIn, KwCall, KwSkip, KwAssert, KwAssume, KwHavoc, KwOld, KwTrue, KwFalse, KwForall, KwExists, KwWhile, LeftParen, RightParen, LeftBrace, RightBrace, LeftBracket, RightBracket, Comma, Semicolon, Colon, Dot, Prime, Assign, Equal, NotEqual, Iff, Implies, And, Or, Not, Less, LessEqual, Greater, GreaterEqual, LessUnsigned, LessEqualUnsigned, GreaterUnsigned, GreaterEqualUnsigned, Plus, Minus, Star, Concat, Ampersand, Bar, Caret, Tilde, Arrow}

-- a spelling, and what it spells
abbrev pub Entry : Type 0
Entry = List ℕ × TokenKind

abbrev pub keywords : List Entry
keywords =
    (codes "module", KwModule) ∷ (codes "type", KwType) ∷ (codes "var", KwVar) ∷ (codes "input", KwInput) ∷ (codes "output", KwOutput)
    ∷ (codes "const", KwConst) ∷ (codes "function", KwFunction) ∷ (codes "define", KwDefine) ∷ (codes "procedure", KwProcedure) ∷ (codes "returns", KwReturns)
    ∷ (codes "requires", KwRequires) ∷ (codes "ensures", KwEnsures) ∷ (codes "modifies", KwModifies) ∷ (codes "instance", KwInstance) ∷ (codes "init", KwInit)
    ∷ (codes "next", KwNext) ∷ (codes "invariant", KwInvariant) ∷ (codes "axiom", KwAxiom) ∷ (codes "hyperinvariant", KwHyperinvariant) ∷ (codes "hyperaxiom", KwHyperaxiom)
    ∷ (codes "control", KwControl) ∷ (codes "boolean", KwBoolean) ∷ (codes "integer", KwInteger) ∷ (codes "enum", KwEnum) ∷ (codes "record", KwRecord)
    ∷ (codes "if", KwIf) ∷ (codes "else", KwElse) ∷ (codes "then", KwThen) ∷ (codes "case", KwCase) ∷ (codes "default", KwDefault)
    ∷ (codes "esac", KwEsac) ∷ (codes "for", KwFor) ∷ (codes "in", KwIn) ∷ (codes "call", KwCall) ∷ (codes "skip", KwSkip)
    ∷ (codes "assert", KwAssert) ∷ (codes "assume", KwAssume) ∷ (codes "havoc", KwHavoc) ∷ (codes "old", KwOld) ∷ (codes "true", KwTrue)
    ∷ (codes "false", KwFalse) ∷ (codes "forall", KwForall) ∷ (codes "exists", KwExists) ∷ (codes "while", KwWhile) ∷ []

-- longer ones first
abbrev pub signs : List Entry
signs =
    (codes "<==>", Iff) ∷ (codes "<=_u", LessEqualUnsigned) ∷ (codes ">=_u", GreaterEqualUnsigned) ∷ (codes "==>", Implies) ∷ (codes "<_u", LessUnsigned) ∷ (codes ">_u", GreaterUnsigned)
    ∷ (codes "==", Equal) ∷ (codes "!=", NotEqual) ∷ (codes "&&", And) ∷ (codes "||", Or) ∷ (codes "<=", LessEqual) ∷ (codes ">=", GreaterEqual)
    ∷ (codes "++", Concat) ∷ (codes "->", Arrow) ∷ (codes "(", LeftParen) ∷ (codes ")", RightParen) ∷ (codes "{", LeftBrace) ∷ (codes "}", RightBrace)
    ∷ (codes "[", LeftBracket) ∷ (codes "]", RightBracket) ∷ (codes ",", Comma) ∷ (codes ";", Semicolon) ∷ (codes ":", Colon) ∷ (codes ".", Dot)
    ∷ (codes "'", Prime) ∷ (codes "=", Assign) ∷ (codes "!", Not) ∷ (codes "<", Less) ∷ (codes ">", Greater) ∷ (codes "+", Plus)
    ∷ (codes "-", Minus) ∷ (codes "*", Star) ∷ (codes "&", Ampersand) ∷ (codes "|", Bar) ∷ (codes "^", Caret) ∷ (codes "~", Tilde) ∷ []

-- the table has this spelling of this kind
abbrev pub IsAmong : List Entry → List ℕ → TokenKind → Type 0
IsAmong [] bytes kind = ⊥
IsAmong (e ∷ es) bytes kind = ((bytes ≡ e.0) × (kind ≡ e.1)) ⊎ IsAmong es bytes kind
