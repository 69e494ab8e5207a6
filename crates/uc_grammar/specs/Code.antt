-- A number for each kind of word. Nothing shows or stores it: the numbers only have to differ, and those below 9 are the names.
use Rattle.std.specs.Prelude.{ℕ}
use Rattle.uc_grammar.specs.declared.word.Kind.{Kind}
use Rattle.uc_grammar.specs.declared.word.Kind.TheVariants.{Name, OnBits, Range, Unroll, Induction, Verify, Check, PrintResults, PrintCex, Number, BvType, BvLit, LeftParen, RightParen, LeftBrace, RightBrace, LeftBracket, RightBracket, Comma, Semicolon, Colon, Dot, Prime, Assign, Equal, NotEqual, Iff, Implies, And, Or, Not, Less, LessEqual, Greater, GreaterEqual, LessUnsigned, LessEqualUnsigned, GreaterUnsigned, GreaterEqualUnsigned, Plus, Minus, Star, Concat, Ampersand, Bar, Caret, Tilde, Arrow, KwModule, KwType, KwVar, KwInput, KwOutput, KwConst, KwFunction, KwDefine, KwProcedure, KwReturns, KwRequires, KwEnsures, KwModifies, KwInstance, KwInit, KwNext, KwInvariant, KwAxiom, KwHyperinvariant, KwHyperaxiom, KwControl, KwBoolean, KwInteger, KwEnum, KwRecord, KwIf, KwElse, KwThen, KwCase, KwDefault, KwEsac, KwFor, KwIn, KwCall, KwSkip, KwAssert, KwAssume, KwHavoc, KwOld, KwTrue, KwFalse, KwForall, KwExists, KwWhile}

abbrev pub code_of : Kind → ℕ
code_of (Name n) = 0
code_of (OnBits f n) = 1
code_of (Range n) = 2
code_of (Unroll n) = 3
code_of (Induction n) = 4
code_of (Verify n) = 5
code_of (Check n) = 6
code_of (PrintResults n) = 7
code_of (PrintCex n) = 8
code_of (Number n) = 9
code_of (BvType n) = 10
code_of (BvLit n w) = 11
code_of LeftParen = 12
code_of RightParen = 13
code_of LeftBrace = 14
code_of RightBrace = 15
code_of LeftBracket = 16
code_of RightBracket = 17
code_of Comma = 18
code_of Semicolon = 19
code_of Colon = 20
code_of Dot = 21
code_of Prime = 22
code_of Assign = 23
code_of Equal = 24
code_of NotEqual = 25
code_of Iff = 26
code_of Implies = 27
code_of And = 28
code_of Or = 29
code_of Not = 30
code_of Less = 31
code_of LessEqual = 32
code_of Greater = 33
code_of GreaterEqual = 34
code_of LessUnsigned = 35
code_of LessEqualUnsigned = 36
code_of GreaterUnsigned = 37
code_of GreaterEqualUnsigned = 38
code_of Plus = 39
code_of Minus = 40
code_of Star = 41
code_of Concat = 42
code_of Ampersand = 43
code_of Bar = 44
code_of Caret = 45
code_of Tilde = 46
code_of Arrow = 47
code_of KwModule = 48
code_of KwType = 49
code_of KwVar = 50
code_of KwInput = 51
code_of KwOutput = 52
code_of KwConst = 53
code_of KwFunction = 54
code_of KwDefine = 55
code_of KwProcedure = 56
code_of KwReturns = 57
code_of KwRequires = 58
code_of KwEnsures = 59
code_of KwModifies = 60
code_of KwInstance = 61
code_of KwInit = 62
code_of KwNext = 63
code_of KwInvariant = 64
code_of KwAxiom = 65
code_of KwHyperinvariant = 66
code_of KwHyperaxiom = 67
code_of KwControl = 68
code_of KwBoolean = 69
code_of KwInteger = 70
code_of KwEnum = 71
code_of KwRecord = 72
code_of KwIf = 73
code_of KwElse = 74
code_of KwThen = 75
code_of KwCase = 76
code_of KwDefault = 77
code_of KwEsac = 78
code_of KwFor = 79
code_of KwIn = 80
code_of KwCall = 81
code_of KwSkip = 82
code_of KwAssert = 83
code_of KwAssume = 84
code_of KwHavoc = 85
code_of KwOld = 86
code_of KwTrue = 87
code_of KwFalse = 88
code_of KwForall = 89
code_of KwExists = 90
code_of KwWhile = 91

-- the number of a name
abbrev pub name_in : Kind → ℕ
name_in (OnBits f n) = n
name_in (Name n) = n
name_in (Range n) = n
name_in (Unroll n) = n
name_in (Induction n) = n
name_in (Verify n) = n
name_in (Check n) = n
name_in (PrintResults n) = n
name_in (PrintCex n) = n
name_in _ = 0

-- the value of a number or a literal
abbrev pub value_in : Kind → ℕ
value_in (Number n) = n
value_in (BvLit n w) = n
value_in _ = 0

-- the width of a literal or of a type
abbrev pub width_in : Kind → ℕ
width_in (BvType n) = n
width_in (BvLit n w) = w
width_in _ = 0
