-- Errors of the passes as errors of reading a design.
use Rattle.std.specs.Prelude.{ℕ}
use Rattle.uc_lexer.specs.declared.error.LexError.{LexError}
use Rattle.uc_lexer.specs.declared.error.LexError.TheVariants as lex
use Rattle.uc_lexer.specs.declared.fault.LexFault.TheVariants as lex_fault
use Rattle.uc_parser.specs.declared.error.ParseError.{ParseError}
use Rattle.uc_parser.specs.declared.error.ParseError.TheVariants as parse
use Rattle.uc_io.specs.declared.read.ReadError.{ReadError}
use Rattle.uc_io.specs.declared.read.ReadError.TheVariants as reading
use Rattle.uc_front.specs.declared.error.FrontError.{FrontError}
use Rattle.uc_front.specs.declared.error.FrontError.TheVariants.{NoMemory, ReadFault, Refused}
use Rattle.uc_front.specs.declared.refusal.Refusal.TheVariants.{NoFile, TooLong, BadByte, BadNumber, OpenComment, Syntax, TooDeep, TooManyNames}

abbrev pub lexical : LexError → FrontError
lexical lex.NoMemory = NoMemory
lexical (lex.Fault (lex_fault.BadByte p)) = Refused (BadByte p)
lexical (lex.Fault (lex_fault.BadNumber p)) = Refused (BadNumber p)
lexical (lex.Fault (lex_fault.OpenComment p)) = Refused (OpenComment p)

abbrev pub syntactic : ParseError → FrontError
syntactic parse.NoMemory = NoMemory
syntactic (parse.Syntax p) = Refused (Syntax p)
syntactic (parse.TooDeep p) = Refused (TooDeep p)
syntactic (parse.TooManyNames p) = Refused (TooManyNames p)

-- where the file has this number
abbrev pub unread : ℕ → ReadError → FrontError
unread file reading.NoMemory = NoMemory
unread file reading.ReadFault = ReadFault
unread file reading.NoText = Refused (NoFile file)
unread file reading.TooLong = Refused (TooLong file)
