-- What a lexer stands for.
use Rattle.std.specs.Prelude.{◌≤◌, length}
use Rattle.uc_lexer.specs.Ahead.{IsPosition}
use Rattle.uc_lexer.specs.Text.{Progress}
use Rattle.uc_lexer.specs.declared.lexer.Lexer.TheInside.{Inside}
use Rattle.uc_lexer.specs.declared.lexer.TheConstants.{MAX_TEXT}

abbrev pub progress_of : Inside → Progress
progress_of l = record { file = l.file; text = l.text.now; offset = l.here.at }

abbrev pub IsLexer : Inside → Type 0
IsLexer l = (length l.text.now ≤ MAX_TEXT) × IsPosition l.text.now l.here
