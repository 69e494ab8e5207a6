-- Reading the grammar's forms, as the functions of the parser do it.
use Rattle.std.specs.Prelude.{ℕ, List}
use Rattle.uc_grammar.specs.declared.word.Word.{Word}
use Rattle.uc_grammar.specs.declared.word.Kind.TheVariants.{Name}
use Rattle.uc_grammar.specs.Syntax.{words, Nested, Value, F, rule, opens, known}
use Rattle.uc_forms.specs.Form.{codes_of}
use Rattle.uc_forms.specs.Counted.{State, Outcome, count, count_at}
use Rattle.uc_parse_expressions.specs.declared.reader.Reader.{Reader}

-- the words that a reader has left, with its count of names
abbrev pub state : Reader → State Word
state r = (r.rest.now, r.names)

-- a form, with so many levels left
abbrev pub form : ℕ → {A : Type 0} → F A → State Word → Outcome Word A
form levels f s = count rule opens levels f s

-- a nested form
abbrev pub nested : ℕ → (n : Nested) → State Word → Outcome Word (Value n)
nested levels n s = count_at rule opens levels n s

-- the codes of all kinds of names
abbrev pub name_codes : List ℕ
name_codes = codes_of words (Name 0) known
