-- Words and modules whose names and files are below two numbers.
use Rattle.std.specs.Prelude.{ℕ, Bool, ◌&&◌, nat_lt, List, IsTrue}
use Rattle.std.specs.List.{list_all}
use Rattle.uc_syntax.specs.declared.declaration.Module.{Module}
use Rattle.uc_syntax.specs.Mentions.{name_below, NamesBelow, FilesBelow, modules_mention}
use Rattle.uc_grammar.specs.declared.word.Word.{Word}
use Rattle.uc_grammar.specs.declared.word.Kind.{Kind}
use Rattle.uc_words.specs.Mentions.{kind_mentions}

-- the number of the name is below n, if the kind is that of a name
abbrev pub name_below_in : ℕ → Kind → Bool
name_below_in n k = list_all (name_below n) (kind_mentions k)

-- so it is of the word, and the file of its place is below the other number
abbrev pub word_below : ℕ → ℕ → Word → Bool
word_below names files w = name_below_in names w.kind && nat_lt w.place.file files

-- so it is of all words
abbrev pub WordsBelow : ℕ → ℕ → List Word → Type 0
WordsBelow names files ws = IsTrue (list_all (word_below names files) ws)

-- all that the modules mention is below these numbers
abbrev pub ModulesBelow : ℕ → ℕ → List Module → Type 0
ModulesBelow names files modules = NamesBelow names (modules_mention modules) × FilesBelow files (modules_mention modules)
