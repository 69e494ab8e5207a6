-- Modules mention only what the words that spell them mention.
use Rattle.std.specs.Prelude.{ℕ, Bool, ◌≤◌, List, ◌++◌, IsTrue}
use Rattle.std.specs.List.{list_all}
use Rattle.uc_forms.specs.Spelling.{Spells}
use Rattle.uc_syntax.specs.declared.declaration.Module.{Module}
use Rattle.uc_syntax.specs.Mentions.{Mention, modules_mention}
use Rattle.uc_grammar.specs.declared.word.Word.{Word}
use Rattle.uc_grammar.specs.Syntax.{rule, text}
use Rattle.uc_words.specs.Mentions.{words_mention}
use Rattle.uc_words.specs.Below.{WordsBelow, ModulesBelow}

-- Whatever holds of all that the words mention holds of all that the modules mention which they spell.
abbrev pub MentionsAreOfWords : Type 0
MentionsAreOfWords = (m : ℕ) (test : Mention → Bool) (ws : List Word) (modules : List Module) → Spells rule m text ws modules → IsTrue (list_all test (words_mention ws)) → IsTrue (list_all test (modules_mention modules))

-- So modules are below two numbers where the words that spell them are.
abbrev pub MentionsLaw : Type 0
MentionsLaw = (m names files : ℕ) (ws : List Word) (modules : List Module) → Spells rule m text ws modules → WordsBelow names files ws → ModulesBelow names files modules

-- What is below two numbers is below greater ones.
abbrev pub GreaterBounds : Type 0
GreaterBounds = (names files more_names more_files : ℕ) (modules : List Module) → names ≤ more_names → files ≤ more_files → ModulesBelow names files modules → ModulesBelow more_names more_files modules

-- Modules that are joined mention what both mention.
abbrev pub JoinedModules : Type 0
JoinedModules = (names files : ℕ) (front back : List Module) → ModulesBelow names files front → ModulesBelow names files back → ModulesBelow names files (front ++ back)
