-- Which design files denote.
use Rattle.std.specs.Prelude.{◌≡◌, ◌⊎◌, ℕ, Bool, codes, List, [], ◌∷◌, ◌++◌, map, fold, slice_get, slice_index_or, Option, Some, None}
use Rattle.std.specs.Str.{bytes_eq}
use Rattle.std.specs.List.{position_from}
use Rattle.uc_syntax.specs.declared.declaration.Module.{Module}
use Rattle.uc_syntax.specs.Contents.{Contents, design_of}
use Rattle.uc_syntax.specs.Numbering.{with_text}
use Rattle.uc_forms.specs.Answer.{Answer, spelled, IsAnswer}
use Rattle.uc_grammar.specs.declared.word.Word.{Word}
use Rattle.uc_grammar.specs.Language.{grammar}
use Rattle.uc_words.specs.Words.{AreWords, with_tokens}
use Rattle.uc_meaning.specs.Lookup.{System}
use Rattle.uc_rules.specs.declared.fault.Fault.{Fault}
use Rattle.uc_rules.specs.Declarations.{KeepsRules, IsFirstFault}
use Rattle.uc_order_rules.specs.Order.{KeepsOrder, IsFirstOrderFault}
use Rattle.uc_report.specs.ControlRules.{KeepsControl}
use Rattle.uc_runnable.specs.Runnable.{IsRunnable}
use Rattle.uc_runnable.specs.Outside.{outside_in}
use Rattle.uc_front.specs.declared.lexing.Source.{Source}
use Rattle.uc_front.specs.Sources.{AreSources}

-- how many nested forms a word may lie in, and how many names a module may declare
abbrev pub most_levels : ℕ
most_levels = 200

abbrev pub most_names : ℕ
most_names = 65535

-- the names after those of a text's tokens, in order
abbrev pub with_source : List (List ℕ) → Source → List (List ℕ)
with_source names source = with_tokens names source.text source.tokens

-- the names: those of the files, and then those of the tokens of text after text, in order, each once
abbrev pub names_of : List (List ℕ) → List Source → List (List ℕ)
names_of files sources = fold with_source (fold with_text [] files) sources

-- The words that a text's tokens are under these names, and the one right answer for these words.
pub record HasAnswer (names : List (List ℕ)) (source : Source) (answer : Answer Word (List Module)) : Type 0 where
  pub words : List Word
  pub are_words : AreWords names source.text source.tokens words
  pub right : IsAnswer grammar most_levels most_names words answer

-- Parsing accepts the texts: each spells modules, and these are those of all texts, in order.
abbrev pub AreSpelled : List (List ℕ) → List Source → List Module → Type 0
AreSpelled names [] modules = modules ≡ []
AreSpelled names (source ∷ sources) modules =
    (first : List Module) × (others : List Module) × HasAnswer names source (spelled first) × AreSpelled names sources others × (modules ≡ first ++ others)

-- the name of the module that is judged
abbrev pub main_name : List ℕ
main_name = codes "main"

-- whether a module has it
abbrev pub is_main : List (List ℕ) → Module → Bool
is_main names m = bytes_eq main_name (slice_index_or names m.name [])

-- the number of the first module that is called so
abbrev pub main_in : List (List ℕ) → List Module → Option ℕ
main_in names modules = position_from (is_main names) 0 modules

-- The sources of these files spell the modules of a design. Its files are the numbers of their names, and main is the first module that is called so.
pub record IsDesignOf (files : List (List ℕ)) (sources : List Source) (system : System) : Type 0 where
  pub names_are : system.names ≡ names_of files sources
  pub files_are : map (slice_get system.names) system.files ≡ map (λ f. Some f) files
  pub modules_are : AreSpelled system.names sources system.modules
  pub main_is : main_in system.names system.modules ≡ Some system.main

-- What is held under the files' names denotes a design.
pub record Denotes (held : List ℕ → Option (List ℕ)) (files : List (List ℕ)) (system : System) : Type 0 where
  pub sources : List Source
  pub are_sources : AreSources held files sources
  pub is_design : IsDesignOf files sources system

-- what a design holds, whichever module is main
abbrev pub contents_of : System → Contents
contents_of system = design_of system.names system.files system.modules

-- the design keeps the static rules
abbrev pub IsTyped : System → Type 0
IsTyped system = KeepsRules (contents_of system) main_name

-- the design keeps the static rules, the rules on order and sizes, and those on control blocks
abbrev pub IsKept : System → Type 0
IsKept system = IsTyped system × KeepsOrder system × KeepsControl system

-- It breaks a rule of the first two kinds: this is the first fault of the static rules, or, where these are kept, of the rules on order and sizes.
abbrev pub IsFirstBroken : System → Fault → Type 0
IsFirstBroken system fault = IsFirstFault (contents_of system) main_name fault ⊎ (IsTyped system × IsFirstOrderFault system fault)

-- The design runs today: none of its forms is one that does not, and there is one over cells for it.
pub record RunsToday (system : System) : Type 0 where
  pub inside : outside_in system.modules system.main ≡ None
  pub runnable : IsRunnable system

-- It denotes one that keeps the rules and runs today.
abbrev pub IsAccepted : (List ℕ → Option (List ℕ)) → List (List ℕ) → System → Type 0
IsAccepted held files system = Denotes held files system × IsKept system × RunsToday system
