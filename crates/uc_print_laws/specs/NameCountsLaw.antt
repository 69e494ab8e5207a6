-- The limit of declared names, said of modules.
use Rattle.std.specs.Prelude.{◌≡◌, ℕ, List, None}
use Rattle.uc_forms.specs.Spelling.{Spells, stands, past_limit}
use Rattle.uc_grammar.specs.declared.word.Word.{Word}
use Rattle.uc_grammar.specs.Language.{grammar}
use Rattle.uc_syntax.specs.declared.declaration.Module.{Module}
use Rattle.uc_print_laws.specs.Declarations.{erased_modules}
use Rattle.uc_print_laws.specs.Names.{HaveFewNames}

-- In words that spell modules, no declared name is past the limit exactly where no module declares more.
pub record AreCounted (limit levels : ℕ) (words : List Word) (modules : List Module) (s : Spells grammar.rule levels grammar.text words modules) : Type 0 where
  pub few : HaveFewNames limit modules → past_limit limit 0 (stands grammar.rule levels grammar.text words modules s) ≡ None
  pub within : past_limit limit 0 (stands grammar.rule levels grammar.text words modules s) ≡ None → HaveFewNames limit modules

abbrev pub NamesAreCounted : Type 0
NamesAreCounted = (limit levels : ℕ) (words : List Word) (modules : List Module) (s : Spells grammar.rule levels grammar.text words modules) → AreCounted limit levels words modules s

-- The same modules, places aside, declare as many.
abbrev pub NamesWithoutPlaces : Type 0
NamesWithoutPlaces = (limit : ℕ) (modules others : List Module) → erased_modules modules ≡ erased_modules others → HaveFewNames limit others → HaveFewNames limit modules
