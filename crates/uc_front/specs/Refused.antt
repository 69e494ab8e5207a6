-- Which refusals are right. A pass refuses files with its first fault: it accepts all files before, and the passes before it accept all files.
use Rattle.std.specs.Prelude.{◌≡◌, ◌⊎◌, ℕ, ◌+◌, ◌-◌, ◌<◌, List, [], ◌∷◌, length, take, slice_get, unwrap_or, Option, Some, None}
use Rattle.std.specs.List.{concat}
use Rattle.std.specs.Option.{option_or}
use Rattle.uc_lexer.specs.declared.place.Place.{Place}
use Rattle.uc_lexer.specs.declared.fault.LexFault.{LexFault}
use Rattle.uc_lexer.specs.declared.fault.LexFault.TheVariants as lexical
use Rattle.uc_lexer.specs.declared.lexer.TheConstants.{MAX_TEXT}
use Rattle.uc_lexer.specs.Places.{place_of}
use Rattle.uc_lexer.specs.Text.{FirstFault}
use Rattle.uc_syntax.specs.declared.declaration.Module.{Module}
use Rattle.uc_forms.specs.Answer.{Answer, spelled, wrong, too_deep, too_many}
use Rattle.uc_grammar.specs.declared.word.Word.{Word}
use Rattle.uc_meaning.specs.Lookup.{System}
use Rattle.uc_order_rules.specs.Order.{KeepsOrder}
use Rattle.uc_report.specs.ControlRules.{IsFirstControlFault}
use Rattle.uc_runnable.specs.Unfit.{unfit_of}
use Rattle.uc_runnable.specs.Outside.{outside_in}
use Rattle.uc_front.specs.declared.lexing.Source.{Source}
use Rattle.uc_front.specs.declared.refusal.Refusal.{Refusal}
use Rattle.uc_front.specs.declared.refusal.Refusal.TheVariants.{NoFile, TooLong, BadByte, BadNumber, OpenComment, Syntax, TooDeep, TooManyNames, NoMain, BreaksRule, BreaksControl, NotBuilt}
use Rattle.uc_front.specs.Sources.{AreTexts, AreLexed, AreSources, texts_of}
use Rattle.uc_front.specs.Refusals.{front}
use Rattle.uc_front.specs.Denotes.{names_of, HasAnswer, AreSpelled, main_in, IsDesignOf, IsTyped, IsKept, IsFirstBroken, RunsToday}

-- Reading refuses: no text has the name of the file of this number; or its text and those before it pass the limit.
abbrev pub IsUnread : (List ℕ → Option (List ℕ)) → List (List ℕ) → Refusal → Type 0
IsUnread held files (NoFile n) =
    (file : List ℕ) × (texts : List (List ℕ)) × (slice_get files n ≡ Some file) × AreTexts held (take n files) texts × (held file ≡ None)
IsUnread held files (TooLong n) =
    (file : List ℕ) × (texts : List (List ℕ)) × (text : List ℕ) × (slice_get files n ≡ Some file) × AreTexts held (take n files) texts × (held file ≡ Some text)
    × (MAX_TEXT < length (concat texts) + length text)
IsUnread held files other = ⊥

-- Lexing refuses: this is the first fault of a text, and all texts before have their tokens.
abbrev pub IsFirstFault : List (List ℕ) → LexFault → Type 0
IsFirstFault texts fault =
    (n : ℕ) × (text : List ℕ) × (before : List Source) × (slice_get texts n ≡ Some text) × (texts_of before ≡ take n texts) × AreLexed 0 before × FirstFault n text fault

abbrev pub IsUnlexed : List (List ℕ) → Refusal → Type 0
IsUnlexed texts (BadByte p) = IsFirstFault texts (lexical.BadByte p)
IsUnlexed texts (BadNumber p) = IsFirstFault texts (lexical.BadNumber p)
IsUnlexed texts (OpenComment p) = IsFirstFault texts (lexical.OpenComment p)
IsUnlexed texts other = ⊥

-- the refusal that an answer for words leads to, where `end` is the place behind them
abbrev pub place_at : Place → List Word → Place
place_at end [] = end
place_at end (w ∷ ws) = w.place

abbrev pub refusal_of : Place → Answer Word (List Module) → Option Refusal
refusal_of end (spelled modules) = None
refusal_of end (wrong rest) = Some (Syntax (place_at end rest))
refusal_of end (too_deep rest) = Some (TooDeep (place_at end rest))
refusal_of end (too_many x) = Some (TooManyNames x.place)

-- Parsing refuses: the words of a text are no modules, for this reason, and all texts before spell modules.
abbrev pub IsUnspelled : List (List ℕ) → List Source → Refusal → Type 0
IsUnspelled names sources r =
    (n : ℕ) × (source : Source) × (modules : List Module) × (answer : Answer Word (List Module)) × (slice_get sources n ≡ Some source) × AreSpelled names (take n sources) modules
    × HasAnswer names source answer × (refusal_of (place_of n source.text (length source.text)) answer ≡ Some r)

-- Where a design that does not run is at fault: at the first form that does not run, in the order of its texts; where there is none, where its one module is at fault; else at the front of the first file.
abbrev pub IsLeftAt : System → Place → Type 0
IsLeftAt system p = p ≡ unwrap_or (option_or (outside_in system.modules system.main) (unfit_of system)) (front 0)

-- The passes behind lexing refuse: parsing; no module is called `main`; the design breaks a static rule, or else a rule on order or sizes, and this is the first fault, by
-- its place and then by its number; it keeps these, and a command of its control block breaks a rule on control blocks, the first that does; or it keeps all rules and is none that
-- runs today.
abbrev pub IsUnbuilt : List (List ℕ) → List Source → Refusal → Type 0
IsUnbuilt files sources (Syntax p) = IsUnspelled (names_of files sources) sources (Syntax p)
IsUnbuilt files sources (TooDeep p) = IsUnspelled (names_of files sources) sources (TooDeep p)
IsUnbuilt files sources (TooManyNames p) = IsUnspelled (names_of files sources) sources (TooManyNames p)
IsUnbuilt files sources NoMain = (modules : List Module) × AreSpelled (names_of files sources) sources modules × (main_in (names_of files sources) modules ≡ None)
IsUnbuilt files sources (BreaksRule fault) = (system : System) × IsDesignOf files sources system × IsFirstBroken system fault
IsUnbuilt files sources (BreaksControl fault) =
    (system : System) × IsDesignOf files sources system × IsTyped system × KeepsOrder system × IsFirstControlFault system fault
IsUnbuilt files sources (NotBuilt p) =
    (system : System) × IsDesignOf files sources system × IsKept system × (RunsToday system → ⊥) × IsLeftAt system p
IsUnbuilt files sources other = ⊥

-- Which refusals are right for what is held under the files' names: a pass refuses with it, and the passes before accept all files.
abbrev pub IsRefused : (List ℕ → Option (List ℕ)) → List (List ℕ) → Refusal → Type 0
IsRefused held files r =
    IsUnread held files r
    ⊎ ((texts : List (List ℕ)) × AreTexts held files texts × IsUnlexed texts r)
    ⊎ ((sources : List Source) × AreSources held files sources × IsUnbuilt files sources r)
