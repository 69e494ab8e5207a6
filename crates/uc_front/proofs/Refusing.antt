-- The refusals of the passes as refusals of the whole.
use Rattle.std.proofs.Common.{◌≡◌, inl, inr, ℕ, List, length, Option, None, Some, sym, ap, subst, ◌∙◌}
use Rattle.std.specs.Prelude.{Result, Ok, Err, IfErr}
use Rattle.uc_lexer.specs.Places.{place_of}
use Rattle.uc_syntax.specs.declared.declaration.Module.{Module}
use Rattle.uc_forms.specs.Answer.{Answer, spelled, wrong, too_deep, too_many}
use Rattle.uc_grammar.specs.declared.word.Word.{Word}
use Rattle.uc_front.specs.declared.error.FrontError.{FrontError}
use Rattle.uc_front.specs.declared.error.FrontError.TheVariants.{NoMemory, ReadFault, Refused}
use Rattle.uc_front.specs.declared.lexing.Source.{Source}
use Rattle.uc_front.specs.declared.refusal.Refusal.{Refusal}
use Rattle.uc_front.specs.declared.refusal.Refusal.TheVariants.{NoFile, TooLong, BadByte, BadNumber, OpenComment, Syntax, TooDeep, TooManyNames, NoMain, BreaksRule, BreaksControl, NotBuilt}
use Rattle.uc_front.specs.Sources.{AreTexts, AreSources, texts_of}
use Rattle.uc_syntax.specs.Contents.{Contents, design_of}
use Rattle.uc_meaning.specs.Lookup.{System, system_of}
use Rattle.uc_rules.specs.Declarations.{KeepsRules, IsFirstFault}
use Rattle.uc_order_rules.specs.Order.{KeepsOrder}
use Rattle.uc_front.specs.Denotes.{names_of, AreSpelled, main_in, main_name, IsDesignOf, IsTyped, IsKept}
use Rattle.uc_front.specs.Refused.{IsUnread, IsUnlexed, place_at, refusal_of, IsUnspelled, IsUnbuilt, IsRefused}
use Rattle.uc_front.specs.Errors.{IsFrontError, IsTextError, IsRuleFault, IsControlFault, IsStopped}

unspelled : (files : List (List ℕ)) (sources : List Source) (r : Refusal) → IsUnspelled (names_of files sources) sources r → IsUnbuilt files sources r
unspelled files sources r h = by h.3 h.7
  where
    Wrong : Refusal → Type 0
    Wrong other = IsUnspelled (names_of files sources) sources other

    by : (a : Answer Word (List Module)) → refusal_of (place_of h.0 h.1.text (length h.1.text)) a ≡ Some r → IsUnbuilt files sources r
    by (spelled modules) e = absurd cc
    by (wrong rest) e = let same : Syntax (place_at (place_of h.0 h.1.text (length h.1.text)) rest) ≡ r = cc in subst (IsUnbuilt files sources) same (subst Wrong (sym same) h)
    by (too_deep rest) e = let same : TooDeep (place_at (place_of h.0 h.1.text (length h.1.text)) rest) ≡ r = cc in subst (IsUnbuilt files sources) same (subst Wrong (sym same) h)
    by (too_many x) e = let same : TooManyNames x.place ≡ r = cc in subst (IsUnbuilt files sources) same (subst Wrong (sym same) h)

-- of the texts' passes
pub by_parsing : (files : List (List ℕ)) (sources : List Source) (e : FrontError) → IsTextError (IsUnspelled (names_of files sources) sources) e → IsTextError (IsUnbuilt files sources) e
by_parsing files sources NoMemory h = tt
by_parsing files sources ReadFault h = h
by_parsing files sources (Refused r) h = unspelled files sources r h

pub no_main : (files : List (List ℕ)) (sources : List Source) (names : List (List ℕ)) (modules : List Module) → names ≡ names_of files sources → AreSpelled names sources modules → main_in names modules ≡ None →
    IsUnbuilt files sources NoMain
no_main files sources names modules same all none =
    (modules, subst (λ ns. AreSpelled ns sources modules) same all, ap (λ ns. main_in ns modules) (sym same) ∙ none)

-- of the rules
pub by_rules : (files : List (List ℕ)) (sources : List Source) (d : Contents) (main : ℕ) (e : FrontError) → IsDesignOf files sources (system_of d main) → d ≡ design_of d.names d.files d.modules →
    IsTextError (IsRuleFault d main) e → IsTextError (IsUnbuilt files sources) e
by_rules files sources d main NoMemory denoted whole h = tt
by_rules files sources d main ReadFault denoted whole h = h
by_rules files sources d main (Refused r) denoted whole h = by r h
  where
    by : (r : Refusal) → IsRuleFault d main r → IsUnbuilt files sources r
    by (BreaksRule fault) (inl h) = (system_of d main, denoted, inl (subst (λ c. IsFirstFault c main_name fault) whole h))
    by (BreaksRule fault) (inr h) = (system_of d main, denoted, inr (subst (λ c. KeepsRules c main_name) whole h.0, h.1))
    by (NoFile n) h = absurd h
    by (TooLong n) h = absurd h
    by (BadByte p) h = absurd h
    by (BadNumber p) h = absurd h
    by (OpenComment p) h = absurd h
    by (Syntax p) h = absurd h
    by (TooDeep p) h = absurd h
    by (TooManyNames p) h = absurd h
    by NoMain h = absurd h
    by (NotBuilt p) h = absurd h
    by (BreaksControl fault) h = absurd h

-- of the rules on control blocks
pub by_control : (files : List (List ℕ)) (sources : List Source) (system : System) (e : FrontError) → IsDesignOf files sources system → IsTyped system → KeepsOrder system →
    IsTextError (IsControlFault system) e → IsTextError (IsUnbuilt files sources) e
by_control files sources system NoMemory denoted typed ordered h = tt
by_control files sources system ReadFault denoted typed ordered h = h
by_control files sources system (Refused r) denoted typed ordered h = by r h
  where
    by : (r : Refusal) → IsControlFault system r → IsUnbuilt files sources r
    by (BreaksControl fault) h = (system, denoted, typed, ordered, h)
    by (BreaksRule fault) h = absurd h
    by (NotBuilt p) h = absurd h
    by (NoFile n) h = absurd h
    by (TooLong n) h = absurd h
    by (BadByte p) h = absurd h
    by (BadNumber p) h = absurd h
    by (OpenComment p) h = absurd h
    by (Syntax p) h = absurd h
    by (TooDeep p) h = absurd h
    by (TooManyNames p) h = absurd h
    by NoMain h = absurd h

-- of running
pub by_running : (files : List (List ℕ)) (sources : List Source) (system : System) (e : FrontError) → IsDesignOf files sources system → IsKept system → IsTextError (IsStopped system) e →
    IsTextError (IsUnbuilt files sources) e
by_running files sources system NoMemory denoted keeps h = tt
by_running files sources system ReadFault denoted keeps h = h
by_running files sources system (Refused r) denoted keeps h = by r h
  where
    by : (r : Refusal) → IsStopped system r → IsUnbuilt files sources r
    by (NotBuilt p) h = (system, denoted, keeps, h.0, h.1)
    by (BreaksRule fault) h = absurd h
    by (BreaksControl fault) h = absurd h
    by (NoFile n) h = absurd h
    by (TooLong n) h = absurd h
    by (BadByte p) h = absurd h
    by (BadNumber p) h = absurd h
    by (OpenComment p) h = absurd h
    by (Syntax p) h = absurd h
    by (TooDeep p) h = absurd h
    by (TooManyNames p) h = absurd h
    by NoMain h = absurd h

-- of reading a design
pub by_reading : (held : List ℕ → Option (List ℕ)) (files : List (List ℕ)) (e : FrontError) → IsFrontError (IsUnread held files) e → IsFrontError (IsRefused held files) e
by_reading held files NoMemory h = tt
by_reading held files ReadFault h = tt
by_reading held files (Refused r) h = inl h

pub by_lexing : (held : List ℕ → Option (List ℕ)) (files texts : List (List ℕ)) (e : FrontError) → AreTexts held files texts → IsTextError (IsUnlexed texts) e → IsFrontError (IsRefused held files) e
by_lexing held files texts NoMemory a h = tt
by_lexing held files texts ReadFault a h = tt
by_lexing held files texts (Refused r) a h = inr (inl (texts, a, h))

pub by_building : (held : List ℕ → Option (List ℕ)) (files : List (List ℕ)) (sources : List Source) (e : FrontError) → AreSources held files sources → IsTextError (IsUnbuilt files sources) e →
    IsFrontError (IsRefused held files) e
by_building held files sources NoMemory a h = tt
by_building held files sources ReadFault a h = tt
by_building held files sources (Refused r) a h = inr (inr (sources, a, h))

pub ends_building : {A : Type 0} (held : List ℕ → Option (List ℕ)) (files : List (List ℕ)) (sources : List Source) (r : Result A FrontError) → AreSources held files sources →
    IfErr r (IsTextError (IsUnbuilt files sources)) → IfErr r (IsFrontError (IsRefused held files))
ends_building held files sources (Ok x) a h = tt
ends_building held files sources (Err e) a h = by_building held files sources e a h

-- texts and their tokens are sources
pub sources_are : (held : List ℕ → Option (List ℕ)) (files texts : List (List ℕ)) (sources : List Source) → AreTexts held files texts → texts_of sources ≡ texts → AreTexts held files (texts_of sources)
sources_are held files texts sources a e = subst (AreTexts held files) (sym e) a
