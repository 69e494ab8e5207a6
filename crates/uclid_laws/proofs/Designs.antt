-- Texts denote at most one design, and are not both accepted and refused.
use Rattle.std.proofs.Common.{◌≡◌, inl, inr, ℕ, zero, suc, ◌+◌, ◌<◌, ◌≤◌, List, [], ◌∷◌, ◌++◌, length, map, take, slice_get, Option, Some, None, refl, sym, ap, subst, ◌∙◌, arith, length-append}
use Rattle.std.specs.List.{concat}
use Rattle.uc_lexer.specs.declared.token.Token.{Token}
use Rattle.uc_lexer.specs.declared.fault.LexFault.{LexFault}
use Rattle.uc_lexer.specs.declared.lexer.TheConstants.{MAX_TEXT}
use Rattle.uc_lexer.specs.Places.{place_of}
use Rattle.uc_lexer.specs.Text.{Tokens}
use Rattle.uc_lexer.proofs.Unique.{one_reading}
use Rattle.uc_syntax.specs.declared.declaration.Module.{Module}
use Rattle.uc_syntax.specs.Numbering.{AreDistinct}
use Rattle.uc_forms.specs.Answer.{Answer, spelled, wrong, too_deep, too_many, IsAnswer}
use Rattle.uc_forms.proofs.Every.{one_answer}
use Rattle.uc_grammar.specs.declared.word.Word.{Word}
use Rattle.uc_grammar.specs.Language.{grammar}
use Rattle.uc_words.proofs.TokenByToken.{one_list}
use Rattle.uc_rules.specs.declared.fault.Fault.{Fault}
use Rattle.uc_rules.specs.Faults.{IsFirst, IsIn}
use Rattle.uc_rules.specs.Declarations.{design_faults}
use Rattle.uc_order_rules.specs.Order.{order_faults, KeepsOrder}
use Rattle.uc_report.specs.declared.control_rules.ControlFault.{ControlFault}
use Rattle.uc_report.specs.ControlRules.{IsFirstControlFault}
use Rattle.uc_meaning.specs.Lookup.{System}
use Rattle.uc_front.specs.declared.lexing.Source.{Source}
use Rattle.uc_front.specs.declared.refusal.Refusal.{Refusal}
use Rattle.uc_front.specs.declared.refusal.Refusal.TheVariants.{NoFile, TooLong, BadByte, BadNumber, OpenComment, Syntax, TooDeep, TooManyNames, NoMain, BreaksRule, BreaksControl, NotBuilt}
use Rattle.uc_front.specs.Sources.{AreTexts, AreLexed, AreSources, texts_of}
use Rattle.uc_front.specs.Denotes.{most_levels, most_names, names_of, HasAnswer, AreSpelled, main_in, main_name, contents_of, IsDesignOf, IsTyped, IsKept, IsFirstBroken, RunsToday}
use Rattle.uc_front.specs.Refused.{IsUnread, IsFirstFault, IsUnlexed, refusal_of, IsUnspelled, IsUnbuilt}
use Rattle.uclid_laws.specs.Laws.{OneDesign, NeverBoth}
use Rattle.uclid_laws.proofs.Distinct.{names_distinct}

-- ---- reading

-- one list of texts is held
pub one_texts : (held : List ℕ → Option (List ℕ)) (files texts others : List (List ℕ)) → map held files ≡ map (λ t. Some t) texts → map held files ≡ map (λ t. Some t) others → texts ≡ others
one_texts held [] [] [] a b = refl
one_texts held [] (t ∷ ts) us a b = absurd cc
one_texts held [] [] (u ∷ us) a b = absurd cc
one_texts held (f ∷ fs) [] us a b = absurd cc
one_texts held (f ∷ fs) (t ∷ ts) [] a b = absurd cc
one_texts held (f ∷ fs) (t ∷ ts) (u ∷ us) a b =
    let first : t ≡ u = cc in
    let left : map held fs ≡ map (λ t. Some t) ts = cc in
    let right : map held fs ≡ map (λ t. Some t) us = cc in
    let rest = one_texts held fs ts us left right in
    (λ i. first i ∷ rest i)

-- a file that is read is held
is_held : (held : List ℕ → Option (List ℕ)) (files texts : List (List ℕ)) (n : ℕ) (file : List ℕ) → map held files ≡ map (λ t. Some t) texts → slice_get files n ≡ Some file → held file ≡ None → ⊥
is_held held [] texts n file a at none = cc
is_held held (f ∷ fs) [] n file a at none = cc
is_held held (f ∷ fs) (t ∷ ts) zero file a at none = cc
is_held held (f ∷ fs) (t ∷ ts) (suc n) file a at none = let rest : map held fs ≡ map (λ t. Some t) ts = cc in is_held held fs ts n file rest at none

-- the texts up to a file are no longer than all
up_to : (held : List ℕ → Option (List ℕ)) (files texts before : List (List ℕ)) (n : ℕ) (file text : List ℕ) → map held files ≡ map (λ t. Some t) texts → map held (take n files) ≡ map (λ t. Some t) before →
    slice_get files n ≡ Some file → held file ≡ Some text → length (concat before) + length text ≤ length (concat texts)
up_to held [] texts before n file text a b at is = absurd cc
up_to held (f ∷ fs) [] before n file text a b at is = absurd cc
up_to held (f ∷ fs) (t ∷ ts) [] zero file text a b at is =
    let same : length t ≡ length text = cc in
    rw length-append (omega (arith, same))
up_to held (f ∷ fs) (t ∷ ts) (u ∷ us) zero file text a b at is = absurd cc
up_to held (f ∷ fs) (t ∷ ts) [] (suc n) file text a b at is = absurd cc
up_to held (f ∷ fs) (t ∷ ts) (u ∷ us) (suc n) file text a b at is =
    let same : length t ≡ length u = cc in
    let left : map held fs ≡ map (λ t. Some t) ts = cc in
    let right : map held (take n fs) ≡ map (λ t. Some t) us = cc in
    let rest = up_to held fs ts us n file text left right at is in
    let one : length (t ++ concat ts) ≡ length t + length (concat ts) = length-append t (concat ts) in
    let other : length (u ++ concat us) ≡ length u + length (concat us) = length-append u (concat us) in
    omega (arith, same, rest, one, other)

pub never_unread : (held : List ℕ → Option (List ℕ)) (files texts : List (List ℕ)) (r : Refusal) → AreTexts held files texts → IsUnread held files r → ⊥
never_unread held files texts (NoFile n) a h = is_held held files texts n h.0 a.each h.2 h.4
never_unread held files texts (TooLong n) a h =
    let all = up_to held files texts h.1 n h.0 h.2 a.each h.4.each h.3 h.5 in
    let within : length (concat texts) ≤ MAX_TEXT = a.within in
    let past : MAX_TEXT < length (concat h.1) + length h.2 = h.6 in
    omega (arith, all, within, past)
never_unread held files texts (BadByte p) a h = h
never_unread held files texts (BadNumber p) a h = h
never_unread held files texts (OpenComment p) a h = h
never_unread held files texts (Syntax p) a h = h
never_unread held files texts (TooDeep p) a h = h
never_unread held files texts (TooManyNames p) a h = h
never_unread held files texts NoMain a h = h
never_unread held files texts (BreaksRule fault) a h = h
never_unread held files texts (BreaksControl fault) a h = h
never_unread held files texts (NotBuilt p) a h = h

-- ---- lexing

-- texts have one list of sources
one_lexed : (file : ℕ) (sources others : List Source) → texts_of sources ≡ texts_of others → AreLexed file sources → AreLexed file others → sources ≡ others
one_lexed file [] [] e a b = refl
one_lexed file [] (u ∷ us) e a b = absurd cc
one_lexed file (s ∷ ss) [] e a b = absurd cc
one_lexed file (s ∷ ss) (u ∷ us) e a b =
    let texts : s.text ≡ u.text = cc in
    let others : texts_of ss ≡ texts_of us = cc in
    let moved : Tokens file s.text u.tokens = subst (λ t. Tokens file t u.tokens) (sym texts) b.0 in
    let tokens : s.tokens ≡ u.tokens = (one_reading file s.text s.tokens u.tokens None None a.0 moved).0 in
    let rest = one_lexed (file + 1) ss us others a.1 b.1 in
    (λ i. (record { text = texts i; tokens = tokens i }) ∷ rest i)

pub one_sources : (held : List ℕ → Option (List ℕ)) (files : List (List ℕ)) (sources others : List Source) → AreSources held files sources → AreSources held files others → sources ≡ others
one_sources held files sources others a b =
    one_lexed 0 sources others (one_texts held files (texts_of sources) (texts_of others) a.are_texts.each b.are_texts.each) a.are_lexed b.are_lexed

-- a text of a source has its tokens
has_tokens : (file : ℕ) (sources : List Source) (n : ℕ) (text : List ℕ) → AreLexed file sources → slice_get (texts_of sources) n ≡ Some text → (tokens : List Token) × Tokens (file + n) text tokens
has_tokens file [] n text a at = absurd cc
has_tokens file (s ∷ ss) zero text a at =
    let same : s.text ≡ text = cc in
    let e : file ≡ file + 0 = omega arith in
    (s.tokens, subst (λ k. Tokens k text s.tokens) e (subst (λ t. Tokens file t s.tokens) same a.0))
has_tokens file (s ∷ ss) (suc n) text a at =
    let e : file + 1 + n ≡ file + suc n = omega arith in
    let rest = has_tokens (file + 1) ss n text a.1 at in
    (rest.0, subst (λ k. Tokens k text rest.0) e rest.1)

pub never_fault : (sources : List Source) (fault : LexFault) → AreLexed 0 sources → IsFirstFault (texts_of sources) fault → ⊥
never_fault sources fault a h =
    let has = has_tokens 0 sources h.0 h.1 a h.3 in
    let e : 0 + h.0 ≡ h.0 = omega arith in
    let tokens : Tokens h.0 h.1 has.0 = subst (λ k. Tokens k h.1 has.0) e has.1 in
    let first = h.6 in
    let differ : None ≡ Some fault = (one_reading h.0 h.1 has.0 first.0 None (Some fault) tokens first.1).1 in
    cc differ

pub never_unlexed : (sources : List Source) (r : Refusal) → AreLexed 0 sources → IsUnlexed (texts_of sources) r → ⊥
never_unlexed sources (BadByte p) a h = never_fault sources _ a h
never_unlexed sources (BadNumber p) a h = never_fault sources _ a h
never_unlexed sources (OpenComment p) a h = never_fault sources _ a h
never_unlexed sources (NoFile n) a h = h
never_unlexed sources (TooLong n) a h = h
never_unlexed sources (Syntax p) a h = h
never_unlexed sources (TooDeep p) a h = h
never_unlexed sources (TooManyNames p) a h = h
never_unlexed sources NoMain a h = h
never_unlexed sources (BreaksRule fault) a h = h
never_unlexed sources (BreaksControl fault) a h = h
never_unlexed sources (NotBuilt p) a h = h

-- ---- parsing

-- two answers for one text are the same
pub answers_same : (names : List (List ℕ)) (s : Source) (one other : Answer Word (List Module)) → AreDistinct names → HasAnswer names s one → HasAnswer names s other → one ≡ other
answers_same names s one other distinct h k =
    let words : h.words ≡ k.words = one_list names s.text s.tokens h.words k.words distinct h.are_words k.are_words in
    let right : IsAnswer grammar most_levels most_names h.words other = subst (λ ws. IsAnswer grammar most_levels most_names ws other) (sym words) k.right in
    one_answer grammar most_levels most_names h.words one other h.right right

abbrev modules_in : Answer Word (List Module) → List Module
modules_in (spelled modules) = modules
modules_in (wrong rest) = []
modules_in (too_deep rest) = []
modules_in (too_many x) = []

-- sources spell one list of modules
pub one_spelled : (names : List (List ℕ)) (sources : List Source) (modules others : List Module) → AreDistinct names → AreSpelled names sources modules → AreSpelled names sources others → modules ≡ others
one_spelled names [] modules others distinct a b = a ∙ sym b
one_spelled names (s ∷ ss) modules others distinct a b =
    let first : a.0 ≡ b.0 = ap (λ r. modules_in r) (answers_same names s (spelled a.0) (spelled b.0) distinct a.2 b.2) in
    let rest : a.1 ≡ b.1 = one_spelled names ss a.1 b.1 distinct a.3 b.3 in
    a.4 ∙ (λ i. first i ++ rest i) ∙ sym b.4

spells_at : (names : List (List ℕ)) (sources : List Source) (modules : List Module) (n : ℕ) (s : Source) → AreSpelled names sources modules → slice_get sources n ≡ Some s → (ms : List Module) × HasAnswer names s (spelled ms)
spells_at names [] modules n s a at = absurd cc
spells_at names (x ∷ xs) modules zero s a at = let same : x ≡ s = cc in (a.0, subst (λ y. HasAnswer names y (spelled a.0)) same a.2)
spells_at names (x ∷ xs) modules (suc n) s a at = spells_at names xs a.1 n s a.3 at

pub never_unspelled : (names : List (List ℕ)) (sources : List Source) (modules : List Module) (r : Refusal) → AreDistinct names → AreSpelled names sources modules → IsUnspelled names sources r → ⊥
never_unspelled names sources modules r distinct a h =
    let has = spells_at names sources modules h.0 h.1 a h.4 in
    let same : spelled has.0 ≡ h.3 = answers_same names h.1 (spelled has.0) h.3 distinct has.1 h.6 in
    let e : None ≡ Some r = ap (λ w. refusal_of (place_of h.0 h.1.text (length h.1.text)) w) same ∙ h.7 in
    cc e

-- ---- designs

-- names that differ have one list of numbers
one_numbers : (names : List (List ℕ)) (ns ms : List ℕ) (files : List (List ℕ)) → AreDistinct names → map (slice_get names) ns ≡ map (λ f. Some f) files → map (slice_get names) ms ≡ map (λ f. Some f) files → ns ≡ ms
one_numbers names [] [] files distinct a b = refl
one_numbers names [] (m ∷ ms) [] distinct a b = absurd cc
one_numbers names [] (m ∷ ms) (f ∷ fs) distinct a b = absurd cc
one_numbers names (n ∷ ns) ms [] distinct a b = absurd cc
one_numbers names (n ∷ ns) [] (f ∷ fs) distinct a b = absurd cc
one_numbers names (n ∷ ns) (m ∷ ms) (f ∷ fs) distinct a b =
    let left : slice_get names n ≡ Some f = cc in
    let right : slice_get names m ≡ Some f = cc in
    let lefts : map (slice_get names) ns ≡ map (λ f. Some f) fs = cc in
    let rights : map (slice_get names) ms ≡ map (λ f. Some f) fs = cc in
    let first = distinct n m f left right in
    let rest = one_numbers names ns ms fs distinct lefts rights in
    (λ i. first i ∷ rest i)

abbrev main_of : Option ℕ → ℕ
main_of (Some n) = n
main_of None = 0

pub design_distinct : (files : List (List ℕ)) (sources : List Source) (system : System) → IsDesignOf files sources system → AreDistinct system.names
design_distinct files sources system h = subst AreDistinct (sym h.names_are) (names_distinct files sources)

pub one_of_sources : (files : List (List ℕ)) (sources : List Source) (a b : System) → IsDesignOf files sources a → IsDesignOf files sources b → a ≡ b
one_of_sources files sources a b h k =
    let names : a.names ≡ b.names = h.names_are ∙ sym k.names_are in
    let distinct = design_distinct files sources a h in
    let numbers : map (slice_get a.names) b.files ≡ map (λ f. Some f) files = ap (λ ns. map (slice_get ns) b.files) names ∙ k.files_are in
    let same_files = one_numbers a.names a.files b.files files distinct h.files_are numbers in
    let moved : AreSpelled a.names sources b.modules = subst (λ ns. AreSpelled ns sources b.modules) (sym names) k.modules_are in
    let modules = one_spelled a.names sources a.modules b.modules distinct h.modules_are moved in
    let mains : Some a.main ≡ Some b.main = sym h.main_is ∙ (λ i. main_in (names i) (modules i)) ∙ k.main_is in
    let main : a.main ≡ b.main = ap (λ o. main_of o) mains in
    (λ i. record { names = names i; files = same_files i; modules = modules i; main = main i })

pub one_design : OneDesign
one_design held files a b h k =
    let same = one_sources held files h.sources k.sources h.are_sources k.are_sources in
    one_of_sources files h.sources a b h.is_design (subst (λ ss. IsDesignOf files ss b) (sym same) k.is_design)

-- ---- both

-- a list without faults has no first one
pub no_first : (fault : Fault) (fs : List Fault) → fs ≡ [] → IsFirst fault fs → ⊥
unfolding IsIn
no_first fault fs none first = (subst (IsFirst fault) none first).0

-- a design that keeps the rules breaks none first
pub never_first : (system : System) (fault : Fault) → IsTyped system → KeepsOrder system → IsFirstBroken system fault → ⊥
never_first system fault typed ordered (inl first) = no_first fault (design_faults (contents_of system) main_name) typed first
never_first system fault typed ordered (inr first) = no_first fault (order_faults system) ordered first.1

pub never_broken : (system : System) (fault : Fault) → IsKept system → IsFirstBroken system fault → ⊥
never_broken system fault keeps first = never_first system fault keeps.0 keeps.1 first

-- nor one on control blocks
pub never_uncontrolled : (system : System) (fault : ControlFault) → IsKept system → IsFirstControlFault system fault → ⊥
never_uncontrolled system fault keeps first =
    let e : None ≡ Some fault = sym keeps.2 ∙ first in
    cc e

never_unbuilt : (files : List (List ℕ)) (sources : List Source) (system : System) (r : Refusal) → IsDesignOf files sources system → IsKept system → RunsToday system → IsUnbuilt files sources r → ⊥
never_unbuilt files sources system r d keeps runs h = by r h
  where
    distinct : AreDistinct (names_of files sources)
    distinct = names_distinct files sources

    all : AreSpelled (names_of files sources) sources system.modules
    all = subst (λ ns. AreSpelled ns sources system.modules) d.names_are d.modules_are

    by : (r : Refusal) → IsUnbuilt files sources r → ⊥
    by (Syntax p) h = never_unspelled (names_of files sources) sources system.modules (Syntax p) distinct all h
    by (TooDeep p) h = never_unspelled (names_of files sources) sources system.modules (TooDeep p) distinct all h
    by (TooManyNames p) h = never_unspelled (names_of files sources) sources system.modules (TooManyNames p) distinct all h
    by NoMain h =
        let modules = one_spelled (names_of files sources) sources system.modules h.0 distinct all h.1 in
        let e : Some system.main ≡ None = sym d.main_is ∙ (λ i. main_in (d.names_are i) (modules i)) ∙ h.2 in
        cc e
    by (BreaksRule fault) h = never_broken h.0 fault (subst IsKept (one_of_sources files sources system h.0 d h.1) keeps) h.2
    by (BreaksControl fault) h = never_uncontrolled h.0 fault (subst IsKept (one_of_sources files sources system h.0 d h.1) keeps) h.4
    by (NotBuilt p) h = h.3 (subst RunsToday (one_of_sources files sources system h.0 d h.1) runs)
    by (NoFile n) h = h
    by (TooLong n) h = h
    by (BadByte p) h = h
    by (BadNumber p) h = h
    by (OpenComment p) h = h

pub never_both : NeverBoth
never_both held files system r a (inl h) = never_unread held files (texts_of a.0.sources) r a.0.are_sources.are_texts h
never_both held files system r a (inr (inl h)) =
    let same = one_texts held files h.0 (texts_of a.0.sources) h.1.each a.0.are_sources.are_texts.each in
    never_unlexed a.0.sources r a.0.are_sources.are_lexed (subst (λ ts. IsUnlexed ts r) same h.2)
never_both held files system r a (inr (inr h)) =
    let same = one_sources held files h.0 a.0.sources h.1 a.0.are_sources in
    never_unbuilt files a.0.sources system r a.0.is_design a.1 a.2 (subst (λ ss. IsUnbuilt files ss r) same h.2)
