-- What reading and lexing lead to.
use Rattle.std.proofs.Common.{◌≡◌, ℕ, zero, suc, ◌+◌, ◌<◌, ◌≤◌, Bool, IsTrue, List, [], ◌∷◌, ◌++◌, length, map, take, slice_get, Option, None, Some, IsSomeAnd, refl, sym, ap, subst, ◌∙◌, arith, take_all}
use Rattle.std.specs.List.{concat}
use Rattle.std.proofs.lemmas.List.{map-append, length-map}
use Rattle.std.proofs.Math.Seq.{take-append_seam}
use Rattle.uc_lexer.specs.declared.lexer.TheConstants.{MAX_TEXT}
use Rattle.uc_lexer.specs.declared.fault.LexFault.{LexFault}
use Rattle.uc_lexer.specs.declared.error.LexError.{LexError}
use Rattle.uc_lexer.specs.declared.error.LexError.TheVariants as lex
use Rattle.uc_lexer.specs.declared.fault.LexFault.TheVariants as lex_fault
use Rattle.uc_lexer.specs.Text.{Tokens, FirstFault, IsLexError}
use Rattle.uc_front.specs.declared.error.FrontError.{FrontError}
use Rattle.uc_front.specs.declared.error.FrontError.TheVariants.{NoMemory, ReadFault, Refused}
use Rattle.uc_front.specs.declared.lexing.Source.{Source}
use Rattle.uc_front.specs.declared.refusal.Refusal.TheVariants.{NoFile, TooLong, BadByte, BadNumber, OpenComment, Syntax, TooDeep, TooManyNames, NoMain, BreaksRule, BreaksControl, NotBuilt}
use Rattle.uc_front.specs.Sources.{AreTexts, AreLexed, texts_of}
use Rattle.uc_front.specs.Refused.{IsUnread, IsFirstFault, IsUnlexed}
use Rattle.uc_front.specs.Errors.{IsFrontError, IsTextError, IsUnreadFile}
use Rattle.uc_front.specs.Turning.{lexical}
use Rattle.uc_front.proofs.Lists.{take_next, behind}

-- ---- reading

-- one more text
pub read_more : (held : List ℕ → Option (List ℕ)) (files : List (List ℕ)) (i : ℕ) (found : List (List ℕ)) (file text : List ℕ) → slice_get files i ≡ Some file →
    map held (take i files) ≡ map (λ t. Some t) found → held file ≡ Some text → map held (take (i + 1) files) ≡ map (λ t. Some t) (found ++ text ∷ [])
read_more held files i found file text at so_far is =
    ap (map held) (take_next files i file at) ∙ map-append held (take i files) (file ∷ []) ∙ (λ j. so_far j ++ is j ∷ []) ∙ sym (map-append (λ t. Some t) found (text ∷ []))

-- all texts
pub all_read : (held : List ℕ → Option (List ℕ)) (files : List (List ℕ)) (i : ℕ) (found : List (List ℕ)) → length files ≤ i → map held (take i files) ≡ map (λ t. Some t) found →
    map held files ≡ map (λ t. Some t) found
all_read held files i found end so_far = ap (map held) (sym (take_all i files end)) ∙ so_far

text_in : (held : Option (List ℕ)) (room : ℕ) → IsSomeAnd held (λ text. room < length text) → (text : List ℕ) × (held ≡ Some text) × (room < length text)
text_in None room h = absurd h
text_in (Some text) room h = (text, refl, h)

-- a file that is refused
pub read_refused : (held : List ℕ → Option (List ℕ)) (files : List (List ℕ)) (i room : ℕ) (found : List (List ℕ)) (file : List ℕ) (e : FrontError) → slice_get files i ≡ Some file →
    map held (take i files) ≡ map (λ t. Some t) found → length (concat found) + room ≡ MAX_TEXT → IsFrontError (IsUnreadFile (held file) i room) e → IsFrontError (IsUnread held files) e
read_refused held files i room found file e at so_far limit h = by e h
  where
    texts : AreTexts held (take i files) found
    texts = record { each = so_far; within = omega (arith, limit) }

    by : (e : FrontError) → IsFrontError (IsUnreadFile (held file) i room) e → IsFrontError (IsUnread held files) e
    by NoMemory h = tt
    by ReadFault h = tt
    by (Refused (NoFile n)) h = subst (λ m. IsUnread held files (NoFile m)) (sym h.0) (file, found, at, texts, h.1)
    by (Refused (TooLong n)) h =
        let t = text_in (held file) room h.1 in
        let past : MAX_TEXT < length (concat found) + length t.0 = omega (arith, limit, t.2) in
        subst (λ m. IsUnread held files (TooLong m)) (sym h.0) (file, found, t.0, at, texts, t.1, past)
    by (Refused (BadByte p)) h = absurd h
    by (Refused (BadNumber p)) h = absurd h
    by (Refused (OpenComment p)) h = absurd h
    by (Refused (Syntax p)) h = absurd h
    by (Refused (TooDeep p)) h = absurd h
    by (Refused (TooManyNames p)) h = absurd h
    by (Refused NoMain) h = absurd h
    by (Refused (BreaksRule fault)) h = absurd h
    by (Refused (BreaksControl fault)) h = absurd h
    by (Refused (NotBuilt p)) h = absurd h

-- the same of a source that tells its texts, after some of its calls
pub told_more : (tells now : Bool) (held held_now : List ℕ → Option (List ℕ)) (files : List (List ℕ)) (i : ℕ) (found more : List (List ℕ)) (file text : List ℕ) → now ≡ tells → held_now ≡ held →
    slice_get files i ≡ Some file → (IsTrue tells → map held (take i files) ≡ map (λ t. Some t) found) → (IsTrue now → held_now file ≡ Some text) → more ≡ found ++ text ∷ [] →
    IsTrue tells → map held (take (i + 1) files) ≡ map (λ t. Some t) more
told_more tells now held held_now files i found more file text telling holding at so_far is e told =
    let text_is : held file ≡ Some text = ap (λ h. h file) (sym holding) ∙ is (subst IsTrue (sym telling) told) in
    read_more held files i found file text at (so_far told) text_is ∙ ap (map (λ t. Some t)) (sym e)

pub told_refused : (tells now : Bool) (held held_now : List ℕ → Option (List ℕ)) (files : List (List ℕ)) (i room : ℕ) (found : List (List ℕ)) (file : List ℕ) (e : FrontError) → now ≡ tells → held_now ≡ held →
    slice_get files i ≡ Some file → (IsTrue tells → map held (take i files) ≡ map (λ t. Some t) found) → length (concat found) + room ≡ MAX_TEXT →
    (IsTrue now → IsFrontError (IsUnreadFile (held_now file) i room) e) → IsTrue tells → IsFrontError (IsUnread held files) e
told_refused tells now held held_now files i room found file e telling holding at so_far limit h told =
    read_refused held files i room found file e at (so_far told) limit
    (subst (λ k. IsFrontError (IsUnreadFile (k file) i room) e) holding (h (subst IsTrue (sym telling) told)))

-- ---- lexing

lexed_behind : (n : ℕ) (sources : List Source) (s : Source) → AreLexed n sources → Tokens (n + length sources) s.text s.tokens → AreLexed n (sources ++ s ∷ [])
lexed_behind n [] s all last = let e : n + 0 ≡ n = omega arith in (subst (λ k. Tokens k s.text s.tokens) e last, tt)
lexed_behind n (x ∷ xs) s all last =
    let e : n + length (x ∷ xs) ≡ n + 1 + length xs = omega arith in
    (all.0, lexed_behind (n + 1) xs s all.1 (subst (λ k. Tokens k s.text s.tokens) e last))

-- one more text with its tokens
pub lexed_more : (sources : List Source) (s : Source) → AreLexed 0 sources → Tokens (length sources) s.text s.tokens → AreLexed 0 (sources ++ s ∷ [])
lexed_more sources s all last =
    let e : length sources ≡ 0 + length sources = omega arith in
    lexed_behind 0 sources s all (subst (λ k. Tokens k s.text s.tokens) e last)

lexed_from : (n : ℕ) (sources : List Source) (i : ℕ) (s : Source) → AreLexed n sources → slice_get sources i ≡ Some s → Tokens (n + i) s.text s.tokens
lexed_from n [] i s all at = absurd cc
lexed_from n (x ∷ xs) zero s all at =
    let same : x ≡ s = cc in
    let e : n ≡ n + 0 = omega arith in
    subst (λ k. Tokens k s.text s.tokens) e (subst (λ y. Tokens n y.text y.tokens) same all.0)
lexed_from n (x ∷ xs) (suc i) s all at =
    let e : n + 1 + i ≡ n + suc i = omega arith in
    subst (λ k. Tokens k s.text s.tokens) e (lexed_from (n + 1) xs i s all.1 at)

pub lexed_at : (sources : List Source) (i : ℕ) (s : Source) → AreLexed 0 sources → slice_get sources i ≡ Some s → Tokens i s.text s.tokens
lexed_at sources i s all at = let e : 0 + i ≡ i = omega arith in subst (λ k. Tokens k s.text s.tokens) e (lexed_from 0 sources i s all at)

pub texts_more : (sources : List Source) (s : Source) (rest texts : List (List ℕ)) → texts_of sources ++ s.text ∷ rest ≡ texts → texts_of (sources ++ s ∷ []) ++ rest ≡ texts
texts_more [] s rest texts e = e
texts_more (x ∷ xs) s rest texts e = ap (λ ts. x.text ∷ ts) (texts_more xs s rest (texts_of xs ++ s.text ∷ rest) refl) ∙ e

-- the text behind those that have tokens stands at their number
pub text_at : (sources : List Source) (text : List ℕ) (rest texts : List (List ℕ)) → texts_of sources ++ text ∷ rest ≡ texts → slice_get texts (length sources) ≡ Some text
text_at sources text rest texts e =
    let n : length sources ≡ length (texts_of sources) = sym (length-map sources (λ s. s.text)) in
    let back : texts ≡ texts_of sources ++ text ∷ rest = sym e in
    (λ j. slice_get (back j) (n j)) ∙ behind (texts_of sources) text rest

texts_before : (sources : List Source) (text : List ℕ) (rest texts : List (List ℕ)) → texts_of sources ++ text ∷ rest ≡ texts → texts_of sources ≡ take (length sources) texts
texts_before sources text rest texts e =
    let n : length (texts_of sources) ≡ length sources = length-map sources (λ s. s.text) in
    sym (take-append_seam (texts_of sources) (text ∷ rest)) ∙ (λ j. take (n j) (e j))

first_fault : (sources : List Source) (text : List ℕ) (rest texts : List (List ℕ)) (fault : LexFault) → texts_of sources ++ text ∷ rest ≡ texts → AreLexed 0 sources →
    FirstFault (length sources) text fault → IsFirstFault texts fault
first_fault sources text rest texts fault e all h = (length sources, text, sources, text_at sources text rest texts e, texts_before sources text rest texts e, all, h)

-- a text that is refused
pub lexed_refused : (sources : List Source) (text : List ℕ) (rest texts : List (List ℕ)) (e : LexError) → texts_of sources ++ text ∷ rest ≡ texts → AreLexed 0 sources →
    IsLexError (length sources) text e → IsTextError (IsUnlexed texts) (lexical e)
lexed_refused sources text rest texts lex.NoMemory is all h = tt
lexed_refused sources text rest texts (lex.Fault (lex_fault.BadByte p)) is all h = first_fault sources text rest texts (lex_fault.BadByte p) is all h
lexed_refused sources text rest texts (lex.Fault (lex_fault.BadNumber p)) is all h = first_fault sources text rest texts (lex_fault.BadNumber p) is all h
lexed_refused sources text rest texts (lex.Fault (lex_fault.OpenComment p)) is all h = first_fault sources text rest texts (lex_fault.OpenComment p) is all h
