-- A text has one reading.
use Rattle.std.proofs.Common.{◌≡◌, ℕ, ◌+◌, ◌-◌, ◌≤◌, ◌<◌, ◌==◌, not, Bool, true, List, [], ◌∷◌, ◌++◌, length, take, drop, Option, Some, None, Result, Ok, Err, refl, sym, ap, ◌∙◌, subst, arith, inl, inr}
use Rattle.std.proofs.lemmas.Bool.{false≢true, and_parts, not-true}
use Rattle.std.proofs.lemmas.List.{take-append-drop, length-take-le, length-drop, drop-drop, drop_all}
use Rattle.uc_lexer.specs.declared.token.Token.{Token}
use Rattle.uc_lexer.specs.declared.token.TokenKind.{TokenKind}
use Rattle.uc_lexer.specs.declared.place.Place.{Place}
use Rattle.uc_lexer.specs.declared.fault.LexFault.{LexFault}
use Rattle.uc_lexer.specs.declared.fault.LexFault.TheVariants.{BadByte, BadNumber, OpenComment}
use Rattle.uc_lexer.specs.Bytes.{is_blank, is_digit, is_letter, Begins}
use Rattle.uc_lexer.specs.Gap.{Skips, HasNoGap, IsOpenComment}
use Rattle.uc_lexer.specs.Places.{place_of}
use Rattle.uc_lexer.specs.Table.{signs}
use Rattle.uc_lexer.specs.Spelling.{Spells, name, keyword, bv_type, number, bv_literal, sign, IsLongest, IsToken, IsBadNumber, IsBadByte, IsWithinLimits, RunsOn}
use Rattle.uc_lexer.specs.Text.{Progress, IsNext, Reads, ends, fails, goes_on, HasOneReading}
use Rattle.uc_lexer.specs.Reading.{lookup}
use Rattle.uc_lexer.proofs.Fronts.{append-take, append-drop}
use Rattle.uc_lexer.proofs.Tables.{is_start, lookup-among, signs_distinct, sign_start, keyword_letter}
use Rattle.uc_lexer.proofs.Classes.{letter_word, digit_word, word_start}
use Rattle.uc_lexer.proofs.Spellings.{spelled_begins, word_same, others_first, Begins-append, literal_digit}
use Rattle.uc_lexer.proofs.Literals.{digits_same}
use Rattle.uc_lexer.proofs.GapEnds.{IsStop, skips_same}

-- ---- one kind for a spelling

pub spells_same : (bytes : List ℕ) (k l : TokenKind) → Spells bytes k → Spells bytes l → k ≡ l
spells_same bytes k l s t = elim (spelled_begins bytes k s) [
  | inl b ↦ word_same bytes k b s ∙ sym (word_same bytes l b t)
  | inr other ↦ elim other [
    | inl b ↦ digits_same bytes k b s ∙ sym (digits_same bytes l b t)
    | inr b ↦ (let first : lookup signs bytes ≡ Some k = lookup-among signs bytes k signs_distinct (others_first bytes k b s) in
        let second : lookup signs bytes ≡ Some l = lookup-among signs bytes l signs_distinct (others_first bytes l b t) in cc)
  ]
]

-- ---- one longest spelling

pub longest_same : (b r c s : List ℕ) (k l : TokenKind) → b ++ r ≡ c ++ s → IsLongest b r k → IsLongest c s l → (b ≡ c) × (r ≡ s) × (k ≡ l)
longest_same b r c s k l e h j =
    let most : length c ≤ length b = h.longest c s l (sym e) j.stands in
    let least : length b ≤ length c = j.longest b r k e h.stands in
    let long : length b ≡ length c = omega arith in
    let front : b ≡ c = sym (append-take b r (b ++ r) refl) ∙ ap (λ (n : ℕ). take n (b ++ r)) long ∙ append-take c s (b ++ r) (sym e) in
    let behind : r ≡ s = sym (append-drop b r (b ++ r) refl) ∙ ap (λ (n : ℕ). drop n (b ++ r)) long ∙ append-drop c s (b ++ r) (sym e) in
    (front, behind, spells_same b k l h.stands.0 (subst (λ (t : List ℕ). Spells t l) (sym front) j.stands.0))

-- ---- what stands where blanks and comments end

pub data Seen : Type 0 where
  a_token : TokenKind → ℕ → Seen
  a_number : Seen
  a_byte : Seen
  a_comment : Seen
  an_end : Seen

abbrev pub IsSeen : List ℕ → Seen → Type 0
IsSeen text (a_token kind n) = (0 < n) × (n ≤ length text) × IsToken (take n text) (drop n text) kind
IsSeen text a_number = IsBadNumber text
IsSeen text a_byte = IsBadByte text
IsSeen text a_comment = IsOpenComment text
IsSeen text an_end = text ≡ []

begins_weaker : (p q : ℕ → Bool) (xs : List ℕ) → ((c : ℕ) → p c ≡ true → q c ≡ true) → Begins p xs → Begins q xs
begins_weaker p q [] w b = b
begins_weaker p q (c ∷ cs) w b = w c b

letter_start : (c : ℕ) → is_letter c ≡ true → is_start c ≡ true
letter_start c h = word_start c (letter_word c h)

digit_start : (c : ℕ) → is_digit c ≡ true → is_start c ≡ true
digit_start c h = word_start c (digit_word c h)

-- a spelling begins with neither a blank nor a slash
spelled_start : (bytes : List ℕ) (kind : TokenKind) → Spells bytes kind → Begins is_start bytes
spelled_start bytes kind (name w k v e) = begins_weaker is_letter is_start bytes letter_start w.0
spelled_start bytes kind (keyword a) = begins_weaker is_letter is_start bytes letter_start (keyword_letter bytes kind a)
spelled_start bytes kind (bv_type digits e d k) = subst (λ (t : List ℕ). Begins is_start t) (sym e) refl
spelled_start bytes kind (number d e) = begins_weaker is_digit is_start bytes digit_start d.0
spelled_start bytes kind (bv_literal v w e dv dw k) = begins_weaker is_digit is_start bytes digit_start (literal_digit bytes v w e dv.0)
spelled_start bytes kind (sign a) = sign_start bytes kind a

-- so does a text that begins with one
text_start : (bytes rest text : List ℕ) (kind : TokenKind) → bytes ++ rest ≡ text → Spells bytes kind → Begins is_start text
text_start bytes rest text kind e s = subst (λ (t : List ℕ). Begins is_start t) e (Begins-append is_start bytes rest (spelled_start bytes kind s))

start_gap : (xs : List ℕ) → Begins is_start xs → HasNoGap xs
start_gap [] b = absurd b
start_gap (c ∷ []) b = not-true (is_blank c) (and_parts (not (is_blank c)) (not (c == 47)) b).0
start_gap (c ∷ d ∷ cs) b =
    let both = and_parts (not (is_blank c)) (not (c == 47)) b in
    let slash : c ≡ 47 → ⊥ = λ e. false≢true (sym (ap (λ (n : ℕ). not (n == 47)) e) ∙ both.1) in
    (not-true (is_blank c) both.0, (λ e f. slash e), (λ e f. slash e))

no_open : (xs : List ℕ) → HasNoGap xs → IsOpenComment xs → ⊥
no_open [] h o = o
no_open (c ∷ []) h o = o
no_open (c ∷ d ∷ cs) h o = h.2 o.0 o.1

token_start : (text : List ℕ) (kind : TokenKind) (n : ℕ) → IsSeen text (a_token kind n) → Begins is_start text
token_start text kind n h = text_start (take n text) (drop n text) text kind (take-append-drop n text) h.2.longest.stands.0

number_start : (text : List ℕ) → IsBadNumber text → Begins is_start text
number_start text h = text_start h.bytes h.rest text h.kind h.splits h.longest.stands.0

pub seen_stop : (text : List ℕ) (seen : Seen) → IsSeen text seen → IsStop text
seen_stop text (a_token kind n) h = inl (start_gap text (token_start text kind n h))
seen_stop text a_number h = inl (start_gap text (number_start text h))
seen_stop text a_byte h = inl h.no_gap
seen_stop text a_comment h = inr h
seen_stop text an_end h = inl (subst (λ (t : List ℕ). HasNoGap t) (sym h) tt)

not_empty : (text : List ℕ) → Begins is_start text → text ≡ [] → ⊥
not_empty [] b e = b
not_empty (c ∷ cs) b e = let z : c ∷ cs ≡ [] = e in absurd cc

token_number : (text : List ℕ) (kind : TokenKind) (n : ℕ) → IsSeen text (a_token kind n) → IsBadNumber text → ⊥
token_number text kind n h b =
    let same = longest_same (take n text) (drop n text) b.bytes b.rest kind b.kind (take-append-drop n text ∙ sym b.splits) h.2.longest b.longest in
    elim b.bad [
      | inl large ↦ large (subst (λ (k : TokenKind). IsWithinLimits k) same.2 h.2.within)
      | inr runs ↦ h.2.ends (subst (λ (k : TokenKind). RunsOn k (drop n text)) (sym same.2) (subst (λ (t : List ℕ). RunsOn b.kind t) (sym same.1) runs))
    ]

token_byte : (text : List ℕ) (kind : TokenKind) (n : ℕ) → IsSeen text (a_token kind n) → IsBadByte text → ⊥
token_byte text kind n h b = b.no_token (take n text) (drop n text) kind (take-append-drop n text) h.2.longest.stands

number_byte : (text : List ℕ) → IsBadNumber text → IsBadByte text → ⊥
number_byte text h b = b.no_token h.bytes h.rest h.kind h.splits h.longest.stands

byte_end : (text : List ℕ) → IsBadByte text → text ≡ [] → ⊥
byte_end text b e = let some = b.some in absurd (omega (arith, ap length e))

comment_end : (text : List ℕ) → IsOpenComment text → text ≡ [] → ⊥
comment_end text o e = subst (λ (t : List ℕ). IsOpenComment t) e o

pub seen_same : (text : List ℕ) (a b : Seen) → IsSeen text a → IsSeen text b → a ≡ b
seen_same text (a_token k n) (a_token l m) h j =
    let same = longest_same (take n text) (drop n text) (take m text) (drop m text) k l (take-append-drop n text ∙ sym (take-append-drop m text)) h.2.longest j.2.longest in
    let long : n ≡ m = sym (length-take-le n text h.1) ∙ ap length same.0 ∙ length-take-le m text j.1 in
    ap (λ (x : TokenKind). a_token x n) same.2 ∙ ap (λ (x : ℕ). a_token l x) long
seen_same text (a_token k n) a_number h j = absurd (token_number text k n h j)
seen_same text (a_token k n) a_byte h j = absurd (token_byte text k n h j)
seen_same text (a_token k n) a_comment h j = absurd (no_open text (start_gap text (token_start text k n h)) j)
seen_same text (a_token k n) an_end h j = absurd (not_empty text (token_start text k n h) j)
seen_same text a_number (a_token l m) h j = absurd (token_number text l m j h)
seen_same text a_number a_number h j = refl
seen_same text a_number a_byte h j = absurd (number_byte text h j)
seen_same text a_number a_comment h j = absurd (no_open text (start_gap text (number_start text h)) j)
seen_same text a_number an_end h j = absurd (not_empty text (number_start text h) j)
seen_same text a_byte (a_token l m) h j = absurd (token_byte text l m j h)
seen_same text a_byte a_number h j = absurd (number_byte text j h)
seen_same text a_byte a_byte h j = refl
seen_same text a_byte a_comment h j = absurd (no_open text h.no_gap j)
seen_same text a_byte an_end h j = absurd (byte_end text h j)
seen_same text a_comment (a_token l m) h j = absurd (no_open text (start_gap text (token_start text l m j)) h)
seen_same text a_comment a_number h j = absurd (no_open text (start_gap text (number_start text j)) h)
seen_same text a_comment a_byte h j = absurd (no_open text j.no_gap h)
seen_same text a_comment a_comment h j = refl
seen_same text a_comment an_end h j = absurd (comment_end text h j)
seen_same text an_end (a_token l m) h j = absurd (not_empty text (token_start text l m j) h)
seen_same text an_end a_number h j = absurd (not_empty text (number_start text j) h)
seen_same text an_end a_byte h j = absurd (byte_end text j h)
seen_same text an_end a_comment h j = absurd (comment_end text j h)
seen_same text an_end an_end h j = refl

-- ---- the answer that this is

abbrev answer : ℕ → List ℕ → ℕ → Seen → Result (Option Token) LexFault
answer file text start (a_token kind n) = Ok (Some (record { kind = kind; start = start; end = start + n; place = place_of file text start }))
answer file text start a_number = Err (BadNumber (place_of file text start))
answer file text start a_byte = Err (BadByte (place_of file text start))
answer file text start a_comment = Err (OpenComment (place_of file text start))
answer file text start an_end = Ok None

record Sees (p : Progress) (result : Result (Option Token) LexFault) : Type 0 where
  pub start : ℕ
  pub seen : Seen
  pub gap : Skips (drop p.offset p.text) (drop start p.text)
  pub is_seen : IsSeen (drop start p.text) seen
  pub inside : start ≤ length p.text
  pub is_answer : result ≡ answer p.file p.text start seen

inside_from : (text : List ℕ) (start : ℕ) → 0 < length (drop start text) → start ≤ length text
inside_from text start h = omega (arith, h, length-drop start text)

some_start : (xs : List ℕ) → Begins is_start xs → 0 < length xs
some_start [] b = absurd b
some_start (c ∷ cs) b = omega arith

some_open : (xs : List ℕ) → IsOpenComment xs → 0 < length xs
some_open [] o = absurd o
some_open (c ∷ cs) o = omega arith

sees : (p : Progress) (result : Result (Option Token) LexFault) → IsNext p result → Sees p result
sees p (Ok None) h =
    let none : drop (length p.text) p.text ≡ [] = drop_all (length p.text) p.text (omega arith) in
    record { start = length p.text; seen = an_end; gap = subst (λ (t : List ℕ). Skips (drop p.offset p.text) t) (sym none) h; is_seen = none; inside = omega arith; is_answer = refl }
sees p (Ok (Some t)) h =
    let n : ℕ = t.end - t.start in
    let some = h.some in
    let within = h.within in
    let end_is : t.start + n ≡ t.end = omega arith in
    let back : drop t.end p.text ≡ drop n (drop t.start p.text) = ap (λ (k : ℕ). drop k p.text) (sym end_is) ∙ sym (drop-drop n t.start p.text) in
    record {
      start = t.start;
      seen = a_token t.kind n;
      gap = h.gap;
      is_seen = ((omega arith), (omega (arith, length-drop t.start p.text)), subst (λ (x : List ℕ). IsToken (take n (drop t.start p.text)) x t.kind) back h.spelled);
      inside = omega arith;
      is_answer = ap (λ (e : ℕ). Ok (Some (record { kind = t.kind; start = t.start; end = e; place = t.place }))) (sym end_is) ∙ ap (λ (q : Place). Ok (Some (record { kind = t.kind; start = t.start; end = t.start + n; place = q }))) h.stands_at;
    }
sees p (Err (BadByte q)) h = record { start = h.start; seen = a_byte; gap = h.gap; is_seen = h.what; inside = inside_from p.text h.start h.what.some; is_answer = ap (λ (x : Place). Err (BadByte x)) h.stands_at }
sees p (Err (BadNumber q)) h = record { start = h.start; seen = a_number; gap = h.gap; is_seen = h.what; inside = inside_from p.text h.start (some_start (drop h.start p.text) (number_start (drop h.start p.text) h.what)); is_answer = ap (λ (x : Place). Err (BadNumber x)) h.stands_at }
sees p (Err (OpenComment q)) h = record { start = h.start; seen = a_comment; gap = h.gap; is_seen = h.what; inside = inside_from p.text h.start (some_open (drop h.start p.text) h.what); is_answer = ap (λ (x : Place). Err (OpenComment x)) h.stands_at }

-- at most one answer is next
pub next_same : (p : Progress) (a b : Result (Option Token) LexFault) → IsNext p a → IsNext p b → a ≡ b
next_same p a b h j =
    let x = sees p a h in
    let y = sees p b j in
    let one : drop x.start p.text ≡ drop y.start p.text = skips_same (drop p.offset p.text) (drop p.offset p.text) (drop x.start p.text) (drop y.start p.text) refl x.gap y.gap (seen_stop (drop x.start p.text) x.seen x.is_seen) (seen_stop (drop y.start p.text) y.seen y.is_seen) in
    let i = x.inside in
    let k = y.inside in
    let starts : x.start ≡ y.start = omega (arith, ap length one, length-drop x.start p.text, length-drop y.start p.text) in
    let seen : x.seen ≡ y.seen = seen_same (drop y.start p.text) x.seen y.seen (subst (λ (t : List ℕ). IsSeen t x.seen) one x.is_seen) y.is_seen in
    x.is_answer ∙ ap (λ (n : ℕ). answer p.file p.text n x.seen) starts ∙ ap (λ (s : Seen). answer p.file p.text y.start s) seen ∙ sym y.is_answer

-- ---- whole texts

abbrev at : ℕ → List ℕ → ℕ → Progress
at file text offset = record { file = file; text = text; offset = offset }

reads_same : (file : ℕ) (text : List ℕ) (offset : ℕ) (ts us : List Token) (f g : Option LexFault) → Reads file text offset ts f → Reads file text offset us g → (ts ≡ us) × (f ≡ g)
reads_same file text offset ts us f g (ends h) (ends j) = (refl, refl)
reads_same file text offset ts us f g (ends h) (fails {fault = y} j) = let z : Ok None ≡ Err y = next_same (at file text offset) (Ok None) (Err y) h j in absurd cc
reads_same file text offset ts us f g (ends h) (goes_on {token = u} j js) = let z : Ok None ≡ Ok (Some u) = next_same (at file text offset) (Ok None) (Ok (Some u)) h j in absurd cc
reads_same file text offset ts us f g (fails {fault = x} h) (ends j) = let z : Err x ≡ Ok None = next_same (at file text offset) (Err x) (Ok None) h j in absurd cc
reads_same file text offset ts us f g (fails {fault = x} h) (fails {fault = y} j) = let z : Err x ≡ Err y = next_same (at file text offset) (Err x) (Err y) h j in (refl, (cc))
reads_same file text offset ts us f g (fails {fault = x} h) (goes_on {token = u} j js) = let z : Err x ≡ Ok (Some u) = next_same (at file text offset) (Err x) (Ok (Some u)) h j in absurd cc
reads_same file text offset ts us f g (goes_on {token = t} h hs) (ends j) = let z : Ok (Some t) ≡ Ok None = next_same (at file text offset) (Ok (Some t)) (Ok None) h j in absurd cc
reads_same file text offset ts us f g (goes_on {token = t} h hs) (fails {fault = y} j) = let z : Ok (Some t) ≡ Err y = next_same (at file text offset) (Ok (Some t)) (Err y) h j in absurd cc
reads_same file text offset ts us f g (goes_on {token = t} {tokens = more} h hs) (goes_on {token = u} {tokens = others} j js) =
    let z : Ok (Some t) ≡ Ok (Some u) = next_same (at file text offset) (Ok (Some t)) (Ok (Some u)) h j in
    let same : t ≡ u = cc in
    let rest = reads_same file text t.end more others f g hs (subst (λ (v : Token). Reads file text v.end others g) (sym same) js) in
    (ap (λ (v : Token). v ∷ more) same ∙ ap (λ (vs : List Token). u ∷ vs) rest.0, rest.1)

pub one_reading : HasOneReading
one_reading file text tokens others fault other h j = reads_same file text 0 tokens others fault other h j
