-- The words of tokens that are printed words show what was printed.
use Rattle.std.specs.Prelude.{codes, if◌then◌else◌}
use Rattle.std.specs.Str.{bytes_eq}
use Rattle.std.proofs.Common.{◌≡◌, ℕ, Bool, true, false, List, [], ◌∷◌, length, slice_get, Option, Some, None, refl, sym, ap, ◌∙◌, subst}
use Rattle.uc_lexer.specs.declared.token.Token.{Token}
use Rattle.uc_lexer.specs.declared.token.TokenKind.{TokenKind}
use Rattle.uc_lexer.specs.declared.token.TokenKind.TheVariants as token
use Rattle.uc_lexer.proofs.Unique.{one_reading}
use Rattle.uc_syntax.specs.Numbering.{has_text, number_of, with_text, AreDistinct, KeepNumbers}
use Rattle.uc_syntax.proofs.Numbering.{text_at, known_stays, new_at_end, last_at, keep_same, keep_with_text}
use Rattle.uc_syntax.specs.declared.declaration.Module.{Module}
use Rattle.uc_syntax.specs.declared.expression.BitFunction.{BitFunction}
use Rattle.uc_syntax.specs.declared.expression.BitFunction.TheVariants.{ZeroExtend, SignExtend, ShiftLeft, ShiftRight, ShiftRightSigned}
use Rattle.uc_grammar.specs.declared.word.Word.{Word}
use Rattle.uc_grammar.specs.declared.word.Kind.{Kind}
use Rattle.uc_grammar.specs.declared.word.Kind.TheVariants as kinds
use Rattle.uc_grammar.specs.Code.{name_in}
use Rattle.uc_words.specs.Fixed.{fixed_kind}
use Rattle.uc_words.specs.Known.{Entry, known_names, kind_in}
use Rattle.uc_words.specs.Words.{bytes_of, IsNamed, IsKind, IsWord, AreWords, IsText, with_kind, with_token, with_tokens}
use Rattle.uc_words.proofs.Names.{name_stays, kept_twice}
use Rattle.uc_words.proofs.TokenByToken.{words_stay}
use Rattle.uc_print_laws.specs.Piece.{Piece, name, applied, fixed, is_name, is_on_bits, Shows, Shown}
use Rattle.uc_print_laws.specs.Declarations.{modules_words}
use Rattle.uc_print_laws.specs.Text.{found, name_text, function_text, kind_text, design_text}
use Rattle.uc_print_laws.specs.Spelled.{IsSpelledName, IsSpelledWord, HasSpelling, HaveSpellings}
use Rattle.uc_print_laws.specs.Law.{IsKindOf, IsTokenOf, AreTokensOf}
use Rattle.uc_print_laws.proofs.Lexed.{text_lexed}

-- ---- names that the grammar knows are names

abbrev IsNameOf : ℕ → Kind → Type 0
IsNameOf n k = (is_name k ≡ true) × (name_in k ≡ n)

abbrev AllAt : (Kind → Type 0) → ℕ → List Entry → Type 0
AllAt P n [] = Unit {0}
AllAt P n (e ∷ es) = P (e.1 n) × AllAt P n es

kind_is : (P : Kind → Type 0) (es : List Entry) (text : List ℕ) (n : ℕ) → P (kinds.Name n) → AllAt P n es → P (kind_in es text n)
kind_is P [] text n own all = own
kind_is P (e ∷ es) text n own all = elim (bytes_eq text e.0) as (λ b. P (if b then e.1 n else kind_in es text n)) [ true ↦ all.0 | false ↦ kind_is P es text n own all.1 ]

pub name_kind : (text : List ℕ) (n : ℕ) → IsNameOf n (kind_in known_names text n)
name_kind text n = kind_is (IsNameOf n) known_names text n (refl, refl)
    ((refl, refl), ((refl, refl), ((refl, refl), ((refl, refl), ((refl, refl), ((refl, refl), ((refl, refl), ((refl, refl), ((refl, refl), ((refl, refl), ((refl, refl), ((refl, refl), tt))))))))))))

function_kind : (f : BitFunction) (n : ℕ) → kind_in known_names (function_text f) n ≡ kinds.OnBits f n
function_kind ZeroExtend n = refl
function_kind SignExtend n = refl
function_kind ShiftLeft n = refl
function_kind ShiftRight n = refl
function_kind ShiftRightSigned n = refl

-- ---- one word

module _ (names after : List (List ℕ)) (distinct : AreDistinct after) (kept : KeepNumbers names after) where
  number_is : (n : ℕ) (k : Kind) → IsSpelledName names n → IsNamed after (name_text names n) k → k ≡ kind_in known_names (name_text names n) n
  number_is n k h i =
      let own : h.text ≡ name_text names n = sym (ap found h.stands) in
      let stands : slice_get after n ≡ Some (name_text names n) = name_stays names after n h.text kept h.stands ∙ ap Some own in
      i.kind_is ∙ ap (kind_in known_names (name_text names n)) (distinct i.number n (name_text names n) i.stands stands)

  -- a name that the grammar knows, by its text
  known_shows : (shown : ℕ → Kind) (text : List ℕ) (k : Kind) (bytes : List ℕ) (t : TokenKind) → ((m : ℕ) → kind_in known_names text m ≡ shown m) → bytes ≡ text → t ≡ token.Name → IsKind after bytes (fixed_kind t) k → (m : ℕ) × (k ≡ shown m)
  known_shows shown text k bytes t known b e i =
      let h : IsNamed after bytes k = subst (λ (u : TokenKind). IsKind after bytes (fixed_kind u) k) e i in
      (h.number, h.kind_is ∙ ap (λ (x : List ℕ). kind_in known_names x h.number) b ∙ known h.number)

  fixed_shows : (j k : Kind) (bytes : List ℕ) (t : TokenKind) → IsSpelledWord j → bytes ≡ kind_text j → IsKindOf (fixed j) t → IsKind after bytes (fixed_kind t) k → Shows (fixed j) k
  fixed_shows (kinds.Name n) k bytes t s b e i = absurd s
  fixed_shows (kinds.OnBits f n) k bytes t s b e i = known_shows (kinds.OnBits f) (function_text f) k bytes t (function_kind f) b e i
  fixed_shows (kinds.Range n) k bytes t s b e i = known_shows kinds.Range (codes "range") k bytes t (λ m. refl) b e i
  fixed_shows (kinds.Unroll n) k bytes t s b e i = known_shows kinds.Unroll (codes "unroll") k bytes t (λ m. refl) b e i
  fixed_shows (kinds.Induction n) k bytes t s b e i = known_shows kinds.Induction (codes "induction") k bytes t (λ m. refl) b e i
  fixed_shows (kinds.Verify n) k bytes t s b e i = known_shows kinds.Verify (codes "verify") k bytes t (λ m. refl) b e i
  fixed_shows (kinds.Check n) k bytes t s b e i = known_shows kinds.Check (codes "check") k bytes t (λ m. refl) b e i
  fixed_shows (kinds.PrintResults n) k bytes t s b e i = known_shows kinds.PrintResults (codes "print_results") k bytes t (λ m. refl) b e i
  fixed_shows (kinds.PrintCex n) k bytes t s b e i = known_shows kinds.PrintCex (codes "print_cex") k bytes t (λ m. refl) b e i
  fixed_shows j k bytes t s b e i = (0, subst (λ (o : Option Kind). IsKind after bytes o k) e i)

  -- a name of the design, by its text
  own_named : (n : ℕ) (k : Kind) (bytes : List ℕ) (t : TokenKind) → bytes ≡ name_text names n → t ≡ token.Name → IsKind after bytes (fixed_kind t) k → IsNamed after (name_text names n) k
  own_named n k bytes t b e i = subst (λ (x : List ℕ). IsNamed after x k) b (subst (λ (u : TokenKind). IsKind after bytes (fixed_kind u) k) e i)

  word_shows : (p : Piece) (text : List ℕ) (t : Token) (w : Word) → HasSpelling names p → IsTokenOf names text t p → IsWord after text t w → Shows p w.kind
  word_shows (name n) text t w h is i =
      let k = number_is n w.kind h (own_named n w.kind (bytes_of text t) t.kind is.bytes is.kind i.kind) in
      subst (IsNameOf n) (sym k) (name_kind (name_text names n) n)
  word_shows (applied n) text t w h is i =
      let k = number_is n w.kind h.is_name (own_named n w.kind (bytes_of text t) t.kind is.bytes is.kind i.kind) in
      let own = subst (IsNameOf n) (sym k) (name_kind (name_text names n) n) in
      (own.0, own.1, ap is_on_bits k ∙ h.is_own)
  word_shows (fixed j) text t w h is i = fixed_shows j w.kind (bytes_of text t) t.kind h is.bytes is.kind i.kind

  words_show : (ps : List Piece) (text : List ℕ) (ts : List Token) (ws : List Word) → HaveSpellings names ps → AreTokensOf names text ts ps → AreWords after text ts ws → Shown ps ws
  words_show [] text [] [] h are i = tt
  words_show [] text [] (w ∷ ws) h are i = absurd i
  words_show [] text (t ∷ ts) ws h are i = absurd are
  words_show (p ∷ ps) text [] ws h are i = absurd are
  words_show (p ∷ ps) text (t ∷ ts) [] h are i = absurd i
  words_show (p ∷ ps) text (t ∷ ts) (w ∷ ws) h are i = (word_shows p text t w h.0 are.0 i.0, words_show ps text ts ws h.1 are.1 i.1)

pub text_shows : (names after : List (List ℕ)) (modules : List Module) (file : ℕ) (words : List Word) → HaveSpellings names (modules_words modules).words
    → AreDistinct after → KeepNumbers names after → IsText after file (design_text names modules) words → Shown (modules_words modules).words words
text_shows names after modules file words h distinct kept is =
    let l = text_lexed names modules file h in
    let same : l.0 ≡ is.tokens = (one_reading file (design_text names modules) l.0 is.tokens None None l.1 is.are_tokens).0 in
    words_show names after distinct kept (modules_words modules).words (design_text names modules) is.tokens words h
    (subst (λ (ts : List Token). AreTokensOf names (design_text names modules) ts (modules_words modules).words) same l.2) is.are_words

-- ---- words that tokens have

text_stands : (names : List (List ℕ)) (text : List ℕ) → (n : ℕ) × (slice_get (with_text names text) n ≡ Some text)
text_stands names text = by (has_text names text) refl
  where
    by : (b : Bool) → has_text names text ≡ b → (n : ℕ) × (slice_get (with_text names text) n ≡ Some text)
    by true h = (number_of names text, subst (λ (z : List (List ℕ)). slice_get z (number_of names text) ≡ Some text) (sym (known_stays names text h)) (text_at names text h))
    by false h = (length names, subst (λ (z : List (List ℕ)). slice_get z (length names) ≡ Some text) (sym (new_at_end names text h)) (last_at names text))

kind_now : (names : List (List ℕ)) (bytes : List ℕ) (fixed : Option Kind) → (k : Kind) × IsKind (with_kind fixed names bytes) bytes fixed k
kind_now names bytes (Some k) = (k, refl)
kind_now names bytes None = let s = text_stands names bytes in (kind_in known_names bytes s.0, record { number = s.0; stands = s.1; kind_is = refl })

keep_kind : (names : List (List ℕ)) (bytes : List ℕ) (fixed : Option Kind) → KeepNumbers names (with_kind fixed names bytes)
keep_kind names bytes (Some k) = keep_same names
keep_kind names bytes None = keep_with_text names bytes

pub keep_tokens : (names : List (List ℕ)) (text : List ℕ) (tokens : List Token) → KeepNumbers names (with_tokens names text tokens)
keep_tokens names text [] = keep_same names
keep_tokens names text (t ∷ ts) =
    let now : List (List ℕ) = with_token text names t in
    kept_twice names now (with_tokens now text ts) (keep_kind names (bytes_of text t) (fixed_kind t.kind)) (keep_tokens now text ts)

pub have_words : (names : List (List ℕ)) (text : List ℕ) (tokens : List Token) → (words : List Word) × AreWords (with_tokens names text tokens) text tokens words
have_words names text [] = ([], tt)
have_words names text (t ∷ ts) =
    let now : List (List ℕ) = with_token text names t in
    let k = kind_now names (bytes_of text t) (fixed_kind t.kind) in
    let w : Word = record { kind = k.0; place = t.place } in
    let more = have_words now text ts in
    let first = words_stay now (with_tokens now text ts) text (t ∷ []) (w ∷ []) (keep_tokens now text ts) (record { place = refl; kind = k.1 }, tt) in
    (w ∷ more.0, (first.0, more.1))
