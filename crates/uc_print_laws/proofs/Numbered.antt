-- Names that are there get no new numbers.
use Rattle.std.specs.Str.{bytes_eq}
use Rattle.std.specs.List.{list_any}
use Rattle.std.proofs.lemmas.Slice.Eq.{bytes_eq-Decides}
use Rattle.std.proofs.Common.{◌≡◌, ℕ, zero, suc, Bool, true, false, ◌||◌, List, [], ◌∷◌, slice_get, Option, Some, None, refl, ap, ◌∙◌, subst}
use Rattle.uc_lexer.specs.declared.token.Token.{Token}
use Rattle.uc_lexer.specs.Text.{Tokens}
use Rattle.uc_lexer.proofs.Unique.{one_reading}
use Rattle.uc_syntax.specs.Numbering.{has_text}
use Rattle.uc_syntax.proofs.Numbering.{known_stays}
use Rattle.uc_syntax.specs.declared.declaration.Module.{Module}
use Rattle.uc_grammar.specs.declared.word.Kind.{Kind}
use Rattle.uc_words.specs.Fixed.{fixed_kind}
use Rattle.uc_words.specs.Words.{bytes_of, with_kind, with_token, with_tokens}
use Rattle.uc_print_laws.specs.Piece.{Piece, name, applied, fixed, is_name}
use Rattle.uc_print_laws.specs.Declarations.{modules_words}
use Rattle.uc_print_laws.specs.Text.{found, name_text, design_text}
use Rattle.uc_print_laws.specs.Spelled.{IsSpelledName, HasSpelling, HaveSpellings, IsNumbered, AreNumbered}
use Rattle.uc_print_laws.specs.Law.{IsWordKind, IsTokenOf, AreTokensOf}
use Rattle.uc_print_laws.proofs.Lexed.{text_lexed}

or_true : (a b : Bool) → b ≡ true → (a || b) ≡ true
or_true true b h = refl
or_true false b h = h

-- a text that has a number is among the names
pub number_has_text : (names : List (List ℕ)) (n : ℕ) (text : List ℕ) → slice_get names n ≡ Some text → has_text names text ≡ true
unfolding has_text
number_has_text [] n text e = absurd cc
number_has_text (x ∷ xs) zero text e =
    let same : text ≡ x = cc in
    ap (λ (b : Bool). b || list_any (bytes_eq text) xs) ((bytes_eq-Decides text x).1 same)
number_has_text (x ∷ xs) (suc n) text e = or_true (bytes_eq text x) (list_any (bytes_eq text) xs) (number_has_text xs n text e)

with_same : (names : List (List ℕ)) (bytes : List ℕ) (o : Option Kind) → has_text names bytes ≡ true → with_kind o names bytes ≡ names
with_same names bytes (Some k) h = refl
with_same names bytes None h = known_stays names bytes h

name_stays : (names : List (List ℕ)) (n : ℕ) → IsSpelledName names n → has_text names (name_text names n) ≡ true
name_stays names n h = ap (has_text names) (ap found h.stands) ∙ number_has_text names n h.text h.stands

word_stays : (names : List (List ℕ)) (text : List ℕ) (p : Piece) (t : Token) → HasSpelling names p → IsNumbered names p → IsTokenOf names text t p → with_token text names t ≡ names
word_stays names text (name n) t h k is = with_same names (bytes_of text t) (fixed_kind t.kind) (ap (has_text names) is.bytes ∙ name_stays names n h)
word_stays names text (applied n) t h k is = with_same names (bytes_of text t) (fixed_kind t.kind) (ap (has_text names) is.bytes ∙ name_stays names n h.is_name)
word_stays names text (fixed j) t h k is = fixed_stays (is_name j) refl is.kind
  where
    fixed_stays : (b : Bool) → is_name j ≡ b → IsWordKind b j t.kind → with_token text names t ≡ names
    fixed_stays true e i = with_same names (bytes_of text t) (fixed_kind t.kind) (ap (has_text names) is.bytes ∙ k e)
    fixed_stays false e i = ap (λ (o : Option Kind). with_kind o names (bytes_of text t)) i

words_stay : (names : List (List ℕ)) (text : List ℕ) (ps : List Piece) (ts : List Token) → HaveSpellings names ps → AreNumbered names ps → AreTokensOf names text ts ps → with_tokens names text ts ≡ names
words_stay names text [] [] h k are = refl
words_stay names text [] (t ∷ ts) h k are = absurd are
words_stay names text (p ∷ ps) [] h k are = absurd are
words_stay names text (p ∷ ps) (t ∷ ts) h k are = ap (λ (z : List (List ℕ)). with_tokens z text ts) (word_stays names text p t h.0 k.0 are.0) ∙ words_stay names text ps ts h.1 k.1 are.1

pub text_keeps : (names : List (List ℕ)) (modules : List Module) (file : ℕ) (tokens : List Token) → HaveSpellings names (modules_words modules).words → AreNumbered names (modules_words modules).words
    → Tokens file (design_text names modules) tokens → with_tokens names (design_text names modules) tokens ≡ names
text_keeps names modules file tokens h k are =
    let l = text_lexed names modules file h in
    let same : l.0 ≡ tokens = (one_reading file (design_text names modules) l.0 tokens None None l.1 are).0 in
    words_stay names (design_text names modules) (modules_words modules).words tokens h k (subst (λ (ts : List Token). AreTokensOf names (design_text names modules) ts (modules_words modules).words) same l.2)
