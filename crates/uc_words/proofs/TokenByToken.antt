-- Words and the tokens that they are.
use Rattle.std.proofs.Common.{◌≡◌, ℕ, zero, suc, ◌+◌, ◌<◌, ◌≤◌, List, [], ◌∷◌, ◌++◌, length, get_or, take, Option, None, Some, refl, sym, ap, ◌∙◌, subst, arith}
use Rattle.std.proofs.lemmas.List.{take_more, take_all}
use Rattle.std.proofs.lemmas.List.Sums.{fold_more}
use Rattle.uc_lexer.specs.declared.token.Token.{Token}
use Rattle.uc_lexer.proofs.Unique.{one_reading}
use Rattle.uc_syntax.specs.Numbering.{AreDistinct, KeepNumbers}
use Rattle.uc_grammar.specs.declared.word.Kind.{Kind}
use Rattle.uc_grammar.specs.declared.word.Word.{Word}
use Rattle.uc_words.specs.Fixed.{fixed_kind}
use Rattle.uc_words.specs.Known.{known_names, kind_in}
use Rattle.uc_words.specs.Words.{bytes_of, AreWithin, IsNamed, IsKind, IsWord, AreWords, IsText, with_token, with_tokens}
use Rattle.uc_words.proofs.Names.{name_stays}

-- ---- words stay where names are added

kind_stays : (before after : List (List ℕ)) (bytes : List ℕ) (fixed : Option Kind) (kind : Kind) → KeepNumbers before after → IsKind before bytes fixed kind → IsKind after bytes fixed kind
kind_stays before after bytes (Some fixed) kind kept is = is
kind_stays before after bytes None kind kept is = record {
  number = is.number;
  stands = name_stays before after is.number bytes kept is.stands;
  kind_is = is.kind_is;
}

pub words_stay : (before after : List (List ℕ)) (text : List ℕ) (tokens : List Token) (words : List Word) → KeepNumbers before after → AreWords before text tokens words → AreWords after text tokens words
words_stay before after text [] [] kept are = are
words_stay before after text [] (w ∷ ws) kept are = are
words_stay before after text (t ∷ ts) [] kept are = are
words_stay before after text (t ∷ ts) (w ∷ ws) kept are =
    (record { place = are.0.place; kind = kind_stays before after (bytes_of text t) (fixed_kind t.kind) w.kind kept are.0.kind }, words_stay before after text ts ws kept are.1)

-- ---- one list

one_number : (names : List (List ℕ)) (bytes : List ℕ) (kind other : Kind) → AreDistinct names → IsNamed names bytes kind → IsNamed names bytes other → kind ≡ other
one_number names bytes kind other distinct a b =
    a.kind_is ∙ ap (kind_in known_names bytes) (distinct a.number b.number bytes a.stands b.stands) ∙ sym b.kind_is

one_kind : (names : List (List ℕ)) (bytes : List ℕ) (fixed : Option Kind) (kind other : Kind) → AreDistinct names → IsKind names bytes fixed kind → IsKind names bytes fixed other → kind ≡ other
one_kind names bytes (Some fixed) kind other distinct a b = a ∙ sym b
one_kind names bytes None kind other distinct a b = one_number names bytes kind other distinct a b

one_word : (names : List (List ℕ)) (text : List ℕ) (token : Token) (word other : Word) → AreDistinct names → IsWord names text token word → IsWord names text token other → word ≡ other
one_word names text token word other distinct a b =
    let kinds = one_kind names (bytes_of text token) (fixed_kind token.kind) word.kind other.kind distinct a.kind b.kind in
    let places = a.place ∙ sym b.place in
    (λ i. record { kind = kinds i; place = places i })

pub one_list : (names : List (List ℕ)) (text : List ℕ) (tokens : List Token) (words others : List Word) → AreDistinct names → AreWords names text tokens words → AreWords names text tokens others → words ≡ others
one_list names text [] [] [] distinct a b = refl
one_list names text [] [] (v ∷ vs) distinct a b = absurd b
one_list names text [] (w ∷ ws) others distinct a b = absurd a
one_list names text (t ∷ ts) [] others distinct a b = absurd a
one_list names text (t ∷ ts) (w ∷ ws) [] distinct a b = absurd b
one_list names text (t ∷ ts) (w ∷ ws) (v ∷ vs) distinct a b =
    let first = one_word names text t w v distinct a.0 b.0 in
    let rest = one_list names text ts ws vs distinct a.1 b.1 in
    (λ i. first i ∷ rest i)

pub text_has_one_list : (names : List (List ℕ)) (file : ℕ) (text : List ℕ) (words others : List Word) → AreDistinct names → IsText names file text words → IsText names file text others → words ≡ others
text_has_one_list names file text words others distinct a b =
    let same : a.tokens ≡ b.tokens = (one_reading file text a.tokens b.tokens None None a.are_tokens b.are_tokens).0 in
    one_list names text b.tokens words others distinct (subst (λ ts. AreWords names text ts words) same a.are_words) b.are_words

pub text_stays : (before after : List (List ℕ)) (file : ℕ) (text : List ℕ) (words : List Word) → KeepNumbers before after → IsText before file text words → IsText after file text words
text_stays before after file text words kept is = record {
  tokens = is.tokens;
  are_tokens = is.are_tokens;
  are_words = words_stay before after text is.tokens words kept is.are_words;
}

-- ---- token by token

pub within_at : (text : List ℕ) (tokens : List Token) (i : ℕ) (d : Token) → AreWithin text tokens → i < length tokens →
    ((get_or tokens i d).start ≤ (get_or tokens i d).end) × ((get_or tokens i d).end ≤ length text)
within_at text [] i d all within = absurd (omega arith)
within_at text (x ∷ xs) zero d all within = (all.0, all.1)
within_at text (x ∷ xs) (suc i) d all within = within_at text xs i d all.2 (omega arith)

words_push : (names : List (List ℕ)) (text : List ℕ) (tokens : List Token) (words : List Word) (t : Token) (w : Word) → AreWords names text tokens words → IsWord names text t w →
    AreWords names text (tokens ++ t ∷ []) (words ++ w ∷ [])
words_push names text [] [] t w are last = (last, are)
words_push names text [] (v ∷ vs) t w are last = absurd are
words_push names text (x ∷ xs) [] t w are last = absurd are
words_push names text (x ∷ xs) (v ∷ vs) t w are last = (are.0, words_push names text xs vs t w are.1 last)

-- the words of the tokens so far, and the next one
pub words_more : (before after : List (List ℕ)) (text : List ℕ) (tokens : List Token) (words more : List Word) (i : ℕ) (d : Token) (w : Word) → AreWords before text (take i tokens) words →
    KeepNumbers before after → i < length tokens → w.place ≡ (get_or tokens i d).place → IsKind after (bytes_of text (get_or tokens i d)) (fixed_kind (get_or tokens i d).kind) w.kind →
    more ≡ words ++ w ∷ [] → AreWords after text (take (i + 1) tokens) more
words_more before after text tokens words more i d w are kept within place kind e =
    let so_far = words_stay before after text (take i tokens) words kept are in
    let all = words_push after text (take i tokens) words (get_or tokens i d) w so_far (record { place = place; kind = kind }) in
    subst (λ ts. AreWords after text ts more) (sym (take_more tokens i d within))
    (subst (λ ws. AreWords after text (take i tokens ++ get_or tokens i d ∷ []) ws) (sym e) all)

pub names_more : (initial before after : List (List ℕ)) (text : List ℕ) (tokens : List Token) (i : ℕ) (d : Token) → before ≡ with_tokens initial text (take i tokens) →
    i < length tokens → after ≡ with_token text before (get_or tokens i d) → after ≡ with_tokens initial text (take (i + 1) tokens)
names_more initial before after text tokens i d so_far within e =
    e ∙ ap (λ names. with_token text names (get_or tokens i d)) so_far ∙ sym (fold_more (with_token text) initial tokens i d within)

pub all_words : (names : List (List ℕ)) (text : List ℕ) (tokens : List Token) (words : List Word) (i : ℕ) → AreWords names text (take i tokens) words → length tokens ≤ i → AreWords names text tokens words
all_words names text tokens words i are past = subst (λ ts. AreWords names text ts words) (take_all i tokens past) are
