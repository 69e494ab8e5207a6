-- Words mention names and files that are there.
use Rattle.std.proofs.Common.{◌≡◌, ℕ, ◌<◌, Bool, true, ◌&&◌, nat_lt, List, [], ◌∷◌, ◌++◌, length, Option, None, Some, refl, ap, ◌∙◌}
use Rattle.std.specs.List.{list_all}
use Rattle.std.proofs.lemmas.Bool.{and_parts, lt-ltb}
use Rattle.std.proofs.lemmas.Option.{slice_get_within}
use Rattle.uc_lexer.specs.declared.token.Token.{Token}
use Rattle.uc_lexer.specs.declared.token.TokenKind.{TokenKind}
use Rattle.uc_syntax.specs.Mentions.{Mention, OfName, name_below, file_below, NamesBelow, FilesBelow}
use Rattle.uc_syntax.proofs.Mentions.{all_append}
use Rattle.uc_grammar.specs.declared.word.Kind.{Kind}
use Rattle.uc_grammar.specs.declared.word.Word.{Word}
use Rattle.uc_words.specs.Fixed.{fixed_kind}
use Rattle.uc_words.specs.Mentions.{kind_mentions, words_mention, tokens_mention}
use Rattle.uc_words.specs.Words.{bytes_of, IsKind, AreWords}
use Rattle.uc_words.proofs.Mentioned.{name_mentions, fixed_mentions}

-- a test that holds of each name's number holds of what a kind mentions
kind_all : (test : Mention → Bool) (names : List (List ℕ)) (bytes : List ℕ) (token : TokenKind) (fixed : Option Kind) (kind : Kind) → ((n : ℕ) → n < length names → test (OfName n) ≡ true) →
    fixed_kind token ≡ fixed → IsKind names bytes fixed kind → list_all test (kind_mentions kind) ≡ true
kind_all test names bytes token (Some fixed) kind each e is = ap (λ k. list_all test (kind_mentions k)) is ∙ ap (list_all test) (fixed_mentions token fixed e)
kind_all test names bytes token None kind each e is =
    ap (λ k. list_all test (kind_mentions k)) is.kind_is ∙ ap (list_all test) (name_mentions bytes is.number)
    ∙ ap (λ b. b && true) (each is.number (slice_get_within names is.number bytes is.stands))

pub names_below : (names : List (List ℕ)) (text : List ℕ) (tokens : List Token) (words : List Word) → AreWords names text tokens words → NamesBelow (length names) (words_mention words)
names_below names text [] [] are = refl
names_below names text [] (w ∷ ws) are = absurd are
names_below names text (t ∷ ts) [] are = absurd are
names_below names text (t ∷ ts) (w ∷ ws) are =
    all_append (name_below (length names)) (kind_mentions w.kind) (words_mention ws)
    (kind_all (name_below (length names)) names (bytes_of text t) t.kind (fixed_kind t.kind) w.kind (λ n h. lt-ltb n (length names) h) refl are.0.kind)
    (names_below names text ts ws are.1)

pub files_below : (n : ℕ) (names : List (List ℕ)) (text : List ℕ) (tokens : List Token) (words : List Word) → AreWords names text tokens words → FilesBelow n (tokens_mention tokens) →
    FilesBelow n (words_mention words)
files_below n names text [] [] are below = refl
files_below n names text [] (w ∷ ws) are below = absurd are
files_below n names text (t ∷ ts) [] are below = absurd are
files_below n names text (t ∷ ts) (w ∷ ws) are below =
    let parts = and_parts (nat_lt t.place.file n) (list_all (file_below n) (tokens_mention ts)) below in
    let file : nat_lt w.place.file n ≡ true = ap (λ p. nat_lt p.file n) are.0.place ∙ parts.0 in
    let kind : list_all (file_below n) (kind_mentions w.kind) ≡ true =
    kind_all (file_below n) names (bytes_of text t) t.kind (fixed_kind t.kind) w.kind (λ m h. refl) refl are.0.kind in
    (λ i. file i && list_all (file_below n) (kind_mentions w.kind ++ words_mention ws))
    ∙ all_append (file_below n) (kind_mentions w.kind) (words_mention ws) kind (files_below n names text ts ws are.1 parts.1)
