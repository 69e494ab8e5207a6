-- The tokens of a text are in it, and their places in its file.
use Rattle.std.proofs.Common.{◌≡◌, ℕ, ◌+◌, ◌<◌, ◌≤◌, ◌==◌, Bool, true, false, ◌&&◌, nat_lt, if◌then◌else◌, List, [], ◌∷◌, take, fold, Option, None, refl, ap, ◌∙◌, arith}
use Rattle.std.specs.List.{list_all}
use Rattle.std.proofs.lemmas.Bool.{lt-ltb}
use Rattle.uc_lexer.specs.declared.token.Token.{Token}
use Rattle.uc_lexer.specs.declared.place.Place.{Place}
use Rattle.uc_lexer.specs.declared.fault.LexFault.{LexFault}
use Rattle.uc_lexer.specs.Places.{place_behind}
use Rattle.uc_lexer.specs.Text.{Reads, goes_on, Tokens}
use Rattle.uc_syntax.specs.Mentions.{file_below, FilesBelow}
use Rattle.uc_words.specs.Mentions.{tokens_mention}
use Rattle.uc_words.specs.Words.{AreWithin}

within : (file : ℕ) (text : List ℕ) (offset : ℕ) (tokens : List Token) (fault : Option LexFault) → Reads file text offset tokens fault → AreWithin text tokens
within file text offset [] fault r = tt
within file text offset (t ∷ ts) fault (goes_on next rest) =
    let some = next.some in
    let here : t.start ≤ t.end = omega arith in
    (here, next.within, within file text t.end ts fault rest)

pub tokens_within : (file : ℕ) (text : List ℕ) (tokens : List Token) → Tokens file text tokens → AreWithin text tokens
tokens_within file text tokens are = within file text 0 tokens None are

file_behind : (p : Place) (c : ℕ) → (place_behind p c).file ≡ p.file
file_behind p c = by (c == 10)
  where
    after : Bool → Place
    after b = if b then record { file = p.file; line = p.line + 1; col = 1 } else record { file = p.file; line = p.line; col = p.col + 1 }

    by : (b : Bool) → (after b).file ≡ p.file
    by true = refl
    by false = refl

file_after : (p : Place) (bytes : List ℕ) → (fold place_behind p bytes).file ≡ p.file
file_after p [] = refl
file_after p (c ∷ cs) = file_after (place_behind p c) cs ∙ file_behind p c

in_file : (n file : ℕ) (text : List ℕ) (offset : ℕ) (tokens : List Token) (fault : Option LexFault) → file < n → Reads file text offset tokens fault → FilesBelow n (tokens_mention tokens)
in_file n file text offset [] fault h r = refl
in_file n file text offset (t ∷ ts) fault h (goes_on next rest) =
    let here : t.place.file ≡ file = ap (λ p. p.file) next.stands_at ∙ file_after _ (take t.start text) in
    (λ i. nat_lt (here i) n && list_all (file_below n) (tokens_mention ts))
    ∙ ap (λ b. b && list_all (file_below n) (tokens_mention ts)) (lt-ltb file n h)
    ∙ in_file n file text t.end ts fault h rest

-- each place is in the text's file
pub files_are : (n file : ℕ) (text : List ℕ) (tokens : List Token) → file < n → Tokens file text tokens → FilesBelow n (tokens_mention tokens)
files_are n file text tokens h are = in_file n file text 0 tokens None h are
