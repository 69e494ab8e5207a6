-- Names of files and of tokens, and their numbers.
use Rattle.std.proofs.Common.{◌≡◌, ℕ, ◌+◌, nat_lt, List, [], ◌∷◌, ◌++◌, length, map, take, drop, fold, slice_get, Option, None, Some, refl, sym, ap, subst, ◌∙◌}
use Rattle.std.proofs.lemmas.Bool.{and_from, lt-ltb}
use Rattle.std.proofs.lemmas.List.{map-append, length-map}
use Rattle.std.proofs.lemmas.Option.{slice_get_within}
use Rattle.std.specs.List.{list_all}
use Rattle.uc_lexer.specs.declared.token.Token.{Token}
use Rattle.uc_syntax.specs.Mentions.{OfName, name_below, NamesBelow}
use Rattle.uc_syntax.specs.Numbering.{with_text, KeepNumbers}
use Rattle.uc_syntax.proofs.Numbering.{keep_same, keep_with_text}
use Rattle.uc_grammar.specs.declared.word.Kind.{Kind}
use Rattle.uc_words.specs.Fixed.{fixed_kind}
use Rattle.uc_words.specs.Words.{bytes_of, with_kind, with_token, with_tokens}
use Rattle.uc_words.proofs.Names.{name_stays, kept_twice}
use Rattle.uc_front.specs.declared.lexing.Source.{Source}
use Rattle.uc_front.specs.Denotes.{with_source}
use Rattle.uc_front.proofs.Lists.{take_next, drop_next}

-- ---- numbers of names

pub numbers_stay : (before after : List (List ℕ)) (ns : List ℕ) (fs : List (List ℕ)) → KeepNumbers before after → map (slice_get before) ns ≡ map (λ f. Some f) fs →
    map (slice_get after) ns ≡ map (λ f. Some f) fs
numbers_stay before after [] fs kept e = e
numbers_stay before after (n ∷ ns) [] kept e = cc
numbers_stay before after (n ∷ ns) (f ∷ fs) kept e =
    let first : slice_get before n ≡ Some f = cc in
    let others : map (slice_get before) ns ≡ map (λ f. Some f) fs = cc in
    let one = name_stays before after n f kept first in
    let rest = numbers_stay before after ns fs kept others in
    (λ j. one j ∷ rest j)

-- one more name
pub numbers_more : (before after : List (List ℕ)) (ns : List ℕ) (n : ℕ) (files : List (List ℕ)) (i : ℕ) (file : List ℕ) → slice_get files i ≡ Some file → KeepNumbers before after →
    map (slice_get before) ns ≡ map (λ f. Some f) (take i files) → slice_get after n ≡ Some file →
    map (slice_get after) (ns ++ n ∷ []) ≡ map (λ f. Some f) (take (i + 1) files)
numbers_more before after ns n files i file at kept so_far is =
    let stay = numbers_stay before after ns (take i files) kept so_far in
    map-append (slice_get after) ns (n ∷ []) ∙ (λ j. stay j ++ is j ∷ []) ∙ sym (map-append (λ f. Some f) (take i files) (file ∷ [])) ∙ ap (map (λ f. Some f)) (sym (take_next files i file at))

pub fold_push : {X Y : Type 0} (f : Y → X → Y) (a : Y) (xs : List X) (x : X) → fold f a (xs ++ x ∷ []) ≡ f (fold f a xs) x
fold_push f a [] x = refl
fold_push f a (y ∷ ys) x = fold_push f (f a y) ys x

pub files_more : (first before after : List (List ℕ)) (files : List (List ℕ)) (i : ℕ) (file : List ℕ) → slice_get files i ≡ Some file → before ≡ fold with_text first (take i files) →
    after ≡ with_text before file → after ≡ fold with_text first (take (i + 1) files)
files_more first before after files i file at so_far e =
    e ∙ ap (λ ns. with_text ns file) so_far ∙ sym (fold_push with_text first (take i files) file) ∙ ap (fold with_text first) (sym (take_next files i file at))

-- the numbers are those of names
pub numbers_below : (names : List (List ℕ)) (ns : List ℕ) (fs : List (List ℕ)) → map (slice_get names) ns ≡ map (λ f. Some f) fs → NamesBelow (length names) (map OfName ns)
numbers_below names [] fs e = refl
numbers_below names (n ∷ ns) [] e = cc
numbers_below names (n ∷ ns) (f ∷ fs) e =
    let first : slice_get names n ≡ Some f = cc in
    let others : map (slice_get names) ns ≡ map (λ f. Some f) fs = cc in
    and_from (nat_lt n (length names)) (list_all (name_below (length names)) (map OfName ns)) (lt-ltb n (length names) (slice_get_within names n f first)) (numbers_below names ns fs others)

-- ---- names that are kept

kept_kind : (kind : Option Kind) (names : List (List ℕ)) (bytes : List ℕ) → KeepNumbers names (with_kind kind names bytes)
kept_kind (Some fixed) names bytes = keep_same names
kept_kind None names bytes = keep_with_text names bytes

kept_tokens : (names : List (List ℕ)) (text : List ℕ) (tokens : List Token) → KeepNumbers names (with_tokens names text tokens)
kept_tokens names text [] = keep_same names
kept_tokens names text (t ∷ ts) =
    kept_twice names (with_token text names t) (with_tokens names text (t ∷ ts)) (kept_kind (fixed_kind t.kind) names (bytes_of text t)) (kept_tokens (with_token text names t) text ts)

pub kept_sources : (names : List (List ℕ)) (sources : List Source) → KeepNumbers names (fold with_source names sources)
kept_sources names [] = keep_same names
kept_sources names (s ∷ ss) =
    kept_twice names (with_source names s) (fold with_source names (s ∷ ss)) (kept_tokens names s.text s.tokens) (kept_sources (with_source names s) ss)

-- the names after one more text
pub sources_more : (before after all : List (List ℕ)) (sources : List Source) (i : ℕ) (s : Source) → slice_get sources i ≡ Some s → fold with_source before (drop i sources) ≡ all →
    after ≡ with_tokens before s.text s.tokens → fold with_source after (drop (i + 1) sources) ≡ all
sources_more before after all sources i s at so_far e =
    ap (λ ns. fold with_source ns (drop (i + 1) sources)) e ∙ ap (fold with_source before) (sym (drop_next sources i s at)) ∙ so_far

pub kept_to_end : (after all : List (List ℕ)) (rest : List Source) → fold with_source after rest ≡ all → KeepNumbers after all
kept_to_end after all rest e = subst (KeepNumbers after) e (kept_sources after rest)

pub numbers_pushed : (before after : List (List ℕ)) (ns more : List ℕ) (n : ℕ) (files : List (List ℕ)) (i : ℕ) (file : List ℕ) → slice_get files i ≡ Some file → KeepNumbers before after →
    map (slice_get before) ns ≡ map (λ f. Some f) (take i files) → slice_get after n ≡ Some file → more ≡ ns ++ n ∷ [] →
    map (slice_get after) more ≡ map (λ f. Some f) (take (i + 1) files)
numbers_pushed before after ns more n files i file at kept so_far is e = ap (map (slice_get after)) e ∙ numbers_more before after ns n files i file at kept so_far is

-- as many numbers as names
pub numbers_count : (names : List (List ℕ)) (ns : List ℕ) (fs : List (List ℕ)) → map (slice_get names) ns ≡ map (λ f. Some f) fs → length ns ≡ length fs
numbers_count names ns fs e = sym (length-map ns (slice_get names)) ∙ ap length e ∙ length-map fs (λ f. Some f)
