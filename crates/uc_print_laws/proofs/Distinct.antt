-- Names to which the texts of tokens are added stay distinct.
use Rattle.std.proofs.Common.{◌≡◌, ◌⊎◌, inl, inr, ℕ, zero, suc, Bool, true, false, ◌||◌, List, [], ◌∷◌, ◌++◌, slice_get, Option, Some, None, refl, sym, ap, subst, ◌∙◌, true≢false}
use Rattle.std.specs.Str.{bytes_eq}
use Rattle.std.specs.List.{list_any}
use Rattle.std.proofs.lemmas.Slice.Eq.{bytes_eq-Decides}
use Rattle.uc_lexer.specs.declared.token.Token.{Token}
use Rattle.uc_syntax.specs.Numbering.{has_text, with_text, AreDistinct}
use Rattle.uc_syntax.proofs.Numbering.{known_stays, new_at_end}
use Rattle.uc_grammar.specs.declared.word.Kind.{Kind}
use Rattle.uc_words.specs.Fixed.{fixed_kind}
use Rattle.uc_words.specs.Words.{bytes_of, with_kind, with_token, with_tokens}

or_parts : (a b : Bool) → (a || b) ≡ false → (a ≡ false) × (b ≡ false)
or_parts true b h = cc
or_parts false b h = (refl, h)

tail_none : (x : List ℕ) (xs : List (List ℕ)) (text : List ℕ) → has_text (x ∷ xs) text ≡ false → (bytes_eq text x ≡ false) × (has_text xs text ≡ false)
unfolding has_text
tail_none x xs text h = or_parts (bytes_eq text x) (list_any (bytes_eq text) xs) h

absent : (names : List (List ℕ)) (text : List ℕ) → has_text names text ≡ false → (j : ℕ) → slice_get names j ≡ Some text → ⊥
absent [] text none j e = cc
absent (x ∷ xs) text none zero e =
    let same : text ≡ x = cc in
    true≢false (sym ((bytes_eq-Decides text x).1 same) ∙ (tail_none x xs text none).0)
absent (x ∷ xs) text none (suc j) e = absent xs text (tail_none x xs text none).1 j e

front_or_last : (xs : List (List ℕ)) (text t : List ℕ) (j : ℕ) → slice_get (xs ++ text ∷ []) j ≡ Some t → ((k : ℕ) × (slice_get xs k ≡ Some t)) ⊎ (t ≡ text)
front_or_last [] text t zero e = inr cc
front_or_last [] text t (suc j) e = absurd cc
front_or_last (x ∷ xs) text t zero e = inl (zero, e)
front_or_last (x ∷ xs) text t (suc j) e = by (front_or_last xs text t j e)
  where
    by : ((k : ℕ) × (slice_get xs k ≡ Some t)) ⊎ (t ≡ text) → ((k : ℕ) × (slice_get (x ∷ xs) k ≡ Some t)) ⊎ (t ≡ text)
    by (inl f) = inl (suc f.0, f.1)
    by (inr s) = inr s

tail_distinct : (x : List ℕ) (xs : List (List ℕ)) → AreDistinct (x ∷ xs) → AreDistinct xs
tail_distinct x xs d i j t a b = let e : suc i ≡ suc j = d (suc i) (suc j) t a b in cc

-- the first name does not come again behind
first_alone : (x : List ℕ) (xs : List (List ℕ)) (text t : List ℕ) (j : ℕ) → AreDistinct (x ∷ xs) → has_text (x ∷ xs) text ≡ false → x ≡ t → slice_get (xs ++ text ∷ []) j ≡ Some t → ⊥
first_alone x xs text t j d none own e = by (front_or_last xs text t j e)
  where
    by : ((k : ℕ) × (slice_get xs k ≡ Some t)) ⊎ (t ≡ text) → ⊥
    by (inl f) = let z : zero ≡ suc f.0 = d zero (suc f.0) t (ap Some own) f.1 in cc z
    by (inr s) = absent (x ∷ xs) text none zero (ap Some (own ∙ s))

new_distinct : (names : List (List ℕ)) (text : List ℕ) → AreDistinct names → has_text names text ≡ false → AreDistinct (names ++ text ∷ [])
new_distinct [] text d none zero zero t a b = refl
new_distinct [] text d none zero (suc j) t a b = absurd cc
new_distinct [] text d none (suc i) j t a b = absurd cc
new_distinct (x ∷ xs) text d none zero zero t a b = refl
new_distinct (x ∷ xs) text d none zero (suc j) t a b = let own : x ≡ t = cc in absurd (first_alone x xs text t j d none own b)
new_distinct (x ∷ xs) text d none (suc i) zero t a b = let own : x ≡ t = cc in absurd (first_alone x xs text t i d none own a)
new_distinct (x ∷ xs) text d none (suc i) (suc j) t a b = ap suc (new_distinct xs text (tail_distinct x xs d) (tail_none x xs text none).1 i j t a b)

text_distinct : (names : List (List ℕ)) (text : List ℕ) → AreDistinct names → AreDistinct (with_text names text)
text_distinct names text d = by (has_text names text) refl
  where
    by : (b : Bool) → has_text names text ≡ b → AreDistinct (with_text names text)
    by true h = subst AreDistinct (sym (known_stays names text h)) d
    by false h = subst AreDistinct (sym (new_at_end names text h)) (new_distinct names text d h)

kind_distinct : (kind : Option Kind) (names : List (List ℕ)) (bytes : List ℕ) → AreDistinct names → AreDistinct (with_kind kind names bytes)
kind_distinct (Some fixed) names bytes d = d
kind_distinct None names bytes d = text_distinct names bytes d

pub tokens_distinct : (names : List (List ℕ)) (text : List ℕ) (tokens : List Token) → AreDistinct names → AreDistinct (with_tokens names text tokens)
tokens_distinct names text [] d = d
tokens_distinct names text (token ∷ tokens) d = tokens_distinct (with_token text names token) text tokens (kind_distinct (fixed_kind token.kind) names (bytes_of text token) d)
