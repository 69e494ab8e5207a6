-- Blanks and comments in front of a text end at one place.
use Rattle.std.specs.Prelude.{◌⊎◌}
use Rattle.std.proofs.Common.{◌≡◌, ◌≢◌, ℕ, ◌==◌, true, List, [], ◌∷◌, ◌++◌, get_or, refl, sym, ap, ◌∙◌, subst, inl, inr}
use Rattle.std.proofs.lemmas.Bool.{false≢true}
use Rattle.uc_lexer.specs.Bytes.{is_blank}
use Rattle.uc_lexer.specs.Gap.{Skips, here, blank, line, block, HasNoGap, IsOpenComment, IsLine, EndsLine, IsBlock, IsOpen}

-- nothing more to pass
abbrev pub IsStop : List ℕ → Type 0
IsStop text = HasNoGap text ⊎ IsOpenComment text

block_closes : (body text : List ℕ) → IsBlock body → IsOpen (body ++ text) → ⊥
block_closes [] text b o = b
block_closes (c ∷ []) text b o = b
block_closes (c ∷ d ∷ []) text b o = o.0 b.0 b.1
block_closes (c ∷ d ∷ e ∷ cs) text b o = block_closes (d ∷ e ∷ cs) text b.1 o.1

no_blank : (c : ℕ) (xs : List ℕ) → is_blank c ≡ true → IsStop (c ∷ xs) → ⊥
no_blank c [] b (inl h) = false≢true (sym h ∙ b)
no_blank c [] b (inr h) = h
no_blank c (d ∷ ds) b (inl h) = false≢true (sym h.0 ∙ b)
no_blank c (d ∷ ds) b (inr h) = false≢true (sym (ap is_blank h.0) ∙ b)

no_line : (xs : List ℕ) → IsStop (47 ∷ 47 ∷ xs) → ⊥
no_line xs (inl h) = h.1 refl refl
no_line xs (inr h) = false≢true (ap (λ (n : ℕ). n == 42) h.1)

no_block : (body xs : List ℕ) → IsBlock body → IsStop (47 ∷ 42 ∷ (body ++ xs)) → ⊥
no_block body xs b (inl h) = h.2 refl refl
no_block body xs b (inr h) = block_closes body xs b h.2

-- a stop is passed by nothing
stays : (text xs rest : List ℕ) → text ≡ xs → IsStop text → Skips xs rest → text ≡ rest
stays text xs rest e s here = e
stays text xs rest e s (blank {c = c} {text = t} b k) = absurd (no_blank c t b (subst (λ (x : List ℕ). IsStop x) e s))
stays text xs rest e s (line body {text = t} l n k) = absurd (no_line (body ++ t) (subst (λ (x : List ℕ). IsStop x) e s))
stays text xs rest e s (block body {text = t} b k) = absurd (no_block body t b (subst (λ (x : List ℕ). IsStop x) e s))

line_split : (b x c y : List ℕ) → b ++ x ≡ c ++ y → IsLine b → EndsLine x → IsLine c → EndsLine y → x ≡ y
line_split [] x [] y e l n m k = e
line_split [] [] (d ∷ ds) y e l n m k = let z : [] ≡ d ∷ (ds ++ y) = e in absurd cc
line_split [] (a ∷ as') (d ∷ ds) y e l n m k = let z : a ≡ d = cc in absurd (m.0 (sym z ∙ n))
line_split (a ∷ as') x [] [] e l n m k = let z : a ∷ (as' ++ x) ≡ [] = e in absurd cc
line_split (a ∷ as') x [] (d ∷ ds) e l n m k = let z : a ≡ d = cc in absurd (l.0 (z ∙ k))
line_split (a ∷ as') x (d ∷ ds) y e l n m k = line_split as' x ds y (let z : as' ++ x ≡ ds ++ y = cc in z) l.1 n m.1 k

block_split : (b x c y : List ℕ) → b ++ x ≡ c ++ y → IsBlock b → IsBlock c → x ≡ y
block_split [] x c y e h k = absurd h
block_split (a ∷ []) x c y e h k = absurd h
block_split (a ∷ a' ∷ b) x [] y e h k = absurd k
block_split (a ∷ a' ∷ b) x (d ∷ []) y e h k = absurd k
block_split (a ∷ a' ∷ []) x (d ∷ d' ∷ []) y e h k = let z : x ≡ y = cc in z
block_split (a ∷ a' ∷ []) x (d ∷ d' ∷ f ∷ c) y e h k = let p : a ≡ d = cc in let q : a' ≡ d' = cc in absurd (k.0 (sym p ∙ h.0) (sym q ∙ h.1))
block_split (a ∷ a' ∷ g ∷ b) x (d ∷ d' ∷ []) y e h k = let p : a ≡ d = cc in let q : a' ≡ d' = cc in absurd (h.0 (p ∙ k.0) (q ∙ k.1))
block_split (a ∷ a' ∷ g ∷ b) x (d ∷ d' ∷ f ∷ c) y e h k = block_split (a' ∷ g ∷ b) x (d' ∷ f ∷ c) y (let z : a' ∷ g ∷ (b ++ x) ≡ d' ∷ f ∷ (c ++ y) = cc in z) h.1 k.1

two_starts : (xs ys : List ℕ) → 47 ∷ 47 ∷ xs ≡ 47 ∷ 42 ∷ ys → ⊥
two_starts xs ys e = false≢true (ap (λ (t : List ℕ). get_or t 1 0 == 42) e)

slash_blank : (c : ℕ) → is_blank c ≡ true → c ≢ 47
slash_blank c b e = false≢true (sym (ap is_blank e) ∙ b)

pub skips_same : (s t x y : List ℕ) → s ≡ t → Skips s x → Skips t y → IsStop x → IsStop y → x ≡ y
skips_same s t x y e here k p q = stays s t y e p k
skips_same s t x y e h here p q = sym (stays t s x (sym e) q h)
skips_same s t x y e (blank {c = c} {text = s'} b h) (blank {c = d} {text = t'} b' k) p q = skips_same s' t' x y (let z : s' ≡ t' = cc in z) h k p q
skips_same s t x y e (blank {c = c} {text = s'} b h) (line body {text = t'} l n k) p q = absurd (slash_blank c b (let z : c ≡ 47 = cc in z))
skips_same s t x y e (blank {c = c} {text = s'} b h) (block body {text = t'} l k) p q = absurd (slash_blank c b (let z : c ≡ 47 = cc in z))
skips_same s t x y e (line body {text = s'} l n h) (blank {c = d} {text = t'} b k) p q = absurd (slash_blank d b (let z : d ≡ 47 = cc in z))
skips_same s t x y e (line body {text = s'} l n h) (line body' {text = t'} l' n' k) p q =
    skips_same s' t' x y (line_split body s' body' t' (let z : body ++ s' ≡ body' ++ t' = cc in z) l n l' n') h k p q
skips_same s t x y e (line body {text = s'} l n h) (block body' {text = t'} l' k) p q = absurd (two_starts (body ++ s') (body' ++ t') e)
skips_same s t x y e (block body {text = s'} l h) (blank {c = d} {text = t'} b k) p q = absurd (slash_blank d b (let z : d ≡ 47 = cc in z))
skips_same s t x y e (block body {text = s'} l h) (line body' {text = t'} l' n' k) p q = absurd (two_starts (body' ++ t') (body ++ s') (sym e))
skips_same s t x y e (block body {text = s'} l h) (block body' {text = t'} l' k) p q =
    skips_same s' t' x y (block_split body s' body' t' (let z : body ++ s' ≡ body' ++ t' = cc in z) l l') h k p q
