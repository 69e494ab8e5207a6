-- The tokens of a text rise.
use Rattle.std.specs.Prelude.{◌⊎◌}
use Rattle.std.proofs.Common.{◌≡◌, ℕ, zero, suc, ◌+◌, ◌-◌, ◌≤◌, ◌<◌, ◌==◌, true, false, if◌then◌else◌, List, ◌∷◌, length, get_or, Option, refl, sym, ◌∙◌, subst, arith, inl, inr}
use Rattle.std.proofs.lemmas.List.Sums.{fold_more}
use Rattle.uc_lexer.specs.declared.token.Token.{Token}
use Rattle.uc_lexer.specs.declared.place.Place.{Place}
use Rattle.uc_lexer.specs.declared.fault.LexFault.{LexFault}
use Rattle.uc_lexer.specs.Places.{place_behind, place_of, IsBefore}
use Rattle.uc_lexer.specs.Text.{IsNextToken, Reads, ends, fails, goes_on, Rises, HasRisingTokens}

before_behind : (p : Place) (c : ℕ) → IsBefore p (place_behind p c)
before_behind p c = elim (c == 10) as (λ b. IsBefore p (if b then record { file = p.file; line = p.line + 1; col = 1 } else record { file = p.file; line = p.line; col = p.col + 1 })) [
  | true ↦ inr (refl, inl (omega arith))
  | false ↦ inr (refl, inr (refl, omega arith))
]

before_trans : (p q r : Place) → IsBefore p q → IsBefore q r → IsBefore p r
before_trans p q r (inl a) (inl b) = inl (omega arith)
before_trans p q r (inl a) (inr b) = let e = b.0 in inl (omega arith)
before_trans p q r (inr a) (inl b) = let e = a.0 in inl (omega arith)
before_trans p q r (inr a) (inr b) = inr (a.0 ∙ b.0, lines a.1 b.1)
  where
    lines : (p.line < q.line) ⊎ ((p.line ≡ q.line) × (p.col < q.col)) → (q.line < r.line) ⊎ ((q.line ≡ r.line) × (q.col < r.col)) → (p.line < r.line) ⊎ ((p.line ≡ r.line) × (p.col < r.col))
    lines (inl x) (inl y) = inl (omega arith)
    lines (inl x) (inr y) = let e = y.0 in inl (omega arith)
    lines (inr x) (inl y) = let e = x.0 in inl (omega arith)
    lines (inr x) (inr y) = let f = x.1 in let g = y.1 in inr (x.0 ∙ y.0, omega arith)

-- a later offset has a later place
place_rises : (file : ℕ) (text : List ℕ) (i n : ℕ) → i + n < length text → IsBefore (place_of file text i) (place_of file text (i + n + 1))
place_rises file text i zero h =
    let k : i + 0 ≡ i = omega arith in
    let step : place_of file text (i + 1) ≡ place_behind (place_of file text i) (get_or text i 0) = fold_more place_behind _ text i 0 (omega arith) in
    rw (k, step) (before_behind (place_of file text i) (get_or text i 0))
place_rises file text i (suc n) h =
    let k : i + suc n ≡ i + n + 1 = omega arith in
    let less = place_rises file text i n (omega arith) in
    let step : place_of file text (i + n + 1 + 1) ≡ place_behind (place_of file text (i + n + 1)) (get_or text (i + n + 1) 0) = fold_more place_behind _ text (i + n + 1) 0 (omega arith) in
    let more : IsBefore (place_of file text (i + n + 1)) (place_of file text (i + n + 1 + 1)) = rw step (before_behind (place_of file text (i + n + 1)) (get_or text (i + n + 1) 0)) in
    rw k (before_trans (place_of file text i) (place_of file text (i + n + 1)) (place_of file text (i + n + 1 + 1)) less more)

pub later : (file : ℕ) (text : List ℕ) (i j : ℕ) → i < j → j ≤ length text → IsBefore (place_of file text i) (place_of file text j)
later file text i j h k =
    let e : i + (j - i - 1) + 1 ≡ j = omega arith in
    subst (λ (n : ℕ). IsBefore (place_of file text i) (place_of file text n)) e (place_rises file text i (j - i - 1) (omega arith))

next_rises : (file : ℕ) (text : List ℕ) (offset : ℕ) (t u : Token) → IsNextToken file text offset t → IsNextToken file text t.end u → (t.end ≤ u.start) × IsBefore t.place u.place
next_rises file text offset t u h k =
    let after = k.after in
    let some = h.some in
    let more = k.some in
    let within = k.within in
    let up = later file text t.start u.start (omega arith) (omega arith) in
    (after, subst (λ (p : Place). IsBefore p u.place) (sym h.stands_at) (subst (λ (p : Place). IsBefore (place_of file text t.start) p) (sym k.stands_at) up))

rise : (file : ℕ) (text : List ℕ) (offset : ℕ) (tokens : List Token) (fault : Option LexFault) → Reads file text offset tokens fault → Rises tokens
rise file text offset tokens fault (ends h) = tt
rise file text offset tokens fault (fails h) = tt
rise file text offset tokens fault (goes_on h (ends k)) = tt
rise file text offset tokens fault (goes_on h (fails k)) = tt
rise file text offset tokens fault (goes_on {token = t} h (goes_on {token = u} {tokens = more} k ks)) =
    let up = next_rises file text offset t u h k in
    (up.0, up.1, rise file text t.end (u ∷ more) fault (goes_on k ks))

pub rising_tokens : HasRisingTokens
rising_tokens file text tokens fault h = rise file text 0 tokens fault h
