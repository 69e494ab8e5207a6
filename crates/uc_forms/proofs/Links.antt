-- Reading a chain: any number of turns, and then maybe one of another type.
use Rattle.std.proofs.Common.{◌≡◌, ℕ, zero, suc, ◌≤◌, ◌<◌, Bool, true, false, List, [], ◌∷◌, ◌++◌, length, Option, None, Some, Ok, Err, refl, sym, ap, ◌∙◌, append_assoc, arith, ◌⊎◌, inl, inr}
use Rattle.std.specs.Prelude.{if◌then◌else◌}
use Rattle.std.proofs.lemmas.List.{append-nil}
use Rattle.uc_forms.specs.declared.fault.Fault.{Fault}
use Rattle.uc_forms.specs.declared.stop.Stop.{Stop}
use Rattle.uc_forms.specs.declared.stop.Stop.TheVariants as stops
use Rattle.uc_forms.specs.Alphabet.{Alphabet}
use Rattle.uc_forms.specs.Reading.{is_at}
use Rattle.uc_forms.specs.Counted.{State, Outcome, ◌>>=◌, turned, count_chain, links, with_head}
use Rattle.uc_forms.specs.CountedGives.{StopsAt}
use Rattle.uc_forms.proofs.Advances.{Advances}

module _ (T : Alphabet) where
  -- what follows a turn
  abbrev Step : {A B : Type 0} → (State T.Word → Outcome T.Word (List A × Option B)) → A ⊎ B → State T.Word → Outcome T.Word (List A × Option B)
  Step more x rest = elim x [ inl a ↦ turned (λ y. (a ∷ y.0, y.1)) (more rest) | inr b ↦ Ok (([], Some b), rest) ]

  -- turns beyond the count of the words change nothing
  enough : {A B : Type 0} (codes : List ℕ) (item : State T.Word → Outcome T.Word (A ⊎ B)) → Advances T item → (n k : ℕ) (s : State T.Word) → length s.0 ≤ n → length s.0 ≤ k → count_chain T codes item n s ≡ count_chain T codes item k s
  unfolding count_chain
  enough codes item h zero zero s a b = refl
  enough codes item h zero (suc k) ([], t) a b = refl
  enough codes item h zero (suc k) (w ∷ ws, t) a b = absurd (omega arith)
  enough codes item h (suc n) zero ([], t) a b = refl
  enough codes item h (suc n) zero (w ∷ ws, t) a b = absurd (omega arith)
  enough {A} {B} codes item h (suc n) (suc k) s a b = tested (is_at T codes s.0) (item s) refl (enough codes item h n k)
    where
      tested : (t : Bool) (r : Outcome T.Word (A ⊎ B)) → item s ≡ r → ((u : State T.Word) → length u.0 ≤ n → length u.0 ≤ k → count_chain T codes item n u ≡ count_chain T codes item k u)
          → (let none : Outcome T.Word (List A × Option B) = Ok (([], None), s) in if t then (r >>= λ x. Step (count_chain T codes item n) x.0 x.1) else none)
          ≡ (let none : Outcome T.Word (List A × Option B) = Ok (([], None), s) in if t then (r >>= λ x. Step (count_chain T codes item k) x.0 x.1) else none)
      tested true (Ok x) e ih = by_turn x.0 (h s x.0 x.1 e)
        where
          by_turn : (y : A ⊎ B) → length x.1.0 < length s.0 → Step (count_chain T codes item n) y x.1 ≡ Step (count_chain T codes item k) y x.1
          by_turn (inl c) l = ap (λ (z : Outcome T.Word (List A × Option B)). turned (λ y. (c ∷ y.0, y.1)) z) (ih x.1 (omega arith) (omega arith))
          by_turn (inr d) l = refl
      tested true (Err f) e ih = refl
      tested false r e ih = refl

  pub links_stop : {A B : Type 0} (codes : List ℕ) (item : State T.Word → Outcome T.Word (A ⊎ B)) (s : State T.Word) → is_at T codes s.0 ≡ false → links T codes item s ≡ Ok (([], None), s)
  unfolding count_chain
  links_stop codes item ([], t) e = refl
  links_stop codes item (w ∷ ws, t) e = rw e refl

  pub links_more : {A B : Type 0} (codes : List ℕ) (item : State T.Word → Outcome T.Word (A ⊎ B)) → Advances T item → (s : State T.Word) (a : A) (rest : State T.Word) → is_at T codes s.0 ≡ true → item s ≡ Ok (inl a, rest)
      → links T codes item s ≡ turned (λ (y : List A × Option B). (a ∷ y.0, y.1)) (links T codes item rest)
  unfolding count_chain
  links_more codes item h ([], n) a rest t e = absurd cc
  links_more {A} {B} codes item h (w ∷ ws, n) a rest t e =
      let l : length rest.0 < length (w ∷ ws) = h (w ∷ ws, n) (inl a) rest e in
      let same : count_chain T codes item (length ws) rest ≡ count_chain T codes item (length rest.0) rest = enough codes item h (length ws) (length rest.0) rest (omega arith) (omega arith) in
      rw (t, e) (ap (λ (z : Outcome T.Word (List A × Option B)). turned (λ (y : List A × Option B). (a ∷ y.0, y.1)) z) same)

  pub links_end : {A B : Type 0} (codes : List ℕ) (item : State T.Word → Outcome T.Word (A ⊎ B)) (s : State T.Word) (b : B) (rest : State T.Word) → is_at T codes s.0 ≡ true → item s ≡ Ok (inr b, rest) → links T codes item s ≡ Ok (([], Some b), rest)
  unfolding count_chain
  links_end codes item ([], n) b rest t e = absurd cc
  links_end codes item (w ∷ ws, n) b rest t e = rw (t, e) refl

  pub links_fail : {A B : Type 0} (codes : List ℕ) (item : State T.Word → Outcome T.Word (A ⊎ B)) (s : State T.Word) (f : Fault × State T.Word) → is_at T codes s.0 ≡ true → item s ≡ Err f → links T codes item s ≡ Err f
  unfolding count_chain
  links_fail codes item ([], n) f t e = absurd cc
  links_fail codes item (w ∷ ws, n) f t e = rw (t, e) refl

  -- ---- what a loop keeps

  longer_head : {A C : Type 0} (front : List A) (a : A) (r : Outcome T.Word (List A × C)) → with_head front (turned (λ (x : List A × C). (a ∷ x.0, x.1)) r) ≡ with_head (front ++ a ∷ []) r
  longer_head front a (Ok x) = ap (λ (ys : List _). Ok ((ys, x.0.1), x.1)) (sym (append_assoc front (a ∷ []) x.0.0))
  longer_head front a (Err f) = refl

  -- a turn was read, and its value put behind those before it
  pub links_go_on : {A B : Type 0} (codes : List ℕ) (item : State T.Word → Outcome T.Word (A ⊎ B)) (front : List A) (s : State T.Word) (a : A) (rest : State T.Word) (total : Outcome T.Word (List A × Option B)) → Advances T item → is_at T codes s.0 ≡ true → item s ≡ Ok (inl a, rest)
      → with_head front (links T codes item s) ≡ total → with_head (front ++ a ∷ []) (links T codes item rest) ≡ total
  links_go_on codes item front s a rest total h t e so_far = sym (ap (λ r. with_head front r) (links_more codes item h s a rest t e) ∙ longer_head front a (links T codes item rest)) ∙ so_far

  -- the last one was read
  pub links_ended : {A B : Type 0} (codes : List ℕ) (item : State T.Word → Outcome T.Word (A ⊎ B)) (front : List A) (s : State T.Word) (b : B) (rest : State T.Word) (total : Outcome T.Word (List A × Option B)) → is_at T codes s.0 ≡ true → item s ≡ Ok (inr b, rest)
      → with_head front (links T codes item s) ≡ total → total ≡ Ok ((front, Some b), rest)
  links_ended codes item front s b rest total t e so_far = sym so_far ∙ ap (λ r. with_head front r) (links_end codes item s b rest t e) ∙ ap (λ (ys : List _). Ok ((ys, Some b), rest)) (append-nil front)

  -- no turn begins
  pub links_done : {A B : Type 0} (codes : List ℕ) (item : State T.Word → Outcome T.Word (A ⊎ B)) (front : List A) (s : State T.Word) (total : Outcome T.Word (List A × Option B)) → is_at T codes s.0 ≡ false
      → with_head front (links T codes item s) ≡ total → total ≡ Ok ((front, None), s)
  links_done codes item front s total t so_far = sym so_far ∙ ap (λ r. with_head front r) (links_stop codes item s t) ∙ ap (λ (ys : List _). Ok ((ys, None), s)) (append-nil front)

  fails : {A B : Type 0} (codes : List ℕ) (item : State T.Word → Outcome T.Word (A ⊎ B)) (front : List A) (s : State T.Word) (f : Fault × State T.Word) (total : Outcome T.Word (List A × Option B)) → is_at T codes s.0 ≡ true → item s ≡ Err f
      → with_head front (links T codes item s) ≡ total → total ≡ Err f
  fails codes item front s f total t e so_far = sym so_far ∙ ap (λ r. with_head front r) (links_fail codes item s f t e)

  -- a turn that stopped
  pub link_fails : {A B : Type 0} (e : Stop) (codes : List ℕ) (item : State T.Word → Outcome T.Word (A ⊎ B)) (front : List A) (s rest : State T.Word) (total : Outcome T.Word (List A × Option B)) → is_at T codes s.0 ≡ true
      → StopsAt e rest (item s) → with_head front (links T codes item s) ≡ total → StopsAt e rest total
  link_fails stops.Memory codes item front s rest total t g so_far = tt
  link_fails (stops.At f) codes item front s rest total t g so_far = fails codes item front s (f, rest) total t g so_far

  -- before the first turn
  pub links_begin : {A B : Type 0} (codes : List ℕ) (item : State T.Word → Outcome T.Word (A ⊎ B)) (s : State T.Word) → with_head [] (links T codes item s) ≡ links T codes item s
  links_begin codes item s = no_head (links T codes item s)
    where
      no_head : {A C : Type 0} (r : Outcome T.Word (List A × C)) → with_head [] r ≡ r
      no_head (Ok x) = refl
      no_head (Err f) = refl
