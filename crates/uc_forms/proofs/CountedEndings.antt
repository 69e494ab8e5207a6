-- Reading one turn after the other up to an end, as a loop does.
use Rattle.std.proofs.Common.{◌≡◌, ℕ, zero, suc, ◌<◌, Bool, true, false, List, [], ◌∷◌, ◌++◌, length, Ok, Err, refl, sym, ap, ◌∙◌, append_assoc, arith}
use Rattle.std.specs.Prelude.{if◌then◌else◌}
use Rattle.std.proofs.lemmas.List.{append-nil}
use Rattle.uc_forms.specs.declared.fault.Fault.{Fault}
use Rattle.uc_forms.specs.declared.stop.Stop.{Stop}
use Rattle.uc_forms.specs.declared.stop.Stop.TheVariants as stops
use Rattle.uc_forms.specs.Alphabet.{Alphabet}
use Rattle.uc_forms.specs.Reading.{is_at}
use Rattle.uc_forms.specs.Counted.{State, Outcome, ◌>>=◌, turned, count_until, endings, with_head}
use Rattle.uc_forms.specs.CountedGives.{StopsAt}
use Rattle.uc_forms.proofs.Advances.{Advances}

module _ (T : Alphabet) where
  abbrev Step : {A B : Type 0} → (State T.Word → Outcome T.Word (List A × B)) → A → State T.Word → Outcome T.Word (List A × B)
  Step more a rest = turned (λ y. (a ∷ y.0, y.1)) (more rest)

  -- turns beyond the count of the words change nothing
  enough : {A B : Type 0} (codes : List ℕ) (item : State T.Word → Outcome T.Word A) (ender : State T.Word → Outcome T.Word B) → Advances T item → (n k : ℕ) (s : State T.Word) → length s.0 < n → length s.0 < k → count_until T codes item ender n s ≡ count_until T codes item ender k s
  unfolding count_until
  enough codes item ender h zero k s a b = absurd (omega arith)
  enough codes item ender h (suc n) zero s a b = absurd (omega arith)
  enough {A} {B} codes item ender h (suc n) (suc k) s a b = tested (is_at T codes s.0) (item s) refl (enough codes item ender h n k)
    where
      tested : (t : Bool) (r : Outcome T.Word A) → item s ≡ r → ((u : State T.Word) → length u.0 < n → length u.0 < k → count_until T codes item ender n u ≡ count_until T codes item ender k u)
          → (let end : Outcome T.Word (List A × B) = turned (λ b. ([], b)) (ender s) in if t then end else (r >>= λ x. Step (count_until T codes item ender n) x.0 x.1))
          ≡ (let end : Outcome T.Word (List A × B) = turned (λ b. ([], b)) (ender s) in if t then end else (r >>= λ x. Step (count_until T codes item ender k) x.0 x.1))
      tested true r e ih = refl
      tested false (Ok x) e ih = let l : length x.1.0 < length s.0 = h s x.0 x.1 e in ap (λ (z : Outcome T.Word (List A × B)). turned (λ y. (x.0 ∷ y.0, y.1)) z) (ih x.1 (omega arith) (omega arith))
      tested false (Err f) e ih = refl

  endings_stop : {A B : Type 0} (codes : List ℕ) (item : State T.Word → Outcome T.Word A) (ender : State T.Word → Outcome T.Word B) (s : State T.Word) → is_at T codes s.0 ≡ true → endings T codes item ender s ≡ turned (λ b. ([], b)) (ender s)
  unfolding count_until
  endings_stop codes item ender s e = rw e refl

  endings_more : {A B : Type 0} (codes : List ℕ) (item : State T.Word → Outcome T.Word A) (ender : State T.Word → Outcome T.Word B) → Advances T item → (s : State T.Word) (a : A) (rest : State T.Word) → is_at T codes s.0 ≡ false → item s ≡ Ok (a, rest)
      → endings T codes item ender s ≡ turned (λ (x : List A × B). (a ∷ x.0, x.1)) (endings T codes item ender rest)
  unfolding count_until
  endings_more {A} {B} codes item ender h s a rest t e =
      let l : length rest.0 < length s.0 = h s a rest e in
      let same : count_until T codes item ender (length s.0) rest ≡ count_until T codes item ender (suc (length rest.0)) rest = enough codes item ender h (length s.0) (suc (length rest.0)) rest (omega arith) (omega arith) in
      let step : (if is_at T codes s.0 then turned (λ b. ([], b)) (ender s) else (item s >>= λ x. Step (count_until T codes item ender (length s.0)) x.0 x.1)) ≡ turned (λ (x : List A × B). (a ∷ x.0, x.1)) (count_until T codes item ender (length s.0) rest) = rw (t, e) refl in
      step ∙ ap (λ (z : Outcome T.Word (List A × B)). turned (λ (x : List A × B). (a ∷ x.0, x.1)) z) same

  endings_fail : {A B : Type 0} (codes : List ℕ) (item : State T.Word → Outcome T.Word A) (ender : State T.Word → Outcome T.Word B) (s : State T.Word) (f : Fault × State T.Word) → is_at T codes s.0 ≡ false → item s ≡ Err f → endings T codes item ender s ≡ Err f
  unfolding count_until
  endings_fail codes item ender s f t e = rw (t, e) refl

  -- ---- what a loop keeps

  longer_head : {A B : Type 0} (front : List A) (a : A) (r : Outcome T.Word (List A × B)) → with_head front (turned (λ (x : List A × B). (a ∷ x.0, x.1)) r) ≡ with_head (front ++ a ∷ []) r
  longer_head front a (Ok x) = ap (λ (ys : List _). Ok ((ys, x.0.1), x.1)) (sym (append_assoc front (a ∷ []) x.0.0))
  longer_head front a (Err f) = refl

  -- a turn was read, and its value put behind those before it
  pub endings_go_on : {A B : Type 0} (codes : List ℕ) (item : State T.Word → Outcome T.Word A) (ender : State T.Word → Outcome T.Word B) (front : List A) (s : State T.Word) (a : A) (rest : State T.Word) (total : Outcome T.Word (List A × B)) → Advances T item → is_at T codes s.0 ≡ false → item s ≡ Ok (a, rest)
      → with_head front (endings T codes item ender s) ≡ total → with_head (front ++ a ∷ []) (endings T codes item ender rest) ≡ total
  endings_go_on codes item ender front s a rest total h t e so_far = sym (ap (λ r. with_head front r) (endings_more codes item ender h s a rest t e) ∙ longer_head front a (endings T codes item ender rest)) ∙ so_far

  fails : {A B : Type 0} (codes : List ℕ) (item : State T.Word → Outcome T.Word A) (ender : State T.Word → Outcome T.Word B) (front : List A) (s : State T.Word) (f : Fault × State T.Word) (total : Outcome T.Word (List A × B)) → is_at T codes s.0 ≡ false → item s ≡ Err f
      → with_head front (endings T codes item ender s) ≡ total → total ≡ Err f
  fails codes item ender front s f total t e so_far = sym so_far ∙ ap (λ r. with_head front r) (endings_fail codes item ender s f t e)

  -- a turn that stopped
  pub ending_fails : {A B : Type 0} (e : Stop) (codes : List ℕ) (item : State T.Word → Outcome T.Word A) (ender : State T.Word → Outcome T.Word B) (front : List A) (s rest : State T.Word) (total : Outcome T.Word (List A × B)) → is_at T codes s.0 ≡ false
      → StopsAt e rest (item s) → with_head front (endings T codes item ender s) ≡ total → StopsAt e rest total
  ending_fails stops.Memory codes item ender front s rest total t g so_far = tt
  ending_fails (stops.At f) codes item ender front s rest total t g so_far = fails codes item ender front s (f, rest) total t g so_far

  -- the end was read
  pub endings_done : {A B : Type 0} (codes : List ℕ) (item : State T.Word → Outcome T.Word A) (ender : State T.Word → Outcome T.Word B) (front : List A) (s : State T.Word) (b : B) (rest : State T.Word) (total : Outcome T.Word (List A × B)) → is_at T codes s.0 ≡ true → ender s ≡ Ok (b, rest)
      → with_head front (endings T codes item ender s) ≡ total → total ≡ Ok ((front, b), rest)
  endings_done {A} {B} codes item ender front s b rest total t e so_far = sym so_far ∙ ap (λ r. with_head front r) (endings_stop codes item ender s t) ∙ ap (λ (z : Outcome T.Word B). let own : Outcome T.Word (List A × B) = with_head front (turned (λ c. ([], c)) z) in own) e ∙ ap (λ (ys : List A). let own : Outcome T.Word (List A × B) = Ok ((ys, b), rest) in own) (append-nil front)

  end_fails : {A B : Type 0} (codes : List ℕ) (item : State T.Word → Outcome T.Word A) (ender : State T.Word → Outcome T.Word B) (front : List A) (s : State T.Word) (f : Fault × State T.Word) (total : Outcome T.Word (List A × B)) → is_at T codes s.0 ≡ true → ender s ≡ Err f
      → with_head front (endings T codes item ender s) ≡ total → total ≡ Err f
  end_fails {A} {B} codes item ender front s f total t e so_far = sym so_far ∙ ap (λ r. with_head front r) (endings_stop codes item ender s t) ∙ ap (λ (z : Outcome T.Word B). let own : Outcome T.Word (List A × B) = with_head front (turned (λ c. ([], c)) z) in own) e

  -- the end stopped
  pub end_stops : {A B : Type 0} (e : Stop) (codes : List ℕ) (item : State T.Word → Outcome T.Word A) (ender : State T.Word → Outcome T.Word B) (front : List A) (s rest : State T.Word) (total : Outcome T.Word (List A × B)) → is_at T codes s.0 ≡ true
      → StopsAt e rest (ender s) → with_head front (endings T codes item ender s) ≡ total → StopsAt e rest total
  end_stops stops.Memory codes item ender front s rest total t g so_far = tt
  end_stops (stops.At f) codes item ender front s rest total t g so_far = end_fails codes item ender front s (f, rest) total t g so_far

  -- before the first turn
  pub endings_begin : {A B : Type 0} (codes : List ℕ) (item : State T.Word → Outcome T.Word A) (ender : State T.Word → Outcome T.Word B) (s : State T.Word) → with_head [] (endings T codes item ender s) ≡ endings T codes item ender s
  endings_begin codes item ender s = no_head (endings T codes item ender s)
    where
      no_head : {A C : Type 0} (r : Outcome T.Word (List A × C)) → with_head [] r ≡ r
      no_head (Ok x) = refl
      no_head (Err f) = refl
