-- Reading one turn after the other up to an end, as a loop does.
use Rattle.std.proofs.Common.{◌≡◌, ℕ, zero, suc, ◌<◌, Bool, true, false, List, [], ◌∷◌, ◌++◌, length, Ok, Err, refl, sym, ap, ◌∙◌, append_assoc, arith}
use Rattle.std.specs.Prelude.{if◌then◌else◌}
use Rattle.std.proofs.lemmas.List.{append-nil}
use Rattle.uc_forms.specs.declared.fault.Fault.{Fault}
use Rattle.uc_forms.specs.declared.stop.Stop.{Stop}
use Rattle.uc_forms.specs.declared.stop.Stop.TheVariants as stops
use Rattle.uc_forms.specs.Alphabet.{Alphabet}
use Rattle.uc_forms.specs.Reading.{Outcome, ◌>>=◌, turned, is_at, read_until, endings, with_head}
use Rattle.uc_forms.specs.Gives.{StopsWith}
use Rattle.uc_forms.proofs.Counts.{TurnOf}
use Rattle.uc_forms.proofs.Turns.{Advances}

module _ (T : Alphabet) where
  -- turns beyond the count of the words change nothing
  enough : {A B : Type 0} (codes : List ℕ) (item : List T.Word → Outcome T.Word A) (ender : List T.Word → Outcome T.Word B) → Advances T item → (n k : ℕ) (ws : List T.Word) → length ws < n → length ws < k → read_until T codes item ender n ws ≡ read_until T codes item ender k ws
  unfolding read_until
  enough codes item ender h zero k ws a b = absurd (omega arith)
  enough codes item ender h (suc n) zero ws a b = absurd (omega arith)
  enough {A} {B} codes item ender h (suc n) (suc k) ws a b = tested (is_at T codes ws) (item ws) refl (enough codes item ender h n k)
    where
      tested : (t : Bool) (r : Outcome T.Word A) → item ws ≡ r → ((us : List T.Word) → length us < n → length us < k → read_until T codes item ender n us ≡ read_until T codes item ender k us)
          → (let end : Outcome T.Word (List A × B) = turned (λ b. ([], b)) (ender ws) in if t then end else (r >>= λ x. TurnOf (read_until T codes item ender n) x.0 x.1))
          ≡ (let end : Outcome T.Word (List A × B) = turned (λ b. ([], b)) (ender ws) in if t then end else (r >>= λ x. TurnOf (read_until T codes item ender k) x.0 x.1))
      tested true r e ih = refl
      tested false (Ok x) e ih = let l : length x.1 < length ws = h ws x.0 x.1 e in ap (λ (z : Outcome T.Word (List A × B)). turned (λ y. (x.0 ∷ y.0, y.1)) z) (ih x.1 (omega arith) (omega arith))
      tested false (Err f) e ih = refl

  -- ---- what a loop keeps

  endings_stop : {A B : Type 0} (codes : List ℕ) (item : List T.Word → Outcome T.Word A) (ender : List T.Word → Outcome T.Word B) (ws : List T.Word) → is_at T codes ws ≡ true → endings T codes item ender ws ≡ turned (λ b. ([], b)) (ender ws)
  unfolding read_until
  endings_stop codes item ender ws e = rw e refl

  endings_more : {A B : Type 0} (codes : List ℕ) (item : List T.Word → Outcome T.Word A) (ender : List T.Word → Outcome T.Word B) → Advances T item → (ws : List T.Word) (a : A) (rest : List T.Word) → is_at T codes ws ≡ false → item ws ≡ Ok (a, rest)
      → endings T codes item ender ws ≡ turned (λ (x : List A × B). (a ∷ x.0, x.1)) (endings T codes item ender rest)
  unfolding read_until
  endings_more {A} {B} codes item ender h ws a rest t e =
      let l : length rest < length ws = h ws a rest e in
      let same : read_until T codes item ender (length ws) rest ≡ read_until T codes item ender (suc (length rest)) rest = enough codes item ender h (length ws) (suc (length rest)) rest (omega arith) (omega arith) in
      let step : (if is_at T codes ws then turned (λ b. ([], b)) (ender ws) else (item ws >>= λ x. TurnOf (read_until T codes item ender (length ws)) x.0 x.1)) ≡ turned (λ (x : List A × B). (a ∷ x.0, x.1)) (read_until T codes item ender (length ws) rest) = rw (t, e) refl in
      step ∙ ap (λ (z : Outcome T.Word (List A × B)). turned (λ (x : List A × B). (a ∷ x.0, x.1)) z) same

  endings_fail : {A B : Type 0} (codes : List ℕ) (item : List T.Word → Outcome T.Word A) (ender : List T.Word → Outcome T.Word B) (ws : List T.Word) (f : Fault × List T.Word) → is_at T codes ws ≡ false → item ws ≡ Err f → endings T codes item ender ws ≡ Err f
  unfolding read_until
  endings_fail codes item ender ws f t e = rw (t, e) refl

  longer_head : {A B : Type 0} (front : List A) (a : A) (r : Outcome T.Word (List A × B)) → with_head front (turned (λ (x : List A × B). (a ∷ x.0, x.1)) r) ≡ with_head (front ++ a ∷ []) r
  longer_head front a (Ok x) = ap (λ (ys : List _). Ok ((ys, x.0.1), x.1)) (sym (append_assoc front (a ∷ []) x.0.0))
  longer_head front a (Err f) = refl

  pub endings_go_on : {A B : Type 0} (codes : List ℕ) (item : List T.Word → Outcome T.Word A) (ender : List T.Word → Outcome T.Word B) (front : List A) (ws : List T.Word) (a : A) (rest : List T.Word) (total : Outcome T.Word (List A × B)) → Advances T item → is_at T codes ws ≡ false → item ws ≡ Ok (a, rest)
      → with_head front (endings T codes item ender ws) ≡ total → with_head (front ++ a ∷ []) (endings T codes item ender rest) ≡ total
  endings_go_on codes item ender front ws a rest total h t e so_far = sym (ap (λ r. with_head front r) (endings_more codes item ender h ws a rest t e) ∙ longer_head front a (endings T codes item ender rest)) ∙ so_far

  endings_fails : {A B : Type 0} (codes : List ℕ) (item : List T.Word → Outcome T.Word A) (ender : List T.Word → Outcome T.Word B) (front : List A) (ws : List T.Word) (f : Fault × List T.Word) (total : Outcome T.Word (List A × B)) → is_at T codes ws ≡ false → item ws ≡ Err f
      → with_head front (endings T codes item ender ws) ≡ total → total ≡ Err f
  endings_fails codes item ender front ws f total t e so_far = sym so_far ∙ ap (λ r. with_head front r) (endings_fail codes item ender ws f t e)

  -- a turn that stopped
  pub ending_fails : {A B : Type 0} (e : Stop) (codes : List ℕ) (item : List T.Word → Outcome T.Word A) (ender : List T.Word → Outcome T.Word B) (front : List A) (ws rest : List T.Word) (total : Outcome T.Word (List A × B)) → is_at T codes ws ≡ false
      → StopsWith e rest (item ws) → with_head front (endings T codes item ender ws) ≡ total → StopsWith e rest total
  ending_fails stops.Memory codes item ender front ws rest total t g so_far = tt
  ending_fails (stops.At f) codes item ender front ws rest total t g so_far = endings_fails codes item ender front ws (f, rest) total t g so_far

  -- the end
  pub endings_done : {A B : Type 0} (codes : List ℕ) (item : List T.Word → Outcome T.Word A) (ender : List T.Word → Outcome T.Word B) (front : List A) (ws : List T.Word) (b : B) (rest : List T.Word) (total : Outcome T.Word (List A × B)) → is_at T codes ws ≡ true → ender ws ≡ Ok (b, rest)
      → with_head front (endings T codes item ender ws) ≡ total → total ≡ Ok ((front, b), rest)
  endings_done codes item ender front ws b rest total t e so_far = sym so_far ∙ ap (λ r. with_head front r) (endings_stop codes item ender ws t ∙ ap (λ r. turned (λ b. ([], b)) r) e) ∙ ap (λ (ys : List _). Ok ((ys, b), rest)) (append-nil front)

  -- nothing was read before
  pub endings_begin : {A B : Type 0} (r : Outcome T.Word (List A × B)) → with_head [] r ≡ r
  endings_begin (Ok x) = refl
  endings_begin (Err f) = refl
