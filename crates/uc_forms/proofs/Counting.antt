-- How a loop counts the names that its turns declare.
use Rattle.std.proofs.Common.{◌≡◌, ℕ, zero, suc, ◌≤◌, ◌<◌, Bool, true, false, List, [], ◌∷◌, ◌++◌, length, Ok, Err, refl, sym, ap, ◌∙◌, arith, ◌⊎◌}
use Rattle.std.specs.Prelude.{if◌then◌else◌}
use Rattle.std.proofs.lemmas.List.{append-nil}
use Rattle.uc_forms.specs.declared.fault.Fault.{Fault}
use Rattle.uc_forms.specs.declared.tally.Tally.{Tally}
use Rattle.uc_forms.specs.Alphabet.{Alphabet}
use Rattle.uc_forms.specs.Form.{goes_on_with}
use Rattle.uc_forms.specs.Spelling.{Stand}
use Rattle.uc_forms.specs.Reading.{Outcome, turned, is_at, then_note, note_turn, note_chain, note_until, note_turns, note_endings}
use Rattle.uc_forms.specs.declared.stop.Stop.{Stop}
use Rattle.uc_forms.specs.declared.stop.Stop.TheVariants as stops
use Rattle.uc_forms.specs.Gives.{StopsWith}
use Rattle.uc_forms.specs.Tally.{counted_on, CountsOn}
use Rattle.uc_forms.proofs.Tallies.{counted_append}
use Rattle.uc_forms.proofs.Turns.{Advances}

module _ (T : Alphabet) where
  abbrev Looks : {A : Type 0} → (List T.Word → Outcome T.Word A) → List T.Word → Outcome T.Word (A ⊎ ⊥)
  Looks item us = turned goes_on_with (item us)

  enough : {A : Type 0} (codes : List ℕ) (item : List T.Word → Outcome T.Word A) (note : List T.Word → List (Stand T.Word)) → Advances T item → (n k : ℕ) (ws : List T.Word) → length ws ≤ n → length ws ≤ k → note_chain T codes (Looks item) note n ws ≡ note_chain T codes (Looks item) note k ws
  unfolding note_chain
  enough codes item note h zero zero ws a b = refl
  enough codes item note h zero (suc k) [] a b = refl
  enough codes item note h zero (suc k) (w ∷ ws) a b = absurd (omega arith)
  enough codes item note h (suc n) zero [] a b = refl
  enough codes item note h (suc n) zero (w ∷ ws) a b = absurd (omega arith)
  enough {A} codes item note h (suc n) (suc k) ws a b = tested (is_at T codes ws) (item ws) refl (enough codes item note h n k)
    where
      tested : (t : Bool) (r : Outcome T.Word A) → item ws ≡ r → ((us : List T.Word) → length us ≤ n → length us ≤ k → note_chain T codes (Looks item) note n us ≡ note_chain T codes (Looks item) note k us)
          → (if t then note ws ++ then_note (turned goes_on_with r) (λ x rest. note_turn x (note_chain T codes (Looks item) note n rest)) else [])
          ≡ (if t then note ws ++ then_note (turned goes_on_with r) (λ x rest. note_turn x (note_chain T codes (Looks item) note k rest)) else [])
      tested true (Ok x) e ih = let l : length x.1 < length ws = h ws x.0 x.1 e in ap (λ (z : List (Stand T.Word)). note ws ++ z) (ih x.1 (omega arith) (omega arith))
      tested true (Err f) e ih = refl
      tested false r e ih = refl

  turns_more : {A : Type 0} (codes : List ℕ) (item : List T.Word → Outcome T.Word A) (note : List T.Word → List (Stand T.Word)) → Advances T item → (ws : List T.Word) (a : A) (rest : List T.Word) → is_at T codes ws ≡ true → item ws ≡ Ok (a, rest)
      → note_turns T codes item note ws ≡ note ws ++ note_turns T codes item note rest
  unfolding note_chain
  turns_more codes item note h [] a rest t e = absurd cc
  turns_more codes item note h (w ∷ ws) a rest t e =
      let l : length rest < length (w ∷ ws) = h (w ∷ ws) a rest e in
      let same : note_chain T codes (Looks item) note (length ws) rest ≡ note_chain T codes (Looks item) note (length rest) rest = enough codes item note h (length ws) (length rest) rest (omega arith) (omega arith) in
      rw (t, e, same) refl

  turns_fail : {A : Type 0} (codes : List ℕ) (item : List T.Word → Outcome T.Word A) (note : List T.Word → List (Stand T.Word)) (ws : List T.Word) (f : Fault × List T.Word) → is_at T codes ws ≡ true → item ws ≡ Err f → note_turns T codes item note ws ≡ note ws
  unfolding note_chain
  turns_fail codes item note [] f t e = absurd cc
  turns_fail codes item note (w ∷ ws) f t e = rw (t, e) (append-nil (note (w ∷ ws)))

  turns_stop : {A : Type 0} (codes : List ℕ) (item : List T.Word → Outcome T.Word A) (note : List T.Word → List (Stand T.Word)) (ws : List T.Word) → is_at T codes ws ≡ false → note_turns T codes item note ws ≡ []
  unfolding note_chain
  turns_stop codes item note [] e = refl
  turns_stop codes item note (w ∷ ws) e = rw e refl

  -- a turn more, a turn that stopped, and no turn more
  pub counts_more : {A : Type 0} (codes : List ℕ) (item : List T.Word → Outcome T.Word A) (note : List T.Word → List (Stand T.Word)) (n total : Tally T.Word) → Advances T item → (ws : List T.Word) (a : A) (rest : List T.Word) → is_at T codes ws ≡ true → item ws ≡ Ok (a, rest)
      → counted_on n (note_turns T codes item note ws) ≡ total → counted_on (counted_on n (note ws)) (note_turns T codes item note rest) ≡ total
  counts_more codes item note n total h ws a rest t e so_far = sym (ap (λ xs. counted_on n xs) (turns_more codes item note h ws a rest t e) ∙ counted_append n (note ws) (note_turns T codes item note rest)) ∙ so_far

  pub counts_stopped : {A : Type 0} (codes : List ℕ) (item : List T.Word → Outcome T.Word A) (note : List T.Word → List (Stand T.Word)) (n total : Tally T.Word) (ws : List T.Word) (f : Fault × List T.Word) → is_at T codes ws ≡ true → item ws ≡ Err f
      → counted_on n (note_turns T codes item note ws) ≡ total → counted_on n (note ws) ≡ total
  counts_stopped codes item note n total ws f t e so_far = sym (ap (λ xs. counted_on n xs) (turns_fail codes item note ws f t e)) ∙ so_far

  pub counts_done : {A : Type 0} (codes : List ℕ) (item : List T.Word → Outcome T.Word A) (note : List T.Word → List (Stand T.Word)) (n total : Tally T.Word) (ws : List T.Word) → is_at T codes ws ≡ false
      → counted_on n (note_turns T codes item note ws) ≡ total → n ≡ total
  counts_done codes item note n total ws t so_far = sym (ap (λ xs. counted_on n xs) (turns_stop codes item note ws t)) ∙ so_far

  -- a turn that stopped, with what it counted
  pub turn_stops : {A : Type 0} (Y : Type 0) (e : Stop) (codes : List ℕ) (item : List T.Word → Outcome T.Word A) (note : List T.Word → List (Stand T.Word)) (n now total : Tally T.Word) (ws rest : List T.Word) → is_at T codes ws ≡ true
      → StopsWith e rest (item ws) → CountsOn {Y = A} (Err e) now (counted_on n (note ws)) → counted_on n (note_turns T codes item note ws) ≡ total → CountsOn {Y = Y} (Err e) now total
  turn_stops Y stops.Memory codes item note n now total ws rest t g c so_far = tt
  turn_stops Y (stops.At f) codes item note n now total ws rest t g c so_far = c ∙ counts_stopped codes item note n total ws (f, rest) t g so_far

  -- ---- turns up to an end

  enough_end : {A : Type 0} (codes : List ℕ) (item : List T.Word → Outcome T.Word A) (note last : List T.Word → List (Stand T.Word)) → Advances T item → (n k : ℕ) (ws : List T.Word) → length ws < n → length ws < k → note_until T codes item note last n ws ≡ note_until T codes item note last k ws
  unfolding note_until
  enough_end codes item note last h zero k ws a b = absurd (omega arith)
  enough_end codes item note last h (suc n) zero ws a b = absurd (omega arith)
  enough_end {A} codes item note last h (suc n) (suc k) ws a b = tested (is_at T codes ws) (item ws) refl (enough_end codes item note last h n k)
    where
      tested : (t : Bool) (r : Outcome T.Word A) → item ws ≡ r → ((us : List T.Word) → length us < n → length us < k → note_until T codes item note last n us ≡ note_until T codes item note last k us)
          → (if t then last ws else note ws ++ then_note r (λ a rest. note_until T codes item note last n rest)) ≡ (if t then last ws else note ws ++ then_note r (λ a rest. note_until T codes item note last k rest))
      tested true r e ih = refl
      tested false (Ok x) e ih = let l : length x.1 < length ws = h ws x.0 x.1 e in ap (λ (z : List (Stand T.Word)). note ws ++ z) (ih x.1 (omega arith) (omega arith))
      tested false (Err f) e ih = refl

  endings_more : {A : Type 0} (codes : List ℕ) (item : List T.Word → Outcome T.Word A) (note last : List T.Word → List (Stand T.Word)) → Advances T item → (ws : List T.Word) (a : A) (rest : List T.Word) → is_at T codes ws ≡ false → item ws ≡ Ok (a, rest)
      → note_endings T codes item note last ws ≡ note ws ++ note_endings T codes item note last rest
  unfolding note_until
  endings_more codes item note last h ws a rest t e =
      let l : length rest < length ws = h ws a rest e in
      let same : note_until T codes item note last (length ws) rest ≡ note_until T codes item note last (suc (length rest)) rest = enough_end codes item note last h (length ws) (suc (length rest)) rest (omega arith) (omega arith) in
      let step : (if is_at T codes ws then last ws else note ws ++ then_note (item ws) (λ a rest. note_until T codes item note last (length ws) rest)) ≡ note ws ++ note_until T codes item note last (length ws) rest = rw (t, e) refl in
      step ∙ ap (λ (z : List (Stand T.Word)). note ws ++ z) same

  endings_fail : {A : Type 0} (codes : List ℕ) (item : List T.Word → Outcome T.Word A) (note last : List T.Word → List (Stand T.Word)) (ws : List T.Word) (f : Fault × List T.Word) → is_at T codes ws ≡ false → item ws ≡ Err f → note_endings T codes item note last ws ≡ note ws
  unfolding note_until
  endings_fail codes item note last ws f t e = rw (t, e) (append-nil (note ws))

  endings_stop : {A : Type 0} (codes : List ℕ) (item : List T.Word → Outcome T.Word A) (note last : List T.Word → List (Stand T.Word)) (ws : List T.Word) → is_at T codes ws ≡ true → note_endings T codes item note last ws ≡ last ws
  unfolding note_until
  endings_stop codes item note last ws e = rw e refl

  pub end_counts_more : {A : Type 0} (codes : List ℕ) (item : List T.Word → Outcome T.Word A) (note last : List T.Word → List (Stand T.Word)) (n total : Tally T.Word) → Advances T item → (ws : List T.Word) (a : A) (rest : List T.Word) → is_at T codes ws ≡ false → item ws ≡ Ok (a, rest)
      → counted_on n (note_endings T codes item note last ws) ≡ total → counted_on (counted_on n (note ws)) (note_endings T codes item note last rest) ≡ total
  end_counts_more codes item note last n total h ws a rest t e so_far = sym (ap (λ xs. counted_on n xs) (endings_more codes item note last h ws a rest t e) ∙ counted_append n (note ws) (note_endings T codes item note last rest)) ∙ so_far

  pub end_counts_stopped : {A : Type 0} (codes : List ℕ) (item : List T.Word → Outcome T.Word A) (note last : List T.Word → List (Stand T.Word)) (n total : Tally T.Word) (ws : List T.Word) (f : Fault × List T.Word) → is_at T codes ws ≡ false → item ws ≡ Err f
      → counted_on n (note_endings T codes item note last ws) ≡ total → counted_on n (note ws) ≡ total
  end_counts_stopped codes item note last n total ws f t e so_far = sym (ap (λ xs. counted_on n xs) (endings_fail codes item note last ws f t e)) ∙ so_far

  pub end_counts_done : {A : Type 0} (codes : List ℕ) (item : List T.Word → Outcome T.Word A) (note last : List T.Word → List (Stand T.Word)) (n total : Tally T.Word) (ws : List T.Word) → is_at T codes ws ≡ true
      → counted_on n (note_endings T codes item note last ws) ≡ total → counted_on n (last ws) ≡ total
  end_counts_done codes item note last n total ws t so_far = sym (ap (λ xs. counted_on n xs) (endings_stop codes item note last ws t)) ∙ so_far

  pub end_stops : {A : Type 0} (Y : Type 0) (e : Stop) (codes : List ℕ) (item : List T.Word → Outcome T.Word A) (note last : List T.Word → List (Stand T.Word)) (n now total : Tally T.Word) (ws rest : List T.Word) → is_at T codes ws ≡ false
      → StopsWith e rest (item ws) → CountsOn {Y = A} (Err e) now (counted_on n (note ws)) → counted_on n (note_endings T codes item note last ws) ≡ total → CountsOn {Y = Y} (Err e) now total
  end_stops Y stops.Memory codes item note last n now total ws rest t g c so_far = tt
  end_stops Y (stops.At f) codes item note last n now total ws rest t g c so_far = c ∙ end_counts_stopped codes item note last n total ws (f, rest) t g so_far
