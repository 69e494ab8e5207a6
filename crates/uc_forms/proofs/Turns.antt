-- Reading one turn after the other, as a loop does.
use Rattle.std.proofs.Common.{◌≡◌, ℕ, zero, suc, ◌≤◌, ◌<◌, Bool, true, false, List, [], ◌∷◌, ◌++◌, length, Option, None, Ok, Err, refl, sym, ap, subst, ◌∙◌, append_assoc, arith, ◌⊎◌}
use Rattle.std.specs.Prelude.{if◌then◌else◌}
use Rattle.std.proofs.lemmas.List.{append-nil}
use Rattle.uc_forms.specs.declared.fault.Fault.{Fault}
use Rattle.uc_forms.specs.Alphabet.{Alphabet}
use Rattle.uc_forms.specs.Form.{Form, Rules, goes_on_with}
use Rattle.uc_forms.specs.Reading.{Outcome, ◌>>=◌, turned, is_at, read_chain, turns, with_front, skips, read}
use Rattle.uc_forms.specs.Plain.{IsPlain}
use Rattle.uc_forms.proofs.Judge.{Judge}
use Rattle.uc_forms.proofs.Counts.{StepOf}
use Rattle.uc_forms.proofs.Exact.{at_moves}

module _ (T : Alphabet) where
  abbrev pub Advances : {A : Type 0} → (List T.Word → Outcome T.Word A) → Type 0
  Advances {A} item = (ws : List T.Word) (a : A) (rest : List T.Word) → item ws ≡ Ok (a, rest) → length rest < length ws

  by_judge : {A : Type 0} (r : Outcome T.Word A) (k : ℕ) (a : A) (rest : List T.Word) → Judge (λ b end. length end < k) (λ e end. length end ≤ k) r → r ≡ Ok (a, rest) → length rest < k
  by_judge {A} r k a rest j e = let i : Judge (λ (b : A) end. length end < k) (λ e end. length end ≤ k) (Ok (a, rest)) = subst (λ (x : Outcome T.Word A). Judge (λ b end. length end < k) (λ e end. length end ≤ k) x) e j in i

  -- reading a form that has words takes some
  pub advances : {N : Type 0} {V : N → Type 0} (rule : Rules T N V) (opens goes : N → List ℕ) (g : IsPlain rule opens goes) (room : ℕ) {A : Type 0} (f : Form T N V A) → skips f ≡ false → Advances (read rule opens room f)
  advances rule opens goes g room {A} f s ws a rest e = by_judge (read rule opens room f ws) (length ws) a rest (at_moves T rule opens goes g room A f s ws) e

  abbrev Looks : {A : Type 0} → (List T.Word → Outcome T.Word A) → List T.Word → Outcome T.Word (A ⊎ ⊥)
  Looks item us = turned goes_on_with (item us)

  -- turns beyond the count of the words change nothing
  enough : {A : Type 0} (codes : List ℕ) (item : List T.Word → Outcome T.Word A) → Advances item → (n k : ℕ) (ws : List T.Word) → length ws ≤ n → length ws ≤ k → read_chain T codes (Looks item) n ws ≡ read_chain T codes (Looks item) k ws
  unfolding read_chain
  enough codes item h zero zero ws a b = refl
  enough codes item h zero (suc k) [] a b = refl
  enough codes item h zero (suc k) (w ∷ ws) a b = absurd (omega arith)
  enough codes item h (suc n) zero [] a b = refl
  enough codes item h (suc n) zero (w ∷ ws) a b = absurd (omega arith)
  enough {A} codes item h (suc n) (suc k) ws a b = tested (is_at T codes ws) (item ws) refl (enough codes item h n k)
    where
      tested : (t : Bool) (r : Outcome T.Word A) → item ws ≡ r → ((us : List T.Word) → length us ≤ n → length us ≤ k → read_chain T codes (Looks item) n us ≡ read_chain T codes (Looks item) k us)
          → (let none : Outcome T.Word (List A × Option ⊥) = Ok (([], None), ws) in if t then (turned goes_on_with r >>= λ x. StepOf (read_chain T codes (Looks item) n) x.0 x.1) else none)
          ≡ (let none : Outcome T.Word (List A × Option ⊥) = Ok (([], None), ws) in if t then (turned goes_on_with r >>= λ x. StepOf (read_chain T codes (Looks item) k) x.0 x.1) else none)
      tested true (Ok x) e ih = let l : length x.1 < length ws = h ws x.0 x.1 e in ap (λ (z : Outcome T.Word (List A × Option ⊥)). turned (λ y. (x.0 ∷ y.0, y.1)) z) (ih x.1 (omega arith) (omega arith))
      tested true (Err f) e ih = refl
      tested false r e ih = refl

  -- ---- what a loop keeps

  pub turns_stop : {A : Type 0} (codes : List ℕ) (item : List T.Word → Outcome T.Word A) (ws : List T.Word) → is_at T codes ws ≡ false → turns T codes item ws ≡ Ok ([], ws)
  unfolding read_chain
  turns_stop codes item [] e = refl
  turns_stop codes item (w ∷ ws) e = rw e refl

  turns_more : {A : Type 0} (codes : List ℕ) (item : List T.Word → Outcome T.Word A) → Advances item → (ws : List T.Word) (a : A) (rest : List T.Word) → is_at T codes ws ≡ true → item ws ≡ Ok (a, rest) → turns T codes item ws ≡ turned (λ xs. a ∷ xs) (turns T codes item rest)
  unfolding read_chain
  turns_more codes item h [] a rest t e = absurd cc
  turns_more {A} codes item h (w ∷ ws) a rest t e =
      let l : length rest < length (w ∷ ws) = h (w ∷ ws) a rest e in
      let same : read_chain T codes (Looks item) (length ws) rest ≡ read_chain T codes (Looks item) (length rest) rest = enough codes item h (length ws) (length rest) rest (omega arith) (omega arith) in
      rw (t, e, same) (regroup (read_chain T codes (Looks item) (length rest) rest) a)
    where
      regroup : (r : Outcome T.Word (List A × Option ⊥)) (a : A) → turned (λ (x : List A × Option ⊥). x.0) (turned (λ (y : List A × Option ⊥). (a ∷ y.0, y.1)) r) ≡ turned (λ (xs : List A). a ∷ xs) (turned (λ (x : List A × Option ⊥). x.0) r)
      regroup (Ok x) a = refl
      regroup (Err f) a = refl

  turns_fail : {A : Type 0} (codes : List ℕ) (item : List T.Word → Outcome T.Word A) (ws : List T.Word) (f : Fault × List T.Word) → is_at T codes ws ≡ true → item ws ≡ Err f → turns T codes item ws ≡ Err f
  unfolding read_chain
  turns_fail codes item [] f t e = absurd cc
  turns_fail codes item (w ∷ ws) f t e = rw (t, e) refl

  longer_front : {A : Type 0} (front : List A) (a : A) (r : Outcome T.Word (List A)) → with_front front (turned (λ xs. a ∷ xs) r) ≡ with_front (front ++ a ∷ []) r
  longer_front front a (Ok x) = ap (λ (ys : List _). Ok (ys, x.1)) (sym (append_assoc front (a ∷ []) x.0))
  longer_front front a (Err f) = refl

  pub goes_on : {A : Type 0} (codes : List ℕ) (item : List T.Word → Outcome T.Word A) (front : List A) (ws : List T.Word) (a : A) (rest : List T.Word) (total : Outcome T.Word (List A)) → Advances item → is_at T codes ws ≡ true → item ws ≡ Ok (a, rest)
      → with_front front (turns T codes item ws) ≡ total → with_front (front ++ a ∷ []) (turns T codes item rest) ≡ total
  goes_on codes item front ws a rest total h t e so_far = sym (ap (λ r. with_front front r) (turns_more codes item h ws a rest t e) ∙ longer_front front a (turns T codes item rest)) ∙ so_far

  pub fails : {A : Type 0} (codes : List ℕ) (item : List T.Word → Outcome T.Word A) (front : List A) (ws : List T.Word) (f : Fault × List T.Word) (total : Outcome T.Word (List A)) → is_at T codes ws ≡ true → item ws ≡ Err f
      → with_front front (turns T codes item ws) ≡ total → total ≡ Err f
  fails codes item front ws f total t e so_far = sym so_far ∙ ap (λ r. with_front front r) (turns_fail codes item ws f t e)

  pub is_done : {A : Type 0} (codes : List ℕ) (item : List T.Word → Outcome T.Word A) (front : List A) (ws : List T.Word) (total : Outcome T.Word (List A)) → is_at T codes ws ≡ false
      → with_front front (turns T codes item ws) ≡ total → total ≡ Ok (front, ws)
  is_done codes item front ws total t so_far = sym so_far ∙ ap (λ r. with_front front r) (turns_stop codes item ws t) ∙ ap (λ (ys : List _). Ok (ys, ws)) (append-nil front)

  pub begins : {A : Type 0} (codes : List ℕ) (item : List T.Word → Outcome T.Word A) (ws : List T.Word) → with_front [] (turns T codes item ws) ≡ turns T codes item ws
  begins codes item ws = no_front (turns T codes item ws)
    where
      no_front : {A : Type 0} (r : Outcome T.Word (List A)) → with_front [] r ≡ r
      no_front (Ok x) = refl
      no_front (Err f) = refl

  abbrev rest_in : {A : Type 0} → Outcome T.Word A → List T.Word
  rest_in (Ok x) = x.1
  rest_in (Err f) = f.1

  -- where a turn begins and the front is one longer in the end, there was a turn
  pub turns_some : {A : Type 0} (codes : List ℕ) (item : List T.Word → Outcome T.Word A) → Advances item → (ws : List T.Word) (xs : List A) (rest : List T.Word) (b : A) → is_at T codes ws ≡ true → with_front (b ∷ []) (turns T codes item ws) ≡ Ok (xs, rest)
      → (a : A) × (more : List A) × (turns T codes item ws ≡ Ok (a ∷ more, rest))
  turns_some {A} codes item h ws xs rest b t e = by_item (item ws) refl
    where
      headed : (a : A) (r : Outcome T.Word (List A)) → with_front (b ∷ []) (turned (λ ys. a ∷ ys) r) ≡ Ok (xs, rest) → (c : A) × (more : List A) × (turned (λ ys. a ∷ ys) r ≡ Ok (c ∷ more, rest))
      headed a (Ok y) i = (a, y.0, let k : y.1 ≡ rest = ap (λ r. rest_in r) i in rw k refl)
      headed a (Err f) i = absurd cc

      by_item : (r : Outcome T.Word A) → item ws ≡ r → (a : A) × (more : List A) × (turns T codes item ws ≡ Ok (a ∷ more, rest))
      by_item (Ok x) i =
          let m = turns_more codes item h ws x.0 x.1 t i in
          let k = headed x.0 (turns T codes item x.1) (ap (λ r. with_front (b ∷ []) r) (sym m) ∙ e) in
          (k.0, k.1, m ∙ k.2)
      by_item (Err f) i = absurd (let k = turns_fail codes item ws f t i in let z : with_front (b ∷ []) (Err f) ≡ Ok (xs, rest) = ap (λ r. with_front (b ∷ []) r) (sym k) ∙ e in cc z)
