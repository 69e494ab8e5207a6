-- Reading one turn after the other, as a loop does.
use Rattle.std.proofs.Common.{◌≡◌, ℕ, ◌<◌, true, false, List, [], ◌∷◌, ◌++◌, length, Option, Ok, Err, refl, sym, ap, subst, ◌∙◌, append_assoc, ◌⊎◌}
use Rattle.std.proofs.lemmas.List.{append-nil}
use Rattle.uc_forms.specs.declared.fault.Fault.{Fault}
use Rattle.uc_forms.specs.declared.stop.Stop.{Stop}
use Rattle.uc_forms.specs.declared.stop.Stop.TheVariants as stops
use Rattle.uc_forms.specs.Alphabet.{Alphabet}
use Rattle.uc_forms.specs.Form.{goes_on_with}
use Rattle.uc_forms.specs.Reading.{is_at}
use Rattle.uc_forms.specs.Counted.{State, Outcome, turned, count_chain, turns, with_front}
use Rattle.uc_forms.specs.CountedGives.{StopsAt}
use Rattle.uc_forms.proofs.Advances.{Advances}
use Rattle.uc_forms.proofs.Links.{links_more, links_stop, links_fail}

module _ (T : Alphabet) where
  abbrev Looks : {A : Type 0} → (State T.Word → Outcome T.Word A) → State T.Word → Outcome T.Word (A ⊎ ⊥)
  Looks item u = turned goes_on_with (item u)

  abbrev state_in : {A : Type 0} → Outcome T.Word A → State T.Word
  state_in (Ok x) = x.1
  state_in (Err f) = f.1

  looked : {A : Type 0} (r : Outcome T.Word A) (u v : State T.Word) (x : A ⊎ ⊥) → ((a : A) (w : State T.Word) → r ≡ Ok (a, w) → length w.0 < length u.0) → turned goes_on_with r ≡ Ok (x, v) → length v.0 < length u.0
  looked (Ok z) u v x h k = let same : z.1 ≡ v = ap (λ o. state_in o) k in subst (λ (w : State T.Word). length w.0 < length u.0) same (h z.0 z.1 refl)
  looked (Err z) u v x h k = absurd cc

  looks_advance : {A : Type 0} (item : State T.Word → Outcome T.Word A) → Advances T item → Advances T (Looks item)
  looks_advance item h u x v i = looked (item u) u v x (λ a w j. h u a w j) i

  turns_stop : {A : Type 0} (codes : List ℕ) (item : State T.Word → Outcome T.Word A) (s : State T.Word) → is_at T codes s.0 ≡ false → turns T codes item s ≡ Ok ([], s)
  turns_stop {A} codes item s e = ap (λ (r : Outcome T.Word (List A × Option ⊥)). turned (λ x. x.0) r) (links_stop T codes (Looks item) s e)

  turns_more : {A : Type 0} (codes : List ℕ) (item : State T.Word → Outcome T.Word A) → Advances T item → (s : State T.Word) (a : A) (rest : State T.Word) → is_at T codes s.0 ≡ true → item s ≡ Ok (a, rest) → turns T codes item s ≡ turned (λ xs. a ∷ xs) (turns T codes item rest)
  turns_more {A} codes item h s a rest t e = ap (λ (r : Outcome T.Word (List A × Option ⊥)). turned (λ x. x.0) r) (links_more T codes (Looks item) (looks_advance item h) s a rest t (ap (λ (r : Outcome T.Word A). turned goes_on_with r) e)) ∙ regroup (count_chain T codes (Looks item) (length rest.0) rest)
    where
      regroup : (r : Outcome T.Word (List A × Option ⊥)) → turned (λ (x : List A × Option ⊥). x.0) (turned (λ (y : List A × Option ⊥). (a ∷ y.0, y.1)) r) ≡ turned (λ (xs : List A). a ∷ xs) (turned (λ (x : List A × Option ⊥). x.0) r)
      regroup (Ok x) = refl
      regroup (Err f) = refl

  turns_fail : {A : Type 0} (codes : List ℕ) (item : State T.Word → Outcome T.Word A) (s : State T.Word) (f : Fault × State T.Word) → is_at T codes s.0 ≡ true → item s ≡ Err f → turns T codes item s ≡ Err f
  turns_fail {A} codes item s f t e = ap (λ (r : Outcome T.Word (List A × Option ⊥)). turned (λ x. x.0) r) (links_fail T codes (Looks item) s f t (ap (λ (r : Outcome T.Word A). turned goes_on_with r) e))

  longer_front : {A : Type 0} (front : List A) (a : A) (r : Outcome T.Word (List A)) → with_front front (turned (λ xs. a ∷ xs) r) ≡ with_front (front ++ a ∷ []) r
  longer_front front a (Ok x) = ap (λ (ys : List _). Ok (ys, x.1)) (sym (append_assoc front (a ∷ []) x.0))
  longer_front front a (Err f) = refl

  -- a turn was read, and its value put behind those before it
  pub goes_on : {A : Type 0} (codes : List ℕ) (item : State T.Word → Outcome T.Word A) (front : List A) (s : State T.Word) (a : A) (rest : State T.Word) (total : Outcome T.Word (List A)) → Advances T item → is_at T codes s.0 ≡ true → item s ≡ Ok (a, rest)
      → with_front front (turns T codes item s) ≡ total → with_front (front ++ a ∷ []) (turns T codes item rest) ≡ total
  goes_on codes item front s a rest total h t e so_far = sym (ap (λ r. with_front front r) (turns_more codes item h s a rest t e) ∙ longer_front front a (turns T codes item rest)) ∙ so_far

  fails : {A : Type 0} (codes : List ℕ) (item : State T.Word → Outcome T.Word A) (front : List A) (s : State T.Word) (f : Fault × State T.Word) (total : Outcome T.Word (List A)) → is_at T codes s.0 ≡ true → item s ≡ Err f
      → with_front front (turns T codes item s) ≡ total → total ≡ Err f
  fails codes item front s f total t e so_far = sym so_far ∙ ap (λ r. with_front front r) (turns_fail codes item s f t e)

  -- a turn that stopped
  pub loop_fails : {A : Type 0} (e : Stop) (codes : List ℕ) (item : State T.Word → Outcome T.Word A) (front : List A) (s rest : State T.Word) (total : Outcome T.Word (List A)) → is_at T codes s.0 ≡ true
      → StopsAt e rest (item s) → with_front front (turns T codes item s) ≡ total → StopsAt e rest total
  loop_fails stops.Memory codes item front s rest total t g so_far = tt
  loop_fails (stops.At f) codes item front s rest total t g so_far = fails codes item front s (f, rest) total t g so_far

  -- no turn begins
  pub is_done : {A : Type 0} (codes : List ℕ) (item : State T.Word → Outcome T.Word A) (front : List A) (s : State T.Word) (total : Outcome T.Word (List A)) → is_at T codes s.0 ≡ false
      → with_front front (turns T codes item s) ≡ total → total ≡ Ok (front, s)
  is_done codes item front s total t so_far = sym so_far ∙ ap (λ r. with_front front r) (turns_stop codes item s t) ∙ ap (λ (ys : List _). Ok (ys, s)) (append-nil front)

  -- before the first turn
  pub begins : {A : Type 0} (codes : List ℕ) (item : State T.Word → Outcome T.Word A) (s : State T.Word) → with_front [] (turns T codes item s) ≡ turns T codes item s
  begins codes item s = no_front (turns T codes item s)
    where
      no_front : {A : Type 0} (r : Outcome T.Word (List A)) → with_front [] r ≡ r
      no_front (Ok x) = refl
      no_front (Err f) = refl

  -- where a turn begins and the front is one longer in the end, there was a turn
  pub turns_some : {A : Type 0} (codes : List ℕ) (item : State T.Word → Outcome T.Word A) → Advances T item → (s : State T.Word) (xs : List A) (rest : State T.Word) (b : A) → is_at T codes s.0 ≡ true → with_front (b ∷ []) (turns T codes item s) ≡ Ok (xs, rest)
      → (a : A) × (more : List A) × (turns T codes item s ≡ Ok (a ∷ more, rest))
  turns_some {A} codes item h s xs rest b t e = by_item (item s) refl
    where
      headed : (a : A) (r : Outcome T.Word (List A)) → with_front (b ∷ []) (turned (λ ys. a ∷ ys) r) ≡ Ok (xs, rest) → (c : A) × (more : List A) × (turned (λ ys. a ∷ ys) r ≡ Ok (c ∷ more, rest))
      headed a (Ok y) i = (a, y.0, let k : y.1 ≡ rest = ap (λ r. state_in r) i in rw k refl)
      headed a (Err f) i = absurd cc

      by_item : (r : Outcome T.Word A) → item s ≡ r → (a : A) × (more : List A) × (turns T codes item s ≡ Ok (a ∷ more, rest))
      by_item (Ok x) i =
          let m = turns_more codes item h s x.0 x.1 t i in
          let k = headed x.0 (turns T codes item x.1) (ap (λ r. with_front (b ∷ []) r) (sym m) ∙ e) in
          (k.0, k.1, m ∙ k.2)
      by_item (Err f) i = absurd (let k = turns_fail codes item s f t i in let z : with_front (b ∷ []) (Err f) ≡ Ok (xs, rest) = ap (λ r. with_front (b ∷ []) r) (sym k) ∙ e in cc z)
