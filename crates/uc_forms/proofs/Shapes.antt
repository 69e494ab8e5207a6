-- What counting gives for small shapes of form.
use Rattle.std.proofs.Common.{◌≡◌, ℕ, true, false, List, Ok, Err, refl, ap, ◌∙◌, ◌⊎◌, inl, inr}
use Rattle.uc_forms.specs.declared.stop.Stop.{Stop}
use Rattle.uc_forms.specs.declared.stop.Stop.TheVariants as stops
use Rattle.uc_forms.specs.Alphabet.{Alphabet}
use Rattle.uc_forms.specs.Form.{Form, Rules, made, either, after, merged, ◌<|>◌}
use Rattle.uc_forms.specs.Reading.{is_at, first}
use Rattle.uc_forms.specs.Counted.{State, Outcome, turned, count_word, count}
use Rattle.uc_forms.specs.CountedGives.{StopsAt}

module _ {T : Alphabet} {N : Type 0} {V : N → Type 0} (rule : Rules T N V) (opens : N → List ℕ) where
  -- a form behind a word
  pub after_fails : {A : Type 0} (e : Stop) (levels : ℕ) (k : T.Kind) (f : Form T N V A) (w : T.Word) (s mid rest : State T.Word) → count_word T k s ≡ Ok (w, mid) → StopsAt e rest (count rule opens levels f mid) → StopsAt e rest (count rule opens levels (after k f) s)
  after_fails stops.Memory levels k f w s mid rest h g = tt
  after_fails (stops.At d) levels k f w s mid rest h g = rw (h, g) refl

  pub after_is : {A : Type 0} (levels : ℕ) (k : T.Kind) (f : Form T N V A) (w : T.Word) (a : A) (s mid rest : State T.Word) → count_word T k s ≡ Ok (w, mid) → count rule opens levels f mid ≡ Ok (a, rest) → count rule opens levels (after k f) s ≡ Ok (a, rest)
  after_is levels k f w a s mid rest h g = rw (h, g) refl

  pub after_given : {A : Type 0} (levels : ℕ) (k : T.Kind) (f : Form T N V A) (s : State T.Word) (w : T.Word) (mid : State T.Word) → count_word T k s ≡ Ok (w, mid) → count rule opens levels (after k f) s ≡ count rule opens levels f mid
  after_given {A} levels k f s w mid e = rw e (same (count rule opens levels f mid))
    where
      same : (r : Outcome T.Word A) → turned (λ (x : T.Word × A). x.1) (turned (λ (b : A). let x : T.Word × A = (w, b) in x) r) ≡ r
      same (Ok x) = refl
      same (Err d) = refl

  -- a form whose value is made of the parts
  pub made_fails : {A B : Type 0} (e : Stop) (levels : ℕ) (h : A → B) (f : Form T N V A) (s rest : State T.Word) → StopsAt e rest (count rule opens levels f s) → StopsAt e rest (count rule opens levels (made h f) s)
  made_fails stops.Memory levels h f s rest g = tt
  made_fails (stops.At d) levels h f s rest g = rw g refl

  pub made_is : {A B : Type 0} (levels : ℕ) (h : A → B) (f : Form T N V A) (a : A) (s rest : State T.Word) → count rule opens levels f s ≡ Ok (a, rest) → count rule opens levels (made h f) s ≡ Ok (h a, rest)
  made_is levels h f a s rest g = rw g refl

  -- one or the other
  pub first_is : {A B : Type 0} (levels : ℕ) (f : Form T N V A) (g : Form T N V B) (s : State T.Word) → is_at T (first opens f) s.0 ≡ true → count rule opens levels (either f g) s ≡ turned inl (count rule opens levels f s)
  first_is levels f g s t = rw t refl

  pub second_is : {A B : Type 0} (levels : ℕ) (f : Form T N V A) (g : Form T N V B) (s : State T.Word) → is_at T (first opens f) s.0 ≡ false → count rule opens levels (either f g) s ≡ turned inr (count rule opens levels g s)
  second_is levels f g s t = rw t refl

  pub first_given : {A : Type 0} (levels : ℕ) (f g : Form T N V A) (s : State T.Word) → is_at T (first opens f) s.0 ≡ true → count rule opens levels (f <|> g) s ≡ count rule opens levels f s
  first_given {A} levels f g s t = ap (λ (r : Outcome T.Word (A ⊎ A)). turned merged r) (first_is levels f g s t) ∙ same (count rule opens levels f s)
    where
      same : (r : Outcome T.Word A) → turned merged (turned (λ (a : A). let x : A ⊎ A = inl a in x) r) ≡ r
      same (Ok x) = refl
      same (Err e) = refl

  pub second_given : {A : Type 0} (levels : ℕ) (f g : Form T N V A) (s : State T.Word) → is_at T (first opens f) s.0 ≡ false → count rule opens levels (f <|> g) s ≡ count rule opens levels g s
  second_given {A} levels f g s t = ap (λ (r : Outcome T.Word (A ⊎ A)). turned merged r) (second_is levels f g s t) ∙ same (count rule opens levels g s)
    where
      same : (r : Outcome T.Word A) → turned merged (turned (λ (a : A). let x : A ⊎ A = inr a in x) r) ≡ r
      same (Ok x) = refl
      same (Err e) = refl
