-- What the loops of a parser keep.
use Rattle.std.proofs.Common.{◌≡◌, ℕ, true, false, List, Ok, Err, refl, ap, ◌∙◌, ◌⊎◌, inl, inr}
use Rattle.uc_forms.specs.declared.stop.Stop.{Stop}
use Rattle.uc_forms.specs.declared.stop.Stop.TheVariants as stops
use Rattle.uc_forms.specs.Alphabet.{Alphabet}
use Rattle.uc_forms.specs.Form.{Form, Rules, made, either, after, merged, ◌<|>◌}
use Rattle.uc_forms.specs.Reading.{Outcome, turned, is_at, first, read_word, turns, with_front, read}
use Rattle.uc_forms.specs.Gives.{StopsWith}
use Rattle.uc_forms.proofs.Turns.{fails}

-- a turn that stopped
pub loop_fails : (T : Alphabet) {A : Type 0} (e : Stop) (codes : List ℕ) (item : List T.Word → Outcome T.Word A) (front : List A) (ws rest : List T.Word) (total : Outcome T.Word (List A)) → is_at T codes ws ≡ true
    → StopsWith e rest (item ws) → with_front front (turns T codes item ws) ≡ total → StopsWith e rest total
loop_fails T stops.Memory codes item front ws rest total t g so_far = tt
loop_fails T (stops.At f) codes item front ws rest total t g so_far = fails T codes item front ws (f, rest) total t g so_far

module _ {T : Alphabet} {N : Type 0} {V : N → Type 0} (rule : Rules T N V) (opens : N → List ℕ) where
  -- a form behind a word, and a form whose value is made of the parts
  pub after_fails : {A : Type 0} (e : Stop) (levels : ℕ) (k : T.Kind) (f : Form T N V A) (w : T.Word) (ws mid rest : List T.Word) → read_word T k ws ≡ Ok (w, mid) → StopsWith e rest (read rule opens levels f mid) → StopsWith e rest (read rule opens levels (after k f) ws)
  after_fails stops.Memory levels k f w ws mid rest h g = tt
  after_fails (stops.At d) levels k f w ws mid rest h g = rw (h, g) refl

  pub after_is : {A : Type 0} (levels : ℕ) (k : T.Kind) (f : Form T N V A) (w : T.Word) (a : A) (ws mid rest : List T.Word) → read_word T k ws ≡ Ok (w, mid) → read rule opens levels f mid ≡ Ok (a, rest) → read rule opens levels (after k f) ws ≡ Ok (a, rest)
  after_is levels k f w a ws mid rest h g = rw (h, g) refl

  pub made_fails : {A B : Type 0} (e : Stop) (levels : ℕ) (h : A → B) (f : Form T N V A) (ws rest : List T.Word) → StopsWith e rest (read rule opens levels f ws) → StopsWith e rest (read rule opens levels (made h f) ws)
  made_fails stops.Memory levels h f ws rest g = tt
  made_fails (stops.At d) levels h f ws rest g = rw g refl

  pub made_is : {A B : Type 0} (levels : ℕ) (h : A → B) (f : Form T N V A) (a : A) (ws rest : List T.Word) → read rule opens levels f ws ≡ Ok (a, rest) → read rule opens levels (made h f) ws ≡ Ok (h a, rest)
  made_is levels h f a ws rest g = rw g refl

  -- one or the other
  pub first_is : {A B : Type 0} (levels : ℕ) (f : Form T N V A) (g : Form T N V B) (ws : List T.Word) → is_at T (first opens f) ws ≡ true → read rule opens levels (either f g) ws ≡ turned inl (read rule opens levels f ws)
  first_is levels f g ws t = rw t refl

  pub second_is : {A B : Type 0} (levels : ℕ) (f : Form T N V A) (g : Form T N V B) (ws : List T.Word) → is_at T (first opens f) ws ≡ false → read rule opens levels (either f g) ws ≡ turned inr (read rule opens levels g ws)
  second_is levels f g ws t = rw t refl

  pub first_given : {A : Type 0} (levels : ℕ) (f g : Form T N V A) (ws : List T.Word) → is_at T (first opens f) ws ≡ true → read rule opens levels (f <|> g) ws ≡ read rule opens levels f ws
  first_given {A} levels f g ws t = ap (λ (r : Outcome T.Word (A ⊎ A)). turned merged r) (first_is levels f g ws t) ∙ same (read rule opens levels f ws)
    where
      same : (r : Outcome T.Word A) → turned merged (turned (λ (a : A). let x : A ⊎ A = inl a in x) r) ≡ r
      same (Ok x) = refl
      same (Err e) = refl

  pub second_given : {A : Type 0} (levels : ℕ) (f g : Form T N V A) (ws : List T.Word) → is_at T (first opens f) ws ≡ false → read rule opens levels (f <|> g) ws ≡ read rule opens levels g ws
  second_given {A} levels f g ws t = ap (λ (r : Outcome T.Word (A ⊎ A)). turned merged r) (second_is levels f g ws t) ∙ same (read rule opens levels g ws)
    where
      same : (r : Outcome T.Word A) → turned merged (turned (λ (a : A). let x : A ⊎ A = inr a in x) r) ≡ r
      same (Ok x) = refl
      same (Err e) = refl

  -- a form behind a word that was taken
  pub after_given : {A : Type 0} (levels : ℕ) (k : T.Kind) (f : Form T N V A) (ws : List T.Word) (w : T.Word) (mid : List T.Word) → read_word T k ws ≡ Ok (w, mid) → read rule opens levels (after k f) ws ≡ read rule opens levels f mid
  after_given {A} levels k f ws w mid e = rw e (same (read rule opens levels f mid))
    where
      same : (r : Outcome T.Word A) → turned (λ (x : T.Word × A). x.1) (turned (λ (b : A). (w, b)) r) ≡ r
      same (Ok x) = refl
      same (Err d) = refl
