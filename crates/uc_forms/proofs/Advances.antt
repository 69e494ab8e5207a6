-- Reading a form that has words takes some of them.
use Rattle.std.proofs.Common.{◌≡◌, ℕ, ◌<◌, false, List, Ok, Err, refl, sym, ap, subst, ◌∙◌, length}
use Rattle.uc_forms.specs.declared.tally.Tally.{Tally}
use Rattle.uc_forms.specs.Alphabet.{Alphabet}
use Rattle.uc_forms.specs.Form.{Form, Rules}
use Rattle.uc_forms.specs.Reading.{Outcome as Read, skips, read, noted}
use Rattle.uc_forms.specs.Tally.{counted_on}
use Rattle.uc_forms.specs.Plain.{IsPlain}
use Rattle.uc_forms.proofs.Turns.{advances as reading_advances}
use Rattle.uc_forms.specs.Counted.{State, Outcome, count}
use Rattle.uc_forms.specs.CountedLaw.{joined}
use Rattle.uc_forms.proofs.Joined.{counted}

module _ (T : Alphabet) where
  abbrev pub Advances : {A : Type 0} → (State T.Word → Outcome T.Word A) → Type 0
  Advances {A} item = (s : State T.Word) (a : A) (rest : State T.Word) → item s ≡ Ok (a, rest) → length rest.0 < length s.0

  abbrev words_left : {A : Type 0} → Outcome T.Word A → List T.Word
  words_left (Ok x) = x.1.0
  words_left (Err d) = d.1.0

  by_read : {A : Type 0} (r : Read T.Word A) (names : Tally T.Word) (s rest : State T.Word) (a : A) → ((x : A) (mid : List T.Word) → r ≡ Ok (x, mid) → length mid < length s.0) → joined r names ≡ Ok (a, rest) → length rest.0 < length s.0
  by_read (Ok x) names s rest a h j = let same : x.1 ≡ rest.0 = ap (λ z. words_left z) j in subst (λ (ys : List T.Word). length ys < length s.0) same (h x.0 x.1 refl)
  by_read (Err d) names s rest a h j = absurd cc

  pub advances : {N : Type 0} {V : N → Type 0} (rule : Rules T N V) (opens goes : N → List ℕ) (g : IsPlain rule opens goes) (levels : ℕ) {A : Type 0} (f : Form T N V A) → skips f ≡ false → Advances (count rule opens levels f)
  advances rule opens goes g levels f k s a rest e =
      by_read (read rule opens levels f s.0) (counted_on s.1 (noted rule opens levels f s.0)) s rest a
      (λ x mid i. reading_advances T rule opens goes g levels f k s.0 x mid i)
      (sym (counted rule opens levels f s.0 s.1) ∙ e)
