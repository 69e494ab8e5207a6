-- A plain grammar with all that belongs to it.
use Rattle.std.specs.Prelude.{◌≡◌, ℕ, true, List}
use Rattle.uc_forms.specs.Alphabet.{Alphabet}
use Rattle.uc_forms.specs.Form.{Form, Rules}
use Rattle.uc_forms.specs.Plain.{is_plain, IsPlain}

pub record Grammar : Type 1 where
  pub alphabet : Alphabet
  -- the names of the nested forms, and the types of their values
  pub Nested : Type 0
  pub Value : Nested → Type 0
  pub rule : Rules alphabet Nested Value
  -- the form of a whole text
  pub Text : Type 0
  pub text : Form alphabet Nested Value Text
  -- the kinds of words that begin a nested form, and those that may go on with one
  pub opens : Nested → List ℕ
  pub goes : Nested → List ℕ
  pub rules_are_plain : IsPlain rule opens goes
  pub text_is_plain : is_plain opens goes text ≡ true
