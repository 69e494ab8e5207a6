-- What texts are made of.
use Rattle.std.specs.Prelude.{◌≡◌, ℕ}

-- A text is a list of words. A form asks for words of a kind, and kinds are told apart by their codes.
pub record Alphabet : Type 1 where
  pub Word : Type 0
  pub Kind : Type 0
  -- a number for each kind
  pub code : Kind → ℕ
  -- the number of the kind that a word is of
  pub kind : Word → ℕ
  -- a word of each kind
  pub example : Kind → Word
  pub example_is : (k : Kind) → kind (example k) ≡ code k
