-- What a sink has taken.
use Rattle.std.specs.Prelude.{◌≡◌, ℕ, ◌<◌, List, ◌++◌, length, take}

-- It grew by a front of the text, and not by the whole text.
abbrev pub GrewByFront : List ℕ → List ℕ → List ℕ → Type 0
GrewByFront old new text = (count : ℕ) × (count < length text) × (new ≡ old ++ take count text)
