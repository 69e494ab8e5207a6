-- The kinds of byte that tokens are made of.
use Rattle.std.specs.Prelude.{◌≡◌, ℕ, ◌+◌, ◌-◌, ◌*◌, Bool, true, ◌||◌, ◌==◌, List, [], ◌∷◌, fold}
use Rattle.std.specs.Char.{is_ascii_alphabetic, is_ascii_digit}

-- a space, a tab, a line feed or a carriage return
abbrev pub is_blank : ℕ → Bool
is_blank c = (c == 32 || c == 9) || (c == 10 || c == 13)

abbrev pub is_digit : ℕ → Bool
is_digit c = is_ascii_digit c

-- a letter or `_`
abbrev pub is_letter : ℕ → Bool
is_letter c = is_ascii_alphabetic c || c == 95

-- a letter, a digit or `_`
abbrev pub is_word : ℕ → Bool
is_word c = is_letter c || is_digit c

-- each byte is of this kind
abbrev pub AreAll : (ℕ → Bool) → List ℕ → Type 0
AreAll is_kind [] = Unit {0}
AreAll is_kind (c ∷ cs) = (is_kind c ≡ true) × AreAll is_kind cs

-- there is a first byte, and it is of this kind
abbrev pub Begins : (ℕ → Bool) → List ℕ → Type 0
Begins is_kind [] = ⊥
Begins is_kind (c ∷ cs) = is_kind c ≡ true

-- a number with one more decimal digit
abbrev pub with_digit : ℕ → ℕ → ℕ
with_digit n c = 10 * n + (c - 48)

-- the number that decimal digits write
abbrev pub value_of : List ℕ → ℕ
value_of digits = fold with_digit 0 digits
