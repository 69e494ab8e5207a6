-- Decimal numbers spell their values.
use Rattle.std.specs.Prelude.{decimal}
use Rattle.std.proofs.Common.{◌≡◌, ℕ, ◌+◌, ◌*◌, ◌-◌, ◌^◌, ◌<◌, true, List, [], ◌∷◌, length, fold, refl, ap, ◌∙◌, arith}
use Rattle.std.specs.Int.{IsInRange}
use Rattle.std.proofs.lemmas.Bool.Decides.{nat_tests}
use Rattle.std.proofs.lemmas.Fmt.{decimal_is_IsNumeral_wide}
use Rattle.std.proofs.lemmas.Str.Parse.{IsDigitsTest, FoldsDigits, IsNumeralModel, numerals_by_fold}
use Rattle.uc_lexer.specs.Bytes.{is_digit, AreAll, Begins, with_digit, value_of}
use Rattle.uc_lexer.specs.Spelling.{IsDigits}

in_range : (c : ℕ) → is_digit c ≡ true → IsInRange 48 57 c
in_range c h = (grind (arith, nat_tests), grind (arith, nat_tests))

from_range : (c : ℕ) → IsInRange 48 57 c → is_digit c ≡ true
from_range c r = let low = r.0 in let high = r.1 in grind (arith, nat_tests)

digits_test : IsDigitsTest (AreAll is_digit)
digits_test = record { empty = tt; parts = λ c cs p. (in_range c p.0, p.1); more = λ c cs r p. (from_range c r, p) }

abbrev value_after : ℕ → List ℕ → ℕ
value_after n digits = fold with_digit n digits

folds : FoldsDigits value_after
folds = record { empty = λ n. refl; more = λ n c cs r. (let e : 10 * n + (c - 48) ≡ n * 10 + (c - 48) = omega arith in ap (λ (m : ℕ). fold with_digit m cs) e) }

model : IsNumeralModel (AreAll is_digit) (value_after 0)
model = numerals_by_fold (AreAll is_digit) digits_test value_after folds

begun : (digits : List ℕ) → 0 < length digits → AreAll is_digit digits → Begins is_digit digits
begun [] h a = absurd (omega arith)
begun (c ∷ cs) h a = a.0

pub decimal_spells : (n : ℕ) → n < 2 ^ 128 → IsDigits (decimal n) × (value_of (decimal n) ≡ n)
decimal_spells n h =
    let numeral = decimal_is_IsNumeral_wide n (omega arith) in
    let digits = model.from (decimal n) numeral.0.1 in
    ((begun (decimal n) numeral.0.0 digits, digits), model.same (decimal n) numeral.0.1 ∙ numeral.1)
