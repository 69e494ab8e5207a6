-- How many turns a loop has.
use Rattle.std.proofs.Common.{◌≡◌, ℕ, zero, suc, ◌+◌, ◌-◌, ◌^◌, Bool, true, false, List, [], ◌∷◌, map, length, refl, ap, ◌∙◌, arith, sym}
use Rattle.std.specs.Prelude.{ℤ, pos, neg_ℤ, nat_abs, ◌-ℤ◌, int_le, if◌then◌else◌, min}
use Rattle.std.proofs.lemmas.Int.{ints}
use Rattle.uc_syntax.specs.declared.statement.RangeBound.{RangeBound}
use Rattle.uc_syntax.specs.declared.statement.RangeBound.TheVariants.{Number, BitsLiteral}
use Rattle.uc_meaning.specs.Code.{bound_number, counted_up, numbers_to, turns, turn_value}
use Rattle.uc_written_once.specs.Bounds.{is_negative, size_of}

length_map : {A B : Type 0} (f : A → B) (xs : List A) → length (map f xs) ≡ length xs
length_map f [] = refl
length_map f (x ∷ xs) = ap suc (length_map f xs)

length_counted : (n : ℕ) (a : ℤ) → length (counted_up n a) ≡ n
unfolding counted_up
length_counted zero a = refl
length_counted (suc n) a = ap suc (length_counted n _)

length_if : (b : Bool) (n : ℕ) (a : ℤ) → length (if b then counted_up n a else []) ≡ (if b then n else 0)
length_if true n a = length_counted n a
length_if false n a = refl

length_numbers : (a b : ℤ) → length (numbers_to a b) ≡ (if int_le a b then nat_abs (b -ℤ a) + 1 else 0)
length_numbers a b = length_if (int_le a b) (nat_abs (b -ℤ a) + 1) a

turns_between : (from to : RangeBound) → length (turns from to) ≡ (if int_le (bound_number from) (bound_number to) then nat_abs (bound_number to -ℤ bound_number from) + 1 else 0)
turns_between from to = length_map (turn_value from) (numbers_to (bound_number from) (bound_number to)) ∙ length_numbers (bound_number from) (bound_number to)

abbrev signed : Bool → ℕ → ℤ
signed negative n = if negative then neg_ℤ (pos n) else pos n

bound_is : (b : RangeBound) (negative : Bool) → negative ≡ is_negative b → bound_number b ≡ signed negative (size_of b)
bound_is (Number place s n) negative h = ap (λ c. signed c n) (sym h)
bound_is (BitsLiteral place n w) negative h = ap (λ c. signed c n) (sym h)

abbrev count : ℤ → ℤ → ℕ
count a b = if int_le a b then nat_abs (b -ℤ a) + 1 else 0

counted : (from to : RangeBound) (s t : Bool) → s ≡ is_negative from → t ≡ is_negative to → length (turns from to) ≡ count (signed s (size_of from)) (signed t (size_of to))
counted from to s t hs ht = turns_between from to ∙ (λ k. count (bound_is from s hs k) (bound_is to t ht k))

count_up : (m n : ℕ) → count (pos m) (pos n) ≡ n + 1 - m
count_up m n = grind (arith, ints)

count_below : (m n : ℕ) → count (neg_ℤ (pos m)) (neg_ℤ (pos n)) ≡ m + 1 - n
count_below m n = grind (arith, ints)

count_across : (m n : ℕ) → count (neg_ℤ (pos m)) (pos n) ≡ m + n + 1
count_across m n = grind (arith, ints)

count_down : (m n : ℕ) → count (pos m) (neg_ℤ (pos n)) ≡ 1 - (m + n)
count_down m n = grind (arith, ints)

module _ (from to : RangeBound) (a b r : ℕ) (from-is : a ≡ size_of from) (to-is : b ≡ size_of to) where
  sized : (s t : Bool) → s ≡ is_negative from → t ≡ is_negative to → length (turns from to) ≡ count (signed s a) (signed t b)
  sized s t hs ht = counted from to s t hs ht ∙ (λ k. count (signed s (sym from-is k)) (signed t (sym to-is k)))

  pub above_zero : false ≡ is_negative from → false ≡ is_negative to → r ≡ min (b + 1 - a) (2 ^ 128 - 1) → r ≡ min (length (turns from to)) (2 ^ 128 - 1)
  above_zero hs ht is = is ∙ sym (ap (λ n. min n (2 ^ 128 - 1)) (sized false false hs ht ∙ count_up a b))

  pub below_zero : true ≡ is_negative from → true ≡ is_negative to → r ≡ min (a + 1 - b) (2 ^ 128 - 1) → r ≡ min (length (turns from to)) (2 ^ 128 - 1)
  below_zero hs ht is = is ∙ sym (ap (λ n. min n (2 ^ 128 - 1)) (sized true true hs ht ∙ count_below a b))

  pub across_zero : true ≡ is_negative from → false ≡ is_negative to → r ≡ min (a + b + 1) (2 ^ 128 - 1) → r ≡ min (length (turns from to)) (2 ^ 128 - 1)
  across_zero hs ht is = is ∙ sym (ap (λ n. min n (2 ^ 128 - 1)) (sized true false hs ht ∙ count_across a b))

  small : (n : ℕ) → min (1 - n) (2 ^ 128 - 1) ≡ 1 - n
  small n = omega arith

  pub from_above : false ≡ is_negative from → true ≡ is_negative to → r ≡ 1 - (a + b) → r ≡ min (length (turns from to)) (2 ^ 128 - 1)
  from_above hs ht is = is ∙ sym (ap (λ n. min n (2 ^ 128 - 1)) (sized false true hs ht ∙ count_down a b) ∙ small (a + b))
