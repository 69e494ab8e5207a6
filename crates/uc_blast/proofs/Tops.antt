-- The highest bit of a number.
use Rattle.std.specs.Prelude.{◌≡◌, ℕ, ◌+◌, ◌-◌, ◌*◌, ◌/◌, ◌^◌, ◌<◌, ◌≤◌, Bool, true, false, not, cond, List, length, take, nat_lt}
use Rattle.std.proofs.Common.{sym, ap, ◌∙◌, arith, get_or}
use Rattle.std.proofs.lemmas.Bool.Decides.{nat_tests}
use Rattle.std.proofs.lemmas.List.{take_all}
use Rattle.uc_values.specs.Operators.{is_low, shifted_right_signed}
use Rattle.uc_circuit.specs.declared.signal.Signal.{Signal}
use Rattle.uc_circuit.specs.Signals.{signal_value, number, bit}
use Rattle.uc_circuit.specs.Shifting.{shifted_down}
use Rattle.uc_circuit.proofs.Numbers.{number-more, number-front}

low-by : (w i A r : ℕ) (t : Bool) → w ≡ i + 1 → r < 2 ^ i → A ≡ r + 2 ^ i * bit t → is_low w A ≡ not t
low-by w i A r true e h split =
    let one : w - 1 ≡ i = omega arith in
    ap (λ k. nat_lt A (2 ^ k)) one ∙ grind (arith, nat_tests)
low-by w i A r false e h split =
    let one : w - 1 ≡ i = omega arith in
    ap (λ k. nat_lt A (2 ^ k)) one ∙ grind (arith, nat_tests)

shift-by : (w A n : ℕ) (t low : Bool) → low ≡ not t → shifted_down w t A n ≡ cond low (A / 2 ^ n) (2 ^ w - 1 - (2 ^ w - 1 - A) / 2 ^ n)
shift-by w A n true low e = sym (ap (λ b. cond b (A / 2 ^ n) (2 ^ w - 1 - (2 ^ w - 1 - A) / 2 ^ n)) e)
shift-by w A n false low e = sym (ap (λ b. cond b (A / 2 ^ n) (2 ^ w - 1 - (2 ^ w - 1 - A) / 2 ^ n)) e)

-- a shift that fills with the highest bit
pub signed-shift : (v : ℕ → Bool) (a : List Signal) (n i : ℕ) (d : Signal) → i + 1 ≡ length a
    → shifted_down (length a) (signal_value v (get_or a i d)) (number v a) n ≡ shifted_right_signed (length a) (number v a) n
signed-shift v a n i d e =
    let h : i < length a = omega arith in
    let l : i ≤ length a = omega arith in
    let split : number v a ≡ number v (take i a) + 2 ^ i * bit (signal_value v (get_or a i d)) =
    sym (ap (number v) (take_all (i + 1) a (omega arith))) ∙ number-more v a i d h in
    shift-by (length a) (number v a) n (signal_value v (get_or a i d)) (is_low (length a) (number v a))
    (low-by (length a) i (number v a) (number v (take i a)) (signal_value v (get_or a i d)) (sym e) (number-front v a i l) split)
