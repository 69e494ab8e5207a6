-- The numbers that lists of signals stand for.
use Rattle.std.specs.Prelude.{◌≡◌, ℕ, ◌+◌, ◌*◌, ◌/◌, ◌%◌, ◌^◌, ◌<◌, ◌≤◌, Bool, true, false, List, [], ◌∷◌, ◌++◌, length, take, drop}
use Rattle.std.proofs.Common.{sym, ap, ◌∙◌, arith, subst, suc, get_or}
use Rattle.std.proofs.Math.Nat.{pow-suc, mul_assoc, mul_comm}
use Rattle.std.proofs.lemmas.Nat.{div-mul-add, mod-mul-add}
use Rattle.std.proofs.lemmas.List.{take_more, length-take-le, take-append-drop}
use Rattle.uc_circuit.specs.declared.signal.Signal.{Signal}
use Rattle.uc_circuit.specs.Signals.{signal_value, bit, number}

pub bit-le : (b : Bool) → bit b ≤ 1
bit-le true = omega arith
bit-le false = omega arith

pub double : (p n : ℕ) → (p * 2) * n ≡ 2 * (p * n)
double p n = ap (λ k. k * n) (mul_comm p 2) ∙ mul_assoc 2 p n

pub number-append : (v : ℕ → Bool) (xs ys : List Signal) → number v (xs ++ ys) ≡ number v xs + 2 ^ length xs * number v ys
number-append v [] ys = omega arith
number-append v (x ∷ xs) ys =
    let step : 2 ^ suc (length xs) * number v ys ≡ 2 * (2 ^ length xs * number v ys) =
    ap (λ p. p * number v ys) (pow-suc 2 (length xs)) ∙ double (2 ^ length xs) (number v ys) in
    omega (arith, number-append v xs ys, step)

pub number-below : (v : ℕ → Bool) (xs : List Signal) → number v xs < 2 ^ length xs
number-below v [] = omega arith
number-below v (x ∷ xs) = omega (arith, number-below v xs, bit-le (signal_value v x), pow-suc 2 (length xs))

pub number-push : (v : ℕ → Bool) (xs : List Signal) (s : Signal) (i : ℕ) → length xs ≡ i → number v (xs ++ s ∷ []) ≡ number v xs + 2 ^ i * bit (signal_value v s)
number-push v xs s i long =
    number-append v xs (s ∷ [])
    ∙ ap (λ k. number v xs + 2 ^ k * (bit (signal_value v s) + 2 * 0)) long
    ∙ ap (λ k. number v xs + 2 ^ i * k) (omega arith)

pub number-more : (v : ℕ → Bool) (xs : List Signal) (i : ℕ) (d : Signal) → i < length xs
    → number v (take (i + 1) xs) ≡ number v (take i xs) + 2 ^ i * bit (signal_value v (get_or xs i d))
number-more v xs i d h =
    ap (number v) (take_more xs i d h)
    ∙ number-push v (take i xs) (get_or xs i d) i (length-take-le i xs (omega arith))

pub number-split : (v : ℕ → Bool) (xs : List Signal) (i : ℕ) → i ≤ length xs → number v xs ≡ number v (take i xs) + 2 ^ i * number v (drop i xs)
number-split v xs i h =
    ap (number v) (sym (take-append-drop i xs))
    ∙ number-append v (take i xs) (drop i xs)
    ∙ ap (λ k. number v (take i xs) + 2 ^ k * number v (drop i xs)) (length-take-le i xs h)

pub number-front : (v : ℕ → Bool) (xs : List Signal) (i : ℕ) → i ≤ length xs → number v (take i xs) < 2 ^ i
number-front v xs i h = subst (λ k. number v (take i xs) < 2 ^ k) (length-take-le i xs h) (number-below v (take i xs))

turn : (a p b : ℕ) → b + p * a ≡ a * p + b
turn a p b = omega (arith, mul_comm p a)

pub number-take : (v : ℕ → Bool) (xs : List Signal) (i : ℕ) → i ≤ length xs → number v (take i xs) ≡ number v xs % 2 ^ i
number-take v xs i h =
    sym (ap (λ n. n % 2 ^ i) (number-split v xs i h ∙ turn (number v (drop i xs)) (2 ^ i) (number v (take i xs)))
    ∙ mod-mul-add (number v (drop i xs)) (2 ^ i) (number v (take i xs)) (number-front v xs i h))

pub number-drop : (v : ℕ → Bool) (xs : List Signal) (i : ℕ) → i ≤ length xs → number v (drop i xs) ≡ number v xs / 2 ^ i
number-drop v xs i h =
    sym (ap (λ n. n / 2 ^ i) (number-split v xs i h ∙ turn (number v (drop i xs)) (2 ^ i) (number v (take i xs)))
    ∙ div-mul-add (number v (drop i xs)) (2 ^ i) (number v (take i xs)) (number-front v xs i h))
