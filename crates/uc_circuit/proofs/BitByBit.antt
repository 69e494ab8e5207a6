-- Operations bit by bit, one bit more.
use Rattle.std.specs.Prelude.{◌≡◌, ℕ, ◌+◌, ◌*◌, ◌^◌, ◌<◌, ◌≤◌, Bool, true, false, not, ◌&&◌, ◌||◌, cond, List, [], ◌∷◌, length, take, map, bit_and, bit_or, bit_xor}
use Rattle.std.proofs.Common.{refl, sym, ap, ◌∙◌, arith, get_or, add_comm, subst}
use Rattle.std.proofs.Math.Nat.{mul_comm, pow-suc}
use Rattle.std.proofs.lemmas.Nat.{and_block, or_block, xor_block}
use Rattle.std.proofs.lemmas.List.{length-map}
use Rattle.std.proofs.lemmas.List.Elements.{All-map, All-weaker}
use Rattle.uc_values.specs.Operators.{complemented}
use Rattle.uc_circuit.specs.declared.signal.Signal.{Signal}
use Rattle.uc_circuit.specs.Signals.{signal_value, turned, differ, number, bit, Below, AllBelow}
use Rattle.uc_circuit.proofs.Numbers.{number-more, number-front}
use Rattle.uc_circuit.proofs.Choices.{turned-value, turned-below}

swap : (r p b : ℕ) → r + p * b ≡ b * p + r
swap r p b = add_comm r (p * b) ∙ ap (λ n. n + r) (mul_comm p b)

-- an operation that goes block by block, and that is g on bits
each-more :
    (f : ℕ → ℕ → ℕ) (g : Bool → Bool → Bool)
    → ((k a b r s : ℕ) → r < 2 ^ k → s < 2 ^ k → f (a * 2 ^ k + r) (b * 2 ^ k + s) ≡ f a b * 2 ^ k + f r s)
    → ((x y : Bool) → f (bit x) (bit y) ≡ bit (g x y))
    → (v : ℕ → Bool) (a b : List Signal) (i : ℕ) (d e : Signal) → i < length a → i < length b
    → f (number v (take i a)) (number v (take i b)) + 2 ^ i * bit (g (signal_value v (get_or a i d)) (signal_value v (get_or b i e)))
    ≡ f (number v (take (i + 1) a)) (number v (take (i + 1) b))
each-more f g blocks bits v a b i d e ha hb =
    let p = 2 ^ i in
    let r = number v (take i a) in
    let s = number v (take i b) in
    let X = signal_value v (get_or a i d) in
    let Y = signal_value v (get_or b i e) in
    let la : i ≤ length a = omega arith in
    let lb : i ≤ length b = omega arith in
    let ea : number v (take (i + 1) a) ≡ bit X * p + r = number-more v a i d ha ∙ swap r p (bit X) in
    let eb : number v (take (i + 1) b) ≡ bit Y * p + s = number-more v b i e hb ∙ swap s p (bit Y) in
    sym (
    ap (λ n. f n (number v (take (i + 1) b))) ea ∙ ap (λ n. f (bit X * p + r) n) eb
    ∙ blocks i (bit X) (bit Y) r s (number-front v a i la) (number-front v b i lb)
    ∙ ap (λ n. n * p + f r s) (bits X Y)
    ∙ sym (swap (f r s) p (bit (g X Y)))
    )

and-bits : (x y : Bool) → bit_and (bit x) (bit y) ≡ bit (x && y)
and-bits true true = refl
and-bits true false = refl
and-bits false true = refl
and-bits false false = refl

or-bits : (x y : Bool) → bit_or (bit x) (bit y) ≡ bit (x || y)
or-bits true true = refl
or-bits true false = refl
or-bits false true = refl
or-bits false false = refl

xor-bits : (x y : Bool) → bit_xor (bit x) (bit y) ≡ bit (differ x y)
xor-bits true true = refl
xor-bits true false = refl
xor-bits false true = refl
xor-bits false false = refl

pub and-more :
    (v : ℕ → Bool) (a b : List Signal) (i : ℕ) (d e : Signal) → i < length a → i < length b
    → bit_and (number v (take i a)) (number v (take i b)) + 2 ^ i * bit (signal_value v (get_or a i d) && signal_value v (get_or b i e))
    ≡ bit_and (number v (take (i + 1) a)) (number v (take (i + 1) b))
and-more = each-more bit_and (λ x y. x && y) and_block and-bits

pub or-more :
    (v : ℕ → Bool) (a b : List Signal) (i : ℕ) (d e : Signal) → i < length a → i < length b
    → bit_or (number v (take i a)) (number v (take i b)) + 2 ^ i * bit (signal_value v (get_or a i d) || signal_value v (get_or b i e))
    ≡ bit_or (number v (take (i + 1) a)) (number v (take (i + 1) b))
or-more = each-more bit_or (λ x y. x || y) or_block or-bits

pub xor-more :
    (v : ℕ → Bool) (a b : List Signal) (i : ℕ) (d e : Signal) → i < length a → i < length b
    → bit_xor (number v (take i a)) (number v (take i b)) + 2 ^ i * bit (differ (signal_value v (get_or a i d)) (signal_value v (get_or b i e)))
    ≡ bit_xor (number v (take (i + 1) a)) (number v (take (i + 1) b))
xor-more = each-more bit_xor differ xor_block xor-bits

choose-bit : (c : Bool) (p r s x y m n : ℕ) → m ≡ r + p * x → n ≡ s + p * y → cond c r s + p * cond c x y ≡ cond c m n
choose-bit true p r s x y m n e f = sym e
choose-bit false p r s x y m n e f = sym f

bit-cond : (c x y : Bool) → bit (cond c x y) ≡ cond c (bit x) (bit y)
bit-cond true x y = refl
bit-cond false x y = refl

pub choose-more :
    (v : ℕ → Bool) (c : Bool) (a b : List Signal) (i : ℕ) (d e : Signal) → i < length a → i < length b
    → cond c (number v (take i a)) (number v (take i b)) + 2 ^ i * bit (cond c (signal_value v (get_or a i d)) (signal_value v (get_or b i e)))
    ≡ cond c (number v (take (i + 1) a)) (number v (take (i + 1) b))
choose-more v c a b i d e ha hb =
    ap (λ t. cond c (number v (take i a)) (number v (take i b)) + 2 ^ i * t) (bit-cond c (signal_value v (get_or a i d)) (signal_value v (get_or b i e)))
    ∙ choose-bit c (2 ^ i) (number v (take i a)) (number v (take i b)) (bit (signal_value v (get_or a i d))) (bit (signal_value v (get_or b i e)))
    (number v (take (i + 1) a)) (number v (take (i + 1) b)) (number-more v a i d ha) (number-more v b i e hb)

bit-not : (b : Bool) → bit (not b) + bit b ≡ 1
bit-not true = refl
bit-not false = refl

turned-sum : (v : ℕ → Bool) (a : List Signal) → number v (map turned a) + number v a + 1 ≡ 2 ^ length a
turned-sum v [] = refl
turned-sum v (s ∷ a) =
    let one : bit (signal_value v (turned s)) + bit (signal_value v s) ≡ 1 = ap (λ b. bit b + bit (signal_value v s)) (turned-value v s) ∙ bit-not (signal_value v s) in
    omega (arith, turned-sum v a, one, pow-suc 2 (length a))

-- the signals turned stand for the number with each bit turned
pub number-turned : (v : ℕ → Bool) (a : List Signal) → number v (map turned a) ≡ complemented (length a) (number v a)
number-turned v a = omega (arith, turned-sum v a)

pub turned-all : (n : ℕ) (xs ys : List Signal) → ys ≡ map turned xs → AllBelow n xs → AllBelow n ys
turned-all n xs ys is h =
    subst (AllBelow n) (sym is) (All-map (Below n) turned xs (All-weaker (Below n) (λ s. Below n (turned s)) (turned-below n) xs h))

pub turned-long : (xs ys : List Signal) → ys ≡ map turned xs → length ys ≡ length xs
turned-long xs ys is = ap (length {A = Signal}) is ∙ length-map xs turned
