-- Comparisons, one bit more.
use Rattle.std.specs.Prelude.{◌≡◌, ℕ, ◌+◌, ◌-◌, ◌*◌, ◌^◌, ◌<◌, ◌≤◌, Bool, true, false, not, ◌&&◌, cond, List, length, take, nat_eq, nat_lt, int_lt, pos, ◌-ℤ◌}
use Rattle.std.proofs.Common.{refl, sym, ap, ◌∙◌, arith, get_or}
use Rattle.std.proofs.lemmas.Bool.Decides.{nat_tests}
use Rattle.uc_circuit.specs.declared.signal.Signal.{Signal}
use Rattle.std.proofs.Math.Nat.{pow-suc}
use Rattle.std.proofs.lemmas.Int.{ints}
use Rattle.std.proofs.lemmas.List.{take_all}
use Rattle.uc_values.specs.Operators.{signed}
use Rattle.uc_circuit.specs.Signals.{signal_value, turned, differ, number, bit}
use Rattle.uc_circuit.specs.Building.{Building, Grows}
use Rattle.uc_circuit.specs.Meanings.{Means}
use Rattle.uc_circuit.proofs.Growing.{grows-trans, obeys-back}
use Rattle.uc_circuit.proofs.Choices.{turned-value}
use Rattle.uc_circuit.proofs.Numbers.{number-more, number-front}

less-step : (p r s m n : ℕ) (x y : Bool) → r < p → s < p → m ≡ r + p * bit x → n ≡ s + p * bit y → cond (differ x y) y (nat_lt r s) ≡ nat_lt m n
less-step p r s m n true true hr hs em en = grind (arith, nat_tests)
less-step p r s m n true false hr hs em en = grind (arith, nat_tests)
less-step p r s m n false true hr hs em en = grind (arith, nat_tests)
less-step p r s m n false false hr hs em en = grind (arith, nat_tests)

equal-step : (p r s m n : ℕ) (x y : Bool) → r < p → s < p → m ≡ r + p * bit x → n ≡ s + p * bit y → (nat_eq r s && not (differ x y)) ≡ nat_eq m n
equal-step p r s m n true true hr hs em en = grind (arith, nat_tests)
equal-step p r s m n true false hr hs em en = grind (arith, nat_tests)
equal-step p r s m n false true hr hs em en = grind (arith, nat_tests)
equal-step p r s m n false false hr hs em en = grind (arith, nat_tests)

pub less-more : (v : ℕ → Bool) (a b : List Signal) (i : ℕ) (d e : Signal) → i < length a → i < length b
    → cond (differ (signal_value v (get_or a i d)) (signal_value v (get_or b i e))) (signal_value v (get_or b i e)) (nat_lt (number v (take i a)) (number v (take i b)))
    ≡ nat_lt (number v (take (i + 1) a)) (number v (take (i + 1) b))
less-more v a b i d e ha hb =
    let la : i ≤ length a = omega arith in
    let lb : i ≤ length b = omega arith in
    less-step (2 ^ i) (number v (take i a)) (number v (take i b)) (number v (take (i + 1) a)) (number v (take (i + 1) b))
    (signal_value v (get_or a i d)) (signal_value v (get_or b i e)) (number-front v a i la) (number-front v b i lb) (number-more v a i d ha) (number-more v b i e hb)

pub equal-more : (v : ℕ → Bool) (a b : List Signal) (i : ℕ) (d e : Signal) → i < length a → i < length b
    → (nat_eq (number v (take i a)) (number v (take i b)) && not (differ (signal_value v (get_or a i d)) (signal_value v (get_or b i e))))
    ≡ nat_eq (number v (take (i + 1) a)) (number v (take (i + 1) b))
equal-more v a b i d e ha hb =
    let la : i ≤ length a = omega arith in
    let lb : i ≤ length b = omega arith in
    equal-step (2 ^ i) (number v (take i a)) (number v (take i b)) (number v (take (i + 1) a)) (number v (take (i + 1) b))
    (signal_value v (get_or a i d)) (signal_value v (get_or b i e)) (number-front v a i la) (number-front v b i lb) (number-more v a i d ha) (number-more v b i e hb)

pub equal-turn :
    (start old one two : Building) (m more : (ℕ → Bool) → Bool) (x y same d td next : Signal)
    → Grows start old × Means old m same → Grows old one → Means one (λ v. differ (signal_value v x) (signal_value v y)) d → td ≡ turned d
    → Grows one two → Means two (λ v. signal_value v same && signal_value v td) next
    → ((v : ℕ → Bool) → (m v && not (differ (signal_value v x) (signal_value v y))) ≡ more v)
    → Grows start two × Means two more next
equal-turn start old one two m more x y same d td next t g md is h mn step = (
  grows-trans start old two t.0 (grows-trans old one two g h),
  record {
    below = mn.below;
    value = λ v o.
        let o1 = obeys-back one two h v o in
        mn.value v o
        ∙ ap (λ b. b && signal_value v td) (t.1.value v (obeys-back old one g v o1))
        ∙ ap (λ b. m v && b) (ap (signal_value v) is ∙ turned-value v d ∙ ap not (md.value v o1))
        ∙ step v;
  },
)

pub less-turn :
    (start old one two : Building) (m more : (ℕ → Bool) → Bool) (x y pick less d next : Signal)
    → Grows start old × Means old m less → Grows old one → Means one (λ v. differ (signal_value v x) (signal_value v y)) d
    → Grows one two → Means two (λ v. cond (signal_value v d) (signal_value v pick) (signal_value v less)) next
    → ((v : ℕ → Bool) → cond (differ (signal_value v x) (signal_value v y)) (signal_value v pick) (m v) ≡ more v)
    → Grows start two × Means two more next
less-turn start old one two m more x y pick less d next t g md h mn step = (
  grows-trans start old two t.0 (grows-trans old one two g h),
  record {
    below = mn.below;
    value = λ v o.
        let o1 = obeys-back one two h v o in
        mn.value v o
        ∙ ap (λ b. cond b (signal_value v pick) (signal_value v less)) (md.value v o1)
        ∙ ap (λ b. cond (differ (signal_value v x) (signal_value v y)) (signal_value v pick) b) (t.1.value v (obeys-back old one g v o1))
        ∙ step v;
  },
)

-- the highest bit of a number in two's complement
signed-high : (i p r m : ℕ) → r < p → p ≡ 2 ^ i → m ≡ r + p * 1 → signed (i + 1) m ≡ pos m -ℤ pos (2 ^ (i + 1))
signed-high i p r m h e em =
    let one : i + 1 - 1 ≡ i = omega arith in
    let high : nat_lt m (2 ^ (i + 1 - 1)) ≡ false = rw one (grind (arith, nat_tests)) in
    ap (λ b. cond b (pos m) (pos m -ℤ pos (2 ^ (i + 1)))) high

signed-low : (i p r m : ℕ) → r < p → p ≡ 2 ^ i → m ≡ r + p * 0 → signed (i + 1) m ≡ pos m
signed-low i p r m h e em =
    let one : i + 1 - 1 ≡ i = omega arith in
    let low : nat_lt m (2 ^ (i + 1 - 1)) ≡ true = rw one (grind (arith, nat_tests)) in
    ap (λ b. cond b (pos m) (pos m -ℤ pos (2 ^ (i + 1)))) low

pow-one-more : (i : ℕ) → 2 ^ (i + 1) ≡ 2 ^ i * 2
pow-one-more i = ap (λ k. 2 ^ k) (omega arith) ∙ pow-suc 2 i

both-high : (m n r s p q : ℕ) → m ≡ r + p * 1 → n ≡ s + p * 1 → nat_lt r s ≡ int_lt (pos m -ℤ pos q) (pos n -ℤ pos q)
both-high m n r s p q em en = grind (arith, ints, nat_tests)

high-first : (m n q : ℕ) → m < q → true ≡ int_lt (pos m -ℤ pos q) (pos n)
high-first m n q h = grind (arith, ints, nat_tests)

high-second : (m n q : ℕ) → n < q → false ≡ int_lt (pos m) (pos n -ℤ pos q)
high-second m n q h = grind (arith, ints, nat_tests)

both-low : (m n r s p : ℕ) → m ≡ r + p * 0 → n ≡ s + p * 0 → nat_lt r s ≡ int_lt (pos m) (pos n)
both-low m n r s p em en = grind (arith, ints, nat_tests)

signed-step : (i p r s m n : ℕ) (x y : Bool) → r < p → s < p → p ≡ 2 ^ i → m ≡ r + p * bit x → n ≡ s + p * bit y
    → cond (differ x y) x (nat_lt r s) ≡ int_lt (signed (i + 1) m) (signed (i + 1) n)
signed-step i p r s m n true true hr hs e em en =
    both-high m n r s p (2 ^ (i + 1)) em en
    ∙ sym (ap (λ z. int_lt z (signed (i + 1) n)) (signed-high i p r m hr e em) ∙ ap (λ z. int_lt (pos m -ℤ pos (2 ^ (i + 1))) z) (signed-high i p s n hs e en))
signed-step i p r s m n true false hr hs e em en =
    let q : m < 2 ^ (i + 1) = omega (arith, pow-one-more i) in
    high-first m n (2 ^ (i + 1)) q
    ∙ sym (ap (λ z. int_lt z (signed (i + 1) n)) (signed-high i p r m hr e em) ∙ ap (λ z. int_lt (pos m -ℤ pos (2 ^ (i + 1))) z) (signed-low i p s n hs e en))
signed-step i p r s m n false true hr hs e em en =
    let q : n < 2 ^ (i + 1) = omega (arith, pow-one-more i) in
    high-second m n (2 ^ (i + 1)) q
    ∙ sym (ap (λ z. int_lt z (signed (i + 1) n)) (signed-low i p r m hr e em) ∙ ap (λ z. int_lt (pos m) z) (signed-high i p s n hs e en))
signed-step i p r s m n false false hr hs e em en =
    both-low m n r s p em en
    ∙ sym (ap (λ z. int_lt z (signed (i + 1) n)) (signed-low i p r m hr e em) ∙ ap (λ z. int_lt (pos m) z) (signed-low i p s n hs e en))

pub signed-more : (v : ℕ → Bool) (a b : List Signal) (i : ℕ) (d e : Signal) → i + 1 ≡ length a → length b ≡ length a
    → cond (differ (signal_value v (get_or a i d)) (signal_value v (get_or b i e))) (signal_value v (get_or a i d)) (nat_lt (number v (take i a)) (number v (take i b)))
    ≡ int_lt (signed (length a) (number v a)) (signed (length a) (number v b))
signed-more v a b i d e is long =
    let la : i ≤ length a = omega arith in
    let lb : i ≤ length b = omega arith in
    let ha : i < length a = omega arith in
    let hb : i < length b = omega arith in
    signed-step i (2 ^ i) (number v (take i a)) (number v (take i b)) (number v (take (i + 1) a)) (number v (take (i + 1) b))
    (signal_value v (get_or a i d)) (signal_value v (get_or b i e)) (number-front v a i la) (number-front v b i lb) refl (number-more v a i d ha) (number-more v b i e hb)
    ∙ ap (λ xs. int_lt (signed (i + 1) (number v xs)) (signed (i + 1) (number v (take (i + 1) b)))) (take_all (i + 1) a (omega arith))
    ∙ ap (λ xs. int_lt (signed (i + 1) (number v a)) (signed (i + 1) (number v xs))) (take_all (i + 1) b (omega arith))
    ∙ ap (λ w. int_lt (signed w (number v a)) (signed w (number v b))) is
