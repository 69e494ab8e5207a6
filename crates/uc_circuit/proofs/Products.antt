-- Products.
use Rattle.std.specs.Prelude.{◌≡◌, ℕ, ◌+◌, ◌-◌, ◌*◌, ◌/◌, ◌%◌, ◌^◌, ◌<◌, ◌≤◌, Bool, true, false, ◌&&◌, List, ◌++◌, length, take, drop, replicate}
use Rattle.std.proofs.Common.{refl, sym, ap, ◌∙◌, arith, subst, get_or}
use Rattle.std.proofs.Math.Nat.{mul-add, add-mul, mul_assoc, mul_comm, mul-add-mod_self_right}
use Rattle.std.proofs.lemmas.Nat.{pow_pos, div-add-mod', mod-pow-add, mod_low, shr_high}
use Rattle.std.proofs.lemmas.List.{length-append, length-take-le, length-drop, length-replicate, take_all}
use Rattle.std.proofs.lemmas.List.Elements.{All-append, All-replicate, All-take}
use Rattle.uc_values.specs.Operators.{multiplied}
use Rattle.uc_circuit.specs.declared.signal.Signal.{Signal}
use Rattle.uc_circuit.specs.declared.signal.Signal.TheVariants.{Constant}
use Rattle.uc_circuit.specs.Signals.{signal_value, number, bit, Below, AllBelow}
use Rattle.uc_circuit.specs.Building.{Building, Grows, size}
use Rattle.uc_circuit.specs.Meanings.{Amounts}
use Rattle.uc_circuit.proofs.Growing.{grows-refl, grows-trans, all_below-grown, obeys-back}
use Rattle.uc_circuit.proofs.Numbers.{number-append, number-take, number-more, number-split, number-front}
use Rattle.uc_circuit.proofs.Sums.{number-zeros}
use Rattle.uc_circuit.proofs.Turns.{Turn}

times-bit : (p r n : ℕ) (x y : Bool) → n ≡ r + p * bit x → r * bit y + p * bit (x && y) ≡ n * bit y
times-bit p r n true true e = omega arith
times-bit p r n true false e = omega arith
times-bit p r n false true e = omega arith
times-bit p r n false false e = omega arith

pub times-more : (v : ℕ → Bool) (a : List Signal) (i : ℕ) (d by : Signal) → i < length a
    → number v (take i a) * bit (signal_value v by) + 2 ^ i * bit (signal_value v (get_or a i d) && signal_value v by) ≡ number v (take (i + 1) a) * bit (signal_value v by)
times-more v a i d by h = times-bit (2 ^ i) (number v (take i a)) (number v (take (i + 1) a)) (signal_value v (get_or a i d)) (signal_value v by) (number-more v a i d h)

-- what is left of a sum, where a part is taken modulo before
part-mod : (q A x m : ℕ) → (q + A % m * x) % m ≡ (q + A * x) % m
part-mod q A x m =
    let split : A / m * m + A % m ≡ A = div-add-mod' A m in
    let times : (A / m * m + A % m) * x ≡ A / m * m * x + A % m * x = add-mul (A / m * m) (A % m) x in
    let turn : A / m * m * x ≡ A / m * x * m = mul_assoc (A / m) m x ∙ ap (λ y. A / m * y) (mul_comm m x) ∙ sym (mul_assoc (A / m) x m) in
    let all : q + A * x ≡ A / m * x * m + (q + A % m * x) = omega (arith, ap (λ y. y * x) split, times, turn) in
    sym (ap (λ y. y % m) all ∙ mul-add-mod_self_right (A / m * x) m (q + A % m * x))

row-math : (k j r q A x : ℕ) → r < 2 ^ k → r + 2 ^ k * ((q + A % 2 ^ j * x + 0) % 2 ^ j) ≡ ((r + 2 ^ k * q) + 2 ^ k * (A * x)) % 2 ^ (j + k)
row-math k j r q A x h =
    let p = 2 ^ k in
    let z = q + A * x in
    let all : (r + p * q) + p * (A * x) ≡ z * p + r = omega (arith, mul-add p q (A * x), mul_comm p z) in
    let right : (z * p + r) % 2 ^ (j + k) ≡ z % 2 ^ j * p + r =
    mod-pow-add (z * p + r) j k ∙ ap (λ y. y % 2 ^ j * p + (z * p + r) % p) (shr_high z k r h) ∙ ap (λ y. z % 2 ^ j * p + y) (mod_low z k r h) in
    let left : (q + A % 2 ^ j * x + 0) % 2 ^ j ≡ z % 2 ^ j = ap (λ y. y % 2 ^ j) (omega arith) ∙ part-mod q A x (2 ^ j) in
    ap (λ y. r + p * y) left ∙ omega (arith, mul_comm p (z % 2 ^ j)) ∙ sym (ap (λ y. y % 2 ^ (j + k)) all ∙ right)

-- one more row of a product
pub row-all :
    (start one two : Building) (sum a row high top out : List Signal) (by : Signal) (k : ℕ)
    → k ≤ length a → length sum ≡ length a → AllBelow (size start) sum
    → Grows start one → Amounts one (length (take (length a - k) a)) (λ v. number v (take (length a - k) a) * bit (signal_value v by)) row
    → top ≡ drop k sum → Grows one two → Amounts two (length top) (λ v. (number v top + number v row + 0) % 2 ^ length top) high
    → out ≡ take k sum ++ high
    → Amounts two (length a) (λ v. (number v sum + 2 ^ k * (number v a * bit (signal_value v by))) % 2 ^ length a) out
row-all start one two sum a row high top out by k hk long below g r et h s is =
    let w = length a in
    let j = w - k in
    let lk : k ≤ length sum = omega arith in
    let lj : j ≤ length a = omega arith in
    let front : length (take k sum) ≡ k = length-take-le k sum lk in
    let back : length (drop k sum) ≡ j = length-drop k sum ∙ omega arith in
    let e : j + k ≡ w = omega arith in record {
      below = subst (AllBelow (size two)) (sym is)
          (All-append (Below (size two)) (take k sum) high
          (All-take (Below (size two)) k sum (all_below-grown start two (grows-trans start one two g h) sum below)) s.below);
      long = ap (length {A = Signal}) is ∙ length-append (take k sum) high ∙ omega (arith, front, back, s.long, ap (length {A = Signal}) et);
      value = λ v o.
          let x = bit (signal_value v by) in
          let er : number v row ≡ number v a % 2 ^ j * x = r.value v (obeys-back one two h v o) ∙ ap (λ y. y * x) (number-take v a j lj) in
          let split : number v sum ≡ number v (take k sum) + 2 ^ k * number v (drop k sum) = number-split v sum k lk in
          ap (number v) is ∙ number-append v (take k sum) high
          ∙ ap (λ y. number v (take k sum) + 2 ^ y * number v high) front
          ∙ ap (λ y. number v (take k sum) + 2 ^ k * y)
          (s.value v o ∙ ap (λ xs. (number v xs + number v row + 0) % 2 ^ length xs) et ∙ ap (λ y. (number v (drop k sum) + y + 0) % 2 ^ length (drop k sum)) er ∙ ap (λ y. (number v (drop k sum) + number v a % 2 ^ j * x + 0) % 2 ^ y) back)
          ∙ row-math k j (number v (take k sum)) (number v (drop k sum)) (number v a) x (number-front v sum k lk)
          ∙ ap (λ y. (y + 2 ^ k * (number v a * x)) % 2 ^ (j + k)) (sym split)
          ∙ ap (λ y. (number v sum + 2 ^ k * (number v a * x)) % 2 ^ y) e;
    }

sum-math : (w A n p x m : ℕ) → m ≡ n + p * x → (A * n % 2 ^ w + p * (A * x)) % 2 ^ w ≡ A * m % 2 ^ w
sum-math w A n p x m e =
    let M = 2 ^ w in
    let split : A * n / M * M + A * n % M ≡ A * n = div-add-mod' (A * n) M in
    let times : A * (n + p * x) ≡ A * n + A * (p * x) = mul-add A n (p * x) in
    let turn : A * (p * x) ≡ p * (A * x) = sym (mul_assoc A p x) ∙ ap (λ y. y * x) (mul_comm A p) ∙ mul_assoc p A x in
    let all : A * m ≡ A * n / M * M + (A * n % M + p * (A * x)) = ap (λ y. A * y) e ∙ omega (arith, split, times, turn) in
    sym (ap (λ y. y % M) all ∙ mul-add-mod_self_right (A * n / M) M (A * n % M + p * (A * x)))

pub product-none : (b : Building) (a b' zs : List Signal) → zs ≡ replicate (length a) (Constant false)
    → Turn b b (length a) (λ v. (number v a * number v (take 0 b')) % 2 ^ length a) zs
product-none b a b' zs is = record {
  grows = grows-refl b;
  amounts = record {
    below = subst (AllBelow (size b)) (sym is) (All-replicate (Below (size b)) (length a) (Constant false) tt);
    long = ap (length {A = Signal}) is ∙ length-replicate (length a) (Constant false);
    value = λ v o. ap (number v) is ∙ number-zeros v (length a) (Constant false) refl
        ∙ sym (ap (λ y. y % 2 ^ length a) (omega arith) ∙ mod_low 0 (length a) 0 (pow_pos (length a)));
  };
}

pub product-more :
    (start old new : Building) (a b sum ss out : List Signal) (i : ℕ) (d : Signal) → i < length b
    → Turn start old (length a) (λ v. (number v a * number v (take i b)) % 2 ^ length a) sum
    → ss ≡ sum
    → Grows old new → Amounts new (length a) (λ v. (number v ss + 2 ^ i * (number v a * bit (signal_value v (get_or b i d)))) % 2 ^ length a) out
    → Turn start new (length a) (λ v. (number v a * number v (take (i + 1) b)) % 2 ^ length a) out
product-more start old new a b sum ss out i d hi t es g r = record {
  grows = grows-trans start old new t.grows g;
  amounts = record {
    below = r.below;
    long = r.long;
    value = λ v o.
        r.value v o
        ∙ ap (λ y. (number v y + 2 ^ i * (number v a * bit (signal_value v (get_or b i d)))) % 2 ^ length a) es
        ∙ ap (λ y. (y + 2 ^ i * (number v a * bit (signal_value v (get_or b i d)))) % 2 ^ length a) (t.amounts.value v (obeys-back old new g v o))
        ∙ sum-math (length a) (number v a) (number v (take i b)) (2 ^ i) (bit (signal_value v (get_or b i d))) (number v (take (i + 1) b)) (number-more v b i d hi);
  };
}

pub product-all : (start now : Building) (a b sum : List Signal) (i : ℕ) → i ≡ length b
    → Turn start now (length a) (λ v. (number v a * number v (take i b)) % 2 ^ length a) sum
    → Amounts now (length a) (λ v. multiplied (length a) (number v a) (number v b)) sum
product-all start now a b sum i is t = record {
  below = t.amounts.below;
  long = t.amounts.long;
  value = λ v o. t.amounts.value v o ∙ ap (λ xs. (number v a * number v xs) % 2 ^ length a) (take_all i b (omega arith));
}
