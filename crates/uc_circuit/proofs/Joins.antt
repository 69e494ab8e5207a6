-- Numbers of other widths.
use Rattle.std.specs.Prelude.{◌≡◌, ℕ, ◌+◌, ◌-◌, ◌*◌, ◌%◌, ◌^◌, ◌<◌, ◌≤◌, Bool, true, false, cond, List, ◌++◌, length, take, drop, replicate, nat_lt}
use Rattle.std.proofs.Common.{refl, sym, ap, ◌∙◌, arith, subst, get_or}
use Rattle.std.proofs.Math.Nat.{mul_comm, mul-add}
use Rattle.std.proofs.lemmas.Nat.{pow-add}
use Rattle.std.proofs.lemmas.Bool.Decides.{nat_tests}
use Rattle.std.proofs.lemmas.List.{length-append, length-take-le, length-drop, length-replicate, take_all}
use Rattle.std.proofs.lemmas.List.Elements.{All-append, All-replicate, All-take, All-drop}
use Rattle.uc_values.specs.Operators.{concatenated, extracted, sign_extended, is_low}
use Rattle.uc_circuit.specs.declared.signal.Signal.{Signal}
use Rattle.uc_circuit.specs.declared.signal.Signal.TheVariants.{Constant}
use Rattle.uc_circuit.specs.Signals.{signal_value, number, bit, Below, AllBelow}
use Rattle.uc_circuit.specs.Building.{Building, size}
use Rattle.uc_circuit.specs.Meanings.{Amounts}
use Rattle.uc_circuit.proofs.Numbers.{number-append, number-take, number-drop, number-more, number-front}
use Rattle.uc_circuit.proofs.Sums.{number-zeros}
use Rattle.uc_circuit.proofs.Shifts.{number-ones, mul-zero-right}

pub concats : (high low out : List Signal) → out ≡ low ++ high → (b : Building) → AllBelow (size b) high → AllBelow (size b) low
    → Amounts b (length high + length low) (λ v. concatenated (length low) (number v high) (number v low)) out
concats high low out is b hh hl = record {
  below = subst (AllBelow (size b)) (sym is) (All-append (Below (size b)) low high hl hh);
  long = ap (length {A = Signal}) is ∙ length-append low high ∙ omega arith;
  value = λ v o. ap (number v) is ∙ number-append v low high ∙ omega (arith, mul_comm (2 ^ length low) (number v high));
}

pub extracts : (a out : List Signal) (high low : ℕ) → low ≤ high → high < length a → out ≡ take (high - low + 1) (drop low a) → (b : Building) → AllBelow (size b) a
    → Amounts b (high - low + 1) (λ v. extracted high low (number v a)) out
extracts a out high low le h is b below =
    let l : low ≤ length a = omega arith in
    let k : high - low + 1 ≤ length (drop low a) = omega (arith, length-drop low a) in record {
      below = subst (AllBelow (size b)) (sym is) (All-take (Below (size b)) (high - low + 1) (drop low a) (All-drop (Below (size b)) low a below));
      long = ap (length {A = Signal}) is ∙ length-take-le (high - low + 1) (drop low a) k;
      value = λ v o. ap (number v) is ∙ number-take v (drop low a) (high - low + 1) k ∙ ap (λ n. n % 2 ^ (high - low + 1)) (number-drop v a low l);
    }

pub zeros-before : (a out : List Signal) (more : ℕ) → out ≡ a ++ replicate more (Constant false) → (b : Building) → AllBelow (size b) a
    → Amounts b (length a + more) (λ v. number v a) out
zeros-before a out more is b below = record {
  below = subst (AllBelow (size b)) (sym is) (All-append (Below (size b)) a (replicate more (Constant false)) below (All-replicate (Below (size b)) more (Constant false) tt));
  long = ap (length {A = Signal}) is ∙ length-append a (replicate more (Constant false)) ∙ omega (arith, length-replicate more (Constant false));
  value = λ v o.
      let z = mul-zero-right (2 ^ length a) (number v (replicate more (Constant false))) (number-zeros v more (Constant false) refl) in
      ap (number v) is ∙ number-append v a (replicate more (Constant false)) ∙ omega (arith, z);
}

copies : (v : ℕ → Bool) (w i more A r : ℕ) (s : Signal) (t : Bool) → signal_value v s ≡ t → w ≡ i + 1 → r < 2 ^ i → A ≡ r + 2 ^ i * bit t
    → A + 2 ^ w * number v (replicate more s) ≡ sign_extended w more A
copies v w i more A r s true is e h split =
    let one : w - 1 ≡ i = omega arith in
    let high : is_low w A ≡ false = ap (λ k. nat_lt A (2 ^ k)) one ∙ grind (arith, nat_tests) in
    let ones = number-ones v more s is in
    let grown : 2 ^ w * number v (replicate more s) + 2 ^ w ≡ 2 ^ (w + more) =
    omega (arith, mul-add (2 ^ w) (number v (replicate more s)) 1, ap (λ n. 2 ^ w * n) ones, pow-add 2 w more) in
    let out : A + 2 ^ w * number v (replicate more s) ≡ A + (2 ^ (w + more) - 2 ^ w) = omega arith in
    out ∙ sym (ap (λ b. cond b A (A + (2 ^ (w + more) - 2 ^ w))) high)
copies v w i more A r s false is e h split =
    let one : w - 1 ≡ i = omega arith in
    let low : is_low w A ≡ true = ap (λ k. nat_lt A (2 ^ k)) one ∙ grind (arith, nat_tests) in
    let z = mul-zero-right (2 ^ w) (number v (replicate more s)) (number-zeros v more s is) in
    let out : A + 2 ^ w * number v (replicate more s) ≡ A = omega (arith, z) in
    out ∙ sym (ap (λ b. cond b A (A + (2 ^ (w + more) - 2 ^ w))) low)

pub signs-before : (a out : List Signal) (more i : ℕ) (d : Signal) → i + 1 ≡ length a → out ≡ a ++ replicate more (get_or a i d) → (b : Building) → AllBelow (size b) a
    → Amounts b (length a + more) (λ v. sign_extended (length a) more (number v a)) out
signs-before a out more i d e is b below =
    let h : i < length a = omega arith in
    let l : i ≤ length a = omega arith in
    let s = get_or a i d in record {
      below = subst (AllBelow (size b)) (sym is) (All-append (Below (size b)) a (replicate more s) below (All-replicate (Below (size b)) more s (below i d h)));
      long = ap (length {A = Signal}) is ∙ length-append a (replicate more s) ∙ omega (arith, length-replicate more s);
      value = λ v o.
          let split : number v a ≡ number v (take i a) + 2 ^ i * bit (signal_value v s) =
          sym (ap (number v) (take_all (i + 1) a (omega arith))) ∙ number-more v a i d h in
          ap (number v) is ∙ number-append v a (replicate more s)
          ∙ copies v (length a) i more (number v a) (number v (take i a)) s (signal_value v s) refl (sym e) (number-front v a i l) split;
    }

pub both-lists : (out xs ys a z : List Signal) → out ≡ xs ++ ys → xs ≡ a → ys ≡ z → out ≡ a ++ z
both-lists out xs ys a z e f g = e ∙ ap (λ w. w ++ ys) f ∙ ap (λ w. a ++ w) g
