-- The digits of a number, and the circuit that comes of a list of gates.
use Rattle.std.specs.Prelude.{◌≡◌, ℕ, ◌+◌, ◌*◌, ◌/◌, ◌%◌, ◌^◌, ◌<◌, ◌≤◌, Bool, nat_eq, List, [], ◌∷◌, ◌++◌, length, take, map, replicate, Option, None, Some, slice_get}
use Rattle.std.proofs.Common.{refl, sym, ap, ◌∙◌, arith, subst, get_or, zero, suc}
use Rattle.std.proofs.Math.Nat.{pow-suc, mul-add, mul_assoc}
use Rattle.std.proofs.lemmas.List.{length_push, map_more, append_assoc, length-append, length-replicate, length-map, length-take-le}
use Rattle.std.proofs.lemmas.List.Elements.{All-nil, All-push}
use Rattle.uc_circuit.specs.declared.gate.Gate.{Gate}
use Rattle.uc_circuit.specs.Gates.{OperandsBelow}
use Rattle.uc_circuit.specs.declared.signal.Signal.{Signal}
use Rattle.uc_circuit.specs.declared.signal.Signal.TheVariants.{Constant}
use Rattle.uc_circuit.specs.Signals.{number, bit, Below, AllBelow}
use Rattle.uc_circuit.specs.Building.{Building, IsBuilding}
use Rattle.uc_circuit.specs.Meanings.{AreConstant}
use Rattle.uc_circuit.proofs.Numbers.{number-push}

-- the signals so far, and what is left of the number
pub record Digits (i n rest : ℕ) (out : List Signal) : Type 0 where
  pub below : AllBelow 0 out
  pub long : length out ≡ i
  pub value : (v : ℕ → Bool) → number v out + 2 ^ i * rest ≡ n

pub digits-none : (n : ℕ) → Digits 0 n n []
digits-none n = record { below = All-nil (Below 0); long = refl; value = λ v. omega arith }

digit : (rest : ℕ) → bit (nat_eq (rest % 2) 1) + 2 * (rest / 2) ≡ rest
digit rest = digit-by rest (rest % 2) (rest / 2) (omega arith) (omega arith)
  where
    digit-by : (rest r q : ℕ) → r < 2 → rest ≡ 2 * q + r → bit (nat_eq r 1) + 2 * q ≡ rest
    digit-by rest zero q h e = omega arith
    digit-by rest (suc zero) q h e = omega arith
    digit-by rest (suc (suc r)) q h e = absurd (omega arith)

shared-out : (o p b q r n : ℕ) → b + 2 * q ≡ r → o + p * r ≡ n → (o + p * b) + (p * 2) * q ≡ n
shared-out o p b q r n e f =
    let a : p * (b + 2 * q) ≡ p * b + p * (2 * q) = mul-add p b (2 * q) in
    let c : (p * 2) * q ≡ p * (2 * q) = mul_assoc p 2 q in
    let d : p * (b + 2 * q) ≡ p * r = ap (λ y. p * y) e in
    omega arith

pub digits-more : (i n rest : ℕ) (out : List Signal) → Digits i n rest out → Digits (i + 1) n (rest / 2) (out ++ Constant (nat_eq (rest % 2) 1) ∷ [])
digits-more i n rest out t = record {
  below = All-push (Below 0) out (Constant (nat_eq (rest % 2) 1)) t.below tt;
  long = omega (arith, length_push out (Constant (nat_eq (rest % 2) 1)), t.long);
  value = λ v.
      ap (λ y. y + 2 ^ (i + 1) * (rest / 2)) (number-push v out (Constant (nat_eq (rest % 2) 1)) i t.long)
      ∙ ap (λ p. number v out + 2 ^ i * bit (nat_eq (rest % 2) 1) + p * (rest / 2)) (ap (λ k. 2 ^ k) (omega arith) ∙ pow-suc 2 i)
      ∙ shared-out (number v out) (2 ^ i) (bit (nat_eq (rest % 2) 1)) (rest / 2) rest n (digit rest) (t.value v);
}

no-rest : (o p rest n : ℕ) → o + p * rest ≡ n → n < p → o ≡ n
no-rest o p zero n e h = omega arith
no-rest o p (suc rest) n e h =
    let more : p * suc rest ≡ p * rest + p = omega arith in
    absurd (omega arith)

pub digits-all : (width i n rest : ℕ) (out : List Signal) → i ≡ width → n < 2 ^ width → Digits i n rest out → AreConstant width n out
digits-all width i n rest out is h t = record {
  below = t.below;
  long = t.long ∙ is;
  value = λ v. no-rest (number v out) (2 ^ width) rest n (ap (λ k. number v out + 2 ^ k * rest) (sym is) ∙ t.value v) h;
}

slice_get-get_or : (gates : List Gate) (k : ℕ) (d : Gate) → k < length gates → slice_get gates k ≡ Some (get_or gates k d)
slice_get-get_or [] k d h = absurd (omega arith)
slice_get-get_or (g ∷ gates) zero d h = refl
slice_get-get_or (g ∷ gates) (suc k) d h = slice_get-get_or gates k d (omega arith)

pub gate-operands : (b : Building) → IsBuilding b → (k : ℕ) (d : Gate) → k < length b.gates → (nodes : List (Option Gate))
    → nodes ≡ replicate b.inputs None ++ map (λ g. Some g) (take k b.gates) → OperandsBelow (length nodes) (get_or b.gates k d)
gate-operands b w k d h nodes is =
    let kl : k ≤ length b.gates = omega arith in
    let long : length nodes ≡ b.inputs + k =
    ap (length {A = Option Gate}) is ∙ length-append (replicate b.inputs None) (map (λ g. Some g) (take k b.gates))
    ∙ omega (arith, length-replicate {A = Option Gate} b.inputs None, length-map (take k b.gates) (λ g. Some g), length-take-le k b.gates kl) in
    subst (λ n. OperandsBelow n (get_or b.gates k d)) (sym long) (w.ordered k (get_or b.gates k d) (slice_get-get_or b.gates k d h))

pub nodes-more : (inputs : ℕ) (gates : List Gate) (k : ℕ) (d : Gate) → k < length gates → (nodes more : List (Option Gate))
    → nodes ≡ replicate inputs None ++ map (λ g. Some g) (take k gates) → more ≡ nodes ++ Some (get_or gates k d) ∷ []
    → more ≡ replicate inputs None ++ map (λ g. Some g) (take (k + 1) gates)
nodes-more inputs gates k d h nodes more is e =
    e ∙ ap (λ ns. ns ++ Some (get_or gates k d) ∷ []) is
    ∙ append_assoc (replicate inputs None) (map (λ g. Some g) (take k gates)) (Some (get_or gates k d) ∷ [])
    ∙ ap (λ ns. replicate inputs None ++ ns) (sym (map_more (λ g. Some g) gates k d h))
