-- The test of two literals, and of two lists of them, decides whether they are equal.
use Rattle.std.proofs.Common.{◌≡◌, ℕ, Bool, true, false, List, refl, ap, ◌∙◌}
use Rattle.std.specs.Prelude.{nat_eq}
use Rattle.std.specs.Bool.{Decides}
use Rattle.std.specs.Cmp.Lexicographic.{pointwise, pointwise_decides}
use Rattle.std.proofs.Math.Bool.{beq}
use Rattle.std.proofs.lemmas.Bool.{and_from, and_parts, eqb-true, eq-eqb}
use Rattle.uc_circuit.specs.declared.literal.Lit.{Lit}
use Rattle.uc_circuit.specs.Literals.{same_literal}
use Rattle.uc_circuit.proofs.Scan.{literal_from_parts}

pub same_from_beq : (a b : Bool) → beq a b ≡ true → a ≡ b
same_from_beq true true e = refl
same_from_beq false false e = refl
same_from_beq true false e = absurd (cc)
same_from_beq false true e = absurd (cc)

pub beq_same : (a : Bool) → beq a a ≡ true
beq_same true = refl
beq_same false = refl

pub same_literal_decides : (k l : Lit) → Decides (same_literal k l) (k ≡ l)
same_literal_decides k l = (
  λ e. let parts : (nat_eq k.var l.var ≡ true) × (beq k.neg l.neg ≡ true) = and_parts (nat_eq k.var l.var) (beq k.neg l.neg) e in
      literal_from_parts k l (eqb-true k.var l.var parts.0) (same_from_beq k.neg l.neg parts.1),
  λ e. and_from (nat_eq k.var l.var) (beq k.neg l.neg) (eq-eqb k.var l.var (ap (λ (x : Lit). x.var) e)) (ap (λ (x : Lit). beq k.neg x.neg) (e' e) ∙ beq_same k.neg),
) where
  e' : k ≡ l → l ≡ k
  e' p = cc

pub same_literals_decide : (xs ys : List Lit) → Decides (pointwise same_literal xs ys) (xs ≡ ys)
same_literals_decide = pointwise_decides same_literal_decides
