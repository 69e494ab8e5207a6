-- Values of turned signals and of simple gates.
use Rattle.std.specs.Prelude.{◌≡◌, ℕ, Bool, true, false, not, ◌&&◌, ◌||◌, cond}
use Rattle.std.proofs.Common.{refl, sym, ap, ◌∙◌, subst}
use Rattle.uc_circuit.specs.declared.signal.Signal.{Signal}
use Rattle.uc_circuit.specs.declared.signal.Signal.TheVariants.{Constant, Of}
use Rattle.uc_circuit.specs.Signals.{Below, signal_value, turned}
use Rattle.uc_circuit.specs.Building.{Building, size}
use Rattle.uc_circuit.specs.Meanings.{Means}

pub not-not : (b : Bool) → not (not b) ≡ b
not-not true = refl
not-not false = refl

literal-negated : (b neg : Bool) → cond (not neg) (not b) b ≡ not (cond neg (not b) b)
literal-negated b true = sym (not-not b)
literal-negated b false = refl

pub turned-value : (v : ℕ → Bool) (s : Signal) → signal_value v (turned s) ≡ not (signal_value v s)
turned-value v (Constant b) = refl
turned-value v (Of l) = literal-negated (v l.var) l.neg

pub turned-below : (n : ℕ) (s : Signal) → Below n s → Below n (turned s)
turned-below n (Constant b) h = tt
turned-below n (Of l) h = h

or-turned : (a b : Bool) → not (not a && not b) ≡ (a || b)
or-turned true b = refl
or-turned false b = not-not b

-- neither of two turned signals is the same as one of the two
pub or-means :
    (b : Building) (x y p q n r : Signal) → p ≡ turned x → q ≡ turned y → r ≡ turned n
    → Means b (λ v. signal_value v p && signal_value v q) n → Means b (λ v. signal_value v x || signal_value v y) r
or-means b x y p q n r ep eq er m = record {
  below = subst (Below (size b)) (sym er) (turned-below (size b) n m.below);
  value = λ v o.
      ap (signal_value v) er ∙ turned-value v n ∙ ap not (m.value v o)
      ∙ ap (λ t. not (t && signal_value v q)) (ap (signal_value v) ep ∙ turned-value v x)
      ∙ ap (λ t. not (not (signal_value v x) && t)) (ap (signal_value v) eq ∙ turned-value v y)
      ∙ or-turned (signal_value v x) (signal_value v y);
}
