-- What stays true where a circuit grows.
use Rattle.std.specs.Prelude.{ℕ, ◌+◌, ◌≤◌, Bool, List, [], ◌++◌, length, slice_get}
use Rattle.std.proofs.Common.{refl, sym, ap, ◌∙◌, arith, length-append, append-nil, append_assoc}
use Rattle.std.proofs.lemmas.Option.{slice_get_within}
use Rattle.std.proofs.lemmas.List.Elements.{All-weaker}
use Rattle.uc_circuit.specs.declared.gate.Gate.{Gate}
use Rattle.uc_circuit.specs.declared.signal.Signal.{Signal}
use Rattle.uc_circuit.specs.declared.signal.Signal.TheVariants.{Constant, Of}
use Rattle.uc_circuit.specs.Signals.{Below, AllBelow}
use Rattle.uc_circuit.specs.Building.{Building, Grows, size, Obeys}
use Rattle.uc_circuit.specs.Meanings.{Means, Amounts}
use Rattle.uc_circuit.proofs.Sharing.{slice_get-front}

pub grows-refl : (b : Building) → Grows b b
grows-refl b = record { inputs = refl; more = []; gates = sym (append-nil b.gates) }

pub grows-trans : (a b c : Building) → Grows a b → Grows b c → Grows a c
grows-trans a b c g h = record {
  inputs = h.inputs ∙ g.inputs;
  more = g.more ++ h.more;
  gates = h.gates ∙ ap (λ gs. gs ++ h.more) g.gates ∙ append_assoc a.gates g.more h.more;
}

pub grows-size : (a b : Building) → Grows a b → size a ≤ size b
grows-size a b g = omega (arith, g.inputs, ap (length {A = Gate}) g.gates, length-append a.gates g.more)

pub below-more : (m n : ℕ) → m ≤ n → (s : Signal) → Below m s → Below n s
below-more m n le (Constant b) h = tt
below-more m n le (Of l) h = omega arith

pub all_below-more : (m n : ℕ) → m ≤ n → (ss : List Signal) → AllBelow m ss → AllBelow n ss
all_below-more m n le ss h = All-weaker (Below m) (Below n) (below-more m n le) ss h

pub below-grown : (a b : Building) → Grows a b → (s : Signal) → Below (size a) s → Below (size b) s
below-grown a b g s h = below-more (size a) (size b) (grows-size a b g) s h

pub all_below-grown : (a b : Building) → Grows a b → (ss : List Signal) → AllBelow (size a) ss → AllBelow (size b) ss
all_below-grown a b g ss h = all_below-more (size a) (size b) (grows-size a b g) ss h

-- values that obey all gates obey those that were there
pub obeys-back : (a b : Building) → Grows a b → (v : ℕ → Bool) → Obeys v b → Obeys v a
obeys-back a b grown v o k g h =
    ap (λ n. v (n + k)) (sym grown.inputs)
    ∙ o k g (ap (λ gs. slice_get gs k) grown.gates ∙ slice_get-front a.gates grown.more k (slice_get_within a.gates k g h) ∙ h)

pub means-grown : (a b : Building) → Grows a b → (meaning : (ℕ → Bool) → Bool) (s : Signal) → Means a meaning s → Means b meaning s
means-grown a b g meaning s m = record { below = below-grown a b g s m.below; value = λ v o. m.value v (obeys-back a b g v o) }

pub amounts-grown : (a b : Building) → Grows a b → (width : ℕ) (meaning : (ℕ → Bool) → ℕ) (ss : List Signal) → Amounts a width meaning ss → Amounts b width meaning ss
amounts-grown a b g width meaning ss m =
    record { below = all_below-grown a b g ss m.below; long = m.long; value = λ v o. m.value v (obeys-back a b g v o) }
