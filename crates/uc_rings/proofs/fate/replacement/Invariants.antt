use Rattle.std.proofs.Common.{◌≡◌, ◌⊎◌, take}
use Rattle.std.specs.Prelude.{All}
use Rattle.uc_circuit.specs.declared.literal.Lit.{Lit}
use Rattle.uc_circuit.specs.Values.{IsFalse}
use Rattle.uc_rings.proofs.fate.replacement.Given as goal

abbrev pub invariant-loop-literal : goal.invariant-loop-literal
invariant-loop-literal l = All (λ (m : Lit). (m ≡ l.other) ⊎ IsFalse l.values m) (take l.literal-index l.clause)
