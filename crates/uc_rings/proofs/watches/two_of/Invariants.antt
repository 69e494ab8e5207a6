use Rattle.std.proofs.Common.{◌≡◌, take}
use Rattle.std.specs.Prelude.{All}
use Rattle.uc_circuit.specs.declared.literal.Lit.{Lit}
use Rattle.uc_rings.proofs.watches.two_of.Given as goal

abbrev pub invariant-loop-literal : goal.invariant-loop-literal
invariant-loop-literal l = All (λ (m : Lit). m ≡ l.first) (take l.literal-index l.clause)
