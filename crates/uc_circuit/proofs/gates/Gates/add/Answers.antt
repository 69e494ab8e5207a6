use Rattle.std.proofs.Common.{arith, sym, ap, subst}
use Rattle.uc_circuit.specs.Gates.{OperandsBelow, gate_value}
use Rattle.uc_circuit.specs.declared.signal.Signal.TheVariants.{Of}
use Rattle.uc_circuit.specs.Building.{Building, size}
use Rattle.uc_circuit.specs.Meanings.{Means}
use Rattle.uc_circuit.proofs.GateEquality.{same_gate}
use Rattle.uc_circuit.proofs.Sharing.{Shares, shared, gate-means}
use Rattle.uc_circuit.proofs.gates.Gates.add.Goals as goal

inside : (c : goal.After-positive) → Shares c.self.inside.inputs c.self.inside.gates.keys c.insert_full.new.self.keys c.args.gate c.in_ok-place.place
unfolding same_gate
inside c =
    let stored = c.in_ok-place.ensures.stored in
    shared c.self.inside.inputs c.self.inside.gates.keys c.insert_full.new.self.keys c.args.gate stored.0 c.in_ok-place.place
    c.self.invariant (subst (λ (b : Building). OperandsBelow (size b) c.args.gate) (sym c.self.view_is) c.requires) (omega (arith, c.self.invariant.small, c.if-len.false, c.len.ensures.len, ap size c.self.view_is)) c.in_ok-place.ensures.keys stored.1 stored.2

pub invariant_of-self-2 : goal.invariant_of-self-2
invariant_of-self-2 c = (inside c).building

pub returns-clause-ok : goal.returns-clause-ok
returns-clause-ok c =
    subst (λ l. Means (record { inputs = c.self.inside.inputs; gates = c.insert_full.new.self.keys }) (λ v. gate_value v c.args.gate) (Of l)) (sym c.positive.ensures)
    (gate-means c.self.inside.inputs c.insert_full.new.self.keys c.args.gate c.in_ok-place.place (inside c).there)
