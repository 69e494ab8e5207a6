use Rattle.std.proofs.Common.{◌≡◌, ◌++◌, map}
use Rattle.uc_meaning.specs.Steps.{state_of}
use Rattle.uc_judge.proofs.lines.states_of.Given as goal

abbrev pub invariant-loop-position : goal.invariant-loop-position
invariant-loop-position l = l.states ++ map (λ p. (state_of p.cells, p.choices)) l.position-iterator.rest.items ≡ map (λ p. (state_of p.cells, p.choices)) l.fn.positions
