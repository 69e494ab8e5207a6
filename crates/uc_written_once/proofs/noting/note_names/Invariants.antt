use Rattle.uc_written_once.specs.Walks.{one_name}
use Rattle.uc_written_once.proofs.WrittenOnceTurns.{EachFrom}
use Rattle.uc_written_once.proofs.noting.note_names.Given as goal

abbrev pub invariant-loop-identifier : goal.invariant-loop-identifier
invariant-loop-identifier l = EachFrom (λ i. one_name l.place i.name) l.names l.again l.fn.seen l.fn.first l.identifier-index l.seen l.first
