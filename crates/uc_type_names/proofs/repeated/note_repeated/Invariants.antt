use Rattle.uc_rules.specs.Names.{names_one_of}
use Rattle.uc_type_names.proofs.Repeats.{RepeatedFrom}
use Rattle.uc_type_names.proofs.repeated.note_repeated.Given as goal

abbrev pub invariant-loop-identifier : goal.invariant-loop-identifier
invariant-loop-identifier l = RepeatedFrom (names_one_of l.taken) l.fn.seen l.identifiers l.fn.first l.identifier-index l.seen l.first
