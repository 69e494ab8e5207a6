use Rattle.std.proofs.Common.{◌≡◌, take}
use Rattle.std.specs.List.{flat_map}
use Rattle.uc_obligations.specs.Reading.{choice_read}
use Rattle.uc_obligations.proofs.reading.choices.Given as goal

abbrev pub invariant-loop-choice : goal.invariant-loop-choice
invariant-loop-choice l = l.taken ≡ flat_map (choice_read l.values) (take l.choice-index l.all)
