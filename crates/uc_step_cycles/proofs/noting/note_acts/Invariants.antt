use Rattle.std.proofs.Common.{◌≡◌, take}
use Rattle.std.specs.List.{flat_map}
use Rattle.uc_rules.specs.Faults.{first_of}
use Rattle.uc_step_cycles.specs.Noted.{noted_act}
use Rattle.uc_step_cycles.proofs.noting.note_acts.Given as goal

abbrev pub invariant-loop-act : goal.invariant-loop-act
invariant-loop-act l = l.first ≡ first_of l.fn.first (flat_map (noted_act l.names l.flags l.node) (take l.act-index l.acts))
