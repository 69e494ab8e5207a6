use Rattle.std.proofs.Common.{◌≡◌, take}
use Rattle.std.specs.List.{flat_map}
use Rattle.uc_obligations.specs.Reading.{hit_read}
use Rattle.uc_obligations.proofs.reading.sites.Given as goal

abbrev pub invariant-loop-hit : goal.invariant-loop-hit
invariant-loop-hit l = l.failed ≡ flat_map (hit_read l.values) (take l.hit-index l.all)
