use Rattle.std.proofs.Common.{ℕ, ◌<◌, take}
use Rattle.uc_meaning.specs.Steps.{is_prefix}
use Rattle.uc_written_once.specs.Places.{AreNoted, Known}
use Rattle.uc_written_once.proofs.table.note_short_fronts.Given as goal

abbrev pub invariant-loop-end : goal.invariant-loop-end
invariant-loop-end l = record {
  known : Known is_prefix l.fn.places l.parts → Known is_prefix l.places l.parts;
  noted : (k : ℕ) → k < l.end → AreNoted is_prefix l.places l.parts l.path (take k l.path);
}
