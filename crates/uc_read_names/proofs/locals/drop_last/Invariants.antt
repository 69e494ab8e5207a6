use Rattle.std.proofs.Common.{◌≡◌, drop, reverse}
use Rattle.uc_read_names.proofs.locals.drop_last.Given as goal

abbrev pub invariant-loop-turn : goal.invariant-loop-turn
invariant-loop-turn l = reverse l.known ≡ drop l._turn (reverse l.fn.known)
