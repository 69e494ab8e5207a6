use Rattle.std.proofs.Common.{ℕ, ◌+◌, length}
use Rattle.uc_linear.proofs.Sums.{Merging}
use Rattle.uc_linear.proofs.Joinings.{combining}
use Rattle.uc_linear.proofs.merge.combination.Given as goal

abbrev pub invariant-both : goal.invariant-both
invariant-both l = (low : ℕ) × Merging (combining l.fn.p l.fn.q) l.a l.b l.merged.items l.left l.right low

abbrev pub decreases-both : goal.decreases-both
decreases-both l = length l.left + length l.right
