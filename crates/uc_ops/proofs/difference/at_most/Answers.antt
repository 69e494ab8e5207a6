use Rattle.std.proofs.Common.{arith, ◌^◌, ◌≤◌}
use Rattle.std.proofs.Math.Pow.{pow_mono}
use Rattle.uc_ops.proofs.difference.at_most.Goals as goal

pub returns-else-width-lt64 : goal.returns-else-width-lt64
returns-else-width-lt64 c =
    let wide : 2 ^ 64 ≤ 2 ^ c.in-Bv.width = pow_mono c.if-width-lt64.false in
    rw c.in-Bv.is (omega (arith, wide, c.ranges.count.fits))
