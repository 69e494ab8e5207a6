use Rattle.std.proofs.Common.{arith, ◌+◌}
use Rattle.std.proofs.Math.Pow.{pow_mono}
use Rattle.uc_values.proofs.word.sign_extend.Goals as goal

pub overflow_sub-result : goal.overflow_sub-result
overflow_sub-result c =
    let width = c.args.width in
    let wide = c.args.width + c.args.more in
    omega (arith, pow_mono {i = width} {j = wide} (omega arith), pow_mono {i = wide} {j = 64} c.requires.widths)
