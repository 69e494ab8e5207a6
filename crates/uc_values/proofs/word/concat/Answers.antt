use Rattle.std.proofs.Common.{arith}
use Rattle.uc_values.proofs.Words.{joined_small}
use Rattle.uc_values.proofs.word.concat.Goals as goal

pub overflow_add-result : goal.overflow_add-result
overflow_add-result c =
    omega (arith, joined_small c.args.high_width c.args.high c.args.low_width c.args.low c.requires.widths c.requires.high c.requires.low)

pub returns : goal.returns
returns c =
    omega (arith, joined_small c.args.high_width c.args.high c.args.low_width c.args.low c.requires.widths c.requires.high c.requires.low)
