use Rattle.std.proofs.Common.{◌∙◌, ap, take, ◌-◌, ◌+◌}
use Rattle.std.proofs.lemmas.List.{take_rest}
use Rattle.uc_circuit.proofs.Joins.{extracts}
use Rattle.uc_circuit.proofs.joining.extract.Goals as goal

pub returns : goal.returns
returns c = extracts c.args.a.now _ c.args.high c.args.low c.requires.low c.requires.high (c.in_ok-bits.ensures.items ∙ ap (take (c.args.high - c.args.low + 1)) (take_rest c.args.a.now c.args.low))
