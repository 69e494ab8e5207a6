use Rattle.std.proofs.Common.{sym, ◌∙◌}
use Rattle.std.specs.Prelude.{nat_eq}
use Rattle.uc_cycles.proofs.Naming.{any_of_map, named_end}
use Rattle.uc_cycles.proofs.bound.names_of.Goals as goal

pub returns : goal.returns
returns c x =
    named_end (λ y p. nat_eq y p.identifier.name) c.args.parameters.now c.loop-parameter.parameter-index c.loop-parameter.names c.loop-parameter-test.false c.loop-parameter.invariant x
    ∙ sym (any_of_map (nat_eq x) (λ p. p.identifier.name) c.args.parameters.now)
