use Rattle.std.proofs.Common.{refl}
use Rattle.uc_lookup.specs.Parts.{variable_parts}
use Rattle.uc_meaning.specs.Lookup.{some_if, is_named}
use Rattle.uc_flat_making.proofs.Entered.{entered_more, named_end}
use Rattle.uc_flat_making.proofs.variables.enter_names.Goals as goal

pub loop-identifier-preserved : goal.loop-identifier-preserved
loop-identifier-preserved c =
    entered_more variable_parts (λ x i. some_if (is_named x i) (variable_parts c.args.variable)) c.args.names.now _ _ _ c.loop-identifier.identifier-index _ _
    c.loop-identifier.invariant c.loop-identifier-test.true refl c.in_ok-enter_name.ensures

pub returns : goal.returns
returns c = named_end variable_parts c.args.names.now (variable_parts c.args.variable) _ _ c.loop-identifier.identifier-index c.loop-identifier.invariant c.loop-identifier-test.false
