use Rattle.std.proofs.Common.{ap, sym, ◌∙◌}
use Rattle.uc_meaning.specs.Lookup.{or_else}
use Rattle.uc_uses.specs.Inputs.{input_said}
use Rattle.uc_uses.proofs.Firsts.{first_more, first_none, inputs_all}
use Rattle.uc_uses.proofs.inputs.inputs_of.Goals as goal

pub loop-declaration-init : goal.loop-declaration-init
loop-declaration-init c = λ x. c.new-inputs.ensures x ∙ sym (first_none (input_said x))

pub loop-declaration-preserved : goal.loop-declaration-preserved
loop-declaration-preserved c = λ x.
    c.in_ok-enter_declared.ensures x
    ∙ ap (λ o. or_else o (input_said x c.declaration-item.result)) (c.loop-declaration.invariant x)
    ∙ first_more (input_said x) c.args.declarations.now c.loop-declaration.declaration-index c.declaration-item.result c.declaration-item.result c.loop-declaration-test.true c.declaration-item.is

pub returns : goal.returns
returns c = inputs_all c.args.declarations.now c.loop-declaration.declaration-index c.loop-declaration.inputs c.loop-declaration-test.false c.loop-declaration.invariant
