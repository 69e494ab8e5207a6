use Rattle.std.proofs.Common.{ap, ◌∙◌}
use Rattle.uc_rules.specs.declared.rule.Rule.TheVariants.{Cycle}
use Rattle.uc_rules.specs.Faults.{breaks_where, first_of}
use Rattle.uc_uses.specs.Noted.{noted_binding}
use Rattle.uc_uses.proofs.Told.{told_begin, told_end, told_more}
use Rattle.uc_uses.proofs.noting.note_bindings.Goals as goal

pub loop-binding-init : goal.loop-binding-init
loop-binding-init c = told_begin (noted_binding c.args.root.now.table c.args.flags.now c.args.below) c.args.bindings.now c.args.first.now

pub loop-binding-preserved : goal.loop-binding-preserved
loop-binding-preserved c =
    told_more (noted_binding c.args.root.now.table c.args.flags.now c.args.below) c.args.bindings.now c.args.first.now c.loop-binding.binding-index c.binding-item.result c.loop-binding.first c.note_where.new.first c.loop-binding-test.true c.loop-binding.invariant
    (c.note_where.ensures
    ∙ ap (λ b. first_of c.loop-binding.first (breaks_where b Cycle c.binding-item.result.identifier.place)) c.is_flagged-found.ensures
    ∙ ap (λ x. first_of c.loop-binding.first (noted_binding c.args.root.now.table c.args.flags.now c.args.below x)) c.binding-item.is)

pub returns : goal.returns
returns c = told_end (noted_binding c.args.root.now.table c.args.flags.now c.args.below) c.args.bindings.now c.args.first.now c.loop-binding.binding-index c.loop-binding.first c.loop-binding-test.false c.loop-binding.invariant
