use Rattle.std.proofs.Common.{ap, ◌∙◌}
use Rattle.uc_rules.specs.Faults.{first_of}
use Rattle.uc_uses.proofs.Told.{told_begin, told_end, told_more}
use Rattle.uc_step_cycles.specs.Noted.{noted_act}
use Rattle.uc_step_cycles.proofs.noting.note_acts.Goals as goal

pub loop-act-init : goal.loop-act-init
loop-act-init c = told_begin (noted_act c.args.names.now c.args.flags.now c.args.node) c.args.acts.now c.args.first.now

pub loop-act-preserved : goal.loop-act-preserved
loop-act-preserved c =
    told_more (noted_act c.args.names.now c.args.flags.now c.args.node) c.args.acts.now c.args.first.now c.loop-act.act-index c.act-item.result c.loop-act.first c.note_act.new.first c.loop-act-test.true c.loop-act.invariant
    (c.note_act.ensures ∙ ap (λ a. first_of c.loop-act.first (noted_act c.args.names.now c.args.flags.now c.args.node a)) c.act-item.is)

pub returns : goal.returns
returns c = told_end (noted_act c.args.names.now c.args.flags.now c.args.node) c.args.acts.now c.args.first.now c.loop-act.act-index c.loop-act.first c.loop-act-test.false c.loop-act.invariant
