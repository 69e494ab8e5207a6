use Rattle.uc_declaration_rules.proofs.Joined.{define_of_parts}
use Rattle.uc_declaration_rules.proofs.functions.judge_define_in.Goals as goal

pub returns : goal.returns
returns c =
    define_of_parts c.args.scope.now c.args.scope.now c.note_parameters.new.scope c.args.place c.args.parameters.now c.args.ty.now c.args.body.now c.in_ok-written.written c.in_ok-given.given c.same_outcome.result
    c.args.first.now c.note_parameters.new.first c.note_type.new.first c.judge.new.first c.settle.new.first
    c.requires c.in_ok-note_parameters.ensures c.in_ok-written.ensures.ty c.in_ok-written.ensures.faults c.in_ok-given.ensures c.same_outcome.ensures c.settle.ensures.faults
