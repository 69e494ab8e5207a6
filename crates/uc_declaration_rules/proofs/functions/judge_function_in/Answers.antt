use Rattle.uc_declaration_rules.proofs.Joined.{function_of_parts}
use Rattle.uc_declaration_rules.proofs.functions.judge_function_in.Goals as goal

pub returns : goal.returns
returns c =
    function_of_parts c.args.scope.now c.args.scope.now c.note_parameters.new.scope c.args.parameters.now c.args.ty.now c.place_of.result c.in_ok-given.given c.args.first.now c.note_parameters.new.first c.note_type.new.first c.note_scalars.new.first c.note_scalar.new.first
    c.requires c.in_ok-note_parameters.ensures c.in_ok-given.ensures.ty c.in_ok-given.ensures.faults c.in_ok-note_scalars.ensures (c.place_of.ensures c.args.scope.now.system c.args.scope.now.home) c.note_scalar.ensures
