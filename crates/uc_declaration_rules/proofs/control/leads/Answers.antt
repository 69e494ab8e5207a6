use Rattle.std.proofs.Common.{Some, get_or, refl, ap, ◌∙◌}
use Rattle.std.specs.Option.{option_map}
use Rattle.uc_names.specs.Senses.{module_in}
use Rattle.uc_rules.specs.Declarations.{home_of_instance}
use Rattle.uc_rules.specs.Reads.{is_state}
use Rattle.uc_declaration_rules.proofs.Paths.{no_identifier, path_begin, path_last, path_lost, path_more, path_open, path_past}
use Rattle.uc_declaration_rules.proofs.control.leads.Goals as goal

pub loop-k-init : goal.loop-k-init
loop-k-init c = path_begin c.args.scope.now.system (option_map (option_map (module_in c.args.scope.now.system.modules)) c.args.start) c.args.path.now

pub returns-in_default : goal.returns-in_default
returns-in_default c =
    path_lost c.args.scope.now.system (option_map (option_map (module_in c.args.scope.now.system.modules)) c.args.start) c.args.path.now c.loop-k.k (option_map (option_map (module_in c.args.scope.now.system.modules)) c.loop-k.here) c.loop-k.invariant (ap (option_map (option_map (module_in c.args.scope.now.system.modules))) c.in_default.is)

pub returns-then-k-count : goal.returns-then-k-count
returns-then-k-count c =
    path_last c.args.scope.now.system (option_map (option_map (module_in c.args.scope.now.system.modules)) c.args.start) c.args.path.now c.loop-k.k (option_map (option_map (module_in c.args.scope.now.system.modules)) c.loop-k.here) (module_in c.args.scope.now.system.modules c.in-Some-home.number) (get_or c.args.path.now c.loop-k.k no_identifier) no_identifier c.is_state.result
    c.loop-k.invariant (ap (option_map (option_map (module_in c.args.scope.now.system.modules))) (c.in-Some.is ∙ ap Some c.in-Some-home.is)) c.loop-k-test.true refl c.if-k-count.true (c.is_state.ensures ∙ ap is_state c.value_in.ensures)

pub loop-k-preserved : goal.loop-k-preserved
loop-k-preserved c =
    path_more c.args.scope.now.system (option_map (option_map (module_in c.args.scope.now.system.modules)) c.args.start) c.args.path.now c.loop-k.k (option_map (option_map (module_in c.args.scope.now.system.modules)) c.loop-k.here) (option_map (option_map (module_in c.args.scope.now.system.modules)) c.home_of-here.result) (module_in c.args.scope.now.system.modules c.in-Some-home.number) (get_or c.args.path.now c.loop-k.k no_identifier) no_identifier
    c.loop-k.invariant (ap (option_map (option_map (module_in c.args.scope.now.system.modules))) (c.in-Some.is ∙ ap Some c.in-Some-home.is)) c.loop-k-test.true refl c.if-k-count.false (c.home_of-here.ensures ∙ ap (home_of_instance c.args.scope.now.system) c.instance_in.ensures)

pub returns : goal.returns
returns c = path_past c.args.scope.now.system (option_map (option_map (module_in c.args.scope.now.system.modules)) c.args.start) c.args.path.now c.loop-k.k (option_map (option_map (module_in c.args.scope.now.system.modules)) c.loop-k.here) c.loop-k.invariant c.loop-k-test.false

pub returns-in_default-home : goal.returns-in_default-home
returns-in_default-home c =
    path_open c.args.scope.now.system (option_map (option_map (module_in c.args.scope.now.system.modules)) c.args.start) c.args.path.now c.loop-k.k (option_map (option_map (module_in c.args.scope.now.system.modules)) c.loop-k.here) (get_or c.args.path.now c.loop-k.k no_identifier) no_identifier
    c.loop-k.invariant (ap (option_map (option_map (module_in c.args.scope.now.system.modules))) (c.in-Some.is ∙ ap Some c.in_default-home.is)) c.loop-k-test.true refl
