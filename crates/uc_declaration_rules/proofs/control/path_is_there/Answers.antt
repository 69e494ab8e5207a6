use Rattle.std.proofs.Common.{ap, ◌∙◌}
use Rattle.std.specs.Option.{option_map}
use Rattle.uc_names.specs.Senses.{module_in}
use Rattle.uc_rules.specs.Declarations.{home_of_instance}
use Rattle.uc_rules.specs.Reads.{is_state}
use Rattle.uc_declaration_rules.proofs.Paths.{path_longer, path_none, path_one}
use Rattle.uc_declaration_rules.proofs.control.path_is_there.Goals as goal

pub returns-in-empty : goal.returns-in-empty
returns-in-empty c = path_none c.args.scope.now.system c.args.scope.now.home c.args.path.now c.in-empty.len_below

pub returns-in-len1 : goal.returns-in-len1
returns-in-len1 c = path_one c.args.scope.now.system c.args.scope.now.home c.args.path.now c.is_state.result c.in-len1.len_at_least c.in-len1.len_below (c.is_state.ensures ∙ ap is_state c.value.ensures)

pub returns-in-len1-up : goal.returns-in-len1-up
returns-in-len1-up c =
    path_longer c.args.scope.now.system c.args.scope.now.home c.args.path.now (option_map (option_map (module_in c.args.scope.now.system.modules)) c.home_of.result) c.leads.result c.in-len1-up.len_at_least
    (c.home_of.ensures ∙ ap (home_of_instance c.args.scope.now.system) c.instance.ensures) c.leads.ensures
