use Rattle.std.specs.Option.{option_map}
use Rattle.uc_names.specs.Senses.{module_in}
use Rattle.uc_declaration_rules.proofs.Paths.{PathFrom}
use Rattle.uc_declaration_rules.proofs.control.leads.Given as goal

abbrev pub invariant-loop-k : goal.invariant-loop-k
invariant-loop-k l = PathFrom l.scope.system (option_map (option_map (module_in l.scope.system.modules)) l.fn.start) l.path l.k (option_map (option_map (module_in l.scope.system.modules)) l.here)
