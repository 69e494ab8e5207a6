use Rattle.std.proofs.Common.{◌≡◌, drop}
use Rattle.std.specs.List.{list_all}
use Rattle.uc_runnable.specs.Commands.{is_own_path}
use Rattle.uc_runnable.proofs.commands.all_own_paths.Given as goal

abbrev pub invariant-loop-path : goal.invariant-loop-path
invariant-loop-path l = list_all is_own_path (drop l.path-index l.paths) ≡ list_all is_own_path l.paths
