use Rattle.std.proofs.Common.{◌≡◌, take}
use Rattle.uc_flat_code.proofs.locals.copy_names.Given as goal

abbrev pub invariant-loop-meant : goal.invariant-loop-meant
invariant-loop-meant l = l.all ≡ take l.meant-index l.names
