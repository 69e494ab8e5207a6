use Rattle.std.proofs.Common.{◌≡◌, ◌++◌, drop}
use Rattle.uc_flat_design.specs.Next.{names_between}
use Rattle.uc_flat_making.proofs.names.names_between.Given as goal

abbrev pub invariant-loop-meant : goal.invariant-loop-meant
invariant-loop-meant l = l.all ++ names_between l.count (drop l.meant-index l.names) ≡ names_between l.count l.names
