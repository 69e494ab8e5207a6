use Rattle.std.proofs.Common.{◌≡◌, ◌++◌, drop}
use Rattle.std.specs.List.{flat_map}
use Rattle.uc_meaning.specs.Lines.{numbered}
use Rattle.uc_judge.specs.Prints.{declared_refs, own_refs}
use Rattle.uc_judge.proofs.cells.own_refs.Given as goal

abbrev pub invariant-loop-place : goal.invariant-loop-place
invariant-loop-place l = l.refs ++ flat_map declared_refs (numbered l.place (drop l.place l.decls)) ≡ own_refs l.decls
