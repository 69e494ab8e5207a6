-- What is met in the parts of a target.
use Rattle.std.specs.Prelude.{List}
use Rattle.std.specs.List.{flat_map}
use Rattle.uc_syntax.specs.declared.statement.TargetPart.{TargetPart}
use Rattle.uc_meaning.specs.declared.scope.Scope.{Scope}
use Rattle.uc_meaning.specs.declared.overflow.Wide.{Wide}
use Rattle.uc_meaning.specs.Lookup.{System}
use Rattle.uc_meaning.specs.OverflowsRuns.{part_met}

-- the indices, from the left
abbrev pub parts_met : System → Scope → List TargetPart → List Wide
parts_met system s parts = flat_map (part_met system s) parts
