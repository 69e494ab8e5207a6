use Rattle.std.proofs.Common.{◌-◌, map}
use Rattle.uc_syntax.proofs.Added.{AddedUpTo}
use Rattle.uc_meaning.specs.Cells.{instances_from}
use Rattle.uc_lookup.specs.Parts.{system_in}
use Rattle.uc_layout.specs.Instances.{instance_meant}
use Rattle.uc_layout.proofs.instance.+add_from.Given as goal

abbrev pub decreases-add_from : goal.decreases-add_from
decreases-add_from l = l.depth

abbrev pub invariant-loop-instance : goal.invariant-loop-instance
invariant-loop-instance l =
    AddedUpTo (λ i. instances_from (l.depth - 1) (system_in l.design) (instance_meant i)) l.instance-items (map instance_meant l.initial.all) l.instance-index (map instance_meant l.all)
