use Rattle.std.proofs.Common.{◌+◌, ◌-◌, ◌*◌}
use Rattle.uc_syntax.proofs.Added.{AddedUpTo}
use Rattle.uc_lookup.specs.Parts.{system_in}
use Rattle.uc_layout.specs.Listing.{instance_at, cells_at, code_at, below}
use Rattle.uc_layout.proofs.listing.+add_instance.Given as goal

abbrev pub decreases-add_instance : goal.decreases-add_instance
decreases-add_instance l = 3 * l.depth + 1

abbrev pub decreases-add_inside : goal.decreases-add_inside
decreases-add_inside l = 3 * l.depth + 3

abbrev pub decreases-add_part : goal.decreases-add_part
decreases-add_part l = 3 * l.depth + 2

abbrev pub invariant-add_instance-loop-decl : goal.invariant-add_instance-loop-decl
invariant-add_instance-loop-decl l = record {
  cells : AddedUpTo (below cells_at (l.depth - 1) (system_in l.design) (instance_at l.here)) l.decl-items l.initial.cells l.decl-index l.cells;
  codes : AddedUpTo (below code_at (l.depth - 1) (system_in l.design) (instance_at l.here)) l.decl-items l.initial.codes l.decl-index l.codes;
}
