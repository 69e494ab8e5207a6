use Rattle.std.proofs.Common.{◌≡◌, ◌+◌, ◌*◌, length, map}
use Rattle.uc_flat_code.specs.Code.{each_arm}
use Rattle.uc_flat_code.specs.CellTypes.{cell_type_of}
use Rattle.uc_flat_code.specs.Init.{making_of, in_order, arms_made}
use Rattle.uc_flat_code.specs.FlatInitWalk.{undone}
use Rattle.uc_flat_code.proofs.Orders.{behind, left, behind_arms, left_arms}
use Rattle.uc_flat_code.proofs.walk.+walk.Given as goal

abbrev pub decreases-walk : goal.decreases-walk
decreases-walk l = 6 * goal.size-walk l + 1

abbrev pub decreases-walk_statement : goal.decreases-walk_statement
decreases-walk_statement l = 6 * goal.size-walk_statement l

abbrev pub decreases-walk_block : goal.decreases-walk_block
decreases-walk_block l = 6 * goal.size-walk_block l + 2

abbrev pub decreases-walk_else : goal.decreases-walk_else
decreases-walk_else l = 6 * goal.size-walk_else l + 3

abbrev pub decreases-walk_arms : goal.decreases-walk_arms
decreases-walk_arms l = 6 * goal.size-walk_arms l + 4

abbrev pub decreases-walk_arm : goal.decreases-walk_arm
decreases-walk_arm l = 6 * goal.size-walk_arm l + 3

abbrev pub decreases-walk_behind : goal.decreases-walk_behind
decreases-walk_behind l = 6 * goal.size-walk_behind l + 5

abbrev pub invariant-walk-loop-statement : goal.invariant-walk-loop-statement
invariant-walk-loop-statement l =
    let f = making_of (cell_type_of l.tables l.code) in record {
      made : in_order (map f l.block) l.initial.names l.first ≡ behind l.all (left f l.block l.statement-index l.names (l.first + length l.all.further));
      undone : undone l.shadowed l.names ≡ undone l.initial.shadowed l.initial.names;
    }

abbrev pub invariant-walk_arms-loop-arm : goal.invariant-walk_arms-loop-arm
invariant-walk_arms-loop-arm l =
    let f = making_of (cell_type_of l.tables l.code) in record {
      made : arms_made l.initial.names l.first (map (each_arm f) l.arms) ≡ behind_arms l.all (left_arms f l.arms l.arm-index l.initial.names (l.first + length l.all.further));
      kept : l.names ≡ l.initial.names;
    }
