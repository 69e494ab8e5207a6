use Rattle.std.proofs.Common.{◌+◌, ◌*◌}
use Rattle.uc_lookup.specs.Parts.{system_in}
use Rattle.uc_meaning.specs.Lookup.{next_in}
use Rattle.uc_order_rules.specs.Sizes.{size_through, times}
use Rattle.uc_sizes.specs.Pieces.{piece_size}
use Rattle.uc_sizes.specs.Spending.{size_in}
use Rattle.uc_sizes.proofs.Spending.{SpentUpTo}
use Rattle.uc_sizes.specs.Levels.{at_level}
use Rattle.uc_sizes.proofs.spent_code.+spend_code.Given as goal

abbrev pub decreases-spend_code : goal.decreases-spend_code
decreases-spend_code l = 6 * l.levels

abbrev pub decreases-spend_pieces : goal.decreases-spend_pieces
decreases-spend_pieces l = 6 * l.below + 5

abbrev pub decreases-spend_repeated : goal.decreases-spend_repeated
decreases-spend_repeated l = 6 * l.below + 4

abbrev pub decreases-spend_piece : goal.decreases-spend_piece
decreases-spend_piece l = 6 * l.below + 3

abbrev pub decreases-spend_call : goal.decreases-spend_call
decreases-spend_call l = 6 * l.below + 2

abbrev pub decreases-spend_procedure : goal.decreases-spend_procedure
decreases-spend_procedure l = 6 * l.below + 1

abbrev pub decreases-spend_step : goal.decreases-spend_step
decreases-spend_step l = 6 * l.below + 2

abbrev pub decreases-spend_next : goal.decreases-spend_next
decreases-spend_next l = 6 * l.below + 1

abbrev pub invariant-spend_pieces-loop-repeated : goal.invariant-spend_pieces-loop-repeated
invariant-spend_pieces-loop-repeated l =
    SpentUpTo (λ r. times r.times (piece_size (at_level (system_in l.system) l.below l.path) r.piece)) l.pieces (size_in l.fn.spent) l.repeated-index (size_in l.spent)

abbrev pub invariant-spend_next-loop-declaration : goal.invariant-spend_next-loop-declaration
invariant-spend_next-loop-declaration l =
    SpentUpTo (λ d. size_through l.below (system_in l.system) l.path (next_in d)) l.declaration-items (size_in l.fn.spent) l.declaration-index (size_in l.spent)
