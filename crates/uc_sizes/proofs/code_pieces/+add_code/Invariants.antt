use Rattle.std.proofs.Common.{◌+◌, ◌*◌}
use Rattle.uc_sizes.specs.Pieces.{arm_amount, statement_amount}
use Rattle.uc_sizes.proofs.CodePiecesSums.{SummedUpTo}
use Rattle.uc_sizes.proofs.code_pieces.+add_code.Given as goal

abbrev pub invariant-add_code-loop-statement : goal.invariant-add_code-loop-statement
invariant-add_code-loop-statement l = SummedUpTo statement_amount l.code l.fn.pieces l.times l.statement-index l.pieces

abbrev pub invariant-add_arms-loop-arm : goal.invariant-add_arms-loop-arm
invariant-add_arms-loop-arm l = SummedUpTo arm_amount l.arms l.fn.pieces l.times l.arm-index l.pieces

abbrev pub invariant-add_arms-loop-statement : goal.invariant-add_arms-loop-statement
invariant-add_arms-loop-statement l = SummedUpTo statement_amount l.block l.initial.pieces l.times l.statement-index l.pieces
