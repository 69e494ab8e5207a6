use Rattle.std.proofs.Common.{take, ◌+◌, ◌*◌}
use Rattle.uc_flat.specs.Drawn.{drawn}
use Rattle.uc_symstep.specs.Cost.{size, sizes}
use Rattle.uc_symstep.specs.Stands.{Follows}
use Rattle.uc_symstep.specs.Known.{CodeReadsTyped, draw_types, Extends}
use Rattle.uc_symstep.proofs.code.+sym_code.Given as goal

abbrev pub decreases-sym_statement : goal.decreases-sym_statement
decreases-sym_statement l = 2 * size l.statement.now

abbrev pub decreases-sym_code : goal.decreases-sym_code
decreases-sym_code l = 2 * sizes l.code.now + 1

abbrev pub invariant-sym_code-loop-statement : goal.invariant-sym_code-loop-statement
invariant-sym_code-loop-statement l = record {
  follows : Follows l.fn.terms l.terms l.types (λ m. drawn m l.types m.symbols (take l.statement-index l.code)) l.fn.s l.state;
  known : Extends (λ supply. CodeReadsTyped supply l.code) (draw_types l.types (take l.statement-index l.code)) l.fn.terms l.fn.s l.terms l.state;
}
