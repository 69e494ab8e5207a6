use Rattle.std.proofs.Common.{arith, rules}
use Rattle.uc_grammar.specs.Syntax.{negative_bound}
use Rattle.uc_parse_expressions.specs.Reading.{state}
use Rattle.uc_parse_expressions.proofs.Here.{one_deeper, none_left}
use Rattle.uc_parser.proofs.parse_statements_bounds.negative_bound.Goals as goal

pub returns-then-levels-eq0 : goal.returns-then-levels-eq0
returns-then-levels-eq0 c = rw c.no_level.ensures (none_left c.args.levels negative_bound (state c.args.reader.now) c.if-levels-eq0.true)

pub returns-in_err-minus : goal.returns-in_err-minus
returns-in_err-minus c = rw (one_deeper c.args.levels negative_bound (state c.args.reader.now) (omega arith)) (search rules)

pub returns-in_err-number : goal.returns-in_err-number
returns-in_err-number c = rw (one_deeper c.args.levels negative_bound (state c.args.reader.now) (omega arith)) (search rules)

pub returns : goal.returns
returns c = rw (one_deeper c.args.levels negative_bound (state c.args.reader.now) (omega arith)) (search rules)
