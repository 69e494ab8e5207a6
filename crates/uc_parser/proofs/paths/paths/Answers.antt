use Rattle.std.proofs.Common.{arith, rules}
use Rattle.uc_grammar.specs.Syntax.{paths}
use Rattle.uc_parse_expressions.specs.Reading.{state}
use Rattle.uc_parse_expressions.proofs.Here.{one_deeper, none_left}
use Rattle.uc_parser.proofs.paths.paths.Goals as goal

pub returns-then-levels-eq0 : goal.returns-then-levels-eq0
returns-then-levels-eq0 c = rw c.no_level.ensures (none_left c.args.levels paths (state c.args.reader.now) c.if-levels-eq0.true)

pub returns-in_err-take : goal.returns-in_err-take
returns-in_err-take c = rw (one_deeper c.args.levels paths (state c.args.reader.now) (omega arith)) (search rules)

pub returns-then-is_at : goal.returns-then-is_at
returns-then-is_at c = rw (one_deeper c.args.levels paths (state c.args.reader.now) (omega arith)) (search rules)

pub returns-in_err-found : goal.returns-in_err-found
returns-in_err-found c = rw (one_deeper c.args.levels paths (state c.args.reader.now) (omega arith)) (search rules)

pub returns-in_err-take-3 : goal.returns-in_err-take-3
returns-in_err-take-3 c = rw (one_deeper c.args.levels paths (state c.args.reader.now) (omega arith)) (search rules)

pub returns : goal.returns
returns c = rw (one_deeper c.args.levels paths (state c.args.reader.now) (omega arith)) (search rules)
