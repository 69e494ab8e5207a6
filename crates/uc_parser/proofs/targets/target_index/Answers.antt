use Rattle.std.proofs.Common.{arith, rules}
use Rattle.uc_grammar.specs.Syntax.{target_index}
use Rattle.uc_parse_expressions.specs.Reading.{state}
use Rattle.uc_parse_expressions.proofs.Here.{one_deeper, none_left}
use Rattle.uc_parser.proofs.targets.target_index.Goals as goal

pub returns-then-levels-eq0 : goal.returns-then-levels-eq0
returns-then-levels-eq0 c = rw c.no_level.ensures (none_left c.args.levels target_index (state c.args.reader.now) c.if-levels-eq0.true)

pub returns-in_err-bracket : goal.returns-in_err-bracket
returns-in_err-bracket c = rw (one_deeper c.args.levels target_index (state c.args.reader.now) (omega arith)) (search rules)

pub returns-in_err-index : goal.returns-in_err-index
returns-in_err-index c = rw (one_deeper c.args.levels target_index (state c.args.reader.now) (omega arith)) (search rules)

pub returns : goal.returns
returns c = rw (one_deeper c.args.levels target_index (state c.args.reader.now) (omega arith)) (search rules)
