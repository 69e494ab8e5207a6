use Rattle.std.proofs.Common.{arith, rules}
use Rattle.uc_grammar.specs.Syntax as syntax
use Rattle.uc_parse_expressions.specs.Reading.{state}
use Rattle.uc_parse_expressions.proofs.Here.{one_deeper, none_left}
use Rattle.uc_parse_expressions.proofs.name_in_parens.in_name.Goals as goal

pub returns-then-levels-eq0 : goal.returns-then-levels-eq0
returns-then-levels-eq0 c = rw c.no_level.ensures (none_left c.args.levels syntax.in_name (state c.args.reader.now) c.if-levels-eq0.true)

pub returns-in_err-take : goal.returns-in_err-take
returns-in_err-take c = rw (one_deeper c.args.levels syntax.in_name (state c.args.reader.now) (omega arith)) (search rules)

pub returns-in_err-name : goal.returns-in_err-name
returns-in_err-name c = rw (one_deeper c.args.levels syntax.in_name (state c.args.reader.now) (omega arith)) (search rules)

pub returns-in_err-take-2 : goal.returns-in_err-take-2
returns-in_err-take-2 c = rw (one_deeper c.args.levels syntax.in_name (state c.args.reader.now) (omega arith)) (search rules)

pub returns : goal.returns
returns c = rw (one_deeper c.args.levels syntax.in_name (state c.args.reader.now) (omega arith)) (search rules)
