use Rattle.std.proofs.Common.{rules}
use Rattle.uc_grammar.specs.declared.word.Kind.TheVariants.{KwCall, KwNext}
use Rattle.uc_parse_expressions.specs.Reading.{state}
use Rattle.uc_parser.proofs.Choice.{Starts, StartsNot, is_call, is_step, is_assignment}
use Rattle.uc_parser.proofs.simple.changes.Goals as goal

pub returns-then-is_at : goal.returns-then-is_at
returns-then-is_at c =
    let at : Starts KwCall (state c.args.reader.now) = search rules in
    rw (is_call c.args.levels (state c.args.reader.now) at) c.call_statement.ensures

pub returns-then-is_at-2 : goal.returns-then-is_at-2
returns-then-is_at-2 c =
    let no1 : StartsNot KwCall (state c.args.reader.now) = search rules in
    let at : Starts KwNext (state c.args.reader.now) = search rules in
    rw (is_step c.args.levels (state c.args.reader.now) no1 at) c.instance_step.ensures

pub returns : goal.returns
returns c =
    let no1 : StartsNot KwCall (state c.args.reader.now) = search rules in
    let no2 : StartsNot KwNext (state c.args.reader.now) = search rules in
    rw (is_assignment c.args.levels (state c.args.reader.now) no1 no2) c.assignment.ensures
