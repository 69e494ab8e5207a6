use Rattle.std.proofs.Common.{◌∙◌, arith}
use Rattle.uc_lexer.specs.Table.{keywords}
use Rattle.uc_lexer.proofs.Words.{lookup-of_length}
use Rattle.uc_lexer.proofs.word.keyword.Goals as goal

pub returns-in-2 : goal.returns-in-2
returns-in-2 c = c.keyword_of_two.ensures ∙ lookup-of_length keywords c.args.word.now 2 (omega arith)

pub returns-in-3 : goal.returns-in-3
returns-in-3 c = c.keyword_of_three.ensures ∙ lookup-of_length keywords c.args.word.now 3 (omega arith)

pub returns-in-4 : goal.returns-in-4
returns-in-4 c = c.keyword_of_four.ensures ∙ lookup-of_length keywords c.args.word.now 4 (omega arith)

pub returns-in-5 : goal.returns-in-5
returns-in-5 c = c.keyword_of_five.ensures ∙ lookup-of_length keywords c.args.word.now 5 (omega arith)

pub returns-in-6 : goal.returns-in-6
returns-in-6 c = c.keyword_of_six.ensures ∙ lookup-of_length keywords c.args.word.now 6 (omega arith)

pub returns-in-7 : goal.returns-in-7
returns-in-7 c = c.keyword_of_seven.ensures ∙ lookup-of_length keywords c.args.word.now 7 (omega arith)

pub returns-in-8 : goal.returns-in-8
returns-in-8 c = c.keyword_of_eight.ensures ∙ lookup-of_length keywords c.args.word.now 8 (omega arith)

pub returns-in-9 : goal.returns-in-9
returns-in-9 c = c.keyword_of_nine.ensures ∙ lookup-of_length keywords c.args.word.now 9 (omega arith)

pub returns-in-10 : goal.returns-in-10
returns-in-10 c = c.keyword_of_ten.ensures ∙ lookup-of_length keywords c.args.word.now 10 (omega arith)
