use Rattle.std.proofs.Common.{refl}
use Rattle.uc_obligations.specs.Reading.{choice_read}
use Rattle.uc_obligations.proofs.Read.{listed_more, listed_end}
use Rattle.uc_obligations.proofs.reading.choices.Goals as goal

pub loop-choice-preserved : goal.loop-choice-preserved
loop-choice-preserved c = listed_more (choice_read c.args.values.now) _ _ _ _ _ _ c.loop-choice.invariant c.loop-choice-test.true c.choice-item.is c.in_ok-more.ensures c.in_ok-append.ensures

pub returns : goal.returns
returns c = listed_end (choice_read c.args.values.now) _ _ _ _ c.loop-choice.invariant c.loop-choice-test.false refl
