use Rattle.std.proofs.Common.{◌≡◌, ◌<◌, ◌+◌, ◌++◌, ◌∷◌, [], length, take, arith, ap, sym, subst, ◌∙◌}
use Rattle.uc_judge.specs.Judged.{lines_in, AreCounts, AreJudged}
use Rattle.uc_judge.proofs.Controls.{run_there}
use Rattle.uc_judge.proofs.Listed.{counts_begin, counts_more, counts_end}
use Rattle.uc_judge.proofs.Joined.{commands_begin, commands_more, commands_end, counted}
use Rattle.uc_judge.proofs.judging.judge_commands.Goals as goal

pub loop-number-init : goal.loop-number-init
loop-number-init g c = (
  commands_begin c.args.d.now c.args.budget _ c.args.commands.now _ c.new-lines.ensures,
  counts_begin c.args.d.now c.args.commands.now _ (c.in_ok-push.ensures.ok ∙ ap (λ ns. ns ++ 0 ∷ []) c.new-counts.ensures),
)

pub judge_command-requires-clause-runs : goal.judge_command-requires-clause-runs
judge_command-requires-clause-runs g c =
    run_there c.args.commands.now c.loop-number.number c.index-commands-number.result c.requires.run (omega (arith, c.loop-number-test.true, c.requires.within)) c.index-commands-number.is

pub loop-number-preserved : goal.loop-number-preserved
loop-number-preserved g c =
    let within : c.loop-number.number < length c.args.commands.now = omega (arith, c.loop-number-test.true, c.requires.within) in
    let judged = commands_more c.args.d.now c.args.budget _ _ _ c.args.commands.now c.loop-number.number c.in_ok-own.own c.index-commands-number.result _ _ _ c.loop-number.invariant.0 c.in_ok-more.ensures.judged c.in_ok-append.ensures
    c.in_ok-own.ensures within c.index-commands-number.is in
    (judged, counts_more c.args.d.now c.args.commands.now c.loop-number.number _ _ _ c.loop-number.invariant.1 (counted c.args.d.now c.args.budget _ _ _ _ _ judged (c.in_ok-passed.ensures ∙ c.len-standing.ensures)) c.in_ok-push-2.ensures.ok)

pub returns-clause-judged : goal.returns-clause-judged
returns-clause-judged g c =
    commands_end c.args.d.now c.args.budget _ _ c.args.commands.now c.loop-number.number c.args.count _ (omega (arith, c.loop-number.auto, c.loop-number-test.false)) c.loop-number.invariant.0

pub returns-clause-counts : goal.returns-clause-counts
returns-clause-counts g c = counts_end c.args.d.now c.args.commands.now c.loop-number.number c.args.count _ (omega (arith, c.loop-number.auto, c.loop-number-test.false)) c.loop-number.invariant.1
