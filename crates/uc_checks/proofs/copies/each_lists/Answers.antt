use Rattle.std.proofs.Common.{◌&&◌, Some, None, ap, ◌∙◌, sym, rules}
use Rattle.std.specs.Prelude.{Bool, Option}
use Rattle.std.specs.Option.{option_copied}
use Rattle.uc_checks.specs.Walks.{AreStates, CopyTells}
use Rattle.uc_checks.proofs.Told.{pass_begin, pass_end, pass_end_told, pass_more, pass_no, pass_no_told, pass_told}
use Rattle.uc_checks.proofs.RefutingJudging.{list_begin, list_end, list_more, answer_at}
use Rattle.uc_checks.proofs.copies.each_lists.Goals as goal
use Rattle.uc_checks.proofs.copies.each_lists.Goals.{then-all, else-all}

pub loop-copy-init : goal.loop-copy-init
loop-copy-init c = (
  pass_begin (CopyTells c.args.walk.now.beginning c.args.walk.now.layout.now c.args.walk.now.interp.now) (AreStates c.args.walk.now.beginning c.args.walk.now.layout.now c.args.walk.now.interp.now) c.args.copies.now,
  list_begin c.args.walk.now.beginning c.args.walk.now.layout.now c.args.walk.now.interp.now (option_copied c.args.walk.now.site) c.args.copies.now,
)

pub returns-in_err-listed-clause-wide : goal.returns-in_err-listed-clause-wide
returns-in_err-listed-clause-wide c =
    let told = pass_told (CopyTells c.args.walk.now.beginning c.args.walk.now.layout.now c.args.walk.now.interp.now) (AreStates c.args.walk.now.beginning c.args.walk.now.layout.now c.args.walk.now.interp.now) c.args.copies.now c.loop-copy.copy-index c.loop-copy.invariant.0 c.as_slice.result.now c.copy-item.result c.loop-copy-test.true (c.as_slice.ensures ∙ c.copy-item.is) (Option Bool) (Option Bool) c.in_err-listed.field-0.0 c.in_err-listed.ensures.wide in
    search (rules, told)

pub returns-in-None-clause-value : goal.returns-in-None-clause-value
returns-in-None-clause-value c =
    pass_no (CopyTells c.args.walk.now.beginning c.args.walk.now.layout.now c.args.walk.now.interp.now) (AreStates c.args.walk.now.beginning c.args.walk.now.layout.now c.args.walk.now.interp.now) c.args.copies.now c.loop-copy.copy-index c.loop-copy.invariant.0 c.as_slice.result.now c.copy-item.result c.loop-copy-test.true (c.as_slice.ensures ∙ c.copy-item.is)
    (answer_at c.args.walk.now.beginning c.args.walk.now.layout.now c.args.walk.now.interp.now (option_copied c.args.walk.now.site) c.as_slice.result.now c.in_ok-listed.listed None c.in-None.is c.in_ok-listed.ensures.value)

pub returns-in-None-clause-wide : goal.returns-in-None-clause-wide
returns-in-None-clause-wide c =
    pass_no_told (CopyTells c.args.walk.now.beginning c.args.walk.now.layout.now c.args.walk.now.interp.now) (AreStates c.args.walk.now.beginning c.args.walk.now.layout.now c.args.walk.now.interp.now) c.args.copies.now c.loop-copy.copy-index c.loop-copy.invariant.0 c.as_slice.result.now c.copy-item.result c.loop-copy-test.true (c.as_slice.ensures ∙ c.copy-item.is) c.in_ok-listed.ensures.wide
    (answer_at c.args.walk.now.beginning c.args.walk.now.layout.now c.args.walk.now.interp.now (option_copied c.args.walk.now.site) c.as_slice.result.now c.in_ok-listed.listed None c.in-None.is c.in_ok-listed.ensures.value)

pub loop-copy-preserved : goal.loop-copy-preserved
loop-copy-preserved c =
    let answer = answer_at c.args.walk.now.beginning c.args.walk.now.layout.now c.args.walk.now.interp.now (option_copied c.args.walk.now.site) c.as_slice.result.now c.in_ok-listed.listed (Some c.in-Some.listed) c.in-Some.is c.in_ok-listed.ensures.value in (
      pass_more (CopyTells c.args.walk.now.beginning c.args.walk.now.layout.now c.args.walk.now.interp.now) (AreStates c.args.walk.now.beginning c.args.walk.now.layout.now c.args.walk.now.interp.now) c.args.copies.now c.loop-copy.copy-index c.loop-copy.invariant.0 c.as_slice.result.now c.copy-item.result c.loop-copy-test.true (c.as_slice.ensures ∙ c.copy-item.is) c.in_ok-listed.ensures.wide answer.0,
      list_more c.args.walk.now.beginning c.args.walk.now.layout.now c.args.walk.now.interp.now (option_copied c.args.walk.now.site) c.args.copies.now c.loop-copy.copy-index c.loop-copy.all c.loop-copy.invariant.1 c.as_slice.result.now c.copy-item.result c.loop-copy-test.true (c.as_slice.ensures ∙ c.copy-item.is) c.in-Some.listed c.if-all.all answer.1
          (elim c.if-all.branch [ then-all w ↦ w.all-is ∙ sym (ap (λ b. b && c.in-Some.listed) w.if-all.true) | else-all w ↦ w.all-is ∙ w.if-all.false ∙ sym (ap (λ b. b && c.in-Some.listed) w.if-all.false) ]),
    )

pub returns-clause-value : goal.returns-clause-value
returns-clause-value c = (
  pass_end (CopyTells c.args.walk.now.beginning c.args.walk.now.layout.now c.args.walk.now.interp.now) (AreStates c.args.walk.now.beginning c.args.walk.now.layout.now c.args.walk.now.interp.now) c.args.copies.now c.loop-copy.copy-index c.loop-copy.invariant.0 c.loop-copy-test.false,
  list_end c.args.walk.now.beginning c.args.walk.now.layout.now c.args.walk.now.interp.now (option_copied c.args.walk.now.site) c.args.copies.now c.loop-copy.copy-index c.loop-copy.all c.loop-copy.invariant.1 c.loop-copy-test.false,
)

pub returns-clause-wide : goal.returns-clause-wide
returns-clause-wide c = pass_end_told (CopyTells c.args.walk.now.beginning c.args.walk.now.layout.now c.args.walk.now.interp.now) (AreStates c.args.walk.now.beginning c.args.walk.now.layout.now c.args.walk.now.interp.now) c.args.copies.now c.loop-copy.copy-index c.loop-copy.invariant.0 c.loop-copy-test.false
