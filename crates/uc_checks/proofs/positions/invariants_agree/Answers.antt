use Rattle.std.proofs.Common.{◌∙◌, rules}
use Rattle.std.specs.Prelude.{Bool}
use Rattle.uc_checks.specs.Refutations.{InvariantsBefore, InvariantsTell}
use Rattle.uc_checks.proofs.Told.{refused, none_decided, all_decided, pass_begin, pass_end, pass_end_told, pass_more, pass_no, pass_no_told, pass_told}
use Rattle.uc_checks.proofs.positions.invariants_agree.Goals as goal

pub loop-copy-init : goal.loop-copy-init
loop-copy-init c = pass_begin (InvariantsTell c.args.layout.now c.args.interp.now c.args.count) (InvariantsBefore c.args.layout.now c.args.interp.now c.args.count) c.args.copies.now

pub returns-in_err-hold-clause-wide : goal.returns-in_err-hold-clause-wide
returns-in_err-hold-clause-wide c =
    let told = pass_told (InvariantsTell c.args.layout.now c.args.interp.now c.args.count) (InvariantsBefore c.args.layout.now c.args.interp.now c.args.count) c.args.copies.now c.loop-copy.copy-index c.loop-copy.invariant c.as_slice.result.now c.copy-item.result c.loop-copy-test.true (c.as_slice.ensures ∙ c.copy-item.is) Bool Bool c.in_err-hold.field-0.0 c.in_err-hold.ensures.wide in
    search (rules, told)

pub returns-then-not-hold-clause-value : goal.returns-then-not-hold-clause-value
returns-then-not-hold-clause-value c = none_decided (pass_no (InvariantsTell c.args.layout.now c.args.interp.now c.args.count) (InvariantsBefore c.args.layout.now c.args.interp.now c.args.count) c.args.copies.now c.loop-copy.copy-index c.loop-copy.invariant c.as_slice.result.now c.copy-item.result c.loop-copy-test.true (c.as_slice.ensures ∙ c.copy-item.is) (refused c.in_ok-hold.hold c.in_ok-hold.ensures.value c.if-not-hold.true))

pub returns-then-not-hold-clause-wide : goal.returns-then-not-hold-clause-wide
returns-then-not-hold-clause-wide c = pass_no_told (InvariantsTell c.args.layout.now c.args.interp.now c.args.count) (InvariantsBefore c.args.layout.now c.args.interp.now c.args.count) c.args.copies.now c.loop-copy.copy-index c.loop-copy.invariant c.as_slice.result.now c.copy-item.result c.loop-copy-test.true (c.as_slice.ensures ∙ c.copy-item.is) c.in_ok-hold.ensures.wide (refused c.in_ok-hold.hold c.in_ok-hold.ensures.value c.if-not-hold.true)

pub loop-copy-preserved : goal.loop-copy-preserved
loop-copy-preserved c = pass_more (InvariantsTell c.args.layout.now c.args.interp.now c.args.count) (InvariantsBefore c.args.layout.now c.args.interp.now c.args.count) c.args.copies.now c.loop-copy.copy-index c.loop-copy.invariant c.as_slice.result.now c.copy-item.result c.loop-copy-test.true (c.as_slice.ensures ∙ c.copy-item.is) c.in_ok-hold.ensures.wide (c.in_ok-hold.ensures.value.0 c.if-not-hold.false)

pub returns-clause-value : goal.returns-clause-value
returns-clause-value c = all_decided (pass_end (InvariantsTell c.args.layout.now c.args.interp.now c.args.count) (InvariantsBefore c.args.layout.now c.args.interp.now c.args.count) c.args.copies.now c.loop-copy.copy-index c.loop-copy.invariant c.loop-copy-test.false)

pub returns-clause-wide : goal.returns-clause-wide
returns-clause-wide c = pass_end_told (InvariantsTell c.args.layout.now c.args.interp.now c.args.count) (InvariantsBefore c.args.layout.now c.args.interp.now c.args.count) c.args.copies.now c.loop-copy.copy-index c.loop-copy.invariant c.loop-copy-test.false
