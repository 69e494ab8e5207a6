use Rattle.std.proofs.Common.{length, take, drop, ap, ◌∙◌, rules}
use Rattle.uc_checks.proofs.Told.{refused, none_decided, if_same}
use Rattle.uc_checks.proofs.Executed.{body_to, body_entry, body_required, body_from, entry_stops, requires_told, requires_stop, exit_tells}
use Rattle.uc_checks.proofs.bodies.body_fails.Goals as goal

pub returns-then-not-fits-clause-value : goal.returns-then-not-fits-clause-value
returns-then-not-fits-clause-value c =
    let arguments = c.arguments_in-arguments.ensures ∙ ap (take (length c.args.procedure.now.parameters)) c.as_slice-all.ensures in
    let choices = c.choices_in-choices.ensures ∙ ap (drop (length c.args.procedure.now.parameters)) c.as_slice-all.ensures in
    none_decided (λ h. (refused c.in_ok-fits.fits c.in_ok-fits.ensures c.if-not-fits.true) (body_entry c.args.layout.now c.args.line.now c.args.interp.now c.args.code.now c.args.procedure.now c.args.ends.first.now c.args.ends.last.now c.arguments_in-arguments.result.now c.choices_in-choices.result.now arguments choices h))

pub returns-then-not-fits-clause-wide : goal.returns-then-not-fits-clause-wide
returns-then-not-fits-clause-wide c =
    let arguments = c.arguments_in-arguments.ensures ∙ ap (take (length c.args.procedure.now.parameters)) c.as_slice-all.ensures in
    let choices = c.choices_in-choices.ensures ∙ ap (drop (length c.args.procedure.now.parameters)) c.as_slice-all.ensures in
    entry_stops c.args.layout.now c.args.line.now c.args.interp.now c.args.code.now c.args.procedure.now c.args.ends.first.now c.args.ends.last.now c.arguments_in-arguments.result.now c.choices_in-choices.result.now arguments choices (refused c.in_ok-fits.fits c.in_ok-fits.ensures c.if-not-fits.true)

pub returns-in_err-required-clause-wide : goal.returns-in_err-required-clause-wide
returns-in_err-required-clause-wide c =
    let arguments = c.arguments_in-arguments.ensures ∙ ap (take (length c.args.procedure.now.parameters)) c.as_slice-all.ensures in
    let choices = c.choices_in-choices.ensures ∙ ap (drop (length c.args.procedure.now.parameters)) c.as_slice-all.ensures in
    let told = requires_told c.args.layout.now c.args.line.now c.args.interp.now c.args.code.now c.args.procedure.now c.args.ends.first.now c.args.ends.last.now c.arguments_in-arguments.result.now c.choices_in-choices.result.now arguments choices (c.in_ok-fits.ensures.0 c.if-not-fits.false) c.in_err-required.field-0.0 c.in_err-required.ensures.wide in
    search (rules, told)

pub returns-then-not-required-clause-value : goal.returns-then-not-required-clause-value
returns-then-not-required-clause-value c =
    let arguments = c.arguments_in-arguments.ensures ∙ ap (take (length c.args.procedure.now.parameters)) c.as_slice-all.ensures in
    let choices = c.choices_in-choices.ensures ∙ ap (drop (length c.args.procedure.now.parameters)) c.as_slice-all.ensures in
    none_decided (λ h. (refused c.in_ok-required.required c.in_ok-required.ensures.value c.if-not-required.true) (body_required c.args.layout.now c.args.line.now c.args.interp.now c.args.code.now c.args.procedure.now c.args.ends.first.now c.args.ends.last.now c.arguments_in-arguments.result.now c.choices_in-choices.result.now arguments choices h))

pub returns-then-not-required-clause-wide : goal.returns-then-not-required-clause-wide
returns-then-not-required-clause-wide c =
    let arguments = c.arguments_in-arguments.ensures ∙ ap (take (length c.args.procedure.now.parameters)) c.as_slice-all.ensures in
    let choices = c.choices_in-choices.ensures ∙ ap (drop (length c.args.procedure.now.parameters)) c.as_slice-all.ensures in
    requires_stop c.args.layout.now c.args.line.now c.args.interp.now c.args.code.now c.args.procedure.now c.args.ends.first.now c.args.ends.last.now c.arguments_in-arguments.result.now c.choices_in-choices.result.now arguments choices (c.in_ok-fits.ensures.0 c.if-not-fits.false) c.in_ok-required.ensures.wide (refused c.in_ok-required.required c.in_ok-required.ensures.value c.if-not-required.true)

pub returns-clause-value : goal.returns-clause-value
returns-clause-value c =
    let arguments = c.arguments_in-arguments.ensures ∙ ap (take (length c.args.procedure.now.parameters)) c.as_slice-all.ensures in
    let choices = c.choices_in-choices.ensures ∙ ap (drop (length c.args.procedure.now.parameters)) c.as_slice-all.ensures in
    if_same c.exit_fails.result (body_to c.args.layout.now c.args.line.now c.args.interp.now c.args.code.now c.args.procedure.now c.args.ends.first.now c.args.ends.last.now c.arguments_in-arguments.result.now c.choices_in-choices.result.now arguments choices (c.in_ok-fits.ensures.0 c.if-not-fits.false) (c.in_ok-required.ensures.value.0 c.if-not-required.false)) (body_from c.args.layout.now c.args.line.now c.args.interp.now c.args.code.now c.args.procedure.now c.args.ends.first.now c.args.ends.last.now c.arguments_in-arguments.result.now c.choices_in-choices.result.now arguments choices) c.exit_fails.ensures.value

pub returns-clause-wide : goal.returns-clause-wide
returns-clause-wide c =
    let arguments = c.arguments_in-arguments.ensures ∙ ap (take (length c.args.procedure.now.parameters)) c.as_slice-all.ensures in
    let choices = c.choices_in-choices.ensures ∙ ap (drop (length c.args.procedure.now.parameters)) c.as_slice-all.ensures in
    exit_tells c.args.layout.now c.args.line.now c.args.interp.now c.args.code.now c.args.procedure.now c.args.ends.first.now c.args.ends.last.now c.arguments_in-arguments.result.now c.choices_in-choices.result.now arguments choices (c.in_ok-fits.ensures.0 c.if-not-fits.false) c.exit_fails.result c.in_ok-required.ensures.wide (c.in_ok-required.ensures.value.0 c.if-not-required.false) c.exit_fails.ensures.wide
