use Rattle.uc_lexer.specs.Gap.{here}
use Rattle.uc_lexer.specs.Ahead.{from}
use Rattle.uc_lexer.proofs.gap.skip_gap.Goals as goal

pub returns-in-Token : goal.returns-in-Token
returns-in-Token c =
    let i = c.steps.invariant in
    (record { position = i.position; further = i.further; skips = i.skips (from c.args.text.now c.steps.here) here }, c.in-Token.ensures)

pub returns-in-Open : goal.returns-in-Open
returns-in-Open c =
    let i = c.steps.invariant in
    (record { position = i.position; further = i.further; skips = i.skips (from c.args.text.now c.steps.here) here }, c.in-Open.ensures)
