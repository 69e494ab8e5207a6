use Rattle.std.proofs.Common.{sym, ap, ◌∙◌}
use Rattle.uc_flat_code.specs.FlatInitWalk.{undone}
use Rattle.uc_flat_code.proofs.Names.{undone_none}
use Rattle.uc_flat_code.proofs.locals.undo.Goals as goal

pub returns : goal.returns
returns c = sym (undone_none c.loop-last.names) ∙ ap (λ ss. undone ss c.loop-last.names) (sym c.in_default.ensures.0) ∙ c.loop-last.invariant
