use Rattle.std.proofs.Common.{◌∙◌, sym, ap, subst}
use Rattle.uc_ops.specs.Typing.{Valid}
use Rattle.uc_lower.specs.Fields.{low_type}
use Rattle.uc_lower.specs.Symbols.{HasRange}
use Rattle.uc_lower.proofs.Standing.{range_some, label_some}
use Rattle.uc_lower.proofs.symbols.range.Goals as goal

pub bound-requires-clause-typed : goal.bound-requires-clause-typed
bound-requires-clause-typed c = c.requires.typed ∙ ap low_type c.in-Enum.is

pub bound-requires-clause-some : goal.bound-requires-clause-some
bound-requires-clause-some c = label_some c.in-Enum.field-0 c.in-Enum.labels (subst Valid c.in-Enum.is c.requires.valid)

pub returns-in_ok-push-in-Enum-clause-range : goal.returns-in_ok-push-in-Enum-clause-range
returns-in_ok-push-in-Enum-clause-range c =
    subst (λ leaf. HasRange c.args.terms.now c.bound.new.terms leaf c.args.symbol c.args.conditions.now.items c.push.new.self.items) (sym c.in-Enum.is)
    (range_some c.args.terms.now c.bound.new.terms c.in-Enum.field-0 c.in-Enum.labels c.args.symbol c.in_ok-bound-in-Enum.bound c.args.conditions.now.items c.push.new.self.items c.requires.well c.requires.conditions c.requires.truths
    (label_some c.in-Enum.field-0 c.in-Enum.labels (subst Valid c.in-Enum.is c.requires.valid)) c.in_ok-bound-in-Enum.ensures.bound c.in_ok-push-in-Enum.ensures.items)
