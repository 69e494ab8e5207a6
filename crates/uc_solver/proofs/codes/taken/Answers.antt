use Rattle.std.proofs.Common.{◌≡◌, ◌+◌, sym, ap, ◌∙◌, subst, refl, drop, Some}
use Rattle.std.specs.Option.{option_copied}
use Rattle.uc_solver.proofs.Reading.{takes_some, takes_none}
use Rattle.uc_solver.proofs.codes.taken.Goals as goal

pub returns-in_ok-value-in-Some : goal.returns-in_ok-value-in-Some
returns-in_ok-value-in-Some c =
    takes_some c.args.codes.now c.args.next.now (c.args.next.now + 1) c.in_ok-value-in-Some.value
    (sym c.at.ensures ∙ ap option_copied c.in-Some.is ∙ ap (λ v. Some v) (sym c.in_ok-value-in-Some.ensures)) refl

pub returns-in-None : goal.returns-in-None
returns-in-None c = takes_none c.args.codes.now c.args.next.now _ _ (sym c.at.ensures ∙ ap option_copied c.in-None.is)
