use Rattle.std.proofs.Common.{ap, subst, sym}
use Rattle.uc_cycles.specs.Numbers.{EntersAliases, alias_of}
use Rattle.uc_cycles.proofs.Entering.{aliases_none, aliases_one}
use Rattle.uc_cycles.proofs.Steps.{no_alias}
use Rattle.uc_cycles.proofs.aliases.enter_alias.Goals as goal

pub returns-in_ok-enter-in-TypeAlias : goal.returns-in_ok-enter-in-TypeAlias
returns-in_ok-enter-in-TypeAlias c = λ knows.
    subst (λ ps. EntersAliases ps c.args.numbers.now c.enter.new.self) (sym (ap (alias_of c.args.owner) c.in-TypeAlias.is))
    (aliases_one (record { owner = c.args.owner; name = c.in-TypeAlias.identifier.name }) c.args.numbers.now c.enter.new.self (c.in_ok-enter-in-TypeAlias.ensures knows))

pub returns-in_default : goal.returns-in_default
returns-in_default c = λ knows.
    subst (λ ps. EntersAliases ps c.args.numbers.now c.args.numbers.now) (sym (no_alias c.args.owner c.args.declaration.now (λ place i t e. c.in_default.not-TypeAlias place i t e))) (aliases_none c.args.numbers.now knows)
