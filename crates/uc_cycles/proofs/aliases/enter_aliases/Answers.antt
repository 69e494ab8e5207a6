use Rattle.std.proofs.Common.{ap, subst, ◌∙◌}
use Rattle.uc_meaning.specs.Lookup.{System}
use Rattle.uc_names.specs.Senses.{module_in}
use Rattle.uc_cycles.specs.Numbers.{EntersAliases, alias_of}
use Rattle.uc_cycles.proofs.Entering.{aliases_end, aliases_more, aliases_none}
use Rattle.uc_cycles.proofs.aliases.enter_aliases.Goals as goal

pub loop-declaration-init : goal.loop-declaration-init
loop-declaration-init c = λ knows. aliases_none c.args.numbers.now knows

pub loop-declaration-preserved : goal.loop-declaration-preserved
loop-declaration-preserved c = λ knows.
    let before = c.loop-declaration.invariant knows in
    aliases_more (alias_of c.name_of-owner.result) c.declarations_of-declarations.result.now c.loop-declaration.declaration-index c.declaration-item.result c.args.numbers.now c.loop-declaration.numbers c.enter_alias.new.numbers c.loop-declaration-test.true before
    (subst (λ d. EntersAliases (alias_of c.name_of-owner.result d) c.loop-declaration.numbers c.enter_alias.new.numbers) c.declaration-item.is (c.in_ok-enter_alias.ensures before.knows))

pub returns : goal.returns
returns c = λ knows.
    aliases_end (module_in c.args.homes.now.modules c.args.home) c.name_of-owner.result c.declarations_of-declarations.result.now c.loop-declaration.declaration-index c.args.numbers.now c.loop-declaration.numbers c.name_of-owner.ensures
    (c.declarations_of-declarations.ensures ∙ ap (λ (s : System). (module_in s.modules c.args.home).decls) c.design.ensures) c.loop-declaration-test.false (c.loop-declaration.invariant knows)
