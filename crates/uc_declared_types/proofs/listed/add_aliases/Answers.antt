use Rattle.std.proofs.Common.{ap, ◌∙◌}
use Rattle.uc_meaning.specs.Lookup.{System}
use Rattle.uc_syntax.specs.declared.declaration.Module.{Module}
use Rattle.uc_names.specs.Senses.{module_in}
use Rattle.uc_declared_types.proofs.Listing.{listed_begin, listed_end, listed_more}
use Rattle.uc_declared_types.proofs.listed.add_aliases.Goals as goal

pub loop-declaration-init : goal.loop-declaration-init
loop-declaration-init c = listed_begin c.args.homes.now c.args.home c.args.listed.now

pub loop-declaration-preserved : goal.loop-declaration-preserved
loop-declaration-preserved c =
    listed_more c.args.homes.now c.args.home c.declarations_of-declarations.result.now c.args.listed.now c.loop-declaration.listed c.add_alias.new.listed c.loop-declaration.declaration c.index-declarations-declaration.result c.index-declarations-declaration.result
    c.loop-declaration.invariant c.loop-declaration-test.true c.index-declarations-declaration.is (c.declarations_of-declarations.ensures ∙ ap (λ (s : System). (module_in s.modules c.args.home).decls) c.design.ensures)
    c.in_ok-add_alias.ensures.kept c.in_ok-add_alias.ensures.there

pub returns-clause-kept : goal.returns-clause-kept
returns-clause-kept c = c.loop-declaration.invariant.kept

pub returns-clause-there : goal.returns-clause-there
returns-clause-there c =
    listed_end c.args.homes.now c.args.home c.declarations_of-declarations.result.now c.args.listed.now c.loop-declaration.listed c.loop-declaration.declaration c.loop-declaration.invariant c.loop-declaration-test.false
    (c.declarations_of-declarations.ensures ∙ ap (λ (s : System). (module_in s.modules c.args.home).decls) c.design.ensures)
