use Rattle.std.proofs.Common.{◌++◌, ap, sym, ◌∙◌}
use Rattle.std.specs.Prelude.{slice_get}
use Rattle.uc_names.specs.Senses.{entry_at, module_in}
use Rattle.uc_rules.specs.Cycles.{mentioned}
use Rattle.uc_cycles.specs.Numbers.{type_places}
use Rattle.uc_cycles.proofs.Forms.{places_none}
use Rattle.uc_cycles.proofs.Steps.{alias_none, alias_some}
use Rattle.uc_cycles.proofs.aliases.written_needs.Goals as goal

pub returns-in-None : goal.returns-in-None
returns-in-None c = c.new.ensures ∙ places_none c.args.numbers.now ∙ ap (type_places c.args.numbers.now) (sym (alias_none c.args.homes.now (module_in c.args.homes.now.modules c.args.declared.home) (entry_at (slice_get (module_in c.args.homes.now.modules c.args.declared.home).decls c.args.declared.declaration)) c.in-None.ensures))

pub returns-in_ok-add_mentioned-in-Some : goal.returns-in_ok-add_mentioned-in-Some
returns-in_ok-add_mentioned-in-Some c =
    c.in_ok-add_mentioned-in-Some.ensures ∙ ap (λ ns. ns ++ type_places c.args.numbers.now (mentioned c.args.homes.now (module_in c.args.homes.now.modules c.args.declared.home) c.in-Some.ty.now)) c.new-needs.ensures
    ∙ ap (type_places c.args.numbers.now) (sym (alias_some c.args.homes.now (module_in c.args.homes.now.modules c.args.declared.home) (entry_at (slice_get (module_in c.args.homes.now.modules c.args.declared.home).decls c.args.declared.declaration)) c.in-Some.ty.now c.in-Some.ensures))
