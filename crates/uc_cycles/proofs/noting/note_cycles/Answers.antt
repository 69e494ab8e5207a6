use Rattle.std.proofs.Common.{ap, refl, ◌∙◌}
use Rattle.uc_rules.specs.declared.rule.Rule.TheVariants.{Cycle}
use Rattle.uc_rules.specs.Cycles.{alias_cycle_in, on_instance_cycle}
use Rattle.uc_rules.specs.Faults.{breaks_where, first_of}
use Rattle.uc_cycles.proofs.Told.{told_more}
use Rattle.uc_cycles.proofs.noting.note_cycles.Goals as goal

pub loop-declaration-preserved : goal.loop-declaration-preserved
loop-declaration-preserved c = λ s known.
    told_more (breaks_where (on_instance_cycle s c.args.whole.now.name) Cycle c.args.whole.now.place) (alias_cycle_in s c.args.whole.now) c.as_slice-declarations.result.now c.args.first.now c.loop-declaration.declaration-index c.declaration-item.result
    c.loop-declaration.first c.note_alias.new.first c.loop-declaration-test.true (c.loop-declaration.invariant s known)
    (c.note_alias.ensures s c.args.whole.now known refl ∙ ap (λ d. first_of c.loop-declaration.first (alias_cycle_in s c.args.whole.now d)) c.declaration-item.is)
