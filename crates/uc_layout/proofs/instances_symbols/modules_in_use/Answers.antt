use Rattle.std.proofs.Common.{◌∙◌}
use Rattle.std.specs.Prelude.{nat_eq}
use Rattle.std.specs.List.{filter, list_any}
use Rattle.uc_syntax.proofs.Added.{added_end}
use Rattle.uc_meaning.specs.Cells.{modules_in_use}
use Rattle.uc_layout.specs.Instances.{instance_meant}
use Rattle.uc_layout.proofs.Listed.{passed, any_of_map}
use Rattle.uc_layout.proofs.instances_symbols.modules_in_use.Goals as goal

pub returns : goal.returns
unfolding modules_in_use
returns c =
    added_end _ _ _ _ _ c.loop-code.invariant c.loop-code-test.false
    ∙ passed (λ m. list_any (λ i. nat_eq i.code.now.name m.name) c.as_slice-used.result.now) c.args.design.now.modules.now
    ∙ (λ k. filter (λ m. list_any (λ i. nat_eq i.code.now.name m.name) (c.as_slice-used.ensures k)) c.args.design.now.modules.now)
    ∙ (λ k. filter (λ m. any_of_map (λ i. nat_eq i.code.name m.name) instance_meant c.in_ok-all.all k) c.args.design.now.modules.now)
    ∙ (λ k. filter (λ m. list_any (λ i. nat_eq i.code.name m.name) (c.in_ok-all.ensures k)) c.args.design.now.modules.now)
