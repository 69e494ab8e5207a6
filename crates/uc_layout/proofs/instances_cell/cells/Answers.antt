use Rattle.std.proofs.Common.{ap, ◌∙◌}
use Rattle.std.specs.List.{flat_map}
use Rattle.uc_syntax.proofs.Added.{added_end, added_more}
use Rattle.uc_meaning.specs.Cells.{cells_of, instances}
use Rattle.uc_layout.specs.Instances.{instance_meant, cells_at}
use Rattle.uc_layout.proofs.Listed.{flat_of_map}
use Rattle.uc_layout.proofs.instances_cell.cells.Goals as goal

pub returns : goal.returns
unfolding cells_of
returns c =
    added_end _ _ _ _ _ c.loop-here.invariant c.loop-here-test.false
    ∙ ap (flat_map (λ i. cells_at c.args.tables.now (instance_meant i))) c.as_slice-here-items.ensures
    ∙ flat_of_map (cells_at c.args.tables.now) instance_meant c.in_ok-all.all
    ∙ ap (flat_map (cells_at c.args.tables.now)) (c.in_ok-all.ensures ∙ ap instances c.system.ensures)

pub loop-here-preserved : goal.loop-here-preserved
loop-here-preserved c =
    added_more (λ i. cells_at c.args.tables.now (instance_meant i)) _ _ _ _ _ c.here-item.result c.loop-here.invariant c.loop-here-test.true c.here-item.is c.in_ok-add_cells_at.ensures
