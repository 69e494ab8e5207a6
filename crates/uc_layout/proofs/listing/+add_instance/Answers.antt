use Rattle.std.proofs.Common.{◌++◌, ◌-◌, ap, ◌∙◌}
use Rattle.std.specs.List.{flat_map}
use Rattle.uc_syntax.proofs.Added.{added_end}
use Rattle.uc_lookup.specs.Parts.{system_in}
use Rattle.uc_layout.specs.Listing.{instance_at, cells_at, code_at, below}
use Rattle.uc_layout.proofs.Walks.{walked_all}
use Rattle.uc_layout.proofs.listing.+add_instance.Goals as goal

pub add_instance-returns-clause-cells : goal.add_instance-returns-clause-cells
add_instance-returns-clause-cells t c =
    walked_all cells_at c.args.depth (system_in c.args.design.now) (instance_at c.args.here.now) c.args.cells.now c.add_cells_at.new.cells c.loop-decl.cells c.if-depth-eq0.false c.in_ok-add_cells_at.ensures
    (added_end _ _ _ _ _ c.loop-decl.invariant.cells c.loop-decl-test.false
    ∙ ap (λ ds. c.add_cells_at.new.cells ++ flat_map (below cells_at (c.args.depth - 1) (system_in c.args.design.now) (instance_at c.args.here.now)) ds) c.as_slice-decl-items.ensures)

pub add_instance-returns-clause-codes : goal.add_instance-returns-clause-codes
add_instance-returns-clause-codes t c =
    walked_all code_at c.args.depth (system_in c.args.design.now) (instance_at c.args.here.now) c.args.codes.now c.push.new.self c.loop-decl.codes c.if-depth-eq0.false c.in_ok-push.ensures.ok
    (added_end _ _ _ _ _ c.loop-decl.invariant.codes c.loop-decl-test.false
    ∙ ap (λ ds. c.push.new.self ++ flat_map (below code_at (c.args.depth - 1) (system_in c.args.design.now) (instance_at c.args.here.now)) ds) c.as_slice-decl-items.ensures)
