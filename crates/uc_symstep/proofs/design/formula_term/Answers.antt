use Rattle.std.proofs.Common.{◌∙◌}
use Rattle.uc_symstep.proofs.Runs.{types_through, formula_fine, formula_typed}
use Rattle.uc_symstep.proofs.design.formula_term.Goals as goal

pub sym_expression-requires-clause-cells : goal.sym_expression-requires-clause-cells
sym_expression-requires-clause-cells c = types_through _ c.args.f.now _ _ c.args.x.now _ c.requires.types (c.as_slice.ensures ∙ c.in_ok-all.ensures) c.requires.cells

pub sym_expression-requires-clause-typed : goal.sym_expression-requires-clause-typed
sym_expression-requires-clause-typed c = formula_fine c.args.f.now _ _ c.args.x.now c.requires.formula c.requires.types (c.as_slice.ensures ∙ c.in_ok-all.ensures)

pub returns-clause-ok : goal.returns-clause-ok
returns-clause-ok c = formula_typed _ _ c.args.f.now _ _ c.args.x.now _ _ c.requires.formula c.requires.types (c.as_slice.ensures ∙ c.in_ok-all.ensures) c.in_ok-t.ensures.ok
