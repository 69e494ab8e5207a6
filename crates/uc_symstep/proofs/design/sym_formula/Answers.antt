use Rattle.std.proofs.Common.{◌∙◌}
use Rattle.std.specs.List.{flat_map}
use Rattle.uc_symstep.proofs.Runs.{read_through, formula_get, cells_of_copies, formula_result}
use Rattle.uc_symstep.proofs.Known.{formula_known}
use Rattle.uc_symstep.proofs.design.sym_formula.Goals as goal

pub formula_term-requires-clause-cells : goal.formula_term-requires-clause-cells
formula_term-requires-clause-cells c =
    cells_of_copies _ _ _ _ _ c.requires.states (c.as_slice-2.ensures ∙ c.in_ok-cells.ensures)
    (c.requires.copies _ (formula_get c.args.f.now c.args.k _ c.requires.there (read_through _ _ _ _ c.as_slice-formulas.ensures c.index-formulas-k.is)))

pub returns-clause-ok : goal.returns-clause-ok
returns-clause-ok c =
    formula_result _ _ c.args.f.now c.args.k _ (flat_map (λ s. s.cells) c.args.states.now) _ _ c.requires.there
    (read_through _ _ _ _ c.as_slice-formulas.ensures c.index-formulas-k.is) (c.as_slice-2.ensures ∙ c.in_ok-cells.ensures) c.in_ok-t.ensures.ok

pub returns-clause-known : goal.returns-clause-known
returns-clause-known c =
    formula_known c.args.f.now c.args.k _ _ _ _ _ _ c.requires.there (read_through _ _ _ _ c.as_slice-formulas.ensures c.index-formulas-k.is) (c.as_slice-2.ensures ∙ c.in_ok-cells.ensures) c.in_ok-t.ensures.known
