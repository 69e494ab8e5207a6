use Rattle.std.proofs.Common.{ℕ, Bool, List, take}
use Rattle.std.specs.Prelude.{◌||◌, ◌&&◌}
use Rattle.uc_meaning.specs.Lookup.{names_one}
use Rattle.uc_uses.specs.declared.tree.Step.{Step}
use Rattle.uc_step_cycles.specs.Cells.{Enters, is_cell_kind}
use Rattle.uc_step_cycles.proofs.own.enter_names.Given as goal

abbrev pub invariant-loop-identifier : goal.invariant-loop-identifier
invariant-loop-identifier l =
    (before : List Step) (expect : ℕ → Bool) → Enters l.node before expect l.fn.own l.fn.cells → Enters l.node before (λ x. expect x || (names_one x (take l.identifier-index l.names) && is_cell_kind l.is_root l.bound l.kind x)) l.own l.cells
