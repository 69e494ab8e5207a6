use Rattle.std.proofs.Common.{◌≡◌, drop, ◌&&◌}
use Rattle.std.specs.Prelude.{nat_eq}
use Rattle.std.specs.List.{position_from}
use Rattle.uc_meaning.specs.Cells.{same_path}
use Rattle.uc_layout.proofs.layout_cells.place_of.Given as goal

abbrev pub invariant-loop-place : goal.invariant-loop-place
invariant-loop-place l =
    position_from (λ c. same_path c.path l.path && nat_eq c.name l.name) l.place (drop l.place l.cells) ≡ position_from (λ c. same_path c.path l.path && nat_eq c.name l.name) 0 l.cells
