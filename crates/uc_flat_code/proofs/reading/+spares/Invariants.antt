use Rattle.std.proofs.Common.{◌≡◌, drop}
use Rattle.std.specs.List.{list_all}
use Rattle.uc_flat_code.specs.Code.{spares}
use Rattle.uc_flat_code.proofs.reading.+spares.Given as goal

abbrev pub invariant-all_spare-loop-part : goal.invariant-all_spare-loop-part
invariant-all_spare-loop-part l = list_all (λ e. spares l.cells e) (drop l.part-index l.parts) ≡ list_all (λ e. spares l.cells e) l.parts
