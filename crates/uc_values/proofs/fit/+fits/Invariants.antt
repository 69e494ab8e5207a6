use Rattle.std.proofs.Common.{◌≡◌, true, take, drop}
use Rattle.std.specs.List.{list_all}
use Rattle.uc_values.specs.Values.{fits, fit_parts, tests}
use Rattle.uc_values.proofs.fit.+fits.Given as goal

abbrev pub invariant-fit_indices-loop-at : goal.invariant-fit_indices-loop-at
invariant-fit_indices-loop-at l = list_all (λ row. fits l.index row.0) (take l.at-index l.rows) ≡ true

abbrev pub invariant-fit_elements-loop-value : goal.invariant-fit_elements-loop-value
invariant-fit_elements-loop-value l = list_all (λ row. fits l.element row.1) (take l.value-index l.rows) ≡ true

abbrev pub invariant-fit_parts-loop-place : goal.invariant-fit_parts-loop-place
invariant-fit_parts-loop-place l = fit_parts (tests l.fields) l.parts ≡ fit_parts (tests (drop l.place l.fields)) (drop l.place l.parts)
