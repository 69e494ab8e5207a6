use Rattle.std.proofs.Common.{◌≡◌, ◌++◌, drop, map}
use Rattle.std.specs.Option.{option_map}
use Rattle.uc_flat_code.specs.Code.{in_order}
use Rattle.uc_flat_order.specs.Uses.{code_at}
use Rattle.uc_flat_order.proofs.code.code_along.Given as goal

abbrev pub invariant-loop-place : goal.invariant-loop-place
invariant-loop-place l = in_order (map (code_at l.names l.writing l.code) l.order) ≡ option_map (λ xs. l.all ++ xs) (in_order (map (code_at l.names l.writing l.code) (drop l.place-index l.order)))
