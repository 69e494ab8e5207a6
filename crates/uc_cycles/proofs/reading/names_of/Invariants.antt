use Rattle.std.proofs.Common.{◌≡◌, ℕ, take}
use Rattle.std.specs.Prelude.{slice_get}
use Rattle.std.specs.List.{list_any}
use Rattle.uc_rules.specs.Names.{names_one_of}
use Rattle.uc_cycles.specs.Uses.{defines_name}
use Rattle.uc_cycles.proofs.reading.names_of.Given as goal

abbrev pub invariant-loop-place : goal.invariant-loop-place
invariant-loop-place l = (x : ℕ) → names_one_of l.names x ≡ list_any (λ k. defines_name x (slice_get l.declarations k)) (take l.place-index l.places)
