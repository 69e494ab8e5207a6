-- What the rule on parts that are written twice rests on.
use Rattle.std.specs.Prelude.{◌≡◌, ℕ, false}
use Rattle.uc_meaning.specs.Lookup.{System}
use Rattle.uc_rules.specs.Cycles.{on_instance_cycle}

-- No module has itself as an instance, as the static rules say.
abbrev pub NoInstanceCycles : System → Type 0
NoInstanceCycles system = (x : ℕ) → on_instance_cycle system x ≡ false
