-- The names of the instances that acts step.
use Rattle.std.specs.Prelude.{◌≡◌, ℕ, Bool, false, nat_eq, is_some, List}
use Rattle.std.specs.List.{list_any}
use Rattle.indexmap.specs.IndexMap.{get}
use Rattle.uc_names.specs.declared.firsts.Firsts.{Firsts}
use Rattle.uc_step_cycles.specs.declared.acts.Act.{Act}
use Rattle.uc_step_cycles.specs.declared.acts.Act.TheVariants.{Writes, Steps}

abbrev pub steps_name : ℕ → Act → Bool
steps_name x (Writes w) = false
steps_name x (Steps i n) = nat_eq i x

unfoldable pub KnowsSteps : List Act → Firsts Bool → Type 0
KnowsSteps as' t = (x : ℕ) → is_some (get nat_eq t.things x) ≡ list_any (steps_name x) as'
