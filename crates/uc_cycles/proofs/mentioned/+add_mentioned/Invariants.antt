use Rattle.std.proofs.Common.{◌≡◌, ◌++◌, take}
use Rattle.std.specs.List.{flat_map}
use Rattle.uc_names.specs.Senses.{module_in}
use Rattle.uc_rules.specs.Cycles.{mentioned}
use Rattle.uc_cycles.specs.Numbers.{type_places}
use Rattle.uc_cycles.proofs.mentioned.+add_mentioned.Given as goal

abbrev pub invariant-add_all_mentioned-loop-field : goal.invariant-add_all_mentioned-loop-field
invariant-add_all_mentioned-loop-field l = l.needs ≡ l.fn.needs ++ type_places l.numbers (flat_map (λ p. mentioned l.homes (module_in l.homes.modules l.home) p.ty) (take l.field-index l.fields))
