use Rattle.std.proofs.Common.{◌≡◌, map, take}
use Rattle.uc_syntax.proofs.names.Names.copy.Given as goal

abbrev pub invariant-loop-text : goal.invariant-loop-text
invariant-loop-text l = l.copy ≡ take l.text-index (map (λ t. t.items) l.texts)
