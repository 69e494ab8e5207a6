use Rattle.std.proofs.Common.{ℕ, List, [], ◌∷◌, ◌++◌}
use Rattle.uc_order_rules.specs.Paths.{in_turn}
use Rattle.uc_module_writes.specs.declared.written.WrittenPairs.{WrittenPairs}
use Rattle.uc_module_writes.specs.Found.{Code, FindsInTurn, FindsOneOf}
use Rattle.uc_module_writes.proofs.Going.{held_on}
use Rattle.uc_module_writes.proofs.written.WrittenPairs.or_all.Goals as goal

pub returns : goal.returns
returns c =
    held_on (λ (w : WrittenPairs). (names : List ℕ) (arms arm : Code) → FindsOneOf names arms c.args.self → FindsInTurn names arm c.args.other → FindsOneOf names (λ meets. arms meets ++ in_turn (arm meets) ∷ []) w) _ _ _ _
    c.in_ok-either.ensures c.or-added.ensures
