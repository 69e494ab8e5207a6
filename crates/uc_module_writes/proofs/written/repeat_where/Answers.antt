use Rattle.std.proofs.Common.{◌∙◌, ◌<◌, ℕ, List, sym}
use Rattle.uc_order_rules.specs.Paths.{in_turn, times}
use Rattle.uc_module_writes.specs.declared.written.WrittenPairs.{WrittenPairs}
use Rattle.uc_module_writes.specs.Found.{Code, Finds, FindsInTurn}
use Rattle.uc_module_writes.proofs.Going.{above_one, held_on, once_on}
use Rattle.uc_module_writes.proofs.written.repeat_where.Goals as goal

pub returns-then-not-is_repeated : goal.returns-then-not-is_repeated
returns-then-not-is_repeated c = λ names body n h is a. once_on names c.args.turn body n h (sym c.if-not-is_repeated.true ∙ is) a

pub returns : goal.returns
returns c = λ names body n h is a.
    held_on (λ (w : WrittenPairs). (names : List ℕ) (body : Code) (n : ℕ) → 1 < n → FindsInTurn names body c.args.turn → Finds names (λ meets. in_turn (times n (in_turn (body meets)))) w) _ _ _ _
    c.in_ok-turns.ensures c.repeat-repeated.ensures names body n (above_one n (sym c.if-not-is_repeated.false ∙ is)) a
