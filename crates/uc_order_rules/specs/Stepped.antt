-- Instances that are stepped twice on one path through a next block.
use Rattle.std.specs.Prelude.{ℕ, nat_eq, List, [], ◌∷◌, map, length}
use Rattle.std.specs.List.{list_any}
use Rattle.uc_syntax.specs.declared.statement.Stmt.{Stmt}
use Rattle.uc_syntax.specs.declared.statement.Stmt.TheOpen.{Stmt-F}
use Rattle.uc_syntax.specs.declared.statement.Stmt.TheOpen.Stmt-F.{Block, If as Choice, Case as Cases, For, Next}
use Rattle.uc_syntax.specs.declared.statement.Stmt.TheFolds.{fold-Stmt}
use Rattle.uc_syntax.specs.declared.declaration.Module.{Module}
use Rattle.uc_meaning.specs.Lookup.{next_of}
use Rattle.uc_meaning.specs.Code.{turns}
use Rattle.uc_rules.specs.declared.fault.Fault.{Fault}
use Rattle.uc_rules.specs.declared.rule.Rule.TheVariants.{SteppedTwice}
use Rattle.uc_rules.specs.Faults.{breaks_where}
use Rattle.uc_order_rules.specs.Paths.{Stretch, nothing, in_turn, turned, arms}

-- a statement, by the names of the instances that are stepped before it
abbrev pub steps_form : Stmt-F (Stretch ℕ) → Stretch ℕ
steps_form (Block place block) = in_turn block
steps_form (Choice place as' otherwise) = arms as' otherwise
steps_form (Cases place as' otherwise) = arms as' otherwise
steps_form (For place x type from to block) = turned (length (turns from to)) block
steps_form (Next place i) = λ before. record { happens = i.name ∷ []; faults = breaks_where (list_any (nat_eq i.name) before) SteppedTwice place }
steps_form other = λ before. nothing

-- instances that a module's next block steps twice: each at the later statement
abbrev pub stepped_twice : Module → List Fault
stepped_twice m = (in_turn (map (fold-Stmt (Stretch ℕ) steps_form) (next_of m)) []).faults
