-- Counting up to the limits of a design.
use Rattle.std.specs.Prelude.{◌≡◌, ℕ, Bool, true, false, ◌||◌, nat_lt, List, Option, Some, None, Result, Ok, Err}
use Rattle.uc_syntax.specs.declared.expression.Expr.{Expr}
use Rattle.uc_syntax.specs.declared.expression.Selection.{Selection}
use Rattle.uc_syntax.specs.declared.expression.Selection.TheVariants.{Field}
use Rattle.uc_meaning.specs.Lookup.{System}
use Rattle.uc_order_rules.specs.Roots.{NameAt as NameMeant}
use Rattle.uc_order_rules.specs.Sizes.{Size, most_nodes, most_statements, nodes_through, plus, size}
use Rattle.uc_sizes.specs.Counting.{Setting}
use Rattle.uc_sizes.specs.declared.spent.Halt.{Halt}
use Rattle.uc_sizes.specs.declared.spent.Halt.TheVariants.{TooLarge, NoMemory}
use Rattle.uc_sizes.specs.declared.spent.Spent.{Spent}
use Rattle.uc_sizes.specs.declared.way.NameAt.{NameAt}

-- the limits of statements and nodes are passed
abbrev pub exceeds : Size → Bool
exceeds s = nat_lt most_statements s.statements || nat_lt most_nodes s.nodes

abbrev pub size_in : Spent → Size
size_in s = size s.statements s.nodes

-- counting goes on within the limits with so much more, or ends since so much more passes them
abbrev pub Outcome : Size → Size → Result (Unit {0}) Halt → Size → Type 0
Outcome old new (Ok u) amount = (new ≡ plus old amount) × (exceeds new ≡ false)
Outcome old new (Err TooLarge) amount = exceeds (plus old amount) ≡ true
Outcome old new (Err NoMemory) amount = Unit {0}

-- so much is counted, where what was counted before is within the limits
unfoldable pub Spends : Size → Size → Result (Unit {0}) Halt → Size → Type 0
Spends old new r amount = exceeds old ≡ false → Outcome old new r amount

abbrev pub name_in : NameAt → NameMeant
name_in n = record { path = n.path; name = n.name }

-- an expression at a path, where those elsewhere are followed through so many levels
abbrev pub at_level : System → ℕ → List ℕ → Setting
at_level system n path = record { system = system; elsewhere = nodes_through n system; path = path }

-- the name behind a dot
abbrev pub field_of : Selection Expr → Option ℕ
field_of (Field place y) = Some y.name
field_of other = None
