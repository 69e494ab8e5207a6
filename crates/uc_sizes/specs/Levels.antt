-- Code at a level of calls and steps.
use Rattle.std.specs.Prelude.{ℕ, false, List, map}
use Rattle.std.specs.List.{filter_map}
use Rattle.uc_syntax.specs.declared.declaration.Clause.{Clause}
use Rattle.uc_syntax.specs.declared.declaration.Clause.TheVariants.{Requires}
use Rattle.uc_syntax.specs.declared.declaration.Procedure.{Procedure}
use Rattle.uc_meaning.specs.Lookup.{System}
use Rattle.uc_meaning.specs.Code.{requires_in}
use Rattle.uc_order_rules.specs.Sizes.{Size, nodes, plus, size, size_through, sum, times, total}
use Rattle.uc_sizes.specs.declared.pieces.Repeated.{Repeated}
use Rattle.uc_sizes.specs.Pieces.{Setting, piece_size}

-- code at a path, where the code elsewhere is followed through so many levels
abbrev pub at_level : System → ℕ → List ℕ → Setting
at_level system n path = record { system = system; blocks = size_through n system; path = path; of_nodes = false }

-- how large pieces are, each as often as it is run through
abbrev pub pieces_size : Setting → List Repeated → Size
pieces_size c ps = sum (map (λ r. times r.times (piece_size c r.piece)) ps)

abbrev pub clause_size : System → List ℕ → Clause → Size
clause_size system path (Requires place e) = size 0 (nodes system path e)
clause_size system path other = size 0 0

abbrev pub requires_size : System → List ℕ → List Clause → Size
requires_size system path clauses = size 0 (total (map (nodes system path) (filter_map requires_in clauses)))

abbrev pub procedure_size : System → ℕ → List ℕ → Procedure → Size
procedure_size system n path p = plus (requires_size system path p.clauses) (size_through n system path p.body)
