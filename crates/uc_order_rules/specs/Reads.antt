-- The cells that an expression reads, and those that it reads primed.
use Rattle.std.specs.Prelude.{ℕ, zero, suc, Bool, true, false, if◌then◌else◌, List, [], ◌∷◌, length, Option, Some, None}
use Rattle.std.specs.List.{flat_map}
use Rattle.std.specs.Option.{option_and_then}
use Rattle.uc_syntax.specs.declared.expression.Expr.{Expr}
use Rattle.uc_meaning.specs.Lookup.{System, Defined, module_at, define_of}
use Rattle.uc_meaning.specs.Cells.{as_list}
use Rattle.uc_meaning.specs.Expressions.{binding_of}
use Rattle.uc_meaning.specs.Code.{written_cell}
use Rattle.uc_order_rules.specs.Roots.{NameAt, name_at, led, is_bound_input}
use Rattle.uc_order_rules.specs.Mentions.{Mention, Reads, Applies, ReadsOld, mentions}
use Rattle.uc_order_rules.specs.Uses.{all_uses}

-- How expressions elsewhere are read: bodies of defines, and what is bound to inputs.
abbrev pub Elsewhere : Type 0
Elsewhere = List ℕ → Expr → List ℕ

abbrev pub binding_reads : Elsewhere → Option (List ℕ × Expr) → List ℕ
binding_reads elsewhere None = []
binding_reads elsewhere (Some b) = elsewhere b.0 b.1

-- a name is a cell, where it is a bound output that of the parent's name; a bound input reads what is bound to it
abbrev pub name_reads : System → Elsewhere → NameAt → List ℕ
name_reads system elsewhere n =
    if is_bound_input system n then binding_reads elsewhere (binding_of system n.path n.name) else as_list (written_cell system n.path n.name)

abbrev pub body_reads : Elsewhere → List ℕ → Option Defined → List ℕ
body_reads elsewhere path None = []
body_reads elsewhere path (Some d) = elsewhere path d.body

abbrev pub mention_reads : System → Elsewhere → List ℕ → Mention → List ℕ
mention_reads system elsewhere path (Reads x primed ys) = name_reads system elsewhere (led system path x ys)
mention_reads system elsewhere path (Applies f) = body_reads elsewhere path (option_and_then (λ m. define_of m f) (module_at system path))
mention_reads system elsewhere path (ReadsOld x) = name_reads system elsewhere (name_at path x)

-- all cells that an expression at a path reads, through at most n uses
unfoldable pub reads_through : ℕ → System → Elsewhere
reads_through zero system path e = []
reads_through (suc n) system path e = flat_map (mention_reads system (reads_through n system) path) (mentions e)

-- No chain of uses is longer than there are defines, procedures and bound inputs, but one that leads round.
abbrev pub cells_read : System → Elsewhere
cells_read system = reads_through (suc (length (all_uses system))) system

-- A primed name is one of the module itself, and is read in the new state; where it is a bound input, all that is bound to it.
abbrev pub primed_reads : System → List ℕ → Mention → List ℕ
primed_reads system path (Reads x true ys) = name_reads system (cells_read system) (name_at path x)
primed_reads system path other = []

-- the cells that an expression reads primed
abbrev pub cells_primed : System → List ℕ → Expr → List ℕ
cells_primed system path e = flat_map (primed_reads system path) (mentions e)
