-- What a block does, and what that writes and reads wherever the block stands.
use Rattle.std.specs.Prelude.{◌≡◌, ◌≤◌, ℕ, suc, true, List, [], ◌∷◌, ◌++◌, length, Some, slice_index_or}
use Rattle.std.specs.List.{flat_map}
use Rattle.uc_syntax.specs.declared.expression.Expr.{Expr}
use Rattle.uc_syntax.specs.declared.declaration.Module.{Module}
use Rattle.uc_meaning.specs.Lookup.{System, module_at, next_of}
use Rattle.uc_meaning.specs.Cells.{as_list}
use Rattle.uc_meaning.specs.Code.{written_cell}
use Rattle.uc_order_rules.specs.Mentions.{Mention, Reads, mentions}
use Rattle.uc_order_rules.specs.Roots.{name_at}
use Rattle.uc_order_rules.specs.Reads.{cells_read, name_reads}
use Rattle.uc_order_rules.specs.Dependence.{Blocks, Writing, stepped_piece, writing_by}
use Rattle.uc_step_cycles.specs.declared.acts.Act.{Act}
use Rattle.uc_step_cycles.specs.declared.acts.Act.TheVariants.{Writes, Steps}
use Rattle.uc_step_cycles.specs.declared.acts.Acts.{Acts}
use Rattle.uc_step_cycles.specs.declared.acts.Context.{Context}

abbrev pub primed_name : Mention → List ℕ
primed_name (Reads x true ys) = x ∷ []
primed_name other = []

-- the names that expressions read primed
unfoldable pub primed_names : List Expr → List ℕ
primed_names es = flat_map primed_name (flat_map mentions es)

-- Where a block stands: a path in a design, how the blocks of stepped instances write, and the cells that the conditions around it read primed.
pub record Setting : Type 0 where
  pub system : System
  pub path : List ℕ
  pub blocks : Blocks
  pub around : List ℕ

-- the cells that names read primed
unfoldable pub cells_of_primed : Setting → List ℕ → List ℕ
cells_of_primed s names = flat_map (λ x. name_reads s.system (cells_read s.system) (name_at s.path x)) names

-- the cells that are written with names
unfoldable pub cells_of_written : Setting → List ℕ → List ℕ
cells_of_written s names = flat_map (λ x. as_list (written_cell s.system s.path x)) names

-- what each condition and those around it read, behind what is known of the ones before it
unfoldable pub arounds : Setting → List (List ℕ) → List Context → List (List ℕ)
arounds s known [] = known
arounds s known (c ∷ cs) = arounds s (known ++ (slice_index_or known c.around [] ++ cells_of_primed s c.reads) ∷ []) cs

-- the cells that the conditions around a statement read primed: those around the block for 0, and else those of a condition and around it
unfoldable pub around_of : Setting → List Context → ℕ → List ℕ
around_of s cs n = slice_index_or (arounds s (s.around ∷ []) cs) n []

abbrev pub act_writings : Setting → List Context → Act → List Writing
act_writings s cs (Writes w) =
    record { place = w.place; written = cells_of_written s w.written; reads = around_of s cs w.around ++ cells_of_primed s w.reads } ∷ []
act_writings s cs (Steps i n) = stepped_piece s.blocks (s.path ++ i ∷ []) (module_at s.system (s.path ++ i ∷ [])) (around_of s cs n)

-- all that is written, wherever the block stands
unfoldable pub writings_of : Setting → Acts → List Writing
writings_of s a = flat_map (act_writings s a.contexts) a.acts

abbrev pub act_around : Act → ℕ
act_around (Writes w) = w.around
act_around (Steps i n) = n

-- each condition stands in one before it, or in none
unfoldable pub ContextsFit : ℕ → List Context → Type 0
ContextsFit n [] = Unit {0}
ContextsFit n (c ∷ cs) = (c.around ≤ n) × ContextsFit (suc n) cs

unfoldable pub ActsFit : ℕ → List Act → Type 0
ActsFit n [] = Unit {0}
ActsFit n (a ∷ as') = (act_around a ≤ n) × ActsFit n as'

-- conditions and statements stand in conditions that are there
pub record IsNested (a : Acts) : Type 0 where
  pub contexts_fit : ContextsFit 0 a.contexts
  pub acts_fit : ActsFit (length a.contexts) a.acts

abbrev pub none_yet : Acts
none_yet = record { contexts = []; acts = [] }

-- These are the acts of a module's next block: wherever it stands, it writes what they write.
pub record AreActs (m : Module) (a : Acts) : Type 0 where
  pub nested : IsNested a
  pub same : (s : Setting) → module_at s.system s.path ≡ Some m → writing_by s.system s.blocks s.path (next_of m) s.around ≡ writings_of s a
