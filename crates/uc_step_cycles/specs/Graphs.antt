-- Graphs of cells, of the statements that write them, and of the conditions around these.
use Rattle.std.specs.Prelude.{◌≡◌, ◌⊎◌, ◌↔◌, ◌<◌, ◌≤◌, ℕ, zero, suc, true, List, [], ◌∷◌, ◌++◌, length, slice_get, Option, Some}
use Rattle.uc_meaning.specs.Lookup.{System}
use Rattle.uc_meaning.specs.Cells.{cells_of}
use Rattle.uc_declared_types.specs.AliasLaw.{IsAmong}
use Rattle.uc_graph.specs.Order.{has, needs}
use Rattle.uc_graph.specs.Cycles.{LiesOnCycle}
use Rattle.uc_order_rules.specs.Roots.{name_at}
use Rattle.uc_order_rules.specs.Reads.{cells_read, name_reads}
use Rattle.uc_order_rules.specs.Dependence.{depends_on, on_step_cycle}
use Rattle.uc_step_cycles.specs.declared.acts.Act.TheVariants.{Writes, Steps}
use Rattle.uc_step_cycles.specs.declared.acts.Acts.{Acts}
use Rattle.uc_step_cycles.specs.declared.acts.Context.{Context}
use Rattle.uc_step_cycles.specs.declared.acts.Writing.{Writing as WritingStatement}
use Rattle.uc_order_rules.specs.Passages.{Carries, Passes}
use Rattle.uc_step_cycles.specs.Stepping.{IsStepped, KnowsBlocks, written_at}

-- The nodes of a graph: those of cells are the first ones; then come those of the conditions of a number and of the acts at a path; and each name
-- that is read primed at a path has one, its cell's or one from which what it reads is reached.
pub record Nodes : Type 0 where
  pub count : ℕ
  pub cell : ℕ → Option ℕ
  pub around : List ℕ → ℕ → ℕ
  pub doing : List ℕ → ℕ → ℕ
  pub read : List ℕ → ℕ → Option ℕ

module _ (system : System) (acts : List ℕ → Acts) (graph : List (List ℕ)) (nodes : Nodes) where
  -- an edge
  abbrev pub IsEdge : ℕ → ℕ → Type 0
  IsEdge a b = has (needs graph a) b ≡ true

  -- some of these names has the node
  abbrev pub ReadsNode : List ℕ → List ℕ → ℕ → Type 0
  ReadsNode path names b = (x : ℕ) × IsAmong x names × (nodes.read path x ≡ Some b)

  -- a name that is read primed leads to a cell
  abbrev pub LeadsToCell : List ℕ → ℕ → ℕ → Type 0
  LeadsToCell path x m = (b : ℕ) × (nodes.read path x ≡ Some b) × ((b ≡ m) ⊎ ((nodes.count ≤ b) × Passes graph nodes.count b m))

  abbrev pub primed : List ℕ → ℕ → List ℕ
  primed path x = name_reads system (cells_read system) (name_at path x)

  -- what leads on from the conditions of a number
  abbrev pub AroundEdge : List ℕ → ℕ → ℕ → Type 0
  AroundEdge path zero b = (q : List ℕ) × (i : ℕ) × (k : ℕ) × IsStepped system acts q × (path ≡ q ++ i ∷ []) × IsAmong (Steps i k) (acts q).acts × (b ≡ nodes.around q k)
  AroundEdge path (suc k) b = (c : Context) × (slice_get (acts path).contexts k ≡ Some c) × ((b ≡ nodes.around path c.around) ⊎ ReadsNode path c.reads b)

  -- what leads on from a statement
  abbrev pub DoingEdge : List ℕ → WritingStatement → ℕ → Type 0
  DoingEdge path w b = (b ≡ nodes.around path w.around) ⊎ ReadsNode path w.reads b

  -- what leads on from a cell: a statement that writes it
  pub record CellEdge (n b : ℕ) : Type 0 where
    pub path : List ℕ
    pub act : ℕ
    pub statement : WritingStatement
    pub stepped : IsStepped system acts path
    pub there : slice_get (acts path).acts act ≡ Some (Writes statement)
    pub cell : ℕ
    pub writes : IsAmong cell (written_at system path statement.written)
    pub is_cell : nodes.cell cell ≡ Some n
    pub is : b ≡ nodes.doing path act

  -- The graph has exactly these edges.
  pub record IsStepGraph : Type 0 where
    pub within : (y n : ℕ) → nodes.cell y ≡ Some n → n < nodes.count
    pub alone : (x y n : ℕ) → nodes.cell x ≡ Some n → nodes.cell y ≡ Some n → x ≡ y
    pub bound : (y n : ℕ) → nodes.cell y ≡ Some n → y < length (cells_of system)
    pub around_behind : (path : List ℕ) (k : ℕ) → IsStepped system acts path → nodes.count ≤ nodes.around path k
    pub doing_behind : (path : List ℕ) (a : ℕ) → IsStepped system acts path → nodes.count ≤ nodes.doing path a
    pub written : (path : List ℕ) (w : WritingStatement) (y : ℕ) → IsStepped system acts path → IsAmong y (written_at system path w.written) → (n : ℕ) × (nodes.cell y ≡ Some n)
    pub numbered : (path : List ℕ) (x y : ℕ) → IsStepped system acts path → IsAmong y (primed path x) → (m : ℕ) × (nodes.cell y ≡ Some m)
    pub leads : (path : List ℕ) (x m : ℕ) → IsStepped system acts path → m < nodes.count → LeadsToCell path x m ↔ ((y : ℕ) × IsAmong y (primed path x) × (nodes.cell y ≡ Some m))
    pub of_cells : (n b : ℕ) → n < nodes.count → IsEdge n b ↔ CellEdge n b
    pub of_conditions : (path : List ℕ) (k b : ℕ) → IsStepped system acts path → k ≤ length (acts path).contexts → IsEdge (nodes.around path k) b ↔ AroundEdge path k b
    pub of_statements : (path : List ℕ) (a : ℕ) (w : WritingStatement) (b : ℕ) → IsStepped system acts path → slice_get (acts path).acts a ≡ Some (Writes w) → IsEdge (nodes.doing path a) b ↔ DoingEdge path w b

abbrev pub GraphsCarrySteps : Type 0
GraphsCarrySteps =
    (system : System) (acts : List ℕ → Acts) (graph : List (List ℕ)) (nodes : Nodes) → KnowsBlocks system acts → IsStepGraph system acts graph nodes →
    Carries graph nodes.count nodes.cell (depends_on system) × ((x n : ℕ) → nodes.cell x ≡ Some n → (on_step_cycle system x ≡ true) ↔ LiesOnCycle graph n)
