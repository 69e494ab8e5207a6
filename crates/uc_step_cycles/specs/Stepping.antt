-- The blocks that a root steps, by their paths, and the cells that statements depend on through the conditions around them.
use Rattle.std.specs.Prelude.{◌≡◌, ◌⊎◌, ◌↔◌, ◌<◌, ℕ, zero, suc, List, [], ◌∷◌, ◌++◌, length, slice_get, Some}
use Rattle.std.specs.List.{flat_map}
use Rattle.uc_lexer.specs.declared.place.Place.{Place}
use Rattle.uc_syntax.specs.declared.declaration.Module.{Module}
use Rattle.uc_meaning.specs.Lookup.{System, main_module, module_at}
use Rattle.uc_meaning.specs.Cells.{as_list, longest_chain}
use Rattle.uc_meaning.specs.Code.{written_cell}
use Rattle.uc_declared_types.specs.AliasLaw.{IsAmong}
use Rattle.uc_order_rules.specs.Roots.{name_at}
use Rattle.uc_order_rules.specs.Reads.{cells_read, name_reads}
use Rattle.uc_order_rules.specs.Dependence.{Writing, depends_on, writings}
use Rattle.uc_step_cycles.specs.declared.acts.Act.TheVariants.{Writes, Steps}
use Rattle.uc_step_cycles.specs.declared.acts.Acts.{Acts}
use Rattle.uc_step_cycles.specs.declared.acts.Context.{Context}
use Rattle.uc_step_cycles.specs.declared.acts.Writing.{Writing as WritingStatement}
use Rattle.uc_step_cycles.specs.Acts.{AreActs}

-- the cells that names read primed in the module at a path, and those that are written with names
abbrev pub primed_at : System → List ℕ → List ℕ → List ℕ
primed_at system path names = flat_map (λ x. name_reads system (cells_read system) (name_at path x)) names

abbrev pub written_at : System → List ℕ → List ℕ → List ℕ
written_at system path names = flat_map (λ x. as_list (written_cell system path x)) names

-- What the block at each path does. Chains of instances end.
pub record KnowsBlocks (system : System) (acts : List ℕ → Acts) : Type 0 where
  pub root : Module
  pub is_root : main_module system ≡ Some root
  pub acts_are : (path : List ℕ) (m : Module) → module_at system path ≡ Some m → AreActs m (acts path)
  pub shallow : (path : List ℕ) (m : Module) → module_at system path ≡ Some m → length path < longest_chain

module _ (system : System) (acts : List ℕ → Acts) where
  -- the block at a path so deep is stepped
  unfoldable pub IsSteppedIn : ℕ → List ℕ → Type 0
  IsSteppedIn zero path = path ≡ []
  IsSteppedIn (suc n) path =
      (q : List ℕ) × (i : ℕ) × (k : ℕ) × (m : Module) × IsSteppedIn n q × (path ≡ q ++ i ∷ []) × IsAmong (Steps i k) (acts q).acts × (module_at system path ≡ Some m)

  abbrev pub IsStepped : List ℕ → Type 0
  IsStepped path = (n : ℕ) × IsSteppedIn n path

  -- A cell is read primed by the conditions of a number at a path: by the condition, by one around it, or where the block itself is meant, by
  -- those around a step of it. The first number bounds how far this is followed.
  unfoldable pub IsReadIn : ℕ → List ℕ → ℕ → ℕ → Type 0
  IsReadIn zero path k y = ⊥
  IsReadIn (suc n) path zero y =
      (q : List ℕ) × (i : ℕ) × (k : ℕ) × IsStepped q × (path ≡ q ++ i ∷ []) × IsAmong (Steps i k) (acts q).acts × IsReadIn n q k y
  IsReadIn (suc n) path (suc k) y =
      (c : Context) × (slice_get (acts path).contexts k ≡ Some c) × (IsAmong y (primed_at system path c.reads) ⊎ IsReadIn n path c.around y)

  abbrev pub IsRead : List ℕ → ℕ → ℕ → Type 0
  IsRead path k y = (n : ℕ) × IsReadIn n path k y

  -- a writing statement of a block that is stepped
  pub record StandsAt (path : List ℕ) (w : WritingStatement) : Type 0 where
    pub stepped : IsStepped path
    pub there : IsAmong (Writes w) (acts path).acts

  -- a cell is read primed by a statement or by the conditions around it
  abbrev pub ReadsPrimed : List ℕ → WritingStatement → ℕ → Type 0
  ReadsPrimed path w y = IsAmong y (primed_at system path w.reads) ⊎ IsRead path w.around y

  -- a statement that writes a cell reads another one primed
  pub record DependsBy (x y : ℕ) : Type 0 where
    pub path : List ℕ
    pub statement : WritingStatement
    pub stands : StandsAt path statement
    pub writes : IsAmong x (written_at system path statement.written)
    pub reads : ReadsPrimed path statement y

  -- a statement with this place and these cells is one of a block that is stepped
  pub record IsWritten (place : Place) (cells : List ℕ) : Type 0 where
    pub path : List ℕ
    pub statement : WritingStatement
    pub stands : StandsAt path statement
    pub is_place : place ≡ statement.place
    pub are_cells : cells ≡ written_at system path statement.written

abbrev pub IsOneOf : List Writing → Place → List ℕ → Type 0
IsOneOf ws place cells = (w : Writing) × IsAmong w ws × (w.place ≡ place) × (w.written ≡ cells)

abbrev pub WritingsAreReached : Type 0
WritingsAreReached = (system : System) (acts : List ℕ → Acts) → KnowsBlocks system acts → (place : Place) (cells : List ℕ) → IsOneOf (writings system) place cells ↔ IsWritten system acts place cells

abbrev pub DependencesAreReached : Type 0
DependencesAreReached = (system : System) (acts : List ℕ → Acts) → KnowsBlocks system acts → (x y : ℕ) → IsAmong y (depends_on system x) ↔ DependsBy system acts x y
