-- A walk over code that finds the parts that are written twice, each turn of a loop but the first ones left out.
use Rattle.std.specs.Prelude.{◌≡◌, ℕ, Bool, ◌||◌, ◌&&◌, not, List, [], ◌∷◌, ◌++◌, map, length, Option}
use Rattle.std.specs.List.{list_any}
use Rattle.uc_lexer.specs.declared.place.Place.{Place}
use Rattle.uc_syntax.specs.declared.statement.Arm.{Arm}
use Rattle.uc_syntax.specs.declared.statement.Target.{Target}
use Rattle.uc_syntax.specs.declared.statement.Stmt.{Stmt}
use Rattle.uc_syntax.specs.declared.statement.Stmt.TheOpen.{Stmt-F}
use Rattle.uc_syntax.specs.declared.statement.Stmt.TheOpen.Stmt-F.{Block, Havoc, Assign, If as Choice, Case as Cases, For, Call, Next}
use Rattle.uc_syntax.specs.declared.statement.Stmt.TheFolds.{fold-Stmt}
use Rattle.uc_syntax.specs.declared.declaration.Clause.{Clause}
use Rattle.uc_meaning.specs.Code.{turns, modifies_in}
use Rattle.uc_rules.specs.declared.fault.Fault.{Fault}
use Rattle.uc_rules.specs.declared.rule.Rule.TheVariants.{TwiceAssigned}
use Rattle.uc_rules.specs.Faults.{breaks_where, first_of}
use Rattle.uc_order_rules.specs.Writes.{Part, Stepping, is_empty, met, overlap, part_of_name, part_of_target}
use Rattle.uc_order_rules.specs.Walks.{Parted, Passed, Walk, passed, walk_choice, walk_each, walk_turns}

-- a part that is written at a place
abbrev pub one_part : Place → Part → Walk Part
one_part place p again seen = passed (seen ++ p ∷ []) (breaks_where (again || met overlap seen p) TwiceAssigned place)

abbrev pub one_target : Place → Target → Walk Part
one_target place t = one_part place (part_of_target t)

abbrev pub one_name : Place → ℕ → Walk Part
one_name place x = one_part place (part_of_name x)

-- the names that a clause modifies
abbrev pub one_clause : Place → Clause → Walk Part
one_clause place c = walk_each (map (one_name place) (modifies_in c))

abbrev pub walk_targets : Place → List Target → Walk Part
walk_targets place targets = walk_each (map (one_target place) targets)

abbrev pub is_stepped_twice : Bool → List Part → Stepping → Bool
is_stepped_twice again seen s = s.meet || ((again && not (is_empty s.parts)) || list_any (met overlap seen) s.parts)

-- an instance that is stepped at a place
abbrev pub walk_step : Place → Stepping → Walk Part
walk_step place s again seen = passed (seen ++ s.parts) (breaks_where (is_stepped_twice again seen s) TwiceAssigned place)

module _ (modified : ℕ → List ℕ) (steps : ℕ → Stepping) where
  abbrev pub walk_form : Stmt-F (Walk Part) → Walk Part
  walk_form (Block place block) again seen = walk_each block again seen
  walk_form (Havoc place i primed) again seen = one_name place i.name again seen
  walk_form (Assign place targets sources) again seen = walk_targets place targets again seen
  walk_form (Choice place as' otherwise) again seen = walk_choice as' otherwise again seen
  walk_form (Cases place as' otherwise) again seen = walk_choice as' otherwise again seen
  walk_form (For place x type from to block) again seen = walk_turns (length (turns from to)) (walk_each block) again seen
  walk_form (Call place targets f arguments) again seen =
      walk_each (map (one_target place) targets ++ map (one_name place) (modified f.name)) again seen
  walk_form (Next place i) again seen = walk_step place (steps i.name) again seen
  walk_form other again seen = passed seen []

  unfoldable pub walk_of : Stmt → Walk Part
  walk_of = fold-Stmt (Walk Part) walk_form

  -- a block of statements
  abbrev pub walk_block : List Stmt → Walk Part
  walk_block block = walk_each (map walk_of block)

  abbrev pub walk_arm : Arm Stmt → Walk Part
  walk_arm a = walk_block a.body

-- A walk went so: what is seen now, and the first of the faults that were noted before and of those that it met.
pub record Went {A : Type 0} (p : Passed A) (old : Option Fault) (now : List A) (first : Option Fault) : Type 0 where
  pub seen : now ≡ p.seen
  pub faults : first ≡ first_of old p.faults

pub record WentAside {A : Type 0} (p : Parted A) (old : Option Fault) (now aside : List A) (first : Option Fault) : Type 0 where
  pub seen : now ≡ p.seen
  pub aside_is : aside ≡ p.aside
  pub faults : first ≡ first_of old p.faults
