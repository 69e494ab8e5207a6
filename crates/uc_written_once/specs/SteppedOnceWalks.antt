-- A walk over code that finds the instances that are stepped twice, each turn of a loop but the first ones left out.
use Rattle.std.specs.Prelude.{ℕ, zero, suc, Bool, true, ◌||◌, List, [], ◌∷◌, ◌++◌, map, length, take, drop, Option, Some, None}
use Rattle.std.specs.List.{flat_map}
use Rattle.uc_syntax.specs.declared.statement.Arm.{Arm}
use Rattle.uc_syntax.specs.declared.statement.Stmt.{Stmt}
use Rattle.uc_syntax.specs.declared.statement.Stmt.TheOpen.{Stmt-F}
use Rattle.uc_syntax.specs.declared.statement.Stmt.TheOpen.Stmt-F.{Block, If as Choice, Case as Cases, For, Next}
use Rattle.uc_syntax.specs.declared.statement.Stmt.TheFolds.{fold-Stmt}
use Rattle.uc_syntax.specs.declared.declaration.Decl.{Decl}
use Rattle.uc_meaning.specs.Lookup.{next_in}
use Rattle.uc_meaning.specs.Code.{turns}
use Rattle.uc_rules.specs.declared.fault.Fault.{Fault}
use Rattle.uc_rules.specs.declared.rule.Rule.TheVariants.{SteppedTwice}
use Rattle.uc_rules.specs.Faults.{breaks_where}
use Rattle.uc_rules.specs.Names.{names_one_of}
use Rattle.uc_type_names.specs.NameSets.{with_name}

-- What a walk has seen, each name once, and the faults that it met.
pub record Passed : Type 0 where
  pub seen : List ℕ
  pub faults : List Fault

abbrev pub passed : List ℕ → List Fault → Passed
passed seen faults = record { seen = seen; faults = faults }

-- A walk over code, by whether all that it steps was stepped in an earlier turn, and by the names that were seen before.
abbrev pub Walk : Type 0
Walk = Bool → List ℕ → Passed

-- faults that were met earlier
abbrev pub after : List Fault → Passed → Passed
after faults p = passed p.seen (faults ++ p.faults)

unfoldable pub walk_each : List Walk → Walk
walk_each [] again seen = passed seen []
walk_each (w ∷ ws) again seen = after (w again seen).faults (walk_each ws again (w again seen).seen)

unfoldable pub with_names : List ℕ → List ℕ → List ℕ
with_names names [] = names
with_names names (x ∷ xs) = with_names (with_name names x) xs

-- What arms have seen: each begins with the names that were seen before them all, and what it sees besides is put aside.
pub record Parted : Type 0 where
  pub seen : List ℕ
  pub aside : List ℕ
  pub faults : List Fault

abbrev pub parted : List ℕ → List ℕ → List Fault → Parted
parted seen aside faults = record { seen = seen; aside = aside; faults = faults }

abbrev pub parted_after : List Fault → Parted → Parted
parted_after faults p = parted p.seen p.aside (faults ++ p.faults)

unfoldable pub walk_arms : List Walk → Bool → List ℕ → List ℕ → Parted
walk_arms [] again seen aside = parted seen aside []
walk_arms (w ∷ ws) again seen aside =
    parted_after (w again seen).faults
    (walk_arms ws again (take (length seen) (w again seen).seen) (aside ++ drop (length seen) (w again seen).seen))

-- all that was put aside is seen in the end
abbrev pub joined : Parted → Passed
joined p = passed (with_names p.seen p.aside) p.faults

abbrev pub last_walk : Option (List Walk) → List Walk
last_walk None = []
last_walk (Some block) = walk_each block ∷ []

abbrev pub walk_choice : List (Arm Walk) → Option (List Walk) → Walk
walk_choice as' otherwise again seen = joined (walk_arms (map (λ a. walk_each a.body) as' ++ last_walk otherwise) again seen [])

-- a loop: in its later turns all that it steps was stepped before
abbrev pub walk_turns : ℕ → Walk → Walk
walk_turns zero w again seen = passed seen []
walk_turns (suc zero) w again seen = w again seen
walk_turns (suc (suc n)) w again seen = w true seen

abbrev pub walk_form : Stmt-F Walk → Walk
walk_form (Block place block) again seen = walk_each block again seen
walk_form (Choice place as' otherwise) again seen = walk_choice as' otherwise again seen
walk_form (Cases place as' otherwise) again seen = walk_choice as' otherwise again seen
walk_form (For place x type from to block) again seen = walk_turns (length (turns from to)) (walk_each block) again seen
walk_form (Next place i) again seen = passed (with_name seen i.name) (breaks_where (again || names_one_of seen i.name) SteppedTwice place)
walk_form other again seen = passed seen []

unfoldable pub walk_of : Stmt → Walk
walk_of = fold-Stmt Walk walk_form

-- a block of statements
abbrev pub walk_block : List Stmt → Walk
walk_block block = walk_each (map walk_of block)

abbrev pub walk_arm : Arm Stmt → Walk
walk_arm a = walk_block a.body

-- the next blocks of declarations
abbrev pub walk_decls : List Decl → Walk
walk_decls ds = walk_block (flat_map next_in ds)
