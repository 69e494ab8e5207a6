-- What of a statement writes each name, under the conditions under which it is run.
use Rattle.std.specs.Prelude.{ℕ, Bool, true, false, not, nat_eq, if◌then◌else◌, List, [], ◌∷◌, ◌++◌, map, Option, Some, None}
use Rattle.std.specs.Option.{option_map, option_to_list}
use Rattle.std.specs.List.{flat_map, list_any}
use Rattle.uc_lexer.specs.declared.place.Place.{Place}
use Rattle.uc_syntax.specs.declared.expression.Expr.{Expr}
use Rattle.uc_syntax.specs.declared.statement.Target.{Target}
use Rattle.uc_syntax.specs.declared.statement.Arm.{Arm}
use Rattle.uc_syntax.specs.declared.statement.Stmt.{Stmt}
use Rattle.uc_syntax.specs.declared.statement.Stmt.TheOpen.{Stmt-F}
use Rattle.uc_syntax.specs.declared.statement.Stmt.TheOpen.Stmt-F.{Block as BlockForm, Havoc as HavocForm, Assign as AssignForm, If as IfForm, Case as CaseForm}
use Rattle.uc_syntax.specs.declared.statement.Stmt.TheViews.{roll-Stmt, If, Case}
use Rattle.uc_syntax.specs.declared.statement.Stmt.TheVariants.{Assign}
use Rattle.uc_syntax.specs.declared.statement.Stmt.TheFolds.{fold-Stmt, map-Stmt}
use Rattle.uc_meaning.specs.Code.{else_block}
use Rattle.uc_flat_order.specs.declared.branches.Branches.{Branches}
use Rattle.uc_flat_order.specs.declared.wanted.Wanted.{Wanted}
use Rattle.uc_flat_order.specs.declared.wanted.Wanted.TheVariants.{Only, NoneOf}

-- a name is in a list
abbrev pub has : List ℕ → ℕ → Bool
has names x = list_any (nat_eq x) names

-- ---- the names that are written

-- a statement by the names that the statements inside it write
abbrev pub same_names : List ℕ → List ℕ
same_names xs = xs

abbrev pub names_form : Stmt-F (List ℕ) → List ℕ
names_form (BlockForm place block) = flat_map same_names block
names_form (HavocForm place x primed) = x.name ∷ []
names_form (AssignForm place targets sources) = map (λ t. t.name) targets
names_form (IfForm place arms z) = flat_map (λ a. flat_map same_names a.body) arms ++ flat_map same_names (else_block z)
names_form (CaseForm place arms z) = flat_map (λ a. flat_map same_names a.body) arms ++ flat_map same_names (else_block z)
names_form other = []

-- the names that a statement writes on any way, in the order of the text
unfoldable pub names_written : Stmt → List ℕ
names_written = fold-Stmt (List ℕ) names_form

-- names with one more, where it is not among them
abbrev pub with_name : List ℕ → ℕ → List ℕ
with_name names x = if has names x then names else names ++ x ∷ []

-- names with those of a list, each once, where it stands first
unfoldable pub each_once : List ℕ → List ℕ → List ℕ
each_once names [] = names
each_once names (x ∷ xs) = each_once (with_name names x) xs

-- ---- what of a statement is wanted

-- A statement that has none inside writes one name, or none.
abbrev pub wants : Wanted → Option ℕ → Bool
wants (Only x) (Some y) = nat_eq y x
wants (Only x) None = false
wants (NoneOf names) (Some y) = not (has names y)
wants (NoneOf names) None = true

abbrev pub if_wanted : Bool → Stmt → List Stmt
if_wanted true s = s ∷ []
if_wanted false s = []

-- An assignment of several targets is one for each target, with its source.
unfoldable pub assigned : Wanted → Place → List Target → List Expr → List Stmt
assigned w place (t ∷ ts) (e ∷ es) = if_wanted (wants w (Some t.name)) (Assign place (t ∷ []) (e ∷ [])) ++ assigned w place ts es
assigned w place ts es = []

-- ---- conditionals

-- arms with other statements, as many as there are of both
unfoldable pub with_bodies : {A : Type 0} → List (Arm A) → List (List Stmt) → List (Arm Stmt)
with_bodies (a ∷ arms) (b ∷ bodies) = record { condition = a.condition; body = b } ∷ with_bodies arms bodies
with_bodies arms bodies = []

-- in front of others, unless it is empty and there are none
abbrev pub in_front : List Stmt → List (List Stmt) → List (List Stmt)
in_front [] [] = []
in_front [] (b ∷ bodies) = [] ∷ b ∷ bodies
in_front (s ∷ ss) bodies = (s ∷ ss) ∷ bodies

-- lists up to the last that is not empty
unfoldable pub up_to_last : List (List Stmt) → List (List Stmt)
up_to_last [] = []
up_to_last (b ∷ bodies) = in_front b (up_to_last bodies)

abbrev pub without_else : {A : Type 0} → List (Arm A) → List (List Stmt) → Option Branches
without_else arms [] = None
without_else arms (b ∷ bodies) = Some (record { arms = with_bodies arms (b ∷ bodies); otherwise = None })

-- The branches with these statements in the arms, and these where no condition is true. Arms behind the last statement are left out, and so is all where there is no statement: their conditions count for nothing.
abbrev pub branches : {A : Type 0} → List (Arm A) → List (List Stmt) → List Stmt → Option Branches
branches arms bodies [] = without_else arms (up_to_last bodies)
branches arms bodies (s ∷ ss) = Some (record { arms = with_bodies arms bodies; otherwise = Some (s ∷ ss) })

abbrev pub if_of : Place → Branches → Stmt
if_of place b = If place b.arms b.otherwise

abbrev pub case_of : Place → Branches → Stmt
case_of place b = Case place b.arms b.otherwise

-- ---- statements

-- a statement, and what of it is wanted
pub record Taken : Type 0 where
  pub whole : Stmt
  pub kept : List Stmt

abbrev pub whole_of : Taken → Stmt
whole_of t = t.whole

abbrev pub kept_in : Taken → List Stmt
kept_in t = t.kept

abbrev pub itself : Stmt-F Taken → Stmt
itself y = roll-Stmt (map-Stmt Taken Stmt whole_of y)

abbrev pub bodies_in : {A : Type 0} → (A → List Stmt) → List (Arm A) → List (List Stmt)
bodies_in f arms = map (λ a. flat_map f a.body) arms

abbrev pub branches_in : {A : Type 0} → (A → List Stmt) → List (Arm A) → Option (List A) → Option Branches
branches_in f arms z = branches arms (bodies_in f arms) (flat_map f (else_block z))

-- Of a block, what is wanted of its statements; of a conditional, the conditional with what is wanted of its branches. A statement that has none inside is wanted by the name that it writes.
abbrev pub kept_form : Wanted → Stmt-F Taken → List Stmt
kept_form w (BlockForm place block) = flat_map kept_in block
kept_form w (IfForm place arms z) = option_to_list (option_map (if_of place) (branches_in kept_in arms z))
kept_form w (CaseForm place arms z) = option_to_list (option_map (case_of place) (branches_in kept_in arms z))
kept_form w (AssignForm place targets sources) = assigned w place targets sources
kept_form w (HavocForm place x primed) = if_wanted (wants w (Some x.name)) (itself (HavocForm place x primed))
kept_form w other = if_wanted (wants w None) (itself other)

abbrev pub taken_form : Wanted → Stmt-F Taken → Taken
taken_form w y = record { whole = itself y; kept = kept_form w y }

-- what of a statement is wanted
unfoldable pub kept : Wanted → Stmt → List Stmt
kept w s = (fold-Stmt Taken (taken_form w) s).kept

-- what writes each of these names, and then what writes none of them
abbrev pub each_wanted : List ℕ → List Wanted
each_wanted names = map Only names ++ NoneOf names ∷ []

-- The slices of a statement: for each name that it writes, in the order in which they are written first, what of it writes this name; and then what of it writes none.
abbrev pub slices : Stmt → List Stmt
slices s = flat_map (λ w. kept w s) (each_wanted (each_once [] (names_written s)))

-- those of code
abbrev pub all_slices : List Stmt → List Stmt
all_slices code = flat_map slices code
