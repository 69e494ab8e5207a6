-- The walk over a next block finds its faults.
use Rattle.std.proofs.Common.{◌≡◌, ℕ, false, List, [], ◌∷◌, length, map, Option, Some, None, refl, ◌∙◌, sym, subst}
use Rattle.uc_lexer.specs.declared.place.Place.{Place}
use Rattle.uc_syntax.specs.declared.statement.Arm.{Arm}
use Rattle.uc_syntax.specs.declared.statement.Stmt.{Stmt}
use Rattle.uc_syntax.specs.declared.statement.Stmt.TheOpen.{Stmt-F}
use Rattle.uc_syntax.specs.declared.statement.Stmt.TheOpen.Stmt-F.{Local, Skip, Block, Assert, Assume, Havoc, Assign, If, Case, For, Call, Next}
use Rattle.uc_syntax.specs.declared.statement.Stmt.TheViews.{roll-Stmt}
use Rattle.uc_syntax.specs.declared.statement.Stmt.TheFolds.{fold-Stmt, map-Stmt, fold-roll-Stmt, ind-Stmt}
use Rattle.uc_syntax.specs.declared.declaration.Decl.{Decl}
use Rattle.uc_syntax.specs.declared.declaration.Module.{Module}
use Rattle.uc_meaning.specs.Lookup.{next_of}
use Rattle.uc_meaning.specs.Code.{turns}
use Rattle.uc_rules.specs.declared.fault.Fault.{Fault}
use Rattle.uc_rules.specs.Faults.{first_of}
use Rattle.uc_order_rules.specs.Paths.{Stretch, in_turn, last_arm}
use Rattle.uc_order_rules.specs.Stepped.{steps_form, stepped_twice}
use Rattle.uc_written_once.specs.SteppedOnceWalks.{Walk, last_walk, walk_decls, walk_each, walk_form, walk_of}
use Rattle.uc_order_rules.proofs.SameFaults.{same_first}
use Rattle.uc_written_once.proofs.Walked.{AllFind, Finds, choice_finds, each_finds, find_append, finds_nothing, finds_step, turns_find}

abbrev step_of : Stmt → Stretch ℕ
step_of = fold-Stmt (Stretch ℕ) steps_form

module _ {A D : Type 0} (d : D → A) (f : A → Stretch ℕ) (g : A → Walk) (same : (e : D) → Finds (f (d e)) (g (d e))) where
  list_find : (es : List D) → AllFind (map f (map d es)) (map g (map d es))
  list_find [] = tt
  list_find (e ∷ es) = (same e, list_find es)

  abbrev left : Stmt-F D → Stmt-F (Stretch ℕ)
  left y = map-Stmt A (Stretch ℕ) f (map-Stmt D A d y)

  abbrev right : Stmt-F D → Stmt-F Walk
  right y = map-Stmt A Walk g (map-Stmt D A d y)

  abbrev arms_in : {X : Type 0} → Stmt-F X → List (Arm X)
  arms_in (If p arms o) = arms
  arms_in (Case p arms o) = arms
  arms_in other = []

  abbrev else_in : {X : Type 0} → Stmt-F X → Option (List X)
  else_in (If p arms o) = o
  else_in (Case p arms o) = o
  else_in other = None

  if_arms : (p : Place) (arms : List (Arm D)) (o : Option (List D)) → AllFind (map (λ (a : Arm (Stretch ℕ)). in_turn a.body) (arms_in (left (If p arms o)))) (map (λ (a : Arm Walk). walk_each a.body) (arms_in (right (If p arms o))))
  if_arms p [] o = tt
  if_arms p (a ∷ arms) o = (each_finds (map f (map d a.body)) (map g (map d a.body)) (list_find a.body), if_arms p arms o)

  case_arms : (p : Place) (arms : List (Arm D)) (o : Option (List D)) → AllFind (map (λ (a : Arm (Stretch ℕ)). in_turn a.body) (arms_in (left (Case p arms o)))) (map (λ (a : Arm Walk). walk_each a.body) (arms_in (right (Case p arms o))))
  case_arms p [] o = tt
  case_arms p (a ∷ arms) o = (each_finds (map f (map d a.body)) (map g (map d a.body)) (list_find a.body), case_arms p arms o)

  if_else : (p : Place) (arms : List (Arm D)) (o : Option (List D)) → AllFind (last_arm (else_in (left (If p arms o)))) (last_walk (else_in (right (If p arms o))))
  if_else p arms None = tt
  if_else p arms (Some es) = (each_finds (map f (map d es)) (map g (map d es)) (list_find es), tt)

  case_else : (p : Place) (arms : List (Arm D)) (o : Option (List D)) → AllFind (last_arm (else_in (left (Case p arms o)))) (last_walk (else_in (right (Case p arms o))))
  case_else p arms None = tt
  case_else p arms (Some es) = (each_finds (map f (map d es)) (map g (map d es)) (list_find es), tt)

  layer : (y : Stmt-F D) → Finds (steps_form (left y)) (walk_form (right y))
  layer (Local p names type) = finds_nothing
  layer (Skip p) = finds_nothing
  layer (Block p block) = each_finds (map f (map d block)) (map g (map d block)) (list_find block)
  layer (Assert p label e) = finds_nothing
  layer (Assume p e) = finds_nothing
  layer (Havoc p x primed) = finds_nothing
  layer (Assign p targets sources) = finds_nothing
  layer (If p arms o) = choice_finds _ _ (find_append _ _ _ _ (if_arms p arms o) (if_else p arms o))
  layer (Case p arms o) = choice_finds _ _ (find_append _ _ _ _ (case_arms p arms o) (case_else p arms o))
  layer (For p x type from to block) = turns_find _ _ (each_finds (map f (map d block)) (map g (map d block)) (list_find block)) (length (turns from to))
  layer (Call p targets i arguments) = finds_nothing
  layer (Next p i) = finds_step p i.name

statement_finds : (s : Stmt) → Finds (step_of s) (walk_of s)
unfolding walk_of
statement_finds =
    ind-Stmt (λ s. Finds (fold-Stmt (Stretch ℕ) steps_form s) (fold-Stmt Walk walk_form s))
    (λ x y is.
    let F = fold-Stmt (Stretch ℕ) steps_form in
    let G = fold-Stmt Walk walk_form in
    let way = layer (λ e. e.0) F G (λ e. e.1) y in
    let way' = subst (λ z. Finds (steps_form (map-Stmt Stmt (Stretch ℕ) F z)) (walk_form (map-Stmt Stmt Walk G z))) is way in
    let one = subst (λ w. Finds w (walk_form (map-Stmt Stmt Walk G x))) (sym (fold-roll-Stmt (Stretch ℕ) steps_form x)) way' in
    subst (λ m. Finds (F (roll-Stmt x)) m) (sym (fold-roll-Stmt Walk walk_form x)) one)

code_finds : (code : List Stmt) → AllFind (map step_of code) (map walk_of code)
code_finds [] = tt
code_finds (s ∷ code) = (statement_finds s, code_finds code)

-- what is found of a module's next block is the first of its faults
pub all_found : (m : Module) (ds : List Decl) (none : List ℕ) (old now : Option Fault) → none ≡ [] → ds ≡ m.decls → now ≡ first_of old (walk_decls ds false none).faults → now ≡ first_of old (stepped_twice m)
all_found m ds none old now empty is found =
    let block = each_finds (map step_of (next_of m)) (map walk_of (next_of m)) (code_finds (next_of m)) in
    found ∙ (λ k. first_of old (walk_decls (is k) false (empty k)).faults) ∙ sym (same_first old (stepped_twice m) (walk_decls m.decls false []).faults (block.plain [] [] (λ x. refl)))
