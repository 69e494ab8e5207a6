-- Targets that are named twice in each form of a statement.
use Rattle.std.proofs.Common.{◌≡◌, ℕ, ◌≤◌, Bool, List, [], ◌++◌, length, Option, None, Some, ap, ◌∙◌}
use Rattle.std.specs.List.{flat_map}
use Rattle.uc_lexer.specs.declared.place.Place.{Place}
use Rattle.uc_syntax.specs.declared.place.Identifier.{Identifier}
use Rattle.uc_syntax.specs.declared.type_expression.TypeExpr.{TypeExpr}
use Rattle.uc_syntax.specs.declared.expression.Expr.{Expr}
use Rattle.uc_syntax.specs.declared.statement.Target.{Target}
use Rattle.uc_syntax.specs.declared.statement.RangeBound.{RangeBound}
use Rattle.uc_syntax.specs.declared.statement.Arm.{Arm}
use Rattle.uc_syntax.specs.declared.statement.Stmt.{Stmt}
use Rattle.uc_syntax.specs.declared.statement.Stmt.TheOpen.Stmt-F.{Local as LocalForm, Skip as SkipForm, Block as BlockForm, Assert as AssertForm, Assume as AssumeForm, Havoc as HavocForm, Assign as AssignForm, If as IfForm, Case as CaseForm, For as ForForm, Call as CallForm, Next as NextForm}
use Rattle.uc_syntax.specs.declared.statement.Stmt.TheViews.{roll-Stmt, Block, If, Case, For}
use Rattle.uc_syntax.specs.declared.statement.Stmt.TheVariants.{Local, Skip, Assert, Assume, Havoc, Assign, Call, Next}
use Rattle.uc_syntax.specs.declared.statement.Stmt.TheFolds.{fold-roll-Stmt}
use Rattle.uc_syntax.specs.declared.declaration.Decl.{Decl}
use Rattle.uc_syntax.specs.declared.declaration.Module.{Module}
use Rattle.uc_syntax.proofs.Added.{append_nil}
use Rattle.uc_rules.specs.declared.fault.Fault.{Fault}
use Rattle.uc_rules.specs.declared.rule.Rule.TheVariants.{TwiceAssigned}
use Rattle.uc_rules.specs.Faults.{breaks_where, first_of}
use Rattle.uc_order_rules.specs.Writes.{is_named_twice, sequential_in, target_names, twice_form, twice_in_code}
use Rattle.uc_written_once.specs.LoneFaultsWalks.{in_arm, named_twice}
use Rattle.uc_written_once.proofs.Noted.{NotedUpTo, noted_end, of_block, of_arms, shows_nothing, shows_one, shows_two}

named_twice_local : (place : Place) (names : List Identifier) (type : TypeExpr) → named_twice (Local place names type) ≡ []
unfolding named_twice roll-Stmt denote.Hole.Carrier.roll
named_twice_local place names type = fold-roll-Stmt (List Fault) twice_form (LocalForm place names type)

pub local : (s : Stmt) (place : Place) (names : List Identifier) (type : TypeExpr) (old : Option Fault) → s ≡ Local place names type → old ≡ first_of old (named_twice s)
local s place names type old is = shows_nothing named_twice s (Local place names type) old is (named_twice_local place names type)

named_twice_skip : (place : Place) → named_twice (Skip place) ≡ []
unfolding named_twice roll-Stmt denote.Hole.Carrier.roll
named_twice_skip place = fold-roll-Stmt (List Fault) twice_form (SkipForm place)

pub skip : (s : Stmt) (place : Place) (old : Option Fault) → s ≡ Skip place → old ≡ first_of old (named_twice s)
skip s place old is = shows_nothing named_twice s (Skip place) old is (named_twice_skip place)

named_twice_asserts : (place : Place) (name : Option Identifier) (e : Expr) → named_twice (Assert place name e) ≡ []
unfolding named_twice roll-Stmt denote.Hole.Carrier.roll
named_twice_asserts place name e = fold-roll-Stmt (List Fault) twice_form (AssertForm place name e)

pub asserts : (s : Stmt) (place : Place) (name : Option Identifier) (e : Expr) (old : Option Fault) → s ≡ Assert place name e → old ≡ first_of old (named_twice s)
asserts s place name e old is = shows_nothing named_twice s (Assert place name e) old is (named_twice_asserts place name e)

named_twice_assumes : (place : Place) (e : Expr) → named_twice (Assume place e) ≡ []
unfolding named_twice roll-Stmt denote.Hole.Carrier.roll
named_twice_assumes place e = fold-roll-Stmt (List Fault) twice_form (AssumeForm place e)

pub assumes : (s : Stmt) (place : Place) (e : Expr) (old : Option Fault) → s ≡ Assume place e → old ≡ first_of old (named_twice s)
assumes s place e old is = shows_nothing named_twice s (Assume place e) old is (named_twice_assumes place e)

named_twice_havoc : (place : Place) (i : Identifier) (primed : Bool) → named_twice (Havoc place i primed) ≡ []
unfolding named_twice roll-Stmt denote.Hole.Carrier.roll
named_twice_havoc place i primed = fold-roll-Stmt (List Fault) twice_form (HavocForm place i primed)

pub havoc : (s : Stmt) (place : Place) (i : Identifier) (primed : Bool) (old : Option Fault) → s ≡ Havoc place i primed → old ≡ first_of old (named_twice s)
havoc s place i primed old is = shows_nothing named_twice s (Havoc place i primed) old is (named_twice_havoc place i primed)

named_twice_next : (place : Place) (i : Identifier) → named_twice (Next place i) ≡ []
unfolding named_twice roll-Stmt denote.Hole.Carrier.roll
named_twice_next place i = fold-roll-Stmt (List Fault) twice_form (NextForm place i)

pub next : (s : Stmt) (place : Place) (i : Identifier) (old : Option Fault) → s ≡ Next place i → old ≡ first_of old (named_twice s)
next s place i old is = shows_nothing named_twice s (Next place i) old is (named_twice_next place i)

named_twice_assign : (place : Place) (targets : List Target) (sources : List Expr) → named_twice (Assign place targets sources) ≡ breaks_where (is_named_twice (target_names targets)) TwiceAssigned place
unfolding named_twice roll-Stmt denote.Hole.Carrier.roll
named_twice_assign place targets sources = fold-roll-Stmt (List Fault) twice_form (AssignForm place targets sources)

pub assign : (s : Stmt) (place : Place) (targets : List Target) (sources : List Expr) (shown : List Target) (old now : Option Fault) → s ≡ Assign place targets sources → shown ≡ targets → now ≡ first_of old (breaks_where (is_named_twice (target_names shown)) TwiceAssigned place) → now ≡ first_of old (named_twice s)
assign s place targets sources shown old now is same noted =
    shows_one named_twice s (Assign place targets sources) old is _ now (named_twice_assign place targets sources) (noted ∙ ap (λ ts. first_of old (breaks_where (is_named_twice (target_names ts)) TwiceAssigned place)) same)

named_twice_call : (place : Place) (targets : List Target) (i : Identifier) (arguments : List Expr) → named_twice (Call place targets i arguments) ≡ breaks_where (is_named_twice (target_names targets)) TwiceAssigned place
unfolding named_twice roll-Stmt denote.Hole.Carrier.roll
named_twice_call place targets i arguments = fold-roll-Stmt (List Fault) twice_form (CallForm place targets i arguments)

pub call : (s : Stmt) (place : Place) (targets : List Target) (i : Identifier) (arguments : List Expr) (shown : List Target) (old now : Option Fault) → s ≡ Call place targets i arguments → shown ≡ targets → now ≡ first_of old (breaks_where (is_named_twice (target_names shown)) TwiceAssigned place) → now ≡ first_of old (named_twice s)
call s place targets i arguments shown old now is same noted =
    shows_one named_twice s (Call place targets i arguments) old is _ now (named_twice_call place targets i arguments) (noted ∙ ap (λ ts. first_of old (breaks_where (is_named_twice (target_names ts)) TwiceAssigned place)) same)

named_twice_block : (place : Place) (block : List Stmt) → named_twice (Block place block) ≡ flat_map named_twice block
unfolding named_twice roll-Stmt denote.Hole.Carrier.roll
named_twice_block place block = fold-roll-Stmt (List Fault) twice_form (BlockForm place block) ∙ of_block named_twice block

pub block : (s : Stmt) (place : Place) (code shown : List Stmt) (old now : Option Fault) → s ≡ Block place code → shown ≡ code → now ≡ first_of old (flat_map named_twice shown) → now ≡ first_of old (named_twice s)
block s place code shown old now is same noted =
    shows_one named_twice s (Block place code) old is _ now (named_twice_block place code) (noted ∙ ap (λ ss. first_of old (flat_map named_twice ss)) same)

named_twice_if : (place : Place) (as' : List (Arm Stmt)) (code : List Stmt) → named_twice (If place as' (Some code)) ≡ flat_map (in_arm named_twice) as' ++ flat_map named_twice code
unfolding named_twice roll-Stmt denote.Hole.Carrier.roll
named_twice_if place as' code = fold-roll-Stmt (List Fault) twice_form (IfForm place as' (Some code)) ∙ (λ k. of_arms named_twice as' k ++ of_block named_twice code k)

named_twice_if_alone : (place : Place) (as' : List (Arm Stmt)) → named_twice (If place as' None) ≡ flat_map (in_arm named_twice) as'
unfolding named_twice roll-Stmt denote.Hole.Carrier.roll
named_twice_if_alone place as' = fold-roll-Stmt (List Fault) twice_form (IfForm place as' None) ∙ append_nil _ ∙ of_arms named_twice as'

pub if_alone : (s : Stmt) (place : Place) (as' shown : List (Arm Stmt)) (o : Option (List Stmt)) (old now : Option Fault) → s ≡ If place as' o → o ≡ None → shown ≡ as' →
    now ≡ first_of old (flat_map (in_arm named_twice) shown) → now ≡ first_of old (named_twice s)
if_alone s place as' shown o old now is otherwise same noted =
    shows_one named_twice s (If place as' None) old (is ∙ ap (λ x. If place as' x) otherwise) _ now (named_twice_if_alone place as') (noted ∙ ap (λ rs. first_of old (flat_map (in_arm named_twice) rs)) same)

pub if_else : (s : Stmt) (place : Place) (as' shown : List (Arm Stmt)) (o : Option (List Stmt)) (code shown_code : List Stmt) (old mid now : Option Fault) → s ≡ If place as' o → o ≡ Some code → shown ≡ as' → shown_code ≡ code →
    mid ≡ first_of old (flat_map (in_arm named_twice) shown) → now ≡ first_of mid (flat_map named_twice shown_code) → now ≡ first_of old (named_twice s)
if_else s place as' shown o code shown_code old mid now is otherwise same same_code noted more =
    shows_two named_twice s (If place as' (Some code)) old (is ∙ ap (λ x. If place as' x) otherwise) _ _ mid now (named_twice_if place as' code)
    (noted ∙ ap (λ rs. first_of old (flat_map (in_arm named_twice) rs)) same) (more ∙ ap (λ ss. first_of mid (flat_map named_twice ss)) same_code)

named_twice_case : (place : Place) (as' : List (Arm Stmt)) (code : List Stmt) → named_twice (Case place as' (Some code)) ≡ flat_map (in_arm named_twice) as' ++ flat_map named_twice code
unfolding named_twice roll-Stmt denote.Hole.Carrier.roll
named_twice_case place as' code = fold-roll-Stmt (List Fault) twice_form (CaseForm place as' (Some code)) ∙ (λ k. of_arms named_twice as' k ++ of_block named_twice code k)

named_twice_case_alone : (place : Place) (as' : List (Arm Stmt)) → named_twice (Case place as' None) ≡ flat_map (in_arm named_twice) as'
unfolding named_twice roll-Stmt denote.Hole.Carrier.roll
named_twice_case_alone place as' = fold-roll-Stmt (List Fault) twice_form (CaseForm place as' None) ∙ append_nil _ ∙ of_arms named_twice as'

pub case_alone : (s : Stmt) (place : Place) (as' shown : List (Arm Stmt)) (o : Option (List Stmt)) (old now : Option Fault) → s ≡ Case place as' o → o ≡ None → shown ≡ as' →
    now ≡ first_of old (flat_map (in_arm named_twice) shown) → now ≡ first_of old (named_twice s)
case_alone s place as' shown o old now is otherwise same noted =
    shows_one named_twice s (Case place as' None) old (is ∙ ap (λ x. Case place as' x) otherwise) _ now (named_twice_case_alone place as') (noted ∙ ap (λ rs. first_of old (flat_map (in_arm named_twice) rs)) same)

pub case_else : (s : Stmt) (place : Place) (as' shown : List (Arm Stmt)) (o : Option (List Stmt)) (code shown_code : List Stmt) (old mid now : Option Fault) → s ≡ Case place as' o → o ≡ Some code → shown ≡ as' → shown_code ≡ code →
    mid ≡ first_of old (flat_map (in_arm named_twice) shown) → now ≡ first_of mid (flat_map named_twice shown_code) → now ≡ first_of old (named_twice s)
case_else s place as' shown o code shown_code old mid now is otherwise same same_code noted more =
    shows_two named_twice s (Case place as' (Some code)) old (is ∙ ap (λ x. Case place as' x) otherwise) _ _ mid now (named_twice_case place as' code)
    (noted ∙ ap (λ rs. first_of old (flat_map (in_arm named_twice) rs)) same) (more ∙ ap (λ ss. first_of mid (flat_map named_twice ss)) same_code)

named_twice_for : (place : Place) (i : Identifier) (type : Option TypeExpr) (from to : RangeBound) (code : List Stmt) → named_twice (For place i type from to code) ≡ flat_map named_twice code
unfolding named_twice roll-Stmt denote.Hole.Carrier.roll
named_twice_for place i type from to code = fold-roll-Stmt (List Fault) twice_form (ForForm place i type from to code) ∙ of_block named_twice code

pub for_loop : (s : Stmt) (place : Place) (i : Identifier) (type : Option TypeExpr) (from to : RangeBound) (code shown : List Stmt) (old now : Option Fault) → s ≡ For place i type from to code → shown ≡ code → now ≡ first_of old (flat_map named_twice shown) → now ≡ first_of old (named_twice s)
for_loop s place i type from to code shown old now is same noted =
    shows_one named_twice s (For place i type from to code) old is _ now (named_twice_for place i type from to code) (noted ∙ ap (λ ss. first_of old (flat_map named_twice ss)) same)

-- Modules.

pub all_targets : (m : Module) (ds : List Decl) (old now : Option Fault) (i : ℕ) → ds ≡ m.decls → NotedUpTo (λ d. flat_map named_twice (sequential_in d)) ds old i now → length ds ≤ i →
    now ≡ first_of old (flat_map (λ d. twice_in_code (sequential_in d)) m.decls)
unfolding named_twice
all_targets m ds old now i is so_far past =
    noted_end (λ d. flat_map named_twice (sequential_in d)) ds old now i so_far past ∙ ap (λ xs. first_of old (flat_map (λ d. flat_map named_twice (sequential_in d)) xs)) is
