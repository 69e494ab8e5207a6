-- Loops with too many turns in each form of a statement.
use Rattle.std.proofs.Common.{◌≡◌, ℕ, suc, ◌≤◌, Bool, List, [], ◌∷◌, ◌++◌, length, map, Option, None, Some, refl, sym, ap, ◌∙◌, arith}
use Rattle.std.specs.Prelude.{nat_lt, min, ◌^◌, ◌-◌}
use Rattle.std.specs.List.{flat_map}
use Rattle.uc_lexer.specs.declared.place.Place.{Place}
use Rattle.uc_syntax.specs.declared.place.Identifier.{Identifier}
use Rattle.uc_syntax.specs.declared.type_expression.TypeExpr.{TypeExpr}
use Rattle.uc_syntax.specs.declared.expression.Expr.{Expr}
use Rattle.uc_syntax.specs.declared.statement.Target.{Target}
use Rattle.uc_syntax.specs.declared.statement.RangeBound.{RangeBound}
use Rattle.uc_syntax.specs.declared.statement.Arm.{Arm}
use Rattle.uc_syntax.specs.declared.statement.Stmt.{Stmt}
use Rattle.uc_syntax.specs.declared.statement.Stmt.TheOpen.Stmt-F.{Local as LocalForm, Skip as SkipForm, Block as BlockForm, Assert as AssertForm, Assume as AssumeForm, Havoc as HavocForm, Assign as AssignForm, If as IfForm, Case as CaseForm, For as ForForm, Call as CallForm, Next as NextForm}
use Rattle.uc_syntax.specs.declared.statement.Stmt.TheViews.{roll-Stmt, Block, If, Case, For}
use Rattle.uc_syntax.specs.declared.statement.Stmt.TheVariants.{Local, Skip, Assert, Assume, Havoc, Assign, Call, Next}
use Rattle.uc_syntax.specs.declared.statement.Stmt.TheFolds.{fold-roll-Stmt}
use Rattle.uc_syntax.specs.declared.declaration.Decl.{Decl}
use Rattle.uc_syntax.specs.declared.declaration.Module.{Module}
use Rattle.uc_syntax.specs.WrittenTypes.{Written, enums_of_module}
use Rattle.uc_syntax.proofs.Added.{append_nil}
use Rattle.uc_type_names.specs.declared.enums.WrittenEnum.{WrittenEnum}
use Rattle.uc_type_names.specs.Lent.{meant}
use Rattle.uc_meaning.specs.Code.{turns}
use Rattle.uc_rules.specs.declared.fault.Fault.{Fault}
use Rattle.uc_rules.specs.declared.rule.Rule.TheVariants.{TooLarge}
use Rattle.uc_rules.specs.Faults.{breaks_where, first_of}
use Rattle.uc_order_rules.specs.Sizes.{code_in, label_faults, most_labels, most_turns, turn_faults, turns_form}
use Rattle.uc_written_once.specs.LoneFaultsWalks.{in_arm, long_loops, too_many_labels}
use Rattle.uc_written_once.proofs.Noted.{NotedUpTo, noted_end, of_block, of_arms, shows_nothing, shows_one, shows_two}

long_loops_local : (place : Place) (names : List Identifier) (type : TypeExpr) → long_loops (Local place names type) ≡ []
unfolding long_loops roll-Stmt denote.Hole.Carrier.roll
long_loops_local place names type = fold-roll-Stmt (List Fault) turns_form (LocalForm place names type)

pub local : (s : Stmt) (place : Place) (names : List Identifier) (type : TypeExpr) (old : Option Fault) → s ≡ Local place names type → old ≡ first_of old (long_loops s)
local s place names type old is = shows_nothing long_loops s (Local place names type) old is (long_loops_local place names type)

long_loops_skip : (place : Place) → long_loops (Skip place) ≡ []
unfolding long_loops roll-Stmt denote.Hole.Carrier.roll
long_loops_skip place = fold-roll-Stmt (List Fault) turns_form (SkipForm place)

pub skip : (s : Stmt) (place : Place) (old : Option Fault) → s ≡ Skip place → old ≡ first_of old (long_loops s)
skip s place old is = shows_nothing long_loops s (Skip place) old is (long_loops_skip place)

long_loops_asserts : (place : Place) (name : Option Identifier) (e : Expr) → long_loops (Assert place name e) ≡ []
unfolding long_loops roll-Stmt denote.Hole.Carrier.roll
long_loops_asserts place name e = fold-roll-Stmt (List Fault) turns_form (AssertForm place name e)

pub asserts : (s : Stmt) (place : Place) (name : Option Identifier) (e : Expr) (old : Option Fault) → s ≡ Assert place name e → old ≡ first_of old (long_loops s)
asserts s place name e old is = shows_nothing long_loops s (Assert place name e) old is (long_loops_asserts place name e)

long_loops_assumes : (place : Place) (e : Expr) → long_loops (Assume place e) ≡ []
unfolding long_loops roll-Stmt denote.Hole.Carrier.roll
long_loops_assumes place e = fold-roll-Stmt (List Fault) turns_form (AssumeForm place e)

pub assumes : (s : Stmt) (place : Place) (e : Expr) (old : Option Fault) → s ≡ Assume place e → old ≡ first_of old (long_loops s)
assumes s place e old is = shows_nothing long_loops s (Assume place e) old is (long_loops_assumes place e)

long_loops_havoc : (place : Place) (i : Identifier) (primed : Bool) → long_loops (Havoc place i primed) ≡ []
unfolding long_loops roll-Stmt denote.Hole.Carrier.roll
long_loops_havoc place i primed = fold-roll-Stmt (List Fault) turns_form (HavocForm place i primed)

pub havoc : (s : Stmt) (place : Place) (i : Identifier) (primed : Bool) (old : Option Fault) → s ≡ Havoc place i primed → old ≡ first_of old (long_loops s)
havoc s place i primed old is = shows_nothing long_loops s (Havoc place i primed) old is (long_loops_havoc place i primed)

long_loops_next : (place : Place) (i : Identifier) → long_loops (Next place i) ≡ []
unfolding long_loops roll-Stmt denote.Hole.Carrier.roll
long_loops_next place i = fold-roll-Stmt (List Fault) turns_form (NextForm place i)

pub next : (s : Stmt) (place : Place) (i : Identifier) (old : Option Fault) → s ≡ Next place i → old ≡ first_of old (long_loops s)
next s place i old is = shows_nothing long_loops s (Next place i) old is (long_loops_next place i)

long_loops_assign : (place : Place) (targets : List Target) (sources : List Expr) → long_loops (Assign place targets sources) ≡ []
unfolding long_loops roll-Stmt denote.Hole.Carrier.roll
long_loops_assign place targets sources = fold-roll-Stmt (List Fault) turns_form (AssignForm place targets sources)

pub assign : (s : Stmt) (place : Place) (targets : List Target) (sources : List Expr) (old : Option Fault) → s ≡ Assign place targets sources → old ≡ first_of old (long_loops s)
assign s place targets sources old is = shows_nothing long_loops s (Assign place targets sources) old is (long_loops_assign place targets sources)

long_loops_call : (place : Place) (targets : List Target) (i : Identifier) (arguments : List Expr) → long_loops (Call place targets i arguments) ≡ []
unfolding long_loops roll-Stmt denote.Hole.Carrier.roll
long_loops_call place targets i arguments = fold-roll-Stmt (List Fault) turns_form (CallForm place targets i arguments)

pub call : (s : Stmt) (place : Place) (targets : List Target) (i : Identifier) (arguments : List Expr) (old : Option Fault) → s ≡ Call place targets i arguments → old ≡ first_of old (long_loops s)
call s place targets i arguments old is = shows_nothing long_loops s (Call place targets i arguments) old is (long_loops_call place targets i arguments)

long_loops_block : (place : Place) (block : List Stmt) → long_loops (Block place block) ≡ flat_map long_loops block
unfolding long_loops roll-Stmt denote.Hole.Carrier.roll
long_loops_block place block = fold-roll-Stmt (List Fault) turns_form (BlockForm place block) ∙ of_block long_loops block

pub block : (s : Stmt) (place : Place) (code shown : List Stmt) (old now : Option Fault) → s ≡ Block place code → shown ≡ code → now ≡ first_of old (flat_map long_loops shown) → now ≡ first_of old (long_loops s)
block s place code shown old now is same noted =
    shows_one long_loops s (Block place code) old is _ now (long_loops_block place code) (noted ∙ ap (λ ss. first_of old (flat_map long_loops ss)) same)

long_loops_if : (place : Place) (as' : List (Arm Stmt)) (code : List Stmt) → long_loops (If place as' (Some code)) ≡ flat_map (in_arm long_loops) as' ++ flat_map long_loops code
unfolding long_loops roll-Stmt denote.Hole.Carrier.roll
long_loops_if place as' code = fold-roll-Stmt (List Fault) turns_form (IfForm place as' (Some code)) ∙ (λ k. of_arms long_loops as' k ++ of_block long_loops code k)

long_loops_if_alone : (place : Place) (as' : List (Arm Stmt)) → long_loops (If place as' None) ≡ flat_map (in_arm long_loops) as'
unfolding long_loops roll-Stmt denote.Hole.Carrier.roll
long_loops_if_alone place as' = fold-roll-Stmt (List Fault) turns_form (IfForm place as' None) ∙ append_nil _ ∙ of_arms long_loops as'

pub if_alone : (s : Stmt) (place : Place) (as' shown : List (Arm Stmt)) (o : Option (List Stmt)) (old now : Option Fault) → s ≡ If place as' o → o ≡ None → shown ≡ as' →
    now ≡ first_of old (flat_map (in_arm long_loops) shown) → now ≡ first_of old (long_loops s)
if_alone s place as' shown o old now is otherwise same noted =
    shows_one long_loops s (If place as' None) old (is ∙ ap (λ x. If place as' x) otherwise) _ now (long_loops_if_alone place as') (noted ∙ ap (λ rs. first_of old (flat_map (in_arm long_loops) rs)) same)

pub if_else : (s : Stmt) (place : Place) (as' shown : List (Arm Stmt)) (o : Option (List Stmt)) (code shown_code : List Stmt) (old mid now : Option Fault) → s ≡ If place as' o → o ≡ Some code → shown ≡ as' → shown_code ≡ code →
    mid ≡ first_of old (flat_map (in_arm long_loops) shown) → now ≡ first_of mid (flat_map long_loops shown_code) → now ≡ first_of old (long_loops s)
if_else s place as' shown o code shown_code old mid now is otherwise same same_code noted more =
    shows_two long_loops s (If place as' (Some code)) old (is ∙ ap (λ x. If place as' x) otherwise) _ _ mid now (long_loops_if place as' code)
    (noted ∙ ap (λ rs. first_of old (flat_map (in_arm long_loops) rs)) same) (more ∙ ap (λ ss. first_of mid (flat_map long_loops ss)) same_code)

long_loops_case : (place : Place) (as' : List (Arm Stmt)) (code : List Stmt) → long_loops (Case place as' (Some code)) ≡ flat_map (in_arm long_loops) as' ++ flat_map long_loops code
unfolding long_loops roll-Stmt denote.Hole.Carrier.roll
long_loops_case place as' code = fold-roll-Stmt (List Fault) turns_form (CaseForm place as' (Some code)) ∙ (λ k. of_arms long_loops as' k ++ of_block long_loops code k)

long_loops_case_alone : (place : Place) (as' : List (Arm Stmt)) → long_loops (Case place as' None) ≡ flat_map (in_arm long_loops) as'
unfolding long_loops roll-Stmt denote.Hole.Carrier.roll
long_loops_case_alone place as' = fold-roll-Stmt (List Fault) turns_form (CaseForm place as' None) ∙ append_nil _ ∙ of_arms long_loops as'

pub case_alone : (s : Stmt) (place : Place) (as' shown : List (Arm Stmt)) (o : Option (List Stmt)) (old now : Option Fault) → s ≡ Case place as' o → o ≡ None → shown ≡ as' →
    now ≡ first_of old (flat_map (in_arm long_loops) shown) → now ≡ first_of old (long_loops s)
case_alone s place as' shown o old now is otherwise same noted =
    shows_one long_loops s (Case place as' None) old (is ∙ ap (λ x. Case place as' x) otherwise) _ now (long_loops_case_alone place as') (noted ∙ ap (λ rs. first_of old (flat_map (in_arm long_loops) rs)) same)

pub case_else : (s : Stmt) (place : Place) (as' shown : List (Arm Stmt)) (o : Option (List Stmt)) (code shown_code : List Stmt) (old mid now : Option Fault) → s ≡ Case place as' o → o ≡ Some code → shown ≡ as' → shown_code ≡ code →
    mid ≡ first_of old (flat_map (in_arm long_loops) shown) → now ≡ first_of mid (flat_map long_loops shown_code) → now ≡ first_of old (long_loops s)
case_else s place as' shown o code shown_code old mid now is otherwise same same_code noted more =
    shows_two long_loops s (Case place as' (Some code)) old (is ∙ ap (λ x. Case place as' x) otherwise) _ _ mid now (long_loops_case place as' code)
    (noted ∙ ap (λ rs. first_of old (flat_map (in_arm long_loops) rs)) same) (more ∙ ap (λ ss. first_of mid (flat_map long_loops ss)) same_code)

long_loops_for : (place : Place) (i : Identifier) (type : Option TypeExpr) (from to : RangeBound) (code : List Stmt) → long_loops (For place i type from to code) ≡ breaks_where (nat_lt most_turns (length (turns from to))) TooLarge place ++ flat_map long_loops code
unfolding long_loops roll-Stmt denote.Hole.Carrier.roll
long_loops_for place i type from to code = fold-roll-Stmt (List Fault) turns_form (ForForm place i type from to code) ∙ ap (λ fs. breaks_where (nat_lt most_turns (length (turns from to))) TooLarge place ++ fs) (of_block long_loops code)

-- a number that is cut off far above the limit is over it where the number is
over_limit : (n : ℕ) → nat_lt 4096 (min n (2 ^ 128 - 1)) ≡ nat_lt 4096 n
over_limit n = grind arith

pub for_loop : (s : Stmt) (place : Place) (i : Identifier) (type : Option TypeExpr) (from to : RangeBound) (code shown : List Stmt) (count : ℕ) (is_long : Bool) (old mid now : Option Fault) → s ≡ For place i type from to code → shown ≡ code →
    count ≡ min (length (turns from to)) (2 ^ 128 - 1) → is_long ≡ nat_lt 4096 count → mid ≡ first_of old (breaks_where is_long TooLarge place) →
    now ≡ first_of mid (flat_map long_loops shown) → now ≡ first_of old (long_loops s)
for_loop s place i type from to code shown count is_long old mid now is same counted long noted more =
    shows_two long_loops s (For place i type from to code) old is _ _ mid now (long_loops_for place i type from to code)
    (noted ∙ ap (λ b. first_of old (breaks_where b TooLarge place)) (long ∙ ap (nat_lt 4096) counted ∙ over_limit (length (turns from to))))
    (more ∙ ap (λ ss. first_of mid (flat_map long_loops ss)) same)

-- Enums with too many labels.

abbrev labels_of : Written → List Fault
labels_of e = breaks_where (nat_lt most_labels (length e.labels)) TooLarge e.place

length_map : {A B : Type 0} (f : A → B) (xs : List A) → length (map f xs) ≡ length xs
length_map f [] = refl
length_map f (x ∷ xs) = ap suc (length_map f xs)

lent_each : (es : List WrittenEnum) → flat_map too_many_labels es ≡ flat_map labels_of (meant es)
unfolding meant
lent_each [] = refl
lent_each (e ∷ es) = (λ k. breaks_where (nat_lt most_labels (sym (length_map (λ l. l.name) e.labels.now) k)) TooLarge e.place ++ lent_each es k)

pub enums_noted : (m : Module) (es : List WrittenEnum) (old now : Option Fault) (i : ℕ) → meant es ≡ enums_of_module m → NotedUpTo too_many_labels es old i now → length es ≤ i →
    now ≡ first_of old (label_faults m)
enums_noted m es old now i is so_far past =
    noted_end too_many_labels es old now i so_far past ∙ ap (first_of old) (lent_each es ∙ ap (flat_map labels_of) is)

-- Modules.

pub all_loops : (m : Module) (ds : List Decl) (old now : Option Fault) (i : ℕ) → ds ≡ m.decls → NotedUpTo (λ d. flat_map long_loops (code_in d)) ds old i now → length ds ≤ i →
    now ≡ first_of old (turn_faults m)
unfolding long_loops
all_loops m ds old now i is so_far past =
    noted_end (λ d. flat_map long_loops (code_in d)) ds old now i so_far past ∙ ap (λ xs. first_of old (flat_map (λ d. flat_map long_loops (code_in d)) xs)) is
