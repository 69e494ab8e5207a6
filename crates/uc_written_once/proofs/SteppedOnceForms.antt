-- What the walk does in each form of a statement.
use Rattle.std.proofs.Common.{◌≡◌, ℕ, zero, suc, ◌<◌, ◌≤◌, Bool, true, false, List, [], ◌∷◌, ◌++◌, length, map, take, drop, Option, None, Some, refl, sym, ap, ◌∙◌, arith, append_assoc}
use Rattle.std.specs.Prelude.{◌||◌, nat_lt, min, ◌^◌, ◌-◌}
use Rattle.uc_lexer.specs.declared.place.Place.{Place}
use Rattle.uc_syntax.specs.declared.place.Identifier.{Identifier}
use Rattle.uc_syntax.specs.declared.type_expression.TypeExpr.{TypeExpr}
use Rattle.uc_syntax.specs.declared.expression.Expr.{Expr}
use Rattle.uc_syntax.specs.declared.statement.Target.{Target}
use Rattle.uc_syntax.specs.declared.statement.RangeBound.{RangeBound}
use Rattle.uc_syntax.specs.declared.statement.Arm.{Arm}
use Rattle.uc_syntax.specs.declared.statement.Stmt.{Stmt}
use Rattle.uc_syntax.specs.declared.statement.Stmt.TheOpen.Stmt-F.{Local as LocalForm, Skip as SkipForm, Block as BlockForm, Assert as AssertForm, Assume as AssumeForm, Havoc as HavocForm, Assign as AssignForm, If as IfForm, Case as CaseForm, For as ForForm, Call as CallForm, Next as NextForm}
use Rattle.uc_syntax.specs.declared.statement.Stmt.TheViews.{roll-Stmt, Block, If, Case, For}
use Rattle.uc_syntax.specs.declared.statement.Stmt.TheVariants.{Local, Skip, Assert, Assume, Havoc, Assign, Call, Next}
use Rattle.uc_syntax.specs.declared.statement.Stmt.TheFolds.{fold-roll-Stmt}
use Rattle.uc_syntax.proofs.Added.{append_nil}
use Rattle.uc_meaning.specs.Code.{turns}
use Rattle.uc_rules.specs.declared.fault.Fault.{Fault}
use Rattle.uc_rules.specs.declared.rule.Rule.TheVariants.{SteppedTwice}
use Rattle.uc_rules.specs.Faults.{breaks_where, first_of}
use Rattle.uc_rules.specs.Names.{names_one_of}
use Rattle.uc_rules.proofs.Chains.{first_of_append}
use Rattle.uc_type_names.specs.NameSets.{with_name}
use Rattle.uc_written_once.specs.SteppedOnceWalks.{Passed, Parted, Walk, joined, parted, parted_after, passed, walk_arm, walk_arms, walk_block, walk_each, walk_form, walk_of, walk_turns, with_names}

-- a form, by what the walk makes of it
module _ (s y : Stmt) (same : s ≡ y) (again : Bool) (seen : List ℕ) (p : Passed) (form : walk_of y again seen ≡ p) where
  walk_is : walk_of s again seen ≡ p
  walk_is = ap (λ x. walk_of x again seen) same ∙ form

  seen_is : (now : List ℕ) → now ≡ p.seen → now ≡ (walk_of s again seen).seen
  seen_is now is = is ∙ sym (ap (λ (q : Passed). q.seen) walk_is)

  faults_is : (old now : Option Fault) → now ≡ first_of old p.faults → now ≡ first_of old (walk_of s again seen).faults
  faults_is old now is = is ∙ sym (ap (λ (q : Passed). first_of old q.faults) walk_is)

nothing_noted : (old : Option Fault) → old ≡ first_of old []
unfolding first_of
nothing_noted old = refl

form_local : (place : Place) (names : List Identifier) (type : TypeExpr) (again : Bool) (seen : List ℕ) → walk_of (Local place names type) again seen ≡ passed seen []
unfolding walk_of roll-Stmt denote.Hole.Carrier.roll
form_local place names type again seen = ap (λ w. w again seen) (fold-roll-Stmt Walk walk_form (LocalForm place names type))

pub local_seen : (s : Stmt) (place : Place) (names : List Identifier) (type : TypeExpr) (again : Bool) (seen : List ℕ) → s ≡ Local place names type → seen ≡ (walk_of s again seen).seen
local_seen s place names type again seen is = seen_is s (Local place names type) is again seen _ (form_local place names type again seen) seen refl

pub local_faults : (s : Stmt) (place : Place) (names : List Identifier) (type : TypeExpr) (again : Bool) (seen : List ℕ) (old : Option Fault) → s ≡ Local place names type → old ≡ first_of old (walk_of s again seen).faults
local_faults s place names type again seen old is = faults_is s (Local place names type) is again seen _ (form_local place names type again seen) old old (nothing_noted old)

form_skip : (place : Place) (again : Bool) (seen : List ℕ) → walk_of (Skip place) again seen ≡ passed seen []
unfolding walk_of roll-Stmt denote.Hole.Carrier.roll
form_skip place again seen = ap (λ w. w again seen) (fold-roll-Stmt Walk walk_form (SkipForm place))

pub skip_seen : (s : Stmt) (place : Place) (again : Bool) (seen : List ℕ) → s ≡ Skip place → seen ≡ (walk_of s again seen).seen
skip_seen s place again seen is = seen_is s (Skip place) is again seen _ (form_skip place again seen) seen refl

pub skip_faults : (s : Stmt) (place : Place) (again : Bool) (seen : List ℕ) (old : Option Fault) → s ≡ Skip place → old ≡ first_of old (walk_of s again seen).faults
skip_faults s place again seen old is = faults_is s (Skip place) is again seen _ (form_skip place again seen) old old (nothing_noted old)

form_asserts : (place : Place) (name : Option Identifier) (e : Expr) (again : Bool) (seen : List ℕ) → walk_of (Assert place name e) again seen ≡ passed seen []
unfolding walk_of roll-Stmt denote.Hole.Carrier.roll
form_asserts place name e again seen = ap (λ w. w again seen) (fold-roll-Stmt Walk walk_form (AssertForm place name e))

pub asserts_seen : (s : Stmt) (place : Place) (name : Option Identifier) (e : Expr) (again : Bool) (seen : List ℕ) → s ≡ Assert place name e → seen ≡ (walk_of s again seen).seen
asserts_seen s place name e again seen is = seen_is s (Assert place name e) is again seen _ (form_asserts place name e again seen) seen refl

pub asserts_faults : (s : Stmt) (place : Place) (name : Option Identifier) (e : Expr) (again : Bool) (seen : List ℕ) (old : Option Fault) → s ≡ Assert place name e → old ≡ first_of old (walk_of s again seen).faults
asserts_faults s place name e again seen old is = faults_is s (Assert place name e) is again seen _ (form_asserts place name e again seen) old old (nothing_noted old)

form_assumes : (place : Place) (e : Expr) (again : Bool) (seen : List ℕ) → walk_of (Assume place e) again seen ≡ passed seen []
unfolding walk_of roll-Stmt denote.Hole.Carrier.roll
form_assumes place e again seen = ap (λ w. w again seen) (fold-roll-Stmt Walk walk_form (AssumeForm place e))

pub assumes_seen : (s : Stmt) (place : Place) (e : Expr) (again : Bool) (seen : List ℕ) → s ≡ Assume place e → seen ≡ (walk_of s again seen).seen
assumes_seen s place e again seen is = seen_is s (Assume place e) is again seen _ (form_assumes place e again seen) seen refl

pub assumes_faults : (s : Stmt) (place : Place) (e : Expr) (again : Bool) (seen : List ℕ) (old : Option Fault) → s ≡ Assume place e → old ≡ first_of old (walk_of s again seen).faults
assumes_faults s place e again seen old is = faults_is s (Assume place e) is again seen _ (form_assumes place e again seen) old old (nothing_noted old)

form_havoc : (place : Place) (i : Identifier) (primed : Bool) (again : Bool) (seen : List ℕ) → walk_of (Havoc place i primed) again seen ≡ passed seen []
unfolding walk_of roll-Stmt denote.Hole.Carrier.roll
form_havoc place i primed again seen = ap (λ w. w again seen) (fold-roll-Stmt Walk walk_form (HavocForm place i primed))

pub havoc_seen : (s : Stmt) (place : Place) (i : Identifier) (primed : Bool) (again : Bool) (seen : List ℕ) → s ≡ Havoc place i primed → seen ≡ (walk_of s again seen).seen
havoc_seen s place i primed again seen is = seen_is s (Havoc place i primed) is again seen _ (form_havoc place i primed again seen) seen refl

pub havoc_faults : (s : Stmt) (place : Place) (i : Identifier) (primed : Bool) (again : Bool) (seen : List ℕ) (old : Option Fault) → s ≡ Havoc place i primed → old ≡ first_of old (walk_of s again seen).faults
havoc_faults s place i primed again seen old is = faults_is s (Havoc place i primed) is again seen _ (form_havoc place i primed again seen) old old (nothing_noted old)

form_assign : (place : Place) (targets : List Target) (sources : List Expr) (again : Bool) (seen : List ℕ) → walk_of (Assign place targets sources) again seen ≡ passed seen []
unfolding walk_of roll-Stmt denote.Hole.Carrier.roll
form_assign place targets sources again seen = ap (λ w. w again seen) (fold-roll-Stmt Walk walk_form (AssignForm place targets sources))

pub assign_seen : (s : Stmt) (place : Place) (targets : List Target) (sources : List Expr) (again : Bool) (seen : List ℕ) → s ≡ Assign place targets sources → seen ≡ (walk_of s again seen).seen
assign_seen s place targets sources again seen is = seen_is s (Assign place targets sources) is again seen _ (form_assign place targets sources again seen) seen refl

pub assign_faults : (s : Stmt) (place : Place) (targets : List Target) (sources : List Expr) (again : Bool) (seen : List ℕ) (old : Option Fault) → s ≡ Assign place targets sources → old ≡ first_of old (walk_of s again seen).faults
assign_faults s place targets sources again seen old is = faults_is s (Assign place targets sources) is again seen _ (form_assign place targets sources again seen) old old (nothing_noted old)

form_call : (place : Place) (targets : List Target) (i : Identifier) (arguments : List Expr) (again : Bool) (seen : List ℕ) → walk_of (Call place targets i arguments) again seen ≡ passed seen []
unfolding walk_of roll-Stmt denote.Hole.Carrier.roll
form_call place targets i arguments again seen = ap (λ w. w again seen) (fold-roll-Stmt Walk walk_form (CallForm place targets i arguments))

pub call_seen : (s : Stmt) (place : Place) (targets : List Target) (i : Identifier) (arguments : List Expr) (again : Bool) (seen : List ℕ) → s ≡ Call place targets i arguments → seen ≡ (walk_of s again seen).seen
call_seen s place targets i arguments again seen is = seen_is s (Call place targets i arguments) is again seen _ (form_call place targets i arguments again seen) seen refl

pub call_faults : (s : Stmt) (place : Place) (targets : List Target) (i : Identifier) (arguments : List Expr) (again : Bool) (seen : List ℕ) (old : Option Fault) → s ≡ Call place targets i arguments → old ≡ first_of old (walk_of s again seen).faults
call_faults s place targets i arguments again seen old is = faults_is s (Call place targets i arguments) is again seen _ (form_call place targets i arguments again seen) old old (nothing_noted old)

form_step : (place : Place) (i : Identifier) (again : Bool) (seen : List ℕ) → walk_of (Next place i) again seen ≡ passed (with_name seen i.name) (breaks_where (again || names_one_of seen i.name) SteppedTwice place)
unfolding walk_of roll-Stmt denote.Hole.Carrier.roll
form_step place i again seen = ap (λ w. w again seen) (fold-roll-Stmt Walk walk_form (NextForm place i))

pub step_seen : (s : Stmt) (place : Place) (i : Identifier) (again : Bool) (seen now : List ℕ) → s ≡ Next place i → now ≡ with_name seen i.name → now ≡ (walk_of s again seen).seen
step_seen s place i again seen now is new = seen_is s (Next place i) is again seen _ (form_step place i again seen) now new

pub step_faults : (s : Stmt) (place : Place) (i : Identifier) (again : Bool) (seen : List ℕ) (old now : Option Fault) → s ≡ Next place i →
    now ≡ first_of old (breaks_where (again || names_one_of seen i.name) SteppedTwice place) → now ≡ first_of old (walk_of s again seen).faults
step_faults s place i again seen old now is new = faults_is s (Next place i) is again seen _ (form_step place i again seen) old now new

form_block : (place : Place) (block : List Stmt) (again : Bool) (seen : List ℕ) → walk_of (Block place block) again seen ≡ walk_block block again seen
unfolding walk_of roll-Stmt denote.Hole.Carrier.roll
form_block place block again seen = ap (λ w. w again seen) (fold-roll-Stmt Walk walk_form (BlockForm place block))

pub block_seen : (s : Stmt) (place : Place) (code shown : List Stmt) (again : Bool) (seen now : List ℕ) → s ≡ Block place code → shown ≡ code → now ≡ (walk_block shown again seen).seen → now ≡ (walk_of s again seen).seen
block_seen s place code shown again seen now is same new =
    seen_is s (Block place code) is again seen _ (form_block place code again seen) now (new ∙ ap (λ b. (walk_block b again seen).seen) same)

pub block_faults : (s : Stmt) (place : Place) (code shown : List Stmt) (again : Bool) (seen : List ℕ) (old now : Option Fault) → s ≡ Block place code → shown ≡ code →
    now ≡ first_of old (walk_block shown again seen).faults → now ≡ first_of old (walk_of s again seen).faults
block_faults s place code shown again seen old now is same new =
    faults_is s (Block place code) is again seen _ (form_block place code again seen) old now (new ∙ ap (λ b. first_of old (walk_block b again seen).faults) same)

-- Conditionals.

through : Arm Stmt → Arm Walk
through a = record { condition = a.condition; body = map walk_of a.body }

of_arms : (as' : List (Arm Stmt)) → map (λ (a : Arm Walk). walk_each a.body) (map through as') ≡ map walk_arm as'
unfolding through
of_arms [] = refl
of_arms (a ∷ as') = ap (λ ws. walk_arm a ∷ ws) (of_arms as')

arms_join : (ws vs : List Walk) (again : Bool) (seen aside : List ℕ) → walk_arms (ws ++ vs) again seen aside ≡
    parted_after (walk_arms ws again seen aside).faults (walk_arms vs again (walk_arms ws again seen aside).seen (walk_arms ws again seen aside).aside)
unfolding walk_arms
arms_join [] vs again seen aside = refl
arms_join (w ∷ ws) vs again seen aside =
    let one = w again seen in
    let begin = take (length seen) one.seen in
    let put = aside ++ drop (length seen) one.seen in
    let front = walk_arms ws again begin put in
    let rest = walk_arms vs again front.seen front.aside in
    ap (parted_after one.faults) (arms_join ws vs again begin put)
    ∙ ap (λ fs. parted rest.seen rest.aside fs) (sym (append_assoc one.faults front.faults rest.faults))

abbrev alone : List (Arm Stmt) → Bool → List ℕ → Parted
alone as' again seen = walk_arms (map walk_arm as') again seen []

arms_alone : (as' : List (Arm Stmt)) (again : Bool) (seen : List ℕ) → walk_arms (map (λ (a : Arm Walk). walk_each a.body) (map through as') ++ []) again seen [] ≡ alone as' again seen
arms_alone as' again seen = ap (λ ws. walk_arms ws again seen []) (append_nil _ ∙ of_arms as')

-- the arms, and then a last one
abbrev with_last : List (Arm Stmt) → List Stmt → Bool → List ℕ → Parted
with_last as' code again seen =
    parted (take (length (alone as' again seen).seen) (walk_block code again (alone as' again seen).seen).seen)
    ((alone as' again seen).aside ++ drop (length (alone as' again seen).seen) (walk_block code again (alone as' again seen).seen).seen)
    ((alone as' again seen).faults ++ ((walk_block code again (alone as' again seen).seen).faults ++ []))

last_step : (w : Walk) (again : Bool) (seen aside : List ℕ) → walk_arms (w ∷ []) again seen aside ≡ parted (take (length seen) (w again seen).seen) (aside ++ drop (length seen) (w again seen).seen) ((w again seen).faults ++ [])
unfolding walk_arms
last_step w again seen aside = refl

arms_last : (as' : List (Arm Stmt)) (code : List Stmt) (again : Bool) (seen : List ℕ) →
    walk_arms (map (λ (a : Arm Walk). walk_each a.body) (map through as') ++ walk_each (map walk_of code) ∷ []) again seen [] ≡ with_last as' code again seen
arms_last as' code again seen =
    ap (λ ws. walk_arms (ws ++ walk_block code ∷ []) again seen []) (of_arms as') ∙ arms_join (map walk_arm as') (walk_block code ∷ []) again seen []
    ∙ ap (parted_after (alone as' again seen).faults) (last_step (walk_block code) again (alone as' again seen).seen (alone as' again seen).aside)

form_choice_alone : (place : Place) (as' : List (Arm Stmt)) (again : Bool) (seen : List ℕ) → walk_of (If place as' None) again seen ≡ joined (alone as' again seen)
unfolding walk_of through roll-Stmt denote.Hole.Carrier.roll
form_choice_alone place as' again seen = ap (λ w. w again seen) (fold-roll-Stmt Walk walk_form (IfForm place as' None)) ∙ ap joined (arms_alone as' again seen)

form_choice_else : (place : Place) (as' : List (Arm Stmt)) (code : List Stmt) (again : Bool) (seen : List ℕ) → walk_of (If place as' (Some code)) again seen ≡ joined (with_last as' code again seen)
unfolding walk_of through roll-Stmt denote.Hole.Carrier.roll
form_choice_else place as' code again seen = ap (λ w. w again seen) (fold-roll-Stmt Walk walk_form (IfForm place as' (Some code))) ∙ ap joined (arms_last as' code again seen)

pub choice_alone_seen : (s : Stmt) (place : Place) (as' shown : List (Arm Stmt)) (o : Option (List Stmt)) (again : Bool) (seen none aside all mid now : List ℕ) → s ≡ If place as' o → o ≡ None → shown ≡ as' → none ≡ [] →
    mid ≡ (walk_arms (map walk_arm shown) again seen none).seen → aside ≡ (walk_arms (map walk_arm shown) again seen none).aside → all ≡ aside → now ≡ with_names mid all → now ≡ (walk_of s again seen).seen
choice_alone_seen s place as' shown o again seen none aside all mid now is otherwise same empty mid-is aside-is all-is new =
    seen_is s (If place as' None) (is ∙ ap (If place as') otherwise) again seen _ (form_choice_alone place as' again seen) now
    (new ∙ (λ k. with_names ((mid-is ∙ (λ j. (walk_arms (map walk_arm (same j)) again seen (empty j)).seen)) k) ((all-is ∙ aside-is ∙ (λ j. (walk_arms (map walk_arm (same j)) again seen (empty j)).aside)) k)))

pub choice_alone_faults : (s : Stmt) (place : Place) (as' shown : List (Arm Stmt)) (o : Option (List Stmt)) (again : Bool) (seen none : List ℕ) (old now : Option Fault) → s ≡ If place as' o → o ≡ None → shown ≡ as' → none ≡ [] →
    now ≡ first_of old (walk_arms (map walk_arm shown) again seen none).faults → now ≡ first_of old (walk_of s again seen).faults
choice_alone_faults s place as' shown o again seen none old now is otherwise same empty new =
    faults_is s (If place as' None) (is ∙ ap (If place as') otherwise) again seen _ (form_choice_alone place as' again seen) old now
    (new ∙ (λ j. first_of old (walk_arms (map walk_arm (same j)) again seen (empty j)).faults))

pub choice_else_seen : (s : Stmt) (place : Place) (as' shown : List (Arm Stmt)) (o : Option (List Stmt)) (code shown_code : List Stmt) (again : Bool) (seen none aside mid last now : List ℕ) (start : ℕ) → s ≡ If place as' o → o ≡ Some code →
    shown ≡ as' → shown_code ≡ code → none ≡ [] → mid ≡ (walk_arms (map walk_arm shown) again seen none).seen → aside ≡ (walk_arms (map walk_arm shown) again seen none).aside → start ≡ length mid →
    last ≡ (walk_block shown_code again mid).seen → now ≡ with_names (take start last) (aside ++ drop start last) → now ≡ (walk_of s again seen).seen
choice_else_seen s place as' shown o code shown_code again seen none aside mid last now start is otherwise same same_code empty mid-is aside-is start-is last-is new =
    let m : mid ≡ (alone as' again seen).seen = mid-is ∙ (λ j. (walk_arms (map walk_arm (same j)) again seen (empty j)).seen) in
    let a : aside ≡ (alone as' again seen).aside = aside-is ∙ (λ j. (walk_arms (map walk_arm (same j)) again seen (empty j)).aside) in
    let n : start ≡ length (alone as' again seen).seen = start-is ∙ ap length m in
    let l : last ≡ (walk_block code again (alone as' again seen).seen).seen = last-is ∙ (λ j. (walk_block (same_code j) again (m j)).seen) in
    seen_is s (If place as' (Some code)) (is ∙ ap (If place as') otherwise) again seen _ (form_choice_else place as' code again seen) now
    (new ∙ (λ j. with_names (take (n j) (l j)) (a j ++ drop (n j) (l j))))

pub choice_else_faults : (s : Stmt) (place : Place) (as' shown : List (Arm Stmt)) (o : Option (List Stmt)) (code shown_code : List Stmt) (again : Bool) (seen none mid : List ℕ) (old found now : Option Fault) → s ≡ If place as' o → o ≡ Some code →
    shown ≡ as' → shown_code ≡ code → none ≡ [] → mid ≡ (walk_arms (map walk_arm shown) again seen none).seen → found ≡ first_of old (walk_arms (map walk_arm shown) again seen none).faults →
    now ≡ first_of found (walk_block shown_code again mid).faults → now ≡ first_of old (walk_of s again seen).faults
choice_else_faults s place as' shown o code shown_code again seen none mid old found now is otherwise same same_code empty mid-is found-is new =
    let m : mid ≡ (alone as' again seen).seen = mid-is ∙ (λ j. (walk_arms (map walk_arm (same j)) again seen (empty j)).seen) in
    let own = (walk_block code again (alone as' again seen).seen).faults in
    faults_is s (If place as' (Some code)) (is ∙ ap (If place as') otherwise) again seen _ (form_choice_else place as' code again seen) old now
    (new ∙ (λ j. first_of (found-is j) (walk_block (same_code j) again (m j)).faults)
    ∙ (λ j. first_of (first_of old (walk_arms (map walk_arm (same j)) again seen (empty j)).faults) own)
    ∙ sym (first_of_append old (alone as' again seen).faults own)
    ∙ ap (λ fs. first_of old ((alone as' again seen).faults ++ fs)) (sym (append_nil own)))

form_cases_alone : (place : Place) (as' : List (Arm Stmt)) (again : Bool) (seen : List ℕ) → walk_of (Case place as' None) again seen ≡ joined (alone as' again seen)
unfolding walk_of through roll-Stmt denote.Hole.Carrier.roll
form_cases_alone place as' again seen = ap (λ w. w again seen) (fold-roll-Stmt Walk walk_form (CaseForm place as' None)) ∙ ap joined (arms_alone as' again seen)

form_cases_else : (place : Place) (as' : List (Arm Stmt)) (code : List Stmt) (again : Bool) (seen : List ℕ) → walk_of (Case place as' (Some code)) again seen ≡ joined (with_last as' code again seen)
unfolding walk_of through roll-Stmt denote.Hole.Carrier.roll
form_cases_else place as' code again seen = ap (λ w. w again seen) (fold-roll-Stmt Walk walk_form (CaseForm place as' (Some code))) ∙ ap joined (arms_last as' code again seen)

pub cases_alone_seen : (s : Stmt) (place : Place) (as' shown : List (Arm Stmt)) (o : Option (List Stmt)) (again : Bool) (seen none aside all mid now : List ℕ) → s ≡ Case place as' o → o ≡ None → shown ≡ as' → none ≡ [] →
    mid ≡ (walk_arms (map walk_arm shown) again seen none).seen → aside ≡ (walk_arms (map walk_arm shown) again seen none).aside → all ≡ aside → now ≡ with_names mid all → now ≡ (walk_of s again seen).seen
cases_alone_seen s place as' shown o again seen none aside all mid now is otherwise same empty mid-is aside-is all-is new =
    seen_is s (Case place as' None) (is ∙ ap (Case place as') otherwise) again seen _ (form_cases_alone place as' again seen) now
    (new ∙ (λ k. with_names ((mid-is ∙ (λ j. (walk_arms (map walk_arm (same j)) again seen (empty j)).seen)) k) ((all-is ∙ aside-is ∙ (λ j. (walk_arms (map walk_arm (same j)) again seen (empty j)).aside)) k)))

pub cases_alone_faults : (s : Stmt) (place : Place) (as' shown : List (Arm Stmt)) (o : Option (List Stmt)) (again : Bool) (seen none : List ℕ) (old now : Option Fault) → s ≡ Case place as' o → o ≡ None → shown ≡ as' → none ≡ [] →
    now ≡ first_of old (walk_arms (map walk_arm shown) again seen none).faults → now ≡ first_of old (walk_of s again seen).faults
cases_alone_faults s place as' shown o again seen none old now is otherwise same empty new =
    faults_is s (Case place as' None) (is ∙ ap (Case place as') otherwise) again seen _ (form_cases_alone place as' again seen) old now
    (new ∙ (λ j. first_of old (walk_arms (map walk_arm (same j)) again seen (empty j)).faults))

pub cases_else_seen : (s : Stmt) (place : Place) (as' shown : List (Arm Stmt)) (o : Option (List Stmt)) (code shown_code : List Stmt) (again : Bool) (seen none aside mid last now : List ℕ) (start : ℕ) → s ≡ Case place as' o → o ≡ Some code →
    shown ≡ as' → shown_code ≡ code → none ≡ [] → mid ≡ (walk_arms (map walk_arm shown) again seen none).seen → aside ≡ (walk_arms (map walk_arm shown) again seen none).aside → start ≡ length mid →
    last ≡ (walk_block shown_code again mid).seen → now ≡ with_names (take start last) (aside ++ drop start last) → now ≡ (walk_of s again seen).seen
cases_else_seen s place as' shown o code shown_code again seen none aside mid last now start is otherwise same same_code empty mid-is aside-is start-is last-is new =
    let m : mid ≡ (alone as' again seen).seen = mid-is ∙ (λ j. (walk_arms (map walk_arm (same j)) again seen (empty j)).seen) in
    let a : aside ≡ (alone as' again seen).aside = aside-is ∙ (λ j. (walk_arms (map walk_arm (same j)) again seen (empty j)).aside) in
    let n : start ≡ length (alone as' again seen).seen = start-is ∙ ap length m in
    let l : last ≡ (walk_block code again (alone as' again seen).seen).seen = last-is ∙ (λ j. (walk_block (same_code j) again (m j)).seen) in
    seen_is s (Case place as' (Some code)) (is ∙ ap (Case place as') otherwise) again seen _ (form_cases_else place as' code again seen) now
    (new ∙ (λ j. with_names (take (n j) (l j)) (a j ++ drop (n j) (l j))))

pub cases_else_faults : (s : Stmt) (place : Place) (as' shown : List (Arm Stmt)) (o : Option (List Stmt)) (code shown_code : List Stmt) (again : Bool) (seen none mid : List ℕ) (old found now : Option Fault) → s ≡ Case place as' o → o ≡ Some code →
    shown ≡ as' → shown_code ≡ code → none ≡ [] → mid ≡ (walk_arms (map walk_arm shown) again seen none).seen → found ≡ first_of old (walk_arms (map walk_arm shown) again seen none).faults →
    now ≡ first_of found (walk_block shown_code again mid).faults → now ≡ first_of old (walk_of s again seen).faults
cases_else_faults s place as' shown o code shown_code again seen none mid old found now is otherwise same same_code empty mid-is found-is new =
    let m : mid ≡ (alone as' again seen).seen = mid-is ∙ (λ j. (walk_arms (map walk_arm (same j)) again seen (empty j)).seen) in
    let own = (walk_block code again (alone as' again seen).seen).faults in
    faults_is s (Case place as' (Some code)) (is ∙ ap (Case place as') otherwise) again seen _ (form_cases_else place as' code again seen) old now
    (new ∙ (λ j. first_of (found-is j) (walk_block (same_code j) again (m j)).faults)
    ∙ (λ j. first_of (first_of old (walk_arms (map walk_arm (same j)) again seen (empty j)).faults) own)
    ∙ sym (first_of_append old (alone as' again seen).faults own)
    ∙ ap (λ fs. first_of old ((alone as' again seen).faults ++ fs)) (sym (append_nil own)))

-- Loops.

form_for : (place : Place) (i : Identifier) (type : Option TypeExpr) (from to : RangeBound) (code : List Stmt) (again : Bool) (seen : List ℕ) → walk_of (For place i type from to code) again seen ≡ walk_turns (length (turns from to)) (walk_block code) again seen
unfolding walk_of roll-Stmt denote.Hole.Carrier.roll
form_for place i type from to code again seen = ap (λ w. w again seen) (fold-roll-Stmt Walk walk_form (ForForm place i type from to code))

or_true : (b : Bool) → (b || true) ≡ true
or_true true = refl
or_true false = refl

or_false : (b : Bool) → (b || false) ≡ b
or_false true = refl
or_false false = refl

cut_off : (n : ℕ) → nat_lt 1 (min n (2 ^ 128 - 1)) ≡ nat_lt 1 n
cut_off n = grind arith

none_left : (n count : ℕ) → count ≡ min n (2 ^ 128 - 1) → count ≤ 0 → n ≡ 0
none_left n count is h = omega (arith, is, h)

some_left : (n count : ℕ) → count ≡ min n (2 ^ 128 - 1) → 0 < count → 0 < n
some_left n count is h = omega (arith, is, h)

never_turns : (n : ℕ) (w : Walk) (again : Bool) (seen : List ℕ) → n ≡ 0 → walk_turns n w again seen ≡ passed seen []
never_turns n w again seen h = ap (λ k. walk_turns k w again seen) h

some_turns : (n : ℕ) (w : Walk) (again : Bool) (seen : List ℕ) → 0 < n → walk_turns n w again seen ≡ w (again || nat_lt 1 n) seen
some_turns zero w again seen h = absurd (omega (arith, h))
some_turns (suc zero) w again seen h = ap (λ b. w b seen) (sym (or_false again))
some_turns (suc (suc n)) w again seen h = let l : nat_lt 1 (suc (suc n)) ≡ true = grind arith in ap (λ b. w b seen) (sym (ap (λ c. again || c) l ∙ or_true again))

module _ (s : Stmt) (place : Place) (i : Identifier) (type : Option TypeExpr) (from to : RangeBound) (code : List Stmt) (again : Bool) (seen : List ℕ) (count : ℕ) (is : s ≡ For place i type from to code) (counted : count ≡ min (length (turns from to)) (2 ^ 128 - 1)) where
  form_never : count ≤ 0 → walk_of (For place i type from to code) again seen ≡ passed seen []
  form_never h = form_for place i type from to code again seen ∙ never_turns (length (turns from to)) (walk_block code) again seen (none_left (length (turns from to)) count counted h)

  form_some : 0 < count → walk_of (For place i type from to code) again seen ≡ walk_block code (again || nat_lt 1 count) seen
  form_some h =
      form_for place i type from to code again seen ∙ some_turns (length (turns from to)) (walk_block code) again seen (some_left (length (turns from to)) count counted h)
      ∙ ap (λ b. walk_block code (again || b) seen) (sym (ap (nat_lt 1) counted ∙ cut_off (length (turns from to))))

  pub no_turns_seen : count ≤ 0 → seen ≡ (walk_of s again seen).seen
  no_turns_seen h = seen_is s (For place i type from to code) is again seen _ (form_never h) seen refl

  pub no_turns_faults : (old : Option Fault) → count ≤ 0 → old ≡ first_of old (walk_of s again seen).faults
  no_turns_faults old h = faults_is s (For place i type from to code) is again seen _ (form_never h) old old (nothing_noted old)

  pub turned_seen : (shown : List Stmt) (b : Bool) (now : List ℕ) → 0 < count → shown ≡ code → b ≡ (again || nat_lt 1 count) → now ≡ (walk_block shown b seen).seen → now ≡ (walk_of s again seen).seen
  turned_seen shown b now h same b-is new =
      seen_is s (For place i type from to code) is again seen _ (form_some h) now (new ∙ (λ k. (walk_block (same k) (b-is k) seen).seen))

  pub turned_faults : (shown : List Stmt) (b : Bool) (old now : Option Fault) → 0 < count → shown ≡ code → b ≡ (again || nat_lt 1 count) → now ≡ first_of old (walk_block shown b seen).faults →
      now ≡ first_of old (walk_of s again seen).faults
  turned_faults shown b old now h same b-is new =
      faults_is s (For place i type from to code) is again seen _ (form_some h) old now (new ∙ (λ k. first_of old (walk_block (same k) (b-is k) seen).faults))
