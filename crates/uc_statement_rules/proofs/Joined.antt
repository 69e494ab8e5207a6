-- What is found of a whole, by what is found of its parts.
use Rattle.std.proofs.Common.{◌≡◌, ℕ, ◌+◌, ◌-◌, ◌<◌, ◌≤◌, Bool, List, [], ◌∷◌, ◌++◌, length, drop, take, get_or, map, Option, Some, None, refl, ap, ◌∙◌, sym, subst, append_assoc}
use Rattle.std.specs.Prelude.{not, ◌||◌}
use Rattle.std.specs.Option.{is_some, option_map}
use Rattle.std.proofs.lemmas.List.{take_all}
use Rattle.uc_lexer.specs.declared.place.Place.{Place}
use Rattle.uc_syntax.specs.declared.place.Identifier.{Identifier}
use Rattle.uc_syntax.specs.declared.type_expression.TypeExpr.{TypeExpr}
use Rattle.uc_syntax.specs.declared.expression.Expr.{Expr}
use Rattle.uc_syntax.specs.declared.statement.Target.{Target}
use Rattle.uc_syntax.specs.declared.statement.RangeBound.{RangeBound}
use Rattle.uc_syntax.specs.declared.statement.Arm.{Arm}
use Rattle.uc_syntax.specs.declared.statement.Stmt.{Stmt}
use Rattle.uc_syntax.specs.declared.statement.Stmt.TheViews.{Block, If, Case, For}
use Rattle.uc_syntax.specs.declared.statement.Stmt.TheVariants.{Local as LocalOf, Assign, Call}
use Rattle.uc_syntax.specs.declared.declaration.Procedure.{Procedure}
use Rattle.uc_values.specs.declared.ty.Ty.{Ty}
use Rattle.uc_rules.specs.declared.fault.Fault.{Fault}
use Rattle.uc_rules.specs.declared.outcome.Outcome.{Outcome}
use Rattle.uc_rules.specs.declared.rows.Chain.TheVariants.{Number}
use Rattle.uc_rules.specs.declared.known.Role.TheVariants.{Local, Counter}
use Rattle.uc_rules.specs.declared.rule.Rule.TheVariants.{BadPrime, DuplicateName, NotModifies, UnknownName}
use Rattle.uc_rules.specs.Faults.{breaks_where, broken, earlier, first_of}
use Rattle.uc_rules.specs.Names.{is_name_of, names_one_of, procedure_named, repeated_in, repeated_in_scope}
use Rattle.uc_rules.specs.Outcomes.{faults_in, type_in}
use Rattle.uc_rules.specs.Rows.{pair}
use Rattle.uc_rules.specs.Expressions.{Context, Standing, condition_faults, faults_of, standing, standing_faults, types_of}
use Rattle.uc_rules.specs.Statements.{Found, all_judged_in, assign_faults, binds, bound_names, bound_outcome, bound_place, call_faults, called_faults, code_faults, counter_outcome, declare_faults, fit_faults, for_faults, found, instance_there, range_faults, range_outcome, stays, target_faults, target_types, written_type_faults}
use Rattle.uc_rules.specs.Types.{parameter_types, type_faults, type_of}
use Rattle.uc_rules.proofs.Chains.{first_of_append}
use Rattle.uc_rules.proofs.Swaps.{any_order}
use Rattle.uc_expression_rules.specs.Judging.{Finds, FindsOutcome, JudgesAll}
use Rattle.uc_statement_rules.specs.Judging.{Declares, EntersLoop, JudgesAfter, JudgesArms, JudgesBlock, JudgesElse, JudgesStatement, JudgesTargets, arms_found, called_procedure_faults, clauses_may, counter_type, else_found, step_faults}
use Rattle.uc_statement_rules.proofs.Noted.{NotedUpTo, append_nil, noted_both, noted_more, noted_none}
use Rattle.uc_statement_rules.proofs.Parts.{outcome_faults}
use Rattle.uc_statement_rules.proofs.Modifying.{call_kept}
use Rattle.uc_statement_rules.proofs.Declaring.{repeated_none, repeated_turn}
use Rattle.uc_statement_rules.proofs.Forms.{found_assign, found_block, found_call, found_case, found_for, found_if, found_local}
use Rattle.uc_statement_rules.proofs.Blocks.{grown_left}

-- what the code notes of an outcome
pub settles : {old new : Option Fault} {t : Option Ty} {outcome meant : Outcome} (place : Place) →
    t ≡ type_in outcome → new ≡ first_of old (faults_in place outcome) → outcome ≡ meant → FindsOutcome old new t place meant
settles {old} {new} {t} {outcome} {meant} place type found is = record {
  type = type ∙ ap type_in is;
  found = found ∙ ap (λ o. first_of old (faults_in place o)) is;
}

-- faults of three lists
pub noted_three : (old m1 m2 new : Option Fault) (fs gs hs : List Fault) → m1 ≡ first_of old fs → m2 ≡ first_of m1 gs → new ≡ first_of m2 hs → new ≡ first_of old (fs ++ (gs ++ hs))
noted_three old m1 m2 new fs gs hs first second third = noted_both old m1 new fs (gs ++ hs) first (noted_both m1 m2 new gs hs second third)

pub assign_of_parts : (c : Context) (place : Place) (targets : List Target) (sources : List Expr) (old m1 m2 new : Option Fault) (ts us ts' us' : List (Option Ty)) →
    JudgesTargets c targets old m1 ts → JudgesAll c sources m1 m2 us → ts' ≡ ts → us' ≡ us → new ≡ first_of m2 (fit_faults place ts' us') → new ≡ first_of old (assign_faults c place targets sources)
assign_of_parts c place targets sources old m1 m2 new ts us ts' us' first second ts-is us-is found-is =
    noted_three old m1 m2 new (target_faults c targets) (faults_of (all_judged_in c sources)) (fit_faults place (target_types c targets) (types_of (all_judged_in c sources)))
    first.found second.found (found-is ∙ (λ i. first_of m2 (fit_faults place ((ts-is ∙ first.are) i) ((us-is ∙ second.types) i))))

pub call_of_parts : (c : Context) (place : Place) (targets : List Target) (i : Identifier) (arguments : List Expr) (old m1 m2 new : Option Fault) (ts us ts' us' : List (Option Ty)) →
    JudgesTargets c targets old m1 ts → JudgesAll c arguments m1 m2 us → ts' ≡ ts → us' ≡ us →
    new ≡ first_of m2 (called_faults c place ts' i (procedure_named c.system c.home i.name) us') → new ≡ first_of old (call_faults c place targets i arguments)
call_of_parts c place targets i arguments old m1 m2 new ts us ts' us' first second ts-is us-is found-is =
    let p = procedure_named c.system c.home i.name in
    noted_three old m1 m2 new (target_faults c targets) (faults_of (all_judged_in c arguments)) (called_faults c place (target_types c targets) i p (types_of (all_judged_in c arguments)))
    first.found second.found (found-is ∙ (λ k. first_of m2 (called_faults c place ((ts-is ∙ first.are) k) i p ((us-is ∙ second.types) k))))

pub called_is : (c : Context) (place : Place) (targets : List (Option Ty)) (i : Identifier) (o : Option Procedure) (p : Procedure) (arguments : List (Option Ty)) →
    Some p ≡ o → called_procedure_faults c place targets p arguments ≡ called_faults c place targets i o arguments
called_is c place targets i o p arguments is =
    ap (λ b. fit_faults place (parameter_types c.system c.home p.parameters) arguments ++ (fit_faults place (parameter_types c.system c.home p.results) targets ++ breaks_where (not b) NotModifies place)) (sym (call_kept c p))
    ∙ ap (λ q. called_faults c place targets i q arguments) is

pub procedure_of_parts : (c : Context) (place : Place) (targets : List (Option Ty)) (p : Procedure) (arguments : List (Option Ty)) (old m1 m2 new : Option Fault) (ok : Bool) →
    m1 ≡ first_of old (fit_faults place (parameter_types c.system c.home p.parameters) arguments) → m2 ≡ first_of m1 (fit_faults place (parameter_types c.system c.home p.results) targets) →
    ok ≡ clauses_may c p.clauses → new ≡ first_of m2 (breaks_where (not ok) NotModifies place) → new ≡ first_of old (called_procedure_faults c place targets p arguments)
procedure_of_parts c place targets p arguments old m1 m2 new ok first second ok-is third =
    noted_three old m1 m2 new (fit_faults place (parameter_types c.system c.home p.parameters) arguments) (fit_faults place (parameter_types c.system c.home p.results) targets) (breaks_where (not (clauses_may c p.clauses)) NotModifies place)
    first second (third ∙ ap (λ b. first_of m2 (breaks_where (not b) NotModifies place)) ok-is)

-- the bounds of a loop, both of them, and the loop's variable
pub range_of_parts : (c : Context) (place : Place) (type : Option TypeExpr) (from to : RangeBound) (old m1 m2 m3 new : Option Fault) (low high both t : Option Ty) (o : Outcome) →
    FindsOutcome old m1 low (bound_place from) (bound_outcome from) → FindsOutcome m1 m2 high (bound_place to) (bound_outcome to) → FindsOutcome m2 m3 both place (pair Number low high) →
    o ≡ counter_outcome c type both → t ≡ type_in o → new ≡ first_of m3 (faults_in place o) → Finds old new t (range_faults c place type from to) (type_in (counter_outcome c type (type_in (range_outcome from to))))
range_of_parts c place type from to old m1 m2 m3 new low high both t o first second third o-is t-is found-is =
    let pair-is : pair Number low high ≡ range_outcome from to = (λ i. pair Number (first.type i) (second.type i)) in
    let last : o ≡ counter_outcome c type (type_in (range_outcome from to)) = o-is ∙ ap (counter_outcome c type) (third.type ∙ ap type_in pair-is) in record {
      type = t-is ∙ ap type_in last;
      found =
          noted_both old m2 new (faults_in (bound_place from) (bound_outcome from) ++ faults_in (bound_place to) (bound_outcome to)) (faults_in place (range_outcome from to) ++ faults_in place (counter_outcome c type (type_in (range_outcome from to))))
          (noted_both old m1 m2 (faults_in (bound_place from) (bound_outcome from)) (faults_in (bound_place to) (bound_outcome to)) first.found second.found)
          (noted_both m2 m3 new (faults_in place (range_outcome from to)) (faults_in place (counter_outcome c type (type_in (range_outcome from to))))
          (third.found ∙ ap (λ q. first_of m2 (faults_in place q)) pair-is) (found-is ∙ ap (λ q. first_of m3 (faults_in place q)) last));
    }

-- a declaration of locals: its types are noted before its names
pub local_of_parts : (c after : Context) (place : Place) (is : List Identifier) (type : TypeExpr) (old m1 m2 new : Option Fault) (t : Option Ty) (b : Bool) →
    b ≡ c.in_next → m1 ≡ first_of old (breaks_where b BadPrime place) → t ≡ type_of c.system c.home type → m2 ≡ first_of m1 (type_faults c.system c.home type) →
    Declares c Local is t m2 new after → JudgesAfter old new after (declare_faults c place is type) (binds c Local is (type_of c.system c.home type))
local_of_parts c after place is type old m1 m2 new t b b-is first t-is second rest =
    let names = repeated_in_scope c.system c.home (bound_names c) is in
    let types = type_faults c.system c.home type in record {
      noted =
          noted_both old m1 new (breaks_where c.in_next BadPrime place) (names ++ types) (first ∙ ap (λ q. first_of old (breaks_where q BadPrime place)) b-is)
          (rest.noted ∙ ap (λ o. first_of o names) second ∙ any_order m1 types names ∙ sym (first_of_append m1 names types));
      scope = rest.scope ∙ ap (binds c Local is) t-is;
    }

-- one name alone
pub one_declared : (c : Context) (i : Identifier) (old new : Option Fault) →
    new ≡ first_of old (breaks_where (is_name_of c.system c.home i.name || names_one_of (bound_names c) i.name) DuplicateName i.place) → new ≡ first_of old (repeated_in_scope c.system c.home (bound_names c) (i ∷ []))
one_declared c i old new is =
    let taken = is_name_of c.system c.home in
    is ∙ ap (first_of old) (sym (repeated_turn taken (bound_names c) i [] ∙ ap (λ fs. breaks_where (taken i.name || names_one_of (bound_names c) i.name) DuplicateName i.place ++ fs) (repeated_none taken (bound_names c ++ i.name ∷ [])) ∙ append_nil _))

-- what an outcome of a name gives
pub standing_noted : (place : Place) (o : Outcome) (s : Standing) (old new : Option Fault) → standing place o ≡ s → new ≡ first_of old (faults_in place o) → new ≡ first_of old (standing_faults s)
standing_noted place o s old new is found-is = found-is ∙ ap (first_of old) (sym (outcome_faults place o) ∙ ap standing_faults is)

-- ---- statements

-- a statement that declares nothing
pub stays_found : (c : Context) (s x : Stmt) (fs : List Fault) (old new : Option Fault) (after : Context) → s ≡ x → found x c ≡ stays c fs → after ≡ c → new ≡ first_of old fs → JudgesStatement c s old new after
stays_found c s x fs old new after s-is is after-is new-is =
    let all : found s c ≡ stays c fs = ap (λ y. found y c) s-is ∙ is in record {
      noted = new-is ∙ ap (λ (q : Found). first_of old q.faults) (sym all);
      scope = after-is ∙ ap (λ (q : Found). q.after) (sym all);
    }

-- one that does
pub after_found : (c : Context) (s x : Stmt) (fs : List Fault) (d : Context) (old new : Option Fault) (after : Context) → s ≡ x → found x c ≡ record { faults = fs; after = d } → JudgesAfter old new after fs d → JudgesStatement c s old new after
after_found c s x fs d old new after s-is is held =
    let all : found s c ≡ record { faults = fs; after = d } = ap (λ y. found y c) s-is ∙ is in record {
      noted = held.noted ∙ ap (λ (q : Found). first_of old q.faults) (sym all);
      scope = held.scope ∙ ap (λ (q : Found). q.after) (sym all);
    }

-- no block stands for what arms leave out, or one does
pub else_none : (c : Context) (o : Option (List Stmt)) (old : Option Fault) → o ≡ None → JudgesElse c o old old c
else_none c o old o-is = record { noted = noted_none old ∙ ap (λ p. first_of old (else_found c p)) (sym o-is); scope = refl }

pub else_some : (c after : Context) (o : Option (List Stmt)) (block block' : List Stmt) (old new : Option Fault) → o ≡ Some block → block' ≡ block → JudgesBlock c block' old new after → JudgesElse c o old new after
else_some c after o block block' old new o-is block-is held = record {
  noted = held.noted ∙ ap (λ xs. first_of old (code_faults xs c)) block-is ∙ ap (λ p. first_of old (else_found c p)) (sym o-is);
  scope = held.scope;
}

-- arms, and what stands for all that they leave out
choice_found : (c d after : Context) (arms arms' : List (Arm Stmt)) (o : Option (List Stmt)) (old mid new : Option Fault) → arms' ≡ arms → JudgesArms c arms' old mid d → JudgesElse d o mid new after →
    JudgesAfter old new after (arms_found c arms ++ else_found c o) c
choice_found c d after arms arms' o old mid new arms-is held rest = record {
  noted =
      noted_both old mid new (arms_found c arms) (else_found c o) (held.noted ∙ ap (λ xs. first_of old (arms_found c xs)) arms-is)
      (rest.noted ∙ ap (λ q. first_of mid (else_found q o)) held.scope);
  scope = rest.scope ∙ held.scope;
}

pub if_found : (c d after : Context) (s : Stmt) (place : Place) (arms arms' : List (Arm Stmt)) (o : Option (List Stmt)) (old mid new : Option Fault) → s ≡ If place arms o → arms' ≡ arms →
    JudgesArms c arms' old mid d → JudgesElse d o mid new after → JudgesStatement c s old new after
if_found c d after s place arms arms' o old mid new s-is arms-is held rest =
    after_found c s (If place arms o) (arms_found c arms ++ else_found c o) c old new after s-is (found_if c place arms o) (choice_found c d after arms arms' o old mid new arms-is held rest)

pub case_found : (c d after : Context) (s : Stmt) (place : Place) (arms arms' : List (Arm Stmt)) (o : Option (List Stmt)) (old mid new : Option Fault) → s ≡ Case place arms o → arms' ≡ arms →
    JudgesArms c arms' old mid d → JudgesElse d o mid new after → JudgesStatement c s old new after
case_found c d after s place arms arms' o old mid new s-is arms-is held rest =
    after_found c s (Case place arms o) (arms_found c arms ++ else_found c o) c old new after s-is (found_case c place arms o) (choice_found c d after arms arms' o old mid new arms-is held rest)

-- the head of a loop: its name, the type that is written, and its range
pub head_of_parts : (c after : Context) (place : Place) (i : Identifier) (type : Option TypeExpr) (from to : RangeBound) (old m1 m2 new : Option Fault) (t : Option Ty) →
    m1 ≡ first_of old (breaks_where (is_name_of c.system c.home i.name || names_one_of (bound_names c) i.name) DuplicateName i.place) →
    m2 ≡ first_of m1 (written_type_faults c type) →
    Finds m2 new t (range_faults c place type from to) (counter_type c type from to) →
    after ≡ record c { bound = record { name = i.name; role = Counter; ty = t } ∷ c.bound } → EntersLoop c place i type from to old new after
head_of_parts c after place i type from to old m1 m2 new t first second range after-is = record {
  noted =
      noted_both old m2 new (repeated_in_scope c.system c.home (bound_names c) (i ∷ []) ++ written_type_faults c type) (range_faults c place type from to)
      (noted_both old m1 m2 (repeated_in_scope c.system c.home (bound_names c) (i ∷ [])) (written_type_faults c type) (one_declared c i old m1 first) second) range.found;
  scope = after-is ∙ ap (λ v. binds c Counter (i ∷ []) v) range.type;
}

-- a loop: its head, and its body, where the name is known
pub for_of_parts : (c inside back after : Context) (s : Stmt) (place : Place) (i : Identifier) (type : Option TypeExpr) (from to : RangeBound) (block block' : List Stmt) (old mid new : Option Fault) (depth : ℕ) →
    s ≡ For place i type from to block → depth ≡ length c.bound → EntersLoop c place i type from to old mid inside →
    block' ≡ block → JudgesBlock inside block' mid new back →
    after ≡ record back { bound = drop (length back.bound - depth) back.bound } → JudgesStatement c s old new after
for_of_parts c inside back after s place i type from to block block' old mid new depth s-is depth-is head block-is body after-is =
    let named = repeated_in_scope c.system c.home (bound_names c) (i ∷ []) ++ written_type_faults c type in
    let range = range_faults c place type from to in
    let u = counter_type c type from to in
    let within = code_faults block (binds c Counter (i ∷ []) u) in
    stays_found c s (For place i type from to block) (for_faults c place i type from to (map found block)) old new after s-is (found_for c place i type from to block)
    (grown_left c back after depth (record { added = record { name = i.name; role = Counter; ty = u } ∷ []; is = body.scope ∙ head.scope }) depth-is after-is)
    (noted_both old mid new (named ++ range) within head.noted (body.noted ∙ (λ k. first_of mid (code_faults (block-is k) (head.scope k)))) ∙ ap (first_of old) (append_assoc named range within))

pub called_none : (c : Context) (place : Place) (targets : List (Option Ty)) (i : Identifier) (o : Option Procedure) (arguments : List (Option Ty)) (old new : Option Fault) →
    None ≡ o → new ≡ earlier old (broken UnknownName i.place) → new ≡ first_of old (called_faults c place targets i o arguments)
unfolding first_of
called_none c place targets i o arguments old new is found-is = found-is ∙ ap (λ q. first_of old (called_faults c place targets i q arguments)) is

-- ---- arms

pub arms_begin : (c : Context) (old : Option Fault) → JudgesArms c [] old old c
arms_begin c old = record { noted = noted_none old; scope = refl }

-- an arm: its condition, and then its block
pub arms_more : (c : Context) (arms : List (Arm Stmt)) (k : ℕ) (a d : Arm Stmt) (old now mid new : Option Fault) (s after : Context) (block : List Stmt) →
    JudgesArms c (take k arms) old now s → k < length arms → a ≡ get_or arms k d → mid ≡ first_of now (condition_faults s a.condition) → block ≡ a.body → JudgesBlock s block mid new after → JudgesArms c (take (k + 1) arms) old new after
arms_more c arms k a d old now mid new s after block before within is asked block-is body =
    let one : Arm Stmt → List Fault = λ (x : Arm Stmt). condition_faults c x.condition ++ code_faults x.body c in
    let noted : NotedUpTo one arms old (k + 1) new =
    noted_more one arms old k now new a d (record { noted = before.noted }) within is
    (noted_both now mid new (condition_faults c a.condition) (code_faults a.body c) (asked ∙ ap (λ (q : Context). first_of now (condition_faults q a.condition)) before.scope)
    (body.noted ∙ (λ i. first_of mid (code_faults (block-is i) (before.scope i))))) in record {
      noted = noted.noted;
      scope = body.scope ∙ before.scope;
    }

pub arms_end : (c : Context) (arms : List (Arm Stmt)) (k : ℕ) (old now : Option Fault) (s : Context) → JudgesArms c (take k arms) old now s → length arms ≤ k → JudgesArms c arms old now s
arms_end c arms k old now s before past = subst (λ xs. JudgesArms c xs old now s) (take_all k arms past) before

-- ---- statements whose parts are lent as slices

pub local_found : (c after : Context) (s : Stmt) (place : Place) (is is' : List Identifier) (type : TypeExpr) (old new : Option Fault) → s ≡ LocalOf place is type → is' ≡ is →
    JudgesAfter old new after (declare_faults c place is' type) (binds c Local is' (type_of c.system c.home type)) → JudgesStatement c s old new after
local_found c after s place is is' type old new s-is same held =
    after_found c s (LocalOf place is type) (declare_faults c place is type) (binds c Local is (type_of c.system c.home type)) old new after s-is (found_local c place is type)
    (subst (λ xs. JudgesAfter old new after (declare_faults c place xs type) (binds c Local xs (type_of c.system c.home type))) same held)

pub block_found : (c after : Context) (s : Stmt) (place : Place) (block block' : List Stmt) (old new : Option Fault) → s ≡ Block place block → block' ≡ block → JudgesBlock c block' old new after → JudgesStatement c s old new after
block_found c after s place block block' old new s-is same held =
    after_found c s (Block place block) (code_faults block c) c old new after s-is (found_block c place block) (subst (λ xs. JudgesBlock c xs old new after) same held)

pub assign_found : (c : Context) (s : Stmt) (place : Place) (ts ts' : List Target) (es es' : List Expr) (old new : Option Fault) → s ≡ Assign place ts es → ts' ≡ ts → es' ≡ es →
    new ≡ first_of old (assign_faults c place ts' es') → JudgesStatement c s old new c
assign_found c s place ts ts' es es' old new s-is ts-is es-is held =
    stays_found c s (Assign place ts es) (assign_faults c place ts es) old new c s-is (found_assign c place ts es) refl (held ∙ (λ k. first_of old (assign_faults c place (ts-is k) (es-is k))))

pub call_found : (c : Context) (s : Stmt) (place : Place) (ts ts' : List Target) (i : Identifier) (es es' : List Expr) (old new : Option Fault) → s ≡ Call place ts i es → ts' ≡ ts → es' ≡ es →
    new ≡ first_of old (call_faults c place ts' i es') → JudgesStatement c s old new c
call_found c s place ts ts' i es es' old new s-is ts-is es-is held =
    stays_found c s (Call place ts i es) (call_faults c place ts i es) old new c s-is (found_call c place ts i es) refl (held ∙ (λ k. first_of old (call_faults c place (ts-is k) i (es-is k))))

-- ---- steps of instances

pub some_mapped : {A B : Type 0} (f : A → B) (o : Option A) (p : Option B) → option_map f o ≡ p → is_some o ≡ is_some p
some_mapped f None p is = ap is_some is
some_mapped f (Some x) p is = ap is_some is

pub step_of_parts : (c : Context) (place : Place) (i : Identifier) (old mid new : Option Fault) (b t : Bool) → b ≡ c.in_next → mid ≡ first_of old (breaks_where (not b) BadPrime place) → t ≡ instance_there c i →
    new ≡ first_of mid (breaks_where (not t) UnknownName i.place) → new ≡ first_of old (step_faults c place i)
step_of_parts c place i old mid new b t b-is first t-is second =
    noted_both old mid new (breaks_where (not c.in_next) BadPrime place) (breaks_where (not (instance_there c i)) UnknownName i.place)
    (first ∙ ap (λ q. first_of old (breaks_where (not q) BadPrime place)) b-is) (second ∙ ap (λ q. first_of mid (breaks_where (not q) UnknownName i.place)) t-is)
