-- The turns of loops over the parts of a target and over targets.
use Rattle.std.proofs.Common.{◌≡◌, ℕ, ◌+◌, ◌<◌, ◌≤◌, List, [], ◌∷◌, ◌++◌, length, map, take, drop, get_or, Option, Some, None, refl, ap, ◌∙◌, sym, subst}
use Rattle.std.proofs.lemmas.List.{drop_all}
use Rattle.uc_lexer.specs.declared.place.Place.{Place}
use Rattle.uc_syntax.specs.declared.place.Identifier.{Identifier}
use Rattle.uc_syntax.specs.declared.expression.Expr.{Expr}
use Rattle.uc_syntax.specs.declared.statement.Target.{Target}
use Rattle.uc_syntax.specs.declared.statement.TargetPart.{TargetPart}
use Rattle.uc_syntax.specs.declared.statement.TargetPart.TheVariants.{Field, Element}
use Rattle.uc_values.specs.declared.ty.Ty.{Ty}
use Rattle.uc_rules.specs.declared.fault.Fault.{Fault}
use Rattle.uc_rules.specs.declared.outcome.Outcome.{Outcome}
use Rattle.uc_rules.specs.declared.outcome.Outcome.TheVariants.{Has, Breaks, Unjudged}
use Rattle.uc_rules.specs.Faults.{first_of}
use Rattle.uc_rules.specs.Outcomes.{faults_in, type_in}
use Rattle.uc_rules.specs.Rows.{element_on, field_on}
use Rattle.uc_rules.specs.Expressions.{Context, judged, standing, standing_faults, standing_type}
use Rattle.uc_rules.specs.Statements.{part_inner, part_outcome, part_place, parts_faults, parts_type, target_faults, target_own, target_standing, target_types}
use Rattle.uc_rules.proofs.Chains.{first_of_append}
use Rattle.uc_rules.proofs.Lists.{drop_turn, take_turn}
use Rattle.uc_expression_rules.specs.Judging.{Finds, FindsOwn, Judges}
use Rattle.uc_statement_rules.specs.Judging.{JudgesTargets}
use Rattle.uc_statement_rules.proofs.Noted.{NotedUpTo, noted_both, noted_more}

abbrev part_faults : Context → Option Ty → TargetPart → List Fault
part_faults c t p = part_inner c p ++ faults_in (part_place p) (part_outcome c t p)

-- Before turn k of a loop over the parts, the rest from this type on gives what the whole gives.
pub record PartsFrom (c : Context) (start : Option Ty) (ps : List TargetPart) (old : Option Fault) (k : ℕ) (t : Option Ty) (first : Option Fault) : Type 0 where
  pub type : parts_type c t (drop k ps) ≡ parts_type c start ps
  pub found : first_of first (parts_faults c t (drop k ps)) ≡ first_of old (parts_faults c start ps)

pub parts_begin : (c : Context) (start : Option Ty) (ps : List TargetPart) (old : Option Fault) → PartsFrom c start ps old 0 start old
parts_begin c start ps old = record { type = refl; found = refl }

turn_type : (c : Context) (t : Option Ty) (p : TargetPart) (ps : List TargetPart) → parts_type c t (p ∷ ps) ≡ parts_type c (type_in (part_outcome c t p)) ps
unfolding parts_type
turn_type c t p ps = refl

turn_faults : (c : Context) (t : Option Ty) (p : TargetPart) (ps : List TargetPart) → parts_faults c t (p ∷ ps) ≡ part_faults c t p ++ parts_faults c (type_in (part_outcome c t p)) ps
unfolding parts_faults
turn_faults c t p ps = refl

pub parts_more : (c : Context) (start : Option Ty) (ps : List TargetPart) (old : Option Fault) (k : ℕ) (t u : Option Ty) (first new : Option Fault) (p d : TargetPart) →
    PartsFrom c start ps old k t first → k < length ps → p ≡ get_or ps k d → Finds first new u (part_faults c t p) (type_in (part_outcome c t p)) → PartsFrom c start ps old (k + 1) u new
parts_more c start ps old k t u first new p d before within is one = record {
  type =
      ap (λ v. parts_type c v (drop (k + 1) ps)) one.type
      ∙ sym (turn_type c t p (drop (k + 1) ps))
      ∙ sym (ap (parts_type c t) (drop_turn ps k p d within is))
      ∙ before.type;
  found =
      ap (λ v. first_of new (parts_faults c v (drop (k + 1) ps))) one.type
      ∙ ap (λ o. first_of o (parts_faults c (type_in (part_outcome c t p)) (drop (k + 1) ps))) one.found
      ∙ sym (first_of_append first (part_faults c t p) (parts_faults c (type_in (part_outcome c t p)) (drop (k + 1) ps)))
      ∙ sym (ap (first_of first) (turn_faults c t p (drop (k + 1) ps)))
      ∙ sym (ap (λ xs. first_of first (parts_faults c t xs)) (drop_turn ps k p d within is))
      ∙ before.found;
}

pub parts_end : (c : Context) (start : Option Ty) (ps : List TargetPart) (old : Option Fault) (k : ℕ) (t : Option Ty) (first : Option Fault) →
    PartsFrom c start ps old k t first → length ps ≤ k → Finds old first t (parts_faults c start ps) (parts_type c start ps)
unfolding parts_type parts_faults first_of
parts_end c start ps old k t first before past = record {
  type = sym (ap (parts_type c t) (drop_all k ps past)) ∙ before.type;
  found = sym (ap (λ xs. first_of first (parts_faults c t xs)) (drop_all k ps past)) ∙ before.found;
}

-- what an outcome at a place stands for
pub outcome_faults : (place : Place) (o : Outcome) → standing_faults (standing place o) ≡ faults_in place o
outcome_faults place (Has t) = refl
outcome_faults place (Breaks rule) = refl
outcome_faults place Unjudged = refl

pub outcome_type : (place : Place) (o : Outcome) → standing_type (standing place o) ≡ type_in o
outcome_type place (Has t) = refl
outcome_type place (Breaks rule) = refl
outcome_type place Unjudged = refl

-- the faults of a target's name, and then those of its parts
pub target_of_parts : (c : Context) (t : Target) (o : Outcome) (ps : List TargetPart) (old mid new : Option Fault) (start u : Option Ty) →
    standing t.place o ≡ target_standing c t.place t.name t.is_primed → start ≡ type_in o → mid ≡ first_of old (faults_in t.place o) → ps ≡ t.parts →
    Finds mid new u (parts_faults c start ps) (parts_type c start ps) → FindsOwn old new u (target_own c t)
target_of_parts c t o ps old mid new start u o-is start-is mid-is ps-is rest =
    let s = target_standing c t.place t.name t.is_primed in
    let at : start ≡ standing_type s = start-is ∙ sym (outcome_type t.place o) ∙ ap standing_type o-is in record {
      type = rest.type ∙ (λ i. parts_type c (at i) (ps-is i));
      found =
          rest.found ∙ (λ i. first_of mid (parts_faults c (at i) (ps-is i)))
          ∙ ap (λ m. first_of m (parts_faults c (standing_type s) t.parts)) (mid-is ∙ ap (first_of old) (sym (outcome_faults t.place o) ∙ ap standing_faults o-is))
          ∙ sym (first_of_append old (standing_faults s) (parts_faults c (standing_type s) t.parts));
    }

-- ---- targets

pub targets_begin : (c : Context) (old : Option Fault) → JudgesTargets c [] old old []
unfolding first_of
targets_begin c old = record { are = refl; found = refl }

map_join : {A B : Type 0} (f : A → B) (xs : List A) (x : A) → map f (xs ++ x ∷ []) ≡ map f xs ++ f x ∷ []
map_join f [] x = refl
map_join f (y ∷ xs) x = ap (λ ys. f y ∷ ys) (map_join f xs x)

pub targets_more : (c : Context) (ts : List Target) (k : ℕ) (t d : Target) (old mid new : Option Fault) (us vs : List (Option Ty)) (u : Option Ty) →
    JudgesTargets c (take k ts) old mid us → k < length ts → t ≡ get_or ts k d → FindsOwn mid new u (target_own c t) → vs ≡ us ++ u ∷ [] → JudgesTargets c (take (k + 1) ts) old new vs
targets_more c ts k t d old mid new us vs u before within is one now =
    let noted : NotedUpTo (λ x. (target_own c x).faults) ts old (k + 1) new =
    noted_more (λ x. (target_own c x).faults) ts old k mid new t d (record { noted = before.found }) within is one.found in record {
      are =
          now ∙ (λ i. before.are i ++ one.type i ∷ [])
          ∙ sym (map_join (λ x. (target_own c x).type) (take k ts) t)
          ∙ sym (ap (target_types c) (take_turn ts k t d within is));
      found = noted.noted;
    }

-- ---- parts

pub part_field : (c : Context) (t : Option Ty) (place : Place) (i : Identifier) (p : TargetPart) (old new : Option Fault) (u : Option Ty) →
    p ≡ Field place i → Finds old new u (faults_in place (field_on t i.name)) (type_in (field_on t i.name)) → Finds old new u (part_faults c t p) (type_in (part_outcome c t p))
part_field c t place i p old new u p-is held = subst (λ q. Finds old new u (part_faults c t q) (type_in (part_outcome c t q))) (sym p-is) held

pub part_element : (c : Context) (t : Option Ty) (place : Place) (e : Expr) (p : TargetPart) (old new : Option Fault) (u : Option Ty) →
    p ≡ Element place e → Finds old new u ((judged e c).faults ++ faults_in place (element_on t (judged e c).type)) (type_in (element_on t (judged e c).type)) → Finds old new u (part_faults c t p) (type_in (part_outcome c t p))
part_element c t place e p old new u p-is held = subst (λ q. Finds old new u (part_faults c t q) (type_in (part_outcome c t q))) (sym p-is) held

pub element_of_parts : (c : Context) (t : Option Ty) (place : Place) (e : Expr) (x : Option Ty) (o : Outcome) (old mid new : Option Fault) (u : Option Ty) →
    Judges c e old mid x → o ≡ element_on t x → u ≡ type_in o → new ≡ first_of mid (faults_in place o) → Finds old new u ((judged e c).faults ++ faults_in place (element_on t (judged e c).type)) (type_in (element_on t (judged e c).type))
element_of_parts c t place e x o old mid new u index o-is type found =
    let last : o ≡ element_on t (judged e c).type = o-is ∙ ap (element_on t) index.type in record {
      type = type ∙ ap type_in last;
      found = noted_both old mid new (judged e c).faults (faults_in place (element_on t (judged e c).type)) index.found (found ∙ ap (λ w. first_of mid (faults_in place w)) last);
    }

pub field_of_part : (t : Option Ty) (place : Place) (x : ℕ) (o : Outcome) (old new : Option Fault) (u : Option Ty) → o ≡ field_on t x → u ≡ type_in o → new ≡ first_of old (faults_in place o) →
    Finds old new u (faults_in place (field_on t x)) (type_in (field_on t x))
field_of_part t place x o old new u o-is type found = record { type = type ∙ ap type_in o-is; found = found ∙ ap (λ w. first_of old (faults_in place w)) o-is }
