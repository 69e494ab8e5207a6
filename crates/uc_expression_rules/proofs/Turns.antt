-- The turns of loops over parts, arms and selections.
use Rattle.std.proofs.Common.{◌≡◌, ℕ, ◌+◌, ◌<◌, ◌≤◌, List, [], ◌∷◌, ◌++◌, length, map, take, drop, get_or, reverse, Option, Some, None, refl, ap, ◌∙◌, sym, subst, arith}
use Rattle.std.specs.List.{flat_map}
use Rattle.std.specs.Prelude.{Result, Ok, Err, IfOk}
use Rattle.uc_syntax.specs.declared.declaration.Module.{Module}
use Rattle.uc_read_names.specs.Reading.{standing_meant}
use Rattle.uc_read_names.specs.declared.standing.Standing.{Standing as Stood}
use Rattle.uc_read_names.specs.declared.standing.Standing.TheVariants.{Value as StoodValue, State as StoodState, Inside as StoodInside, Wrong as StoodWrong, Broken as StoodBroken}
use Rattle.std.proofs.lemmas.List.{drop_all, take_all}
use Rattle.std.proofs.lemmas.Grind.{reverse_onto}
use Rattle.uc_lexer.specs.declared.place.Place.{Place}
use Rattle.uc_syntax.specs.declared.place.Identifier.{Identifier}
use Rattle.uc_syntax.specs.declared.expression.Expr.{Expr}
use Rattle.uc_syntax.specs.declared.expression.Branch.{Branch}
use Rattle.uc_syntax.specs.declared.expression.Selection.{Selection}
use Rattle.uc_syntax.specs.declared.expression.Selection.TheVariants.{Field, Copy, Element, Update, Extract}
use Rattle.uc_values.specs.declared.ty.Ty.{Ty}
use Rattle.uc_rules.specs.declared.fault.Fault.{Fault}
use Rattle.uc_rules.specs.Faults.{first_of}
use Rattle.uc_rules.specs.Outcomes.{faults_in, type_in}
use Rattle.uc_rules.specs.Rows.{condition, element_on, extract_on, field_on, same_outcome, update_on}
use Rattle.uc_rules.specs.Expressions.{Context, Judged, Own, Part, Standing, ValueOf, StateOf, Inside, Wrong, Broken, branch_faults, faults_of, judged, kept_where, read, select, select_value, selection_inner, selections_faults, selections_type, standing_faults, standing_type, told, types_of}
use Rattle.uc_rules.proofs.Chains.{first_of_append}
use Rattle.uc_rules.proofs.Lists.{drop_turn, take_turn}
use Rattle.uc_expression_rules.specs.declared.branches.JudgedBranch.{JudgedBranch}
use Rattle.uc_expression_rules.specs.Parts.{branch_parts, selection_parts, selections_parts}
use Rattle.uc_expression_rules.specs.Judging.{Finds, FindsOutcome, FindsOwn, Judges, JudgesAll, JudgesBranches, JudgesSelection, Selects, behind, branch_judged, on_value, own_of_branch, own_with, parts_judged}

-- ---- parts

pub all_begin : (c : Context) (old : Option Fault) → JudgesAll c [] old old []
unfolding first_of
all_begin c old = record { types = refl; found = refl }

types_join : (js : List Judged) (j : Judged) → types_of (js ++ j ∷ []) ≡ types_of js ++ j.type ∷ []
types_join [] j = refl
types_join (k ∷ js) j = ap (λ ts. k.type ∷ ts) (types_join js j)

first_join : (old : Option Fault) (js : List Judged) (j : Judged) → first_of old (faults_of (js ++ j ∷ [])) ≡ first_of (first_of old (faults_of js)) j.faults
unfolding first_of
first_join old [] j = first_of_append old j.faults []
first_join old (k ∷ js) j =
    first_of_append old k.faults (faults_of (js ++ j ∷ []))
    ∙ first_join (first_of old k.faults) js j
    ∙ ap (λ o. first_of o j.faults) (sym (first_of_append old k.faults (faults_of js)))

map_join : {A B : Type 0} (f : A → B) (xs : List A) (x : A) → map f (xs ++ x ∷ []) ≡ map f xs ++ f x ∷ []
map_join f [] x = refl
map_join f (y ∷ xs) x = ap (λ ys. f y ∷ ys) (map_join f xs x)

all_join : (c : Context) (es : List Expr) (e : Expr) (old mid new : Option Fault) (ts : List (Option Ty)) (t : Option Ty) →
    JudgesAll c es old mid ts → Judges c e mid new t → JudgesAll c (es ++ e ∷ []) old new (ts ++ t ∷ [])
all_join c es e old mid new ts t parts one = record {
  types =
      ap (λ us. us ++ t ∷ []) parts.types ∙ ap (λ u. types_of (parts_judged c es) ++ u ∷ []) one.type
      ∙ sym (types_join (parts_judged c es) (judged e c))
      ∙ sym (ap types_of (map_join (λ x. judged x c) es e));
  found =
      one.found ∙ ap (λ o. first_of o (judged e c).faults) parts.found
      ∙ sym (first_join old (parts_judged c es) (judged e c))
      ∙ sym (ap (λ js. first_of old (faults_of js)) (map_join (λ x. judged x c) es e));
}

pub all_more : (c : Context) (es : List Expr) (k : ℕ) (e d : Expr) (old mid new : Option Fault) (ts us : List (Option Ty)) (t : Option Ty) →
    JudgesAll c (take k es) old mid ts → k < length es → e ≡ get_or es k d → Judges c e mid new t → us ≡ ts ++ t ∷ [] → JudgesAll c (take (k + 1) es) old new us
all_more c es k e d old mid new ts us t before within is one now =
    let whole = all_join c (take k es) e old mid new ts t before one in record {
      types = now ∙ whole.types ∙ sym (ap (λ xs. types_of (parts_judged c xs)) (take_turn es k e d within is));
      found = whole.found ∙ sym (ap (λ xs. first_of old (faults_of (parts_judged c xs))) (take_turn es k e d within is));
    }

-- the parts behind the first one
pub behind_none : (c : Context) (es : List Expr) (old : Option Fault) (ts : List (Option Ty)) → length es ≡ 0 → ts ≡ [] → JudgesAll c (behind es) old old ts
behind_none c [] old ts h is = subst (JudgesAll c [] old old) (sym is) (all_begin c old)
behind_none c (e ∷ es) old ts h is = absurd (omega (arith, h))

pub behind_all : (c : Context) (es : List Expr) (e : Expr) (rest : List Expr) (k : ℕ) (old new : Option Fault) (ts : List (Option Ty)) → es ≡ e ∷ rest → length rest ≤ k →
    JudgesAll c (take k rest) old new ts → JudgesAll c (behind es) old new ts
behind_all c es e rest k old new ts is past held = subst (λ xs. JudgesAll c xs old new ts) (take_all k rest past ∙ sym (ap behind is)) held

-- ---- arms of a conditional

pub branches_begin : (c : Context) (old : Option Fault) → JudgesBranches c [] old old []
unfolding first_of
branches_begin c old = record { parts = refl; found = refl }

branch_first : (c : Context) (old : Option Fault) (bs : List (Branch Expr)) (b : Branch Expr) →
    first_of old (branch_faults (map branch_parts (bs ++ b ∷ [])) c) ≡ first_of (first_of (first_of old (branch_faults (map branch_parts bs) c)) (judged b.condition c).faults) (judged b.value c).faults
unfolding first_of
branch_first c old [] b = first_of_append old ((judged b.condition c).faults ++ (judged b.value c).faults) [] ∙ first_of_append old (judged b.condition c).faults (judged b.value c).faults
branch_first c old (a ∷ bs) b =
    let own = (judged a.condition c).faults ++ (judged a.value c).faults in
    first_of_append old own (branch_faults (map branch_parts (bs ++ b ∷ [])) c)
    ∙ branch_first c (first_of old own) bs b
    ∙ ap (λ o. first_of (first_of o (judged b.condition c).faults) (judged b.value c).faults) (sym (first_of_append old own (branch_faults (map branch_parts bs) c)))

pub branches_more : (c : Context) (bs : List (Branch Expr)) (k : ℕ) (b d : Branch Expr) (old m0 m1 new : Option Fault) (js ks : List JudgedBranch) (j : JudgedBranch) →
    JudgesBranches c (take k bs) old m0 js → k < length bs → b ≡ get_or bs k d → j ≡ branch_judged c b → m1 ≡ first_of m0 (judged b.condition c).faults → new ≡ first_of m1 (judged b.value c).faults → ks ≡ js ++ j ∷ [] →
    JudgesBranches c (take (k + 1) bs) old new ks
branches_more c bs k b d old m0 m1 new js ks j before within is j-is first second now = record {
  parts =
      now ∙ (λ i. before.parts i ++ j-is i ∷ [])
      ∙ sym (map_join (branch_judged c) (take k bs) b)
      ∙ sym (ap (map (branch_judged c)) (take_turn bs k b d within is));
  found =
      second ∙ ap (λ o. first_of o (judged b.value c).faults) (first ∙ ap (λ o. first_of o (judged b.condition c).faults) before.found)
      ∙ sym (branch_first c old (take k bs) b)
      ∙ sym (ap (λ xs. first_of old (branch_faults (map branch_parts xs) c)) (take_turn bs k b d within is));
}

-- arms from the last one
pub own_from : List JudgedBranch → Own → Own
own_from [] o = o
own_from (b ∷ bs) o = own_from bs (own_of_branch b o)

from_join : (bs : List JudgedBranch) (b : JudgedBranch) (o : Own) → own_from (bs ++ b ∷ []) o ≡ own_of_branch b (own_from bs o)
unfolding own_from
from_join [] b o = refl
from_join (a ∷ bs) b o = from_join bs b (own_of_branch a o)

reverse_cons : {A : Type 0} (x : A) (xs : List A) → reverse (x ∷ xs) ≡ reverse xs ++ x ∷ []
reverse_cons x xs = reverse_onto xs x []

from_reverse : (bs : List JudgedBranch) (o : Own) → own_from (reverse bs) o ≡ own_with bs o
unfolding own_from own_with
from_reverse [] o = refl
from_reverse (b ∷ bs) o = ap (λ xs. own_from xs o) (reverse_cons b bs) ∙ from_join (reverse bs) b o ∙ ap (own_of_branch b) (from_reverse bs o)

-- The arms that are left, with what is found of those behind them, are found to be what all of them are.
pub record OwnFrom (bs : List JudgedBranch) (o : Own) (old : Option Fault) (left : List JudgedBranch) (t : Option Ty) (first : Option Fault) : Type 0 where
  pub rest : Own
  pub whole : own_from left rest ≡ own_with bs o
  pub finds : FindsOwn old first t rest

pub own_begin : (bs left : List JudgedBranch) (t : Option Ty) (old : Option Fault) → left ≡ reverse bs → OwnFrom bs (record { faults = []; type = t }) old left t old
unfolding first_of
own_begin bs left t old is = record {
  rest = record { faults = []; type = t };
  whole = ap (λ xs. own_from xs (record { faults = []; type = t })) is ∙ from_reverse bs (record { faults = []; type = t });
  finds = record { type = refl; found = refl };
}

pub own_more : (bs : List JudgedBranch) (o : Own) (old : Option Fault) (b : JudgedBranch) (left rest : List JudgedBranch) (t u : Option Ty) (first new : Option Fault) → OwnFrom bs o old left t first → left ≡ b ∷ rest →
    ((own : Own) → FindsOwn old first t own → FindsOwn old new u (own_of_branch b own)) → OwnFrom bs o old rest u new
unfolding own_from
own_more bs o old b left rest t u first new before is one = record {
  rest = own_of_branch b before.rest;
  whole = ap (λ xs. own_from xs before.rest) (sym is) ∙ before.whole;
  finds = one before.rest before.finds;
}

pub own_end : (bs : List JudgedBranch) (o : Own) (old : Option Fault) (left : List JudgedBranch) (t : Option Ty) (first : Option Fault) → OwnFrom bs o old left t first → left ≡ [] → FindsOwn old first t (own_with bs o)
unfolding own_from
own_end bs o old left t first before is = subst (λ w. FindsOwn old first t w) (ap (λ xs. own_from xs before.rest) (sym is) ∙ before.whole) before.finds

none_left : {A : Type 0} (xs : List A) (n : ℕ) → n ≡ length xs → n ≡ 0 → xs ≡ []
none_left [] n e h = refl
none_left (x ∷ xs) n e h = absurd (omega (arith, e, h))

pub own_done : (bs : List JudgedBranch) (o : Own) (old : Option Fault) (left : List JudgedBranch) (t : Option Ty) (first : Option Fault) (n : ℕ) → OwnFrom bs o old left t first → n ≡ length left → n ≡ 0 → FindsOwn old first t (own_with bs o)
own_done bs o old left t first n before size none = own_end bs o old left t first before (none_left left n size none)

-- ---- selections

-- Before turn k of a loop over selections, the rest from this standing on gives what the whole gives.
pub record SelectsFrom (c : Context) (begin : Place) (start : Standing) (ss : List (Selection Expr)) (old : Option Fault) (k : ℕ) (before : Standing) (first : Option Fault) : Type 0 where
  pub type : selections_type c begin before (selections_parts (drop k ss)) ≡ selections_type c begin start (selections_parts ss)
  pub found : first_of first (selections_faults c begin before (selections_parts (drop k ss))) ≡ first_of old (selections_faults c begin start (selections_parts ss))

module _ (c : Context) (begin : Place) (start : Standing) (ss : List (Selection Expr)) (old : Option Fault) where
  pub selects_begin : SelectsFrom c begin start ss old 0 start old
  selects_begin = record { type = refl; found = refl }

  turn_type : (before : Standing) (s : Selection Part) (rest : List (Selection Part)) → selections_type c begin before (s ∷ rest) ≡ selections_type c begin (told (select c begin before s)) rest
  unfolding selections_type
  turn_type before s rest = refl

  turn_faults : (first : Option Fault) (before : Standing) (s : Selection Part) (rest : List (Selection Part)) →
      first_of first (selections_faults c begin before (s ∷ rest))
      ≡ first_of (first_of (first_of first (selection_inner c s)) (standing_faults (select c begin before s))) (selections_faults c begin (told (select c begin before s)) rest)
  unfolding selections_faults
  turn_faults first before s rest =
      first_of_append first (selection_inner c s ++ standing_faults (select c begin before s)) (selections_faults c begin (told (select c begin before s)) rest)
      ∙ ap (λ o. first_of o (selections_faults c begin (told (select c begin before s)) rest)) (first_of_append first (selection_inner c s) (standing_faults (select c begin before s)))

  -- a turn: the faults of the parts, and then that of the selection
  pub selects_more : (k : ℕ) (before after : Standing) (first mid first' : Option Fault) (s d : Selection Expr) (p : Selection Part) →
      SelectsFrom c begin start ss old k before first → k < length ss → s ≡ get_or ss k d → selection_parts s ≡ p →
      mid ≡ first_of first (selection_inner c p) → Selects c begin before p mid first' after →
      SelectsFrom c begin start ss old (k + 1) after first'
  selects_more k before after first mid first' s d p held within is p-is mid-is selected =
      let here = ap selections_parts (drop_turn ss k s d within is) ∙ ap (λ x. x ∷ selections_parts (drop (k + 1) ss)) p-is in
      let after2 = selected.told_after in record {
        type =
            ap (λ u. selections_type c begin u (selections_parts (drop (k + 1) ss))) after2
            ∙ sym (turn_type before p (selections_parts (drop (k + 1) ss)))
            ∙ sym (ap (selections_type c begin before) here)
            ∙ held.type;
        found =
            ap (λ u. first_of first' (selections_faults c begin u (selections_parts (drop (k + 1) ss)))) after2
            ∙ ap (λ o. first_of o (selections_faults c begin (told (select c begin before p)) (selections_parts (drop (k + 1) ss)))) (selected.found ∙ ap (λ o. first_of o (standing_faults (select c begin before p))) mid-is)
            ∙ sym (turn_faults first before p (selections_parts (drop (k + 1) ss)))
            ∙ sym (ap (λ xs. first_of first (selections_faults c begin before xs)) here)
            ∙ held.found;
      }

  pub selects_end : (k : ℕ) (before now : Standing) (first first' : Option Fault) (t : Option Ty) → SelectsFrom c begin start ss old k before first → length ss ≤ k →
      now ≡ read c begin before → first' ≡ first_of first (standing_faults now) → t ≡ standing_type now →
      Finds old first' t (selections_faults c begin start (selections_parts ss)) (selections_type c begin start (selections_parts ss))
  unfolding selections_type selections_faults
  selects_end k before now first first' t held past now-is first-is t-is = record {
    type = t-is ∙ ap standing_type now-is ∙ sym (ap (λ xs. selections_type c begin before (selections_parts xs)) (drop_all k ss past)) ∙ held.type;
    found = first-is ∙ ap (λ w. first_of first (standing_faults w)) now-is ∙ sym (ap (λ xs. first_of first (selections_faults c begin before (selections_parts xs))) (drop_all k ss past)) ∙ held.found;
  }

-- selections that read what stands before them
module _ (c : Context) (begin place : Place) where
  pub element_selected : (before : Standing) (i : Part) → on_value place (λ t. element_on t (i c).type) (read c begin before) ≡ select c begin before (Element place i)
  element_selected (ValueOf t) i = refl
  element_selected (StateOf t) i = state (read c begin (StateOf t))
    where
      state : (s : Standing) → on_value place (λ u. element_on u (i c).type) s ≡ select_value c s (Element place i)
      state (ValueOf u) = refl
      state (StateOf u) = refl
      state (Inside q m) = refl
      state (Wrong f) = refl
      state Broken = refl
  element_selected (Inside q m) i = refl
  element_selected (Wrong f) i = refl
  element_selected Broken i = refl

  pub update_selected : (before : Standing) (i v : Part) → on_value place (λ t. update_on t (i c).type (v c).type) (read c begin before) ≡ select c begin before (Update place i v)
  update_selected (ValueOf t) i v = refl
  update_selected (StateOf t) i v = state (read c begin (StateOf t))
    where
      state : (s : Standing) → on_value place (λ u. update_on u (i c).type (v c).type) s ≡ select_value c s (Update place i v)
      state (ValueOf u) = refl
      state (StateOf u) = refl
      state (Inside q m) = refl
      state (Wrong f) = refl
      state Broken = refl
  update_selected (Inside q m) i v = refl
  update_selected (Wrong f) i v = refl
  update_selected Broken i v = refl

  pub extract_selected : (before : Standing) (hi lo : ℕ) → on_value place (λ t. extract_on t hi lo) (read c begin before) ≡ select c begin before (Extract place hi lo)
  extract_selected (ValueOf t) hi lo = refl
  extract_selected (StateOf t) hi lo = state (read c begin (StateOf t))
    where
      state : (s : Standing) → on_value place (λ u. extract_on u hi lo) s ≡ select_value c s (Extract place hi lo)
      state (ValueOf u) = refl
      state (StateOf u) = refl
      state (Inside q m) = refl
      state (Wrong f) = refl
      state Broken = refl
  extract_selected (Inside q m) hi lo = refl
  extract_selected (Wrong f) hi lo = refl
  extract_selected Broken hi lo = refl

  field_selected : (ms : List Module) (before : Stood) (i : Identifier) → ((p : Place) (home : ℕ) → before ≡ StoodInside p home → ⊥) →
      on_value place (λ t. field_on t i.name) (read c begin (standing_meant ms before)) ≡ select c begin (standing_meant ms before) (Field place i)
  field_selected ms (StoodValue t) i never = refl
  field_selected ms (StoodState t) i never = state (read c begin (StateOf t))
    where
      state : (s : Standing) → on_value place (λ u. field_on u i.name) s ≡ select_value c s (Field place i)
      state (ValueOf u) = refl
      state (StateOf u) = refl
      state (Inside q m) = refl
      state (Wrong f) = refl
      state Broken = refl
  field_selected ms (StoodInside p home) i never = absurd (never p home refl)
  field_selected ms (StoodWrong f) i never = refl
  field_selected ms StoodBroken i never = refl

  -- a field of what is no instance
  pub field_there : {E : Type 0} (ms : List Module) (before : Stood) (i : Identifier) (now : Standing) (result : Result Stood E) →
      ((p : Place) (home : ℕ) → before ≡ StoodInside p home → ⊥) → now ≡ read c begin (standing_meant ms before) →
      IfOk result (λ s. standing_meant ms s ≡ on_value place (λ t. field_on t i.name) now) →
      IfOk result (λ s. standing_meant ms s ≡ select c begin (standing_meant ms before) (Field place i))
  field_there ms before i now result never now-is held =
      subst (λ w. IfOk result (λ s. standing_meant ms s ≡ w)) (ap (on_value place (λ t. field_on t i.name)) now-is ∙ field_selected ms before i never) held

-- what is selected, by the outcome on the value that is read
pub selects_of : (c : Context) (begin : Place) (before now after : Standing) (p : Selection Part) (old new : Option Fault) → now ≡ select c begin before p → after ≡ told now → new ≡ first_of old (standing_faults now) → Selects c begin before p old new after
selects_of c begin before now after p old new now-is after-is found = record {
  told_after = after-is ∙ ap told now-is;
  found = found ∙ ap (λ w. first_of old (standing_faults w)) now-is;
}

told_type : (s : Standing) → standing_type (told s) ≡ standing_type s
told_type (ValueOf t) = refl
told_type (StateOf t) = refl
told_type (Inside p m) = refl
told_type (Wrong f) = refl
told_type Broken = refl

pub type_told : (s after : Standing) (t : Option Ty) → t ≡ standing_type after → after ≡ told s → t ≡ standing_type s
type_told s after t t-is is = t-is ∙ ap standing_type is ∙ told_type s

-- a selection, by its parts
pub selection_found : {c : Context} {begin : Place} {before after : Standing} {s d : Selection Expr} {mid new : Option Fault} (old : Option Fault) → s ≡ d →
    mid ≡ first_of old (selection_inner c (selection_parts d)) → Selects c begin before (selection_parts d) mid new after → JudgesSelection c begin before s old new after
selection_found {c} {begin} {before} {after} {s} {d} {mid} {new} old is mid-is held =
    subst (λ x. JudgesSelection c begin before x old new after) (sym is) (subst (λ m. Selects c begin before (selection_parts d) m new after) mid-is held)

pub if_ok : {A E : Type 0} {P Q : A → Type 0} (r : Result A E) → ((a : A) → P a → Q a) → IfOk r P → IfOk r Q
if_ok (Ok a) more held = more a held
if_ok (Err e) more held = held
