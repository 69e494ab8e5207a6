-- What is found of a whole, by what is found of its parts.
use Rattle.std.specs.Prelude.{◌&&◌, if◌then◌else◌}
use Rattle.std.specs.Option.{is_some}
use Rattle.uc_syntax.specs.declared.expression.BitFunction.{BitFunction}
use Rattle.std.proofs.Common.{◌≡◌, ℕ, Bool, true, false, List, [], ◌∷◌, ◌++◌, length, arith, map, Option, Some, None, reverse, refl, ap, ◌∙◌, sym, subst, append_assoc}
use Rattle.uc_lexer.specs.declared.place.Place.{Place}
use Rattle.uc_syntax.specs.declared.expression.Expr.{Expr}
use Rattle.uc_syntax.specs.declared.expression.Branch.{Branch}
use Rattle.uc_syntax.specs.declared.expression.Comparison.{Comparison}
use Rattle.uc_syntax.specs.declared.expression.UnaryOperator.{UnaryOperator}
use Rattle.uc_syntax.specs.declared.expression.Primary.{Primary}
use Rattle.uc_syntax.specs.declared.expression.Selection.{Selection}
use Rattle.uc_syntax.specs.declared.expression.Expr.TheViews.{If, Compare, Unary, Selected}
use Rattle.uc_values.specs.declared.ty.Ty.{Ty}
use Rattle.uc_rules.specs.declared.fault.Fault.{Fault}
use Rattle.uc_rules.specs.declared.outcome.Outcome.{Outcome}
use Rattle.uc_rules.specs.declared.outcome.Outcome.TheVariants.{Breaks}
use Rattle.uc_rules.specs.declared.rule.Rule.TheVariants.{WrongType}
use Rattle.uc_rules.specs.declared.rows.Chain.{Chain}
use Rattle.uc_rules.specs.declared.rows.Chain.TheVariants.{Boolean}
use Rattle.uc_rules.specs.Faults.{first_of}
use Rattle.uc_rules.specs.Outcomes.{faults_in, type_in}
use Rattle.uc_rules.specs.Rows.{comparison, condition, same_outcome, unary}
use Rattle.uc_rules.specs.Expressions.{Context, Judged, Own, Standing, branch_faults, branches, chained, condition_faults, faults_of, is_extension, judged, judged_all, number_faults, on_bits_inner, on_bits_outcome, primary_inner, primary_standing, product_own, selections_faults, selections_type, standing_faults, told, types_of}
use Rattle.uc_rules.proofs.Chains.{first_of_append}
use Rattle.uc_expression_rules.specs.declared.branches.JudgedBranch.{JudgedBranch}
use Rattle.uc_expression_rules.specs.Parts.{branch_parts, primary_parts, selections_parts}
use Rattle.uc_expression_rules.specs.Judging.{Finds, FindsOutcome, FindsOwn, Judges, JudgesAll, JudgesBranches, JudgesChain, JudgesFromRight, JudgesOnBits, JudgesPrimary, JudgesProduct, JudgesSelections, JudgesTold, behind, bits_outcome, branch_judged, own_of_branch, own_with, parts_judged}
use Rattle.uc_expression_rules.proofs.Forms.{all_parts, judged_compare, judged_if, judged_unary}
use Rattle.uc_expression_rules.proofs.Selected.{judged_selected}

-- faults of the parts, and then of the form itself
pub finds_inner : (old mid new : Option Fault) (t u : Option Ty) (inner fs : List Fault) → mid ≡ first_of old inner → Finds mid new t fs u → Finds old new t (inner ++ fs) u
finds_inner old mid new t u inner fs is f = record {
  type = f.type;
  found = f.found ∙ ap (λ o. first_of o fs) is ∙ sym (first_of_append old inner fs);
}

pub none_of : (o : Option Fault) → o ≡ first_of o []
unfolding first_of
none_of o = refl

-- what the code notes of an outcome
pub settles : {old new : Option Fault} {t : Option Ty} {outcome meant : Outcome} (place : Place) →
    t ≡ type_in outcome → new ≡ first_of old (faults_in place outcome) → outcome ≡ meant → FindsOutcome old new t place meant
settles {old} {new} {t} {outcome} {meant} place type found is = record {
  type = type ∙ ap type_in is;
  found = found ∙ ap (λ o. first_of old (faults_in place o)) is;
}

pub chain_of_parts : (c : Context) (chain : Chain) (es es' : List Expr) (ms ms' : List Place) (old mid new : Option Fault) (ts : List (Option Ty)) (t : Option Ty) →
    JudgesAll c es' old mid ts → es' ≡ es → FindsOwn mid new t (chained chain ms' ts) → ms' ≡ ms → JudgesChain c chain es ms old new t
chain_of_parts c chain es es' ms ms' old mid new ts t parts es-is o ms-is =
    subst (λ xs. JudgesChain c chain xs ms old new t) es-is
    (subst (λ ys. JudgesChain c chain es' ys old new t) ms-is
    (finds_inner old mid new t _ (faults_of (parts_judged c es')) _ parts.found (subst (λ us. FindsOwn mid new t (chained chain ms' us)) parts.types o)))

pub right_of_parts : (c : Context) (es es' : List Expr) (ms ms' : List Place) (old mid new : Option Fault) (ts us : List (Option Ty)) (t : Option Ty) →
    JudgesAll c es' old mid ts → es' ≡ es → us ≡ reverse ts → FindsOwn mid new t (chained Boolean ms' us) → ms' ≡ reverse ms → JudgesFromRight c es ms old new t
right_of_parts c es es' ms ms' old mid new ts us t parts es-is us-is o ms-is =
    subst (λ xs. JudgesFromRight c xs ms old new t) es-is
    (finds_inner old mid new t _ (faults_of (parts_judged c es')) _ parts.found
    (subst (λ ys. FindsOwn mid new t (chained Boolean ys (reverse (types_of (parts_judged c es'))))) ms-is
    (subst (λ xs. FindsOwn mid new t (chained Boolean ms' xs)) (us-is ∙ ap reverse parts.types) o)))

pub product_of_parts : (c : Context) (es es' es'' : List Expr) (ms ms' : List Place) (ps : List Bool) (old mid new : Option Fault) (ts : List (Option Ty)) (t : Option Ty) →
    JudgesAll c es' old mid ts → es' ≡ es → ps ≡ map (λ e. (judged e c).plain) es'' → es'' ≡ es → FindsOwn mid new t (product_own ms' ts ps) → ms' ≡ ms → JudgesProduct c es ms old new t
product_of_parts c es es' es'' ms ms' ps old mid new ts t parts es-is plain-is es2-is o ms-is =
    subst (λ ys. JudgesProduct c es ys old new t) ms-is
    (finds_inner old mid new t _ (faults_of (parts_judged c es)) _ (parts.found ∙ ap (λ xs. first_of old (faults_of (parts_judged c xs))) es-is)
    (subst (λ us. FindsOwn mid new t (product_own ms' us (map (λ e. (judged e c).plain) es))) (parts.types ∙ ap (λ xs. types_of (parts_judged c xs)) es-is)
    (subst (λ qs. FindsOwn mid new t (product_own ms' ts qs)) (plain-is ∙ ap (map (λ e. (judged e c).plain)) es2-is) o)))

pub unary_of_part : (c : Context) (place : Place) (operator : UnaryOperator) (e x : Expr) (old mid new : Option Fault) (t u : Option Ty) → x ≡ e →
    Judges c x old mid t → FindsOutcome mid new u place (unary operator t) → Judges c (Unary place operator e) old new u
unary_of_part c place operator e x old mid new t u is part o =
    subst (λ y. Judges c (Unary place operator y) old new u) is
    (subst (λ j. Finds old new u j.faults j.type) (sym (judged_unary c place operator x))
    (finds_inner old mid new u _ (judged x c).faults _ part.found (subst (λ v. FindsOutcome mid new u place (unary operator v)) part.type o)))

pub comparison_of_parts : (c : Context) (place mark : Place) (how : Comparison) (a b x y : Expr) (old m1 m2 new : Option Fault) (t u v : Option Ty) → x ≡ a → y ≡ b →
    Judges c x old m1 t → Judges c y m1 m2 u → FindsOutcome m2 new v mark (comparison how t u) → Judges c (Compare place how mark a b) old new v
comparison_of_parts c place mark how a b x y old m1 m2 new t u v x-is y-is first second o =
    subst (λ p. Judges c (Compare place how mark p b) old new v) x-is
    (subst (λ p. Judges c (Compare place how mark x p) old new v) y-is
    (subst (λ j. Finds old new v j.faults j.type) (sym (judged_compare c place how mark x y))
    (finds_inner old m2 new v _ ((judged x c).faults ++ (judged y c).faults) _
    (second.found ∙ ap (λ o. first_of o (judged y c).faults) first.found ∙ sym (first_of_append old (judged x c).faults (judged y c).faults))
    (subst (λ p. FindsOutcome m2 new v mark (comparison how p (judged y c).type)) first.type (subst (λ p. FindsOutcome m2 new v mark (comparison how t p)) second.type o)))))

branches_with : (c : Context) (bs : List (Branch Expr)) (j : Judged) → own_with (map (branch_judged c) bs) (record { faults = []; type = j.type }) ≡ branches (map branch_parts bs) j c
unfolding own_with
branches_with c [] j = refl
branches_with c (b ∷ bs) j = ap (own_of_branch (branch_judged c b)) (branches_with c bs j)

pub if_of_parts : (c : Context) (place : Place) (bs bs' : List (Branch Expr)) (e x : Expr) (js : List JudgedBranch) (old m1 m2 new : Option Fault) (t u : Option Ty) → bs' ≡ bs → x ≡ e →
    JudgesBranches c bs' old m1 js → Judges c x m1 m2 t → FindsOwn m2 new u (own_with js (record { faults = []; type = t })) → Judges c (If place bs e) old new u
if_of_parts c place bs bs' e x js old m1 m2 new t u bs-is x-is first second o =
    subst (λ p. Judges c (If place p e) old new u) bs-is
    (subst (λ p. Judges c (If place bs' p) old new u) x-is
    (subst (λ j. Finds old new u j.faults j.type) (sym (judged_if c place bs' x))
    (finds_inner old m2 new u _ (branch_faults (map branch_parts bs') c ++ (judged x c).faults) _
    (second.found ∙ ap (λ o. first_of o (judged x c).faults) first.found ∙ sym (first_of_append old (branch_faults (map branch_parts bs') c) (judged x c).faults))
    (subst (λ w. FindsOwn m2 new u w) (branches_with c bs' (judged x c))
    (subst (λ ks. FindsOwn m2 new u (own_with ks (record { faults = []; type = (judged x c).type }))) first.parts
    (subst (λ p. FindsOwn m2 new u (own_with js (record { faults = []; type = p }))) second.type o))))))

-- what a primary stands for, by its parts
pub primary_found : {c : Context} {begin : Place} {p q : Primary Expr} {old new : Option Fault} {before : Standing} → p ≡ q →
    before ≡ primary_standing c begin (primary_parts q) → new ≡ first_of old (primary_inner c (primary_parts q)) → JudgesPrimary c begin p old new before
primary_found {c} {begin} {p} {q} {old} {new} {before} is stands found = subst (λ x. JudgesPrimary c begin x old new before) (sym is) (record { stands = stands; found = found })

-- the faults of a primary's parts, of the primary, and then of its selections
pub selected_of_parts : (c : Context) (place : Place) (primary : Primary Expr) (ss : List (Selection Expr)) (before : Standing) (old mid new : Option Fault) (t : Option Ty) →
    mid ≡ first_of old (primary_inner c (primary_parts primary)) → before ≡ primary_standing c place (primary_parts primary) → JudgesTold c place before ss mid new t → Judges c (Selected place primary ss) old new t
selected_of_parts c place primary ss before old mid new t inner before-is rest =
    let at = primary_standing c place (primary_parts primary) in
    let more = selections_faults c place (told at) (selections_parts ss) in
    let moved = finds_inner old mid new t _ (primary_inner c (primary_parts primary)) _ inner (subst (λ b. JudgesTold c place b ss mid new t) before-is rest) in
    subst (λ j. Finds old new t j.faults j.type) (sym (judged_selected place c primary ss)) (record {
      type = moved.type;
      found = moved.found ∙ ap (first_of old) (sym (append_assoc (primary_inner c (primary_parts primary)) (standing_faults at) more));
    })

-- what stands before selections is told, and then they follow
pub selected_told : (c : Context) (begin : Place) (before after : Standing) (ss ss' : List (Selection Expr)) (old mid new : Option Fault) (t : Option Ty) →
    mid ≡ first_of old (standing_faults before) → after ≡ told before → ss' ≡ ss → JudgesSelections c begin after ss' mid new t → JudgesTold c begin before ss old new t
selected_told c begin before after ss ss' old mid new t mid-is after-is ss-is rest =
    finds_inner old mid new t _ (standing_faults before) _ mid-is (subst (λ b. JudgesSelections c begin b ss mid new t) after-is (subst (λ xs. JudgesSelections c begin after xs mid new t) ss-is rest))

-- a condition, where it stands
pub condition_noted : (c : Context) (e : Expr) (old mid new : Option Fault) (t : Option Ty) (place : Place) (o : Outcome) →
    Judges c e old mid t → place ≡ (judged e c).place → o ≡ condition t → new ≡ first_of mid (faults_in place o) → new ≡ first_of old (condition_faults c e)
condition_noted c e old mid new t place o one place-is o-is found =
    found
    ∙ ap (λ w. first_of mid (faults_in place w)) (o-is ∙ ap condition one.type)
    ∙ ap (λ p. first_of mid (faults_in p (condition (judged e c).type))) place-is
    ∙ ap (λ m. first_of m (faults_in (judged e c).place (condition (judged e c).type))) one.found
    ∙ sym (first_of_append old (judged e c).faults (faults_in (judged e c).place (condition (judged e c).type)))

-- ---- functions on bits

bits_same : (f : BitFunction) (j : Judged) (js : List Judged) → bits_outcome f j.number (j.type ∷ types_of js) ≡ on_bits_outcome f (j ∷ js)
bits_same f j [] = refl
bits_same f j (k ∷ []) = refl
bits_same f j (k ∷ (l ∷ js)) = refl

module _ (c : Context) (f : BitFunction) (amount : Expr) (rest es : List Expr) (number : Option ℕ) (t : Option Ty) (us : List (Option Ty)) (same : es ≡ amount ∷ rest) (number-is : number ≡ (judged amount c).number) where
  abbrev parts : List Judged
  parts = judged_all (map judged es) c

  parts_are : parts ≡ judged amount c ∷ parts_judged c rest
  parts_are = ap (λ xs. judged_all (map judged xs) c) same ∙ ap (λ js. judged amount c ∷ js) (all_parts c rest)

  pub bits_found : t ≡ (judged amount c).type → us ≡ types_of (parts_judged c rest) → bits_outcome f number (t ∷ us) ≡ on_bits_outcome f parts
  bits_found t-is us-is = (λ k. bits_outcome f (number-is k) (t-is k ∷ us-is k)) ∙ bits_same f (judged amount c) (parts_judged c rest) ∙ sym (ap (on_bits_outcome f) parts_are)

  number_kept : (b : Bool) → (is_extension f && is_some number) ≡ b → number_faults (is_extension f) (judged amount c) ≡ (if b then [] else (judged amount c).faults)
  number_kept b is = ap (λ (q : Bool). if q then [] else (judged amount c).faults) (ap (λ n. is_extension f && is_some n) (sym number-is) ∙ is)

  pub number_alone : (old new : Option Fault) → (is_extension f && is_some number) ≡ true → new ≡ first_of old (faults_of (parts_judged c rest)) → new ≡ first_of old (on_bits_inner f parts)
  number_alone old new is found = found ∙ sym (ap (λ fs. first_of old (fs ++ faults_of (parts_judged c rest))) (number_kept true is)) ∙ sym (ap (λ js. first_of old (on_bits_inner f js)) parts_are)

  pub amount_too : (old mid new : Option Fault) → (is_extension f && is_some number) ≡ false → mid ≡ first_of old (judged amount c).faults → new ≡ first_of mid (faults_of (parts_judged c rest)) → new ≡ first_of old (on_bits_inner f parts)
  amount_too old mid new is first found =
      found ∙ ap (λ o. first_of o (faults_of (parts_judged c rest))) first ∙ sym (first_of_append old (judged amount c).faults (faults_of (parts_judged c rest)))
      ∙ sym (ap (λ fs. first_of old (fs ++ faults_of (parts_judged c rest))) (number_kept false is)) ∙ sym (ap (λ js. first_of old (on_bits_inner f js)) parts_are)

pub on_bits_none : (c : Context) (f : BitFunction) (es : List Expr) (old : Option Fault) → length es ≡ 0 → JudgesOnBits c f es old old (Breaks WrongType)
unfolding first_of
on_bits_none c f [] old h = record { outcome = refl; found = refl }
on_bits_none c f (e ∷ es) old h = absurd (omega (arith, h))

pub on_bits_alone : (c : Context) (f : BitFunction) (es : List Expr) (amount : Expr) (rest : List Expr) (number : Option ℕ) (t : Option Ty) (us vs : List (Option Ty)) (old new : Option Fault) (o : Outcome) →
    es ≡ amount ∷ rest → number ≡ (judged amount c).number → (is_extension f && is_some number) ≡ true → t ≡ (judged amount c).type → JudgesAll c (behind es) old new us → vs ≡ us →
    o ≡ bits_outcome f number (t ∷ vs) → JudgesOnBits c f es old new o
on_bits_alone c f es amount rest number t us vs old new o same number-is is t-is others vs-is o-is =
    let held = subst (λ xs. JudgesAll c xs old new us) (ap behind same) others in record {
      outcome = o-is ∙ ap (λ ws. bits_outcome f number (t ∷ ws)) vs-is ∙ bits_found c f amount rest es number t us same number-is t-is held.types;
      found = number_alone c f amount rest es number t us same number-is old new is held.found;
    }

pub on_bits_noted : (c : Context) (f : BitFunction) (es : List Expr) (amount : Expr) (rest : List Expr) (number : Option ℕ) (t : Option Ty) (us vs : List (Option Ty)) (old mid new : Option Fault) (o : Outcome) →
    es ≡ amount ∷ rest → number ≡ (judged amount c).number → (is_extension f && is_some number) ≡ false → Judges c amount old mid t → JudgesAll c (behind es) mid new us → vs ≡ us →
    o ≡ bits_outcome f number (t ∷ vs) → JudgesOnBits c f es old new o
on_bits_noted c f es amount rest number t us vs old mid new o same number-is is one others vs-is o-is =
    let held = subst (λ xs. JudgesAll c xs mid new us) (ap behind same) others in record {
      outcome = o-is ∙ ap (λ ws. bits_outcome f number (t ∷ ws)) vs-is ∙ bits_found c f amount rest es number t us same number-is one.type held.types;
      found = amount_too c f amount rest es number t us same number-is old mid new is one.found held.found;
    }
