-- Chains of operators, step by step from the left.
use Rattle.std.proofs.Common.{◌≡◌, ℕ, zero, suc, ◌+◌, ◌-◌, ◌<◌, ◌≤◌, List, [], ◌∷◌, ◌++◌, length, drop, get_or, add-one, drop-cons, length-drop, min, Option, Some, None, Bool, true, false, not, ◌||◌, refl, ap, ◌∙◌, sym, subst, arith, All}
use Rattle.std.specs.Prelude.{if◌then◌else◌, Result, Ok, Err}
use Rattle.std.specs.Option.{option_or}
use Rattle.std.proofs.lemmas.List.{drop_all}
use Rattle.std.proofs.lemmas.List.Folds.{find-append}
use Rattle.uc_syntax.specs.declared.expression.SumSign.{SumSign}
use Rattle.uc_values.specs.declared.value.Value.{Value}
use Rattle.uc_values.specs.Values.{width_in, bits_of}
use Rattle.uc_values.specs.Operators.{bv_concat}
use Rattle.uc_values.proofs.Words.{concatenated-small}
use Rattle.uc_meaning.specs.declared.overflow.Wide.{Wide}
use Rattle.uc_meaning.specs.declared.overflow.WideOp.TheVariants.{Add, Sub, Mul}
use Rattle.uc_meaning.specs.Operators.{holds, implied, chained_from, chained, plus, minus, product, summed_from, concatenated}
use Rattle.uc_meaning.specs.Overflow.{operation, sum_operations, product_operations, is_wide}
use Rattle.uc_operators.specs.declared.error.EvalError.{EvalError}
use Rattle.uc_operators.specs.declared.error.EvalError.TheVariants.{NoMemory, Wide as TooWide}
use Rattle.uc_operators.specs.Words.{IsWord, total_width, signed_sum, sum_operation}
use Rattle.uc_operators.specs.Overflows.{first_wide, TellsWide}

-- a list from a place on is its element there and the rest
split : {A : Type 0} (xs : List A) (k : ℕ) (x d : A) → k < length xs → x ≡ get_or xs k d → drop k xs ≡ x ∷ drop (k + 1) xs
split xs k x d within is =
    drop-cons xs k d within ∙ (ap (λ y. y ∷ drop (suc k) xs) (sym is) ∙ ap (λ n. x ∷ drop n xs) (sym (add-one k)))

pub chained_more : (f : Value → Value → Value) (vs : List Value) (k : ℕ) (t next v d r : Value) → k < length vs → v ≡ get_or vs k d → next ≡ f t v →
    chained_from f t (drop k vs) ≡ r → chained_from f next (drop (k + 1) vs) ≡ r
unfolding chained_from
chained_more f vs k t next v d r within is e before =
    ap (λ x. chained_from f x (drop (k + 1) vs)) e ∙ (sym (ap (chained_from f t) (split vs k v d within is)) ∙ before)

pub chained_end : (f : Value → Value → Value) (vs : List Value) (k : ℕ) (t r : Value) → length vs ≤ k → chained_from f t (drop k vs) ≡ r → t ≡ r
unfolding chained_from
chained_end f vs k t r past before = sym (ap (chained_from f t) (drop_all k vs past)) ∙ before

-- the first wide operation of two lists
none_before : (xs ys : List Wide) → first_wide xs ≡ None → first_wide (xs ++ ys) ≡ first_wide ys
none_before xs ys none = find-append is_wide xs ys ∙ ap (λ o. option_or o (first_wide ys)) none

some_before : (xs ys : List Wide) (w : Wide) → first_wide xs ≡ Some w → first_wide (xs ++ ys) ≡ Some w
some_before xs ys w some = find-append is_wide xs ys ∙ ap (λ o. option_or o (first_wide ys)) some

pub told_before : (xs ys : List Wide) (e : EvalError) → TellsWide {A = Value} (first_wide xs) (Err e) → TellsWide {A = Value} (first_wide (xs ++ ys)) (Err e)
told_before xs ys NoMemory told = tt
told_before xs ys (TooWide w) told = some_before xs ys w told

product_split : (vs : List Value) (k : ℕ) (t v d : Value) → k < length vs → v ≡ get_or vs k d →
    product_operations t (drop k vs) ≡ operation Mul t v ++ product_operations (product t v) (drop (k + 1) vs)
unfolding product_operations
product_split vs k t v d within is = ap (product_operations t) (split vs k v d within is)

pub product_more : (vs : List Value) (k : ℕ) (t next v d : Value) (r : Option Wide) → k < length vs → v ≡ get_or vs k d → next ≡ product t v →
    first_wide (operation Mul t v) ≡ None → first_wide (product_operations t (drop k vs)) ≡ r → first_wide (product_operations next (drop (k + 1) vs)) ≡ r
product_more vs k t next v d r within is e none before =
    ap (λ x. first_wide (product_operations x (drop (k + 1) vs))) e
    ∙ (sym (ap first_wide (product_split vs k t v d within is) ∙ none_before (operation Mul t v) (product_operations (product t v) (drop (k + 1) vs)) none) ∙ before)

pub product_told : (vs : List Value) (k : ℕ) (t v d : Value) (r : Option Wide) (e : EvalError) → k < length vs → v ≡ get_or vs k d →
    first_wide (product_operations t (drop k vs)) ≡ r → TellsWide {A = Value} (first_wide (operation Mul t v)) (Err e) → TellsWide {A = Value} r (Err e)
product_told vs k t v d r e within is before told =
    subst (λ o. TellsWide {A = Value} o (Err e)) (sym (ap first_wide (product_split vs k t v d within is)) ∙ before)
    (told_before (operation Mul t v) (product_operations (product t v) (drop (k + 1) vs)) e told)

pub product_end : (vs : List Value) (k : ℕ) (t : Value) (r : Option Wide) → length vs ≤ k → first_wide (product_operations t (drop k vs)) ≡ r → r ≡ None
unfolding product_operations
product_end vs k t r past before = sym before ∙ ap (λ xs. first_wide (product_operations t xs)) (drop_all k vs past)

-- one step of a sum
pub summed_more : (ss : List SumSign) (vs : List Value) (k : ℕ) (t next v d r : Value) (m : Bool) (z : SumSign) → k < length ss → k + 1 < length vs → m ≡ (get_or ss k z).is_minus →
    v ≡ get_or vs (k + 1) d → next ≡ signed_sum m t v → summed_from t (drop k ss) (drop (k + 1) vs) ≡ r → summed_from next (drop (k + 1) ss) (drop (k + 1 + 1) vs) ≡ r
unfolding summed_from
summed_more ss vs k t next v d r m z signed within sign is e before =
    let s : SumSign = get_or ss k z in
    ap (λ x. summed_from x (drop (k + 1) ss) (drop (k + 1 + 1) vs)) (e ∙ ap (λ b. signed_sum b t v) sign)
    ∙ (sym (ap (λ xs. summed_from t xs (drop (k + 1) vs)) (split ss k s z signed refl) ∙ ap (summed_from t (s ∷ drop (k + 1) ss)) (split vs (k + 1) v d within is)) ∙ before)

by_sign : (minus_first : Bool) (t v : Value) (ss : List SumSign) (vs : List Value) →
    (if minus_first then operation Sub t v ++ sum_operations (minus t v) ss vs else operation Add t v ++ sum_operations (plus t v) ss vs)
    ≡ sum_operation minus_first t v ++ sum_operations (signed_sum minus_first t v) ss vs
by_sign true t v ss vs = refl
by_sign false t v ss vs = refl

sum_split : (ss : List SumSign) (vs : List Value) (k : ℕ) (t v d : Value) (m : Bool) (z : SumSign) → k < length ss → k + 1 < length vs → m ≡ (get_or ss k z).is_minus →
    v ≡ get_or vs (k + 1) d → sum_operations t (drop k ss) (drop (k + 1) vs) ≡ sum_operation m t v ++ sum_operations (signed_sum m t v) (drop (k + 1) ss) (drop (k + 1 + 1) vs)
unfolding sum_operations
sum_split ss vs k t v d m z signed within sign is =
    let s : SumSign = get_or ss k z in
    let rest : Bool → List Wide = λ b. sum_operation b t v ++ sum_operations (signed_sum b t v) (drop (k + 1) ss) (drop (k + 1 + 1) vs) in
    ap (λ xs. sum_operations t xs (drop (k + 1) vs)) (split ss k s z signed refl)
    ∙ (ap (sum_operations t (s ∷ drop (k + 1) ss)) (split vs (k + 1) v d within is) ∙ (by_sign s.is_minus t v (drop (k + 1) ss) (drop (k + 1 + 1) vs) ∙ ap rest (sym sign)))

pub sum_more : (ss : List SumSign) (vs : List Value) (k : ℕ) (t next v d : Value) (m : Bool) (z : SumSign) (r : Option Wide) → k < length ss → k + 1 < length vs →
    m ≡ (get_or ss k z).is_minus → v ≡ get_or vs (k + 1) d → next ≡ signed_sum m t v → first_wide (sum_operation m t v) ≡ None →
    first_wide (sum_operations t (drop k ss) (drop (k + 1) vs)) ≡ r → first_wide (sum_operations next (drop (k + 1) ss) (drop (k + 1 + 1) vs)) ≡ r
sum_more ss vs k t next v d m z r signed within sign is e none before =
    let rest : List Wide = sum_operations (signed_sum m t v) (drop (k + 1) ss) (drop (k + 1 + 1) vs) in
    ap (λ x. first_wide (sum_operations x (drop (k + 1) ss) (drop (k + 1 + 1) vs))) e
    ∙ (sym (ap first_wide (sum_split ss vs k t v d m z signed within sign is) ∙ none_before (sum_operation m t v) rest none) ∙ before)

pub sum_told : (ss : List SumSign) (vs : List Value) (k : ℕ) (t v d : Value) (m : Bool) (z : SumSign) (r : Option Wide) (e : EvalError) → k < length ss → k + 1 < length vs →
    m ≡ (get_or ss k z).is_minus → v ≡ get_or vs (k + 1) d → first_wide (sum_operations t (drop k ss) (drop (k + 1) vs)) ≡ r →
    TellsWide {A = Value} (first_wide (sum_operation m t v)) (Err e) → TellsWide {A = Value} r (Err e)
sum_told ss vs k t v d m z r e signed within sign is before told =
    subst (λ o. TellsWide {A = Value} o (Err e)) (sym (ap first_wide (sum_split ss vs k t v d m z signed within sign is)) ∙ before)
    (told_before (sum_operation m t v) (sum_operations (signed_sum m t v) (drop (k + 1) ss) (drop (k + 1 + 1) vs)) e told)

-- where a list of a sum has ended, nothing is added
sum_stops : (t : Value) (xs : List SumSign) (ys : List Value) → min (length xs) (length ys) ≤ 0 → summed_from t xs ys ≡ t
unfolding summed_from
sum_stops t [] ys past = refl
sum_stops t (x ∷ xs) [] past = refl
sum_stops t (x ∷ xs) (y ∷ ys) past = absurd (omega (arith, past))

none_met : (t : Value) (xs : List SumSign) (ys : List Value) → min (length xs) (length ys) ≤ 0 → sum_operations t xs ys ≡ []
unfolding sum_operations
none_met t [] ys past = refl
none_met t (x ∷ xs) [] past = refl
none_met t (x ∷ xs) (y ∷ ys) past = absurd (omega (arith, past))

left : (ss : List SumSign) (vs : List Value) (k : ℕ) → min (length ss) (length vs - 1) ≤ k → min (length (drop k ss)) (length (drop (k + 1) vs)) ≤ 0
left ss vs k past = omega (arith, past, length-drop k ss, length-drop (k + 1) vs)

pub summed_end : (ss : List SumSign) (vs : List Value) (k : ℕ) (t r : Value) → min (length ss) (length vs - 1) ≤ k → summed_from t (drop k ss) (drop (k + 1) vs) ≡ r → t ≡ r
summed_end ss vs k t r past before = sym (sum_stops t (drop k ss) (drop (k + 1) vs) (left ss vs k past)) ∙ before

pub sum_end : (ss : List SumSign) (vs : List Value) (k : ℕ) (t : Value) (r : Option Wide) → min (length ss) (length vs - 1) ≤ k →
    first_wide (sum_operations t (drop k ss) (drop (k + 1) vs)) ≡ r → r ≡ None
sum_end ss vs k t r past before = sym before ∙ ap first_wide (none_met t (drop k ss) (drop (k + 1) vs) (left ss vs k past))

-- implications
pub implied_last : (vs : List Value) (k : ℕ) (v d : Value) (r : Bool) → k < length vs → v ≡ get_or vs k d → k + 1 ≡ length vs → implied (drop k vs) ≡ r → holds v ≡ r
unfolding implied
implied_last vs k v d r within is last before =
    sym (ap implied (split vs k v d within is ∙ ap (λ xs. v ∷ xs) (drop_all (k + 1) vs (omega (arith, last))))) ∙ before

implied_split : (vs : List Value) (k : ℕ) (v d : Value) → k + 1 < length vs → v ≡ get_or vs k d → implied (drop k vs) ≡ (not (holds v) || implied (drop (k + 1) vs))
unfolding implied
implied_split vs k v d more is =
    let rest = drop-cons vs (k + 1) v more in
    ap implied (split vs k v d (omega (arith, more)) is ∙ ap (λ xs. v ∷ xs) rest) ∙ ap (λ xs. not (holds v) || implied xs) (sym rest)

pub implied_false : (vs : List Value) (k : ℕ) (v d : Value) (r : Bool) → k + 1 < length vs → v ≡ get_or vs k d → holds v ≡ false → implied (drop k vs) ≡ r → true ≡ r
implied_false vs k v d r more is unheld before = sym (implied_split vs k v d more is ∙ ap (λ b. not b || implied (drop (k + 1) vs)) unheld) ∙ before

pub implied_more : (vs : List Value) (k : ℕ) (v d : Value) (r : Bool) → k + 1 < length vs → v ≡ get_or vs k d → holds v ≡ true → implied (drop k vs) ≡ r → implied (drop (k + 1) vs) ≡ r
implied_more vs k v d r more is held before = sym (implied_split vs k v d more is ∙ ap (λ b. not b || implied (drop (k + 1) vs)) held) ∙ before

pub implied_end : (vs : List Value) (k : ℕ) (r : Bool) → length vs ≤ k → implied (drop k vs) ≡ r → true ≡ r
unfolding implied
implied_end vs k r past before = sym (ap implied (drop_all k vs past)) ∙ before

-- two bit-vectors as one
pub joined_word : (v w : Value) → IsWord v → IsWord w → width_in v + width_in w ≤ 64 → IsWord (bv_concat v w)
joined_word v w first second width =
    record { width = width; small = concatenated-small (width_in v) (bits_of v) (width_in w) (bits_of w) first.small second.small }

pub width_more : (vs : List Value) (k : ℕ) (v d : Value) → k < length vs → v ≡ get_or vs k d → total_width (drop k vs) ≡ width_in v + total_width (drop (k + 1) vs)
unfolding total_width
width_more vs k v d within is = ap total_width (split vs k v d within is)
