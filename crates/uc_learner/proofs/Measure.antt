-- Each conflict rules out at least one assignment of the inputs.
use Rattle.std.proofs.Common.{◌≡◌, ℕ, zero, suc, ◌+◌, ◌^◌, ◌<◌, ◌≤◌, inl, inr, Bool, true, false, not, List, [], ◌∷◌, ◌++◌, Option, None, Some, length, set, get_or, take, drop, refl, sym, ◌∙◌, ap, subst, arith}
use Rattle.std.specs.Prelude.{MatchOption}
use Rattle.std.proofs.lemmas.Nat.{pow_pos, pow-add}
use Rattle.std.proofs.lemmas.Bool.{cases_Bool}
use Rattle.std.proofs.lemmas.List.{drop_more, take-append-drop}
use Rattle.uc_circuit.specs.declared.literal.Lit.{Lit}
use Rattle.uc_circuit.specs.Values.{assign, HasNoValue}
use Rattle.uc_learner.specs.declared.state.Step.{Step}
use Rattle.uc_learner.proofs.Steps.{values_after-append, fits_at}
use Rattle.uc_learner.specs.Trail.{values_after, IsInput, IsImplied, StepFits, TrailFits, one_if_free, free, flipped_side, flips, left}

-- a value for an input takes one from the free inputs
pub free-set : (inputs : List Bool) (v : List (Option Bool)) (x : ℕ) (b : Bool) → get_or inputs x false ≡ true → x < length v → get_or v x None ≡ None → free inputs (set v x (Some b)) + 1 ≡ free inputs v
free-set [] v x b is h unset = absurd (cc)
free-set (k ∷ inputs) [] x b is h unset = absurd (omega arith)
free-set (k ∷ inputs) (o ∷ v) zero b is h unset =
    let e : one_if_free k (Some b) ≡ 0 = ap (λ j. one_if_free j (Some b)) is in
    let f : one_if_free k o ≡ 1 = ap (λ j. one_if_free j o) is ∙ ap (one_if_free true) unset in
    omega arith
free-set (k ∷ inputs) (o ∷ v) (suc x) b is h unset =
    let e : free inputs (set v x (Some b)) + 1 ≡ free inputs v = free-set inputs v x b is (omega arith) unset in
    omega arith

-- a value for another variable takes none
pub free-set_other : (inputs : List Bool) (v : List (Option Bool)) (x : ℕ) (b : Bool) → get_or inputs x false ≡ false → free inputs (set v x (Some b)) ≡ free inputs v
free-set_other [] v x b is = refl
free-set_other (k ∷ inputs) [] x b is = refl
free-set_other (k ∷ inputs) (o ∷ v) zero b is =
    let e : one_if_free k (Some b) ≡ 0 = ap (λ j. one_if_free j (Some b)) is in
    let f : one_if_free k o ≡ 0 = ap (λ j. one_if_free j o) is in
    omega arith
free-set_other (k ∷ inputs) (o ∷ v) (suc x) b is =
    let e : free inputs (set v x (Some b)) ≡ free inputs v = free-set_other inputs v x b is in
    omega arith

pub flips-append : (inputs : List Bool) (v : List (Option Bool)) (xs ys : List Step) → flips inputs v (xs ++ ys) ≡ flips inputs v xs + flips inputs (values_after v xs) ys
flips-append inputs v [] ys = omega arith
flips-append inputs v (s ∷ xs) ys =
    let e : flips inputs (assign v s.literal) (xs ++ ys) ≡ flips inputs (assign v s.literal) xs + flips inputs (values_after (assign v s.literal) xs) ys = flips-append inputs (assign v s.literal) xs ys in
    omega arith

-- a power of two is twice the one before
double : (m n : ℕ) → m + 1 ≡ n → 2 ^ n ≡ 2 ^ m + 2 ^ m
double m n e =
    let p : 2 ^ n ≡ 2 ^ (m + 1) = ap (λ k. 2 ^ k) (sym e) in
    omega (arith, p, pow-add 2 m 1)

-- an implied literal leaves no more than before
pub left_implied :
    (inputs : List Bool) (v : List (Option Bool)) (xs : List Step) (s : Step) (n : ℕ)
    → s.reason ≡ Some n → s.literal.var < length (values_after v xs) → HasNoValue (values_after v xs) s.literal
    → left inputs v (xs ++ s ∷ []) ≤ left inputs v xs
left_implied inputs v xs s n reason inside unset =
    let w : List (Option Bool) = values_after v xs in
    let e : flips inputs v (xs ++ s ∷ []) ≡ flips inputs v xs + (flipped_side s.reason (free inputs (assign w s.literal)) + 0) = flips-append inputs v xs (s ∷ []) in
    let z : flipped_side s.reason (free inputs (assign w s.literal)) ≡ 0 = ap (λ r. flipped_side r (free inputs (assign w s.literal))) reason in
    let a : values_after v (xs ++ s ∷ []) ≡ assign w s.literal = values_after-append v xs (s ∷ []) in
    let p : 2 ^ free inputs (values_after v (xs ++ s ∷ [])) ≡ 2 ^ free inputs (assign w s.literal) = ap (λ k. 2 ^ free inputs k) a in
    elim (cases_Bool (get_or inputs s.literal.var false)) [
      | inl is ↦
          let f : free inputs (assign w s.literal) + 1 ≡ free inputs w = free-set inputs w s.literal.var (not s.literal.neg) is inside unset in
          omega (arith, double _ _ f)
      | inr is ↦
          let f : free inputs (assign w s.literal) ≡ free inputs w = free-set_other inputs w s.literal.var (not s.literal.neg) is in
          let q : 2 ^ free inputs (assign w s.literal) ≡ 2 ^ free inputs w = ap (λ k. 2 ^ k) f in
          omega arith
    ]

-- a decision leaves as many as before
pub left_decided :
    (inputs : List Bool) (v : List (Option Bool)) (xs : List Step) (s : Step)
    → s.reason ≡ None → IsInput inputs s.literal → s.literal.var < length (values_after v xs) → HasNoValue (values_after v xs) s.literal
    → left inputs v (xs ++ s ∷ []) ≡ left inputs v xs
left_decided inputs v xs s reason is inside unset =
    let w : List (Option Bool) = values_after v xs in
    let e : flips inputs v (xs ++ s ∷ []) ≡ flips inputs v xs + (flipped_side s.reason (free inputs (assign w s.literal)) + 0) = flips-append inputs v xs (s ∷ []) in
    let z : flipped_side s.reason (free inputs (assign w s.literal)) ≡ 2 ^ free inputs (assign w s.literal) = ap (λ r. flipped_side r (free inputs (assign w s.literal))) reason in
    let a : values_after v (xs ++ s ∷ []) ≡ assign w s.literal = values_after-append v xs (s ∷ []) in
    let p : 2 ^ free inputs (values_after v (xs ++ s ∷ [])) ≡ 2 ^ free inputs (assign w s.literal) = ap (λ k. 2 ^ free inputs k) a in
    let f : free inputs (assign w s.literal) + 1 ≡ free inputs w = free-set inputs w s.literal.var (not s.literal.neg) is inside unset in
    omega (arith, double _ _ f)

-- a decision that gives way to an implied input rules out at least one assignment
pub left_backjump :
    (inputs : List Bool) (v : List (Option Bool)) (before : List Step) (d : Step) (after : List Step) (s : Step) (n : ℕ)
    → d.reason ≡ None → IsInput inputs d.literal → d.literal.var < length (values_after v before) → HasNoValue (values_after v before) d.literal
    → s.reason ≡ Some n → IsInput inputs s.literal → s.literal.var < length (values_after v before) → HasNoValue (values_after v before) s.literal
    → left inputs v (before ++ s ∷ []) + 1 ≤ left inputs v (before ++ d ∷ after)
left_backjump inputs v before d after s n d_reason d_is d_inside d_unset s_reason s_is s_inside s_unset =
    let w : List (Option Bool) = values_after v before in
    let e : flips inputs v (before ++ s ∷ []) ≡ flips inputs v before + (flipped_side s.reason (free inputs (assign w s.literal)) + 0) = flips-append inputs v before (s ∷ []) in
    let z : flipped_side s.reason (free inputs (assign w s.literal)) ≡ 0 = ap (λ r. flipped_side r (free inputs (assign w s.literal))) s_reason in
    let a : values_after v (before ++ s ∷ []) ≡ assign w s.literal = values_after-append v before (s ∷ []) in
    let p : 2 ^ free inputs (values_after v (before ++ s ∷ [])) ≡ 2 ^ free inputs (assign w s.literal) = ap (λ k. 2 ^ free inputs k) a in
    let e' : flips inputs v (before ++ d ∷ after) ≡ flips inputs v before + (flipped_side d.reason (free inputs (assign w d.literal)) + flips inputs (assign w d.literal) after) = flips-append inputs v before (d ∷ after) in
    let z' : flipped_side d.reason (free inputs (assign w d.literal)) ≡ 2 ^ free inputs (assign w d.literal) = ap (λ r. flipped_side r (free inputs (assign w d.literal))) d_reason in
    let f : free inputs (assign w s.literal) + 1 ≡ free inputs w = free-set inputs w s.literal.var (not s.literal.neg) s_is s_inside s_unset in
    let f' : free inputs (assign w d.literal) + 1 ≡ free inputs w = free-set inputs w d.literal.var (not d.literal.neg) d_is d_inside d_unset in
    let g : free inputs (assign w s.literal) ≡ free inputs (assign w d.literal) = omega arith in
    let q : 2 ^ free inputs (assign w s.literal) ≡ 2 ^ free inputs (assign w d.literal) = ap (λ k. 2 ^ k) g in
    omega (arith, pow_pos (free inputs (values_after v (before ++ d ∷ after))))

-- the same for a decision at a place of the trail
pub left_backjump_at :
    (inputs : List Bool) (clauses : List (List Lit)) (v : List (Option Bool)) (xs : List Step) (i : ℕ) (x s : Step) (n : ℕ)
    → TrailFits inputs clauses v xs → i < length xs → (get_or xs i x).reason ≡ None
    → s.reason ≡ Some n → IsInput inputs s.literal → s.literal.var < length (values_after v (take i xs)) → HasNoValue (values_after v (take i xs)) s.literal
    → left inputs v (take i xs ++ s ∷ []) + 1 ≤ left inputs v xs
left_backjump_at inputs clauses v xs i x s n fits h decided s_reason s_is s_inside s_unset =
    let d : Step = get_or xs i x in
    let split : take i xs ++ d ∷ drop (i + 1) xs ≡ xs = ap (λ k. take i xs ++ k) (sym (drop_more xs i x h)) ∙ take-append-drop i xs in
    let fit : StepFits inputs clauses (values_after v (take i xs)) d = fits_at inputs clauses v xs i x fits h in
    let d_is : IsInput inputs d.literal = subst (λ (r : Option ℕ). MatchOption r (IsInput inputs d.literal) (IsImplied clauses (values_after v (take i xs)) d.literal)) decided fit.cause in
    let e : left inputs v (take i xs ++ d ∷ drop (i + 1) xs) ≡ left inputs v xs = ap (left inputs v) split in
    omega (arith, left_backjump inputs v (take i xs) d (drop (i + 1) xs) s n decided d_is fit.inside fit.unset s_reason s_is s_inside s_unset, e)

pub left_some : (inputs : List Bool) (v : List (Option Bool)) (xs : List Step) → 0 < left inputs v xs
left_some inputs v xs = omega (arith, pow_pos (free inputs (values_after v xs)))
