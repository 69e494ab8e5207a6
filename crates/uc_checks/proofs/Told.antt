-- What answers tell of conditions that are asked one after another.
use Rattle.std.proofs.Common.{◌≡◌, ℕ, suc, ◌+◌, ◌-◌, ◌<◌, ◌≤◌, inl, inr, List, [], ◌∷◌, length, drop, get_or, Option, Some, None, Bool, true, false, refl, ap, ◌∙◌, sym, subst, below_more, arith}
use Rattle.std.specs.Prelude.{Result, Ok, Err, IfOk}
use Rattle.std.specs.Bool.{Decides}
use Rattle.std.specs.List.{All}
use Rattle.std.proofs.lemmas.List.{drop_all, drop_more}
use Rattle.std.proofs.lemmas.List.Elements.{All-nil, All-cons}
use Rattle.uc_meaning.specs.declared.overflow.Wide.{Wide}
use Rattle.uc_operators.specs.declared.error.EvalError.{EvalError}
use Rattle.uc_operators.specs.declared.error.EvalError.TheVariants.{NoMemory, Wide as TooWide}
use Rattle.uc_operators.specs.Overflows.{first_wide, TellsWide}
use Rattle.uc_checks.specs.Tellings.{Telling, Nothing, Of, Followed, Where, OfEach, OfPositions, Tells}

-- ---- answers by truth values

pub refused : {P : Type 0} (b : Bool) → Decides b P → b ≡ false → P → ⊥
refused b decided fails h = absurd (let clash : false ≡ true = sym fails ∙ decided.1 h in cc)

pub none_decided : {P : Type 0} → (P → ⊥) → Decides false P
none_decided never = (λ is. absurd (let clash : false ≡ true = is in cc), λ h. absurd (never h))

pub all_decided : {P : Type 0} → P → Decides true P
all_decided h = (λ is. h, λ again. refl)

pub bool_decided : (b c : Bool) → b ≡ c → Decides b (c ≡ true)
bool_decided b c same = (λ is. sym same ∙ is, λ is. same ∙ is)

pub same_decided : {P Q : Type 0} (b : Bool) → Decides b P → (P → Q) → (Q → P) → Decides b Q
same_decided b decided to from = (λ is. to (decided.0 is), λ h. decided.1 (from h))

pub if_same : {P Q E : Type 0} (r : Result Bool E) → (P → Q) → (Q → P) → IfOk r (λ b. Decides b P) → IfOk r (λ b. Decides b Q)
if_same (Ok b) to from decided = same_decided b decided to from
if_same (Err e) to from decided = decided

-- ---- one condition and what follows

pub of_met : {A : Type 0} (met : List Wide) (r : Result A EvalError) → TellsWide (first_wide met) r → Tells (Of met) r
of_met met (Ok x) told = told
of_met met (Err NoMemory) told = tt
of_met met (Err (TooWide w)) told = told

pub of_err : (A : Type 0) (met : List Wide) (e : EvalError) → TellsWide {A = A} (first_wide met) (Err e) → Tells {A = A} (Of met) (Err e)
of_err A met NoMemory told = tt
of_err A met (TooWide w) told = told

pub told_other : (A B : Type 0) (here : Telling) (e : EvalError) → Tells {A = A} here (Err e) → Tells {A = B} here (Err e)
told_other A B here NoMemory told = tt
told_other A B here (TooWide w) told = told

module _ (here : Telling) (Holds : Type 0) (next : Telling) where
  pub told_stop : here None → (Holds → ⊥) → Followed here Holds next None
  told_stop none never = (none, λ h. absurd (never h))

  pub told_here : (A B : Type 0) (e : EvalError) → Tells {A = A} here (Err e) → Tells {A = B} (Followed here Holds next) (Err e)
  told_here A B NoMemory told = tt
  told_here A B (TooWide w) told = inl told

  pub told_on : (first : Option Wide) → here None → Holds → next first → Followed here Holds next first
  told_on None none h told = (none, λ again. told)
  told_on (Some w) none h told = inr (none, h, told)

  pub told_next : {A : Type 0} (r : Result A EvalError) → here None → Holds → Tells next r → Tells (Followed here Holds next) r
  told_next (Ok x) none h told = (none, λ again. told)
  told_next (Err NoMemory) none h told = tt
  told_next (Err (TooWide w)) none h told = inr (none, h, told)

pub told_err_next : (A B : Type 0) (here : Telling) (Holds : Type 0) (next : Telling) (e : EvalError) → here None → Holds → Tells {A = A} next (Err e) → Tells {A = B} (Followed here Holds next) (Err e)
told_err_next A B here Holds next NoMemory none h told = tt
told_err_next A B here Holds next (TooWide w) none h told = inr (none, h, told)

pub where_told : {A : Type 0} (Holds : Type 0) (next : Telling) (r : Result A EvalError) → Holds → Tells next r → Tells (Where Holds next) r
where_told Holds next r h told = told_next Nothing Holds next r refl h told

pub where_none : (Holds : Type 0) (next : Telling) → (Holds → ⊥) → Where Holds next None
where_none Holds next never = told_stop Nothing Holds next refl never

pub where_err : (A B : Type 0) (Holds : Type 0) (next : Telling) (e : EvalError) → Holds → Tells {A = A} next (Err e) → Tells {A = B} (Where Holds next) (Err e)
where_err A B Holds next NoMemory h told = tt
where_err A B Holds next (TooWide w) h told = inr (refl, h, told)

-- a condition that is asked behind other operations
pub where_behind : {A : Type 0} (here : Telling) (Holds : Type 0) (next : Telling) (r : Result A EvalError) → here None → Tells (Where Holds next) r → Tells (Followed here Holds next) r
where_behind here Holds next (Ok x) none told = (none, told.1)
where_behind here Holds next (Err NoMemory) none told = tt
where_behind here Holds next (Err (TooWide w)) none (inl clash) = absurd (cc)
where_behind here Holds next (Err (TooWide w)) none (inr told) = inr (none, told.1, told.2)

-- ---- one condition for each element of a list

-- Before turn k all conditions held, and no operation was too wide.
pub record Passed {A : Type 0} (tells : A → Telling) (Holds : A → Type 0) (xs : List A) (k : ℕ) : Type 0 where
  pub held : All Holds (drop k xs) → All Holds xs
  pub told : (first : Option Wide) → OfEach tells Holds (drop k xs) first → OfEach tells Holds xs first

module _ {A : Type 0} (tells : A → Telling) (Holds : A → Type 0) where
  pub pass_begin : (xs : List A) → Passed tells Holds xs 0
  pass_begin xs = record { held = λ h. h; told = λ first h. h }

  pub none_each : OfEach tells Holds [] None
  unfolding OfEach
  none_each = refl

  pub more_each : (x : A) (xs : List A) (first : Option Wide) → Followed (tells x) (Holds x) (OfEach tells Holds xs) first → OfEach tells Holds (x ∷ xs) first
  unfolding OfEach
  more_each x xs first h = h

  module _ (xs : List A) (k : ℕ) (before : Passed tells Holds xs k) where
    pub pass_end : length xs ≤ k → All Holds xs
    pass_end past = before.held (subst (All Holds) (sym (drop_all k xs past)) (All-nil Holds))

    pub pass_end_told : length xs ≤ k → OfEach tells Holds xs None
    pass_end_told past = before.told None (subst (λ ys. OfEach tells Holds ys None) (sym (drop_all k xs past)) none_each)

    module _ (x d : A) (within : k < length xs) (is : x ≡ get_or xs k d) where
      turn : drop k xs ≡ x ∷ drop (k + 1) xs
      turn = drop_more xs k d within ∙ ap (λ y. y ∷ drop (k + 1) xs) (sym is)

      at_turn : (first : Option Wide) → Followed (tells x) (Holds x) (OfEach tells Holds (drop (k + 1) xs)) first → OfEach tells Holds xs first
      at_turn first h = before.told first (subst (λ ys. OfEach tells Holds ys first) (sym turn) (more_each x (drop (k + 1) xs) first h))

      pub pass_more : tells x None → Holds x → Passed tells Holds xs (k + 1)
      pass_more none h = record {
        held = λ rest. before.held (subst (All Holds) (sym turn) (All-cons Holds x (drop (k + 1) xs) h rest));
        told = λ first rest. at_turn first (told_on (tells x) (Holds x) (OfEach tells Holds (drop (k + 1) xs)) first none h rest);
      }

      pub pass_no : (Holds x → ⊥) → All Holds xs → ⊥
      pass_no never all = never (subst Holds (sym is) (all k d within))

      pub pass_no_told : tells x None → (Holds x → ⊥) → OfEach tells Holds xs None
      pass_no_told none never = at_turn None (told_stop (tells x) (Holds x) (OfEach tells Holds (drop (k + 1) xs)) none never)

      pub pass_told : (X Y : Type 0) (e : EvalError) → Tells {A = X} (tells x) (Err e) → Tells {A = Y} (OfEach tells Holds xs) (Err e)
      pass_told X Y NoMemory told = tt
      pass_told X Y (TooWide w) told = at_turn (Some w) (inl told)

-- ---- one condition for each position

pub record Reached (tells : ℕ → Telling) (Holds : ℕ → Type 0) (n k : ℕ) : Type 0 where
  pub held : (j : ℕ) → j < k → Holds j
  pub told : (first : Option Wide) → OfPositions tells Holds k (n - k) first → OfPositions tells Holds 0 n first

module _ (tells : ℕ → Telling) (Holds : ℕ → Type 0) where
  none_at : (k : ℕ) → OfPositions tells Holds k 0 None
  unfolding OfPositions
  none_at k = refl

  more_at : (k m : ℕ) (first : Option Wide) → Followed (tells k) (Holds k) (OfPositions tells Holds (k + 1) m) first → OfPositions tells Holds k (suc m) first
  unfolding OfPositions
  more_at k m first h = h

  pub reach_begin : (n : ℕ) → Reached tells Holds n 0
  reach_begin n = record {
    held = λ j below. absurd (omega (arith, below));
    told = λ first h. let same : n - 0 ≡ n = omega arith in subst (λ m. OfPositions tells Holds 0 m first) same h;
  }

  module _ (n k : ℕ) (before : Reached tells Holds n k) where
    pub reach_end : n ≤ k → (j : ℕ) → j < n → Holds j
    reach_end past j below = before.held j (omega (arith, past, below))

    pub reach_end_told : n ≤ k → OfPositions tells Holds 0 n None
    reach_end_told past = let none : 0 ≡ n - k = omega (arith, past) in before.told None (subst (λ m. OfPositions tells Holds k m None) none (none_at k))

    module _ (within : k < n) where
      at_position : (first : Option Wide) → Followed (tells k) (Holds k) (OfPositions tells Holds (k + 1) (n - (k + 1))) first → OfPositions tells Holds 0 n first
      at_position first h =
          let one : suc (n - (k + 1)) ≡ n - k = omega (arith, within) in
          before.told first (subst (λ m. OfPositions tells Holds k m first) one (more_at k (n - (k + 1)) first h))

      pub reach_more : tells k None → Holds k → Reached tells Holds n (k + 1)
      reach_more none h = record {
        held = below_more Holds k before.held h;
        told = λ first rest. at_position first (told_on (tells k) (Holds k) (OfPositions tells Holds (k + 1) (n - (k + 1))) first none h rest);
      }

      pub reach_no : (Holds k → ⊥) → ((j : ℕ) → j < n → Holds j) → ⊥
      reach_no never all = never (all k within)

      pub reach_no_told : tells k None → (Holds k → ⊥) → OfPositions tells Holds 0 n None
      reach_no_told none never = at_position None (told_stop (tells k) (Holds k) (OfPositions tells Holds (k + 1) (n - (k + 1))) none never)

      pub reach_told : (X Y : Type 0) (e : EvalError) → Tells {A = X} (tells k) (Err e) → Tells {A = Y} (OfPositions tells Holds 0 n) (Err e)
      reach_told X Y NoMemory told = tt
      reach_told X Y (TooWide w) told = at_position (Some w) (inl told)
