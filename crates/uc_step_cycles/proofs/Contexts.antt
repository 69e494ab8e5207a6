-- What conditions and those around them read, while conditions are added.
use Rattle.std.proofs.Common.{◌≡◌, ℕ, zero, suc, ◌+◌, ◌<◌, ◌≤◌, List, [], ◌∷◌, ◌++◌, length, refl, ap, ◌∙◌, arith}
use Rattle.std.specs.Prelude.{slice_index_or}
use Rattle.uc_step_cycles.specs.declared.acts.Context.{Context}
use Rattle.uc_step_cycles.specs.declared.acts.Act.{Act}
use Rattle.uc_step_cycles.specs.Acts.{ActsFit, ContextsFit, Setting, act_around, around_of, arounds, cells_of_primed}

pub at_left : {A : Type 0} (xs ys : List A) (d : A) (k : ℕ) → k < length xs → slice_index_or (xs ++ ys) k d ≡ slice_index_or xs k d
at_left [] ys d k h = absurd (omega (arith, h))
at_left (x ∷ xs) ys d zero h = refl
at_left (x ∷ xs) ys d (suc k) h = at_left xs ys d k (omega (arith, h))

pub at_end : {A : Type 0} (xs : List A) (y d : A) (k : ℕ) → k ≡ length xs → slice_index_or (xs ++ y ∷ []) k d ≡ y
at_end [] y d zero h = refl
at_end [] y d (suc k) h = absurd (omega (arith, h))
at_end (x ∷ xs) y d zero h = absurd (omega (arith, h))
at_end (x ∷ xs) y d (suc k) h = at_end xs y d k (omega (arith, h))

pub length_one : {A : Type 0} (xs : List A) (y : A) → length (xs ++ y ∷ []) ≡ length xs + 1
length_one [] y = omega arith
length_one (x ∷ xs) y = let e = length_one xs y in omega (arith, e)

module _ (s : Setting) where
  arounds_push : (known : List (List ℕ)) (cs : List Context) (c : Context) →
      arounds s known (cs ++ c ∷ []) ≡ arounds s known cs ++ (slice_index_or (arounds s known cs) c.around [] ++ cells_of_primed s c.reads) ∷ []
  unfolding arounds
  arounds_push known [] c = refl
  arounds_push known (b ∷ cs) c = arounds_push (known ++ (slice_index_or known b.around [] ++ cells_of_primed s b.reads) ∷ []) cs c

  arounds_length : (known : List (List ℕ)) (cs : List Context) → length (arounds s known cs) ≡ length known + length cs
  unfolding arounds
  arounds_length known [] = omega arith
  arounds_length known (b ∷ cs) =
      let more = (slice_index_or known b.around [] ++ cells_of_primed s b.reads) in
      let e = arounds_length (known ++ more ∷ []) cs in
      let l = length_one known more in
      omega (arith, e, l)

  count : (cs : List Context) → length (arounds s (s.around ∷ []) cs) ≡ length cs + 1
  count cs = let e = arounds_length (s.around ∷ []) cs in omega (arith, e)

  pub around_kept : (cs : List Context) (c : Context) (k : ℕ) → k ≤ length cs → around_of s (cs ++ c ∷ []) k ≡ around_of s cs k
  unfolding around_of
  around_kept cs c k h =
      ap (λ xs. slice_index_or xs k []) (arounds_push (s.around ∷ []) cs c)
      ∙ at_left (arounds s (s.around ∷ []) cs) _ [] k (let e = count cs in omega (arith, e, h))

  pub around_new : (cs : List Context) (c : Context) (k : ℕ) → k ≡ length (cs ++ c ∷ []) → around_of s (cs ++ c ∷ []) k ≡ around_of s cs c.around ++ cells_of_primed s c.reads
  unfolding around_of
  around_new cs c k h =
      ap (λ xs. slice_index_or xs k []) (arounds_push (s.around ∷ []) cs c)
      ∙ at_end (arounds s (s.around ∷ []) cs) _ [] k (let e = count cs in let l = length_one cs c in omega (arith, e, l, h))

pub around_block : (s : Setting) → around_of s [] 0 ≡ s.around
unfolding around_of arounds
around_block s = refl

-- ---- what stands in what

pub contexts_push : (n : ℕ) (cs : List Context) (c : Context) → ContextsFit n cs → c.around ≤ n + length cs → ContextsFit n (cs ++ c ∷ [])
unfolding ContextsFit
contexts_push n [] c fit h = (omega (arith, h), tt)
contexts_push n (b ∷ cs) c fit h = (fit.0, contexts_push (suc n) cs c fit.1 (omega (arith, h)))

pub acts_more : (n m : ℕ) (as' : List Act) → n ≤ m → ActsFit n as' → ActsFit m as'
unfolding ActsFit
acts_more n m [] h fit = tt
acts_more n m (a ∷ as') h fit = (omega (arith, fit.0, h), acts_more n m as' h fit.1)

pub acts_push : (n : ℕ) (as' : List Act) (a : Act) → ActsFit n as' → act_around a ≤ n → ActsFit n (as' ++ a ∷ [])
unfolding ActsFit
acts_push n [] a fit h = (h, tt)
acts_push n (b ∷ as') a fit h = (fit.0, acts_push n as' a fit.1 h)
