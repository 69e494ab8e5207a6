-- What the conditions of a number read, by the condition and what is around it.
use Rattle.std.proofs.Common.{◌≡◌, ℕ, zero, suc, ◌+◌, ◌<◌, ◌≤◌, List, [], ◌∷◌, ◌++◌, length, Option, Some, None, refl, ap, sym, ◌∙◌, arith}
use Rattle.std.specs.Prelude.{slice_get, slice_index_or}
use Rattle.uc_order_rules.specs.Dependence.{Blocks}
use Rattle.uc_meaning.specs.Lookup.{System}
use Rattle.uc_step_cycles.specs.declared.acts.Context.{Context}
use Rattle.uc_step_cycles.specs.Acts.{ContextsFit, Setting, around_of, arounds, cells_of_primed}
use Rattle.uc_step_cycles.proofs.Contexts.{at_end, at_left, length_one}

abbrev pub setting : System → Blocks → List ℕ → List ℕ → Setting
setting system blocks path around = record { system = system; path = path; blocks = blocks; around = around }

some_same : {A : Type 0} (x y : A) → Some x ≡ Some y → x ≡ y
some_same {A = A} x y h = ap (λ o. get_or_else o) h
  where
    get_or_else : Option A → A
    get_or_else (Some z) = z
    get_or_else None = x

module _ (s : Setting) where
  abbrev at : List (List ℕ) → ℕ → List ℕ
  at xs k = slice_index_or xs k []

  abbrev entry : List (List ℕ) → Context → List ℕ
  entry known c = at known c.around ++ cells_of_primed s c.reads

  prefix : (known : List (List ℕ)) (cs : List Context) (i : ℕ) → i < length known → at (arounds s known cs) i ≡ at known i
  unfolding arounds
  prefix known [] i h = refl
  prefix known (c ∷ cs) i h =
      let l = length_one known (entry known c) in
      prefix (known ++ entry known c ∷ []) cs i (omega (arith, h, l)) ∙ at_left known (entry known c ∷ []) [] i h

  at_context : (known : List (List ℕ)) (cs : List Context) (n k j : ℕ) (c : Context) → length known ≡ n + 1 → ContextsFit n cs → slice_get cs k ≡ Some c → j ≡ length known + k →
      at (arounds s known cs) j ≡ at (arounds s known cs) c.around ++ cells_of_primed s c.reads
  unfolding arounds ContextsFit
  at_context known [] n k j c size fit there is = cc
  at_context known (d ∷ cs) n zero j c size fit there is =
      let l = length_one known (entry known d) in
      let same = some_same d c there in
      let around : d.around < length known = omega (arith, size, fit.0) in
      prefix (known ++ entry known d ∷ []) cs j (omega (arith, l, is))
      ∙ at_end known (entry known d) [] j (omega (arith, is))
      ∙ ap (λ xs. xs ++ cells_of_primed s d.reads)
      (sym (prefix (known ++ entry known d ∷ []) cs d.around (omega (arith, l, around)) ∙ at_left known (entry known d ∷ []) [] d.around around))
      ∙ (λ i. at (arounds s (known ++ entry known d ∷ []) cs) (same i).around ++ cells_of_primed s (same i).reads)
  at_context known (d ∷ cs) n (suc k) j c size fit there is =
      let l = length_one known (entry known d) in
      at_context (known ++ entry known d ∷ []) cs (suc n) k j c (omega (arith, l, size)) fit.1 there (omega (arith, l, is))

  -- the conditions of a number are those around the condition, and the condition
  pub around_is : (cs : List Context) (k : ℕ) (c : Context) → ContextsFit 0 cs → slice_get cs k ≡ Some c → around_of s cs (suc k) ≡ around_of s cs c.around ++ cells_of_primed s c.reads
  unfolding around_of
  around_is cs k c fit there = at_context (s.around ∷ []) cs 0 k (suc k) c (omega arith) fit there (omega arith)

  pub around_root : (cs : List Context) → around_of s cs 0 ≡ s.around
  unfolding around_of
  around_root cs = prefix (s.around ∷ []) cs 0 (omega arith)

-- the blocks of instances don't matter
arounds_same : (system : System) (path around : List ℕ) (b d : Blocks) (known : List (List ℕ)) (cs : List Context) → arounds (setting system b path around) known cs ≡ arounds (setting system d path around) known cs
unfolding arounds cells_of_primed
arounds_same system path around b d known [] = refl
arounds_same system path around b d known (c ∷ cs) = arounds_same system path around b d (known ++ (slice_index_or known c.around [] ++ cells_of_primed (setting system b path around) c.reads) ∷ []) cs

pub around_same : (system : System) (path around : List ℕ) (b d : Blocks) (cs : List Context) (k : ℕ) → around_of (setting system b path around) cs k ≡ around_of (setting system d path around) cs k
unfolding around_of
around_same system path around b d cs k = ap (λ xs. slice_index_or xs k []) (arounds_same system path around b d (around ∷ []) cs)

pub fitting : (n : ℕ) (cs : List Context) (k : ℕ) (c : Context) → ContextsFit n cs → slice_get cs k ≡ Some c → c.around ≤ n + k
unfolding ContextsFit
fitting n [] k c fit there = cc
fitting n (d ∷ cs) zero c fit there = let same = ap (λ (x : Context). x.around) (some_same d c there) in omega (arith, fit.0, same)
fitting n (d ∷ cs) (suc k) c fit there = let h = fitting (suc n) cs k c fit.1 there in omega (arith, h)

pub context_there : (cs : List Context) (k : ℕ) → k < length cs → (c : Context) × (slice_get cs k ≡ Some c)
context_there [] k h = absurd (omega (arith, h))
context_there (c ∷ cs) zero h = (c, refl)
context_there (c ∷ cs) (suc k) h = context_there cs k (omega (arith, h))
