-- Which roots are judged, one after another.
use Rattle.std.proofs.Common.{◌≡◌, ℕ, zero, suc, ◌+◌, ◌<◌, ◌≤◌, Bool, true, false, List, [], ◌∷◌, ◌++◌, length, get_or, Option, Some, None, refl, ap, sym, subst, ◌∙◌, ◌⊎◌, inl, inr, ⊎_elim, arith}
use Rattle.std.specs.Prelude.{slice_get, slice_index_or, ◌||◌, not}
use Rattle.std.proofs.lemmas.Option.{slice_get-get_or}
use Rattle.uc_syntax.specs.declared.declaration.Module.{Module}
use Rattle.uc_meaning.specs.Lookup.{System}
use Rattle.uc_rules.specs.Cycles.{instance_steps}
use Rattle.uc_order_rules.specs.Roots.{rooted}
use Rattle.uc_order_rules.specs.Uses.{has_way}
use Rattle.uc_order_rules.specs.Sizes.{has_many_instances}
use Rattle.uc_order_rules.specs.Order.{is_judged}

none_some : {A B : Type 0} (x : B) → None ≡ Some x → A
none_some x h = cc

some_same : {A : Type 0} (x y : A) → Some x ≡ Some y → x ≡ y
some_same x y h = cc

index_before : (xs : List Bool) (b : Bool) (k : ℕ) → k < length xs → slice_index_or (xs ++ b ∷ []) k false ≡ slice_index_or xs k false
index_before [] b k h = absurd (omega (arith, h))
index_before (x ∷ xs) b zero h = refl
index_before (x ∷ xs) b (suc k) h = index_before xs b k (omega (arith, h))

index_last : (xs : List Bool) (b : Bool) → slice_index_or (xs ++ b ∷ []) (length xs) false ≡ b
index_last [] b = refl
index_last (x ∷ xs) b = index_last xs b

length_push : (xs : List Bool) (b : Bool) → length (xs ++ b ∷ []) ≡ suc (length xs)
length_push [] b = refl
length_push (x ∷ xs) b = ap suc (length_push xs b)

get_within : {A : Type 0} (xs : List A) (k : ℕ) (x : A) → slice_get xs k ≡ Some x → k < length xs
get_within [] zero x h = none_some x h
get_within [] (suc k) x h = none_some x h
get_within (y ∷ xs) zero x h = omega arith
get_within (y ∷ xs) (suc k) x h = let l = get_within xs k x h in omega (arith, l)

less_or_same : (n m : ℕ) → n < m + 1 → (n < m) ⊎ (n ≡ m)
less_or_same zero zero l = inr refl
less_or_same zero (suc m) l = inl (omega arith)
less_or_same (suc n) zero l = absurd (omega (arith, l))
less_or_same (suc n) (suc m) l = ⊎_elim (λ p. inl (omega (arith, p))) (λ e. inr (ap suc e)) (less_or_same n m (omega (arith, l)))

pub record JudgedTo (s : System) (k : ℕ) (flags : List Bool) : Type 0 where
  pub count : length flags ≡ k
  pub flag : (j : ℕ) (m : Module) → j < k → slice_get s.modules j ≡ Some m → slice_index_or flags j false ≡ is_judged (rooted s j, m)

pub judged_begin : (s : System) (flags : List Bool) → flags ≡ [] → JudgedTo s 0 flags
judged_begin s flags none = record { count = ap length none; flag = λ j m l h. absurd (omega (arith, l)) }

pub judged_more : (s : System) (k : ℕ) (old new : List Bool) (m d : Module) (deep b : Bool) → JudgedTo s k old → k < length s.modules → m ≡ get_or s.modules k d →
    deep ≡ has_way 32 (instance_steps s) m.name → b ≡ not (deep || has_many_instances (rooted s k)) → new ≡ old ++ b ∷ [] → JudgedTo s (k + 1) new
judged_more s k old new m d deep b held within at is flag pushed = record {
  count = let size : length new ≡ suc (length old) = ap length pushed ∙ length_push old b in omega (arith, size, held.count);
  flag = λ j c l h.
      ⊎_elim
      (λ less. ap (λ fs. slice_index_or fs j false) pushed ∙ index_before old b j (omega (arith, less, held.count)) ∙ held.flag j c less h)
      (λ now.
      let same : m ≡ c = some_same m c (sym (slice_get-get_or s.modules k d within ∙ ap (λ x. Some x) (sym at)) ∙ ap (slice_get s.modules) (sym now) ∙ h) in
      ap (λ fs. slice_index_or fs j false) pushed
      ∙ ap (λ i. slice_index_or (old ++ b ∷ []) i false) (now ∙ sym held.count)
      ∙ index_last old b
      ∙ flag
      ∙ ap (λ x. not (x || has_many_instances (rooted s k))) (is ∙ ap (λ (q : Module). has_way 32 (instance_steps s) q.name) same)
      ∙ ap (λ i. not (has_way 32 (instance_steps s) c.name || has_many_instances (rooted s i))) (sym now))
      (less_or_same j k l);
}

pub judged_end : (s : System) (k : ℕ) (flags : List Bool) → length s.modules ≤ k → JudgedTo s k flags → (j : ℕ) (m : Module) → slice_get s.modules j ≡ Some m → slice_index_or flags j false ≡ is_judged (rooted s j, m)
judged_end s k flags past held j m h = let l = get_within s.modules j m h in held.flag j m (omega (arith, l, past)) h
