-- What the next choice says, and variables that are declared one after another.
use Rattle.std.proofs.Common.{◌≡◌, ℕ, zero, suc, ◌+◌, ◌<◌, Bool, true, false, List, [], ◌∷◌, map, length, drop, Option, Some, None, refl, ap, ◌∙◌, sym, arith}
use Rattle.std.specs.Prelude.{if◌then◌else◌, slice_get}
use Rattle.uc_syntax.specs.declared.type_expression.TypeExpr.{TypeExpr}
use Rattle.uc_syntax.specs.declared.declaration.Module.{Module}
use Rattle.uc_values.specs.declared.ty.Ty.{Ty}
use Rattle.uc_values.specs.declared.value.Value.{Value}
use Rattle.uc_values.specs.Values.{fits}
use Rattle.uc_meaning.specs.Lookup.{System}
use Rattle.uc_meaning.specs.Types.{type_of_written}
use Rattle.uc_meaning.specs.Code.{Running, Execution, Ending as HowItEnds, Goes as GoesOn, Unfit, then_run, choose, take_choice, declare, push_local}
use Rattle.uc_meaning.proofs.Lists.{drop_at, drop_past}
use Rattle.uc_runs.specs.Parts.{fitting}
use Rattle.uc_runs.specs.declared.run.Run.{Run}
use Rattle.uc_runs.specs.declared.run.Ending.{Ending}
use Rattle.uc_runs.specs.declared.run.Ending.TheVariants.{Goes}
use Rattle.uc_runs.specs.Runs.{running, ending_of}

module _ (t : Ty) (choices : List Value) (k : ℕ) where
  picked : (v w : Value) (b : Bool) → Some v ≡ (if b then Some w else None) → (w ≡ v) × (b ≡ true)
  picked v w true is = (cc, refl)
  picked v w false is = absurd (cc)

  not_picked : (w : Value) (b : Bool) → None ≡ (if b then Some w else None) → b ≡ false
  not_picked w true is = absurd (cc)
  not_picked w false is = refl

  there : (o : Option Value) (v : Value) → Some v ≡ fitting t o → (o ≡ Some v) × (fits t v ≡ true)
  there None v is = absurd (cc)
  there (Some w) v is =
      let found = picked v w (fits t w) is in
      (ap (λ x. Some x) found.0, ap (fits t) (sym found.0) ∙ found.1)

  within_list : {A : Type 0} (xs : List A) (n : ℕ) (x : A) → slice_get xs n ≡ Some x → n < length xs
  within_list [] n x is = absurd (cc)
  within_list (y ∷ ys) zero x is = omega arith
  within_list (y ∷ ys) (suc n) x is = omega (arith, within_list ys n x is)

  pub is_within : (v : Value) → Some v ≡ fitting t (slice_get choices k) → k < length choices
  is_within v is = within_list choices k v (there (slice_get choices k) v is).0

  module _ (go : Value → Execution) where
    pub chooses : (r : Run) (v : Value) → r.used ≡ k → Some v ≡ fitting t (slice_get choices k) → choose t go (running choices r) ≡ go v (running choices (record r { used = r.used + 1 }))
    chooses r v at is =
        ap (λ left. take_choice t go left (running choices r)) (ap (λ n. drop n choices) at ∙ drop_at choices k v (there (slice_get choices k) v is).0)
        ∙ ap (λ b. if b then go v (record (running choices r) { left = drop (k + 1) choices }) else Unfit (v ∷ drop (k + 1) choices)) (there (slice_get choices k) v is).1
        ∙ ap (λ n. go v (record (running choices r) { left = drop (n + 1) choices })) (sym at)

    unfit : (r : Running) (o : Option Value) → None ≡ fitting t o → o ≡ slice_get choices k → take_choice t go (drop k choices) r ≡ Unfit (drop k choices)
    unfit r None is of = ap (λ left. take_choice t go left r) (drop_past choices k (sym of)) ∙ ap Unfit (sym (drop_past choices k (sym of)))
    unfit r (Some w) is of =
        ap (λ left. take_choice t go left r) (drop_at choices k w (sym of))
        ∙ ap (λ b. if b then go w (record r { left = drop (k + 1) choices }) else Unfit (w ∷ drop (k + 1) choices)) (not_picked w (fits t w) is)
        ∙ ap Unfit (sym (drop_at choices k w (sym of)))

    pub refuses : (r : Run) → r.used ≡ k → None ≡ fitting t (slice_get choices k) → Unfit (drop r.used choices) ≡ choose t go (running choices r)
    refuses r at is =
        ap (λ n. Unfit (drop n choices)) at
        ∙ sym (unfit (running choices r) (slice_get choices k) is refl)
        ∙ ap (λ n. take_choice t go (drop n choices) (running choices r)) (sym at)

-- variables that are declared, by their names and written types
module _ {A : Type 0} (system : System) (m : Module) (f : A → ℕ × TypeExpr) where
  abbrev pub declare_one : A → Execution
  declare_one x = choose (type_of_written system m (f x).1) (λ v r. GoesOn (push_local (f x).0 (type_of_written system m (f x).1) v r))

  abbrev pub declare_all : List A → Execution
  declare_all xs = declare system m (map f xs)

  pub declares_none : (r : Running) → declare_all [] r ≡ GoesOn r
  unfolding declare
  declares_none r = refl

  takes : (t : Ty) (go : Value → Execution) (next : Execution) (left : List Value) (r : Running) → take_choice t (λ v r'. then_run (go v r') next) left r ≡ then_run (take_choice t go left r) next
  takes t go next [] r = refl
  takes t go next (v ∷ rest) r = by (fits t v)
    where
      by : (b : Bool) → (if b then then_run (go v (record r { left = rest })) next else Unfit (v ∷ rest)) ≡ then_run (if b then go v (record r { left = rest }) else Unfit (v ∷ rest)) next
      by true = refl
      by false = refl

  pub declares_next : (x : A) (xs : List A) (r : Running) → declare_all (x ∷ xs) r ≡ then_run (declare_one x r) (declare_all xs)
  unfolding declare
  declares_next x xs r = takes (type_of_written system m (f x).1) (λ v r'. GoesOn (push_local (f x).0 (type_of_written system m (f x).1) v r')) (declare_all xs) r.left r

  module _ (choices : List Value) (xs : List A) where
    -- none is left
    pub declares_all : (r : Run) → length xs ≡ 0 → GoesOn (running choices r) ≡ declare_all xs (running choices r)
    declares_all r none = sym (ap (λ ys. declare_all ys (running choices r)) (no_more xs none) ∙ declares_none (running choices r))
      where
        no_more : (ys : List A) → length ys ≡ 0 → ys ≡ []
        no_more [] h = refl
        no_more (y ∷ ys) h = absurd (omega (arith, h))

    -- the first, and the others behind it
    pub declares_first : (x : A) (rest : List A) → xs ≡ x ∷ rest → (r : Run) (e : Ending) → ending_of choices e ≡ declare_one x (running choices r) →
        then_run (ending_of choices e) (declare_all rest) ≡ declare_all xs (running choices r)
    declares_first x rest split r e one =
        ap (λ end. then_run end (declare_all rest)) one ∙ sym (ap (λ ys. declare_all ys (running choices r)) split ∙ declares_next x rest (running choices r))

  module _ (choices : List Value) (rest : List A) (e : Ending) where
    pub declares_goes : (r : Run) → e ≡ Goes r → {end : HowItEnds} → then_run (ending_of choices e) (declare_all rest) ≡ end → declare_all rest (running choices r) ≡ end
    declares_goes r is all = ap (λ f. then_run (ending_of choices f) (declare_all rest)) (sym is) ∙ all

    pub declares_ends : (f : Ending) → e ≡ f → {end : HowItEnds} → then_run (ending_of choices e) (declare_all rest) ≡ end → then_run (ending_of choices f) (declare_all rest) ≡ end
    declares_ends f is all = ap (λ g. then_run (ending_of choices g) (declare_all rest)) (sym is) ∙ all
