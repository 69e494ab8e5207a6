-- Cells after their parts were given values.
use Rattle.std.proofs.Common.{◌≡◌, ℕ, zero, suc, ◌<◌, List, [], ◌∷◌, length, refl, sym, ap, ◌∙◌, subst, true, false, Bool, Option, Some, None, arith}
use Rattle.std.specs.Prelude.{if◌then◌else◌, slice_get}
use Rattle.uc_values.specs.declared.ty.Ty.{Ty}
use Rattle.uc_values.specs.declared.value.Value.{Value}
use Rattle.uc_values.specs.Values.{fits, nothing}
use Rattle.uc_meaning.specs.Expressions.{reads}
use Rattle.uc_meaning.specs.Steps.{part_reading}
use Rattle.uc_ops.specs.Typing.{part_type}
use Rattle.uc_ops.specs.Meaning.{part}
use Rattle.uc_flat.specs.Executions.{FitAll}
use Rattle.uc_flat_design.proofs.FlatInitLawOptions.{then_some, map_some, some_same}
use Rattle.uc_flat_design.proofs.Turns.{fit_set}
use Rattle.uc_flat_design.proofs.Fields.{placed, placed_fits, part_type_same, IsPath, path_part}
use Rattle.uc_flat_design.proofs.Effects.{Effect, reading_at, type_of_part, given_value, put, performs, performed, none_some}

abbrev pub FitsValue : Ty → Option Value → Type 0
FitsValue ty None = Unit {0}
FitsValue ty (Some v) = fits ty v ≡ true

-- each part is there, and what it is given fits its type
abbrev pub FineAll : List Ty → List Effect → Type 0
FineAll types [] = Unit {0}
FineAll types (x ∷ xs) = (x.0 < length types) × IsPath (part_type types x.0) x.1 × FitsValue (type_of_part types x) x.2 × FineAll types xs

pub type_there : (types : List Ty) (k : ℕ) → k < length types → slice_get types k ≡ Some (part_type types k)
type_there [] k l = absurd (omega (arith, l))
type_there (t ∷ types) zero l = refl
type_there (t ∷ types) (suc k) l = type_there types k (omega (arith, l))

pub fit_at : (types : List Ty) (values : List Value) (k : ℕ) → FitAll types values → k < length types → fits (part_type types k) (part values k) ≡ true
unfolding FitAll
fit_at [] values k h l = absurd (omega (arith, l))
fit_at (ty ∷ types) [] k h l = absurd h
fit_at (ty ∷ types) (v ∷ values) zero h l = h.0
fit_at (ty ∷ types) (v ∷ values) (suc k) h l = fit_at types values k h.1 (omega (arith, l))

-- A value that was given: it fits, and the part has it.
pub record IsLeft (types : List Ty) (x : Effect) (cells others : List Value) (q : List Value × List Value) : Type 0 where
  pub value : Value
  pub is : q.0 ≡ put types cells x value
  pub fit : fits (type_of_part types x) value ≡ true
  pub own : (u : Value) → x.2 ≡ Some u → u ≡ value

given_left : (ty : Ty) (o : Option Value) (others : List Value) (q : Value × List Value) → FitsValue ty o → given_value ty o others ≡ Some q → (fits ty q.0 ≡ true) × ((u : Value) → o ≡ Some u → u ≡ q.0)
given_left ty None [] q f h = absurd (none_some q h)
given_left ty None (v ∷ rest) q f h = by_test (fits ty v) refl
  where
    by_test : (b : Bool) → fits ty v ≡ b → (fits ty q.0 ≡ true) × ((u : Value) → None ≡ Some u → u ≡ q.0)
    by_test true e = (subst (λ (p : Value × List Value). fits ty p.0 ≡ true) (some_same (v, rest) q (sym (ap (λ b. if b then Some (v, rest) else None) e) ∙ h)) e, λ u c. absurd (none_some u c))
    by_test false e = absurd (none_some q (sym (ap (λ b. if b then Some (v, rest) else None) e) ∙ h))
given_left ty (Some v) others q f h =
    let e : v ≡ q.0 = ap (λ (p : Value × List Value). p.0) (some_same (v, others) q h) in
    (ap (fits ty) (sym e) ∙ f, λ u c. sym (some_same v u c) ∙ e)

pub one_left : (types : List Ty) (x : Effect) (cells others : List Value) (q : List Value × List Value) → FitsValue (type_of_part types x) x.2 → performs types x cells others ≡ Some q → IsLeft types x cells others q
one_left types x cells others q f h =
    let s = map_some (λ (p : Value × List Value). (put types cells x p.0, p.1)) (given_value (type_of_part types x) x.2 others) q h in
    let g = given_left (type_of_part types x) x.2 others s.0 f s.1 in
    record { value = s.0.0; is = ap (λ (p : List Value × List Value). p.0) (sym s.2); fit = g.0; own = g.1 }

-- the type of a part, whatever the cells have
pub part_type_is : (types : List Ty) (cells : List Value) (x : Effect) → (part_reading (reading_at types cells x.0) x.1).type ≡ type_of_part types x
part_type_is types cells x = part_type_same x.1 (reading_at types cells x.0) (reads (part_type types x.0) nothing) refl

pub put_fits : (types : List Ty) (x : Effect) (cells : List Value) (v : Value) → x.0 < length types → IsPath (part_type types x.0) x.1 → FitAll types cells → fits (type_of_part types x) v ≡ true → FitAll types (put types cells x v)
put_fits types x cells v l p f g =
    let r = reading_at types cells x.0 in
    fit_set types cells x.0 (part_type types x.0) (placed r x.1 v) (type_there types x.0 l)
    (placed_fits x.1 r v (fit_at types cells x.0 f l) (path_part (part_type types x.0) x.1 p) (ap (λ t. fits t v) (part_type_is types cells x) ∙ g)) f

pub left_fits : (types : List Ty) (ms : List Effect) (xs vs : List Value) (q : List Value × List Value) → FineAll types ms → FitAll types xs → performed types ms xs vs ≡ Some q → FitAll types q.0
left_fits types [] xs vs q f g h = subst (λ (p : List Value × List Value). FitAll types p.0) (some_same (xs, vs) q h) g
left_fits types (x ∷ ms) xs vs q f g h =
    let s = then_some (λ (p : List Value × List Value). performed types ms p.0 p.1) (performs types x xs vs) q h in
    let z = s.0 in
    let o = one_left types x xs vs z f.2 s.1 in
    left_fits types ms z.0 z.1 q f.3 (subst (FitAll types) (sym o.is) (put_fits types x xs o.value f.0 f.1 g o.fit)) s.2
