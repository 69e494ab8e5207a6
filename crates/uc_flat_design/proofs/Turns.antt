-- Code over cells one piece after another, and cells that keep their types.
use Rattle.std.proofs.Common.{◌≡◌, ℕ, zero, suc, List, [], ◌∷◌, ◌++◌, map, refl, sym, ap, ◌∙◌, Option, Some, None, true}
use Rattle.std.specs.Prelude.{slice_get, slice_set}
use Rattle.std.specs.Option.{option_and_then}
use Rattle.std.proofs.lemmas.List.{map-append}
use Rattle.uc_values.specs.declared.ty.Ty.{Ty}
use Rattle.uc_values.specs.declared.value.Value.{Value}
use Rattle.uc_values.specs.Values.{fits}
use Rattle.uc_ops.specs.declared.model.Model.{Model}
use Rattle.uc_ops.specs.Meaning.{part}
use Rattle.uc_flat.specs.declared.statement.Statement.{Statement}
use Rattle.uc_flat.specs.Executions.{FitAll}
use Rattle.uc_flat.specs.Running.{Placed, Execution, in_turn, runs, run_all}
use Rattle.uc_flat_design.proofs.FlatInitLawOptions.{some_same}

in_turn_append : (xs ys : List Execution) (p : Placed) → in_turn (xs ++ ys) p ≡ option_and_then (in_turn ys) (in_turn xs p)
unfolding in_turn
in_turn_append [] ys p = refl
in_turn_append (x ∷ xs) ys p = onward (in_turn_append xs ys) (x p)
  where
    onward : ((q : Placed) → in_turn (xs ++ ys) q ≡ option_and_then (in_turn ys) (in_turn xs q)) → (o : Option Placed) → option_and_then (in_turn (xs ++ ys)) o ≡ option_and_then (in_turn ys) (option_and_then (in_turn xs) o)
    onward rest None = refl
    onward rest (Some q) = rest q

pub run_append : (m : Model) (types : List Ty) (xs ys : List Statement) (p : Placed) → run_all m types (xs ++ ys) p ≡ option_and_then (run_all m types ys) (run_all m types xs p)
unfolding run_all
run_append m types xs ys p = ap (λ ws. in_turn ws p) (map-append (runs m types) xs ys) ∙ in_turn_append (map (runs m types) xs) (map (runs m types) ys) p

pub run_none : (m : Model) (types : List Ty) (p : Placed) → run_all m types [] p ≡ Some p
unfolding run_all in_turn
run_none m types p = refl

pub run_one : (m : Model) (types : List Ty) (x : Statement) (p : Placed) → run_all m types (x ∷ []) p ≡ runs m types x p
unfolding run_all in_turn
run_one m types x p = ended (runs m types x p)
  where
    ended : (o : Option Placed) → option_and_then (in_turn []) o ≡ o
    ended None = refl
    ended (Some q) = refl

pub run_is : (m : Model) (types : List Ty) (xs : List Statement) (p : Placed) → in_turn (map (runs m types) xs) p ≡ run_all m types xs p
unfolding run_all
run_is m types xs p = refl

-- a cell is given a value that fits
pub fit_set : (types : List Ty) (values : List Value) (k : ℕ) (ty : Ty) (v : Value) → slice_get types k ≡ Some ty → fits ty v ≡ true → FitAll types values → FitAll types (slice_set values k v)
unfolding FitAll
fit_set [] values k ty v h f g = absurd (cc)
fit_set (t ∷ types) [] k ty v h f g = absurd g
fit_set (t ∷ types) (w ∷ values) zero ty v h f g = (ap (λ u. fits u v) (some_same t ty h) ∙ f, g.1)
fit_set (t ∷ types) (w ∷ values) (suc k) ty v h f g = (g.0, fit_set types values k ty v h f g.1)

-- a cell has a value that fits
pub fit_part : (types : List Ty) (values : List Value) (k : ℕ) (ty : Ty) → FitAll types values → slice_get types k ≡ Some ty → fits ty (part values k) ≡ true
unfolding FitAll
fit_part [] values k ty h e = absurd (cc)
fit_part (t ∷ types) [] k ty h e = absurd h
fit_part (t ∷ types) (v ∷ values) zero ty h e = ap (λ s. fits s v) (some_same ty t (sym e)) ∙ h.0
fit_part (t ∷ types) (v ∷ values) (suc k) ty h e = fit_part types values k ty h.1 e
