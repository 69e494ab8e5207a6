-- What the parts of a layer say, where each part is read by its own expression.
use Rattle.std.proofs.Common.{◌≡◌, ℕ, ◌+◌, Bool, true, List, [], ◌∷◌, ◌++◌, map, Option, Some, None, refl, ap, ◌∙◌, sym, subst}
use Rattle.std.specs.List.{flat_map}
use Rattle.std.specs.Prelude.{if◌then◌else◌}
use Rattle.uc_lexer.specs.declared.place.Place.{Place}
use Rattle.uc_syntax.specs.declared.expression.Expr.{Expr}
use Rattle.uc_syntax.specs.declared.expression.Expr.TheOpen.{Expr-F}
use Rattle.uc_syntax.specs.declared.expression.Expr.TheOpen.Expr-F.{If as IfForm, Selected as SelectedForm}
use Rattle.uc_syntax.specs.declared.expression.Expr.TheFolds.{fold-Expr, map-Expr}
use Rattle.uc_syntax.specs.declared.expression.Branch.{Branch}
use Rattle.uc_syntax.specs.declared.expression.Primary.{Primary}
use Rattle.uc_syntax.specs.declared.expression.Primary.TheVariants.{Truth, Number, BitsLiteral, Name, Apply, OnBits, Old, Grouped}
use Rattle.uc_syntax.specs.declared.expression.Selection.{Selection}
use Rattle.uc_syntax.specs.declared.expression.Selection.TheVariants.{Field, Copy, Element, Update, Extract}
use Rattle.uc_syntax.proofs.Added.{append_nil}
use Rattle.uc_syntax.proofs.Labels.{flat_map_map}
use Rattle.uc_meaning.specs.declared.scope.Scope.{Scope}
use Rattle.uc_meaning.specs.declared.overflow.Wide.{Wide}
use Rattle.uc_meaning.specs.Lookup.{System, InstanceParts}
use Rattle.uc_meaning.specs.Operators.{holds}
use Rattle.uc_meaning.specs.Expressions.{Part, Reading, Elsewhere, Reached, reading_by, reading_through, values, first_type, total_width, width, chosen, select, select_all, reached, if_instance, instance_at, at_path}
use Rattle.uc_meaning.specs.Overflow.{Traced, Met, MetElsewhere, traced_form, met_by, met_through, all_met, traced_value, traced_values, chosen_met, selection_met, selections_met}
use Rattle.uc_meaning.proofs.Equations.{map-map}
use Rattle.uc_meaning.proofs.Traces.{part_is}
use Rattle.uc_meaning.specs.Levels.{reading_at, type_at, value_at, met_at, chosen_at, chosen_met_at, select_at, select_all_at, selection_met_at, selections_met_at}
use Rattle.uc_meaning.specs.Shapes.{first_of, widths}

abbrev pub selections_of : {X : Type 0} → Expr-F X → List (Selection X)
selections_of (SelectedForm p primary selections) = selections
selections_of other = []

abbrev pub branches_of : {X : Type 0} → Expr-F X → List (Branch X)
branches_of (IfForm p branches otherwise) = branches
branches_of other = []

abbrev pub primary_of : {X : Type 0} → Expr-F X → Primary X
primary_of (SelectedForm p primary selections) = primary
primary_of other = Truth true

-- a name with its selections, where each selection is read by its own expression
module _ {C : Type 0} (g : Expr → C) (place : Place) (primary : Primary Expr) where
  abbrev pub inside : List (Selection Expr) → List (Selection C)
  inside xs = selections_of (map-Expr Expr C g (SelectedForm place primary xs))

  abbrev pub moved : Reached Expr → Reached C
  moved r = record { scope = r.scope; name = r.name; primed = r.primed; rest = inside r.rest }

  through : (o : Option InstanceParts) (a b : Reached Expr) (c d : Reached C) → c ≡ moved a → d ≡ moved b → if_instance o c d ≡ moved (if_instance o a b)
  through (Some i) a b c d first second = first
  through None a b c d first second = second

  pub reached_is : (system : System) (s : Scope) (x : ℕ) (primed : Bool) (xs : List (Selection Expr)) → reached system s x primed (inside xs) ≡ moved (reached system s x primed xs)
  unfolding reached
  reached_is system s x primed [] = refl
  reached_is system s x primed (Field q y ∷ xs) =
      through (instance_at system s x) _ _ _ _ (reached_is system (at_path s (s.path ++ x ∷ [])) y.name primed xs) refl
  reached_is system s x primed (Copy q k ∷ xs) = refl
  reached_is system s x primed (Element q i ∷ xs) = refl
  reached_is system s x primed (Update q i v ∷ xs) = refl
  reached_is system s x primed (Extract q h l ∷ xs) = refl

module _ (n : ℕ) (system : System) (s : Scope) where
  abbrev pub part : Expr → Part
  part e = reading_by system (reading_through n system) e

  abbrev pub traced : Expr → Traced
  traced e = fold-Expr Traced (traced_form system (reading_through n system) (met_through n system)) e

  pub traced_is : (e : Expr) → (traced e).part ≡ part e
  traced_is e = part_is system (reading_through n system) (met_through n system) e

  pub met_is : (e : Expr) → (traced e).met s ≡ met_at n system s e
  unfolding met_by
  met_is e = refl

  pub values_are : (es : List Expr) → values (map part es) s ≡ map (value_at n system s) es
  values_are es = map-map (λ p. (p s).value) part es

  pub first_is : (es : List Expr) → first_type (map part es) s ≡ first_of (map (type_at n system s) es)
  first_is [] = refl
  first_is (e ∷ es) = refl

  pub widths_are : (es : List Expr) → total_width (map part es) s ≡ widths (map (type_at n system s) es)
  unfolding total_width widths
  widths_are [] = refl
  widths_are (e ∷ es) = ap (λ k. width (type_at n system s e) + k) (widths_are es)

  pub value_is : (e : Expr) → traced_value (traced e) s ≡ value_at n system s e
  value_is e = ap (λ p. (p s).value) (traced_is e)

  pub traced_are : (es : List Expr) → traced_values (map traced es) s ≡ map (value_at n system s) es
  traced_are [] = refl
  traced_are (e ∷ es) = ap (λ v. v ∷ traced_values (map traced es) s) (value_is e) ∙ ap (λ vs. value_at n system s e ∷ vs) (traced_are es)

  pub all_are : (es : List Expr) → all_met (map traced es) s ≡ flat_map (met_at n system s) es
  unfolding met_by
  all_are es = flat_map_map (λ t. t.met s) traced es

  pub chosen_is : (place : Place) (bs : List (Branch Expr)) (otherwise z : Expr) →
      chosen (branches_of (map-Expr Expr Part part (IfForm place bs z))) (part otherwise) s ≡ chosen_at n system s bs otherwise
  unfolding chosen_at
  chosen_is place [] otherwise z = refl
  chosen_is place (b ∷ bs) otherwise z =
      ap (λ r. if holds (value_at n system s b.condition) then reading_at n system s b.value else r) (chosen_is place bs otherwise z)

  pub chosen_meets : (place : Place) (bs : List (Branch Expr)) (otherwise z : Expr) →
      chosen_met (branches_of (map-Expr Expr Traced traced (IfForm place bs z))) (traced otherwise) s ≡ chosen_met_at n system s bs otherwise
  unfolding chosen_met_at met_by
  chosen_meets place [] otherwise z = refl
  chosen_meets place (b ∷ bs) otherwise z =
      ap (λ v. met_at n system s b.condition ++ (if holds v then met_at n system s b.value else chosen_met (branches_of (map-Expr Expr Traced traced (IfForm place bs z))) (traced otherwise) s)) (value_is b.condition)
      ∙ ap (λ ws. met_at n system s b.condition ++ (if holds (value_at n system s b.condition) then met_at n system s b.value else ws)) (chosen_meets place bs otherwise z)

  pub selected_is : (place : Place) (primary : Primary Expr) (r : Reading) (xs : List (Selection Expr)) →
      select_all s r (inside part place primary xs) ≡ select_all_at n system s r xs
  unfolding select_all select_all_at
  selected_is place primary r [] = refl
  selected_is place primary r (Field q y ∷ xs) = selected_is place primary (select_at n system s r (Field q y)) xs
  selected_is place primary r (Copy q k ∷ xs) = selected_is place primary r xs
  selected_is place primary r (Element q i ∷ xs) = selected_is place primary (select_at n system s r (Element q i)) xs
  selected_is place primary r (Update q i v ∷ xs) = selected_is place primary (select_at n system s r (Update q i v)) xs
  selected_is place primary r (Extract q h l ∷ xs) = selected_is place primary (select_at n system s r (Extract q h l)) xs

  pub selections_meet : (place : Place) (primary : Primary Expr) (xs : List (Selection Expr)) →
      selections_met s (inside traced place primary xs) ≡ selections_met_at n system s xs
  unfolding met_by
  selections_meet place primary [] = refl
  selections_meet place primary (Field q y ∷ xs) = selections_meet place primary xs
  selections_meet place primary (Copy q k ∷ xs) = selections_meet place primary xs
  selections_meet place primary (Element q i ∷ xs) = ap (λ ws. met_at n system s i ++ ws) (selections_meet place primary xs)
  selections_meet place primary (Update q i v ∷ xs) = ap (λ ws. (met_at n system s i ++ met_at n system s v) ++ ws) (selections_meet place primary xs)
  selections_meet place primary (Extract q h l ∷ xs) = selections_meet place primary xs
