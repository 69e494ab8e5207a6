-- What heads of selections say, form by form.
use Rattle.std.proofs.Common.{◌≡◌, ℕ, Bool, true, false, List, [], ◌∷◌, ◌++◌, map, refl, ap, ◌∙◌, sym}
use Rattle.std.specs.Prelude.{pos}
use Rattle.uc_syntax.specs.declared.place.Identifier.{Identifier}
use Rattle.uc_syntax.specs.declared.expression.Expr.{Expr}
use Rattle.uc_syntax.specs.declared.expression.BitFunction.{BitFunction}
use Rattle.uc_syntax.specs.declared.expression.Primary.{Primary}
use Rattle.uc_syntax.specs.declared.expression.Primary.TheVariants.{Truth, Number, BitsLiteral, Name, Apply, OnBits, Old, Grouped}
use Rattle.uc_syntax.specs.declared.expression.Selection.{Selection}
use Rattle.uc_meaning.specs.declared.scope.Scope.{Scope}
use Rattle.uc_meaning.specs.declared.overflow.Wide.{Wide}
use Rattle.uc_meaning.specs.Lookup.{System}
use Rattle.uc_meaning.specs.Expressions.{Reading, reads, name, reading_through, reached, arrives, on_bits_reading}
use Rattle.uc_meaning.specs.Overflow.{name_met, met_through}
use Rattle.uc_meaning.proofs.Equations.{map-map}
use Rattle.uc_readings.specs.Readings.{on_bits_said}
use Rattle.uc_meaning.specs.Levels.{reading_at, type_at, value_at, met_at, select_all_at, selections_met_at, head_reading, head_rest, head_met}

on_bits_pair : (f : BitFunction) (rs : List Reading) → on_bits_said f (map (λ r. r.type) rs) (map (λ r. r.value) rs) ≡ on_bits_reading f rs
on_bits_pair f [] = refl
on_bits_pair f (r ∷ []) = refl
on_bits_pair f (r ∷ (q ∷ [])) = refl
on_bits_pair f (r ∷ (q ∷ (p ∷ rs))) = refl

module _ (n : ℕ) (system : System) (s : Scope) where
  pub on_bits_are : (f : BitFunction) (es : List Expr) → on_bits_said f (map (type_at n system s) es) (map (value_at n system s) es) ≡ on_bits_reading f (map (reading_at n system s) es)
  on_bits_are f es =
      (λ i. on_bits_said f (sym (map-map (λ r. r.type) (reading_at n system s) es) i) (sym (map-map (λ r. r.value) (reading_at n system s) es) i))
      ∙ on_bits_pair f (map (reading_at n system s) es)

  -- what stands before selections does not look at them, unless it is a name
  module _ (primary : Primary Expr) (xs : List (Selection Expr)) (unnamed : (x : ℕ) (p : Bool) → primary ≡ Name x p → ⊥) where
    pub other_head : head_reading n system s primary [] ≡ head_reading n system s primary xs
    other_head = by primary unnamed
      where
        by : (q : Primary Expr) → ((x : ℕ) (p : Bool) → q ≡ Name x p → ⊥) → head_reading n system s q [] ≡ head_reading n system s q xs
        by (Name x p) none = absurd (none x p refl)
        by (Truth b) none = refl
        by (Number k) none = refl
        by (BitsLiteral k w) none = refl
        by (Apply f es) none = refl
        by (OnBits f es) none = refl
        by (Old x) none = refl
        by (Grouped e) none = refl

    pub other_rest : xs ≡ head_rest system s primary xs
    other_rest = by primary unnamed
      where
        by : (q : Primary Expr) → ((x : ℕ) (p : Bool) → q ≡ Name x p → ⊥) → xs ≡ head_rest system s q xs
        by (Name x p) none = absurd (none x p refl)
        by (Truth b) none = refl
        by (Number k) none = refl
        by (BitsLiteral k w) none = refl
        by (Apply f es) none = refl
        by (OnBits f es) none = refl
        by (Old x) none = refl
        by (Grouped e) none = refl

    pub other_met : head_met n system s primary [] ≡ head_met n system s primary xs
    other_met = by primary unnamed
      where
        by : (q : Primary Expr) → ((x : ℕ) (p : Bool) → q ≡ Name x p → ⊥) → head_met n system s q [] ≡ head_met n system s q xs
        by (Name x p) none = absurd (none x p refl)
        by (Truth b) none = refl
        by (Number k) none = refl
        by (BitsLiteral k w) none = refl
        by (Apply f es) none = refl
        by (OnBits f es) none = refl
        by (Old x) none = refl
        by (Grouped e) none = refl

    pub other_selected : (h : Reading) (ys : List (Selection Expr)) → h ≡ head_reading n system s primary [] → ys ≡ xs →
        select_all_at n system s h ys ≡ select_all_at n system s (head_reading n system s primary xs) (head_rest system s primary xs)
    other_selected h ys is same = λ i. select_all_at n system s ((is ∙ other_head) i) ((same ∙ other_rest) i)

    pub other_selected_met : (ys : List (Selection Expr)) → ys ≡ xs →
        head_met n system s primary [] ++ selections_met_at n system s ys ≡ head_met n system s primary xs ++ selections_met_at n system s (head_rest system s primary xs)
    other_selected_met ys same = λ i. other_met i ++ selections_met_at n system s ((same ∙ other_rest) i)

  -- a name where it is reached
  module _ (primary : Primary Expr) (xs : List (Selection Expr)) (x : ℕ) (p : Bool) (is_name : primary ≡ Name x p)
      (there : Scope) (y : ℕ) (rest : List (Selection Expr)) (way : reached system s x p xs ≡ arrives there y p rest) where
    pub name_selected : (here : Scope) (h : Reading) (ys : List (Selection Expr)) → here ≡ there → h ≡ name system (reading_through n system) here y p → ys ≡ rest →
        select_all_at n system s h ys ≡ select_all_at n system s (head_reading n system s primary xs) (head_rest system s primary xs)
    name_selected here h ys at is same =
        (λ i. select_all_at n system s ((is ∙ ap (λ z. name system (reading_through n system) z y p) at) i) (same i))
        ∙ ap (λ r. select_all_at n system s (name system (reading_through n system) r.scope r.name r.primed) r.rest) (sym way)
        ∙ ap (λ q. select_all_at n system s (head_reading n system s q xs) (head_rest system s q xs)) (sym is_name)

    pub name_selected_met : (here : Scope) (ys : List (Selection Expr)) → here ≡ there → ys ≡ rest →
        name_met system (met_through n system) here y p ++ selections_met_at n system s ys ≡ head_met n system s primary xs ++ selections_met_at n system s (head_rest system s primary xs)
    name_selected_met here ys at same =
        (λ i. name_met system (met_through n system) (at i) y p ++ selections_met_at n system s (same i))
        ∙ ap (λ r. name_met system (met_through n system) r.scope r.name r.primed ++ selections_met_at n system s r.rest) (sym way)
        ∙ ap (λ q. head_met n system s q xs ++ selections_met_at n system s (head_rest system s q xs)) (sym is_name)
