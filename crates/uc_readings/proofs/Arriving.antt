-- Steps of the way to a name through instances.
use Rattle.std.proofs.Common.{◌≡◌, ℕ, suc, add-one, drop-cons, ◌+◌, ◌<◌, ◌≤◌, Bool, true, false, List, [], ◌∷◌, ◌++◌, length, drop, get_or, Option, Some, None, refl, ap, ◌∙◌, sym, arith}
use Rattle.std.specs.Prelude.{is_some}
use Rattle.std.specs.Option.{option_and_then}
use Rattle.std.proofs.lemmas.List.{drop_all}
use Rattle.uc_lexer.specs.declared.place.Place.{Place}
use Rattle.uc_syntax.specs.declared.place.Identifier.{Identifier}
use Rattle.uc_syntax.specs.declared.expression.Expr.{Expr}
use Rattle.uc_syntax.specs.declared.expression.Selection.{Selection}
use Rattle.uc_syntax.specs.declared.expression.Selection.TheVariants.{Field, Copy, Element, Update, Extract}
use Rattle.uc_meaning.specs.declared.scope.Scope.{Scope}
use Rattle.uc_meaning.specs.Lookup.{System, InstanceParts, module_at, instance_of}
use Rattle.uc_meaning.specs.Expressions.{Reached, reached, arrives, if_instance, at_copy}
use Rattle.uc_readings.specs.Scopes.{scope_at}

split : {A : Type 0} (xs : List A) (k : ℕ) (x d : A) → k < length xs → x ≡ get_or xs k d → drop k xs ≡ x ∷ drop (k + 1) xs
split xs k x d within is =
    drop-cons xs k d within ∙ (ap (λ y. y ∷ drop (suc k) xs) (sym is) ∙ ap (λ n. x ∷ drop n xs) (sym (add-one k)))

inside_is : {A : Type 0} (o : Option InstanceParts) (a b : A) → is_some o ≡ true → if_instance o a b ≡ a
inside_is (Some i) a b some = refl
inside_is None a b some = absurd cc

outside_is : {A : Type 0} (o : Option InstanceParts) (a b : A) → is_some o ≡ false → if_instance o a b ≡ b
outside_is None a b none = refl
outside_is (Some i) a b none = absurd cc

module _ (system : System) (s : Scope) (path : List ℕ) (b : Bool) (x : ℕ) (primed : Bool) (xs : List (Selection Expr)) (k : ℕ) (r : Reached Expr)
    (before : reached system (scope_at s path b) x primed (drop k xs) ≡ r) where
  abbrev instance_here : Option InstanceParts
  instance_here = option_and_then (λ m. instance_of m x) (module_at system path)

  pub moves : (c : Selection Expr) (p : Place) (y : Identifier) (longer : List ℕ) → k < length xs → c ≡ get_or xs k c → c ≡ Field p y → is_some instance_here ≡ true → longer ≡ path ++ x ∷ [] →
      reached system (scope_at s longer true) y.name primed (drop (k + 1) xs) ≡ r
  unfolding reached
  moves c p y longer within is form some e =
      ap (λ q. reached system (scope_at s q true) y.name primed (drop (k + 1) xs)) e
      ∙ sym (ap (reached system (scope_at s path b) x primed) (split xs k c c within is ∙ ap (λ z. z ∷ drop (k + 1) xs) form)
      ∙ inside_is instance_here _ _ some)
      ∙ before

  pub stops_at_field : (c : Selection Expr) (p : Place) (y : Identifier) → k < length xs → c ≡ get_or xs k c → c ≡ Field p y → is_some instance_here ≡ false →
      r ≡ arrives (scope_at s path b) x primed (drop k xs)
  unfolding reached
  stops_at_field c p y within is form none =
      sym before ∙ ap (reached system (scope_at s path b) x primed) (split xs k c c within is ∙ ap (λ z. z ∷ drop (k + 1) xs) form)
      ∙ outside_is instance_here _ _ none
      ∙ ap (arrives (scope_at s path b) x primed) (sym (split xs k c c within is ∙ ap (λ z. z ∷ drop (k + 1) xs) form))

  pub stops_at_copy : (c : Selection Expr) (p : Place) (n : ℕ) → k < length xs → c ≡ get_or xs k c → c ≡ Copy p n →
      r ≡ arrives (at_copy (scope_at s path b) n) x primed (drop (k + 1) xs)
  unfolding reached
  stops_at_copy c p n within is form =
      sym before ∙ ap (reached system (scope_at s path b) x primed) (split xs k c c within is ∙ ap (λ z. z ∷ drop (k + 1) xs) form)

  other_stops : (c : Selection Expr) (rest : List (Selection Expr)) → ((p : Place) (y : Identifier) → c ≡ Field p y → ⊥) → ((p : Place) (n : ℕ) → c ≡ Copy p n → ⊥) →
      reached system (scope_at s path b) x primed (c ∷ rest) ≡ arrives (scope_at s path b) x primed (c ∷ rest)
  unfolding reached
  other_stops (Field p y) rest not_field not_copy = absurd (not_field p y refl)
  other_stops (Copy p n) rest not_field not_copy = absurd (not_copy p n refl)
  other_stops (Element p i) rest not_field not_copy = refl
  other_stops (Update p i v) rest not_field not_copy = refl
  other_stops (Extract p h l) rest not_field not_copy = refl

  pub stops_at_other : (c : Selection Expr) → k < length xs → c ≡ get_or xs k c → ((p : Place) (y : Identifier) → c ≡ Field p y → ⊥) → ((p : Place) (n : ℕ) → c ≡ Copy p n → ⊥) →
      r ≡ arrives (scope_at s path b) x primed (drop k xs)
  stops_at_other c within is not_field not_copy =
      sym before ∙ ap (reached system (scope_at s path b) x primed) (split xs k c c within is)
      ∙ other_stops c (drop (k + 1) xs) not_field not_copy ∙ ap (arrives (scope_at s path b) x primed) (sym (split xs k c c within is))

  pub stops_at_end : length xs ≤ k → r ≡ arrives (scope_at s path b) x primed (drop (length xs) xs)
  unfolding reached
  stops_at_end past =
      sym before ∙ ap (reached system (scope_at s path b) x primed) (drop_all k xs past)
      ∙ ap (arrives (scope_at s path b) x primed) (sym (drop_all (length xs) xs (omega arith)))

pub starts : (system : System) (s : Scope) (path : List ℕ) (x : ℕ) (primed : Bool) (xs : List (Selection Expr)) → path ≡ s.path →
    reached system (scope_at s path false) x primed xs ≡ reached system s x primed xs
starts system s path x primed xs is = ap (λ p. reached system (scope_at s p false) x primed xs) is
