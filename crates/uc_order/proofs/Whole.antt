-- The limits on the whole are judged as far as nothing that they rest on is at fault.
use Rattle.std.specs.Prelude.{not, is_some, is_none}
use Rattle.std.proofs.Common.{◌≡◌, Bool, true, false, ◌&&◌, ◌||◌, if◌then◌else◌, List, [], ◌∷◌, ◌++◌, refl, sym, ap, ◌∙◌, Option, Some, None}
use Rattle.std.specs.List.{flat_map, list_any}
use Rattle.uc_meaning.specs.Lookup.{System, main_module}
use Rattle.uc_meaning.specs.Cells.{as_list}
use Rattle.uc_rules.specs.declared.fault.Fault.{Fault}
use Rattle.uc_rules.specs.declared.rule.Rule.TheVariants.{TooLarge}
use Rattle.uc_rules.specs.Faults.{sooner, first_of, breaks_where}
use Rattle.uc_rules.proofs.Chains.{first_of_append}
use Rattle.uc_values.proofs.Shapes.{and_true}
use Rattle.uc_order_rules.specs.Writes.{is_empty}
use Rattle.uc_order_rules.specs.Sizes.{is_too_large}
use Rattle.uc_order_rules.specs.Order.{cycles, loop_faults, enum_faults, size_faults, whole_faults, whole_faults_if, has_large_tree, has_long_uses, roots}

some_stays : (g : Fault) (fs : List Fault) → first_of (Some g) fs ≡ None → ⊥
unfolding first_of
some_stays g [] h = cc
some_stays g (f ∷ fs) h = by (sooner f g) h (some_stays f fs) (some_stays g fs)
  where
    by : (b : Bool) → first_of (if b then Some f else Some g) fs ≡ None → (first_of (Some f) fs ≡ None → ⊥) → (first_of (Some g) fs ≡ None → ⊥) → ⊥
    by true h one other = one h
    by false h one other = other h

nothing_kept : (fs : List Fault) → first_of None fs ≡ None → fs ≡ []
unfolding first_of
nothing_kept [] h = refl
nothing_kept (f ∷ fs) h = absurd (some_stays f fs h)

empty_is : (xs : List Fault) → is_empty xs ≡ true → xs ≡ []
empty_is [] h = refl
empty_is (x ∷ xs) h = cc

first_empty : (xs ys : List Fault) → xs ++ ys ≡ [] → is_empty xs && is_empty ys ≡ true
first_empty [] [] h = refl
first_empty [] (y ∷ ys) h = cc
first_empty (x ∷ xs) ys h = cc

-- what the test for nothing tells
pub none_told : (o : Option Fault) (b : Bool) → is_some o ≡ not b → b ≡ is_none o
none_told None true h = refl
none_told None false h = cc
none_told (Some f) true h = cc
none_told (Some f) false h = refl

-- nothing was noted exactly where there is no cycle
acyclic_is : (s : System) (o : Option Fault) → first_of None (cycles s) ≡ o → is_empty (cycles s) ≡ is_none o
unfolding first_of
acyclic_is s None none = ap is_empty (nothing_kept (cycles s) none)
acyclic_is s (Some f) some = by (is_empty (cycles s)) refl
  where
    by : (b : Bool) → is_empty (cycles s) ≡ b → b ≡ false
    by false e = refl
    by true e = let none : first_of None (cycles s) ≡ None = ap (λ xs. first_of None xs) (empty_is (cycles s) e) in cc

-- and where there is no loop at fault either
bounded_is : (s : System) (o : Option Fault) → first_of (first_of None (cycles s)) (loop_faults s) ≡ o → is_empty (cycles s) && is_empty (loop_faults s) ≡ is_none o
unfolding first_of
bounded_is s None none = first_empty (cycles s) (loop_faults s) (nothing_kept (cycles s ++ loop_faults s) (first_of_append None (cycles s) (loop_faults s) ∙ none))
bounded_is s (Some f) some = by (is_empty (cycles s) && is_empty (loop_faults s)) refl
  where
    by : (b : Bool) → is_empty (cycles s) && is_empty (loop_faults s) ≡ b → b ≡ false
    by false e = refl
    by true e =
        let both = and_true e in
        let none : first_of (first_of None (cycles s)) (loop_faults s) ≡ None = ap (λ xs. first_of (first_of None xs) (loop_faults s)) (empty_is (cycles s) both.0) ∙ ap (λ ys. first_of None ys) (empty_is (loop_faults s) both.1) in
        cc

-- loops and enums are noted behind the cycles, and then what is to be noted of the whole
pub noted_whole : (s : System) (old loops mid new : Option Fault) (acyclic bounded : Bool) → old ≡ first_of None (cycles s) → acyclic ≡ is_none old → loops ≡ first_of old (loop_faults s) → bounded ≡ is_none loops
    → mid ≡ first_of loops (enum_faults s) → new ≡ first_of mid (whole_faults_if s acyclic bounded) → new ≡ first_of old (size_faults s ++ whole_faults s)
noted_whole s old loops mid new acyclic bounded before a looped b sized judged =
    judged
    ∙ ap (λ x. first_of mid (whole_faults_if s x bounded)) (a ∙ sym (acyclic_is s old (sym before)))
    ∙ ap (λ y. first_of mid (whole_faults_if s (is_empty (cycles s)) y)) (b ∙ sym (bounded_is s loops (sym (looped ∙ ap (λ o. first_of o (loop_faults s)) before))))
    ∙ ap (λ o. first_of o (whole_faults s)) (sized ∙ ap (λ o. first_of o (enum_faults s)) looped ∙ sym (first_of_append old (loop_faults s) (enum_faults s)))
    ∙ sym (first_of_append old (size_faults s) (whole_faults s))

-- a design without a main module has no place for what passes a limit
pub no_main : (s t : System) (a b : Bool) (o : Option Fault) → None ≡ main_module t → t ≡ s → o ≡ first_of o (whole_faults_if s a b)
unfolding first_of
no_main s t a b o none same =
    ap (λ m. first_of o (flat_map (λ k. breaks_where (has_large_tree s || ((a && list_any has_long_uses (roots s)) || (b && is_too_large s))) TooLarge k.place) (as_list m))) (none ∙ ap main_module same)
