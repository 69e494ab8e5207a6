-- Faults that are noted part by part.
use Rattle.std.proofs.Common.{◌≡◌, List, [], ◌∷◌, ◌++◌, refl, sym, ap, ◌∙◌, Option, None, append_assoc}
use Rattle.std.specs.List.{flat_map}
use Rattle.uc_meaning.specs.Lookup.{System}
use Rattle.uc_rules.specs.declared.fault.Fault.{Fault}
use Rattle.uc_rules.specs.Faults.{first_of}
use Rattle.uc_rules.proofs.Chains.{first_of_append}
use Rattle.uc_rules.proofs.Swaps.{any_order}
use Rattle.uc_syntax.specs.declared.declaration.Module.{Module}
use Rattle.uc_order_rules.specs.Stepped.{stepped_twice}
use Rattle.uc_order_rules.specs.Writes.{twice_in_step, twice_in_code, sequential_in}
use Rattle.uc_order_rules.specs.Order.{roots, cycles, dependence_in, twice_faults, step_faults, size_faults, whole_faults, order_faults}

-- two faults of each thing, all of the first kind before all of the second
pub noted_both : {A : Type 0} (f g : A → List Fault) (xs : List A) (o : Option Fault)
    → first_of (first_of o (flat_map f xs)) (flat_map g xs) ≡ first_of o (flat_map (λ x. f x ++ g x) xs)
unfolding first_of
noted_both f g [] o = refl
noted_both f g (x ∷ xs) o =
    ap (λ p. first_of p (g x ++ flat_map g xs)) (first_of_append o (f x) (flat_map f xs))
    ∙ first_of_append (first_of (first_of o (f x)) (flat_map f xs)) (g x) (flat_map g xs)
    ∙ ap (λ p. first_of p (flat_map g xs)) (any_order (first_of o (f x)) (flat_map f xs) (g x))
    ∙ noted_both f g xs (first_of (first_of o (f x)) (g x))
    ∙ sym (first_of_append o (f x ++ g x) (flat_map (λ y. f y ++ g y) xs) ∙ ap (λ p. first_of p (flat_map (λ y. f y ++ g y) xs)) (first_of_append o (f x) (g x)))

-- what a module's own text shows: targets that sequential code names twice, and instances that are stepped twice
abbrev pub own_twice : Module → List Fault
own_twice m = flat_map (λ d. twice_in_code (sequential_in d)) m.decls ++ stepped_twice m

same_twice : (s : System) (ms : List Module) → flat_map (λ m. twice_in_step s m ++ own_twice m) ms ≡ flat_map (twice_faults s) ms
same_twice s [] = refl
same_twice s (m ∷ ms) =
    ap (λ xs. xs ++ flat_map (λ k. twice_in_step s k ++ own_twice k) ms) (sym (append_assoc (twice_in_step s m) (flat_map (λ d. twice_in_code (sequential_in d)) m.decls) (stepped_twice m)))
    ∙ ap (λ ys. twice_faults s m ++ ys) (same_twice s ms)

-- the faults of steps, noted kind by kind
pub steps_noted : (s : System) (old mid last new : Option Fault) → mid ≡ first_of old (flat_map (twice_in_step s) s.modules) → last ≡ first_of mid (flat_map own_twice s.modules)
    → new ≡ first_of last (flat_map dependence_in (roots s)) → new ≡ first_of old (step_faults s)
steps_noted s old mid last new first second third =
    third
    ∙ ap (λ o. first_of o (flat_map dependence_in (roots s))) (second ∙ ap (λ o. first_of o (flat_map own_twice s.modules)) first ∙ noted_both (twice_in_step s) own_twice s.modules old ∙ ap (first_of old) (same_twice s s.modules))
    ∙ sym (first_of_append old (flat_map (twice_faults s) s.modules) (flat_map dependence_in (roots s)))

-- all faults, where steps are noted last
pub all_noted : (s : System) → first_of (first_of (first_of None (cycles s)) (size_faults s ++ whole_faults s)) (step_faults s) ≡ first_of None (order_faults s)
unfolding order_faults
all_noted s =
    any_order (first_of None (cycles s)) (size_faults s ++ whole_faults s) (step_faults s)
    ∙ sym (first_of_append None (cycles s) (step_faults s ++ (size_faults s ++ whole_faults s)) ∙ first_of_append (first_of None (cycles s)) (step_faults s) (size_faults s ++ whole_faults s))

-- what is noted of a design in three walks is the first of all its faults
pub design_noted : (s : System) (cyclic sized new : Option Fault) → cyclic ≡ first_of None (cycles s) → sized ≡ first_of cyclic (size_faults s ++ whole_faults s) →
    new ≡ first_of sized (step_faults s) → new ≡ first_of None (order_faults s)
design_noted s cyclic sized new one two three =
    three
    ∙ ap (λ o. first_of o (step_faults s)) (two ∙ ap (λ o. first_of o (size_faults s ++ whole_faults s)) one)
    ∙ all_noted s
