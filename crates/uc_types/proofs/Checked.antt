-- From the first fault that was noted to what is answered.
use Rattle.std.proofs.Common.{◌≡◌, ℕ, List, [], ◌++◌, Option, Some, None, refl, ap, ◌∙◌, sym}
use Rattle.std.specs.Prelude.{Result, Ok, Err, OnOk}
use Rattle.std.specs.List.{flat_map}
use Rattle.uc_syntax.specs.declared.declaration.Module.{Module}
use Rattle.uc_syntax.specs.Contents.{Contents}
use Rattle.uc_meaning.specs.Lookup.{System, system_of}
use Rattle.uc_rules.specs.declared.fault.Fault.{Fault}
use Rattle.uc_rules.specs.Faults.{first_of}
use Rattle.uc_rules.specs.Declarations.{KeepsRules, design_faults, main_faults, main_number, module_faults, repeated_modules}
use Rattle.uc_rules.proofs.Chains.{first_of_append}
use Rattle.uc_types.specs.Typed.{main_or_first}

-- the faults of a design besides that of main, where main is at a place
abbrev others : Contents → ℕ → List Fault
others d k = repeated_modules d.modules ++ flat_map (module_faults (system_of d k)) d.modules

-- the modules are those of the design with the place of main
pub modules_are : (d : Contents) (k : ℕ) (ms : List Module) (given t : System) → ms ≡ d.modules → given ≡ system_of d k → t ≡ given → ms ≡ t.modules
modules_are d k ms given t ms-are given-is is = ms-are ∙ sym (ap (λ (s : System). s.modules) (is ∙ given-is))

-- modules whose names come again, and then each module
pub design_of_parts : (d : Contents) (k : ℕ) (ms : List Module) (given t : System) (old repeated new : Option Fault) → ms ≡ d.modules → given ≡ system_of d k → t ≡ given →
    repeated ≡ first_of old (repeated_modules ms) → new ≡ first_of repeated (flat_map (module_faults t) ms) → new ≡ first_of old (others d k)
design_of_parts d k ms given t old repeated new ms-are given-is is by_names by_modules =
    by_modules
    ∙ ap (λ (u : System). first_of repeated (flat_map (module_faults u) ms)) (is ∙ given-is)
    ∙ ap (λ o. first_of o (flat_map (module_faults (system_of d k)) ms)) by_names
    ∙ ap (λ xs. first_of (first_of old (repeated_modules xs)) (flat_map (module_faults (system_of d k)) xs)) ms-are
    ∙ sym (first_of_append old (repeated_modules d.modules) (flat_map (module_faults (system_of d k)) d.modules))

-- what is noted is the first of all faults of a design
pub all_noted : (d : Contents) (main : List ℕ) (found : Option ℕ) (k : ℕ) (missing new : Option Fault) → found ≡ main_number d main → k ≡ main_or_first found →
    missing ≡ first_of None (main_faults found) → new ≡ first_of missing (others d k) → new ≡ first_of None (design_faults d main)
unfolding design_faults
all_noted d main found k missing new found-is k-is by_main by_others =
    by_others
    ∙ ap (λ n. first_of missing (others d n)) (k-is ∙ ap main_or_first found-is)
    ∙ ap (λ o. first_of o (others d (main_or_first (main_number d main)))) (by_main ∙ ap (λ o. first_of None (main_faults o)) found-is)
    ∙ sym (first_of_append None (main_faults (main_number d main)) (others d (main_or_first (main_number d main))))

main_there : (o : Option ℕ) (rest : List Fault) → main_faults o ++ rest ≡ [] → o ≡ Some (main_or_first o)
main_there (Some k) rest e = refl
main_there None rest e = cc

-- where no rule is broken, main is there
pub main_is : (d : Contents) (main : List ℕ) (found : Option ℕ) (k : ℕ) → found ≡ main_number d main → k ≡ main_or_first found → KeepsRules d main → main_number d main ≡ Some k
unfolding design_faults
main_is d main found k found-is k-is keeps =
    main_there (main_number d main) (others d (main_or_first (main_number d main))) keeps
    ∙ ap (λ n. Some n) (sym (k-is ∙ ap main_or_first found-is))

-- what a call says of its success, and what follows from it
pub on_ok : {A E : Type 0} {P Q : Type 0} (r : Result A E) → (P → Q) → OnOk r P → OnOk r Q
on_ok (Ok a) more held = more held
on_ok (Err e) more held = held
