-- What a design that keeps the static rules has, and what follows from its first fault.
use Rattle.std.proofs.Common.{◌≡◌, ℕ, List, Option, Some, None, subst, ap, ◌∙◌}
use Rattle.std.specs.Prelude.{unwrap_or}
use Rattle.uc_meaning.specs.Lookup.{System, system_of}
use Rattle.uc_rules.specs.declared.fault.Fault.{Fault}
use Rattle.uc_rules.specs.Faults.{first_of}
use Rattle.uc_order_rules.specs.Order.{order_faults}
use Rattle.uc_types.specs.Typed.{Typed, KeepsTypes}
use Rattle.uc_uses.specs.BoundLaw.{InstancesEnd}
use Rattle.uc_uses.proofs.KeptNamesKept.{rules_keep_instances}
use Rattle.uc_uses.specs.KeptModules.{HasModules}
use Rattle.uc_uses.proofs.KeptModulesKept.{rules_keep_modules}
use Rattle.uc_order.specs.Ordered.{system_in}
use Rattle.uc_syntax.specs.Contents.{Contents}

-- modules and instances are found by their names, and no module has itself as an instance
pub instances_end : (t : Typed) → KeepsTypes t → InstancesEnd (system_in t)
instances_end t kept = subst (λ (o : Option ℕ). InstancesEnd (system_of t.contents (unwrap_or o 0))) kept.is_main (rules_keep_instances t.contents kept.name kept.keeps)

-- the module of each instance is there
pub modules_there : (t : Typed) → KeepsTypes t → HasModules (system_in t)
modules_there t kept = subst (λ (o : Option ℕ). HasModules (system_of t.contents (unwrap_or o 0))) kept.is_main (rules_keep_modules t.contents kept.name kept.keeps)

-- what is found of the design by its parts is the first of all its faults
pub first_found : (t : Typed) (d : Contents) (main : ℕ) (first : Option Fault) → KeepsTypes t → d ≡ t.contents → main ≡ t.main →
    (InstancesEnd (system_of d main) → HasModules (system_of d main) → first ≡ first_of None (order_faults (system_of d main))) → first ≡ first_of None (order_faults (system_in t))
first_found t d main first kept contents-are main-is found =
    let same : system_of d main ≡ system_in t = ap (λ c. system_of c main) contents-are ∙ ap (λ n. system_of t.contents n) main-is in
    subst (λ (s : System). InstancesEnd s → HasModules s → first ≡ first_of None (order_faults s)) same found (instances_end t kept) (modules_there t kept)
