-- A design that keeps the static rules.
use Rattle.std.proofs.Common.{◌≡◌, ℕ, zero, suc, Bool, true, false, List, [], ◌∷◌, ◌++◌, length, Option, Some, None, refl, ap, sym, subst, ◌∙◌, arith}
use Rattle.std.specs.Prelude.{nat_eq, ◌||◌, cond}
use Rattle.std.specs.List.{flat_map, list_any, find}
use Rattle.uc_syntax.specs.Contents.{Contents}
use Rattle.uc_syntax.specs.declared.declaration.Module.{Module}
use Rattle.uc_meaning.specs.Lookup.{System, module_named}
use Rattle.uc_rules.specs.Cycles.{instance_steps, instance_steps_from, leads_to, on_instance_cycle, cycle_faults, alias_cycle_in}
use Rattle.uc_rules.specs.declared.rule.Rule.TheVariants.{Cycle}
use Rattle.uc_rules.specs.Faults.{breaks_where}
use Rattle.uc_rules.specs.Names.{names_in, repeated_names}
use Rattle.uc_rules.specs.Declarations.{KeepsRules, declaration_faults, design_faults, main_faults, main_number, module_faults, naming_faults, repeated_block, init_place, next_place, control_place, repeated_modules, system_with}
use Rattle.uc_declared_types.specs.AliasLaw.{IsAmong}
use Rattle.uc_declared_types.proofs.Among.{find_among}
use Rattle.uc_uses.specs.BoundLaw.{InstancesEnd}
use Rattle.uc_uses.specs.KeptLaw.{RulesKeepInstances}
use Rattle.uc_uses.proofs.KeptNamesNames.{each_none, first_none, instance_alone, module_alone, not_broken, second_none}

equal : (n m : ℕ) → nat_eq n m ≡ true → n ≡ m
equal n m h = grind (arith, h)

none_some : {A B : Type 0} (x : B) → None ≡ Some x → A
none_some x h = cc

some_same : {A : Type 0} (x y : A) → Some x ≡ Some y → x ≡ y
some_same x y h = cc

found_named : (x : ℕ) (ms : List Module) (m : Module) → find (λ k. nat_eq k.name x) ms ≡ Some m → m.name ≡ x
found_named x [] m h = none_some m h
found_named x (k ∷ ms) m h = by (nat_eq k.name x) refl h (found_named x ms m)
  where
    by : (b : Bool) → nat_eq k.name x ≡ b → cond b (Some k) (find (λ n. nat_eq n.name x) ms) ≡ Some m → (find (λ n. nat_eq n.name x) ms ≡ Some m → m.name ≡ x) → m.name ≡ x
    by true is e more = ap (λ (n : Module). n.name) (sym (some_same k m e)) ∙ equal k.name x is
    by false is e more = more e

module _ (design : Contents) (main : List ℕ) (kept : KeepsRules design main) where
  abbrev s : System
  s = system_with design main

  behind_main : repeated_modules design.modules ++ flat_map (module_faults s) design.modules ≡ []
  unfolding design_faults
  behind_main = second_none (main_faults (main_number design main)) (repeated_modules design.modules ++ flat_map (module_faults s) design.modules) kept

  modules_once : repeated_modules design.modules ≡ []
  modules_once = first_none (repeated_modules design.modules) (flat_map (module_faults s) design.modules) behind_main

  of_module : (m : Module) → IsAmong m design.modules → module_faults s m ≡ []
  of_module m among = each_none (module_faults s) m design.modules among (second_none (repeated_modules design.modules) (flat_map (module_faults s) design.modules) behind_main)

  named_and_cyclic : (m : Module) → IsAmong m design.modules → naming_faults s m ++ cycle_faults s m ≡ []
  named_and_cyclic m among = first_none (naming_faults s m ++ cycle_faults s m) (flat_map (declaration_faults s m) m.decls) (of_module m among)

  names_once : (m : Module) → IsAmong m design.modules → repeated_names s [] (names_in s m) ≡ []
  names_once m among =
      first_none (repeated_names s [] (names_in s m)) (repeated_block init_place m ++ (repeated_block next_place m ++ repeated_block control_place m)) (first_none (naming_faults s m) (cycle_faults s m) (named_and_cyclic m among))

  off_cycle : (m : Module) → IsAmong m design.modules → on_instance_cycle s m.name ≡ false
  off_cycle m among =
      not_broken (on_instance_cycle s m.name) Cycle m.place
      (first_none (breaks_where (on_instance_cycle s m.name) Cycle m.place) (flat_map (alias_cycle_in s m) m.decls) (second_none (naming_faults s m) (cycle_faults s m) (named_and_cyclic m among)))

  no_steps : (n x : ℕ) → instance_steps s x ≡ [] → leads_to n (instance_steps s) (nat_eq x) x ≡ false
  unfolding leads_to
  no_steps zero x none = refl
  no_steps (suc n) x none = ap (list_any (λ y. nat_eq x y || leads_to n (instance_steps s) (nat_eq x) y)) none

  ends : (x : ℕ) → on_instance_cycle s x ≡ false
  ends x = by (module_named s x) refl
    where
      by : (o : Option Module) → module_named s x ≡ o → on_instance_cycle s x ≡ false
      by None is = no_steps (length design.modules) x (ap instance_steps_from is)
      by (Some m) is =
          let name : m.name ≡ x = found_named x design.modules m is in
          subst (λ y. on_instance_cycle s y ≡ false) name (off_cycle m (find_among (λ k. nat_eq k.name x) design.modules m is))

  pub kept_instances : InstancesEnd s
  unfolding names_in
  kept_instances = record {
    stand = λ m i among declared. instance_alone s m (names_once m among) i declared;
    alone = λ k m at. module_alone design.modules modules_once k m at;
    ends = ends;
  }

pub rules_keep_instances : RulesKeepInstances
rules_keep_instances design main kept = kept_instances design main kept
