use Rattle.std.proofs.Common.{◌≡◌, ap, length, refl, subst, sym, ◌∙◌}
use Rattle.std.specs.Prelude.{IfOk}
use Rattle.uc_lookup.specs.Parts.{system_in}
use Rattle.uc_names.specs.Homes.{AllOf, HoldsNames, HoldsOwn}
use Rattle.uc_names.specs.TypeHomesNumbers.{KnowsOpaques}
use Rattle.uc_names.proofs.InOrder.{of_design_names, of_design_opaques, of_design_own}
use Rattle.uc_names.proofs.homes.TypeHomes.of.Goals as goal

pub invariant_of-result : goal.invariant_of-result
invariant_of-result c =
    let made = c.in_ok-opaques-2 in
    let held = c.in_ok-opaques-3 in
    let same_design : held.design ≡ made.design = ap (λ p. p.1) held.ensures.0 in
    let given : held.design ≡ system_in c.args.system = same_design ∙ subst (λ r. IfOk r (λ d. d ≡ system_in c.args.system)) made.ensures.1 c.of-design.ensures in
    let names = subst (λ r. IfOk r (λ tables. AllOf (HoldsNames made.design) tables.0 (length c.args.system.modules.now))) held.ensures.1 c.tables_of-tables.ensures.names in
    let own = subst (λ r. IfOk r (λ tables. AllOf (HoldsOwn made.design) tables.1 (length c.args.system.modules.now))) held.ensures.1 c.tables_of-tables.ensures.own in
    let same_opaques : held.opaques ≡ c.in_ok-opaques.opaques = ap (λ p. p.0) held.ensures.0 ∙ made.ensures.0 in
    record {
      names_known = of_design_names _ _ held.names _ given refl (subst (λ s. AllOf (HoldsNames s) held.names (length c.args.system.modules.now)) (sym same_design) names);
      own_known = of_design_own _ _ held.own _ given refl (subst (λ s. AllOf (HoldsOwn s) held.own (length c.args.system.modules.now)) (sym same_design) own);
      opaques_known = of_design_opaques _ _ held.opaques given (subst (KnowsOpaques (system_in c.args.system)) (sym same_opaques) c.in_ok-opaques.ensures);
    }
