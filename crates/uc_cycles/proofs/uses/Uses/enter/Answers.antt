use Rattle.std.proofs.Common.{ap, refl, sym, subst, ◌∙◌}
use Rattle.uc_lookup.specs.Parts.{defined_parts}
use Rattle.uc_names.specs.Senses.{module_in}
use Rattle.uc_names.specs.declared.firsts.Firsts.{Firsts}
use Rattle.uc_cycles.specs.Uses.{AddsDirect, AddsUsers, first_at}
use Rattle.uc_cycles.proofs.DefineReadsEntering.{direct_kept, users_kept, uses_more}
use Rattle.uc_cycles.proofs.uses.Uses.enter.Goals as goal

pub returns-in_ok-enter_users-in-Some : goal.returns-in_ok-enter_users-in-Some
returns-in_ok-enter_users-in-Some c = λ there t.
    let m = module_in c.args.homes.now.modules c.args.home in
    uses_more c.args.homes.now m c.args.number (defined_parts c.in-Some.defined) c.in_ok-found-in-Some.found c.args.self.now c.enter_users.new.self
    (ap (first_at m.decls c.args.number) there ∙ sym (c.in-Some.ensures m.decls t.calls_known))
    c.in_ok-found-in-Some.ensures
    (c.in_ok-enter_users-in-Some.ensures.kept.0 ∙ c.in_ok-enter_direct-in-Some.ensures.kept.0)
    (direct_kept c.has_state.result c.in_ok-found-in-Some.found.state c.args.number _ _ _ c.has_state.ensures c.in_ok-enter_users-in-Some.ensures.kept.1 c.in_ok-enter_direct-in-Some.ensures.direct)
    (users_kept _ _ _ _ c.args.number _ _ _ c.in_ok-enter_direct-in-Some.ensures.kept.0 c.in_ok-enter_direct-in-Some.ensures.kept.1 c.applied.ensures c.in_ok-enter_users-in-Some.ensures.users) t
