use Rattle.std.proofs.Common.{◌≡◌, ◌⊎◌, inr, refl, subst, None}
use Rattle.uc_rules.specs.Types.{Aliases, found_by}
use Rattle.uc_names.specs.Senses.{module_in}
use Rattle.uc_declared_types.specs.Aliases.{Agrees, Related, Side}
use Rattle.uc_declared_types.proofs.Turns.{below_entered, stuck_now}
use Rattle.uc_declared_types.proofs.passes.read_alias.Goals as goal

pub returns-in_ok-push-in-None-found-clause-taken : goal.returns-in_ok-push-in-None-found-clause-taken
returns-in_ok-push-in-None-found-clause-taken c =
    inr (
      refl,
      (
        stuck_now c.args.homes.now c.args.aliases.now c.args.declared c.in-Some.ty.now c.in-Some.ensures
            (subst (λ o. (side : Side) (alias : Aliases) → Agrees side c.args.homes.now c.args.aliases.now alias → Related side o (found_by c.args.homes.now alias (module_in c.args.homes.now.modules c.args.declared.home) c.in-Some.ty.now).type) c.in-None-found.is c.in_ok-found-in-Some.ensures.ty),
        c.in_ok-push-in-None-found.ensures.ok,
      ),
    )

pub returns-in_ok-enter-in-Some-found-clause-below : goal.returns-in_ok-enter-in-Some-found-clause-below
returns-in_ok-enter-in-Some-found-clause-below c =
    below_entered c.args.homes.now c.args.aliases.now c.enter.new.self c.args.declared c.in-Some.ty.now c.in-Some-found.found c.in_ok-enter-in-Some-found.ensures c.in-Some.ensures
    (subst (λ o. (side : Side) (alias : Aliases) → Agrees side c.args.homes.now c.args.aliases.now alias → Related side o (found_by c.args.homes.now alias (module_in c.args.homes.now.modules c.args.declared.home) c.in-Some.ty.now).type) c.in-Some-found.is c.in_ok-found-in-Some.ensures.ty)
