use Rattle.std.proofs.Common.{◌≡◌, ap, length, subst, sym, ◌∙◌, arith}
use Rattle.std.specs.Prelude.{Some, slice_get, replicate, []}
use Rattle.std.proofs.lemmas.Option.{slice_get-get_or}
use Rattle.uc_names.specs.Senses.{module_in}
use Rattle.uc_cycles.specs.Uses.{KnowsCalls, UsesTo}
use Rattle.uc_cycles.proofs.DefineReadsEntering.{uses_begin}
use Rattle.uc_cycles.proofs.uses.uses_of.Goals as goal

pub loop-number-init : goal.loop-number-init
loop-number-init c =
    uses_begin c.args.homes.now (module_in c.args.homes.now.modules c.args.home) c.in_ok-uses.uses (subst (λ ds. KnowsCalls ds c.in_ok-uses.uses.calls) c.requires c.in_ok-uses.ensures.calls)
    (c.in_ok-uses.ensures.users ∙ ap (λ ds. replicate (length ds) []) c.requires) c.in_ok-uses.ensures.direct

pub loop-number-preserved : goal.loop-number-preserved
loop-number-preserved c =
    c.in_ok-enter.ensures
    (ap (λ ds. slice_get ds c.loop-number.number) (sym c.requires) ∙ slice_get-get_or c.args.declarations.now c.loop-number.number c.index-declarations-number.result c.loop-number-test.true ∙ ap (λ d. Some d) (sym c.index-declarations-number.is))
    c.loop-number.invariant

pub returns : goal.returns
returns c =
    let ends : c.loop-number.number ≡ length c.args.declarations.now = omega (arith, c.loop-number-test.false, c.loop-number.auto.number-end) in
    subst (UsesTo c.args.homes.now (module_in c.args.homes.now.modules c.args.home) c.loop-number.uses) ends c.loop-number.invariant
