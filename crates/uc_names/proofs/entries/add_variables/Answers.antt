use Rattle.std.proofs.Common.{refl, ◌∷◌, [], ◌∙◌, ◌++◌, ap}
use Rattle.std.proofs.lemmas.List.Concat.{flat_map_single}
use Rattle.uc_syntax.proofs.Added.{added_begin, added_end}
use Rattle.uc_rules.specs.Names.{enters, SenseVariable}
use Rattle.uc_names.specs.Senses.{entries_meant}
use Rattle.uc_names.proofs.Turns.{added_turn}
use Rattle.uc_names.proofs.entries.add_variables.Goals as goal

pub loop-identifier-init : goal.loop-identifier-init
loop-identifier-init c = λ ms. added_begin _ c.args.identifiers.now _

pub loop-identifier-preserved : goal.loop-identifier-preserved
loop-identifier-preserved c =
    λ ms. added_turn (λ i. enters i (SenseVariable c.args.variable.kind c.args.variable.ty.now) ∷ []) c.args.identifiers.now _ _ _ c.loop-identifier.identifier-index _ (record { place = record { file = 0; line = 0; col = 0 }; name = 0 }) (c.loop-identifier.invariant ms)
    c.loop-identifier-test.true refl (c.in_ok-push.ensures ms)

pub returns : goal.returns
returns c =
    λ ms. added_end (λ i. enters i (SenseVariable c.args.variable.kind c.args.variable.ty.now) ∷ []) c.args.identifiers.now _ _ c.loop-identifier.identifier-index (c.loop-identifier.invariant ms) c.loop-identifier-test.false
    ∙ ap (λ es. entries_meant ms c.args.entries.now ++ es) (flat_map_single (λ i. enters i (SenseVariable c.args.variable.kind c.args.variable.ty.now)) c.args.identifiers.now)
