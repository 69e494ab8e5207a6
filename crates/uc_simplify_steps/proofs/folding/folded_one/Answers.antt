use Rattle.std.proofs.Common.{[], ◌∷◌, rules, sym, subst}
use Rattle.uc_terms.specs.Tables.{WellTyped}
use Rattle.uc_terms.proofs.Grown.{types-valid}
use Rattle.uc_simplify_steps.proofs.Folds.{one_constant, one_there, constants_sound, constants_fold}
use Rattle.uc_simplify_steps.proofs.folding.folded_one.Goals as goal

pub evaluated-requires-clause-sound : goal.evaluated-requires-clause-sound
evaluated-requires-clause-sound c =
    constants_sound c.args.terms.now c.args.op.now (c.args.a ∷ []) (c.in_ok-copy.field-0 ∷ []) c.nodes-nodes.ensures.well (one_there c.args.terms.now c.args.a c.requires.there) c.requires.suits
    (one_constant c.args.terms.now c.args.a c.in-Some.value.now c.in_ok-copy.field-0 c.in_ok-copy.ensures c.in-Some.ensures)

pub result_type-requires-clause-valid : goal.result_type-requires-clause-valid
result_type-requires-clause-valid c =
    types-valid c.nodes-nodes.result.now (c.args.a ∷ []) (subst WellTyped (sym c.nodes-nodes.ensures.nodes) c.nodes-nodes.ensures.well) (one_there c.nodes-nodes.result.now c.args.a (rw c.nodes-nodes.ensures.nodes c.requires.there))

pub returns-in-Some-2 : goal.returns-in-Some-2
returns-in-Some-2 c =
    constants_fold c.args.terms.now c.args.op.now (c.args.a ∷ []) c.new.result (c.in_ok-copy.field-0 ∷ []) c.in_ok-ty-in-Some-2.ty c.in-Some-2.value c.nodes-nodes.ensures.well (one_there c.args.terms.now c.args.a c.requires.there) c.requires.suits
    (one_constant c.args.terms.now c.args.a c.in-Some.value.now c.in_ok-copy.field-0 c.in_ok-copy.ensures c.in-Some.ensures)
    (search rules) (search rules) (rw c.nodes-nodes.ensures.nodes at c.in_ok-ty-in-Some-2.ensures) c.new.ensures
