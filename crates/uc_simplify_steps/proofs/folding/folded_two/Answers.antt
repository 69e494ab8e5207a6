use Rattle.std.proofs.Common.{[], ◌∷◌, rules, sym, subst}
use Rattle.uc_terms.specs.Tables.{WellTyped}
use Rattle.uc_terms.proofs.Grown.{types-valid}
use Rattle.uc_simplify_steps.proofs.Folds.{two_constants, two_there, constants_sound, constants_fold}
use Rattle.uc_simplify_steps.proofs.folding.folded_two.Goals as goal

pub evaluated-requires-clause-sound : goal.evaluated-requires-clause-sound
evaluated-requires-clause-sound c =
    constants_sound c.args.terms.now c.args.op.now (c.args.a ∷ c.args.b ∷ []) (c.in_ok-copy.field-0 ∷ c.in_ok-copy-2.field-0 ∷ []) c.nodes-nodes.ensures.well (two_there c.args.terms.now c.args.a c.args.b c.requires.left c.requires.right) c.requires.suits
    (two_constants c.args.terms.now c.args.a c.args.b c.in-Some.left.now c.in-Some-constant.right.now c.in_ok-copy.field-0 c.in_ok-copy-2.field-0 c.in_ok-copy.ensures c.in_ok-copy-2.ensures c.in-Some.ensures c.in-Some-constant.ensures)

pub result_type-requires-clause-valid : goal.result_type-requires-clause-valid
result_type-requires-clause-valid c =
    types-valid c.nodes-nodes.result.now (c.args.a ∷ c.args.b ∷ []) (subst WellTyped (sym c.nodes-nodes.ensures.nodes) c.nodes-nodes.ensures.well) (two_there c.nodes-nodes.result.now c.args.a c.args.b (rw c.nodes-nodes.ensures.nodes c.requires.left) (rw c.nodes-nodes.ensures.nodes c.requires.right))

pub returns-in-Some-2 : goal.returns-in-Some-2
returns-in-Some-2 c =
    constants_fold c.args.terms.now c.args.op.now (c.args.a ∷ c.args.b ∷ []) c.new.result (c.in_ok-copy.field-0 ∷ c.in_ok-copy-2.field-0 ∷ []) c.in_ok-ty-in-Some-2.ty c.in-Some-2.value c.nodes-nodes.ensures.well (two_there c.args.terms.now c.args.a c.args.b c.requires.left c.requires.right) c.requires.suits
    (two_constants c.args.terms.now c.args.a c.args.b c.in-Some.left.now c.in-Some-constant.right.now c.in_ok-copy.field-0 c.in_ok-copy-2.field-0 c.in_ok-copy.ensures c.in_ok-copy-2.ensures c.in-Some.ensures c.in-Some-constant.ensures)
    (search rules) (search rules) (rw c.nodes-nodes.ensures.nodes at c.in_ok-ty-in-Some-2.ensures) c.new.ensures
