use Rattle.std.proofs.Common.{ap, ◌∙◌}
use Rattle.uc_meaning.specs.Lookup.{first_some}
use Rattle.uc_runnable.specs.Outside.{number_in}
use Rattle.uc_runnable.specs.Parts.{number_in_branch, selection_in}
use Rattle.uc_runnable.proofs.NumberForms.{chain_is, form_and, form_bit_and, form_bit_or, form_bit_xor, form_compare, form_concat, form_if, form_iff, form_implies, form_or, form_product, form_selected, form_sum, form_unary, two_are, unary_is}
use Rattle.uc_runnable.proofs.numbers.+number_in.Goals as goal

pub number_in-returns-in-If : goal.number_in-returns-in-If
number_in-returns-in-If t c =
    two_are _ _ _ _ _ _ _ c.in-If.is (form_if _ _ _) c.or.ensures (c.number_in_branches.ensures ∙ ap (first_some number_in_branch) c.as_slice.ensures) (c.number_in.ensures ∙ ap number_in c.get.ensures)

pub number_in-returns-in-Iff : goal.number_in-returns-in-Iff
number_in-returns-in-Iff t c = chain_is _ _ _ _ _ c.in-Iff.is (form_iff _ _ _) c.as_slice-in-Iff.ensures c.number_in_all.ensures

pub number_in-returns-in-Implies : goal.number_in-returns-in-Implies
number_in-returns-in-Implies t c = chain_is _ _ _ _ _ c.in-Implies.is (form_implies _ _ _) c.as_slice-in-Implies.ensures c.number_in_all-in-Implies.ensures

pub number_in-returns-in-Or : goal.number_in-returns-in-Or
number_in-returns-in-Or t c = chain_is _ _ _ _ _ c.in-Or.is (form_or _ _ _) c.as_slice-in-Or.ensures c.number_in_all-in-Or.ensures

pub number_in-returns-in-And : goal.number_in-returns-in-And
number_in-returns-in-And t c = chain_is _ _ _ _ _ c.in-And.is (form_and _ _ _) c.as_slice-in-And.ensures c.number_in_all-in-And.ensures

pub number_in-returns-in-BitOr : goal.number_in-returns-in-BitOr
number_in-returns-in-BitOr t c = chain_is _ _ _ _ _ c.in-BitOr.is (form_bit_or _ _ _) c.as_slice-in-BitOr.ensures c.number_in_all-in-BitOr.ensures

pub number_in-returns-in-BitXor : goal.number_in-returns-in-BitXor
number_in-returns-in-BitXor t c = chain_is _ _ _ _ _ c.in-BitXor.is (form_bit_xor _ _ _) c.as_slice-in-BitXor.ensures c.number_in_all-in-BitXor.ensures

pub number_in-returns-in-BitAnd : goal.number_in-returns-in-BitAnd
number_in-returns-in-BitAnd t c = chain_is _ _ _ _ _ c.in-BitAnd.is (form_bit_and _ _ _) c.as_slice-in-BitAnd.ensures c.number_in_all-in-BitAnd.ensures

pub number_in-returns-in-Concat : goal.number_in-returns-in-Concat
number_in-returns-in-Concat t c = chain_is _ _ _ _ _ c.in-Concat.is (form_concat _ _ _) c.as_slice-in-Concat.ensures c.number_in_all-in-Concat.ensures

pub number_in-returns-in-Sum : goal.number_in-returns-in-Sum
number_in-returns-in-Sum t c = chain_is _ _ _ _ _ c.in-Sum.is (form_sum _ _ _) c.as_slice-in-Sum.ensures c.number_in_all-in-Sum.ensures

pub number_in-returns-in-Product : goal.number_in-returns-in-Product
number_in-returns-in-Product t c = chain_is _ _ _ _ _ c.in-Product.is (form_product _ _ _) c.as_slice-in-Product.ensures c.number_in_all-in-Product.ensures

pub number_in-returns-in-Compare : goal.number_in-returns-in-Compare
number_in-returns-in-Compare t c =
    two_are _ _ _ _ _ _ _ c.in-Compare.is (form_compare _ _ _ _ _) c.or-in-Compare.ensures (c.number_in-in-Compare.ensures ∙ ap number_in c.get-in-Compare.ensures)
    (c.number_in-in-Compare-2.ensures ∙ ap number_in c.get-in-Compare-2.ensures)

pub number_in-returns-in-Unary : goal.number_in-returns-in-Unary
number_in-returns-in-Unary t c = unary_is _ _ _ _ _ c.in-Unary.is (form_unary _ _ _) c.get-in-Unary.ensures c.number_in-in-Unary.ensures

pub number_in-returns-in-Selected : goal.number_in-returns-in-Selected
number_in-returns-in-Selected t c =
    two_are _ _ _ _ _ _ _ c.in-Selected.is (form_selected _ _ _) c.or-in-Selected.ensures c.number_in_primary.ensures (c.number_in_selections.ensures ∙ ap (first_some selection_in) c.as_slice-in-Selected.ensures)
