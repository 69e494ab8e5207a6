use Rattle.uc_meaning.proofs.Shapes.{chain_iff, chain_implies, chain_or, chain_and, chain_bit_or, chain_bit_xor, chain_bit_and, chain_concat, chain_sum, chain_product, shape_if, shape_compare, shape_unary, shape_selected, as_chain, as_chosen, as_compared, as_applied, as_selected}
use Rattle.uc_meaning.proofs.shape.shape_of.Goals as goal

pub returns-in-If : goal.returns-in-If
returns-in-If c = as_chosen _ _ _ _ _ _ c.in-If.is c.as_slice.ensures c.get.ensures (shape_if _ _ _)

pub returns-in-Iff : goal.returns-in-Iff
returns-in-Iff c = as_chain _ _ _ _ _ c.in-Iff.is c.as_slice-in-Iff.ensures (chain_iff _ _ _)

pub returns-in-Implies : goal.returns-in-Implies
returns-in-Implies c = as_chain _ _ _ _ _ c.in-Implies.is c.as_slice-in-Implies.ensures (chain_implies _ _ _)

pub returns-in-Or : goal.returns-in-Or
returns-in-Or c = as_chain _ _ _ _ _ c.in-Or.is c.as_slice-in-Or.ensures (chain_or _ _ _)

pub returns-in-And : goal.returns-in-And
returns-in-And c = as_chain _ _ _ _ _ c.in-And.is c.as_slice-in-And.ensures (chain_and _ _ _)

pub returns-in-BitOr : goal.returns-in-BitOr
returns-in-BitOr c = as_chain _ _ _ _ _ c.in-BitOr.is c.as_slice-in-BitOr.ensures (chain_bit_or _ _ _)

pub returns-in-BitXor : goal.returns-in-BitXor
returns-in-BitXor c = as_chain _ _ _ _ _ c.in-BitXor.is c.as_slice-in-BitXor.ensures (chain_bit_xor _ _ _)

pub returns-in-BitAnd : goal.returns-in-BitAnd
returns-in-BitAnd c = as_chain _ _ _ _ _ c.in-BitAnd.is c.as_slice-in-BitAnd.ensures (chain_bit_and _ _ _)

pub returns-in-Concat : goal.returns-in-Concat
returns-in-Concat c = as_chain _ _ _ _ _ c.in-Concat.is c.as_slice-in-Concat.ensures (chain_concat _ _ _)

pub returns-in-Product : goal.returns-in-Product
returns-in-Product c = as_chain _ _ _ _ _ c.in-Product.is c.as_slice-in-Product.ensures (chain_product _ _ _)

pub returns-in-Sum : goal.returns-in-Sum
returns-in-Sum c = as_chain _ _ _ _ _ c.in-Sum.is c.as_slice-in-Sum-2.ensures (chain_sum _ _ c.as_slice-in-Sum.result _ c.as_slice-in-Sum.ensures)

pub returns-in-Compare : goal.returns-in-Compare
returns-in-Compare c = as_compared _ _ _ _ _ _ _ c.in-Compare.is c.get-in-Compare.ensures c.get-in-Compare-2.ensures (shape_compare _ _ _ _ _)

pub returns-in-Unary : goal.returns-in-Unary
returns-in-Unary c = as_applied _ _ _ _ _ c.in-Unary.is c.get-in-Unary.ensures (shape_unary _ _ _)

pub returns-in-Selected : goal.returns-in-Selected
returns-in-Selected c = as_selected _ _ _ _ _ c.in-Selected.is c.as_slice-in-Selected.ensures (shape_selected _ _ _)
