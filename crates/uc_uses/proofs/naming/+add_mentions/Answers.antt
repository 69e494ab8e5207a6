use Rattle.std.proofs.Common.{refl, [], ◌∷◌, ◌++◌, ◌∙◌, sym, ap}
use Rattle.std.specs.List.{flat_map}
use Rattle.uc_syntax.proofs.Added.{added_begin, added_end, added_more, adds_one, adds_three, adds_two}
use Rattle.uc_order_rules.specs.Mentions.{Reads, Applies, dotted, mentions}
use Rattle.uc_uses.specs.Meant.{in_branch, in_selection, meant}
use Rattle.uc_uses.proofs.Forms.{form_and, form_bit_and, form_bit_or, form_bit_xor, form_compare, form_concat, form_if, form_iff, form_implies, form_or, form_primary, form_product, form_sum, form_unary}
use Rattle.uc_uses.proofs.naming.+add_mentions.Goals as goal

pub add_mentions_of_all-loop-expression-init : goal.add_mentions_of_all-loop-expression-init
add_mentions_of_all-loop-expression-init t c = added_begin _ _ _

pub add_mentions_of_all-loop-expression-preserved : goal.add_mentions_of_all-loop-expression-preserved
add_mentions_of_all-loop-expression-preserved t c =
    added_more mentions _ _ _ _ _ c.expression-item.result c.loop-expression.invariant c.loop-expression-test.true c.expression-item.is c.in_ok-add_mentions.ensures

pub add_mentions_of_all-returns : goal.add_mentions_of_all-returns
add_mentions_of_all-returns t c = added_end _ _ _ _ _ c.loop-expression.invariant c.loop-expression-test.false

pub add_in_branches-loop-branch-init : goal.add_in_branches-loop-branch-init
add_in_branches-loop-branch-init t c = added_begin _ _ _

pub add_in_branches-loop-branch-preserved : goal.add_in_branches-loop-branch-preserved
add_in_branches-loop-branch-preserved t c =
    added_more in_branch _ _ _ _ _ c.branch-item.result c.loop-branch.invariant c.loop-branch-test.true c.branch-item.is
    (adds_two in_branch _ c.branch-item.result _ refl _ _ _ _ refl c.in_ok-add_mentions.ensures c.in_ok-add_mentions-2.ensures)

pub add_in_branches-returns : goal.add_in_branches-returns
add_in_branches-returns t c = added_end _ _ _ _ _ c.loop-branch.invariant c.loop-branch-test.false

pub add_in_selections-loop-selection-init : goal.add_in_selections-loop-selection-init
add_in_selections-loop-selection-init t c = added_begin _ _ _

pub add_in_selections-returns : goal.add_in_selections-returns
add_in_selections-returns t c = added_end _ _ _ _ _ c.loop-selection.invariant c.loop-selection-test.false

pub add_mentions-returns-in_ok-add_mentions-in-If : goal.add_mentions-returns-in_ok-add_mentions-in-If
add_mentions-returns-in_ok-add_mentions-in-If t c =
    adds_two mentions _ _ _ c.in-If.is _ _ _ _ (form_if _ _ _ ∙ (λ k. flat_map in_branch (sym c.as_slice.ensures k) ++ mentions (sym c.get.ensures k)))
    c.in_ok-add_in_branches-in-If.ensures c.in_ok-add_mentions-in-If.ensures

pub add_mentions-returns-in_ok-add_mentions_of_all-in-Iff : goal.add_mentions-returns-in_ok-add_mentions_of_all-in-Iff
add_mentions-returns-in_ok-add_mentions_of_all-in-Iff t c =
    adds_one mentions _ _ _ c.in-Iff.is _ _ (form_iff _ _ _ ∙ ap (flat_map mentions) (sym c.as_slice-in-Iff.ensures)) c.in_ok-add_mentions_of_all-in-Iff.ensures

pub add_mentions-returns-in_ok-add_mentions_of_all-in-Implies : goal.add_mentions-returns-in_ok-add_mentions_of_all-in-Implies
add_mentions-returns-in_ok-add_mentions_of_all-in-Implies t c =
    adds_one mentions _ _ _ c.in-Implies.is _ _ (form_implies _ _ _ ∙ ap (flat_map mentions) (sym c.as_slice-in-Implies.ensures)) c.in_ok-add_mentions_of_all-in-Implies.ensures

pub add_mentions-returns-in_ok-add_mentions_of_all-in-Or : goal.add_mentions-returns-in_ok-add_mentions_of_all-in-Or
add_mentions-returns-in_ok-add_mentions_of_all-in-Or t c =
    adds_one mentions _ _ _ c.in-Or.is _ _ (form_or _ _ _ ∙ ap (flat_map mentions) (sym c.as_slice-in-Or.ensures)) c.in_ok-add_mentions_of_all-in-Or.ensures

pub add_mentions-returns-in_ok-add_mentions_of_all-in-And : goal.add_mentions-returns-in_ok-add_mentions_of_all-in-And
add_mentions-returns-in_ok-add_mentions_of_all-in-And t c =
    adds_one mentions _ _ _ c.in-And.is _ _ (form_and _ _ _ ∙ ap (flat_map mentions) (sym c.as_slice-in-And.ensures)) c.in_ok-add_mentions_of_all-in-And.ensures

pub add_mentions-returns-in_ok-add_mentions_of_all-in-BitOr : goal.add_mentions-returns-in_ok-add_mentions_of_all-in-BitOr
add_mentions-returns-in_ok-add_mentions_of_all-in-BitOr t c =
    adds_one mentions _ _ _ c.in-BitOr.is _ _ (form_bit_or _ _ _ ∙ ap (flat_map mentions) (sym c.as_slice-in-BitOr.ensures)) c.in_ok-add_mentions_of_all-in-BitOr.ensures

pub add_mentions-returns-in_ok-add_mentions_of_all-in-BitXor : goal.add_mentions-returns-in_ok-add_mentions_of_all-in-BitXor
add_mentions-returns-in_ok-add_mentions_of_all-in-BitXor t c =
    adds_one mentions _ _ _ c.in-BitXor.is _ _ (form_bit_xor _ _ _ ∙ ap (flat_map mentions) (sym c.as_slice-in-BitXor.ensures)) c.in_ok-add_mentions_of_all-in-BitXor.ensures

pub add_mentions-returns-in_ok-add_mentions_of_all-in-BitAnd : goal.add_mentions-returns-in_ok-add_mentions_of_all-in-BitAnd
add_mentions-returns-in_ok-add_mentions_of_all-in-BitAnd t c =
    adds_one mentions _ _ _ c.in-BitAnd.is _ _ (form_bit_and _ _ _ ∙ ap (flat_map mentions) (sym c.as_slice-in-BitAnd.ensures)) c.in_ok-add_mentions_of_all-in-BitAnd.ensures

pub add_mentions-returns-in_ok-add_mentions_of_all-in-Concat : goal.add_mentions-returns-in_ok-add_mentions_of_all-in-Concat
add_mentions-returns-in_ok-add_mentions_of_all-in-Concat t c =
    adds_one mentions _ _ _ c.in-Concat.is _ _ (form_concat _ _ _ ∙ ap (flat_map mentions) (sym c.as_slice-in-Concat.ensures)) c.in_ok-add_mentions_of_all-in-Concat.ensures

pub add_mentions-returns-in_ok-add_mentions_of_all-in-Sum : goal.add_mentions-returns-in_ok-add_mentions_of_all-in-Sum
add_mentions-returns-in_ok-add_mentions_of_all-in-Sum t c =
    adds_one mentions _ _ _ c.in-Sum.is _ _ (form_sum _ _ _ ∙ ap (flat_map mentions) (sym c.as_slice-in-Sum.ensures)) c.in_ok-add_mentions_of_all-in-Sum.ensures

pub add_mentions-returns-in_ok-add_mentions_of_all-in-Product : goal.add_mentions-returns-in_ok-add_mentions_of_all-in-Product
add_mentions-returns-in_ok-add_mentions_of_all-in-Product t c =
    adds_one mentions _ _ _ c.in-Product.is _ _ (form_product _ _ _ ∙ ap (flat_map mentions) (sym c.as_slice-in-Product.ensures)) c.in_ok-add_mentions_of_all-in-Product.ensures

pub add_mentions-returns-in_ok-add_mentions-in-Compare-2 : goal.add_mentions-returns-in_ok-add_mentions-in-Compare-2
add_mentions-returns-in_ok-add_mentions-in-Compare-2 t c =
    adds_two mentions _ _ _ c.in-Compare.is _ _ _ _ (form_compare _ _ _ _ _ ∙ (λ k. mentions (sym c.get-in-Compare.ensures k) ++ mentions (sym c.get-in-Compare-2.ensures k)))
    c.in_ok-add_mentions-in-Compare.ensures c.in_ok-add_mentions-in-Compare-2.ensures

pub add_mentions-returns-in_ok-add_mentions-in-Unary : goal.add_mentions-returns-in_ok-add_mentions-in-Unary
add_mentions-returns-in_ok-add_mentions-in-Unary t c =
    adds_one mentions _ _ _ c.in-Unary.is _ _ (form_unary _ _ _ ∙ ap mentions (sym c.get-in-Unary.ensures)) c.in_ok-add_mentions-in-Unary.ensures

pub add_mentions-returns-in_ok-add_in_selections-in-Truth : goal.add_mentions-returns-in_ok-add_in_selections-in-Truth
add_mentions-returns-in_ok-add_in_selections-in-Truth t c =
    adds_one mentions _ _ _ refl _ _ (form_primary _ _ _ _ _ _ c.in-Selected.is c.in-Truth.is c.as_slice-in-Truth.ensures) c.in_ok-add_in_selections-in-Truth.ensures

pub add_mentions-returns-in_ok-add_in_selections-in-Number : goal.add_mentions-returns-in_ok-add_in_selections-in-Number
add_mentions-returns-in_ok-add_in_selections-in-Number t c =
    adds_one mentions _ _ _ refl _ _ (form_primary _ _ _ _ _ _ c.in-Selected.is c.in-Number.is c.as_slice-in-Number.ensures) c.in_ok-add_in_selections-in-Number.ensures

pub add_mentions-returns-in_ok-add_in_selections-in-BitsLiteral : goal.add_mentions-returns-in_ok-add_in_selections-in-BitsLiteral
add_mentions-returns-in_ok-add_in_selections-in-BitsLiteral t c =
    adds_one mentions _ _ _ refl _ _ (form_primary _ _ _ _ _ _ c.in-Selected.is c.in-BitsLiteral.is c.as_slice-in-BitsLiteral.ensures) c.in_ok-add_in_selections-in-BitsLiteral.ensures

pub add_mentions-returns-in_ok-add_in_selections-in-Name : goal.add_mentions-returns-in_ok-add_in_selections-in-Name
add_mentions-returns-in_ok-add_in_selections-in-Name t c =
    adds_two mentions _ _ _ refl _ _ _ _ (form_primary _ _ _ _ _ _ c.in-Selected.is c.in-Name.is c.as_slice-in-Name-2.ensures)
    (c.in_ok-push-in-Name.ensures
    ∙ ap (λ ys. meant c.args.found.now ++ Reads c.in-Name.name c.in-Name.is_primed ys ∷ []) (c.in_ok-behind-in-Name.ensures ∙ ap dotted (c.as_slice-in-Name.ensures ∙ sym c.as_slice-in-Name-2.ensures)))
    c.in_ok-add_in_selections-in-Name.ensures

pub add_mentions-returns-in_ok-add_in_selections-in-Apply : goal.add_mentions-returns-in_ok-add_in_selections-in-Apply
add_mentions-returns-in_ok-add_in_selections-in-Apply t c =
    adds_three mentions _ _ _ refl (Applies c.in-Apply.name ∷ []) _ _ _ _ _
    (form_primary _ _ _ _ _ _ c.in-Selected.is c.in-Apply.is c.as_slice-in-Apply-2.ensures
    ∙ ap (λ es. (Applies c.in-Apply.name ∷ flat_map mentions es) ++ flat_map in_selection c.as_slice-in-Apply-2.result.now) (sym c.as_slice-in-Apply.ensures))
    c.in_ok-push-in-Apply.ensures c.in_ok-add_mentions_of_all-in-Apply.ensures c.in_ok-add_in_selections-in-Apply.ensures

pub add_mentions-returns-in_ok-add_in_selections-in-OnBits : goal.add_mentions-returns-in_ok-add_in_selections-in-OnBits
add_mentions-returns-in_ok-add_in_selections-in-OnBits t c =
    adds_two mentions _ _ _ refl _ _ _ _
    (form_primary _ _ _ _ _ _ c.in-Selected.is c.in-OnBits.is c.as_slice-in-OnBits-2.ensures
    ∙ ap (λ es. flat_map mentions es ++ flat_map in_selection c.as_slice-in-OnBits-2.result.now) (sym c.as_slice-in-OnBits.ensures))
    c.in_ok-add_mentions_of_all-in-OnBits.ensures c.in_ok-add_in_selections-in-OnBits.ensures

pub add_mentions-returns-in_ok-add_in_selections-in-Old : goal.add_mentions-returns-in_ok-add_in_selections-in-Old
add_mentions-returns-in_ok-add_in_selections-in-Old t c =
    adds_two mentions _ _ _ refl _ _ _ _ (form_primary _ _ _ _ _ _ c.in-Selected.is c.in-Old.is c.as_slice-in-Old.ensures)
    c.in_ok-push-in-Old.ensures c.in_ok-add_in_selections-in-Old.ensures

pub add_mentions-returns-in_ok-add_in_selections-in-Grouped : goal.add_mentions-returns-in_ok-add_in_selections-in-Grouped
add_mentions-returns-in_ok-add_in_selections-in-Grouped t c =
    adds_two mentions _ _ _ refl _ _ _ _
    (form_primary _ _ _ _ _ _ c.in-Selected.is c.in-Grouped.is c.as_slice-in-Grouped.ensures
    ∙ ap (λ e. mentions e ++ flat_map in_selection c.as_slice-in-Grouped.result.now) (sym c.get-in-Grouped.ensures))
    c.in_ok-add_mentions-in-Grouped.ensures c.in_ok-add_in_selections-in-Grouped.ensures
