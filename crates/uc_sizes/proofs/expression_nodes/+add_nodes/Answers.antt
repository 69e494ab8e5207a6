use Rattle.std.proofs.Common.{refl, sym, ap, ◌∙◌, arith}
use Rattle.uc_order_rules.specs.Sizes.{name_nodes}
use Rattle.uc_sizes.specs.Counting.{branch_nodes, nodes_in, primary_in, selection_in}
use Rattle.uc_sizes.proofs.ExpressionNodesSums.{adds_none, adds_shown, adds_two, behind_begin, behind_end, behind_more, behind_skip, ends_same, ends_three, ends_two, summed_begin, summed_end, summed_more}
use Rattle.uc_sizes.proofs.ExpressionNodesForms.{apply_is, chain_is, chosen_is, compare_is, form_and, form_bit_and, form_bit_or, form_bit_xor, form_compare, form_concat, form_if, form_iff, form_implies, form_or, form_product, form_selected, form_sum, form_unary, led_alone, on_bits_extension, on_bits_other, selected_is, unary_is}
use Rattle.uc_sizes.proofs.expression_nodes.+add_nodes.Goals as goal
use Rattle.uc_sizes.proofs.expression_nodes.+add_nodes.Goals.{add_in_selections-in-Element+in_ok-add_nodes-in-Element, add_in_selections-in-Update+in_ok-add_nodes-in-Update+in_ok-add_nodes-in-Update-2, add_in_selections-in-Field, add_in_selections-in-Copy, add_in_selections-in-Extract, add_behind_first-then-place-gt0+in_ok-add_nodes, add_behind_first-else-place-gt0}

pub add_nodes_of_all-loop-expression-init : goal.add_nodes_of_all-loop-expression-init
add_nodes_of_all-loop-expression-init t c = summed_begin _ _ _

pub add_nodes_of_all-loop-expression-preserved : goal.add_nodes_of_all-loop-expression-preserved
add_nodes_of_all-loop-expression-preserved t c =
    summed_more nodes_in _ _ _ _ _ c.expression-item.result _ c.loop-expression.invariant c.loop-expression-test.true c.expression-item.is c.in_ok-add_nodes.ensures

pub add_nodes_of_all-returns : goal.add_nodes_of_all-returns
add_nodes_of_all-returns t c = summed_end _ _ _ _ _ c.loop-expression.invariant c.loop-expression-test.false

pub add_in_branches-loop-branch-init : goal.add_in_branches-loop-branch-init
add_in_branches-loop-branch-init t c = summed_begin _ _ _

pub add_in_branches-loop-branch-preserved : goal.add_in_branches-loop-branch-preserved
add_in_branches-loop-branch-preserved t c =
    summed_more branch_nodes _ _ _ _ _ c.branch-item.result _ c.loop-branch.invariant c.loop-branch-test.true c.branch-item.is
    (adds_two _ _ _ _ _ _ c.in_ok-add_nodes.ensures c.in_ok-add_nodes-2.ensures (λ s. refl))

pub add_in_branches-returns : goal.add_in_branches-returns
add_in_branches-returns t c = summed_end _ _ _ _ _ c.loop-branch.invariant c.loop-branch-test.false

pub add_in_selections-loop-selection-init : goal.add_in_selections-loop-selection-init
add_in_selections-loop-selection-init t c = summed_begin _ _ _

pub add_in_selections-returns : goal.add_in_selections-returns
add_in_selections-returns t c = summed_end _ _ _ _ _ c.loop-selection.invariant c.loop-selection-test.false

pub add_behind_first-loop-place-init : goal.add_behind_first-loop-place-init
add_behind_first-loop-place-init t c = behind_begin _ _ _

pub add_behind_first-returns : goal.add_behind_first-returns
add_behind_first-returns t c = behind_end _ _ _ _ _ c.loop-place.invariant c.loop-place-test.false

pub add_nodes-returns-in-Iff : goal.add_nodes-returns-in-Iff
add_nodes-returns-in-Iff t c =
    ends_two _ _ _ _ _ _ _ c.in_ok-add_node.ensures c.add_nodes_of_all.ensures (λ s. chain_is s _ _ _ _ c.in-Iff.is (form_iff s _ _ _) c.as_slice-in-Iff.ensures)

pub add_nodes-returns-in-Implies : goal.add_nodes-returns-in-Implies
add_nodes-returns-in-Implies t c =
    ends_two _ _ _ _ _ _ _ c.in_ok-add_node.ensures c.add_nodes_of_all-in-Implies.ensures (λ s. chain_is s _ _ _ _ c.in-Implies.is (form_implies s _ _ _) c.as_slice-in-Implies.ensures)

pub add_nodes-returns-in-Or : goal.add_nodes-returns-in-Or
add_nodes-returns-in-Or t c =
    ends_two _ _ _ _ _ _ _ c.in_ok-add_node.ensures c.add_nodes_of_all-in-Or.ensures (λ s. chain_is s _ _ _ _ c.in-Or.is (form_or s _ _ _) c.as_slice-in-Or.ensures)

pub add_nodes-returns-in-And : goal.add_nodes-returns-in-And
add_nodes-returns-in-And t c =
    ends_two _ _ _ _ _ _ _ c.in_ok-add_node.ensures c.add_nodes_of_all-in-And.ensures (λ s. chain_is s _ _ _ _ c.in-And.is (form_and s _ _ _) c.as_slice-in-And.ensures)

pub add_nodes-returns-in-BitOr : goal.add_nodes-returns-in-BitOr
add_nodes-returns-in-BitOr t c =
    ends_two _ _ _ _ _ _ _ c.in_ok-add_node.ensures c.add_nodes_of_all-in-BitOr.ensures (λ s. chain_is s _ _ _ _ c.in-BitOr.is (form_bit_or s _ _ _) c.as_slice-in-BitOr.ensures)

pub add_nodes-returns-in-BitXor : goal.add_nodes-returns-in-BitXor
add_nodes-returns-in-BitXor t c =
    ends_two _ _ _ _ _ _ _ c.in_ok-add_node.ensures c.add_nodes_of_all-in-BitXor.ensures (λ s. chain_is s _ _ _ _ c.in-BitXor.is (form_bit_xor s _ _ _) c.as_slice-in-BitXor.ensures)

pub add_nodes-returns-in-BitAnd : goal.add_nodes-returns-in-BitAnd
add_nodes-returns-in-BitAnd t c =
    ends_two _ _ _ _ _ _ _ c.in_ok-add_node.ensures c.add_nodes_of_all-in-BitAnd.ensures (λ s. chain_is s _ _ _ _ c.in-BitAnd.is (form_bit_and s _ _ _) c.as_slice-in-BitAnd.ensures)

pub add_nodes-returns-in-Concat : goal.add_nodes-returns-in-Concat
add_nodes-returns-in-Concat t c =
    ends_two _ _ _ _ _ _ _ c.in_ok-add_node.ensures c.add_nodes_of_all-in-Concat.ensures (λ s. chain_is s _ _ _ _ c.in-Concat.is (form_concat s _ _ _) c.as_slice-in-Concat.ensures)

pub add_nodes-returns-in-Sum : goal.add_nodes-returns-in-Sum
add_nodes-returns-in-Sum t c =
    ends_two _ _ _ _ _ _ _ c.in_ok-add_node.ensures c.add_nodes_of_all-in-Sum.ensures (λ s. chain_is s _ _ _ _ c.in-Sum.is (form_sum s _ _ _) c.as_slice-in-Sum.ensures)

pub add_nodes-returns-in-Product : goal.add_nodes-returns-in-Product
add_nodes-returns-in-Product t c =
    ends_two _ _ _ _ _ _ _ c.in_ok-add_node.ensures c.add_nodes_of_all-in-Product.ensures (λ s. chain_is s _ _ _ _ c.in-Product.is (form_product s _ _ _) c.as_slice-in-Product.ensures)

pub add_nodes-returns-in-Unary : goal.add_nodes-returns-in-Unary
add_nodes-returns-in-Unary t c =
    ends_two _ _ _ _ _ _ _ c.in_ok-add_node.ensures c.add_nodes-in-Unary.ensures (λ s. unary_is s _ _ _ _ c.in-Unary.is (form_unary s _ _ _) c.get-in-Unary.ensures)

pub add_nodes-returns-in_ok-add_nodes-in-Compare : goal.add_nodes-returns-in_ok-add_nodes-in-Compare
add_nodes-returns-in_ok-add_nodes-in-Compare t c =
    ends_three _ _ _ _ _ _ _ _ _ c.in_ok-add_node.ensures c.in_ok-add_nodes-in-Compare.ensures c.add_nodes-in-Compare-2.ensures
    (λ s. compare_is s _ _ _ _ _ _ c.in-Compare.is (form_compare s _ _ _ _ _) c.get-in-Compare.ensures c.get-in-Compare-2.ensures)

pub add_nodes-returns-in_ok-add_in_branches-in-If : goal.add_nodes-returns-in_ok-add_in_branches-in-If
add_nodes-returns-in_ok-add_in_branches-in-If t c =
    ends_three _ _ _ _ _ _ _ _ _ c.in_ok-add_node.ensures c.in_ok-add_in_branches-in-If.ensures c.add_nodes.ensures
    (λ s. chosen_is s _ _ _ _ _ _ c.in-If.is (form_if s _ _ _) c.as_slice.ensures c.get.ensures)

pub add_nodes-returns-in_ok-add_in_primary-in-Selected : goal.add_nodes-returns-in_ok-add_in_primary-in-Selected
add_nodes-returns-in_ok-add_in_primary-in-Selected t c =
    ends_three _ _ _ _ _ _ _ _ _ c.in_ok-add_node.ensures c.in_ok-add_in_primary-in-Selected.ensures c.add_in_selections.ensures
    (λ s. selected_is s _ _ _ _ _ _ c.in-Selected.is (form_selected s _ _ _) c.as_slice-in-Selected.ensures c.as_slice-in-Selected-2.ensures)

pub add_in_primary-returns-in-Truth : goal.add_in_primary-returns-in-Truth
add_in_primary-returns-in-Truth t c = adds_none _ _ (λ s. ap (λ p. primary_in s p c.args.selections.now) c.in-Truth.is)

pub add_in_primary-returns-in-Number : goal.add_in_primary-returns-in-Number
add_in_primary-returns-in-Number t c = adds_none _ _ (λ s. ap (λ p. primary_in s p c.args.selections.now) c.in-Number.is)

pub add_in_primary-returns-in-BitsLiteral : goal.add_in_primary-returns-in-BitsLiteral
add_in_primary-returns-in-BitsLiteral t c = adds_none _ _ (λ s. ap (λ p. primary_in s p c.args.selections.now) c.in-BitsLiteral.is)

pub add_in_primary-returns-in_ok-add_use-in-Apply : goal.add_in_primary-returns-in_ok-add_use-in-Apply
add_in_primary-returns-in_ok-add_use-in-Apply t c =
    ends_two _ _ _ _ _ _ _ c.in_ok-add_use-in-Apply.ensures c.add_nodes_of_all.ensures (λ s. apply_is s _ _ _ _ _ c.in-Apply.is c.as_slice.ensures)

pub add_in_primary-returns-in-Old : goal.add_in_primary-returns-in-Old
add_in_primary-returns-in-Old t c = ends_same _ _ _ _ _ c.add_use-in-Old.ensures (λ s. ap (λ p. primary_in s p c.args.selections.now) c.in-Old.is ∙ ap (name_nodes s.system s.elsewhere) (sym (led_alone s _)))

pub add_in_selections-loop-selection-preserved : goal.add_in_selections-loop-selection-preserved
add_in_selections-loop-selection-preserved t c =
    summed_more selection_in _ _ _ _ _ c.selection-item.result _ c.loop-selection.invariant c.loop-selection-test.true c.selection-item.is
    (elim c.match-selection.branch [
      | add_in_selections-in-Element+in_ok-add_nodes-in-Element w ↦ adds_shown _ _ _ _ _ w.counted-is w.in_ok-add_nodes-in-Element.ensures (λ s. ap (selection_in s) w.in-Element.is)
      | add_in_selections-in-Update+in_ok-add_nodes-in-Update+in_ok-add_nodes-in-Update-2 w ↦
          adds_two _ _ _ _ _ _ w.in_ok-add_nodes-in-Update.ensures (adds_shown _ _ _ _ _ w.counted-is w.in_ok-add_nodes-in-Update-2.ensures (λ s. refl)) (λ s. ap (selection_in s) w.in-Update.is)
      | add_in_selections-in-Field w ↦ adds_shown _ _ _ _ _ w.counted-is (adds_none _ (λ s. 0) (λ s. refl)) (λ s. ap (selection_in s) w.in-Field.is)
      | add_in_selections-in-Copy w ↦ adds_shown _ _ _ _ _ w.counted-is (adds_none _ (λ s. 0) (λ s. refl)) (λ s. ap (selection_in s) w.in-Copy.is)
      | add_in_selections-in-Extract w ↦ adds_shown _ _ _ _ _ w.counted-is (adds_none _ (λ s. 0) (λ s. refl)) (λ s. ap (selection_in s) w.in-Extract.is)
    ])

pub add_behind_first-loop-place-preserved : goal.add_behind_first-loop-place-preserved
add_behind_first-loop-place-preserved t c =
    elim c.if-place-gt0.branch [
      | add_behind_first-then-place-gt0+in_ok-add_nodes w ↦
          behind_more nodes_in _ _ _ _ _ c.index-expressions-place.result _ c.loop-place.invariant c.loop-place-test.true w.if-place-gt0.true c.index-expressions-place.is
          (adds_shown _ _ _ _ _ w.counted-is w.in_ok-add_nodes.ensures (λ s. refl))
      | add_behind_first-else-place-gt0 w ↦ behind_skip nodes_in _ _ _ _ _ c.loop-place.invariant (let none = w.if-place-gt0.false in omega (arith, none)) w.counted-is
    ]
