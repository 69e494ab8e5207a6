use Rattle.std.proofs.Common.{◌≡◌, [], ◌∷◌, take, refl, ap, sym, subst, ◌∙◌}
use Rattle.std.specs.List.{list_any}
use Rattle.uc_syntax.specs.declared.expression.Expr.TheViews.{If, Iff, Implies, Or, And, Compare, BitOr, BitXor, BitAnd, Concat, Sum, Product, Unary, Selected}
use Rattle.uc_syntax.specs.declared.expression.Primary.TheVariants.{Truth, Number, BitsLiteral, Name, Apply, OnBits, Old, Grouped}
use Rattle.uc_syntax.specs.declared.expression.Selection.TheVariants.{Field, Copy, Element, Update, Extract}
use Rattle.uc_names.specs.Senses.{module_in}
use Rattle.uc_rules.specs.Reads.{name_reads, reads_by}
use Rattle.uc_cycles.specs.Found.{Adds, branch_by, primary_by, selection_by}
use Rattle.uc_cycles.proofs.Adding.{adds_by, adds_end, adds_more, adds_none, adds_two, branch_adds, chain_adds, compare_adds, if_adds, selected_adds, selection_adds, unary_adds}
use Rattle.uc_cycles.proofs.DefineReadsForms.{reads_and, reads_bit_and, reads_bit_or, reads_bit_xor, reads_concat, reads_iff, reads_implies, reads_or, reads_product, reads_sum}
use Rattle.uc_cycles.proofs.bodies.+note_reads.Goals as goal

pub note_reads-returns-in_ok-note_operands-in-Iff : goal.note_reads-returns-in_ok-note_operands-in-Iff
note_reads-returns-in_ok-note_operands-in-Iff t c =
    chain_adds c.args.homes.now (module_in c.args.homes.now.modules c.args.home) c.args.bound.now c.args.e.now (Iff c.in-Iff.field-0 c.in-Iff.operands c.in-Iff.field-2) c.in-Iff.operands c.args.found.now c.note_operands.new.found c.in-Iff.is
    (λ by. reads_iff c.args.homes.now (module_in c.args.homes.now.modules c.args.home) c.args.bound.now by c.in-Iff.field-0 c.in-Iff.operands c.in-Iff.field-2) c.in_ok-note_operands-in-Iff.ensures

pub note_reads-returns-in_ok-note_operands-in-Implies : goal.note_reads-returns-in_ok-note_operands-in-Implies
note_reads-returns-in_ok-note_operands-in-Implies t c =
    chain_adds c.args.homes.now (module_in c.args.homes.now.modules c.args.home) c.args.bound.now c.args.e.now (Implies c.in-Implies.field-0 c.in-Implies.operands c.in-Implies.field-2) c.in-Implies.operands c.args.found.now c.note_operands-in-Implies.new.found c.in-Implies.is
    (λ by. reads_implies c.args.homes.now (module_in c.args.homes.now.modules c.args.home) c.args.bound.now by c.in-Implies.field-0 c.in-Implies.operands c.in-Implies.field-2) c.in_ok-note_operands-in-Implies.ensures

pub note_reads-returns-in_ok-note_operands-in-Or : goal.note_reads-returns-in_ok-note_operands-in-Or
note_reads-returns-in_ok-note_operands-in-Or t c =
    chain_adds c.args.homes.now (module_in c.args.homes.now.modules c.args.home) c.args.bound.now c.args.e.now (Or c.in-Or.field-0 c.in-Or.operands c.in-Or.field-2) c.in-Or.operands c.args.found.now c.note_operands-in-Or.new.found c.in-Or.is
    (λ by. reads_or c.args.homes.now (module_in c.args.homes.now.modules c.args.home) c.args.bound.now by c.in-Or.field-0 c.in-Or.operands c.in-Or.field-2) c.in_ok-note_operands-in-Or.ensures

pub note_reads-returns-in_ok-note_operands-in-And : goal.note_reads-returns-in_ok-note_operands-in-And
note_reads-returns-in_ok-note_operands-in-And t c =
    chain_adds c.args.homes.now (module_in c.args.homes.now.modules c.args.home) c.args.bound.now c.args.e.now (And c.in-And.field-0 c.in-And.operands c.in-And.field-2) c.in-And.operands c.args.found.now c.note_operands-in-And.new.found c.in-And.is
    (λ by. reads_and c.args.homes.now (module_in c.args.homes.now.modules c.args.home) c.args.bound.now by c.in-And.field-0 c.in-And.operands c.in-And.field-2) c.in_ok-note_operands-in-And.ensures

pub note_reads-returns-in_ok-note_operands-in-BitOr : goal.note_reads-returns-in_ok-note_operands-in-BitOr
note_reads-returns-in_ok-note_operands-in-BitOr t c =
    chain_adds c.args.homes.now (module_in c.args.homes.now.modules c.args.home) c.args.bound.now c.args.e.now (BitOr c.in-BitOr.field-0 c.in-BitOr.operands c.in-BitOr.field-2) c.in-BitOr.operands c.args.found.now c.note_operands-in-BitOr.new.found c.in-BitOr.is
    (λ by. reads_bit_or c.args.homes.now (module_in c.args.homes.now.modules c.args.home) c.args.bound.now by c.in-BitOr.field-0 c.in-BitOr.operands c.in-BitOr.field-2) c.in_ok-note_operands-in-BitOr.ensures

pub note_reads-returns-in_ok-note_operands-in-BitXor : goal.note_reads-returns-in_ok-note_operands-in-BitXor
note_reads-returns-in_ok-note_operands-in-BitXor t c =
    chain_adds c.args.homes.now (module_in c.args.homes.now.modules c.args.home) c.args.bound.now c.args.e.now (BitXor c.in-BitXor.field-0 c.in-BitXor.operands c.in-BitXor.field-2) c.in-BitXor.operands c.args.found.now c.note_operands-in-BitXor.new.found c.in-BitXor.is
    (λ by. reads_bit_xor c.args.homes.now (module_in c.args.homes.now.modules c.args.home) c.args.bound.now by c.in-BitXor.field-0 c.in-BitXor.operands c.in-BitXor.field-2) c.in_ok-note_operands-in-BitXor.ensures

pub note_reads-returns-in_ok-note_operands-in-BitAnd : goal.note_reads-returns-in_ok-note_operands-in-BitAnd
note_reads-returns-in_ok-note_operands-in-BitAnd t c =
    chain_adds c.args.homes.now (module_in c.args.homes.now.modules c.args.home) c.args.bound.now c.args.e.now (BitAnd c.in-BitAnd.field-0 c.in-BitAnd.operands c.in-BitAnd.field-2) c.in-BitAnd.operands c.args.found.now c.note_operands-in-BitAnd.new.found c.in-BitAnd.is
    (λ by. reads_bit_and c.args.homes.now (module_in c.args.homes.now.modules c.args.home) c.args.bound.now by c.in-BitAnd.field-0 c.in-BitAnd.operands c.in-BitAnd.field-2) c.in_ok-note_operands-in-BitAnd.ensures

pub note_reads-returns-in_ok-note_operands-in-Concat : goal.note_reads-returns-in_ok-note_operands-in-Concat
note_reads-returns-in_ok-note_operands-in-Concat t c =
    chain_adds c.args.homes.now (module_in c.args.homes.now.modules c.args.home) c.args.bound.now c.args.e.now (Concat c.in-Concat.field-0 c.in-Concat.operands c.in-Concat.field-2) c.in-Concat.operands c.args.found.now c.note_operands-in-Concat.new.found c.in-Concat.is
    (λ by. reads_concat c.args.homes.now (module_in c.args.homes.now.modules c.args.home) c.args.bound.now by c.in-Concat.field-0 c.in-Concat.operands c.in-Concat.field-2) c.in_ok-note_operands-in-Concat.ensures

pub note_reads-returns-in_ok-note_operands-in-Sum : goal.note_reads-returns-in_ok-note_operands-in-Sum
note_reads-returns-in_ok-note_operands-in-Sum t c =
    chain_adds c.args.homes.now (module_in c.args.homes.now.modules c.args.home) c.args.bound.now c.args.e.now (Sum c.in-Sum.field-0 c.in-Sum.operands c.in-Sum.field-2) c.in-Sum.operands c.args.found.now c.note_operands-in-Sum.new.found c.in-Sum.is
    (λ by. reads_sum c.args.homes.now (module_in c.args.homes.now.modules c.args.home) c.args.bound.now by c.in-Sum.field-0 c.in-Sum.operands c.in-Sum.field-2) c.in_ok-note_operands-in-Sum.ensures

pub note_reads-returns-in_ok-note_operands-in-Product : goal.note_reads-returns-in_ok-note_operands-in-Product
note_reads-returns-in_ok-note_operands-in-Product t c =
    chain_adds c.args.homes.now (module_in c.args.homes.now.modules c.args.home) c.args.bound.now c.args.e.now (Product c.in-Product.field-0 c.in-Product.operands c.in-Product.field-2) c.in-Product.operands c.args.found.now c.note_operands-in-Product.new.found c.in-Product.is
    (λ by. reads_product c.args.homes.now (module_in c.args.homes.now.modules c.args.home) c.args.bound.now by c.in-Product.field-0 c.in-Product.operands c.in-Product.field-2) c.in_ok-note_operands-in-Product.ensures

pub note_reads-returns-in_ok-note_reads-in-If : goal.note_reads-returns-in_ok-note_reads-in-If
note_reads-returns-in_ok-note_reads-in-If t c =
    if_adds c.args.homes.now (module_in c.args.homes.now.modules c.args.home) c.args.bound.now c.args.e.now c.in-If.field-0 c.in-If.branches c.as_slice.result.now c.in-If.otherwise c.get.result.now c.args.found.now c.note_branches.new.found c.note_reads.new.found
    c.in-If.is c.as_slice.ensures c.get.ensures c.in_ok-note_branches-in-If.ensures c.in_ok-note_reads-in-If.ensures

pub note_reads-returns-in_ok-note_reads-in-Compare-2 : goal.note_reads-returns-in_ok-note_reads-in-Compare-2
note_reads-returns-in_ok-note_reads-in-Compare-2 t c =
    compare_adds c.args.homes.now (module_in c.args.homes.now.modules c.args.home) c.args.bound.now c.args.e.now c.in-Compare.field-0 c.in-Compare.field-1 c.in-Compare.field-2 c.in-Compare.left c.in-Compare.right c.get-in-Compare.result.now c.get-in-Compare-2.result.now c.args.found.now c.note_reads-in-Compare.new.found c.note_reads-in-Compare-2.new.found
    c.in-Compare.is c.get-in-Compare.ensures c.get-in-Compare-2.ensures c.in_ok-note_reads-in-Compare.ensures c.in_ok-note_reads-in-Compare-2.ensures

pub note_reads-returns-in_ok-note_reads-in-Unary : goal.note_reads-returns-in_ok-note_reads-in-Unary
note_reads-returns-in_ok-note_reads-in-Unary t c =
    unary_adds c.args.homes.now (module_in c.args.homes.now.modules c.args.home) c.args.bound.now c.args.e.now c.in-Unary.field-0 c.in-Unary.field-1 c.in-Unary.operand c.get-in-Unary.result.now c.args.found.now c.note_reads-in-Unary.new.found
    c.in-Unary.is c.get-in-Unary.ensures c.in_ok-note_reads-in-Unary.ensures

pub note_reads-returns-in_ok-note_selections-in-Name : goal.note_reads-returns-in_ok-note_selections-in-Name
note_reads-returns-in_ok-note_selections-in-Name t c =
    selected_adds c.args.homes.now (module_in c.args.homes.now.modules c.args.home) c.args.bound.now c.args.e.now c.in-Selected.field-0 c.in-Selected.primary (Name c.in-Name.name c.in-Name.field-1) c.in-Selected.selections c.args.found.now c.note_state.new.self c.note_selections.new.found c.in-Selected.is c.in-Name.is
    (adds_by c.args.found.now c.note_state.new.self (λ by. c.name_reads.result) (λ by. primary_by c.args.homes.now (module_in c.args.homes.now.modules c.args.home) c.args.bound.now by (reads_by c.args.homes.now (module_in c.args.homes.now.modules c.args.home) c.args.bound.now by) (Name c.in-Name.name c.in-Name.field-1)) (λ by. sym c.name_reads.ensures) c.note_state.ensures) c.in_ok-note_selections-in-Name.ensures

pub note_reads-returns-in_ok-note_selections-in-Old : goal.note_reads-returns-in_ok-note_selections-in-Old
note_reads-returns-in_ok-note_selections-in-Old t c =
    selected_adds c.args.homes.now (module_in c.args.homes.now.modules c.args.home) c.args.bound.now c.args.e.now c.in-Selected.field-0 c.in-Selected.primary (Old c.in-Old.name) c.in-Selected.selections c.args.found.now c.note_state-in-Old.new.self c.note_selections-in-Old.new.found c.in-Selected.is c.in-Old.is
    (adds_by c.args.found.now c.note_state-in-Old.new.self (λ by. c.name_reads-in-Old.result) (λ by. primary_by c.args.homes.now (module_in c.args.homes.now.modules c.args.home) c.args.bound.now by (reads_by c.args.homes.now (module_in c.args.homes.now.modules c.args.home) c.args.bound.now by) (Old c.in-Old.name)) (λ by. sym c.name_reads-in-Old.ensures) c.note_state-in-Old.ensures) c.in_ok-note_selections-in-Old.ensures

pub note_reads-returns-in_ok-note_selections-in-Apply : goal.note_reads-returns-in_ok-note_selections-in-Apply
note_reads-returns-in_ok-note_selections-in-Apply t c =
    selected_adds c.args.homes.now (module_in c.args.homes.now.modules c.args.home) c.args.bound.now c.args.e.now c.in-Selected.field-0 c.in-Selected.primary (Apply c.in-Apply.name c.in-Apply.arguments) c.in-Selected.selections c.args.found.now c.note_operands-in-Apply.new.found c.note_selections-in-Apply.new.found c.in-Selected.is c.in-Apply.is
    (adds_two c.args.found.now c.note_applied.new.self c.note_operands-in-Apply.new.found (λ by. by c.in-Apply.name) (λ by. list_any (reads_by c.args.homes.now (module_in c.args.homes.now.modules c.args.home) c.args.bound.now by) c.in-Apply.arguments) c.in_ok-note_applied-in-Apply.ensures c.in_ok-note_operands-in-Apply.ensures) c.in_ok-note_selections-in-Apply.ensures

pub note_reads-returns-in_ok-note_selections-in-OnBits : goal.note_reads-returns-in_ok-note_selections-in-OnBits
note_reads-returns-in_ok-note_selections-in-OnBits t c =
    selected_adds c.args.homes.now (module_in c.args.homes.now.modules c.args.home) c.args.bound.now c.args.e.now c.in-Selected.field-0 c.in-Selected.primary (OnBits c.in-OnBits.field-0 c.in-OnBits.arguments) c.in-Selected.selections c.args.found.now c.note_operands-in-OnBits.new.found c.note_selections-in-OnBits.new.found c.in-Selected.is c.in-OnBits.is
    (c.in_ok-note_operands-in-OnBits.ensures) c.in_ok-note_selections-in-OnBits.ensures

pub note_reads-returns-in_ok-note_selections-in-Grouped : goal.note_reads-returns-in_ok-note_selections-in-Grouped
note_reads-returns-in_ok-note_selections-in-Grouped t c =
    selected_adds c.args.homes.now (module_in c.args.homes.now.modules c.args.home) c.args.bound.now c.args.e.now c.in-Selected.field-0 c.in-Selected.primary (Grouped c.in-Grouped.inner) c.in-Selected.selections c.args.found.now c.note_reads-in-Grouped.new.found c.note_selections-in-Grouped.new.found c.in-Selected.is c.in-Grouped.is
    (adds_by c.args.found.now c.note_reads-in-Grouped.new.found (λ by. reads_by c.args.homes.now (module_in c.args.homes.now.modules c.args.home) c.args.bound.now by c.get-in-Grouped.result.now) (λ by. primary_by c.args.homes.now (module_in c.args.homes.now.modules c.args.home) c.args.bound.now by (reads_by c.args.homes.now (module_in c.args.homes.now.modules c.args.home) c.args.bound.now by) (Grouped c.in-Grouped.inner)) (λ by. ap (reads_by c.args.homes.now (module_in c.args.homes.now.modules c.args.home) c.args.bound.now by) (sym c.get-in-Grouped.ensures)) c.in_ok-note_reads-in-Grouped.ensures) c.in_ok-note_selections-in-Grouped.ensures

pub note_reads-returns-in_ok-note_selections-in-Truth : goal.note_reads-returns-in_ok-note_selections-in-Truth
note_reads-returns-in_ok-note_selections-in-Truth t c =
    selected_adds c.args.homes.now (module_in c.args.homes.now.modules c.args.home) c.args.bound.now c.args.e.now c.in-Selected.field-0 c.in-Selected.primary (Truth c.in-Truth.field-0) c.in-Selected.selections c.args.found.now c.args.found.now c.note_selections-in-Truth.new.found c.in-Selected.is c.in-Truth.is
    (adds_none c.args.found.now) c.in_ok-note_selections-in-Truth.ensures

pub note_reads-returns-in_ok-note_selections-in-Number : goal.note_reads-returns-in_ok-note_selections-in-Number
note_reads-returns-in_ok-note_selections-in-Number t c =
    selected_adds c.args.homes.now (module_in c.args.homes.now.modules c.args.home) c.args.bound.now c.args.e.now c.in-Selected.field-0 c.in-Selected.primary (Number c.in-Number.field-0) c.in-Selected.selections c.args.found.now c.args.found.now c.note_selections-in-Number.new.found c.in-Selected.is c.in-Number.is
    (adds_none c.args.found.now) c.in_ok-note_selections-in-Number.ensures

pub note_reads-returns-in_ok-note_selections-in-BitsLiteral : goal.note_reads-returns-in_ok-note_selections-in-BitsLiteral
note_reads-returns-in_ok-note_selections-in-BitsLiteral t c =
    selected_adds c.args.homes.now (module_in c.args.homes.now.modules c.args.home) c.args.bound.now c.args.e.now c.in-Selected.field-0 c.in-Selected.primary (BitsLiteral c.in-BitsLiteral.field-0 c.in-BitsLiteral.field-1) c.in-Selected.selections c.args.found.now c.args.found.now c.note_selections-in-BitsLiteral.new.found c.in-Selected.is c.in-BitsLiteral.is
    (adds_none c.args.found.now) c.in_ok-note_selections-in-BitsLiteral.ensures

pub note_operands-loop-operand-init : goal.note_operands-loop-operand-init
note_operands-loop-operand-init t c = adds_none c.args.found.now

pub note_operands-loop-operand-preserved : goal.note_operands-loop-operand-preserved
note_operands-loop-operand-preserved t c =
    adds_more (λ by e. reads_by c.args.homes.now (module_in c.args.homes.now.modules c.args.home) c.args.bound.now by e) c.as_slice-operands.result.now c.loop-operand.operand-index c.operand-item.result c.args.found.now c.loop-operand.found c.note_reads.new.found c.loop-operand-test.true c.loop-operand.invariant
    (adds_by c.loop-operand.found c.note_reads.new.found (λ by. reads_by c.args.homes.now (module_in c.args.homes.now.modules c.args.home) c.args.bound.now by c.operand-item.result) _ (λ by. ap (reads_by c.args.homes.now (module_in c.args.homes.now.modules c.args.home) c.args.bound.now by) (sym c.operand-item.is)) c.in_ok-note_reads.ensures)

pub note_operands-returns : goal.note_operands-returns
note_operands-returns t c =
    subst (λ xs. Adds c.args.found.now c.loop-operand.found (λ by. list_any (reads_by c.args.homes.now (module_in c.args.homes.now.modules c.args.home) c.args.bound.now by) xs)) c.as_slice-operands.ensures
    (adds_end (λ by e. reads_by c.args.homes.now (module_in c.args.homes.now.modules c.args.home) c.args.bound.now by e) c.as_slice-operands.result.now c.loop-operand.operand-index c.args.found.now c.loop-operand.found c.loop-operand-test.false c.loop-operand.invariant)

pub note_branches-loop-branch-init : goal.note_branches-loop-branch-init
note_branches-loop-branch-init t c = adds_none c.args.found.now

pub note_branches-returns : goal.note_branches-returns
note_branches-returns t c =
    adds_end (λ by b. branch_by (reads_by c.args.homes.now (module_in c.args.homes.now.modules c.args.home) c.args.bound.now by) b) c.args.branches.now c.loop-branch.branch-index c.args.found.now c.loop-branch.found c.loop-branch-test.false c.loop-branch.invariant

pub note_branches-loop-branch-preserved : goal.note_branches-loop-branch-preserved
note_branches-loop-branch-preserved t c =
    adds_more (λ by b. branch_by (reads_by c.args.homes.now (module_in c.args.homes.now.modules c.args.home) c.args.bound.now by) b) c.args.branches.now c.loop-branch.branch-index c.branch-item.result c.args.found.now c.loop-branch.found c.note_reads-in-loop-branch.new.found c.loop-branch-test.true c.loop-branch.invariant
    (branch_adds c.args.homes.now (module_in c.args.homes.now.modules c.args.home) c.args.bound.now _ c.branch-item.result c.loop-branch.found c.note_reads.new.found c.note_reads-in-loop-branch.new.found (sym c.branch-item.is) c.in_ok-note_reads.ensures c.in_ok-note_reads-2.ensures)

pub note_selections-loop-selection-init : goal.note_selections-loop-selection-init
note_selections-loop-selection-init t c = adds_none c.args.found.now

pub note_selections-returns : goal.note_selections-returns
note_selections-returns t c =
    subst (λ xs. Adds c.args.found.now c.loop-selection.found (λ by. list_any (selection_by (reads_by c.args.homes.now (module_in c.args.homes.now.modules c.args.home) c.args.bound.now by)) xs)) c.as_slice-selections.ensures
    (adds_end (λ by x. selection_by (reads_by c.args.homes.now (module_in c.args.homes.now.modules c.args.home) c.args.bound.now by) x) c.as_slice-selections.result.now c.loop-selection.selection-index c.args.found.now c.loop-selection.found c.loop-selection-test.false c.loop-selection.invariant)
