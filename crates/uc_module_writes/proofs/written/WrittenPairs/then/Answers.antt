use Rattle.std.proofs.Common.{◌++◌, ◌∙◌}
use Rattle.std.specs.List.{list_any}
use Rattle.uc_order_rules.specs.Pairs.{cross}
use Rattle.uc_module_writes.proofs.Going.{then_on}
use Rattle.uc_module_writes.proofs.Growing.{same_as}
use Rattle.uc_module_writes.proofs.written.WrittenPairs.then.Goals as goal

pub returns : goal.returns
returns c =
    λ names stretch finds.
    then_on names c.args.self.now c.args.next.now _ c.add_copies.new.self (same_as _ _ _ _ c.in_ok-add_copies.ensures c.as_slice.ensures)
    (λ test. c.in_ok-add_cross.ensures test ∙ (λ k. list_any test (c.add_copies.new.self ++ cross (c.as_slice-2.ensures k) (c.as_slice-3.ensures k))))
    (same_as _ _ _ _ c.in_ok-add_copies-2.ensures c.as_slice-4.ensures) (same_as _ _ _ _ c.in_ok-add_copies-3.ensures c.as_slice-5.ensures) stretch finds
