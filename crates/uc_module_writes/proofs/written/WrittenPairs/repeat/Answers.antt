use Rattle.std.proofs.Common.{◌++◌, ◌∙◌, refl}
use Rattle.std.specs.List.{list_any}
use Rattle.uc_order_rules.specs.Pairs.{cross}
use Rattle.uc_module_writes.proofs.Going.{repeat_on}
use Rattle.uc_module_writes.proofs.written.WrittenPairs.repeat.Goals as goal

pub returns : goal.returns
returns c =
    λ names.
    repeat_on names c.args.self.now _ refl refl
    (λ test. c.in_ok-add_cross.ensures test ∙ (λ k. list_any test (c.args.self.now.pairs ++ cross (c.as_slice.ensures k) (c.as_slice-2.ensures k))))
