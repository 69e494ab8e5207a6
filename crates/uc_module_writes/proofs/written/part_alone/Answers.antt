use Rattle.std.proofs.Common.{◌≡◌, ◌++◌, ◌∷◌, [], ◌∙◌, ap}
use Rattle.std.specs.Prelude.{filter}
use Rattle.std.specs.List.{list_any}
use Rattle.uc_order_rules.specs.Pairs.{SameThings}
use Rattle.uc_module_writes.specs.declared.written.WrittenPairs.{WrittenPairs}
use Rattle.uc_module_writes.specs.Found.{is_kept}
use Rattle.uc_module_writes.proofs.Going.{held_on, single_found}
use Rattle.uc_module_writes.proofs.written.part_alone.Goals as goal

pub returns : goal.returns
returns c =
    λ place.
    let none = c.new-one.result in
    let one = c.args.part ∷ [] in
    single_found c.args.names.now place c.args.part _
    (λ test. held_on (λ (w : WrittenPairs). SameThings w.parts (none.parts ++ one)) _ _ _ _ c.in_ok-one.ensures c.add_part-added.ensures.parts test ∙ ap (λ ps. list_any test (ps ++ one)) c.new-one.ensures.parts)
    (λ test. held_on (λ (w : WrittenPairs). SameThings w.kept (none.kept ++ filter (is_kept c.args.names.now) one)) _ _ _ _ c.in_ok-one.ensures c.add_part-added.ensures.kept test
    ∙ ap (λ ps. list_any test (ps ++ filter (is_kept c.args.names.now) one)) c.new-one.ensures.kept)
    (held_on (λ (w : WrittenPairs). w.pairs ≡ none.pairs) _ _ _ _ c.in_ok-one.ensures c.add_part-added.ensures.pairs ∙ c.new-one.ensures.pairs)
