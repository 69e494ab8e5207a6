use Rattle.std.proofs.Common.{map, ap, ◌∙◌}
use Rattle.std.specs.List.{flat_map}
use Rattle.uc_syntax.proofs.Added.{added_end}
use Rattle.uc_meaning.specs.Cells.{constants_of, constants_in, modules_in_use}
use Rattle.uc_layout.specs.InstancesSymbols.{constants_at}
use Rattle.uc_layout.proofs.Listed.{flat_of_map, map_of_flat, same_flat}
use Rattle.uc_layout.proofs.instances_symbols.constant_types.Goals as goal

pub returns : goal.returns
unfolding constants_of
returns c =
    added_end _ _ _ _ _ c.loop-code.invariant c.loop-code-test.false
    ∙ ap (flat_map (λ m. constants_at c.args.tables.now m.now)) c.as_slice-code-items.ensures
    ∙ flat_of_map (constants_at c.args.tables.now) (λ m. m.now) c.in_ok-modules.modules
    ∙ ap (flat_map (constants_at c.args.tables.now)) (c.in_ok-modules.ensures ∙ ap modules_in_use c.system.ensures)
    ∙ same_flat (constants_at c.args.tables.now) (λ m. map (λ c'. c'.type) (flat_map (constants_in c.args.tables.now m) m.decls)) (λ m. map_of_flat (λ c'. c'.type) (constants_in c.args.tables.now m) m.decls) (modules_in_use c.args.tables.now)
    ∙ map_of_flat (λ c'. c'.type) (λ m. flat_map (constants_in c.args.tables.now m) m.decls) (modules_in_use c.args.tables.now)
