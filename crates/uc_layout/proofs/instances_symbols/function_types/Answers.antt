use Rattle.std.proofs.Common.{map, ap, ◌∙◌}
use Rattle.std.specs.List.{flat_map}
use Rattle.uc_syntax.proofs.Added.{added_end}
use Rattle.uc_meaning.specs.Cells.{functions_of, functions_in, modules_in_use}
use Rattle.uc_layout.specs.InstancesSymbols.{signature_of, functions_at}
use Rattle.uc_layout.proofs.Listed.{flat_of_map, map_of_flat, same_flat}
use Rattle.uc_layout.proofs.instances_symbols.function_types.Goals as goal

pub returns : goal.returns
unfolding functions_of
returns c =
    added_end _ _ _ _ _ c.loop-code.invariant c.loop-code-test.false
    ∙ ap (flat_map (λ m. functions_at c.args.tables.now m.now)) c.as_slice-code-items.ensures
    ∙ flat_of_map (functions_at c.args.tables.now) (λ m. m.now) c.in_ok-modules.modules
    ∙ ap (flat_map (functions_at c.args.tables.now)) (c.in_ok-modules.ensures ∙ ap modules_in_use c.system.ensures)
    ∙ same_flat (functions_at c.args.tables.now) (λ m. map signature_of (flat_map (functions_in c.args.tables.now m) m.decls)) (λ m. map_of_flat signature_of (functions_in c.args.tables.now m) m.decls) (modules_in_use c.args.tables.now)
    ∙ map_of_flat signature_of (λ m. flat_map (functions_in c.args.tables.now m) m.decls) (modules_in_use c.args.tables.now)
