use Rattle.std.proofs.Common.{ap, ◌∙◌}
use Rattle.std.specs.List.{flat_map}
use Rattle.uc_meaning.specs.Code.{modifies_in}
use Rattle.uc_order_rules.specs.Writes.{modified_names}
use Rattle.uc_module_writes.proofs.Going.{names_as, names_none}
use Rattle.uc_module_writes.proofs.leaves.write_modified.Goals as goal

pub returns-in-None : goal.returns-in-None
returns-in-None c = λ place. names_none c.args.names.now place _ c.args.all.now (ap modified_names c.in-None.ensures)

pub returns-in_ok-write_clauses-in-Some : goal.returns-in_ok-write_clauses-in-Some
returns-in_ok-write_clauses-in-Some c =
    λ place. names_as c.args.names.now c.args.all.now _ place _ _ (ap (flat_map modifies_in) c.as_slice.ensures ∙ ap modified_names c.in-Some.ensures) (c.in_ok-write_clauses-in-Some.ensures place)
