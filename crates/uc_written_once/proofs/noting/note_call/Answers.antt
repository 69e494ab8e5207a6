use Rattle.std.proofs.Common.{ap}
use Rattle.uc_order_rules.specs.Writes.{modified_names}
use Rattle.uc_written_once.specs.Walks.{one_name}
use Rattle.uc_written_once.proofs.Single.{call_none, call_some}
use Rattle.uc_written_once.proofs.noting.note_call.Goals as goal

pub returns-in-None : goal.returns-in-None
returns-in-None c = call_none (one_name c.args.place) _ _ _ _ _ _ _ (ap modified_names c.in-None.ensures) c.in_ok-note_targets.ensures

pub returns-in_ok-note_clauses-in-Some : goal.returns-in_ok-note_clauses-in-Some
returns-in_ok-note_clauses-in-Some c =
    call_some c.args.place _ _ _ _ _ _ _ _ _ _ _ c.as_slice.ensures (ap modified_names c.in-Some.ensures) c.in_ok-note_targets.ensures c.in_ok-note_clauses-in-Some.ensures
