use Rattle.std.proofs.Common.{map}
use Rattle.uc_meaning.specs.Code.{modifies_in}
use Rattle.uc_order_rules.specs.Writes.{part_of_name}
use Rattle.uc_module_writes.specs.Found.{single}
use Rattle.uc_module_writes.proofs.Going.{names_flat, on_begin, on_end, on_more}
use Rattle.uc_module_writes.proofs.leaves.write_clauses.Goals as goal

pub loop-clause-init : goal.loop-clause-init
loop-clause-init c = λ place. on_begin c.args.names.now (λ d meets. map (λ x. single place (part_of_name x) meets) (modifies_in d)) c.args.clauses.now c.args.all.now

pub loop-clause-preserved : goal.loop-clause-preserved
loop-clause-preserved c =
    λ place.
    on_more c.args.names.now (λ d meets. map (λ x. single place (part_of_name x) meets) (modifies_in d)) c.args.clauses.now c.args.all.now _ _ _ c.clause-item.result _ (c.loop-clause.invariant place) c.loop-clause-test.true
    c.clause-item.is (c.in_ok-write_clause.ensures place)

pub returns : goal.returns
returns c =
    λ place.
    names_flat c.args.names.now c.args.all.now _ place modifies_in c.args.clauses.now
    (on_end c.args.names.now (λ d meets. map (λ x. single place (part_of_name x) meets) (modifies_in d)) c.args.clauses.now c.args.all.now _ _ (c.loop-clause.invariant place) c.loop-clause-test.false)
