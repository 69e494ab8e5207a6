use Rattle.uc_symstep.proofs.Steps.{begins_wide}
use Rattle.uc_symstep.proofs.Known.{begun_wide_known}
use Rattle.uc_symstep.proofs.unroll.begin_wide.Goals as goal

pub widened-requires-clause-state : goal.widened-requires-clause-state
widened-requires-clause-state c = c.in_ok-first.ensures.ok.state

pub returns-clause-ok : goal.returns-clause-ok
returns-clause-ok c = begins_wide _ _ _ _ _ _ _ _ c.in_ok-first.ensures.ok c.in_ok-wide.ensures.ok

pub returns-clause-known : goal.returns-clause-known
returns-clause-known c = begun_wide_known _ _ _ _ _ c.in_ok-first.first c.in_ok-wide.wide c.in_ok-first.ensures.known c.in_ok-wide.ensures.known
