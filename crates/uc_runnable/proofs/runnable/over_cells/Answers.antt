use Rattle.std.specs.Prelude.{Err}
use Rattle.std.proofs.Common.{ap, subst, ◌∙◌}
use Rattle.uc_meaning.specs.Lookup.{System}
use Rattle.uc_runnable.specs.Only.{IsOnlyPlain}
use Rattle.uc_runnable.proofs.Ready.{made_runs, none_made}
use Rattle.uc_runnable.proofs.runnable.over_cells.Goals as goal

pub returns-in-Ok-clause-flat : goal.returns-in-Ok-clause-flat
returns-in-Ok-clause-flat c =
    let plain = c.is_only_plain.ensures.0 c.if-not-is_only_plain.false in
    made_runs c.args.tables.now c.flat_design.result c.in-Ok.flat (subst (λ (s : System). IsOnlyPlain s.main s.modules) c.system-system.ensures plain) c.in-Ok.is c.flat_design.ensures

pub returns-in-Err-NotBuilt-clause-none : goal.returns-in-Err-NotBuilt-clause-none
returns-in-Err-NotBuilt-clause-none c =
    none_made c.args.tables.now c.flat_design.result c.not_built-in-Err-NotBuilt.result (c.in-Err-NotBuilt.is ∙ ap Err c.in-Err-NotBuilt.field-0-is) c.flat_design.ensures c.not_built-in-Err-NotBuilt.ensures
