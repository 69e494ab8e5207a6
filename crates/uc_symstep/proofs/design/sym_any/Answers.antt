use Rattle.std.proofs.Common.{◌∙◌}
use Rattle.uc_symstep.proofs.Runs.{any_state, types_valid}
use Rattle.uc_symstep.proofs.Known.{any_known}
use Rattle.uc_symstep.proofs.design.sym_any.Goals as goal

pub begin-requires : goal.begin-requires
begin-requires c = record { valid = types_valid c.args.f.now _ (c.as_slice.ensures ∙ c.in_ok-types.ensures) c.requires.sound }

pub returns-clause-ok : goal.returns-clause-ok
returns-clause-ok c = any_state _ _ c.args.f.now _ _ c.in_ok-first.first _ (c.as_slice.ensures ∙ c.in_ok-types.ensures) c.in_ok-first.ensures.ok c.new.ensures

pub returns-clause-known : goal.returns-clause-known
returns-clause-known c = any_known c.args.f.now _ _ _ _ _ _ (c.as_slice.ensures ∙ c.in_ok-types.ensures) c.in_ok-first.ensures.known
