use Rattle.std.proofs.Common.{◌≡◌, ap, sym, ◌∙◌}
use Rattle.std.specs.Prelude.{if◌then◌else◌}
use Rattle.uc_rules.specs.Expressions.{where_state_is_read}
use Rattle.uc_read_names.proofs.scope.Scope.define_outcome.Goals as goal

pub returns-then-reads_state : goal.returns-then-reads_state
returns-then-reads_state c =
    c.where_state_is_read.ensures ∙ ap (λ b. (if b then where_state_is_read c.args.self.now else (λ o. o)) c.args.outcome) (sym c.if-reads_state.true ∙ c.reads_state.ensures)
