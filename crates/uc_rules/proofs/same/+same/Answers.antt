use Rattle.std.proofs.Common.{sym, arith}
use Rattle.uc_rules.specs.Same.{tests}
use Rattle.uc_rules.proofs.Sames.{same_fields_lengths, tests_length}
use Rattle.uc_rules.proofs.same.+same.Goals as goal

pub same_fields-returns-then-fields-others : goal.same_fields-returns-then-fields-others
same_fields-returns-then-fields-others t c =
    sym (same_fields_lengths (tests c.args.fields.now) c.args.others.now (λ e. c.if-fields-others.true (omega (arith, e, tests_length c.args.fields.now))))
