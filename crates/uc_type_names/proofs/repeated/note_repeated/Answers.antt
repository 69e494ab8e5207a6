use Rattle.uc_rules.specs.Names.{names_one_of}
use Rattle.uc_type_names.proofs.Repeats.{repeated_more}
use Rattle.std.proofs.Common.{refl}
use Rattle.uc_type_names.proofs.repeated.note_repeated.Goals as goal

pub loop-identifier-preserved : goal.loop-identifier-preserved
loop-identifier-preserved c =
    repeated_more (names_one_of c.args.taken.now) c.args.seen.now c.args.identifiers.now c.args.first.now c.loop-identifier.identifier-index c.loop-identifier.seen c.loop-identifier.first _ _ c.enter.new.seen c.enter.new.first
    c.loop-identifier.invariant c.loop-identifier-test.true refl c.in_ok-enter.ensures.faults c.in_ok-enter.ensures.seen
