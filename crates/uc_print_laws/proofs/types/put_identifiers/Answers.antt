use Rattle.std.proofs.Common.{refl}
use Rattle.uc_print_laws.specs.Printed.{identifier}
use Rattle.uc_print_laws.proofs.Written.{behind_more_at, behind_end}
use Rattle.uc_print_laws.proofs.types.put_identifiers.Goals as goal

pub rest-preserved : goal.rest-preserved
rest-preserved c = behind_more_at c.args.names.now c.args.sign identifier c.rest.one-index c.in-Some.rest.now (record { place = record { file = 0; line = 0; col = 0 }; name = 0 }) c.rest.page c.put_name-in-rest.new.page _ c.rest-test.true c.rest.invariant (rw (c.in_ok-put_name-2.ensures, c.in_ok-put_sign.ensures) refl)

pub returns : goal.returns
returns c = behind_end c.args.names.now c.args.sign identifier c.rest.one-index c.in-Some.rest.now c.rest.page _ c.rest-test.false c.rest.invariant
