use Rattle.std.proofs.Common.{◌≡◌, drop}
use Rattle.uc_print_laws.specs.Printed.{identifier, joined, behind}
use Rattle.uc_print_laws.specs.Text.{written}
use Rattle.uc_print_laws.proofs.types.put_identifiers.Given as goal

abbrev pub invariant-rest : goal.invariant-rest
invariant-rest l = written l.names l.page (behind l.sign identifier (drop l.one-index l.rest)).words ≡ written l.names l.fn.page (joined l.sign identifier l.identifiers).words
