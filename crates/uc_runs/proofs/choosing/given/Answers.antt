use Rattle.std.proofs.Common.{ap}
use Rattle.uc_meaning.specs.Code.{in_scope}
use Rattle.uc_runs.specs.Runs.{running}
use Rattle.uc_runs.proofs.choosing.given.Goals as goal

pub returns : goal.returns
returns c = λ choices. ap (in_scope (running choices c.args.run)) c.set_name-scope.ensures
