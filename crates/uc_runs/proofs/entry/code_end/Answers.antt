use Rattle.uc_runs.proofs.Ended.{goes_end, stopped_end, unfit_end}
use Rattle.uc_runs.proofs.entry.code_end.Goals as goal

pub returns-in-Goes : goal.returns-in-Goes
returns-in-Goes c = λ choices all. goes_end choices c.args.count all c.args.end c.in-Goes.run' c.ended.result c.in-Goes.is c.ended.ensures

pub returns-in-Stopped : goal.returns-in-Stopped
returns-in-Stopped c = λ choices all. stopped_end choices c.args.count all c.args.end c.in-Stopped.is

pub returns-in-BadChoice : goal.returns-in-BadChoice
returns-in-BadChoice c = λ choices all. unfit_end choices c.args.count all c.args.end c.in-BadChoice.number _ c.in-BadChoice.is c.min.ensures
