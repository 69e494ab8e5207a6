use Rattle.uc_judge.proofs.Constants.{design_shown}
use Rattle.uc_judge.proofs.shown.shown_design.Goals as goal

pub returns-clause-shown : goal.returns-clause-shown
returns-clause-shown c =
    let d = c.system-system.result in
    let s = design_shown c.args.d.now c.flat-flat.result.now (record { names = d.names.now; files = d.files.now; modules = d.modules.now; main = d.main }) c.labels.result.now c.as_slice.result.now c.as_slice-2.result.now
    c.flat-flat.ensures c.system-system.ensures c.labels.ensures c.as_slice.ensures c.as_slice-2.ensures in
    record { labels = s.0; constants = s.1; cells = s.2 }
