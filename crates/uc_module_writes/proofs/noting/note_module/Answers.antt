use Rattle.std.proofs.Common.{sym}
use Rattle.uc_names.specs.Senses.{module_in}
use Rattle.uc_module_writes.proofs.noting.note_module.Goals as goal

pub returns : goal.returns
returns c = record {
  written = _;
  entered = c.in_ok-insert.ensures;
  right = λ n binds ready. c.in_ok-written.ensures.written c.args.design.now n (module_in c.args.design.now.modules c.args.place) (sym c.declarations_of-declarations.ensures) binds ready;
  faults = λ n binds ready. c.in_ok-written.ensures.faults c.args.design.now n (module_in c.args.design.now.modules c.args.place) (sym c.declarations_of-declarations.ensures) binds ready;
}
