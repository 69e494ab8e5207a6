use Rattle.std.proofs.Common.{false, ap, sym, ◌∙◌}
use Rattle.uc_graph.proofs.Places.{index_found, index_past}
use Rattle.uc_cycles.specs.Numbers.{flag_at}
use Rattle.uc_cycles.proofs.cycles.is_flagged.Goals as goal

pub returns-in-None-get : goal.returns-in-None-get
returns-in-None-get c = index_past c.args.flags.now c.in-Some.place false c.in-None-get.ensures.value ∙ ap (flag_at c.args.flags.now) (sym c.in-Some.is)

pub returns-in-Some-get : goal.returns-in-Some-get
returns-in-Some-get c = index_found c.args.flags.now c.in-Some.place c.in-Some-get.flag.now false c.in-Some-get.ensures.value ∙ ap (flag_at c.args.flags.now) (sym c.in-Some.is)
