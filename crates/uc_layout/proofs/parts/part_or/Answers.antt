use Rattle.std.proofs.Common.{ap, ◌∙◌}
use Rattle.std.specs.Prelude.{unwrap_or}
use Rattle.std.proofs.lemmas.Option.{unwrap_or-slice_get}
use Rattle.uc_layout.proofs.parts.part_or.Goals as goal

pub returns-in-None : goal.returns-in-None
returns-in-None c = ap (λ o. unwrap_or o c.args.missing.now) c.in-None.ensures ∙ unwrap_or-slice_get c.args.parts.now c.args.place c.args.missing.now
