use Rattle.std.proofs.Common.{ap, sym, ◌∙◌}
use Rattle.std.specs.List.{list_all}
use Rattle.uc_flat_design.specs.Design.{is_built}
use Rattle.uc_runnable.proofs.Answers.{alone}
use Rattle.uc_runnable.proofs.declarations.unfit_only.Goals as goal

pub unfit_in-requires : goal.unfit_in-requires
unfit_in-requires c =
    alone c.args.tables.now c.args.modules.now c.index-modules-0.result c.requires.modules c.if-modules-ne1.false c.index-modules-0.is c.requires.first
    (ap (list_all is_built) (sym c.as_slice.ensures) ∙ sym c.are_built.ensures ∙ c.if-not-are_built.false)
