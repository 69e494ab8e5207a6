use Rattle.std.proofs.Common.{subst}
use Rattle.uc_uses.specs.Entering.{Enters}
use Rattle.uc_uses.specs.Sources.{declared_source}
use Rattle.uc_uses.specs.declared.uses.UseKind.TheVariants.{Define, Procedure}
use Rattle.uc_uses.proofs.Tabled.{node_entered}
use Rattle.uc_uses.proofs.table.node_uses.Goals as goal

pub returns : goal.returns
returns c =
    node_entered c.args.number c.args.node c.args.uses.now c.declared_uses.new.uses c.declared_uses-2.new.uses c.input_uses.new.uses _
    (subst (λ ds. Enters Define c.args.number c.args.uses.now (declared_source Define c.args.number ds) c.in_ok-defines.defines c.declared_uses.new.uses) c.as_slice-declarations.ensures c.in_ok-defines.ensures)
    (subst (λ ds. Enters Procedure c.args.number c.declared_uses.new.uses (declared_source Procedure c.args.number ds) c.in_ok-procedures.procedures c.declared_uses-2.new.uses) c.as_slice-declarations.ensures c.in_ok-procedures.ensures)
    c.in_ok-inputs.ensures
