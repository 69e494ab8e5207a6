use Rattle.std.proofs.Common.{◌≡◌, sym, ap, ◌∙◌, subst, arith}
use Rattle.uc_solver.specs.Symbols.{IsPut}
use Rattle.uc_solver.proofs.Giving.{put_set}
use Rattle.uc_solver.proofs.symbols.put.Goals as goal

pub returns : goal.returns
returns c =
    subst (λ xs. IsPut c.args.symbols.now xs c.args.number c.args.value) (sym c.set.ensures)
    (put_set c.args.symbols.now c.fill.new.symbols c.args.number c.args.value (omega (arith, c.in_ok-fill.ensures.long)) c.in_ok-fill.ensures.kept)
