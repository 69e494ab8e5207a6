use Rattle.uc_solve_rows.proofs.Pairs.{both_low}
use Rattle.uc_solve_rows.proofs.comparing.agrees_among.Goals as goal

pub made-requires-clause-parts : goal.made-requires-clause-parts
made-requires-clause-parts c =
    both_low _ c.in_ok-t.t c.in_ok-other-in-Bv.other (c.in_ok-other-in-Bv.ensures.kept c.in_ok-t.t c.in_ok-t.ensures) c.in_ok-other-in-Bv.ensures.low
