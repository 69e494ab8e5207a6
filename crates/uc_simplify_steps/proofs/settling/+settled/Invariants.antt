use Rattle.uc_simplify_steps.proofs.settling.+settled.Given as goal

abbrev pub decreases-settled : goal.decreases-settled
decreases-settled l = l.steps
