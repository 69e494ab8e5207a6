use Rattle.std.proofs.Common.{[], ◌∷◌, arith, refl, subst, sym}
use Rattle.uc_rings.specs.Lists.{Lists, InAList}
use Rattle.uc_solver_rows.proofs.rings.the_last_slot_is_taken_out_and_the_other_stands_alone.Goals as goal

pub unlink-requires : goal.unlink-requires
unlink-requires g c = subst (λ (r : Lists). InAList r 0) (sym c.in_ok-rings.ensures) (0, 3 ∷ 0 ∷ [], omega arith, refl, (1, omega arith, refl))
