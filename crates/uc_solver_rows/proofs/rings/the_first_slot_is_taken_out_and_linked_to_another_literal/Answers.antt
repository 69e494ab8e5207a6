use Rattle.std.proofs.Common.{[], ◌∷◌, arith, refl, subst, sym}
use Rattle.uc_rings.specs.Lists.{Lists, InAList}
use Rattle.uc_solver_rows.proofs.rings.the_first_slot_is_taken_out_and_linked_to_another_literal.Goals as goal

pub unlink-requires : goal.unlink-requires
unlink-requires g c = subst (λ (r : Lists). InAList r 3) (sym c.in_ok-rings.ensures) (0, 3 ∷ 0 ∷ [], omega arith, refl, (0, omega arith, refl))
