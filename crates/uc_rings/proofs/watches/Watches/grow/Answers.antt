use Rattle.std.proofs.Common.{arith, refl, ap, ◌∙◌, ◌≡◌, ◌*◌, ◌/◌, length}
use Rattle.uc_rings.specs.Lists.{grown}
use Rattle.uc_rings.proofs.Linking.{linked_grown}
use Rattle.uc_rings.proofs.watches.Watches.grow.Goals as goal

pub returns : goal.returns
returns c = λ cs n linked.
    let same : c.len-clauses.result / 2 ≡ length cs = omega (arith, linked.slots, c.len-clauses.ensures) in
    linked_grown cs n c.args.variables c.args.self.now _ linked refl refl
    (c.in_ok-grow.ensures.ok ∙ ap (λ k. grown c.args.self.now.rings k (2 * c.args.variables)) same) refl c.requires.more
