use Rattle.std.proofs.Common.{ℕ, ◌<◌, sym, ◌∙◌, ap, subst}
use Rattle.uc_rings.specs.Lists.{Lists, AreApart, InAList, place_of, slots_of}
use Rattle.uc_rings.specs.Links.{lists_in}
use Rattle.uc_rings.proofs.Parts.{Standing, after_seen, apart_seen, next_read, standing}
use Rattle.uc_rings.proofs.rings.Rings.after.Goals as goal

pub index-requires : goal.index-requires
index-requires c =
    let there : InAList (lists_in c.self.inside.first.items c.self.inside.slots.items) c.args.slot = subst (λ (r : Lists). InAList r c.args.slot) (sym c.self.view_is) c.requires in
    let stands : Standing c.self.inside.first.items c.self.inside.slots.items c.args.slot = standing c.self.inside.first.items c.self.inside.slots.items c.args.slot c.self.invariant there in
    subst (λ (n : ℕ). c.args.slot < n) (sym c.self.inside.slots.ok.0) stands.inside

pub returns-clause-after : goal.returns-clause-after
returns-clause-after c = λ lit before rest is.
    let there : InAList (lists_in c.self.inside.first.items c.self.inside.slots.items) c.args.slot = subst (λ (r : Lists). InAList r c.args.slot) (sym c.self.view_is) c.requires in
    let stands : Standing c.self.inside.first.items c.self.inside.slots.items c.args.slot = standing c.self.inside.first.items c.self.inside.slots.items c.args.slot c.self.invariant there in
    next_read c.self.inside.slots.items c.args.slot c.index.result.now stands.inside c.index.ensures
    ∙ after_seen c.self.inside.first.items c.self.inside.slots.items (place_of lit) c.args.slot before rest c.self.invariant (ap (λ (r : Lists). slots_of r lit) c.self.view_is ∙ is)

pub returns-clause-apart : goal.returns-clause-apart
returns-clause-apart c = subst AreApart c.self.view_is (apart_seen c.self.inside.first.items c.self.inside.slots.items c.self.invariant)
