use Rattle.std.proofs.Common.{◌≡◌, ◌<◌, None, length, get_or, sym, ◌∙◌, ap, subst}
use Rattle.std.proofs.lemmas.List.{get_or_default}
use Rattle.uc_rings.specs.Lists.{Lists, AreApart, first_of, place_of, slots_of}
use Rattle.uc_rings.specs.Links.{lists_in}
use Rattle.uc_rings.proofs.Parts.{apart_seen, first_seen, place_within}
use Rattle.uc_rings.proofs.rings.Rings.first.Goals as goal

pub returns-clause-first : goal.returns-clause-first
returns-clause-first c =
    let asked : place_of c.args.lit < length (lists_in c.self.inside.first.items c.self.inside.slots.items).lists =
    subst (λ (r : Lists). place_of c.args.lit < length r.lists) (sym c.self.view_is) c.requires in
    let at : place_of c.args.lit < length c.self.inside.first.items = place_within c.self.inside.first.items c.self.inside.slots.items (place_of c.args.lit) c.self.invariant asked in
    let read : c.index.result.now ≡ get_or c.self.inside.first.items (place_of c.args.lit) c.index.result.now =
    c.index.ensures ∙ ap (λ k. get_or c.self.inside.first.items k c.index.result.now) c.place.ensures in
    read
    ∙ get_or_default c.self.inside.first.items (place_of c.args.lit) c.index.result.now None at
    ∙ first_seen c.self.inside.first.items c.self.inside.slots.items (place_of c.args.lit) c.self.invariant at
    ∙ ap (λ (r : Lists). first_of (slots_of r c.args.lit)) c.self.view_is

pub returns-clause-apart : goal.returns-clause-apart
returns-clause-apart c = subst AreApart c.self.view_is (apart_seen c.self.inside.first.items c.self.inside.slots.items c.self.invariant)
