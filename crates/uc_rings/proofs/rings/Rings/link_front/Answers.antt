use Rattle.std.proofs.Common.{◌≡◌, ℕ, ◌<◌, List, ◌∷◌, [], Option, None, Some, length, get_or, set, sym, ◌∙◌, ap, subst}
use Rattle.std.proofs.lemmas.List.{get_or_default}
use Rattle.uc_rings.specs.declared.rings.Slot.{Slot}
use Rattle.uc_rings.specs.Lists.{Lists, InNoList, place_of, with_front}
use Rattle.uc_rings.specs.Links.{Within, lists_in, with_previous}
use Rattle.uc_rings.proofs.Parts.{first_within, front_done, literal_within, slot_within}
use Rattle.uc_rings.proofs.rings.Rings.link_front.Goals as goal

pub lead_back-requires : goal.lead_back-requires
lead_back-requires c =
    let first : List (Option ℕ) = c.self.inside.first.items in
    let slots : List Slot = c.self.inside.slots.items in
    let at : c.place-place.result < length first =
    subst (λ (k : ℕ). k < length first) (sym c.place-place.ensures) (literal_within first slots c.args.self.now (place_of c.args.lit) c.self.invariant c.self.view_is c.requires.lit) in
    let start : c.index-next.result.now ≡ get_or first c.place-place.result None = c.index-next.ensures ∙ get_or_default first c.place-place.result c.index-next.result.now None at in
    subst (λ (o : Option ℕ). Within o (length c.deref_mut.result.now)) (sym start)
    (subst (λ (n : ℕ). Within (get_or first c.place-place.result None) n) (sym (ap length c.deref_mut.ensures.value)) (first_within first slots c.place-place.result c.self.invariant at))

pub invariant_of-self : goal.invariant_of-self
invariant_of-self c =
    let first : List (Option ℕ) = c.self.inside.first.items in
    let slots : List Slot = c.self.inside.slots.items in
    let at : c.place-place.result < length first =
    subst (λ (k : ℕ). k < length first) (sym c.place-place.ensures) (literal_within first slots c.args.self.now (place_of c.args.lit) c.self.invariant c.self.view_is c.requires.lit) in
    let start : c.index-next.result.now ≡ get_or first c.place-place.result None = c.index-next.ensures ∙ get_or_default first c.place-place.result c.index-next.result.now None at in
    (front_done first slots c.lead_back.new.slots c.self.inside.slots.len c.place-place.result c.args.slot c.index-next.result.now
    c.self.invariant c.self.inside.slots.ok.0 at (slot_within first slots c.args.self.now c.args.slot c.self.invariant c.self.view_is c.requires.slot)
    (subst (λ (r : Lists). InNoList r c.args.slot) (sym c.self.view_is) c.requires.free) start
    (c.lead_back.ensures ∙ ap (λ (xs : List Slot). with_previous xs c.index-next.result.now (Some c.args.slot)) c.deref_mut.ensures.value)).linked

pub returns : goal.returns
returns c =
    let first : List (Option ℕ) = c.self.inside.first.items in
    let slots : List Slot = c.self.inside.slots.items in
    let at : c.place-place.result < length first =
    subst (λ (k : ℕ). k < length first) (sym c.place-place.ensures) (literal_within first slots c.args.self.now (place_of c.args.lit) c.self.invariant c.self.view_is c.requires.lit) in
    let start : c.index-next.result.now ≡ get_or first c.place-place.result None = c.index-next.ensures ∙ get_or_default first c.place-place.result c.index-next.result.now None at in
    (front_done first slots c.lead_back.new.slots c.self.inside.slots.len c.place-place.result c.args.slot c.index-next.result.now
    c.self.invariant c.self.inside.slots.ok.0 at (slot_within first slots c.args.self.now c.args.slot c.self.invariant c.self.view_is c.requires.slot)
    (subst (λ (r : Lists). InNoList r c.args.slot) (sym c.self.view_is) c.requires.free) start
    (c.lead_back.ensures ∙ ap (λ (xs : List Slot). with_previous xs c.index-next.result.now (Some c.args.slot)) c.deref_mut.ensures.value)).seen
    ∙ ap (λ (k : ℕ). record (lists_in first slots) { lists = set (lists_in first slots).lists k (c.args.slot ∷ get_or (lists_in first slots).lists k []) }) c.place-place.ensures
    ∙ ap (λ (r : Lists). with_front r c.args.lit c.args.slot) c.self.view_is
