use Rattle.std.proofs.Common.{◌≡◌, ℕ, ◌<◌, List, Option, None, Some, length, get_or, map, sym, ◌∙◌, ap, subst}
use Rattle.std.specs.Prelude.{Contains}
use Rattle.std.proofs.lemmas.List.Elements.{All-map}
use Rattle.uc_rings.specs.declared.rings.Slot.{Slot}
use Rattle.uc_rings.specs.Lists.{Lists, InAList, InNoList, without}
use Rattle.uc_rings.specs.Links.{AreLinked, Within, first_without, lists_in, with_next, with_previous}
use Rattle.uc_rings.proofs.Slots.{others, others_gone}
use Rattle.uc_rings.proofs.Parts.{Standing, list_read, next_read, out_done, previous_read, standing}
use Rattle.uc_rings.proofs.rings.Rings.unlink.Goals as goal

-- where the slot stands
stands_at : (r : Lists) (first : List (Option ℕ)) (slots : List Slot) (s : ℕ) → AreLinked first slots → lists_in first slots ≡ r → InAList r s → Standing first slots s
stands_at r first slots s linked seen there = standing first slots s linked (subst (λ (q : Lists). InAList q s) (sym seen) there)

pub index-requires : goal.index-requires
index-requires c =
    let stands : Standing c.self.inside.first.items c.self.inside.slots.items c.args.slot = stands_at c.args.self.now c.self.inside.first.items c.self.inside.slots.items c.args.slot c.self.invariant c.self.view_is c.requires in
    subst (λ (n : ℕ). c.args.slot < n) (sym c.self.inside.slots.ok.0) stands.inside

pub lead_back-requires : goal.lead_back-requires
lead_back-requires c =
    let stands : Standing c.self.inside.first.items c.self.inside.slots.items c.args.slot = stands_at c.args.self.now c.self.inside.first.items c.self.inside.slots.items c.args.slot c.self.invariant c.self.view_is c.requires in
    subst (λ (o : Option ℕ). Within o (length c.deref_mut.result.now)) (sym (next_read c.self.inside.slots.items c.args.slot c.index.result.now stands.inside c.index.ensures))
    (subst (λ (n : ℕ). Within (get_or (map (λ (x : Slot). x.next) c.self.inside.slots.items) c.args.slot None) n) (sym (ap length c.deref_mut.ensures.value)) stands.next_within)

pub lead_on-requires : goal.lead_on-requires
lead_on-requires c =
    let stands : Standing c.self.inside.first.items c.self.inside.slots.items c.args.slot = stands_at c.args.self.now c.self.inside.first.items c.self.inside.slots.items c.args.slot c.self.invariant c.self.view_is c.requires in
    let long : length c.self.inside.slots.items ≡ length c.deref_mut-2.result.now = sym (c.deref_mut-2.ensures.len ∙ c.self.inside.slots.ok.0) in
    subst (λ (o : Option ℕ). Within o (length c.deref_mut-2.result.now)) (sym (previous_read c.self.inside.slots.items c.args.slot c.index.result.now stands.inside c.index.ensures))
    (subst (λ (n : ℕ). Within (get_or (map (λ (x : Slot). x.previous) c.self.inside.slots.items) c.args.slot None) n) long stands.previous_within)

pub lead_first-requires : goal.lead_first-requires
lead_first-requires c =
    let stands : Standing c.self.inside.first.items c.self.inside.slots.items c.args.slot = stands_at c.args.self.now c.self.inside.first.items c.self.inside.slots.items c.args.slot c.self.invariant c.self.view_is c.requires in
    let named : c.index.result.now.list ≡ Some stands.place = list_read c.self.inside.slots.items c.args.slot c.index.result.now stands.inside c.index.ensures ∙ stands.names in
    subst (λ (o : Option ℕ). Within o (length c.deref_mut-3.result.now)) (sym named)
    (subst (λ (n : ℕ). stands.place < n) (sym (ap length c.deref_mut-3.ensures.value)) stands.at)

pub index_mut-requires : goal.index_mut-requires
index_mut-requires c =
    let stands : Standing c.self.inside.first.items c.self.inside.slots.items c.args.slot = stands_at c.args.self.now c.self.inside.first.items c.self.inside.slots.items c.args.slot c.self.invariant c.self.view_is c.requires in
    subst (λ (n : ℕ). c.args.slot < n) (sym c.self.inside.slots.ok.0) stands.inside

pub invariant_of-self : goal.invariant_of-self
invariant_of-self c =
    let stands : Standing c.self.inside.first.items c.self.inside.slots.items c.args.slot = stands_at c.args.self.now c.self.inside.first.items c.self.inside.slots.items c.args.slot c.self.invariant c.self.view_is c.requires in
    (out_done c.self.inside.first.items c.lead_first.new.first c.self.inside.slots.items c.lead_back.new.slots c.lead_on.new.slots
    c.self.inside.first.len c.self.inside.slots.len c.args.slot c.index.result.now.list c.index.result.now.previous c.index.result.now.next
    c.self.invariant (subst (λ (q : Lists). InAList q c.args.slot) (sym c.self.view_is) c.requires) c.self.inside.first.ok.0 c.self.inside.slots.ok.0
    (list_read c.self.inside.slots.items c.args.slot c.index.result.now stands.inside c.index.ensures)
    (previous_read c.self.inside.slots.items c.args.slot c.index.result.now stands.inside c.index.ensures)
    (next_read c.self.inside.slots.items c.args.slot c.index.result.now stands.inside c.index.ensures)
    (c.lead_back.ensures ∙ ap (λ (xs : List Slot). with_previous xs c.index.result.now.next c.index.result.now.previous) c.deref_mut.ensures.value)
    (c.lead_on.ensures ∙ ap (λ (xs : List Slot). with_next xs c.index.result.now.previous c.index.result.now.next) c.deref_mut-2.ensures.value)
    (c.lead_first.ensures ∙ ap (λ (xs : List (Option ℕ)). first_without xs c.index.result.now.list c.index.result.now.previous c.index.result.now.next) c.deref_mut-3.ensures.value)).linked

pub returns-clause-lists : goal.returns-clause-lists
returns-clause-lists c =
    let stands : Standing c.self.inside.first.items c.self.inside.slots.items c.args.slot = stands_at c.args.self.now c.self.inside.first.items c.self.inside.slots.items c.args.slot c.self.invariant c.self.view_is c.requires in
    (out_done c.self.inside.first.items c.lead_first.new.first c.self.inside.slots.items c.lead_back.new.slots c.lead_on.new.slots
    c.self.inside.first.len c.self.inside.slots.len c.args.slot c.index.result.now.list c.index.result.now.previous c.index.result.now.next
    c.self.invariant (subst (λ (q : Lists). InAList q c.args.slot) (sym c.self.view_is) c.requires) c.self.inside.first.ok.0 c.self.inside.slots.ok.0
    (list_read c.self.inside.slots.items c.args.slot c.index.result.now stands.inside c.index.ensures)
    (previous_read c.self.inside.slots.items c.args.slot c.index.result.now stands.inside c.index.ensures)
    (next_read c.self.inside.slots.items c.args.slot c.index.result.now stands.inside c.index.ensures)
    (c.lead_back.ensures ∙ ap (λ (xs : List Slot). with_previous xs c.index.result.now.next c.index.result.now.previous) c.deref_mut.ensures.value)
    (c.lead_on.ensures ∙ ap (λ (xs : List Slot). with_next xs c.index.result.now.previous c.index.result.now.next) c.deref_mut-2.ensures.value)
    (c.lead_first.ensures ∙ ap (λ (xs : List (Option ℕ)). first_without xs c.index.result.now.list c.index.result.now.previous c.index.result.now.next) c.deref_mut-3.ensures.value)).seen
    ∙ ap (λ (r : Lists). without r c.args.slot) c.self.view_is

pub returns-clause-free : goal.returns-clause-free
returns-clause-free c =
    subst (λ (r : Lists). InNoList r c.args.slot) (sym (returns-clause-lists c))
    (All-map (λ (xs : List ℕ). Contains xs c.args.slot → ⊥) (others c.args.slot) c.args.self.now.lists (λ k d h. others_gone c.args.slot (get_or c.args.self.now.lists k d)))
