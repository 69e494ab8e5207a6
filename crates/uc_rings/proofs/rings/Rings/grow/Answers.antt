use Rattle.std.proofs.Common.{◌≡◌, ℕ, ◌-◌, ◌≤◌, ◌++◌, List, Option, None, Ok, Err, true, take, replicate, ◌∙◌, ap, arith}
use Rattle.std.specs.Prelude.{OnOk, Result, is_ok, vec_capacity}
use Rattle.std.proofs.lemmas.Bool.{cond-true}
use Rattle.uc_rings.specs.declared.rings.Slot.{Slot}
use Rattle.uc_rings.specs.Lists.{Lists, grown}
use Rattle.uc_rings.specs.Links.{lists_in}
use Rattle.uc_rings.proofs.Parts.{Keeping, grow_done, literals_fewer, slots_fewer}
use Rattle.uc_rings.proofs.rings.Rings.grow.Goals as goal

on_ok : {T E : Type 0} (r : Result T E) (P : Type 0) → P → OnOk r P
on_ok (Ok x) P p = p
on_ok (Err e) P p = tt

pub invariant_of-self-2 : goal.invariant_of-self-2
invariant_of-self-2 c =
    let first : List (Option ℕ) = c.self.inside.first.items in
    let slots : List Slot = c.self.inside.slots.items in
    let room : c.args.lits ≤ vec_capacity c.reserve.new.self = omega (arith, c.in_ok-reserve.ensures.ok, c.in_ok-reserve.ensures.len, c.len.ensures) in
    let went : is_ok c.resize-2.result ≡ true = c.resize-2.ensures.succeeds room in
    let first_is : c.resize-2.new.self.items ≡ take c.args.lits first ++ replicate (c.args.lits - c.self.inside.first.len) None =
    c.resize-2.ensures.items ∙ cond-true (is_ok c.resize-2.result) _ _ went
    ∙ ap (λ (xs : List (Option ℕ)). take c.args.lits xs ++ replicate (c.args.lits - c.reserve.new.self.len) None) c.in_ok-reserve.ensures.items
    ∙ ap (λ (n : ℕ). take c.args.lits first ++ replicate (c.args.lits - n) None) c.in_ok-reserve.ensures.len in
    let done : Keeping c.resize-2.new.self.items c.resize.new.self.items (grown (lists_in first slots) c.args.clauses c.args.lits) =
    grow_done first c.resize-2.new.self.items slots c.resize.new.self.items c.args.clauses c.args.lits c.self.inside.first.len c.self.inside.slots.len
    c.self.invariant c.self.inside.first.ok.0 c.self.inside.slots.ok.0
    (slots_fewer first slots c.args.self.now c.args.clauses c.self.invariant c.self.view_is c.requires.clauses)
    (literals_fewer first slots c.args.self.now c.args.lits c.self.invariant c.self.view_is c.requires.lits)
    (omega arith) (omega arith) first_is c.in_ok-resize.ensures.items in
    done.linked

pub returns-clause-ok : goal.returns-clause-ok
returns-clause-ok c =
    let first : List (Option ℕ) = c.self.inside.first.items in
    let slots : List Slot = c.self.inside.slots.items in
    let room : c.args.lits ≤ vec_capacity c.reserve.new.self = omega (arith, c.in_ok-reserve.ensures.ok, c.in_ok-reserve.ensures.len, c.len.ensures) in
    let went : is_ok c.resize-2.result ≡ true = c.resize-2.ensures.succeeds room in
    let first_is : c.resize-2.new.self.items ≡ take c.args.lits first ++ replicate (c.args.lits - c.self.inside.first.len) None =
    c.resize-2.ensures.items ∙ cond-true (is_ok c.resize-2.result) _ _ went
    ∙ ap (λ (xs : List (Option ℕ)). take c.args.lits xs ++ replicate (c.args.lits - c.reserve.new.self.len) None) c.in_ok-reserve.ensures.items
    ∙ ap (λ (n : ℕ). take c.args.lits first ++ replicate (c.args.lits - n) None) c.in_ok-reserve.ensures.len in
    let done : Keeping c.resize-2.new.self.items c.resize.new.self.items (grown (lists_in first slots) c.args.clauses c.args.lits) =
    grow_done first c.resize-2.new.self.items slots c.resize.new.self.items c.args.clauses c.args.lits c.self.inside.first.len c.self.inside.slots.len
    c.self.invariant c.self.inside.first.ok.0 c.self.inside.slots.ok.0
    (slots_fewer first slots c.args.self.now c.args.clauses c.self.invariant c.self.view_is c.requires.clauses)
    (literals_fewer first slots c.args.self.now c.args.lits c.self.invariant c.self.view_is c.requires.lits)
    (omega arith) (omega arith) first_is c.in_ok-resize.ensures.items in
    on_ok c.resize-2.result _ (done.seen ∙ ap (λ (r : Lists). grown r c.args.clauses c.args.lits) c.self.view_is)
