-- A search among the keys is a search among the names.
use Rattle.std.proofs.Common.{◌≡◌, ap, sym, ◌∙◌, true, slice_get, true≢false}
use Rattle.uc_syntax.specs.Numbering.{has_text, number_of}
use Rattle.uc_syntax.proofs.Numbering.{has_text_by_keys, number_is, text_at, known_stays, is_new, keep_same, keep_either}
use Rattle.uc_syntax.proofs.names.Names.intern.Goals as goal

has : (c : goal.In-Some) → has_text c.args.self.now c.args.text.now ≡ true
has c = has_text_by_keys (λ k. k.items) _ _ _ c.self.view_is ∙ sym c.in-Some.ensures.found

number : (c : goal.In-Some) → c.in-Some.number ≡ number_of c.args.self.now c.args.text.now
number c = number_is (λ k. k.items) _ _ _ _ c.self.view_is c.in-Some.ensures.index

pub returns-in-Some-clause-number : goal.returns-in-Some-clause-number
returns-in-Some-clause-number c = number c

pub returns-in-Some-clause-names : goal.returns-in-Some-clause-names
returns-in-Some-clause-names c = sym (known_stays _ _ (has c))

pub returns-in-Some-clause-text : goal.returns-in-Some-clause-text
returns-in-Some-clause-text c = ap (slice_get c.args.self.now) (number c) ∙ text_at _ _ (has c)

pub add-requires : goal.add-requires
add-requires c = is_new (λ k. k.items) _ _ _ _ c.self.view_is c.in_default.not-Some c.get_index_of.ensures.found

pub returns-clause-known : goal.returns-clause-known
returns-clause-known c =
    λ h. absurd (true≢false (sym h ∙ is_new (λ k. k.items) _ _ _ _ c.self.view_is c.in_default.not-Some c.get_index_of.ensures.found))

pub returns-in-Some-clause-kept : goal.returns-in-Some-clause-kept
returns-in-Some-clause-kept c = keep_same _

pub returns-clause-kept : goal.returns-clause-kept
returns-clause-kept c = keep_either c.add.result _ _ _ c.add.ensures.names c.add.ensures.err
