-- The new key stands at the end of the keys, so its text at the end of the names.
use Rattle.std.proofs.Common.{◌≡◌, [], ◌∷◌, ◌++◌, map, length, slice_get, sym, ap, ◌∙◌}
use Rattle.std.proofs.lemmas.List.{length-map}
use Rattle.uc_syntax.proofs.Numbering.{names_with_key, new_number, new_at_end, last_at}
use Rattle.uc_syntax.proofs.names.Names.add.Goals as goal

names_are : (c : goal.In_ok-insert) → map (λ k. k.items) c.insert.new.self.keys ≡ c.args.self.now ++ c.args.text.now ∷ []
names_are c = names_with_key (λ k. k.items) _ c.in_ok-text.text _ _ _ c.self.view_is c.in_ok-text.ensures.items c.requires c.in_ok-insert.ensures.keys

number_is : (c : goal.In_ok-insert) → c.in-Ok.number ≡ length c.args.self.now
number_is c = c.in-Ok.ensures.1 ∙ c.len.ensures.len ∙ sym (length-map c.self.inside.texts.keys (λ k. k.items)) ∙ ap length c.self.view_is

pub returns-clause-number : goal.returns-clause-number
returns-clause-number c = number_is c ∙ sym (new_number _ _ c.requires)

pub returns-clause-names : goal.returns-clause-names
returns-clause-names c = names_are c ∙ sym (new_at_end _ _ c.requires)

pub returns-clause-text : goal.returns-clause-text
returns-clause-text c = (λ i. slice_get (names_are c i) (number_is c i)) ∙ last_at c.args.self.now c.args.text.now
