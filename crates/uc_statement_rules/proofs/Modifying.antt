-- What a procedure that is called may modify.
use Rattle.std.proofs.Common.{◌≡◌, ℕ, Bool, true, false, List, [], ◌∷◌, ◌++◌, Option, Some, None, refl, ap, ◌∙◌, sym}
use Rattle.std.specs.Prelude.{◌&&◌, if◌then◌else◌}
use Rattle.std.specs.List.{cons_option, filter_map, flat_map, list_all}
use Rattle.std.proofs.lemmas.List.Folds.{list_all-append}
use Rattle.std.proofs.lemmas.List.Elements.{filter_map-append}
use Rattle.uc_syntax.specs.declared.place.Identifier.{Identifier}
use Rattle.uc_syntax.specs.declared.declaration.Clause.{Clause}
use Rattle.uc_syntax.specs.declared.declaration.Procedure.{Procedure}
use Rattle.uc_meaning.specs.Lookup.{some_if}
use Rattle.uc_rules.specs.Expressions.{Context}
use Rattle.uc_rules.specs.Names.{value_named}
use Rattle.uc_rules.specs.Statements.{call_modifies, is_written_value, may_modify, modifies_in}
use Rattle.uc_statement_rules.specs.Judging.{clauses_may, name_may, name_written}

name_kept : (c : Context) (i : Identifier) (is : List Identifier) (b : Bool) → is_written_value (value_named c.system c.home i.name) ≡ b →
    list_all (λ j. name_may c j) is ≡ list_all (may_modify c.modifies) (filter_map (name_written c) is) →
    list_all (λ j. name_may c j) (i ∷ is) ≡ list_all (may_modify c.modifies) (filter_map (name_written c) (i ∷ is))
name_kept c i is true e rest =
    ap (λ (b : Bool). (if b then may_modify c.modifies i.name else true) && list_all (λ j. name_may c j) is) e
    ∙ ap (λ r. may_modify c.modifies i.name && r) rest
    ∙ sym (ap (λ (b : Bool). list_all (may_modify c.modifies) (cons_option (some_if b i.name) (filter_map (name_written c) is))) e)
name_kept c i is false e rest =
    ap (λ (b : Bool). (if b then may_modify c.modifies i.name else true) && list_all (λ j. name_may c j) is) e
    ∙ rest
    ∙ sym (ap (λ (b : Bool). list_all (may_modify c.modifies) (cons_option (some_if b i.name) (filter_map (name_written c) is))) e)

pub names_kept : (c : Context) (is : List Identifier) → list_all (λ i. name_may c i) is ≡ list_all (may_modify c.modifies) (filter_map (name_written c) is)
names_kept c [] = refl
names_kept c (i ∷ is) = name_kept c i is (is_written_value (value_named c.system c.home i.name)) refl (names_kept c is)

each_clause : (c : Context) (qs : List Clause) → list_all (may_modify c.modifies) (filter_map (name_written c) (flat_map modifies_in qs)) ≡ clauses_may c qs
each_clause c [] = refl
each_clause c (q ∷ qs) =
    ap (list_all (may_modify c.modifies)) (filter_map-append (name_written c) (modifies_in q) (flat_map modifies_in qs))
    ∙ list_all-append (may_modify c.modifies) (filter_map (name_written c) (modifies_in q)) (filter_map (name_written c) (flat_map modifies_in qs))
    ∙ ap (λ r. list_all (may_modify c.modifies) (filter_map (name_written c) (modifies_in q)) && r) (each_clause c qs)

-- a procedure modifies no more than may be modified here
pub call_kept : (c : Context) (p : Procedure) → call_modifies c p ≡ clauses_may c p.clauses
call_kept c p = each_clause c p.clauses
