-- The names of all modules of a text.
use Rattle.std.proofs.Common.{◌≡◌, inl, ℕ, zero, suc, ◌+◌, ◌≤◌, List, [], ◌∷◌, ◌++◌, Option, Some, None, refl, sym, ap, ◌∙◌, subst, arith}
use Rattle.uc_forms.specs.Form.{quiet, restarts, both, made, deep, goes_on_with}
use Rattle.uc_forms.specs.Spelling.{SpellChain, SpellWith, SpellAt, Spells, Stand, stand, stands_chain, stands_with, stands_at, past_limit}
use Rattle.uc_grammar.specs.declared.word.Word.{Word}
use Rattle.uc_grammar.specs.declared.word.Kind.TheVariants as kinds
use Rattle.uc_grammar.specs.Language.{grammar}
use Rattle.uc_grammar.specs.Syntax.{Nested, Value, rule, a_name, module_form, text, known, enum_braces, record_braces, array, block, typed_name, params, results, module_braces}
use Rattle.uc_syntax.specs.declared.declaration.Module.{Module}
use Rattle.uc_print_laws.specs.Names.{module_names, HaveFewNames}
use Rattle.uc_print_laws.specs.NameCountsLaw.{AreCounted}
use Rattle.uc_print_laws.proofs.Tallied.{Tallied, t_is, t_deeper, past_few, past_within, past_anew}
use Rattle.uc_print_laws.proofs.Counts.{Deeper, Inner, Counts, c_any, c_both}
use Rattle.uc_print_laws.proofs.Silent.{rules_silent}
use Rattle.uc_print_laws.proofs.Forms.{nest_names, n_enum_braces, n_record_braces, n_array, n_typed_name, n_params, n_results, n_block, n_module_braces, n_silent}

rule_counts : (L : Deeper) (inner : Inner L) → ((n : Nested) → Counts L inner (deep n) (nest_names n)) → (n : Nested) → Counts L inner (rule n) (nest_names n)
rule_counts L inner d enum_braces = n_enum_braces L inner d
rule_counts L inner d record_braces = n_record_braces L inner d
rule_counts L inner d array = n_array L inner d
rule_counts L inner d block = n_block L inner d
rule_counts L inner d typed_name = n_typed_name L inner d
rule_counts L inner d params = n_params L inner d
rule_counts L inner d results = n_results L inner d
rule_counts L inner d module_braces = n_module_braces L inner d
rule_counts L inner d n = n_silent L inner d n refl (rules_silent n refl)

at_level : (m : ℕ) (n : Nested) (ws : List Word) (v : Value n) (s : SpellAt rule m n ws v) → Tallied (nest_names n v) (stands_at rule m n ws v s)
unfolding SpellAt stands_at
at_level zero n ws v s = absurd s
at_level (suc m) n ws v s = (rule_counts (SpellAt rule m) (stands_at rule m) (λ k. record { counts = λ us u t. t_deeper (nest_names k u) (stands_at rule m k us u t) (at_level m k us u t) }) n).counts ws v s

-- a module begins with the word where the count starts again
record StandsSo (k : Module) (xs : List (Stand Word)) : Type 0 where
  first : Stand Word
  more : List (Stand Word)
  is : xs ≡ first ∷ more
  anew : first.mark ≡ restarts
  tallied : Tallied (module_names k) more

module _ (m : ℕ) where
  abbrev L : Deeper
  L = SpellAt rule m

  abbrev inner : Inner L
  inner = stands_at rule m

  deep_counts : (n : Nested) → Counts L inner (deep n) (nest_names n)
  deep_counts n = record { counts = λ ws v s. t_deeper (nest_names n v) (stands_at rule m n ws v s) (at_level m n ws v s) }

  named_braces : Counts L inner (both a_name (deep module_braces)) (λ x. 0 + nest_names module_braces x.1)
  named_braces = c_both (c_any quiet (kinds.Name 0) known 0 refl) (deep_counts module_braces)

  module_stands : (ws : List Word) (k : Module) (s : SpellWith L module_form ws k) → StandsSo k (stands_with L inner module_form ws k s)
  unfolding module_form
  module_stands ws k s =
      let u = s.2 in
      record {
        first = stand restarts s.0.0;
        more = stands_with L inner (both a_name (deep module_braces)) u.1 s.0.1 u.4;
        is = refl;
        anew = refl;
        tallied = t_is (stands_with L inner (both a_name (deep module_braces)) u.1 s.0.1 u.4) (0 + nest_names module_braces s.0.1.1) (module_names k) (let e = ap module_names (sym s.1) in omega (arith, e)) (named_braces.counts u.1 s.0.1 u.4);
      }

  abbrev Turns : List Word → List Module → Option ⊥ → Type 0
  Turns ws ms b = SpellChain (SpellWith L (made goes_on_with module_form)) ws ms b

  abbrev turns_stand : (ws : List Word) (ms : List Module) (b : Option ⊥) → Turns ws ms b → List (Stand Word)
  turns_stand ws ms b t = stands_chain (SpellWith L (made goes_on_with module_form)) (stands_with L inner (made goes_on_with module_form)) ws ms b t

  turns_few : (limit c : ℕ) (ws : List Word) (ms : List Module) (b : Option ⊥) (t : Turns ws ms b) → HaveFewNames limit ms → past_limit limit c (turns_stand ws ms b t) ≡ None
  turns_few limit c ws [] None t h = refl
  turns_few limit c ws [] (Some b) t h = absurd b
  turns_few limit c ws (k ∷ ms) b t h =
      let v = t.3 in
      let same : k ≡ v.0 = (let e : inl k ≡ inl v.0 = v.1 in cc) in
      let p = module_stands t.0 v.0 v.2 in
      let rest : List (Stand Word) = turns_stand t.1 ms b t.4 in
      let few : module_names v.0 ≤ limit = subst (λ (z : Module). module_names z ≤ limit) same h.0 in
      ap (λ (z : List (Stand Word)). past_limit limit c (z ++ rest)) p.is
      ∙ past_anew limit c p.first (p.more ++ rest) p.anew
      ∙ past_few limit 0 (module_names v.0) p.more rest p.tallied (omega arith)
      ∙ turns_few limit (0 + module_names v.0) t.1 ms b t.4 h.1

  turns_within : (limit c : ℕ) (ws : List Word) (ms : List Module) (b : Option ⊥) (t : Turns ws ms b) → past_limit limit c (turns_stand ws ms b t) ≡ None → HaveFewNames limit ms
  turns_within limit c ws [] b t e = tt
  turns_within limit c ws (k ∷ ms) b t e =
      let v = t.3 in
      let same : k ≡ v.0 = (let i : inl k ≡ inl v.0 = v.1 in cc) in
      let p = module_stands t.0 v.0 v.2 in
      let rest : List (Stand Word) = turns_stand t.1 ms b t.4 in
      let none = sym (past_anew limit c p.first (p.more ++ rest) p.anew) ∙ sym (ap (λ (z : List (Stand Word)). past_limit limit c (z ++ rest)) p.is) ∙ e in
      let w = past_within limit 0 (module_names v.0) p.more rest p.tallied (omega arith) none in
      (subst (λ (z : Module). module_names z ≤ limit) (sym same) (let j = w.0 in omega arith), turns_within limit (0 + module_names v.0) t.1 ms b t.4 w.1)

pub names_counted : (limit levels : ℕ) (ws : List Word) (ms : List Module) (s : Spells grammar.rule levels grammar.text ws ms) → AreCounted limit levels ws ms s
unfolding text
names_counted limit levels ws ms s = record {
  few = λ h. turns_few levels limit 0 ws s.0.0 s.0.1 s.2 (subst (HaveFewNames limit) s.1 h);
  within = λ e. subst (HaveFewNames limit) (sym s.1) (turns_within levels limit 0 ws s.0.0 s.0.1 s.2 e);
}
