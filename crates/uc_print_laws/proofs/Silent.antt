-- Forms that declare no name.
use Rattle.std.specs.Prelude.{◌&&◌}
use Rattle.std.proofs.Common.{◌≡◌, ◌⊎◌, inl, inr, Bool, true, false, List, [], ◌∷◌, Option, Some, None, refl, sym, arith}
use Rattle.std.proofs.lemmas.Bool.{and_parts}
use Rattle.uc_forms.specs.Form.{Mark, quiet, declares, restarts, any, nothing, both, either, chain, until, made, ahead, deep, many}
use Rattle.uc_forms.specs.Plain.{is_quiet, is_silent}
use Rattle.uc_grammar.specs.Syntax.{Nested, F, rule, clause, enum_braces, record_braces, array, block, typed_name, params, results, module_braces, expr, target, bound, command, primary, selection, unary, product, summed, concatenated, bit_and, bit_xor, bit_or, compared, conjunction, disjunction, implication, equivalence, expression, branch, target_part, run, counterexample}
use Rattle.uc_print_laws.specs.Names.{total, in_option}
use Rattle.uc_print_laws.proofs.Tallied.{mark_is}
use Rattle.uc_print_laws.proofs.Counts.{Deeper, Inner, Counts, in_either, c_any, c_is, c_nothing, c_both, c_either, c_made, c_chain, c_until, c_ahead}

-- the nested forms that declare none
abbrev pub silent_table : Nested → Bool
silent_table enum_braces = false
silent_table record_braces = false
silent_table array = false
silent_table block = false
silent_table typed_name = false
silent_table params = false
silent_table results = false
silent_table module_braces = false
silent_table other = true

quiet_mark : (q : Mark) → is_quiet q ≡ true → mark_is q 0
quiet_mark quiet e = refl
quiet_mark declares e = absurd cc
quiet_mark restarts e = absurd cc

pub no_total : {A : Type 0} (xs : List A) → total (λ a. 0) xs ≡ 0
no_total [] = refl
no_total (x ∷ xs) = omega (arith, no_total xs)

pub no_option : {A : Type 0} (o : Option A) → in_option (λ a. 0) o ≡ 0
no_option None = refl
no_option (Some a) = refl

no_either : {A B : Type 0} (x : A ⊎ B) → in_either (λ a. 0) (λ b. 0) x ≡ 0
no_either (inl a) = refl
no_either (inr b) = refl

module _ (L : Deeper) (inner : Inner L) (nests : (n : Nested) → silent_table n ≡ true → Counts L inner (deep n) (λ v. 0)) where
  pub silent : {A : Type 0} (f : F A) → is_silent silent_table f ≡ true → Counts L inner f (λ a. 0)
  silent (any q j js) e = c_any q j js 0 (quiet_mark q e)
  silent nothing e = c_nothing
  silent (both f g) e = let p = and_parts (is_silent silent_table f) (is_silent silent_table g) e in c_is (λ x. omega arith) (c_both (silent f p.0) (silent g p.1))
  silent (either f g) e = let p = and_parts (is_silent silent_table f) (is_silent silent_table g) e in c_is no_either (c_either (silent f p.0) (silent g p.1))
  silent (chain f) e = c_is (λ x. omega (arith, no_total x.0, no_option x.1)) (c_chain (λ a. 0) (λ b. 0) (c_is (λ x. sym (no_either x)) (silent f e)))
  silent (until f g) e = let p = and_parts (is_silent silent_table f) (is_silent silent_table g) e in c_is (λ x. omega (arith, no_total x.0)) (c_until (λ a. 0) (λ b. 0) (silent f p.0) (silent g p.1))
  silent (made h f) e = c_made h (λ a. refl) (silent f e)
  silent (ahead q j js k f g) e =
      let p = and_parts (is_quiet q) (is_silent silent_table f && is_silent silent_table g) e in
      let r = and_parts (is_silent silent_table f) (is_silent silent_table g) p.1 in
      c_is no_either (c_ahead q j js k 0 (quiet_mark q p.0) (silent f r.0) (silent g r.1))
  silent (deep n) e = nests n e

pub expr_silent : is_silent silent_table expr ≡ true
unfolding primary selection unary product summed concatenated bit_and bit_xor bit_or compared conjunction disjunction implication equivalence expression
expr_silent = refl

pub clauses_silent : is_silent silent_table (many clause) ≡ true
unfolding clause primary selection unary product summed concatenated bit_and bit_xor bit_or compared conjunction disjunction implication equivalence expression
clauses_silent = refl

pub rules_silent : (n : Nested) → silent_table n ≡ true → is_silent silent_table (rule n) ≡ true
unfolding primary selection unary product summed concatenated bit_and bit_xor bit_or compared conjunction disjunction implication equivalence expression branch target_part target bound run counterexample command
rules_silent enum_braces e = absurd cc
rules_silent record_braces e = absurd cc
rules_silent array e = absurd cc
rules_silent block e = absurd cc
rules_silent typed_name e = absurd cc
rules_silent params e = absurd cc
rules_silent results e = absurd cc
rules_silent module_braces e = absurd cc
rules_silent _ e = refl
