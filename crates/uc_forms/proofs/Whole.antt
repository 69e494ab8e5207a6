-- What a parser is to answer, by what its functions gave and counted.
use Rattle.std.specs.Prelude.{◌==◌}
use Rattle.std.proofs.Common.{◌≡◌, ℕ, true, false, List, [], ◌∷◌, length, Option, Some, None, Ok, Err, sym, ap, subst, ◌∙◌, arith}
use Rattle.std.proofs.lemmas.Bool.{eqb-true}
use Rattle.uc_forms.specs.declared.fault.Fault.TheVariants.{Syntax, TooDeep}
use Rattle.uc_forms.specs.declared.tally.Tally.{Tally}
use Rattle.uc_forms.specs.Spelling.{past_limit}
use Rattle.uc_forms.specs.Reading.{Outcome, read, noted}
use Rattle.uc_forms.specs.Grammar.{Grammar}
use Rattle.uc_forms.specs.Answer.{spelled, wrong, too_deep, too_many, WordOf, IsAnswer, whole, first_of}
use Rattle.uc_forms.specs.Tally.{fresh, counted_on}
use Rattle.uc_forms.proofs.Tallies.{counted_past}
use Rattle.uc_forms.proofs.Every.{answers_right}

module _ (g : Grammar) (levels limit : ℕ) (ws : List (WordOf g)) (n : Tally (WordOf g)) where
  answer_is : (r : Outcome (WordOf g) g.Text) (o : Option (WordOf g)) → n ≡ counted_on (fresh limit) (noted g.rule g.opens levels g.text ws) → read g.rule g.opens levels g.text ws ≡ r → n.past ≡ o → IsAnswer g levels limit ws (first_of o (whole r))
  answer_is r o c e p =
      let q : past_limit limit 0 (noted g.rule g.opens levels g.text ws) ≡ o = sym (counted_past limit (noted g.rule g.opens levels g.text ws)) ∙ sym (ap (λ (m : Tally (WordOf g)). m.past) c) ∙ p in
      subst (λ (x : Option (WordOf g)). IsAnswer g levels limit ws (first_of x (whole r))) q
      (subst (λ (x : Outcome (WordOf g) g.Text). IsAnswer g levels limit ws (first_of (past_limit limit 0 (noted g.rule g.opens levels g.text ws)) (whole x))) e (answers_right g levels limit ws))

  -- a name was past the limit
  pub many_answered : (r : Outcome (WordOf g) g.Text) (x : WordOf g) → n ≡ counted_on (fresh limit) (noted g.rule g.opens levels g.text ws) → read g.rule g.opens levels g.text ws ≡ r → n.past ≡ Some x → IsAnswer g levels limit ws (too_many x)
  many_answered r x c e p = answer_is r (Some x) c e p

  -- all of the words were read
  pub all_answered : (a : g.Text) (rest : List (WordOf g)) → n ≡ counted_on (fresh limit) (noted g.rule g.opens levels g.text ws) → read g.rule g.opens levels g.text ws ≡ Ok (a, rest) → n.past ≡ None → length rest == 0 ≡ true → IsAnswer g levels limit ws (spelled a)
  all_answered a [] c e p t = answer_is (Ok (a, [])) None c e p
  all_answered a (w ∷ rest) c e p t = absurd (let z : length (w ∷ rest) ≡ 0 = eqb-true (length (w ∷ rest)) 0 t in omega arith)

  -- some were left
  pub left_answered : (a : g.Text) (rest : List (WordOf g)) → n ≡ counted_on (fresh limit) (noted g.rule g.opens levels g.text ws) → read g.rule g.opens levels g.text ws ≡ Ok (a, rest) → n.past ≡ None → length rest == 0 ≡ false → IsAnswer g levels limit ws (wrong rest)
  left_answered a [] c e p t = absurd cc
  left_answered a (w ∷ rest) c e p t = answer_is (Ok (a, w ∷ rest)) None c e p

  -- reading stopped
  pub wrong_answered : (rest : List (WordOf g)) → n ≡ counted_on (fresh limit) (noted g.rule g.opens levels g.text ws) → read g.rule g.opens levels g.text ws ≡ Err (Syntax, rest) → n.past ≡ None → IsAnswer g levels limit ws (wrong rest)
  wrong_answered rest c e p = answer_is (Err (Syntax, rest)) None c e p

  pub deep_answered : (rest : List (WordOf g)) → n ≡ counted_on (fresh limit) (noted g.rule g.opens levels g.text ws) → read g.rule g.opens levels g.text ws ≡ Err (TooDeep, rest) → n.past ≡ None → IsAnswer g levels limit ws (too_deep rest)
  deep_answered rest c e p = answer_is (Err (TooDeep, rest)) None c e p
