-- The answer for a whole text, by what counting gave.
use Rattle.std.specs.Prelude.{◌==◌}
use Rattle.std.proofs.Common.{◌≡◌, ℕ, true, false, List, length, Some, None, Ok, Err, refl, sym, ap, ◌∙◌}
use Rattle.uc_forms.specs.declared.fault.Fault.{Fault}
use Rattle.uc_forms.specs.declared.fault.Fault.TheVariants.{Syntax, TooDeep}
use Rattle.uc_forms.specs.declared.tally.Tally.{Tally}
use Rattle.uc_forms.specs.Reading.{Outcome as Read, read, noted}
use Rattle.uc_forms.specs.Grammar.{Grammar}
use Rattle.uc_forms.specs.Answer.{spelled, wrong, too_deep, too_many, WordOf, IsAnswer}
use Rattle.uc_forms.specs.Tally.{fresh, counted_on}
use Rattle.uc_forms.proofs.Whole.{many_answered, all_answered, left_answered, wrong_answered, deep_answered}
use Rattle.uc_forms.specs.Counted.{Outcome, count}
use Rattle.uc_forms.specs.CountedLaw.{joined}
use Rattle.uc_forms.proofs.Joined.{counted}

module _ (g : Grammar) (levels limit : ℕ) (ws : List (WordOf g)) where
  abbrev names : Tally (WordOf g)
  names = counted_on (fresh limit) (noted g.rule g.opens levels g.text ws)

  abbrev reads : Read (WordOf g) g.Text
  reads = read g.rule g.opens levels g.text ws

  abbrev counts : Outcome (WordOf g) g.Text
  counts = count g.rule g.opens levels g.text (ws, fresh limit)

  abbrev Both : Read (WordOf g) g.Text → Tally (WordOf g) → Type 0
  Both r n = (reads ≡ r) × (n ≡ names)

  abbrev read_of : Outcome (WordOf g) g.Text → Read (WordOf g) g.Text
  read_of (Ok y) = Ok (y.0, y.1.0)
  read_of (Err y) = Err (y.0, y.1.0)

  abbrev names_of : Outcome (WordOf g) g.Text → Tally (WordOf g)
  names_of (Ok y) = y.1.1
  names_of (Err y) = y.1.1

  read_back : (r : Read (WordOf g) g.Text) (n : Tally (WordOf g)) → (read_of (joined r n) ≡ r) × (names_of (joined r n) ≡ n)
  read_back (Ok x) n = (refl, refl)
  read_back (Err e) n = (refl, refl)

  counts_are : (r : Read (WordOf g) g.Text) (n : Tally (WordOf g)) → counts ≡ joined r n → Both r n
  counts_are r n e =
      let j : joined reads names ≡ joined r n = sym (counted g.rule g.opens levels g.text ws (fresh limit)) ∙ e in
      (sym (read_back reads names).0 ∙ ap (λ z. read_of z) j ∙ (read_back r n).0, sym (sym (read_back reads names).1 ∙ ap (λ z. names_of z) j ∙ (read_back r n).1))

  value_both : (a : g.Text) (rest : List (WordOf g)) (n : Tally (WordOf g)) → counts ≡ Ok (a, (rest, n)) → Both (Ok (a, rest)) n
  value_both a rest n e = counts_are (Ok (a, rest)) n e

  fault_both : (f : Fault) (rest : List (WordOf g)) (n : Tally (WordOf g)) → counts ≡ Err (f, (rest, n)) → Both (Err (f, rest)) n
  fault_both f rest n e = counts_are (Err (f, rest)) n e

  -- all of the words were read
  pub all_read : (a : g.Text) (rest : List (WordOf g)) (n : Tally (WordOf g)) → counts ≡ Ok (a, (rest, n)) → n.past ≡ None → length rest == 0 ≡ true → IsAnswer g levels limit ws (spelled a)
  all_read a rest n e p t = let b = value_both a rest n e in all_answered g levels limit ws n a rest b.1 b.0 p t

  -- some were left
  pub left_over : (a : g.Text) (rest : List (WordOf g)) (n : Tally (WordOf g)) → counts ≡ Ok (a, (rest, n)) → n.past ≡ None → length rest == 0 ≡ false → IsAnswer g levels limit ws (wrong rest)
  left_over a rest n e p t = let b = value_both a rest n e in left_answered g levels limit ws n a rest b.1 b.0 p t

  -- a name was past the limit
  pub many_read : (a : g.Text) (rest : List (WordOf g)) (n : Tally (WordOf g)) (x : WordOf g) → counts ≡ Ok (a, (rest, n)) → n.past ≡ Some x → IsAnswer g levels limit ws (too_many x)
  many_read a rest n x e p = let b = value_both a rest n e in many_answered g levels limit ws n (Ok (a, rest)) x b.1 b.0 p

  pub many_stopped : (f : Fault) (rest : List (WordOf g)) (n : Tally (WordOf g)) (x : WordOf g) → counts ≡ Err (f, (rest, n)) → n.past ≡ Some x → IsAnswer g levels limit ws (too_many x)
  many_stopped f rest n x e p = let b = fault_both f rest n e in many_answered g levels limit ws n (Err (f, rest)) x b.1 b.0 p

  -- reading stopped
  pub wrong_stopped : (rest : List (WordOf g)) (n : Tally (WordOf g)) → counts ≡ Err (Syntax, (rest, n)) → n.past ≡ None → IsAnswer g levels limit ws (wrong rest)
  wrong_stopped rest n e p = let b = fault_both Syntax rest n e in wrong_answered g levels limit ws n rest b.1 b.0 p

  pub deep_stopped : (rest : List (WordOf g)) (n : Tally (WordOf g)) → counts ≡ Err (TooDeep, (rest, n)) → n.past ≡ None → IsAnswer g levels limit ws (too_deep rest)
  deep_stopped rest n e p = let b = fault_both TooDeep rest n e in deep_answered g levels limit ws n rest b.1 b.0 p
