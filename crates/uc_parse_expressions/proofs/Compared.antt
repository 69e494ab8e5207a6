-- Comparisons.
use Rattle.std.proofs.Common.{◌≡◌, ℕ, true, false, Option, Some, None, Ok, Err, refl, ap, ◌∙◌, ◌⊎◌, inl, inr}
use Rattle.uc_forms.specs.Counted.{State, Outcome, turned, paired}
use Rattle.uc_forms.specs.CountedGives.{StopsAt}
use Rattle.uc_forms.proofs.Shapes.{first_is}
use Rattle.uc_forms.specs.Form.{both, made, one_of, nothing}
use Rattle.uc_forms.specs.declared.fault.Fault.{Fault}
use Rattle.uc_forms.specs.declared.stop.Stop.{Stop}
use Rattle.uc_forms.specs.declared.stop.Stop.TheVariants as stops
use Rattle.uc_forms.specs.Reading.{is_at}
use Rattle.uc_grammar.specs.declared.word.Word.{Word}
use Rattle.uc_grammar.specs.declared.word.Kind.TheVariants.{Equal}
use Rattle.uc_grammar.specs.Syntax.{words, rule, opens, F, Placed, optional, bit_or, compared, compared_of, comparison}
use Rattle.uc_parse_expressions.specs.Signs.{orders, order_codes}
use Rattle.uc_parse_expressions.proofs.Chains.{pair_is, pair_fails}
use Rattle.uc_parse_expressions.specs.Reading.{form}
use Rattle.uc_syntax.specs.declared.expression.Expr.TheViews as exprs

abbrev compared_with : F (Word × Placed)
compared_with = both (one_of Equal orders) bit_or

-- what a comparison gives, of which the first operand was read
abbrev rest_of : ℕ → Outcome Word Placed → Outcome Word Placed
rest_of levels r = turned compared_of (paired r (form levels (optional compared_with)))

none_given : (levels : ℕ) (mid : State Word) → is_at words order_codes mid.0 ≡ false → form levels (optional compared_with) mid ≡ Ok (None, mid)
none_given levels mid t = rw t refl

abbrev chosen : (Word × Placed) ⊎ Unit {0} → Option (Word × Placed)
chosen = elim [ inl a ↦ Some a | inr u ↦ None ]

first_given : (levels : ℕ) (mid : State Word) → is_at words order_codes mid.0 ≡ true → form levels (optional compared_with) mid ≡ turned chosen (turned inl (form levels compared_with mid))
first_given levels mid t = ap (λ (z : Outcome Word ((Word × Placed) ⊎ Unit {0})). turned chosen z) (first_is rule opens levels compared_with nothing mid t)

some_given : (levels : ℕ) (mid : State Word) (x : Word × Placed) (rest : State Word) → is_at words order_codes mid.0 ≡ true → form levels compared_with mid ≡ Ok (x, rest) → form levels (optional compared_with) mid ≡ Ok (Some x, rest)
some_given levels mid x rest t e = first_given levels mid t ∙ ap (λ (z : Outcome Word (Word × Placed)). turned chosen (turned inl z)) e

some_stops : (levels : ℕ) (mid : State Word) (d : Fault × State Word) → is_at words order_codes mid.0 ≡ true → form levels compared_with mid ≡ Err d → form levels (optional compared_with) mid ≡ Err d
some_stops levels mid d t e = first_given levels mid t ∙ ap (λ (z : Outcome Word (Word × Placed)). turned chosen (turned inl z)) e

pub compared_alone : (levels : ℕ) (p : Placed) (s : State Word) → is_at words order_codes s.0 ≡ false → rest_of levels (Ok (p, s)) ≡ Ok (p, s)
compared_alone levels p s t = ap (λ (r : Outcome Word (Option (Word × Placed))). turned compared_of (turned (λ o. (p, o)) r)) (none_given levels s t)

pub compared_pair : (levels : ℕ) (p : Placed) (s : State Word) (w : Word) (after : State Word) (q : Placed) (rest : State Word) → is_at words order_codes s.0 ≡ true → form levels (one_of Equal orders) s ≡ Ok (w, after) → form levels bit_or after ≡ Ok (q, rest)
    → rest_of levels (Ok (p, s)) ≡ Ok ((p.0, exprs.Compare p.0 (comparison w.kind) w.place p.1 q.1), rest)
compared_pair levels p s w after q rest t h k =
    ap (λ (r : Outcome Word (Option (Word × Placed))). turned compared_of (turned (λ o. (p, o)) r)) (some_given levels s (w, q) rest t (pair_is levels (one_of Equal orders) bit_or w q s after rest h k))

pub compared_fails : (e : Stop) (levels : ℕ) (p : Placed) (s : State Word) (w : Word) (after rest : State Word) → is_at words order_codes s.0 ≡ true → form levels (one_of Equal orders) s ≡ Ok (w, after) → StopsAt e rest (form levels bit_or after)
    → StopsAt e rest (rest_of levels (Ok (p, s)))
compared_fails stops.Memory levels p s w after rest t h k = tt
compared_fails (stops.At d) levels p s w after rest t h k =
    ap (λ (r : Outcome Word (Option (Word × Placed))). turned compared_of (turned (λ o. (p, o)) r)) (some_stops levels s (d, rest) t (pair_fails (stops.At d) levels (one_of Equal orders) bit_or w s after rest h k))

pub compared_is : compared ≡ made compared_of (both bit_or (optional compared_with))
unfolding compared
compared_is = refl
