-- From all languages of nested forms to the levels of the grammar.
use Rattle.std.proofs.Common.{◌≡◌, ℕ, true, List, [], ◌∷◌, map, ap, inl, inr}
use Rattle.std.specs.Prelude.{◌==◌}
use Rattle.std.proofs.lemmas.Bool.{or_left, or_cases, eqb-true, eq-eqb}
use Rattle.uc_forms.specs.Form.{member}
use Rattle.uc_forms.specs.Spelling.{Language, Stand, Standing, SpellAt, stands_at, SpellWith, stands_with}
use Rattle.uc_grammar.specs.declared.word.Word.{Word}
use Rattle.uc_grammar.specs.Syntax.{words, Nested, Value, F, rule}
use Rattle.uc_grammar.specs.Same.{counted, StandAlike, IsSpelledBy, SpellTheSame}
use Rattle.uc_grammar.proofs.Regroup.{Into}

pub alike : (xs ys : List (Stand Word)) → xs ≡ ys → StandAlike xs ys
alike xs ys e = (ap (λ zs. map (λ z. z.depth) zs) e, ap counted e)

pub one_way : {A : Type 0} (f g : F A) → ((L : Language words Nested Value) (inner : Standing words Nested Value L) → Into L inner f g) → IsSpelledBy f g
one_way f g m level ws a s = let t = m (SpellAt rule level) (stands_at rule level) ws a s in (t.0, alike _ _ t.1)

pub both_ways : {A : Type 0} (f g : F A) → ((L : Language words Nested Value) (inner : Standing words Nested Value L) → Into L inner f g) → ((L : Language words Nested Value) (inner : Standing words Nested Value L) → Into L inner g f) → SpellTheSame f g
both_ways f g to of = (one_way f g to, one_way g f of)

-- what f spells, g spells, and the words stand alike
abbrev pub Like : (L : Language words Nested Value) (inner : Standing words Nested Value L) {A : Type 0} → F A → F A → Type 0
Like L inner {A} f g = (ws : List Word) (a : A) (s : SpellWith L f ws a) → (t : SpellWith L g ws a) × StandAlike (stands_with L inner f ws a s) (stands_with L inner g ws a t)

pub one_like : {A : Type 0} (f g : F A) → ((L : Language words Nested Value) (inner : Standing words Nested Value L) → Like L inner f g) → IsSpelledBy f g
one_like f g m level ws a s = m (SpellAt rule level) (stands_at rule level) ws a s

pub both_like : {A : Type 0} (f g : F A) → ((L : Language words Nested Value) (inner : Standing words Nested Value L) → Like L inner f g) → ((L : Language words Nested Value) (inner : Standing words Nested Value L) → Like L inner g f) → SpellTheSame f g
both_like f g to of = (one_like f g to, one_like g f of)

-- a word of one kind
pub code_is : (c d : ℕ) → member c (d ∷ []) ≡ true → c ≡ d
code_is c d m = elim (or_cases (c == d) _ m) [ inl e ↦ eqb-true c d e | inr e ↦ absurd cc ]

pub is_code : (c d : ℕ) → c ≡ d → member c (d ∷ []) ≡ true
is_code c d e = or_left (c == d) _ (eq-eqb c d e)
