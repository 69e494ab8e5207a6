-- What reading gave, by what was made of its value.
use Rattle.std.proofs.Common.{◌≡◌, Ok, Err, refl, ap, true, false, ◌⊎◌, inl, inr, ℕ}
use Rattle.uc_forms.specs.declared.stop.Stop.{Stop}
use Rattle.uc_forms.specs.declared.stop.Stop.TheVariants as stops
use Rattle.uc_forms.specs.Form.{either}
use Rattle.uc_forms.specs.Reading.{is_at, first}
use Rattle.uc_forms.specs.Counted.{State, Outcome, turned}
use Rattle.uc_forms.specs.CountedGives.{StopsAt}
use Rattle.uc_forms.proofs.Shapes.{first_is, second_is}
use Rattle.uc_grammar.specs.declared.word.Word.{Word}
use Rattle.uc_grammar.specs.Syntax.{words, F, rule, opens}
use Rattle.uc_parse_expressions.specs.Reading.{form}

abbrev value_in : {W A : Type 0} → A → Outcome W A → A
value_in d (Ok x) = x.0
value_in d (Err f) = d

abbrev state_in : {W A : Type 0} → Outcome W A → State W
state_in (Ok x) = x.1
state_in (Err f) = f.1

pub turned_back : {W A B : Type 0} (h : A → B) (r : Outcome W A) (b : B) (rest : State W) → turned h r ≡ Ok (b, rest) → (a : A) × (h a ≡ b) × (r ≡ Ok (a, rest))
turned_back h (Ok x) b rest e = let value : h x.0 ≡ b = ap (λ o. value_in b o) e in let same : x.1 ≡ rest = ap (λ o. state_in o) e in (x.0, value, rw same refl)
turned_back h (Err f) b rest e = absurd cc

pub turned_stopped : {W A B : Type 0} (e : Stop) (h : A → B) (r : Outcome W A) (rest : State W) → StopsAt e rest (turned h r) → StopsAt e rest r
turned_stopped stops.Memory h r rest g = tt
turned_stopped (stops.At d) h (Ok x) rest g = absurd cc
turned_stopped (stops.At d) h (Err f) rest g = let same : f ≡ (d, rest) = cc g in rw same refl

pub turned_stops : {W A B : Type 0} (e : Stop) (h : A → B) (r : Outcome W A) (rest : State W) → StopsAt e rest r → StopsAt e rest (turned h r)
turned_stops stops.Memory h r rest g = tt
turned_stops (stops.At d) h r rest g = rw g refl

-- one or the other stopped
pub first_stops : {A B : Type 0} (e : Stop) (levels : ℕ) (f : F A) (g : F B) (s rest : State Word) → is_at words (first opens f) s.0 ≡ true → StopsAt e rest (form levels f s) → StopsAt e rest (form levels (either f g) s)
first_stops {A} {B} e levels f g s rest t h = rw (first_is rule opens levels f g s t) (turned_stops e (λ (a : A). let x : A ⊎ B = inl a in x) (form levels f s) rest h)

pub second_stops : {A B : Type 0} (e : Stop) (levels : ℕ) (f : F A) (g : F B) (s rest : State Word) → is_at words (first opens f) s.0 ≡ false → StopsAt e rest (form levels g s) → StopsAt e rest (form levels (either f g) s)
second_stops {A} {B} e levels f g s rest t h = rw (second_is rule opens levels f g s t) (turned_stops e (λ (b : B). let x : A ⊎ B = inr b in x) (form levels g s) rest h)
