-- Equations of tests.
use Rattle.std.proofs.Common.{◌≡◌, Bool, true, false, refl, sym, ◌∙◌, ap, ◌⊎◌, inl, inr}
use Rattle.std.specs.Prelude.{not, ◌&&◌, ◌||◌}

pub nothing : {A : Type 0} → true ≡ false → A
nothing h = cc

pub either : (b c : Bool) → (b || c) ≡ true → (b ≡ true) ⊎ (c ≡ true)
either true c h = inl refl
either false c h = inr h

pub or_left : (b c : Bool) → b ≡ true → (b || c) ≡ true
or_left true c h = refl
or_left false c h = nothing (sym h)

pub or_right : (b c : Bool) → c ≡ true → (b || c) ≡ true
or_right true c h = refl
or_right false c h = h

pub or_assoc : (a b c : Bool) → ((a || b) || c) ≡ (a || (b || c))
or_assoc true b c = refl
or_assoc false b c = refl

pub and_left : (b c : Bool) → (b && c) ≡ true → b ≡ true
and_left true c h = refl
and_left false c h = h

pub and_right : (b c : Bool) → (b && c) ≡ true → c ≡ true
and_right true c h = h
and_right false c h = nothing (sym h)

pub both : (b c : Bool) → b ≡ true → c ≡ true → (b && c) ≡ true
both true c h k = k
both false c h k = nothing (sym h)

-- what isn't left stays so
pub false_and : (b c : Bool) → b ≡ false → (b && c) ≡ false
false_and true c h = nothing h
false_and false c h = refl

pub and_none : (b : Bool) → (b && false) ≡ false
and_none true = refl
and_none false = refl

pub and_all : (b : Bool) → b ≡ (b && true)
and_all true = refl
and_all false = refl

pub or_none : (b : Bool) → b ≡ (b || false)
or_none true = refl
or_none false = refl

-- what is left after two tests
pub left_two : (l a b : Bool) → ((l && not a) && not b) ≡ (l && not (a || b))
left_two true true b = refl
left_two true false b = refl
left_two false a b = refl

-- what is taken by two tests
pub taken_two : (t l a b : Bool) → ((t || (l && a)) || ((l && not a) && b)) ≡ (t || (l && (a || b)))
taken_two true l a b = refl
taken_two false true true b = refl
taken_two false true false b = refl
taken_two false false a b = refl

-- what is left after a round
pub left_round : (l h e : Bool) → ((l && not h) && not e) ≡ (l && not (h || ((l && not h) && e)))
left_round true true e = refl
left_round true false e = refl
left_round false h e = refl

pub left_first : (l s : Bool) → (l && not s) ≡ (l && not (l && s))
left_first true s = refl
left_first false s = refl

-- what was left and isn't any more was taken
pub was_taken : (l h : Bool) → (l && not h) ≡ false → l ≡ true → h ≡ true
was_taken true true e k = refl
was_taken true false e k = nothing e
was_taken false h e k = nothing (sym k)
