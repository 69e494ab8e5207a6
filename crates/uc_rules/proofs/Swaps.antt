-- Faults are kept by a strict order in which no two faults are alike.
use Rattle.std.proofs.Common.{◌≡◌, ℕ, Bool, true, false, List, [], ◌∷◌, Option, Some, None, refl, ap, ◌∙◌, sym, arith}
use Rattle.std.specs.Prelude.{nat_lt, nat_eq, if◌then◌else◌}
use Rattle.uc_lexer.specs.declared.place.Place.{Place}
use Rattle.uc_rules.specs.declared.rule.Rule.{Rule}
use Rattle.uc_rules.specs.declared.rule.Rule.TheVariants.{UnknownName, DuplicateName, WrongType, Nonlinear, WideLiteral, Unbound, NotAssignable, BadPrime, BadCopy, NotModifies, BadWidth, ArrayShape, AxiomState, Cycle, TwiceAssigned, CyclicStep, SteppedTwice, TooLarge}
use Rattle.uc_rules.specs.declared.fault.Fault.{Fault}
use Rattle.uc_rules.specs.Faults.{number_of, less, sooner, earlier, first_of}
use Rattle.uc_rules.specs.AnyOrder.{AnyOrder, NotedAgain}

less_trans : (a b c : ℕ) (r s t : Bool) → (r ≡ true → s ≡ true → t ≡ true) → less a b r ≡ true → less b c s ≡ true → less a c t ≡ true
less_trans a b c r s t h p q = grind (arith, h, p, q)

lt_trans : (a b c : ℕ) → nat_lt a b ≡ true → nat_lt b c ≡ true → nat_lt a c ≡ true
lt_trans a b c p q = grind (arith, p, q)

sooner_trans : (f g h : Fault) → sooner f g ≡ true → sooner g h ≡ true → sooner f h ≡ true
sooner_trans f g h =
    less_trans f.place.file g.place.file h.place.file _ _ _
    (less_trans f.place.line g.place.line h.place.line _ _ _
    (less_trans f.place.col g.place.col h.place.col _ _ _ (lt_trans (number_of f.rule) (number_of g.rule) (number_of h.rule))))

sooner_own : (f : Fault) → sooner f f ≡ false
sooner_own f = grind arith

-- the rule of a number
rule_of : ℕ → Rule
rule_of n =
    if nat_eq n 10 then UnknownName else if nat_eq n 11 then DuplicateName else if nat_eq n 12 then WrongType else if nat_eq n 13 then Nonlinear
    else if nat_eq n 14 then WideLiteral else if nat_eq n 15 then Unbound else if nat_eq n 16 then NotAssignable else if nat_eq n 17 then BadPrime
    else if nat_eq n 18 then BadCopy else if nat_eq n 19 then NotModifies else if nat_eq n 20 then BadWidth else if nat_eq n 21 then ArrayShape
    else if nat_eq n 22 then AxiomState else if nat_eq n 23 then Cycle else if nat_eq n 24 then TwiceAssigned else if nat_eq n 25 then CyclicStep
    else if nat_eq n 26 then SteppedTwice else TooLarge

rule_again : (r : Rule) → rule_of (number_of r) ≡ r
unfolding rule_of
rule_again UnknownName = refl
rule_again DuplicateName = refl
rule_again WrongType = refl
rule_again Nonlinear = refl
rule_again WideLiteral = refl
rule_again Unbound = refl
rule_again NotAssignable = refl
rule_again BadPrime = refl
rule_again BadCopy = refl
rule_again NotModifies = refl
rule_again BadWidth = refl
rule_again ArrayShape = refl
rule_again AxiomState = refl
rule_again Cycle = refl
rule_again TwiceAssigned = refl
rule_again CyclicStep = refl
rule_again SteppedTwice = refl
rule_again TooLarge = refl

rule_same : (r s : Rule) → number_of r ≡ number_of s → r ≡ s
rule_same r s e = sym (rule_again r) ∙ ap rule_of e ∙ rule_again s

less_same : (a b : ℕ) (r s : Bool) → less a b r ≡ false → less b a s ≡ false → a ≡ b
less_same a b r s p q = grind (arith, p, q)

less_left : (a b : ℕ) (r s : Bool) → less a b r ≡ false → less b a s ≡ false → r ≡ false
less_left a b r s p q = grind (arith, p, q)

less_right : (a b : ℕ) (r s : Bool) → less a b r ≡ false → less b a s ≡ false → s ≡ false
less_right a b r s p q = grind (arith, p, q)

lt_same : (a b : ℕ) → nat_lt a b ≡ false → nat_lt b a ≡ false → a ≡ b
lt_same a b p q = grind (arith, p, q)

-- two faults of which neither comes first are the same
neither : (f g : Fault) → sooner f g ≡ false → sooner g f ≡ false → f ≡ g
neither f g p q =
    let file : f.place.file ≡ g.place.file = less_same _ _ _ _ p q in
    let p1 = less_left f.place.file g.place.file _ _ p q in
    let q1 = less_right f.place.file g.place.file _ _ p q in
    let line : f.place.line ≡ g.place.line = less_same _ _ _ _ p1 q1 in
    let p2 = less_left f.place.line g.place.line _ _ p1 q1 in
    let q2 = less_right f.place.line g.place.line _ _ p1 q1 in
    let col : f.place.col ≡ g.place.col = less_same _ _ _ _ p2 q2 in
    let p3 = less_left f.place.col g.place.col _ _ p2 q2 in
    let q3 = less_right f.place.col g.place.col _ _ p2 q2 in
    let rule : f.rule ≡ g.rule = rule_same f.rule g.rule (lt_same (number_of f.rule) (number_of g.rule) p3 q3) in
    (λ k. record { rule = rule k; place = record { file = file k; line = line k; col = col k } })

clash : {A : Type 0} (b : Bool) → b ≡ true → b ≡ false → A
clash b p q = cc

-- the first of two faults
both : (f g : Fault) → earlier (Some f) g ≡ earlier (Some g) f
both f g = by (sooner g f) (sooner f g) refl refl
  where
    by : (b c : Bool) → sooner g f ≡ b → sooner f g ≡ c → (if b then Some g else Some f) ≡ (if c then Some f else Some g)
    by true true p q = clash (sooner g g) (sooner_trans g f g p q) (sooner_own g)
    by true false p q = refl
    by false true p q = refl
    by false false p q = ap (λ x. Some x) (neither f g q p)

-- a fault that comes before one comes before each that doesn't
left : (f g h : Fault) (b : Bool) → sooner f h ≡ true → sooner g h ≡ false → sooner g f ≡ b → (if b then Some g else Some f) ≡ Some f
left f g h true p q e = clash (sooner g h) (sooner_trans g f h e p) q
left f g h false p q e = refl

keeps : (b : Bool) (f h : Fault) → sooner f h ≡ b → earlier (Some h) f ≡ (if b then Some f else Some h)
keeps b f h e = ap (λ c. if c then Some f else Some h) e

swap : (o : Option Fault) (f g : Fault) → earlier (earlier o f) g ≡ earlier (earlier o g) f
swap None f g = both f g
swap (Some h) f g = by (sooner f h) (sooner g h) refl refl
  where
    by : (b c : Bool) → sooner f h ≡ b → sooner g h ≡ c → earlier (if b then Some f else Some h) g ≡ earlier (if c then Some g else Some h) f
    by true true p q = both f g
    by true false p q = left f g h (sooner g f) p q refl ∙ sym (keeps true f h p)
    by false true p q = keeps true g h q ∙ sym (left g f h (sooner f g) q p refl)
    by false false p q = keeps false g h q ∙ sym (keeps false f h p)

later : (o : Option Fault) (f : Fault) (gs : List Fault) → first_of (earlier o f) gs ≡ earlier (first_of o gs) f
unfolding first_of
later o f [] = refl
later o f (g ∷ gs) = ap (λ p. first_of p gs) (swap o f g) ∙ later (earlier o g) f gs

pub any_order : AnyOrder
unfolding first_of
any_order o [] gs = refl
any_order o (f ∷ fs) gs = any_order (earlier o f) fs gs ∙ ap (λ p. first_of p fs) (later o f gs)

again : (o : Option Fault) (f : Fault) → earlier (earlier o f) f ≡ earlier o f
again None f = keeps false f f (sooner_own f)
again (Some h) f = by (sooner f h) refl
  where
    by : (b : Bool) → sooner f h ≡ b → earlier (if b then Some f else Some h) f ≡ (if b then Some f else Some h)
    by true p = keeps false f f (sooner_own f)
    by false p = keeps false f h p

pub noted_again : NotedAgain
unfolding first_of
noted_again o [] = refl
noted_again o (f ∷ fs) =
    ap (λ p. first_of p fs) (sym (later (earlier o f) f fs) ∙ ap (λ p. first_of p fs) (again o f)) ∙ noted_again (earlier o f) fs
