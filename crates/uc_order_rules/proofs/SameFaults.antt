-- Lists with the same faults have the same first one.
use Rattle.std.proofs.Common.{◌≡◌, Bool, true, false, List, [], ◌∷◌, ◌++◌, Option, refl, ap, ◌∙◌, sym, subst}
use Rattle.std.specs.Prelude.{◌⊎◌}
use Rattle.std.proofs.Common.{inl, inr}
use Rattle.uc_lexer.specs.declared.place.Place.{Place}
use Rattle.uc_rules.specs.declared.rule.Rule.{Rule}
use Rattle.uc_rules.specs.declared.fault.Fault.{Fault}
use Rattle.uc_rules.specs.Faults.{breaks_where, earlier, first_of, IsIn}
use Rattle.uc_rules.proofs.Swaps.{any_order, noted_again}

-- all faults of one list are among those of another
abbrev pub Among : List Fault → List Fault → Type 0
Among xs ys = (f : Fault) → IsIn f xs → IsIn f ys

-- two lists have the same faults
abbrev pub SameFaults : List Fault → List Fault → Type 0
SameFaults xs ys = Among xs ys × Among ys xs

pub in_left : (f : Fault) (xs ys : List Fault) → IsIn f xs → IsIn f (xs ++ ys)
unfolding IsIn
in_left f [] ys h = absurd h
in_left f (x ∷ xs) ys (inl e) = inl e
in_left f (x ∷ xs) ys (inr h) = inr (in_left f xs ys h)

pub in_right : (f : Fault) (xs ys : List Fault) → IsIn f ys → IsIn f (xs ++ ys)
unfolding IsIn
in_right f [] ys h = h
in_right f (x ∷ xs) ys h = inr (in_right f xs ys h)

pub in_either : (f : Fault) (xs ys : List Fault) → IsIn f (xs ++ ys) → IsIn f xs ⊎ IsIn f ys
unfolding IsIn
in_either f [] ys h = inr h
in_either f (x ∷ xs) ys (inl e) = inl (inl e)
in_either f (x ∷ xs) ys (inr h) = elim (in_either f xs ys h) [ inl l ↦ inl (inr l) | inr r ↦ inr r ]

pub none_in : (f : Fault) → IsIn f [] → ⊥
unfolding IsIn
none_in f h = h

pub among_join : (xs ys zs : List Fault) → Among xs zs → Among ys zs → Among (xs ++ ys) zs
among_join xs ys zs a b f h = elim (in_either f xs ys h) [ inl l ↦ a f l | inr r ↦ b f r ]

pub among_both : (xs ys us vs : List Fault) → Among xs us → Among ys vs → Among (xs ++ ys) (us ++ vs)
among_both xs ys us vs a b = among_join xs ys (us ++ vs) (λ f h. in_left f us vs (a f h)) (λ f h. in_right f us vs (b f h))

pub same_both : (xs ys us vs : List Fault) → SameFaults xs us → SameFaults ys vs → SameFaults (xs ++ ys) (us ++ vs)
same_both xs ys us vs a b = (among_both xs ys us vs a.0 b.0, among_both us vs xs ys a.1 b.1)

pub same_equal : (xs ys : List Fault) → xs ≡ ys → SameFaults xs ys
same_equal xs ys e = (λ f h. subst (IsIn f) e h, λ f h. subst (IsIn f) (sym e) h)

pub same_then : (xs ys zs : List Fault) → SameFaults xs ys → SameFaults ys zs → SameFaults xs zs
same_then xs ys zs a b = (λ f h. b.0 f (a.0 f h), λ f h. a.1 f (b.1 f h))

pub breaks_grow : (b c : Bool) (rule : Rule) (place : Place) → (b ≡ true → c ≡ true) → Among (breaks_where b rule place) (breaks_where c rule place)
breaks_grow true true rule place h f i = i
breaks_grow true false rule place h f i = let bad : false ≡ true = h refl in absurd cc
breaks_grow false c rule place h f i = absurd (none_in f i)

swap : (o : Option Fault) (f g : Fault) (gs : List Fault) → first_of (earlier (earlier o f) g) gs ≡ first_of (earlier (earlier o g) f) gs
unfolding first_of
swap o f g gs = ap (λ p. first_of p gs) (any_order o (f ∷ []) (g ∷ []))

again : (o : Option Fault) (f : Fault) (gs : List Fault) → first_of (earlier (earlier o f) f) gs ≡ first_of (earlier o f) gs
unfolding first_of
again o f gs = ap (λ p. first_of p gs) (noted_again o (f ∷ []))

-- a fault that is among those of a list changes nothing before them
noted_in : (o : Option Fault) (f : Fault) (gs : List Fault) → IsIn f gs → first_of (earlier o f) gs ≡ first_of o gs
unfolding IsIn first_of
noted_in o f [] h = absurd h
noted_in o f (g ∷ gs) (inl e) = ap (λ x. first_of (earlier (earlier o x) g) gs) e ∙ again o g gs
noted_in o f (g ∷ gs) (inr h) = swap o f g gs ∙ noted_in (earlier o g) f gs h

all_noted : (o : Option Fault) (fs gs : List Fault) → Among fs gs → first_of (first_of o fs) gs ≡ first_of o gs
unfolding IsIn first_of
all_noted o [] gs a = refl
all_noted o (f ∷ fs) gs a = all_noted (earlier o f) fs gs (λ x h. a x (inr h)) ∙ noted_in o f gs (a f (inl refl))

pub same_first : (o : Option Fault) (fs gs : List Fault) → SameFaults fs gs → first_of o fs ≡ first_of o gs
same_first o fs gs same = sym (all_noted o gs fs same.1) ∙ any_order o gs fs ∙ all_noted o fs gs same.0
