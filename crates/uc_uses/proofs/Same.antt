-- The first of two lists of the same faults is the same.
use Rattle.std.proofs.Common.{◌≡◌, List, [], ◌∷◌, Option, refl, ap, sym, ◌∙◌, inl, inr, ⊎_elim}
use Rattle.uc_rules.specs.declared.fault.Fault.{Fault}
use Rattle.uc_rules.specs.Faults.{earlier, first_of}
use Rattle.uc_rules.proofs.Swaps.{any_order, noted_again}
use Rattle.uc_declared_types.specs.AliasLaw.{IsAmong}

again : (o : Option Fault) (f : Fault) → earlier (earlier o f) f ≡ earlier o f
unfolding first_of
again o f = noted_again o (f ∷ [])

swapped : (o : Option Fault) (f : Fault) (fs : List Fault) → first_of (earlier o f) fs ≡ earlier (first_of o fs) f
unfolding first_of
swapped o f fs = any_order o (f ∷ []) fs

absorbed : (o : Option Fault) (fs : List Fault) (g : Fault) → IsAmong g fs → earlier (first_of o fs) g ≡ first_of o fs
unfolding first_of IsAmong
absorbed o [] g h = absurd h
absorbed o (f ∷ fs) g h =
    ⊎_elim
    (λ e. ap (earlier (first_of (earlier o f) fs)) e ∙ sym (swapped (earlier o f) f fs) ∙ ap (λ p. first_of p fs) (again o f))
    (λ r. absorbed (earlier o f) fs g r)
    h

absorbed_all : (o : Option Fault) (fs gs : List Fault) → ((g : Fault) → IsAmong g gs → IsAmong g fs) → first_of (first_of o fs) gs ≡ first_of o fs
unfolding first_of IsAmong
absorbed_all o fs [] within = refl
absorbed_all o fs (g ∷ gs) within = ap (λ p. first_of p gs) (absorbed o fs g (within g (inl refl))) ∙ absorbed_all o fs gs (λ f h. within f (inr h))

pub same_first : (o : Option Fault) (fs gs : List Fault) → ((f : Fault) → IsAmong f fs → IsAmong f gs) → ((f : Fault) → IsAmong f gs → IsAmong f fs) → first_of o fs ≡ first_of o gs
same_first o fs gs there back = sym (absorbed_all o fs gs back) ∙ any_order o fs gs ∙ absorbed_all o gs fs there
