-- What watched literals give, and how it is kept.
use Rattle.std.proofs.Common.{◌≡◌, ◌≢◌, ℕ, ◌+◌, ◌*◌, ◌%◌, ◌<◌, ◌⊎◌, inl, inr, Bool, true, false, not, List, [], ◌∷◌, Option, None, Some, length, get_or, set, refl, sym, ◌∙◌, ap, subst, arith, get_or-set_same, get_or-set_other}
use Rattle.std.specs.Prelude.{All, Contains}
use Rattle.std.proofs.lemmas.Bool.{cases_eq}
use Rattle.std.proofs.lemmas.List.{get_or_default}
use Rattle.std.proofs.lemmas.List.Elements.{All-contains, All-nil, All-weaker, Contains-get_or}
use Rattle.uc_circuit.specs.declared.literal.Lit.{Lit}
use Rattle.uc_circuit.specs.Literals.{negate}
use Rattle.uc_circuit.specs.Values.{value_of, assign, IsFalse, IsFalsified, HasNoValue, Forces, IsSettled}
use Rattle.uc_circuit.proofs.Scan.{literal_from_parts}
use Rattle.uc_rings.specs.declared.watches.Watches.{Watches}
use Rattle.uc_rings.specs.Pairs.{IsTrueIn, HasTrue, HasTwo, Replaces, partner}
use Rattle.uc_rings.specs.Watched.{WatchFits, Linked, OtherIsTrue, Guards, AllGuard, Below}
use Rattle.uc_rings.proofs.WatchesSlots.{same_or_not}

some_same : {A : Type 0} {a b : A} → Some a ≡ Some b → a ≡ b
some_same e = cc

none_some : {A : Type 0} {a : A} → None ≡ Some a → ⊥
none_some e = cc

differ : (b : Bool) → b ≡ not b → ⊥
differ true e = cc
differ false e = cc

pub not_both : (v : List (Option Bool)) (l : Lit) → IsFalse v l → IsTrueIn v l → ⊥
not_both v l f t = differ l.neg (some_same (sym f ∙ t))

-- a literal is true, false or without a value
pub three : (v : List (Option Bool)) (l : Lit) → IsTrueIn v l ⊎ (IsFalse v l ⊎ HasNoValue v l)
three v l = by_value (value_of v l) l.neg refl refl where
  by_value : (o : Option Bool) (n : Bool) → value_of v l ≡ o → l.neg ≡ n → IsTrueIn v l ⊎ (IsFalse v l ⊎ HasNoValue v l)
  by_value None n is sign = inr (inr is)
  by_value (Some true) true is sign = inr (inl (is ∙ ap (λ b. Some b) (sym sign)))
  by_value (Some false) false is sign = inr (inl (is ∙ ap (λ b. Some b) (sym sign)))
  by_value (Some true) false is sign = inl (is ∙ ap (λ b. Some (not b)) (sym sign))
  by_value (Some false) true is sign = inl (is ∙ ap (λ b. Some (not b)) (sym sign))

pub partner_twice : (s : ℕ) → partner (partner s) ≡ s
partner_twice s = omega arith

other_later : (v w : List (Option Bool)) (o : Option Lit) → Below v w → OtherIsTrue v o → OtherIsTrue w o
other_later v w None below t = absurd t
other_later v w (Some l) below t = below l.var (not l.neg) t

pub guard_later : (p v w : List (Option Bool)) (watched : List (Option Lit)) (s : ℕ) → Below v w → Guards p v watched s → Guards p w watched s
guard_later p v w watched s below guards = λ l is f. other_later v w (get_or watched (partner s) None) below (guards l is f)

-- a literal that is false after another one was made true was false before, or is its negation
pub false_before : (p : List (Option Bool)) (t l : Lit) → t.var < length p → (l ≡ negate t → ⊥) → IsFalse (assign p t) l → IsFalse p l
false_before p t l inside other f =
    elim (cases_eq l.var t.var) [
      | inl same ↦
          let here : get_or (assign p t) t.var None ≡ Some (not t.neg) = get_or-set_same p t.var (Some (not t.neg)) None inside in
          let sign : not t.neg ≡ l.neg = some_same (sym here ∙ ap (λ k. get_or (assign p t) k None) (sym same) ∙ f) in
          absurd (other (literal_from_parts l (negate t) same (sym sign)))
      | inr ne ↦ sym (get_or-set_other p t.var l.var (Some (not t.neg)) None ne) ∙ f
    ]

-- a slot that does not watch the negation
pub guard_passed :
    (p now : List (Option Bool)) (watched : List (Option Lit)) (t : Lit) (s : ℕ)
    → t.var < length p → ((l : Lit) → get_or watched s None ≡ Some l → l ≡ negate t → ⊥) → Guards p now watched s → Guards (assign p t) now watched s
guard_passed p now watched t s inside other guards = λ l is f. guards l is (false_before p t l inside (other l is) f)

-- a slot watches another literal, which was not false; nor was the clause's other watched literal
pub guard_moved :
    (q now : List (Option Bool)) (watched : List (Option Lit)) (s : ℕ) (m other : Lit) (u : ℕ)
    → s < length watched → get_or watched (partner s) None ≡ Some other
    → (IsFalse q m → ⊥) → (IsFalse q other → ⊥)
    → (u ≢ s → Guards q now watched u) → Guards q now (set watched s (Some m)) u
guard_moved q now watched s m other u inside is_other m_not other_not guards = λ l is f.
    elim (cases_eq u s) [
      | inl same ↦
          let e : m ≡ l = some_same (sym (get_or-set_same watched s (Some m) None inside) ∙ ap (λ k. get_or (set watched s (Some m)) k None) (sym same) ∙ is) in
          absurd (m_not (subst (IsFalse q) (sym e) f))
      | inr off ↦
          let was : get_or watched u None ≡ Some l = sym (get_or-set_other watched s u (Some m) None off) ∙ is in
          elim (cases_eq (partner u) s) [
            | inl across ↦
                let back : partner s ≡ u = ap partner (sym across) ∙ partner_twice u in
                let e : other ≡ l = some_same (sym is_other ∙ ap (λ k. get_or watched k None) back ∙ was) in
                absurd (other_not (subst (IsFalse q) (sym e) f))
            | inr away ↦
                subst (OtherIsTrue now) (sym (get_or-set_other watched s (partner u) (Some m) None away)) (guards off l was f)
          ]
    ]

-- a slot whose other literal is true
pub guard_true : (q now : List (Option Bool)) (watched : List (Option Lit)) (s : ℕ) (other : Lit) → get_or watched (partner s) None ≡ Some other → IsTrueIn now other → Guards q now watched s
guard_true q now watched s other is t = λ l _ _. subst (OtherIsTrue now) (sym is) t

-- the other literal was not false where the slot's literal is not true
pub other_not : (p now : List (Option Bool)) (watched : List (Option Lit)) (s : ℕ) (f other : Lit)
    → get_or watched s None ≡ Some f → get_or watched (partner s) None ≡ Some other → IsFalse now f → Guards p now watched (partner s) → IsFalse p other → ⊥
other_not p now watched s f other is is_other false' guards p_false =
    let t : OtherIsTrue now (get_or watched (partner (partner s)) None) = guards other is_other p_false in
    let back : get_or watched (partner (partner s)) None ≡ Some f = ap (λ k. get_or watched k None) (partner_twice s) ∙ is in
    not_both now f false' (subst (OtherIsTrue now) back t)

-- a clause of which one of two different literals is true where the other is false is neither false nor unit
pair_settled :
    (v : List (Option Bool)) (clause : List Lit) (a b : Lit)
    → Contains clause a → Contains clause b → (a ≢ b) → (IsFalse v a → IsTrueIn v b) → (IsFalse v b → IsTrueIn v a) → IsSettled v clause
pair_settled v clause a b has_a has_b ne second_true first_true = record {
  not_false = λ all.
      let f : IsFalse v a = All-contains (IsFalse v) clause a all has_a in
      let g : IsFalse v b = All-contains (IsFalse v) clause b all has_b in
      not_both v b g (second_true f);
  not_unit = λ l forces.
      elim (All-contains (λ (m : Lit). (m ≡ l) ⊎ IsFalse v m) clause a forces.rest has_a) [
        | inl a_is ↦ elim (All-contains (λ (m : Lit). (m ≡ l) ⊎ IsFalse v m) clause b forces.rest has_b) [
          | inl b_is ↦ ne (a_is ∙ sym b_is)
          | inr g ↦ none_some (sym (subst (HasNoValue v) (sym a_is) forces.unset) ∙ first_true g)
        ]
        | inr f ↦ elim (All-contains (λ (m : Lit). (m ≡ l) ⊎ IsFalse v m) clause b forces.rest has_b) [
          | inl b_is ↦ none_some (sym (subst (HasNoValue v) (sym b_is) forces.unset) ∙ second_true f)
          | inr g ↦ not_both v b g (second_true f)
        ]
      ];
}

pub true_settled : (v : List (Option Bool)) (clause : List Lit) → HasTrue v clause → IsSettled v clause
true_settled v clause has = record {
  not_false = λ all. not_both v has.literal (All-contains (IsFalse v) clause has.literal all has.there) has.is_true;
  not_unit = λ l forces.
      elim (All-contains (λ (m : Lit). (m ≡ l) ⊎ IsFalse v m) clause has.literal forces.rest has.there) [
        | inl is ↦ none_some (sym (subst (HasNoValue v) (sym is) forces.unset) ∙ has.is_true)
        | inr f ↦ not_both v has.literal f has.is_true
      ];
}

pub true_later : (v w : List (Option Bool)) (clause : List Lit) → Below v w → HasTrue v clause → HasTrue w clause
true_later v w clause below has = record { literal = has.literal; there = has.there; is_true = below has.literal.var (not has.literal.neg) has.is_true }

all_one : (clause : List Lit) (l : Lit) → (HasTwo clause → ⊥) → Contains clause l → All (λ m. m ≡ l) clause
all_one clause l none there = λ k d h.
    elim (same_or_not (get_or clause k d) l) [
      | inl same ↦ same
      | inr ne ↦ absurd (none (record { one = get_or clause k d; other = l; one_there = Contains-get_or clause k d h; other_there = there; different = ne }))
    ]

-- a settled clause without two different literals has a true one
pub narrow_true : (v : List (Option Bool)) (clause : List Lit) → (HasTwo clause → ⊥) → IsSettled v clause → HasTrue v clause
narrow_true v [] none settled = absurd (settled.not_false (All-nil (IsFalse v)))
narrow_true v (l ∷ rest) none settled =
    let there : Contains (l ∷ rest) l = Contains-get_or (l ∷ rest) 0 l (omega arith) in
    let same : All (λ m. m ≡ l) (l ∷ rest) = all_one (l ∷ rest) l none there in
    elim (three v l) [
      | inl t ↦ record { literal = l; there = there; is_true = t }
      | inr (inl f) ↦ absurd (settled.not_false (All-weaker (λ m. m ≡ l) (IsFalse v) (λ m e. subst (IsFalse v) (sym e) f) (l ∷ rest) same))
      | inr (inr unset) ↦ absurd (settled.not_unit l (record { there = there; unset = unset; rest = All-weaker (λ m. m ≡ l) (λ (m : Lit). (m ≡ l) ⊎ IsFalse v m) (λ m e. inl e) (l ∷ rest) same }))
    ]

fits_none : (clause : List Lit) (o p : Option Lit) → WatchFits clause o p → o ≡ None → HasTwo clause → ⊥
fits_none clause None None fits is = fits
fits_none clause None (Some b) fits is = absurd fits
fits_none clause (Some a) p fits is = absurd (none_some (sym is))

-- a narrow clause has not two different literals
pub narrow_one : (cs : List (List Lit)) (n : ℕ) (w : Watches) (c : ℕ) → Linked cs n w → Contains w.narrow.items c → (c < length cs) × (HasTwo (get_or cs c []) → ⊥)
narrow_one cs n w c linked there =
    let h : c < length cs = All-contains (λ k. k < length cs) w.narrow.items c linked.narrow_inside there in
    let none : get_or w.watched.items (2 * c) None ≡ None = All-contains (λ k. get_or w.watched.items (2 * k) None ≡ None) w.narrow.items c linked.narrow_none there in
    (h, fits_none (get_or cs c []) (get_or w.watched.items (2 * c) None) (get_or w.watched.items (2 * c + 1) None) (linked.fits c h) none)

settle_by :
    (v : List (Option Bool)) (watched : List (Option Lit)) (clause : List Lit) (c : ℕ) (o p : Option Lit)
    → get_or watched (2 * c) None ≡ o → get_or watched (2 * c + 1) None ≡ p → WatchFits clause o p → AllGuard v v watched → (o ≡ None → IsSettled v clause) → IsSettled v clause
settle_by v watched clause c None p is_o is_p fits guards narrow = narrow refl
settle_by v watched clause c (Some a) None is_o is_p fits guards narrow = absurd fits
settle_by v watched clause c (Some a) (Some b) is_o is_p fits guards narrow =
    let there : partner (2 * c) ≡ 2 * c + 1 = omega arith in
    let back : partner (2 * c + 1) ≡ 2 * c = omega arith in
    pair_settled v clause a b fits.0 fits.1 fits.2
    (λ f. subst (OtherIsTrue v) (ap (λ k. get_or watched k None) there ∙ is_p) (guards (2 * c) a is_o f))
    (λ f. subst (OtherIsTrue v) (ap (λ k. get_or watched k None) back ∙ is_o) (guards (2 * c + 1) b is_p f))

-- where all slots guard and the narrow clauses have true literals, nothing is false or unit
pub all_settled :
    (cs : List (List Lit)) (n : ℕ) (w : Watches) (v : List (Option Bool))
    → Linked cs n w → AllGuard v v w.watched.items → All (λ c. HasTrue v (get_or cs c [])) w.narrow.items → All (IsSettled v) cs
all_settled cs n w v linked guards narrow = λ k d h.
    subst (IsSettled v) (get_or_default cs k [] d h)
    (settle_by v w.watched.items (get_or cs k []) k (get_or w.watched.items (2 * k) None) (get_or w.watched.items (2 * k + 1) None) refl refl (linked.fits k h) guards
    (λ none. true_settled v (get_or cs k []) (All-contains (λ c. HasTrue v (get_or cs c [])) w.narrow.items k narrow (linked.narrow k h none))))

-- where no other literal can be watched, a settled clause's other literal is true, and only that one is forced
pub settled_true : (v : List (Option Bool)) (clause : List Lit) (other : Lit) → Contains clause other → Replaces v clause other None → IsSettled v clause → IsTrueIn v other
settled_true v clause other there none settled =
    elim (three v other) [
      | inl t ↦ t
      | inr (inl f) ↦ absurd (settled.not_false (All-weaker (λ (l : Lit). (l ≡ other) ⊎ IsFalse v l) (IsFalse v) (λ l c. elim c [ inl e ↦ subst (IsFalse v) (sym e) f | inr g ↦ g ]) clause none))
      | inr (inr unset) ↦ absurd (settled.not_unit other (record { there = there; unset = unset; rest = none }))
    ]

pub forced_other : (v : List (Option Bool)) (clause : List Lit) (other l : Lit) → Replaces v clause other None → Forces v clause l → l ≡ other
forced_other v clause other l none forces =
    elim (All-contains (λ (m : Lit). (m ≡ other) ⊎ IsFalse v m) clause l none forces.there) [
      | inl is ↦ is
      | inr f ↦ absurd (none_some (sym forces.unset ∙ f))
    ]
