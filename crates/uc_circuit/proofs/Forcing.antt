-- Where the operands of a gate have values and its variable has none, one of its clauses is unit.
use Rattle.std.proofs.Common.{◌≡◌, ℕ, ◌<◌, ◌⊎◌, inl, inr, Bool, true, false, not, List, [], ◌∷◌, Option, None, Some, cond, length, get_or, refl, sym, ◌∙◌, ap, subst, arith}
use Rattle.std.specs.Prelude.{Contains}
use Rattle.std.proofs.Math.Bool.{◌&&◌}
use Rattle.std.proofs.lemmas.Bool.{cases_Bool}
use Rattle.std.proofs.lemmas.List.Elements.{All-nil, All-cons, Contains-get_or}
use Rattle.uc_circuit.specs.declared.literal.Lit.{Lit}
use Rattle.uc_circuit.specs.declared.gate.Gate.{Gate}
use Rattle.uc_circuit.specs.declared.gate.Gate.TheVariants.{And, Xor, Mux}
use Rattle.uc_circuit.specs.Literals.{positive, negate, literal_value}
use Rattle.uc_circuit.specs.Gates.{clauses_of_gate, gate_value, OperandsBelow}
use Rattle.uc_circuit.specs.Values.{IsFalse, HasNoValue, Forces}

-- a clause of two or three literals is unit
abbrev pub MayRest : List (Option Bool) → Lit → Lit → Type 0
MayRest values l m = (m ≡ l) ⊎ IsFalse values m

pub two_forced : (values : List (Option Bool)) (l m : Lit) → HasNoValue values l → IsFalse values m → Forces values (l ∷ m ∷ []) l
two_forced values l m unset f = record {
  there = Contains-get_or (l ∷ m ∷ []) 0 l (omega arith);
  unset = unset;
  rest = All-cons (MayRest values l) l (m ∷ []) (inl refl) (All-cons (MayRest values l) m [] (inr f) (All-nil (MayRest values l)));
}

pub three_forced : (values : List (Option Bool)) (l a b c : Lit) → Contains (a ∷ b ∷ c ∷ []) l → HasNoValue values l → MayRest values l a → MayRest values l b → MayRest values l c → Forces values (a ∷ b ∷ c ∷ []) l
three_forced values l a b c there unset f g h = record {
  there = there;
  unset = unset;
  rest =
      All-cons (MayRest values l) a (b ∷ c ∷ []) f
      (All-cons (MayRest values l) b (c ∷ []) g (All-cons (MayRest values l) c [] h (All-nil (MayRest values l))));
}

first_forced : (values : List (Option Bool)) (l b c : Lit) → HasNoValue values l → IsFalse values b → IsFalse values c → Forces values (l ∷ b ∷ c ∷ []) l
first_forced values l b c unset g h = three_forced values l l b c (Contains-get_or (l ∷ b ∷ c ∷ []) 0 l (omega arith)) unset (inl refl) (inr g) (inr h)

third_forced : (values : List (Option Bool)) (l a b : Lit) → HasNoValue values l → IsFalse values a → IsFalse values b → Forces values (a ∷ b ∷ l ∷ []) l
third_forced values l a b unset f g = three_forced values l a b l (Contains-get_or (a ∷ b ∷ l ∷ []) 2 l (omega arith)) unset (inr f) (inr g) (inl refl)

sign_of_false : (s x : Bool) → cond s (not x) x ≡ false → x ≡ s
sign_of_false true true e = refl
sign_of_false true false e = absurd (cc)
sign_of_false false true e = absurd (cc)
sign_of_false false false e = refl

sign_of_true : (s x : Bool) → cond s (not x) x ≡ true → x ≡ not s
sign_of_true true true e = absurd (cc)
sign_of_true true false e = refl
sign_of_true false true e = refl
sign_of_true false false e = absurd (cc)

-- what a literal's value says of it, or of its negation, where its variable has that value
pub false_in : (v : ℕ → Bool) (values : List (Option Bool)) (l : Lit) → get_or values l.var None ≡ Some (v l.var) → literal_value v l ≡ false → IsFalse values l
false_in v values l known is = known ∙ ap (λ b. Some b) (sign_of_false l.neg (v l.var) is)

pub true_in : (v : ℕ → Bool) (values : List (Option Bool)) (l : Lit) → get_or values l.var None ≡ Some (v l.var) → literal_value v l ≡ true → IsFalse values (negate l)
true_in v values l known is = known ∙ ap (λ b. Some b) (sign_of_true l.neg (v l.var) is)

-- the literal that gives a variable this value
abbrev pub literal_for : ℕ → Bool → Lit
literal_for n b = record { var = n; neg = not b }

-- one of the clauses is unit, and gives the variable this value
pub record GivesValue (values : List (Option Bool)) (clauses : List (List Lit)) (n : ℕ) (b : Bool) : Type 0 where
  pub clause : List Lit
  pub there : Contains clauses clause
  pub forces : Forces values clause (literal_for n b)

given_by : (values : List (Option Bool)) (clauses : List (List Lit)) (n k : ℕ) (b c : Bool) → k < length clauses → c ≡ b → Forces values (get_or clauses k []) (literal_for n b) → GivesValue values clauses n c
given_by values clauses n k b c h same forces =
    subst (λ (x : Bool). GivesValue values clauses n x) (sym same)
    (record { clause = get_or clauses k []; there = Contains-get_or clauses k [] h; forces = forces })

-- each operand has the value that v gives to its variable
abbrev pub OperandsKnown : (ℕ → Bool) → List (Option Bool) → ℕ → Type 0
OperandsKnown v values n = (m : ℕ) → m < n → get_or values m None ≡ Some (v m)

pub gate_gives : (v : ℕ → Bool) (values : List (Option Bool)) (n : ℕ) (g : Gate) → OperandsBelow n g → OperandsKnown v values n → get_or values n None ≡ None → GivesValue values (clauses_of_gate n g) n (gate_value v g)
gate_gives v values n (And a b) below known unset =
    let ka : get_or values a.var None ≡ Some (v a.var) = known a.var below.0 in
    let kb : get_or values b.var None ≡ Some (v b.var) = known b.var below.1 in
    let cs : List (List Lit) = clauses_of_gate n (And a b) in
    elim (cases_Bool (literal_value v a)) [
      | inr f ↦ given_by values cs n 0 false _ (omega arith) (ap (λ x. x && literal_value v b) f) (two_forced values (negate (positive n)) a unset (false_in v values a ka f))
      | inl t ↦ elim (cases_Bool (literal_value v b)) [
        | inr f ↦ given_by values cs n 1 false _ (omega arith) (ap (λ x. x && literal_value v b) t ∙ f) (two_forced values (negate (positive n)) b unset (false_in v values b kb f))
        | inl u ↦ given_by values cs n 2 true _ (omega arith) (ap (λ x. x && literal_value v b) t ∙ u) (first_forced values (positive n) (negate a) (negate b) unset (true_in v values a ka t) (true_in v values b kb u))
      ]
    ]
gate_gives v values n (Xor a b) below known unset =
    let ka : get_or values a.var None ≡ Some (v a.var) = known a.var below.0 in
    let kb : get_or values b.var None ≡ Some (v b.var) = known b.var below.1 in
    let cs : List (List Lit) = clauses_of_gate n (Xor a b) in
    let of_a : (x : Bool) → literal_value v a ≡ x → gate_value v (Xor a b) ≡ cond x (not (literal_value v b)) (literal_value v b) =
    λ x e. ap (λ y. cond y (not (literal_value v b)) (literal_value v b)) e in
    elim (cases_Bool (literal_value v a)) [
      | inr f ↦ elim (cases_Bool (literal_value v b)) [
        | inr g ↦ given_by values cs n 0 false _ (omega arith) (of_a false f ∙ g) (first_forced values (negate (positive n)) a b unset (false_in v values a ka f) (false_in v values b kb g))
        | inl u ↦ given_by values cs n 3 true _ (omega arith) (of_a false f ∙ u) (first_forced values (positive n) a (negate b) unset (false_in v values a ka f) (true_in v values b kb u))
      ]
      | inl t ↦ elim (cases_Bool (literal_value v b)) [
        | inr g ↦ given_by values cs n 2 true _ (omega arith) (of_a true t ∙ ap not g) (first_forced values (positive n) (negate a) b unset (true_in v values a ka t) (false_in v values b kb g))
        | inl u ↦ given_by values cs n 1 false _ (omega arith) (of_a true t ∙ ap not u) (first_forced values (negate (positive n)) (negate a) (negate b) unset (true_in v values a ka t) (true_in v values b kb u))
      ]
    ]
gate_gives v values n (Mux c t e) below known unset =
    let kc : get_or values c.var None ≡ Some (v c.var) = known c.var below.0 in
    let kt : get_or values t.var None ≡ Some (v t.var) = known t.var below.1 in
    let ke : get_or values e.var None ≡ Some (v e.var) = known e.var below.2 in
    let cs : List (List Lit) = clauses_of_gate n (Mux c t e) in
    let of_c : (x : Bool) → literal_value v c ≡ x → gate_value v (Mux c t e) ≡ cond x (literal_value v t) (literal_value v e) =
    λ x s. ap (λ y. cond y (literal_value v t) (literal_value v e)) s in
    elim (cases_Bool (literal_value v c)) [
      | inr f ↦ elim (cases_Bool (literal_value v e)) [
        | inr g ↦ given_by values cs n 3 false _ (omega arith) (of_c false f ∙ g) (third_forced values (negate (positive n)) c e unset (false_in v values c kc f) (false_in v values e ke g))
        | inl u ↦ given_by values cs n 2 true _ (omega arith) (of_c false f ∙ u) (third_forced values (positive n) c (negate e) unset (false_in v values c kc f) (true_in v values e ke u))
      ]
      | inl s ↦ elim (cases_Bool (literal_value v t)) [
        | inr g ↦ given_by values cs n 1 false _ (omega arith) (of_c true s ∙ g) (third_forced values (negate (positive n)) (negate c) t unset (true_in v values c kc s) (false_in v values t kt g))
        | inl u ↦ given_by values cs n 0 true _ (omega arith) (of_c true s ∙ u) (third_forced values (positive n) (negate c) (negate t) unset (true_in v values c kc s) (true_in v values t kt u))
      ]
    ]
