-- A scan of a clause, literal by literal.
use Rattle.std.proofs.Common.{◌≡◌, ℕ, ◌+◌, ◌<◌, ◌⊎◌, inl, inr, Bool, true, false, not, List, [], ◌∷◌, ◌++◌, Option, None, Some, length, get_or, take, refl, sym, ◌∙◌, ap, subst}
use Rattle.std.specs.Prelude.{eqb, MatchOption}
use Rattle.std.proofs.Math.Bool.{beq, ◌&&◌}
use Rattle.std.proofs.lemmas.Bool.{and_parts, true_from_ne_false, eqb-true}
use Rattle.std.proofs.lemmas.List.{take_more, get_or_default}
use Rattle.std.proofs.lemmas.List.Elements.{All-push, All-weaker, Contains-push, Contains-append_left}
use Rattle.uc_circuit.specs.declared.literal.Lit.{Lit}
use Rattle.uc_circuit.specs.Values.{IsFalse, IsFalsified, HasNoValue, Forces}

-- what the code reads past a list's end
abbrev pub no_literal : Lit
no_literal = record { var = 0; neg = false }

-- what the scan has found: no literal without a value, or one
abbrev pub Scan : List (Option Bool) → List Lit → Option Lit → Type 0
Scan values xs o = MatchOption o (IsFalsified values xs) (Forces values xs)

false_more : (values : List (Option Bool)) (xs : List Lit) (m : Lit) (o : Option Lit) → Scan values xs o → IsFalse values m → Scan values (xs ++ m ∷ []) o
false_more values xs m None scan is = All-push (IsFalse values) xs m scan is
false_more values xs m (Some f) scan is = record {
  there = Contains-append_left xs (m ∷ []) f scan.there;
  unset = scan.unset;
  rest = All-push (λ (k : Lit). (k ≡ f) ⊎ IsFalse values k) xs m scan.rest (inr is);
}

first_more : (values : List (Option Bool)) (xs : List Lit) (m : Lit) → IsFalsified values xs → HasNoValue values m → Forces values (xs ++ m ∷ []) m
first_more values xs m all unset = record {
  there = Contains-push xs m;
  unset = unset;
  rest = All-push (λ (k : Lit). (k ≡ m) ⊎ IsFalse values k) xs m (All-weaker (IsFalse values) (λ (k : Lit). (k ≡ m) ⊎ IsFalse values k) (λ k is. inr is) xs all) (inl refl);
}

same_more : (values : List (Option Bool)) (xs : List Lit) (m f : Lit) → Forces values xs f → m ≡ f → Forces values (xs ++ m ∷ []) f
same_more values xs m f forces same = record {
  there = Contains-append_left xs (m ∷ []) f forces.there;
  unset = forces.unset;
  rest = All-push (λ (k : Lit). (k ≡ f) ⊎ IsFalse values k) xs m forces.rest (inl same);
}

-- the same at a loop's index
pub scan_false : (values : List (Option Bool)) (clause : List Lit) (i : ℕ) (d : Lit) (old o : Option Lit) → i < length clause → Scan values (take i clause) old → o ≡ old → IsFalse values (get_or clause i d) → Scan values (take (i + 1) clause) o
scan_false values clause i d old o h scan same is =
    subst (λ (k : Option Lit). Scan values (take (i + 1) clause) k) (sym same)
    (subst (λ (xs : List Lit). Scan values xs old) (sym (take_more clause i d h)) (false_more values (take i clause) (get_or clause i d) old scan is))

pub scan_first : (values : List (Option Bool)) (clause : List Lit) (i : ℕ) (d : Lit) (old o : Option Lit) → i < length clause → Scan values (take i clause) old → old ≡ None → o ≡ Some (get_or clause i d) → HasNoValue values (get_or clause i d) → Scan values (take (i + 1) clause) o
scan_first values clause i d old o h scan was same is =
    let all : IsFalsified values (take i clause) = subst (λ (k : Option Lit). Scan values (take i clause) k) was scan in
    subst (λ (k : Option Lit). Scan values (take (i + 1) clause) k) (sym same)
    (subst (λ (xs : List Lit). Forces values xs (get_or clause i d)) (sym (take_more clause i d h)) (first_more values (take i clause) (get_or clause i d) all is))

pub scan_same : (values : List (Option Bool)) (clause : List Lit) (i : ℕ) (d f : Lit) (old o : Option Lit) → i < length clause → Scan values (take i clause) old → old ≡ Some f → o ≡ old → f ≡ get_or clause i d → Scan values (take (i + 1) clause) o
scan_same values clause i d f old o h scan was same is =
    let forces : Forces values (take i clause) f = subst (λ (k : Option Lit). Scan values (take i clause) k) was scan in
    subst (λ (k : Option Lit). Scan values (take (i + 1) clause) k) (sym (same ∙ was))
    (subst (λ (xs : List Lit). Forces values xs f) (sym (take_more clause i d h)) (same_more values (take i clause) (get_or clause i d) f forces (sym is)))

same_bits : (a b : Bool) → not (beq a b) ≡ false → a ≡ b
same_bits true true e = refl
same_bits false false e = refl
same_bits true false e = absurd (cc)
same_bits false true e = absurd (cc)

-- what the tests of the code say of the literal that was read
pub read_false : (values : List (Option Bool)) (l : Lit) (d : Option Bool) (b : Bool) → l.var < length values → get_or values l.var d ≡ Some b → not (beq b l.neg) ≡ false → IsFalse values l
read_false values l d b h is test =
    get_or_default values l.var None d h ∙ is ∙ ap (λ k. Some k) (same_bits b l.neg test)

pub read_unset : (values : List (Option Bool)) (l : Lit) (d : Option Bool) → l.var < length values → get_or values l.var d ≡ None → HasNoValue values l
read_unset values l d h is = get_or_default values l.var None d h ∙ is

pub literal_from_parts : (a b : Lit) → a.var ≡ b.var → a.neg ≡ b.neg → a ≡ b
literal_from_parts a b v n =
    let f : ℕ → Lit = λ x. record { var = x; neg = a.neg } in
    let g : Bool → Lit = λ x. record { var = b.var; neg = x } in
    ap f v ∙ ap g n

pub same_literals : (a b : Lit) (r : Bool) → r ≡ not (eqb a.var b.var && beq a.neg b.neg) → r ≡ false → a ≡ b
same_literals a b r is test =
    let both : (eqb a.var b.var && beq a.neg b.neg) ≡ true = true_from_ne_false _ (λ e. let f : r ≡ true = is ∙ ap not e in cc) in
    let parts : (eqb a.var b.var ≡ true) × (beq a.neg b.neg ≡ true) = and_parts (eqb a.var b.var) (beq a.neg b.neg) both in
    literal_from_parts a b (eqb-true a.var b.var parts.0) (same_bits a.neg b.neg (ap not parts.1))
