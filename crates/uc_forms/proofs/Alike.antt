-- What reading gives up to a word, and how the words through it stand, does not depend on the words after it.
use Rattle.std.proofs.Common.{◌≡◌, ℕ, zero, suc, ◌+◌, ◌≤◌, ◌<◌, Bool, true, false, List, [], ◌∷◌, ◌++◌, length, map, Some, None, Ok, Err, refl, sym, ap, subst, ◌∙◌, append_assoc, length-append, arith, inl, inr, ◌⊎◌}
use Rattle.std.specs.Prelude.{not, ◌==◌, if◌then◌else◌}
use Rattle.std.proofs.lemmas.Bool.{and_parts, or_cases, eqb-true}
use Rattle.std.proofs.lemmas.List.{length-map, map-append}
use Rattle.uc_forms.specs.declared.fault.Fault.{Fault}
use Rattle.uc_forms.specs.declared.fault.Fault.TheVariants.{Syntax}
use Rattle.uc_forms.specs.Alphabet.{Alphabet}
use Rattle.uc_forms.specs.Form.{Mark, quiet, declares, restarts, Form, any, nothing, both, either, chain, until, made, ahead, deep, member, codes_of}
use Rattle.uc_forms.specs.Spelling.{Stand, stand, one_deeper}
use Rattle.uc_forms.specs.Reading.{Outcome, ◌>>=◌, turned, paired, is_at, is_at_two, read_any, read_word, read_chain, read_until, skips, first, read_with, note_word, then_note, note_turn, note_chain, note_until, note_two, note_with}
use Rattle.uc_forms.specs.Plain.{firm, loud, is_quiet, within, is_plain}
use Rattle.uc_forms.proofs.Judge.{Judge}
use Rattle.uc_forms.proofs.Opening.{is_not, member_cases, member_left, member_right, not_member, apart_from}
use Rattle.uc_forms.proofs.Counts.{StepOf, TurnOf, two_read}

-- ---- two readings

-- The words are front ++ t ∷ m and front ++ t ∷ o, and n is the length of front. Reading gives r and notes xs of the ones, and s and ys of the others.

-- the words through t were taken, and stand alike
abbrev pub Decided : {W : Type 0} → ℕ → List (Stand W) → List (Stand W) → Type 0
Decided {W} n xs ys = (c l k : List (Stand W)) × (xs ≡ c ++ l) × (ys ≡ c ++ k) × (length c ≡ suc n)

-- reading ended before t, both times alike
abbrev pub Ended : {W A : Type 0} → W → List W → List W → ℕ → Outcome W A → List (Stand W) → Outcome W A → List (Stand W) → Type 0
Ended {W} {A} t m o n r xs s ys = (a : A) × (back : List W) × (r ≡ Ok (a, back ++ t ∷ m)) × (s ≡ Ok (a, back ++ t ∷ o)) × (xs ≡ ys) × (length xs + length back ≡ n)

-- reading stopped at t or before, both times alike
abbrev pub Stopped : {W A : Type 0} → W → List W → List W → Outcome W A → List (Stand W) → Outcome W A → List (Stand W) → Type 0
Stopped {W} {A} t m o r xs s ys = (e : Fault) × (back : List W) × (r ≡ Err (e, back ++ t ∷ m)) × (s ≡ Err (e, back ++ t ∷ o)) × (xs ≡ ys)

abbrev pub Alike : {W A : Type 0} → W → List W → List W → ℕ → Outcome W A → List (Stand W) → Outcome W A → List (Stand W) → Type 0
Alike t m o n r xs s ys = Decided n xs ys ⊎ (Ended t m o n r xs s ys ⊎ Stopped t m o r xs s ys)

module _ {W : Type 0} (t : W) (m o : List W) where
  alike_turned : {A B : Type 0} (n : ℕ) (h : A → B) (r s : Outcome W A) (xs ys : List (Stand W)) → Alike t m o n r xs s ys → Alike t m o n (turned h r) xs (turned h s) ys
  alike_turned n h r s xs ys (inl d) = inl d
  alike_turned n h r s xs ys (inr (inl (a, b, p, q, e, z))) = inr (inl (h a, b, ap (λ x. turned h x) p, ap (λ x. turned h x) q, e, z))
  alike_turned n h r s xs ys (inr (inr (a, b, p, q, e))) = inr (inr (a, b, ap (λ x. turned h x) p, ap (λ x. turned h x) q, e))

  decided_more : (n : ℕ) (xs ys us vs : List (Stand W)) → Decided n xs ys → Decided n (xs ++ us) (ys ++ vs)
  decided_more n xs ys us vs (c, l, k, e, f, z) = (c, l ++ us, k ++ vs, ap (λ (x : List (Stand W)). x ++ us) e ∙ append_assoc c l us, ap (λ (x : List (Stand W)). x ++ vs) f ∙ append_assoc c k vs, z)

  -- behind words that were noted before
  alike_shift : {A : Type 0} (n k : ℕ) (zs : List (Stand W)) (r s : Outcome W A) (xs ys : List (Stand W)) → length zs + k ≡ n → Alike t m o k r xs s ys → Alike t m o n r (zs ++ xs) s (zs ++ ys)
  alike_shift n k zs r s xs ys l (inl (c, u, v, e, f, z)) = inl (zs ++ c, u, v, ap (λ (x : List (Stand W)). zs ++ x) e ∙ sym (append_assoc zs c u), ap (λ (x : List (Stand W)). zs ++ x) f ∙ sym (append_assoc zs c v), (let i = length-append zs c in omega arith))
  alike_shift n k zs r s xs ys l (inr (inl (a, b, p, q, e, z))) = inr (inl (a, b, p, q, ap (λ (x : List (Stand W)). zs ++ x) e, (let i = length-append zs xs in omega arith)))
  alike_shift n k zs r s xs ys l (inr (inr (a, b, p, q, e))) = inr (inr (a, b, p, q, ap (λ (x : List (Stand W)). zs ++ x) e))

  alike_paired : {A B : Type 0} (n : ℕ) (r s : Outcome W A) (xs ys : List (Stand W)) (g : List W → Outcome W B) (note : List W → List (Stand W)) → Alike t m o n r xs s ys
      → ((back : List W) → Alike t m o (length back) (g (back ++ t ∷ m)) (note (back ++ t ∷ m)) (g (back ++ t ∷ o)) (note (back ++ t ∷ o)))
      → Alike t m o n (paired r g) (xs ++ then_note r (λ a rest. note rest)) (paired s g) (ys ++ then_note s (λ a rest. note rest))
  alike_paired n r s xs ys g note (inl d) h = inl (decided_more n xs ys _ _ d)
  alike_paired n r s xs ys g note (inr (inl (a, b, p, q, e, z))) h = rw (p, q, e) (alike_shift n (length b) ys _ _ _ _ (let i = ap length e in omega arith) (alike_turned (length b) (λ c. (a, c)) _ _ _ _ (h b)))
  alike_paired n r s xs ys g note (inr (inr (a, b, p, q, e))) h = rw (p, q, e) (inr (inr (a, b, refl, refl, refl)))

  alike_bind : {A B : Type 0} (n : ℕ) (r s : Outcome W A) (xs ys : List (Stand W)) (g k : A → List W → Outcome W B) (note last : A → List W → List (Stand W)) → Alike t m o n r xs s ys
      → ((a : A) (back : List W) → r ≡ Ok (a, back ++ t ∷ m) → s ≡ Ok (a, back ++ t ∷ o) → Alike t m o (length back) (g a (back ++ t ∷ m)) (note a (back ++ t ∷ m)) (k a (back ++ t ∷ o)) (last a (back ++ t ∷ o)))
      → Alike t m o n (r >>= λ x. g x.0 x.1) (xs ++ then_note r note) (s >>= λ x. k x.0 x.1) (ys ++ then_note s last)
  alike_bind n r s xs ys g k note last (inl d) h = inl (decided_more n xs ys _ _ d)
  alike_bind n r s xs ys g k note last (inr (inl (a, b, p, q, e, z))) h = let i = h a b p q in rw (p, q, e) (alike_shift n (length b) ys _ _ _ _ (let i = ap length e in omega arith) i)
  alike_bind n r s xs ys g k note last (inr (inr (a, b, p, q, e))) h = rw (p, q, e) (inr (inr (a, b, refl, refl, refl)))

  alike_if : {A : Type 0} (n : ℕ) (b c : Bool) (r s u v : Outcome W A) (xs ys us vs : List (Stand W)) → b ≡ c → (b ≡ true → c ≡ true → Alike t m o n r xs u us) → Alike t m o n s ys v vs → Alike t m o n (if b then r else s) (if b then xs else ys) (if c then u else v) (if c then us else vs)
  alike_if n true true r s u v xs ys us vs e h k = h refl refl
  alike_if n true false r s u v xs ys us vs e h k = absurd cc
  alike_if n false true r s u v xs ys us vs e h k = absurd cc
  alike_if n false false r s u v xs ys us vs e h k = k

  alike_deeper : {A : Type 0} (n : ℕ) (r s : Outcome W A) (xs ys : List (Stand W)) → Alike t m o n r xs s ys → Alike t m o n r (map one_deeper xs) s (map one_deeper ys)
  alike_deeper n r s xs ys (inl (c, l, k, e, f, z)) = inl (map one_deeper c, map one_deeper l, map one_deeper k, ap (λ (x : List (Stand W)). map one_deeper x) e ∙ map-append one_deeper c l, ap (λ (x : List (Stand W)). map one_deeper x) f ∙ map-append one_deeper c k, (let i = length-map c one_deeper in omega arith))
  alike_deeper n r s xs ys (inr (inl (a, b, p, q, e, z))) = inr (inl (a, b, p, q, ap (λ (x : List (Stand W)). map one_deeper x) e, (let i = length-map xs one_deeper in omega arith)))
  alike_deeper n r s xs ys (inr (inr (a, b, p, q, e))) = inr (inr (a, b, p, q, ap (λ (x : List (Stand W)). map one_deeper x) e))

-- each turn takes a word at least
abbrev pub Moves : {W A : Type 0} → (List W → Outcome W A) → Type 0
Moves read = (ws : List _) → Judge (λ a rest. length rest < length ws) (λ e rest. length rest ≤ length ws) (read ws)

-- reading and noting follow the words alike
abbrev pub Follows : {W A : Type 0} → W → List W → List W → (List W → Outcome W A) → (List W → List (Stand W)) → Type 0
Follows {W} t m o read note = (front : List W) → Alike t m o (length front) (read (front ++ t ∷ m)) (note (front ++ t ∷ m)) (read (front ++ t ∷ o)) (note (front ++ t ∷ o))

moved : {W A : Type 0} (ws rest : List W) (x : A) (r : Outcome W A) → Judge (λ a end. length end < length ws) (λ e end. length end ≤ length ws) r → r ≡ Ok (x, rest) → length rest < length ws
moved {W} {A} ws rest x r j e = let i : Judge (λ (a : A) (end : List W). length end < length ws) (λ e end. length end ≤ length ws) (Ok (x, rest)) = subst (λ (z : Outcome W A). Judge (λ a end. length end < length ws) (λ e end. length end ≤ length ws) z) e j in i

module _ (T : Alphabet) where
  pub same_test : (t : T.Word) (m o : List T.Word) (codes : List ℕ) (front : List T.Word) → is_at T codes (front ++ t ∷ m) ≡ is_at T codes (front ++ t ∷ o)
  same_test t m o codes [] = refl
  same_test t m o codes (w ∷ front) = refl

  module _ (t : T.Word) (m o : List T.Word) where
    follow_any : (q : Mark) (j : T.Kind) (js : List T.Kind) → Follows t m o (read_any T j js) (note_word T q j js)
    follow_any q j js [] = tested (member (T.kind t) (codes_of T j js))
      where
        tested : (b : Bool) → Alike t m o 0 (if b then Ok (t, m) else Err (Syntax, t ∷ m)) (if b then stand q t ∷ [] else []) (if b then Ok (t, o) else Err (Syntax, t ∷ o)) (if b then stand q t ∷ [] else [])
        tested true = inl (stand q t ∷ [], [], [], refl, refl, refl)
        tested false = inr (inr (Syntax, [], refl, refl, refl))
    follow_any q j js (w ∷ front) = tested (member (T.kind w) (codes_of T j js))
      where
        tested : (b : Bool) → Alike t m o (length (w ∷ front)) (if b then Ok (w, front ++ t ∷ m) else Err (Syntax, w ∷ (front ++ t ∷ m))) (if b then stand q w ∷ [] else []) (if b then Ok (w, front ++ t ∷ o) else Err (Syntax, w ∷ (front ++ t ∷ o))) (if b then stand q w ∷ [] else [])
        tested true = inr (inl (w, front, refl, refl, refl, omega arith))
        tested false = inr (inr (Syntax, w ∷ front, refl, refl, refl))

    follow_chain : {A B : Type 0} (cs : List ℕ) (item : List T.Word → Outcome T.Word (A ⊎ B)) (note : List T.Word → List (Stand T.Word)) → Follows t m o item note → Moves item
        → (n k : ℕ) (front : List T.Word) → length (front ++ t ∷ m) ≤ n → length (front ++ t ∷ o) ≤ k
        → Alike t m o (length front) (read_chain T cs item n (front ++ t ∷ m)) (note_chain T cs item note n (front ++ t ∷ m)) (read_chain T cs item k (front ++ t ∷ o)) (note_chain T cs item note k (front ++ t ∷ o))
    unfolding read_chain note_chain
    follow_chain cs item note h moves zero k front p q = absurd (let l = length-append front (t ∷ m) in omega arith)
    follow_chain cs item note h moves (suc n) zero front p q = absurd (let l = length-append front (t ∷ o) in omega arith)
    follow_chain {A} {B} cs item note h moves (suc n) (suc k) front p q =
        alike_if t m o (length front) (is_at T cs (front ++ t ∷ m)) (is_at T cs (front ++ t ∷ o)) _ _ _ _ _ [] _ [] (same_test t m o cs front)
        (λ e f. alike_bind t m o (length front) (item (front ++ t ∷ m)) (item (front ++ t ∷ o)) (note (front ++ t ∷ m)) (note (front ++ t ∷ o)) (λ x rest. StepOf (read_chain T cs item n) x rest) (λ x rest. StepOf (read_chain T cs item k) x rest)
        (λ x rest. note_turn x (note_chain T cs item note n rest)) (λ x rest. note_turn x (note_chain T cs item note k rest)) (h front) (next (λ back p q. follow_chain cs item note h moves n k back p q)))
        (inr (inl (([], None), front, refl, refl, refl, omega arith)))
      where
        step : (x : A ⊎ B) (back : List T.Word) → Alike t m o (length back) (read_chain T cs item n (back ++ t ∷ m)) (note_chain T cs item note n (back ++ t ∷ m)) (read_chain T cs item k (back ++ t ∷ o)) (note_chain T cs item note k (back ++ t ∷ o))
            → Alike t m o (length back) (StepOf (read_chain T cs item n) x (back ++ t ∷ m)) (note_turn x (note_chain T cs item note n (back ++ t ∷ m))) (StepOf (read_chain T cs item k) x (back ++ t ∷ o)) (note_turn x (note_chain T cs item note k (back ++ t ∷ o)))
        step (inl a) back d = alike_turned t m o (length back) (λ y. (a ∷ y.0, y.1)) _ _ _ _ d
        step (inr b) back d = inr (inl (([], Some b), back, refl, refl, refl, omega arith))

        next : ((back : List T.Word) → length (back ++ t ∷ m) ≤ n → length (back ++ t ∷ o) ≤ k → Alike t m o (length back) (read_chain T cs item n (back ++ t ∷ m)) (note_chain T cs item note n (back ++ t ∷ m)) (read_chain T cs item k (back ++ t ∷ o)) (note_chain T cs item note k (back ++ t ∷ o)))
            → (x : A ⊎ B) (back : List T.Word) → item (front ++ t ∷ m) ≡ Ok (x, back ++ t ∷ m) → item (front ++ t ∷ o) ≡ Ok (x, back ++ t ∷ o)
            → Alike t m o (length back) (StepOf (read_chain T cs item n) x (back ++ t ∷ m)) (note_turn x (note_chain T cs item note n (back ++ t ∷ m))) (StepOf (read_chain T cs item k) x (back ++ t ∷ o)) (note_turn x (note_chain T cs item note k (back ++ t ∷ o)))
        next ih x back e f =
            let l = moved (front ++ t ∷ m) (back ++ t ∷ m) x (item (front ++ t ∷ m)) (moves (front ++ t ∷ m)) e in
            let l' = moved (front ++ t ∷ o) (back ++ t ∷ o) x (item (front ++ t ∷ o)) (moves (front ++ t ∷ o)) f in
            step x back (ih back (omega arith) (omega arith))

    follow_until : {A B : Type 0} (cs : List ℕ) (item : List T.Word → Outcome T.Word A) (ender : List T.Word → Outcome T.Word B) (note last : List T.Word → List (Stand T.Word)) → Follows t m o item note → Follows t m o ender last → Moves item
        → (n k : ℕ) (front : List T.Word) → length (front ++ t ∷ m) ≤ n → length (front ++ t ∷ o) ≤ k
        → Alike t m o (length front) (read_until T cs item ender n (front ++ t ∷ m)) (note_until T cs item note last n (front ++ t ∷ m)) (read_until T cs item ender k (front ++ t ∷ o)) (note_until T cs item note last k (front ++ t ∷ o))
    unfolding read_until note_until
    follow_until cs item ender note last h g moves zero k front p q = absurd (let l = length-append front (t ∷ m) in omega arith)
    follow_until cs item ender note last h g moves (suc n) zero front p q = absurd (let l = length-append front (t ∷ o) in omega arith)
    follow_until {A} {B} cs item ender note last h g moves (suc n) (suc k) front p q =
        alike_if t m o (length front) (is_at T cs (front ++ t ∷ m)) (is_at T cs (front ++ t ∷ o)) _ _ _ _ _ _ _ _ (same_test t m o cs front)
        (λ e f. alike_turned t m o (length front) (λ b. ([], b)) _ _ _ _ (g front))
        (alike_bind t m o (length front) (item (front ++ t ∷ m)) (item (front ++ t ∷ o)) (note (front ++ t ∷ m)) (note (front ++ t ∷ o)) (λ x rest. TurnOf (read_until T cs item ender n) x rest) (λ x rest. TurnOf (read_until T cs item ender k) x rest)
        (λ x rest. note_until T cs item note last n rest) (λ x rest. note_until T cs item note last k rest) (h front) (next (λ back p q. follow_until cs item ender note last h g moves n k back p q)))
      where
        next : ((back : List T.Word) → length (back ++ t ∷ m) ≤ n → length (back ++ t ∷ o) ≤ k → Alike t m o (length back) (read_until T cs item ender n (back ++ t ∷ m)) (note_until T cs item note last n (back ++ t ∷ m)) (read_until T cs item ender k (back ++ t ∷ o)) (note_until T cs item note last k (back ++ t ∷ o)))
            → (x : A) (back : List T.Word) → item (front ++ t ∷ m) ≡ Ok (x, back ++ t ∷ m) → item (front ++ t ∷ o) ≡ Ok (x, back ++ t ∷ o)
            → Alike t m o (length back) (TurnOf (read_until T cs item ender n) x (back ++ t ∷ m)) (note_until T cs item note last n (back ++ t ∷ m)) (TurnOf (read_until T cs item ender k) x (back ++ t ∷ o)) (note_until T cs item note last k (back ++ t ∷ o))
        next ih x back e f =
            let l = moved (front ++ t ∷ m) (back ++ t ∷ m) x (item (front ++ t ∷ m)) (moves (front ++ t ∷ m)) e in
            let l' = moved (front ++ t ∷ o) (back ++ t ∷ o) x (item (front ++ t ∷ o)) (moves (front ++ t ∷ o)) f in
            alike_turned t m o (length back) (λ y. (x ∷ y.0, y.1)) _ _ _ _ (ih back (omega arith) (omega arith))

    -- ---- a first word that is taken

    abbrev Heads : List (Stand T.Word) → Type 0
    Heads xs = (l : List (Stand T.Word)) × (xs ≡ stand quiet t ∷ l)

    firm_first : {N : Type 0} {V : N → Type 0} (opens : N → List ℕ) {A : Type 0} (f : Form T N V A) (c : ℕ) → member c (firm f) ≡ true → member c (first opens f) ≡ true
    firm_first opens (any q j js) c i = i
    firm_first opens nothing c i = i
    firm_first opens (both f g) c i = member_left T c (first opens f) (if skips f then first opens g else []) (firm_first opens f c i)
    firm_first opens (either f g) c i = elim (member_cases T c (firm f) (firm g) i) [ inl i ↦ member_left T c (first opens f) (first opens g) (firm_first opens f c i) | inr i ↦ member_right T c (first opens f) (first opens g) (firm_first opens g c i) ]
    firm_first opens (chain f) c i = absurd cc
    firm_first opens (until f g) c i = absurd cc
    firm_first opens (made h f) c i = firm_first opens f c i
    firm_first opens (ahead q j js k f g) c i = member_right T c (codes_of T j js) (first opens g) (firm_first opens g c i)
    firm_first opens (deep n) c i = absurd cc

    in_within : (c : ℕ) (cs ds : List ℕ) → within cs ds ≡ true → member c cs ≡ true → member c ds ≡ true
    in_within c [] ds h i = absurd cc
    in_within c (x ∷ cs) ds h i = elim (or_cases (c == x) (member c cs) i) [
      | inl e ↦ (let i : c ≡ x = eqb-true c x e in rw i (and_parts (member x ds) (within cs ds) h).0)
      | inr e ↦ in_within c cs ds (and_parts (member x ds) (within cs ds) h).1 e
    ]

    heads_any : (q : Mark) (cs : List ℕ) → member (T.kind t) cs ≡ true → member (T.kind t) (if is_quiet q then [] else cs) ≡ false → Heads (if member (T.kind t) cs then stand q t ∷ [] else [])
    heads_any quiet cs i l = rw i ([], refl)
    heads_any declares cs i l = absurd (cc (i, l))
    heads_any restarts cs i l = absurd (cc (i, l))

    heads_two : (q : Mark) (note : List T.Word → List (Stand T.Word)) (j : T.Kind) (js : List T.Kind) (k : T.Kind) (us : List T.Word) → is_at_two T j js k (t ∷ us) ≡ true → Heads (note_two q note (t ∷ us))
    heads_two q note j js k [] e = absurd (let p = (and_parts (member (T.kind t) (codes_of T j js)) _ e).1 in cc p)
    heads_two q note j js k (w ∷ us) e = (stand q t ∷ note us, refl)

    heads_if : (b : Bool) (xs ys : List (Stand T.Word)) → (b ≡ true → Heads xs) → (b ≡ false → Heads ys) → Heads (if b then xs else ys)
    heads_if true xs ys h k = h refl
    heads_if false xs ys h k = k refl

    heads : {N : Type 0} {V : N → Type 0} (opens goes : N → List ℕ) (deeper : (n : N) → List T.Word → Outcome T.Word (V n)) (inner : (n : N) → List T.Word → List (Stand T.Word)) (us : List T.Word)
        → {A : Type 0} (f : Form T N V A) → is_plain opens goes f ≡ true → member (T.kind t) (firm f) ≡ true → member (T.kind t) (loud f) ≡ false → Heads (note_with opens deeper inner f (t ∷ us))
    heads opens goes deeper inner us (any q j js) p i l = heads_any q (codes_of T j js) i l
    heads opens goes deeper inner us nothing p i l = absurd cc
    heads opens goes deeper inner us (both f g) p i l =
        let h = heads opens goes deeper inner us f (and_parts (is_plain opens goes f) _ p).0 i l in
        let more : List (Stand T.Word) = then_note (read_with opens deeper f (t ∷ us)) (λ a rest. note_with opens deeper inner g rest) in
        (h.0 ++ more, ap (λ (x : List (Stand T.Word)). x ++ more) h.1)
    heads opens goes deeper inner us (either f g) p i l =
        let x = and_parts (is_plain opens goes f) _ p in
        let y = and_parts (is_plain opens goes g) _ x.1 in
        let z = and_parts (not (skips f)) _ y.1 in
        let n = not_member T (T.kind t) (loud f) (loud g) l in
        elim (member_cases T (T.kind t) (firm f) (firm g) i) [
          | inl j ↦ (let e : member (T.kind t) (first opens f) ≡ true = firm_first opens f (T.kind t) j in rw e (heads opens goes deeper inner us f x.0 j n.0))
          | inr j ↦ (let e : member (T.kind t) (first opens f) ≡ false = apart_from T (T.kind t) (first opens f) (first opens g) z.1 (firm_first opens g (T.kind t) j) in rw e (heads opens goes deeper inner us g y.0 j n.1))
        ]
    heads opens goes deeper inner us (chain f) p i l = absurd cc
    heads opens goes deeper inner us (until f g) p i l = absurd cc
    heads opens goes deeper inner us (made h f) p i l = heads opens goes deeper inner us f p i l
    heads opens goes deeper inner us (ahead q j js k f g) p i l =
        let x = and_parts (is_plain opens goes f) _ p in
        let y = and_parts (is_plain opens goes g) _ x.1 in
        heads_if (is_at_two T j js k (t ∷ us)) _ _ (heads_two q (note_with opens deeper inner f) j js k us) (λ e. heads opens goes deeper inner us g y.0 i l)
    heads opens goes deeper inner us (deep n) p i l = absurd cc

    -- ---- where two words are looked at

    by_heads : {A : Type 0} (r s : Outcome T.Word A) (xs ys : List (Stand T.Word)) → Heads xs → Heads ys → Alike t m o 0 r xs s ys
    by_heads r s xs ys h k = inl (stand quiet t ∷ [], h.0, k.0, h.1, k.1, refl)

    TwoOf : {A B : Type 0} → T.Kind → List T.Kind → T.Kind → (List T.Word → Outcome T.Word A) → (List T.Word → Outcome T.Word B) → List T.Word → Outcome T.Word ((T.Word × A) ⊎ B)
    TwoOf {A} j js k f g ws = if is_at_two T j js k ws then turned inl (paired (read_any T j js ws) (λ us. turned (λ (x : T.Word × A). x.1) (paired (read_word T k us) f))) else turned inr (g ws)

    follow_two : {A B : Type 0} (q : Mark) (j : T.Kind) (js : List T.Kind) (k : T.Kind) (f : List T.Word → Outcome T.Word A) (g : List T.Word → Outcome T.Word B) (note last : List T.Word → List (Stand T.Word)) → Follows t m o f note → Follows t m o g last
        → (member (T.kind t) (codes_of T j js) ≡ true → (us : List T.Word) → Heads (last (t ∷ us)))
        → Follows {A = (T.Word × A) ⊎ B} t m o (TwoOf j js k f g) (λ ws. if is_at_two T j js k ws then note_two q note ws else last ws)
    unfolding TwoOf
    follow_two {A} {B} q j js k f g note last h i firm [] = tested (member (T.kind t) (codes_of T j js)) refl
      where
        both_heads : member (T.kind t) (codes_of T j js) ≡ true → (us : List T.Word) → Heads (if is_at_two T j js k (t ∷ us) then note_two q note (t ∷ us) else last (t ∷ us))
        both_heads e us = heads_if (is_at_two T j js k (t ∷ us)) _ _ (heads_two q note j js k us) (λ z. firm e us)

        tested : (b : Bool) → member (T.kind t) (codes_of T j js) ≡ b → Alike t m o 0 (TwoOf j js k f g (t ∷ m)) (if is_at_two T j js k (t ∷ m) then note_two q note (t ∷ m) else last (t ∷ m)) (TwoOf j js k f g (t ∷ o)) (if is_at_two T j js k (t ∷ o) then note_two q note (t ∷ o) else last (t ∷ o))
        tested true e = by_heads _ _ _ _ (both_heads e m) (both_heads e o)
        tested false e = rw e (alike_turned t m o 0 inr _ _ _ _ (i []))
    follow_two q j js k f g note last h i firm (v ∷ []) =
        alike_if t m o 1 (is_at_two T j js k (v ∷ t ∷ m)) (is_at_two T j js k (v ∷ t ∷ o)) _ _ _ _ _ _ _ _ refl
        (λ e z. inl (stand quiet v ∷ stand q v ∷ [], note m, note o, refl, refl, refl))
        (alike_turned t m o 1 inr _ _ _ _ (i (v ∷ [])))
    follow_two {A} q j js k f g note last h i firm (v ∷ w ∷ front) =
        let n = length (v ∷ w ∷ front) in
        alike_if t m o n (is_at_two T j js k (v ∷ w ∷ (front ++ t ∷ m))) (is_at_two T j js k (v ∷ w ∷ (front ++ t ∷ o))) _ _ _ _ _ _ _ _ refl
        (λ e z. alike_turned t m o n inl _ _ _ _ (rw (two_read T j js k v w (front ++ t ∷ m) f e, two_read T j js k v w (front ++ t ∷ o) f z)
        (alike_turned t m o n (λ b. (v, b)) _ _ _ _ (alike_turned t m o n (λ (x : T.Word × A). x.1) _ _ _ _ (alike_turned t m o n (λ b. (w, b)) _ _ _ _ (alike_shift t m o n (length front) (stand quiet v ∷ stand q v ∷ []) _ _ _ _ (omega arith) (h front)))))))
        (alike_turned t m o n inr _ _ _ _ (i (v ∷ w ∷ front)))

    -- ---- all forms

    pub follow : {N : Type 0} {V : N → Type 0} (opens goes : N → List ℕ) (deeper : (n : N) → List T.Word → Outcome T.Word (V n)) (inner : (n : N) → List T.Word → List (Stand T.Word)) → ((n : N) → Follows t m o (deeper n) (inner n))
        → ((A : Type 0) (f : Form T N V A) → skips f ≡ false → Moves (read_with opens deeper f))
        → {A : Type 0} (f : Form T N V A) → is_plain opens goes f ≡ true → Follows t m o (read_with opens deeper f) (note_with opens deeper inner f)
    unfolding TwoOf
    follow opens goes deeper inner h moves (any q j js) p front = follow_any q j js front
    follow opens goes deeper inner h moves nothing p front = inr (inl (tt, front, refl, refl, refl, omega arith))
    follow opens goes deeper inner h moves (both f g) p front =
        let x = and_parts (is_plain opens goes f) _ p in
        let y = and_parts (is_plain opens goes g) _ x.1 in
        alike_paired t m o (length front) _ _ _ _ (read_with opens deeper g) (note_with opens deeper inner g) (follow opens goes deeper inner h moves f x.0 front) (follow opens goes deeper inner h moves g y.0)
    follow opens goes deeper inner h moves (either f g) p front =
        let x = and_parts (is_plain opens goes f) _ p in
        let y = and_parts (is_plain opens goes g) _ x.1 in
        alike_if t m o (length front) (is_at T (first opens f) (front ++ t ∷ m)) (is_at T (first opens f) (front ++ t ∷ o)) _ _ _ _ _ _ _ _ (same_test t m o (first opens f) front)
        (λ e z. alike_turned t m o (length front) inl _ _ _ _ (follow opens goes deeper inner h moves f x.0 front)) (alike_turned t m o (length front) inr _ _ _ _ (follow opens goes deeper inner h moves g y.0 front))
    follow opens goes deeper inner h moves (chain f) p front =
        let x = and_parts (is_plain opens goes f) _ p in
        let y = and_parts (not (skips f)) _ x.1 in
        follow_chain (first opens f) (read_with opens deeper f) (note_with opens deeper inner f) (follow opens goes deeper inner h moves f x.0) (moves _ f (is_not T (skips f) y.0)) (length (front ++ t ∷ m)) (length (front ++ t ∷ o)) front (omega arith) (omega arith)
    follow opens goes deeper inner h moves (until f g) p front =
        let x = and_parts (is_plain opens goes f) _ p in
        let y = and_parts (is_plain opens goes g) _ x.1 in
        let z = and_parts (not (skips f)) _ y.1 in
        follow_until (first opens g) (read_with opens deeper f) (read_with opens deeper g) (note_with opens deeper inner f) (note_with opens deeper inner g) (follow opens goes deeper inner h moves f x.0) (follow opens goes deeper inner h moves g y.0) (moves _ f (is_not T (skips f) z.0)) (suc (length (front ++ t ∷ m))) (suc (length (front ++ t ∷ o))) front (omega arith) (omega arith)
    follow opens goes deeper inner h moves (made c f) p front = alike_turned t m o (length front) c _ _ _ _ (follow opens goes deeper inner h moves f p front)
    follow opens goes deeper inner h moves (ahead q j js k f g) p front =
        let x = and_parts (is_plain opens goes f) _ p in
        let y = and_parts (is_plain opens goes g) _ x.1 in
        let z = and_parts (not (skips g)) _ y.1 in
        let w = and_parts (within (codes_of T j js) (firm g)) _ z.1 in
        let u = and_parts _ _ w.1 in
        let v = and_parts _ _ u.1 in
        follow_two q j js k (read_with opens deeper f) (read_with opens deeper g) (note_with opens deeper inner f) (note_with opens deeper inner g) (follow opens goes deeper inner h moves f x.0) (follow opens goes deeper inner h moves g y.0)
        (λ e us. heads opens goes deeper inner us g y.0 (in_within (T.kind t) (codes_of T j js) (firm g) w.0 e) (apart_from T (T.kind t) (loud g) (codes_of T j js) v.1 e)) front
    follow opens goes deeper inner h moves (deep n) p front = alike_deeper t m o (length front) _ _ _ _ (h n front)
