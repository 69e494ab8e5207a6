-- Counting is reading with the count of what was noted.
use Rattle.std.proofs.Common.{◌≡◌, ℕ, zero, suc, Bool, true, false, List, [], ◌∷◌, ◌++◌, length, Option, Some, None, Ok, Err, refl, sym, ap, ◌∙◌, ◌⊎◌, inl, inr}
use Rattle.std.specs.Prelude.{if◌then◌else◌}
use Rattle.std.proofs.lemmas.Bool.{and_parts}
use Rattle.uc_forms.specs.declared.fault.Fault.TheVariants.{Syntax, TooDeep}
use Rattle.uc_forms.specs.declared.tally.Tally.{Tally}
use Rattle.uc_forms.specs.Alphabet.{Alphabet}
use Rattle.uc_forms.specs.Form.{Mark, quiet, Form, any, nothing, both, either, chain, until, made, ahead, deep, Rules, member, codes_of}
use Rattle.uc_forms.specs.Spelling.{Stand, stand}
use Rattle.uc_forms.specs.Reading.{Outcome as Read, turned as turned_read, paired as paired_read, ◌>>=◌ as ◌>>>◌, take_first as take_read, is_at, is_at_two, first, read_any, read_word, read_chain, read_until, read_with, read_at, read, note_word, then_note, note_turn, note_chain, note_until, note_two, note_with, note_at, noted}
use Rattle.uc_forms.specs.Tally.{with_word, counted_on}
use Rattle.uc_forms.specs.Grammar.{Grammar}
use Rattle.uc_forms.proofs.Tallies.{counted_append, counted_deeper}
use Rattle.uc_forms.specs.Counted.{State, Outcome, turned, paired, ◌>>=◌, marked, take_first, count_any, count_word, count_chain, count_until, count_with, count_at, count}
use Rattle.uc_forms.specs.CountedLaw.{joined, CountingIsReading}

turned_joined : {W A B : Type 0} (h : A → B) (r : Read W A) (n : Tally W) → turned h (joined r n) ≡ joined (turned_read h r) n
turned_joined h (Ok x) n = refl
turned_joined h (Err e) n = refl

-- what two functions agree on
abbrev Agree : {W A : Type 0} → (State W → Outcome W A) → (List W → Read W A) → (List W → List (Stand W)) → Type 0
Agree {W} item reads notes = (ws : List W) (n : Tally W) → item (ws, n) ≡ joined (reads ws) (counted_on n (notes ws))

module _ (T : Alphabet) where
  any_joined : (q : Mark) (j : T.Kind) (js : List T.Kind) → Agree (count_any T q j js) (read_any T j js) (note_word T q j js)
  any_joined q j js [] n = refl
  any_joined q j js (w ∷ ws) n = tested (member (T.kind w) (codes_of T j js))
    where
      tested : (b : Bool) → (let taken : Outcome T.Word T.Word = take_first q (w ∷ ws) n in let none : Outcome T.Word T.Word = Err (Syntax, (w ∷ ws, n)) in if b then taken else none)
          ≡ (let taken : Read T.Word T.Word = take_read (w ∷ ws) in let none : Read T.Word T.Word = Err (Syntax, w ∷ ws) in joined (if b then taken else none) (counted_on n (if b then stand q w ∷ [] else [])))
      tested true = refl
      tested false = refl

  paired_joined : {A B : Type 0} (g : State T.Word → Outcome T.Word B) (reads : List T.Word → Read T.Word B) (notes : List T.Word → List (Stand T.Word)) → Agree g reads notes
      → (r : Read T.Word A) (m : Tally T.Word) → paired (joined r m) g ≡ joined (paired_read r reads) (counted_on m (then_note r (λ a rest. notes rest)))
  paired_joined g reads notes h (Ok x) m = ap (λ (z : Outcome T.Word _). turned (λ b. (x.0, b)) z) (h x.1 m) ∙ turned_joined (λ b. (x.0, b)) (reads x.1) (counted_on m (notes x.1))
  paired_joined g reads notes h (Err e) m = refl

  -- turns of a chain: the rest of them is joined
  chain_turn : {A B : Type 0} (more : State T.Word → Outcome T.Word (List A × Option B)) (more_read : List T.Word → Read T.Word (List A × Option B)) (more_notes : List T.Word → List (Stand T.Word)) → Agree more more_read more_notes
      → (r : Read T.Word (A ⊎ B)) (m : Tally T.Word)
      → (let own : Outcome T.Word (List A × Option B) = (joined r m >>= λ x. elim x.0 [ inl a ↦ turned (λ y. (a ∷ y.0, y.1)) (more x.1) | inr b ↦ Ok (([], Some b), x.1) ]) in own)
      ≡ (let own : Read T.Word (List A × Option B) = (r >>> λ x. elim x.0 [ inl a ↦ turned_read (λ y. (a ∷ y.0, y.1)) (more_read x.1) | inr b ↦ Ok (([], Some b), x.1) ]) in joined own (counted_on m (then_note r (λ x rest. note_turn x (more_notes rest)))))
  chain_turn {A} {B} more more_read more_notes h (Ok x) m = by_turn x.0
    where
      by_turn : (y : A ⊎ B)
          → (let own : Outcome T.Word (List A × Option B) = elim y [ inl a ↦ turned (λ z. (a ∷ z.0, z.1)) (more (x.1, m)) | inr b ↦ Ok (([], Some b), (x.1, m)) ] in own)
          ≡ (let own : Read T.Word (List A × Option B) = elim y [ inl a ↦ turned_read (λ z. (a ∷ z.0, z.1)) (more_read x.1) | inr b ↦ Ok (([], Some b), x.1) ] in joined own (counted_on m (note_turn y (more_notes x.1))))
      by_turn (inl a) = ap (λ (z : Outcome T.Word (List A × Option B)). turned (λ y. (a ∷ y.0, y.1)) z) (h x.1 m) ∙ turned_joined (λ (y : List A × Option B). (a ∷ y.0, y.1)) (more_read x.1) (counted_on m (more_notes x.1))
      by_turn (inr b) = refl
  chain_turn more more_read more_notes h (Err e) m = refl

  chain_joined : {A B : Type 0} (codes : List ℕ) (item : State T.Word → Outcome T.Word (A ⊎ B)) (reads : List T.Word → Read T.Word (A ⊎ B)) (notes : List T.Word → List (Stand T.Word)) → Agree item reads notes
      → (k : ℕ) → Agree (count_chain T codes item k) (read_chain T codes reads k) (note_chain T codes reads notes k)
  unfolding count_chain read_chain note_chain
  chain_joined codes item reads notes h zero ws n = refl
  chain_joined {A} {B} codes item reads notes h (suc k) ws n = tested (is_at T codes ws) (chain_joined codes item reads notes h k)
    where
      tested : (t : Bool) → Agree (count_chain T codes item k) (read_chain T codes reads k) (note_chain T codes reads notes k)
          → (let none : Outcome T.Word (List A × Option B) = Ok (([], None), (ws, n)) in if t then (item (ws, n) >>= λ x. elim x.0 [ inl a ↦ turned (λ y. (a ∷ y.0, y.1)) (count_chain T codes item k x.1) | inr b ↦ Ok (([], Some b), x.1) ]) else none)
          ≡ (let none : Read T.Word (List A × Option B) = Ok (([], None), ws) in joined (if t then (reads ws >>> λ x. elim x.0 [ inl a ↦ turned_read (λ y. (a ∷ y.0, y.1)) (read_chain T codes reads k x.1) | inr b ↦ Ok (([], Some b), x.1) ]) else none)
          (counted_on n (if t then notes ws ++ then_note (reads ws) (λ x rest. note_turn x (note_chain T codes reads notes k rest)) else [])))
      tested true ih = rw (h ws n, counted_append n (notes ws) (then_note (reads ws) (λ x rest. note_turn x (note_chain T codes reads notes k rest)))) (chain_turn (count_chain T codes item k) (read_chain T codes reads k) (note_chain T codes reads notes k) ih (reads ws) (counted_on n (notes ws)))
      tested false ih = refl

  -- turns up to an end
  until_turn : {A B : Type 0} (more : State T.Word → Outcome T.Word (List A × B)) (more_read : List T.Word → Read T.Word (List A × B)) (more_notes : List T.Word → List (Stand T.Word)) → Agree more more_read more_notes
      → (r : Read T.Word A) (m : Tally T.Word)
      → (let own : Outcome T.Word (List A × B) = (joined r m >>= λ x. turned (λ y. (x.0 ∷ y.0, y.1)) (more x.1)) in own)
      ≡ (let own : Read T.Word (List A × B) = (r >>> λ x. turned_read (λ y. (x.0 ∷ y.0, y.1)) (more_read x.1)) in joined own (counted_on m (then_note r (λ a rest. more_notes rest))))
  until_turn {A} {B} more more_read more_notes h (Ok x) m = ap (λ (z : Outcome T.Word (List A × B)). turned (λ y. (x.0 ∷ y.0, y.1)) z) (h x.1 m) ∙ turned_joined (λ (y : List A × B). (x.0 ∷ y.0, y.1)) (more_read x.1) (counted_on m (more_notes x.1))
  until_turn more more_read more_notes h (Err e) m = refl

  until_joined : {A B : Type 0} (codes : List ℕ) (item : State T.Word → Outcome T.Word A) (ender : State T.Word → Outcome T.Word B) (reads : List T.Word → Read T.Word A) (ends : List T.Word → Read T.Word B) (notes last : List T.Word → List (Stand T.Word)) → Agree item reads notes → Agree ender ends last
      → (k : ℕ) → Agree (count_until T codes item ender k) (read_until T codes reads ends k) (note_until T codes reads notes last k)
  unfolding count_until read_until note_until
  until_joined {A} {B} codes item ender reads ends notes last h g zero ws n = ap (λ (z : Outcome T.Word B). let own : Outcome T.Word (List A × B) = turned (λ b. ([], b)) z in own) (g ws n) ∙ turned_joined (λ (b : B). let own : List A × B = ([], b) in own) (ends ws) (counted_on n (last ws))
  until_joined {A} {B} codes item ender reads ends notes last h g (suc k) ws n = tested (is_at T codes ws) (until_joined codes item ender reads ends notes last h g k)
    where
      tested : (t : Bool) → Agree (count_until T codes item ender k) (read_until T codes reads ends k) (note_until T codes reads notes last k)
          → (let end : Outcome T.Word (List A × B) = turned (λ b. ([], b)) (ender (ws, n)) in if t then end else (item (ws, n) >>= λ x. turned (λ y. (x.0 ∷ y.0, y.1)) (count_until T codes item ender k x.1)))
          ≡ (let end : Read T.Word (List A × B) = turned_read (λ b. ([], b)) (ends ws) in joined (if t then end else (reads ws >>> λ x. turned_read (λ y. (x.0 ∷ y.0, y.1)) (read_until T codes reads ends k x.1)))
          (counted_on n (if t then last ws else notes ws ++ then_note (reads ws) (λ a rest. note_until T codes reads notes last k rest))))
      tested true ih = ap (λ (z : Outcome T.Word B). let own : Outcome T.Word (List A × B) = turned (λ b. ([], b)) z in own) (g ws n) ∙ turned_joined (λ (b : B). let own : List A × B = ([], b) in own) (ends ws) (counted_on n (last ws))
      tested false ih = rw (h ws n, counted_append n (notes ws) (then_note (reads ws) (λ a rest. note_until T codes reads notes last k rest))) (until_turn (count_until T codes item ender k) (read_until T codes reads ends k) (note_until T codes reads notes last k) ih (reads ws) (counted_on n (notes ws)))

  -- a label and what stands behind it
  label_joined : {A : Type 0} (q : Mark) (j : T.Kind) (js : List T.Kind) (k : T.Kind) (item : State T.Word → Outcome T.Word A) (reads : List T.Word → Read T.Word A) (notes : List T.Word → List (Stand T.Word)) → Agree item reads notes
      → (ws : List T.Word) (n : Tally T.Word) → is_at_two T j js k ws ≡ true
      → (let own : Outcome T.Word (T.Word × A) = (count_any T quiet j js (ws, n) >>= λ x. turned (λ a. (x.0, a)) (count_word T k x.1 >>= λ y. item (marked q x.0 y.1))) in own)
      ≡ (let own : Read T.Word (T.Word × A) = paired_read (read_any T j js ws) (λ us. turned_read (λ x. x.1) (paired_read (read_word T k us) reads)) in joined own (counted_on n (note_two q notes ws)))
  label_joined q j js k item reads notes h [] n t = absurd cc
  label_joined q j js k item reads notes h (v ∷ []) n t = let p = and_parts (member (T.kind v) (codes_of T j js)) false t in absurd (let e : false ≡ true = p.1 in cc e)
  label_joined {A} q j js k item reads notes h (v ∷ w ∷ ws) n t =
      let p = and_parts (member (T.kind v) (codes_of T j js)) (member (T.kind w) (T.code k ∷ [])) t in
      rw (p.0, p.1, h ws (with_word n (stand q v))) (same (reads ws))
    where
      same : (r : Read T.Word A) → (let m : Tally T.Word = counted_on (with_word n (stand q v)) (notes ws) in let own : Outcome T.Word (T.Word × A) = turned (λ (a : A). (v, a)) (joined r m) in own)
          ≡ (let m : Tally T.Word = counted_on (with_word n (stand q v)) (notes ws) in let behind : Read T.Word (T.Word × A) = turned_read (λ (a : A). (w, a)) r in let own : Read T.Word (T.Word × A) = turned_read (λ (a : A). (v, a)) (turned_read (λ (x : T.Word × A). x.1) behind) in joined own m)
      same (Ok x) = refl
      same (Err e) = refl

  form_joined : {N : Type 0} {V : N → Type 0} (opens : N → List ℕ) (deeper : (n : N) → State T.Word → Outcome T.Word (V n)) (reads : (n : N) → List T.Word → Read T.Word (V n)) (inner : (n : N) → List T.Word → List (Stand T.Word)) → ((n : N) → Agree (deeper n) (reads n) (inner n))
      → {A : Type 0} (f : Form T N V A) → Agree (count_with opens deeper f) (read_with opens reads f) (note_with opens reads inner f)
  form_joined opens deeper reads inner h (any q j js) ws n = any_joined q j js ws n
  form_joined opens deeper reads inner h nothing ws n = refl
  form_joined opens deeper reads inner h (both f g) ws n =
      rw (form_joined opens deeper reads inner h f ws n, counted_append n (note_with opens reads inner f ws) (then_note (read_with opens reads f ws) (λ a rest. note_with opens reads inner g rest)))
      (paired_joined (count_with opens deeper g) (read_with opens reads g) (note_with opens reads inner g) (form_joined opens deeper reads inner h g) (read_with opens reads f ws) (counted_on n (note_with opens reads inner f ws)))
  form_joined opens deeper reads inner h (either {A = A} {B = B} f g) ws n = tested (is_at T (first opens f) ws) (form_joined opens deeper reads inner h f ws n) (form_joined opens deeper reads inner h g ws n)
    where
      tested : (t : Bool) → count_with opens deeper f (ws, n) ≡ joined (read_with opens reads f ws) (counted_on n (note_with opens reads inner f ws)) → count_with opens deeper g (ws, n) ≡ joined (read_with opens reads g ws) (counted_on n (note_with opens reads inner g ws))
          → (let own : Outcome T.Word (A ⊎ B) = (if t then turned inl (count_with opens deeper f (ws, n)) else turned inr (count_with opens deeper g (ws, n))) in own)
          ≡ (let own : Read T.Word (A ⊎ B) = (if t then turned_read inl (read_with opens reads f ws) else turned_read inr (read_with opens reads g ws)) in joined own (counted_on n (if t then note_with opens reads inner f ws else note_with opens reads inner g ws)))
      tested true e d = rw e (turned_joined (λ (a : A). let x : A ⊎ B = inl a in x) (read_with opens reads f ws) (counted_on n (note_with opens reads inner f ws)))
      tested false e d = rw d (turned_joined (λ (b : B). let x : A ⊎ B = inr b in x) (read_with opens reads g ws) (counted_on n (note_with opens reads inner g ws)))
  form_joined opens deeper reads inner h (chain f) ws n = chain_joined (first opens f) (count_with opens deeper f) (read_with opens reads f) (note_with opens reads inner f) (form_joined opens deeper reads inner h f) (length ws) ws n
  form_joined opens deeper reads inner h (until f g) ws n =
      until_joined (first opens g) (count_with opens deeper f) (count_with opens deeper g) (read_with opens reads f) (read_with opens reads g) (note_with opens reads inner f) (note_with opens reads inner g) (form_joined opens deeper reads inner h f) (form_joined opens deeper reads inner h g) (suc (length ws)) ws n
  form_joined opens deeper reads inner h (made m f) ws n = rw (form_joined opens deeper reads inner h f ws n) (turned_joined m (read_with opens reads f ws) (counted_on n (note_with opens reads inner f ws)))
  form_joined opens deeper reads inner h (ahead {A = A} {B = B} q j js k f g) ws n = tested (is_at_two T j js k ws) refl (form_joined opens deeper reads inner h f) (form_joined opens deeper reads inner h g ws n)
    where
      tested : (t : Bool) → is_at_two T j js k ws ≡ t → Agree (count_with opens deeper f) (read_with opens reads f) (note_with opens reads inner f) → count_with opens deeper g (ws, n) ≡ joined (read_with opens reads g ws) (counted_on n (note_with opens reads inner g ws))
          → (let own : Outcome T.Word ((T.Word × A) ⊎ B) = (if t then turned inl (count_any T quiet j js (ws, n) >>= λ x. turned (λ a. (x.0, a)) (count_word T k x.1 >>= λ y. count_with opens deeper f (marked q x.0 y.1))) else turned inr (count_with opens deeper g (ws, n))) in own)
          ≡ (let own : Read T.Word ((T.Word × A) ⊎ B) = (if t then turned_read inl (paired_read (read_any T j js ws) (λ us. turned_read (λ x. x.1) (paired_read (read_word T k us) (read_with opens reads f)))) else turned_read inr (read_with opens reads g ws)) in joined own (counted_on n (if t then note_two q (note_with opens reads inner f) ws else note_with opens reads inner g ws)))
      tested true t e d = rw (label_joined q j js k (count_with opens deeper f) (read_with opens reads f) (note_with opens reads inner f) e ws n t)
          (turned_joined (λ (x : T.Word × A). let y : (T.Word × A) ⊎ B = inl x in y) (paired_read (read_any T j js ws) (λ us. turned_read (λ x. x.1) (paired_read (read_word T k us) (read_with opens reads f)))) (counted_on n (note_two q (note_with opens reads inner f) ws)))
      tested false t e d = rw d (turned_joined (λ (b : B). let x : (T.Word × A) ⊎ B = inr b in x) (read_with opens reads g ws) (counted_on n (note_with opens reads inner g ws)))
  form_joined opens deeper reads inner h (deep n) ws t = h n ws t ∙ ap (λ (u : Tally T.Word). joined (reads n ws) u) (sym (counted_deeper t (inner n ws)))

module _ {T : Alphabet} {N : Type 0} {V : N → Type 0} (rule : Rules T N V) (opens : N → List ℕ) where
  at_joined : (levels : ℕ) (n : N) → Agree (count_at rule opens levels n) (read_at rule opens levels n) (note_at rule opens levels n)
  unfolding count_at read_at note_at
  at_joined zero n ws t = tested (is_at T (opens n) ws)
    where
      tested : (b : Bool) → (let own : Outcome T.Word (V n) = (if b then Err (TooDeep, (ws, t)) else Err (Syntax, (ws, t))) in own) ≡ (let own : Read T.Word (V n) = (if b then Err (TooDeep, ws) else Err (Syntax, ws)) in joined own t)
      tested true = refl
      tested false = refl
  at_joined (suc m) n ws t = form_joined T opens (count_at rule opens m) (read_at rule opens m) (note_at rule opens m) (at_joined m) (rule n) ws t

  -- what counting gives for a form
  pub counted : (levels : ℕ) {A : Type 0} (f : Form T N V A) (ws : List T.Word) (n : Tally T.Word) → count rule opens levels f (ws, n) ≡ joined (read rule opens levels f ws) (counted_on n (noted rule opens levels f ws))
  counted levels f ws n = form_joined T opens (count_at rule opens levels) (read_at rule opens levels) (note_at rule opens levels) (at_joined levels) f ws n

pub counting_is_reading : (g : Grammar) → CountingIsReading g
counting_is_reading g levels ws n = counted g.rule g.opens levels g.text ws n
