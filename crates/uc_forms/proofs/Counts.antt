-- Each word that reading takes is noted, and no other.
use Rattle.std.proofs.Common.{◌≡◌, ℕ, zero, suc, ◌+◌, Bool, true, false, List, [], ◌∷◌, ◌++◌, length, Option, Some, Ok, Err, refl, sym, subst, length-append, arith, inl, inr, ◌⊎◌}
use Rattle.std.specs.Prelude.{if◌then◌else◌}
use Rattle.std.proofs.lemmas.Bool.{and_parts}
use Rattle.std.proofs.lemmas.List.{length-map}
use Rattle.uc_forms.specs.declared.fault.Fault.TheVariants.{Syntax}
use Rattle.uc_forms.specs.Alphabet.{Alphabet}
use Rattle.uc_forms.specs.Form.{Mark, Form, any, nothing, both, either, chain, until, made, ahead, deep, member, codes_of}
use Rattle.uc_forms.specs.Spelling.{Stand, stand, one_deeper}
use Rattle.uc_forms.specs.Reading.{Outcome, ◌>>=◌, turned, paired, is_at, is_at_two, read_any, read_word, read_chain, read_until, first, read_with, note_word, then_note, note_turn, note_chain, note_until, note_two, note_with}

-- the words that are left
abbrev pub left : {W A : Type 0} → Outcome W A → List W
left (Ok x) = x.1
left (Err e) = e.1

abbrev pub Counts : {W A : Type 0} → List W → Outcome W A → List (Stand W) → Type 0
Counts ws r xs = length xs + length (left r) ≡ length ws

counts_turned : {W A B : Type 0} (h : A → B) (ws : List W) (r : Outcome W A) (xs : List (Stand W)) → Counts ws r xs → Counts ws (turned h r) xs
counts_turned h ws (Ok x) xs c = c
counts_turned h ws (Err e) xs c = c

counts_next : {W A : Type 0} (ws mid : List W) (xs ys : List (Stand W)) (s : Outcome W A) → length xs + length mid ≡ length ws → Counts mid s ys → Counts ws s (xs ++ ys)
counts_next ws mid xs ys s c d = let l = length-append xs ys in omega arith

counts_none : {W : Type 0} (ws rest : List W) (xs : List (Stand W)) → length xs + length rest ≡ length ws → length (xs ++ []) + length rest ≡ length ws
counts_none ws rest xs c = let l = length-append xs [] in omega arith

counts_paired : {W A B : Type 0} (ws : List W) (r : Outcome W A) (xs : List (Stand W)) (g : List W → Outcome W B) (note : List W → List (Stand W)) → Counts ws r xs → ((us : List W) → Counts us (g us) (note us))
    → Counts ws (paired r g) (xs ++ then_note r (λ a rest. note rest))
counts_paired ws (Ok x) xs g note c h = counts_turned (λ b. (x.0, b)) ws (g x.1) (xs ++ note x.1) (counts_next ws x.1 xs (note x.1) (g x.1) c (h x.1))
counts_paired ws (Err e) xs g note c h = counts_none ws e.1 xs c

counts_if : {W A : Type 0} (ws : List W) (b : Bool) (r s : Outcome W A) (xs ys : List (Stand W)) → (b ≡ true → Counts ws r xs) → (b ≡ false → Counts ws s ys) → Counts ws (if b then r else s) (if b then xs else ys)
counts_if ws true r s xs ys h k = h refl
counts_if ws false r s xs ys h k = k refl

abbrev pub StepOf : {W A B : Type 0} → (List W → Outcome W (List A × Option B)) → A ⊎ B → List W → Outcome W (List A × Option B)
StepOf more x rest = elim x [
  | inl a ↦ turned (λ y. (a ∷ y.0, y.1)) (more rest)
  | inr b ↦ Ok (([], Some b), rest)
]

abbrev pub TurnOf : {W A B : Type 0} → (List W → Outcome W (List A × B)) → A → List W → Outcome W (List A × B)
TurnOf more a rest = turned (λ y. (a ∷ y.0, y.1)) (more rest)

counts_step : {W A B : Type 0} (ws : List W) (r : Outcome W (A ⊎ B)) (xs : List (Stand W)) (more : List W → Outcome W (List A × Option B)) (note : List W → List (Stand W)) → Counts ws r xs → ((us : List W) → Counts us (more us) (note us))
    → Counts ws (r >>= λ x. StepOf more x.0 x.1) (xs ++ then_note r (λ x rest. note_turn x (note rest)))
counts_step ws (Ok (inl a, rest)) xs more note c h = counts_turned (λ y. (a ∷ y.0, y.1)) ws (more rest) (xs ++ note rest) (counts_next ws rest xs (note rest) (more rest) c (h rest))
counts_step ws (Ok (inr b, rest)) xs more note c h = counts_none ws rest xs c
counts_step ws (Err e) xs more note c h = counts_none ws e.1 xs c

counts_turn : {W A B : Type 0} (ws : List W) (r : Outcome W A) (xs : List (Stand W)) (more : List W → Outcome W (List A × B)) (note : List W → List (Stand W)) → Counts ws r xs → ((us : List W) → Counts us (more us) (note us))
    → Counts ws (r >>= λ x. TurnOf more x.0 x.1) (xs ++ then_note r (λ a rest. note rest))
counts_turn ws (Ok x) xs more note c h = counts_turned (λ y. (x.0 ∷ y.0, y.1)) ws (more x.1) (xs ++ note x.1) (counts_next ws x.1 xs (note x.1) (more x.1) c (h x.1))
counts_turn ws (Err e) xs more note c h = counts_none ws e.1 xs c

module _ (T : Alphabet) where
  counts_any : (q : Mark) (j : T.Kind) (js : List T.Kind) (ws : List T.Word) → Counts ws (read_any T j js ws) (note_word T q j js ws)
  counts_any q j js [] = refl
  counts_any q j js (w ∷ ws) = tested (member (T.kind w) (codes_of T j js))
    where
      tested : (b : Bool) → Counts (w ∷ ws) (if b then Ok (w, ws) else Err (Syntax, w ∷ ws)) (if b then stand q w ∷ [] else [])
      tested true = omega arith
      tested false = omega arith

  counts_chain : {A B : Type 0} (cs : List ℕ) (item : List T.Word → Outcome T.Word (A ⊎ B)) (note : List T.Word → List (Stand T.Word)) → ((us : List T.Word) → Counts us (item us) (note us)) → (n : ℕ) (ws : List T.Word) → Counts ws (read_chain T cs item n ws) (note_chain T cs item note n ws)
  unfolding read_chain note_chain
  counts_chain cs item note h zero ws = omega arith
  counts_chain cs item note h (suc n) ws = counts_if ws (is_at T cs ws) _ _ _ _ (λ e. counts_step ws (item ws) (note ws) (read_chain T cs item n) (note_chain T cs item note n) (h ws) (counts_chain cs item note h n)) (λ e. omega arith)

  counts_until : {A B : Type 0} (cs : List ℕ) (item : List T.Word → Outcome T.Word A) (ender : List T.Word → Outcome T.Word B) (note last : List T.Word → List (Stand T.Word)) → ((us : List T.Word) → Counts us (item us) (note us)) → ((us : List T.Word) → Counts us (ender us) (last us))
      → (n : ℕ) (ws : List T.Word) → Counts ws (read_until T cs item ender n ws) (note_until T cs item note last n ws)
  unfolding read_until note_until
  counts_until cs item ender note last h g zero ws = counts_turned (λ b. ([], b)) ws (ender ws) (last ws) (g ws)
  counts_until cs item ender note last h g (suc n) ws = counts_if ws (is_at T cs ws) _ _ _ _ (λ e. counts_turned (λ b. ([], b)) ws (ender ws) (last ws) (g ws))
      (λ e. counts_turn ws (item ws) (note ws) (read_until T cs item ender n) (note_until T cs item note last n) (h ws) (counts_until cs item ender note last h g n))

  -- two words, and then a part
  pub two_read : {A : Type 0} (j : T.Kind) (js : List T.Kind) (k : T.Kind) (v w : T.Word) (rest : List T.Word) (g : List T.Word → Outcome T.Word A) → is_at_two T j js k (v ∷ w ∷ rest) ≡ true
      → paired (read_any T j js (v ∷ w ∷ rest)) (λ us. turned (λ (x : T.Word × A). x.1) (paired (read_word T k us) g)) ≡ turned (λ b. (v, b)) (turned (λ (x : T.Word × A). x.1) (turned (λ b. (w, b)) (g rest)))
  two_read j js k v w rest g e = let p = and_parts (member (T.kind v) (codes_of T j js)) _ e in rw (p.0, p.1) refl

  counts_two : {A : Type 0} (q : Mark) (j : T.Kind) (js : List T.Kind) (k : T.Kind) (g : List T.Word → Outcome T.Word A) (note : List T.Word → List (Stand T.Word)) → ((us : List T.Word) → Counts us (g us) (note us)) → (ws : List T.Word) → is_at_two T j js k ws ≡ true
      → Counts ws (paired (read_any T j js ws) (λ us. turned (λ (x : T.Word × A). x.1) (paired (read_word T k us) g))) (note_two q note ws)
  counts_two q j js k g note h [] e = absurd cc
  counts_two q j js k g note h (v ∷ []) e = absurd (let p = (and_parts (member (T.kind v) (codes_of T j js)) _ e).1 in cc p)
  counts_two {A} q j js k g note h (v ∷ w ∷ rest) e =
      let c = h rest in
      let d : Counts (v ∷ w ∷ rest) (g rest) (note_two q note (v ∷ w ∷ rest)) = omega arith in
      subst (λ (r : Outcome T.Word (T.Word × A)). Counts (v ∷ w ∷ rest) r (note_two q note (v ∷ w ∷ rest))) (sym (two_read j js k v w rest g e))
      (counts_turned (λ b. (v, b)) (v ∷ w ∷ rest) (turned (λ (x : T.Word × A). x.1) (turned (λ b. (w, b)) (g rest))) (note_two q note (v ∷ w ∷ rest)) (counts_turned (λ (x : T.Word × A). x.1) (v ∷ w ∷ rest) (turned (λ b. (w, b)) (g rest)) (note_two q note (v ∷ w ∷ rest)) (counts_turned (λ b. (w, b)) (v ∷ w ∷ rest) (g rest) (note_two q note (v ∷ w ∷ rest)) d)))

  pub counts : {N : Type 0} {V : N → Type 0} (opens : N → List ℕ) (deeper : (n : N) → List T.Word → Outcome T.Word (V n)) (inner : (n : N) → List T.Word → List (Stand T.Word)) → ((n : N) (ws : List T.Word) → Counts ws (deeper n ws) (inner n ws))
      → {A : Type 0} (f : Form T N V A) (ws : List T.Word) → Counts ws (read_with opens deeper f ws) (note_with opens deeper inner f ws)
  counts opens deeper inner h (any q j js) ws = counts_any q j js ws
  counts opens deeper inner h nothing ws = omega arith
  counts opens deeper inner h (both f g) ws = counts_paired ws (read_with opens deeper f ws) (note_with opens deeper inner f ws) (read_with opens deeper g) (note_with opens deeper inner g) (counts opens deeper inner h f ws) (counts opens deeper inner h g)
  counts opens deeper inner h (either f g) ws = counts_if ws (is_at T (first opens f) ws) _ _ _ _ (λ e. counts_turned inl ws (read_with opens deeper f ws) (note_with opens deeper inner f ws) (counts opens deeper inner h f ws)) (λ e. counts_turned inr ws (read_with opens deeper g ws) (note_with opens deeper inner g ws) (counts opens deeper inner h g ws))
  counts opens deeper inner h (chain f) ws = counts_chain (first opens f) (read_with opens deeper f) (note_with opens deeper inner f) (counts opens deeper inner h f) (length ws) ws
  counts opens deeper inner h (until f g) ws = counts_until (first opens g) (read_with opens deeper f) (read_with opens deeper g) (note_with opens deeper inner f) (note_with opens deeper inner g) (counts opens deeper inner h f) (counts opens deeper inner h g) (suc (length ws)) ws
  counts opens deeper inner h (made m f) ws = counts_turned m ws (read_with opens deeper f ws) (note_with opens deeper inner f ws) (counts opens deeper inner h f ws)
  counts opens deeper inner h (ahead q j js k f g) ws = counts_if ws (is_at_two T j js k ws) _ _ _ _ (λ e. counts_turned inl ws (paired (read_any T j js ws) (λ us. turned (λ x. x.1) (paired (read_word T k us) (read_with opens deeper f)))) (note_two q (note_with opens deeper inner f) ws) (counts_two q j js k (read_with opens deeper f) (note_with opens deeper inner f) (counts opens deeper inner h f) ws e)) (λ e. counts_turned inr ws (read_with opens deeper g ws) (note_with opens deeper inner g ws) (counts opens deeper inner h g ws))
  counts opens deeper inner h (deep n) ws = let l = length-map (inner n ws) one_deeper in let c = h n ws in omega arith
