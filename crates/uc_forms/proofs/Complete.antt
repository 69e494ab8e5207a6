-- What is spelled is read, where one word of lookahead is enough.
use Rattle.std.proofs.Common.{◌≡◌, ℕ, zero, suc, ◌+◌, ◌≤◌, ◌<◌, Bool, true, false, List, [], ◌∷◌, ◌++◌, length, Option, Some, None, Ok, refl, ap, subst, ◌∙◌, append_assoc, length-append, arith, inl, inr, ◌⊎◌}
use Rattle.std.specs.Prelude.{◌&&◌, not, ◌==◌, if◌then◌else◌}
use Rattle.std.proofs.lemmas.Bool.{and_parts, and_right, eq-eqb}
use Rattle.uc_forms.specs.Alphabet.{Alphabet}
use Rattle.uc_forms.specs.Form.{Form, any, nothing, both, either, chain, until, made, ahead, deep, member, codes_of}
use Rattle.uc_forms.specs.Spelling.{Language, SpellChain, SpellUntil, SpellWith}
use Rattle.uc_forms.specs.Reading.{Outcome, turned, paired, is_at, is_at_two, read_any, read_word, read_chain, read_until, skips, first, read_with, read}
use Rattle.uc_forms.specs.Plain.{is_single, goes_on, firm, inside, nests, apart, within, is_plain}
use Rattle.uc_forms.proofs.Second.{Second, second, IfAlone, alone}
use Rattle.uc_forms.proofs.Opening.{OpensBy, opening, opens_chain, opens_until, not_at, member_cases, apart_from, is_not, pair_after}

module _ (T : Alphabet) where
  -- what is spelled is read, if the word after it does not go on with it
  abbrev pub Reads : {A : Type 0} → (List T.Word → A → Type 0) → List ℕ → (List T.Word → Outcome T.Word A) → Type 0
  Reads {A} L goes read = (front : List T.Word) (a : A) (rest : List T.Word) → L front a → is_at T goes rest ≡ false → read (front ++ rest) ≡ Ok (a, rest)

  -- the first of two parts stops before the second T
  pub stops_at : (back rest : List T.Word) (goes cs : List ℕ) (q : Bool) → apart goes cs ≡ true → OpensBy T cs q back → (q ≡ true → is_at T goes rest ≡ false) → is_at T goes (back ++ rest) ≡ false
  stops_at [] rest goes cs q e o h = h o
  stops_at (w ∷ back) rest goes cs q e o h = apart_from T (T.kind w) goes cs e o

  pub begins : (front rest : List T.Word) (cs : List ℕ) (p : Bool) → p ≡ false → OpensBy T cs p front → is_at T cs (front ++ rest) ≡ true
  begins [] rest cs p e o = absurd (cc (e, o))
  begins (w ∷ front) rest cs p e o = o

  pub begins_not : (front rest : List T.Word) (cs ds : List ℕ) (q : Bool) → apart cs ds ≡ true → OpensBy T ds q front → (q ≡ true → is_at T cs rest ≡ false) → is_at T cs (front ++ rest) ≡ false
  begins_not front rest cs ds q e o h = stops_at front rest cs ds q e o h

  pub longer : (front : List T.Word) (cs : List ℕ) (p : Bool) → p ≡ false → OpensBy T cs p front → 0 < length front
  longer [] cs p e o = absurd (cc (e, o))
  longer (w ∷ front) cs p e o = grind arith

  if_true : {A : Type 0} (b : Bool) (r s : A) → b ≡ true → (if b then r else s) ≡ r
  if_true b r s e = rw e refl

  if_false : {A : Type 0} (b : Bool) (r s : A) → b ≡ false → (if b then r else s) ≡ s
  if_false b r s e = rw e refl

  read_chain_more : {A B : Type 0} (codes : List ℕ) (item : List T.Word → Outcome T.Word (A ⊎ B)) (n : ℕ) (ws rest end : List T.Word) (a : A) (xs : List A) (o : Option B) → is_at T codes ws ≡ true → item ws ≡ Ok (inl a, rest) → read_chain T codes item n rest ≡ Ok ((xs, o), end)
      → read_chain T codes item (suc n) ws ≡ Ok ((a ∷ xs, o), end)
  unfolding read_chain
  read_chain_more codes item n ws rest end a xs o b e i = rw (b, e, i) refl

  read_chain_last : {A B : Type 0} (codes : List ℕ) (item : List T.Word → Outcome T.Word (A ⊎ B)) (n : ℕ) (ws rest : List T.Word) (b : B) → is_at T codes ws ≡ true → item ws ≡ Ok (inr b, rest)
      → read_chain T codes item (suc n) ws ≡ Ok (([], Some b), rest)
  unfolding read_chain
  read_chain_last codes item n ws rest b t e = rw (t, e) refl

  read_chain_stops : {A B : Type 0} (codes : List ℕ) (item : List T.Word → Outcome T.Word (A ⊎ B)) (n : ℕ) (ws : List T.Word) → is_at T codes ws ≡ false → read_chain T codes item n ws ≡ Ok (([], None), ws)
  unfolding read_chain
  read_chain_stops codes item zero ws e = refl
  read_chain_stops codes item (suc n) ws e = rw e refl

  read_until_more : {A B : Type 0} (codes : List ℕ) (item : List T.Word → Outcome T.Word A) (ender : List T.Word → Outcome T.Word B) (n : ℕ) (ws rest end : List T.Word) (a : A) (xs : List A) (b : B) → is_at T codes ws ≡ false → item ws ≡ Ok (a, rest) → read_until T codes item ender n rest ≡ Ok ((xs, b), end)
      → read_until T codes item ender (suc n) ws ≡ Ok ((a ∷ xs, b), end)
  unfolding read_until
  read_until_more codes item ender n ws rest end a xs b t e i = rw (t, e, i) refl

  read_until_last : {A B : Type 0} (codes : List ℕ) (item : List T.Word → Outcome T.Word A) (ender : List T.Word → Outcome T.Word B) (n : ℕ) (ws rest : List T.Word) (b : B) → is_at T codes ws ≡ true → ender ws ≡ Ok (b, rest) → read_until T codes item ender n ws ≡ Ok (([], b), rest)
  unfolding read_until
  read_until_last codes item ender zero ws rest b t e = rw e refl
  read_until_last codes item ender (suc n) ws rest b t e = rw (t, e) refl

  -- the turns that are enough for what is left
  fewer : (n : ℕ) (ws front back : List T.Word) → ws ≡ front ++ back → 0 < length front → length ws ≤ suc n → length back ≤ n
  fewer n ws front back e p l = let k : length ws ≡ length front + length back = ap length e ∙ length-append front back in omega arith

  pub positive : (n : ℕ) → 0 < n → (m : ℕ) × (n ≡ suc m)
  positive zero h = absurd (omega arith)
  positive (suc m) h = (m, refl)

  complete_chain : {A B : Type 0} (L : List T.Word → A ⊎ B → Type 0) (cs goes : List ℕ) (p : Bool) (item : List T.Word → Outcome T.Word (A ⊎ B)) → ((ws : List T.Word) (x : A ⊎ B) → L ws x → OpensBy T cs p ws) → p ≡ false → apart goes cs ≡ true → Reads L goes item
      → (xs : List A) (o : Option B) (n : ℕ) (front rest : List T.Word) → length front ≤ n → SpellChain L front xs o → is_at T cs rest ≡ false → is_at T goes rest ≡ false → read_chain T cs item n (front ++ rest) ≡ Ok ((xs, o), rest)
  complete_chain L cs goes p item opens e t h [] None n front rest l s stop out = rw s (read_chain_stops cs item n rest stop)
  complete_chain L cs goes p item opens e t h [] (Some b) n front rest l s stop out =
      let o = opens front (inr b) s in
      let m = positive n (let k : 0 < length front = longer front cs p e o in omega arith) in
      rw m.1 (read_chain_last cs item m.0 (front ++ rest) rest b (begins front rest cs p e o) (h front (inr b) rest s out))
  complete_chain L cs goes p item opens e t h (a ∷ xs) o n front rest l s stop out =
      let f = opens s.0 (inl a) s.3 in
      let k : 0 < length s.0 = longer s.0 cs p e f in
      let len : length front ≡ length s.0 + length s.1 = ap length s.2 ∙ length-append s.0 s.1 in
      let m = positive n (omega arith) in
      let is : front ++ rest ≡ s.0 ++ (s.1 ++ rest) = ap (λ (u : List T.Word). u ++ rest) s.2 ∙ append_assoc s.0 s.1 rest in
      let small : length s.1 ≤ m.0 = let z : n ≡ suc m.0 = m.1 in omega arith in
      let goes_stop : is_at T goes (s.1 ++ rest) ≡ false = stops_at s.1 rest goes cs true t (opens_chain T L cs p opens s.1 xs o s.4) (λ x. out) in
      rw (m.1, is) (read_chain_more cs item m.0 (s.0 ++ (s.1 ++ rest)) (s.1 ++ rest) rest a xs o (begins s.0 (s.1 ++ rest) cs p e f) (h s.0 (inl a) (s.1 ++ rest) s.3 goes_stop)
      (complete_chain L cs goes p item opens e t h xs o m.0 s.1 rest small s.4 stop out))

  pub stops_before : (back rest : List T.Word) (goes cs ds : List ℕ) (q : Bool) → q ≡ false → apart goes cs ≡ true → apart goes ds ≡ true → OpensBy T (cs ++ ds) q back → is_at T goes (back ++ rest) ≡ false
  stops_before [] rest goes cs ds q f u v o = absurd (cc (f, o))
  stops_before (w ∷ back) rest goes cs ds q f u v o = elim (member_cases T (T.kind w) cs ds o) [ inl m ↦ apart_from T (T.kind w) goes cs u m | inr m ↦ apart_from T (T.kind w) goes ds v m ]

  read_word_same : (k : T.Kind) (w : T.Word) (rest : List T.Word) → T.kind w ≡ T.code k → read_word T k (w ∷ rest) ≡ Ok (w, rest)
  read_word_same k w rest e = let t : (T.kind w == T.code k) ≡ true = eq-eqb (T.kind w) (T.code k) e in rw t refl

  complete_until : {A B : Type 0} (L : List T.Word → A → Type 0) (M : List T.Word → B → Type 0) (cs ds goes ends : List ℕ) (p q : Bool) (item : List T.Word → Outcome T.Word A) (ender : List T.Word → Outcome T.Word B)
      → ((ws : List T.Word) (x : A) → L ws x → OpensBy T cs p ws) → ((ws : List T.Word) (x : B) → M ws x → OpensBy T ds q ws) → p ≡ false → q ≡ false → apart ds cs ≡ true → apart goes cs ≡ true → apart goes ds ≡ true → Reads L goes item → Reads M ends ender
      → (xs : List A) (b : B) (n : ℕ) (front rest : List T.Word) → length front ≤ n → SpellUntil L M front xs b → is_at T ends rest ≡ false → read_until T ds item ender n (front ++ rest) ≡ Ok ((xs, b), rest)
  complete_until L M cs ds goes ends p q item ender opens closes e f t u v h g [] b n front rest l s out = read_until_last ds item ender n (front ++ rest) rest b (begins front rest ds q f (closes front b s)) (g front b rest s out)
  complete_until L M cs ds goes ends p q item ender opens closes e f t u v h g (a ∷ xs) b n front rest l s out =
      let o = opens s.0 a s.3 in
      let k : 0 < length s.0 = longer s.0 cs p e o in
      let len : length front ≡ length s.0 + length s.1 = ap length s.2 ∙ length-append s.0 s.1 in
      let m = positive n (omega arith) in
      let is : front ++ rest ≡ s.0 ++ (s.1 ++ rest) = ap (λ (u : List T.Word). u ++ rest) s.2 ∙ append_assoc s.0 s.1 rest in
      let small : length s.1 ≤ m.0 = let z : n ≡ suc m.0 = m.1 in omega arith in
      let after = opens_until T L M cs ds p q opens closes s.1 xs b s.4 in
      rw (m.1, is) (read_until_more ds item ender m.0 (s.0 ++ (s.1 ++ rest)) (s.1 ++ rest) rest a xs b (begins_not s.0 (s.1 ++ rest) ds cs p t o (λ x. absurd (cc (x, e))))
      (h s.0 a (s.1 ++ rest) s.3 (stops_before s.1 rest goes cs ds q f u v after))
      (complete_until L M cs ds goes ends p q item ender opens closes e f t u v h g xs b m.0 s.1 rest small s.4 out))

  read_any_same : (j : T.Kind) (js : List T.Kind) (w : T.Word) (rest : List T.Word) → member (T.kind w) (codes_of T j js) ≡ true → read_any T j js (w ∷ rest) ≡ Ok (w, rest)
  read_any_same j js w rest e = rw e refl

  pub two_are : (j : T.Kind) (js : List T.Kind) (k : T.Kind) (v w : T.Word) (ws : List T.Word) → member (T.kind v) (codes_of T j js) ≡ true → T.kind w ≡ T.code k → is_at_two T j js k (v ∷ w ∷ ws) ≡ true
  two_are j js k v w ws e f = let b = eq-eqb (T.kind w) (T.code k) f in rw (e, b) refl

  one_is : (c d : ℕ) → member c (d ∷ []) ≡ true → c ≡ d
  one_is c d e = grind (arith, e)

  pub two_are_not : (j : T.Kind) (js : List T.Kind) (k : T.Kind) (front rest : List T.Word) (cs ns codes : List ℕ) (q : Bool) → q ≡ false → member (T.code k) cs ≡ false → apart ns (codes_of T j js) ≡ true → OpensBy T codes q front → Second T cs ns front → (one : Bool) → IfAlone T one front → (one ≡ true → is_at T (T.code k ∷ []) rest ≡ false) → is_at_two T j js k (front ++ rest) ≡ false
  two_are_not j js k [] rest cs ns codes q e a b o s one l t = absurd (cc (e, o))
  two_are_not j js k (v ∷ []) rest cs ns codes q e a b o s one l t = and_right (member (T.kind v) (codes_of T j js)) (is_at T (T.code k ∷ []) rest) (t l)
  two_are_not j js k (v ∷ w ∷ front) rest cs ns codes q e a b o s one l t = tested (member (T.kind v) (codes_of T j js)) (member (T.kind w) (T.code k ∷ [])) refl refl
    where
      tested : (x y : Bool) → member (T.kind v) (codes_of T j js) ≡ x → member (T.kind w) (T.code k ∷ []) ≡ y → (x && y) ≡ false
      tested false y p r = refl
      tested true false p r = refl
      tested true true p r =
          let i : T.kind w ≡ T.code k = one_is (T.kind w) (T.code k) r in
          absurd (elim s [ inl m ↦ (let z = apart_from T (T.kind v) ns (codes_of T j js) b p in cc (z, m)) | inr m ↦ (let z : member (T.code k) cs ≡ true = subst (λ (c : ℕ). member c cs ≡ true) i m in cc (z, a)) ])

  pub complete : {N : Type 0} {V : N → Type 0} (X : Language T N V) (opens goes : N → List ℕ) (deeper : (n : N) → List T.Word → Outcome T.Word (V n)) → ((n : N) (ws : List T.Word) (v : V n) → X n ws v → OpensBy T (opens n) false ws)
      → ((n : N) → Reads (X n) (goes n) (deeper n)) → {A : Type 0} (f : Form T N V A) → is_plain opens goes f ≡ true → Reads (SpellWith X f) (goes_on opens goes f) (read_with opens deeper f)
  complete X opens goes deeper o h (any q j js) p front a rest s out = rw s.0 (read_any_same j js a rest s.1)
  complete X opens goes deeper o h nothing p front a rest s out = rw s refl
  complete X opens goes deeper o h (both f g) p front a rest s out =
      let x = and_parts (is_plain opens goes f) _ p in
      let y = and_parts (is_plain opens goes g) _ x.1 in
      let n = not_at T rest (goes_on opens goes g) (if skips g then goes_on opens goes f else []) out in
      let is : front ++ rest ≡ s.0 ++ (s.1 ++ rest) = ap (λ (u : List T.Word). u ++ rest) s.2 ∙ append_assoc s.0 s.1 rest in
      let stop : is_at T (goes_on opens goes f) (s.1 ++ rest) ≡ false = stops_at s.1 rest (goes_on opens goes f) (first opens g) (skips g) y.1 (opening T X opens o g s.1 a.1 s.4) (λ e. let t : is_at T (if skips g then goes_on opens goes f else []) rest ≡ false = n.1 in rw e at t) in
      rw is (pair_after T (read_with opens deeper f (s.0 ++ (s.1 ++ rest))) (read_with opens deeper g) a.0 (s.1 ++ rest) (Ok (a.1, rest)) (complete X opens goes deeper o h f x.0 s.0 a.0 (s.1 ++ rest) s.3 stop) (complete X opens goes deeper o h g y.0 s.1 a.1 rest s.4 n.0))
  complete X opens goes deeper o h (either f g) p front (inl a) rest s out =
      let x = and_parts (is_plain opens goes f) _ p in
      let y = and_parts (is_plain opens goes g) _ x.1 in
      let z = and_parts (not (skips f)) _ y.1 in
      let n = not_at T rest (goes_on opens goes f) (goes_on opens goes g ++ (if skips g then first opens f else [])) out in
      if_true (is_at T (first opens f) (front ++ rest)) _ _ (begins front rest (first opens f) (skips f) (is_not T (skips f) z.0) (opening T X opens o f front a s)) ∙ ap (λ r. turned inl r) (complete X opens goes deeper o h f x.0 front a rest s n.0)
  complete X opens goes deeper o h (either f g) p front (inr b) rest s out =
      let x = and_parts (is_plain opens goes f) _ p in
      let y = and_parts (is_plain opens goes g) _ x.1 in
      let z = and_parts (not (skips f)) _ y.1 in
      let n = not_at T rest (goes_on opens goes f) (goes_on opens goes g ++ (if skips g then first opens f else [])) out in
      let m = not_at T rest (goes_on opens goes g) (if skips g then first opens f else []) n.1 in
      if_false (is_at T (first opens f) (front ++ rest)) _ _ (begins_not front rest (first opens f) (first opens g) (skips g) z.1 (opening T X opens o g front b s) (λ e. let t : is_at T (if skips g then first opens f else []) rest ≡ false = m.1 in rw e at t))
      ∙ ap (λ r. turned inr r) (complete X opens goes deeper o h g y.0 front b rest s m.0)
  complete X opens goes deeper o h (chain f) p front a rest s out =
      let x = and_parts (is_plain opens goes f) _ p in
      let y = and_parts (not (skips f)) _ x.1 in
      let n = not_at T rest (first opens f) (goes_on opens goes f) out in
      complete_chain (SpellWith X f) (first opens f) (goes_on opens goes f) (skips f) (read_with opens deeper f) (opening T X opens o f) (is_not T (skips f) y.0) y.1 (complete X opens goes deeper o h f x.0) a.0 a.1 (length (front ++ rest)) front rest (let k = length-append front rest in omega arith) s n.0 n.1
  complete X opens goes deeper o h (until f g) p front a rest s out =
      let x = and_parts (is_plain opens goes f) _ p in
      let y = and_parts (is_plain opens goes g) _ x.1 in
      let z = and_parts (not (skips f)) _ y.1 in
      let w = and_parts (not (skips g)) _ z.1 in
      let t = and_parts (apart (first opens g) (first opens f)) _ w.1 in
      let u = and_parts (apart (goes_on opens goes f) (first opens f)) _ t.1 in
      complete_until (SpellWith X f) (SpellWith X g) (first opens f) (first opens g) (goes_on opens goes f) (goes_on opens goes g) (skips f) (skips g) (read_with opens deeper f) (read_with opens deeper g) (opening T X opens o f) (opening T X opens o g)
      (is_not T (skips f) z.0) (is_not T (skips g) w.0) t.0 u.0 u.1 (complete X opens goes deeper o h f x.0) (complete X opens goes deeper o h g y.0) a.0 a.1 (suc (length (front ++ rest))) front rest (let k = length-append front rest in omega arith) s out
  complete X opens goes deeper o h (made m f) p front b rest s out = rw s.1 (ap (λ r. turned m r) (complete X opens goes deeper o h f p front s.0 rest s.2 out))
  complete X opens goes deeper o h (ahead q j js k f g) p front (inl a) rest s out =
      let x = and_parts (is_plain opens goes f) _ p in
      let n = not_at T rest (goes_on opens goes f) (goes_on opens goes g) (not_at T rest (if is_single g then T.code k ∷ [] else []) (goes_on opens goes f ++ goes_on opens goes g) out).1 in
      let us : List T.Word = s.1 ++ rest in
      let is : front ++ rest ≡ a.0 ∷ s.0 ∷ us = ap (λ (u : List T.Word). u ++ rest) s.2 in
      let third : read_with opens deeper f us ≡ Ok (a.1, rest) = complete X opens goes deeper o h f x.0 s.1 a.1 rest s.5 n.0 in
      rw is (if_true (is_at_two T j js k (a.0 ∷ s.0 ∷ us)) _ _ (two_are j js k a.0 s.0 us s.3 s.4)
      ∙ ap (λ r. turned inl r) (pair_after T (read_any T j js (a.0 ∷ s.0 ∷ us)) (λ zs. turned (λ x. x.1) (paired (read_word T k zs) (read_with opens deeper f))) a.0 (s.0 ∷ us) (Ok (a.1, rest)) (read_any_same j js a.0 (s.0 ∷ us) s.3)
      (ap (λ r. turned (λ x. x.1) r) (pair_after T (read_word T k (s.0 ∷ us)) (read_with opens deeper f) s.0 us (Ok (a.1, rest)) (read_word_same k s.0 us s.4) third))))
  complete X opens goes deeper o h (ahead q j js k f g) p front (inr b) rest s out =
      let x = and_parts (is_plain opens goes f) _ p in
      let y = and_parts (is_plain opens goes g) _ x.1 in
      let z = and_parts (not (skips g)) _ y.1 in
      let w = and_parts (within (codes_of T j js) (firm g)) _ z.1 in
      let v = and_parts (not (member (T.code k) (inside opens g))) _ w.1 in
      let n = not_at T rest (if is_single g then T.code k ∷ [] else []) (goes_on opens goes f ++ goes_on opens goes g) out in
      let m = not_at T rest (goes_on opens goes f) (goes_on opens goes g) n.1 in
      if_false (is_at_two T j js k (front ++ rest)) _ _ (two_are_not j js k front rest (inside opens g) (nests opens g) (first opens g) (skips g) (is_not T (skips g) z.0) (is_not T (member (T.code k) (inside opens g)) v.0) (and_parts (apart (nests opens g) (codes_of T j js)) _ v.1).0 (opening T X opens o g front b s) (second T X opens o g front b s) (is_single g) (alone T X opens o g front b s) (λ e. let t : is_at T (if is_single g then T.code k ∷ [] else []) rest ≡ false = n.0 in rw e at t))
      ∙ ap (λ r. turned inr r) (complete X opens goes deeper o h g y.0 front b rest s m.1)
  complete X opens goes deeper o h (deep n) p front v rest s out = h n front v rest s out
