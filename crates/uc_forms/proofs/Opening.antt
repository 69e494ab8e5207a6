-- What a form's words begin with, and what reading does where the next word does not begin it.
use Rattle.std.proofs.Common.{◌≡◌, ℕ, zero, suc, Bool, true, false, List, [], ◌∷◌, ◌++◌, length, Option, Some, None, Ok, Err, refl, sym, ap, subst, inl, inr, ◌⊎◌}
use Rattle.std.specs.Prelude.{◌||◌, ◌&&◌, not, ◌==◌, if◌then◌else◌}
use Rattle.std.proofs.lemmas.Bool.{and_parts, or_parts, or_left, or_right, or_cases, eqb-true}
use Rattle.uc_forms.specs.declared.fault.Fault.TheVariants.{Syntax}
use Rattle.uc_forms.specs.Alphabet.{Alphabet}
use Rattle.uc_forms.specs.Form.{Form, any, nothing, both, either, chain, until, made, ahead, deep, member, codes_of}
use Rattle.uc_forms.specs.Spelling.{Language, SpellChain, SpellUntil, SpellWith}
use Rattle.uc_forms.specs.Reading.{Outcome, turned, paired, is_at, is_at_two, read_chain, read_until, skips, first, read_with}
use Rattle.uc_forms.specs.Plain.{apart, is_plain}

module _ (T : Alphabet) where
  -- ---- lists of kinds

  pub member_left : (c : ℕ) (xs ys : List ℕ) → member c xs ≡ true → member c (xs ++ ys) ≡ true
  member_left c [] ys h = absurd cc
  member_left c (x ∷ xs) ys h = elim (or_cases (c == x) (member c xs) h) [
    | inl e ↦ or_left (c == x) (member c (xs ++ ys)) e
    | inr e ↦ or_right (c == x) (member c (xs ++ ys)) (member_left c xs ys e)
  ]

  pub member_right : (c : ℕ) (xs ys : List ℕ) → member c ys ≡ true → member c (xs ++ ys) ≡ true
  member_right c [] ys h = h
  member_right c (x ∷ xs) ys h = or_right (c == x) (member c (xs ++ ys)) (member_right c xs ys h)

  pub member_cases : (c : ℕ) (xs ys : List ℕ) → member c (xs ++ ys) ≡ true → (member c xs ≡ true) ⊎ (member c ys ≡ true)
  member_cases c [] ys h = inr h
  member_cases c (x ∷ xs) ys h = elim (or_cases (c == x) (member c (xs ++ ys)) h) [
    | inl e ↦ inl (or_left (c == x) (member c xs) e)
    | inr e ↦ elim (member_cases c xs ys e) [ inl m ↦ inl (or_right (c == x) (member c xs) m) | inr m ↦ inr m ]
  ]

  pub not_member : (c : ℕ) (xs ys : List ℕ) → member c (xs ++ ys) ≡ false → (member c xs ≡ false) × (member c ys ≡ false)
  not_member c [] ys h = (refl, h)
  not_member c (x ∷ xs) ys h =
      let p = or_parts (c == x) (member c (xs ++ ys)) h in
      let q = not_member c xs ys p.1 in
      (rw (p.0, q.0) refl, q.1)

  pub not_at : (ws : List T.Word) (xs ys : List ℕ) → is_at T (xs ++ ys) ws ≡ false → (is_at T xs ws ≡ false) × (is_at T ys ws ≡ false)
  not_at [] xs ys h = (refl, refl)
  not_at (w ∷ ws) xs ys h = not_member (T.kind w) xs ys h

  not_true : (b : Bool) → not b ≡ true → b ≡ false
  not_true true h = absurd cc
  not_true false h = refl

  pub is_not : (b : Bool) → not b ≡ true → b ≡ false
  is_not b h = not_true b h

  same_member : (c x : ℕ) (ds : List ℕ) → c == x ≡ true → member x ds ≡ false → member c ds ≡ false
  same_member c x ds e h = let i : c ≡ x = eqb-true c x e in rw i h

  pub apart_from : (c : ℕ) (cs ds : List ℕ) → apart cs ds ≡ true → member c ds ≡ true → member c cs ≡ false
  apart_from c [] ds h m = refl
  apart_from c (x ∷ xs) ds h m = tested (and_parts (not (member x ds)) (apart xs ds) h).0 (apart_from c xs ds (and_parts (not (member x ds)) (apart xs ds) h).1 m) (c == x) refl
    where
      tested : not (member x ds) ≡ true → member c xs ≡ false → (b : Bool) → c == x ≡ b → (b || member c xs) ≡ false
      tested p ih true e = absurd (let f : member c ds ≡ false = same_member c x ds e (not_true (member x ds) p) in cc (f, m))
      tested p ih false e = ih

  -- ---- the first word

  -- words that begin with one of these kinds, or none where that may be
  abbrev pub OpensBy : List ℕ → Bool → List T.Word → Type 0
  OpensBy codes skip [] = skip ≡ true
  OpensBy codes skip (w ∷ ws) = member (T.kind w) codes ≡ true

  pub opens_wider : (cs ds : List ℕ) (p q : Bool) (ws : List T.Word) → ((c : ℕ) → member c cs ≡ true → member c ds ≡ true) → (p ≡ true → q ≡ true) → OpensBy cs p ws → OpensBy ds q ws
  opens_wider cs ds p q [] wider skip h = skip h
  opens_wider cs ds p q (w ∷ ws) wider skip h = wider (T.kind w) h

  opens_both : (front back : List T.Word) (cs ds : List ℕ) (p q : Bool) → OpensBy cs p front → OpensBy ds q back → OpensBy (cs ++ (if p then ds else [])) (p && q) (front ++ back)
  opens_both [] [] cs ds p q h k = rw (h, k) refl
  opens_both [] (w ∷ back) cs ds p q h k = rw h (member_right (T.kind w) cs ds k)
  opens_both (w ∷ front) back cs ds p q h k = member_left (T.kind w) cs (if p then ds else []) h

  opens_more : (front back : List T.Word) (cs ds : List ℕ) (p q : Bool) → ((c : ℕ) → member c cs ≡ true → member c ds ≡ true) → OpensBy cs p front → OpensBy ds q back → OpensBy ds q (front ++ back)
  opens_more [] back cs ds p q wider h k = k
  opens_more (w ∷ front) back cs ds p q wider h k = wider (T.kind w) h

  pub opens_chain : {A B : Type 0} (L : List T.Word → A ⊎ B → Type 0) (cs : List ℕ) (p : Bool) → ((ws : List T.Word) (x : A ⊎ B) → L ws x → OpensBy cs p ws) → (ws : List T.Word) (xs : List A) (o : Option B) → SpellChain L ws xs o → OpensBy cs true ws
  opens_chain L cs p h ws [] None s = rw s refl
  opens_chain L cs p h ws [] (Some b) s = opens_wider cs cs p true ws (λ c m. m) (λ e. refl) (h ws (inr b) s)
  opens_chain L cs p h ws (a ∷ xs) o s = subst (λ (us : List T.Word). OpensBy cs true us) (sym s.2) (opens_more s.0 s.1 cs cs p true (λ c m. m) (h s.0 (inl a) s.3) (opens_chain L cs p h s.1 xs o s.4))

  pub opens_until : {A B : Type 0} (L : List T.Word → A → Type 0) (M : List T.Word → B → Type 0) (cs ds : List ℕ) (p q : Bool) → ((ws : List T.Word) (x : A) → L ws x → OpensBy cs p ws) → ((ws : List T.Word) (x : B) → M ws x → OpensBy ds q ws)
      → (ws : List T.Word) (xs : List A) (b : B) → SpellUntil L M ws xs b → OpensBy (cs ++ ds) q ws
  opens_until L M cs ds p q h k ws [] b s = opens_wider ds (cs ++ ds) q q ws (λ c m. member_right c cs ds m) (λ e. e) (k ws b s)
  opens_until L M cs ds p q h k ws (a ∷ xs) b s = subst (λ (us : List T.Word). OpensBy (cs ++ ds) q us) (sym s.2) (opens_more s.0 s.1 cs (cs ++ ds) p q (λ c m. member_left c cs ds m) (h s.0 a s.3) (opens_until L M cs ds p q h k s.1 xs b s.4))

  pub opening : {N : Type 0} {V : N → Type 0} (X : Language T N V) (opens : N → List ℕ) → ((n : N) (ws : List T.Word) (v : V n) → X n ws v → OpensBy (opens n) false ws)
      → {A : Type 0} (f : Form T N V A) (ws : List T.Word) (a : A) → SpellWith X f ws a → OpensBy (first opens f) (skips f) ws
  opening X opens h (any q j js) ws a s = subst (λ (us : List T.Word). OpensBy (codes_of T j js) false us) (sym s.0) s.1
  opening X opens h nothing ws a s = rw s refl
  opening X opens h (both f g) ws a s = subst (λ (us : List T.Word). OpensBy (first opens (both f g)) (skips (both f g)) us) (sym s.2) (opens_both s.0 s.1 (first opens f) (first opens g) (skips f) (skips g) (opening X opens h f s.0 a.0 s.3) (opening X opens h g s.1 a.1 s.4))
  opening X opens h (either f g) ws (inl a) s = opens_wider (first opens f) (first opens f ++ first opens g) (skips f) (skips f || skips g) ws (λ c m. member_left c (first opens f) (first opens g) m) (λ e. or_left (skips f) (skips g) e) (opening X opens h f ws a s)
  opening X opens h (either f g) ws (inr b) s = opens_wider (first opens g) (first opens f ++ first opens g) (skips g) (skips f || skips g) ws (λ c m. member_right c (first opens f) (first opens g) m) (λ e. or_right (skips f) (skips g) e) (opening X opens h g ws b s)
  opening X opens h (chain f) ws a s = opens_chain (SpellWith X f) (first opens f) (skips f) (opening X opens h f) ws a.0 a.1 s
  opening X opens h (until f g) ws a s = opens_until (SpellWith X f) (SpellWith X g) (first opens f) (first opens g) (skips f) (skips g) (opening X opens h f) (opening X opens h g) ws a.0 a.1 s
  opening X opens h (made m f) ws b s = opening X opens h f ws s.0 s.2
  opening X opens h (ahead q j js k f g) ws (inl a) s = subst (λ (us : List T.Word). OpensBy (codes_of T j js ++ first opens g) (skips g) us) (sym s.2) (member_left (T.kind a.0) (codes_of T j js) (first opens g) s.3)
  opening X opens h (ahead q j js k f g) ws (inr b) s = opens_wider (first opens g) (codes_of T j js ++ first opens g) (skips g) (skips g) ws (λ c m. member_right c (codes_of T j js) (first opens g) m) (λ e. e) (opening X opens h g ws b s)
  opening X opens h (deep n) ws v s = h n ws v s

  -- ---- where the next word does not begin it

  abbrev pub Idle : {A : Type 0} → Bool → List T.Word → Outcome T.Word A → Type 0
  Idle {A} true ws r = (a : A) × (r ≡ Ok (a, ws))
  Idle false ws r = r ≡ Err (Syntax, ws)

  idle_if : {A : Type 0} (skip b : Bool) (ws : List T.Word) (r s : Outcome T.Word A) → b ≡ false → Idle skip ws s → Idle skip ws (if b then r else s)
  idle_if skip true ws r s e h = absurd cc
  idle_if skip false ws r s e h = h

  idle_turned : {A B : Type 0} (h : A → B) (skip : Bool) (ws : List T.Word) (r : Outcome T.Word A) → Idle skip ws r → Idle skip ws (turned h r)
  idle_turned h true ws r i = (h i.0, ap (λ s. turned h s) i.1)
  idle_turned h false ws r i = ap (λ s. turned h s) i

  -- the second part, where the first is known
  pub pair_after : {A B : Type 0} (r : Outcome T.Word A) (g : List T.Word → Outcome T.Word B) (a : A) (rest : List T.Word) (s : Outcome T.Word B) → r ≡ Ok (a, rest) → g rest ≡ s → paired r g ≡ turned (λ b. (a, b)) s
  pair_after r g a rest s e i = rw (e, i) refl

  idle_both : {A B : Type 0} (p q : Bool) (ws : List T.Word) (r : Outcome T.Word A) (g : List T.Word → Outcome T.Word B) → Idle p ws r → (p ≡ true → Idle q ws (g ws)) → Idle {A = A × B} (p && q) ws (paired r g)
  idle_both true true ws r g i k = ((i.0, (k refl).0), pair_after r g i.0 ws (Ok ((k refl).0, ws)) i.1 (k refl).1)
  idle_both true false ws r g i k = pair_after r g i.0 ws (Err (Syntax, ws)) i.1 (k refl)
  idle_both false q ws r g i k = rw i refl

  idle_or : {A : Type 0} (p q : Bool) (ws : List T.Word) (r : Outcome T.Word A) → p ≡ false → Idle q ws r → Idle (p || q) ws r
  idle_or true q ws r e i = absurd cc
  idle_or false q ws r e i = i

  idle_chain : {A B : Type 0} (codes : List ℕ) (item : List T.Word → Outcome T.Word (A ⊎ B)) (n : ℕ) (ws : List T.Word) → is_at T codes ws ≡ false → Idle true ws (read_chain T codes item n ws)
  unfolding read_chain
  idle_chain codes item zero ws e = (([], None), refl)
  idle_chain codes item (suc n) ws e = (([], None), rw e refl)

  idle_until : {A B : Type 0} (codes : List ℕ) (item : List T.Word → Outcome T.Word A) (ender : List T.Word → Outcome T.Word B) (n : ℕ) (ws : List T.Word) → is_at T codes ws ≡ false → item ws ≡ Err (Syntax, ws) → ender ws ≡ Err (Syntax, ws) → read_until T codes item ender n ws ≡ Err (Syntax, ws)
  unfolding read_until
  idle_until codes item ender zero ws e i k = rw k refl
  idle_until codes item ender (suc n) ws e i k = rw (e, i) refl

  pub not_two : (j : T.Kind) (js : List T.Kind) (k : T.Kind) (ws : List T.Word) → is_at T (codes_of T j js) ws ≡ false → is_at_two T j js k ws ≡ false
  not_two j js k [] e = refl
  not_two j js k (w ∷ ws) e = rw e refl

  idle_is : {A : Type 0} (p q : Bool) (ws : List T.Word) (r : Outcome T.Word A) → p ≡ q → Idle p ws r → Idle q ws r
  idle_is p q ws r e i = subst (λ (b : Bool). Idle b ws r) e i

  pub idle : {N : Type 0} {V : N → Type 0} (opens goes : N → List ℕ) (deeper : (n : N) → List T.Word → Outcome T.Word (V n)) → ((n : N) (ws : List T.Word) → is_at T (opens n) ws ≡ false → deeper n ws ≡ Err (Syntax, ws))
      → {A : Type 0} (f : Form T N V A) → is_plain opens goes f ≡ true → (ws : List T.Word) → is_at T (first opens f) ws ≡ false → Idle (skips f) ws (read_with opens deeper f ws)
  idle opens goes deeper h (any q j js) p ws e = rw e refl
  idle opens goes deeper h nothing p ws e = (tt, refl)
  idle opens goes deeper h (both f g) p ws e =
      let a = and_parts (is_plain opens goes f) _ p in
      let b = and_parts (is_plain opens goes g) _ a.1 in
      let n = not_at ws (first opens f) (if skips f then first opens g else []) e in
      idle_both (skips f) (skips g) ws (read_with opens deeper f ws) (read_with opens deeper g) (idle opens goes deeper h f a.0 ws n.0)
      (λ s. idle opens goes deeper h g b.0 ws (let t : is_at T (if skips f then first opens g else []) ws ≡ false = n.1 in rw s at t))
  idle opens goes deeper h (either f g) p ws e =
      let a = and_parts (is_plain opens goes f) _ p in
      let b = and_parts (is_plain opens goes g) _ a.1 in
      let c = and_parts (not (skips f)) _ b.1 in
      let n = not_at ws (first opens f) (first opens g) e in
      idle_if (skips f || skips g) (is_at T (first opens f) ws) ws _ _ n.0 (idle_or (skips f) (skips g) ws _ (is_not (skips f) c.0) (idle_turned inr (skips g) ws _ (idle opens goes deeper h g b.0 ws n.1)))
  idle opens goes deeper h (chain f) p ws e = idle_chain (first opens f) (read_with opens deeper f) (length ws) ws e
  idle opens goes deeper h (until f g) p ws e =
      let a = and_parts (is_plain opens goes f) _ p in
      let b = and_parts (is_plain opens goes g) _ a.1 in
      let c = and_parts (not (skips f)) _ b.1 in
      let d = and_parts (not (skips g)) _ c.1 in
      let n = not_at ws (first opens f) (first opens g) e in
      let no_f = is_not (skips f) c.0 in
      let no_g = is_not (skips g) d.0 in
      idle_is false (skips g) ws _ (sym no_g) (idle_until (first opens g) (read_with opens deeper f) (read_with opens deeper g) (suc (length ws)) ws n.1
      (idle_is (skips f) false ws _ no_f (idle opens goes deeper h f a.0 ws n.0)) (idle_is (skips g) false ws _ no_g (idle opens goes deeper h g b.0 ws n.1)))
  idle opens goes deeper h (made m f) p ws e = idle_turned m (skips f) ws _ (idle opens goes deeper h f p ws e)
  idle opens goes deeper h (ahead q j js k f g) p ws e =
      let a = and_parts (is_plain opens goes f) _ p in
      let b = and_parts (is_plain opens goes g) _ a.1 in
      let n = not_at ws (codes_of T j js) (first opens g) e in
      idle_if (skips g) (is_at_two T j js k ws) ws _ _ (not_two j js k ws n.0) (idle_turned inr (skips g) ws _ (idle opens goes deeper h g b.0 ws n.1))
  idle opens goes deeper h (deep n) p ws e = h n ws e
