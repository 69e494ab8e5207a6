-- Forms that are put together in another way: what the one spells, the other spells, with every word standing the same.
use Rattle.std.proofs.Common.{◌≡◌, List, [], ◌∷◌, ◌++◌, Option, Some, None, refl, sym, ap, subst, ◌∙◌, append_assoc, ◌⊎◌, inl, inr}
use Rattle.std.proofs.lemmas.List.{append-nil}
use Rattle.uc_forms.specs.Alphabet.{Alphabet}
use Rattle.uc_forms.specs.Form.{Form, nothing, both, either, chain, until, made, word, after, many, goes_on_with, ◌<|>◌}
use Rattle.uc_forms.specs.Spelling.{Language, SpellChain, SpellWith, Standing, stands_chain, stands_with}

-- once or not
abbrev pub optional : {T : Alphabet} {N : Type 0} {V : N → Type 0} {A : Type 0} → Form T N V A → Form T N V (Option A)
optional f = made (elim [ inl a ↦ Some a | inr u ↦ None ]) (either f nothing)

-- two lists put together of equal parts
pub joined : {X : Type 0} (a b c d : List X) → a ≡ b → c ≡ d → a ++ c ≡ b ++ d
joined a b c d p q = cc

module _ {T : Alphabet} {N : Type 0} {V : N → Type 0} (L : Language T N V) (inner : Standing T N V L) where
  -- what f spells, g spells as k of the value, and the words stand the same
  abbrev pub Maps : {A B : Type 0} → (A → B) → Form T N V A → Form T N V B → Type 0
  Maps {A} k f g = (ws : List T.Word) (a : A) (s : SpellWith L f ws a) → (t : SpellWith L g ws (k a)) × (stands_with L inner f ws a s ≡ stands_with L inner g ws (k a) t)

  abbrev pub Into : {A : Type 0} → Form T N V A → Form T N V A → Type 0
  Into {A} f g = (ws : List T.Word) (a : A) (s : SpellWith L f ws a) → (t : SpellWith L g ws a) × (stands_with L inner f ws a s ≡ stands_with L inner g ws a t)

  pub itself : {A : Type 0} (f : Form T N V A) → Into f f
  itself f ws a s = (s, refl)

  -- the same words spell an equal value
  pub moved : {A : Type 0} (f : Form T N V A) (ws : List T.Word) (a b : A) → a ≡ b → (s : SpellWith L f ws a) → (t : SpellWith L f ws b) × (stands_with L inner f ws a s ≡ stands_with L inner f ws b t)
  moved f ws a b e s = subst (λ c. (t : SpellWith L f ws c) × (stands_with L inner f ws a s ≡ stands_with L inner f ws c t)) e (s, refl)

  pub moved_words : {A : Type 0} (f : Form T N V A) (ws us : List T.Word) (a : A) → ws ≡ us → (s : SpellWith L f ws a) → (t : SpellWith L f us a) × (stands_with L inner f ws a s ≡ stands_with L inner f us a t)
  moved_words f ws us a e s = subst (λ vs. (t : SpellWith L f vs a) × (stands_with L inner f ws a s ≡ stands_with L inner f vs a t)) e (s, refl)

  -- ---- one form after another

  pub both_map : {A B C D : Type 0} (k : A → C) (l : B → D) (f : Form T N V A) (f' : Form T N V C) (g : Form T N V B) (g' : Form T N V D) → Maps k f f' → Maps l g g' → Maps (λ x. (k x.0, l x.1)) (both f g) (both f' g')
  both_map k l f f' g g' m n ws x (front, back, i, s, t) =
      let u = m front x.0 s in
      let v = n back x.1 t in
      ((front, back, i, u.0, v.0), cc (u.1, v.1))

  pub behind : {A B D : Type 0} (l : B → D) (f : Form T N V A) (g : Form T N V B) (g' : Form T N V D) → Maps l g g' → Maps (λ (x : A × B). (x.0, l x.1)) (both f g) (both f g')
  behind l f g g' n ws x (front, back, i, s, t) =
      let v = n back x.1 t in
      ((front, back, i, s, v.0), ap (λ xs. stands_with L inner f front x.0 s ++ xs) v.1)

  pub made_map : {A B C : Type 0} (k : A → B) (h : A → C) (h' : B → C) (f : Form T N V A) (g : Form T N V B) → ((a : A) → h a ≡ h' (k a)) → Maps k f g → Into (made h f) (made h' g)
  made_map k h h' f g q m ws b (a, e, s) = let t = m ws a s in ((k a, e ∙ q a, t.0), t.1)

  -- ---- alternatives

  -- the alternatives behind the first
  pub otherwise : {A : Type 0} (f g h : Form T N V A) → Into g h → Into (f <|> g) (f <|> h)
  otherwise f g h m ws a (inl x, e, s) = ((inl x, e, s), refl)
  otherwise f g h m ws a (inr x, e, s) = let t = m ws x s in ((inr x, e, t.0), t.1)

  -- the first alternative
  pub at_first : {A : Type 0} (f g h : Form T N V A) → Into f h → Into (f <|> g) (h <|> g)
  at_first f g h m ws a (inl x, e, s) = let t = m ws x s in ((inl x, e, t.0), t.1)
  at_first f g h m ws a (inr x, e, s) = ((inr x, e, s), refl)

  pub each_way : {A : Type 0} (f g h : Form T N V A) → Into f h → Into g h → Into (f <|> g) h
  each_way f g h m n ws a (inl x, e, s) =
      let t = m ws x s in
      let u = moved h ws x a (sym e) t.0 in
      (u.0, t.1 ∙ u.1)
  each_way f g h m n ws a (inr x, e, s) =
      let t = n ws x s in
      let u = moved h ws x a (sym e) t.0 in
      (u.0, t.1 ∙ u.1)

  pub first_way : {A : Type 0} (f g : Form T N V A) → Into f (f <|> g)
  first_way f g ws a s = ((inl a, refl, s), refl)

  pub other_way : {A : Type 0} (f g : Form T N V A) → Into g (f <|> g)
  other_way f g ws a s = ((inr a, refl, s), refl)

  -- ---- any number of them

  pub until_of_many : {A B : Type 0} (f : Form T N V A) (g : Form T N V B) → Into (both (many f) g) (until f g)
  until_of_many {A} {B} f g ws x (front, back, i, (z, e, c), s) =
      let t = go front z.0 z.1 c back x.1 s in
      let u = moved (until f g) (front ++ back) (z.0, x.1) x (ap (λ xs. (xs, x.1)) (sym e)) t.0 in
      let v = moved_words (until f g) (front ++ back) ws x (sym i) u.0 in
      (v.0, t.1 ∙ (u.1 ∙ v.1))
    where
      go : (front : List T.Word) (xs : List A) (o : Option ⊥) (c : SpellChain (SpellWith L (made goes_on_with f)) front xs o) (back : List T.Word) (b : B) (s : SpellWith L g back b)
          → (t : SpellWith L (until f g) (front ++ back) (xs, b)) × (stands_chain (SpellWith L (made goes_on_with f)) (stands_with L inner (made goes_on_with f)) front xs o c ++ stands_with L inner g back b s ≡ stands_with L inner (until f g) (front ++ back) (xs, b) t)
      go front [] None c back b s = moved_words g back (front ++ back) b (ap (λ us. us ++ back) (sym c)) s
      go front [] (Some z) c back b s = absurd z
      go front (a ∷ xs) o (f1, b1, i1, (a', e, sf), c) back b s =
          let t = moved f f1 a' a (ap (elim [ inl y ↦ y | inr z ↦ absurd z ]) (sym e)) sf in
          let r = go b1 xs o c back b s in (
            (f1, b1 ++ back, ap (λ us. us ++ back) i1 ∙ append_assoc f1 b1 back, t.0, r.0),
            append_assoc (stands_with {T = T} L inner f f1 a' sf) (stands_chain (SpellWith L (made goes_on_with f)) (stands_with L inner (made goes_on_with f)) b1 xs o c) (stands_with {T = T} L inner g back b s)
                ∙ joined _ _ _ _ t.1 r.1,
          )

  -- one turn more
  pub many_more : {A : Type 0} (f : Form T N V A) (ws front back : List T.Word) (a : A) (xs : List A) → ws ≡ front ++ back → (s : SpellWith L f front a) → (r : SpellWith L (many f) back xs)
      → (t : SpellWith L (many f) ws (a ∷ xs)) × (stands_with L inner f front a s ++ stands_with L inner (many f) back xs r ≡ stands_with L inner (many f) ws (a ∷ xs) t)
  many_more f ws front back a xs i s (z, e, c) = (((a ∷ z.0, z.1), ap (λ ys. a ∷ ys) e, (front, back, i, (a, refl, s), c)), refl)

  pub many_of_until : {A B : Type 0} (f : Form T N V A) (g : Form T N V B) → Into (until f g) (both (many f) g)
  many_of_until {A} {B} f g ws x s = go ws x.0 x.1 s
    where
      go : (ws : List T.Word) (xs : List A) (b : B) (s : SpellWith L (until f g) ws (xs, b)) → (t : SpellWith L (both (many f) g) ws (xs, b)) × (stands_with L inner (until f g) ws (xs, b) s ≡ stands_with L inner (both (many f) g) ws (xs, b) t)
      go ws [] b s = (([], ws, refl, (([], None), refl, refl), s), refl)
      go ws (a ∷ xs) b (front, back, i, sf, c) =
          let r = go back xs b c in
          let (f1, b1, i1, sm, sg) = r.0 in
          let t = many_more f (front ++ f1) front f1 a xs refl sf sm in (
            (front ++ f1, b1, i ∙ (ap (λ us. front ++ us) i1 ∙ sym (append_assoc front f1 b1)), t.0, sg),
            ap (λ ys. stands_with {T = T} L inner f front a sf ++ ys) r.1
                ∙ (sym (append_assoc (stands_with {T = T} L inner f front a sf) (stands_with {T = T} L inner (many f) f1 xs sm) (stands_with {T = T} L inner g b1 b sg)) ∙ ap (λ ys. ys ++ stands_with {T = T} L inner g b1 b sg) t.1),
          )

  -- ---- a chain whose turns begin alike

  turn_of : {A B : Type 0} (k : T.Kind) (f : Form T N V A) (g : Form T N V B) (ws : List T.Word) (a : A) (s : SpellWith L (after k f) ws a) → (t : SpellWith L (after k (either f g)) ws (inl a)) × (stands_with L inner (after k f) ws a s ≡ stands_with L inner (after k (either f g)) ws (inl a) t)
  turn_of k f g ws a ((w, b), e, s) = (((w, inl b), ap inl e, s), refl)

  last_of : {A B : Type 0} (k : T.Kind) (f : Form T N V A) (g : Form T N V B) (ws : List T.Word) (b : B) (s : SpellWith L (after k g) ws b) → (t : SpellWith L (after k (either f g)) ws (inr b)) × (stands_with L inner (after k g) ws b s ≡ stands_with L inner (after k (either f g)) ws (inr b) t)
  last_of k f g ws b ((w, c), e, s) = (((w, inr c), ap inr e, s), refl)

  of_turn : {A B : Type 0} (k : T.Kind) (f : Form T N V A) (g : Form T N V B) (ws : List T.Word) (a : A) (s : SpellWith L (after k (either f g)) ws (inl a)) → (t : SpellWith L (after k f) ws a) × (stands_with L inner (after k (either f g)) ws (inl a) s ≡ stands_with L inner (after k f) ws a t)
  of_turn k f g ws a ((w, y), e, (front, back, i, sw, s)) =
      let t = moved (either f g) back y (inl a) (sym e) s in
      (((w, a), refl, (front, back, i, sw, t.0)), ap (λ xs. stands_with {T = T} L inner (word k) front w sw ++ xs) t.1)

  of_last : {A B : Type 0} (k : T.Kind) (f : Form T N V A) (g : Form T N V B) (ws : List T.Word) (b : B) (s : SpellWith L (after k (either f g)) ws (inr b)) → (t : SpellWith L (after k g) ws b) × (stands_with L inner (after k (either f g)) ws (inr b) s ≡ stands_with L inner (after k g) ws b t)
  of_last k f g ws b ((w, y), e, (front, back, i, sw, s)) =
      let t = moved (either f g) back y (inr b) (sym e) s in
      (((w, b), refl, (front, back, i, sw, t.0)), ap (λ xs. stands_with {T = T} L inner (word k) front w sw ++ xs) t.1)

  pub chain_of_many : {A B : Type 0} (k : T.Kind) (f : Form T N V A) (g : Form T N V B) → Into (both (many (after k f)) (optional (after k g))) (chain (after k (either f g)))
  chain_of_many {A} {B} k f g ws x (front, back, i, (z, e, c), s) =
      let t = go front z.0 z.1 c back x.1 s in
      let u = moved (chain (after k (either f g))) (front ++ back) (z.0, x.1) x (ap (λ xs. (xs, x.1)) (sym e)) t.0 in
      let v = moved_words (chain (after k (either f g))) (front ++ back) ws x (sym i) u.0 in
      (v.0, t.1 ∙ (u.1 ∙ v.1))
    where
      ends : (ws : List T.Word) (o : Option B) (s : SpellWith L (optional (after k g)) ws o)
          → (t : SpellWith L (chain (after k (either f g))) ws ([], o)) × (stands_with L inner (optional (after k g)) ws o s ≡ stands_with L inner (chain (after k (either f g))) ws ([], o) t)
      ends ws o (inl b, e, s) =
          let t = last_of k f g ws b s in
          let u = moved (chain (after k (either f g))) ws ([], Some b) ([], o) (ap (λ y. ([], y)) (sym e)) t.0 in
          (u.0, t.1 ∙ u.1)
      ends ws o (inr u, e, s) = moved (chain (after k (either f g))) ws ([], None) ([], o) (ap (λ y. ([], y)) (sym e)) s

      go : (front : List T.Word) (xs : List A) (o : Option ⊥) (c : SpellChain (SpellWith L (made goes_on_with (after k f))) front xs o) (back : List T.Word) (b : Option B) (s : SpellWith L (optional (after k g)) back b)
          → (t : SpellWith L (chain (after k (either f g))) (front ++ back) (xs, b)) × (stands_chain (SpellWith L (made goes_on_with (after k f))) (stands_with L inner (made goes_on_with (after k f))) front xs o c ++ stands_with L inner (optional (after k g)) back b s ≡ stands_with L inner (chain (after k (either f g))) (front ++ back) (xs, b) t)
      go front [] None c back b s =
          let t = ends back b s in
          let u = moved_words (chain (after k (either f g))) back (front ++ back) ([], b) (ap (λ us. us ++ back) (sym c)) t.0 in
          (u.0, t.1 ∙ u.1)
      go front [] (Some z) c back b s = absurd z
      go front (a ∷ xs) o (f1, b1, i1, (a', e, sf), c) back b s =
          let t = moved (after k f) f1 a' a (ap (elim [ inl y ↦ y | inr z ↦ absurd z ]) (sym e)) sf in
          let u = turn_of k f g f1 a t.0 in
          let r = go b1 xs o c back b s in (
            (f1, b1 ++ back, ap (λ us. us ++ back) i1 ∙ append_assoc f1 b1 back, u.0, r.0),
            append_assoc (stands_with {T = T} L inner (after k f) f1 a' sf) (stands_chain (SpellWith L (made goes_on_with (after k f))) (stands_with L inner (made goes_on_with (after k f))) b1 xs o c) (stands_with {T = T} L inner (optional (after k g)) back b s)
                ∙ joined _ _ _ _ (t.1 ∙ u.1) r.1,
          )

  pub many_of_chain : {A B : Type 0} (k : T.Kind) (f : Form T N V A) (g : Form T N V B) → Into (chain (after k (either f g))) (both (many (after k f)) (optional (after k g)))
  many_of_chain {A} {B} k f g ws x s = go ws x.0 x.1 s
    where
      go : (ws : List T.Word) (xs : List A) (o : Option B) (s : SpellWith L (chain (after k (either f g))) ws (xs, o))
          → (t : SpellWith L (both (many (after k f)) (optional (after k g))) ws (xs, o)) × (stands_with L inner (chain (after k (either f g))) ws (xs, o) s ≡ stands_with L inner (both (many (after k f)) (optional (after k g))) ws (xs, o) t)
      go ws [] None s = (([], ws, refl, (([], None), refl, refl), (inr tt, refl, s)), refl)
      go ws [] (Some b) s =
          let t = of_last k f g ws b s in
          (([], ws, refl, (([], None), refl, refl), (inl b, refl, t.0)), t.1)
      go ws (a ∷ xs) o (front, back, i, sf, c) =
          let h = of_turn k f g front a sf in
          let r = go back xs o c in
          let (f1, b1, i1, sm, sg) = r.0 in
          let t = many_more (after k f) (front ++ f1) front f1 a xs refl h.0 sm in (
            (front ++ f1, b1, i ∙ (ap (λ us. front ++ us) i1 ∙ sym (append_assoc front f1 b1)), t.0, sg),
            joined _ _ _ _ h.1 r.1
                ∙ (sym (append_assoc (stands_with {T = T} L inner (after k f) front a h.0) (stands_with {T = T} L inner (many (after k f)) f1 xs sm) (stands_with {T = T} L inner (optional (after k g)) b1 o sg))
                ∙ ap (λ ys. ys ++ stands_with {T = T} L inner (optional (after k g)) b1 o sg) t.1),
          )

  -- ---- once or not

  -- f and then maybe g: f alone, or f and g
  pub maybe_more : {A B C : Type 0} (h : A × Option B → C) (f : Form T N V A) (g : Form T N V B) → Into (made (λ x. h (x, None)) f <|> made (λ x. h (x.0, Some x.1)) (both f g)) (made h (both f (optional g)))
  maybe_more h f g ws b (inl y, e, (x, q, s)) = (((x, None), e ∙ q, (ws, [], sym (append-nil ws), s, (inr tt, refl, refl))), sym (append-nil _))
  maybe_more h f g ws b (inr y, e, (x, q, (front, back, i, s, t))) = (((x.0, Some x.1), e ∙ q, (front, back, i, s, (inl x.1, refl, t))), refl)

  pub of_maybe_more : {A B C : Type 0} (h : A × Option B → C) (f : Form T N V A) (g : Form T N V B) → Into (made h (both f (optional g))) (made (λ x. h (x, None)) f <|> made (λ x. h (x.0, Some x.1)) (both f g))
  of_maybe_more h f g ws b ((x, o), e, (front, back, i, s, (inl y, q, t))) = ((inr b, refl, ((x, y), e ∙ ap (λ z. h (x, z)) q, (front, back, i, s, t))), refl)
  of_maybe_more h f g ws b ((x, o), e, (front, back, i, s, (inr u, q, t))) =
      let v = moved_words f front ws x (sym (append-nil front) ∙ (ap (λ us. front ++ us) (sym t) ∙ sym i)) s in
      ((inl b, refl, (x, e ∙ ap (λ z. h (x, z)) q, v.0)), append-nil _ ∙ v.1)

  -- f and then g or k: f and g, or f and k
  pub one_start : {A B C D : Type 0} (h : A × (B ⊎ C) → D) (f : Form T N V A) (g : Form T N V B) (k : Form T N V C) → Into (made (λ x. h (x.0, inl x.1)) (both f g) <|> made (λ x. h (x.0, inr x.1)) (both f k)) (made h (both f (either g k)))
  one_start h f g k ws b (inl y, e, (x, q, s)) = (((x.0, inl x.1), e ∙ q, s), refl)
  one_start h f g k ws b (inr y, e, (x, q, s)) = (((x.0, inr x.1), e ∙ q, s), refl)

  pub two_starts : {A B C D : Type 0} (h : A × (B ⊎ C) → D) (f : Form T N V A) (g : Form T N V B) (k : Form T N V C) → Into (made h (both f (either g k))) (made (λ x. h (x.0, inl x.1)) (both f g) <|> made (λ x. h (x.0, inr x.1)) (both f k))
  two_starts h f g k ws b ((x, inl y), e, s) = ((inl b, refl, ((x, y), e, s)), refl)
  two_starts h f g k ws b ((x, inr y), e, s) = ((inr b, refl, ((x, y), e, s)), refl)
