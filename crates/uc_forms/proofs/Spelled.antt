-- Words of given kinds spell a form: one step for each shape of form. It serves the law of a printer, that what it prints is spelled.
use Rattle.std.proofs.Common.{◌≡◌, ℕ, true, List, [], ◌∷◌, ◌++◌, None, map, refl, sym, ap, subst, ◌∙◌, ◌⊎◌, inl, inr}
use Rattle.uc_forms.specs.Alphabet.{Alphabet}
use Rattle.uc_forms.specs.Form.{Mark, quiet, Form, any, nothing, both, either, made, word, after, before, many, member, codes_of}
use Rattle.uc_forms.specs.Spelling.{Language, SpellWith}
use Rattle.uc_forms.proofs.Run.{own_code}

-- sort tells the kind of a word.
module _ (T : Alphabet) (sort : T.Word → T.Kind) (sorted : (w : T.Word) → T.kind w ≡ T.code (sort w)) where
  abbrev pub kinds_in : List T.Word → List T.Kind
  kinds_in ws = map sort ws

  -- whatever words of these kinds stand there, they spell a value of which Q holds
  abbrev pub Spelled : {N : Type 0} {V : N → Type 0} → Language T N V → {A : Type 0} → Form T N V A → List T.Kind → (A → Type 0) → Type 0
  Spelled L {A} f ks Q = (ws : List T.Word) → kinds_in ws ≡ ks → (a : A) × SpellWith L f ws a × Q a

  abbrev head_or : T.Kind → List T.Kind → T.Kind
  head_or k [] = k
  head_or k (j ∷ js) = j

  abbrev tail_of : List T.Kind → List T.Kind
  tail_of [] = []
  tail_of (j ∷ js) = js

  split : (xs ys : List T.Kind) (ws : List T.Word) → kinds_in ws ≡ xs ++ ys → (front back : List T.Word) × (ws ≡ front ++ back) × (kinds_in front ≡ xs) × (kinds_in back ≡ ys)
  split [] ys ws e = ([], ws, refl, refl, e)
  split (x ∷ xs) ys [] e = absurd cc
  split (x ∷ xs) ys (w ∷ ws) e =
      let s = split xs ys ws (ap tail_of e) in
      let k : sort w ≡ x = ap (head_or x) e in
      (w ∷ s.0, s.1, ap (λ z. w ∷ z) s.2, ap (λ z. z ∷ kinds_in s.0) k ∙ ap (λ z. x ∷ z) s.3, s.4)

  no_words : (ws : List T.Word) → kinds_in ws ≡ [] → ws ≡ []
  no_words [] e = refl
  no_words (w ∷ ws) e = absurd cc

  one_word : (k : T.Kind) (ws : List T.Word) → kinds_in ws ≡ k ∷ [] → (w : T.Word) × (ws ≡ w ∷ []) × (sort w ≡ k)
  one_word k [] e = absurd cc
  one_word k (w ∷ ws) e = (w, ap (λ z. w ∷ z) (no_words ws (ap tail_of e)), ap (head_or k) e)

  module _ {N : Type 0} {V : N → Type 0} (L : Language T N V) where
    pub s_any : (q : Mark) (j : T.Kind) (js : List T.Kind) (k : T.Kind) → member (T.code k) (codes_of T j js) ≡ true → Spelled L (any q j js) (k ∷ []) (λ w. sort w ≡ k)
    s_any q j js k c ws e = let o = one_word k ws e in (o.0, (o.1, subst (λ (d : ℕ). member d (codes_of T j js) ≡ true) (sym (sorted o.0 ∙ ap T.code o.2)) c), o.2)

    pub s_word : (k : T.Kind) → Spelled L (word k) (k ∷ []) (λ w. sort w ≡ k)
    s_word k = s_any quiet k [] k (own_code T k [])

    pub s_nothing : {Q : Unit {0} → Type 0} → Q tt → Spelled L nothing [] Q
    s_nothing q ws e = (tt, no_words ws e, q)

    pub s_both : {A B : Type 0} (f : Form T N V A) (g : Form T N V B) (xs ys : List T.Kind) (Q : A → Type 0) (R : B → Type 0) → Spelled L f xs Q → Spelled L g ys R → Spelled L (both f g) (xs ++ ys) (λ x. Q x.0 × R x.1)
    s_both f g xs ys Q R p q ws e =
        let s = split xs ys ws e in
        let a = p s.0 s.3 in
        let b = q s.1 s.4 in
        ((a.0, b.0), (s.0, s.1, s.2, a.1, b.1), (a.2, b.2))

    pub s_left : {A B : Type 0} (f : Form T N V A) (g : Form T N V B) (ks : List T.Kind) (Q : A ⊎ B → Type 0) → Spelled L f ks (λ a. Q (inl a)) → Spelled L (either f g) ks Q
    s_left f g ks Q p ws e = let a = p ws e in (inl a.0, a.1, a.2)

    pub s_right : {A B : Type 0} (f : Form T N V A) (g : Form T N V B) (ks : List T.Kind) (Q : A ⊎ B → Type 0) → Spelled L g ks (λ b. Q (inr b)) → Spelled L (either f g) ks Q
    s_right f g ks Q p ws e = let b = p ws e in (inr b.0, b.1, b.2)

    pub s_made : {A B : Type 0} (h : A → B) (f : Form T N V A) (ks : List T.Kind) (Q : B → Type 0) → Spelled L f ks (λ a. Q (h a)) → Spelled L (made h f) ks Q
    s_made h f ks Q p ws e = let a = p ws e in (h a.0, (a.0, refl, a.1), a.2)

    pub s_weak : {A : Type 0} (f : Form T N V A) (ks : List T.Kind) (Q R : A → Type 0) → ((a : A) → Q a → R a) → Spelled L f ks Q → Spelled L f ks R
    s_weak f ks Q R k p ws e = let a = p ws e in (a.0, a.1, k a.0 a.2)

    pub s_after : {A : Type 0} (k : T.Kind) (f : Form T N V A) (ks : List T.Kind) (Q : A → Type 0) → Spelled L f ks Q → Spelled L (after k f) (k ∷ ks) Q
    s_after {A} k f ks Q p = s_made (λ (x : T.Word × A). x.1) (both (word k) f) (k ∷ ks) Q (s_weak (both (word k) f) (k ∷ ks) (λ x. (sort x.0 ≡ k) × Q x.1) (λ x. Q x.1) (λ x q. q.1) (s_both (word k) f (k ∷ []) ks (λ w. sort w ≡ k) Q (s_word k) p))

    pub s_before : {A : Type 0} (f : Form T N V A) (k : T.Kind) (ks : List T.Kind) (Q : A → Type 0) → Spelled L f ks Q → Spelled L (before f k) (ks ++ k ∷ []) Q
    s_before {A} f k ks Q p = s_made (λ (x : A × T.Word). x.0) (both f (word k)) (ks ++ k ∷ []) Q (s_weak (both f (word k)) (ks ++ k ∷ []) (λ x. Q x.0 × (sort x.1 ≡ k)) (λ x. Q x.0) (λ x q. q.0) (s_both f (word k) ks (k ∷ []) Q (λ w. sort w ≡ k) p (s_word k)))

    pub many_none : {A : Type 0} (f : Form T N V A) (ws : List T.Word) → ws ≡ [] → SpellWith L (many f) ws []
    many_none f ws e = (([], None), refl, e)

    many_one : {A : Type 0} (f : Form T N V A) (ws front back : List T.Word) (a : A) (vs : List A) → ws ≡ front ++ back → SpellWith L f front a → SpellWith L (many f) back vs → SpellWith L (many f) ws (a ∷ vs)
    many_one {A} f ws front back a vs i p (x, e, s) = ((a ∷ x.0, x.1), ap (λ z. a ∷ z) e, (front, back, i, (a, refl, p), s))

    -- any number of them, each known by what g makes of it
    pub s_many_none : {A B : Type 0} (f : Form T N V A) (g : A → B) → Spelled L (many f) [] (λ vs. map g vs ≡ [])
    s_many_none f g ws e = ([], many_none f ws (no_words ws e), refl)

    pub s_many_one : {A B : Type 0} (f : Form T N V A) (g : A → B) (xs ys : List T.Kind) (t : B) (ts : List B) → Spelled L f xs (λ a. g a ≡ t) → Spelled L (many f) ys (λ vs. map g vs ≡ ts) → Spelled L (many f) (xs ++ ys) (λ vs. map g vs ≡ t ∷ ts)
    s_many_one f g xs ys t ts p q ws e =
        let s = split xs ys ws e in
        let a = p s.0 s.3 in
        let b = q s.1 s.4 in
        (a.0 ∷ b.0, many_one f ws s.0 s.1 a.0 b.0 s.2 a.1 b.1, ap (λ z. z ∷ map g b.0) a.2 ∙ ap (λ z. t ∷ z) b.2)
