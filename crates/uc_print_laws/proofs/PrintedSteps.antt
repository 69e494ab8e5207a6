-- Printed words spell a form: one step for each shape of form.
use Rattle.std.specs.Prelude.{◌&&◌}
use Rattle.std.proofs.Common.{◌≡◌, ℕ, zero, suc, ◌≤◌, Bool, true, false, List, [], ◌∷◌, ◌++◌, Option, Some, None, map, refl, sym, ap, subst, ◌∙◌, append_assoc, append-nil, arith, inl, inr, ◌⊎◌}
use Rattle.uc_forms.specs.Form.{Mark, quiet, any, nothing, both, either, chain, until, made, ahead, deep, word, after, before, many, joined_by, merged, ◌<|>◌, member, codes_of}
use Rattle.uc_forms.proofs.Run.{own_code}
use Rattle.uc_forms.specs.Spelling.{SpellWith, SpellAt}
use Rattle.uc_grammar.specs.declared.word.Word.{Word}
use Rattle.uc_grammar.specs.declared.word.Kind.{Kind}
use Rattle.uc_grammar.specs.declared.word.Kind.TheVariants.{Name, Comma, LeftParen, RightParen}
use Rattle.uc_grammar.specs.Code.{code_of}
use Rattle.uc_grammar.specs.Syntax.{words, known, Nested, Value, F, rule, identifier as identifier_of, a_name, id, listed as listed_form, optional, enclosed as enclosed_form}
use Rattle.uc_syntax.specs.declared.place.Identifier.{Identifier}
use Rattle.uc_print_laws.specs.Piece.{Piece, name, fixed, Shows, Shown}
use Rattle.uc_print_laws.specs.Printed.{Printed, none, piece, sign, identifier, ◌<+>◌, nested, when, each, behind, joined, listed, nowhere, erased_identifier}
use Rattle.uc_print_laws.specs.PrintedLaw.{Prints}
use Rattle.uc_print_laws.proofs.PrintedWords.{fixed_code, name_codes, name_code, split, no_words, one_word}

both_left : (a b : Bool) → (a && b) ≡ true → a ≡ true
both_left true b e = refl
both_left false b e = e

both_right : (a b : Bool) → (a && b) ≡ true → b ≡ true
both_right true b e = e
both_right false b e = absurd cc

-- ---- equal words

abbrev parts : List Piece → ℕ → Bool → Printed
parts ws d a = record { words = ws; depth = d; is_shaped = a }

equal_parts : (ws vs : List Piece) (d e : ℕ) (a b : Bool) → ws ≡ vs → d ≡ e → a ≡ b → parts ws d a ≡ parts vs e b
equal_parts ws vs d e a b i j k = ap (λ z. parts z d a) i ∙ ap (λ z. parts vs z a) j ∙ ap (λ z. parts vs e z) k

unit_shaped : (a : Bool) → (a && true) ≡ a
unit_shaped true = refl
unit_shaped false = refl

pub unit : (x : Printed) → x <+> none ≡ x
unit x = equal_parts _ _ _ _ _ _ (append-nil x.words) (omega arith) (unit_shaped x.is_shaped)

assoc_shaped : (a b c : Bool) → ((a && b) && c) ≡ (a && (b && c))
assoc_shaped true b c = refl
assoc_shaped false b c = refl

pub assoc : (x y z : Printed) → (x <+> y) <+> z ≡ x <+> (y <+> z)
assoc x y z = equal_parts _ _ _ _ _ _ (append_assoc x.words y.words z.words) (omega arith) (assoc_shaped x.is_shaped y.is_shaped z.is_shaped)

pub same : {A : Type 0} {f : F A} {x y : Printed} {Q : A → Type 0} → x ≡ y → Prints f x Q → Prints f y Q
same {f = f} {Q = Q} e p = subst (λ z. Prints f z Q) e p

-- ---- steps

pub s_any : (q : Mark) (j : Kind) (js : List Kind) (k : Kind) → member (code_of k) (codes_of words j js) ≡ true → Prints (any q j js) (sign k) (λ w. Shows (fixed k) w.kind)
s_any q j js k c = record {
  spells = λ s m h ws i.
      let o = one_word (fixed k) ws i in
      (o.0, (o.1, subst (λ (d : ℕ). member d (codes_of words j js) ≡ true) (sym (fixed_code k o.0.kind o.2)) c), o.2);
}

pub s_word : (j k : Kind) → code_of k ≡ code_of j → Prints (word j) (sign k) (λ w. Shows (fixed k) w.kind)
s_word j k e = s_any quiet j [] k (rw e (own_code words j []))

pub s_name : (q : Mark) (p : Piece) → ((k : Kind) → Shows p k → member (code_of k) name_codes ≡ true) → Prints (any q (Name 0) known) (piece p) (λ w. Shows p w.kind)
s_name q p c = record { spells = λ s m h ws i. let o = one_word p ws i in (o.0, (o.1, c o.0.kind o.2), o.2) }

pub s_a_name : (p : Piece) → ((k : Kind) → Shows p k → member (code_of k) name_codes ≡ true) → Prints a_name (piece p) (λ w. Shows p w.kind)
s_a_name p c = s_name quiet p c

abbrev some_of : {A : Type 0} → A ⊎ Unit {0} → Option A
some_of (inl a) = Some a
some_of (inr u) = None

pub s_none : {Q : Unit {0} → Type 0} → Q tt → Prints nothing none Q
s_none q = record { spells = λ s m h ws i. (tt, no_words ws i, q) }

pub s_both : {A B : Type 0} {f : F A} {g : F B} {x y : Printed} {Q : A → Type 0} {R : B → Type 0} → Prints f x Q → Prints g y R → Prints (both f g) (x <+> y) (λ z. Q z.0 × R z.1)
s_both {x = x} {y = y} p q = record {
  spells = λ s m h ws i.
      let o = split x.words y.words ws i in
      let a = p.spells (both_left _ _ s) m (omega arith) o.0 o.3 in
      let b = q.spells (both_right _ _ s) m (omega arith) o.1 o.4 in
      ((a.0, b.0), (o.0, o.1, o.2, a.1, b.1), (a.2, b.2));
}

pub s_left : {A B : Type 0} {f : F A} {g : F B} {x : Printed} {Q : A ⊎ B → Type 0} → Prints f x (λ a. Q (inl a)) → Prints (either f g) x Q
s_left p = record { spells = λ s m h ws i. let a = p.spells s m h ws i in (inl a.0, a.1, a.2) }

pub s_right : {A B : Type 0} {f : F A} {g : F B} {x : Printed} {Q : A ⊎ B → Type 0} → Prints g x (λ b. Q (inr b)) → Prints (either f g) x Q
s_right p = record { spells = λ s m h ws i. let b = p.spells s m h ws i in (inr b.0, b.1, b.2) }

pub s_made : {A B : Type 0} {f : F A} {x : Printed} {Q : A → Type 0} {R : B → Type 0} (h : A → B) → ((a : A) → Q a → R (h a)) → Prints f x Q → Prints (made h f) x R
s_made h k p = record { spells = λ s m b ws i. let a = p.spells s m b ws i in (h a.0, (a.0, refl, a.1), k a.0 a.2) }

-- one or the other, of one type
pub s_first : {A : Type 0} {f g : F A} {x : Printed} {Q : A → Type 0} → Prints f x Q → Prints (f <|> g) x Q
s_first {Q = Q} p = s_made merged (λ a q. q) (s_left {Q = λ a. Q (merged a)} p)

pub s_next : {A : Type 0} {f g : F A} {x : Printed} {Q : A → Type 0} → Prints g x Q → Prints (f <|> g) x Q
s_next {Q = Q} p = s_made merged (λ a q. q) (s_right {Q = λ a. Q (merged a)} p)

pub s_weak : {A : Type 0} {f : F A} {x : Printed} {Q R : A → Type 0} → ((a : A) → Q a → R a) → Prints f x Q → Prints f x R
s_weak k p = record { spells = λ s m b ws i. let a = p.spells s m b ws i in (a.0, a.1, k a.0 a.2) }

pub s_after : {A : Type 0} {f : F A} {x : Printed} {Q : A → Type 0} (k : Kind) → Prints f x Q → Prints (after k f) (sign k <+> x) Q
s_after k p = s_made (λ x. x.1) (λ a q. q.1) (s_both (s_word k k refl) p)

pub s_before : {A : Type 0} {f : F A} {x : Printed} {Q : A → Type 0} (k : Kind) → Prints f x Q → Prints (before f k) (x <+> sign k) Q
s_before k p = s_made (λ x. x.0) (λ a q. q.0) (s_both p (s_word k k refl))

pub s_when : {A : Type 0} {f : F A} {x : Printed} {Q : A → Type 0} (b : Bool) → (b ≡ true → Prints f x Q) → Prints f (when b x) Q
s_when b p = record { spells = λ s m h ws i. (p (both_left _ _ s)).spells (both_right _ _ s) m h ws i }

-- the grammar has no such tree
pub never : {A : Type 0} (f : F A) (x : Printed) (Q : A → Type 0) → Prints f (when false x) Q
never f x Q = record { spells = λ s m h ws i. absurd cc }

pub s_deep : {x : Printed} (n : Nested) {Q : Value n → Type 0} → Prints (rule n) x Q → Prints (deep n) (nested x) Q
unfolding SpellAt
s_deep {x} n {Q} p = record { spells = λ s m h ws i. levels m s h ws i }
  where
    levels : (m : ℕ) → x.is_shaped ≡ true → suc x.depth ≤ m → (ws : List Word) → Shown x.words ws → (a : Value n) × SpellAt rule m n ws a × Q a
    levels zero s h ws i = absurd (omega arith)
    levels (suc m) s h ws i = p.spells s m (omega arith) ws i

-- ---- names

pub s_id : (i : Identifier) → Prints id (identifier i) (λ j. erased_identifier j ≡ erased_identifier i)
s_id i = s_made identifier_of (λ w q. ap (λ z. record { place = nowhere; name = z }) q.1) (s_name quiet (name i.name) (λ k q. name_code k q.0))

-- ---- several

pub many_none : {A B : Type 0} {f : F A} (g : A → B) → Prints (many f) none (λ vs. map g vs ≡ [])
many_none g = record { spells = λ s m h ws i. ([], (([], None), refl, no_words ws i), refl) }

pub many_one : {A B : Type 0} {f : F A} {x y : Printed} {t : B} {ts : List B} (g : A → B) → Prints f x (λ a. g a ≡ t) → Prints (many f) y (λ vs. map g vs ≡ ts) → Prints (many f) (x <+> y) (λ vs. map g vs ≡ t ∷ ts)
many_one {x = x} {y = y} {t = t} g p q = record {
  spells = λ s m h ws i.
      let o = split x.words y.words ws i in
      let a = p.spells (both_left _ _ s) m (omega arith) o.0 o.3 in
      let b = q.spells (both_right _ _ s) m (omega arith) o.1 o.4 in
      (a.0 ∷ b.0, ((a.0 ∷ b.1.0.0, b.1.0.1), ap (λ z. a.0 ∷ z) b.1.1, (o.0, o.1, o.2, (a.0, refl, a.1), b.1.2)), ap (λ z. z ∷ map g b.0) a.2 ∙ ap (λ z. t ∷ z) b.2);
}

module _ {A B C : Type 0} (f : F A) (g : A → B) (show : C → Printed) (tree : C → B) (each_is : (c : C) → Prints f (show c) (λ a. g a ≡ tree c)) where
  pub s_each : (cs : List C) → Prints (many f) (each show cs) (λ vs. map g vs ≡ map tree cs)
  unfolding each
  s_each [] = many_none g
  s_each (c ∷ cs) = many_one g (each_is c) (s_each cs)

  pub s_behind : (k : Kind) (cs : List C) → Prints (many (after k f)) (behind k show cs) (λ vs. map g vs ≡ map tree cs)
  unfolding behind
  s_behind k [] = many_none g
  s_behind k (c ∷ cs) = same (assoc (sign k) (show c) (behind k show cs)) (many_one g (s_after k (each_is c)) (s_behind k cs))

  pub s_joined : (k : Kind) (c : C) (cs : List C) → Prints (joined_by k f) (joined k show (c ∷ cs)) (λ vs. map g vs ≡ map tree (c ∷ cs))
  s_joined k c cs = s_made (λ x. x.0 ∷ x.1) (λ a q. ap (λ z. z ∷ map g a.1) q.0 ∙ ap (λ z. tree c ∷ z) q.1) (s_both (each_is c) (s_behind k cs))

  pub s_listed : (cs : List C) → Prints (listed_form f) (listed show cs) (λ vs. map g vs ≡ map tree cs)
  s_listed [] = never _ none _
  s_listed (c ∷ cs) = s_joined Comma c cs

-- ---- once or not

pub s_optional_none : {A : Type 0} {f : F A} → Prints (optional f) none (λ o. o ≡ None)
s_optional_none = s_made _ (λ y q. q) (s_right {Q = λ y. some_of y ≡ None} (s_none refl))

pub s_optional_some : {A : Type 0} {f : F A} {x : Printed} {Q : Option A → Type 0} → Prints f x (λ a. Q (Some a)) → Prints (optional f) x Q
s_optional_some {Q = Q} p = s_made _ (λ y q. q) (s_left {Q = λ y. Q (some_of y)} p)

-- ---- where the second word tells

pub s_ahead : {A B : Type 0} {f : F A} {g : F B} {x : Printed} {Q : A → Type 0} {R : (Word × A) ⊎ B → Type 0} {q : Mark} {j k : Kind} {js : List Kind} (p : Piece) → ((i : Kind) → Shows p i → member (code_of i) (codes_of words j js) ≡ true)
    → ((w : Word) (a : A) → Shows p w.kind → Q a → R (inl (w, a))) → Prints f x Q → Prints (ahead q j js k f g) (piece p <+> (sign k <+> x)) R
s_ahead {x = x} {k = k} p c r b = record {
  spells = λ s m h ws i.
      let o = split (p ∷ []) (fixed k ∷ x.words) ws i in
      let u = one_word p o.0 o.3 in
      let v = split (fixed k ∷ []) x.words o.1 o.4 in
      let w = one_word (fixed k) v.0 v.3 in
      let a = b.spells s m (omega arith) v.1 v.4 in
      (inl (u.0, a.0), (w.0, v.1, o.2 ∙ ap (λ z. z ++ o.1) u.1 ∙ ap (λ z. u.0 ∷ z) (v.2 ∙ ap (λ z. z ++ v.1) w.1), c u.0.kind u.2, fixed_code k w.0.kind w.2, a.1), r u.0 a.0 u.2 a.2);
}

pub s_not_ahead : {A B : Type 0} {f : F A} {g : F B} {x : Printed} {R : (Word × A) ⊎ B → Type 0} {q : Mark} {j k : Kind} {js : List Kind} → Prints g x (λ b. R (inr b)) → Prints (ahead q j js k f g) x R
s_not_ahead p = record { spells = λ s m h ws i. let b = p.spells s m h ws i in (inr b.0, b.1, b.2) }

-- ---- in parentheses, and maybe nothing between

abbrev listed_of : {A : Type 0} → Word ⊎ List A → List A
listed_of (inl w) = []
listed_of (inr vs) = vs

module _ {A B C : Type 0} (f : F A) (g : A → B) (show : C → Printed) (tree : C → B) (each_is : (c : C) → Prints f (show c) (λ a. g a ≡ tree c)) where
  pub s_enclosed : (cs : List C) → Prints (enclosed_form (listed_form f)) (sign LeftParen <+> (joined Comma show cs <+> sign RightParen)) (λ vs. map g vs ≡ map tree cs)
  s_enclosed [] = s_after LeftParen (s_made _ (λ y q. q) (s_left {Q = λ y. map g (listed_of y) ≡ []} (s_weak (λ w q. refl) (s_word RightParen RightParen refl))))
  s_enclosed (c ∷ cs) = s_after LeftParen (s_made _ (λ y q. q) (s_right {Q = λ y. map g (listed_of y) ≡ map tree (c ∷ cs)} (s_before RightParen (s_joined f g show tree each_is Comma c cs))))

-- ---- up to an end

pub unit_left : (x : Printed) → none <+> x ≡ x
unit_left x = equal_parts _ _ _ _ _ _ refl (omega arith) refl

until_none : {A B D : Type 0} {f : F A} {h : F D} {y : Printed} {R : D → Type 0} (g : A → B) → Prints h y R → Prints (until f h) y (λ z. (map g z.0 ≡ []) × R z.1)
until_none g p = record { spells = λ s m h ws i. let b = p.spells s m h ws i in (([], b.0), b.1, (refl, b.2)) }

until_one : {A B D : Type 0} {f : F A} {h : F D} {x y : Printed} {t : B} {ts : List B} (R : D → Type 0) (g : A → B) → Prints f x (λ a. g a ≡ t) → Prints (until f h) y (λ z. (map g z.0 ≡ ts) × R z.1) → Prints (until f h) (x <+> y) (λ z. (map g z.0 ≡ t ∷ ts) × R z.1)
until_one {x = x} {y = y} {t = t} R g p q = record {
  spells = λ s m h ws i.
      let o = split x.words y.words ws i in
      let a = p.spells (both_left _ _ s) m (omega arith) o.0 o.3 in
      let b = q.spells (both_right _ _ s) m (omega arith) o.1 o.4 in
      ((a.0 ∷ b.0.0, b.0.1), (o.0, o.1, o.2, a.1, b.1), (ap (λ z. z ∷ map g b.0.0) a.2 ∙ ap (λ z. t ∷ z) b.2.0, b.2.1));
}

module _ {A B C D : Type 0} (f : F A) (h : F D) (g : A → B) (show : C → Printed) (tree : C → B) (each_is : (c : C) → Prints f (show c) (λ a. g a ≡ tree c)) (y : Printed) (R : D → Type 0) (end_is : Prints h y R) where
  pub s_until : (cs : List C) → Prints (until f h) (each show cs <+> y) (λ z. (map g z.0 ≡ map tree cs) × R z.1)
  unfolding each
  s_until [] = same (sym (unit_left y)) (until_none g end_is)
  s_until (c ∷ cs) = same (sym (assoc (show c) (each show cs) y)) (until_one R g (each_is c) (s_until cs))

-- ---- a chain of turns, and maybe an end

abbrev pub IsLeft : {A B : Type 0} → (A → Type 0) → A ⊎ B → Type 0
IsLeft P (inl a) = P a
IsLeft P (inr b) = ⊥

abbrev pub IsRight : {A B : Type 0} → (B → Type 0) → A ⊎ B → Type 0
IsRight P (inl a) = ⊥
IsRight P (inr b) = P b

abbrev pub IsSome : {B : Type 0} → (B → Type 0) → Option B → Type 0
IsSome P None = ⊥
IsSome P (Some b) = P b

pub s_chain_none : {A B D : Type 0} {f : F (A ⊎ D)} (g : A → B) → Prints (chain f) none (λ z. (map g z.0 ≡ []) × (z.1 ≡ None))
s_chain_none g = record { spells = λ s m h ws i. (([], None), no_words ws i, (refl, refl)) }

pub s_chain_some : {A B D : Type 0} {f : F (A ⊎ D)} {y : Printed} {R : D → Type 0} (g : A → B) → Prints f y (IsRight R) → Prints (chain f) y (λ z. (map g z.0 ≡ []) × IsSome R z.1)
s_chain_some {A} {B} {D} {f} {R = R} g p = record { spells = λ s m h ws i. let b = p.spells s m h ws i in last m ws b.0 b.1 b.2 }
  where
    last : (m : ℕ) (ws : List Word) (v : A ⊎ D) → SpellWith (SpellAt rule m) f ws v → IsRight R v → (z : List A × Option D) × SpellWith (SpellAt rule m) (chain f) ws z × ((map g z.0 ≡ []) × IsSome R z.1)
    last m ws (inl a) s q = absurd q
    last m ws (inr b) s q = (([], Some b), s, (refl, q))

chain_one : {A B D : Type 0} {f : F (A ⊎ D)} {x y : Printed} {t : B} {ts : List B} (R : Option D → Type 0) (g : A → B) → Prints f x (IsLeft (λ a. g a ≡ t)) → Prints (chain f) y (λ z. (map g z.0 ≡ ts) × R z.1) → Prints (chain f) (x <+> y) (λ z. (map g z.0 ≡ t ∷ ts) × R z.1)
chain_one {A} {B} {D} {f} {x} {y} {t} {ts} R g p q = record {
  spells = λ s m h ws i.
      let o = split x.words y.words ws i in
      let a = p.spells (both_left _ _ s) m (omega arith) o.0 o.3 in
      let b = q.spells (both_right _ _ s) m (omega arith) o.1 o.4 in
      turn m ws o.0 o.1 b.0 o.2 b.1 b.2 a.0 a.1 a.2;
}
  where
    turn : (m : ℕ) (ws front back : List Word) (b : List A × Option D) → ws ≡ front ++ back → SpellWith (SpellAt rule m) (chain f) back b → (map g b.0 ≡ ts) × R b.1 → (v : A ⊎ D) → SpellWith (SpellAt rule m) f front v → IsLeft (λ a. g a ≡ t) v
        → (z : List A × Option D) × SpellWith (SpellAt rule m) (chain f) ws z × ((map g z.0 ≡ t ∷ ts) × R z.1)
    turn m ws front back b i s r (inl a) u q = ((a ∷ b.0, b.1), (front, back, i, u, s), (ap (λ z. z ∷ map g b.0) q ∙ ap (λ z. t ∷ z) r.0, r.1))
    turn m ws front back b i s r (inr d) u q = absurd q

module _ {A B C D : Type 0} (f : F (A ⊎ D)) (g : A → B) (show : C → Printed) (tree : C → B) (each_is : (c : C) → Prints f (show c) (IsLeft (λ a. g a ≡ tree c))) (y : Printed) (R : Option D → Type 0) (end_is : Prints (chain f) y (λ z. (map g z.0 ≡ []) × R z.1)) where
  pub s_chain : (cs : List C) → Prints (chain f) (each show cs <+> y) (λ z. (map g z.0 ≡ map tree cs) × R z.1)
  unfolding each
  s_chain [] = same (sym (unit_left y)) end_is
  s_chain (c ∷ cs) = same (sym (assoc (show c) (each show cs) y)) (chain_one R g (each_is c) (s_chain cs))
