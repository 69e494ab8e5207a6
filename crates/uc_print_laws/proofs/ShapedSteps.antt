-- What holds of whatever words spell in a form: one step for each shape of form.
use Rattle.std.proofs.Common.{◌≡◌, true, List, [], ◌∷◌, ◌++◌, Option, Some, None, sym, subst, inl, inr, ◌⊎◌}
use Rattle.uc_forms.specs.Form.{Mark, quiet, any, nothing, both, either, chain, until, made, ahead, word, after, before, many, joined_by, goes_on_with, merged, ◌<|>◌, member, codes_of}
use Rattle.uc_forms.specs.Spelling.{Language, SpellChain, SpellUntil, SpellWith}
use Rattle.uc_grammar.specs.declared.word.Word.{Word}
use Rattle.uc_grammar.specs.declared.word.Kind.{Kind}
use Rattle.uc_grammar.specs.declared.word.Kind.TheVariants.{Name, Number, BvType, BvLit}
use Rattle.uc_grammar.specs.Code.{code_of, name_in, value_in, width_in}
use Rattle.uc_grammar.specs.Syntax.{words, known, Nested, Value, F, optional}
use Rattle.uc_print_laws.specs.Piece.{Piece, name, fixed}
use Rattle.uc_print_laws.specs.Kept.{Reprints}
use Rattle.uc_print_laws.proofs.Good.{Each}
use Rattle.uc_print_laws.proofs.Coded.{IsTold, told, one_code, a_number, a_type_of_bits, a_literal, is_a_name, a_name_is}

-- P holds of all that the words may be printed as
abbrev pub Allows : (Piece → Type 0) → List Word → Type 0
Allows P [] = Unit {0}
Allows P (w ∷ ws) = ((p : Piece) → Reprints p w.kind → P p) × Allows P ws

abbrev pub Deeper : Type 1
Deeper = Language words Nested Value

-- Q holds of whatever such words spell in the form
pub record Keeps {A : Type 0} (P : Piece → Type 0) (L : Deeper) (f : F A) (Q : A → Type 0) : Type 0 where
  pub keeps : (ws : List Word) (a : A) → Allows P ws → SpellWith L f ws a → Q a

abbrev pub IfSome : {B : Type 0} → (B → Type 0) → Option B → Type 0
IfSome R None = Unit {0}
IfSome R (Some b) = R b

-- Q of the one, and R of the other
abbrev pub EitherHas : {A B : Type 0} → (A → Type 0) → (B → Type 0) → A ⊎ B → Type 0
EitherHas Q R (inl a) = Q a
EitherHas Q R (inr b) = R b

-- one or more of which Q holds, and K holds where there are several
abbrev pub Joined : {A : Type 0} → Type 0 → (A → Type 0) → List A → Type 0
Joined K Q [] = ⊥
Joined K Q (x ∷ more) = Q x × Each (λ y. K × Q y) more

front_allows : (P : Piece → Type 0) (front back : List Word) → Allows P (front ++ back) → Allows P front
front_allows P [] back a = tt
front_allows P (w ∷ ws) back a = (a.0, front_allows P ws back a.1)

back_allows : (P : Piece → Type 0) (front back : List Word) → Allows P (front ++ back) → Allows P back
back_allows P [] back a = a
back_allows P (w ∷ ws) back a = back_allows P ws back a.1

module _ (P : Piece → Type 0) (ws front back : List Word) (e : ws ≡ front ++ back) (a : Allows P ws) where
  pub in_front : Allows P front
  in_front = front_allows P front back (subst (Allows P) e a)

  pub in_back : Allows P back
  in_back = back_allows P front back (subst (Allows P) e a)

module _ {P : Piece → Type 0} {L : Deeper} where
  -- ---- one word

  pub k_any : (q : Mark) (j : Kind) (js : List Kind) → Keeps P L (any q j js) (λ w. ((p : Piece) → Reprints p w.kind → P p) × (member (code_of w.kind) (codes_of words j js) ≡ true))
  k_any q j js = record { keeps = λ ws w a s. ((subst (Allows P) s.0 a).0, s.1) }

  pub k_weak : {A : Type 0} {f : F A} {Q R : A → Type 0} → ((a : A) → Q a → R a) → Keeps P L f Q → Keeps P L f R
  k_weak h k = record { keeps = λ ws x a s. h x (k.keeps ws x a s) }

  pub k_word : (j : Kind) → IsTold j → Keeps P L (word j) (λ w. P (fixed j))
  k_word j t = k_weak (λ w h. h.0 (fixed j) (told j w.kind t (one_code (code_of w.kind) (code_of j) h.1))) (k_any quiet j [])

  pub k_number : Keeps P L (word (Number 0)) (λ w. P (fixed (Number (value_in w.kind))))
  k_number = k_weak (λ w h. h.0 (fixed (Number (value_in w.kind))) (a_number w.kind h.1)) (k_any quiet (Number 0) [])

  pub k_type : Keeps P L (word (BvType 0)) (λ w. P (fixed (BvType (width_in w.kind))))
  k_type = k_weak (λ w h. h.0 (fixed (BvType (width_in w.kind))) (a_type_of_bits w.kind h.1)) (k_any quiet (BvType 0) [])

  pub k_literal : Keeps P L (word (BvLit 0 0)) (λ w. P (fixed (BvLit (value_in w.kind) (width_in w.kind))))
  k_literal = k_weak (λ w h. h.0 (fixed (BvLit (value_in w.kind) (width_in w.kind))) (a_literal w.kind h.1)) (k_any quiet (BvLit 0 0) [])

  pub k_name : (q : Mark) → Keeps P L (any q (Name 0) known) (λ w. P (name (name_in w.kind)))
  k_name q = k_weak (λ w h. h.0 (name (name_in w.kind)) (a_name_is w.kind (is_a_name w.kind h.1))) (k_any q (Name 0) known)

  -- ---- put together

  pub k_nothing : {Q : Unit {0} → Type 0} → Q tt → Keeps P L nothing Q
  k_nothing q = record { keeps = λ ws x a s. q }

  pub k_both : {A B : Type 0} {f : F A} {g : F B} {Q : A → Type 0} {R : B → Type 0} → Keeps P L f Q → Keeps P L g R → Keeps P L (both f g) (λ x. Q x.0 × R x.1)
  k_both k l = record { keeps = λ ws x a s. (k.keeps s.0 x.0 (in_front P ws s.0 s.1 s.2 a) s.3, l.keeps s.1 x.1 (in_back P ws s.0 s.1 s.2 a) s.4) }

  pub k_either : {A B : Type 0} {f : F A} {g : F B} {R : A ⊎ B → Type 0} → Keeps P L f (λ a. R (inl a)) → Keeps P L g (λ b. R (inr b)) → Keeps P L (either f g) R
  k_either {A} {B} {f} {g} {R} k l = record { keeps = by }
    where
      by : (ws : List Word) (x : A ⊎ B) → Allows P ws → SpellWith L (either f g) ws x → R x
      by ws (inl x) a s = k.keeps ws x a s
      by ws (inr x) a s = l.keeps ws x a s

  pub k_made : {A B : Type 0} {f : F A} {Q : A → Type 0} {R : B → Type 0} (h : A → B) → ((a : A) → Q a → R (h a)) → Keeps P L f Q → Keeps P L (made h f) R
  k_made {R = R} h i k = record { keeps = λ ws x a s. subst R (sym s.1) (i s.0 (k.keeps ws s.0 a s.2)) }

  pub k_or : {A : Type 0} {f g : F A} {Q : A → Type 0} → Keeps P L f Q → Keeps P L g Q → Keeps P L (f <|> g) Q
  k_or {Q = Q} k l = k_made merged (λ x q. q) (k_either {R = λ x. Q (merged x)} k l)

  pub k_after : {A : Type 0} {f : F A} {Q : A → Type 0} (k : Kind) → IsTold k → Keeps P L f Q → Keeps P L (after k f) (λ a. P (fixed k) × Q a)
  k_after k t p = k_made _ (λ x q. q) (k_both (k_word k t) p)

  pub k_before : {A : Type 0} {f : F A} {Q : A → Type 0} (k : Kind) → IsTold k → Keeps P L f Q → Keeps P L (before f k) (λ a. Q a × P (fixed k))
  k_before k t p = k_made _ (λ x q. q) (k_both p (k_word k t))

  -- ---- several

  pub k_chain : {A B : Type 0} {f : F (A ⊎ B)} (Q : A → Type 0) (R : B → Type 0) → Keeps P L f (EitherHas Q R) → Keeps P L (chain f) (λ x. Each Q x.0 × IfSome R x.1)
  k_chain {A} {B} {f} Q R k = record { keeps = λ ws x a s. by ws x.0 x.1 a s }
    where
      by : (ws : List Word) (xs : List A) (b : Option B) → Allows P ws → SpellChain (SpellWith L f) ws xs b → Each Q xs × IfSome R b
      by ws [] None a s = (tt, tt)
      by ws [] (Some b) a s = (tt, k.keeps ws (inr b) a s)
      by ws (x ∷ xs) b a s = let more = by s.1 xs b (in_back P ws s.0 s.1 s.2 a) s.4 in ((k.keeps s.0 (inl x) (in_front P ws s.0 s.1 s.2 a) s.3, more.0), more.1)

  pub k_until : {A B : Type 0} {f : F A} {g : F B} {Q : A → Type 0} {R : B → Type 0} → Keeps P L f Q → Keeps P L g R → Keeps P L (until f g) (λ x. Each Q x.0 × R x.1)
  k_until {A} {B} {f} {g} {Q} {R} k l = record { keeps = λ ws x a s. by ws x.0 x.1 a s }
    where
      by : (ws : List Word) (xs : List A) (b : B) → Allows P ws → SpellUntil (SpellWith L f) (SpellWith L g) ws xs b → Each Q xs × R b
      by ws [] b a s = (tt, l.keeps ws b a s)
      by ws (x ∷ xs) b a s = let more = by s.1 xs b (in_back P ws s.0 s.1 s.2 a) s.4 in ((k.keeps s.0 x (in_front P ws s.0 s.1 s.2 a) s.3, more.0), more.1)

  pub k_many : {A : Type 0} {f : F A} (Q : A → Type 0) → Keeps P L f Q → Keeps P L (many f) (Each Q)
  k_many Q k = k_made _ (λ x q. q.0) (k_chain Q (λ b. Unit {0}) (k_made goes_on_with (λ a q. q) k))

  pub k_joined : {A : Type 0} {f : F A} (Q : A → Type 0) (k : Kind) → IsTold k → Keeps P L f Q → Keeps P L (joined_by k f) (Joined (P (fixed k)) Q)
  k_joined Q k t p = k_made _ (λ x q. q) (k_both p (k_many (λ y. P (fixed k) × Q y) (k_after k t p)))

  pub k_optional : {A : Type 0} {f : F A} (Q : Option A → Type 0) → Q None → Keeps P L f (λ a. Q (Some a)) → Keeps P L (optional f) Q
  k_optional Q none k = k_made _ (λ x q. q) (k_either {R = λ x. Q (elim x [ inl a ↦ Some a | inr u ↦ None ])} k (k_nothing none))

  -- ---- where the second word tells

  pub k_ahead : {A B : Type 0} {f : F A} {g : F B} {Q : A → Type 0} {R : (Word × A) ⊎ B → Type 0} (q : Mark) (j : Kind) (js : List Kind) (k : Kind) → IsTold k
      → ((w : Word) (a : A) → ((p : Piece) → Reprints p w.kind → P p) → member (code_of w.kind) (codes_of words j js) ≡ true → P (fixed k) → Q a → R (inl (w, a))) → Keeps P L f Q → Keeps P L g (λ b. R (inr b)) → Keeps P L (ahead q j js k f g) R
  k_ahead {A} {B} {f} {g} {Q} {R} q j js k t h u v = record { keeps = by }
    where
      by : (ws : List Word) (x : (Word × A) ⊎ B) → Allows P ws → SpellWith L (ahead q j js k f g) ws x → R x
      by ws (inl x) a s =
          let all : Allows P (x.0 ∷ s.0 ∷ s.1) = subst (Allows P) s.2 a in
          h x.0 x.1 all.0 s.3 (all.1.0 (fixed k) (told k s.0.kind t s.4)) (u.keeps s.1 x.1 all.1.1 s.5)
      by ws (inr x) a s = v.keeps ws x a s
