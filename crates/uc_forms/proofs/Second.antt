-- The second word of what spells a form.
use Rattle.std.proofs.Common.{◌≡◌, ℕ, Bool, true, false, List, [], ◌∷◌, ◌++◌, Option, Some, None, refl, sym, subst, inl, inr, ◌⊎◌}
use Rattle.std.specs.Prelude.{◌||◌, ◌&&◌, ◌==◌, if◌then◌else◌}
use Rattle.std.proofs.lemmas.Bool.{or_left, or_right, and_from, eq-eqb}
use Rattle.uc_forms.specs.Alphabet.{Alphabet}
use Rattle.uc_forms.specs.Form.{Form, any, nothing, both, either, chain, until, made, ahead, deep, member, codes_of}
use Rattle.uc_forms.specs.Spelling.{Language, SpellChain, SpellUntil, SpellWith}
use Rattle.uc_forms.specs.Reading.{skips, first}
use Rattle.uc_forms.specs.Plain.{is_single, inside, nests}
use Rattle.uc_forms.proofs.Opening.{member_left, member_right, member_cases, OpensBy, opening, opens_chain, opens_until}

module _ (T : Alphabet) where
  -- the second word is one of these, or the first word is one of those
  abbrev pub Second : List ℕ → List ℕ → List T.Word → Type 0
  Second cs ns [] = Unit {0}
  Second cs ns (v ∷ []) = Unit {0}
  Second cs ns (v ∷ w ∷ ws) = (member (T.kind v) ns ≡ true) ⊎ (member (T.kind w) cs ≡ true)

  abbrev Wider : List ℕ → List ℕ → Type 0
  Wider cs ds = (c : ℕ) → member c cs ≡ true → member c ds ≡ true

  second_wider : (cs ns ds ms : List ℕ) → Wider cs ds → Wider ns ms → (ws : List T.Word) → Second cs ns ws → Second ds ms ws
  second_wider cs ns ds ms h k [] s = tt
  second_wider cs ns ds ms h k (v ∷ []) s = tt
  second_wider cs ns ds ms h k (v ∷ w ∷ ws) s = elim s [ inl m ↦ inl (k (T.kind v) m) | inr m ↦ inr (h (T.kind w) m) ]

  second_join : (cs ns : List ℕ) (front back : List T.Word) (codes : List ℕ) (q : Bool) → Wider codes cs → OpensBy T codes q back → Second cs ns front → Second cs ns back → Second cs ns (front ++ back)
  second_join cs ns [] back codes q h o s t = t
  second_join cs ns (v ∷ []) [] codes q h o s t = tt
  second_join cs ns (v ∷ []) (w ∷ back) codes q h o s t = inr (h (T.kind w) o)
  second_join cs ns (v ∷ w ∷ front) back codes q h o s t = s

  first_inside : {N : Type 0} {V : N → Type 0} (opens : N → List ℕ) {A : Type 0} (f : Form T N V A) → Wider (first opens f) (inside opens f)
  first_inside opens (any q j js) c m = m
  first_inside opens nothing c m = m
  first_inside opens (both f g) c m = elim (member_cases T c (first opens f) (if skips f then first opens g else []) m) [
    | inl i ↦ member_left T c (inside opens f) (inside opens g) (first_inside opens f c i)
    | inr i ↦ member_right T c (inside opens f) (inside opens g) (first_inside opens g c (chosen (skips f) c (first opens g) i))
  ]
    where
      chosen : (b : Bool) (c : ℕ) (cs : List ℕ) → member c (if b then cs else []) ≡ true → member c cs ≡ true
      chosen true c cs i = i
      chosen false c cs i = absurd cc
  first_inside opens (either f g) c m = elim (member_cases T c (first opens f) (first opens g) m) [ inl i ↦ member_left T c (inside opens f) (inside opens g) (first_inside opens f c i) | inr i ↦ member_right T c (inside opens f) (inside opens g) (first_inside opens g c i) ]
  first_inside opens (chain f) c m = first_inside opens f c m
  first_inside opens (until f g) c m = elim (member_cases T c (first opens f) (first opens g) m) [ inl i ↦ member_left T c (inside opens f) (inside opens g) (first_inside opens f c i) | inr i ↦ member_right T c (inside opens f) (inside opens g) (first_inside opens g c i) ]
  first_inside opens (made h f) c m = first_inside opens f c m
  first_inside opens (ahead q j js k f g) c m = elim (member_cases T c (codes_of T j js) (first opens g) m) [
    | inl i ↦ member_left T c (codes_of T j js) _ i
    | inr i ↦ member_right T c (codes_of T j js) _ (or_right (c == T.code k) _ (member_right T c (inside opens f) (inside opens g) (first_inside opens g c i)))
  ]
  first_inside opens (deep n) c m = m

  second_chain : {A B : Type 0} (L : List T.Word → A ⊎ B → Type 0) (cs ns codes : List ℕ) (p : Bool) → Wider codes cs → ((ws : List T.Word) (x : A ⊎ B) → L ws x → OpensBy T codes p ws) → ((ws : List T.Word) (x : A ⊎ B) → L ws x → Second cs ns ws)
      → (ws : List T.Word) (xs : List A) (o : Option B) → SpellChain L ws xs o → Second cs ns ws
  second_chain L cs ns codes p h o k ws [] None s = subst (λ (us : List T.Word). Second cs ns us) (sym s) tt
  second_chain L cs ns codes p h o k ws [] (Some b) s = k ws (inr b) s
  second_chain L cs ns codes p h o k ws (a ∷ xs) c s = subst (λ (us : List T.Word). Second cs ns us) (sym s.2) (second_join cs ns s.0 s.1 codes true h (opens_chain T L codes p o s.1 xs c s.4) (k s.0 (inl a) s.3) (second_chain L cs ns codes p h o k s.1 xs c s.4))

  second_until : {A B : Type 0} (L : List T.Word → A → Type 0) (M : List T.Word → B → Type 0) (cs ns ds es : List ℕ) (p q : Bool) → Wider (ds ++ es) cs → ((ws : List T.Word) (x : A) → L ws x → OpensBy T ds p ws) → ((ws : List T.Word) (x : B) → M ws x → OpensBy T es q ws)
      → ((ws : List T.Word) (x : A) → L ws x → Second cs ns ws) → ((ws : List T.Word) (x : B) → M ws x → Second cs ns ws) → (ws : List T.Word) (xs : List A) (b : B) → SpellUntil L M ws xs b → Second cs ns ws
  second_until L M cs ns ds es p q h o r k l ws [] b s = l ws b s
  second_until L M cs ns ds es p q h o r k l ws (a ∷ xs) b s = subst (λ (us : List T.Word). Second cs ns us) (sym s.2) (second_join cs ns s.0 s.1 (ds ++ es) q h (opens_until T L M ds es p q o r s.1 xs b s.4) (k s.0 a s.3) (second_until L M cs ns ds es p q h o r k l s.1 xs b s.4))

  both_wider : {N : Type 0} {V : N → Type 0} (opens : N → List ℕ) {A B : Type 0} (f : Form T N V A) (g : Form T N V B) → Wider (first opens f ++ first opens g) (inside opens f ++ inside opens g)
  both_wider opens f g c m = elim (member_cases T c (first opens f) (first opens g) m) [ inl i ↦ member_left T c (inside opens f) (inside opens g) (first_inside opens f c i) | inr i ↦ member_right T c (inside opens f) (inside opens g) (first_inside opens g c i) ]

  pub second : {N : Type 0} {V : N → Type 0} (X : Language T N V) (opens : N → List ℕ) → ((n : N) (ws : List T.Word) (v : V n) → X n ws v → OpensBy T (opens n) false ws)
      → {A : Type 0} (f : Form T N V A) (ws : List T.Word) (a : A) → SpellWith X f ws a → Second (inside opens f) (nests opens f) ws
  second X opens h (any q j js) ws a s = subst (λ (us : List T.Word). Second (codes_of T j js) [] us) (sym s.0) tt
  second X opens h nothing ws a s = subst (λ (us : List T.Word). Second [] [] us) (sym s) tt
  second X opens h (both f g) ws a s = subst (λ (us : List T.Word). Second (inside opens (both f g)) (nests opens (both f g)) us) (sym s.2)
      (second_join (inside opens f ++ inside opens g) (nests opens f ++ nests opens g) s.0 s.1 (first opens g) (skips g) (λ c m. member_right T c (inside opens f) (inside opens g) (first_inside opens g c m)) (opening T X opens h g s.1 a.1 s.4)
      (second_wider (inside opens f) (nests opens f) (inside opens f ++ inside opens g) (nests opens f ++ nests opens g) (λ c m. member_left T c (inside opens f) (inside opens g) m) (λ c m. member_left T c (nests opens f) (nests opens g) m) s.0 (second X opens h f s.0 a.0 s.3))
      (second_wider (inside opens g) (nests opens g) (inside opens f ++ inside opens g) (nests opens f ++ nests opens g) (λ c m. member_right T c (inside opens f) (inside opens g) m) (λ c m. member_right T c (nests opens f) (nests opens g) m) s.1 (second X opens h g s.1 a.1 s.4)))
  second X opens h (either f g) ws (inl a) s = second_wider (inside opens f) (nests opens f) (inside opens f ++ inside opens g) (nests opens f ++ nests opens g) (λ c m. member_left T c (inside opens f) (inside opens g) m) (λ c m. member_left T c (nests opens f) (nests opens g) m) ws (second X opens h f ws a s)
  second X opens h (either f g) ws (inr b) s = second_wider (inside opens g) (nests opens g) (inside opens f ++ inside opens g) (nests opens f ++ nests opens g) (λ c m. member_right T c (inside opens f) (inside opens g) m) (λ c m. member_right T c (nests opens f) (nests opens g) m) ws (second X opens h g ws b s)
  second X opens h (chain f) ws a s = second_chain (SpellWith X f) (inside opens f) (nests opens f) (first opens f) (skips f) (first_inside opens f) (opening T X opens h f) (second X opens h f) ws a.0 a.1 s
  second X opens h (until f g) ws a s = second_until (SpellWith X f) (SpellWith X g) (inside opens f ++ inside opens g) (nests opens f ++ nests opens g) (first opens f) (first opens g) (skips f) (skips g) (both_wider opens f g) (opening T X opens h f) (opening T X opens h g)
      (λ us x t. second_wider (inside opens f) (nests opens f) (inside opens f ++ inside opens g) (nests opens f ++ nests opens g) (λ c m. member_left T c (inside opens f) (inside opens g) m) (λ c m. member_left T c (nests opens f) (nests opens g) m) us (second X opens h f us x t))
      (λ us x t. second_wider (inside opens g) (nests opens g) (inside opens f ++ inside opens g) (nests opens f ++ nests opens g) (λ c m. member_right T c (inside opens f) (inside opens g) m) (λ c m. member_right T c (nests opens f) (nests opens g) m) us (second X opens h g us x t)) ws a.0 a.1 s
  second X opens h (made m f) ws b s = second X opens h f ws s.0 s.2
  second X opens h (ahead q j js k f g) ws (inl a) s = subst (λ (us : List T.Word). Second (inside opens (ahead q j js k f g)) (nests opens (ahead q j js k f g)) us) (sym s.2) (inr (member_right T (T.kind s.0) (codes_of T j js) _ (or_left (T.kind s.0 == T.code k) _ (eq-eqb (T.kind s.0) (T.code k) s.4))))
  second X opens h (ahead q j js k f g) ws (inr b) s = second_wider (inside opens g) (nests opens g) (inside opens (ahead q j js k f g)) (nests opens f ++ nests opens g) (λ c m. member_right T c (codes_of T j js) _ (or_right (c == T.code k) _ (member_right T c (inside opens f) (inside opens g) m))) (λ c m. member_right T c (nests opens f) (nests opens g) m) ws (second X opens h g ws b s)
  second X opens h (deep n) [] v s = tt
  second X opens h (deep n) (u ∷ []) v s = tt
  second X opens h (deep n) (u ∷ w ∷ ws) v s = inl (h n (u ∷ w ∷ ws) v s)

  -- ---- forms of one word

  -- where there is one word, this holds
  abbrev pub IfAlone : Bool → List T.Word → Type 0
  IfAlone b [] = Unit {0}
  IfAlone b (v ∷ []) = b ≡ true
  IfAlone b (v ∷ w ∷ ws) = Unit {0}

  alone_wider : (b c : Bool) → (b ≡ true → c ≡ true) → (ws : List T.Word) → IfAlone b ws → IfAlone c ws
  alone_wider b c h [] s = tt
  alone_wider b c h (v ∷ []) s = h s
  alone_wider b c h (v ∷ w ∷ ws) s = tt

  alone_join : (b : Bool) (front back : List T.Word) → IfAlone b front → IfAlone b back → IfAlone b (front ++ back)
  alone_join b [] back s t = t
  alone_join b (v ∷ []) [] s t = s
  alone_join b (v ∷ []) (w ∷ back) s t = tt
  alone_join b (v ∷ w ∷ front) back s t = tt

  alone_both : (b c : Bool) (cs ds : List ℕ) (p q : Bool) (front back : List T.Word) → OpensBy T cs p front → OpensBy T ds q back → IfAlone b front → IfAlone c back → IfAlone ((b && q) || (p && c)) (front ++ back)
  alone_both b c cs ds p q [] [] o r s t = tt
  alone_both b c cs ds p q [] (w ∷ []) o r s t = or_right (b && q) (p && c) (and_from p c o t)
  alone_both b c cs ds p q [] (w ∷ x ∷ back) o r s t = tt
  alone_both b c cs ds p q (v ∷ []) [] o r s t = or_left (b && q) (p && c) (and_from b q s r)
  alone_both b c cs ds p q (v ∷ []) (w ∷ back) o r s t = tt
  alone_both b c cs ds p q (v ∷ w ∷ front) back o r s t = tt

  alone_chain : {A B : Type 0} (L : List T.Word → A ⊎ B → Type 0) (b : Bool) → ((ws : List T.Word) (x : A ⊎ B) → L ws x → IfAlone b ws) → (ws : List T.Word) (xs : List A) (o : Option B) → SpellChain L ws xs o → IfAlone b ws
  alone_chain L b h ws [] None s = subst (λ (us : List T.Word). IfAlone b us) (sym s) tt
  alone_chain L b h ws [] (Some x) s = h ws (inr x) s
  alone_chain L b h ws (a ∷ xs) o s = subst (λ (us : List T.Word). IfAlone b us) (sym s.2) (alone_join b s.0 s.1 (h s.0 (inl a) s.3) (alone_chain L b h s.1 xs o s.4))

  alone_until : {A B : Type 0} (L : List T.Word → A → Type 0) (M : List T.Word → B → Type 0) (b : Bool) → ((ws : List T.Word) (x : A) → L ws x → IfAlone b ws) → ((ws : List T.Word) (x : B) → M ws x → IfAlone b ws) → (ws : List T.Word) (xs : List A) (y : B) → SpellUntil L M ws xs y → IfAlone b ws
  alone_until L M b h k ws [] y s = k ws y s
  alone_until L M b h k ws (a ∷ xs) y s = subst (λ (us : List T.Word). IfAlone b us) (sym s.2) (alone_join b s.0 s.1 (h s.0 a s.3) (alone_until L M b h k s.1 xs y s.4))

  pub alone : {N : Type 0} {V : N → Type 0} (X : Language T N V) (opens : N → List ℕ) → ((n : N) (ws : List T.Word) (v : V n) → X n ws v → OpensBy T (opens n) false ws)
      → {A : Type 0} (f : Form T N V A) (ws : List T.Word) (a : A) → SpellWith X f ws a → IfAlone (is_single f) ws
  alone X opens h (any q j js) ws a s = subst (λ (us : List T.Word). IfAlone true us) (sym s.0) refl
  alone X opens h nothing ws a s = subst (λ (us : List T.Word). IfAlone false us) (sym s) tt
  alone X opens h (both f g) ws a s = subst (λ (us : List T.Word). IfAlone (is_single (both f g)) us) (sym s.2) (alone_both (is_single f) (is_single g) (first opens f) (first opens g) (skips f) (skips g) s.0 s.1 (opening T X opens h f s.0 a.0 s.3) (opening T X opens h g s.1 a.1 s.4) (alone X opens h f s.0 a.0 s.3) (alone X opens h g s.1 a.1 s.4))
  alone X opens h (either f g) ws (inl a) s = alone_wider (is_single f) (is_single f || is_single g) (λ e. or_left (is_single f) (is_single g) e) ws (alone X opens h f ws a s)
  alone X opens h (either f g) ws (inr b) s = alone_wider (is_single g) (is_single f || is_single g) (λ e. or_right (is_single f) (is_single g) e) ws (alone X opens h g ws b s)
  alone X opens h (chain f) ws a s = alone_chain (SpellWith X f) (is_single f) (alone X opens h f) ws a.0 a.1 s
  alone X opens h (until f g) ws a s = alone_until (SpellWith X f) (SpellWith X g) (is_single f || is_single g) (λ us x t. alone_wider (is_single f) (is_single f || is_single g) (λ e. or_left (is_single f) (is_single g) e) us (alone X opens h f us x t)) (λ us x t. alone_wider (is_single g) (is_single f || is_single g) (λ e. or_right (is_single f) (is_single g) e) us (alone X opens h g us x t)) ws a.0 a.1 s
  alone X opens h (made m f) ws b s = alone X opens h f ws s.0 s.2
  alone X opens h (ahead q j js k f g) ws (inl a) s = subst (λ (us : List T.Word). IfAlone (is_single g) us) (sym s.2) tt
  alone X opens h (ahead q j js k f g) ws (inr b) s = alone X opens h g ws b s
  alone X opens h (deep n) [] v s = tt
  alone X opens h (deep n) (u ∷ []) v s = refl
  alone X opens h (deep n) (u ∷ w ∷ ws) v s = tt
