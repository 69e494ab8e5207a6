-- How many names the words of a form declare: one step for each shape of form.
use Rattle.std.proofs.Common.{◌≡◌, ◌⊎◌, inl, inr, ℕ, ◌+◌, List, [], ◌∷◌, ◌++◌, Option, Some, None, refl, sym, ap, ◌∙◌, arith}
use Rattle.uc_forms.specs.Form.{Mark, quiet, any, nothing, both, either, chain, until, made, ahead, word, after, before, many, joined_by, goes_on_with, merged, ◌<|>◌}
use Rattle.uc_forms.specs.Spelling.{Language, SpellChain, SpellUntil, SpellWith, stand, Standing, stands_chain, stands_until, stands_with}
use Rattle.uc_grammar.specs.declared.word.Word.{Word}
use Rattle.uc_grammar.specs.declared.word.Kind.{Kind}
use Rattle.uc_grammar.specs.Syntax.{words, Nested, Value, F, optional}
use Rattle.uc_print_laws.specs.Names.{total, in_option}
use Rattle.uc_print_laws.proofs.Tallied.{Tallied, mark_is, t_both, t_is, t_one}

abbrev pub Deeper : Type 1
Deeper = Language words Nested Value

abbrev pub Inner : Deeper → Type 0
Inner L = Standing words Nested Value L

-- what words spell in the form declares so many names
pub record Counts {A : Type 0} (L : Deeper) (inner : Inner L) (f : F A) (c : A → ℕ) : Type 0 where
  pub counts : (ws : List Word) (a : A) (s : SpellWith L f ws a) → Tallied (c a) (stands_with L inner f ws a s)

abbrev pub in_either : {A B : Type 0} → (A → ℕ) → (B → ℕ) → A ⊎ B → ℕ
in_either c d (inl a) = c a
in_either c d (inr b) = d b

module _ {L : Deeper} {inner : Inner L} where
  pub c_any : (q : Mark) (j : Kind) (js : List Kind) (n : ℕ) → mark_is q n → Counts L inner (any q j js) (λ w. n)
  c_any q j js n i = record { counts = λ ws w s. t_one (stand q w) n i }

  pub c_word : (j : Kind) → Counts L inner (word j) (λ w. 0)
  c_word j = c_any quiet j [] 0 refl

  pub c_is : {A : Type 0} {f : F A} {c d : A → ℕ} → ((a : A) → c a ≡ d a) → Counts L inner f c → Counts L inner f d
  c_is {f = f} {c} {d} e k = record { counts = λ ws a s. t_is (stands_with L inner f ws a s) (c a) (d a) (e a) (k.counts ws a s) }

  pub c_nothing : Counts L inner nothing (λ u. 0)
  c_nothing = record { counts = λ ws a s. refl }

  pub c_both : {A B : Type 0} {f : F A} {g : F B} {c : A → ℕ} {d : B → ℕ} → Counts L inner f c → Counts L inner g d → Counts L inner (both f g) (λ x. c x.0 + d x.1)
  c_both {A} {B} {f} {g} {c} {d} k l = record {
    counts = λ ws x s. t_both (c x.0) (d x.1) (stands_with L inner f s.0 x.0 s.3) (stands_with L inner g s.1 x.1 s.4) (k.counts s.0 x.0 s.3) (l.counts s.1 x.1 s.4);
  }

  pub c_either : {A B : Type 0} {f : F A} {g : F B} {c : A → ℕ} {d : B → ℕ} → Counts L inner f c → Counts L inner g d → Counts L inner (either f g) (in_either c d)
  c_either {A} {B} {f} {g} {c} {d} k l = record { counts = by }
    where
      by : (ws : List Word) (x : A ⊎ B) (s : SpellWith L (either f g) ws x) → Tallied (in_either c d x) (stands_with L inner (either f g) ws x s)
      by ws (inl x) s = k.counts ws x s
      by ws (inr x) s = l.counts ws x s

  pub c_made : {A B : Type 0} {f : F A} {c : A → ℕ} {d : B → ℕ} (h : A → B) → ((a : A) → c a ≡ d (h a)) → Counts L inner f c → Counts L inner (made h f) d
  c_made {f = f} {c} {d} h e k = record { counts = λ ws b s. t_is (stands_with L inner f ws s.0 s.2) (c s.0) (d b) (e s.0 ∙ ap d (sym s.1)) (k.counts ws s.0 s.2) }

  pub c_or : {A : Type 0} {f g : F A} {c : A → ℕ} → Counts L inner f c → Counts L inner g c → Counts L inner (f <|> g) c
  c_or {A} {c = c} k l = c_made merged by (c_either k l)
    where
      by : (x : A ⊎ A) → in_either c c x ≡ c (merged x)
      by (inl a) = refl
      by (inr a) = refl

  pub c_after : {A : Type 0} {f : F A} {c : A → ℕ} (k : Kind) → Counts L inner f c → Counts L inner (after k f) c
  c_after k p = c_made _ (λ x. omega arith) (c_both (c_word k) p)

  pub c_before : {A : Type 0} {f : F A} {c : A → ℕ} (k : Kind) → Counts L inner f c → Counts L inner (before f k) c
  c_before k p = c_made _ (λ x. omega arith) (c_both p (c_word k))

  -- ---- several

  pub c_chain : {A B : Type 0} {f : F (A ⊎ B)} (c : A → ℕ) (d : B → ℕ) → Counts L inner f (in_either c d) → Counts L inner (chain f) (λ x. total c x.0 + in_option d x.1)
  c_chain {A} {B} {f} c d k = record { counts = λ ws x s. by ws x.0 x.1 s }
    where
      by : (ws : List Word) (xs : List A) (b : Option B) (s : SpellChain (SpellWith L f) ws xs b) → Tallied (total c xs + in_option d b) (stands_chain (SpellWith L f) (stands_with L inner f) ws xs b s)
      by ws [] None s = refl
      by ws [] (Some b) s = t_is (stands_with L inner f ws (inr b) s) (d b) (0 + d b) (omega arith) (k.counts ws (inr b) s)
      by ws (x ∷ xs) b s =
          t_is (stands_with L inner f s.0 (inl x) s.3 ++ stands_chain (SpellWith L f) (stands_with L inner f) s.1 xs b s.4) (c x + (total c xs + in_option d b)) (total c (x ∷ xs) + in_option d b) (omega arith)
          (t_both (c x) (total c xs + in_option d b) (stands_with L inner f s.0 (inl x) s.3) (stands_chain (SpellWith L f) (stands_with L inner f) s.1 xs b s.4) (k.counts s.0 (inl x) s.3) (by s.1 xs b s.4))

  pub c_until : {A B : Type 0} {f : F A} {g : F B} (c : A → ℕ) (d : B → ℕ) → Counts L inner f c → Counts L inner g d → Counts L inner (until f g) (λ x. total c x.0 + d x.1)
  c_until {A} {B} {f} {g} c d k l = record { counts = λ ws x s. by ws x.0 x.1 s }
    where
      by : (ws : List Word) (xs : List A) (b : B) (s : SpellUntil (SpellWith L f) (SpellWith L g) ws xs b) → Tallied (total c xs + d b) (stands_until (SpellWith L f) (SpellWith L g) (stands_with L inner f) (stands_with L inner g) ws xs b s)
      by ws [] b s = t_is (stands_with L inner g ws b s) (d b) (0 + d b) (omega arith) (l.counts ws b s)
      by ws (x ∷ xs) b s =
          t_is (stands_with L inner f s.0 x s.3 ++ stands_until (SpellWith L f) (SpellWith L g) (stands_with L inner f) (stands_with L inner g) s.1 xs b s.4) (c x + (total c xs + d b)) (total c (x ∷ xs) + d b) (omega arith)
          (t_both (c x) (total c xs + d b) (stands_with L inner f s.0 x s.3) (stands_until (SpellWith L f) (SpellWith L g) (stands_with L inner f) (stands_with L inner g) s.1 xs b s.4) (k.counts s.0 x s.3) (by s.1 xs b s.4))

  pub c_many : {A : Type 0} {f : F A} (c : A → ℕ) → Counts L inner f c → Counts L inner (many f) (total c)
  c_many {A} c k = c_made _ by (c_chain c (λ b. 0) (c_made goes_on_with (λ a. refl) k))
    where
      by : (x : List A × Option ⊥) → total c x.0 + in_option (λ b. 0) x.1 ≡ total c x.0
      by (xs, None) = omega arith
      by (xs, Some b) = absurd b

  pub c_joined : {A : Type 0} {f : F A} (c : A → ℕ) (k : Kind) → Counts L inner f c → Counts L inner (joined_by k f) (total c)
  c_joined c k p = c_made _ (λ x. refl) (c_both p (c_many c (c_after k p)))

  pub c_optional : {A : Type 0} {f : F A} (c : A → ℕ) → Counts L inner f c → Counts L inner (optional f) (in_option c)
  c_optional {A} c k = c_made _ by (c_either {d = λ u. 0} k c_nothing)
    where
      by : (x : A ⊎ Unit {0}) → in_either c (λ u. 0) x ≡ in_option c (elim x [ inl a ↦ Some a | inr u ↦ None ])
      by (inl a) = refl
      by (inr u) = refl

  pub c_ahead : {A B : Type 0} {f : F A} {g : F B} {c : A → ℕ} {d : B → ℕ} (q : Mark) (j : Kind) (js : List Kind) (k : Kind) (n : ℕ) → mark_is q n → Counts L inner f c → Counts L inner g d → Counts L inner (ahead q j js k f g) (in_either (λ x. n + c x.1) d)
  c_ahead {A} {B} {f} {g} {c} {d} q j js k n i u v = record { counts = by }
    where
      by : (ws : List Word) (x : (Word × A) ⊎ B) (s : SpellWith L (ahead q j js k f g) ws x) → Tallied (in_either (λ (y : Word × A). n + c y.1) d x) (stands_with L inner (ahead q j js k f g) ws x s)
      by ws (inl x) s = (0, n + c x.1, refl, (n, c x.1, i, u.counts s.1 x.1 s.5, refl), (omega arith))
      by ws (inr x) s = v.counts ws x s
