-- Reading a grammar that one word of lookahead is enough for: exactly what is spelled, and exactly the first fault.
use Rattle.std.proofs.Common.{◌≡◌, ℕ, zero, suc, ◌+◌, ◌≤◌, ◌<◌, Bool, true, false, List, [], ◌∷◌, ◌++◌, length, Option, None, Ok, Err, refl, sym, ap, subst, ◌∙◌, append_assoc, length-append, arith, inl, inr, ◌⊎◌}
use Rattle.std.specs.Prelude.{◌||◌, ◌==◌, if◌then◌else◌}
use Rattle.std.proofs.lemmas.Bool.{and_parts, or_cases, eqb-true}
use Rattle.std.proofs.lemmas.List.{append-nil}
use Rattle.uc_forms.specs.declared.fault.Fault.{Fault}
use Rattle.uc_forms.specs.declared.fault.Fault.TheVariants.{Syntax, TooDeep}
use Rattle.uc_forms.specs.Alphabet.{Alphabet}
use Rattle.uc_forms.specs.Form.{Form, any, nothing, both, either, chain, until, made, ahead, deep, Rules, member}
use Rattle.uc_forms.specs.Spelling.{Stand, Language, SpellWith, SpellAt, Spells}
use Rattle.uc_forms.specs.Reading.{Outcome, ◌>>=◌, turned, paired, is_at, is_at_two, read_any, read_word, read_chain, read_until, skips, first, read_with, read_at, read, note_at, noted}
use Rattle.uc_forms.specs.Plain.{goes_on, within, is_plain, is_ready, IsPlain}
use Rattle.uc_forms.proofs.Judge.{Judge, judge_bind, judge_turned, judge_paired, judge_more, Fits, Begun}
use Rattle.uc_forms.proofs.Run.{more, Ready, Runs, run, example_in}
use Rattle.uc_forms.proofs.Opening.{OpensBy, opening, opens_wider, Idle, idle}
use Rattle.uc_forms.proofs.Complete.{Reads, complete, longer}
use Rattle.uc_forms.proofs.Leads.{Leads, leads}
use Rattle.uc_forms.proofs.Counts.{Counts, counts, left, StepOf, TurnOf}
use Rattle.uc_forms.proofs.Alike.{Alike, Decided, Moves, Follows, follow, same_test}

module _ (T : Alphabet) where
  -- ---- more room

  abbrev pub Kept : {A : Type 0} → Outcome T.Word A → Outcome T.Word A → Type 0
  Kept r s = Judge (λ a rest. s ≡ Ok (a, rest)) (λ e rest. e ≡ Syntax → s ≡ Err (Syntax, rest)) r

  kept_turned : {A B : Type 0} (h : A → B) (r s : Outcome T.Word A) → Kept r s → Kept (turned h r) (turned h s)
  kept_turned h r s j = judge_turned (λ a rest. s ≡ Ok (a, rest)) (λ e rest. e ≡ Syntax → s ≡ Err (Syntax, rest)) (λ a rest. turned h s ≡ Ok (a, rest)) (λ e rest. e ≡ Syntax → turned h s ≡ Err (Syntax, rest)) h r j
      (λ a rest p. ap (λ x. turned h x) p) (λ e rest p q. ap (λ x. turned h x) (p q))

  kept_paired : {A B : Type 0} (r s : Outcome T.Word A) (g k : List T.Word → Outcome T.Word B) → Kept r s → ((ws : List T.Word) → Kept (g ws) (k ws)) → Kept (paired r g) (paired s k)
  kept_paired r s g k j h = judge_paired (λ a rest. s ≡ Ok (a, rest)) (λ e rest. e ≡ Syntax → s ≡ Err (Syntax, rest)) (λ a rest. paired s k ≡ Ok (a, rest)) (λ e rest. e ≡ Syntax → paired s k ≡ Err (Syntax, rest)) r g j
      (λ a rest p. rw p (kept_turned (λ b. (a, b)) (g rest) (k rest) (h rest)))
      (λ e rest p q. ap (λ x. paired x k) (p q))

  kept_bind : {A B : Type 0} (r s : Outcome T.Word A) (g k : A × List T.Word → Outcome T.Word B) → Kept r s → ((a : A) (ws : List T.Word) → Kept (g (a, ws)) (k (a, ws))) → Kept (r >>= g) (s >>= k)
  kept_bind r s g k j h = judge_bind (λ a rest. s ≡ Ok (a, rest)) (λ e rest. e ≡ Syntax → s ≡ Err (Syntax, rest)) (λ a rest. (s >>= k) ≡ Ok (a, rest)) (λ e rest. e ≡ Syntax → (s >>= k) ≡ Err (Syntax, rest)) r g j
      (λ a rest p. rw p (h a rest))
      (λ e rest p q. ap (λ x. x >>= k) (p q))

  kept_same : {A : Type 0} (r : Outcome T.Word A) → Kept r r
  kept_same (Ok x) = refl
  kept_same (Err e) = λ p. rw p refl

  kept_if : {A : Type 0} (b : Bool) (r s x y : Outcome T.Word A) → Kept r x → Kept s y → Kept (if b then r else s) (if b then x else y)
  kept_if true r s x y h k = h
  kept_if false r s x y h k = k

  kept_step : {A B : Type 0} (so_far less : List T.Word → Outcome T.Word (List A × Option B)) → ((ws : List T.Word) → Kept (so_far ws) (less ws)) → (x : A ⊎ B) (ws : List T.Word)
      → Kept (StepOf so_far x ws) (StepOf less x ws)
  kept_step so_far less h (inl a) ws = kept_turned (λ y. (a ∷ y.0, y.1)) (so_far ws) (less ws) (h ws)
  kept_step so_far less h (inr b) ws = refl

  kept_chain : {A B : Type 0} (cs : List ℕ) (item other : List T.Word → Outcome T.Word (A ⊎ B)) → ((ws : List T.Word) → Kept (item ws) (other ws)) → (n : ℕ) (ws : List T.Word) → Kept (read_chain T cs item n ws) (read_chain T cs other n ws)
  unfolding read_chain
  kept_chain cs item other h zero ws = refl
  kept_chain cs item other h (suc n) ws = kept_if (is_at T cs ws) _ _ _ _ (kept_bind (item ws) (other ws) (λ x. StepOf (read_chain T cs item n) x.0 x.1) (λ x. StepOf (read_chain T cs other n) x.0 x.1) (h ws) (kept_step (read_chain T cs item n) (read_chain T cs other n) (kept_chain cs item other h n))) refl

  kept_until : {A B : Type 0} (cs : List ℕ) (item other : List T.Word → Outcome T.Word A) (ender last : List T.Word → Outcome T.Word B) → ((ws : List T.Word) → Kept (item ws) (other ws)) → ((ws : List T.Word) → Kept (ender ws) (last ws)) → (n : ℕ) (ws : List T.Word) → Kept (read_until T cs item ender n ws) (read_until T cs other last n ws)
  unfolding read_until
  kept_until cs item other ender last h g zero ws = kept_turned (λ b. ([], b)) (ender ws) (last ws) (g ws)
  kept_until cs item other ender last h g (suc n) ws = kept_if (is_at T cs ws) _ _ _ _ (kept_turned (λ b. ([], b)) (ender ws) (last ws) (g ws))
      (kept_bind (item ws) (other ws) (λ x. TurnOf (read_until T cs item ender n) x.0 x.1) (λ x. TurnOf (read_until T cs other last n) x.0 x.1) (h ws) (λ a rest. kept_turned (λ y. (a ∷ y.0, y.1)) (read_until T cs item ender n rest) (read_until T cs other last n rest) (kept_until cs item other ender last h g n rest)))

  kept : {N : Type 0} {V : N → Type 0} (opens : N → List ℕ) (deeper lower : (n : N) → List T.Word → Outcome T.Word (V n)) → ((n : N) (ws : List T.Word) → Kept (deeper n ws) (lower n ws))
      → {A : Type 0} (f : Form T N V A) (ws : List T.Word) → Kept (read_with opens deeper f ws) (read_with opens lower f ws)
  kept opens deeper lower h (any q j js) ws = kept_same _
  kept opens deeper lower h nothing ws = refl
  kept opens deeper lower h (both f g) ws = kept_paired (read_with opens deeper f ws) (read_with opens lower f ws) (read_with opens deeper g) (read_with opens lower g) (kept opens deeper lower h f ws) (kept opens deeper lower h g)
  kept opens deeper lower h (either f g) ws = kept_if (is_at T (first opens f) ws) _ _ _ _ (kept_turned inl (read_with opens deeper f ws) (read_with opens lower f ws) (kept opens deeper lower h f ws)) (kept_turned inr (read_with opens deeper g ws) (read_with opens lower g ws) (kept opens deeper lower h g ws))
  kept opens deeper lower h (chain f) ws = kept_chain (first opens f) (read_with opens deeper f) (read_with opens lower f) (kept opens deeper lower h f) (length ws) ws
  kept opens deeper lower h (until f g) ws = kept_until (first opens g) (read_with opens deeper f) (read_with opens lower f) (read_with opens deeper g) (read_with opens lower g) (kept opens deeper lower h f) (kept opens deeper lower h g) (suc (length ws)) ws
  kept opens deeper lower h (made c f) ws = kept_turned c (read_with opens deeper f ws) (read_with opens lower f ws) (kept opens deeper lower h f ws)
  kept opens deeper lower h (ahead q j js k f g) ws = kept_if (is_at_two T j js k ws) _ _ _ _
      (kept_turned inl _ _ (kept_paired (read_any T j js ws) (read_any T j js ws) _ _ (kept_same (read_any T j js ws)) (λ us. kept_turned (λ x. x.1) _ _ (kept_paired (read_word T k us) (read_word T k us) (read_with opens deeper f) (read_with opens lower f) (kept_same (read_word T k us)) (kept opens deeper lower h f)))))
      (kept_turned inr (read_with opens deeper g ws) (read_with opens lower g ws) (kept opens deeper lower h g ws))
  kept opens deeper lower h (deep n) ws = h n ws

  -- ---- words for a form without nested ones

  ready_flat : {N : Type 0} {V : N → Type 0} (Y : Language T N V) {A : Type 0} (f : Form T N V A) → is_ready f ≡ true → Ready T (SpellWith Y f)
  ready_flat Y (any q j js) p = (T.example j ∷ [], T.example j, (refl, example_in T j js))
  ready_flat Y nothing p = ([], tt, refl)
  ready_flat Y (both f g) p = let x = and_parts (is_ready f) (is_ready g) p in let s = ready_flat Y f x.0 in let t = ready_flat Y g x.1 in (s.0 ++ t.0, (s.1, t.1), (s.0, t.0, refl, s.2, t.2))
  ready_flat Y (either f g) p = elim (or_cases (is_ready f) (is_ready g) p) [
    | inl e ↦ (let s = ready_flat Y f e in (s.0, inl s.1, s.2))
    | inr e ↦ (let s = ready_flat Y g e in (s.0, inr s.1, s.2))
  ]
  ready_flat Y (chain f) p = ([], ([], None), refl)
  ready_flat Y (until f g) p = let t = ready_flat Y g p in (t.0, ([], t.1), t.2)
  ready_flat Y (made h f) p = let s = ready_flat Y f p in (s.0, h s.1, (s.1, refl, s.2))
  ready_flat Y (ahead q j js k f g) p = let s = ready_flat Y g p in (s.0, inr s.1, s.2)
  ready_flat Y (deep n) p = absurd cc

  abbrev done : {A : Type 0} → A → List T.Word → Outcome T.Word A
  done a rest = Ok (a, rest)

  abbrev rest_of : {A : Type 0} → Outcome T.Word A → List T.Word
  rest_of (Ok x) = x.1
  rest_of (Err e) = e.1

  more_left : {A : Type 0} (a b : A) (w : T.Word) (ws : List T.Word) → done a (w ∷ ws) ≡ done b [] → ⊥
  more_left a b w ws e = let z : w ∷ ws ≡ [] = ap rest_of e in cc z

  -- ---- by levels

  pub is_at_within : (cs ds : List ℕ) (ws : List T.Word) → within cs ds ≡ true → is_at T ds ws ≡ false → is_at T cs ws ≡ false
  is_at_within cs ds [] p e = refl
  is_at_within [] ds (w ∷ ws) p e = refl
  is_at_within (c ∷ cs) ds (w ∷ ws) p e = tested (and_parts (member c ds) (within cs ds) p).0 (is_at_within cs ds (w ∷ ws) (and_parts (member c ds) (within cs ds) p).1 e) (T.kind w == c) refl
    where
      tested : member c ds ≡ true → member (T.kind w) cs ≡ false → (b : Bool) → (T.kind w == c) ≡ b → (b || member (T.kind w) cs) ≡ false
      tested q ih true i = absurd (let k : T.kind w ≡ c = eqb-true (T.kind w) c i in let z : member (T.kind w) ds ≡ true = rw k q in cc (z, e))
      tested q ih false i = ih

  module _ {N : Type 0} {V : N → Type 0} (rule : Rules T N V) (opens goes : N → List ℕ) (g : IsPlain rule opens goes) where
    pub at_opening : (m : ℕ) (n : N) (ws : List T.Word) (v : V n) → SpellAt rule m n ws v → OpensBy T (opens n) false ws
    unfolding SpellAt
    at_opening zero n ws v s = absurd s
    at_opening (suc m) n ws v s = opens_wider T (first opens (rule n)) (opens n) (skips (rule n)) false ws (λ c e. subst (λ (cs : List ℕ). member c cs ≡ true) (g.first_is n) e) (λ e. sym (g.has_words n) ∙ e) (opening T (SpellAt rule m) opens (at_opening m) (rule n) ws v s)

    at_idle : (m : ℕ) (n : N) (ws : List T.Word) → is_at T (opens n) ws ≡ false → read_at rule opens m n ws ≡ Err (Syntax, ws)
    unfolding read_at
    at_idle zero n ws e = rw e refl
    at_idle (suc m) n ws e = subst (λ (b : Bool). Idle T b ws (read_with opens (read_at rule opens m) (rule n) ws)) (g.has_words n) (idle T opens goes (read_at rule opens m) (at_idle m) (rule n) (g.plain n) ws (subst (λ (cs : List ℕ). is_at T cs ws ≡ false) (sym (g.first_is n)) e))

    at_complete : (m : ℕ) (n : N) → Reads T (SpellAt rule m n) (goes n) (read_at rule opens m n)
    unfolding SpellAt read_at
    at_complete zero n front v rest s out = absurd s
    at_complete (suc m) n front v rest s out = complete T (SpellAt rule m) opens goes (read_at rule opens m) (at_opening m) (at_complete m) (rule n) (g.plain n) front v rest s (is_at_within (goes_on opens goes (rule n)) (goes n) rest (g.stays n) out)

    at_up : (m : ℕ) (n : N) (ws : List T.Word) (v : V n) → SpellAt rule m n ws v → SpellAt rule (suc m) n ws v
    unfolding SpellAt
    at_up zero n ws v s = absurd s
    at_up (suc m) n ws v s = more T (SpellAt rule m) (SpellAt rule (suc m)) (at_up m) (rule n) ws v s

    at_ready : (m : ℕ) (n : N) → Ready T (SpellAt rule (suc m) n)
    unfolding SpellAt
    at_ready m n = ready_flat (SpellAt rule m) (rule n) (g.ready n)

    at_up_two : (m : ℕ) (n : N) (ws : List T.Word) (v : V n) → SpellAt rule m n ws v → SpellAt rule (suc (suc m)) n ws v
    at_up_two m n ws v s = at_up (suc m) n ws v (at_up m n ws v s)

    at_leads : (m : ℕ) (n : N) (w : T.Word) → member (T.kind w) (opens n) ≡ true → Leads T (SpellAt rule (suc (suc m)) n) w
    unfolding SpellAt
    at_leads m n w e = leads T (SpellAt rule (suc m)) opens (at_ready m) (rule n) (g.direct n) w (subst (λ (cs : List ℕ). member (T.kind w) cs ≡ true) (sym (g.first_is n)) e)

    not_taken : (m : ℕ) (n : N) (ws : List T.Word) (b : Bool) → is_at T (opens n) ws ≡ b → Judge (Fits (SpellAt rule zero n) ws) (Begun (SpellAt rule (suc (suc m)) n) ws) (if b then Err (TooDeep, ws) else Err (Syntax, ws))
    not_taken m n [] true e = absurd cc
    not_taken m n (w ∷ ws) true e = let r = at_leads m n w e in ([], w ∷ r.0, r.1, refl, r.2, (w, ws, r.0, refl, refl))
    not_taken m n ws false e = let r = at_ready (suc m) n in ([], r.0, r.1, refl, r.2, tt)

    at_runs : (m : ℕ) (n : N) → Runs T (SpellAt rule m n) (SpellAt rule (suc (suc m)) n) (read_at rule opens m n)
    unfolding SpellAt read_at
    at_runs zero n ws = not_taken zero n ws (is_at T (opens n) ws) refl
    at_runs (suc m) n ws = run T (SpellAt rule m) (SpellAt rule (suc (suc m))) (at_up_two m) (at_ready (suc m)) opens (read_at rule opens m) (at_runs m) (rule n) ws

    pub runs : (m : ℕ) {A : Type 0} (f : Form T N V A) → Runs T (Spells rule m f) (Spells rule (suc (suc m)) f) (read rule opens m f)
    runs m f = run T (SpellAt rule m) (SpellAt rule (suc (suc m))) (at_up_two m) (at_ready (suc m)) opens (read_at rule opens m) (at_runs m) f

    at_kept : (m : ℕ) (n : N) (ws : List T.Word) → Kept (read_at rule opens m n ws) (read_at rule opens (suc m) n ws)
    unfolding read_at
    at_kept zero n ws = tested (is_at T (opens n) ws) refl
      where
        tested : (b : Bool) → is_at T (opens n) ws ≡ b → Kept (if b then Err (TooDeep, ws) else Err (Syntax, ws)) (read_at rule opens 1 n ws)
        tested true e = λ p. absurd cc
        tested false e = λ p. at_idle 1 n ws e
    at_kept (suc m) n ws = kept opens (read_at rule opens m) (read_at rule opens (suc m)) (at_kept m) (rule n) ws

    pub at_counts : (m : ℕ) (n : N) (ws : List T.Word) → Counts ws (read_at rule opens m n ws) (note_at rule opens m n ws)
    unfolding read_at note_at
    at_counts zero n ws = refused (is_at T (opens n) ws)
      where
        refused : (b : Bool) → Counts {A = V n} ws (if b then Err (TooDeep, ws) else Err (Syntax, ws)) []
        refused true = omega arith
        refused false = omega arith
    at_counts (suc m) n ws = counts T opens (read_at rule opens m) (note_at rule opens m) (at_counts m) (rule n) ws

    -- each word that reading takes is noted
    pub counted : (m : ℕ) {A : Type 0} (f : Form T N V A) (ws : List T.Word) → Counts ws (read rule opens m f ws) (noted rule opens m f ws)
    counted m f ws = counts T opens (read_at rule opens m) (note_at rule opens m) (at_counts m) f ws

    pub at_moves : (m : ℕ) (A : Type 0) (f : Form T N V A) → skips f ≡ false → Moves (read rule opens m f)
    at_moves m A f skip ws = judge_more (Fits (SpellWith (SpellAt rule m) f) ws) (λ a rest. length rest < length ws) (Begun (SpellWith (SpellAt rule (suc (suc m))) f) ws) (λ e rest. length rest ≤ length ws) (read rule opens m f ws)
        (runs m f ws)
        (λ a rest p. let k : length ws ≡ length p.0 + length rest = ap length p.1 ∙ length-append p.0 rest in let z = longer T p.0 (first opens f) (skips f) skip (opening T (SpellAt rule m) opens (at_opening m) f p.0 a p.2) in omega arith)
        (λ e rest p. let k : length ws ≡ length p.0 + length rest = ap length p.3 ∙ length-append p.0 rest in omega arith)

    pub at_follows : (t : T.Word) (o q : List T.Word) (m : ℕ) (n : N) → Follows t o q (read_at rule opens m n) (note_at rule opens m n)
    unfolding read_at note_at
    at_follows t o q zero n front = refused (is_at T (opens n) (front ++ t ∷ o)) (is_at T (opens n) (front ++ t ∷ q)) (same_test T t o q (opens n) front)
      where
        refused : (b c : Bool) → b ≡ c → Alike {A = V n} t o q (length front) (if b then Err (TooDeep, front ++ t ∷ o) else Err (Syntax, front ++ t ∷ o)) [] (if c then Err (TooDeep, front ++ t ∷ q) else Err (Syntax, front ++ t ∷ q)) []
        refused true true e = inr (inr (TooDeep, front, refl, refl, refl))
        refused true false e = absurd cc
        refused false true e = absurd cc
        refused false false e = inr (inr (Syntax, front, refl, refl, refl))
    at_follows t o q (suc m) n front = follow T t o q opens goes (read_at rule opens m) (note_at rule opens m) (at_follows t o q m) (at_moves m) (rule n) (g.plain n) front

    -- more levels
    pub raise : {A : Type 0} (f : Form T N V A) (k m : ℕ) (ws : List T.Word) (a : A) → Spells rule m f ws a → Spells rule (k + m) f ws a
    raise f zero m ws a s = subst (λ (i : ℕ). Spells rule i f ws a) (omega arith) s
    raise f (suc k) m ws a s = subst (λ (i : ℕ). Spells rule i f ws a) (omega arith) (more T (SpellAt rule (k + m)) (SpellAt rule (suc (k + m))) (at_up (k + m)) f ws a (raise f k m ws a s))

    roomier : {A : Type 0} (f : Form T N V A) (k m : ℕ) (ws rest : List T.Word) → read rule opens m f ws ≡ Err (Syntax, rest) → read rule opens (k + m) f ws ≡ Err (Syntax, rest)
    roomier f zero m ws rest e = subst (λ (i : ℕ). read rule opens i f ws ≡ Err (Syntax, rest)) (omega arith) e
    roomier {A} f (suc k) m ws rest e = subst (λ (i : ℕ). read rule opens i f ws ≡ Err (Syntax, rest)) (omega arith)
        (by_kept (read rule opens (k + m) f ws) (read rule opens (suc (k + m)) f ws) rest (roomier f k m ws rest e) (kept opens (read_at rule opens (k + m)) (read_at rule opens (suc (k + m))) (at_kept (k + m)) f ws))
      where
        by_kept : (r s : Outcome T.Word A) (rest : List T.Word) → r ≡ Err (Syntax, rest) → Kept r s → s ≡ Err (Syntax, rest)
        by_kept r s rest e k = let j : Kept (Err (Syntax, rest)) s = subst (λ (x : Outcome T.Word A). Kept x s) e k in j refl

    roomier_ok : {A : Type 0} (f : Form T N V A) (k m : ℕ) (ws rest : List T.Word) (a : A) → read rule opens m f ws ≡ Ok (a, rest) → read rule opens (k + m) f ws ≡ Ok (a, rest)
    roomier_ok f zero m ws rest a e = subst (λ (i : ℕ). read rule opens i f ws ≡ Ok (a, rest)) (omega arith) e
    roomier_ok {A} f (suc k) m ws rest a e = subst (λ (i : ℕ). read rule opens i f ws ≡ Ok (a, rest)) (omega arith)
        (by_kept (read rule opens (k + m) f ws) (read rule opens (suc (k + m)) f ws) (roomier_ok f k m ws rest a e) (kept opens (read_at rule opens (k + m)) (read_at rule opens (suc (k + m))) (at_kept (k + m)) f ws))
      where
        by_kept : (r s : Outcome T.Word A) → r ≡ Ok (a, rest) → Kept r s → s ≡ Ok (a, rest)
        by_kept r s e k = let j : Kept (Ok (a, rest)) s = subst (λ (x : Outcome T.Word A). Kept x s) e k in j

    module _ {A : Type 0} (f : Form T N V A) (p : is_plain opens goes f ≡ true) where
      pub exactly : (m : ℕ) (ws : List T.Word) (a : A) → Spells rule m f ws a → read rule opens m f ws ≡ Ok (a, [])
      exactly m ws a s = ap (λ u. read rule opens m f u) (sym (append-nil ws)) ∙ complete T (SpellAt rule m) opens goes (read_at rule opens m) (at_opening m) (at_complete m) f p ws a [] s refl

      -- two readings of words that agree through w
      pub follows : (m : ℕ) (w : T.Word) (rest other : List T.Word) → Follows w rest other (read rule opens m f) (noted rule opens m f)
      follows m w rest other front = follow T w rest other opens goes (read_at rule opens m) (note_at rule opens m) (at_follows w rest other m) (at_moves m) f p front

      no_words : (back rest : List T.Word) (w : T.Word) → w ∷ rest ≡ back ++ w ∷ rest → back ≡ []
      no_words [] rest w e = refl
      no_words (v ∷ back) rest w e = absurd (let k = length-append back (w ∷ rest) in let l : length (w ∷ rest) ≡ length ((v ∷ back) ++ w ∷ rest) = ap length e in omega arith)

      -- the word at which reading stops isn't taken
      not_decided : (m : ℕ) (front rest : List T.Word) (w : T.Word) (r : Outcome T.Word A) (ys : List (Stand T.Word)) → read rule opens m f (front ++ w ∷ rest) ≡ r → left r ≡ w ∷ rest → Decided (length front) (noted rule opens m f (front ++ w ∷ rest)) ys → ⊥
      not_decided m front rest w r ys e i d =
          let c : length (noted rule opens m f (front ++ w ∷ rest)) + length (left (read rule opens m f (front ++ w ∷ rest))) ≡ length (front ++ w ∷ rest) = counted m f (front ++ w ∷ rest) in
          let x : length (left (read rule opens m f (front ++ w ∷ rest))) ≡ length (w ∷ rest) = ap (λ (o : Outcome T.Word A). length (left o)) e ∙ ap length i in
          let y = length-append front (w ∷ rest) in
          let z : length (noted rule opens m f (front ++ w ∷ rest)) ≡ length d.0 + length d.1 = ap length d.3 ∙ length-append d.0 d.1 in
          let u = d.5 in
          absurd (omega arith)

      -- a fault at a word comes whatever words come after it
      pub again_err : (m : ℕ) (front rest other : List T.Word) (w : T.Word) (e : Fault) → read rule opens m f (front ++ w ∷ rest) ≡ Err (e, w ∷ rest) → read rule opens m f (front ++ w ∷ other) ≡ Err (e, w ∷ other)
      again_err m front rest other w e h = elim (follows m w rest other front) [
        | inl d ↦ absurd (not_decided m front rest w (Err (e, w ∷ rest)) _ h refl d)
        | inr s ↦ elim s [
          | inl t ↦ absurd (let z : Err (e, w ∷ rest) ≡ Ok (t.0, t.1 ++ w ∷ rest) = sym h ∙ t.2 in cc z)
          | inr t ↦ (
              let z : Err (e, w ∷ rest) ≡ Err (t.0, t.1 ++ w ∷ rest) = sym h ∙ t.2 in
              let b : t.1 ≡ [] = no_words t.1 rest w (ap left z) in
              let c : e ≡ t.0 = ap (λ (o : Outcome T.Word A). fault_of o) z in
              subst (λ (u : List T.Word). read rule opens m f (front ++ w ∷ other) ≡ Err (e, u ++ w ∷ other)) b (subst (λ (d : Fault). read rule opens m f (front ++ w ∷ other) ≡ Err (d, t.1 ++ w ∷ other)) (sym c) t.3)
              )
        ]
      ]
        where
          fault_of : Outcome T.Word A → Fault
          fault_of (Ok x) = Syntax
          fault_of (Err d) = d.0

      again_ok : (m : ℕ) (front rest other : List T.Word) (w : T.Word) (a : A) → read rule opens m f (front ++ w ∷ rest) ≡ Ok (a, w ∷ rest) → read rule opens m f (front ++ w ∷ other) ≡ Ok (a, w ∷ other)
      again_ok m front rest other w a h = elim (follows m w rest other front) [
        | inl d ↦ absurd (not_decided m front rest w (Ok (a, w ∷ rest)) _ h refl d)
        | inr s ↦ elim s [
          | inl t ↦ (
              let z : Ok (a, w ∷ rest) ≡ Ok (t.0, t.1 ++ w ∷ rest) = sym h ∙ t.2 in
              let b : t.1 ≡ [] = no_words t.1 rest w (ap left z) in
              let c : a ≡ t.0 = ap (λ (o : Outcome T.Word A). value_of a o) z in
              subst (λ (u : List T.Word). read rule opens m f (front ++ w ∷ other) ≡ Ok (a, u ++ w ∷ other)) b (subst (λ (d : A). read rule opens m f (front ++ w ∷ other) ≡ Ok (d, t.1 ++ w ∷ other)) (sym c) t.3)
              )
          | inr t ↦ absurd (let z : Ok (a, w ∷ rest) ≡ Err (t.0, t.1 ++ w ∷ rest) = sym h ∙ t.2 in cc z)
        ]
      ]
        where
          value_of : A → Outcome T.Word A → A
          value_of b (Ok x) = x.0
          value_of b (Err d) = b

      -- no level gives room for what is at fault as it stands
      pub none_at_end : (m k : ℕ) (ws : List T.Word) (a : A) → read rule opens m f ws ≡ Err (Syntax, []) → Spells rule k f ws a → ⊥
      none_at_end m k ws a e s =
          let r : read rule opens (k + m) f ws ≡ Err (Syntax, []) = roomier f k m ws [] e in
          let i : m + k ≡ k + m = omega arith in
          let t : read rule opens (k + m) f ws ≡ Ok (a, []) = subst (λ (j : ℕ). read rule opens j f ws ≡ Ok (a, [])) i (exactly (m + k) ws a (raise f m k ws a s)) in
          let z : Err (Syntax, []) ≡ Ok (a, []) = sym r ∙ t in
          cc z

      pub none_through : (m k : ℕ) (front rest end : List T.Word) (w : T.Word) (a : A) → read rule opens m f (front ++ w ∷ rest) ≡ Err (Syntax, w ∷ rest) → Spells rule k f ((front ++ w ∷ []) ++ end) a → ⊥
      none_through m k front rest end w a e s =
          let r : read rule opens (k + m) f (front ++ w ∷ end) ≡ Err (Syntax, w ∷ end) = again_err (k + m) front rest end w Syntax (roomier f k m (front ++ w ∷ rest) (w ∷ rest) e) in
          let i : m + k ≡ k + m = omega arith in
          let u : Spells rule k f (front ++ w ∷ end) a = subst (λ (ws : List T.Word). Spells rule k f ws a) (append_assoc front (w ∷ []) end) s in
          let t : read rule opens (k + m) f (front ++ w ∷ end) ≡ Ok (a, []) = subst (λ (j : ℕ). read rule opens j f (front ++ w ∷ end) ≡ Ok (a, [])) i (exactly (m + k) (front ++ w ∷ end) a (raise f m k (front ++ w ∷ end) a u)) in
          let z : Err (Syntax, w ∷ end) ≡ Ok (a, []) = sym r ∙ t in
          cc z

      pub none_after : (m k : ℕ) (front rest end : List T.Word) (w : T.Word) (a b : A) → read rule opens m f (front ++ w ∷ rest) ≡ Ok (b, w ∷ rest) → Spells rule k f ((front ++ w ∷ []) ++ end) a → ⊥
      none_after m k front rest end w a b e s =
          let r : read rule opens (k + m) f (front ++ w ∷ end) ≡ Ok (b, w ∷ end) = again_ok (k + m) front rest end w b (roomier_ok f k m (front ++ w ∷ rest) (w ∷ rest) b e) in
          let i : m + k ≡ k + m = omega arith in
          let u : Spells rule k f (front ++ w ∷ end) a = subst (λ (ws : List T.Word). Spells rule k f ws a) (append_assoc front (w ∷ []) end) s in
          let t : read rule opens (k + m) f (front ++ w ∷ end) ≡ Ok (a, []) = subst (λ (j : ℕ). read rule opens j f (front ++ w ∷ end) ≡ Ok (a, [])) i (exactly (m + k) (front ++ w ∷ end) a (raise f m k (front ++ w ∷ end) a u)) in
          more_left b a w end (sym r ∙ t)

      none_within : (m : ℕ) (front rest end : List T.Word) (w : T.Word) (a : A) → read rule opens m f (front ++ w ∷ rest) ≡ Err (TooDeep, w ∷ rest) → Spells rule m f ((front ++ w ∷ []) ++ end) a → ⊥
      none_within m front rest end w a e s =
          let r : read rule opens m f (front ++ w ∷ end) ≡ Err (TooDeep, w ∷ end) = again_err m front rest end w TooDeep e in
          let u : Spells rule m f (front ++ w ∷ end) a = subst (λ (ws : List T.Word). Spells rule m f ws a) (append_assoc front (w ∷ []) end) s in
          let z : Err (TooDeep, w ∷ end) ≡ Ok (a, []) = sym r ∙ exactly m (front ++ w ∷ end) a u in
          cc z
