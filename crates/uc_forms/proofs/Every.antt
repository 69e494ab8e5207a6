-- The laws of reading, for every plain grammar.
use Rattle.std.proofs.Common.{◌≡◌, ℕ, zero, suc, ◌+◌, ◌≤◌, ◌<◌, Bool, true, false, List, [], ◌∷◌, ◌++◌, length, map, Option, Some, None, Ok, Err, refl, sym, ap, subst, ◌∙◌, append_assoc, length-append, arith, inl, inr, ◌⊎◌}
use Rattle.std.specs.Prelude.{◌||◌, if◌then◌else◌, nat_lt, take, drop}
use Rattle.std.proofs.lemmas.List.{append-nil}
use Rattle.std.proofs.Math.Seq.{take-append_seam}
use Rattle.uc_forms.specs.declared.fault.Fault.TheVariants.{Syntax, TooDeep}
use Rattle.uc_forms.specs.Alphabet.{Alphabet}
use Rattle.uc_forms.specs.Form.{Mark, quiet, declares, restarts, Form, Rules}
use Rattle.uc_forms.specs.Spelling.{SpellAt, Spells, Stand, one_deeper, stands_with, stands_at, stands, is_past, is_deeper, past_limit}
use Rattle.uc_forms.specs.Reading.{Outcome, read_at, read, note_at, noted}
use Rattle.uc_forms.specs.Plain.{is_plain, goes_on, IsPlain}
use Rattle.uc_forms.specs.Grammar.{Grammar}
use Rattle.uc_forms.specs.Answer.{Answer, spelled, wrong, too_deep, too_many, WordOf, IsClean, BeginsAs, IsAnswer, whole, first_of}
use Rattle.uc_forms.specs.Law.{ReadIsSpelled, SpelledIsRead, DeepIsRefused, LevelsBoundDepths, DepthsBoundLevels, FaultComesAgain, FaultCompletes, StandAlike, OneValue, AnswersRight, OneAnswer}
use Rattle.uc_forms.proofs.Judge.{Judge, Fits, Begun}
use Rattle.uc_forms.proofs.Complete.{begins, longer}
use Rattle.uc_forms.proofs.Counts.{left}
use Rattle.uc_forms.proofs.Track.{cut, before_cut, verdict, Tracks, cut_deeper, before_deeper, Measured, measured, Along, along}
use Rattle.uc_forms.proofs.Exact.{at_opening, is_at_within, counted, follows, exactly, raise, again_err, runs, none_at_end, none_through, none_after}

-- ---- lists of how words stand

take_of : {A : Type 0} (xs c l : List A) (n : ℕ) → xs ≡ c ++ l → length c ≡ n → take n xs ≡ c
take_of xs c l n e i = ap (λ us. take n us) e ∙ ap (λ k. take k (c ++ l)) (sym i) ∙ take-append_seam c l

same_front : {A : Type 0} (xs l ys k : List A) → length xs ≡ length ys → xs ++ l ≡ ys ++ k → (xs ≡ ys) × (l ≡ k)
same_front [] l [] k i e = (refl, e)
same_front [] l (y ∷ ys) k i e = absurd (omega (arith, i))
same_front (x ∷ xs) l [] k i e = absurd (omega (arith, i))
same_front (x ∷ xs) l (y ∷ ys) k i e = let a : x ≡ y = cc e in let b : xs ++ l ≡ ys ++ k = cc e in let r = same_front xs l ys k (omega arith) b in let r0 = r.0 in (cc (a, r0), r.1)

no_more : {A : Type 0} (c l : List A) → length (c ++ l) ≤ length c → l ≡ []
no_more c [] h = refl
no_more c (x ∷ l) h = absurd (let i = length-append c (x ∷ l) in omega arith)

-- words of which the last is known
split_last : {A : Type 0} (xs : List A) → (xs ≡ []) ⊎ ((ys : List A) × (y : A) × (xs ≡ ys ++ y ∷ []))
split_last [] = inl refl
split_last (x ∷ xs) = elim (split_last xs) [
  | inl e ↦ inr ([], x, ap (λ us. x ∷ us) e)
  | inr s ↦ inr (x ∷ s.0, s.1, ap (λ us. x ∷ us) s.2)
]

split_at : {A : Type 0} (n : ℕ) (xs : List A) → n < length xs → (ys : List A) × (y : A) × (zs : List A) × (xs ≡ ys ++ y ∷ zs) × (length ys ≡ n)
split_at n [] h = absurd (omega arith)
split_at zero (x ∷ xs) h = ([], x, xs, refl, refl)
split_at (suc n) (x ∷ xs) h = let s = split_at n xs (omega arith) in (x ∷ s.0, s.1, s.2, ap (λ us. x ∷ us) s.3, (let i = s.4 in omega arith))

deeper_front : {W : Type 0} (m : ℕ) (xs ys : List (Stand W)) → is_deeper m (xs ++ ys) ≡ false → is_deeper m xs ≡ false
deeper_front m [] ys h = refl
deeper_front {W} m (x ∷ xs) ys h = tested (is_past m x.depth) h (deeper_front m xs ys)
  where
    tested : (b : Bool) → (b || is_deeper m (xs ++ ys)) ≡ false → (is_deeper m (xs ++ ys) ≡ false → is_deeper m xs ≡ false) → (b || is_deeper m xs) ≡ false
    tested true h k = absurd cc
    tested false h k = k h

deeper_last : {W : Type 0} (m : ℕ) (xs : List (Stand W)) (z : Stand W) → is_past m z.depth ≡ true → is_deeper m (xs ++ z ∷ []) ≡ true
deeper_last m [] z h = rw h refl
deeper_last {W} m (x ∷ xs) z h = tested (is_past m x.depth) (deeper_last m xs z h)
  where
    tested : (b : Bool) → is_deeper m (xs ++ z ∷ []) ≡ true → (b || is_deeper m (xs ++ z ∷ [])) ≡ true
    tested true h = refl
    tested false h = h

past_front : {W : Type 0} (limit count : ℕ) (xs ys : List (Stand W)) → past_limit limit count (xs ++ ys) ≡ None → past_limit limit count xs ≡ None
past_front limit count [] ys h = refl
past_front {W} limit count (x ∷ xs) ys h = tested x.mark (nat_lt count limit) h (past_front limit count xs ys) (past_front limit (suc count) xs ys) (past_front limit 0 xs ys)
  where
    tested : (q : Mark) (b : Bool) → (let r : Option W = elim q [ quiet ↦ past_limit limit count (xs ++ ys) | declares ↦ if b then past_limit limit (suc count) (xs ++ ys) else Some x.name | restarts ↦ past_limit limit 0 (xs ++ ys) ] in r ≡ None)
        → (past_limit limit count (xs ++ ys) ≡ None → past_limit limit count xs ≡ None) → (past_limit limit (suc count) (xs ++ ys) ≡ None → past_limit limit (suc count) xs ≡ None) → (past_limit limit 0 (xs ++ ys) ≡ None → past_limit limit 0 xs ≡ None)
        → (let r : Option W = elim q [ quiet ↦ past_limit limit count xs | declares ↦ if b then past_limit limit (suc count) xs else Some x.name | restarts ↦ past_limit limit 0 xs ] in r ≡ None)
    tested quiet b h i j k = i h
    tested declares true h i j k = j h
    tested declares false h i j k = absurd cc
    tested restarts b h i j k = k h

-- where the first name past the limit stands
abbrev PastAt : {W : Type 0} → ℕ → ℕ → List (Stand W) → W → Type 0
PastAt {W} limit count xs x = (ys : List (Stand W)) × (z : Stand W) × (zs : List (Stand W)) × (xs ≡ ys ++ z ∷ zs) × (past_limit limit count ys ≡ None) × (past_limit limit count (ys ++ z ∷ []) ≡ Some x)

past_at : {W : Type 0} (limit count : ℕ) (xs : List (Stand W)) (x : W) → past_limit limit count xs ≡ Some x → PastAt limit count xs x
past_at limit count [] x h = absurd cc
past_at {W} limit count (y ∷ xs) x h = tested y.mark (nat_lt count limit) refl refl h (past_at limit count xs x) (past_at limit (suc count) xs x) (past_at limit 0 xs x)
  where
    tested : (q : Mark) (b : Bool) → y.mark ≡ q → nat_lt count limit ≡ b → (let r : Option W = elim q [ quiet ↦ past_limit limit count xs | declares ↦ if b then past_limit limit (suc count) xs else Some y.name | restarts ↦ past_limit limit 0 xs ] in r ≡ Some x)
        → (past_limit limit count xs ≡ Some x → PastAt limit count xs x) → (past_limit limit (suc count) xs ≡ Some x → PastAt limit (suc count) xs x) → (past_limit limit 0 xs ≡ Some x → PastAt limit 0 xs x) → PastAt limit count (y ∷ xs) x
    tested quiet b e t h i j k = let s = i h in (y ∷ s.0, s.1, s.2, ap (λ us. y ∷ us) s.3, rw e s.4, rw e s.5)
    tested declares true e t h i j k = let s = j h in (y ∷ s.0, s.1, s.2, ap (λ us. y ∷ us) s.3, rw (e, t) s.4, rw (e, t) s.5)
    tested declares false e t h i j k = ([], y, xs, refl, refl, rw (e, t) h)
    tested restarts b e t h i j k = let s = k h in (y ∷ s.0, s.1, s.2, ap (λ us. y ∷ us) s.3, rw e s.4, rw e s.5)

before_shallow : {W : Type 0} (m : ℕ) (xs : List (Stand W)) → is_deeper m (before_cut m xs) ≡ false
before_shallow m [] = refl
before_shallow {W} m (x ∷ xs) = tested (is_past m x.depth) refl (before_shallow m xs)
  where
    tested : (b : Bool) → is_past m x.depth ≡ b → is_deeper m (before_cut m xs) ≡ false → is_deeper m (if b then [] else x ∷ before_cut m xs) ≡ false
    tested true t h = refl
    tested false t h = rw t h

before_rest : {W : Type 0} (m : ℕ) (xs : List (Stand W)) → (ys : List (Stand W)) × (xs ≡ before_cut m xs ++ ys)
before_rest m [] = ([], refl)
before_rest {W} m (x ∷ xs) = tested (is_past m x.depth) (before_rest m xs)
  where
    tested : (b : Bool) → (ys : List (Stand W)) × (xs ≡ before_cut m xs ++ ys) → (ys : List (Stand W)) × (x ∷ xs ≡ (if b then [] else x ∷ before_cut m xs) ++ ys)
    tested true h = (x ∷ xs, refl)
    tested false h = (h.0, ap (λ us. x ∷ us) h.1)

no_cut : {W : Type 0} (m : ℕ) (xs : List (Stand W)) (ws : List W) → cut m xs ws ≡ None → (before_cut m xs ≡ xs) × (is_deeper m xs ≡ false)
no_cut m [] ws h = (refl, refl)
no_cut {W} m (x ∷ xs) ws h = tested (is_past m x.depth) h (no_cut m xs (drop 1 ws))
  where
    tested : (b : Bool) → (if b then Some ws else cut m xs (drop 1 ws)) ≡ None → (cut m xs (drop 1 ws) ≡ None → (before_cut m xs ≡ xs) × (is_deeper m xs ≡ false)) → ((if b then [] else x ∷ before_cut m xs) ≡ x ∷ xs) × ((b || is_deeper m xs) ≡ false)
    tested true h k = absurd cc
    tested false h k = let i = k h in (ap (λ us. x ∷ us) i.0, i.1)

uncut : {W : Type 0} (m : ℕ) (xs : List (Stand W)) (ws : List W) → is_deeper m xs ≡ false → cut m xs ws ≡ None
uncut m [] ws h = refl
uncut {W} m (x ∷ xs) ws h = tested (is_past m x.depth) h (uncut m xs (drop 1 ws))
  where
    tested : (b : Bool) → (b || is_deeper m xs) ≡ false → (is_deeper m xs ≡ false → cut m xs (drop 1 ws) ≡ None) → (if b then Some ws else cut m xs (drop 1 ws)) ≡ None
    tested true h k = absurd cc
    tested false h k = k h

-- where the words are cut
abbrev CutAt : {W : Type 0} → ℕ → List (Stand W) → List W → List W → Type 0
CutAt {W} m xs ws back = (z : Stand W) × (zs : List (Stand W)) × (xs ≡ before_cut m xs ++ z ∷ zs) × (is_past m z.depth ≡ true) × (front : List W) × (ws ≡ front ++ back) × (length (before_cut m xs) ≡ length front) × (0 < length back)

cut_at : {W : Type 0} (m : ℕ) (xs : List (Stand W)) (ws back : List W) → length xs ≡ length ws → cut m xs ws ≡ Some back → CutAt m xs ws back
cut_at m [] ws back l h = absurd cc
cut_at m (x ∷ xs) [] back l h = absurd (omega (arith, l))
cut_at {W} m (x ∷ xs) (w ∷ ws) back l h = tested (is_past m x.depth) refl h (cut_at m xs ws back (omega arith))
  where
    tested : (b : Bool) → is_past m x.depth ≡ b → (if b then Some (w ∷ ws) else cut m xs ws) ≡ Some back → (cut m xs ws ≡ Some back → CutAt m xs ws back)
        → (z : Stand W) × (zs : List (Stand W)) × (x ∷ xs ≡ (if b then [] else x ∷ before_cut m xs) ++ z ∷ zs) × (is_past m z.depth ≡ true) × (front : List W) × (w ∷ ws ≡ front ++ back) × (length (if b then [] else x ∷ before_cut m xs) ≡ length front) × (0 < length back)
    tested true t h k = let e : w ∷ ws ≡ back = cc h in (x, xs, refl, t, [], e, refl, (let i : length (w ∷ ws) ≡ length back = ap length e in omega arith))
    tested false t h k = let s = k h in (s.0, s.1, ap (λ us. x ∷ us) s.2, s.3, w ∷ s.4, ap (λ us. w ∷ us) s.5, (let i = s.6 in omega arith), s.7)

-- ---- any depth

module _ (T : Alphabet) {N : Type 0} {V : N → Type 0} (rule : Rules T N V) (opens goes : N → List ℕ) (g : IsPlain rule opens goes) where
  at_measured : (k : ℕ) (n : N) → Measured T (SpellAt rule k n) (stands_at rule k n)
  unfolding SpellAt stands_at
  at_measured zero n ws v s = absurd s
  at_measured (suc k) n ws v s = measured T (SpellAt rule k) (stands_at rule k) (at_measured k) (rule n) ws v s

  cut_first : {W : Type 0} (xs : List (Stand W)) (ws : List W) → 0 < length xs → (cut 0 (map one_deeper xs) ws ≡ Some ws) × (before_cut 0 (map one_deeper xs) ≡ [])
  cut_first [] ws h = absurd (omega arith)
  cut_first (x ∷ xs) ws h = (refl, refl)

  at_along : (m k : ℕ) (n : N) → Along T m (SpellAt rule k n) (λ ws v s. map one_deeper (stands_at rule k n ws v s)) (goes n) (read_at rule opens m n) (λ ws. map one_deeper (note_at rule opens m n ws))
  unfolding SpellAt stands_at read_at note_at
  at_along m zero n front v rest s out = absurd s
  at_along zero (suc k) n front v rest s out =
      let o = at_opening T rule opens goes g (suc k) n front v s in
      let l : 0 < length front = longer T front (opens n) false refl o in
      let c = cut_first (stands_at rule (suc k) n front v s) (front ++ rest) (let i = at_measured (suc k) n front v s in omega arith) in
      rw (begins T front rest (opens n) false refl o, c.0, c.1) (refl, refl)
  at_along (suc m) (suc k) n front v rest s out =
      let h = along T m (SpellAt rule k) (stands_at rule k) opens goes (read_at rule opens m) (note_at rule opens m) (at_opening T rule opens goes g k) (at_measured k) (at_along m k) (rule n) (g.plain n) front v rest s (is_at_within T (goes_on opens goes (rule n)) (goes n) rest (g.stays n) out) in
      let xs = stands_with (SpellAt rule k) (stands_at rule k) (rule n) front v s in
      (h.0 ∙ ap (λ (c : Option (List T.Word)). verdict c v rest) (sym (cut_deeper m xs (front ++ rest))), ap (λ (us : List (Stand T.Word)). map one_deeper us) h.1 ∙ sym (before_deeper m xs))

  module _ {A : Type 0} (f : Form T N V A) (p : is_plain opens goes f ≡ true) where
    -- reading to m levels of what is spelled with k
    tracked : (m k : ℕ) (ws : List T.Word) (a : A) (s : Spells rule k f ws a) → Tracks m (stands rule k f ws a s) ws a [] (read rule opens m f ws) (noted rule opens m f ws)
    tracked m k ws a s =
        let h = along T m (SpellAt rule k) (stands_at rule k) opens goes (read_at rule opens m) (note_at rule opens m) (at_opening T rule opens goes g k) (at_measured k) (at_along m k) f p ws a [] s refl in
        subst (λ (us : List T.Word). Tracks m (stands rule k f ws a s) us a [] (read rule opens m f us) (noted rule opens m f us)) (append-nil ws) h

    stands_count : (k : ℕ) (ws : List T.Word) (a : A) (s : Spells rule k f ws a) → length (stands rule k f ws a s) ≡ length ws
    stands_count k ws a s = measured T (SpellAt rule k) (stands_at rule k) (at_measured k) f ws a s

    -- with as many levels as the spelling has, all is read
    uncut_at : (m k : ℕ) (ws : List T.Word) (a : A) (s : Spells rule k f ws a) → read rule opens m f ws ≡ Ok (a, []) → cut m (stands rule k f ws a s) ws ≡ None
    uncut_at m k ws a s e = by_cut (cut m (stands rule k f ws a s) ws) (sym (tracked m k ws a s).0 ∙ e)
      where
        by_cut : (c : Option (List T.Word)) → verdict c a [] ≡ Ok (a, []) → c ≡ None
        by_cut None e = refl
        by_cut (Some back) e = absurd cc

    read_raised : (j k : ℕ) (ws : List T.Word) (a : A) → Spells rule k f ws a → read rule opens (j + k) f ws ≡ Ok (a, [])
    read_raised j k ws a s = exactly T rule opens goes g f p (j + k) ws a (raise T rule opens goes g f j k ws a s)

    all_noted : (j k : ℕ) (ws : List T.Word) (a : A) (s : Spells rule k f ws a) → noted rule opens (j + k) f ws ≡ stands rule k f ws a s
    all_noted j k ws a s = (tracked (j + k) k ws a s).1 ∙ (no_cut (j + k) (stands rule k f ws a s) ws (uncut_at (j + k) k ws a s (read_raised j k ws a s))).0

    -- notes of words that were taken agree, whatever follows
    abbrev Agreed : ℕ → List (Stand T.Word) → List (Stand T.Word) → Type 0
    Agreed n xs ys = (c l k : List (Stand T.Word)) × (xs ≡ c ++ l) × (ys ≡ c ++ k) × (length c ≡ n)

    agree : (m : ℕ) (front x y : List T.Word) → length front ≤ length (noted rule opens m f (front ++ x)) → Agreed (length front) (noted rule opens m f (front ++ x)) (noted rule opens m f (front ++ y))
    agree m front x y h = elim (split_last front) [
      | inl e ↦ ([], noted rule opens m f (front ++ x), noted rule opens m f (front ++ y), refl, refl, sym (ap length e))
      | inr s ↦ subst (λ (us : List T.Word). Agreed (length us) (noted rule opens m f (us ++ x)) (noted rule opens m f (us ++ y))) (sym s.2)
          (by_last s.0 s.1 (subst (λ (us : List T.Word). length us ≤ length (noted rule opens m f (us ++ x))) s.2 h))
    ]
      where
        by_last : (us : List T.Word) (t : T.Word) → length (us ++ t ∷ []) ≤ length (noted rule opens m f ((us ++ t ∷ []) ++ x)) → Agreed (length (us ++ t ∷ [])) (noted rule opens m f ((us ++ t ∷ []) ++ x)) (noted rule opens m f ((us ++ t ∷ []) ++ y))
        by_last us t l =
            let l' : length (us ++ t ∷ []) ≤ length (noted rule opens m f (us ++ t ∷ x)) = subst (λ (ws : List T.Word). length (us ++ t ∷ []) ≤ length (noted rule opens m f ws)) (append_assoc us (t ∷ []) x) l in
            let z = length-append us (t ∷ []) in
            rw (append_assoc us (t ∷ []) x, append_assoc us (t ∷ []) y) (elim (follows T rule opens goes g f p m t x y us) [
              | inl d ↦ (d.0, d.1, d.2, d.3, d.4, (let i = d.5 in omega arith))
              | inr s ↦ elim s [
                | inl e ↦ absurd (let i = e.5 in omega arith)
                | inr e ↦ absurd (
                    let c : length (noted rule opens m f (us ++ t ∷ x)) + length (left (read rule opens m f (us ++ t ∷ x))) ≡ length (us ++ t ∷ x) = counted T rule opens goes g m f (us ++ t ∷ x) in
                    let b : length (left (read rule opens m f (us ++ t ∷ x))) ≡ length (e.1 ++ t ∷ x) = ap (λ (o : Outcome T.Word A). length (left o)) e.2 in
                    let u = length-append us (t ∷ x) in
                    let v = length-append e.1 (t ∷ x) in
                    omega arith
                    )
              ]
            ])

    -- how words stand is the same in all texts that begin with them
    alike_in : (front more other : List T.Word) (m k : ℕ) (a b : A) (s : Spells rule m f (front ++ more) a) (t : Spells rule k f (front ++ other) b) → take (length front) (stands rule m f (front ++ more) a s) ≡ take (length front) (stands rule k f (front ++ other) b t)
    alike_in front more other m k a b s t =
        let i : m + k ≡ k + m = omega arith in
        let x : noted rule opens (k + m) f (front ++ more) ≡ stands rule m f (front ++ more) a s = all_noted k m (front ++ more) a s in
        let y : noted rule opens (k + m) f (front ++ other) ≡ stands rule k f (front ++ other) b t = subst (λ (j : ℕ). noted rule opens j f (front ++ other) ≡ stands rule k f (front ++ other) b t) i (all_noted m k (front ++ other) b t) in
        let lx : length (noted rule opens (k + m) f (front ++ more)) ≡ length (front ++ more) = ap length x ∙ stands_count m (front ++ more) a s in
        let u = length-append front more in
        let c = agree (k + m) front more other (omega arith) in
        take_of (stands rule m f (front ++ more) a s) c.0 c.1 (length front) (sym x ∙ c.3) c.5 ∙ sym (take_of (stands rule k f (front ++ other) b t) c.0 c.2 (length front) (sym y ∙ c.4) c.5)

    -- what is noted of the words before the end of reading is how they stand in each text that they begin
    stands_noted : (m k : ℕ) (ws front back more : List T.Word) (a : A) (s : Spells rule k f (front ++ more) a) → ws ≡ front ++ back → length (noted rule opens m f ws) ≡ length front
        → (rest : List (Stand T.Word)) × (stands rule k f (front ++ more) a s ≡ noted rule opens m f ws ++ rest) × (is_deeper m (noted rule opens m f ws) ≡ false)
    stands_noted m k ws front back more a s e l =
        let l' : length (noted rule opens m f (front ++ back)) ≡ length front = subst (λ (us : List T.Word). length (noted rule opens m f us) ≡ length front) e l in
        let c = agree m front back more (omega arith) in
        let none : c.1 ≡ [] = no_more c.0 c.1 (let i : length (noted rule opens m f (front ++ back)) ≡ length (c.0 ++ c.1) = ap length c.3 in let j = c.5 in omega arith) in
        let is : noted rule opens m f ws ≡ c.0 = ap (λ (us : List T.Word). noted rule opens m f us) e ∙ c.3 ∙ ap (λ (us : List (Stand T.Word)). c.0 ++ us) none ∙ append-nil c.0 in
        let xs : List (Stand T.Word) = stands rule k f (front ++ more) a s in
        let b = before_rest m xs in
        let t : before_cut m xs ≡ c.0 ++ c.2 = sym (tracked m k (front ++ more) a s).1 ∙ c.4 in
        let all : xs ≡ c.0 ++ (c.2 ++ b.0) = b.1 ∙ ap (λ (us : List (Stand T.Word)). us ++ b.0) t ∙ append_assoc c.0 c.2 b.0 in
        let shallow : is_deeper m (c.0 ++ c.2) ≡ false = subst (λ (us : List (Stand T.Word)). is_deeper m us ≡ false) t (before_shallow m xs) in
        (c.2 ++ b.0, all ∙ ap (λ (us : List (Stand T.Word)). us ++ (c.2 ++ b.0)) (sym is), subst (λ (us : List (Stand T.Word)). is_deeper m us ≡ false) (sym is) (deeper_front m c.0 c.2 shallow))

    -- the same words, written otherwise
    restated : (k : ℕ) (us vs : List T.Word) (a : A) (s : Spells rule k f us a) → us ≡ vs → (t : Spells rule k f vs a) × (stands rule k f vs a t ≡ stands rule k f us a s)
    restated k us vs a s e = subst (λ (ws : List T.Word). (t : Spells rule k f ws a) × (stands rule k f ws a t ≡ stands rule k f us a s)) e (s, refl)

-- ---- the laws

abbrev text_of : (g : Grammar) → ℕ → List (WordOf g) → Outcome (WordOf g) g.Text
text_of g levels ws = read g.rule g.opens levels g.text ws

abbrev notes_of : (g : Grammar) → ℕ → List (WordOf g) → List (Stand (WordOf g))
notes_of g levels ws = noted g.rule g.opens levels g.text ws

module _ (g : Grammar) where
  judged : (levels : ℕ) (ws : List (WordOf g)) (r : Outcome (WordOf g) g.Text) → text_of g levels ws ≡ r → Judge (Fits (Spells g.rule levels g.text) ws) (Begun (Spells g.rule (suc (suc levels)) g.text) ws) r
  judged levels ws r e = subst (λ (o : Outcome (WordOf g) g.Text). Judge (Fits (Spells g.rule levels g.text) ws) (Begun (Spells g.rule (suc (suc levels)) g.text) ws) o) e (runs g.alphabet g.rule g.opens g.goes g.rules_are_plain levels g.text ws)

  tracks : (levels m : ℕ) (ws : List (WordOf g)) (a : g.Text) (s : Spells g.rule m g.text ws a) → Tracks levels (stands g.rule m g.text ws a s) ws a [] (text_of g levels ws) (notes_of g levels ws)
  tracks levels m ws a s = tracked g.alphabet g.rule g.opens g.goes g.rules_are_plain g.text g.text_is_plain levels m ws a s

  pub read_is_spelled : ReadIsSpelled g
  read_is_spelled levels ws a rest e = judged levels ws (Ok (a, rest)) e

  pub spelled_is_read : SpelledIsRead g
  spelled_is_read levels m ws a s d = (tracks levels m ws a s).0 ∙ ap (λ (c : Option (List (WordOf g))). verdict c a []) (uncut levels (stands g.rule m g.text ws a s) ws d)

  counts_of : (m : ℕ) (ws : List (WordOf g)) (a : g.Text) (s : Spells g.rule m g.text ws a) → length (stands g.rule m g.text ws a s) ≡ length ws
  counts_of m ws a s = stands_count g.alphabet g.rule g.opens g.goes g.rules_are_plain g.text g.text_is_plain m ws a s

  abbrev Refused : ℕ → List (WordOf g) → List (Stand (WordOf g)) → Type 0
  Refused levels ws xs = (front : List (WordOf g)) × (w : WordOf g) × (rest : List (WordOf g)) × (ws ≡ front ++ w ∷ rest) × (text_of g levels ws ≡ Err (TooDeep, w ∷ rest)) × (is_deeper levels (take (length front) xs) ≡ false) × (is_deeper levels (take (suc (length front)) xs) ≡ true)

  refused_at : (levels : ℕ) (ws : List (WordOf g)) (xs : List (Stand (WordOf g))) (back : List (WordOf g)) → text_of g levels ws ≡ Err (TooDeep, back) → CutAt levels xs ws back → Refused levels ws xs
  refused_at levels ws xs [] e c = absurd (let i = c.7 in omega arith)
  refused_at levels ws xs (w ∷ rest) e (z, zs, i, deep, us, j, l, pos) = (
    us,
    w,
    rest,
    j,
    e,
    (let t = take_of xs (before_cut levels xs) (z ∷ zs) (length us) i l in rw t (before_shallow levels xs)),
    (
        let k = length-append (before_cut levels xs) (z ∷ []) in
        let t = take_of xs (before_cut levels xs ++ z ∷ []) zs (suc (length us)) (i ∙ sym (append_assoc (before_cut levels xs) (z ∷ []) zs)) (omega arith) in
        rw t (deeper_last levels (before_cut levels xs) z deep)
        ),
  )

  refused_by : (levels : ℕ) (ws : List (WordOf g)) (a : g.Text) (xs : List (Stand (WordOf g))) → text_of g levels ws ≡ verdict (cut levels xs ws) a [] → length xs ≡ length ws → is_deeper levels xs ≡ true → (c : Option (List (WordOf g))) → cut levels xs ws ≡ c → Refused levels ws xs
  refused_by levels ws a xs t l d None e = absurd (let i = (no_cut levels xs ws e).1 in cc (i, d))
  refused_by levels ws a xs t l d (Some back) e = refused_at levels ws xs back (t ∙ ap (λ (c : Option (List (WordOf g))). verdict c a []) e) (cut_at levels xs ws back l e)

  pub deep_is_refused : DeepIsRefused g
  deep_is_refused levels m ws a s d = refused_by levels ws a (stands g.rule m g.text ws a s) (tracks levels m ws a s).0 (counts_of m ws a s) d (cut levels (stands g.rule m g.text ws a s) ws) refl

  pub levels_bound_depths : LevelsBoundDepths g
  levels_bound_depths levels ws a s = (no_cut levels (stands g.rule levels g.text ws a s) ws (uncut_at g.alphabet g.rule g.opens g.goes g.rules_are_plain g.text g.text_is_plain levels levels ws a s (exactly g.alphabet g.rule g.opens g.goes g.rules_are_plain g.text g.text_is_plain levels ws a s))).1

  pub depths_bound_levels : DepthsBoundLevels g
  depths_bound_levels levels m ws a s d = let r = read_is_spelled levels ws a [] (spelled_is_read levels m ws a s d) in subst (λ (us : List (WordOf g)). Spells g.rule levels g.text us a) (sym (r.1 ∙ append-nil r.0)) r.2

  pub fault_comes_again : FaultComesAgain g
  fault_comes_again levels front rest other w e h = again_err g.alphabet g.rule g.opens g.goes g.rules_are_plain g.text g.text_is_plain levels front rest other w e h

  pub fault_completes : FaultCompletes g
  fault_completes levels ws e rest h = let b = judged levels ws (Err (e, rest)) h in (b.0, b.3, (b.1, suc (suc levels), b.2, b.4))

  pub stand_alike : StandAlike g
  stand_alike front more other m k a b s t = alike_in g.alphabet g.rule g.opens g.goes g.rules_are_plain g.text g.text_is_plain front more other m k a b s t

  pub one_value : OneValue g
  one_value ws m k a b s t =
      let i : m + k ≡ k + m = omega arith in
      let x : text_of g (k + m) ws ≡ Ok (a, []) = read_raised g.alphabet g.rule g.opens g.goes g.rules_are_plain g.text g.text_is_plain k m ws a s in
      let y : text_of g (k + m) ws ≡ Ok (b, []) = subst (λ (j : ℕ). text_of g j ws ≡ Ok (b, [])) i (read_raised g.alphabet g.rule g.opens g.goes g.rules_are_plain g.text g.text_is_plain m k ws b t) in
      let z : Ok (a, []) ≡ Ok (b, []) = sym x ∙ y in
      ap (λ (o : Outcome (WordOf g) g.Text). value_of o) z
    where
      value_of : Outcome (WordOf g) g.Text → g.Text
      value_of (Ok x) = x.0
      value_of (Err e) = a

  -- ---- the answer is right

  spells_left : (levels : ℕ) (ws : List (WordOf g)) (r : Outcome (WordOf g) g.Text) → text_of g levels ws ≡ r → (front more : List (WordOf g)) × (k : ℕ) × (a : g.Text) × Spells g.rule k g.text (front ++ more) a × (ws ≡ front ++ left r)
  spells_left levels ws (Ok x) e = let b = judged levels ws (Ok x) e in (b.0, [], levels, x.0, subst (λ (us : List (WordOf g)). Spells g.rule levels g.text us x.0) (sym (append-nil b.0)) b.2, b.1)
  spells_left levels ws (Err x) e = let b = judged levels ws (Err x) e in (b.0, b.1, suc (suc levels), b.2, b.4, b.3)

  Noted : (levels k : ℕ) (ws us : List (WordOf g)) (a : g.Text) → Spells g.rule k g.text us a → Type 0
  Noted levels k ws us a s = (rest : List (Stand (WordOf g))) × (stands g.rule k g.text us a s ≡ notes_of g levels ws ++ rest) × (is_deeper levels (notes_of g levels ws) ≡ false)

  as_many : (levels : ℕ) (ws front back : List (WordOf g)) → ws ≡ front ++ back → left (text_of g levels ws) ≡ back → length (notes_of g levels ws) ≡ length front
  as_many levels ws front back e l =
      let c : length (notes_of g levels ws) + length (left (text_of g levels ws)) ≡ length ws = counted g.alphabet g.rule g.opens g.goes g.rules_are_plain levels g.text ws in
      let i : length (left (text_of g levels ws)) ≡ length back = ap length l in
      let j : length ws ≡ length front + length back = ap length e ∙ length-append front back in
      omega arith

  noted_of : (levels k : ℕ) (ws front back more : List (WordOf g)) (a : g.Text) (s : Spells g.rule k g.text (front ++ more) a) → ws ≡ front ++ back → left (text_of g levels ws) ≡ back → Noted levels k ws (front ++ more) a s
  unfolding Noted
  noted_of levels k ws front back more a s e l = stands_noted g.alphabet g.rule g.opens g.goes g.rules_are_plain g.text g.text_is_plain levels k ws front back more a s e (as_many levels ws front back e l)

  begins_as : (P : List (Stand (WordOf g)) → Type 0) (k : ℕ) (a : g.Text) (ws us more : List (WordOf g)) (s : Spells g.rule k g.text ws a) → ws ≡ us ++ more → (xs l : List (Stand (WordOf g))) → stands g.rule k g.text ws a s ≡ xs ++ l → length xs ≡ length us → P xs → BeginsAs g us P
  begins_as P k a ws us more s e xs l st len h =
      let t = restated g.alphabet g.rule g.opens g.goes g.rules_are_plain g.text g.text_is_plain k ws (us ++ more) a s e in
      (more, k, a, t.0, subst P (sym (take_of (stands g.rule k g.text (us ++ more) a t.0) xs l (length us) (t.1 ∙ st) len)) h)

  clean_of : (levels limit k : ℕ) (ws front back more : List (WordOf g)) (a : g.Text) (s : Spells g.rule k g.text (front ++ more) a) → ws ≡ front ++ back → left (text_of g levels ws) ≡ back → past_limit limit 0 (notes_of g levels ws) ≡ None → BeginsAs g front (IsClean levels limit)
  unfolding Noted
  clean_of levels limit k ws front back more a s e l none =
      let n = noted_of levels k ws front back more a s e l in
      begins_as (IsClean levels limit) k a (front ++ more) front more s refl (notes_of g levels ws) n.0 n.1 (as_many levels ws front back e l) (n.2, none)

  many_of : (levels limit k : ℕ) (ws front back more : List (WordOf g)) (a : g.Text) (s : Spells g.rule k g.text (front ++ more) a) (x : WordOf g) → ws ≡ front ++ back → left (text_of g levels ws) ≡ back → past_limit limit 0 (notes_of g levels ws) ≡ Some x
      → IsAnswer g levels limit ws (too_many x)
  unfolding Noted
  many_of levels limit k ws front back more a s x e l h =
      let n = noted_of levels k ws front back more a s e l in
      let c = as_many levels ws front back e l in
      let p = past_at limit 0 (notes_of g levels ws) x h in
      let ys = p.0 in
      let z = p.1 in
      let zs = p.2 in
      let i : length (notes_of g levels ws) ≡ length ys + suc (length zs) = ap length p.3 ∙ length-append ys (z ∷ zs) in
      let q = split_at (length ys) front (omega arith) in
      let us = q.0 in
      let v = q.1 in
      let vs = q.2 in
      let st : stands g.rule k g.text (front ++ more) a s ≡ ys ++ (z ∷ (zs ++ n.0)) = n.1 ∙ ap (λ (u : List (Stand (WordOf g))). u ++ n.0) p.3 ∙ append_assoc ys (z ∷ zs) n.0 in
      let is : front ++ more ≡ us ++ (v ∷ (vs ++ more)) = ap (λ (u : List (WordOf g)). u ++ more) q.3 ∙ append_assoc us (v ∷ vs) more in
      let shallow : is_deeper levels (ys ++ z ∷ zs) ≡ false = subst (λ (u : List (Stand (WordOf g))). is_deeper levels u ≡ false) p.3 n.2 in
      let shallow' : is_deeper levels ((ys ++ z ∷ []) ++ zs) ≡ false = subst (λ (u : List (Stand (WordOf g))). is_deeper levels u ≡ false) (sym (append_assoc ys (z ∷ []) zs)) shallow in
      let lz = length-append ys (z ∷ []) in
      let lv = length-append us (v ∷ []) in
      let same = q.4 in (
        us,
        v,
        vs ++ back,
        e ∙ ap (λ (u : List (WordOf g)). u ++ back) q.3 ∙ append_assoc us (v ∷ vs) back,
        begins_as (IsClean levels limit) k a (front ++ more) us (v ∷ (vs ++ more)) s is ys (z ∷ (zs ++ n.0)) st (sym same) (deeper_front levels ys (z ∷ zs) shallow, p.4),
        begins_as (λ xs. (is_deeper levels xs ≡ false) × (past_limit limit 0 xs ≡ Some x)) k a (front ++ more) (us ++ v ∷ []) (vs ++ more) s (is ∙ sym (append_assoc us (v ∷ []) (vs ++ more))) (ys ++ z ∷ []) (zs ++ n.0) (st ∙ sym (append_assoc ys (z ∷ []) (zs ++ n.0))) (omega arith) (deeper_front levels (ys ++ z ∷ []) zs shallow', p.5),
      )

  spelled_of : (levels limit : ℕ) (ws : List (WordOf g)) (a : g.Text) → text_of g levels ws ≡ Ok (a, []) → past_limit limit 0 (notes_of g levels ws) ≡ None → IsAnswer g levels limit ws (spelled a)
  spelled_of levels limit ws a e none =
      let b = read_is_spelled levels ws a [] e in
      let s : Spells g.rule levels g.text ws a = subst (λ (us : List (WordOf g)). Spells g.rule levels g.text us a) (sym (b.1 ∙ append-nil b.0)) b.2 in
      let c = no_cut levels (stands g.rule levels g.text ws a s) ws (uncut_at g.alphabet g.rule g.opens g.goes g.rules_are_plain g.text g.text_is_plain levels levels ws a s e) in
      (levels, s, (c.1, subst (λ (xs : List (Stand (WordOf g))). past_limit limit 0 xs ≡ None) ((tracks levels levels ws a s).1 ∙ c.0) none))

  left_is : (levels : ℕ) (ws : List (WordOf g)) (r : Outcome (WordOf g) g.Text) → text_of g levels ws ≡ r → left (text_of g levels ws) ≡ left r
  left_is levels ws r e = ap left e

  deep_of : (levels limit : ℕ) (ws front rest end : List (WordOf g)) (w : WordOf g) (k : ℕ) (a : g.Text) (s : Spells g.rule k g.text (front ++ w ∷ end) a) → ws ≡ front ++ w ∷ rest → text_of g levels ws ≡ Err (TooDeep, w ∷ rest) → BeginsAs g (front ++ w ∷ []) (λ xs. is_deeper levels xs ≡ true)
  deep_of levels limit ws front rest end w k a s e h =
      let there : text_of g levels (front ++ w ∷ end) ≡ Err (TooDeep, w ∷ end) = fault_comes_again levels front rest end w TooDeep (subst (λ (us : List (WordOf g)). text_of g levels us ≡ Err (TooDeep, w ∷ rest)) e h) in
      let xs : List (Stand (WordOf g)) = stands g.rule k g.text (front ++ w ∷ end) a s in
      let c : cut levels xs (front ++ w ∷ end) ≡ Some (w ∷ end) = by_cut (cut levels xs (front ++ w ∷ end)) a (w ∷ end) (sym (tracks levels k (front ++ w ∷ end) a s).0 ∙ there) in
      let d = cut_at levels xs (front ++ w ∷ end) (w ∷ end) (counts_of k (front ++ w ∷ end) a s) c in
      let i : length (front ++ w ∷ end) ≡ length (d.4 ++ w ∷ end) = ap length d.5 in
      let j = length-append front (w ∷ end) in
      let l = length-append d.4 (w ∷ end) in
      let u = length-append (before_cut levels xs) (d.0 ∷ []) in
      let v = length-append front (w ∷ []) in
      let x = d.6 in
      begins_as (λ xs. is_deeper levels xs ≡ true) k a (front ++ w ∷ end) (front ++ w ∷ []) end s (sym (append_assoc front (w ∷ []) end)) (before_cut levels xs ++ d.0 ∷ []) d.1 (d.2 ∙ sym (append_assoc (before_cut levels xs) (d.0 ∷ []) d.1)) (omega arith) (deeper_last levels (before_cut levels xs) d.0 d.3)
    where
      by_cut : (c : Option (List (WordOf g))) (a : g.Text) (back : List (WordOf g)) → verdict c a [] ≡ Err (TooDeep, back) → c ≡ Some back
      by_cut None a back e = absurd cc
      by_cut (Some b) a back e = ap (λ (o : Outcome (WordOf g) g.Text). Some (left o)) e

  answer_of : (levels limit : ℕ) (ws : List (WordOf g)) (r : Outcome (WordOf g) g.Text) → text_of g levels ws ≡ r → past_limit limit 0 (notes_of g levels ws) ≡ None → Judge (Fits (Spells g.rule levels g.text) ws) (Begun (Spells g.rule (suc (suc levels)) g.text) ws) r → IsAnswer g levels limit ws (whole r)
  answer_of levels limit ws (Ok (a, [])) e none b = spelled_of levels limit ws a e none
  answer_of levels limit ws (Ok (a, w ∷ rest)) e none b =
      let s : Spells g.rule levels g.text (b.0 ++ []) a = subst (λ (us : List (WordOf g)). Spells g.rule levels g.text us a) (sym (append-nil b.0)) b.2 in (
        b.0,
        b.1,
        clean_of levels limit levels ws b.0 (w ∷ rest) [] a s b.1 (left_is levels ws (Ok (a, w ∷ rest)) e) none,
        (λ q. none_after g.alphabet g.rule g.opens g.goes g.rules_are_plain g.text g.text_is_plain levels q.1 b.0 rest q.0 w q.2 a (subst (λ (us : List (WordOf g)). text_of g levels us ≡ Ok (a, w ∷ rest)) b.1 e) q.3),
      )
  answer_of levels limit ws (Err (Syntax, [])) e none b =
      let is : ws ≡ b.0 = b.3 ∙ append-nil b.0 in (
        subst (λ (us : List (WordOf g)). BeginsAs g us (IsClean levels limit)) (sym is) (clean_of levels limit (suc (suc levels)) ws b.0 [] b.1 b.2 b.4 b.3 (left_is levels ws (Err (Syntax, [])) e) none),
        (λ k a s. none_at_end g.alphabet g.rule g.opens g.goes g.rules_are_plain g.text g.text_is_plain levels k ws a e s),
      )
  answer_of levels limit ws (Err (Syntax, w ∷ rest)) e none b = (
    b.0,
    b.3,
    clean_of levels limit (suc (suc levels)) ws b.0 (w ∷ rest) b.1 b.2 b.4 b.3 (left_is levels ws (Err (Syntax, w ∷ rest)) e) none,
    (λ q. none_through g.alphabet g.rule g.opens g.goes g.rules_are_plain g.text g.text_is_plain levels q.1 b.0 rest q.0 w q.2 (subst (λ (us : List (WordOf g)). text_of g levels us ≡ Err (Syntax, w ∷ rest)) b.3 e) q.3),
  )
  answer_of levels limit ws (Err (TooDeep, [])) e none b = absurd (let z : [] ≡ b.5.0 ∷ b.5.1 = b.5.3 in cc z)
  answer_of levels limit ws (Err (TooDeep, w ∷ rest)) e none b =
      let same : w ≡ b.5.0 = (let z : w ∷ rest ≡ b.5.0 ∷ b.5.1 = b.5.3 in cc z) in
      let goes : b.1 ≡ w ∷ b.5.2 = b.5.4 ∙ ap (λ (v : WordOf g). v ∷ b.5.2) (sym same) in
      let s : Spells g.rule (suc (suc levels)) g.text (b.0 ++ w ∷ b.5.2) b.2 = subst (λ (us : List (WordOf g)). Spells g.rule (suc (suc levels)) g.text (b.0 ++ us) b.2) goes b.4 in (
        b.0,
        b.3,
        clean_of levels limit (suc (suc levels)) ws b.0 (w ∷ rest) b.1 b.2 b.4 b.3 (left_is levels ws (Err (TooDeep, w ∷ rest)) e) none,
        deep_of levels limit ws b.0 rest b.5.2 w (suc (suc levels)) b.2 s b.3 e,
      )

  pub answers_right : AnswersRight g
  answers_right levels limit ws = by_past (past_limit limit 0 (notes_of g levels ws)) refl
    where
      by_past : (o : Option (WordOf g)) → past_limit limit 0 (notes_of g levels ws) ≡ o → IsAnswer g levels limit ws (first_of o (whole (text_of g levels ws)))
      by_past None e = answer_of levels limit ws (text_of g levels ws) refl e (judged levels ws (text_of g levels ws) refl)
      by_past (Some x) e = let r = spells_left levels ws (text_of g levels ws) refl in many_of levels limit r.2 ws r.0 (left (text_of g levels ws)) r.1 r.3 r.4 x r.5 refl e

  -- ---- one answer is right

  -- what holds of how words stand in one text that they begin holds in the other
  in_other : (front : List (WordOf g)) (P : List (Stand (WordOf g)) → Type 0) → BeginsAs g front P → (Q : List (Stand (WordOf g)) → Type 0) → BeginsAs g front Q → (xs : List (Stand (WordOf g))) × P xs × Q xs
  in_other front P (more, m, a, s, h) Q (other, k, b, t, i) = (
    take (length front) (stands g.rule k g.text (front ++ other) b t),
    subst P (stand_alike front more other m k a b s t) h,
    i,
  )

  take_front : {A : Type 0} (xs : List A) (n k : ℕ) → n ≤ k → k ≤ length xs → (c l r : List A) × (take n xs ≡ c) × (take k xs ≡ c ++ l)
  take_front xs n k h i = (take n xs, drop n (take k xs), [], refl, parts xs n k h)
    where
      parts : {A : Type 0} (xs : List A) (n k : ℕ) → n ≤ k → take k xs ≡ take n xs ++ drop n (take k xs)
      parts xs zero k h = refl
      parts [] (suc n) zero h = absurd (omega arith)
      parts (x ∷ xs) (suc n) zero h = absurd (omega arith)
      parts [] (suc n) (suc k) h = refl
      parts (x ∷ xs) (suc n) (suc k) h = ap (λ us. x ∷ us) (parts xs n k (omega arith))

  clean_front : {W : Type 0} (levels limit : ℕ) (xs ys : List (Stand W)) → IsClean levels limit (xs ++ ys) → IsClean levels limit xs
  clean_front levels limit xs ys h = (deeper_front levels xs ys h.0, past_front limit 0 xs ys h.1)

  -- words that begin a text within the limits, and so do fewer of them
  clean_less : (levels limit : ℕ) (front back : List (WordOf g)) → BeginsAs g (front ++ back) (IsClean levels limit) → BeginsAs g front (IsClean levels limit)
  clean_less levels limit front back (more, m, a, s, h) =
      let t = restated g.alphabet g.rule g.opens g.goes g.rules_are_plain g.text g.text_is_plain m ((front ++ back) ++ more) (front ++ (back ++ more)) a s (append_assoc front back more) in
      let l = counts_of m ((front ++ back) ++ more) a s in
      let i = length-append (front ++ back) more in
      let j = length-append front back in
      let p = take_front (stands g.rule m g.text ((front ++ back) ++ more) a s) (length front) (length (front ++ back)) (omega arith) (omega arith) in
      let c : IsClean levels limit p.0 = clean_front levels limit p.0 p.1 (subst (IsClean levels limit) p.4 h) in
      (back ++ more, m, a, t.0, subst (IsClean levels limit) (sym (ap (λ (xs : List (Stand (WordOf g))). take (length front) xs) t.1 ∙ p.3)) c)

  -- Where an answer is given: the words before it begin a text within the limits, and with one more word they begin none.
  Stuck : ℕ → ℕ → List (WordOf g) → List (WordOf g) → Type 0
  Stuck levels limit front [] = Unit {0}
  Stuck levels limit front (w ∷ rest) = BeginsAs g (front ++ w ∷ []) (IsClean levels limit) → ⊥

  abbrev At : ℕ → ℕ → List (WordOf g) → List (WordOf g) → List (WordOf g) → Type 0
  At levels limit ws front back = (ws ≡ front ++ back) × BeginsAs g front (IsClean levels limit) × Stuck levels limit front back

  -- of two places neither is before the other
  not_before : (levels limit : ℕ) (ws front back front' back' : List (WordOf g)) → At levels limit ws front back → At levels limit ws front' back' → length front < length front' → ⊥
  unfolding Stuck
  not_before levels limit ws front back front' back' a b h = by_back back a.2 (a.0)
    where
      by_back : (back : List (WordOf g)) → Stuck levels limit front back → ws ≡ front ++ back → ⊥
      by_back [] k e = let i : length ws ≡ length front = ap length (e ∙ append-nil front) in let j : length ws ≡ length front' + length back' = ap length b.0 ∙ length-append front' back' in absurd (omega arith)
      by_back (w ∷ rest) k e =
          let q = split_at (length front) front' h in
          let is : front ++ w ∷ rest ≡ q.0 ++ (q.1 ∷ (q.2 ++ back')) = sym e ∙ b.0 ∙ ap (λ (u : List (WordOf g)). u ++ back') q.3 ∙ append_assoc q.0 (q.1 ∷ q.2) back' in
          let s = same_front front (w ∷ rest) q.0 (q.1 ∷ (q.2 ++ back')) (sym q.4) is in
          let v : w ≡ q.1 = (let z = s.1 in cc z) in
          let f : front' ≡ (front ++ w ∷ []) ++ q.2 = q.3 ∙ ap (λ (u : List (WordOf g)). u ++ q.1 ∷ q.2) (sym s.0) ∙ ap (λ (u : WordOf g). front ++ u ∷ q.2) (sym v) ∙ sym (append_assoc front (w ∷ []) q.2) in
          k (clean_less levels limit (front ++ w ∷ []) q.2 (subst (λ (u : List (WordOf g)). BeginsAs g u (IsClean levels limit)) f b.1))

  same_place : (levels limit : ℕ) (ws front back front' back' : List (WordOf g)) → At levels limit ws front back → At levels limit ws front' back' → (front ≡ front') × (back ≡ back')
  same_place levels limit ws front back front' back' a b = by_order (trichotomy (length front) (length front'))
    where
      trichotomy : (n k : ℕ) → (n < k) ⊎ ((k < n) ⊎ (n ≡ k))
      trichotomy zero zero = inr (inr refl)
      trichotomy zero (suc k) = inl (omega arith)
      trichotomy (suc n) zero = inr (inl (omega arith))
      trichotomy (suc n) (suc k) = elim (trichotomy n k) [ inl h ↦ inl (omega arith) | inr h ↦ elim h [ inl i ↦ inr (inl (omega arith)) | inr i ↦ inr (inr (omega arith)) ] ]

      by_order : (length front < length front') ⊎ ((length front' < length front) ⊎ (length front ≡ length front')) → (front ≡ front') × (back ≡ back')
      by_order (inl h) = absurd (not_before levels limit ws front back front' back' a b h)
      by_order (inr (inl h)) = absurd (not_before levels limit ws front' back' front back b a h)
      by_order (inr (inr h)) = same_front front back front' back' h (sym a.0 ∙ b.0)

  moved_to : (P : List (Stand (WordOf g)) → Type 0) (front front' : List (WordOf g)) (w v : WordOf g) (rest rest' : List (WordOf g)) → (front ≡ front') × (w ∷ rest ≡ v ∷ rest') → BeginsAs g (front ++ w ∷ []) P → BeginsAs g (front' ++ v ∷ []) P
  moved_to P front front' w v rest rest' e b =
      let i : w ≡ v = (let z = e.1 in cc z) in
      subst (λ (u : WordOf g). BeginsAs g (front' ++ u ∷ []) P) i (subst (λ (us : List (WordOf g)). BeginsAs g (us ++ w ∷ []) P) e.0 b)

  abbrev TooDeepIn : ℕ → List (Stand (WordOf g)) → Type 0
  TooDeepIn levels xs = is_deeper levels xs ≡ true

  abbrev TooManyIn : ℕ → ℕ → WordOf g → List (Stand (WordOf g)) → Type 0
  TooManyIn levels limit x xs = (is_deeper levels xs ≡ false) × (past_limit limit 0 xs ≡ Some x)

  apart_deep : (levels limit : ℕ) (front : List (WordOf g)) → BeginsAs g front (TooDeepIn levels) → BeginsAs g front (IsClean levels limit) → ⊥
  apart_deep levels limit front a b = let (xs, d, c) = in_other front (TooDeepIn levels) a (IsClean levels limit) b in let e = c.0 in cc (d, e)

  apart_many : (levels limit : ℕ) (x : WordOf g) (front : List (WordOf g)) → BeginsAs g front (TooManyIn levels limit x) → BeginsAs g front (IsClean levels limit) → ⊥
  apart_many levels limit x front a b = let (xs, d, c) = in_other front (TooManyIn levels limit x) a (IsClean levels limit) b in let e = c.1 in let i = d.1 in cc (e, i)

  apart_both : (levels limit : ℕ) (x : WordOf g) (front : List (WordOf g)) → BeginsAs g front (TooDeepIn levels) → BeginsAs g front (TooManyIn levels limit x) → ⊥
  apart_both levels limit x front a b = let (xs, d, c) = in_other front (TooDeepIn levels) a (TooManyIn levels limit x) b in let e = c.0 in cc (d, e)

  same_name : (levels limit : ℕ) (x y : WordOf g) (front : List (WordOf g)) → BeginsAs g front (TooManyIn levels limit x) → BeginsAs g front (TooManyIn levels limit y) → x ≡ y
  same_name levels limit x y front a b = let (xs, d, c) = in_other front (TooManyIn levels limit x) a (TooManyIn levels limit y) b in let e = d.1 in let i = c.1 in cc (e, i)

  -- where each answer is given

  at_spelled : (levels limit : ℕ) (ws : List (WordOf g)) (a : g.Text) → IsAnswer g levels limit ws (spelled a) → At levels limit ws ws []
  unfolding Stuck
  at_spelled levels limit ws a (m, s, c) = (
    sym (append-nil ws),
    begins_as (IsClean levels limit) m a ws ws [] s (sym (append-nil ws)) (stands g.rule m g.text ws a s) [] (sym (append-nil (stands g.rule m g.text ws a s))) (counts_of m ws a s) c,
    tt,
  )

  at_end : (levels limit : ℕ) (ws : List (WordOf g)) → IsAnswer g levels limit ws (wrong []) → At levels limit ws ws []
  unfolding Stuck
  at_end levels limit ws h = (sym (append-nil ws), h.0, tt)

  at_wrong : (levels limit : ℕ) (ws rest : List (WordOf g)) (w : WordOf g) (h : IsAnswer g levels limit ws (wrong (w ∷ rest))) → At levels limit ws h.0 (w ∷ rest)
  unfolding Stuck
  at_wrong levels limit ws rest w h = (h.1, h.2, (λ b. h.3 (b.0, b.1, b.2, b.3)))

  at_deep : (levels limit : ℕ) (ws rest : List (WordOf g)) (w : WordOf g) (h : IsAnswer g levels limit ws (too_deep (w ∷ rest))) → At levels limit ws h.0 (w ∷ rest)
  unfolding Stuck
  at_deep levels limit ws rest w h = (h.1, h.2, apart_deep levels limit (h.0 ++ w ∷ []) h.3)

  at_many : (levels limit : ℕ) (ws : List (WordOf g)) (x : WordOf g) (h : IsAnswer g levels limit ws (too_many x)) → At levels limit ws h.0 (h.1 ∷ h.2)
  unfolding Stuck
  at_many levels limit ws x h = (h.3, h.4, apart_many levels limit x (h.0 ++ h.1 ∷ []) h.5)

  not_both : (levels limit : ℕ) (ws front front' rest : List (WordOf g)) (w : WordOf g) → At levels limit ws front [] → At levels limit ws front' (w ∷ rest) → ⊥
  not_both levels limit ws front front' rest w a b = let z = (same_place levels limit ws front [] front' (w ∷ rest) a b).1 in cc z

  pub one_answer : OneAnswer g
  one_answer levels limit ws (spelled a) (spelled b) h i = ap (λ (c : g.Text). let r : Answer (WordOf g) g.Text = spelled c in r) (one_value ws h.0 i.0 a b h.1 i.1)
  one_answer levels limit ws (spelled a) (wrong []) h i = absurd (i.1 h.0 a h.1)
  one_answer levels limit ws (spelled a) (wrong (v ∷ end)) h i = absurd (not_both levels limit ws ws i.0 end v (at_spelled levels limit ws a h) (at_wrong levels limit ws end v i))
  one_answer levels limit ws (spelled a) (too_deep []) h i = absurd i
  one_answer levels limit ws (spelled a) (too_deep (v ∷ end)) h i = absurd (not_both levels limit ws ws i.0 end v (at_spelled levels limit ws a h) (at_deep levels limit ws end v i))
  one_answer levels limit ws (spelled a) (too_many y) h i = absurd (not_both levels limit ws ws i.0 i.2 i.1 (at_spelled levels limit ws a h) (at_many levels limit ws y i))
  one_answer levels limit ws (wrong []) (spelled b) h i = absurd (h.1 i.0 b i.1)
  one_answer levels limit ws (wrong []) (wrong []) h i = refl
  one_answer levels limit ws (wrong []) (wrong (v ∷ end)) h i = absurd (not_both levels limit ws ws i.0 end v (at_end levels limit ws h) (at_wrong levels limit ws end v i))
  one_answer levels limit ws (wrong []) (too_deep []) h i = absurd i
  one_answer levels limit ws (wrong []) (too_deep (v ∷ end)) h i = absurd (not_both levels limit ws ws i.0 end v (at_end levels limit ws h) (at_deep levels limit ws end v i))
  one_answer levels limit ws (wrong []) (too_many y) h i = absurd (not_both levels limit ws ws i.0 i.2 i.1 (at_end levels limit ws h) (at_many levels limit ws y i))
  one_answer levels limit ws (wrong (w ∷ rest)) (spelled b) h i = absurd (not_both levels limit ws ws h.0 rest w (at_spelled levels limit ws b i) (at_wrong levels limit ws rest w h))
  one_answer levels limit ws (wrong (w ∷ rest)) (wrong []) h i = absurd (not_both levels limit ws ws h.0 rest w (at_end levels limit ws i) (at_wrong levels limit ws rest w h))
  one_answer levels limit ws (wrong (w ∷ rest)) (wrong (v ∷ end)) h i = ap (λ (us : List (WordOf g)). let r : Answer (WordOf g) g.Text = wrong us in r) (same_place levels limit ws h.0 (w ∷ rest) i.0 (v ∷ end) (at_wrong levels limit ws rest w h) (at_wrong levels limit ws end v i)).1
  one_answer levels limit ws (wrong (w ∷ rest)) (too_deep []) h i = absurd i
  one_answer levels limit ws (wrong (w ∷ rest)) (too_deep (v ∷ end)) h i =
      let b = moved_to (TooDeepIn levels) i.0 h.0 v w end rest (same_place levels limit ws i.0 (v ∷ end) h.0 (w ∷ rest) (at_deep levels limit ws end v i) (at_wrong levels limit ws rest w h)) i.3 in
      absurd (h.3 (b.0, b.1, b.2, b.3))
  one_answer levels limit ws (wrong (w ∷ rest)) (too_many y) h i =
      let b = moved_to (TooManyIn levels limit y) i.0 h.0 i.1 w i.2 rest (same_place levels limit ws i.0 (i.1 ∷ i.2) h.0 (w ∷ rest) (at_many levels limit ws y i) (at_wrong levels limit ws rest w h)) i.5 in
      absurd (h.3 (b.0, b.1, b.2, b.3))
  one_answer levels limit ws (too_deep []) r h i = absurd h
  one_answer levels limit ws (too_deep (w ∷ rest)) (spelled b) h i = absurd (not_both levels limit ws ws h.0 rest w (at_spelled levels limit ws b i) (at_deep levels limit ws rest w h))
  one_answer levels limit ws (too_deep (w ∷ rest)) (wrong []) h i = absurd (not_both levels limit ws ws h.0 rest w (at_end levels limit ws i) (at_deep levels limit ws rest w h))
  one_answer levels limit ws (too_deep (w ∷ rest)) (wrong (v ∷ end)) h i =
      let b = moved_to (TooDeepIn levels) h.0 i.0 w v rest end (same_place levels limit ws h.0 (w ∷ rest) i.0 (v ∷ end) (at_deep levels limit ws rest w h) (at_wrong levels limit ws end v i)) h.3 in
      absurd (i.3 (b.0, b.1, b.2, b.3))
  one_answer levels limit ws (too_deep (w ∷ rest)) (too_deep []) h i = absurd i
  one_answer levels limit ws (too_deep (w ∷ rest)) (too_deep (v ∷ end)) h i = ap (λ (us : List (WordOf g)). let r : Answer (WordOf g) g.Text = too_deep us in r) (same_place levels limit ws h.0 (w ∷ rest) i.0 (v ∷ end) (at_deep levels limit ws rest w h) (at_deep levels limit ws end v i)).1
  one_answer levels limit ws (too_deep (w ∷ rest)) (too_many y) h i =
      let b = moved_to (TooDeepIn levels) h.0 i.0 w i.1 rest i.2 (same_place levels limit ws h.0 (w ∷ rest) i.0 (i.1 ∷ i.2) (at_deep levels limit ws rest w h) (at_many levels limit ws y i)) h.3 in
      absurd (apart_both levels limit y (i.0 ++ i.1 ∷ []) b i.5)
  one_answer levels limit ws (too_many x) (spelled b) h i = absurd (not_both levels limit ws ws h.0 h.2 h.1 (at_spelled levels limit ws b i) (at_many levels limit ws x h))
  one_answer levels limit ws (too_many x) (wrong []) h i = absurd (not_both levels limit ws ws h.0 h.2 h.1 (at_end levels limit ws i) (at_many levels limit ws x h))
  one_answer levels limit ws (too_many x) (wrong (v ∷ end)) h i =
      let b = moved_to (TooManyIn levels limit x) h.0 i.0 h.1 v h.2 end (same_place levels limit ws h.0 (h.1 ∷ h.2) i.0 (v ∷ end) (at_many levels limit ws x h) (at_wrong levels limit ws end v i)) h.5 in
      absurd (i.3 (b.0, b.1, b.2, b.3))
  one_answer levels limit ws (too_many x) (too_deep []) h i = absurd i
  one_answer levels limit ws (too_many x) (too_deep (v ∷ end)) h i =
      let b = moved_to (TooManyIn levels limit x) h.0 i.0 h.1 v h.2 end (same_place levels limit ws h.0 (h.1 ∷ h.2) i.0 (v ∷ end) (at_many levels limit ws x h) (at_deep levels limit ws end v i)) h.5 in
      absurd (apart_both levels limit x (i.0 ++ v ∷ []) i.3 b)
  one_answer levels limit ws (too_many x) (too_many y) h i =
      let b = moved_to (TooManyIn levels limit x) h.0 i.0 h.1 i.1 h.2 i.2 (same_place levels limit ws h.0 (h.1 ∷ h.2) i.0 (i.1 ∷ i.2) (at_many levels limit ws x h) (at_many levels limit ws y i)) h.5 in
      ap (λ (z : WordOf g). let r : Answer (WordOf g) g.Text = too_many z in r) (same_name levels limit x y (i.0 ++ i.1 ∷ []) b i.5)
