-- How reading to some levels goes along words that spell a value of any depth.
use Rattle.std.proofs.Common.{◌≡◌, ℕ, zero, suc, ◌+◌, ◌≤◌, ◌<◌, Bool, true, false, List, [], ◌∷◌, ◌++◌, length, map, Option, Some, None, Ok, Err, refl, sym, ap, ◌∙◌, append_assoc, length-append, arith, inl, inr, ◌⊎◌}
use Rattle.std.specs.Prelude.{not, if◌then◌else◌, drop}
use Rattle.std.proofs.lemmas.Bool.{and_parts}
use Rattle.std.proofs.lemmas.List.{length-map, append-nil}
use Rattle.uc_forms.specs.declared.fault.Fault.TheVariants.{TooDeep}
use Rattle.uc_forms.specs.Alphabet.{Alphabet}
use Rattle.uc_forms.specs.Form.{Mark, quiet, Form, any, nothing, both, either, chain, until, made, ahead, deep, member, codes_of}
use Rattle.uc_forms.specs.Spelling.{Language, SpellChain, SpellUntil, SpellWith, Stand, stand, one_deeper, stands_chain, stands_until, Standing, stands_with, is_past}
use Rattle.uc_forms.specs.Reading.{Outcome, ◌>>=◌, turned, paired, is_at, is_at_two, read_any, read_word, read_chain, read_until, skips, first, read_with, note_word, then_note, note_turn, note_chain, note_until, note_with}
use Rattle.uc_forms.specs.Plain.{goes_on, apart, within, is_single, inside, nests, firm, is_plain}
use Rattle.uc_forms.proofs.Opening.{OpensBy, opening, opens_chain, opens_until, not_at, is_not}
use Rattle.uc_forms.proofs.Complete.{stops_at, begins, begins_not, stops_before, longer, two_are, two_are_not}
use Rattle.uc_forms.proofs.Second.{second, alone}
use Rattle.uc_forms.proofs.Counts.{StepOf, TurnOf, two_read}

-- ---- up to the first word that lies too deep

-- the words from the first on that lies deeper than m
abbrev pub cut : {W : Type 0} → ℕ → List (Stand W) → List W → Option (List W)
cut m [] ws = None
cut m (x ∷ xs) ws = if is_past m x.depth then Some ws else cut m xs (drop 1 ws)

-- the words before it
abbrev pub before_cut : {W : Type 0} → ℕ → List (Stand W) → List (Stand W)
before_cut m [] = []
before_cut m (x ∷ xs) = if is_past m x.depth then [] else x ∷ before_cut m xs

-- what reading gives
abbrev pub verdict : {W A : Type 0} → Option (List W) → A → List W → Outcome W A
verdict None a rest = Ok (a, rest)
verdict (Some back) a rest = Err (TooDeep, back)

abbrev pub then_cut : {W : Type 0} → Option (List W) → Option (List W) → Option (List W)
then_cut None d = d
then_cut (Some back) d = Some back

abbrev pub if_none : {W : Type 0} → Option (List W) → List (Stand W) → List (Stand W)
if_none None xs = xs
if_none (Some back) xs = []

drop_more : {W : Type 0} (n : ℕ) (ws : List W) → drop n (drop 1 ws) ≡ drop (suc n) ws
drop_more zero [] = refl
drop_more zero (w ∷ ws) = refl
drop_more (suc n) [] = refl
drop_more (suc n) (w ∷ ws) = refl

cut_append : {W : Type 0} (m : ℕ) (xs ys : List (Stand W)) (ws : List W) → cut m (xs ++ ys) ws ≡ then_cut (cut m xs ws) (cut m ys (drop (length xs) ws))
cut_append m [] ys ws = refl
cut_append {W} m (x ∷ xs) ys ws = tested (is_past m x.depth) (cut_append m xs ys (drop 1 ws))
  where
    tested : (b : Bool) → cut m (xs ++ ys) (drop 1 ws) ≡ then_cut (cut m xs (drop 1 ws)) (cut m ys (drop (length xs) (drop 1 ws))) → (if b then Some ws else cut m (xs ++ ys) (drop 1 ws)) ≡ then_cut (if b then Some ws else cut m xs (drop 1 ws)) (cut m ys (drop (suc (length xs)) ws))
    tested true e = refl
    tested false e = e ∙ ap (λ (u : List W). then_cut (cut m xs (drop 1 ws)) (cut m ys u)) (drop_more (length xs) ws)

before_append : {W : Type 0} (m : ℕ) (xs ys : List (Stand W)) (ws : List W) → before_cut m (xs ++ ys) ≡ before_cut m xs ++ if_none (cut m xs ws) (before_cut m ys)
before_append m [] ys ws = refl
before_append {W} m (x ∷ xs) ys ws = tested (is_past m x.depth) (before_append m xs ys (drop 1 ws))
  where
    tested : (b : Bool) → before_cut m (xs ++ ys) ≡ before_cut m xs ++ if_none (cut m xs (drop 1 ws)) (before_cut m ys) → (if b then [] else x ∷ before_cut m (xs ++ ys)) ≡ (if b then [] else x ∷ before_cut m xs) ++ if_none (if b then Some ws else cut m xs (drop 1 ws)) (before_cut m ys)
    tested true e = refl
    tested false e = ap (λ (u : List (Stand W)). x ∷ u) e

pub cut_deeper : {W : Type 0} (m : ℕ) (xs : List (Stand W)) (ws : List W) → cut (suc m) (map one_deeper xs) ws ≡ cut m xs ws
cut_deeper m [] ws = refl
cut_deeper {W} m (x ∷ xs) ws = ap (λ (u : Option (List W)). if is_past m x.depth then Some ws else u) (cut_deeper m xs (drop 1 ws))

pub before_deeper : {W : Type 0} (m : ℕ) (xs : List (Stand W)) → before_cut (suc m) (map one_deeper xs) ≡ map one_deeper (before_cut m xs)
before_deeper m [] = refl
before_deeper {W} m (x ∷ xs) = tested (is_past m x.depth) (before_deeper m xs)
  where
    tested : (b : Bool) → before_cut (suc m) (map one_deeper xs) ≡ map one_deeper (before_cut m xs) → (if b then [] else one_deeper x ∷ before_cut (suc m) (map one_deeper xs)) ≡ map one_deeper (if b then [] else x ∷ before_cut m xs)
    tested true e = refl
    tested false e = ap (λ (u : List (Stand W)). one_deeper x ∷ u) e

drop_front : {W : Type 0} (front back : List W) → drop (length front) (front ++ back) ≡ back
drop_front [] back = refl
drop_front (w ∷ front) back = drop_front front back

-- what is read and noted of words that stand so
abbrev pub Tracks : {W A : Type 0} → ℕ → List (Stand W) → List W → A → List W → Outcome W A → List (Stand W) → Type 0
Tracks m xs ws a rest r ys = (r ≡ verdict (cut m xs ws) a rest) × (ys ≡ before_cut m xs)

turned_verdict : {W A B : Type 0} (h : A → B) (c : Option (List W)) (a : A) (rest : List W) → turned h (verdict c a rest) ≡ verdict c (h a) rest
turned_verdict h None a rest = refl
turned_verdict h (Some back) a rest = refl

tracks_turned : {W A B : Type 0} (m : ℕ) (h : A → B) (xs : List (Stand W)) (ws : List W) (a : A) (rest : List W) (r : Outcome W A) (ys : List (Stand W)) → Tracks m xs ws a rest r ys → Tracks m xs ws (h a) rest (turned h r) ys
tracks_turned m h xs ws a rest r ys k = (ap (λ x. turned h x) k.0 ∙ turned_verdict h (cut m xs ws) a rest, k.1)

-- one part after the other: ws is front ++ mid, where front stands as xs
tracks_next : {W A C : Type 0} (m : ℕ) (xs us : List (Stand W)) (ws mid rest : List W) (a : A) (c : C) (r : Outcome W A) (ys : List (Stand W)) (all : Outcome W A → Outcome W C) (note : Outcome W A → List (Stand W)) → drop (length xs) ws ≡ mid
    → Tracks m xs ws a mid r ys → Tracks m us mid c rest (all (Ok (a, mid))) (note (Ok (a, mid))) → ((back : List W) → all (Err (TooDeep, back)) ≡ Err (TooDeep, back)) → ((back : List W) → note (Err (TooDeep, back)) ≡ [])
    → Tracks m (xs ++ us) ws c rest (all r) (ys ++ note r)
tracks_next {W} {A} {C} m xs us ws mid rest a c r ys all note d h k stops none = rw (h.0, h.1, cut_append m xs us ws, before_append m xs us ws, d) (by_cut (cut m xs ws))
  where
    by_cut : (o : Option (List W)) → (all (verdict o a mid) ≡ verdict (then_cut o (cut m us mid)) c rest) × (before_cut m xs ++ note (verdict o a mid) ≡ before_cut m xs ++ if_none o (before_cut m us))
    by_cut None = (k.0, ap (λ (u : List (Stand W)). before_cut m xs ++ u) k.1)
    by_cut (Some back) = (stops back, ap (λ (u : List (Stand W)). before_cut m xs ++ u) (none back))

-- the last part of a chain
tracks_last : {W A B : Type 0} (m : ℕ) (xs : List (Stand W)) (ws rest : List W) (b : B) (r : Outcome W (A ⊎ B)) (ys : List (Stand W)) (more : List W → Outcome W (List A × Option B)) (note : List W → List (Stand W)) → Tracks m xs ws (inr b) rest r ys
    → Tracks m xs ws ([], Some b) rest (r >>= λ x. StepOf more x.0 x.1) (ys ++ then_note r (λ x rest. note_turn x (note rest)))
tracks_last {W} {A} {B} m xs ws rest b r ys more note h = rw (h.0, h.1) (by_cut (cut m xs ws))
  where
    by_cut : (o : Option (List W)) → (let v : Outcome W (A ⊎ B) = verdict o (inr b) rest in ((v >>= λ x. StepOf more x.0 x.1) ≡ verdict o ([], Some b) rest) × (before_cut m xs ++ then_note v (λ x rest. note_turn x (note rest)) ≡ before_cut m xs))
    by_cut None = (refl, append-nil (before_cut m xs))
    by_cut (Some back) = (refl, append-nil (before_cut m xs))

module _ (T : Alphabet) where
  -- ---- as many stand as there are words

  abbrev pub Measured : {A : Type 0} (L : List T.Word → A → Type 0) → ((ws : List T.Word) (a : A) → L ws a → List (Stand T.Word)) → Type 0
  Measured {A} L stands = (ws : List T.Word) (a : A) (s : L ws a) → length (stands ws a s) ≡ length ws

  joined : (ws front back : List T.Word) (xs ys : List (Stand T.Word)) → ws ≡ front ++ back → length xs ≡ length front → length ys ≡ length back → length (xs ++ ys) ≡ length ws
  joined ws front back xs ys e p q = let i : length ws ≡ length front + length back = ap length e ∙ length-append front back in let j = length-append xs ys in omega arith

  measured_chain : {A B : Type 0} (L : List T.Word → A ⊎ B → Type 0) (stands : (ws : List T.Word) (x : A ⊎ B) → L ws x → List (Stand T.Word)) → Measured L stands → (ws : List T.Word) (xs : List A) (o : Option B) (s : SpellChain L ws xs o) → length (stands_chain L stands ws xs o s) ≡ length ws
  measured_chain L stands h ws [] None s = sym (ap length s)
  measured_chain L stands h ws [] (Some b) s = h ws (inr b) s
  measured_chain L stands h ws (a ∷ xs) o s = joined ws s.0 s.1 _ _ s.2 (h s.0 (inl a) s.3) (measured_chain L stands h s.1 xs o s.4)

  measured_until : {A B : Type 0} (L : List T.Word → A → Type 0) (M : List T.Word → B → Type 0) (stands : (ws : List T.Word) (x : A) → L ws x → List (Stand T.Word)) (last : (ws : List T.Word) (x : B) → M ws x → List (Stand T.Word)) → Measured L stands → Measured M last
      → (ws : List T.Word) (xs : List A) (b : B) (s : SpellUntil L M ws xs b) → length (stands_until L M stands last ws xs b s) ≡ length ws
  measured_until L M stands last h g ws [] b s = g ws b s
  measured_until L M stands last h g ws (a ∷ xs) b s = joined ws s.0 s.1 _ _ s.2 (h s.0 a s.3) (measured_until L M stands last h g s.1 xs b s.4)

  pub measured : {N : Type 0} {V : N → Type 0} (X : Language T N V) (inner : Standing T N V X) → ((n : N) → Measured (X n) (inner n)) → {A : Type 0} (f : Form T N V A) → Measured (SpellWith X f) (stands_with X inner f)
  measured X inner h (any q j js) ws a s = sym (ap length s.0)
  measured X inner h nothing ws a s = sym (ap length s)
  measured X inner h (both f g) ws a s = joined ws s.0 s.1 _ _ s.2 (measured X inner h f s.0 a.0 s.3) (measured X inner h g s.1 a.1 s.4)
  measured X inner h (either f g) ws (inl a) s = measured X inner h f ws a s
  measured X inner h (either f g) ws (inr b) s = measured X inner h g ws b s
  measured X inner h (chain f) ws a s = measured_chain (SpellWith X f) (stands_with X inner f) (measured X inner h f) ws a.0 a.1 s
  measured X inner h (until f g) ws a s = measured_until (SpellWith X f) (SpellWith X g) (stands_with X inner f) (stands_with X inner g) (measured X inner h f) (measured X inner h g) ws a.0 a.1 s
  measured X inner h (made m f) ws b s = measured X inner h f ws s.0 s.2
  measured X inner h (ahead q j js k f g) ws (inl a) s = let i = measured X inner h f s.1 a.1 s.5 in let e : length ws ≡ suc (suc (length s.1)) = ap length s.2 in omega arith
  measured X inner h (ahead q j js k f g) ws (inr b) s = measured X inner h g ws b s
  measured X inner h (deep n) ws v s = length-map (inner n ws v s) one_deeper ∙ h n ws v s

  -- ---- reading along a spelling

  -- the words of a spelling, and others after them that do not go on with it, are read and noted as they stand
  abbrev pub Along : {A : Type 0} → ℕ → (L : List T.Word → A → Type 0) → ((ws : List T.Word) (a : A) → L ws a → List (Stand T.Word)) → List ℕ → (List T.Word → Outcome T.Word A) → (List T.Word → List (Stand T.Word)) → Type 0
  Along {A} m L stands goes read note = (front : List T.Word) (a : A) (rest : List T.Word) (s : L front a) → is_at T goes rest ≡ false → Tracks m (stands front a s) (front ++ rest) a rest (read (front ++ rest)) (note (front ++ rest))

  past_front : (front mid : List T.Word) (xs : List (Stand T.Word)) → length xs ≡ length front → drop (length xs) (front ++ mid) ≡ mid
  past_front front mid xs e = ap (λ (n : ℕ). drop n (front ++ mid)) e ∙ drop_front front mid

  chain_yes : {A B : Type 0} (cs : List ℕ) (item : List T.Word → Outcome T.Word (A ⊎ B)) (n : ℕ) (ws : List T.Word) → is_at T cs ws ≡ true → read_chain T cs item (suc n) ws ≡ (item ws >>= λ x. StepOf (read_chain T cs item n) x.0 x.1)
  unfolding read_chain
  chain_yes cs item n ws e = rw e refl

  chain_no : {A B : Type 0} (cs : List ℕ) (item : List T.Word → Outcome T.Word (A ⊎ B)) (n : ℕ) (ws : List T.Word) → is_at T cs ws ≡ false → read_chain T cs item n ws ≡ Ok (([], None), ws)
  unfolding read_chain
  chain_no cs item zero ws e = refl
  chain_no cs item (suc n) ws e = rw e refl

  note_yes : {A B : Type 0} (cs : List ℕ) (item : List T.Word → Outcome T.Word (A ⊎ B)) (note : List T.Word → List (Stand T.Word)) (n : ℕ) (ws : List T.Word) → is_at T cs ws ≡ true → note_chain T cs item note (suc n) ws ≡ note ws ++ then_note (item ws) (λ x rest. note_turn x (note_chain T cs item note n rest))
  unfolding note_chain
  note_yes cs item note n ws e = rw e refl

  note_no : {A B : Type 0} (cs : List ℕ) (item : List T.Word → Outcome T.Word (A ⊎ B)) (note : List T.Word → List (Stand T.Word)) (n : ℕ) (ws : List T.Word) → is_at T cs ws ≡ false → note_chain T cs item note n ws ≡ []
  unfolding note_chain
  note_no cs item note zero ws e = refl
  note_no cs item note (suc n) ws e = rw e refl

  along_chain : {A B : Type 0} (m : ℕ) (L : List T.Word → A ⊎ B → Type 0) (stands : (ws : List T.Word) (x : A ⊎ B) → L ws x → List (Stand T.Word)) (cs goes : List ℕ) (p : Bool) (item : List T.Word → Outcome T.Word (A ⊎ B)) (note : List T.Word → List (Stand T.Word))
      → Measured L stands → ((ws : List T.Word) (x : A ⊎ B) → L ws x → OpensBy T cs p ws) → p ≡ false → apart goes cs ≡ true → Along m L stands goes item note
      → (xs : List A) (o : Option B) (n : ℕ) (front rest : List T.Word) → length front ≤ n → (s : SpellChain L front xs o) → is_at T cs rest ≡ false → is_at T goes rest ≡ false
      → Tracks m (stands_chain L stands front xs o s) (front ++ rest) (xs, o) rest (read_chain T cs item n (front ++ rest)) (note_chain T cs item note n (front ++ rest))
  along_chain m L stands cs goes p item note len opens e t h [] None n front rest l s stop out = rw s (chain_no cs item n rest stop, note_no cs item note n rest stop)
  along_chain m L stands cs goes p item note len opens e t h [] (Some b) zero front rest l s stop out = absurd (let k : 0 < length front = longer T front cs p e (opens front (inr b) s) in omega arith)
  along_chain m L stands cs goes p item note len opens e t h [] (Some b) (suc n) front rest l s stop out =
      let yes = begins T front rest cs p e (opens front (inr b) s) in
      rw (chain_yes cs item n (front ++ rest) yes, note_yes cs item note n (front ++ rest) yes)
      (tracks_last m (stands front (inr b) s) (front ++ rest) rest b (item (front ++ rest)) (note (front ++ rest)) (read_chain T cs item n) (note_chain T cs item note n) (h front (inr b) rest s out))
  along_chain m L stands cs goes p item note len opens e t h (a ∷ xs) o zero front rest l s stop out = absurd (let k : 0 < length s.0 = longer T s.0 cs p e (opens s.0 (inl a) s.3) in let i : length front ≡ length s.0 + length s.1 = ap length s.2 ∙ length-append s.0 s.1 in omega arith)
  along_chain {A} {B} m L stands cs goes p item note len opens e t h (a ∷ xs) o (suc n) front rest l s stop out =
      let f = opens s.0 (inl a) s.3 in
      let k : 0 < length s.0 = longer T s.0 cs p e f in
      let i : length front ≡ length s.0 + length s.1 = ap length s.2 ∙ length-append s.0 s.1 in
      let mid : List T.Word = s.1 ++ rest in
      let is : front ++ rest ≡ s.0 ++ mid = ap (λ (u : List T.Word). u ++ rest) s.2 ∙ append_assoc s.0 s.1 rest in
      let yes = begins T s.0 mid cs p e f in
      let goes_stop : is_at T goes mid ≡ false = stops_at T s.1 rest goes cs true t (opens_chain T L cs p opens s.1 xs o s.4) (λ x. out) in
      let ih = along_chain m L stands cs goes p item note len opens e t h xs o n s.1 rest (omega arith) s.4 stop out in
      rw (is, chain_yes cs item n (s.0 ++ mid) yes, note_yes cs item note n (s.0 ++ mid) yes)
      (tracks_next m (stands s.0 (inl a) s.3) (stands_chain L stands s.1 xs o s.4) (s.0 ++ mid) mid rest (inl a) (a ∷ xs, o) (item (s.0 ++ mid)) (note (s.0 ++ mid)) (λ r. r >>= λ x. StepOf (read_chain T cs item n) x.0 x.1) (λ r. then_note r (λ x rest. note_turn x (note_chain T cs item note n rest)))
      (past_front s.0 mid (stands s.0 (inl a) s.3) (len s.0 (inl a) s.3)) (h s.0 (inl a) mid s.3 goes_stop) (tracks_turned m (λ (y : List A × Option B). (a ∷ y.0, y.1)) (stands_chain L stands s.1 xs o s.4) mid (xs, o) rest (read_chain T cs item n mid) (note_chain T cs item note n mid) ih) (λ back. refl) (λ back. refl))

  until_last : {A B : Type 0} (cs : List ℕ) (item : List T.Word → Outcome T.Word A) (ender : List T.Word → Outcome T.Word B) (n : ℕ) (ws : List T.Word) → is_at T cs ws ≡ true → read_until T cs item ender n ws ≡ turned (λ b. ([], b)) (ender ws)
  unfolding read_until
  until_last cs item ender zero ws e = refl
  until_last cs item ender (suc n) ws e = rw e refl

  until_more : {A B : Type 0} (cs : List ℕ) (item : List T.Word → Outcome T.Word A) (ender : List T.Word → Outcome T.Word B) (n : ℕ) (ws : List T.Word) → is_at T cs ws ≡ false → read_until T cs item ender (suc n) ws ≡ (item ws >>= λ x. TurnOf (read_until T cs item ender n) x.0 x.1)
  unfolding read_until
  until_more cs item ender n ws e = rw e refl

  note_last : {A : Type 0} (cs : List ℕ) (item : List T.Word → Outcome T.Word A) (note last : List T.Word → List (Stand T.Word)) (n : ℕ) (ws : List T.Word) → is_at T cs ws ≡ true → note_until T cs item note last n ws ≡ last ws
  unfolding note_until
  note_last cs item note last zero ws e = refl
  note_last cs item note last (suc n) ws e = rw e refl

  note_more : {A : Type 0} (cs : List ℕ) (item : List T.Word → Outcome T.Word A) (note last : List T.Word → List (Stand T.Word)) (n : ℕ) (ws : List T.Word) → is_at T cs ws ≡ false → note_until T cs item note last (suc n) ws ≡ note ws ++ then_note (item ws) (λ a rest. note_until T cs item note last n rest)
  unfolding note_until
  note_more cs item note last n ws e = rw e refl

  along_until : {A B : Type 0} (m : ℕ) (L : List T.Word → A → Type 0) (M : List T.Word → B → Type 0) (stands : (ws : List T.Word) (x : A) → L ws x → List (Stand T.Word)) (ends : (ws : List T.Word) (x : B) → M ws x → List (Stand T.Word)) (cs ds goes stops : List ℕ) (p q : Bool)
      (item : List T.Word → Outcome T.Word A) (ender : List T.Word → Outcome T.Word B) (note last : List T.Word → List (Stand T.Word)) → Measured L stands
      → ((ws : List T.Word) (x : A) → L ws x → OpensBy T cs p ws) → ((ws : List T.Word) (x : B) → M ws x → OpensBy T ds q ws) → p ≡ false → q ≡ false → apart ds cs ≡ true → apart goes cs ≡ true → apart goes ds ≡ true
      → Along m L stands goes item note → Along m M ends stops ender last
      → (xs : List A) (b : B) (n : ℕ) (front rest : List T.Word) → length front ≤ n → (s : SpellUntil L M front xs b) → is_at T stops rest ≡ false
      → Tracks m (stands_until L M stands ends front xs b s) (front ++ rest) (xs, b) rest (read_until T ds item ender n (front ++ rest)) (note_until T ds item note last n (front ++ rest))
  along_until {A} {B} m L M stands ends cs ds goes stops p q item ender note last len opens closes e f t u v h g [] b n front rest l s out =
      let yes = begins T front rest ds q f (closes front b s) in
      rw (until_last ds item ender n (front ++ rest) yes, note_last ds item note last n (front ++ rest) yes)
      (tracks_turned m (λ (b : B). let none : List A = [] in (none, b)) (ends front b s) (front ++ rest) b rest (ender (front ++ rest)) (last (front ++ rest)) (g front b rest s out))
  along_until m L M stands ends cs ds goes stops p q item ender note last len opens closes e f t u v h g (a ∷ xs) b zero front rest l s out =
      absurd (let k : 0 < length s.0 = longer T s.0 cs p e (opens s.0 a s.3) in let i : length front ≡ length s.0 + length s.1 = ap length s.2 ∙ length-append s.0 s.1 in omega arith)
  along_until {A} {B} m L M stands ends cs ds goes stops p q item ender note last len opens closes e f t u v h g (a ∷ xs) b (suc n) front rest l s out =
      let o = opens s.0 a s.3 in
      let k : 0 < length s.0 = longer T s.0 cs p e o in
      let i : length front ≡ length s.0 + length s.1 = ap length s.2 ∙ length-append s.0 s.1 in
      let mid : List T.Word = s.1 ++ rest in
      let is : front ++ rest ≡ s.0 ++ mid = ap (λ (z : List T.Word). z ++ rest) s.2 ∙ append_assoc s.0 s.1 rest in
      let no = begins_not T s.0 mid ds cs p t o (λ x. absurd (cc (x, e))) in
      let after = opens_until T L M cs ds p q opens closes s.1 xs b s.4 in
      let ih = along_until m L M stands ends cs ds goes stops p q item ender note last len opens closes e f t u v h g xs b n s.1 rest (omega arith) s.4 out in
      rw (is, until_more ds item ender n (s.0 ++ mid) no, note_more ds item note last n (s.0 ++ mid) no)
      (tracks_next m (stands s.0 a s.3) (stands_until L M stands ends s.1 xs b s.4) (s.0 ++ mid) mid rest a (a ∷ xs, b) (item (s.0 ++ mid)) (note (s.0 ++ mid)) (λ r. r >>= λ x. TurnOf (read_until T ds item ender n) x.0 x.1) (λ r. then_note r (λ x rest. note_until T ds item note last n rest))
      (past_front s.0 mid (stands s.0 a s.3) (len s.0 a s.3)) (h s.0 a mid s.3 (stops_before T s.1 rest goes cs ds q f u v after)) (tracks_turned m (λ (y : List A × B). (a ∷ y.0, y.1)) (stands_until L M stands ends s.1 xs b s.4) mid (xs, b) rest (read_until T ds item ender n mid) (note_until T ds item note last n mid) ih) (λ back. refl) (λ back. refl))

  along_any : (m : ℕ) (q : Mark) (j : T.Kind) (js : List T.Kind) (w : T.Word) (rest : List T.Word) → member (T.kind w) (codes_of T j js) ≡ true → Tracks m (stand q w ∷ []) (w ∷ rest) w rest (read_any T j js (w ∷ rest)) (note_word T q j js (w ∷ rest))
  along_any m q j js w rest e = rw e (refl, refl)

  -- two words, and then a part
  along_two : {A B : Type 0} (m : ℕ) (q : Mark) (j : T.Kind) (js : List T.Kind) (k : T.Kind) (f : List T.Word → Outcome T.Word A) (v w : T.Word) (us rest : List T.Word) (a : A) (xs : List (Stand T.Word)) (ys : List (Stand T.Word)) → is_at_two T j js k (v ∷ w ∷ us) ≡ true → Tracks m xs us a rest (f us) ys
      → Tracks {A = (T.Word × A) ⊎ B} m (stand quiet v ∷ stand q v ∷ xs) (v ∷ w ∷ us) (inl (v, a)) rest (turned inl (paired (read_any T j js (v ∷ w ∷ us)) (λ zs. turned (λ x. x.1) (paired (read_word T k zs) f)))) (stand quiet v ∷ stand q v ∷ ys)
  along_two {A} {B} m q j js k f v w us rest a xs ys e h = (
    ap (λ (r : Outcome T.Word (T.Word × A)). turned inl r) (two_read T j js k v w us f e) ∙ ap (λ (r : Outcome T.Word A). turned inl (turned (λ b. (v, b)) (turned (λ (x : T.Word × A). x.1) (turned (λ b. (w, b)) r)))) h.0 ∙ by_cut (cut m xs us),
    ap (λ (u : List (Stand T.Word)). stand quiet v ∷ stand q v ∷ u) h.1,
  )
    where
      by_cut : (c : Option (List T.Word)) → turned (λ (x : T.Word × A). let y : (T.Word × A) ⊎ B = inl x in y) (turned (λ b. (v, b)) (turned (λ (x : T.Word × A). x.1) (turned (λ b. (w, b)) (verdict c a rest)))) ≡ verdict c (inl (v, a)) rest
      by_cut None = refl
      by_cut (Some back) = refl

  pub along : {N : Type 0} {V : N → Type 0} (m : ℕ) (X : Language T N V) (inner : Standing T N V X) (opens goes : N → List ℕ) (deeper : (n : N) → List T.Word → Outcome T.Word (V n)) (notes : (n : N) → List T.Word → List (Stand T.Word)) → ((n : N) (ws : List T.Word) (v : V n) → X n ws v → OpensBy T (opens n) false ws)
      → ((n : N) → Measured (X n) (inner n)) → ((n : N) → Along m (X n) (λ ws v s. map one_deeper (inner n ws v s)) (goes n) (deeper n) (λ ws. map one_deeper (notes n ws)))
      → {A : Type 0} (f : Form T N V A) → is_plain opens goes f ≡ true → Along m (SpellWith X f) (stands_with X inner f) (goes_on opens goes f) (read_with opens deeper f) (note_with opens deeper notes f)
  along m X inner opens goes deeper notes o c h (any q j js) p front a rest s out = rw s.0 (along_any m q j js a rest s.1)
  along m X inner opens goes deeper notes o c h nothing p front a rest s out = rw s (refl, refl)
  along m X inner opens goes deeper notes o c h (both {A = A} {B = B} f g) p front a rest s out =
      let x = and_parts (is_plain opens goes f) _ p in
      let y = and_parts (is_plain opens goes g) _ x.1 in
      let n = not_at T rest (goes_on opens goes g) (if skips g then goes_on opens goes f else []) out in
      let mid : List T.Word = s.1 ++ rest in
      let is : front ++ rest ≡ s.0 ++ mid = ap (λ (u : List T.Word). u ++ rest) s.2 ∙ append_assoc s.0 s.1 rest in
      let stop : is_at T (goes_on opens goes f) mid ≡ false = stops_at T s.1 rest (goes_on opens goes f) (first opens g) (skips g) y.1 (opening T X opens o g s.1 a.1 s.4) (λ e. let t : is_at T (if skips g then goes_on opens goes f else []) rest ≡ false = n.1 in rw e at t) in
      rw is (tracks_next m (stands_with X inner f s.0 a.0 s.3) (stands_with X inner g s.1 a.1 s.4) (s.0 ++ mid) mid rest a.0 a (read_with opens deeper f (s.0 ++ mid)) (note_with opens deeper notes f (s.0 ++ mid)) (λ r. paired r (read_with opens deeper g)) (λ r. then_note r (λ x rest. note_with opens deeper notes g rest))
      (past_front s.0 mid (stands_with X inner f s.0 a.0 s.3) (measured X inner c f s.0 a.0 s.3)) (along m X inner opens goes deeper notes o c h f x.0 s.0 a.0 mid s.3 stop)
      (tracks_turned m (λ (b : B). (a.0, b)) (stands_with X inner g s.1 a.1 s.4) mid a.1 rest (read_with opens deeper g mid) (note_with opens deeper notes g mid) (along m X inner opens goes deeper notes o c h g y.0 s.1 a.1 rest s.4 n.0)) (λ back. refl) (λ back. refl))
  along m X inner opens goes deeper notes o c h (either {A = A} {B = B} f g) p front (inl a) rest s out =
      let x = and_parts (is_plain opens goes f) _ p in
      let y = and_parts (is_plain opens goes g) _ x.1 in
      let z = and_parts (not (skips f)) _ y.1 in
      let n = not_at T rest (goes_on opens goes f) (goes_on opens goes g ++ (if skips g then first opens f else [])) out in
      let yes : is_at T (first opens f) (front ++ rest) ≡ true = begins T front rest (first opens f) (skips f) (is_not T (skips f) z.0) (opening T X opens o f front a s) in
      rw yes (tracks_turned m (λ (a : A). let v : A ⊎ B = inl a in v) (stands_with X inner f front a s) (front ++ rest) a rest (read_with opens deeper f (front ++ rest)) (note_with opens deeper notes f (front ++ rest)) (along m X inner opens goes deeper notes o c h f x.0 front a rest s n.0))
  along m X inner opens goes deeper notes o c h (either {A = A} {B = B} f g) p front (inr b) rest s out =
      let x = and_parts (is_plain opens goes f) _ p in
      let y = and_parts (is_plain opens goes g) _ x.1 in
      let z = and_parts (not (skips f)) _ y.1 in
      let n = not_at T rest (goes_on opens goes f) (goes_on opens goes g ++ (if skips g then first opens f else [])) out in
      let k = not_at T rest (goes_on opens goes g) (if skips g then first opens f else []) n.1 in
      let no : is_at T (first opens f) (front ++ rest) ≡ false = begins_not T front rest (first opens f) (first opens g) (skips g) z.1 (opening T X opens o g front b s) (λ e. let t : is_at T (if skips g then first opens f else []) rest ≡ false = k.1 in rw e at t) in
      rw no (tracks_turned m (λ (b : B). let v : A ⊎ B = inr b in v) (stands_with X inner g front b s) (front ++ rest) b rest (read_with opens deeper g (front ++ rest)) (note_with opens deeper notes g (front ++ rest)) (along m X inner opens goes deeper notes o c h g y.0 front b rest s k.0))
  along m X inner opens goes deeper notes o c h (chain f) p front a rest s out =
      let x = and_parts (is_plain opens goes f) _ p in
      let y = and_parts (not (skips f)) _ x.1 in
      let n = not_at T rest (first opens f) (goes_on opens goes f) out in
      along_chain m (SpellWith X f) (stands_with X inner f) (first opens f) (goes_on opens goes f) (skips f) (read_with opens deeper f) (note_with opens deeper notes f) (measured X inner c f) (opening T X opens o f) (is_not T (skips f) y.0) y.1 (along m X inner opens goes deeper notes o c h f x.0)
      a.0 a.1 (length (front ++ rest)) front rest (let k = length-append front rest in omega arith) s n.0 n.1
  along m X inner opens goes deeper notes o c h (until f g) p front a rest s out =
      let x = and_parts (is_plain opens goes f) _ p in
      let y = and_parts (is_plain opens goes g) _ x.1 in
      let z = and_parts (not (skips f)) _ y.1 in
      let w = and_parts (not (skips g)) _ z.1 in
      let t = and_parts (apart (first opens g) (first opens f)) _ w.1 in
      let u = and_parts (apart (goes_on opens goes f) (first opens f)) _ t.1 in
      along_until m (SpellWith X f) (SpellWith X g) (stands_with X inner f) (stands_with X inner g) (first opens f) (first opens g) (goes_on opens goes f) (goes_on opens goes g) (skips f) (skips g) (read_with opens deeper f) (read_with opens deeper g) (note_with opens deeper notes f) (note_with opens deeper notes g)
      (measured X inner c f) (opening T X opens o f) (opening T X opens o g) (is_not T (skips f) z.0) (is_not T (skips g) w.0) t.0 u.0 u.1 (along m X inner opens goes deeper notes o c h f x.0) (along m X inner opens goes deeper notes o c h g y.0)
      a.0 a.1 (suc (length (front ++ rest))) front rest (let k = length-append front rest in omega arith) s out
  along m X inner opens goes deeper notes o c h (made {A = A} {B = B} v f) p front b rest s out = rw s.1 (tracks_turned m v (stands_with X inner f front s.0 s.2) (front ++ rest) s.0 rest (read_with opens deeper f (front ++ rest)) (note_with opens deeper notes f (front ++ rest)) (along m X inner opens goes deeper notes o c h f p front s.0 rest s.2 out))
  along m X inner opens goes deeper notes o c h (ahead q j js k f g) p front (inl a) rest s out =
      let x = and_parts (is_plain opens goes f) _ p in
      let n = not_at T rest (goes_on opens goes f) (goes_on opens goes g) (not_at T rest (if is_single g then T.code k ∷ [] else []) (goes_on opens goes f ++ goes_on opens goes g) out).1 in
      let us : List T.Word = s.1 ++ rest in
      let is : front ++ rest ≡ a.0 ∷ s.0 ∷ us = ap (λ (u : List T.Word). u ++ rest) s.2 in
      let yes : is_at_two T j js k (a.0 ∷ s.0 ∷ us) ≡ true = two_are T j js k a.0 s.0 us s.3 s.4 in
      rw (is, yes) (along_two m q j js k (read_with opens deeper f) a.0 s.0 us rest a.1 (stands_with X inner f s.1 a.1 s.5) (note_with opens deeper notes f us) yes (along m X inner opens goes deeper notes o c h f x.0 s.1 a.1 rest s.5 n.0))
  along m X inner opens goes deeper notes o c h (ahead {A = A} {B = B} q j js k f g) p front (inr b) rest s out =
      let x = and_parts (is_plain opens goes f) _ p in
      let y = and_parts (is_plain opens goes g) _ x.1 in
      let z = and_parts (not (skips g)) _ y.1 in
      let w = and_parts (within (codes_of T j js) (firm g)) _ z.1 in
      let v = and_parts (not (member (T.code k) (inside opens g))) _ w.1 in
      let u = and_parts (apart (nests opens g) (codes_of T j js)) _ v.1 in
      let n = not_at T rest (if is_single g then T.code k ∷ [] else []) (goes_on opens goes f ++ goes_on opens goes g) out in
      let i = not_at T rest (goes_on opens goes f) (goes_on opens goes g) n.1 in
      let no : is_at_two T j js k (front ++ rest) ≡ false = two_are_not T j js k front rest (inside opens g) (nests opens g) (first opens g) (skips g) (is_not T (skips g) z.0) (is_not T (member (T.code k) (inside opens g)) v.0) u.0 (opening T X opens o g front b s) (second T X opens o g front b s) (is_single g) (alone T X opens o g front b s) (λ e. let t : is_at T (if is_single g then T.code k ∷ [] else []) rest ≡ false = n.0 in rw e at t) in
      rw no (tracks_turned m (λ (b : B). let v : (T.Word × A) ⊎ B = inr b in v) (stands_with X inner g front b s) (front ++ rest) b rest (read_with opens deeper g (front ++ rest)) (note_with opens deeper notes g (front ++ rest)) (along m X inner opens goes deeper notes o c h g y.0 front b rest s i.1))
  along m X inner opens goes deeper notes o c h (deep n) p front v rest s out = h n front v rest s out
