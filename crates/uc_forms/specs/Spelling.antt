-- What it is for words to spell a value of a form, and how each word then stands in the text.
use Rattle.std.specs.Prelude.{◌≡◌, ℕ, zero, suc, map, Bool, true, false, ◌||◌, nat_lt, if◌then◌else◌, List, [], ◌∷◌, ◌++◌, Option, Some, None, ◌⊎◌}
use Rattle.std.proofs.Common.{inl, inr}
use Rattle.uc_forms.specs.Alphabet.{Alphabet}
use Rattle.uc_forms.specs.Form.{Mark, quiet, declares, restarts, Form, any, nothing, both, either, chain, until, made, ahead, deep, Rules, member, codes_of}

-- what the words of nested forms spell
abbrev pub Language : (T : Alphabet) (N : Type 0) → (N → Type 0) → Type 1
Language T N V = (n : N) → List T.Word → V n → Type 0

-- words spell these values one after the other, and then maybe one of the other type
abbrev pub SpellChain : {W A B : Type 0} → (List W → A ⊎ B → Type 0) → List W → List A → Option B → Type 0
SpellChain L ws [] None = ws ≡ []
SpellChain L ws [] (Some b) = L ws (inr b)
SpellChain {W} L ws (a ∷ more) b = (front back : List W) × (ws ≡ front ++ back) × L front (inl a) × SpellChain L back more b

-- words spell these values one after the other, and then one of the other type
abbrev pub SpellUntil : {W A B : Type 0} → (List W → A → Type 0) → (List W → B → Type 0) → List W → List A → B → Type 0
SpellUntil L M ws [] b = M ws b
SpellUntil {W} L M ws (a ∷ more) b = (front back : List W) × (ws ≡ front ++ back) × L front a × SpellUntil L M back more b

-- the words spell the value in this form, where the nested forms are spelled so
abbrev pub SpellWith : {T : Alphabet} {N : Type 0} {V : N → Type 0} → Language T N V → {A : Type 0} → Form T N V A → List T.Word → A → Type 0
SpellWith {T} deeper (any q j js) ws w = (ws ≡ w ∷ []) × (member (T.kind w) (codes_of T j js) ≡ true)
SpellWith deeper nothing ws x = ws ≡ []
SpellWith {T} deeper (both f g) ws x = (front back : List T.Word) × (ws ≡ front ++ back) × SpellWith deeper f front x.0 × SpellWith deeper g back x.1
SpellWith deeper (either f g) ws x = elim x [ inl a ↦ SpellWith deeper f ws a | inr b ↦ SpellWith deeper g ws b ]
SpellWith deeper (chain f) ws x = SpellChain (SpellWith deeper f) ws x.0 x.1
SpellWith deeper (until f g) ws x = SpellUntil (SpellWith deeper f) (SpellWith deeper g) ws x.0 x.1
SpellWith deeper (made {A = A} h f) ws b = (a : A) × (b ≡ h a) × SpellWith deeper f ws a
SpellWith {T} deeper (ahead q j js k f g) ws x = elim x [
  | inl a ↦ (w : T.Word) × (rest : List T.Word) × (ws ≡ a.0 ∷ w ∷ rest) × (member (T.kind a.0) (codes_of T j js) ≡ true) × (T.kind w ≡ T.code k) × SpellWith deeper f rest a.1
  | inr b ↦ SpellWith deeper g ws b
]
SpellWith deeper (deep n) ws v = deeper n ws v

-- a nested form is spelled with at most so many levels
unfoldable pub SpellAt : {T : Alphabet} {N : Type 0} {V : N → Type 0} → Rules T N V → ℕ → Language T N V
SpellAt rule zero n ws v = ⊥
SpellAt rule (suc m) n ws v = SpellWith (SpellAt rule m) (rule n) ws v

-- the words spell the value in this form, with at most m levels
abbrev pub Spells : {T : Alphabet} {N : Type 0} {V : N → Type 0} → Rules T N V → ℕ → {A : Type 0} → Form T N V A → List T.Word → A → Type 0
Spells rule m f ws a = SpellWith (SpellAt rule m) f ws a

-- ---- how the words stand in what they spell

-- How a word stands in a text: what it does, the name that this is about, and the number of nested forms that it is in.
pub record Stand (W : Type 0) : Type 0 where
  pub mark : Mark
  pub name : W
  pub depth : ℕ

-- a word of no nested form
abbrev pub stand : {W : Type 0} → Mark → W → Stand W
stand q w = record { mark = q; name = w; depth = 0 }

abbrev pub one_deeper : {W : Type 0} → Stand W → Stand W
one_deeper x = record { mark = x.mark; name = x.name; depth = suc x.depth }

abbrev pub stands_chain : {W A B : Type 0} (L : List W → A ⊎ B → Type 0) → ((ws : List W) (x : A ⊎ B) → L ws x → List (Stand W)) → (ws : List W) (xs : List A) (b : Option B) → SpellChain L ws xs b → List (Stand W)
stands_chain L stands ws [] None s = []
stands_chain L stands ws [] (Some b) s = stands ws (inr b) s
stands_chain L stands ws (a ∷ xs) b s = stands s.0 (inl a) s.3 ++ stands_chain L stands s.1 xs b s.4

abbrev pub stands_until : {W A B : Type 0} (L : List W → A → Type 0) (M : List W → B → Type 0) → ((ws : List W) (x : A) → L ws x → List (Stand W)) → ((ws : List W) (x : B) → M ws x → List (Stand W)) → (ws : List W) (xs : List A) (b : B) → SpellUntil L M ws xs b → List (Stand W)
stands_until L M stands last ws [] b s = last ws b s
stands_until L M stands last ws (a ∷ xs) b s = stands s.0 a s.3 ++ stands_until L M stands last s.1 xs b s.4

-- how nested forms' words stand in them
abbrev pub Standing : (T : Alphabet) (N : Type 0) (V : N → Type 0) → Language T N V → Type 0
Standing T N V L = (n : N) (ws : List T.Word) (v : V n) → L n ws v → List (Stand T.Word)

-- how the words stand, one after the other
abbrev pub stands_with : {T : Alphabet} {N : Type 0} {V : N → Type 0} (L : Language T N V) → Standing T N V L → {A : Type 0} (f : Form T N V A) (ws : List T.Word) (a : A) → SpellWith L f ws a → List (Stand T.Word)
stands_with L inner (any q j js) ws w s = stand q w ∷ []
stands_with L inner nothing ws a s = []
stands_with L inner (both f g) ws a s = stands_with L inner f s.0 a.0 s.3 ++ stands_with L inner g s.1 a.1 s.4
stands_with L inner (either f g) ws (inl a) s = stands_with L inner f ws a s
stands_with L inner (either f g) ws (inr b) s = stands_with L inner g ws b s
stands_with L inner (chain f) ws a s = stands_chain (SpellWith L f) (stands_with L inner f) ws a.0 a.1 s
stands_with L inner (until f g) ws a s = stands_until (SpellWith L f) (SpellWith L g) (stands_with L inner f) (stands_with L inner g) ws a.0 a.1 s
stands_with L inner (made h f) ws b s = stands_with L inner f ws s.0 s.2
stands_with L inner (ahead q j js k f g) ws (inl a) s = stand quiet a.0 ∷ stand q a.0 ∷ stands_with L inner f s.1 a.1 s.5
stands_with L inner (ahead q j js k f g) ws (inr b) s = stands_with L inner g ws b s
stands_with L inner (deep n) ws v s = map one_deeper (inner n ws v s)

-- how the words of a nested form stand in it
unfoldable pub stands_at : {T : Alphabet} {N : Type 0} {V : N → Type 0} (rule : Rules T N V) (m : ℕ) → Standing T N V (SpellAt rule m)
unfolding SpellAt
stands_at rule zero n ws v s = []
stands_at rule (suc m) n ws v s = stands_with (SpellAt rule m) (stands_at rule m) (rule n) ws v s

abbrev pub stands : {T : Alphabet} {N : Type 0} {V : N → Type 0} (rule : Rules T N V) (m : ℕ) {A : Type 0} (f : Form T N V A) (ws : List T.Word) (a : A) → Spells rule m f ws a → List (Stand T.Word)
stands rule m f ws a s = stands_with (SpellAt rule m) (stands_at rule m) f ws a s

-- ---- limits

abbrev pub is_past : ℕ → ℕ → Bool
is_past m zero = false
is_past zero (suc d) = true
is_past (suc m) (suc d) = is_past m d

-- some word lies in more than so many nested forms
abbrev pub is_deeper : {W : Type 0} → ℕ → List (Stand W) → Bool
is_deeper m [] = false
is_deeper m (x ∷ xs) = is_past m x.depth || is_deeper m xs

-- the first declared name past a limit, where so many stand before
abbrev pub past_limit : {W : Type 0} → ℕ → ℕ → List (Stand W) → Option W
past_limit limit count [] = None
past_limit limit count (x ∷ xs) = elim x.mark [
  | quiet ↦ past_limit limit count xs
  | declares ↦ if nat_lt count limit then past_limit limit (suc count) xs else Some x.name
  | restarts ↦ past_limit limit 0 xs
]
