-- Blanks and comments, which separate tokens.
use Rattle.std.specs.Prelude.{◌≡◌, ◌≢◌, ℕ, true, false, List, [], ◌∷◌, ◌++◌}
use Rattle.uc_lexer.specs.Bytes.{is_blank}

-- the bytes of a line before its line feed
abbrev pub IsLine : List ℕ → Type 0
IsLine [] = Unit {0}
IsLine (c ∷ cs) = (c ≢ 10) × IsLine cs

-- a line has ended before these bytes
abbrev pub EndsLine : List ℕ → Type 0
EndsLine [] = Unit {0}
EndsLine (c ∷ cs) = c ≡ 10

-- the bytes up to and with the first `*/`
abbrev pub IsBlock : List ℕ → Type 0
IsBlock [] = ⊥
IsBlock (c ∷ []) = ⊥
IsBlock (c ∷ d ∷ []) = (c ≡ 42) × (d ≡ 47)
IsBlock (c ∷ d ∷ e ∷ cs) = (c ≡ 42 → d ≡ 47 → ⊥) × IsBlock (d ∷ e ∷ cs)

-- no `*/` stands in these bytes
abbrev pub IsOpen : List ℕ → Type 0
IsOpen [] = Unit {0}
IsOpen (c ∷ []) = Unit {0}
IsOpen (c ∷ d ∷ cs) = (c ≡ 42 → d ≡ 47 → ⊥) × IsOpen (d ∷ cs)

-- the text begins with blanks and whole comments, up to the rest: `//` runs to the end of its line, `/*` through the first `*/`
pub data Skips : List ℕ → List ℕ → Type 0 where
  here : {text : List ℕ} → Skips text text
  blank : {c : ℕ} {text rest : List ℕ} → is_blank c ≡ true → Skips text rest → Skips (c ∷ text) rest
  line : (body : List ℕ) {text rest : List ℕ} → IsLine body → EndsLine text → Skips text rest → Skips (47 ∷ 47 ∷ (body ++ text)) rest
  block : (body : List ℕ) {text rest : List ℕ} → IsBlock body → Skips text rest → Skips (47 ∷ 42 ∷ (body ++ text)) rest

-- no blank and no comment begins the text
abbrev pub HasNoGap : List ℕ → Type 0
HasNoGap [] = Unit {0}
HasNoGap (c ∷ []) = is_blank c ≡ false
HasNoGap (c ∷ d ∷ cs) = (is_blank c ≡ false) × (c ≡ 47 → d ≡ 47 → ⊥) × (c ≡ 47 → d ≡ 42 → ⊥)

-- a comment without end begins the text
abbrev pub IsOpenComment : List ℕ → Type 0
IsOpenComment [] = ⊥
IsOpenComment (c ∷ []) = ⊥
IsOpenComment (c ∷ d ∷ cs) = (c ≡ 47) × (d ≡ 42) × IsOpen cs
