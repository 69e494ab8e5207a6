-- Two forms that spell the same.
use Rattle.std.specs.Prelude.{◌≡◌, ℕ, map, List, [], ◌∷◌}
use Rattle.uc_forms.specs.Form.{Mark, quiet, declares, restarts}
use Rattle.uc_forms.specs.Spelling.{Stand, Spells, stands}
use Rattle.uc_grammar.specs.declared.word.Word.{Word}
use Rattle.uc_grammar.specs.Syntax.{F, rule}

-- what the words of a text do to the count of declared names, in their order: each name that is declared, and each new start
abbrev pub counted : List (Stand Word) → List (Mark × Word)
counted [] = []
counted (x ∷ xs) = elim x.mark [ quiet ↦ counted xs | declares ↦ (declares, x.name) ∷ counted xs | restarts ↦ (restarts, x.name) ∷ counted xs ]

-- Words stand alike where each lies in as many nested forms, and the same names are declared in the same order.
abbrev pub StandAlike : List (Stand Word) → List (Stand Word) → Type 0
StandAlike xs ys = (map (λ x. x.depth) xs ≡ map (λ y. y.depth) ys) × (counted xs ≡ counted ys)

-- what the first form spells, the second spells at the same level, and the words stand alike
abbrev pub IsSpelledBy : {A : Type 0} → F A → F A → Type 0
IsSpelledBy {A} f g = (level : ℕ) (ws : List Word) (a : A) (s : Spells rule level f ws a) → (t : Spells rule level g ws a) × StandAlike (stands rule level f ws a s) (stands rule level g ws a t)

-- the two forms spell the same values by the same words
abbrev pub SpellTheSame : {A : Type 0} → F A → F A → Type 0
SpellTheSame f g = IsSpelledBy f g × IsSpelledBy g f
