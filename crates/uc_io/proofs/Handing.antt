-- What texts in memory hold, and what they hand on.
use Rattle.std.proofs.Common.{◌≡◌, ◌∙◌, ℕ, suc, zero, ◌+◌, ◌<◌, ◌≤◌, List, [], ◌∷◌, ◌++◌, true, Some, length, take, drop, get_or, slice_get, string_bytes, min, sym, ap, arith, length-append, length-drop, length-take, take_at, take-append-drop, drop-drop}
use Rattle.std.proofs.lemmas.List.{nil_from_length}
use Rattle.std.specs.Str.{bytes_eq}
use Rattle.uc_io.specs.Memory.{File, held_in, bytes_of}
use Rattle.uc_io.specs.Texts.{Gives}

-- a text that has the name is what is held under it, where none before it has the name
pub held_here : (files : List File) (name : List ℕ) (number : ℕ) (file : File) → number < length files → file ≡ get_or files number file → bytes_eq (string_bytes file.0) name ≡ true
    → held_in (drop number files) name ≡ Some (bytes_of (slice_get files number))
held_here [] name number file within is named = absurd (omega arith)
held_here (first ∷ files) name zero file within is named = rw (ap (λ (f : File). bytes_eq (string_bytes f.0) name) (sym is) ∙ named)
held_here (first ∷ files) name (suc number) file within is named = held_here files name number file (omega arith) is named

-- a front of what is left, as long as the buffer and the piece allow, stands in the buffer
pub gives : (left buffer : List ℕ) (count piece : ℕ) → count ≡ min (min (length left) (length buffer)) piece → 1 ≤ piece
    → Gives left count (take count left ++ drop count buffer) (drop count left)
gives left buffer count piece is some = record {
  bytes = rw (take_at (take count left) (drop count buffer) count (length-take count left ∙ omega arith)) (sym (take-append-drop count left));
  end = λ none room. nil_from_length left (omega (arith, length-append (take count left) (drop count buffer), length-take count left, length-drop count buffer));
}

-- the same from a place in a text
pub gives_from : (text buffer : List ℕ) (place count piece : ℕ) → count ≡ min (min (length (drop place text)) (length buffer)) piece → 1 ≤ piece
    → Gives (drop place text) count (take count (drop place text) ++ drop count buffer) (drop (place + count) text)
gives_from text buffer place count piece is some = rw (← drop-drop count place text) (gives (drop place text) buffer count piece is some)
