-- The names that the grammar knows by their text.
use Rattle.std.specs.Prelude.{ℕ, List, [], ◌∷◌, codes, if◌then◌else◌}
use Rattle.std.specs.Str.{bytes_eq}
use Rattle.uc_grammar.specs.declared.word.Kind.{Kind}
use Rattle.uc_grammar.specs.declared.word.Kind.TheVariants.{Name, OnBits, Range, Unroll, Induction, Verify, Check, PrintResults, PrintCex}
use Rattle.uc_syntax.specs.declared.expression.BitFunction.TheVariants.{ZeroExtend, SignExtend, ShiftLeft, ShiftRight, ShiftRightSigned}

-- a text, and the kind of the word that has this text, by the number of the name
abbrev pub Entry : Type 0
Entry = List ℕ × (ℕ → Kind)

abbrev pub known_names : List Entry
known_names =
    (codes "range", Range) ∷ (codes "unroll", Unroll) ∷ (codes "induction", Induction) ∷ (codes "verify", Verify) ∷ (codes "check", Check)
    ∷ (codes "print_results", PrintResults) ∷ (codes "print_cex", PrintCex) ∷ (codes "bv_zero_extend", OnBits ZeroExtend) ∷ (codes "bv_sign_extend", OnBits SignExtend)
    ∷ (codes "bv_left_shift", OnBits ShiftLeft) ∷ (codes "bv_l_right_shift", OnBits ShiftRight) ∷ (codes "bv_a_right_shift", OnBits ShiftRightSigned) ∷ []

-- the kind of a name with this text and number: that of the table, else a name like any other
abbrev pub kind_in : List Entry → List ℕ → ℕ → Kind
kind_in [] text number = Name number
kind_in (e ∷ es) text number = if bytes_eq text e.0 then e.1 number else kind_in es text number
