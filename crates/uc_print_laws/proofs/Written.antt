-- Texts that go on with the words of several parts.
use Rattle.std.specs.Prelude.{get_or}
use Rattle.std.proofs.Common.{◌≡◌, ℕ, zero, suc, ◌+◌, ◌<◌, ◌≤◌, List, [], ◌∷◌, ◌++◌, length, map, drop, refl, sym, ap, ◌∙◌, arith}
use Rattle.std.proofs.lemmas.List.{drop_all}
use Rattle.std.proofs.Math.Seq.{drop-cons}
use Rattle.uc_grammar.specs.declared.word.Kind.{Kind}
use Rattle.uc_print_laws.specs.Piece.{Piece}
use Rattle.uc_print_laws.specs.Printed.{Printed, each, behind, joined}
use Rattle.uc_print_laws.specs.Text.{kind_text, with_word, spelling, written}

pub written_both : (names : List (List ℕ)) (out : List ℕ) (ps qs : List Piece) → written names out (ps ++ qs) ≡ written names (written names out ps) qs
written_both names out [] qs = refl
written_both names out (p ∷ ps) qs = written_both names (with_word out (spelling names p)) ps qs

pub drop_more : {A : Type 0} (xs : List A) (k : ℕ) (x : A) → k < length xs → x ≡ get_or xs k x → drop k xs ≡ x ∷ drop (k + 1) xs
drop_more xs k x h e = let f : k + 1 ≡ suc k = omega arith in rw (f, drop-cons xs k x h) (ap (λ z. z ∷ drop (suc k) xs) (sym e))

pub each_more : {C : Type 0} (names : List (List ℕ)) (show : C → Printed) (k : ℕ) (xs : List C) (x : C) (out now total : List ℕ) → k < length xs → x ≡ get_or xs k x → written names out (each show (drop k xs)).words ≡ total
    → now ≡ written names out (show x).words → written names now (each show (drop (k + 1) xs)).words ≡ total
unfolding each
each_more names show k xs x out now total h e so_far put =
    ap (λ z. written names z (each show (drop (k + 1) xs)).words) put ∙ sym (written_both names out (show x).words (each show (drop (k + 1) xs)).words)
    ∙ ap (λ z. written names out (each show z).words) (sym (drop_more xs k x h e)) ∙ so_far

pub each_end : {C : Type 0} (names : List (List ℕ)) (show : C → Printed) (k : ℕ) (xs : List C) (out total : List ℕ) → length xs ≤ k → written names out (each show (drop k xs)).words ≡ total → out ≡ total
unfolding each
each_end names show k xs out total h so_far = ap (λ z. written names out (each show z).words) (sym (drop_all k xs h)) ∙ so_far

pub behind_more : {C : Type 0} (names : List (List ℕ)) (sign : Kind) (show : C → Printed) (k : ℕ) (xs : List C) (x : C) (out now total : List ℕ) → k < length xs → x ≡ get_or xs k x → written names out (behind sign show (drop k xs)).words ≡ total
    → now ≡ written names (with_word out (kind_text sign)) (show x).words → written names now (behind sign show (drop (k + 1) xs)).words ≡ total
unfolding behind
behind_more names sign show k xs x out now total h e so_far put =
    ap (λ z. written names z (behind sign show (drop (k + 1) xs)).words) put ∙ sym (written_both names (with_word out (kind_text sign)) (show x).words (behind sign show (drop (k + 1) xs)).words)
    ∙ ap (λ z. written names out (behind sign show z).words) (sym (drop_more xs k x h e)) ∙ so_far

pub behind_end : {C : Type 0} (names : List (List ℕ)) (sign : Kind) (show : C → Printed) (k : ℕ) (xs : List C) (out total : List ℕ) → length xs ≤ k → written names out (behind sign show (drop k xs)).words ≡ total → out ≡ total
unfolding behind
behind_end names sign show k xs out total h so_far = ap (λ z. written names out (behind sign show z).words) (sym (drop_all k xs h)) ∙ so_far

pub joined_begin : {C : Type 0} (names : List (List ℕ)) (sign : Kind) (show : C → Printed) (x : C) (xs all : List C) (out now : List ℕ) → all ≡ x ∷ xs → now ≡ written names out (show x).words
    → written names now (behind sign show xs).words ≡ written names out (joined sign show all).words
joined_begin names sign show x xs all out now i put =
    ap (λ z. written names z (behind sign show xs).words) put ∙ sym (written_both names out (show x).words (behind sign show xs).words) ∙ ap (λ z. written names out (joined sign show z).words) (sym i)

pub joined_none : {C : Type 0} (names : List (List ℕ)) (sign : Kind) (show : C → Printed) (all : List C) (out : List ℕ) → length all ≡ 0 → out ≡ written names out (joined sign show all).words
joined_none names sign show [] out h = refl
joined_none names sign show (x ∷ xs) out h = absurd (omega arith)

-- the same, where the item is read by its place
pub behind_more_at : {C : Type 0} (names : List (List ℕ)) (sign : Kind) (show : C → Printed) (k : ℕ) (xs : List C) (d : C) (out now total : List ℕ) → k < length xs → written names out (behind sign show (drop k xs)).words ≡ total
    → now ≡ written names (with_word out (kind_text sign)) (show (get_or xs k d)).words → written names now (behind sign show (drop (k + 1) xs)).words ≡ total
unfolding behind
behind_more_at names sign show k xs d out now total h so_far put =
    let f : k + 1 ≡ suc k = omega arith in
    let e : drop k xs ≡ get_or xs k d ∷ drop (k + 1) xs = rw (f, drop-cons xs k d h) refl in
    ap (λ z. written names z (behind sign show (drop (k + 1) xs)).words) put ∙ sym (written_both names (with_word out (kind_text sign)) (show (get_or xs k d)).words (behind sign show (drop (k + 1) xs)).words)
    ∙ ap (λ z. written names out (behind sign show z).words) (sym e) ∙ so_far
