-- The walk that makes the inputs, place by place.
use Rattle.std.specs.Prelude.{◌≡◌, ◌≢◌, ℕ, ◌+◌, ◌<◌, Bool as Truth, true, false, List, [], ◌∷◌, ◌++◌, length, slice_index_or, All, zero, suc}
use Rattle.std.proofs.Common.{refl, sym, ap, ◌∙◌, arith, subst, inl, inr, length-append, append_assoc, append-nil}
use Rattle.std.proofs.Math.Nat.{eq-or-lt_of_le}
use Rattle.std.proofs.Math.ListN.{get_or-append}
use Rattle.std.proofs.Math.Seq.{get_or-append_seam}
use Rattle.std.proofs.lemmas.Bool.{false≢true}
use Rattle.std.proofs.lemmas.List.{length_push}
use Rattle.std.proofs.lemmas.List.Elements.{All-nil, All-push, All-append, All-weaker}
use Rattle.std.proofs.lemmas.List.Quantifiers.{all_pairs_push}
use Rattle.uc_ops.specs.declared.node.Node.{Node}
use Rattle.uc_ops.specs.Typing.{type_at}
use Rattle.uc_terms.specs.Tables.{WellTyped}
use Rattle.uc_terms.specs.Subterms.{Marked, AreSubterms}
use Rattle.uc_terms.proofs.Fitting.{value-fits}
use Rattle.uc_circuit.specs.declared.signal.Signal.{Signal}
use Rattle.uc_log.specs.declared.atom.Atom.{Atom}
use Rattle.uc_log.specs.declared.atom.Atom.TheVariants.{Bit}
use Rattle.uc_blast.specs.Words.{bit_width}
use Rattle.uc_blast.specs.Blasting.{IsBlastable, IsOpaque, IsOpaqueBit, AreDifferent, AreBits, bits_of}
use Rattle.uc_blast.specs.Walk.{term_bits, variables_from, IsInputWord, atomic_at, word_of, IsAsked, skipped, asked, IsLower, AreInputs}
use Rattle.uc_blast.proofs.Asking.{bits-long, input-word, input-word-more}
use Rattle.uc_blast.proofs.Subterms.{below_of}

all-of-term : (P : Atom → Type 0) (k n : ℕ) → ((j : ℕ) → j < n → P (Bit k j)) → All P (term_bits k n)
all-of-term P k zero h = All-nil P
all-of-term P k (suc n) h = All-push P (term_bits k n) (Bit k n) (all-of-term P k n (λ j l. h j (omega arith))) (h n (omega arith))

abbrev IsBitBelow : ℕ → Atom → Type 0
IsBitBelow n (Bit k j) = j < n
IsBitBelow n other = ⊥

not-lower : (k n : ℕ) (a : Atom) → IsLower k a → a ≢ Bit k n
not-lower k n a h e = let l : k < k = subst (IsLower k) e h in omega arith

not-before : (k n : ℕ) (a : Atom) → IsBitBelow n a → a ≢ Bit k n
not-before k n a h e = let l : n < n = subst (IsBitBelow n) e h in omega arith

-- the bits of a term differ from those of lower terms and from each other
different-bits : (atoms : List Atom) (k n : ℕ) → AreDifferent atoms → All (IsLower k) atoms → AreDifferent (atoms ++ term_bits k n)
different-bits atoms k zero d l = subst AreDifferent (sym (append-nil atoms)) d
different-bits atoms k (suc n) d l =
    let before : List Atom = atoms ++ term_bits k n in
    let others : All (λ a. a ≢ Bit k n) before =
    All-append (λ a. a ≢ Bit k n) atoms (term_bits k n)
    (All-weaker (IsLower k) (λ a. a ≢ Bit k n) (not-lower k n) atoms l)
    (all-of-term (λ a. a ≢ Bit k n) k n (λ j h. not-before k n (Bit k j) h)) in
    subst AreDifferent (append_assoc atoms (term_bits k n) (Bit k n ∷ []))
    (all_pairs_push (λ x y. x ≢ y) before (Bit k n) (different-bits atoms k n d l) (λ i x h. others i x h))

lower-more : (place : ℕ) (a : Atom) → IsLower place a → IsLower (place + 1) a
lower-more place (Bit k j) h = omega arith
lower-more place _ h = absurd h

bits-push : (nodes : List Node) (ks : List ℕ) (k : ℕ) → bits_of nodes (ks ++ k ∷ []) ≡ bits_of nodes ks + bit_width (type_at nodes k)
bits-push nodes [] k = omega arith
bits-push nodes (x ∷ ks) k = omega (arith, bits-push nodes ks k)

pub inputs-none : (nodes : List Node) (t : ℕ) (marks : List Truth) → AreInputs nodes t marks 0 [] []
inputs-none nodes t marks = record {
  long = refl;
  stands = λ k h. absurd (omega arith);
  bits = record {
    opaque = All-nil (IsOpaqueBit nodes t);
    different = λ i j d l h. absurd (omega arith);
    terms = [];
    each = All-nil (IsOpaque nodes t);
    apart = λ i j d l h. absurd (omega arith);
    few = omega arith;
  };
  lower = All-nil (IsLower 0);
  below = All-nil (λ k. k < 0);
}

word-kept : (words : List (List Signal)) (word : List Signal) (k : ℕ) → k < length words → word_of words k ≡ word_of (words ++ word ∷ []) k
word-kept words word k h = sym (get_or-append words (word ∷ []) [] k h)

word-new : (words : List (List Signal)) (word : List Signal) (k : ℕ) → k ≡ length words → word ≡ word_of (words ++ word ∷ []) k
word-new words word k e = sym (ap (word_of (words ++ word ∷ [])) e ∙ get_or-append_seam words word [] [])

skip : (nodes : List Node) (t : ℕ) (marks : List Truth) (place : ℕ) (atoms : List Atom) (words : List (List Signal)) (word : List Signal)
    → (Marked marks place → atomic_at nodes place ≡ false) → AreInputs nodes t marks place atoms words → AreInputs nodes t marks (place + 1) atoms (words ++ word ∷ [])
skip nodes t marks place atoms words word not a = record {
  long = omega (arith, length_push words word, a.long);
  stands = λ k h mk at. elim (eq-or-lt_of_le {n = k} {m = place} (omega arith)) [
    | inl e ↦ absurd (false≢true (sym (not (subst (Marked marks) e mk)) ∙ subst (λ p. atomic_at nodes p ≡ true) e at))
    | inr l ↦ subst (IsInputWord nodes atoms k) (word-kept words word k (omega (arith, a.long))) (a.stands k l mk at)
  ];
  bits = a.bits;
  lower = All-weaker (IsLower place) (IsLower (place + 1)) (lower-more place) atoms a.lower;
  below = All-weaker (λ k. k < place) (λ k. k < place + 1) (λ k l. omega arith) a.bits.terms a.below;
}

more-bits : (nodes : List Node) (t place : ℕ) (atoms : List Atom) (b : AreBits nodes t atoms) → All (IsLower place) atoms → All (λ k. k < place) b.terms → IsOpaque nodes t place
    → (new : AreBits nodes t (atoms ++ term_bits place (bit_width (type_at nodes place)))) × (new.terms ≡ b.terms ++ place ∷ [])
more-bits nodes t place atoms b lower below o =
    let w = bit_width (type_at nodes place) in (
      record {
        opaque = All-append (IsOpaqueBit nodes t) atoms (term_bits place w) b.opaque (all-of-term (IsOpaqueBit nodes t) place w (λ j l. (o, l)));
        different = different-bits atoms place w b.different lower;
        terms = b.terms ++ place ∷ [];
        each = All-push (IsOpaque nodes t) b.terms place b.each o;
        apart = all_pairs_push (λ x y. x ≢ y) b.terms place b.apart (λ i d h e. absurd (omega (arith, below i d h, e)));
        few = omega (arith, b.few, length-append atoms (term_bits place w), bits-long place w, bits-push nodes b.terms place);
      },
      refl,
    )

ask : (nodes : List Node) (t : ℕ) (marks : List Truth) (place : ℕ) (atoms : List Atom) (words : List (List Signal))
    → WellTyped nodes → IsBlastable nodes t → IsOpaque nodes t place → place < length nodes → AreInputs nodes t marks place atoms words
    → AreInputs nodes t marks (place + 1) (atoms ++ term_bits place (bit_width (type_at nodes place))) (words ++ variables_from (length atoms) (bit_width (type_at nodes place)) ∷ [])
ask nodes t marks place atoms words well can o inside a =
    let w = bit_width (type_at nodes place) in
    let word = variables_from (length atoms) w in
    let b = more-bits nodes t place atoms a.bits a.lower a.below o in
    let here : IsInputWord nodes (atoms ++ term_bits place w) place word = input-word nodes atoms place (can.bits place o.below) (λ m. value-fits m nodes place well inside) in
    record {
      long = omega (arith, length_push words word, a.long);
      stands = λ k h mk at. elim (eq-or-lt_of_le {n = k} {m = place} (omega arith)) [
        | inl e ↦ subst (IsInputWord nodes (atoms ++ term_bits place w) k) (word-new words word k (e ∙ sym a.long)) (subst (λ p. IsInputWord nodes (atoms ++ term_bits place w) p word) (sym e) here)
        | inr l ↦
            subst (IsInputWord nodes (atoms ++ term_bits place w) k) (word-kept words word k (omega (arith, a.long)))
            (input-word-more nodes atoms (term_bits place w) k (word_of words k) (a.stands k l mk at))
      ];
      bits = b.0;
      lower = All-append (IsLower (place + 1)) atoms (term_bits place w) (All-weaker (IsLower place) (IsLower (place + 1)) (lower-more place) atoms a.lower) (all-of-term (IsLower (place + 1)) place w (λ j l. omega arith));
      below = subst (All (λ k. k < place + 1)) (sym b.1) (All-push (λ k. k < place + 1) a.bits.terms place (All-weaker (λ k. k < place) (λ k. k < place + 1) (λ k l. omega arith) a.bits.terms a.below) (omega arith));
    }

-- what is known after one more place
pub inputs-more : (nodes : List Node) (t : ℕ) (marks : List Truth) (place : ℕ) (atoms more : List Atom) (words : List (List Signal)) (word : List Signal) (marked : Truth)
    → WellTyped nodes → IsBlastable nodes t → AreSubterms nodes (t ∷ []) marks → place < length marks → marked ≡ slice_index_or marks place false
    → AreInputs nodes t marks place atoms words → IsAsked nodes marked place word atoms more → AreInputs nodes t marks (place + 1) more (words ++ word ∷ [])
inputs-more nodes t marks place atoms more words word marked well can s inside mark a (skipped not same) =
    subst (λ xs. AreInputs nodes t marks (place + 1) xs (words ++ word ∷ [])) (sym same) (skip nodes t marks place atoms words word (λ mk. not (mark ∙ mk)) a)
inputs-more nodes t marks place atoms more words word marked well can s inside mark a (asked mk at is grown) =
    let o : IsOpaque nodes t place = record { below = below_of nodes t marks s place (sym mark ∙ mk); atomic = at } in
    subst (λ xs. AreInputs nodes t marks (place + 1) xs (words ++ word ∷ [])) (sym grown)
    (subst (λ x. AreInputs nodes t marks (place + 1) (atoms ++ term_bits place (bit_width (type_at nodes place))) (words ++ x ∷ [])) (sym is)
    (ask nodes t marks place atoms words well can o (omega (arith, s.within)) a))
