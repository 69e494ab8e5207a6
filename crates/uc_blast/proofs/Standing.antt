-- The words of terms, from the inputs upwards.
use Rattle.std.specs.Prelude.{◌≡◌, ℕ, ◌+◌, ◌<◌, Bool as Truth, true, false, List, [], ◌∷◌, length, get_or, set, slice_get, slice_index_or, Some, All, Contains}
use Rattle.std.proofs.Common.{refl, sym, ap, ◌∙◌, arith, subst, inl, inr, ◌⊎◌, length-set, get_or-set_same, get_or-set_other}
use Rattle.std.proofs.Math.Nat.{eq-or-lt_of_le}
use Rattle.std.proofs.lemmas.Bool.{false≢true}
use Rattle.std.proofs.lemmas.List.Elements.{All-head, All-tail, All-map, All-contains_itself}
use Rattle.uc_values.specs.declared.ty.Ty.TheVariants.{Bool}
use Rattle.uc_ops.specs.declared.model.Model.{Model}
use Rattle.uc_ops.specs.declared.node.Node.{Node}
use Rattle.uc_ops.specs.Typing.{type_at, types_at, type_of, AllValid}
use Rattle.uc_ops.specs.Meaning.{apply}
use Rattle.uc_ops.proofs.Lists.{slice_get-within, at_place}
use Rattle.uc_terms.specs.Tables.{WellTyped}
use Rattle.uc_terms.specs.Values.{values_at}
use Rattle.uc_terms.specs.Subterms.{IsSubterm, itself, deeper, Marked, AreSubterms}
use Rattle.uc_terms.proofs.Values.{value-node, within_all}
use Rattle.uc_terms.proofs.Grown.{parts-node, type-node, types-valid}
use Rattle.uc_terms.proofs.Walk.{marked_within}
use Rattle.uc_circuit.specs.declared.signal.Signal.{Signal}
use Rattle.uc_circuit.specs.declared.signal.Signal.TheVariants.{Constant}
use Rattle.uc_circuit.specs.Building.{Building, Grows, size, Obeys}
use Rattle.uc_circuit.proofs.Growing.{all_below-more, all_below-grown, obeys-back}
use Rattle.uc_log.specs.declared.atom.Atom.{Atom}
use Rattle.uc_blast.specs.Words.{is_bits, worth, worths, words_at, IsWord, AreWords}
use Rattle.uc_blast.specs.Blasting.{IsBlastable, atomic_in}
use Rattle.uc_blast.specs.Walk.{AgreesWith, atomic_at, word_of, AreInputs, StandsForTerm, AreStanding, IsReady, GivesAt, IsStep, passed, computed, IsGoal}
use Rattle.uc_blast.proofs.Subterms.{below_of, marked_of}
use Rattle.uc_blast.proofs.Computing.{computed-by}

pub standing-start : (nodes : List Node) (t : ℕ) (marks : List Truth) (atoms : List Atom) (words : List (List Signal)) (b : Building) (n : ℕ) → AreInputs nodes t marks (length marks) atoms words
    → b ≡ record { inputs = n; gates = [] } → n ≡ length atoms → AreStanding nodes marks 0 atoms b words
standing-start nodes t marks atoms words b n a eb en =
    let inputs : b.inputs ≡ length atoms = ap (λ (x : Building). x.inputs) eb ∙ en in
    record {
      long = a.long;
      inputs = inputs;
      stands = λ k mk reached. elim reached [
        | inl l ↦ absurd (omega arith)
        | inr at ↦
            let i = a.stands k (marked_within marks k mk) mk at in
            record {
              is_word = record { below = all_below-more (length atoms) (size b) (omega (arith, inputs)) (word_of words k) i.is_word.below; long = i.is_word.long };
              value = λ m v ag o. i.value m v ag;
            }
      ];
    }

stands-grown : (nodes : List Node) (atoms : List Atom) (a b : Building) (k : ℕ) (word : List Signal) → Grows a b → StandsForTerm nodes atoms a k word → StandsForTerm nodes atoms b k word
stands-grown nodes atoms a b k word g s = record {
  is_word = record { below = all_below-grown a b g word s.is_word.below; long = s.is_word.long };
  value = λ m v ag o. s.value m v ag (obeys-back a b g v o);
}

-- the place is not marked, or its term is opaque
pub standing-skip : (nodes : List Node) (marks : List Truth) (place : ℕ) (atoms : List Atom) (b : Building) (words : List (List Signal)) → (Marked marks place → atomic_at nodes place ≡ true)
    → AreStanding nodes marks place atoms b words → AreStanding nodes marks (place + 1) atoms b words
standing-skip nodes marks place atoms b words opaque s = record {
  long = s.long;
  inputs = s.inputs;
  stands = λ k mk reached. elim reached [
    | inl l ↦ elim (eq-or-lt_of_le {n = k} {m = place} (omega arith)) [
      | inl e ↦ s.stands k mk (inr (subst (λ p. atomic_at nodes p ≡ true) (sym e) (opaque (subst (Marked marks) e mk))))
      | inr h ↦ s.stands k mk (inl h)
    ]
    | inr at ↦ s.stands k mk (inr at)
  ];
}

word-set : (words : List (List Signal)) (place k : ℕ) (word : List Signal) → place < length words → k ≡ place → word ≡ word_of (set words place word) k
word-set words place k word h e = sym (ap (word_of (set words place word)) e ∙ get_or-set_same words place word [] h)

word-other : (words : List (List Signal)) (place k : ℕ) (word : List Signal) → (k ≡ place → ⊥) → word_of words k ≡ word_of (set words place word) k
word-other words place k word h = sym (get_or-set_other words place k word [] h)

pub standing-step : (nodes : List Node) (marks : List Truth) (place : ℕ) (atoms : List Atom) (a b : Building) (words : List (List Signal)) (word : List Signal) → place < length marks → atomic_at nodes place ≡ false
    → Grows a b → StandsForTerm nodes atoms b place word → AreStanding nodes marks place atoms a words → AreStanding nodes marks (place + 1) atoms b (set words place word)
standing-step nodes marks place atoms a b words word h composed g here s = record {
  long = length-set words place word ∙ s.long;
  inputs = g.inputs ∙ s.inputs;
  stands = λ k mk reached.
      let other : (k ≡ place → ⊥) → (k < place) ⊎ (atomic_at nodes k ≡ true) → StandsForTerm nodes atoms b k (word_of (set words place word) k) = λ ne r.
      subst (StandsForTerm nodes atoms b k) (word-other words place k word ne) (stands-grown nodes atoms a b k (word_of words k) g (s.stands k mk r)) in
      elim reached [
        | inl l ↦ elim (eq-or-lt_of_le {n = k} {m = place} (omega arith)) [
          | inl e ↦ subst (StandsForTerm nodes atoms b k) (word-set words place k word (omega (arith, s.long)) e) (subst (λ p. StandsForTerm nodes atoms b p word) (sym e) here)
          | inr x ↦ other (λ e. omega arith) (inl x)
        ]
        | inr at ↦ other (λ e. absurd (false≢true (sym composed ∙ subst (λ p. atomic_at nodes p ≡ true) e at))) (inr at)
      ];
}

-- the parts of a marked term have words
abbrev Stand : List Node → List Atom → Building → List (List Signal) → ℕ → Type 0
Stand nodes atoms b words p = StandsForTerm nodes atoms b p (word_of words p)

are-words : (nodes : List Node) (atoms : List Atom) (b : Building) (words : List (List Signal)) (parts : List ℕ) → All (Stand nodes atoms b words) parts → AreWords (size b) (types_at nodes parts) (words_at words parts)
are-words nodes atoms b words [] h = tt
are-words nodes atoms b words (p ∷ ps) h = ((All-head (Stand nodes atoms b words) p ps h).is_word, are-words nodes atoms b words ps (All-tail (Stand nodes atoms b words) p ps h))

same-worths : (m : Model) (nodes : List Node) (atoms : List Atom) (b : Building) (words : List (List Signal)) (v : ℕ → Truth) → AgreesWith m nodes atoms v → Obeys v b
    → (parts : List ℕ) → All (Stand nodes atoms b words) parts → worths v (types_at nodes parts) (words_at words parts) ≡ values_at m nodes parts
same-worths m nodes atoms b words v ag o [] h = refl
same-worths m nodes atoms b words v ag o (p ∷ ps) h =
    let head = (All-head (Stand nodes atoms b words) p ps h).value m v ag o in
    let rest = same-worths m nodes atoms b words v ag o ps (All-tail (Stand nodes atoms b words) p ps h) in
    (λ i. head i ∷ rest i)

part-below : (nodes : List Node) (t place p : ℕ) (node : Node) → slice_get nodes place ≡ Some node → IsSubterm nodes t place → Contains node.parts p → IsSubterm nodes t p
part-below nodes t place p node h s c = deeper place p s (subst (λ ps. Contains ps p) (sym (parts-node nodes place node h)) c)

parts-stand : (nodes : List Node) (t : ℕ) (marks : List Truth) (place : ℕ) (atoms : List Atom) (b : Building) (words : List (List Signal)) (node : Node)
    → WellTyped nodes → AreSubterms nodes (t ∷ []) marks → Marked marks place → slice_get nodes place ≡ Some node → AreStanding nodes marks place atoms b words → All (Stand nodes atoms b words) node.parts
parts-stand nodes t marks place atoms b words node well sub mk h s i d l =
    let p = get_or node.parts i d in
    let below = part-below nodes t place p node h (below_of nodes t marks sub place mk) (All-contains_itself node.parts i d l) in
    s.stands p (marked_of nodes t marks sub p below) (inl ((well place node h).before i d l))

parts-bits : (nodes : List Node) (t : ℕ) (parts : List ℕ) → All (λ p. is_bits (type_at nodes p) ≡ true) parts → All (λ ty. is_bits ty ≡ true) (types_at nodes parts)
parts-bits nodes t parts h = All-map (λ ty. is_bits ty ≡ true) (type_at nodes) parts h

-- the term at a marked place that is not opaque can be computed
pub ready : (nodes : List Node) (t : ℕ) (marks : List Truth) (place : ℕ) (atoms : List Atom) (b : Building) (words : List (List Signal))
    → WellTyped nodes → IsBlastable nodes t → AreSubterms nodes (t ∷ []) marks → Marked marks place → atomic_at nodes place ≡ false → AreStanding nodes marks place atoms b words → IsReady nodes (size b) words place
ready nodes t marks place atoms b words well can sub mk composed s node h =
    let fine = well place node h in
    let place_below = below_of nodes t marks sub place mk in
    let typed : is_bits (type_of node.op (types_at nodes node.parts)) ≡ true = sym (ap is_bits (type-node nodes place node h ∙ fine.typed)) ∙ can.bits place place_below in
    let parts : All (λ ty. is_bits ty ≡ true) (types_at nodes node.parts) =
    parts-bits nodes t node.parts (λ i d l. can.bits (get_or node.parts i d) (part-below nodes t place (get_or node.parts i d) node h place_below (All-contains_itself node.parts i d l))) in (
      computed-by node.op (types_at nodes node.parts) fine.suits (sym (ap atomic_in h) ∙ composed) typed parts,
      are-words nodes atoms b words node.parts (parts-stand nodes t marks place atoms b words node well sub mk h s),
    )

-- the word of the operation stands for the term
pub given : (nodes : List Node) (t : ℕ) (marks : List Truth) (place : ℕ) (atoms : List Atom) (a b : Building) (words : List (List Signal)) (word : List Signal) (node : Node)
    → WellTyped nodes → AreSubterms nodes (t ∷ []) marks → Marked marks place → slice_get nodes place ≡ Some node → Grows a b → AreStanding nodes marks place atoms a words → GivesAt nodes b words place word
    → StandsForTerm nodes atoms b place word
given nodes t marks place atoms a b words word node well sub mk h g s gives =
    let types = types_at nodes node.parts in
    let e : type_at nodes place ≡ type_of node.op types = type-node nodes place node h ∙ (well place node h).typed in
    let it = gives node h in
    record {
      is_word = subst (λ ty. IsWord (size b) ty word) (sym e) it.is_word;
      value = λ m v ag o.
          ap (λ ty. worth v ty word) e ∙ sym (it.value v o m)
          ∙ ap (apply m node.op types) (same-worths m nodes atoms a words v ag (obeys-back a b g v o) node.parts (parts-stand nodes t marks place atoms a words node well sub mk h s))
          ∙ sym (value-node m nodes place node well h);
    }

-- what is known after one more place
pub standing-more : (nodes : List Node) (t : ℕ) (marks : List Truth) (place : ℕ) (atoms : List Atom) (a b : Building) (words more : List (List Signal)) (marked : Truth)
    → WellTyped nodes → AreSubterms nodes (t ∷ []) marks → place < length marks → marked ≡ slice_index_or marks place false
    → AreStanding nodes marks place atoms a words → IsStep nodes marked place a b words more → AreStanding nodes marks (place + 1) atoms b more
standing-more nodes t marks place atoms a b words more marked well sub inside mark s (passed opaque eb em) =
    subst (λ x. AreStanding nodes marks (place + 1) atoms x more) (sym eb)
    (subst (AreStanding nodes marks (place + 1) atoms a) (sym em) (standing-skip nodes marks place atoms a words (λ mk. opaque (mark ∙ mk)) s))
standing-more nodes t marks place atoms a b words more marked well sub inside mark s (computed mk composed g word gives em) =
    let node = at_place nodes place (omega (arith, inside, sub.within)) in
    subst (AreStanding nodes marks (place + 1) atoms b) (sym em)
    (standing-step nodes marks place atoms a b words word inside composed g (given nodes t marks place atoms a b words word node.0 well sub (sym mark ∙ mk) node.1 g s gives) s)

pub parts-valid : (nodes : List Node) (place : ℕ) (node : Node) → WellTyped nodes → slice_get nodes place ≡ Some node → AllValid (types_at nodes node.parts)
parts-valid nodes place node well h = types-valid nodes node.parts well (within_all nodes place node.parts (slice_get-within nodes place node h) (well place node h).before)

-- the signal of the whole term
pub goal-stands : (nodes : List Node) (t : ℕ) (marks : List Truth) (atoms : List Atom) (b : Building) (words : List (List Signal)) (word : List Signal) (s : Signal)
    → IsBlastable nodes t → AreSubterms nodes (t ∷ []) marks → AreStanding nodes marks (length marks) atoms b words → word ≡ word_of words t → s ≡ get_or word 0 (Constant false) → IsGoal nodes t atoms b s
goal-stands nodes t marks atoms b words word s can sub h ew es =
    let mk : Marked marks t = marked_of nodes t marks sub t itself in
    let root = h.stands t mk (inl (marked_within marks t mk)) in
    let w = word_of words t in
    let one : IsWord (size b) Bool w = subst (λ ty. IsWord (size b) ty w) can.boolean root.is_word in
    let at : IsGoal nodes t atoms b (get_or w 0 (Constant false)) = record {
      below = one.below 0 (Constant false) (omega (arith, one.long));
      value = λ m v ag o. sym (ap (λ ty. worth v ty w) can.boolean) ∙ root.value m v ag o;
    } in
    subst (IsGoal nodes t atoms b) (sym (es ∙ ap (λ x. get_or x 0 (Constant false)) ew)) at
