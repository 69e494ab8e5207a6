-- The turns of loops over labels and names.
use Rattle.std.proofs.Common.{◌≡◌, ℕ, suc, ◌+◌, ◌<◌, ◌≤◌, List, [], ◌∷◌, ◌++◌, length, drop, take, get_or, map, refl, ap, ◌∙◌, sym, append_assoc, arith}
use Rattle.std.specs.List.{flat_map}
use Rattle.std.proofs.lemmas.List.{drop_all, map-append}
use Rattle.std.proofs.lemmas.Grind.{flat_map-append}
use Rattle.uc_lexer.specs.declared.place.Place.{Place}
use Rattle.uc_syntax.specs.declared.place.Identifier.{Identifier}
use Rattle.uc_syntax.specs.declared.declaration.Module.{Module}
use Rattle.uc_syntax.proofs.Added.{AddedUpTo, append_nil}
use Rattle.uc_rules.specs.Names.{Entry as Meant, SenseLabel, enters, labels_from, name_at}
use Rattle.uc_rules.proofs.Lists.{drop_turn, take_turn}
use Rattle.uc_names.specs.declared.senses.Entry.{Entry}
use Rattle.uc_names.specs.Senses.{entries_meant, entry_meant}

pub entries_push : (ms : List Module) (es : List Entry) (e : Entry) → entries_meant ms (es ++ e ∷ []) ≡ entries_meant ms es ++ entry_meant ms e ∷ []
unfolding entries_meant
entries_push ms es e = map-append (entry_meant ms) es (e ∷ [])

-- Before turn k, the labels from place k on are still to come.
pub record LabelsFrom (number : ℕ) (name : Identifier → Identifier) (labels : List Identifier) (old now : List Meant) (k : ℕ) : Type 0 where
  pub is : now ++ labels_from number k (map name (drop k labels)) ≡ old ++ labels_from number 0 (map name labels)

pub labels_begin : (number : ℕ) (name : Identifier → Identifier) (labels : List Identifier) (old : List Meant) → LabelsFrom number name labels old old 0
labels_begin number name labels old = record { is = refl }

pub labels_more : (number : ℕ) (name : Identifier → Identifier) (labels : List Identifier) (old now after : List Meant) (k : ℕ) (l d : Identifier) → LabelsFrom number name labels old now k →
    k < length labels → l ≡ get_or labels k d → after ≡ now ++ enters (name l) (SenseLabel number k) ∷ [] → LabelsFrom number name labels old after (k + 1)
labels_more number name labels old now after k l d held within at is = record {
  is =
      ap (λ es. es ++ labels_from number (k + 1) (map name (drop (k + 1) labels))) is
      ∙ append_assoc now (enters (name l) (SenseLabel number k) ∷ []) (labels_from number (k + 1) (map name (drop (k + 1) labels)))
      ∙ sym (ap (λ ls. now ++ labels_from number k (map name ls)) (drop_turn labels k l d within at))
      ∙ held.is;
}

pub labels_end : (number : ℕ) (name : Identifier → Identifier) (labels : List Identifier) (old now : List Meant) (k : ℕ) → LabelsFrom number name labels old now k →
    length labels ≤ k → now ≡ old ++ labels_from number 0 (map name labels)
labels_end number name labels old now k held past =
    sym (append_nil now) ∙ sym (ap (λ ls. now ++ labels_from number k (map name ls)) (drop_all k labels past)) ∙ held.is

same_map : (ls : List Identifier) → map (λ l. l) ls ≡ ls
same_map [] = refl
same_map (l ∷ ls) = ap (λ xs. l ∷ xs) (same_map ls)

pub labels_own_end : (number : ℕ) (labels : List Identifier) (old now : List Meant) (k : ℕ) → LabelsFrom number (λ l. l) labels old now k →
    length labels ≤ k → now ≡ old ++ labels_from number 0 labels
labels_own_end number labels old now k held past = labels_end number (λ l. l) labels old now k held past ∙ ap (λ ls. old ++ labels_from number 0 ls) (same_map labels)

-- a list that grows by what each element of another one gives, with the element as a loop gives it
pub added_turn : {X A : Type 0} (f : X → List A) (xs : List X) (before now after : List A) (i : ℕ) (x d : X) → AddedUpTo f xs before i now →
    i < length xs → x ≡ get_or xs i d → after ≡ now ++ f x → AddedUpTo f xs before (i + 1) after
added_turn f xs before now after i x d so_far within at e = record {
  is = e ∙ ap (λ ys. ys ++ f x) so_far.is ∙ append_assoc before (flat_map f (take i xs)) (f x)
      ∙ ap (λ ys. before ++ ys) (sym (ap (flat_map f) (take_turn xs i x d within at) ∙ flat_map-append f (take i xs) (x ∷ [])
      ∙ ap (λ y. flat_map f (take i xs) ++ y) (append_nil (f x))));
}
