-- Symbols that stand for the innermost fields of a symbol, and their ranges.
use Rattle.std.specs.Prelude.{◌≡◌, ℕ, ◌+◌, ◌-◌, ◌<◌, ◌≤◌, ◌^◌, nat_le, nat_lt, true, List, [], ◌∷◌, ◌++◌, map, length, take, get_or, All, Contains}
use Rattle.std.specs.List.{AllZip}
use Rattle.std.proofs.Common.{refl, sym, ap, ◌∙◌, subst, arith, length-append, append-nil, inl, inr}
use Rattle.std.proofs.lemmas.List.{length-map, map-append, take_more}
use Rattle.std.proofs.lemmas.Bool.{false≢true}
use Rattle.std.proofs.lemmas.Bool.Decides.{nat_tests, leb_tells}
use Rattle.std.proofs.lemmas.List.Elements.{All-cons, All-nil, All-head, All-tail, All-push}
use Rattle.uc_values.specs.Values.{truth_of, bits_of}
use Rattle.uc_values.specs.Sizes.{label_bits}
use Rattle.uc_values.proofs.Fitting.{fits-IsBits}
use Rattle.uc_values.proofs.Shapes.{valid-Enum}
use Rattle.uc_values.proofs.Widths.{label_bits-least}
use Rattle.uc_values.specs.declared.ty.Ty.{Ty}
use Rattle.uc_values.specs.declared.ty.Ty.TheVariants.{Bool, Bv, Enum}
use Rattle.uc_values.specs.declared.value.Value.{Value}
use Rattle.uc_values.specs.declared.value.Value.TheVariants.{Bool as Truth, Bv as Bits}
use Rattle.uc_ops.specs.declared.model.Model.{Model}
use Rattle.uc_ops.specs.declared.op.Op.TheVariants.{Symbol, Const, Ule, App}
use Rattle.uc_ops.specs.declared.node.Node.{Node}
use Rattle.uc_ops.specs.Typing.{Suits, Valid, AllValid, type_at, types_at}
use Rattle.uc_ops.proofs.Typed.{Bv-valid}
use Rattle.uc_terms.specs.Tables.{HasOp, WellTyped, parts_at}
use Rattle.uc_terms.specs.Values.{value, values_at}
use Rattle.uc_lower.specs.Fields.{leaves, low_type, all_leaves}
use Rattle.uc_lower.specs.Ranges.{InRange}
use Rattle.uc_lower.specs.Made.{Grows, Within, IsMade, IsLowType, truth, bits, IsLowNode, IsLowered, HasBits}
use Rattle.uc_lower.specs.Steps.{IsBitsType}
use Rattle.uc_lower.specs.Symbols.{Hold, AreTruths, IsBound, HasRange, Numbered, AreSymbols, is_low}
use Rattle.uc_lower.proofs.Leaves.{IsLeaf, truth_leaf, bits_leaf, label_leaf, leaves_leaf, leaves_valid, one_finite}
use Rattle.uc_lower.proofs.Codes.{zip_append}
use Rattle.uc_lower.proofs.Growing.{grows_not, grows_on, longer, kept_within, kept_type, kept_types, kept_value, kept_values, kept_op, kept_lowered, all_kept_lowered, made_lowered, one_op, split_subterm}
use Rattle.uc_lower.proofs.Building.{two_within, All-front, All-back}

pub is_low-low : (ty : Ty) → is_low ty ≡ true → IsLowType ty
is_low-low Bool h = truth
is_low-low (Bv width) h = bits width
is_low-low other h = absurd (false≢true h)

leaf_bits : (ty : Ty) → IsLeaf ty → IsBitsType ty
leaf_bits ty truth_leaf = tt
leaf_bits ty (bits_leaf width) = tt
leaf_bits ty (label_leaf n k) = tt

all_bits : (tys : List Ty) → All IsLeaf tys → All IsBitsType tys
all_bits [] h = All-nil IsBitsType
all_bits (ty ∷ tys) h = All-cons IsBitsType ty tys (leaf_bits ty (All-head IsLeaf ty tys h)) (all_bits tys (All-tail IsLeaf ty tys h))

pub leaves_bits : (ty : Ty) → HasBits ty → All IsBitsType (leaves ty)
leaves_bits ty h = subst (All IsBitsType) (append-nil (leaves ty)) (all_bits (all_leaves (ty ∷ [])) (leaves_leaf (ty ∷ []) (one_finite ty h)))

pub hold_kept : (n : Model) (old new : List Node) (cs : List ℕ) → Grows old new → Within old cs → Hold n old cs → Hold n new cs
hold_kept n old new cs g b h k d l = ap truth_of (kept_value n old new _ g (b k d l)) ∙ h k d l

pub hold_back : (n : Model) (old new : List Node) (cs : List ℕ) → Grows old new → Within old cs → Hold n new cs → Hold n old cs
hold_back n old new cs g b h k d l = ap truth_of (sym (kept_value n old new _ g (b k d l))) ∙ h k d l

pub truths_kept : (old new : List Node) (cs : List ℕ) → Grows old new → Within old cs → AreTruths old cs → AreTruths new cs
truths_kept old new cs g b h k d l = kept_type old new _ g (b k d l) ∙ h k d l

-- the bound of a term of as many bits as the labels take
pub last_suits : (labels w l : ℕ) → 1 ≤ labels → w ≡ label_bits labels → w ≤ 32 → l ≡ labels - 1 → Suits (Const (Bv w) (Bits w l)) []
last_suits labels w l s e h g =
    let least = label_bits-least labels in
    let enough : labels ≤ 2 ^ w = subst (λ x. labels ≤ 2 ^ x) (sym e) least.enough in
    (refl, Bv-valid w (omega (arith, e, least.some)) (omega (arith, h)), refl, fits-IsBits w l (omega (arith, s, g, enough)))

pub bound_suits : (old mid : List Node) (u last w l : ℕ) (labels : ℕ) → Grows old mid → u < length old → type_at old u ≡ Bv (label_bits labels) → w ≡ label_bits labels → IsMade old mid last (Const (Bv w) (Bits w l)) [] → Suits Ule (types_at mid (u ∷ last ∷ []))
bound_suits old mid u last w l labels g b t e m =
    let left : type_at mid u ≡ Bv w = kept_type old mid u g b ∙ t ∙ ap Bv (sym e) in
    let right : type_at mid last ≡ Bv w = m.ty in
    (w, cc)

pub bound_is : (old mid new : List Node) (u labels w l last c : ℕ) → WellTyped old → u < length old → l ≡ labels - 1 → IsMade old mid last (Const (Bv w) (Bits w l)) [] → IsMade mid new c Ule (u ∷ last ∷ []) → IsBound old new u labels c
bound_is old mid new u labels w l last c wt b e m k = record {
  grown = grows_on old mid new m.grown k.grown;
  there = k.there;
  ty = k.ty;
  value = λ n. k.value n ∙ ap (λ v. Truth (nat_le (bits_of v) (bits_of (value n mid last)))) (kept_value n old mid u m.grown b) ∙ ap (λ v. Truth (nat_le (bits_of (value n old u)) (bits_of v))) (m.value n) ∙ ap (λ x. Truth (nat_le (bits_of (value n old u)) x)) e;
  stays = λ symbols h.
      made_lowered symbols mid new c Ule (u ∷ last ∷ []) m.grown.well k tt (subst IsLowType (sym k.ty) truth) (two_within mid u last (omega (arith, b, longer old mid m.grown)) m.there)
      (All-cons (IsLowered symbols mid) u (last ∷ []) (kept_lowered symbols old mid u wt m.grown b h)
      (All-cons (IsLowered symbols mid) last [] (made_lowered symbols old mid last (Const (Bv w) (Bits w l)) [] wt m tt (subst IsLowType (sym m.ty) (bits w)) (All-nil (λ p. p < length old)) (All-nil (IsLowered symbols old))) (All-nil (IsLowered symbols mid))));
}

le_true : (a b : ℕ) → nat_le a b ≡ true → a ≤ b
le_true a b h = elim (leb_tells a b) [ inl x ↦ x.1 | inr x ↦ absurd (false≢true (sym x.0 ∙ h)) ]

true_le : (a b : ℕ) → a ≤ b → nat_le a b ≡ true
true_le a b h = elim (leb_tells a b) [ inl x ↦ x.0 | inr x ↦ absurd (omega (arith, x.1, h)) ]

pub range_some : (old new : List Node) (n k u c : ℕ) (before after : List ℕ) → WellTyped old → Within old before → AreTruths old before → 1 ≤ k → IsBound old new u k c → after ≡ before ++ c ∷ [] → HasRange old new (Enum n k) u before after
range_some old new number k u c before after wt b t s m e = subst (HasRange old new (Enum number k) u before) (sym e) (record {
  grown = m.grown;
  within = All-push (λ x. x < length new) before c (kept_within old new before m.grown b) m.there;
  truths = All-push (λ x. type_at new x ≡ Bool) before c (truths_kept old new before m.grown b t) m.ty;
  bounded = λ n h.
      let last : truth_of (value n new c) ≡ true = All-head (λ x. truth_of (value n new x) ≡ true) c [] (All-back (λ x. truth_of (value n new x) ≡ true) before (c ∷ []) h) in
      let le : bits_of (value n old u) ≤ k - 1 = le_true (bits_of (value n old u)) (k - 1) (sym (ap truth_of (m.value n)) ∙ last) in
      (hold_back n old new before m.grown b (All-front (λ x. truth_of (value n new x) ≡ true) before (c ∷ []) h), omega (arith, le, s));
  met = λ n h r.
      let le : bits_of (value n old u) ≤ k - 1 = omega (arith, r) in
      All-push (λ x. truth_of (value n new x) ≡ true) before c (hold_kept n old new before m.grown b h) (ap truth_of (m.value n) ∙ true_le (bits_of (value n old u)) (k - 1) le);
  stays = λ symbols h g. All-push (IsLowered symbols new) before c (all_kept_lowered symbols old new before wt m.grown b g) (m.stays symbols h);
})

pub range_none : (old : List Node) (leaf : Ty) (u : ℕ) (before : List ℕ) → WellTyped old → Within old before → AreTruths old before → ((w : Value) → InRange leaf w) → HasRange old old leaf u before before
range_none old leaf u before wt b t free = record {
  grown = grows_not old wt;
  within = b;
  truths = t;
  bounded = λ n h. (h, free (value n old u));
  met = λ n h r. h;
  stays = λ symbols h g. g;
}

zip_apart : {A B : Type 0} (P : A → B → Type 0) (ls bs : List A) (xs ys : List B) → length ls ≡ length xs → AllZip P (ls ++ bs) (xs ++ ys) → AllZip P ls xs × AllZip P bs ys
zip_apart P [] bs [] ys e h = (tt, h)
zip_apart P [] bs (x ∷ xs) ys e h = absurd (omega (arith, e))
zip_apart P (l ∷ ls) bs [] ys e h = absurd (omega (arith, e))
zip_apart P (l ∷ ls) bs (x ∷ xs) ys e h = let r = zip_apart P ls bs xs ys (omega (arith, e)) h.1 in ((h.0, r.0), r.1)

numbered_kept : (old new : List Node) (first : ℕ) (tys : List Ty) (us : List ℕ) → Grows old new → Within old us → Numbered old first tys us → Numbered new first tys us
numbered_kept old new first [] [] g b h = tt
numbered_kept old new first [] (u ∷ us) g b h = absurd h
numbered_kept old new first (ty ∷ tys) [] g b h = absurd h
numbered_kept old new first (ty ∷ tys) (u ∷ us) g b h =
    (kept_op old new u (Symbol first ty) g (All-head (λ x. x < length old) u us b) h.0, numbered_kept old new (first + 1) tys us g (All-tail (λ x. x < length old) u us b) h.1)

numbered_push : (nodes : List Node) (first : ℕ) (tys : List Ty) (us : List ℕ) (ty : Ty) (u number : ℕ) → number ≡ first + length us → Numbered nodes first tys us → HasOp nodes u (Symbol number ty) → Numbered nodes first (tys ++ ty ∷ []) (us ++ u ∷ [])
numbered_push nodes first [] [] ty u number e h g = (subst (λ k. HasOp nodes u (Symbol k ty)) (let q : number ≡ first = omega (arith, e) in q) g, tt)
numbered_push nodes first [] (v ∷ us) ty u number e h g = absurd h
numbered_push nodes first (s ∷ tys) [] ty u number e h g = absurd h
numbered_push nodes first (s ∷ tys) (v ∷ us) ty u number e h g = (h.0, numbered_push nodes (first + 1) tys us ty u number (omega (arith, e)) h.1 g)

-- a symbol that is listed is lowered
pub symbol_lowered : (symbols : List ℕ) (nodes : List Node) (u number : ℕ) (ty : Ty) → HasOp nodes u (Symbol number ty) → parts_at nodes u ≡ [] → IsLowType (type_at nodes u) → Contains symbols u → IsLowered symbols nodes u
symbol_lowered symbols nodes u number ty h leaf y c k s =
    elim (split_subterm nodes u k s) [
      | inl x ↦ subst (IsLowNode symbols nodes) (sym x) (record {
        typed = y;
        no_function = λ other r has. let e = one_op nodes u (Symbol number ty) (App other r) h has in cc;
        listed = λ other r has. c;
      })
      | inr x ↦ let d = subst (λ ps. Contains ps x.part) leaf x.listed in absurd (omega (arith, d.1))
    ]

pub no_symbols : (old : List Node) (first : ℕ) (before : List ℕ) → WellTyped old → Within old before → AreTruths old before → AreSymbols old old first first [] [] before before
no_symbols old first before wt b t = record {
  grown = grows_not old wt;
  counted = omega arith;
  within = All-nil (λ x. x < length old);
  types = refl;
  numbered = tt;
  conditions = b;
  truths = t;
  bounded = λ n h. (h, tt);
  met = λ n h r. h;
  stays = λ symbols c h. h;
  lowered = λ symbols c. All-nil (IsLowered symbols old);
}

low_bits : (ty : Ty) → IsBitsType ty → IsLowType (low_type ty)
low_bits Bool h = truth
low_bits (Bv width) h = bits width
low_bits (Enum n k) h = bits (label_bits k)
low_bits other h = absurd h

pub symbols_more : (old now one new : List Node) (first next following : ℕ) (ls : List Ty) (leaf : Ty) (us before mid after : List ℕ) (u : ℕ) → WellTyped old → IsBitsType leaf
    → AreSymbols old now first next ls us before mid → IsMade now one u (Symbol next (low_type leaf)) [] → HasRange one new leaf u mid after → following ≡ next + 1
    → AreSymbols old new first following (ls ++ leaf ∷ []) (us ++ u ∷ []) before after
symbols_more old now one new first next following ls leaf us before mid after u wt y a m r e =
    let grown = grows_on now one new m.grown r.grown in
    let there : u < length new = omega (arith, m.there, longer one new r.grown) in
    let typed : type_at new u ≡ low_type leaf = kept_type one new u r.grown m.there ∙ m.ty in
    let us_one = kept_within now one us m.grown a.within in
    let mid_one = kept_within now one mid m.grown a.conditions in
    let lengths : length ls ≡ length us = sym (length-map ls low_type) ∙ ap length (sym a.types) ∙ length-map us (type_at now) in
    record {
      grown = grows_on old now new a.grown grown;
      counted = omega (arith, e, a.counted, length-append us (u ∷ []));
      within = All-push (λ x. x < length new) us u (kept_within now new us grown a.within) there;
      types = map-append (type_at new) us (u ∷ []) ∙ ap (λ x. x ++ type_at new u ∷ []) (kept_types now new us grown a.within ∙ a.types) ∙ ap (λ x. map low_type ls ++ x ∷ []) typed ∙ sym (map-append low_type ls (leaf ∷ []));
      numbered = subst (λ tys. Numbered new first tys (us ++ u ∷ [])) (sym (map-append low_type ls (leaf ∷ [])))
          (numbered_push new first (map low_type ls) us (low_type leaf) u next a.counted (numbered_kept now new first (map low_type ls) us grown a.within a.numbered) (kept_op one new u (Symbol next (low_type leaf)) r.grown m.there m.has));
      conditions = r.within;
      truths = r.truths;
      bounded = λ n h.
          let b = r.bounded n h in
          let c = a.bounded n (hold_back n now one mid m.grown a.conditions b.0) in
          let front : AllZip InRange ls (values_at n new us) = subst (AllZip InRange ls) (sym (kept_values n now new us grown a.within)) c.1 in
          let last : InRange leaf (value n new u) = subst (InRange leaf) (sym (kept_value n one new u r.grown m.there)) b.1 in
          (c.0, subst (AllZip InRange (ls ++ leaf ∷ [])) (sym (map-append (value n new) us (u ∷ []))) (zip_append InRange ls (leaf ∷ []) (values_at n new us) (value n new u ∷ []) front (last, tt)));
      met = λ n h g.
          let q = zip_apart InRange ls (leaf ∷ []) (values_at n new us) (value n new u ∷ []) (lengths ∙ sym (length-map us (value n new))) (subst (AllZip InRange (ls ++ leaf ∷ [])) (map-append (value n new) us (u ∷ [])) g) in
          let front : AllZip InRange ls (values_at n now us) = subst (AllZip InRange ls) (kept_values n now new us grown a.within) q.0 in
          let last : InRange leaf (value n one u) = subst (InRange leaf) (kept_value n one new u r.grown m.there) q.1.0 in
          r.met n (hold_kept n now one mid m.grown a.conditions (a.met n h front)) last;
      stays = λ symbols c h.
          let own : Contains symbols u = All-head (Contains symbols) u [] (All-back (Contains symbols) us (u ∷ []) c) in
          let low : IsLowered symbols one u = symbol_lowered symbols one u next (low_type leaf) m.has m.on (subst IsLowType (sym m.ty) (low_bits leaf y)) own in
          r.stays symbols low (all_kept_lowered symbols now one mid a.grown.well m.grown a.conditions (a.stays symbols (All-front (Contains symbols) us (u ∷ []) c) h));
      lowered = λ symbols c.
          let own : Contains symbols u = All-head (Contains symbols) u [] (All-back (Contains symbols) us (u ∷ []) c) in
          let low : IsLowered symbols one u = symbol_lowered symbols one u next (low_type leaf) m.has m.on (subst IsLowType (sym m.ty) (low_bits leaf y)) own in
          All-push (IsLowered symbols new) us u (all_kept_lowered symbols now new us a.grown.well grown a.within (a.lowered symbols (All-front (Contains symbols) us (u ∷ []) c))) (kept_lowered symbols one new u m.grown.well r.grown m.there low);
    }

pub bound_within : (old mid : List Node) (u last w l : ℕ) → u < length old → IsMade old mid last (Const (Bv w) (Bits w l)) [] → Within mid (u ∷ last ∷ [])
bound_within old mid u last w l b m = two_within mid u last (omega (arith, b, longer old mid m.grown)) m.there

pub label_some : (n k : ℕ) → Valid (Enum n k) → 1 ≤ k
label_some n k v = let h : nat_lt 0 k ≡ true = sym (valid-Enum n k) ∙ v in grind (arith, nat_tests)

pub width_valid : (k w : ℕ) → w ≡ label_bits k → w ≤ 32 → Valid (Bv w)
width_valid k w h g = Bv-valid w (omega (arith, h, (label_bits-least k).some)) (omega (arith, g))

pub leaves_all_valid : (ty : Ty) → HasBits ty → Valid ty → AllValid (leaves ty)
leaves_all_valid ty h v = subst AllValid (append-nil (leaves ty)) (leaves_valid (ty ∷ []) (one_finite ty h) (All-cons Valid ty [] v (All-nil Valid)))

pub symbols_step : (old now one new : List Node) (first next following : ℕ) (leaves : List Ty) (i : ℕ) (leaf : Ty) (us all before mid after : List ℕ) (u : ℕ) → WellTyped old → IsBitsType leaf
    → AreSymbols old now first next (take i leaves) us before mid → IsMade now one u (Symbol next (low_type leaf)) [] → HasRange one new leaf u mid after → following ≡ next + 1
    → leaf ≡ get_or leaves i leaf → i < length leaves → all ≡ us ++ u ∷ [] → AreSymbols old new first following (take (i + 1) leaves) all before after
symbols_step old now one new first next following leaves i leaf us all before mid after u wt y a m r e h l g =
    subst (λ x. AreSymbols old new first following (take (i + 1) leaves) x before after) (sym g)
    (subst (λ x. AreSymbols old new first following x (us ++ u ∷ []) before after) (sym (take_more leaves i leaf l ∙ ap (λ x. take i leaves ++ x ∷ []) (sym h)))
    (symbols_more old now one new first next following (take i leaves) leaf us before mid after u wt y a m r e))
