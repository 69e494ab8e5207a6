-- What is made of lowered parts: conjunctions, tests and choices, field by field.
use Rattle.std.specs.Prelude.{◌≡◌, ℕ, ◌+◌, ◌<◌, Bool as Flag, true, false, ◌&&◌, cond, List, [], ◌∷◌, ◌++◌, map, length, take, get_or, nat_eq, All, zero, suc}
use Rattle.std.specs.Option.{option_map}
use Rattle.std.specs.List.{list_all}
use Rattle.std.proofs.Common.{refl, sym, ap, ◌∙◌, subst, arith}
use Rattle.std.proofs.lemmas.List.{length-map, map-append, take_more, take_all}
use Rattle.std.proofs.lemmas.List.Folds.{list_all-append}
use Rattle.std.proofs.lemmas.List.Elements.{All-cons, All-nil, All-head, All-tail, All-push}
use Rattle.uc_values.specs.Values.{truth_of}
use Rattle.uc_values.specs.Sameness.{same}
use Rattle.uc_values.specs.declared.ty.Ty.{Ty}
use Rattle.uc_values.specs.declared.ty.Ty.TheVariants.{Bool}
use Rattle.uc_values.specs.declared.value.Value.{Value}
use Rattle.uc_values.specs.declared.value.Value.TheVariants.{Bool as Truth}
use Rattle.uc_ops.specs.declared.model.Model.{Model}
use Rattle.uc_ops.specs.declared.op.Op.{Op}
use Rattle.uc_ops.specs.declared.op.Op.TheVariants.{Const, And, Eq, Ite}
use Rattle.uc_ops.specs.declared.node.Node.{Node}
use Rattle.uc_ops.specs.Typing.{Suits, type_at, types_at}
use Rattle.uc_ops.specs.Meaning.{apply}
use Rattle.uc_ops.proofs.Lists.{slice_get-within}
use Rattle.uc_terms.specs.Tables.{WellTyped, Makes, node_of}
use Rattle.uc_terms.specs.Values.{value, values_at}
use Rattle.uc_terms.specs.Subterms.{itself}
use Rattle.std.proofs.Math.Bool.{and-true}
use Rattle.std.proofs.lemmas.Bool.{false≢true}
use Rattle.std.proofs.lemmas.Bool.Decides.{nat_tests}
use Rattle.uc_terms.proofs.Grown.{parts-node, type-node}
use Rattle.uc_lower.specs.Fields.{all_same}
use Rattle.uc_lower.specs.Made.{Grows, Within, IsMade, IsLowType, truth, IsLowered}
use Rattle.uc_lower.specs.Steps.{IsConjunction, AreTests, IsEquality, AreChosen}
use Rattle.uc_lower.proofs.Growing.{grows_not, grows_on, longer, kept_within, kept_type, kept_types, kept_value, kept_values, all_kept_lowered, kept_lowered, made_lowered, boolean_value}
use Rattle.uc_lower.proofs.Codes.{same_append}

-- what `mk` makes
pub is_made : (old new : List Node) (t : ℕ) (op : Op) (parts : List ℕ) → Makes old new t op parts → WellTyped new
    → ((m : Model) → value m new t ≡ apply m op (types_at old parts) (values_at m old parts)) → IsMade old new t op parts
is_made old new t op parts h w v = record {
  grown = record { more = h.grown.0; is = h.grown.1; well = w };
  there = slice_get-within new t (node_of old op parts) h.node;
  has = ap (λ o. option_map (λ n. n.op) o) h.node;
  on = parts-node new t (node_of old op parts) h.node;
  ty = type-node new t (node_of old op parts) h.node;
  value = v;
}

abbrev pub AllTruths : List Node → List ℕ → Type 0
AllTruths nodes ts = All (λ t. type_at nodes t ≡ Bool) ts

pub truths_types : (nodes : List Node) (ts : List ℕ) → AllTruths nodes ts → All (λ ty. ty ≡ Bool) (types_at nodes ts)
truths_types nodes [] h = All-nil (λ ty. ty ≡ Bool)
truths_types nodes (t ∷ ts) h = All-cons (λ ty. ty ≡ Bool) (type_at nodes t) (types_at nodes ts) (All-head (λ t. type_at nodes t ≡ Bool) t ts h) (truths_types nodes ts (All-tail (λ t. type_at nodes t ≡ Bool) t ts h))

pub one_lowered : (symbols : List ℕ) (nodes : List Node) (t : ℕ) → IsLowered symbols nodes t → All (IsLowered symbols nodes) (t ∷ [])
one_lowered symbols nodes t h = All-cons (IsLowered symbols nodes) t [] h (All-nil (IsLowered symbols nodes))

pub conjunction_none : (old new : List Node) (t : ℕ) → WellTyped old → IsMade old new t (Const Bool (Truth true)) [] → IsConjunction old new [] t
conjunction_none old new t w m = record {
  there = m.there;
  ty = m.ty;
  value = λ n. m.value n;
  lowered = λ symbols h. one_lowered symbols new t (made_lowered symbols old new t (Const Bool (Truth true)) [] w m tt (subst IsLowType (sym m.ty) truth) (All-nil (λ p. p < length old)) (All-nil (IsLowered symbols old)));
}

pub conjunction_some : (old new : List Node) (tests : List ℕ) (t : ℕ) → WellTyped old → Within old tests → IsMade old new t And tests → IsConjunction old new tests t
conjunction_some old new tests t w b m = record {
  there = m.there;
  ty = m.ty;
  value = λ n. m.value n;
  lowered = λ symbols h. one_lowered symbols new t (made_lowered symbols old new t And tests w m tt (subst IsLowType (sym m.ty) truth) b h);
}

pub no_tests : (old : List Node) (left right : List ℕ) → WellTyped old → AreTests old old left right 0 []
no_tests old left right w = record {
  grown = grows_not old w;
  within = All-nil (λ t. t < length old);
  booleans = All-nil (λ t. type_at old t ≡ Bool);
  values = λ n. refl;
  lowered = λ symbols h. All-nil (IsLowered symbols old);
}

pub two_within : (nodes : List Node) (l r : ℕ) → l < length nodes → r < length nodes → Within nodes (l ∷ r ∷ [])
two_within nodes l r h g = All-cons (λ t. t < length nodes) l (r ∷ []) h (All-cons (λ t. t < length nodes) r [] g (All-nil (λ t. t < length nodes)))

pub three_within : (nodes : List Node) (c l r : ℕ) → c < length nodes → l < length nodes → r < length nodes → Within nodes (c ∷ l ∷ r ∷ [])
three_within nodes c l r f h g = All-cons (λ t. t < length nodes) c (l ∷ r ∷ []) f (two_within nodes l r h g)

-- the same places of lists of one length
pub record AreHere (old now : List Node) (left right : List ℕ) (i l r : ℕ) : Type 0 where
  pub left_is : take (i + 1) left ≡ take i left ++ l ∷ []
  pub right_is : take (i + 1) right ≡ take i right ++ r ∷ []
  pub left_in : l < length old
  pub right_in : r < length old
  pub one_type : type_at old l ≡ type_at old r
  pub left_type : type_at now l ≡ type_at old l
  pub right_type : type_at now r ≡ type_at old r
  pub left_value : (n : Model) → value n now l ≡ value n old l
  pub right_value : (n : Model) → value n now r ≡ value n old r
  pub lengths : length (take i left) ≡ length (take i right)

same_read : {A : Type 0} (xs : List A) (i : ℕ) (x d : A) → x ≡ get_or xs i x → i < length xs → get_or xs i d ≡ x
same_read [] i x d e l = absurd (omega arith)
same_read (y ∷ xs) zero x d e l = sym e
same_read (y ∷ xs) (suc i) x d e l = same_read xs i x d e (omega (arith, l))

read_map : (f : ℕ → Ty) (xs ys : List ℕ) (i x y : ℕ) → map f xs ≡ map f ys → x ≡ get_or xs i x → y ≡ get_or ys i y → i < length xs → f x ≡ f y
read_map f [] ys i x y e h g l = absurd (omega arith)
read_map f (a ∷ xs) [] i x y e h g l = cc
read_map f (a ∷ xs) (b ∷ ys) zero x y e h g l = let q : f a ≡ f b = cc in ap f h ∙ q ∙ ap f (sym g)
read_map f (a ∷ xs) (b ∷ ys) (suc i) x y e h g l = let q : map f xs ≡ map f ys = cc in read_map f xs ys i x y q h g (omega (arith, l))

take_lengths : (xs ys : List ℕ) (i : ℕ) → length xs ≡ length ys → length (take i xs) ≡ length (take i ys)
take_lengths [] [] i e = refl
take_lengths [] (y ∷ ys) i e = absurd (omega (arith, e))
take_lengths (x ∷ xs) [] i e = absurd (omega (arith, e))
take_lengths (x ∷ xs) (y ∷ ys) zero e = refl
take_lengths (x ∷ xs) (y ∷ ys) (suc i) e = omega (arith, take_lengths xs ys i (omega (arith, e)))

pub same_lengths : (nodes : List Node) (left right : List ℕ) → types_at nodes left ≡ types_at nodes right → length left ≡ length right
same_lengths nodes left right e = sym (length-map left (type_at nodes)) ∙ ap length e ∙ length-map right (type_at nodes)

pub here : (old now : List Node) (left right : List ℕ) (i l r : ℕ) → Grows old now → Within old left → Within old right → types_at old left ≡ types_at old right → l ≡ get_or left i l → r ≡ get_or right i r → i < length left
    → AreHere old now left right i l r
here old now left right i l r g wl wr e hl hr b =
    let lengths = same_lengths old left right e in
    let inr : i < length right = omega (arith, b, lengths) in
    let lin : l < length old = subst (λ x. x < length old) (sym hl) (wl i l b) in
    let rin : r < length old = subst (λ x. x < length old) (sym hr) (wr i r inr) in
    record {
      left_is = take_more left i l b ∙ ap (λ x. take i left ++ x ∷ []) (sym hl);
      right_is = take_more right i r inr ∙ ap (λ x. take i right ++ x ∷ []) (sym hr);
      left_in = lin;
      right_in = rin;
      one_type = read_map (type_at old) left right i l r e hl hr b;
      left_type = kept_type old now l g lin;
      right_type = kept_type old now r g rin;
      left_value = λ n. kept_value n old now l g lin;
      right_value = λ n. kept_value n old now r g rin;
      lengths = take_lengths left right i lengths;
    }

tests_agree : (types : List Ty) (vs ws : List Value) (ty : Ty) (v w : Value) → length types ≡ length vs → length types ≡ length ws → all_same (types ++ ty ∷ []) (vs ++ v ∷ []) (ws ++ w ∷ []) ≡ (all_same types vs ws && (same ty v w && true))
tests_agree types vs ws ty v w h g = same_append types (ty ∷ []) vs ws (v ∷ []) (w ∷ []) h g

pub one_test_more : (old now new : List Node) (left right : List ℕ) (i l r t : ℕ) (tests : List ℕ) → WellTyped old → AreTests old now left right i tests → AreHere old now left right i l r → IsMade now new t Eq (l ∷ r ∷ [])
    → Within old left → Within old right → All (λ x. x < length now) (l ∷ r ∷ []) → ((symbols : List ℕ) → All (IsLowered symbols old) (left ++ right) → All (IsLowered symbols now) (l ∷ r ∷ []))
    → AreTests old new left right (i + 1) (tests ++ t ∷ [])
one_test_more old now new left right i l r t tests w a h m wl wr b low =
    record {
      grown = grows_on old now new a.grown m.grown;
      within = All-push (λ x. x < length new) tests t (kept_within now new tests m.grown a.within) m.there;
      booleans = All-push (λ x. type_at new x ≡ Bool) tests t (λ k d q. kept_type now new _ m.grown (a.within k d q) ∙ a.booleans k d q) m.ty;
      values = λ n.
          let front = ap (list_all truth_of) (kept_values n now new tests m.grown a.within) ∙ a.values n in
          let last : truth_of (value n new t) ≡ same (type_at old l) (value n old l) (value n old r) =
          ap truth_of (m.value n) ∙ ap (λ ty. same ty (value n now l) (value n now r)) h.left_type ∙ ap (λ v. same (type_at old l) v (value n now r)) (h.left_value n) ∙ ap (same (type_at old l) (value n old l)) (h.right_value n) in
          let types = types_at old (take i left) in
          let vs = values_at n old (take i left) in
          let ws = values_at n old (take i right) in
          let one : length types ≡ length vs = length-map (take i left) (type_at old) ∙ sym (length-map (take i left) (value n old)) in
          let two : length types ≡ length ws = length-map (take i left) (type_at old) ∙ h.lengths ∙ sym (length-map (take i right) (value n old)) in
          let whole : all_same (types_at old (take (i + 1) left)) (values_at n old (take (i + 1) left)) (values_at n old (take (i + 1) right)) ≡ (all_same types vs ws && (same (type_at old l) (value n old l) (value n old r) && true)) =
          rw (h.left_is, h.right_is) (ap (λ x. all_same x (values_at n old (take i left ++ l ∷ [])) (values_at n old (take i right ++ r ∷ []))) (map-append (type_at old) (take i left) (l ∷ []))
          ∙ ap (λ x. all_same (types ++ type_at old l ∷ []) x (values_at n old (take i right ++ r ∷ []))) (map-append (value n old) (take i left) (l ∷ []))
          ∙ ap (λ x. all_same (types ++ type_at old l ∷ []) (vs ++ value n old l ∷ []) x) (map-append (value n old) (take i right) (r ∷ []))
          ∙ tests_agree types vs ws (type_at old l) (value n old l) (value n old r) one two) in
          ap (list_all truth_of) (map-append (value n new) tests (t ∷ [])) ∙ list_all-append truth_of (values_at n new tests) (value n new t ∷ [])
          ∙ ap (λ x. x && (truth_of (value n new t) && true)) front ∙ ap (λ x. all_same types vs ws && (x && true)) last ∙ sym whole;
      lowered = λ symbols q. All-push (IsLowered symbols new) tests t (all_kept_lowered symbols now new tests a.grown.well m.grown a.within (a.lowered symbols q))
          (made_lowered symbols now new t Eq (l ∷ r ∷ []) a.grown.well m tt (subst IsLowType (sym m.ty) truth) b (low symbols q));
    }

pub tests_suit : (old now : List Node) (left right : List ℕ) (i l r : ℕ) → AreHere old now left right i l r → Suits Eq (types_at now (l ∷ r ∷ []))
tests_suit old now left right i l r h = (type_at old l, (let p = h.left_type in let q = h.right_type ∙ sym h.one_type in cc))

-- one equality of two fields, or the conjunction of all of them
pub equality_one : (old new : List Node) (left right tests : List ℕ) (t : ℕ) → AreTests old new left right (length left) tests → types_at old left ≡ types_at old right → tests ≡ t ∷ [] → IsEquality old new left right t
equality_one old new left right tests t a e h =
    let whole = take_all (length left) left (omega arith) in
    let other = take_all (length left) right (omega (arith, same_lengths old left right e)) in
    let there : t < length new = All-head (λ x. x < length new) t [] (subst (Within new) h a.within) in
    let boolean : type_at new t ≡ Bool = All-head (λ x. type_at new x ≡ Bool) t [] (subst (AllTruths new) h a.booleans) in
    record {
      there = there;
      ty = boolean;
      value = λ n.
          let last : (truth_of (value n new t) && true) ≡ all_same (types_at old left) (values_at n old left) (values_at n old right) =
          ap (λ ts. list_all truth_of (values_at n new ts)) (sym h) ∙ a.values n ∙ ap (λ x. all_same (types_at old x) (values_at n old x) (values_at n old (take (length left) right))) whole ∙ ap (λ x. all_same (types_at old left) (values_at n old left) (values_at n old x)) other in
          boolean_value n new t a.grown.well there boolean ∙ ap Truth (sym (and-true (truth_of (value n new t))) ∙ last);
      lowered = λ symbols q. subst (All (IsLowered symbols new)) h (a.lowered symbols q);
    }

pub equality_all : (old now new : List Node) (left right tests : List ℕ) (t : ℕ) → AreTests old now left right (length left) tests → types_at old left ≡ types_at old right → IsConjunction now new tests t → IsEquality old new left right t
equality_all old now new left right tests t a e c =
    let whole = take_all (length left) left (omega arith) in
    let other = take_all (length left) right (omega (arith, same_lengths old left right e)) in
    record {
      there = c.there;
      ty = c.ty;
      value = λ n. c.value n ∙ ap Truth (a.values n ∙ ap (λ x. all_same (types_at old x) (values_at n old x) (values_at n old (take (length left) right))) whole ∙ ap (λ x. all_same (types_at old left) (values_at n old left) (values_at n old x)) other);
      lowered = λ symbols q. c.lowered symbols (a.lowered symbols q);
    }

nothing_chosen : (n : Model) (old : List Node) (b : Flag) → [] ≡ cond b (values_at n old []) (values_at n old [])
nothing_chosen n old true = refl
nothing_chosen n old false = refl

pub none_chosen : (old : List Node) (c : ℕ) (left right : List ℕ) → WellTyped old → AreChosen old old c left right 0 []
none_chosen old c left right w = record {
  grown = grows_not old w;
  within = All-nil (λ t. t < length old);
  types = refl;
  values = λ n. nothing_chosen n old (truth_of (value n old c));
  lowered = λ symbols h. All-nil (IsLowered symbols old);
}

choice_more : (b : Flag) (xs ys : List Value) (x y : Value) → cond b (xs ++ x ∷ []) (ys ++ y ∷ []) ≡ cond b xs ys ++ cond b x y ∷ []
choice_more true xs ys x y = refl
choice_more false xs ys x y = refl

pub choice_suits : (old now : List Node) (c : ℕ) (left right : List ℕ) (i l r : ℕ) → Grows old now → c < length old → type_at old c ≡ Bool → AreHere old now left right i l r → Suits Ite (types_at now (c ∷ l ∷ r ∷ []))
choice_suits old now c left right i l r g b e h = (type_at old l, (let o = kept_type old now c g b ∙ e in let p = h.left_type in let q = h.right_type ∙ sym h.one_type in cc))

pub one_choice_more : (old now new : List Node) (c : ℕ) (left right : List ℕ) (i l r t : ℕ) (terms : List ℕ) → AreChosen old now c left right i terms → AreHere old now left right i l r → IsMade now new t Ite (c ∷ l ∷ r ∷ [])
    → c < length old → Within now (c ∷ l ∷ r ∷ []) → ((symbols : List ℕ) → All (IsLowered symbols old) (c ∷ left ++ right) → All (IsLowered symbols now) (c ∷ l ∷ r ∷ []))
    → AreChosen old new c left right (i + 1) (terms ++ t ∷ [])
one_choice_more old now new c left right i l r t terms a h m cb b low =
    record {
      grown = grows_on old now new a.grown m.grown;
      within = All-push (λ x. x < length new) terms t (kept_within now new terms m.grown a.within) m.there;
      types = rw h.left_is (map-append (type_at new) terms (t ∷ []) ∙ ap (λ x. x ++ type_at new t ∷ []) (kept_types now new terms m.grown a.within ∙ a.types) ∙ ap (λ x. types_at old (take i left) ++ x ∷ []) (m.ty ∙ h.left_type) ∙ sym (map-append (type_at old) (take i left) (l ∷ [])));
      values = λ n.
          let one : value n new t ≡ cond (truth_of (value n old c)) (value n old l) (value n old r) =
          m.value n ∙ ap (λ v. cond (truth_of v) (value n now l) (value n now r)) (kept_value n old now c a.grown cb) ∙ ap (λ v. cond (truth_of (value n old c)) v (value n now r)) (h.left_value n) ∙ ap (cond (truth_of (value n old c)) (value n old l)) (h.right_value n) in
          let flag = truth_of (value n old c) in
          let xs = values_at n old (take i left) in
          let ys = values_at n old (take i right) in
          rw (h.left_is, h.right_is) (map-append (value n new) terms (t ∷ []) ∙ ap (λ x. x ++ value n new t ∷ []) (kept_values n now new terms m.grown a.within ∙ a.values n) ∙ ap (λ x. cond flag xs ys ++ x ∷ []) one
          ∙ sym (choice_more flag xs ys (value n old l) (value n old r)) ∙ ap (λ x. cond flag x (ys ++ value n old r ∷ [])) (sym (map-append (value n old) (take i left) (l ∷ []))) ∙ ap (λ x. cond flag (values_at n old (take i left ++ l ∷ [])) x) (sym (map-append (value n old) (take i right) (r ∷ []))));
      lowered = λ symbols q.
          let three = low symbols q in
          let left_low : IsLowered symbols now l = All-head (IsLowered symbols now) l (r ∷ []) (All-tail (IsLowered symbols now) c (l ∷ r ∷ []) three) in
          let typed : IsLowType (type_at now l) = (left_low l itself).typed in
          All-push (IsLowered symbols new) terms t (all_kept_lowered symbols now new terms a.grown.well m.grown a.within (a.lowered symbols q))
          (made_lowered symbols now new t Ite (c ∷ l ∷ r ∷ []) a.grown.well m tt (subst IsLowType (sym m.ty) typed) b three);
    }

-- the terms of two lists are lowered where both lists are
item_lowered : (symbols : List ℕ) (nodes : List Node) (xs : List ℕ) (i x : ℕ) → x ≡ get_or xs i x → i < length xs → All (IsLowered symbols nodes) xs → IsLowered symbols nodes x
item_lowered symbols nodes xs i x e l h = subst (IsLowered symbols nodes) (sym e) (h i x l)

pub All-front : {A : Type 0} (P : A → Type 0) (xs ys : List A) → All P (xs ++ ys) → All P xs
All-front P [] ys h = All-nil P
All-front P (x ∷ xs) ys h = All-cons P x xs (All-head P x (xs ++ ys) h) (All-front P xs ys (All-tail P x (xs ++ ys) h))

pub All-back : {A : Type 0} (P : A → Type 0) (xs ys : List A) → All P (xs ++ ys) → All P ys
All-back P [] ys h = h
All-back P (x ∷ xs) ys h = All-back P xs ys (All-tail P x (xs ++ ys) h)

pub two_lowered : (old now : List Node) (left right : List ℕ) (i l r : ℕ) → WellTyped old → Grows old now → l ≡ get_or left i l → r ≡ get_or right i r → i < length left → i < length right → l < length old → r < length old
    → (symbols : List ℕ) → All (IsLowered symbols old) (left ++ right) → All (IsLowered symbols now) (l ∷ r ∷ [])
two_lowered old now left right i l r w g hl hr bl br lin rin symbols h =
    all_kept_lowered symbols old now (l ∷ r ∷ []) w g (two_within old l r lin rin)
    (All-cons (IsLowered symbols old) l (r ∷ []) (item_lowered symbols old left i l hl bl (All-front (IsLowered symbols old) left right h))
    (one_lowered symbols old r (item_lowered symbols old right i r hr br (All-back (IsLowered symbols old) left right h))))

pub three_lowered : (old now : List Node) (c : ℕ) (left right : List ℕ) (i l r : ℕ) → WellTyped old → Grows old now → c < length old → l ≡ get_or left i l → r ≡ get_or right i r → i < length left → i < length right → l < length old → r < length old
    → (symbols : List ℕ) → All (IsLowered symbols old) (c ∷ left ++ right) → All (IsLowered symbols now) (c ∷ l ∷ r ∷ [])
three_lowered old now c left right i l r w g cb hl hr bl br lin rin symbols h =
    All-cons (IsLowered symbols now) c (l ∷ r ∷ []) (kept_lowered symbols old now c w g cb (All-head (IsLowered symbols old) c (left ++ right) h))
    (two_lowered old now left right i l r w g hl hr bl br lin rin symbols (All-tail (IsLowered symbols old) c (left ++ right) h))

-- the steps of the loops
pub test_step : (old now new : List Node) (left right : List ℕ) (i l r t : ℕ) (tests : List ℕ) → WellTyped old → AreTests old now left right i tests → IsMade now new t Eq (l ∷ r ∷ []) → Within old left → Within old right
    → types_at old left ≡ types_at old right → l ≡ get_or left i l → r ≡ get_or right i r → i < length left → AreTests old new left right (i + 1) (tests ++ t ∷ [])
test_step old now new left right i l r t tests w a m wl wr e hl hr b =
    let h = here old now left right i l r a.grown wl wr e hl hr b in
    let inr : i < length right = omega (arith, b, same_lengths old left right e) in
    let long = longer old now a.grown in
    let lin = h.left_in in
    let rin = h.right_in in
    one_test_more old now new left right i l r t tests w a h m wl wr (two_within now l r (omega (arith, lin, long)) (omega (arith, rin, long))) (two_lowered old now left right i l r w a.grown hl hr b inr lin rin)

pub choice_step : (old now new : List Node) (c : ℕ) (left right : List ℕ) (i l r t : ℕ) (terms : List ℕ) → WellTyped old → AreChosen old now c left right i terms → IsMade now new t Ite (c ∷ l ∷ r ∷ []) → c < length old → Within old left → Within old right
    → types_at old left ≡ types_at old right → l ≡ get_or left i l → r ≡ get_or right i r → i < length left → AreChosen old new c left right (i + 1) (terms ++ t ∷ [])
choice_step old now new c left right i l r t terms w a m cb wl wr e hl hr b =
    let h = here old now left right i l r a.grown wl wr e hl hr b in
    let inr : i < length right = omega (arith, b, same_lengths old left right e) in
    let long = longer old now a.grown in
    let lin = h.left_in in
    let rin = h.right_in in
    one_choice_more old now new c left right i l r t terms a h m cb (three_within now c l r (omega (arith, cb, long)) (omega (arith, lin, long)) (omega (arith, rin, long))) (three_lowered old now c left right i l r w a.grown cb hl hr b inr lin rin)

pub one_item : (xs : List ℕ) (x : ℕ) → length xs ≡ 1 → x ≡ get_or xs 0 x → xs ≡ x ∷ []
one_item [] x h e = absurd (omega (arith, h))
one_item (y ∷ []) x h e = ap (λ z. z ∷ []) (sym e)
one_item (y ∷ z ∷ xs) x h e = absurd (omega (arith, h))

pub no_types : (nodes : List Node) (ts : List ℕ) → types_at nodes ts ≡ [] → ts ≡ []
no_types nodes [] e = refl
no_types nodes (t ∷ ts) e = cc

pub no_items : (xs : List ℕ) (b : Flag) → b ≡ nat_eq (length xs) 0 → b ≡ true → xs ≡ []
no_items [] b h e = refl
no_items (x ∷ xs) b h e = absurd (let f : length (x ∷ xs) ≡ 0 = grind (arith, nat_tests) in omega (arith, f))

pub some_items : (xs : List ℕ) (b : Flag) → b ≡ nat_eq (length xs) 0 → b ≡ false → xs ≡ [] → ⊥
some_items [] b h e f = false≢true (sym e ∙ h)
some_items (x ∷ xs) b h e f = cc
