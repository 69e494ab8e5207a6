-- What stands for a term, from what stands for its parts.
use Rattle.std.specs.Prelude.{◌≡◌, ℕ, ◌+◌, ◌-◌, ◌<◌, true, ◌&&◌, IsTrue, List, [], ◌∷◌, ◌++◌, length, Some, All}
use Rattle.std.specs.Option.{option_map}
use Rattle.std.proofs.Common.{refl, sym, ap, ◌∙◌, subst, arith, append-nil}
use Rattle.std.proofs.lemmas.List.{map-append}
use Rattle.std.proofs.lemmas.List.Elements.{All-append, All-cons, All-nil, All-head, All-tail}
use Rattle.std.proofs.Math.Bool.{and-true}
use Rattle.uc_values.specs.Values.{fits}
use Rattle.uc_values.specs.Types.{field_types}
use Rattle.uc_values.specs.Sameness.{same}
use Rattle.uc_values.proofs.Fitting.{Fit, parts-Rec}
use Rattle.uc_values.specs.declared.ty.Ty.{Ty}
use Rattle.uc_values.specs.declared.ty.Ty.TheVariants.{Bool, Bv, Rec}
use Rattle.uc_values.specs.declared.value.Value.{Value}
use Rattle.uc_values.specs.declared.value.Value.TheVariants.{Bool as Truth, Rec as Record}
use Rattle.uc_ops.specs.declared.model.Model.{Model}
use Rattle.uc_ops.specs.declared.op.Op.{Op}
use Rattle.uc_ops.specs.declared.op.Op.TheVariants.{Symbol, Not, And, Or, Eq, BvAdd, BvSub, BvMul, BvNeg, BvAnd, BvOr, BvXor, BvNot, Concat, Extract, ZeroExt, SignExt, Shl, Lshr, Ashr, Slt, Sle, Ult, Ule, App, MkRec}
use Rattle.uc_ops.specs.declared.node.Node.{Node}
use Rattle.uc_ops.specs.Typing.{Suits, Some_of, Bits as OneOfBits, Pair_of_bits, type_of, type_at, types_at, part_type}
use Rattle.uc_ops.specs.Meaning.{apply}
use Rattle.uc_ops.proofs.Lists.{at_place}
use Rattle.uc_terms.specs.Tables.{HasOp, WellTyped, parts_at}
use Rattle.uc_terms.specs.Values.{value, values_at}
use Rattle.uc_terms.proofs.Grown.{parts-node, type-node}
use Rattle.uc_terms.proofs.Values.{value-node, within_all}
use Rattle.uc_terms.proofs.Fitting.{all_fit, value-fits}
use Rattle.uc_lower.specs.Fields.{low_types, coded, all_low, all_coded, all_same}
use Rattle.uc_lower.specs.Made.{Grows, Within, IsMade, IsLowType, truth, bits, IsLowered, IsComposed, HasBits}
use Rattle.uc_lower.specs.Steps.{IsEquality, lows, part_lows, joined_lows, IsLow, Means, IsPlain, IsReady, IsLowOf}
use Rattle.uc_lower.proofs.Leaves.{one_finite, low-Bool, low-Bv, low-Rec, coded-Bool, coded-Bv, coded-Rec}
use Rattle.uc_lower.proofs.Codes.{coded_same}
use Rattle.uc_lower.proofs.Growing.{kept_type, kept_value, made_lowered}
use Rattle.uc_lower.proofs.Building.{one_lowered}

-- what is known of a term of a well-typed table
pub record NodeFacts (nodes : List Node) (t : ℕ) (op : Op) : Type 0 where
  pub suits : Suits op (types_at nodes (parts_at nodes t))
  pub typed : type_at nodes t ≡ type_of op (types_at nodes (parts_at nodes t))
  pub value : (m : Model) → value m nodes t ≡ apply m op (types_at nodes (parts_at nodes t)) (values_at m nodes (parts_at nodes t))
  pub within : Within nodes (parts_at nodes t)
  pub fit : (m : Model) → Fit (types_at nodes (parts_at nodes t)) (values_at m nodes (parts_at nodes t))

pub node_facts : (nodes : List Node) (t : ℕ) (op : Op) → WellTyped nodes → t < length nodes → HasOp nodes t op → NodeFacts nodes t op
node_facts nodes t op w l h =
    let r = at_place nodes t l in
    let node = r.0 in
    let fine = w t node r.1 in
    let there : Some node.op ≡ Some op = sym (ap (option_map (λ n. n.op)) r.1) ∙ h in
    let same : node.op ≡ op = cc in
    let on : parts_at nodes t ≡ node.parts = parts-node nodes t node r.1 in
    record {
      suits = subst (λ ps. Suits op (types_at nodes ps)) (sym on) (subst (λ o. Suits o (types_at nodes node.parts)) same fine.suits);
      typed = type-node nodes t node r.1 ∙ fine.typed ∙ ap (λ o. type_of o (types_at nodes node.parts)) same ∙ ap (λ ps. type_of op (types_at nodes ps)) (sym on);
      value = λ m. value-node m nodes t node w r.1 ∙ ap (λ o. apply m o (types_at nodes node.parts) (values_at m nodes node.parts)) same ∙ ap (λ ps. apply m op (types_at nodes ps) (values_at m nodes ps)) (sym on);
      within = subst (Within nodes) (sym on) (within_all nodes t node.parts l fine.before);
      fit = λ m. subst (λ ps. Fit (types_at nodes ps) (values_at m nodes ps)) (sym on) (all_fit m nodes t node.parts (λ p b. value-fits m nodes p w (omega (arith, b, l))) fine.before);
    }

abbrev pub AreLow : List Node → List (List ℕ) → List ℕ → Type 0
AreLow nodes lowered ps = All (λ p. IsLow nodes p (lows lowered p)) ps

abbrev pub AllMean : Model → Model → List Node → List (List ℕ) → List ℕ → Type 0
AllMean m n nodes lowered ps = All (λ p. Means m n nodes p (lows lowered p)) ps

abbrev pub AllLowered : List ℕ → List Node → List (List ℕ) → List ℕ → Type 0
AllLowered symbols nodes lowered ps = All (λ p. All (IsLowered symbols nodes) (lows lowered p)) ps

joined_types : (nodes : List Node) (lowered : List (List ℕ)) (ps : List ℕ) → AreLow nodes lowered ps → types_at nodes (joined_lows lowered ps) ≡ all_low (types_at nodes ps)
joined_types nodes lowered [] h = refl
joined_types nodes lowered (p ∷ ps) h =
    map-append (type_at nodes) (lows lowered p) (joined_lows lowered ps)
    ∙ ap (λ x. x ++ types_at nodes (joined_lows lowered ps)) (All-head (λ p. IsLow nodes p (lows lowered p)) p ps h).types
    ∙ ap (λ x. low_types (type_at nodes p) ++ x) (joined_types nodes lowered ps (All-tail (λ p. IsLow nodes p (lows lowered p)) p ps h))

joined_values : (m n : Model) (nodes : List Node) (lowered : List (List ℕ)) (ps : List ℕ) → AllMean m n nodes lowered ps → values_at n nodes (joined_lows lowered ps) ≡ all_coded (types_at nodes ps) (values_at m nodes ps)
joined_values m n nodes lowered [] h = refl
joined_values m n nodes lowered (p ∷ ps) h =
    map-append (value n nodes) (lows lowered p) (joined_lows lowered ps)
    ∙ ap (λ x. x ++ values_at n nodes (joined_lows lowered ps)) (All-head (λ p. Means m n nodes p (lows lowered p)) p ps h)
    ∙ ap (λ x. coded (type_at nodes p) (value m nodes p) ++ x) (joined_values m n nodes lowered ps (All-tail (λ p. Means m n nodes p (lows lowered p)) p ps h))

pub joined_within : (nodes : List Node) (lowered : List (List ℕ)) (ps : List ℕ) → AreLow nodes lowered ps → Within nodes (joined_lows lowered ps)
joined_within nodes lowered [] h = All-nil (λ t. t < length nodes)
joined_within nodes lowered (p ∷ ps) h =
    All-append (λ t. t < length nodes) (lows lowered p) (joined_lows lowered ps) (All-head (λ p. IsLow nodes p (lows lowered p)) p ps h).within (joined_within nodes lowered ps (All-tail (λ p. IsLow nodes p (lows lowered p)) p ps h))

joined_lowered : (symbols : List ℕ) (nodes : List Node) (lowered : List (List ℕ)) (ps : List ℕ) → AllLowered symbols nodes lowered ps → All (IsLowered symbols nodes) (joined_lows lowered ps)
joined_lowered symbols nodes lowered [] h = All-nil (IsLowered symbols nodes)
joined_lowered symbols nodes lowered (p ∷ ps) h =
    All-append (IsLowered symbols nodes) (lows lowered p) (joined_lows lowered ps) (All-head (λ p. All (IsLowered symbols nodes) (lows lowered p)) p ps h) (joined_lowered symbols nodes lowered ps (All-tail (λ p. All (IsLowered symbols nodes) (lows lowered p)) p ps h))

-- a boolean or a bit-vector stands for itself
pub low_own : (ty : Ty) → IsLowType ty → low_types ty ≡ ty ∷ []
low_own ty truth = low-Bool
low_own ty (bits width) = low-Bv width

pub code_own : (ty : Ty) (v : Value) → IsLowType ty → coded ty v ≡ v ∷ []
code_own ty v truth = coded-Bool v
code_own ty v (bits width) = coded-Bv width v

all_low_own : (tys : List Ty) → All IsLowType tys → all_low tys ≡ tys
all_low_own [] h = refl
all_low_own (ty ∷ tys) h = ap (λ x. x ++ all_low tys) (low_own ty (All-head IsLowType ty tys h)) ∙ ap (λ x. ty ∷ x) (all_low_own tys (All-tail IsLowType ty tys h))

all_coded_own : (tys : List Ty) (vs : List Value) → All IsLowType tys → Fit tys vs → all_coded tys vs ≡ vs
all_coded_own [] [] h f = refl
all_coded_own [] (v ∷ vs) h f = absurd f
all_coded_own (ty ∷ tys) [] h f = absurd f
all_coded_own (ty ∷ tys) (v ∷ vs) h f = ap (λ x. x ++ all_coded tys vs) (code_own ty v (All-head IsLowType ty tys h)) ∙ ap (λ x. v ∷ x) (all_coded_own tys vs (All-tail IsLowType ty tys h) f.1)

one_type : (types : List Ty) (s : Ty) → types ≡ s ∷ [] → IsLowType s → All IsLowType types
one_type types s e h = subst (All IsLowType) (sym e) (All-cons IsLowType s [] h (All-nil IsLowType))

two_types : (types : List Ty) (s t : Ty) → types ≡ s ∷ t ∷ [] → IsLowType s → IsLowType t → All IsLowType types
two_types types s t e h g = subst (All IsLowType) (sym e) (All-cons IsLowType s (t ∷ []) h (All-cons IsLowType t [] g (All-nil IsLowType)))

some_types : (types : List Ty) → Some_of Bool types → All IsLowType types
some_types types s k d l = subst IsLowType (sym (s.1 k d l)) truth

pair_types : (types : List Ty) → Pair_of_bits types → All IsLowType types
pair_types types s = two_types types (Bv s.0) (Bv s.0) s.1 (bits s.0) (bits s.0)

pair_type : (types : List Ty) → Pair_of_bits types → IsLowType (part_type types 0)
pair_type types s = subst (λ ts. IsLowType (part_type ts 0)) (sym s.1) (bits s.0)

bits_type : (types : List Ty) → OneOfBits types → IsLowType (part_type types 0)
bits_type types s = subst (λ ts. IsLowType (part_type ts 0)) (sym s.1) (bits s.0)

plain_types : (op : Op) (types : List Ty) → IsPlain op → Suits op types → All IsLowType types
plain_types Not types p s = one_type types Bool s truth
plain_types And types p s = some_types types s
plain_types Or types p s = some_types types s
plain_types BvAdd types p s = pair_types types s
plain_types BvSub types p s = pair_types types s
plain_types BvMul types p s = pair_types types s
plain_types BvAnd types p s = pair_types types s
plain_types BvOr types p s = pair_types types s
plain_types BvXor types p s = pair_types types s
plain_types Shl types p s = pair_types types s
plain_types Lshr types p s = pair_types types s
plain_types Ashr types p s = pair_types types s
plain_types Slt types p s = pair_types types s
plain_types Sle types p s = pair_types types s
plain_types Ult types p s = pair_types types s
plain_types Ule types p s = pair_types types s
plain_types BvNeg types p s = one_type types (Bv s.0) s.1 (bits s.0)
plain_types BvNot types p s = one_type types (Bv s.0) s.1 (bits s.0)
plain_types (Extract high low) types p s = one_type types (Bv s.0) s.1 (bits s.0)
plain_types (ZeroExt more) types p s = one_type types (Bv s.0) s.1 (bits s.0)
plain_types (SignExt more) types p s = one_type types (Bv s.0) s.1 (bits s.0)
plain_types Concat types p s = two_types types (Bv s.0) (Bv s.1) s.2 (bits s.0) (bits s.1)
plain_types other types p s = absurd p

plain_type : (op : Op) (types : List Ty) → IsPlain op → Suits op types → IsLowType (type_of op types)
plain_type Not types p s = truth
plain_type And types p s = truth
plain_type Or types p s = truth
plain_type Slt types p s = truth
plain_type Sle types p s = truth
plain_type Ult types p s = truth
plain_type Ule types p s = truth
plain_type BvAdd types p s = pair_type types s
plain_type BvSub types p s = pair_type types s
plain_type BvMul types p s = pair_type types s
plain_type BvAnd types p s = pair_type types s
plain_type BvOr types p s = pair_type types s
plain_type BvXor types p s = pair_type types s
plain_type Shl types p s = pair_type types s
plain_type Lshr types p s = pair_type types s
plain_type Ashr types p s = pair_type types s
plain_type BvNeg types p s = bits_type types s
plain_type BvNot types p s = bits_type types s
plain_type (Extract high low) types p s = bits (high - low + 1)
plain_type (ZeroExt more) types p s = bits _
plain_type (SignExt more) types p s = bits _
plain_type Concat types p s = bits _
plain_type other types p s = absurd p

plain_model : (op : Op) (m n : Model) (types : List Ty) (vs : List Value) → IsPlain op → apply m op types vs ≡ apply n op types vs
plain_model (Symbol number ty) m n types vs p = absurd p
plain_model (App number ty) m n types vs p = absurd p
plain_model other m n types vs p = refl

plain_composed : (op : Op) → IsPlain op → IsComposed op
plain_composed (Symbol number ty) p = absurd p
plain_composed (App number ty) p = absurd p
plain_composed other p = tt

pub one_low : (new : List Node) (t r : ℕ) → r < length new → IsLowType (type_at new t) → type_at new r ≡ type_at new t → IsLow new t (r ∷ [])
one_low new t r l y e = record {
  within = All-cons (λ x. x < length new) r [] l (All-nil (λ x. x < length new));
  types = ap (λ ty. ty ∷ []) e ∙ sym (low_own (type_at new t) y);
}

pub one_means : (m n : Model) (new : List Node) (t r : ℕ) → IsLowType (type_at new t) → value n new r ≡ value m new t → Means m n new t (r ∷ [])
one_means m n new t r y e = ap (λ v. v ∷ []) e ∙ sym (code_own (type_at new t) (value m new t) y)

-- the same operation on what stands for the parts
pub plain_low : (old new : List Node) (lowered : List (List ℕ)) (t r : ℕ) (op : Op) → WellTyped old → IsReady old lowered t op → IsPlain op → IsMade old new r op (joined_lows lowered (parts_at old t)) → IsLowOf old new lowered t (r ∷ [])
plain_low old new lowered t r op w ready p made =
    let ps = parts_at old t in
    let us = joined_lows lowered ps in
    let types = types_at old ps in
    let f = node_facts old t op w ready.there ready.has in
    let low = plain_types op types p f.suits in
    let same : types_at old us ≡ types = joined_types old lowered ps ready.low ∙ all_low_own types low in
    let kept : type_at new t ≡ type_at old t = kept_type old new t made.grown ready.there in
    let own : IsLowType (type_at new t) = subst IsLowType (sym (kept ∙ f.typed)) (plain_type op types p f.suits) in
    let here : type_at new r ≡ type_at new t = made.ty ∙ ap (type_of op) same ∙ sym f.typed ∙ sym kept in
    record {
      low = one_low new t r made.there own here;
      means = λ m n h. one_means m n new t r own
          (made.value n ∙ ap (λ ts. apply n op ts (values_at n old us)) same ∙ ap (apply n op types) (joined_values m n old lowered ps h ∙ all_coded_own types (values_at m old ps) low (f.fit m))
          ∙ plain_model op n m types (values_at m old ps) p ∙ sym (f.value m) ∙ sym (kept_value m old new t made.grown ready.there));
      stays = λ symbols h. one_lowered symbols new r (made_lowered symbols old new r op us w made (plain_composed op p) (subst IsLowType (sym here) own) (joined_within old lowered ps ready.low) (joined_lowered symbols old lowered ps h));
    }

pub plain_suits : (old : List Node) (lowered : List (List ℕ)) (t : ℕ) (op : Op) → WellTyped old → IsReady old lowered t op → IsPlain op → Suits op (types_at old (joined_lows lowered (parts_at old t)))
plain_suits old lowered t op w ready p =
    let f = node_facts old t op w ready.there ready.has in
    subst (Suits op) (sym (joined_types old lowered (parts_at old t) ready.low ∙ all_low_own (types_at old (parts_at old t)) (plain_types op (types_at old (parts_at old t)) p f.suits))) f.suits

-- a record: what stands for its parts
pub record_low : (nodes : List Node) (lowered : List (List ℕ)) (t : ℕ) (ty : Ty) → WellTyped nodes → IsReady nodes lowered t (MkRec ty) → IsLowOf nodes nodes lowered t (joined_lows lowered (parts_at nodes t))
record_low nodes lowered t ty w ready =
    let ps = parts_at nodes t in
    let types = types_at nodes ps in
    let f = node_facts nodes t (MkRec ty) w ready.there ready.has in
    let fs = f.suits.0 in
    let whole : type_at nodes t ≡ Rec fs = f.typed ∙ f.suits.1 in
    record {
      low = record {
        within = joined_within nodes lowered ps ready.low;
        types = joined_types nodes lowered ps ready.low ∙ ap all_low f.suits.2 ∙ sym (low-Rec fs) ∙ ap low_types (sym whole);
      };
      means = λ m n h.
          let vs = values_at m nodes ps in
          joined_values m n nodes lowered ps h ∙ ap (λ ts. all_coded ts vs) f.suits.2 ∙ ap (all_coded (field_types fs)) (sym (parts-Rec vs)) ∙ sym (coded-Rec fs (Record vs))
          ∙ ap (λ v. coded (Rec fs) v) (sym (f.value m)) ∙ ap (λ s. coded s (value m nodes t)) (sym whole);
      stays = λ symbols h. joined_lowered symbols nodes lowered ps h;
    }

-- the first parts of a term with so many parts
pub record OnePart (nodes : List Node) (ps : List ℕ) (s : Ty) : Type 0 where
  pub a : ℕ
  pub is : ps ≡ a ∷ []
  pub type_a : type_at nodes a ≡ s

pub record TwoParts (nodes : List Node) (ps : List ℕ) (s t : Ty) : Type 0 where
  pub a : ℕ
  pub b : ℕ
  pub is : ps ≡ a ∷ b ∷ []
  pub type_a : type_at nodes a ≡ s
  pub type_b : type_at nodes b ≡ t

pub record ThreeParts (nodes : List Node) (ps : List ℕ) (s t u : Ty) : Type 0 where
  pub a : ℕ
  pub b : ℕ
  pub c : ℕ
  pub is : ps ≡ a ∷ b ∷ c ∷ []
  pub type_a : type_at nodes a ≡ s
  pub type_b : type_at nodes b ≡ t
  pub type_c : type_at nodes c ≡ u

pub one_part : (nodes : List Node) (ps : List ℕ) (s : Ty) → types_at nodes ps ≡ s ∷ [] → OnePart nodes ps s
one_part nodes [] s h = cc
one_part nodes (a ∷ []) s h = record { a = a; is = refl; type_a = (cc) }
one_part nodes (a ∷ b ∷ ps) s h = cc

pub two_parts : (nodes : List Node) (ps : List ℕ) (s t : Ty) → types_at nodes ps ≡ s ∷ t ∷ [] → TwoParts nodes ps s t
two_parts nodes [] s t h = cc
two_parts nodes (a ∷ []) s t h = cc
two_parts nodes (a ∷ b ∷ []) s t h = record { a = a; b = b; is = refl; type_a = (cc); type_b = (cc) }
two_parts nodes (a ∷ b ∷ c ∷ ps) s t h = cc

pub three_parts : (nodes : List Node) (ps : List ℕ) (s t u : Ty) → types_at nodes ps ≡ s ∷ t ∷ u ∷ [] → ThreeParts nodes ps s t u
three_parts nodes [] s t u h = cc
three_parts nodes (a ∷ []) s t u h = cc
three_parts nodes (a ∷ b ∷ []) s t u h = cc
three_parts nodes (a ∷ b ∷ c ∷ []) s t u h = record { a = a; b = b; c = c; is = refl; type_a = (cc); type_b = (cc); type_c = (cc) }
three_parts nodes (a ∷ b ∷ c ∷ d ∷ ps) s t u h = cc

same_one : (ty : Ty) (v w : Value) → HasBits ty → IsTrue (fits ty v) → IsTrue (fits ty w) → all_same (low_types ty) (coded ty v) (coded ty w) ≡ same ty v w
same_one ty v w b h g =
    let e : (same ty v w && true) ≡ all_same (low_types ty ++ []) (coded ty v ++ []) (coded ty w ++ []) = coded_same (ty ∷ []) (v ∷ []) (w ∷ []) (one_finite ty b) (h, tt) (g, tt) in
    sym (sym (and-true (same ty v w)) ∙ e ∙ ap (λ x. all_same x (coded ty v ++ []) (coded ty w ++ [])) (append-nil (low_types ty)) ∙ ap (λ x. all_same (low_types ty) x (coded ty w ++ [])) (append-nil (coded ty v)) ∙ ap (all_same (low_types ty) (coded ty v)) (append-nil (coded ty w)))

abbrev EqParts : List Node → ℕ → Type 0
EqParts nodes t = (ty : Ty) × TwoParts nodes (parts_at nodes t) ty ty

eq_parts : (nodes : List Node) (t : ℕ) → WellTyped nodes → t < length nodes → HasOp nodes t Eq → EqParts nodes t
eq_parts nodes t w l h = let f = node_facts nodes t Eq w l h in (f.suits.0, two_parts nodes (parts_at nodes t) f.suits.0 f.suits.0 f.suits.1)

-- what stands for the parts of an equation
pub record EqLow (nodes : List Node) (lowered : List (List ℕ)) (t : ℕ) : Type 0 where
  pub left : Within nodes (part_lows lowered (parts_at nodes t) 0)
  pub right : Within nodes (part_lows lowered (parts_at nodes t) 1)
  pub one_type : types_at nodes (part_lows lowered (parts_at nodes t) 0) ≡ types_at nodes (part_lows lowered (parts_at nodes t) 1)

pub eq_low : (nodes : List Node) (lowered : List (List ℕ)) (t : ℕ) → WellTyped nodes → IsReady nodes lowered t Eq → EqLow nodes lowered t
eq_low nodes lowered t w ready =
    let r = (eq_parts nodes t w ready.there ready.has).1 in
    let P : ℕ → Type 0 = λ p. IsLow nodes p (lows lowered p) in
    let low = subst (All P) r.is ready.low in
    let a = All-head P r.a (r.b ∷ []) low in
    let b = All-head P r.b [] (All-tail P r.a (r.b ∷ []) low) in
    record {
      left = subst (λ ps. Within nodes (part_lows lowered ps 0)) (sym r.is) a.within;
      right = subst (λ ps. Within nodes (part_lows lowered ps 1)) (sym r.is) b.within;
      one_type = subst (λ ps. types_at nodes (part_lows lowered ps 0) ≡ types_at nodes (part_lows lowered ps 1)) (sym r.is) (a.types ∙ ap low_types (r.type_a ∙ sym r.type_b) ∙ sym b.types);
    }

two_all : (P : ℕ → Type 0) (xs ys : List ℕ) → All P xs → All P ys → All P (xs ++ ys)
two_all P xs ys h g = All-append P xs ys h g

pub equality_low : (old new : List Node) (lowered : List (List ℕ)) (t r : ℕ) → WellTyped old → Grows old new → IsReady old lowered t Eq
    → IsEquality old new (part_lows lowered (parts_at old t) 0) (part_lows lowered (parts_at old t) 1) r → IsLowOf old new lowered t (r ∷ [])
equality_low old new lowered t r w g ready made =
    let q = (eq_parts old t w ready.there ready.has).1 in
    let f = node_facts old t Eq w ready.there ready.has in
    let kept : type_at new t ≡ type_at old t = kept_type old new t g ready.there in
    let own : type_at new t ≡ Bool = kept ∙ f.typed in
    let y : IsLowType (type_at new t) = subst IsLowType (sym own) truth in
    let P : ℕ → Type 0 = λ p. IsLow old p (lows lowered p) in
    let low = subst (All P) q.is ready.low in
    let a = All-head P q.a (q.b ∷ []) low in
    let B : ℕ → Type 0 = λ p. HasBits (type_at old p) in
    let fit_bits : HasBits (type_at old q.a) = All-head B q.a (q.b ∷ []) (subst (All B) q.is ready.bits) in
    record {
      low = one_low new t r made.there y (made.ty ∙ sym own);
      means = λ m n h.
          let M : ℕ → Type 0 = λ p. Means m n old p (lows lowered p) in
          let mean = subst (All M) q.is h in
          let ma = All-head M q.a (q.b ∷ []) mean in
          let mb = All-head M q.b [] (All-tail M q.a (q.b ∷ []) mean) in
          let ty = type_at old q.a in
          let va = value m old q.a in
          let vb = value m old q.b in
          let fit = subst (λ ps. Fit (types_at old ps) (values_at m old ps)) q.is (f.fit m) in
          let fit_b : IsTrue (fits ty vb) = subst (λ s. IsTrue (fits s vb)) (q.type_b ∙ sym q.type_a) fit.1.0 in
          let left : value n new r ≡ Truth (all_same (types_at old (lows lowered q.a)) (values_at n old (lows lowered q.a)) (values_at n old (lows lowered q.b))) =
          made.value n ∙ ap (λ ps. Truth (all_same (types_at old (part_lows lowered ps 0)) (values_at n old (part_lows lowered ps 0)) (values_at n old (part_lows lowered ps 1)))) q.is in
          let mid : all_same (types_at old (lows lowered q.a)) (values_at n old (lows lowered q.a)) (values_at n old (lows lowered q.b)) ≡ same ty va vb =
          ap (λ x. all_same x (values_at n old (lows lowered q.a)) (values_at n old (lows lowered q.b))) a.types ∙ ap (λ x. all_same (low_types ty) x (values_at n old (lows lowered q.b))) ma
          ∙ ap (all_same (low_types ty) (coded ty va)) (mb ∙ ap (λ s. coded s vb) (q.type_b ∙ sym q.type_a)) ∙ same_one ty va vb fit_bits fit.0 fit_b in
          let right : value m old t ≡ Truth (same ty va vb) = f.value m ∙ ap (λ ps. apply m Eq (types_at old ps) (values_at m old ps)) q.is in
          one_means m n new t r y (left ∙ ap Truth mid ∙ sym right ∙ sym (kept_value m old new t g ready.there));
      stays = λ symbols h.
          let Q : ℕ → Type 0 = λ p. All (IsLowered symbols old) (lows lowered p) in
          let all = subst (All Q) q.is h in
          let la = All-head Q q.a (q.b ∷ []) all in
          let lb = All-head Q q.b [] (All-tail Q q.a (q.b ∷ []) all) in
          made.lowered symbols (subst (λ ps. All (IsLowered symbols old) (part_lows lowered ps 0 ++ part_lows lowered ps 1)) (sym q.is) (two_all (IsLowered symbols old) (lows lowered q.a) (lows lowered q.b) la lb));
    }
