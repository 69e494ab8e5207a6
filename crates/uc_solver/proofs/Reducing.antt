-- The models of a goal and of the simplified and lowered goal.
use Rattle.std.specs.Prelude.{◌≡◌, ℕ, ◌+◌, ◌<◌, ◌≤◌, true, IsTrue, List, [], ◌∷◌, ◌++◌, map, length, slice_get, Option, Some, None, All, Contains}
use Rattle.std.specs.Option.{option_map}
use Rattle.std.proofs.Common.{refl, sym, ap, ◌∙◌, subst, arith, append_assoc}
use Rattle.std.proofs.lemmas.List.Elements.{All-weaker, All-map, All-contains}
use Rattle.uc_values.specs.Values.{fits, truth_of}
use Rattle.uc_values.specs.declared.ty.Ty.{Ty}
use Rattle.uc_values.specs.declared.ty.Ty.TheVariants.{Bool}
use Rattle.uc_ops.specs.declared.model.Model.{Model}
use Rattle.uc_ops.specs.declared.op.Op.{Op}
use Rattle.uc_ops.specs.declared.op.Op.TheVariants.{Symbol, App}
use Rattle.uc_ops.specs.declared.node.Node.{Node}
use Rattle.uc_ops.specs.Typing.{type_at}
use Rattle.uc_ops.proofs.Lists.{slice_get-within}
use Rattle.uc_terms.specs.Tables.{HasOp, WellTyped, NoTwoEqual}
use Rattle.uc_terms.specs.Values.{value, values_at}
use Rattle.uc_terms.specs.Subterms.{IsSubterm, EvenlyTyped, FitsTerm}
use Rattle.uc_terms.specs.Laws.{IsModelOf, SameUnderEveryModel}
use Rattle.uc_terms.proofs.Fitting.{value-fits}
use Rattle.uc_simplify.specs.Simplified.{Grows as Simplified}
use Rattle.uc_simplify.specs.Features.{BringsNoMore}
use Rattle.uc_simplify.proofs.Features.{sub-grows, node_of_op}
use Rattle.uc_lower.specs.Fields.{low_types, coded}
use Rattle.uc_lower.specs.Made.{Grows, Within, HasBits}
use Rattle.uc_lower.specs.Lowering.{Pair, stand_ins, IsSymbol, IsFiniteTerm, Agree, Partner, CorrespondBy, IsPairOf, IsMapOf, IsLoweredTerm}
use Rattle.uc_lower.specs.Bits.{IsSymbolBelow, HasNoMoreBits, bits_at, AreApart}
use Rattle.uc_lower.proofs.Growing.{longer, kept_type, kept_value, kept_op, had_op, grows_on, was_subterm}
use Rattle.uc_lower.proofs.Walking.{coded_kept}
use Rattle.uc_lower.proofs.Bits.{bits_kept}
use Rattle.uc_solver.specs.Codes.{IsSymbolPair, GoesBack}
use Rattle.uc_solver.proofs.Giving.{one_symbol}
use Rattle.uc_solver.proofs.Setting.{subterm_there}
use Rattle.uc_solver.proofs.Fitted.{Evenly, fitted}
use Rattle.uc_solver.specs.Stands.{mapped, Follows}
use Rattle.uc_solver.specs.Reduced.{Match, IsReduced}
use Rattle.uc_solver.proofs.Finiteness.{Simple, simple_finite, brought_symbol}

-- what is known of three tables: that of the goal, that of the simplified goal r, and that of the lowered one u
pub record Steps (n0 n1 n2 : List Node) (goal r u : ℕ) (pairs : List Pair) : Type 0 where
  pub well : WellTyped n0
  pub two : NoTwoEqual n1
  pub last_two : NoTwoEqual n2
  pub there : goal < length n0
  pub even : EvenlyTyped n0 goal
  pub finite : IsFiniteTerm n0 goal
  pub first : Grows n0 n1
  pub r_there : r < length n1
  pub same : SameUnderEveryModel n1 r n0 goal
  pub features : BringsNoMore n1 r n0 goal
  pub second : Grows n1 n2
  pub corresponds : CorrespondBy n1 r n2 u pairs
  pub is_map : IsMapOf n1 r n2 u pairs
  pub u_even : EvenlyTyped n2 u
  pub lowered : IsLoweredTerm n2 u
  pub no_more_bits : HasNoMoreBits n1 r n2 u

pub op_within : (nodes : List Node) (k : ℕ) (op : Op) → HasOp nodes k op → k < length nodes
op_within nodes k op h = let n = node_of_op nodes k op h in slice_get-within nodes k n.0 n.1

-- tables that go on from one another
pub grown_well : (old new : List Node) → Simplified old new → WellTyped new → Grows old new
grown_well old new g w = record { more = g.more; is = g.is; well = w }

pub grows_both : (n0 n1 n2 : List Node) → Simplified n0 n1 → Grows n1 n2 → Simplified n0 n2
grows_both n0 n1 n2 g h = record { more = g.more ++ h.more; is = h.is ∙ ap (λ xs. xs ++ h.more) g.is ∙ append_assoc n0 g.more h.more }

pub simple : (n0 n1 : List Node) (goal r : ℕ) → WellTyped n0 → goal < length n0 → IsFiniteTerm n0 goal → Grows n0 n1 → r < length n1 → BringsNoMore n1 r n0 goal → Simple n0 n1 goal r
simple n0 n1 goal r w l f g i b = record { well = w; there = l; finite = f; new_well = g.well; new_there = i; features = b }

whole : (n0 n1 n2 : List Node) (goal r u : ℕ) (pairs : List Pair) → Steps n0 n1 n2 goal r u pairs → Grows n0 n2
whole n0 n1 n2 goal r u pairs s = grows_on n0 n1 n2 s.first s.second

-- the goal in the last table
grown_even : (n0 n2 : List Node) (goal : ℕ) → WellTyped n0 → goal < length n0 → Grows n0 n2 → EvenlyTyped n0 goal → IsFiniteTerm n0 goal → EvenlyTyped n2 goal
grown_even n0 n2 goal w l g e f = record {
  symbols = λ j k number r s sj sk hj hk.
      let a = was_subterm n0 n2 goal w g l j sj in
      let b = was_subterm n0 n2 goal w g l k sk in
      e.symbols j k number r s a.below b.below (had_op n0 n2 j (Symbol number r) g a.there hj) (had_op n0 n2 k (Symbol number s) g b.there hk);
  functions = λ j k number r s sj sk hj hk.
      let a = was_subterm n0 n2 goal w g l j sj in
      absurd (f.no_function j number r a.below (had_op n0 n2 j (App number r) g a.there hj));
}

grown_finite : (n0 n2 : List Node) (goal : ℕ) → WellTyped n0 → goal < length n0 → Grows n0 n2 → IsFiniteTerm n0 goal → IsFiniteTerm n2 goal
grown_finite n0 n2 goal w l g f = record {
  bits = λ k s.
      let a = was_subterm n0 n2 goal w g l k s in
      subst HasBits (sym (kept_type n0 n2 k g a.there)) (f.bits k a.below);
  no_function = λ k number ty s has.
      let a = was_subterm n0 n2 goal w g l k s in
      f.no_function k number ty a.below (had_op n0 n2 k (App number ty) g a.there has);
}

pub sub_on : (n0 n2 : List Node) (t k : ℕ) → WellTyped n0 → t < length n0 → Grows n0 n2 → IsSubterm n0 t k → IsSubterm n2 t k
sub_on n0 n2 t k w l g s = subst (λ nodes. IsSubterm nodes t k) (sym g.is) (sub-grows n0 g.more t w l k s)

-- a symbol of the simplified goal is one of the goal
record GoalSymbol (n0 n1 n2 : List Node) (goal k : ℕ) : Type 0 where
  there : k < length n0
  below : IsSubterm n2 goal k
  symbol : IsSymbol n2 k

goal_symbol : (n0 n1 n2 : List Node) (goal r u : ℕ) (pairs : List Pair) → Steps n0 n1 n2 goal r u pairs → (k : ℕ) → IsSubterm n1 r k → IsSymbol n1 k → GoalSymbol n0 n1 n2 goal k
goal_symbol n0 n1 n2 goal r u pairs s k b y =
    let g = whole n0 n1 n2 goal r u pairs s in
    let inside = subterm_there n1 r k s.first.well s.r_there b in
    let o = brought_symbol n1 r n0 goal k y.number y.ty s.well s.there s.features b y.has in
    let here : HasOp n1 o.place (Symbol y.number y.ty) = kept_op n0 n1 o.place (Symbol y.number y.ty) s.first o.there o.has in
    let is : o.place ≡ k = one_symbol n1 o.place k y.number y.ty s.first.well s.two (op_within n1 o.place (Symbol y.number y.ty) here) inside here y.has in
    record {
      there = subst (λ i. i < length n0) is o.there;
      below = sub_on n0 n2 goal k s.well s.there g (subst (IsSubterm n0 goal) is o.below);
      symbol = record { number = y.number; ty = y.ty; has = kept_op n1 n2 k (Symbol y.number y.ty) s.second inside y.has };
    }

-- the symbols that the map speaks of are those of the simplified goal
record IsSource (n1 : List Node) (r k : ℕ) : Type 0 where
  below : IsSubterm n1 r k
  symbol : IsSymbol n1 k

source : (n1 n2 : List Node) (r : ℕ) (pairs : List Pair) → All (IsPairOf n1 r n2) pairs → (k : ℕ) → Contains (mapped pairs) k → IsSource n1 r k
source n1 n2 r pairs h k c =
    All-contains (IsSource n1 r) (mapped pairs) k
    (All-map (IsSource n1 r) (λ (p : Pair). p.0) pairs (All-weaker (IsPairOf n1 r n2) (λ (p : Pair). IsSource n1 r p.0) (λ p q. record { below = q.below; symbol = q.first }) pairs h)) c

follows : (n0 n1 n2 : List Node) (goal r u : ℕ) (pairs : List Pair) → Steps n0 n1 n2 goal r u pairs → (m n : Model) → Agree m n n1 r n2 pairs → Follows m n n2 pairs
follows n0 n1 n2 goal r u pairs s m n a k c =
    let q = source n1 n2 r pairs s.is_map.only k c in
    let inside = subterm_there n1 r k s.first.well s.r_there q.below in
    a k q.below q.symbol ∙ sym (coded_kept m n1 n2 k s.second inside)

-- the value of the goal is that of the simplified goal
goal_value : (n0 n1 n2 : List Node) (goal r u : ℕ) (pairs : List Pair) → Steps n0 n1 n2 goal r u pairs → (m : Model) → value m n1 r ≡ value m n2 goal
goal_value n0 n1 n2 goal r u pairs s m = s.same m ∙ sym (kept_value m n0 n2 goal (whole n0 n1 n2 goal r u pairs s) s.there)

there_goes : (n0 n1 n2 : List Node) (goal r u : ℕ) (pairs : List Pair) → Steps n0 n1 n2 goal r u pairs → (m : Model) → IsModelOf m n2 goal → (n : Model) × Follows m n n2 pairs × IsModelOf n n2 u
there_goes n0 n1 n2 goal r u pairs s m h =
    let finite = simple_finite n0 n1 goal r (simple n0 n1 goal r s.well s.there s.finite s.first s.r_there s.features) in
    let fit : FitsTerm m n1 r = record {
      symbols = λ k number ty b has.
          let inside = subterm_there n1 r k s.first.well s.r_there b in
          let y = goal_symbol n0 n1 n2 goal r u pairs s k b (record { number = number; ty = ty; has = has }) in
          h.fits.symbols k number ty y.below (kept_op n1 n2 k (Symbol number ty) s.second inside has);
      functions = λ k number ty b has. absurd (finite.no_function k number ty b has);
    } in
    let c = s.corresponds.there m (record { fits = fit; holds = ap truth_of (goal_value n0 n1 n2 goal r u pairs s m) ∙ h.holds }) in
    (c.0, follows n0 n1 n2 goal r u pairs s m c.0 c.1.agrees, c.1.new_model)

-- a model with the values of a partner's symbols is a model of the goal
back_by : (n0 n1 n2 : List Node) (goal r u : ℕ) (pairs : List Pair) → Steps n0 n1 n2 goal r u pairs → (m n p : Model) → IsModelOf n n2 u → Partner p n n1 r n2 u pairs → FitsTerm m n2 goal
    → ((k : ℕ) → IsSubterm n1 r k → IsSymbol n1 k → value m n2 k ≡ value p n1 k) → Match m n n2 goal pairs
back_by n0 n1 n2 goal r u pairs s m n p h q fit e =
    let agree : Agree m n n1 r n2 pairs = λ k b y.
    let inside = subterm_there n1 r k s.first.well s.r_there b in
    q.agrees k b y ∙ ap (coded (type_at n1 k)) (sym (sym (kept_value m n1 n2 k s.second inside) ∙ e k b y)) in
    record {
      follows = follows n0 n1 n2 goal r u pairs s m n agree;
      model = record { fits = fit; holds = ap truth_of (sym (goal_value n0 n1 n2 goal r u pairs s m) ∙ sym (s.corresponds.same m n agree)) ∙ h.holds };
    }

back_goes : (n0 n1 n2 : List Node) (goal r u : ℕ) (pairs : List Pair) → Steps n0 n1 n2 goal r u pairs → (n : Model) → IsModelOf n n2 u → (m : Model) × Match m n n2 goal pairs
back_goes n0 n1 n2 goal r u pairs s n h =
    let g = whole n0 n1 n2 goal r u pairs s in
    let c = s.corresponds.back n h in
    let finite = grown_finite n0 n2 goal s.well s.there g s.finite in
    let evenly : Evenly n2 goal = record {
      well = g.well;
      two = s.last_two;
      there = omega (arith, s.there, longer n0 n2 g);
      even = grown_even n0 n2 goal s.well s.there g s.even s.finite;
      none = finite.no_function;
    } in
    let f = fitted c.0 n2 goal evenly in (
      f.model,
      back_by n0 n1 n2 goal r u pairs s f.model n c.0 h c.1 f.fits (λ k b y.
          let inside = subterm_there n1 r k s.first.well s.r_there b in
          let o = goal_symbol n0 n1 n2 goal r u pairs s k b y in
          f.same k o.below o.symbol ∙ kept_value c.0 n1 n2 k s.second inside),
    )

told_goes : (n0 n1 n2 : List Node) (goal r u : ℕ) (pairs : List Pair) → Steps n0 n1 n2 goal r u pairs → (m n : Model) → IsModelOf n n2 u → GoesBack m n n2 goal pairs → IsModelOf m n2 goal
told_goes n0 n1 n2 goal r u pairs s m n h g =
    let grown = whole n0 n1 n2 goal r u pairs s in
    let c = s.corresponds.back n h in
    let finite = grown_finite n0 n2 goal s.well s.there grown s.finite in
    let same : (k : ℕ) → IsSubterm n1 r k → IsSymbol n1 k → value m n2 k ≡ value c.0 n1 k = λ k b y.
    let inside = subterm_there n1 r k s.first.well s.r_there b in
    let o = goal_symbol n0 n1 n2 goal r u pairs s k b y in
    let typed = kept_type n1 n2 k s.second inside in
    g.decoded k o.below o.symbol (value c.0 n1 k) (finite.bits k o.below)
    (subst (λ ty. IsTrue (fits ty (value c.0 n1 k))) (sym typed) (value-fits c.0 n1 k s.first.well inside))
    (c.1.agrees k b y ∙ ap (λ ty. coded ty (value c.0 n1 k)) (sym typed)) in
    (back_by n0 n1 n2 goal r u pairs s m n c.0 h c.1 g.fits same).model

symbols_in : (n0 n1 n2 : List Node) (goal r u : ℕ) (pairs : List Pair) → Steps n0 n1 n2 goal r u pairs → All (IsSymbolPair n2) pairs
symbols_in n0 n1 n2 goal r u pairs s =
    All-weaker (IsPairOf n1 r n2) (IsSymbolPair n2) (λ (p : Pair) q. record {
      first = omega (arith, subterm_there n1 r p.0 s.first.well s.r_there q.below, longer n1 n2 s.second);
      second = op_within n2 p.1 (Symbol q.second.number q.second.ty) q.second.has;
      symbol = q.second;
    }) pairs s.is_map.only

bits_of_goal : (n0 n1 n2 : List Node) (goal r u : ℕ) (pairs : List Pair) → Steps n0 n1 n2 goal r u pairs → (us ts : List ℕ) → AreApart us → All (IsSymbolBelow n2 u) us → All (IsSymbolBelow n2 goal) ts
    → ((k : ℕ) → IsSymbolBelow n2 goal k → Contains ts k) → bits_at n2 us ≤ bits_at n2 ts
bits_of_goal n0 n1 n2 goal r u pairs s us ts a hu ht c =
    let g = whole n0 n1 n2 goal r u pairs s in
    let listed : (k : ℕ) → IsSymbolBelow n1 r k → Contains ts k = λ k y.
    let o = goal_symbol n0 n1 n2 goal r u pairs s k y.below y.symbol in
    c k (record { below = o.below; symbol = o.symbol }) in
    let within : Within n1 ts = All-weaker (IsSymbolBelow n2 goal) (λ k. k < length n1)
    (λ k y. omega (arith, (was_subterm n0 n2 goal s.well g s.there k y.below).there, longer n0 n1 s.first)) ts ht in
    omega (arith, s.no_more_bits us ts a hu listed, bits_kept n1 n2 ts s.second within)

-- a symbol stays one
symbol_on : (n1 n2 : List Node) (k : ℕ) → Grows n1 n2 → k < length n1 → IsSymbol n1 k → IsSymbol n2 k
symbol_on n1 n2 k g l y = record { number = y.number; ty = y.ty; has = kept_op n1 n2 k (Symbol y.number y.ty) g l y.has }

-- the simplified goal in the last table
simple_same : (n0 n1 n2 : List Node) (goal r u : ℕ) (pairs : List Pair) → Steps n0 n1 n2 goal r u pairs → SameUnderEveryModel n2 r n2 goal
simple_same n0 n1 n2 goal r u pairs s m = kept_value m n1 n2 r s.second s.r_there ∙ goal_value n0 n1 n2 goal r u pairs s m

simple_map : (n0 n1 n2 : List Node) (goal r u : ℕ) (pairs : List Pair) → Steps n0 n1 n2 goal r u pairs → IsMapOf n2 r n2 u pairs
simple_map n0 n1 n2 goal r u pairs s = record {
  complete = λ k b y.
      let a = was_subterm n1 n2 r s.first.well s.second s.r_there k b in
      let there : IsSymbol n1 k = record { number = y.number; ty = y.ty; has = had_op n1 n2 k (Symbol y.number y.ty) s.second a.there y.has } in
      s.is_map.complete k a.below there ∙ ap low_types (sym (kept_type n1 n2 k s.second a.there));
  only = All-weaker (IsPairOf n1 r n2) (IsPairOf n2 r n2) (λ (p : Pair) q. record {
    below = sub_on n1 n2 r p.0 s.first.well s.r_there s.second q.below;
    first = symbol_on n1 n2 p.0 s.second (subterm_there n1 r p.0 s.first.well s.r_there q.below) q.first;
    second = q.second;
  }) pairs s.is_map.only;
  listed = s.is_map.listed;
}

simple_equal : (n0 n1 n2 : List Node) (goal r u : ℕ) (pairs : List Pair) → Steps n0 n1 n2 goal r u pairs → (m n : Model) → Agree m n n2 r n2 pairs → value n n2 u ≡ value m n2 r
simple_equal n0 n1 n2 goal r u pairs s m n a =
    let agree : Agree m n n1 r n2 pairs = λ k b y.
    let inside = subterm_there n1 r k s.first.well s.r_there b in
    a k (sub_on n1 n2 r k s.first.well s.r_there s.second b) (symbol_on n1 n2 k s.second inside y) ∙ coded_kept m n1 n2 k s.second inside in
    s.corresponds.same m n agree ∙ sym (kept_value m n1 n2 r s.second s.r_there)

pub reduces : (n0 n1 n2 : List Node) (goal r u : ℕ) (pairs : List Pair) → Steps n0 n1 n2 goal r u pairs → IsReduced n2 goal u pairs
reduces n0 n1 n2 goal r u pairs s =
    let g = whole n0 n1 n2 goal r u pairs s in
    record {
      simple = r;
      same = simple_same n0 n1 n2 goal r u pairs s;
      map = simple_map n0 n1 n2 goal r u pairs s;
      equal = simple_equal n0 n1 n2 goal r u pairs s;
      goal_there = omega (arith, s.there, longer n0 n2 g);
      goal_even = grown_even n0 n2 goal s.well s.there g s.even s.finite;
      goal_finite = grown_finite n0 n2 goal s.well s.there g s.finite;
      lowered = s.lowered;
      even = s.u_even;
      symbols = symbols_in n0 n1 n2 goal r u pairs s;
      there = there_goes n0 n1 n2 goal r u pairs s;
      back = back_goes n0 n1 n2 goal r u pairs s;
      told = told_goes n0 n1 n2 goal r u pairs s;
      bits = bits_of_goal n0 n1 n2 goal r u pairs s;
    }
