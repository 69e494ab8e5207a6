-- The walk at a symbol.
use Rattle.std.specs.Prelude.{◌≡◌, ◌≢◌, ℕ, ◌+◌, ◌<◌, ◌≤◌, Bool as Flag, true, false, cond, nat_eq, IsTrue, List, [], ◌∷◌, ◌++◌, length, get_or, slice_get, Some, All, Contains}
use Rattle.std.proofs.Common.{refl, sym, ap, ◌∙◌, subst, arith, length-append, append-nil, inl, inr}
use Rattle.std.proofs.lemmas.List.{get_or_default}
use Rattle.std.proofs.lemmas.Bool.Decides.{eqb_tells, nat_tests}
use Rattle.std.proofs.lemmas.List.Elements.{All-append, All-cons, All-nil, All-head, All-tail, All-weaker, All-contains, Contains-append_left, Contains-append_right, Contains-append_cases}
use Rattle.uc_values.specs.Values.{fits, zero_of}
use Rattle.uc_values.specs.declared.ty.Ty.{Ty}
use Rattle.uc_values.specs.declared.value.Value.{Value}
use Rattle.uc_ops.specs.declared.model.Model.{Model}
use Rattle.uc_ops.specs.declared.op.Op.TheVariants.{Symbol}
use Rattle.uc_ops.specs.declared.node.Node.{Node}
use Rattle.uc_ops.specs.Typing.{type_at}
use Rattle.uc_ops.specs.Meaning.{fitting}
use Rattle.uc_ops.proofs.Lists.{same_map}
use Rattle.uc_terms.specs.Tables.{HasOp, WellTyped}
use Rattle.uc_terms.specs.Values.{value, values_at}
use Rattle.uc_terms.specs.Subterms.{Marked, FitsTerm, IsSubterm}
use Rattle.uc_lower.specs.Fields.{leaves}
use Rattle.uc_lower.specs.Made.{Grows, Within, IsLowered, HasBits}
use Rattle.uc_lower.specs.Bits.{bits_at, type_bits}
use Rattle.uc_lower.proofs.Bits.{low_types-bits, bits_append, bits_kept}
use Rattle.uc_lower.specs.Steps.{lows, IsLow, Means}
use Rattle.uc_lower.specs.Symbols.{Hold, AreTruths, InRanges}
use Rattle.uc_lower.specs.Lowering.{Pair, stand_ins, seconds, IsSymbol}
use Rattle.uc_lower.specs.Walk.{paired}
use Rattle.uc_lower.proofs.Growing.{grows_on, longer, had_op, all_kept_lowered}
use Rattle.uc_lower.proofs.Inner.{node_facts}
use Rattle.uc_lower.proofs.Walking.{IsPlace, Weighed, all_seconds, AgreeTo, FitsAt, Found, IsPair, AreBounded, Walked, lows_before, lows_here, next_place, symbol_on, symbol_back, low_on, means_on, means_back, ranges_on, ranges_back, pair_on, of_seconds, seconds_within}

seconds_more : (pairs : List Pair) (t : ℕ) (us : List ℕ) → seconds (pairs ++ paired t us) ≡ seconds pairs ++ us
seconds_more [] t [] = refl
seconds_more [] t (u ∷ us) = ap (λ x. u ∷ x) (seconds_more [] t us)
seconds_more (p ∷ pairs) t us = ap (λ x. p.1 ∷ x) (seconds_more pairs t us)

stand_more : (p : Pair) (xs ys : List ℕ) (b : Flag) → cond b (p.1 ∷ xs ++ ys) (xs ++ ys) ≡ cond b (p.1 ∷ xs) xs ++ ys
stand_more p xs ys true = refl
stand_more p xs ys false = refl

stand_append : (ps qs : List Pair) (k : ℕ) → stand_ins (ps ++ qs) k ≡ stand_ins ps k ++ stand_ins qs k
stand_append [] qs k = refl
stand_append (p ∷ ps) qs k = ap (λ x. cond (nat_eq p.0 k) (p.1 ∷ x) x) (stand_append ps qs k) ∙ stand_more p (stand_ins ps k) (stand_ins qs k) (nat_eq p.0 k)

nat_eq_same : (k : ℕ) → nat_eq k k ≡ true
nat_eq_same k = grind (arith, nat_tests)

nat_eq_other : (j k : ℕ) → j ≢ k → nat_eq j k ≡ false
nat_eq_other j k h = elim (eqb_tells j k) [ inl x ↦ absurd (h x.1) | inr x ↦ x.0 ]

stand_own : (t : ℕ) (us : List ℕ) → stand_ins (paired t us) t ≡ us
stand_own t [] = refl
stand_own t (u ∷ us) = ap (λ b. cond b (u ∷ stand_ins (paired t us) t) (stand_ins (paired t us) t)) (nat_eq_same t) ∙ ap (λ x. u ∷ x) (stand_own t us)

stand_other : (t k : ℕ) (us : List ℕ) → t ≢ k → stand_ins (paired t us) k ≡ []
stand_other t k [] h = refl
stand_other t k (u ∷ us) h = ap (λ b. cond b (u ∷ stand_ins (paired t us) k) (stand_ins (paired t us) k)) (nat_eq_other t k h) ∙ stand_other t k us h

stand_none : (pairs : List Pair) (k : ℕ) → All (λ (p : Pair). p.0 < k) pairs → stand_ins pairs k ≡ []
stand_none [] k h = refl
stand_none (p ∷ ps) k h =
    let l = All-head (λ (p : Pair). p.0 < k) p ps h in
    ap (λ b. cond b (p.1 ∷ stand_ins ps k) (stand_ins ps k)) (nat_eq_other p.0 k (λ e. absurd (omega (arith, l, e)))) ∙ stand_none ps k (All-tail (λ (p : Pair). p.0 < k) p ps h)

stand_listed : (pairs : List Pair) (k u : ℕ) → Contains (stand_ins pairs k) u → Contains (seconds pairs) u
stand_listed [] k u c = c
stand_listed (p ∷ ps) k u c =
    elim (eqb_tells p.0 k) [
      | inl x ↦
          let d = subst (λ b. Contains (cond b (p.1 ∷ stand_ins ps k) (stand_ins ps k)) u) x.0 c in
          elim (Contains-append_cases (p.1 ∷ []) (stand_ins ps k) u d) [
            | inl y ↦ Contains-append_left (p.1 ∷ []) (seconds ps) u y
            | inr y ↦ Contains-append_right (p.1 ∷ []) (seconds ps) u (stand_listed ps k u y)
          ]
      | inr x ↦ Contains-append_right (p.1 ∷ []) (seconds ps) u (stand_listed ps k u (subst (λ b. Contains (cond b (p.1 ∷ stand_ins ps k) (stand_ins ps k)) u) x.0 c))
    ]

lowered_more : (few many : List ℕ) (nodes : List Node) → ((x : ℕ) → Contains few x → Contains many x) → (t : ℕ) → IsLowered few nodes t → IsLowered many nodes t
lowered_more few many nodes h t l k s = let r = l k s in record { typed = r.typed; no_function = r.no_function; listed = λ number ty has. h k (r.listed number ty has) }

-- a symbol has the value that the model has for its number, where it fits
pub symbol_value : (n : Model) (nodes : List Node) (u number : ℕ) (ty : Ty) (w : Value) → WellTyped nodes → u < length nodes → HasOp nodes u (Symbol number ty) → slice_get n.symbols number ≡ Some w → IsTrue (fits ty w) → value n nodes u ≡ w
symbol_value n nodes u number ty w wt l h e f =
    (node_facts nodes u (Symbol number ty) wt l h).value n ∙ ap (fitting ty) e ∙ ap (λ b. cond b w (zero_of ty)) f

-- what is known of a second term
pub record SecondAt (next : ℕ) (now : List Node) (u : ℕ) : Type 0 where
  pub there : u < length now
  pub symbol : IsSymbol now u
  pub below : (number : ℕ) (ty : Ty) → HasOp now u (Symbol number ty) → number < next

pub seconds_at : (marks : List Flag) (next : ℕ) (now : List Node) (place : ℕ) (pairs : List Pair) → All (IsPair marks next now place) pairs → (u : ℕ) → Contains (seconds pairs) u → SecondAt next now u
seconds_at marks next now place pairs h = of_seconds (SecondAt next now) pairs (All-weaker (IsPair marks next now place) (λ (p : Pair). SecondAt next now p.1) (λ p q. record { there = q.there; symbol = q.second; below = q.below }) pairs h)

-- what a symbol step gives: the terms that stand for it, and how models go on
pub record SymbolStep (fresh : ℕ) (now new : List Node) (place : ℕ) (us : List ℕ) (first next : ℕ) (before after : List ℕ) : Type 0 where
  pub grown : Grows now new
  pub low : IsLow new place us
  pub lowered : (symbols : List ℕ) → All (Contains symbols) us → All (IsLowered symbols new) us
  pub within : Within new after
  pub truths : AreTruths new after
  pub stays : (symbols : List ℕ) → All (Contains symbols) us → All (IsLowered symbols now) before → All (IsLowered symbols new) after
  pub bounded : (n : Model) → Hold n new after → Hold n now before × InRanges (leaves (type_at new place)) new n us
  pub met : (n : Model) → Hold n now before → InRanges (leaves (type_at new place)) new n us → Hold n new after
  pub later : first ≤ next
  pub symbols : All (IsSymbol new) us
  pub below : (u number : ℕ) (ty : Ty) → Contains us u → HasOp new u (Symbol number ty) → number < next

-- how a model is gone on with at a symbol
pub record GoesOn (m n more : Model) (fresh first : ℕ) (new : List Node) (place : ℕ) (us : List ℕ) : Type 0 where
  pub keeps : (number : ℕ) (w : Value) → number < first → slice_get n.symbols number ≡ Some w → slice_get more.symbols number ≡ Some w
  pub means : Means m more new place us
  pub fit : (u number : ℕ) (ty : Ty) → Contains us u → HasOp new u (Symbol number ty) → FitsAt more number ty

-- the numbers of the terms of a symbol step have one type, there and among the earlier ones
pub record EvenStep (nodes : List Node) (t fresh : ℕ) (now new : List Node) (pairs : List Pair) (us : List ℕ) : Type 0 where
  pub own : (u v number : ℕ) (r s : Ty) → Contains us u → Contains us v → HasOp new u (Symbol number r) → HasOp new v (Symbol number s) → r ≡ s
  pub cross : (u v number : ℕ) (r s : Ty) → Contains us u → Contains (seconds pairs) v → HasOp new u (Symbol number r) → HasOp now v (Symbol number s) → r ≡ s
  pub kept : (u number : ℕ) (ty : Ty) → Contains us u → HasOp new u (Symbol number ty) → number < fresh → IsSubterm nodes t u

all_listed : (us all : List ℕ) → ((x : ℕ) → Contains us x → Contains all x) → All (Contains all) us
all_listed us all h k d l = h (get_or us k d) (k, l, get_or_default us k (get_or us k d) d l)

pairs_of : (marks : List Flag) (next : ℕ) (new : List Node) (place t : ℕ) (us : List ℕ) → t < place → Marked marks t → t < length new → IsSymbol new t → Within new us → All (IsSymbol new) us → ((u number : ℕ) (ty : Ty) → Contains us u → HasOp new u (Symbol number ty) → number < next)
    → All (IsPair marks next new place) (paired t us)
pairs_of marks next new place t [] l mk i s b y below = All-nil (IsPair marks next new place)
pairs_of marks next new place t (u ∷ us) l mk i s b y below =
    All-cons (IsPair marks next new place) (t, u) (paired t us)
    (record { before = l; marked = mk; inside = i; first = s; there = All-head (λ x. x < length new) u us b; second = All-head (IsSymbol new) u us y; below = λ number ty has. below u number ty (0, omega arith, refl) has })
    (pairs_of marks next new place t us l mk i s (All-tail (λ x. x < length new) u us b) (All-tail (IsSymbol new) u us y) (λ v number ty c has. below v number ty (Contains-append_right (u ∷ []) us v c) has))

weigh_symbol : (marks : List Flag) (first : ℕ) (now new : List Node) (place : ℕ) (pairs : List Pair) (us : List ℕ) → Grows now new → place < length now → Marked marks place → IsSymbol new place → IsLow new place us → HasBits (type_at new place)
    → All (IsPair marks first now place) pairs → Weighed marks now pairs place → Weighed marks new (pairs ++ paired place us) (place + 1)
weigh_symbol marks first now new place pairs us g inside mk s low b h w =
    let low_in : Within now w.places = All-weaker (IsPlace marks now place) (λ j. j < length now) (λ j q. omega (arith, q.before, inside)) w.places w.each in
    let old : bits_at new (seconds pairs) ≡ bits_at new w.places = bits_kept now new (seconds pairs) g (all_seconds marks first now place pairs h) ∙ w.same ∙ sym (bits_kept now new w.places g low_in) in
    let own : bits_at new us ≡ bits_at new (place ∷ []) = ap type_bits low.types ∙ low_types-bits (type_at new place) b in
    record {
      places = place ∷ w.places;
      apart = ((λ c. absurd (omega (arith, (All-contains (IsPlace marks now place) w.places place w.each c).before))), w.apart);
      each = All-cons (IsPlace marks new (place + 1)) place w.places (record { before = omega arith; marked = mk; symbol = s })
          (All-weaker (IsPlace marks now place) (IsPlace marks new (place + 1)) (λ j q. record { before = omega (arith, q.before); marked = q.marked; symbol = symbol_on now new j g (omega (arith, q.before, inside)) q.symbol }) w.places w.each);
      same = ap (bits_at new) (seconds_more pairs place us) ∙ omega (arith, bits_append new (seconds pairs) us, old, own);
    }

pub walked_symbol : (nodes : List Node) (t : ℕ) (marks : List Flag) (fresh : ℕ) (now new : List Node) (lowered : List (List ℕ)) (pairs : List Pair) (before after us : List ℕ) (first next place : ℕ)
    → Walked nodes t marks fresh now lowered pairs before first place → place < length nodes → Marked marks place → IsSymbol now place → SymbolStep fresh now new place us first next before after → EvenStep nodes t fresh now new pairs us → HasBits (type_at new place)
    → ((m n : Model) → FitsTerm m nodes t → Found m n fresh now marks lowered pairs place → (more : Model) × GoesOn m n more fresh first new place us)
    → Walked nodes t marks fresh new (lowered ++ us ∷ []) (pairs ++ paired place us) after next (place + 1)
walked_symbol nodes t marks fresh now new lowered pairs before after us first next place w inside mark symbol q ev hb go =
    let g = q.grown in
    let here = lows_here lowered us place w.count in
    let earlier : (j : ℕ) → j < place → lows (lowered ++ us ∷ []) j ≡ lows lowered j = λ j l. lows_before lowered us place j w.count l in
    let in_now : (j : ℕ) → j < place → j < length now = λ j l. omega (arith, l, inside, longer nodes now w.grown) in
    let place_in : place < length now = omega (arith, inside, longer nodes now w.grown) in
    let all = lowered ++ us ∷ [] in
    let both = pairs ++ paired place us in
    let listed = seconds pairs ++ us in
    let is : seconds both ≡ listed = seconds_more pairs place us in
    let old_in : (x : ℕ) → Contains (seconds pairs) x → Contains (seconds both) x = λ x c. subst (λ xs. Contains xs x) (sym is) (Contains-append_left (seconds pairs) us x c) in
    let new_in : (x : ℕ) → Contains us x → Contains (seconds both) x = λ x c. subst (λ xs. Contains xs x) (sym is) (Contains-append_right (seconds pairs) us x c) in
    let own : All (Contains (seconds both)) us = all_listed us (seconds both) new_in in
    let new_symbol : IsSymbol new place = symbol_on now new place g place_in symbol in
    let agree_back : (m n : Model) → AgreeTo m n new marks all (place + 1) → AgreeTo m n now marks lowered place =
    λ m n a j l mk s. means_back m n now new j (lows lowered j) g (in_now j l) (w.low j l mk).within (subst (Means m n new j) (earlier j l) (a j (omega (arith, l)) mk (symbol_on now new j g (in_now j l) s))) in
    let bounded_back : (n : Model) → AreBounded n new marks all (place + 1) → AreBounded n now marks lowered place =
    λ n a j l mk s. ranges_back n now new j (lows lowered j) g (in_now j l) (w.low j l mk).within (subst (InRanges (leaves (type_at new j)) new n) (earlier j l) (a j (omega (arith, l)) mk (symbol_on now new j g (in_now j l) s))) in
    record {
      grown = grows_on nodes now new w.grown g;
      count = omega (arith, length-append lowered (us ∷ []), w.count);
      inside = omega (arith, inside);
      far = omega (arith, w.far, q.later);
      low = next_place (λ j. Marked marks j → IsLow new j (lows all j)) place
          (λ j l mk. subst (IsLow new j) (sym (earlier j l)) (low_on now new j (lows lowered j) g (in_now j l) (w.low j l mk)))
          (λ mk. subst (IsLow new place) (sym here) q.low);
      means = λ m n a. next_place (λ j. Marked marks j → Means m n new j (lows all j)) place
          (λ j l mk. subst (Means m n new j) (sym (earlier j l)) (means_on m n now new j (lows lowered j) g (in_now j l) (w.low j l mk).within (w.means m n (agree_back m n a) j l mk)))
          (λ mk. a place (omega arith) mk new_symbol);
      stays = next_place (λ j. Marked marks j → All (IsLowered (seconds both) new) (lows all j)) place
          (λ j l mk. subst (All (IsLowered (seconds both) new)) (sym (earlier j l))
          (All-weaker (IsLowered (seconds pairs) new) (IsLowered (seconds both) new) (lowered_more (seconds pairs) (seconds both) new old_in) (lows lowered j) (all_kept_lowered (seconds pairs) now new (lows lowered j) w.grown.well g (w.low j l mk).within (w.stays j l mk))))
          (λ mk. subst (All (IsLowered (seconds both) new)) (sym here) (q.lowered (seconds both) own));
      listed = next_place (λ j. Marked marks j → IsSymbol new j → stand_ins both j ≡ lows all j) place
          (λ j l mk s. stand_append pairs (paired place us) j ∙ ap (λ x. stand_ins pairs j ++ x) (stand_other place j us (λ e. absurd (omega (arith, e, l)))) ∙ append-nil (stand_ins pairs j) ∙ w.listed j l mk (symbol_back now new j g (in_now j l) s) ∙ sym (earlier j l))
          (λ mk s. stand_append pairs (paired place us) place ∙ ap (λ x. x ++ stand_ins (paired place us) place) (stand_none pairs place (All-weaker (IsPair marks first now place) (λ (p : Pair). p.0 < place) (λ p r. r.before) pairs w.mapped)) ∙ stand_own place us ∙ sym here);
      mapped = All-append (IsPair marks next new (place + 1)) pairs (paired place us) (All-weaker (IsPair marks first now place) (IsPair marks next new (place + 1)) (pair_on marks first next now new place g q.later) pairs w.mapped)
          (pairs_of marks next new (place + 1) place us (omega arith) mark (omega (arith, place_in, longer now new g)) new_symbol q.low.within q.symbols q.below);
      within = q.within;
      truths = q.truths;
      conditions_low = q.stays (seconds both) own (All-weaker (IsLowered (seconds pairs) now) (IsLowered (seconds both) now) (lowered_more (seconds pairs) (seconds both) now old_in) before w.conditions_low);
      bounded = λ n h.
          let r = q.bounded n h in
          next_place (λ j. Marked marks j → IsSymbol new j → InRanges (leaves (type_at new j)) new n (lows all j)) place
          (λ j l mk s. subst (InRanges (leaves (type_at new j)) new n) (sym (earlier j l)) (ranges_on n now new j (lows lowered j) g (in_now j l) (w.low j l mk).within (w.bounded n r.0 j l mk (symbol_back now new j g (in_now j l) s))))
          (λ mk s. subst (InRanges (leaves (type_at new place)) new n) (sym here) r.1);
      met = λ n a. q.met n (w.met n (bounded_back n a)) (subst (InRanges (leaves (type_at new place)) new n) here (a place (omega arith) mark new_symbol));
      there = λ m f.
          let r = w.there m f in
          let n = r.0 in
          let o = go m n f r.1 in
          let more = o.0 in
          let same : (u : ℕ) → Contains (seconds pairs) u → value more now u ≡ value n now u = λ u c.
          let p = seconds_at marks first now place pairs w.mapped u c in
          let a = r.1.fit u p.symbol.number p.symbol.ty c p.symbol.has in
          let b = p.below p.symbol.number p.symbol.ty p.symbol.has in
          symbol_value more now u p.symbol.number p.symbol.ty a.value w.grown.well p.there p.symbol.has (o.1.keeps p.symbol.number a.value b a.is) a.fit
          ∙ sym (symbol_value n now u p.symbol.number p.symbol.ty a.value w.grown.well p.there p.symbol.has a.is a.fit) in (
            more,
            record {
              keeps = λ k v l e. o.1.keeps k v (omega (arith, l, w.far)) (r.1.keeps k v l e);
              agrees = next_place (λ j. Marked marks j → IsSymbol new j → Means m more new j (lows all j)) place
                  (λ j l mk s.
                  let old_s = symbol_back now new j g (in_now j l) s in
                  let ls = lows lowered j in
                  let values : values_at more now ls ≡ values_at n now ls =
                  same_map (value more now) (value n now) (Contains (seconds pairs)) ls same (all_listed ls (seconds pairs) (λ x c. stand_listed pairs j x (subst (λ xs. Contains xs x) (sym (w.listed j l mk old_s)) c))) in
                  subst (Means m more new j) (sym (earlier j l)) (means_on m more now new j ls g (in_now j l) (w.low j l mk).within (values ∙ r.1.agrees j l mk old_s)))
                  (λ mk s. subst (Means m more new place) (sym here) o.1.means);
              fit = λ u number ty c has. elim (Contains-append_cases (seconds pairs) us u (subst (λ xs. Contains xs u) is c)) [
                | inl x ↦
                    let p = seconds_at marks first now place pairs w.mapped u x in
                    let had = had_op now new u (Symbol number ty) g p.there has in
                    let a = r.1.fit u number ty x had in
                    record { value = a.value; is = o.1.keeps number a.value (p.below number ty had) a.is; fit = a.fit }
                | inr x ↦ o.1.fit u number ty x has
              ];
            },
          );
      even = λ u v number r s cu cv hu hv.
          let inside_old : (x : ℕ) → Contains (seconds pairs) x → x < length now = λ x c. seconds_within marks first now place pairs w.mapped x c in
          elim (Contains-append_cases (seconds pairs) us u (subst (λ xs. Contains xs u) is cu)) [
            | inl x ↦ elim (Contains-append_cases (seconds pairs) us v (subst (λ xs. Contains xs v) is cv)) [
              | inl y ↦ w.even u v number r s x y (had_op now new u (Symbol number r) g (inside_old u x) hu) (had_op now new v (Symbol number s) g (inside_old v y) hv)
              | inr y ↦ sym (ev.cross v u number s r y x hv (had_op now new u (Symbol number r) g (inside_old u x) hu))
            ]
            | inr x ↦ elim (Contains-append_cases (seconds pairs) us v (subst (λ xs. Contains xs v) is cv)) [
              | inl y ↦ ev.cross u v number r s x y hu (had_op now new v (Symbol number s) g (inside_old v y) hv)
              | inr y ↦ ev.own u v number r s x y hu hv
            ]
          ];
      weight = weigh_symbol marks first now new place pairs us g place_in mark new_symbol q.low hb w.mapped w.weight;
      kept = λ u number ty c has. elim (Contains-append_cases (seconds pairs) us u (subst (λ xs. Contains xs u) is c)) [
        | inl x ↦ w.kept u number ty x (had_op now new u (Symbol number ty) g (seconds_within marks first now place pairs w.mapped u x) has)
        | inr x ↦ ev.kept u number ty x has
      ];
    }
