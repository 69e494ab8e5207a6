-- The walk over the subterms of a term, place by place.
use Rattle.std.specs.Prelude.{◌≡◌, ℕ, ◌+◌, ◌<◌, ◌≤◌, Bool as Flag, IsTrue, List, [], ◌∷◌, ◌++◌, length, get_or, slice_get, Some, All, Contains, suc}
use Rattle.std.specs.List.{AllZip}
use Rattle.std.proofs.Common.{sym, ap, ◌∙◌, subst, arith, length-append, inl, inr}
use Rattle.std.proofs.lemmas.List.{get_or_default}
use Rattle.std.proofs.lemmas.Bool.Decides.{leb_tells}
use Rattle.std.proofs.lemmas.List.Elements.{All-weaker, All-contains, All-map}
use Rattle.std.proofs.Math.ListN.{get_or-append}
use Rattle.std.proofs.Math.Seq.{get_or-append_seam}
use Rattle.uc_values.specs.Values.{fits}
use Rattle.uc_values.specs.declared.ty.Ty.{Ty}
use Rattle.uc_values.specs.declared.value.Value.{Value}
use Rattle.uc_ops.specs.declared.model.Model.{Model}
use Rattle.uc_ops.specs.declared.op.Op.TheVariants.{Symbol}
use Rattle.uc_ops.specs.declared.node.Node.{Node}
use Rattle.uc_ops.specs.Typing.{type_at}
use Rattle.uc_terms.specs.Tables.{HasOp}
use Rattle.uc_terms.specs.Values.{value}
use Rattle.uc_terms.specs.Subterms.{Marked, FitsTerm, IsSubterm}
use Rattle.uc_lower.specs.Fields.{leaves, low_types, coded}
use Rattle.uc_lower.specs.Ranges.{InRange}
use Rattle.uc_lower.specs.Made.{Grows, Within, IsLowered}
use Rattle.uc_lower.specs.Steps.{lows, IsLow, Means}
use Rattle.uc_lower.specs.Symbols.{Hold, AreTruths, InRanges}
use Rattle.uc_lower.specs.Lowering.{Pair, stand_ins, seconds, IsSymbol}
use Rattle.uc_lower.specs.Bits.{bits_at, AreApart}
use Rattle.uc_lower.proofs.Bits.{bits_kept}
use Rattle.uc_lower.proofs.Growing.{grows_on, longer, kept_within, kept_type, kept_types, kept_value, kept_values, kept_op, had_op, all_kept_lowered}
use Rattle.uc_lower.proofs.Standing.{hold_kept, hold_back, truths_kept}

-- the symbols before a place have what stands for them
abbrev pub AgreeTo : Model → Model → List Node → List Flag → List (List ℕ) → ℕ → Type 0
AgreeTo m n now marks lowered place = (j : ℕ) → j < place → Marked marks j → IsSymbol now j → Means m n now j (lows lowered j)

-- the model has a value that fits
pub record FitsAt (n : Model) (number : ℕ) (ty : Ty) : Type 0 where
  pub value : Value
  pub is : slice_get n.symbols number ≡ Some value
  pub fit : IsTrue (fits ty value)

-- a model that agrees with another as far as the walk has come
pub record Found (m n : Model) (fresh : ℕ) (now : List Node) (marks : List Flag) (lowered : List (List ℕ)) (pairs : List Pair) (place : ℕ) : Type 0 where
  pub keeps : (k : ℕ) (v : Value) → k < fresh → slice_get m.symbols k ≡ Some v → slice_get n.symbols k ≡ Some v
  pub agrees : AgreeTo m n now marks lowered place
  pub fit : (u number : ℕ) (ty : Ty) → Contains (seconds pairs) u → HasOp now u (Symbol number ty) → FitsAt n number ty

-- a pair of the map: a symbol before the place, and a symbol with a number that was given out
pub record IsPair (marks : List Flag) (next : ℕ) (now : List Node) (place : ℕ) (p : Pair) : Type 0 where
  pub before : p.0 < place
  pub marked : Marked marks p.0
  pub inside : p.0 < length now
  pub first : IsSymbol now p.0
  pub there : p.1 < length now
  pub second : IsSymbol now p.1
  pub below : (number : ℕ) (ty : Ty) → HasOp now p.1 (Symbol number ty) → number < next

abbrev pub AreBounded : Model → List Node → List Flag → List (List ℕ) → ℕ → Type 0
AreBounded n now marks lowered place = (j : ℕ) → j < place → Marked marks j → IsSymbol now j → InRanges (leaves (type_at now j)) now n (lows lowered j)

-- a symbol before a place
pub record IsPlace (marks : List Flag) (now : List Node) (place j : ℕ) : Type 0 where
  pub before : j < place
  pub marked : Marked marks j
  pub symbol : IsSymbol now j

-- what stands for the symbols has as many bits as they have
pub record Weighed (marks : List Flag) (now : List Node) (pairs : List Pair) (place : ℕ) : Type 0 where
  pub places : List ℕ
  pub apart : AreApart places
  pub each : All (IsPlace marks now place) places
  pub same : bits_at now (seconds pairs) ≡ bits_at now places

-- the subterms before a place are lowered
pub record Walked (nodes : List Node) (t : ℕ) (marks : List Flag) (fresh : ℕ) (now : List Node) (lowered : List (List ℕ)) (pairs : List Pair) (conditions : List ℕ) (next place : ℕ) : Type 0 where
  pub grown : Grows nodes now
  pub count : length lowered ≡ place
  pub inside : place ≤ length nodes
  pub far : fresh ≤ next
  pub low : (j : ℕ) → j < place → Marked marks j → IsLow now j (lows lowered j)
  pub means : (m n : Model) → AgreeTo m n now marks lowered place → (j : ℕ) → j < place → Marked marks j → Means m n now j (lows lowered j)
  pub stays : (j : ℕ) → j < place → Marked marks j → All (IsLowered (seconds pairs) now) (lows lowered j)
  pub listed : (j : ℕ) → j < place → Marked marks j → IsSymbol now j → stand_ins pairs j ≡ lows lowered j
  pub mapped : All (IsPair marks next now place) pairs
  pub within : Within now conditions
  pub truths : AreTruths now conditions
  pub conditions_low : All (IsLowered (seconds pairs) now) conditions
  pub bounded : (n : Model) → Hold n now conditions → AreBounded n now marks lowered place
  pub met : (n : Model) → AreBounded n now marks lowered place → Hold n now conditions
  pub there : (m : Model) → FitsTerm m nodes t → (n : Model) × Found m n fresh now marks lowered pairs place
  pub even : (u v number : ℕ) (r s : Ty) → Contains (seconds pairs) u → Contains (seconds pairs) v → HasOp now u (Symbol number r) → HasOp now v (Symbol number s) → r ≡ s
  pub weight : Weighed marks now pairs place
  pub kept : (u number : ℕ) (ty : Ty) → Contains (seconds pairs) u → HasOp now u (Symbol number ty) → number < fresh → IsSubterm nodes t u

pub lows_before : (lowered : List (List ℕ)) (us : List ℕ) (place j : ℕ) → length lowered ≡ place → j < place → lows (lowered ++ us ∷ []) j ≡ lows lowered j
lows_before lowered us place j e l = get_or-append lowered (us ∷ []) [] j (omega (arith, e, l))

pub lows_here : (lowered : List (List ℕ)) (us : List ℕ) (place : ℕ) → length lowered ≡ place → lows (lowered ++ us ∷ []) place ≡ us
lows_here lowered us place e = ap (lows (lowered ++ us ∷ [])) (sym e) ∙ get_or-append_seam lowered us [] []

pub next_place : (P : ℕ → Type 0) (place : ℕ) → ((j : ℕ) → j < place → P j) → P place → (j : ℕ) → j < place + 1 → P j
next_place P place h p j l =
    elim (leb_tells (suc j) place) [
      | inl x ↦ h j x.1
      | inr x ↦ let e : j ≡ place = omega (arith, l, x.1) in subst P (sym e) p
    ]

pub symbol_on : (now new : List Node) (j : ℕ) → Grows now new → j < length now → IsSymbol now j → IsSymbol new j
symbol_on now new j g l s = record { number = s.number; ty = s.ty; has = kept_op now new j (Symbol s.number s.ty) g l s.has }

pub symbol_back : (now new : List Node) (j : ℕ) → Grows now new → j < length now → IsSymbol new j → IsSymbol now j
symbol_back now new j g l s = record { number = s.number; ty = s.ty; has = had_op now new j (Symbol s.number s.ty) g l s.has }

pub low_on : (now new : List Node) (j : ℕ) (us : List ℕ) → Grows now new → j < length now → IsLow now j us → IsLow new j us
low_on now new j us g l h = record { within = kept_within now new us g h.within; types = kept_types now new us g h.within ∙ h.types ∙ ap low_types (sym (kept_type now new j g l)) }

pub coded_kept : (m : Model) (now new : List Node) (j : ℕ) → Grows now new → j < length now → coded (type_at new j) (value m new j) ≡ coded (type_at now j) (value m now j)
coded_kept m now new j g l = ap (λ ty. coded ty (value m new j)) (kept_type now new j g l) ∙ ap (coded (type_at now j)) (kept_value m now new j g l)

pub means_on : (m n : Model) (now new : List Node) (j : ℕ) (us : List ℕ) → Grows now new → j < length now → Within now us → Means m n now j us → Means m n new j us
means_on m n now new j us g l b h = kept_values n now new us g b ∙ h ∙ sym (coded_kept m now new j g l)

pub means_back : (m n : Model) (now new : List Node) (j : ℕ) (us : List ℕ) → Grows now new → j < length now → Within now us → Means m n new j us → Means m n now j us
means_back m n now new j us g l b h = sym (kept_values n now new us g b) ∙ h ∙ coded_kept m now new j g l

pub ranges_on : (n : Model) (now new : List Node) (j : ℕ) (us : List ℕ) → Grows now new → j < length now → Within now us → InRanges (leaves (type_at now j)) now n us → InRanges (leaves (type_at new j)) new n us
ranges_on n now new j us g l b h = subst (λ ty. InRanges (leaves ty) new n us) (sym (kept_type now new j g l)) (subst (AllZip InRange (leaves (type_at now j))) (sym (kept_values n now new us g b)) h)

pub ranges_back : (n : Model) (now new : List Node) (j : ℕ) (us : List ℕ) → Grows now new → j < length now → Within now us → InRanges (leaves (type_at new j)) new n us → InRanges (leaves (type_at now j)) now n us
ranges_back n now new j us g l b h = subst (AllZip InRange (leaves (type_at now j))) (kept_values n now new us g b) (subst (λ ty. InRanges (leaves ty) new n us) (kept_type now new j g l) h)

pub pair_on : (marks : List Flag) (next later : ℕ) (now new : List Node) (place : ℕ) → Grows now new → next ≤ later → (p : Pair) → IsPair marks next now place p → IsPair marks later new (place + 1) p
pair_on marks next later now new place g l p h = record {
  before = omega (arith, h.before);
  marked = h.marked;
  inside = omega (arith, h.inside, longer now new g);
  first = symbol_on now new p.0 g h.inside h.first;
  there = omega (arith, h.there, longer now new g);
  second = symbol_on now new p.1 g h.there h.second;
  below = λ number ty has. omega (arith, l, h.below number ty (had_op now new p.1 (Symbol number ty) g h.there has));
}

-- what holds of all second terms
pub of_seconds : (P : ℕ → Type 0) (pairs : List Pair) → All (λ (p : Pair). P p.1) pairs → (u : ℕ) → Contains (seconds pairs) u → P u
of_seconds P pairs h u c = All-contains P (seconds pairs) u (All-map P (λ (p : Pair). p.1) pairs h) c

pub seconds_within : (marks : List Flag) (next : ℕ) (now : List Node) (place : ℕ) (pairs : List Pair) → All (IsPair marks next now place) pairs → (u : ℕ) → Contains (seconds pairs) u → u < length now
seconds_within marks next now place pairs h = of_seconds (λ u. u < length now) pairs (All-weaker (IsPair marks next now place) (λ (p : Pair). p.1 < length now) (λ p q. q.there) pairs h)

pub all_seconds : (marks : List Flag) (next : ℕ) (now : List Node) (place : ℕ) (pairs : List Pair) → All (IsPair marks next now place) pairs → Within now (seconds pairs)
all_seconds marks next now place pairs h k d l = seconds_within marks next now place pairs h (get_or (seconds pairs) k d) (k, l, get_or_default (seconds pairs) k (get_or (seconds pairs) k d) d l)

pub weigh_on : (marks : List Flag) (next : ℕ) (now new : List Node) (place : ℕ) (pairs : List Pair) → Grows now new → place ≤ length now → All (IsPair marks next now place) pairs → Weighed marks now pairs place → Weighed marks new pairs (place + 1)
weigh_on marks next now new place pairs g inside h w =
    let within : Within now w.places = All-weaker (IsPlace marks now place) (λ j. j < length now) (λ j q. omega (arith, q.before, inside)) w.places w.each in
    record {
      places = w.places;
      apart = w.apart;
      each = All-weaker (IsPlace marks now place) (IsPlace marks new (place + 1)) (λ j q. record { before = omega (arith, q.before); marked = q.marked; symbol = symbol_on now new j g (omega (arith, q.before, inside)) q.symbol }) w.places w.each;
      same = bits_kept now new (seconds pairs) g (all_seconds marks next now place pairs h) ∙ w.same ∙ sym (bits_kept now new w.places g within);
    }

-- the next place, where it is no symbol
pub walked_on : (nodes : List Node) (t : ℕ) (marks : List Flag) (fresh : ℕ) (now new : List Node) (lowered : List (List ℕ)) (pairs : List Pair) (conditions us : List ℕ) (next place : ℕ)
    → Walked nodes t marks fresh now lowered pairs conditions next place → Grows now new → place < length nodes → (Marked marks place → IsSymbol now place → ⊥)
    → (Marked marks place → IsLow new place us) → (Marked marks place → (m n : Model) → AgreeTo m n now marks lowered place → Means m n new place us) → (Marked marks place → All (IsLowered (seconds pairs) new) us)
    → Walked nodes t marks fresh new (lowered ++ us ∷ []) pairs conditions next (place + 1)
walked_on nodes t marks fresh now new lowered pairs conditions us next place w g inside no_symbol low means stays =
    let here = lows_here lowered us place w.count in
    let before : (j : ℕ) → j < place → lows (lowered ++ us ∷ []) j ≡ lows lowered j = λ j l. lows_before lowered us place j w.count l in
    let in_now : (j : ℕ) → j < place → j < length now = λ j l. omega (arith, l, inside, longer nodes now w.grown) in
    let place_in : place < length now = omega (arith, inside, longer nodes now w.grown) in
    let all = lowered ++ us ∷ [] in
    let agree_back : (m n : Model) → AgreeTo m n new marks all (place + 1) → AgreeTo m n now marks lowered place =
    λ m n a j l mk s. means_back m n now new j (lows lowered j) g (in_now j l) (w.low j l mk).within (subst (Means m n new j) (before j l) (a j (omega (arith, l)) mk (symbol_on now new j g (in_now j l) s))) in
    let bounded_back : (n : Model) → AreBounded n new marks all (place + 1) → AreBounded n now marks lowered place =
    λ n a j l mk s. ranges_back n now new j (lows lowered j) g (in_now j l) (w.low j l mk).within (subst (InRanges (leaves (type_at new j)) new n) (before j l) (a j (omega (arith, l)) mk (symbol_on now new j g (in_now j l) s))) in
    record {
      grown = grows_on nodes now new w.grown g;
      count = omega (arith, length-append lowered (us ∷ []), w.count);
      inside = omega (arith, inside);
      far = w.far;
      low = next_place (λ j. Marked marks j → IsLow new j (lows all j)) place
          (λ j l mk. subst (IsLow new j) (sym (before j l)) (low_on now new j (lows lowered j) g (in_now j l) (w.low j l mk)))
          (λ mk. subst (IsLow new place) (sym here) (low mk));
      means = λ m n a. next_place (λ j. Marked marks j → Means m n new j (lows all j)) place
          (λ j l mk. subst (Means m n new j) (sym (before j l)) (means_on m n now new j (lows lowered j) g (in_now j l) (w.low j l mk).within (w.means m n (agree_back m n a) j l mk)))
          (λ mk. subst (Means m n new place) (sym here) (means mk m n (agree_back m n a)));
      stays = next_place (λ j. Marked marks j → All (IsLowered (seconds pairs) new) (lows all j)) place
          (λ j l mk. subst (All (IsLowered (seconds pairs) new)) (sym (before j l)) (all_kept_lowered (seconds pairs) now new (lows lowered j) w.grown.well g (w.low j l mk).within (w.stays j l mk)))
          (λ mk. subst (All (IsLowered (seconds pairs) new)) (sym here) (stays mk));
      listed = next_place (λ j. Marked marks j → IsSymbol new j → stand_ins pairs j ≡ lows all j) place
          (λ j l mk s. w.listed j l mk (symbol_back now new j g (in_now j l) s) ∙ sym (before j l))
          (λ mk s. absurd (no_symbol mk (symbol_back now new place g place_in s)));
      mapped = All-weaker (IsPair marks next now place) (IsPair marks next new (place + 1)) (pair_on marks next next now new place g (omega arith)) pairs w.mapped;
      within = kept_within now new conditions g w.within;
      truths = truths_kept now new conditions g w.within w.truths;
      conditions_low = all_kept_lowered (seconds pairs) now new conditions w.grown.well g w.within w.conditions_low;
      bounded = λ n h. next_place (λ j. Marked marks j → IsSymbol new j → InRanges (leaves (type_at new j)) new n (lows all j)) place
          (λ j l mk s. subst (InRanges (leaves (type_at new j)) new n) (sym (before j l)) (ranges_on n now new j (lows lowered j) g (in_now j l) (w.low j l mk).within (w.bounded n (hold_back n now new conditions g w.within h) j l mk (symbol_back now new j g (in_now j l) s))))
          (λ mk s. absurd (no_symbol mk (symbol_back now new place g place_in s)));
      met = λ n a. hold_kept n now new conditions g w.within (w.met n (bounded_back n a));
      there = λ m f.
          let r = w.there m f in (
            r.0,
            record {
              keeps = r.1.keeps;
              agrees = next_place (λ j. Marked marks j → IsSymbol new j → Means m r.0 new j (lows all j)) place
                  (λ j l mk s. subst (Means m r.0 new j) (sym (before j l)) (means_on m r.0 now new j (lows lowered j) g (in_now j l) (w.low j l mk).within (r.1.agrees j l mk (symbol_back now new j g (in_now j l) s))))
                  (λ mk s. absurd (no_symbol mk (symbol_back now new place g place_in s)));
              fit = λ u number ty c has. r.1.fit u number ty c (had_op now new u (Symbol number ty) g (seconds_within marks next now place pairs w.mapped u c) has);
            },
          );
      even = λ u v number r s cu cv hu hv. w.even u v number r s cu cv (had_op now new u (Symbol number r) g (seconds_within marks next now place pairs w.mapped u cu) hu) (had_op now new v (Symbol number s) g (seconds_within marks next now place pairs w.mapped v cv) hv);
      weight = weigh_on marks next now new place pairs g (omega (arith, place_in)) w.mapped w.weight;
      kept = λ u number ty c has. w.kept u number ty c (had_op now new u (Symbol number ty) g (seconds_within marks next now place pairs w.mapped u c) has);
    }
