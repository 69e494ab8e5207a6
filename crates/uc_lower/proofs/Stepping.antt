-- Each step of the walk keeps what the walk knows.
use Rattle.std.specs.Prelude.{◌≡◌, ℕ, ◌+◌, ◌<◌, ◌≤◌, Bool as Flag, true, false, IsTrue, List, [], ◌∷◌, ◌++◌, map, length, get_or, slice_get, slice_index_or, All, Contains, zero, suc}
use Rattle.std.specs.List.{AllZip}
use Rattle.std.proofs.Common.{refl, sym, ap, ◌∙◌, subst, arith, append-nil}
use Rattle.std.proofs.lemmas.Bool.{false≢true}
use Rattle.std.proofs.lemmas.List.{get_or_default}
use Rattle.std.proofs.lemmas.List.Elements.{All-cons, All-nil, All-head, All-tail}
use Rattle.uc_values.specs.Values.{fits, truth_of}
use Rattle.uc_values.proofs.Widths.{bits-Int, bits-Arr}
use Rattle.uc_values.proofs.Fitting.{Fit}
use Rattle.uc_values.specs.declared.ty.Ty.{Ty}
use Rattle.uc_values.specs.declared.ty.Ty.TheVariants.{Bool, Int, Arr}
use Rattle.uc_values.specs.declared.value.Value.{Value}
use Rattle.uc_ops.specs.declared.model.Model.{Model}
use Rattle.uc_ops.specs.declared.op.Op.{Op}
use Rattle.uc_ops.specs.declared.op.Op.TheVariants.{Symbol, Add, Scale, Le, App, Select, Store, Diff}
use Rattle.uc_ops.specs.declared.node.Node.{Node}
use Rattle.uc_ops.specs.Typing.{type_at}
use Rattle.uc_terms.specs.Tables.{HasOp, WellTyped, parts_at}
use Rattle.uc_terms.specs.Values.{value, values_at}
use Rattle.uc_terms.specs.Subterms.{IsSubterm, deeper, Marked, AreSubterms, FitsTerm, EvenlyTyped}
use Rattle.uc_terms.proofs.Fitting.{value-fits}
use Rattle.uc_lower.specs.Fields.{leaves, low_type, low_types, coded}
use Rattle.uc_lower.specs.Ranges.{InRange, IsCode}
use Rattle.uc_lower.specs.Made.{Grows, Within, IsLowType, truth, bits, IsLowered, HasBits}
use Rattle.uc_lower.specs.Steps.{lows, IsLow, Means, IsInner, IsLowerable}
use Rattle.uc_lower.specs.Symbols.{InRanges, Numbered, AreSymbols, itself, symbols}
use Rattle.uc_lower.specs.Lowering.{Pair, seconds, IsSymbol, IsFiniteTerm}
use Rattle.uc_lower.specs.Walk.{IsFresh, paired, IsStep, skipped, inner, symbol}
use Rattle.uc_lower.proofs.Leaves.{one_finite, leaves-Bool, leaves-Bv}
use Rattle.uc_lower.proofs.Codes.{are_codes}
use Rattle.uc_lower.proofs.Growing.{grows_not, longer, kept_type, kept_value, had_op, kept_parts, one_op, parts_before}
use Rattle.uc_lower.proofs.Building.{one_lowered, no_types}
use Rattle.uc_lower.proofs.Inner.{node_facts, two_parts, three_parts, one_low, one_means}
use Rattle.uc_lower.proofs.Standing.{symbol_lowered}
use Rattle.uc_lower.proofs.Models.{put, put_all, put_all-other, put_all-first, put_all-rest}
use Rattle.uc_lower.proofs.Walking.{IsPlace, FitsAt, Found, IsPair, Walked, symbol_on, walked_on}
use Rattle.uc_lower.proofs.Symboling.{symbol_value, SymbolStep, EvenStep, GoesOn, seconds_at, walked_symbol}
use Rattle.uc_terms.proofs.Walk.{marked_within}
use Rattle.uc_lower.proofs.Marking.{only_at, below_of, marked_of}

-- a boolean or a bit-vector has no range
free_range : (ty : Ty) (w : Value) → IsLowType ty → AllZip InRange (leaves ty) (w ∷ [])
free_range ty w truth = rw leaves-Bool (tt, tt)
free_range ty w (bits width) = rw (leaves-Bv width) (tt, tt)

only_one : (p u : ℕ) → Contains (p ∷ []) u → u ≡ p
only_one p u c = only_at p u c.0 c.1 c.2

code_fit : (tys : List Ty) (ws : List Value) → AllZip IsCode tys ws → Fit (map low_type tys) ws
code_fit [] [] h = tt
code_fit [] (w ∷ ws) h = absurd h
code_fit (ty ∷ tys) [] h = absurd h
code_fit (ty ∷ tys) (w ∷ ws) h = (h.0.fits, code_fit tys ws h.1)

coded_fit : (ty : Ty) (v : Value) → HasBits ty → IsTrue (fits ty v) → Fit (low_types ty) (coded ty v)
coded_fit ty v b f =
    let c = are_codes (ty ∷ []) (v ∷ []) (one_finite ty b) (f, tt) in
    code_fit (leaves ty) (coded ty v) (subst (λ ls. AllZip IsCode ls (coded ty v)) (append-nil (leaves ty)) (subst (AllZip IsCode (leaves ty ++ [])) (append-nil (coded ty v)) c))

-- a symbol that stands for itself
pub kept_step : (nodes : List Node) (t : ℕ) (marks : List Flag) (fresh : ℕ) (now : List Node) (lowered : List (List ℕ)) (pairs : List Pair) (before : List ℕ) (first place : ℕ)
    → Walked nodes t marks fresh now lowered pairs before first place → place < length nodes → IsFresh nodes marks (length marks) fresh → place < length marks → Marked marks place → IsSymbol now place → IsLowType (type_at now place)
    → SymbolStep fresh now now place (place ∷ []) first first before before
kept_step nodes t marks fresh now lowered pairs before first place w inside new_number in_marks mk s y =
    let in_now : place < length now = omega (arith, inside, longer nodes now w.grown) in
    let f = node_facts now place (Symbol s.number s.ty) w.grown.well in_now s.has in
    let leaf : parts_at now place ≡ [] = no_types now (parts_at now place) f.suits.0 in
    record {
      grown = grows_not now w.grown.well;
      low = one_low now place place in_now y refl;
      lowered = λ symbols c. one_lowered symbols now place (symbol_lowered symbols now place s.number s.ty s.has leaf y (All-head (Contains symbols) place [] c));
      within = w.within;
      truths = w.truths;
      stays = λ symbols c h. h;
      bounded = λ n h. (h, free_range (type_at now place) (value n now place) y);
      met = λ n h r. h;
      later = omega arith;
      symbols = All-cons (IsSymbol now) place [] s (All-nil (IsSymbol now));
      below = λ u number ty c has.
          let e = only_one place u c in
          let has_nodes = had_op nodes now place (Symbol number ty) w.grown inside (subst (λ x. HasOp now x (Symbol number ty)) e has) in
          omega (arith, new_number place number ty in_marks mk has_nodes, w.far);
    }

pub kept_goes : (nodes : List Node) (t : ℕ) (marks : List Flag) (fresh : ℕ) (now : List Node) (lowered : List (List ℕ)) (pairs : List Pair) (before : List ℕ) (first place : ℕ)
    → Walked nodes t marks fresh now lowered pairs before first place → place < length nodes → IsFresh nodes marks (length marks) fresh → place < length marks → Marked marks place → IsSymbol now place → IsLowType (type_at now place) → IsSubterm nodes t place
    → (m n : Model) → FitsTerm m nodes t → Found m n fresh now marks lowered pairs place → (more : Model) × GoesOn m n more fresh first now place (place ∷ [])
kept_goes nodes t marks fresh now lowered pairs before first place w inside new_number in_marks mk s y below m n fit r =
    let in_now : place < length now = omega (arith, inside, longer nodes now w.grown) in
    let own = had_op nodes now place (Symbol s.number s.ty) w.grown inside s.has in
    let v = fit.symbols place s.number s.ty below own in
    let has_n = r.keeps s.number v.0 (new_number place s.number s.ty in_marks mk own) v.1 in
    let same : value n now place ≡ value m now place =
    symbol_value n now place s.number s.ty v.0 w.grown.well in_now s.has has_n v.2 ∙ sym (symbol_value m now place s.number s.ty v.0 w.grown.well in_now s.has v.1 v.2) in (
      n,
      record {
        keeps = λ number x l e. e;
        means = one_means m n now place place y same;
        fit = λ u number ty c has.
            let e = only_one place u c in
            let z : Symbol number ty ≡ Symbol s.number s.ty = one_op now place (Symbol number ty) (Symbol s.number s.ty) (subst (λ x. HasOp now x (Symbol number ty)) e has) s.has in
            let en : number ≡ s.number = cc in
            let et : ty ≡ s.ty = cc in
            record { value = v.0; is = ap (slice_get n.symbols) en ∙ has_n; fit = subst (λ x. IsTrue (fits x v.0)) (sym et) v.2 };
      },
    )

pub kept_even : (nodes : List Node) (t : ℕ) (marks : List Flag) (fresh : ℕ) (now : List Node) (lowered : List (List ℕ)) (pairs : List Pair) (before : List ℕ) (first place : ℕ)
    → Walked nodes t marks fresh now lowered pairs before first place → EvenlyTyped nodes t → AreSubterms nodes (t ∷ []) marks → WellTyped nodes → place < length nodes → IsFresh nodes marks (length marks) fresh → place < length marks → Marked marks place → IsSubterm nodes t place
    → EvenStep nodes t fresh now now pairs (place ∷ [])
kept_even nodes t marks fresh now lowered pairs before first place w ev a wt inside new_number in_marks mk below =
    let own : (u number : ℕ) (r : Ty) → Contains (place ∷ []) u → HasOp now u (Symbol number r) → HasOp nodes place (Symbol number r) = λ u number r c h.
    had_op nodes now place (Symbol number r) w.grown inside (subst (λ x. HasOp now x (Symbol number r)) (only_one place u c) h) in
    record {
      own = λ u v number r s cu cv hu hv. let z : Symbol number r ≡ Symbol number s = one_op nodes place (Symbol number r) (Symbol number s) (own u number r cu hu) (own v number s cv hv) in cc;
      cross = λ u v number r s cu cv hu hv.
          let hp = own u number r cu hu in
          let sv = w.kept v number s cv hv (new_number place number r in_marks mk hp) in
          let v_marked = marked_of nodes t marks a v sv in
          let v_in : v < length nodes = omega (arith, marked_within marks v v_marked, a.within) in
          ev.symbols place v number r s below sv hp (had_op nodes now v (Symbol number s) w.grown v_in hv);
      kept = λ u number ty c has l. subst (IsSubterm nodes t) (sym (only_one place u c)) below;
    }

-- numbered symbols
numbered_symbols : (nodes : List Node) (first : ℕ) (tys : List Ty) (us : List ℕ) → Numbered nodes first tys us → All (IsSymbol nodes) us
numbered_symbols nodes first [] [] h = All-nil (IsSymbol nodes)
numbered_symbols nodes first [] (u ∷ us) h = absurd h
numbered_symbols nodes first (ty ∷ tys) [] h = absurd h
numbered_symbols nodes first (ty ∷ tys) (u ∷ us) h = All-cons (IsSymbol nodes) u us (record { number = first; ty = ty; has = h.0 }) (numbered_symbols nodes (first + 1) tys us h.1)

-- a numbered symbol by its place
record NumberedAt (nodes : List Node) (first : ℕ) (tys : List Ty) (count u : ℕ) : Type 0 where
  number : ℕ
  ty : Ty
  has : HasOp nodes u (Symbol number ty)
  low : first ≤ number
  high : number < first + count

numbered_at : (nodes : List Node) (first : ℕ) (tys : List Ty) (us : List ℕ) (u i : ℕ) → Numbered nodes first tys us → i < length us → get_or us i u ≡ u → NumberedAt nodes first tys (length us) u
numbered_at nodes first [] [] u i h l e = absurd (omega (arith, l))
numbered_at nodes first [] (v ∷ us) u i h l e = absurd h
numbered_at nodes first (ty ∷ tys) [] u i h l e = absurd h
numbered_at nodes first (ty ∷ tys) (v ∷ us) u zero h l e = record { number = first; ty = ty; has = subst (λ x. HasOp nodes x (Symbol first ty)) e h.0; low = omega arith; high = omega arith }
numbered_at nodes first (ty ∷ tys) (v ∷ us) u (suc i) h l e =
    let r = numbered_at nodes (first + 1) tys us u i h.1 (omega (arith, l)) e in
    record { number = r.number; ty = r.ty; has = r.has; low = omega (arith, r.low); high = omega (arith, r.high) }

numbered_values : (n : Model) (nodes : List Node) (xs : List Value) (first : ℕ) (tys : List Ty) (us : List ℕ) (ws : List Value) → WellTyped nodes → Within nodes us → Numbered nodes first tys us → Fit tys ws → n.symbols ≡ put_all xs first ws → values_at n nodes us ≡ ws
numbered_values n nodes xs first [] [] [] w b h f e = refl
numbered_values n nodes xs first [] [] (x ∷ ws) w b h f e = absurd f
numbered_values n nodes xs first [] (u ∷ us) ws w b h f e = absurd h
numbered_values n nodes xs first (ty ∷ tys) [] ws w b h f e = absurd h
numbered_values n nodes xs first (ty ∷ tys) (u ∷ us) [] w b h f e = absurd f
numbered_values n nodes xs first (ty ∷ tys) (u ∷ us) (x ∷ ws) w b h f e =
    let B : ℕ → Type 0 = λ t. t < length nodes in
    let here : value n nodes u ≡ x = symbol_value n nodes u first ty x w (All-head B u us b) h.0 (ap (λ s. slice_get s first) e ∙ put_all-first xs first x ws) f.0 in
    ap (λ v. v ∷ values_at n nodes us) here ∙ ap (λ vs. x ∷ vs) (numbered_values n nodes (put xs first x) (first + 1) tys us ws w (All-tail B u us b) h.1 f.1 (e ∙ put_all-rest xs first x ws))

numbered_fits : (n : Model) (nodes : List Node) (xs : List Value) (first : ℕ) (tys : List Ty) (us : List ℕ) (ws : List Value) (u i number : ℕ) (ty : Ty) → Numbered nodes first tys us → Fit tys ws → n.symbols ≡ put_all xs first ws → i < length us → get_or us i u ≡ u
    → HasOp nodes u (Symbol number ty) → FitsAt n number ty
numbered_fits n nodes xs first [] [] ws u i number ty h f e l g has = absurd (omega (arith, l))
numbered_fits n nodes xs first [] (v ∷ us) ws u i number ty h f e l g has = absurd h
numbered_fits n nodes xs first (s ∷ tys) [] ws u i number ty h f e l g has = absurd h
numbered_fits n nodes xs first (s ∷ tys) (v ∷ us) [] u i number ty h f e l g has = absurd f
numbered_fits n nodes xs first (s ∷ tys) (v ∷ us) (x ∷ ws) u zero number ty h f e l g has =
    let z : Symbol number ty ≡ Symbol first s = one_op nodes u (Symbol number ty) (Symbol first s) has (subst (λ y. HasOp nodes y (Symbol first s)) g h.0) in
    let en : number ≡ first = cc in
    let et : ty ≡ s = cc in
    record { value = x; is = ap (λ k. slice_get n.symbols k) en ∙ ap (λ k. slice_get k first) e ∙ put_all-first xs first x ws; fit = subst (λ y. IsTrue (fits y x)) (sym et) f.0 }
numbered_fits n nodes xs first (s ∷ tys) (v ∷ us) (x ∷ ws) u (suc i) number ty h f e l g has =
    numbered_fits n nodes (put xs first x) (first + 1) tys us ws u i number ty h.1 f.1 (e ∙ put_all-rest xs first x ws) (omega (arith, l)) g has

numbered_even : (nodes : List Node) (first : ℕ) (tys : List Ty) (us : List ℕ) (u v i j number : ℕ) (r s : Ty) → Numbered nodes first tys us → i < length us → j < length us → get_or us i u ≡ u → get_or us j v ≡ v
    → HasOp nodes u (Symbol number r) → HasOp nodes v (Symbol number s) → r ≡ s
numbered_even nodes first [] [] u v i j number r s h li lj ei ej hu hv = absurd (omega (arith, li))
numbered_even nodes first [] (x ∷ us) u v i j number r s h li lj ei ej hu hv = absurd h
numbered_even nodes first (ty ∷ tys) [] u v i j number r s h li lj ei ej hu hv = absurd h
numbered_even nodes first (ty ∷ tys) (x ∷ us) u v zero zero number r s h li lj ei ej hu hv =
    let z : Symbol number r ≡ Symbol number s = one_op nodes x (Symbol number r) (Symbol number s) (subst (λ y. HasOp nodes y (Symbol number r)) (sym ei) hu) (subst (λ y. HasOp nodes y (Symbol number s)) (sym ej) hv) in cc
numbered_even nodes first (ty ∷ tys) (x ∷ us) u v zero (suc j) number r s h li lj ei ej hu hv =
    let z : Symbol number r ≡ Symbol first ty = one_op nodes x (Symbol number r) (Symbol first ty) (subst (λ y. HasOp nodes y (Symbol number r)) (sym ei) hu) h.0 in
    let q = numbered_at nodes (first + 1) tys us v j h.1 (omega (arith, lj)) ej in
    let y : Symbol number s ≡ Symbol q.number q.ty = one_op nodes v (Symbol number s) (Symbol q.number q.ty) hv q.has in
    let a : number ≡ first = cc in
    let b : number ≡ q.number = cc in
    absurd (omega (arith, a, b, q.low))
numbered_even nodes first (ty ∷ tys) (x ∷ us) u v (suc i) zero number r s h li lj ei ej hu hv =
    let z : Symbol number s ≡ Symbol first ty = one_op nodes x (Symbol number s) (Symbol first ty) (subst (λ y. HasOp nodes y (Symbol number s)) (sym ej) hv) h.0 in
    let q = numbered_at nodes (first + 1) tys us u i h.1 (omega (arith, li)) ei in
    let y : Symbol number r ≡ Symbol q.number q.ty = one_op nodes u (Symbol number r) (Symbol q.number q.ty) hu q.has in
    let a : number ≡ first = cc in
    let b : number ≡ q.number = cc in
    absurd (omega (arith, a, b, q.low))
numbered_even nodes first (ty ∷ tys) (x ∷ us) u v (suc i) (suc j) number r s h li lj ei ej hu hv = numbered_even nodes (first + 1) tys us u v i j number r s h.1 (omega (arith, li)) (omega (arith, lj)) ei ej hu hv

pub new_even : (nodes : List Node) (t : ℕ) (marks : List Flag) (fresh : ℕ) (now new : List Node) (lowered : List (List ℕ)) (pairs : List Pair) (us before after : List ℕ) (first next place : ℕ)
    → Walked nodes t marks fresh now lowered pairs before first place → AreSymbols now new first next (leaves (type_at now place)) us before after → EvenStep nodes t fresh now new pairs us
new_even nodes t marks fresh now new lowered pairs us before after first next place w a =
    let tys = low_types (type_at now place) in
    let low : (u number : ℕ) (ty : Ty) → Contains us u → HasOp new u (Symbol number ty) → first ≤ number = λ u number ty c has.
    let q = numbered_at new first tys us u c.0 a.numbered c.1 c.2 in
    let z : Symbol number ty ≡ Symbol q.number q.ty = one_op new u (Symbol number ty) (Symbol q.number q.ty) has q.has in
    let en : number ≡ q.number = cc in
    omega (arith, en, q.low) in
    record {
      own = λ u v number r s cu cv hu hv. numbered_even new first tys us u v cu.0 cv.0 number r s a.numbered cu.1 cv.1 cu.2 cv.2 hu hv;
      cross = λ u v number r s cu cv hu hv. absurd (omega (arith, low u number r cu hu, (seconds_at marks first now place pairs w.mapped v cv).below number s hv));
      kept = λ u number ty c has l. absurd (omega (arith, low u number ty c has, l, w.far));
    }

-- new symbols for the fields of a symbol
pub new_step : (fresh : ℕ) (now new : List Node) (place : ℕ) (us : List ℕ) (first next : ℕ) (before after : List ℕ) → place < length now → AreSymbols now new first next (leaves (type_at now place)) us before after → SymbolStep fresh now new place us first next before after
new_step fresh now new place us first next before after inside a =
    let kept : type_at new place ≡ type_at now place = kept_type now new place a.grown inside in
    record {
      grown = a.grown;
      low = record { within = a.within; types = a.types ∙ ap low_types (sym kept) };
      lowered = a.lowered;
      within = a.conditions;
      truths = a.truths;
      stays = a.stays;
      bounded = λ n h. let b = a.bounded n h in (b.0, subst (λ ty. InRanges (leaves ty) new n us) (sym kept) b.1);
      met = λ n h r. a.met n h (subst (λ ty. InRanges (leaves ty) new n us) kept r);
      later = omega (arith, a.counted);
      symbols = numbered_symbols new first (low_types (type_at now place)) us a.numbered;
      below = λ u number ty c has.
          let q = numbered_at new first (low_types (type_at now place)) us u c.0 a.numbered c.1 c.2 in
          let z : Symbol number ty ≡ Symbol q.number q.ty = one_op new u (Symbol number ty) (Symbol q.number q.ty) has q.has in
          let en : number ≡ q.number = cc in
          omega (arith, en, q.high, a.counted);
    }

pub new_goes : (fresh : ℕ) (now new : List Node) (place : ℕ) (us : List ℕ) (first next : ℕ) (before after : List ℕ) → WellTyped now → place < length now → HasBits (type_at now place) → AreSymbols now new first next (leaves (type_at now place)) us before after
    → (m n : Model) → (more : Model) × GoesOn m n more fresh first new place us
new_goes fresh now new place us first next before after wt inside b a m n =
    let ty = type_at now place in
    let v = value m now place in
    let ws = coded ty v in
    let fit : Fit (low_types ty) ws = coded_fit ty v b (value-fits m now place wt inside) in
    let more : Model = record { symbols = put_all n.symbols first ws; tables = n.tables } in (
      more,
      record {
        keeps = λ number w l e. put_all-other n.symbols first ws number w l e;
        means = numbered_values more new n.symbols first (low_types ty) us ws a.grown.well a.within a.numbered fit refl ∙ ap (coded ty) (sym (kept_value m now new place a.grown inside)) ∙ ap (λ s. coded s (value m new place)) (sym (kept_type now new place a.grown inside));
        fit = λ u number s c has. numbered_fits more new n.symbols first (low_types ty) us ws u c.0 number s a.numbered fit refl c.1 c.2 has;
      },
    )

no_bits_int : HasBits Int → ⊥
no_bits_int h = let e = sym bits-Int ∙ h.1 in cc

no_bits_arr : (i e : Ty) → HasBits (Arr i e) → ⊥
no_bits_arr i e h = let d = sym (bits-Arr i e) ∙ h.1 in cc

-- the operations of a term of finitely many values
inner_op : (nodes : List Node) (t j : ℕ) (op : Op) → WellTyped nodes → IsFiniteTerm nodes t → IsSubterm nodes t j → j < length nodes → HasOp nodes j op → (IsSymbol nodes j → ⊥) → IsInner op
inner_op nodes t j (Symbol number ty) w f s l h not_here = not_here (record { number = number; ty = ty; has = h })
inner_op nodes t j (App number ty) w f s l h not_here = f.no_function j number ty s h
inner_op nodes t j Add w f s l h not_here = no_bits_int (subst HasBits (node_facts nodes j Add w l h).typed (f.bits j s))
inner_op nodes t j (Scale factor) w f s l h not_here = no_bits_int (subst HasBits (node_facts nodes j (Scale factor) w l h).typed (f.bits j s))
inner_op nodes t j Le w f s l h not_here =
    let q = two_parts nodes (parts_at nodes j) Int Int (node_facts nodes j Le w l h).suits in
    no_bits_int (subst HasBits q.type_a (f.bits q.a (deeper j q.a s (subst (λ ps. Contains ps q.a) (sym q.is) (0, omega arith, refl)))))
inner_op nodes t j Select w f s l h not_here =
    let u = (node_facts nodes j Select w l h).suits in
    let q = two_parts nodes (parts_at nodes j) (Arr u.0 u.1) u.0 u.2 in
    no_bits_arr u.0 u.1 (subst HasBits q.type_a (f.bits q.a (deeper j q.a s (subst (λ ps. Contains ps q.a) (sym q.is) (0, omega arith, refl)))))
inner_op nodes t j Store w f s l h not_here =
    let u = (node_facts nodes j Store w l h).suits in
    let q = three_parts nodes (parts_at nodes j) (Arr u.0 u.1) u.0 u.1 u.2 in
    no_bits_arr u.0 u.1 (subst HasBits q.type_a (f.bits q.a (deeper j q.a s (subst (λ ps. Contains ps q.a) (sym q.is) (0, omega arith, refl)))))
inner_op nodes t j Diff w f s l h not_here =
    let u = (node_facts nodes j Diff w l h).suits in
    let q = two_parts nodes (parts_at nodes j) (Arr u.0 u.1) (Arr u.0 u.1) u.2 in
    no_bits_arr u.0 u.1 (subst HasBits q.type_a (f.bits q.a (deeper j q.a s (subst (λ ps. Contains ps q.a) (sym q.is) (0, omega arith, refl)))))
inner_op nodes t j other w f s l h not_here = tt

-- a term that is no symbol can be lowered where the walk has come to it
pub lowerable : (nodes : List Node) (t : ℕ) (marks : List Flag) (fresh : ℕ) (now : List Node) (lowered : List (List ℕ)) (pairs : List Pair) (conditions : List ℕ) (next place : ℕ)
    → Walked nodes t marks fresh now lowered pairs conditions next place → WellTyped nodes → AreSubterms nodes (t ∷ []) marks → IsFiniteTerm nodes t → place < length nodes → Marked marks place → (IsSymbol now place → ⊥) → IsLowerable now lowered place
lowerable nodes t marks fresh now lowered pairs conditions next place w wt a f inside mk not_here =
    let below = below_of nodes t marks a place mk in
    let in_now : place < length now = omega (arith, inside, longer nodes now w.grown) in
    let parts : parts_at now place ≡ parts_at nodes place = kept_parts nodes now place w.grown inside in
    let before = parts_before nodes place wt inside in
    let is_part : (k d : ℕ) → k < length (parts_at nodes place) → IsSubterm nodes t (get_or (parts_at nodes place) k d) = λ k d l.
    deeper place (get_or (parts_at nodes place) k d) below (k, l, get_or_default (parts_at nodes place) k (get_or (parts_at nodes place) k d) d l) in
    record {
      inner = λ op h. inner_op nodes t place op wt f below inside (had_op nodes now place op w.grown inside h) (λ s. not_here (symbol_on nodes now place w.grown inside s));
      ready = λ op h. record {
        there = in_now;
        has = h;
        own_bits = subst HasBits (sym (kept_type nodes now place w.grown inside)) (f.bits place below);
        bits = subst (All (λ p. HasBits (type_at now p))) (sym parts) (λ k d l. subst HasBits (sym (kept_type nodes now (get_or (parts_at nodes place) k d) w.grown (omega (arith, before k d l, inside)))) (f.bits (get_or (parts_at nodes place) k d) (is_part k d l)));
        low = subst (All (λ p. IsLow now p (lows lowered p))) (sym parts) (λ k d l. w.low (get_or (parts_at nodes place) k d) (before k d l) (marked_of nodes t marks a (get_or (parts_at nodes place) k d) (is_part k d l)));
      };
    }

-- what holds of marked terms before a place holds of the parts of the term there
parts_hold : (nodes : List Node) (t : ℕ) (marks : List Flag) (now : List Node) (place : ℕ) → WellTyped nodes → AreSubterms nodes (t ∷ []) marks → Grows nodes now → place < length nodes → Marked marks place
    → (P : ℕ → Type 0) → ((p : ℕ) → p < place → Marked marks p → P p) → All P (parts_at now place)
parts_hold nodes t marks now place wt a g inside mk P h =
    let parts : parts_at now place ≡ parts_at nodes place = kept_parts nodes now place g inside in
    let before = parts_before nodes place wt inside in
    let below = below_of nodes t marks a place mk in
    subst (All P) (sym parts) (λ k d l.
    let p = get_or (parts_at nodes place) k d in
    h p (before k d l) (marked_of nodes t marks a p (deeper place p below (k, l, get_or_default (parts_at nodes place) k p d l))))

-- where the walk starts
pub walked_start : (nodes : List Node) (t : ℕ) (marks : List Flag) (fresh : ℕ) → WellTyped nodes → Walked nodes t marks fresh nodes [] [] [] fresh 0
walked_start nodes t marks fresh w = record {
  grown = grows_not nodes w;
  count = refl;
  inside = omega arith;
  far = omega arith;
  low = λ j l. absurd (omega (arith, l));
  means = λ m n a j l. absurd (omega (arith, l));
  stays = λ j l. absurd (omega (arith, l));
  listed = λ j l. absurd (omega (arith, l));
  mapped = All-nil (IsPair marks fresh nodes 0);
  within = All-nil (λ t. t < length nodes);
  truths = All-nil (λ t. type_at nodes t ≡ Bool);
  conditions_low = All-nil (IsLowered [] nodes);
  bounded = λ n h j l. absurd (omega (arith, l));
  met = λ n a. All-nil (λ c. truth_of (value n nodes c) ≡ true);
  even = λ u v number r s cu cv. absurd (omega (arith, cu.1));
  kept = λ u number ty c. absurd (omega (arith, c.1));
  weight = record { places = []; apart = tt; each = All-nil (IsPlace marks nodes 0); same = refl };
  there = λ m f. (m, record { keeps = λ k v l e. e; agrees = λ j l. absurd (omega (arith, l)); fit = λ u number ty c has. absurd (omega (arith, c.1)) });
}

place_has_bits : (nodes : List Node) (t : ℕ) (marks : List Flag) (fresh : ℕ) (now : List Node) (lowered : List (List ℕ)) (pairs : List Pair) (conditions : List ℕ) (next place : ℕ)
    → Walked nodes t marks fresh now lowered pairs conditions next place → AreSubterms nodes (t ∷ []) marks → IsFiniteTerm nodes t → place < length marks → Marked marks place → HasBits (type_at now place)
place_has_bits nodes t marks fresh now lowered pairs conditions next place w a f l mk =
    subst HasBits (sym (kept_type nodes now place w.grown (omega (arith, l, a.within)))) (f.bits place (below_of nodes t marks a place mk))

pub walked_step : (nodes : List Node) (t : ℕ) (marks : List Flag) (fresh : ℕ) (now new : List Node) (lowered : List (List ℕ)) (pairs more : List Pair) (before after us : List ℕ) (first next place : ℕ) (marked : Flag)
    → Walked nodes t marks fresh now lowered pairs before first place → EvenlyTyped nodes t → WellTyped nodes → AreSubterms nodes (t ∷ []) marks → IsFiniteTerm nodes t → IsFresh nodes marks (length marks) fresh → place < length marks → marked ≡ slice_index_or marks place false
    → Grows now new → IsStep now new lowered marked place us first next pairs more before after → Walked nodes t marks fresh new (lowered ++ us ∷ []) more after next (place + 1)
walked_step nodes t marks fresh now new lowered pairs more before after us first next place marked w ev wt a f fr l em g (skipped not_here en ex ep ec) =
    let inside : place < length nodes = omega (arith, l, a.within) in
    subst (λ x. Walked nodes t marks fresh new (lowered ++ us ∷ []) more after x (place + 1)) (sym ex)
    (subst (λ x. Walked nodes t marks fresh new (lowered ++ us ∷ []) x after first (place + 1)) (sym ep)
    (subst (λ x. Walked nodes t marks fresh new (lowered ++ us ∷ []) pairs x first (place + 1)) (sym ec)
    (walked_on nodes t marks fresh now new lowered pairs before us first place w g inside (λ mk. absurd (false≢true (sym not_here ∙ em ∙ mk))) (λ mk. absurd (false≢true (sym not_here ∙ em ∙ mk))) (λ mk. absurd (false≢true (sym not_here ∙ em ∙ mk))) (λ mk. absurd (false≢true (sym not_here ∙ em ∙ mk))))))
walked_step nodes t marks fresh now new lowered pairs more before after us first next place marked w ev wt a f fr l em g (inner not_here low ex ep ec) =
    let inside : place < length nodes = omega (arith, l, a.within) in
    subst (λ x. Walked nodes t marks fresh new (lowered ++ us ∷ []) more after x (place + 1)) (sym ex)
    (subst (λ x. Walked nodes t marks fresh new (lowered ++ us ∷ []) x after first (place + 1)) (sym ep)
    (subst (λ x. Walked nodes t marks fresh new (lowered ++ us ∷ []) pairs x first (place + 1)) (sym ec)
    (walked_on nodes t marks fresh now new lowered pairs before us first place w g inside (λ mk s. not_here s) (λ mk. low.low)
    (λ mk m n b. low.means m n (parts_hold nodes t marks now place wt a w.grown inside mk (λ p. Means m n now p (lows lowered p)) (w.means m n b)))
    (λ mk. low.stays (seconds pairs) (parts_hold nodes t marks now place wt a w.grown inside mk (λ p. All (IsLowered (seconds pairs) now) (lows lowered p)) w.stays)))))
walked_step nodes t marks fresh now new lowered pairs more before after us first next place marked w ev wt a f fr l em g (symbol mt s (itself y eu en ex ec) ep) =
    let inside : place < length nodes = omega (arith, l, a.within) in
    let mk : Marked marks place = sym em ∙ mt in
    let below = below_of nodes t marks a place mk in
    let base : Walked nodes t marks fresh now (lowered ++ (place ∷ []) ∷ []) (pairs ++ paired place (place ∷ [])) before first (place + 1) =
    walked_symbol nodes t marks fresh now now lowered pairs before before (place ∷ []) first first place w inside mk s (kept_step nodes t marks fresh now lowered pairs before first place w inside fr l mk s y) (kept_even nodes t marks fresh now lowered pairs before first place w ev a wt inside fr l mk below) (place_has_bits nodes t marks fresh now lowered pairs before first place w a f l mk) (kept_goes nodes t marks fresh now lowered pairs before first place w inside fr l mk s y below) in
    subst (λ x. Walked nodes t marks fresh new (lowered ++ us ∷ []) more after x (place + 1)) (sym ex)
    (subst (λ x. Walked nodes t marks fresh new (lowered ++ us ∷ []) x after first (place + 1)) (sym ep)
    (subst (λ x. Walked nodes t marks fresh new (lowered ++ us ∷ []) (pairs ++ paired place us) x first (place + 1)) (sym ec)
    (subst (λ x. Walked nodes t marks fresh x (lowered ++ us ∷ []) (pairs ++ paired place us) before first (place + 1)) (sym en)
    (subst (λ x. Walked nodes t marks fresh now (lowered ++ x ∷ []) (pairs ++ paired place x) before first (place + 1)) (sym eu) base))))
walked_step nodes t marks fresh now new lowered pairs more before after us first next place marked w ev wt a f fr l em g (symbol mt s (symbols q) ep) =
    let inside : place < length nodes = omega (arith, l, a.within) in
    let in_now : place < length now = omega (arith, inside, longer nodes now w.grown) in
    let mk : Marked marks place = sym em ∙ mt in
    let b : HasBits (type_at now place) = subst HasBits (sym (kept_type nodes now place w.grown inside)) (f.bits place (below_of nodes t marks a place mk)) in
    subst (λ x. Walked nodes t marks fresh new (lowered ++ us ∷ []) x after next (place + 1)) (sym ep)
    (walked_symbol nodes t marks fresh now new lowered pairs before after us first next place w inside mk s (new_step fresh now new place us first next before after in_now q) (new_even nodes t marks fresh now new lowered pairs us before after first next place w q) (subst HasBits (sym (kept_type now new place g in_now)) b) (λ m n fit r. new_goes fresh now new place us first next before after w.grown.well in_now b q m n))

pub place_in : (nodes : List Node) (t : ℕ) (marks : List Flag) (fresh : ℕ) (now : List Node) (lowered : List (List ℕ)) (pairs : List Pair) (conditions : List ℕ) (next place : ℕ)
    → Walked nodes t marks fresh now lowered pairs conditions next place → AreSubterms nodes (t ∷ []) marks → place < length marks → place < length now
place_in nodes t marks fresh now lowered pairs conditions next place w a l = omega (arith, l, a.within, longer nodes now w.grown)

pub place_bits : (nodes : List Node) (t : ℕ) (marks : List Flag) (fresh : ℕ) (now : List Node) (lowered : List (List ℕ)) (pairs : List Pair) (conditions : List ℕ) (next place : ℕ)
    → Walked nodes t marks fresh now lowered pairs conditions next place → AreSubterms nodes (t ∷ []) marks → IsFiniteTerm nodes t → place < length marks → Marked marks place → HasBits (type_at now place)
place_bits nodes t marks fresh now lowered pairs conditions next place w a f l mk =
    subst HasBits (sym (kept_type nodes now place w.grown (omega (arith, l, a.within)))) (f.bits place (below_of nodes t marks a place mk))
