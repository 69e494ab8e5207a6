-- For each trace of copies that refutes a line there is a model whose copies refute it.
use Rattle.std.proofs.Common.{◌≡◌, ℕ, ◌+◌, ◌*◌, ◌<◌, ◌≤◌, List, [], ◌∷◌, ◌++◌, length, map, take, drop, Some, refl, sym, ap, ◌∙◌, subst, arith, slice_get, zero, suc, add-one, inl, inr, All, length-append, append_assoc}
use Rattle.std.specs.Prelude.{true, ◌&&◌}
use Rattle.std.specs.List.{list_all}
use Rattle.std.proofs.lemmas.Bool.Decides.{leb_tells}
use Rattle.std.proofs.lemmas.List.{length-map}
use Rattle.std.proofs.lemmas.List.Elements.{All-nil, All-cons, All-head, All-tail}
use Rattle.uc_values.specs.declared.ty.Ty.{Ty}
use Rattle.uc_values.specs.declared.value.Value.{Value}
use Rattle.uc_values.specs.declared.table.Table.{Table}
use Rattle.uc_values.specs.Values.{nothing}
use Rattle.uc_ops.specs.declared.model.Model.{Model}
use Rattle.uc_ops.specs.Meaning.{fitting}
use Rattle.uc_ops.proofs.Lists.{at_place, slice_get-within}
use Rattle.uc_flat.specs.declared.flat.Flat.{Flat}
use Rattle.uc_flat.specs.Counts.{all_draws}
use Rattle.uc_flat.specs.Drawn.{Drawn, free}
use Rattle.uc_flat.specs.Laws.{StandAt, AgreeBelow}
use Rattle.uc_flat.specs.Flats.{cell_types, init_types, IsSound}
use Rattle.uc_flat.specs.Unrolled.{free_values, begun, widened, wider, started, doubled, stepped, axioms_hold}
use Rattle.uc_flat.specs.Executions.{FitAll, IsInitial, IsStep}
use Rattle.uc_flat.proofs.Extending.{slice_get-front, slice_get-back, next_after}
use Rattle.uc_flat.proofs.Choosing.{place as placed}
use Rattle.uc_flat.proofs.Finding.{runs_drawn, fitting_is, front_stands, back_stands}
use Rattle.uc_flat.proofs.Constants.{same_drawn, same_widened}
use Rattle.uc_flat.specs.declared.trace.FlatPosition.{FlatPosition}
use Rattle.uc_flat.specs.Traces.{HasConstants, constant_types}
use Rattle.uc_flat_copies.specs.declared.trace.FlatCopies.{FlatCopies}
use Rattle.uc_flat_copies.specs.declared.trace.Start.{Start}
use Rattle.uc_flat_copies.specs.declared.trace.Start.TheVariants.{Initially, Anywhere}
use Rattle.uc_flat_copies.specs.Traces.{CopyLine, IsAny, Starts, IsLinked, IsCopy, cells_in, sites_in, cells_at, sites_at, ask_all, fails, RefutesCopies}
use Rattle.uc_flat_copies.specs.Places.{read_by, place, reads_up_to, first_reads, read_from, copies_of, cells_of, sites_of, all_below, is_refuted_in, is_refuted_by}
use Rattle.uc_flat_copies.specs.Laws.{IsLineOf}
use Rattle.uc_flat_copies.proofs.Places.{count, place_zero, place_suc, all_below_all, same_ask_all, same_fails, same_axioms}

fit_length : (types : List Ty) (values : List Value) → FitAll types values → length values ≡ length types
unfolding FitAll
fit_length [] [] h = refl
fit_length [] (v ∷ values) h = absurd h
fit_length (ty ∷ types) [] h = absurd h
fit_length (ty ∷ types) (v ∷ values) h = omega (arith, fit_length types values h.1)

-- the free values are those that stand there, where they fit
free_values-are : (list : List Value) (types : List Ty) (values : List Value) (n : ℕ) → FitAll types values → StandAt list n values → free_values list types n ≡ values
unfolding free_values FitAll
free_values-are list [] [] n h s = refl
free_values-are list [] (v ∷ values) n h s = absurd h
free_values-are list (ty ∷ types) [] n h s = absurd h
free_values-are list (ty ∷ types) (v ∷ values) n h s =
    let first : free list ty n ≡ v = ap (λ k. fitting ty (slice_get list k)) (omega arith) ∙ ap (fitting ty) (s 0 (omega arith)) ∙ fitting_is ty v h.0 in
    ap (λ x. x ∷ free_values list types (n + 1)) first
    ∙ ap (λ xs. v ∷ xs) (free_values-are list types values (n + 1) h.1 (λ k l. ap (slice_get list) (omega arith) ∙ s (suc k) (omega (arith, l))))

-- the place after so many steps is the position, and all assumptions held
record Reaches (f : Flat) (start : Start) (n : Model) (k : ℕ) (p : FlatPosition) : Type 0 where
  goes : (place f start n k).goes ≡ true
  cells : (place f start n k).cells ≡ p.cells
  sites : (place f start n k).sites ≡ p.sites

-- under a model that reads these free values behind the constants, the places up to k are the positions
record ReachesUpTo (f : Flat) (start : Start) (n : Model) (k : ℕ) (positions : List FlatPosition) : Type 0 where
  each : (j : ℕ) (p : FlatPosition) → j < k + 1 → slice_get positions j ≡ Some p → Reaches f start n j p
  next : (place f start n k).next ≡ reads_up_to f start k

record FoundTo (f : Flat) (start : Start) (m : Model) (k : ℕ) (positions : List FlatPosition) : Type 0 where
  frees : List Value
  size : count f + length frees ≡ reads_up_to f start k
  ways : (n : Model) → AgreeBelow (count f) m n → StandAt n.symbols (count f) frees → ReachesUpTo f start n k positions

reads_zero : (f : Flat) (start : Start) → reads_up_to f start 0 ≡ first_reads f start
unfolding reads_up_to
reads_zero f start = refl

reads_suc : (f : Flat) (start : Start) (k : ℕ) → reads_up_to f start (suc k) ≡ reads_up_to f start k + all_draws f.step
unfolding reads_up_to
reads_suc f start k = refl

only_first : (f : Flat) (start : Start) (n : Model) (positions : List FlatPosition) (p : FlatPosition) → slice_get positions 0 ≡ Some p → Reaches f start n 0 p → (place f start n 0).next ≡ reads_up_to f start 0 → ReachesUpTo f start n 0 positions
only_first f start n positions p at r e = record {
  each = λ j q l b.
      let here : j ≡ 0 = omega (arith, l) in
      let same : Some p ≡ Some q = sym at ∙ ap (slice_get positions) (sym here) ∙ b in
      let is : p ≡ q = cc in
      subst (λ i. Reaches f start n i q) (sym here) (subst (Reaches f start n 0) is r);
  next = e;
}

found_first : (f : Flat) (start : Start) (m : Model) (positions : List FlatPosition) (p : FlatPosition) → IsSound f → slice_get positions 0 ≡ Some p → Starts f m start p → FoundTo f start m 0 positions
unfolding started
found_first f Initially m positions p s at i =
    let types = cell_types f in
    let w = runs_drawn m (init_types f) f.init (placed (widened m types f.further i.firsts) i.rest i.others []) (placed i.last [] [] p.sites) i.ends in
    record {
      frees = i.firsts ++ w.frees;
      size = omega (arith, reads_zero f Initially, w.count, fit_length types i.firsts i.begins, length-append i.firsts w.frees);
      ways = λ n agrees stands.
          let values = free_values-are n.symbols types i.firsts (count f) i.begins (front_stands n.symbols (count f) i.firsts w.frees stands) in
          let start = wider n types f.further (begun n.symbols types (count f)) in
          let begins : start.cells ≡ widened m types f.further i.firsts =
          ap (widened n types f.further) values ∙ sym (same_widened (count f) m n types i.firsts f.further agrees s.further_reads) in
          let later_stands = back_stands n.symbols (count f) (count f + length types) i.firsts w.frees (omega (arith, fit_length types i.firsts i.begins)) stands in
          let goes = w.ways n.symbols start later_stands begins refl refl in
          let same = same_drawn (count f) m n (init_types f) f.init n.symbols start s.init_reads agrees in
          only_first f Initially n positions p at
          (record {
            goes = ap (λ (d : Drawn). d.goes) (place_zero f Initially n) ∙ ap (λ (d : Drawn). d.goes) (sym same) ∙ goes.goes;
            cells = ap (λ (d : Drawn). d.cells) (place_zero f Initially n) ∙ ap (λ (d : Drawn). take (length types) d.cells) (sym same) ∙ ap (take (length types)) goes.cells ∙ i.reaches;
            sites = ap (λ (d : Drawn). d.sites) (place_zero f Initially n) ∙ ap (λ (d : Drawn). d.sites) (sym same) ∙ goes.listed ∙ sym w.sites;
          })
          (ap (λ (d : Drawn). d.next) (place_zero f Initially n) ∙ next_after n (init_types f) f.init n.symbols start ∙ sym (reads_zero f Initially));
    }
found_first f Anywhere m positions p s at i =
    let types = cell_types f in
    record {
      frees = p.cells;
      size = omega (arith, reads_zero f Anywhere, fit_length types p.cells i.fits);
      ways = λ n agrees stands.
          let values = free_values-are n.symbols types p.cells (count f) i.fits stands in
          only_first f Anywhere n positions p at
          (record {
            goes = ap (λ (d : Drawn). d.goes) (place_zero f Anywhere n);
            cells = ap (λ (d : Drawn). d.cells) (place_zero f Anywhere n) ∙ values;
            sites = ap (λ (d : Drawn). d.sites) (place_zero f Anywhere n) ∙ sym i.no_sites;
          })
          (ap (λ (d : Drawn). d.next) (place_zero f Anywhere n) ∙ sym (reads_zero f Anywhere));
    }

found_next : (f : Flat) (start : Start) (m : Model) (k : ℕ) (positions : List FlatPosition) (p q : FlatPosition) → IsSound f → FoundTo f start m k positions → slice_get positions k ≡ Some p → slice_get positions (suc k) ≡ Some q
    → IsStep f m p.cells q.cells q.choices q.sites → FoundTo f start m (suc k) positions
unfolding stepped
found_next f start m k positions p q s h at later i =
    let types = cell_types f ++ cell_types f in
    let w = runs_drawn m types f.step (placed (p.cells ++ p.cells) q.choices i.others []) (placed i.last [] [] q.sites) i.ends in
    record {
      frees = h.frees ++ w.frees;
      size = omega (arith, h.size, reads_suc f start k, w.count, length-append h.frees w.frees);
      ways = λ n agrees stands.
          let up = h.ways n agrees (front_stands n.symbols (count f) h.frees w.frees stands) in
          let r = up.each k p (omega arith) at in
          let begin = doubled (place f start n k) in
          let here = back_stands n.symbols (count f) (place f start n k).next h.frees w.frees (up.next ∙ sym h.size) stands in
          let goes = w.ways n.symbols begin here (ap (λ cs. cs ++ cs) r.cells) r.goes refl in
          let same = same_drawn (count f) m n types f.step n.symbols begin s.step_reads agrees in
          let last : Reaches f start n (suc k) q = record {
            goes = ap (λ (d : Drawn). d.goes) (place_suc f start n k) ∙ ap (λ (d : Drawn). d.goes) (sym same) ∙ goes.goes;
            cells = ap (λ (d : Drawn). d.cells) (place_suc f start n k) ∙ ap (λ (d : Drawn). drop (length (cell_types f)) d.cells) (sym same) ∙ ap (drop (length (cell_types f))) goes.cells ∙ i.reaches;
            sites = ap (λ (d : Drawn). d.sites) (place_suc f start n k) ∙ ap (λ (d : Drawn). d.sites) (sym same) ∙ goes.listed ∙ sym w.sites;
          } in
          record {
            each = λ j x l b. elim (leb_tells (suc j) (k + 1)) [
              | inl y ↦ up.each j x y.1 b
              | inr y ↦
                  let end : j ≡ suc k = omega (arith, l, y.1) in
                  let both : Some q ≡ Some x = sym later ∙ ap (slice_get positions) (sym end) ∙ b in
                  let is : q ≡ x = cc in
                  subst (λ e. Reaches f start n e x) (sym end) (subst (Reaches f start n (suc k)) is last)
            ];
            next =
                ap (λ (d : Drawn). d.next) (place_suc f start n k) ∙ next_after n types f.step n.symbols begin ∙ ap (λ e. e + all_draws f.step) up.next ∙ sym (reads_suc f start k);
          };
    }

found_to : (f : Flat) (start : Start) (m : Model) (steps : ℕ) (positions : List FlatPosition) → IsSound f → IsLinked f m start steps positions → (k : ℕ) → k < steps + 1 → FoundTo f start m k positions
found_to f start m steps positions s linked zero l =
    let p = at_place positions 0 (omega (arith, l, linked.count)) in
    found_first f start m positions p.0 s p.1 (linked.begins p.0 p.1)
found_to f start m steps positions s linked (suc k) l =
    let p = at_place positions k (omega (arith, l, linked.count)) in
    let q = at_place positions (suc k) (omega (arith, l, linked.count)) in
    found_next f start m k positions p.0 q.0 s (found_to f start m steps positions s linked k (omega (arith, l))) p.1 q.1
    (linked.goes_on k p.0 q.0 p.1 (ap (slice_get positions) (add-one k) ∙ q.1))

-- Copies beside each other.

pad : ℕ → List Value
pad zero = []
pad (suc n) = nothing ∷ pad n

pad_length : (n : ℕ) → length (pad n) ≡ n
unfolding pad
pad_length zero = refl
pad_length (suc n) = ap suc (pad_length n)

gap : (a b : ℕ) → a ≤ b → (n : ℕ) × (a + n ≡ b)
gap zero b h = (b, omega arith)
gap (suc a) zero h = absurd (omega (arith, h))
gap (suc a) (suc b) h = let g = gap a b (omega (arith, h)) in (g.0, omega (arith, g.1))

-- the symbols of a copy: each model that has them behind the constants goes along the positions
record FoundCopy (f : Flat) (start : Start) (steps width : ℕ) (constants : List Value) (tables : List Table) (positions : List FlatPosition) : Type 0 where
  own : List Value
  size : length own ≡ width
  total : length positions ≡ steps + 1
  ways : (n : Model) (more : List Value) → n.tables ≡ tables → n.symbols ≡ constants ++ (own ++ more) → (j : ℕ) (p : FlatPosition) → j < steps + 1 → slice_get positions j ≡ Some p → Reaches f start n j p

fronts_agree : (constants xs ys : List Value) (m n : Model) → m.tables ≡ n.tables → m.symbols ≡ constants ++ xs → n.symbols ≡ constants ++ ys → AgreeBelow (length constants) m n
fronts_agree constants xs ys m n t h g = record {
  symbols = λ k l. ap (λ s. slice_get s k) h ∙ slice_get-front constants xs k l ∙ sym (slice_get-front constants ys k l) ∙ sym (ap (λ s. slice_get s k) g);
  tables = t;
}

agree_on : (c : ℕ) (a b d : Model) → AgreeBelow c a b → AgreeBelow c a d → AgreeBelow c b d
agree_on c a b d h g = record { symbols = λ k l. sym (h.symbols k l) ∙ g.symbols k l; tables = sym h.tables ∙ g.tables }

stand_there : (constants frees more : List Value) (n : Model) → n.symbols ≡ constants ++ (frees ++ more) → StandAt n.symbols (length constants) frees
stand_there constants frees more n h k l = ap (λ s. slice_get s (length constants + k)) h ∙ slice_get-back constants (frees ++ more) k ∙ slice_get-front frees more k l

found_copy : (f : Flat) (start : Start) (steps width : ℕ) (constants others : List Value) (m : Model) (positions : List FlatPosition) → IsSound f → count f ≡ length constants → m.symbols ≡ constants ++ others → reads_up_to f start steps ≤ count f + width
    → IsCopy f m start steps positions → FoundCopy f start steps width constants m.tables positions
found_copy f start steps width constants others m positions s c h l i =
    let w = found_to f start i.own steps positions s i.linked steps (omega arith) in
    let g = gap (reads_up_to f start steps) (count f + width) l in
    record {
      own = w.frees ++ pad g.0;
      size = omega (arith, length-append w.frees (pad g.0), pad_length g.0, g.1, w.size);
      total = i.linked.count;
      ways = λ n more t e j p b at.
          let whole : n.symbols ≡ constants ++ (w.frees ++ (pad g.0 ++ more)) = e ∙ ap (λ xs. constants ++ xs) (append_assoc w.frees (pad g.0) more) in
          let agrees = subst (λ x. AgreeBelow x m n) (sym c) (fronts_agree constants others (w.frees ++ (pad g.0 ++ more)) m n (sym t) h whole) in
          let stands = subst (λ x. StandAt n.symbols x w.frees) (sym c) (stand_there constants w.frees (pad g.0 ++ more) n whole) in
          (w.ways n (agree_on (count f) m i.own n i.agrees agrees) stands).each j p b at;
    }

data AllFound (f : Flat) (start : Start) (steps width : ℕ) (constants : List Value) (tables : List Table) : List (List FlatPosition) → Type 0 where
  no_copy : AllFound f start steps width constants tables []
  copy : (ps : List FlatPosition) (rest : List (List FlatPosition)) → FoundCopy f start steps width constants tables ps → AllFound f start steps width constants tables rest → AllFound f start steps width constants tables (ps ∷ rest)

found_copies : (f : Flat) (start : Start) (steps width : ℕ) (constants others : List Value) (m : Model) (pss : List (List FlatPosition)) → IsSound f → count f ≡ length constants → m.symbols ≡ constants ++ others → reads_up_to f start steps ≤ count f + width
    → All (IsCopy f m start steps) pss → AllFound f start steps width constants m.tables pss
found_copies f start steps width constants others m [] s c h l i = no_copy
found_copies f start steps width constants others m (ps ∷ rest) s c h l i =
    copy ps rest (found_copy f start steps width constants others m ps s c h l (All-head (IsCopy f m start steps) ps rest i)) (found_copies f start steps width constants others m rest s c h l (All-tail (IsCopy f m start steps) ps rest i))

-- the symbols of all copies, one copy behind another
symbols_of : (f : Flat) (start : Start) (steps width : ℕ) (constants : List Value) (tables : List Table) (pss : List (List FlatPosition)) → AllFound f start steps width constants tables pss → List Value
symbols_of f start steps width constants tables _ no_copy = []
symbols_of f start steps width constants tables _ (copy ps rest w ws) = w.own ++ symbols_of f start steps width constants tables rest ws

-- each copy goes along its positions
data AllReach (f : Flat) (start : Start) (steps : ℕ) : List Model → List (List FlatPosition) → Type 0 where
  none : AllReach f start steps [] []
  one : (m : Model) (ps : List FlatPosition) (ms : List Model) (rest : List (List FlatPosition)) → length ps ≡ steps + 1 → ((j : ℕ) (p : FlatPosition) → j < steps + 1 → slice_get ps j ≡ Some p → Reaches f start m j p)
      → AllReach f start steps ms rest → AllReach f start steps (m ∷ ms) (ps ∷ rest)

take_front : (xs ys : List Value) → take (length xs) (xs ++ ys) ≡ xs
take_front [] [] = refl
take_front [] (y ∷ ys) = refl
take_front (x ∷ xs) ys = ap (λ zs. x ∷ zs) (take_front xs ys)

drop_front : (xs ys : List Value) → drop (length xs) (xs ++ ys) ≡ ys
drop_front [] ys = refl
drop_front (x ∷ xs) ys = drop_front xs ys

drop_none : (n : ℕ) → drop {A = Value} n [] ≡ []
drop_none zero = refl
drop_none (suc n) = refl

drop_at : (a b c : ℕ) (xs : List Value) → c ≡ a + b → drop c xs ≡ drop b (drop a xs)
drop_at zero b c xs e = ap (λ n. drop n xs) (omega (arith, e))
drop_at (suc a) b zero xs e = absurd (omega (arith, e))
drop_at (suc a) b (suc c) [] e = sym (drop_none b)
drop_at (suc a) b (suc c) (x ∷ xs) e = drop_at a b c xs (omega (arith, e))

reach_from : (f : Flat) (start : Start) (steps width : ℕ) (constants : List Value) (tables : List Table) (m : Model) (i at : ℕ) (pss : List (List FlatPosition)) → m.tables ≡ tables → take (count f) m.symbols ≡ constants
    → at ≡ i * width → (ws : AllFound f start steps width constants tables pss) → drop (count f + at) m.symbols ≡ symbols_of f start steps width constants tables pss ws → AllReach f start steps (read_from (count f) width m i (length pss)) pss
unfolding read_from symbols_of
reach_from f start steps width constants tables m i at _ t front e no_copy d = none
reach_from f start steps width constants tables m i at _ t front e (copy ps rest w ws) d =
    let others = symbols_of f start steps width constants tables rest ws in
    let behind : drop (count f + i * width) m.symbols ≡ w.own ++ others = ap (λ n. drop (count f + n) m.symbols) (sym e) ∙ d in
    let symbols : (read_by (count f) (i * width) m).symbols ≡ constants ++ (w.own ++ others) = (λ j. front j ++ behind j) in
    let next : drop (count f + (at + width)) m.symbols ≡ others =
    drop_at (count f + at) width (count f + (at + width)) m.symbols (omega arith) ∙ ap (drop width) d ∙ ap (λ n. drop n (w.own ++ others)) (sym w.size) ∙ drop_front w.own others in
    one (read_by (count f) (i * width) m) ps (read_from (count f) width m (i + 1) (length rest)) rest w.total (w.ways (read_by (count f) (i * width) m) others t symbols)
    (reach_from f start steps width constants tables m (i + 1) (at + width) rest t front (next_at i width at e) ws next)
  where
    next_at : (i width at : ℕ) → at ≡ i * width → at + width ≡ (i + 1) * width
    next_at i width at e = ap (λ n. n + width) e ∙ omega (arith, ap (λ n. n * width) (add-one i))

reach_goes : (f : Flat) (start : Start) (steps : ℕ) (ms : List Model) (pss : List (List FlatPosition)) → AllReach f start steps ms pss → list_all (λ c. (place f start c steps).goes) ms ≡ true
reach_goes f start steps _ _ none = refl
reach_goes f start steps _ _ (one m ps ms rest c w ws) =
    let p = at_place ps steps (omega (arith, c)) in
    ap (λ b. b && list_all (λ c. (place f start c steps).goes) ms) (w steps p.0 (omega arith) p.1).goes ∙ reach_goes f start steps ms rest ws

reach_cells : (f : Flat) (start : Start) (steps k : ℕ) (ms : List Model) (pss : List (List FlatPosition)) → k < steps + 1 → AllReach f start steps ms pss → cells_of f start ms k ≡ cells_at k pss
reach_cells f start steps k _ _ l none = refl
reach_cells f start steps k _ _ l (one m ps ms rest c w ws) =
    let p = at_place ps k (omega (arith, l, c)) in
    let here : (place f start m k).cells ≡ cells_in (slice_get ps k) = (w k p.0 l p.1).cells ∙ sym (ap cells_in p.1) in
    λ i. here i ∷ reach_cells f start steps k ms rest l ws i

reach_sites : (f : Flat) (start : Start) (steps k : ℕ) (ms : List Model) (pss : List (List FlatPosition)) → k < steps + 1 → AllReach f start steps ms pss → sites_of f start ms k ≡ sites_at k pss
reach_sites f start steps k _ _ l none = refl
reach_sites f start steps k _ _ l (one m ps ms rest c w ws) =
    let p = at_place ps k (omega (arith, l, c)) in
    let here : (place f start m k).sites ≡ sites_in (slice_get ps k) = (w k p.0 l p.1).sites ∙ sym (ap sites_in p.1) in
    λ i. here i ∷ reach_sites f start steps k ms rest l ws i

refuted_in : (f : Flat) (l : CopyLine) (t : FlatCopies) (base m : Model) (ms : List Model) → IsSound f → IsLineOf f l → RefutesCopies f l t → AgreeBelow (count f) base m → axioms_hold f base ≡ true
    → ((k : ℕ) → k < l.steps → ask_all f base (cells_at k t.copies) l.before ≡ true) → ((k : ℕ) → k < l.steps + 1 → ask_all f base (cells_at k t.copies) l.throughout ≡ true)
    → fails f base (cells_at l.steps t.copies) (sites_at l.steps t.copies) l.subject ≡ true → AllReach f l.start l.steps ms t.copies → is_refuted_in f l m ms ≡ true
refuted_in f l t base m ms s o r a x b th fl w =
    let start = l.start in
    let axioms : axioms_hold f m ≡ true = sym (same_axioms f base m a s.formulas) ∙ x in
    let goes = reach_goes f start l.steps ms t.copies w in
    let before : all_below l.steps (λ k. ask_all f m (cells_of f start ms k) l.before) ≡ true =
    all_below_all l.steps (λ k. ask_all f m (cells_of f start ms k) l.before) (λ k h.
    ap (λ cs. ask_all f m cs l.before) (reach_cells f start l.steps k ms t.copies (omega (arith, h)) w) ∙ sym (same_ask_all f base m (cells_at k t.copies) l.before a o.before) ∙ b k h) in
    let throughout : all_below (l.steps + 1) (λ k. ask_all f m (cells_of f start ms k) l.throughout) ≡ true =
    all_below_all (l.steps + 1) (λ k. ask_all f m (cells_of f start ms k) l.throughout) (λ k h.
    ap (λ cs. ask_all f m cs l.throughout) (reach_cells f start l.steps k ms t.copies h w) ∙ sym (same_ask_all f base m (cells_at k t.copies) l.throughout a o.throughout) ∙ th k h) in
    let failed : fails f m (cells_of f start ms l.steps) (sites_of f start ms l.steps) l.subject ≡ true =
    ap (λ cs. fails f m cs (sites_of f start ms l.steps) l.subject) (reach_cells f start l.steps l.steps ms t.copies (omega arith) w)
    ∙ ap (λ ns. fails f m (cells_at l.steps t.copies) ns l.subject) (reach_sites f start l.steps l.steps ms t.copies (omega arith) w)
    ∙ sym (same_fails f base m (cells_at l.steps t.copies) (sites_at l.steps t.copies) l.subject a o.subject) ∙ fl in
    (λ i. axioms i && (goes i && (before i && (throughout i && failed i))))

count_is : (f : Flat) (constants : List Value) → count f ≡ length constants → count f + 0 ≡ length constants
count_is f constants c = omega (arith, c)

pub found : (f : Flat) (l : CopyLine) (width : ℕ) (t : FlatCopies) → IsSound f → IsLineOf f l → reads_up_to f l.start l.steps ≤ count f + width → RefutesCopies f l t → (m : Model) × (is_refuted_by f l width m ≡ true)
found f l width t s o h r =
    let constants = t.constants in
    let base = r.model in
    let c : count f ≡ length constants = sym (fit_length (constant_types f) constants r.constants.fit ∙ length-map f.constants (λ c. c.ty)) in
    let ws = found_copies f l.start l.steps width constants r.constants.others base t.copies s c r.constants.symbols h r.linked in
    let own = symbols_of f l.start l.steps width constants base.tables t.copies ws in
    let m : Model = record { symbols = constants ++ own; tables = base.tables } in
    let front : take (count f) m.symbols ≡ constants = (λ i. take (c i) (constants ++ own)) ∙ take_front constants own in
    let behind : drop (count f + 0) m.symbols ≡ own = (λ i. drop (count_is f constants c i) (constants ++ own)) ∙ drop_front constants own in
    let agrees = subst (λ n. AgreeBelow n base m) (sym c) (fronts_agree constants r.constants.others own base m refl r.constants.symbols refl) in
    let reach = reach_from f l.start l.steps width constants base.tables m 0 0 t.copies refl front (omega arith) ws behind in
    let whole = refuted_in f l t base m (read_from (count f) width m 0 (length t.copies)) s o r agrees r.axioms r.before r.throughout r.fails reach in
    (m, subst (λ n. is_refuted_in f l m (copies_of f width n m) ≡ true) r.number whole)
