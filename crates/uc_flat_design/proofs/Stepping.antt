-- Steps of a design are steps of its code over cells, both ways.
use Rattle.std.proofs.Common.{◌≡◌, ℕ, ◌+◌, List, [], ◌∷◌, ◌++◌, length, drop, refl, sym, ap, ◌∙◌, subst, true, false, Bool, Option, Some, None, arith}
use Rattle.std.specs.Prelude.{if◌then◌else◌}
use Rattle.std.specs.Option.{option_map, option_and_then}
use Rattle.std.proofs.lemmas.List.{length-map}
use Rattle.uc_values.specs.declared.ty.Ty.{Ty}
use Rattle.uc_values.specs.declared.value.Value.{Value}
use Rattle.uc_meaning.specs.declared.scope.Interp.{Interp}
use Rattle.uc_meaning.specs.declared.scope.Site.{Site}
use Rattle.uc_meaning.specs.Lookup.{System}
use Rattle.uc_meaning.specs.Cells.{Cell}
use Rattle.uc_meaning.specs.Steps.{Watched, Check, Kept, Broken, Constraint, Blocks, AllKeep, kept_if, writes, check_by, is_input, state_of, watched_first}
use Rattle.uc_ops.specs.declared.model.Model.{Model}
use Rattle.uc_ops.specs.Meaning.{part}
use Rattle.uc_flat.specs.declared.statement.Statement.{Statement}
use Rattle.uc_flat.specs.declared.statement.Statement.TheVariants.{Havoc}
use Rattle.uc_flat.specs.Executions.{FitAll}
use Rattle.uc_flat.specs.Running.{Placed, run_all}
use Rattle.uc_flat_expressions.specs.declared.typed.Meant.{Meant}
use Rattle.uc_flat_design.proofs.FlatInitLawOptions.{then_some, map_some}
use Rattle.uc_flat_design.proofs.Turns.{run_append, run_none}
use Rattle.uc_flat_code.specs.declared.once.Part.{Part}
use Rattle.uc_flat_code.specs.Once.{Writer, touched, written_by}
use Rattle.uc_flat_design.specs.Next.{IsNextTable, types_in, inputs_from, step_code, IsReached, IsFound, StepFitsLaw, StepFoundLaw, StepIsLaw}
use Rattle.uc_flat_design.proofs.Effects.{Effect, parts_of, parts_in, all_agree, performed, performed_append, kept_true, none_some}
use Rattle.uc_flat_design.proofs.Leaving.{FineAll, left_fits}
use Rattle.uc_flat_design.proofs.Told.{fit_length, Fine, Once, none_read, led, at, asked, ran, Stays, Told, goes_both, havoc_goes, code_told}
use Rattle.uc_flat_design.proofs.Orders.{asked_in_order, asked_of_block}
use Rattle.uc_flat_design.proofs.Alike.{Agree}
use Rattle.uc_flat_design.proofs.Settled.{ArePlain, at_fields, touched_append, neither, input_effects, keeps_same, keeps_all, frees, settled, settles, settled_new, left_length, left_kept, left_agrees}

broken_kept : (w : Watched) → Broken ≡ Kept w → ⊥
broken_kept w h = cc

drop_front : (xs ys : List Value) → drop (length xs) (xs ++ ys) ≡ ys
drop_front [] ys = refl
drop_front (x ∷ xs) ys = drop_front xs ys

fine_inputs : (cells : List Cell) (j : ℕ) (types : List Ty) → j + length cells ≡ length types → FineAll types (input_effects j cells)
fine_inputs [] j types h = tt
fine_inputs (c ∷ cells) j types h = by_kind (is_input c.kind) (fine_inputs cells (j + 1) types (omega (arith, h)))
  where
    by_kind : (b : Bool) → FineAll types (input_effects (j + 1) cells) → FineAll types ((if b then (j, [], None) ∷ [] else []) ++ input_effects (j + 1) cells)
    by_kind true rest = (omega (arith, h), tt, tt, rest)
    by_kind false rest = rest

fine_append : (types : List Ty) (xs ys : List Effect) → FineAll types xs → FineAll types ys → FineAll types (xs ++ ys)
fine_append types [] ys f g = g
fine_append types (x ∷ xs) ys f g = (f.0, f.1, f.2, fine_append types xs ys f.3 g)

-- any values agree with inputs
inputs_agree : (types : List Ty) (new : List Value) (cells : List Cell) (j : ℕ) (ms : List Effect) → all_agree types new ms ≡ true → all_agree types new (input_effects j cells ++ ms) ≡ true
inputs_agree types new [] j ms h = h
inputs_agree types new (c ∷ cells) j ms h = by_kind (is_input c.kind) (inputs_agree types new cells (j + 1) ms h)
  where
    by_kind : (b : Bool) → all_agree types new (input_effects (j + 1) cells ++ ms) ≡ true → all_agree types new (((if b then (j, [], None) ∷ [] else []) ++ input_effects (j + 1) cells) ++ ms) ≡ true
    by_kind true rest = rest
    by_kind false rest = rest

module _ (system : System) (blocks : Blocks) (i : Interp) (m : Model) (names : List Meant) (cells : List Cell) (old new : List Value)
    (fit_old : FitAll (types_in cells) old) (fit_new : FitAll (types_in cells) new) (table : IsNextTable system m (types_in cells) names i) (plain : ArePlain (types_in cells)) where
  abbrev types : List Ty
  types = types_in cells

  abbrev two : List Ty
  two = types ++ types

  abbrev n : ℕ
  n = length cells

  abbrev count : n ≡ length types
  count = sym (length-map cells (λ (c : Cell). c.type))

  abbrev here : List Value → List Value → List Value → List ℕ → Placed
  here = at system blocks i m types names old new fit_old fit_new table n count

  abbrev leads : Option (List Effect) → List Value → List Value → List Value → List ℕ → Option Placed
  leads = ran system blocks i m types names old new fit_old fit_new table n count

  abbrev seen_by : Option (List Effect) → Watched → Check
  seen_by = asked system blocks i m types names old new fit_old fit_new table n count

  abbrev Tells : Constraint → Writer → List Statement → Type 0
  Tells = Told system blocks i m types names old new fit_old fit_new table n count []

  abbrev hs : List Effect
  hs = input_effects 0 cells

  fine_hs : FineAll types hs
  fine_hs = fine_inputs cells 0 types (omega (arith, count))

  inputs_go : (cs : List Cell) (j : ℕ) → j + length cs ≡ length types → (xs left others : List Value) (sites : List ℕ) → FitAll types xs → run_all m two (inputs_from (j + n) cs) (here xs left others sites) ≡ leads (Some (input_effects j cs)) xs left others sites
  unfolding inputs_from
  inputs_go [] j e xs left others sites fit = run_none m two (here xs left others sites)
  inputs_go (c ∷ cs) j e xs left others sites fit = by_kind (is_input c.kind) (inputs_go cs (j + 1) (omega (arith, e)))
    where
      moved : (zs l o : List Value) (s : List ℕ) → run_all m two (inputs_from (j + n + 1) cs) (here zs l o s) ≡ run_all m two (inputs_from (j + 1 + n) cs) (here zs l o s)
      moved zs l o s = ap (λ q. run_all m two (inputs_from q cs) (here zs l o s)) (omega arith)

      by_kind : (b : Bool) → ((zs l o : List Value) (s : List ℕ) → FitAll types zs → run_all m two (inputs_from (j + 1 + n) cs) (here zs l o s) ≡ leads (Some (input_effects (j + 1) cs)) zs l o s)
          → run_all m two ((if b then Havoc (j + n) false ∷ [] else []) ++ inputs_from (j + n + 1) cs) (here xs left others sites) ≡ leads (Some ((if b then (j, [], None) ∷ [] else []) ++ input_effects (j + 1) cs)) xs left others sites
      by_kind true rest =
          run_append m two (Havoc (j + n) false ∷ []) (inputs_from (j + n + 1) cs) (here xs left others sites)
          ∙ ap (option_and_then (run_all m two (inputs_from (j + n + 1) cs))) (havoc_goes system blocks i m types names old new fit_old fit_new table n count j (j + n) refl xs left others sites)
          ∙ goes_both system blocks i m types names old new fit_old fit_new table n count (Some ((j, [], None) ∷ [])) (Some (input_effects (j + 1) cs)) (inputs_from (j + n + 1) cs) (omega (arith, e), tt, tt, tt)
          (λ zs l o s f. moved zs l o s ∙ rest zs l o s f) xs left others sites fit
      by_kind false rest = moved xs left others sites ∙ rest xs left others sites fit

  -- what is read and written in the end is that of the new state
  at_end : (ps : List Part) (zs : List Value) → zs ≡ new → Agree ps zs new
  at_end ps zs e k h = ap (λ xs. part xs k) e

  -- the code of a step, where effects lead to the new state
  comes_to : (c : Constraint) (u : Writer) (flat : List Statement) (a : Tells c u flat) (after : List Part) (ms : List Effect) (others : List Value) → u [] ≡ Some after → a.effects ≡ Some ms → performed types (hs ++ ms) old others ≡ Some (new, [])
      → run_all m two (step_code cells flat) (here old [] others []) ≡ Some (here new [] [] [])
  comes_to c u flat a after ms others w e h =
      let s = then_some (λ (z : List Value × List Value). performed types ms z.0 z.1) (performed types hs old others) (new, []) (sym (performed_append types hs ms old others) ∙ h) in
      let z = s.0 in
      let inputs : run_all m two (inputs_from n cells) (here old [] others []) ≡ Some (here z.0 [] z.1 []) =
      ap (λ q. run_all m two (inputs_from q cells) (here old [] others [])) (omega arith) ∙ inputs_go cells 0 (omega (arith, count)) old [] others [] fit_old
      ∙ ap (option_map (λ (q : List Value × List Value). here q.0 [] q.1 [])) s.1 in
      run_append m two (inputs_from n cells) flat (here old [] others [])
      ∙ ap (option_and_then (run_all m two flat)) inputs
      ∙ a.comes [] after z.0 [] z.1 new [] [] w (none_read []) (left_fits types hs old others z fine_hs fit_old s.1) (at_end after new refl) (ap (λ o. led types o z.0 z.1) e ∙ s.2)

  -- Where the code of a step leads: the inputs have these values, and the code of the block goes on from there.
  record Ended (flat : List Statement) (to choices others : List Value) (sites : List ℕ) : Type 0 where
    middle : List Value × List Value
    inputs : performed types hs old others ≡ Some middle
    fit : FitAll types middle.0
    left : List Value
    block : run_all m two flat (here middle.0 choices middle.1 []) ≡ Some (here to choices left [])
    fit_to : FitAll types to
    no_choices : choices ≡ []
    no_sites : sites ≡ []

  behind_old : (xs : List Value) → drop (length types) (old ++ xs) ≡ xs
  behind_old xs = ap (λ k. drop k (old ++ xs)) (sym (fit_length types old fit_old)) ∙ drop_front old xs

  ended : (c : Constraint) (u : Writer) (flat : List Statement) (a : Tells c u flat) (to choices : List Value) (sites : List ℕ) → (r : IsReached m types (step_code cells flat) old to choices sites) → Ended flat to choices r.others sites
  ended c u flat a to choices sites r =
      let end : Placed = record { cells = r.last; left = []; others = []; sites = sites } in
      let s = then_some (run_all m two flat) (run_all m two (inputs_from n cells) (here old choices r.others [])) end (sym (run_append m two (inputs_from n cells) flat (here old choices r.others [])) ∙ r.ends) in
      let t = map_some (λ (q : List Value × List Value). here q.0 choices q.1 []) (performed types hs old r.others) s.0
      (sym (ap (λ q. run_all m two (inputs_from q cells) (here old choices r.others [])) (omega arith) ∙ inputs_go cells 0 (omega (arith, count)) old choices r.others [] fit_old) ∙ s.1) in
      let z = t.0 in
      let fit_z : FitAll types z.0 = left_fits types hs old r.others z fine_hs fit_old t.1 in
      let run : run_all m two flat (here z.0 choices z.1 []) ≡ Some end = ap (run_all m two flat) t.2 ∙ s.2 in
      let b : Stays system blocks i m types names old new fit_old fit_new table n count choices [] end = a.leaves z.0 choices z.1 [] end fit_z run in
      let is_to : b.cells ≡ to = sym (behind_old b.cells) ∙ ap (λ (p : Placed). drop (length types) p.cells) (sym b.is) ∙ r.reaches in
      record {
        middle = z;
        inputs = t.1;
        fit = fit_z;
        left = b.others;
        block = run ∙ ap Some b.is ∙ ap (λ xs. Some (here xs choices b.others [])) is_to;
        fit_to = subst (FitAll types) is_to b.fit;
        no_choices = ap (λ (p : Placed). p.left) (sym b.is);
        no_sites = ap (λ (p : Placed). p.sites) b.is;
      }

  even_old : length old ≡ length types
  even_old = fit_length types old fit_old

  even_new : length new ≡ length types
  even_new = fit_length types new fit_new

  -- ---- from the constraint

  ends_at : (ms : List Effect) → FineAll types ms → AllKeep (parts_in ms) 0 cells old new → settled types new fit_new plain (hs ++ ms) old ≡ new
  ends_at ms f keeps =
      settled_new types new fit_new plain (hs ++ ms) old (fine_append types hs ms fine_hs f) fit_old even_old even_new
      (λ k fields l there free.
      let b = neither (touched (parts_of hs) (at_fields k fields)) (touched (parts_of ms) (at_fields k fields)) (sym (touched_append hs ms (at_fields k fields)) ∙ free) in
      keeps_same cells 0 k ms old new fields plain fit_old fit_new keeps (omega (arith, l, count)) there
      (ap (λ q. touched (parts_of hs) (at_fields q fields)) (omega arith) ∙ b.0) (ap (λ q. touched (parts_of ms) (at_fields q fields)) (omega arith) ∙ b.1))

  abbrev start : List Value → Watched
  start choices = watched_first i (state_of old) (state_of new) choices

  found_by : (c : Constraint) (u : Writer) (flat : List Statement) (a : Tells c u flat) (seen : Watched) (after : List Part) (choices : List Value) (sites : List Site) → u [] ≡ Some after → c (start choices) ≡ Kept seen → seen.left ≡ [] → seen.sites ≡ sites → AllKeep seen.written 0 cells old new
      → (e : Option (List Effect)) → a.effects ≡ e → IsFound m cells flat old new choices sites
  found_by c u flat a seen after choices sites w h used listed keeps None e = absurd (broken_kept seen (sym (a.asks (start choices) refl ∙ ap (λ o. seen_by o (start choices)) e) ∙ h))
  found_by c u flat a seen after choices sites w h used listed keeps (Some ms) e =
      let k = kept_true (all_agree types new ms) (writes (parts_in ms) (start choices)) seen (sym (a.asks (start choices) refl ∙ ap (λ o. seen_by o (start choices)) e) ∙ h) in
      let fine : FineAll types ms = subst (Fine types) e a.fine in
      let all = hs ++ ms in
      let kept : AllKeep (parts_in ms) 0 cells old new = subst (λ (w : Watched). AllKeep w.written 0 cells old new) (sym k.1) keeps in
      let runs = settles types new fit_new plain all old (fine_append types hs ms fine_hs fine) (inputs_agree types new cells 0 ms k.0) in
      record {
        no_choices = ap (λ (w : Watched). w.left) k.1 ∙ used;
        no_sites = sym listed ∙ ap (λ (w : Watched). w.sites) (sym k.1);
        reached = record {
          others = frees types new fit_new plain all;
          last = old ++ new;
          ends = comes_to c u flat a after ms (frees types new fit_new plain all) w e (runs ∙ ap (λ xs. Some (let p : List Value × List Value = (xs, []) in p)) (ends_at ms fine kept));
          reaches = behind_old new;
        };
      }

  -- ---- to the constraint

  asks_by : (c : Constraint) (u : Writer) (flat : List Statement) (a : Tells c u flat) (after : List Part) (choices : List Value) (sites : List ℕ) → u [] ≡ Some after → (r : IsReached m types (step_code cells flat) old new choices sites)
      → (e : Option (List Effect)) → a.effects ≡ e → (choices ≡ []) × (sites ≡ []) × (seen : Watched) × (c (start []) ≡ Kept seen) × (seen.left ≡ []) × (seen.sites ≡ []) × AllKeep seen.written 0 cells old new
  asks_by c u flat a after choices sites w r None e =
      let q = ended c u flat a new choices sites r in
      absurd (none_some (new, q.left) (sym (ap (λ o. led types o q.middle.0 q.middle.1) e) ∙ a.goes [] after q.middle.0 choices q.middle.1 new q.left [] w (none_read []) q.fit (at_end after new refl) q.block))
  asks_by c u flat a after choices sites w r (Some ms) e =
      let q = ended c u flat a new choices sites r in
      let z = q.middle in
      let p : List Value × List Value = (new, q.left) in
      let run : performed types ms z.0 z.1 ≡ Some p = sym (ap (λ o. led types o z.0 z.1) e) ∙ a.goes [] after z.0 choices z.1 new q.left [] w (none_read []) q.fit (at_end after new refl) q.block in
      let fine : FineAll types ms = subst (Fine types) e a.fine in
      let once = subst (λ o. Once [] o after) e (a.once [] after w) in
      let even_z : length z.0 ≡ length types = left_length types hs old r.others z fine_hs q.inputs ∙ even_old in
      let agree : all_agree types new ms ≡ true = left_agrees types [] ms z.0 z.1 p plain fine q.fit once.1 even_z run in (
        q.no_choices,
        q.no_sites,
        writes (parts_in ms) (start []),
        a.asks (start []) refl ∙ ap (λ o. seen_by o (start [])) e ∙ ap (λ b. kept_if b (writes (parts_in ms) (start []))) agree,
        refl,
        refl,
        keeps_all cells 0 ms old new plain fit_old (λ k fields l there b d.
            sym (left_kept types ms z.0 z.1 p k fields fine q.fit even_z there run (ap (λ q'. touched (parts_of ms) (at_fields q' fields)) (omega arith) ∙ d)
            ∙ left_kept types hs old r.others z k fields fine_hs fit_old even_old there q.inputs (ap (λ q'. touched (parts_of hs) (at_fields q' fields)) (omega arith) ∙ b))),
      )

pub found_holds : StepFoundLaw
found_holds system blocks i m names cells code order flat old new choices sites after same is once fit_old fit_new step =
    let count = sym (length-map cells (λ (c : Cell). c.type)) in
    let a = code_told system blocks i m (types_in cells) names old new fit_old fit_new is.table (length cells) count order flat is.is in
    let moved = asked_in_order system blocks i m (types_in cells) names old new fit_old fit_new is.table (length cells) count cells order code flat choices sites same is.is step in
    found_by system blocks i m names cells old new fit_old fit_new is.table is.plain (check_by system blocks order) (written_by names (length cells) order) flat a moved.seen after choices sites once moved.holds moved.uses_all moved.lists moved.keeps a.effects refl

pub asks_holds : StepIsLaw
asks_holds system blocks i m names cells code order flat old new choices sites after same is once fit_old fit_new reached =
    let count = sym (length-map cells (λ (c : Cell). c.type)) in
    let a = code_told system blocks i m (types_in cells) names old new fit_old fit_new is.table (length cells) count order flat is.is in
    let s = asks_by system blocks i m names cells old new fit_old fit_new is.table is.plain (check_by system blocks order) (written_by names (length cells) order) flat a after choices sites once reached a.effects refl in
    record {
      no_choices = s.0;
      no_sites = s.1;
      asked = asked_of_block system blocks i m (types_in cells) names old new fit_old fit_new is.table (length cells) count cells order code flat [] [] same is.is (record { seen = s.2; holds = s.3; uses_all = s.4; lists = s.5; keeps = s.6 });
    }

pub fits_hold : StepFitsLaw
fits_hold system blocks i m names cells code flat old new choices sites is fit_old reached =
    let a = code_told system blocks i m (types_in cells) names old old fit_old fit_old is.table (length cells) (sym (length-map cells (λ (c : Cell). c.type))) code flat is.is in
    (ended system blocks i m names cells old old fit_old fit_old is.table is.plain (check_by system blocks code) (written_by names (length cells) code) flat a new choices sites reached).fit_to
