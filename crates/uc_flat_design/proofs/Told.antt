-- A next block and its code over cells give the same cells the same values.
use Rattle.std.proofs.Common.{◌≡◌, ℕ, ◌+◌, ◌<◌, List, [], ◌∷◌, ◌++◌, map, length, refl, sym, ap, ◌∙◌, subst, true, false, Bool, Option, Some, None, arith, zero, suc, drop, append_assoc, append-nil}
use Rattle.std.specs.Prelude.{if◌then◌else◌, ◌&&◌, ◌||◌, nat_eq, slice_get, slice_set}
use Rattle.std.specs.Option.{option_map, option_and_then}
use Rattle.std.specs.List.{flat_map}
use Rattle.uc_lexer.specs.declared.place.Place.{Place}
use Rattle.uc_syntax.specs.declared.expression.Expr.{Expr}
use Rattle.uc_syntax.specs.declared.place.Identifier.{Identifier}
use Rattle.uc_syntax.specs.declared.statement.Arm.{Arm}
use Rattle.uc_syntax.specs.declared.statement.Target.{Target}
use Rattle.uc_syntax.specs.declared.statement.Stmt.{Stmt}
use Rattle.uc_syntax.specs.declared.statement.Stmt.TheOpen.{Stmt-F}
use Rattle.uc_syntax.specs.declared.statement.Stmt.TheOpen.Stmt-F.{Local as Declare, Skip, Block, Assert, Assume, Havoc, Assign, If, Case, For, Call, Next}
use Rattle.uc_syntax.specs.declared.statement.Stmt.TheViews.{roll-Stmt}
use Rattle.uc_syntax.specs.declared.statement.Stmt.TheFolds.{fold-Stmt, map-Stmt, fold-roll-Stmt, ind-Stmt}
use Rattle.uc_values.specs.declared.ty.Ty.{Ty}
use Rattle.uc_values.specs.declared.value.Value.{Value}
use Rattle.uc_values.specs.Values.{fits, truth_of, nothing}
use Rattle.uc_values.specs.Sameness.{same}
use Rattle.uc_meaning.specs.declared.scope.Scope.{Scope}
use Rattle.uc_meaning.specs.declared.scope.Interp.{Interp}
use Rattle.uc_meaning.specs.Lookup.{System}
use Rattle.uc_meaning.specs.Expressions.{Reading, reads, value, name, reading, is_true as is_true_in}
use Rattle.uc_meaning.specs.Code.{else_block, taken, replaced, written_cell}
use Rattle.uc_meaning.specs.Steps.{Watched, Check, Kept, Broken, Constraint, Blocks, then_check, check_each, kept_if, is_prefix, fields_before, from_index, part_reading, part_of_cell, target_parts, name_parts, writes, old_part, is_assigned, check_targets, check_form, check_statement, check_by}
use Rattle.uc_meaning.proofs.Writes.{written_at_top}
use Rattle.uc_ops.specs.declared.model.Model.{Model}
use Rattle.uc_ops.specs.Typing.{part_type, type_or}
use Rattle.uc_ops.specs.Meaning.{part}
use Rattle.uc_flat.specs.declared.expression.Expression.{Expression}
use Rattle.uc_flat.specs.declared.expression.Expression.TheVariants.{Cell as ReadCell}
use Rattle.uc_flat.specs.declared.statement.Statement.{Statement}
use Rattle.uc_flat.specs.declared.statement.Statement.TheVariants.{Assign as AssignCell, Havoc as HavocCell, Assume as AssumeThat, If as IfThat}
use Rattle.uc_flat.specs.Reading.{value_of, is_true}
use Rattle.uc_flat.specs.Running.{Placed, runs, run_all, next_of, with_other, in_turn}
use Rattle.uc_flat.specs.Executions.{FitAll}
use Rattle.uc_flat.proofs.Forms.{value_cell, runs_assign, runs_havoc, runs_assume, runs_if}
use Rattle.uc_flat_expressions.specs.declared.typed.TypedExpression.{TypedExpression}
use Rattle.uc_flat_expressions.specs.declared.typed.Meant.{Meant}
use Rattle.uc_flat_expressions.specs.declared.typed.Meant.TheVariants.{Cell}
use Rattle.uc_flat_expressions.specs.Types.{is_boolean}
use Rattle.uc_flat_expressions.specs.Expressions.{flat_of, all_of}
use Rattle.uc_flat_code.specs.declared.writing.Written.{Written}
use Rattle.uc_flat_code.specs.declared.writing.FlatArm.{FlatArm}
use Rattle.uc_flat_code.specs.Code.{MayBe, may_write, may_havoc, written_as, written, havocked, assume_of, havoc_of, replaced_in, assigned, spares, one_assigned, with_cell, each_assigned, assign_of, in_order, arm_with, arm_of, joined_arms, else_of, if_of, code_form, statement_of, code_of}
use Rattle.uc_flat_design.specs.Tables.{IsSaid}
use Rattle.uc_flat_design.proofs.FlatInitLawOptions.{then_some, map_some, if_some, some_same}
use Rattle.uc_flat_design.proofs.Turns.{run_append, run_none, run_one, run_is}
use Rattle.uc_flat_design.proofs.Forms.{truth_holds, is_written_as, arms_in, else_in}
use Rattle.uc_flat_design.proofs.Fields.{placed, IsPath}
use Rattle.uc_flat_design.proofs.Replacing.{Replaces, replaced_known}
use Rattle.uc_flat_code.specs.declared.once.Part.{Part}
use Rattle.uc_flat_code.specs.Once.{overlaps, touched, new_cells, new_cells_in, read_by, Writer, writes_part, each_writes, either_writes, arms_write, reads_first, writer_of, target_writer, conditions_read, choice_writer, writer_form, writer, written_by}
use Rattle.uc_flat_design.specs.Next.{between, primed_behind, IsCell, IsNextTable}
use Rattle.uc_flat_design.proofs.Effects.{Effect, part_of, parts_of, parts_in, reading_at, part_at, type_of_part, given_value, put, performs, all_agree, performed, agree_append, performed_append, writes_none, writes_more, IsSub, Apart, sub_left, sub_right, sub_then, sub_both, apart_less, apart_append, apart_not, none_some}
use Rattle.uc_flat_design.proofs.Halves.{set_behind, get_behind, part_behind}
use Rattle.uc_flat_design.proofs.Leaving.{FineAll, fit_at, left_fits}
use Rattle.uc_flat_design.proofs.Settled.{at_fields, neither, put_elsewhere}
use Rattle.uc_flat_design.proofs.Alike.{Agree, agree_less, alike}

pub fit_length : (types : List Ty) (values : List Value) → FitAll types values → length values ≡ length types
unfolding FitAll
fit_length [] [] h = refl
fit_length [] (v ∷ values) h = absurd h
fit_length (ty ∷ types) [] h = absurd h
fit_length (ty ∷ types) (v ∷ values) h = omega (arith, fit_length types values h.1)

pub there_below : {A : Type 0} (xs : List A) (k : ℕ) (x : A) → slice_get xs k ≡ Some x → k < length xs
there_below [] k x h = absurd (cc)
there_below (y ∷ xs) zero x h = omega arith
there_below (y ∷ xs) (suc k) x h = omega (arith, there_below xs k x h)

and_true : (b : Bool) → (b && true) ≡ b
and_true true = refl
and_true false = refl

abbrev pub both : Option (List Effect) → Option (List Effect) → Option (List Effect)
both None o = None
both (Some ms) o = option_map (λ ns. ms ++ ns) o

abbrev pub Fine : List Ty → Option (List Effect) → Type 0
Fine types None = Unit {0}
Fine types (Some ms) = FineAll types ms

-- what is given a value is written next, and no part twice
abbrev pub Once : List Part → Option (List Effect) → List Part → Type 0
Once before None next = Unit {0}
Once before (Some ms) next = IsSub (parts_of ms) next × Apart before ms

fine_append : (types : List Ty) (xs ys : List Effect) → FineAll types xs → FineAll types ys → FineAll types (xs ++ ys)
fine_append types [] ys f g = g
fine_append types (x ∷ xs) ys f g = (f.0, f.1, f.2, fine_append types xs ys f.3 g)

fine_both : (types : List Ty) (e f : Option (List Effect)) → Fine types e → Fine types f → Fine types (both e f)
fine_both types None f g h = tt
fine_both types (Some ms) None g h = tt
fine_both types (Some ms) (Some ns) g h = fine_append types ms ns g h

once_both : (before first second : List Part) (e f : Option (List Effect)) → Once before e first → Once (before ++ first) f second → Once before (both e f) (first ++ second)
once_both before first second None f g h = tt
once_both before first second (Some ms) None g h = tt
once_both before first second (Some ms) (Some ns) g h = (
  sub_both ms ns (first ++ second) (sub_then (parts_of ms) first (first ++ second) g.0 (sub_left first second)) (sub_then (parts_of ns) second (first ++ second) h.0 (sub_right first second)),
  apart_append before (before ++ first) ms ns (sub_left before first) (sub_then (parts_of ms) first (before ++ first) g.0 (sub_right before first)) g.1 h.1,
)

once_wider : (before next wider : List Part) (e : Option (List Effect)) → IsSub next wider → Once before e next → Once before e wider
once_wider before next wider None f h = tt
once_wider before next wider (Some ms) f h = (sub_then (parts_of ms) next wider h.0 f, h.1)

once_none : (before next : List Part) → Once before (Some []) next
unfolding touched
once_none before next = (λ p h. absurd (no_part p h), tt)
  where
    no_part : (p : Part) → touched [] p ≡ true → ⊥
    no_part p h = cc

once_part : (x : Effect) (before next : List Part) → writes_part (part_of x) before ≡ Some next → Once before (Some (x ∷ [])) next
once_part x before next h = by_test (touched before (part_of x)) refl
  where
    by_test : (b : Bool) → touched before (part_of x) ≡ b → Once before (Some (x ∷ [])) next
    by_test true t = absurd (none_some next (sym (ap (λ b. if b then None else Some (part_of x ∷ [])) t) ∙ h))
    by_test false t =
        let is : (part_of x ∷ []) ≡ next = some_same (part_of x ∷ []) next (sym (ap (λ b. if b then None else Some (part_of x ∷ [])) t) ∙ h) in
        (λ p q. subst (λ ys. touched ys p ≡ true) is q, (t, tt))

drop_front : (xs ys : List Value) → drop (length xs) (xs ++ ys) ≡ ys
drop_front [] ys = refl
drop_front (x ∷ xs) ys = drop_front xs ys

no_part : (p : Part) → touched [] p ≡ true → ⊥
unfolding touched
no_part p h = cc

pub none_read : (before : List Part) → IsSub [] before
none_read before p h = absurd (no_part p h)

or_more : (b c d : Bool) → (c ≡ true → d ≡ true) → (b || c) ≡ true → (b || d) ≡ true
or_more true c d g q = refl
or_more false c d g q = g q

wider : (before part next : List Part) → IsSub part next → IsSub (before ++ part) (before ++ next)
unfolding touched
wider [] part next f p h = f p h
wider (x ∷ before) part next f p h = or_more (overlaps x p) (touched (before ++ part) p) (touched (before ++ next) p) (wider before part next f p) h

-- ---- cells that no effect overlaps

differs : (b c : Bool) → (b && (c || true)) ≡ false → b ≡ false
differs true true h = h
differs true false h = h
differs false c h = refl

other_number : (x : Effect) (k : ℕ) → overlaps (part_of x) (at_fields k []) ≡ false → nat_eq x.0 k ≡ false
unfolding is_prefix
other_number x k h = differs (nat_eq x.0 k) (is_prefix x.1 []) h

cells_kept : (types : List Ty) (ms : List Effect) (xs vs : List Value) (q : List Value × List Value) (k : ℕ) → performed types ms xs vs ≡ Some q → touched (parts_of ms) (at_fields k []) ≡ false → part q.0 k ≡ part xs k
unfolding touched
cells_kept types [] xs vs q k h free = ap (λ (p : List Value × List Value). part p.0 k) (sym (some_same (xs, vs) q h))
cells_kept types (x ∷ ms) xs vs q k h free =
    let s = then_some (λ (p : List Value × List Value). performed types ms p.0 p.1) (performs types x xs vs) q h in
    let z = s.0 in
    let g = map_some (λ (p : Value × List Value). (put types xs x p.0, p.1)) (given_value (type_of_part types x) x.2 vs) z s.1 in
    let b = neither (overlaps (part_of x) (at_fields k [])) (touched (parts_of ms) (at_fields k [])) free in
    cells_kept types ms z.0 z.1 q k s.2 b.1 ∙ ap (λ (p : List Value × List Value). part p.0 k) (sym g.2) ∙ put_elsewhere types x xs g.0.0 k (other_number x k b.0)

-- the cells that effects leave, and the free values that are left
abbrev pub led : List Ty → Option (List Effect) → List Value → List Value → Option (List Value × List Value)
led types None cells others = None
led types (Some ms) cells others = performed types ms cells others

led_both : (types : List Ty) (e f : Option (List Effect)) (xs vs : List Value) (p q : List Value × List Value) → led types e xs vs ≡ Some p → led types f p.0 p.1 ≡ Some q → led types (both e f) xs vs ≡ Some q
led_both types None f xs vs p q h g = absurd (none_some p h)
led_both types (Some ms) None xs vs p q h g = absurd (none_some q g)
led_both types (Some ms) (Some ns) xs vs p q h g = performed_append types ms ns xs vs ∙ ap (option_and_then (λ (z : List Value × List Value). performed types ns z.0 z.1)) h ∙ g

led_split : (types : List Ty) (e f : Option (List Effect)) (xs vs : List Value) (q : List Value × List Value) → led types (both e f) xs vs ≡ Some q → (z : List Value × List Value) × (led types e xs vs ≡ Some z) × (led types f z.0 z.1 ≡ Some q)
led_split types None f xs vs q h = absurd (none_some q h)
led_split types (Some ms) None xs vs q h = absurd (none_some q h)
led_split types (Some ms) (Some ns) xs vs q h = then_some (λ (z : List Value × List Value). performed types ns z.0 z.1) (performed types ms xs vs) q (sym (performed_append types ms ns xs vs) ∙ h)

led_fits : (types : List Ty) (e : Option (List Effect)) (xs vs : List Value) (q : List Value × List Value) → Fine types e → FitAll types xs → led types e xs vs ≡ Some q → FitAll types q.0
led_fits types None xs vs q f g h = absurd (none_some q h)
led_fits types (Some ms) xs vs q f g h = left_fits types ms xs vs q f g h

-- what was read or written before stays
led_kept : (types : List Ty) (before next : List Part) (e : Option (List Effect)) (xs vs : List Value) (q : List Value × List Value) → Once before e next → led types e xs vs ≡ Some q → Agree before xs q.0
led_kept types before next None xs vs q o r k h = absurd (none_some q r)
led_kept types before next (Some ms) xs vs q o r k h = sym (cells_kept types ms xs vs q k r (apart_not before ms (at_fields k []) h o.1))

agree_then : (ps : List Part) (u v w : List Value) → Agree ps u v → Agree ps v w → Agree ps u w
agree_then ps u v w f g k h = f k h ∙ g k h

module _ (system : System) (blocks : Blocks) (i : Interp) (m : Model) (types : List Ty) (names : List Meant) (old new : List Value)
    (fit_old : FitAll types old) (fit_new : FitAll types new) (table : IsNextTable system m types names i) (n : ℕ) (count : n ≡ length types) where
  abbrev pub here : Scope
  here = between i new old

  abbrev pub two : List Ty
  two = types ++ types

  abbrev pub at : List Value → List Value → List Value → List ℕ → Placed
  at cells left others sites = record { cells = old ++ cells; left = left; others = others; sites = sites }

  abbrev pub asked : Option (List Effect) → Watched → Check
  asked None w = Broken
  asked (Some ms) w = kept_if (all_agree types new ms) (writes (parts_in ms) w)

  abbrev pub ran : Option (List Effect) → List Value → List Value → List Value → List ℕ → Option Placed
  ran e cells left others sites = option_map (λ (q : List Value × List Value). at q.0 left q.1 sites) (led types e cells others)

  -- a place with these choices left and these sites, where the new cells fit
  pub record Stays (left : List Value) (sites : List ℕ) (p : Placed) : Type 0 where
    pub cells : List Value
    pub others : List Value
    pub is : p ≡ at cells left others sites
    pub fit : FitAll types cells

  -- A constraint, what it writes and code over cells, by what they give parts of cells where all expressions are as they are between the old and the new state. Where these parts were read before, and what was read and written is in the end as in the new state, code and effects lead to the same cells.
  pub record Told (reads : List Part) (c : Constraint) (u : Writer) (flat : List Statement) : Type 0 where
    pub effects : Option (List Effect)
    pub asks : (w : Watched) → w.scope ≡ here → c w ≡ asked effects w
    pub fine : Fine types effects
    pub once : (before next : List Part) → u before ≡ Some next → Once before effects next
    pub leaves : (cells left others : List Value) (sites : List ℕ) (p : Placed) → FitAll types cells → run_all m two flat (at cells left others sites) ≡ Some p → Stays left sites p
    pub goes : (before next : List Part) (cells left others ys vs : List Value) (sites : List ℕ) → u before ≡ Some next → IsSub reads before → FitAll types cells → Agree (before ++ next) ys new
        → run_all m two flat (at cells left others sites) ≡ Some (at ys left vs sites) → led types effects cells others ≡ Some (ys, vs)
    pub comes : (before next : List Part) (cells left others ys vs : List Value) (sites : List ℕ) → u before ≡ Some next → IsSub reads before → FitAll types cells → Agree (before ++ next) ys new
        → led types effects cells others ≡ Some (ys, vs) → run_all m two flat (at cells left others sites) ≡ Some (at ys left vs sites)

  -- ---- places

  pair_same : (xs ys vs ws : List Value) → xs ≡ ys → vs ≡ ws → (let p : List Value × List Value = (xs, vs) in p) ≡ (ys, ws)
  pair_same xs ys vs ws e f = ap (λ zs. (zs, vs)) e ∙ ap (λ zs. (ys, zs)) f

  at_same : (p q : List Value × List Value) (left : List Value) (sites : List ℕ) → at p.0 left p.1 sites ≡ at q.0 left q.1 sites → p ≡ q
  at_same p q left sites h =
      pair_same p.0 q.0 p.1 q.1 (sym (drop_front old p.0) ∙ ap (λ (z : Placed). drop (length old) z.cells) h ∙ drop_front old q.0) (ap (λ (z : Placed). z.others) h)

  -- Code that does the same to cells whatever was read: as these effects, where what it reads is as in the new state.
  simple : (reads : List Part) (c : Constraint) (u : Writer) (flat : List Statement) (effects : Option (List Effect)) (o : List Value → List Value → Option (List Value × List Value))
      → ((w : Watched) → w.scope ≡ here → c w ≡ asked effects w) → Fine types effects → ((before next : List Part) → u before ≡ Some next → Once before effects next)
      → ((cells left others : List Value) (sites : List ℕ) → FitAll types cells → run_all m two flat (at cells left others sites) ≡ option_map (λ (q : List Value × List Value). at q.0 left q.1 sites) (o cells others))
      → ((cells others : List Value) (q : List Value × List Value) → FitAll types cells → o cells others ≡ Some q → FitAll types q.0)
      → ((cells others : List Value) → Agree reads cells new → o cells others ≡ led types effects cells others)
      → ((before next : List Part) (cells others : List Value) (q : List Value × List Value) → u before ≡ Some next → o cells others ≡ Some q → Agree before cells q.0)
      → Told reads c u flat
  simple reads c u flat effects o asks fine once run fits same stays = record {
    effects = effects;
    asks = asks;
    fine = fine;
    once = once;
    leaves = λ cells left others sites p fit h.
        let s = map_some (λ (q : List Value × List Value). at q.0 left q.1 sites) (o cells others) p (sym (run cells left others sites fit) ∙ h) in
        record { cells = s.0.0; others = s.0.1; is = sym s.2; fit = fits cells others s.0 fit s.1 };
    goes = λ before next cells left others ys vs sites w r fit g h.
        let s = map_some (λ (q : List Value × List Value). at q.0 left q.1 sites) (o cells others) (at ys left vs sites) (sym (run cells left others sites fit) ∙ h) in
        let led_to : o cells others ≡ Some (ys, vs) = s.1 ∙ ap Some (at_same s.0 (ys, vs) left sites s.2) in
        let all = agree_then before cells ys new (stays before next cells others (ys, vs) w led_to) (agree_less before (before ++ next) ys new (sub_left before next) g) in
        sym (same cells others (agree_less reads before cells new r all)) ∙ led_to;
    comes = λ before next cells left others ys vs sites w r fit g h.
        let all = agree_then before cells ys new (led_kept types before next effects cells others (ys, vs) (once before next w) h) (agree_less before (before ++ next) ys new (sub_left before next) g) in
        run cells left others sites fit ∙ ap (option_map (λ (q : List Value × List Value). at q.0 left q.1 sites)) (same cells others (agree_less reads before cells new r all) ∙ h);
  }

  -- what is read may be more
  told_more : (few reads : List Part) (c : Constraint) (u : Writer) (flat : List Statement) → IsSub few reads → Told few c u flat → Told reads c u flat
  told_more few reads c u flat f a = record {
    effects = a.effects;
    asks = a.asks;
    fine = a.fine;
    once = a.once;
    leaves = a.leaves;
    goes = λ before next cells left others ys vs sites w r. a.goes before next cells left others ys vs sites w (sub_then few reads before f r);
    comes = λ before next cells left others ys vs sites w r. a.comes before next cells left others ys vs sites w (sub_then few reads before f r);
  }

  -- another writer that gives the same
  told_by : (reads : List Part) (c : Constraint) (u v : Writer) (flat : List Statement) → ((before : List Part) → v before ≡ u before) → Told reads c u flat → Told reads c v flat
  told_by reads c u v flat e a = record {
    effects = a.effects;
    asks = a.asks;
    fine = a.fine;
    once = λ before next w. a.once before next (sym (e before) ∙ w);
    leaves = a.leaves;
    goes = λ before next cells left others ys vs sites w. a.goes before next cells left others ys vs sites (sym (e before) ∙ w);
    comes = λ before next cells left others ys vs sites w. a.comes before next cells left others ys vs sites (sym (e before) ∙ w);
  }

  once_less : (before less next wider : List Part) (e : Option (List Effect)) → IsSub less before → IsSub next wider → Once before e next → Once less e wider
  once_less before less next wider None f g o = tt
  once_less before less next wider (Some ms) f g o = (sub_then (parts_of ms) next wider o.0 g, apart_less less before ms f o.1)

  -- what is read first
  reads_told : (reads : List Part) (c : Constraint) (u : Writer) (flat : List Statement) → Told reads c u flat → Told [] c (reads_first reads u) flat
  reads_told reads c u flat a = record {
    effects = a.effects;
    asks = a.asks;
    fine = a.fine;
    once = λ before next w.
        let s = map_some (λ xs. reads ++ xs) (u (before ++ reads)) next w in
        subst (Once before a.effects) s.2 (once_less (before ++ reads) before s.0 (reads ++ s.0) a.effects (sub_left before reads) (sub_right reads s.0) (a.once (before ++ reads) s.0 s.1));
    leaves = a.leaves;
    goes = λ before next cells left others ys vs sites w r fit g.
        let s = map_some (λ xs. reads ++ xs) (u (before ++ reads)) next w in
        a.goes (before ++ reads) s.0 cells left others ys vs sites s.1 (sub_right before reads) fit (subst (λ ps. Agree ps ys new) (ap (λ ps. before ++ ps) (sym s.2) ∙ sym (append_assoc before reads s.0)) g);
    comes = λ before next cells left others ys vs sites w r fit g.
        let s = map_some (λ xs. reads ++ xs) (u (before ++ reads)) next w in
        a.comes (before ++ reads) s.0 cells left others ys vs sites s.1 (sub_right before reads) fit (subst (λ ps. Agree ps ys new) (ap (λ ps. before ++ ps) (sym s.2) ∙ sym (append_assoc before reads s.0)) g);
  }

  -- ---- one after another

  pub asks_both : (e f : Option (List Effect)) (d : Constraint) (w : Watched) → w.scope ≡ here → ((v : Watched) → v.scope ≡ here → d v ≡ asked f v) → then_check (asked e w) d ≡ asked (both e f) w
  asks_both None f d w h g = refl
  asks_both (Some ms) None d w h g = onward (all_agree types new ms)
    where
      onward : (b : Bool) → then_check (kept_if b (writes (parts_in ms) w)) d ≡ Broken
      onward true = g (writes (parts_in ms) w) h
      onward false = refl
  asks_both (Some ms) (Some ns) d w h g = onward (all_agree types new ms) ∙ ap (λ b. kept_if b (writes (parts_in (ms ++ ns)) w)) (sym (agree_append types new ms ns))
    where
      onward : (b : Bool) → then_check (kept_if b (writes (parts_in ms) w)) d ≡ kept_if (b && all_agree types new ns) (writes (parts_in (ms ++ ns)) w)
      onward true = g (writes (parts_in ms) w) h ∙ ap (kept_if (all_agree types new ns)) (writes_more ms ns w)
      onward false = refl

  pub goes_both : (e f : Option (List Effect)) (ys : List Statement) → Fine types e → ((cells left others : List Value) (sites : List ℕ) → FitAll types cells → run_all m two ys (at cells left others sites) ≡ ran f cells left others sites)
      → (cells left others : List Value) (sites : List ℕ) → FitAll types cells → option_and_then (run_all m two ys) (ran e cells left others sites) ≡ ran (both e f) cells left others sites
  goes_both None f ys fine g cells left others sites fit = refl
  goes_both (Some ms) None ys fine g cells left others sites fit = onward (performed types ms cells others) refl
    where
      onward : (o : Option (List Value × List Value)) → performed types ms cells others ≡ o → option_and_then (run_all m two ys) (option_map (λ (q : List Value × List Value). at q.0 left q.1 sites) o) ≡ None
      onward None e = refl
      onward (Some q) e = g q.0 left q.1 sites (left_fits types ms cells others q fine fit e)
  goes_both (Some ms) (Some ns) ys fine g cells left others sites fit =
      onward (performed types ms cells others) refl ∙ ap (option_map (λ (q : List Value × List Value). at q.0 left q.1 sites)) (sym (performed_append types ms ns cells others))
    where
      onward : (o : Option (List Value × List Value)) → performed types ms cells others ≡ o → option_and_then (run_all m two ys) (option_map (λ (q : List Value × List Value). at q.0 left q.1 sites) o)
          ≡ option_map (λ (q : List Value × List Value). at q.0 left q.1 sites) (option_and_then (λ (q : List Value × List Value). performed types ns q.0 q.1) o)
      onward None e = refl
      onward (Some q) e = g q.0 left q.1 sites (left_fits types ms cells others q fine fit e)

  -- what is written by one and then by another
  abbrev then_writes : Writer → Writer → Writer
  then_writes u v before = option_and_then (λ ps. option_map (λ qs. ps ++ qs) (v (before ++ ps))) (u before)

  -- what the first and the second write
  record Writes (u v : Writer) (before next : List Part) : Type 0 where
    first : List Part
    second : List Part
    one : u before ≡ Some first
    other : v (before ++ first) ≡ Some second
    all : before ++ next ≡ (before ++ first) ++ second
    whole : first ++ second ≡ next

  writes_known : (u v : Writer) (before next : List Part) → then_writes u v before ≡ Some next → Writes u v before next
  writes_known u v before next h =
      let s = then_some (λ ps. option_map (λ qs. ps ++ qs) (v (before ++ ps))) (u before) next h in
      let t = map_some (λ qs. s.0 ++ qs) (v (before ++ s.0)) next s.2 in
      record { first = s.0; second = t.0; one = s.1; other = t.1; all = ap (λ ps. before ++ ps) (sym t.2) ∙ sym (append_assoc before s.0 t.0); whole = t.2 }

  then_told : (reads : List Part) (c d : Constraint) (u v : Writer) (xs ys : List Statement) → Told reads c u xs → Told reads d v ys → Told reads (λ w. then_check (c w) d) (then_writes u v) (xs ++ ys)
  then_told reads c d u v xs ys a b = record {
    effects = both a.effects b.effects;
    asks = λ w h. ap (λ q. then_check q d) (a.asks w h) ∙ asks_both a.effects b.effects d w h b.asks;
    fine = fine_both types a.effects b.effects a.fine b.fine;
    once = λ before next h.
        let p = writes_known u v before next h in
        subst (Once before (both a.effects b.effects)) p.whole (once_both before p.first p.second a.effects b.effects (a.once before p.first p.one) (b.once (before ++ p.first) p.second p.other));
    leaves = λ cells left others sites p fit h.
        let s = then_some (run_all m two ys) (run_all m two xs (at cells left others sites)) p (sym (run_append m two xs ys (at cells left others sites)) ∙ h) in
        let z = a.leaves cells left others sites s.0 fit s.1 in
        b.leaves z.cells left z.others sites p z.fit (ap (run_all m two ys) (sym z.is) ∙ s.2);
    goes = λ before next cells left others zs vs sites w r fit g h.
        let p = writes_known u v before next w in
        let q = before ++ p.first in
        let s = then_some (run_all m two ys) (run_all m two xs (at cells left others sites)) (at zs left vs sites) (sym (run_append m two xs ys (at cells left others sites)) ∙ h) in
        let z = a.leaves cells left others sites s.0 fit s.1 in
        let all : Agree (q ++ p.second) zs new = subst (λ ps. Agree ps zs new) p.all g in
        let second = b.goes q p.second z.cells left z.others zs vs sites p.other (sub_then reads before q r (sub_left before p.first)) z.fit all (ap (run_all m two ys) (sym z.is) ∙ s.2) in
        let middle : Agree q z.cells new = agree_then q z.cells zs new (led_kept types q p.second b.effects z.cells z.others (zs, vs) (b.once q p.second p.other) second) (agree_less q (q ++ p.second) zs new (sub_left q p.second) all) in
        let first = a.goes before p.first cells left others z.cells z.others sites p.one r fit middle (s.1 ∙ ap Some z.is) in
        led_both types a.effects b.effects cells others (z.cells, z.others) (zs, vs) first second;
    comes = λ before next cells left others zs vs sites w r fit g h.
        let p = writes_known u v before next w in
        let q = before ++ p.first in
        let s = led_split types a.effects b.effects cells others (zs, vs) h in
        let z = s.0 in
        let fit_z : FitAll types z.0 = led_fits types a.effects cells others z a.fine fit s.1 in
        let all : Agree (q ++ p.second) zs new = subst (λ ps. Agree ps zs new) p.all g in
        let middle : Agree q z.0 new = agree_then q z.0 zs new (led_kept types q p.second b.effects z.0 z.1 (zs, vs) (b.once q p.second p.other) s.2) (agree_less q (q ++ p.second) zs new (sub_left q p.second) all) in
        let first = a.comes before p.first cells left others z.0 z.1 sites p.one r fit middle s.1 in
        let second = b.comes q p.second z.0 left z.1 zs vs sites p.other (sub_then reads before q r (sub_left before p.first)) fit_z all s.2 in
        run_append m two xs ys (at cells left others sites) ∙ ap (option_and_then (run_all m two ys)) first ∙ second;
  }

  -- nothing is asked, written and run
  none_told : (reads : List Part) (u : Writer) → Told reads (λ w. Kept w) u []
  none_told reads u =
      simple reads (λ w. Kept w) u [] (Some []) (λ cells others. Some (cells, others)) (λ w h. ap Kept (sym (writes_none w))) tt (λ before next h. once_none before next)
      (λ cells left others sites fit. run_none m two (at cells left others sites))
      (λ cells others q fit h. subst (λ (p : List Value × List Value). FitAll types p.0) (some_same (cells, others) q h) fit)
      (λ cells others a. refl)
      (λ before next cells others q w h k e. ap (λ (p : List Value × List Value). part p.0 k) (some_same (cells, others) q h))

  abbrev Gives : Constraint → Writer → MayBe → Type 0
  Gives c u o = (flat : List Statement) → o ≡ Some flat → Told [] c u flat

  abbrev AllGive : List Constraint → List Writer → List MayBe → Type 0
  AllGive [] [] [] = Unit {0}
  AllGive (c ∷ cs) (u ∷ us) (o ∷ os) = Gives c u o × AllGive cs us os
  AllGive cs us os = ⊥

  abbrev ArmsGive : List (Arm Constraint) → List (Arm Writer) → List (Arm MayBe) → Type 0
  ArmsGive [] [] [] = Unit {0}
  ArmsGive (a ∷ arms) (u ∷ writers) (b ∷ others) = (a.condition ≡ b.condition) × (u.condition ≡ b.condition) × AllGive a.body u.body b.body × ArmsGive arms writers others
  ArmsGive arms writers others = ⊥

  abbrev ElseGives : Option (List Constraint) → Option (List Writer) → Option (List MayBe) → Type 0
  ElseGives None None None = Unit {0}
  ElseGives (Some cs) (Some us) (Some os) = AllGive cs us os
  ElseGives cs us os = ⊥

  each_gives : (cs : List Constraint) (us : List Writer) (os : List MayBe) → AllGive cs us os → Gives (check_each cs) (each_writes us) (in_order os)
  unfolding check_each each_writes
  each_gives [] [] [] h flat e = subst (Told [] (check_each []) (each_writes [])) (some_same [] flat e) (none_told [] (each_writes []))
  each_gives [] [] (o ∷ os) h flat e = absurd h
  each_gives [] (u ∷ us) [] h flat e = absurd h
  each_gives [] (u ∷ us) (o ∷ os) h flat e = absurd h
  each_gives (c ∷ cs) [] [] h flat e = absurd h
  each_gives (c ∷ cs) [] (o ∷ os) h flat e = absurd h
  each_gives (c ∷ cs) (u ∷ us) [] h flat e = absurd h
  each_gives (c ∷ cs) (u ∷ us) (o ∷ os) h flat e =
      let s = then_some (λ ys. option_map (λ zs. ys ++ zs) (in_order os)) o flat e in
      let t = map_some (λ zs. s.0 ++ zs) (in_order os) flat s.2 in
      subst (Told [] (check_each (c ∷ cs)) (each_writes (u ∷ us))) t.2 (then_told [] c (check_each cs) u (each_writes us) s.0 t.0 (h.0 s.0 s.1) (each_gives cs us os h.1 t.0 t.1))

  -- ---- statements without statements inside

  said : (e : Expr) (t : TypedExpression) → flat_of names e ≡ Some t → IsSaid system m two here (old ++ new) e t
  said e t h = table.says old new fit_old fit_new e t h

  even : length old ≡ length types
  even = fit_length types old fit_old

  -- what is read is the same where the new cells are, as far as they are read
  front : (e : Expression) (cells : List Value) → Agree (new_cells n e) cells new → value_of m two (old ++ cells) e ≡ value_of m two (old ++ new) e
  front e cells h = alike m two old cells new n (count ∙ sym even) e h

  decided : (e : Expr) (t : TypedExpression) → flat_of names e ≡ Some t → (w : Watched) → w.scope ≡ here → is_true_in system w.scope e ≡ is_true m two (old ++ new) t.expression
  decided e t h w s = ap (λ q. is_true_in system q e) s ∙ truth_holds (value system here e) ∙ ap truth_of (said e t h).same

  abbrev passed : Bool → Option (List Effect)
  passed true = Some []
  passed false = None

  passed_asks : (c : Constraint) (b : Bool) → ((w : Watched) → w.scope ≡ here → c w ≡ kept_if b w) → (w : Watched) → w.scope ≡ here → c w ≡ asked (passed b) w
  passed_asks c true f w h = f w h ∙ ap Kept (sym (writes_none w))
  passed_asks c false f w h = f w h

  passed_fine : (b : Bool) → Fine types (passed b)
  passed_fine true = tt
  passed_fine false = tt

  passed_once : (b : Bool) → (before next : List Part) → Once before (passed b) next
  passed_once true before next = once_none before next
  passed_once false before next = tt

  abbrev pair : List Value → List Value → List Value × List Value
  pair xs vs = (xs, vs)

  abbrev passes : Bool → List Value → List Value → Option (List Value × List Value)
  passes b cells others = if b then Some (pair cells others) else None

  passed_runs : (b : Bool) (cells left others : List Value) (sites : List ℕ) → (if b then Some (at cells left others sites) else None) ≡ option_map (λ (q : List Value × List Value). at q.0 left q.1 sites) (passes b cells others)
  passed_runs true cells left others sites = refl
  passed_runs false cells left others sites = refl

  passed_leads : (b : Bool) (cells others : List Value) → passes b cells others ≡ led types (passed b) cells others
  passed_leads true cells others = refl
  passed_leads false cells others = refl

  passed_cells : (b : Bool) (cells others : List Value) (q : List Value × List Value) → passes b cells others ≡ Some q → cells ≡ q.0
  passed_cells b cells others q h = ap (λ (p : List Value × List Value). p.0) (some_same (pair cells others) q (if_some b (Some (pair cells others)) q h).1)

  assume_told : (seen : List Part) (e : Expression) (c : Constraint) (u : Writer) (b : Bool) → is_true m two (old ++ new) e ≡ b → IsSub (new_cells n e) seen → ((w : Watched) → w.scope ≡ here → c w ≡ kept_if b w) → Told seen c u (AssumeThat e ∷ [])
  assume_told seen e c u b is in_seen f =
      simple seen c u (AssumeThat e ∷ []) (passed b) (λ cells others. passes (is_true m two (old ++ cells) e) cells others) (passed_asks c b f) (passed_fine b) (λ before next h. passed_once b before next)
      (λ cells left others sites fit.
      run_one m two (AssumeThat e) (at cells left others sites) ∙ runs_assume m two e (at cells left others sites) ∙ passed_runs (is_true m two (old ++ cells) e) cells left others sites)
      (λ cells others q fit h. subst (FitAll types) (passed_cells (is_true m two (old ++ cells) e) cells others q h) fit)
      (λ cells others a.
      ap (λ x. passes x cells others) (ap truth_of (front e cells (agree_less (new_cells n e) seen cells new in_seen a)) ∙ is) ∙ passed_leads b cells others)
      (λ before next cells others q w h k x. ap (λ zs. part zs k) (passed_cells (is_true m two (old ++ cells) e) cells others q h))

  -- what an expression reads, by its expression over cells
  read_is : (e : Expr) (t : TypedExpression) → flat_of names e ≡ Some t → read_by names n e ≡ new_cells n t.expression
  read_is e t h = ap (new_cells_in n) h

  same_parts : (xs ys : List Part) → xs ≡ ys → IsSub xs ys
  same_parts xs ys e = subst (IsSub xs) e (λ p h. h)

  assume_gives : (e : Expr) → Gives (λ w. kept_if (is_true_in system w.scope e) w) (λ before. Some (read_by names n e)) (option_and_then assume_of (flat_of names e))
  assume_gives e flat h =
      let s = then_some assume_of (flat_of names e) flat h in
      let t = s.0 in
      let c : Constraint = λ w. kept_if (is_true_in system w.scope e) w in
      let reads = read_by names n e in
      let nothing : Writer = λ before. Some [] in
      let is = some_same (AssumeThat t.expression ∷ []) flat (if_some (is_boolean t.ty) (Some (AssumeThat t.expression ∷ [])) flat s.2).1 in
      subst (Told [] c (λ before. Some reads)) is
      (told_by [] c (reads_first reads nothing) (λ before. Some reads) (AssumeThat t.expression ∷ []) (λ before. ap Some (sym (append-nil reads)))
      (reads_told reads c nothing (AssumeThat t.expression ∷ [])
      (assume_told reads t.expression c nothing (is_true m two (old ++ new) t.expression) refl (same_parts (new_cells n t.expression) reads (sym (read_is e t s.1)))
      (λ w q. ap (λ b. kept_if b w) (decided e t s.1 w q)))))

  -- a cell of the new state that a name writes
  pub record IsWritten (x : ℕ) (k : Written) : Type 0 where
    pub cell : ℕ
    pub other : Option ℕ
    pub is : slice_get names x ≡ Some (Cell cell other k.ty)
    pub number : k.cell ≡ cell + n
    pub variable : IsCell system types x cell k.ty

  written_known : (x : ℕ) (k : Written) → written_as n (slice_get names x) ≡ Some k → IsWritten x k
  written_known x k h =
      let g = is_written_as n (slice_get names x) k h in
      record { cell = g.0; other = g.1; is = g.2; number = g.3; variable = table.cells x g.0 g.1 k.ty g.2 }

  type_there : (k : ℕ) (ty : Ty) → slice_get types k ≡ Some ty → part_type types k ≡ ty
  type_there k ty h = ap type_or h

  type_behind : (k cell : ℕ) → cell ≡ k + n → part_type two cell ≡ part_type types k
  type_behind k cell h = ap (λ c. type_or (slice_get two c)) h ∙ ap type_or (get_behind types types k n count)

  value_behind : (cells : List Value) (k cell : ℕ) → cell ≡ k + n → part (old ++ cells) cell ≡ part cells k
  value_behind cells k cell h = ap (λ c. part (old ++ cells) c) h ∙ part_behind old cells k n (count ∙ sym even)

  set_there : (cells : List Value) (k cell : ℕ) (v : Value) → cell ≡ k + n → slice_set (old ++ cells) cell v ≡ old ++ slice_set cells k v
  set_there cells k cell v h = ap (λ c. slice_set (old ++ cells) c v) h ∙ set_behind old cells k n v (count ∙ sym even)

  -- the part that a name writes
  part_there : (w : Watched) (x k : ℕ) (ty : Ty) (fields : List ℕ) → w.scope ≡ here → IsCell system types x k ty → part_of_cell fields (written_cell system w.scope.path x) ≡ record { cell = k; fields = fields } ∷ []
  part_there w x k ty fields s h = ap (λ q. part_of_cell fields (written_cell system q.path x)) s ∙ ap (part_of_cell fields) (written_at_top system x ∙ h.cell)

  -- what a name writes is that of its cell
  writer_there : (x k : ℕ) (o : Option ℕ) (ty : Ty) (fields : List ℕ) (before : List Part) → slice_get names x ≡ Some (Cell k o ty) → writer_of (slice_get names x) fields before ≡ writes_part (record { cell = k; fields = fields }) before
  writer_there x k o ty fields before h = ap (λ q. writer_of q fields before) h

  abbrev free_effect : ℕ → Effect
  free_effect k = (k, [], None)

  pub havoc_goes : (k cell : ℕ) → cell ≡ k + n → (cells left others : List Value) (sites : List ℕ) → run_all m two (HavocCell cell false ∷ []) (at cells left others sites) ≡ ran (Some (free_effect k ∷ [])) cells left others sites
  unfolding part_reading placed
  havoc_goes k cell h cells left others sites =
      run_one m two (HavocCell cell false) (at cells left others sites)
      ∙ runs_havoc m two cell false (at cells left others sites)
      ∙ ap (λ t. option_map (with_other cell (at cells left others sites)) (next_of t others)) (type_behind k cell h)
      ∙ given others
    where
      given : (vs : List Value) → option_map (with_other cell (at cells left others sites)) (next_of (part_type types k) vs) ≡ ran (Some (free_effect k ∷ [])) cells left vs sites
      given [] = refl
      given (v ∷ vs) = fitting (fits (part_type types k) v)
        where
          fitting : (b : Bool) → option_map (with_other cell (at cells left others sites)) (if b then Some (v, vs) else None)
              ≡ option_map (λ (q : List Value × List Value). at q.0 left q.1 sites)
              (option_and_then (λ (q : List Value × List Value). performed types [] q.0 q.1) (option_map (λ (q : Value × List Value). (put types cells (free_effect k) q.0, q.1)) (if b then Some (v, vs) else None)))
          fitting true = ap (λ xs. Some (record { cells = xs; left = left; others = vs; sites = sites })) (set_there cells k cell v h)
          fitting false = refl

  havoc_gives : (x : Identifier) (primed : Bool) → Gives (λ w. Kept (writes (name_parts system w.scope x.name) w)) (λ before. writer_of (slice_get names x.name) [] before) (option_map (havoc_of (primed_behind n)) (havocked names (primed_behind n) x.name primed))
  havoc_gives x primed flat h =
      let a = map_some (havoc_of (primed_behind n)) (havocked names (primed_behind n) x.name primed) flat h in
      let k = a.0 in
      let w = written_known x.name k (if_some (may_havoc true primed) (written_as n (slice_get names x.name)) k a.1).1 in
      subst (Told [] (λ v. Kept (writes (name_parts system v.scope x.name) v)) (λ before. writer_of (slice_get names x.name) [] before)) a.2
      (simple [] (λ v. Kept (writes (name_parts system v.scope x.name) v)) (λ before. writer_of (slice_get names x.name) [] before) (havoc_of (primed_behind n) k) (Some (free_effect w.cell ∷ [])) (λ cells others. performed types (free_effect w.cell ∷ []) cells others)
      (λ v s. ap (λ ps. Kept (writes ps v)) (part_there v x.name w.cell k.ty [] s w.variable))
      (there_below types w.cell k.ty w.variable.typed, tt, tt, tt)
      (λ before next e. havoc_once w before next e)
      (λ cells left others sites fit. havoc_goes w.cell k.cell w.number cells left others sites)
      (λ cells others q fit e. left_fits types (free_effect w.cell ∷ []) cells others q (there_below types w.cell k.ty w.variable.typed, tt, tt, tt) fit e)
      (λ cells others a. refl)
      (λ before next cells others q e r. led_kept types before next (Some (free_effect w.cell ∷ [])) cells others q (havoc_once w before next e) r))
    where
      havoc_once : {k : Written} (w : IsWritten x.name k) (before next : List Part) → writer_of (slice_get names x.name) [] before ≡ Some next → Once before (Some (free_effect w.cell ∷ [])) next
      havoc_once {k} w before next e = once_part (free_effect w.cell) before next (sym (writer_there x.name w.cell w.other k.ty [] before w.is) ∙ e)

  -- what an assignment of a part asks
  assigns : (t : Target) (v : Value) (k : ℕ) (o : Option ℕ) (ty : Ty) → from_index t.parts ≡ [] → slice_get names t.name ≡ Some (Cell k o ty)
      → is_assigned system here t v ≡ same (part_reading (reads ty (part new k)) (fields_before t.parts)).type (part_reading (reads ty (part new k)) (fields_before t.parts)).value v
  unfolding replaced
  assigns t v k o ty p h =
      let r = part_reading (name system (reading system) here t.name true) (fields_before t.parts) in
      ap (λ ps. same r.type r.value (replaced system here (old_part system here t) ps v)) p
      ∙ ap (λ (q : Reading). same (part_reading q (fields_before t.parts)).type (part_reading q (fields_before t.parts)).value v) (table.primes t.name k o ty h old new fit_old fit_new)

  -- what one target asks, and the targets behind it
  abbrev asks_one : Target → Expr → Constraint
  asks_one t e w = kept_if (is_assigned system w.scope t (value system w.scope e)) (writes (target_parts system w.scope t) w)

  abbrev asks_all : List Target → List Expr → Constraint
  asks_all ts es w = check_targets system ts (map (value system w.scope) es) w

  module _ (t : Target) (e : Expr) (k : Written) (w : IsWritten t.name k) (x : TypedExpression) (z : Expression) (is : flat_of names e ≡ Some x) (r : Replaces (ReadCell k.cell) k.ty t.parts x z) where
    abbrev fields : List ℕ
    fields = fields_before t.parts

    own : part_type types w.cell ≡ k.ty
    own = type_there w.cell k.ty w.variable.typed

    below : w.cell < length types
    below = there_below types w.cell k.ty w.variable.typed

    -- the value of the source, where the new cells are these
    abbrev given : List Value → Value
    given cells = value_of m two (old ++ cells) x.expression

    abbrev effect : List Value → Effect
    effect cells = (w.cell, fields, Some (given cells))

    one_fine : (cells : List Value) → FitAll types cells → FineAll types (effect cells ∷ [])
    one_fine cells fit = (
      below,
      subst (λ ty. IsPath ty fields) (sym own) r.path,
      ap (λ ty. fits (part_reading (reads ty nothing) fields).type (given cells)) own ∙ ap (λ ty. fits ty (given cells)) (r.type nothing) ∙ (table.says old cells fit_old fit e x is).fit,
      tt,
    )

    one_once : (cells : List Value) (before next : List Part) → target_writer names t before ≡ Some next → Once before (Some (effect cells ∷ [])) next
    one_once cells before next q = once_part (effect cells) before next (sym (writer_there t.name w.cell w.other k.ty fields before w.is) ∙ q)

    one_asks : (v : Watched) → v.scope ≡ here → asks_one t e v ≡ asked (Some (effect new ∷ [])) v
    one_asks v q =
        let u = given new in
        ap (λ y. kept_if (is_assigned system y t (value system y e)) (writes (target_parts system v.scope t) v)) q
        ∙ ap (λ b'. kept_if b' (writes (target_parts system v.scope t) v))
        (assigns t (value system here e) w.cell w.other k.ty r.plain w.is
        ∙ ap (λ ty. same (part_reading (reads ty (part new w.cell)) fields).type (part_reading (reads ty (part new w.cell)) fields).value (value system here e)) (sym own)
        ∙ ap (same (part_at types new (effect new)).type (part_at types new (effect new)).value) (said e x is).same
        ∙ sym (and_true (same (part_at types new (effect new)).type (part_at types new (effect new)).value u)))
        ∙ ap (λ ps. kept_if (same (part_at types new (effect new)).type (part_at types new (effect new)).value u && true) (writes ps v)) (part_there v t.name w.cell k.ty fields q w.variable)

    one_goes : (cells left others : List Value) (sites : List ℕ) → FitAll types cells → run_all m two (AssignCell k.cell z ∷ []) (at cells left others sites) ≡ ran (Some (effect cells ∷ [])) cells left others sites
    one_goes cells left others sites fit =
        let u = given cells in
        let cell_is : value_of m two (old ++ cells) (ReadCell k.cell) ≡ part cells w.cell = value_cell m two (old ++ cells) k.cell ∙ value_behind cells w.cell k.cell w.number in
        let there : fits k.ty (part cells w.cell) ≡ true = ap (λ ty. fits ty (part cells w.cell)) (sym own) ∙ fit_at types cells w.cell fit below in
        let value_is : value_of m two (old ++ cells) z ≡ placed (reading_at types cells w.cell) fields u =
        r.value m two (old ++ cells) (ap (fits k.ty) cell_is ∙ there)
        ∙ ap (λ y. placed (reads k.ty y) fields u) cell_is
        ∙ ap (λ ty. placed (reads ty (part cells w.cell)) fields u) (sym own) in
        run_one m two (AssignCell k.cell z) (at cells left others sites)
        ∙ runs_assign m two k.cell z (at cells left others sites)
        ∙ ap (λ y. Some (record { cells = slice_set (old ++ cells) k.cell y; left = left; others = others; sites = sites })) value_is
        ∙ ap (λ xs. Some (record { cells = xs; left = left; others = others; sites = sites })) (set_there cells w.cell k.cell (placed (reading_at types cells w.cell) fields u) w.number)

    one_as : (seen : List Part) → IsSub (new_cells n x.expression) seen → Told seen (asks_one t e) (target_writer names t) (AssignCell k.cell z ∷ [])
    one_as seen in_seen =
        simple seen (asks_one t e) (target_writer names t) (AssignCell k.cell z ∷ []) (Some (effect new ∷ [])) (λ cells others. performed types (effect cells ∷ []) cells others)
        one_asks (one_fine new fit_new) (one_once new) one_goes
        (λ cells others q fit h. left_fits types (effect cells ∷ []) cells others q (one_fine cells fit) fit h)
        (λ cells others a. ap (λ v. performed types ((w.cell, fields, Some v) ∷ []) cells others) (front x.expression cells (agree_less (new_cells n x.expression) seen cells new in_seen a)))
        (λ before next cells others q e' h. led_kept types before next (Some (effect cells ∷ [])) cells others q (one_once cells before next e') h)

  one_told : (seen : List Part) (t : Target) (e : Expr) (before : List ℕ) → IsSub (read_by names n e) seen → (flat : List Statement) → one_assigned names (primed_behind n) before t e ≡ Some flat → Told seen (asks_one t e) (target_writer names t) flat
  one_told seen t e cells_before in_seen flat h =
      let a = then_some (λ k'. option_and_then (λ x. if spares cells_before x.expression then assigned k' t.parts x else None) (flat_of names e)) (written names (primed_behind n) t.name t.is_primed) flat h in
      let k = a.0 in
      let b = then_some (λ x. if spares cells_before x.expression then assigned k t.parts x else None) (flat_of names e) flat a.2 in
      let x = b.0 in
      let c = if_some (spares cells_before x.expression) (assigned k t.parts x) flat b.2 in
      let d = map_some (λ z. AssignCell k.cell z ∷ []) (replaced_in (ReadCell k.cell) k.ty t.parts x) flat c.1 in
      let z = d.0 in
      let w = written_known t.name k (if_some (may_write true t.is_primed) (written_as n (slice_get names t.name)) k a.1).1 in
      let r = replaced_known t.parts (ReadCell k.cell) z k.ty x d.1 in
      subst (Told seen (asks_one t e) (target_writer names t)) d.2
      (one_as t e k w x z b.1 r seen (sub_then (new_cells n x.expression) (read_by names n e) seen (same_parts (new_cells n x.expression) (read_by names n e) (sym (read_is e x b.1))) in_seen))

  targets_as : (ts : List Target) (es : List Expr) (b : Bool) (w v : Watched) → v.scope ≡ w.scope → then_check (kept_if b v) (check_targets system ts (map (value system w.scope) es)) ≡ then_check (kept_if b v) (asks_all ts es)
  targets_as ts es true w v e = ap (λ s. check_targets system ts (map (value system s) es) v) (sym e)
  targets_as ts es false w v e = refl

  assign_told : (seen : List Part) (ts : List Target) (es : List Expr) (before : List ℕ) → IsSub (flat_map (read_by names n) es) seen → (flat : List Statement) → in_order (each_assigned names (primed_behind n) before ts es) ≡ Some flat
      → Told seen (asks_all ts es) (each_writes (map (target_writer names) ts)) flat
  unfolding each_assigned check_targets each_writes
  assign_told seen [] [] before f flat h = subst (Told seen (asks_all [] []) (each_writes [])) (some_same [] flat h) (none_told seen (each_writes []))
  assign_told seen [] (e ∷ es) before f flat h = absurd (cc)
  assign_told seen (t ∷ ts) [] before f flat h = absurd (cc)
  assign_told seen (t ∷ ts) (e ∷ es) before f flat h =
      let after = with_cell before (written names (primed_behind n) t.name t.is_primed) in
      let s = then_some (λ ys. option_map (λ zs. ys ++ zs) (in_order (each_assigned names (primed_behind n) after ts es))) (one_assigned names (primed_behind n) before t e) flat h in
      let q = map_some (λ zs. s.0 ++ zs) (in_order (each_assigned names (primed_behind n) after ts es)) flat s.2 in
      let own = read_by names n e in
      let others = flat_map (read_by names n) es in
      let first = one_told seen t e before (sub_then own (own ++ others) seen (sub_left own others) f) s.0 s.1 in
      let rest = assign_told seen ts es after (sub_then others (own ++ others) seen (sub_right own others) f) q.0 q.1 in
      let whole = then_told seen (asks_one t e) (asks_all ts es) (target_writer names t) (each_writes (map (target_writer names) ts)) s.0 q.0 first rest in
      subst (Told seen (asks_all (t ∷ ts) (e ∷ es)) (each_writes (map (target_writer names) (t ∷ ts)))) q.2
      (record {
        effects = whole.effects;
        asks = λ w p. targets_as ts es (is_assigned system w.scope t (value system w.scope e)) w (writes (target_parts system w.scope t) w) refl ∙ whole.asks w p;
        fine = whole.fine;
        once = whole.once;
        leaves = whole.leaves;
        goes = whole.goes;
        comes = whole.comes;
      })

  assign_gives : (targets : List Target) (sources : List Expr) → Gives (asks_all targets sources) (reads_first (flat_map (read_by names n) sources) (each_writes (map (target_writer names) targets))) (assign_of names (primed_behind n) targets sources)
  assign_gives targets sources flat h =
      let read = flat_map (read_by names n) sources in
      reads_told read (asks_all targets sources) (each_writes (map (target_writer names) targets)) flat (assign_told read targets sources [] (λ p q. q) flat h)

  -- ---- conditionals

  module _ (seen : List Part) (e : Expression) (xs ys : List Statement) (c d : Constraint) (u v : Writer) (in_seen : IsSub (new_cells n e) seen) (a : Told seen c u xs) (z : Told seen d v ys) where
    abbrev Both : Writer
    Both before = either_writes (u before) (v before)

    abbrev test : List Value → Bool
    test cells = is_true m two (old ++ cells) e

    abbrev branch : Bool → Placed → Option Placed
    branch b = if b then run_all m two xs else run_all m two ys

    branch_is : (b : Bool) (p : Placed) → in_turn (if b then map (runs m two) xs else map (runs m two) ys) p ≡ branch b p
    branch_is true p = run_is m two xs p
    branch_is false p = run_is m two ys p

    branch_runs : (cells left others : List Value) (sites : List ℕ) → run_all m two (IfThat e xs ys ∷ []) (at cells left others sites) ≡ branch (test cells) (at cells left others sites)
    branch_runs cells left others sites =
        run_one m two (IfThat e xs ys) (at cells left others sites) ∙ runs_if m two e xs ys (at cells left others sites) ∙ branch_is (test cells) (at cells left others sites)

    branch_leaves : (b : Bool) (cells left others : List Value) (sites : List ℕ) (p : Placed) → FitAll types cells → branch b (at cells left others sites) ≡ Some p → Stays left sites p
    branch_leaves true cells left others sites p fit h = a.leaves cells left others sites p fit h
    branch_leaves false cells left others sites p fit h = z.leaves cells left others sites p fit h

    -- what either writes
    record Either (before next : List Part) : Type 0 where
      first : List Part
      second : List Part
      one : u before ≡ Some first
      other : v before ≡ Some second
      in_first : IsSub first next
      in_second : IsSub second next

    either_known : (before next : List Part) → Both before ≡ Some next → Either before next
    either_known before next h =
        let s = then_some (λ ps. option_map (λ qs. ps ++ qs) (v before)) (u before) next h in
        let t = map_some (λ qs. s.0 ++ qs) (v before) next s.2 in
        record { first = s.0; second = t.0; one = s.1; other = t.1; in_first = subst (IsSub s.0) t.2 (sub_left s.0 t.0); in_second = subst (IsSub t.0) t.2 (sub_right s.0 t.0) }

    -- what is written and read in the end, by an arm
    narrowed : (before part next : List Part) (zs : List Value) → IsSub part next → Agree (before ++ next) zs new → Agree (before ++ part) zs new
    narrowed before part next zs f = agree_less (before ++ part) (before ++ next) zs new (wider before part next f)

    -- the condition is as it is in the new state, where what was read and written before is
    test_is : (before : List Part) (cells : List Value) → IsSub seen before → Agree before cells new → test cells ≡ test new
    test_is before cells r g = ap truth_of (front e cells (agree_less (new_cells n e) before cells new (sub_then (new_cells n e) seen before in_seen r) g))

    branch_tests : (b : Bool) (before next : List Part) (cells left others zs vs : List Value) (sites : List ℕ) → Either before next → IsSub seen before → FitAll types cells → Agree (before ++ next) zs new
        → branch b (at cells left others sites) ≡ Some (at zs left vs sites) → test cells ≡ test new
    branch_tests true before next cells left others zs vs sites w r fit g h =
        let to = a.goes before w.first cells left others zs vs sites w.one r fit (narrowed before w.first next zs w.in_first g) h in
        test_is before cells r (agree_then before cells zs new (led_kept types before w.first a.effects cells others (zs, vs) (a.once before w.first w.one) to) (agree_less before (before ++ next) zs new (sub_left before next) g))
    branch_tests false before next cells left others zs vs sites w r fit g h =
        let to = z.goes before w.second cells left others zs vs sites w.other r fit (narrowed before w.second next zs w.in_second g) h in
        test_is before cells r (agree_then before cells zs new (led_kept types before w.second z.effects cells others (zs, vs) (z.once before w.second w.other) to) (agree_less before (before ++ next) zs new (sub_left before next) g))

    conditional_told : (whole : Constraint) (b : Bool) → test new ≡ b → ((w : Watched) → w.scope ≡ here → whole w ≡ (if b then c else d) w) → Told seen whole Both (IfThat e xs ys ∷ [])
    conditional_told whole true is f = record {
      effects = a.effects;
      asks = λ w h. f w h ∙ a.asks w h;
      fine = a.fine;
      once = λ before next h. let w = either_known before next h in once_wider before w.first next a.effects w.in_first (a.once before w.first w.one);
      leaves = λ cells left others sites p fit h. branch_leaves (test cells) cells left others sites p fit (sym (branch_runs cells left others sites) ∙ h);
      goes = λ before next cells left others zs vs sites h r fit g k.
          let w = either_known before next h in
          let q = sym (branch_runs cells left others sites) ∙ k in
          let same_test = branch_tests (test cells) before next cells left others zs vs sites w r fit g q ∙ is in
          a.goes before w.first cells left others zs vs sites w.one r fit (narrowed before w.first next zs w.in_first g) (ap (λ b. branch b (at cells left others sites)) (sym same_test) ∙ q);
      comes = λ before next cells left others zs vs sites h r fit g k.
          let w = either_known before next h in
          let same_test =
          test_is before cells r (agree_then before cells zs new (led_kept types before w.first a.effects cells others (zs, vs) (a.once before w.first w.one) k) (agree_less before (before ++ next) zs new (sub_left before next) g)) ∙ is in
          branch_runs cells left others sites ∙ ap (λ b. branch b (at cells left others sites)) same_test
          ∙ a.comes before w.first cells left others zs vs sites w.one r fit (narrowed before w.first next zs w.in_first g) k;
    }
    conditional_told whole false is f = record {
      effects = z.effects;
      asks = λ w h. f w h ∙ z.asks w h;
      fine = z.fine;
      once = λ before next h. let w = either_known before next h in once_wider before w.second next z.effects w.in_second (z.once before w.second w.other);
      leaves = λ cells left others sites p fit h. branch_leaves (test cells) cells left others sites p fit (sym (branch_runs cells left others sites) ∙ h);
      goes = λ before next cells left others zs vs sites h r fit g k.
          let w = either_known before next h in
          let q = sym (branch_runs cells left others sites) ∙ k in
          let same_test = branch_tests (test cells) before next cells left others zs vs sites w r fit g q ∙ is in
          z.goes before w.second cells left others zs vs sites w.other r fit (narrowed before w.second next zs w.in_second g) (ap (λ b. branch b (at cells left others sites)) (sym same_test) ∙ q);
      comes = λ before next cells left others zs vs sites h r fit g k.
          let w = either_known before next h in
          let same_test =
          test_is before cells r (agree_then before cells zs new (led_kept types before w.second z.effects cells others (zs, vs) (z.once before w.second w.other) k) (agree_less before (before ++ next) zs new (sub_left before next) g)) ∙ is in
          branch_runs cells left others sites ∙ ap (λ b. branch b (at cells left others sites)) same_test
          ∙ z.comes before w.second cells left others zs vs sites w.other r fit (narrowed before w.second next zs w.in_second g) k;
    }

  picked : (b : Bool) (xs : List Constraint) (ys : List Constraint) (w : Watched) → check_each (if b then xs else ys) w ≡ (if b then check_each xs else check_each ys) w
  picked true xs ys w = refl
  picked false xs ys w = refl

  either_as : (b : Bool) (c d d' : Constraint) (w : Watched) → d w ≡ d' w → (if b then c else d) w ≡ (if b then c else d') w
  either_as true c d d' w h = refl
  either_as false c d d' w h = h

  arms_told : (seen : List Part) (arms : List (Arm Constraint)) (writers : List (Arm Writer)) (others : List (Arm MayBe)) (otherwise : Option (List Constraint)) (us : List Writer) (flat_arms : List FlatArm) (rest : List Statement)
      → ArmsGive arms writers others → IsSub (conditions_read names n writers) seen → all_of (map (arm_of names) others) ≡ Some flat_arms → Told seen (check_each (else_block otherwise)) (each_writes us) rest
      → Told seen (λ w. check_each (taken system w.scope arms otherwise) w) (arms_write writers us) (joined_arms flat_arms rest)
  unfolding taken joined_arms arms_write
  arms_told seen [] [] [] otherwise us flat_arms rest h f e a = subst (λ bs. Told seen (check_each (else_block otherwise)) (arms_write [] us) (joined_arms bs rest)) (some_same [] flat_arms e) a
  arms_told seen [] [] (b ∷ others) otherwise us flat_arms rest h f e a = absurd h
  arms_told seen [] (y ∷ writers) [] otherwise us flat_arms rest h f e a = absurd h
  arms_told seen [] (y ∷ writers) (b ∷ others) otherwise us flat_arms rest h f e a = absurd h
  arms_told seen (c ∷ arms) [] [] otherwise us flat_arms rest h f e a = absurd h
  arms_told seen (c ∷ arms) [] (b ∷ others) otherwise us flat_arms rest h f e a = absurd h
  arms_told seen (c ∷ arms) (y ∷ writers) [] otherwise us flat_arms rest h f e a = absurd h
  arms_told seen (c ∷ arms) (y ∷ writers) (b ∷ others) otherwise us flat_arms rest h f e a =
      let p = then_some (λ x. option_map (λ xs. x ∷ xs) (all_of (map (arm_of names) others))) (arm_of names b) flat_arms e in
      let q = map_some (λ xs. p.0 ∷ xs) (all_of (map (arm_of names) others)) flat_arms p.2 in
      let t = then_some (arm_with (in_order b.body)) (flat_of names b.condition) p.0 p.1 in
      let u = if_some (is_boolean t.0.ty) (option_map (λ xs. record { condition = t.0.expression; body = xs }) (in_order b.body)) p.0 t.2 in
      let v = map_some (λ xs. record { condition = t.0.expression; body = xs }) (in_order b.body) p.0 u.1 in
      let own = read_by names n y.condition in
      let later = conditions_read names n writers in
      let reading : own ≡ new_cells n t.0.expression = ap (read_by names n) h.1 ∙ read_is b.condition t.0 t.1 in
      let in_own : IsSub (new_cells n t.0.expression) seen = sub_then (new_cells n t.0.expression) own seen (same_parts (new_cells n t.0.expression) own (sym reading)) (sub_then own (own ++ later) seen (sub_left own later) f) in
      let first = told_more [] seen (check_each c.body) (each_writes y.body) v.0 (none_read seen) (each_gives c.body y.body b.body h.2 v.0 v.1) in
      let second = arms_told seen arms writers others otherwise us q.0 rest h.3 (sub_then later (own ++ later) seen (sub_right own later) f) q.1 a in
      let truth = is_true m two (old ++ new) t.0.expression in
      let whole : Constraint = λ w. check_each (taken system w.scope (c ∷ arms) otherwise) w in
      subst (λ bs. Told seen whole (arms_write (y ∷ writers) us) (joined_arms bs rest)) q.2
      (subst (λ (k : FlatArm). Told seen whole (arms_write (y ∷ writers) us) (joined_arms (k ∷ q.0) rest)) v.2
      (conditional_told seen t.0.expression v.0 (joined_arms q.0 rest) (check_each c.body) (λ w. check_each (taken system w.scope arms otherwise) w) (each_writes y.body) (arms_write writers us) in_own first second whole truth refl
      (λ w s.
      ap (λ x. check_each (if x then c.body else taken system w.scope arms otherwise) w) (ap (is_true_in system w.scope) h.0 ∙ decided b.condition t.0 t.1 w s)
      ∙ picked truth c.body (taken system w.scope arms otherwise) w
      ∙ either_as truth (check_each c.body) (check_each (taken system w.scope arms otherwise)) (λ w'. check_each (taken system w'.scope arms otherwise) w') w refl)))

  else_told : (otherwise : Option (List Constraint)) (us : Option (List Writer)) (o : Option (List MayBe)) (rest : List Statement) → ElseGives otherwise us o → else_of o ≡ Some rest → Told [] (check_each (else_block otherwise)) (each_writes (else_block us)) rest
  else_told None None None rest h e = each_gives [] [] [] tt rest e
  else_told (Some xs) (Some us) (Some os) rest h e = each_gives xs us os h rest e
  else_told None None (Some os) rest h e = absurd h
  else_told None (Some us) None rest h e = absurd h
  else_told None (Some us) (Some os) rest h e = absurd h
  else_told (Some xs) None None rest h e = absurd h
  else_told (Some xs) None (Some os) rest h e = absurd h
  else_told (Some xs) (Some us) None rest h e = absurd h

  if_gives : (arms : List (Arm Constraint)) (writers : List (Arm Writer)) (others : List (Arm MayBe)) (otherwise : Option (List Constraint)) (us : Option (List Writer)) (o : Option (List MayBe)) → ArmsGive arms writers others → ElseGives otherwise us o
      → Gives (λ w. check_each (taken system w.scope arms otherwise) w) (λ before. choice_writer names n writers us before) (if_of names others o)
  if_gives arms writers others otherwise us o h g flat e =
      let s = then_some (λ bs. option_map (joined_arms bs) (else_of o)) (all_of (map (arm_of names) others)) flat e in
      let t = map_some (joined_arms s.0) (else_of o) flat s.2 in
      let whole : Constraint = λ w. check_each (taken system w.scope arms otherwise) w in
      let seen = conditions_read names n writers in
      subst (Told [] whole (λ before. choice_writer names n writers us before)) t.2
      (reads_told seen whole (arms_write writers (else_block us)) (joined_arms s.0 t.0)
      (arms_told seen arms writers others otherwise (else_block us) s.0 t.0 h (λ p q. q) s.1
      (told_more [] seen (check_each (else_block otherwise)) (each_writes (else_block us)) t.0 (none_read seen) (else_told otherwise us o t.0 g t.1))))

  -- ---- all forms

  module _ {A D : Type 0} (d : D → A) (f : A → MayBe) (g : A → Constraint) (u : A → Writer) (each : (e : D) → Gives (g (d e)) (u (d e)) (f (d e))) where
    list_give : (es : List D) → AllGive (map g (map d es)) (map u (map d es)) (map f (map d es))
    list_give [] = tt
    list_give (e ∷ es) = (each e, list_give es)

    abbrev left : Stmt-F D → Stmt-F MayBe
    left y = map-Stmt A MayBe f (map-Stmt D A d y)

    abbrev right : Stmt-F D → Stmt-F Constraint
    right y = map-Stmt A Constraint g (map-Stmt D A d y)

    abbrev middle : Stmt-F D → Stmt-F Writer
    middle y = map-Stmt A Writer u (map-Stmt D A d y)

    if_layer : (place : Place) (arms : List (Arm D)) (o : Option (List D))
        → ArmsGive (arms_in (right (If place arms o))) (arms_in (middle (If place arms o))) (arms_in (left (If place arms o))) × ElseGives (else_in (right (If place arms o))) (else_in (middle (If place arms o))) (else_in (left (If place arms o)))
    if_layer place [] None = (tt, tt)
    if_layer place [] (Some es) = (tt, list_give es)
    if_layer place (a ∷ arms) o = ((refl, refl, list_give a.body, (if_layer place arms o).0), (if_layer place arms o).1)

    case_layer : (place : Place) (arms : List (Arm D)) (o : Option (List D))
        → ArmsGive (arms_in (right (Case place arms o))) (arms_in (middle (Case place arms o))) (arms_in (left (Case place arms o))) × ElseGives (else_in (right (Case place arms o))) (else_in (middle (Case place arms o))) (else_in (left (Case place arms o)))
    case_layer place [] None = (tt, tt)
    case_layer place [] (Some es) = (tt, list_give es)
    case_layer place (a ∷ arms) o = ((refl, refl, list_give a.body, (case_layer place arms o).0), (case_layer place arms o).1)

    layer : (y : Stmt-F D) → Gives (check_form system blocks (right y)) (writer_form names n (middle y)) (code_form names (primed_behind n) (left y))
    layer (Declare place ids type) flat e = absurd (cc)
    layer (Skip place) flat e = subst (Told [] (λ w. Kept w) (λ before. Some [])) (some_same [] flat e) (none_told [] (λ before. Some []))
    layer (Block place block) flat e = each_gives _ _ _ (list_give block) flat e
    layer (Assert place label e) flat h = absurd (cc)
    layer (Assume place x) flat e = assume_gives x flat e
    layer (Havoc place x primed) flat e = havoc_gives x primed flat e
    layer (Assign place targets sources) flat e = assign_gives targets sources flat e
    layer (If place arms o) flat e = if_gives _ _ _ _ _ _ (if_layer place arms o).0 (if_layer place arms o).1 flat e
    layer (Case place arms o) flat e = if_gives _ _ _ _ _ _ (case_layer place arms o).0 (case_layer place arms o).1 flat e
    layer (For place x type from to block) flat e = absurd (cc)
    layer (Call place targets callee arguments) flat e = absurd (cc)
    layer (Next place x) flat e = absurd (cc)

  pub statement_gives : (s : Stmt) → Gives (check_statement system blocks s) (writer names n s) (statement_of names (primed_behind n) s)
  unfolding check_statement statement_of writer
  statement_gives =
      ind-Stmt (λ s. Gives (fold-Stmt Constraint (check_form system blocks) s) (fold-Stmt Writer (writer_form names n) s) (fold-Stmt MayBe (code_form names (primed_behind n)) s))
      (λ x y is.
      let F = fold-Stmt MayBe (code_form names (primed_behind n)) in
      let G = fold-Stmt Constraint (check_form system blocks) in
      let U = fold-Stmt Writer (writer_form names n) in
      let way = layer (λ e. e.0) F G U (λ e. e.1) y in
      let way' = subst (λ z. Gives (check_form system blocks (map-Stmt Stmt Constraint G z)) (writer_form names n (map-Stmt Stmt Writer U z)) (code_form names (primed_behind n) (map-Stmt Stmt MayBe F z))) is way in
      let left' = subst (Gives (check_form system blocks (map-Stmt Stmt Constraint G x)) (writer_form names n (map-Stmt Stmt Writer U x))) (sym (fold-roll-Stmt MayBe (code_form names (primed_behind n)) x)) way' in
      let right' = subst (λ X. Gives X (writer_form names n (map-Stmt Stmt Writer U x)) (F (roll-Stmt x))) (sym (fold-roll-Stmt Constraint (check_form system blocks) x)) left' in
      subst (λ X. Gives (G (roll-Stmt x)) X (F (roll-Stmt x))) (sym (fold-roll-Stmt Writer (writer_form names n) x)) right')

  list_statements : (code : List Stmt) → AllGive (map (check_statement system blocks) code) (map (writer names n) code) (map (statement_of names (primed_behind n)) code)
  list_statements [] = tt
  list_statements (s ∷ code) = (statement_gives s, list_statements code)

  pub code_told : (code : List Stmt) (flat : List Statement) → code_of names (primed_behind n) code ≡ Some flat → Told [] (check_by system blocks code) (written_by names n code) flat
  unfolding check_by written_by
  code_told code = each_gives (map (check_statement system blocks) code) (map (writer names n) code) (map (statement_of names (primed_behind n)) code) (list_statements code)
