-- What statements read through the conditions around them, and so which cells depend on which.
use Rattle.std.proofs.Common.{◌≡◌, ℕ, zero, suc, ◌<◌, ◌≤◌, Bool, true, false, List, [], ◌++◌, length, Some, refl, ap, sym, subst, ◌∙◌, inl, inr, ⊎_elim, arith}
use Rattle.std.specs.Prelude.{nat_eq, if◌then◌else◌}
use Rattle.std.specs.List.{list_any}
use Rattle.uc_lexer.specs.declared.place.Place.{Place}
use Rattle.uc_syntax.specs.declared.declaration.Module.{Module}
use Rattle.uc_meaning.specs.Lookup.{System, module_at}
use Rattle.uc_declared_types.specs.AliasLaw.{IsAmong}
use Rattle.uc_declared_types.proofs.Among.{among_back, among_flat, among_left, among_right, among_split}
use Rattle.uc_declared_types.proofs.Along.{any_by, any_there}
use Rattle.uc_order_rules.specs.Dependence.{depends_on, read_by, writings}
use Rattle.uc_step_cycles.specs.declared.acts.Act.TheVariants.{Writes, Steps}
use Rattle.uc_step_cycles.specs.declared.acts.Acts.{Acts}
use Rattle.uc_step_cycles.specs.declared.acts.Writing.{Writing as WritingStatement}
use Rattle.uc_step_cycles.specs.Acts.{Setting, cells_of_primed}
use Rattle.uc_step_cycles.specs.Stepping.{DependencesAreReached, DependsBy, IsOneOf, IsRead, IsReadIn, IsStepped, IsWritten, KnowsBlocks, ReadsPrimed, WritingsAreReached, primed_at}
use Rattle.uc_step_cycles.proofs.Around.{around_is, around_root, context_there, fitting, setting}
use Rattle.uc_step_cycles.proofs.Visits.{Visits, around, fit_among, found_writing, no_blocks, stepped_visit, visit_module, visit_stepped, writing_found, writing_of}

equal : (n m : ℕ) → nat_eq n m ≡ true → n ≡ m
equal n m h = grind (arith, h)

same : (n : ℕ) → nat_eq n n ≡ true
same n = grind arith

module _ (system : System) (acts : List ℕ → Acts) (known : KnowsBlocks system acts) where
  abbrev at : List ℕ → List ℕ → ℕ → List ℕ
  at path a k = around system acts known path a k

  here : (path a names : List ℕ) → cells_of_primed (setting system no_blocks path a) names ≡ primed_at system path names
  unfolding cells_of_primed
  here path a names = refl

  module _ (y : ℕ) (path a : List ℕ) (m : Module) (is : module_at system path ≡ Some m) where
    abbrev s : Setting
    s = setting system no_blocks path a

    read_at : (fuel k : ℕ) → k < fuel → k ≤ length (acts path).contexts → (IsAmong y a → IsRead system acts path 0 y) → IsAmong y (at path a k) → IsRead system acts path k y
    unfolding IsReadIn
    read_at zero k less within base h = absurd (omega (arith, less))
    read_at (suc fuel) zero less within base h = base (subst (λ ys. IsAmong y ys) (around_root s (acts path).contexts) h)
    read_at (suc fuel) (suc k) less within base h =
        let fit = (known.acts_are path m is).nested.contexts_fit in
        let c = context_there (acts path).contexts k (omega (arith, within)) in
        let low = fitting 0 (acts path).contexts k c.0 fit c.1 in
        ⊎_elim
        (λ out. let r = read_at fuel c.0.around (omega (arith, low, less)) (omega (arith, low, within)) base out in (suc r.0, (c.0, c.1, inr r.1)))
        (λ own. (1, (c.0, c.1, inl (subst (λ ys. IsAmong y ys) (here path a c.0.reads) own))))
        (among_split y (at path a c.0.around) (cells_of_primed s c.0.reads) (subst (λ ys. IsAmong y ys) (around_is s (acts path).contexts k c.0 fit c.1) h))

  is_read : (d : ℕ) (path a : List ℕ) (k y : ℕ) → Visits system acts known d path a → k ≤ length (acts path).contexts → IsAmong y (at path a k) → IsRead system acts path k y
  unfolding Visits IsReadIn IsAmong
  is_read zero path a k y v within h =
      let m = visit_module system acts known zero path a v in
      read_at y path a m.0 m.1 (suc k) k (omega arith) within (λ e. absurd (subst (λ ys. IsAmong y ys) v.1 e)) h
  is_read (suc d) path a k y v within h =
      let b = visit_module system acts known d v.0 v.3 v.5 in
      let inside = fit_among (length (acts v.0).contexts) (acts v.0).acts (Steps v.1 v.2) (known.acts_are v.0 b.0 b.1).nested.acts_fit v.7 in
      read_at y path a v.4 v.8 (suc k) k (omega arith) within
      (λ e.
      let r = is_read d v.0 v.3 v.2 y v.5 inside (subst (λ ys. IsAmong y ys) v.9 e) in
      (suc r.0, (v.0, v.1, v.2, (d, visit_stepped system acts known d v.0 v.3 v.5), v.6, v.7, r.1)))
      h

  abbrev Seen : List ℕ → ℕ → ℕ → Type 0
  Seen path k y = (d : ℕ) × (a : List ℕ) × Visits system acts known d path a × IsAmong y (at path a k)

  seen : (n : ℕ) (path : List ℕ) (k y : ℕ) → IsReadIn system acts n path k y → IsStepped system acts path → Seen path k y
  unfolding IsReadIn Visits
  seen zero path k y r stepped = absurd r
  seen (suc n) path zero y r stepped =
      let t = stepped_visit system acts known stepped.0 path stepped.1 in
      let m = visit_module system acts known stepped.0 path t.0 t.1 in
      let v = seen n r.0 r.2 y r.6 r.3 in
      let a = at r.0 v.1 r.2 in
      (suc v.0, a, (r.0, r.1, r.2, v.1, m.0, v.2, r.4, r.5, m.1, refl), subst (λ ys. IsAmong y ys) (sym (around_root (setting system no_blocks path a) (acts path).contexts)) v.3)
  seen (suc n) path (suc k) y r stepped =
      let c = r.0 in
      let join : (d : ℕ) (a : List ℕ) → Visits system acts known d path a → IsAmong y (at path a c.around ++ cells_of_primed (setting system no_blocks path a) c.reads) → Seen path (suc k) y =
      λ d a v h.
      let m = visit_module system acts known d path a v in
      (d, a, v, subst (λ ys. IsAmong y ys) (sym (around_is (setting system no_blocks path a) (acts path).contexts k c (known.acts_are path m.0 m.1).nested.contexts_fit r.1)) h) in
      ⊎_elim
      (λ own.
      let t = stepped_visit system acts known stepped.0 path stepped.1 in
      join stepped.0 t.0 t.1 (among_right y (at path t.0 c.around) (cells_of_primed (setting system no_blocks path t.0) c.reads) (subst (λ ys. IsAmong y ys) (sym (here path t.0 c.reads)) own)))
      (λ out. let v = seen n path c.around y out stepped in join v.0 v.1 v.2 (among_left y (at path v.1 c.around) (cells_of_primed (setting system no_blocks path v.1) c.reads) v.3))
      r.2

  reads_there : (d : ℕ) (path a : List ℕ) (st : WritingStatement) (y : ℕ) → Visits system acts known d path a → IsAmong (Writes st) (acts path).acts → IsAmong y (writing_of system acts known path a st).reads → ReadsPrimed system acts path st y
  reads_there d path a st y v there h =
      let m = visit_module system acts known d path a v in
      let inside = fit_among (length (acts path).contexts) (acts path).acts (Writes st) (known.acts_are path m.0 m.1).nested.acts_fit there in
      ⊎_elim (λ out. inr (is_read d path a st.around y v inside out)) (λ own. inl own) (among_split y (at path a st.around) (primed_at system path st.reads) h)

  by_reads : (path : List ℕ) (st : WritingStatement) (y : ℕ) → IsStepped system acts path → ReadsPrimed system acts path st y → (d : ℕ) × (a : List ℕ) × Visits system acts known d path a × IsAmong y (writing_of system acts known path a st).reads
  by_reads path st y stepped r =
      ⊎_elim
      (λ own. let t = stepped_visit system acts known stepped.0 path stepped.1 in (stepped.0, t.0, t.1, among_right y (at path t.0 st.around) (primed_at system path st.reads) own))
      (λ out. let v = seen out.0 path st.around y out.1 stepped in (v.0, v.1, v.2, among_left y (at path v.1 st.around) (primed_at system path st.reads) v.3))
      r

  -- ---- a statement that writes a cell

  chosen : (b : Bool) (y : ℕ) (reads : List ℕ) → IsAmong y (if b then reads else []) → (b ≡ true) × IsAmong y reads
  unfolding IsAmong
  chosen true y reads h = (refl, h)
  chosen false y reads h = absurd h

  choose : (b : Bool) (y : ℕ) (reads : List ℕ) → b ≡ true → IsAmong y reads → IsAmong y (if b then reads else [])
  choose true y reads is h = h
  choose false y reads is h = cc

  pub depends : (x y : ℕ) → IsAmong y (depends_on system x) → DependsBy system acts x y
  depends x y h =
      let r = among_back (read_by x) y (writings system) h in
      let t = chosen (list_any (nat_eq x) r.0.written) y r.0.reads r.2 in
      let z = any_by (nat_eq x) r.0.written t.0 in
      let f = writing_found system acts known r.0 r.1 in
      record {
        path = f.1;
        statement = f.3;
        stands = record { stepped = (f.0, visit_stepped system acts known f.0 f.1 f.2 f.4); there = f.5 };
        writes = subst (λ w. IsAmong x w.written) f.6 (subst (λ v. IsAmong v r.0.written) (sym (equal x z.0 z.2)) z.1);
        reads = reads_there f.0 f.1 f.2 f.3 y f.4 f.5 (subst (λ w. IsAmong y w.reads) f.6 t.1);
      }

  pub depends_back : (x y : ℕ) → DependsBy system acts x y → IsAmong y (depends_on system x)
  depends_back x y h =
      let v = by_reads h.path h.statement y h.stands.stepped h.reads in
      let w = writing_of system acts known h.path v.1 h.statement in
      among_flat (read_by x) w y (writings system) (found_writing system acts known v.0 h.path v.1 h.statement v.2 h.stands.there)
      (choose (list_any (nat_eq x) w.written) y w.reads (any_there (nat_eq x) w.written x h.writes (same x)) v.3)

  pub one_written : (place : Place) (cells : List ℕ) → IsOneOf (writings system) place cells → IsWritten system acts place cells
  one_written place cells h =
      let f = writing_found system acts known h.0 h.1 in
      record {
        path = f.1;
        statement = f.3;
        stands = record { stepped = (f.0, visit_stepped system acts known f.0 f.1 f.2 f.4); there = f.5 };
        is_place = sym h.2 ∙ ap (λ w. w.place) f.6;
        are_cells = sym h.3 ∙ ap (λ w. w.written) f.6;
      }

  pub written_one : (place : Place) (cells : List ℕ) → IsWritten system acts place cells → IsOneOf (writings system) place cells
  written_one place cells h =
      let t = stepped_visit system acts known h.stands.stepped.0 h.path h.stands.stepped.1 in
      (writing_of system acts known h.path t.0 h.statement, found_writing system acts known h.stands.stepped.0 h.path t.0 h.statement t.1 h.stands.there, sym h.is_place, sym h.are_cells)

pub writings_are_reached : WritingsAreReached
writings_are_reached system acts known place cells = (one_written system acts known place cells, written_one system acts known place cells)

pub dependences_are_reached : DependencesAreReached
dependences_are_reached system acts known x y = (depends system acts known x y, depends_back system acts known x y)
