-- Passages from cell to cell, edge by edge.
use Rattle.std.proofs.Common.{◌≡◌, ◌↔◌, ℕ, zero, suc, ◌<◌, ◌≤◌, true, List, [], ◌∷◌, length, Some, refl, ap, sym, subst, ◌∙◌, ◌⊎◌, inl, inr, ⊎_elim, arith}
use Rattle.std.specs.Prelude.{slice_get}
use Rattle.uc_meaning.specs.Lookup.{System}
use Rattle.uc_meaning.specs.Cells.{cells_of}
use Rattle.uc_declared_types.specs.AliasLaw.{IsAmong}
use Rattle.uc_declared_types.proofs.Among.{among_back, among_flat}
use Rattle.uc_graph.specs.Order.{has, needs}
use Rattle.uc_graph.specs.Cycles.{LiesOnCycle}
use Rattle.uc_order_rules.specs.Dependence.{depends_on, on_step_cycle}
use Rattle.uc_step_cycles.specs.declared.acts.Act.TheVariants.{Writes, Steps}
use Rattle.uc_step_cycles.specs.declared.acts.Acts.{Acts}
use Rattle.uc_step_cycles.specs.declared.acts.Context.{Context}
use Rattle.uc_step_cycles.specs.declared.acts.Writing.{Writing as WritingStatement}
use Rattle.uc_order_rules.specs.Passages.{Carries, IsPassage, Passes}
use Rattle.uc_order_rules.proofs.Passing.{cycles_are_passed}
use Rattle.uc_step_cycles.specs.Stepping.{IsRead, IsReadIn, IsStepped, KnowsBlocks, ReadsPrimed, primed_at, written_at}
use Rattle.uc_step_cycles.proofs.Around.{fitting}
use Rattle.uc_step_cycles.proofs.Visits.{fit_among, stepped_visit, visit_module}
use Rattle.uc_step_cycles.proofs.Reading.{depends, depends_back}
use Rattle.uc_step_cycles.specs.Graphs.{AroundEdge, DoingEdge, GraphsCarrySteps, IsStepGraph, LeadsToCell, Nodes, ReadsNode, primed}

among_get : {A : Type 0} (xs : List A) (x : A) → IsAmong x xs → (k : ℕ) × (slice_get xs k ≡ Some x)
unfolding IsAmong
among_get [] x h = absurd h
among_get (y ∷ xs) x h = ⊎_elim (λ e. (0, ap (λ z. Some z) (sym e))) (λ r. let k = among_get xs x r in (suc k.0, k.1)) h

get_among : {A : Type 0} (xs : List A) (k : ℕ) (x : A) → slice_get xs k ≡ Some x → IsAmong x xs
unfolding IsAmong
get_among [] zero x h = cc
get_among [] (suc k) x h = cc
get_among (y ∷ xs) zero x h = inl (sym (some_is y x h))
  where
    some_is : {A : Type 0} (a b : A) → Some a ≡ Some b → a ≡ b
    some_is a b h = cc
get_among (y ∷ xs) (suc k) x h = inr (get_among xs k x h)

get_within : {A : Type 0} (xs : List A) (k : ℕ) (x : A) → slice_get xs k ≡ Some x → k < length xs
get_within [] zero x h = cc
get_within [] (suc k) x h = cc
get_within (y ∷ xs) zero x h = omega arith
get_within (y ∷ xs) (suc k) x h = let l = get_within xs k x h in omega (arith, l)

module _ (graph : List (List ℕ)) (count : ℕ) where
  -- a passage by its first edge
  Out : ℕ → ℕ → ℕ → Type 0
  Out zero a m = has (needs graph a) m ≡ true
  Out (suc l) a m = (z : ℕ) × (has (needs graph a) z ≡ true) × (count ≤ z) × Out l z m

  out_last : (l a z m : ℕ) → Out l a z → count ≤ z → has (needs graph z) m ≡ true → Out (suc l) a m
  unfolding Out
  out_last zero a z m e behind last = (z, e, behind, last)
  out_last (suc l) a z m o behind last = (o.0, o.1, o.2, out_last l o.0 z m o.3 behind last)

  to_out : (l a m : ℕ) → IsPassage graph count l a m → Out l a m
  unfolding IsPassage Out
  to_out zero a m e = e
  to_out (suc l) a m p = out_last l a p.0 m (to_out l a p.0 p.1) p.2 p.3

  pass_first : (l a z m : ℕ) → has (needs graph a) z ≡ true → count ≤ z → IsPassage graph count l z m → IsPassage graph count (suc l) a m
  unfolding IsPassage
  pass_first zero a z m e behind p = (z, e, behind, p)
  pass_first (suc l) a z m e behind p = (p.0, pass_first l a z p.0 e behind p.1, p.2, p.3)

  from_out : (l a m : ℕ) → Out l a m → IsPassage graph count l a m
  unfolding IsPassage Out
  from_out zero a m e = e
  from_out (suc l) a m o = pass_first l a o.0 m o.1 o.2 (from_out l o.0 m o.3)

  abbrev Goes : ℕ → ℕ → Type 0
  Goes a m = (l : ℕ) × Out l a m

  goes_one : (a m : ℕ) → has (needs graph a) m ≡ true → Goes a m
  unfolding Out
  goes_one a m e = (0, e)

  goes_first : (a z m : ℕ) → has (needs graph a) z ≡ true → count ≤ z → Goes z m → Goes a m
  unfolding Out
  goes_first a z m e behind g = (suc g.0, (z, e, behind, g.1))

module _ (system : System) (acts : List ℕ → Acts) (graph : List (List ℕ)) (nodes : Nodes) (known : KnowsBlocks system acts) (is : IsStepGraph system acts graph nodes) where
  abbrev Stepped : List ℕ → Type 0
  Stepped path = IsStepped system acts path

  abbrev Way : ℕ → ℕ → Type 0
  Way a m = Goes graph nodes.count a m

  abbrev Found : (ℕ → Type 0) → ℕ → Type 0
  Found P m = (y : ℕ) × P y × (nodes.cell y ≡ Some m)

  step_fits : (q : List ℕ) (i k : ℕ) → Stepped q → IsAmong (Steps i k) (acts q).acts → k ≤ length (acts q).contexts
  step_fits q i k stepped among =
      let v = stepped_visit system acts known stepped.0 q stepped.1 in
      let m = visit_module system acts known stepped.0 q v.0 v.1 in
      fit_among (length (acts q).contexts) (acts q).acts (Steps i k) (known.acts_are q m.0 m.1).nested.acts_fit among

  statement_fits : (q : List ℕ) (w : WritingStatement) → Stepped q → IsAmong (Writes w) (acts q).acts → w.around ≤ length (acts q).contexts
  statement_fits q w stepped among =
      let v = stepped_visit system acts known stepped.0 q stepped.1 in
      let m = visit_module system acts known stepped.0 q v.0 v.1 in
      fit_among (length (acts q).contexts) (acts q).acts (Writes w) (known.acts_are q m.0 m.1).nested.acts_fit among

  context_fits : (q : List ℕ) (k : ℕ) (c : Context) → Stepped q → slice_get (acts q).contexts k ≡ Some c → c.around ≤ length (acts q).contexts
  context_fits q k c stepped there =
      let v = stepped_visit system acts known stepped.0 q stepped.1 in
      let m = visit_module system acts known stepped.0 q v.0 v.1 in
      let low = fitting 0 (acts q).contexts k c (known.acts_are q m.0 m.1).nested.contexts_fit there in
      let within = get_within (acts q).contexts k c there in
      omega (arith, low, within)

  -- ---- what a way leads to

  named : (path : List ℕ) (x m : ℕ) → Stepped path → m < nodes.count → LeadsToCell system acts graph nodes path x m → Found (λ y. IsAmong y (primed system acts graph nodes path x)) m
  named path x m stepped inside h = (is.leads path x m stepped inside).0 h

  by_names : (path names : List ℕ) (b m l : ℕ) → Stepped path → m < nodes.count → ReadsNode system acts graph nodes path names b → (b ≡ m) ⊎ ((nodes.count ≤ b) × Out graph nodes.count l b m) → Found (λ y. IsAmong y (primed_at system path names)) m
  by_names path names b m l stepped inside r h =
      let way : (b ≡ m) ⊎ ((nodes.count ≤ b) × Passes graph nodes.count b m) = ⊎_elim (λ e. inl e) (λ o. inr (o.0, (l, from_out graph nodes.count l b m o.1))) h in
      let y = named path r.0 m stepped inside (b, r.2, way) in
      (y.0, among_flat (λ x. primed system acts graph nodes path x) r.0 y.0 names r.1 y.1, y.2)

  too_low : {A : Type 0} (m b : ℕ) → m < nodes.count → nodes.count ≤ b → m ≡ b → A
  too_low m b inside behind e = absurd (omega (arith, inside, behind, e))

  abbrev Through : ℕ → Type 0
  Through l = (path : List ℕ) (k m : ℕ) → Stepped path → k ≤ length (acts path).contexts → m < nodes.count → Out graph nodes.count l (nodes.around path k) m → Found (IsRead system acts path k) m

  -- by the first edge: it ends in a cell, or there is more
  abbrev Rest : ℕ → ℕ → Type 0
  Rest b m = (b ≡ m) ⊎ ((l : ℕ) × (nodes.count ≤ b) × Out graph nodes.count l b m)

  at_zero : (path : List ℕ) (m b : ℕ) → m < nodes.count → AroundEdge system acts graph nodes path zero b → (b ≡ m) ⊎ ((l : ℕ) × (nodes.count ≤ b) × Out graph nodes.count l b m × Through l) → Found (IsRead system acts path zero) m
  unfolding IsReadIn
  at_zero path m b inside e h =
      ⊎_elim
      (λ here. too_low m (nodes.around e.0 e.2) inside (is.around_behind e.0 e.2 e.3) (sym here ∙ e.6))
      (λ r.
      let y = r.3 e.0 e.2 m e.3 (step_fits e.0 e.1 e.2 e.3 e.5) inside (subst (λ z. Out graph nodes.count r.0 z m) e.6 r.2) in
      (y.0, (suc y.1.0, (e.0, e.1, e.2, e.3, e.4, e.5, y.1.1)), y.2))
      h

  at_more : (path : List ℕ) (k m b : ℕ) → Stepped path → m < nodes.count → AroundEdge system acts graph nodes path (suc k) b → (b ≡ m) ⊎ ((l : ℕ) × (nodes.count ≤ b) × Out graph nodes.count l b m × Through l) → Found (IsRead system acts path (suc k)) m
  unfolding IsReadIn
  at_more path k m b stepped inside e h =
      ⊎_elim
      (λ out.
      ⊎_elim
      (λ here. too_low m (nodes.around path e.0.around) inside (is.around_behind path e.0.around stepped) (sym here ∙ out))
      (λ r.
      let y = r.3 path e.0.around m stepped (context_fits path k e.0 stepped e.1) inside (subst (λ z. Out graph nodes.count r.0 z m) out r.2) in
      (y.0, (suc y.1.0, (e.0, e.1, inr y.1.1)), y.2))
      h)
      (λ own.
      let y = ⊎_elim (λ here. by_names path e.0.reads b m 0 stepped inside own (inl here)) (λ r. by_names path e.0.reads b m r.0 stepped inside own (inr (r.1, r.2))) h in
      (y.0, (1, (e.0, e.1, inl y.1)), y.2))
      e.2

  at_any : (path : List ℕ) (k m b : ℕ) → Stepped path → m < nodes.count → AroundEdge system acts graph nodes path k b → (b ≡ m) ⊎ ((l : ℕ) × (nodes.count ≤ b) × Out graph nodes.count l b m × Through l) → Found (IsRead system acts path k) m
  at_any path zero m b stepped inside e h = at_zero path m b inside e h
  at_any path (suc k) m b stepped inside e h = at_more path k m b stepped inside e h

  through : (l : ℕ) → Through l
  unfolding Out
  through zero path k m stepped fits inside o = at_any path k m m stepped inside ((is.of_conditions path k m stepped fits).0 o) (inl refl)
  through (suc l) path k m stepped fits inside o = at_any path k m o.0 stepped inside ((is.of_conditions path k o.0 stepped fits).0 o.1) (inr (l, o.2, o.3, through l))

  from_statement : (path : List ℕ) (w : WritingStatement) (m b : ℕ) → Stepped path → IsAmong (Writes w) (acts path).acts → m < nodes.count → DoingEdge system acts graph nodes path w b → Rest b m → Found (ReadsPrimed system acts path w) m
  from_statement path w m b stepped among inside e h =
      ⊎_elim
      (λ out.
      ⊎_elim
      (λ here. too_low m (nodes.around path w.around) inside (is.around_behind path w.around stepped) (sym here ∙ out))
      (λ r. let y = through r.0 path w.around m stepped (statement_fits path w stepped among) inside (subst (λ z. Out graph nodes.count r.0 z m) out r.2) in (y.0, inr y.1, y.2))
      h)
      (λ own.
      let y = ⊎_elim (λ here. by_names path w.reads b m 0 stepped inside own (inl here)) (λ r. by_names path w.reads b m r.0 stepped inside own (inr (r.1, r.2))) h in
      (y.0, inl y.1, y.2))
      e

  statement_out : (l : ℕ) (path : List ℕ) (a : ℕ) (w : WritingStatement) (m : ℕ) → Stepped path → slice_get (acts path).acts a ≡ Some (Writes w) → m < nodes.count → Out graph nodes.count l (nodes.doing path a) m → Found (ReadsPrimed system acts path w) m
  unfolding Out
  statement_out zero path a w m stepped there inside o = from_statement path w m m stepped (get_among (acts path).acts a (Writes w) there) inside ((is.of_statements path a w m stepped there).0 o) (inl refl)
  statement_out (suc l) path a w m stepped there inside o =
      from_statement path w m o.0 stepped (get_among (acts path).acts a (Writes w) there) inside ((is.of_statements path a w o.0 stepped there).0 o.1) (inr (l, o.2, o.3))

  cell_out : (l x n m : ℕ) → nodes.cell x ≡ Some n → m < nodes.count → Out graph nodes.count l n m → (y : ℕ) × (nodes.cell y ≡ Some m) × IsAmong y (depends_on system x)
  unfolding Out
  cell_out zero x n m at inside o =
      let e = (is.of_cells n m (is.within x n at)).0 o in
      too_low m (nodes.doing e.path e.act) inside (is.doing_behind e.path e.act e.stepped) e.is
  cell_out (suc l) x n m at inside o =
      let e = (is.of_cells n o.0 (is.within x n at)).0 o.1 in
      let y = statement_out l e.path e.act e.statement m e.stepped e.there inside (subst (λ z. Out graph nodes.count l z m) e.is o.3) in
      let same_cell = is.alone e.cell x n e.is_cell at in (
        y.0,
        y.2,
        depends_back system acts known x y.0
            (record {
              path = e.path;
              statement = e.statement;
              stands = record { stepped = e.stepped; there = get_among (acts e.path).acts e.act (Writes e.statement) e.there };
              writes = subst (λ z. IsAmong z (written_at system e.path e.statement.written)) same_cell e.writes;
              reads = y.1;
            }),
      )

  -- ---- a way to what is read

  name_way : (path names : List ℕ) (y m a : ℕ) → Stepped path → nodes.cell y ≡ Some m → IsAmong y (primed_at system path names) → ((b : ℕ) → ReadsNode system acts graph nodes path names b → has (needs graph a) b ≡ true) → Way a m
  name_way path names y m a stepped at among edge =
      let x = among_back (λ x. primed system acts graph nodes path x) y names among in
      let r = (is.leads path x.0 m stepped (is.within y m at)).1 (y, x.2, at) in
      let e = edge r.0 (x.0, x.1, r.1) in
      ⊎_elim
      (λ here. goes_one graph nodes.count a m (subst (λ b. has (needs graph a) b ≡ true) here e))
      (λ more. goes_first graph nodes.count a r.0 m e more.0 (more.1.0, to_out graph nodes.count more.1.0 r.0 m more.1.1))
      r.2

  around_way : (n : ℕ) (path : List ℕ) (k y m : ℕ) → Stepped path → k ≤ length (acts path).contexts → nodes.cell y ≡ Some m → IsReadIn system acts n path k y → Way (nodes.around path k) m
  unfolding IsReadIn
  around_way zero path k y m stepped fits at r = absurd r
  around_way (suc n) path zero y m stepped fits at r =
      goes_first graph nodes.count (nodes.around path zero) (nodes.around r.0 r.2) m ((is.of_conditions path zero (nodes.around r.0 r.2) stepped fits).1 (r.0, r.1, r.2, r.3, r.4, r.5, refl)) (is.around_behind r.0 r.2 r.3)
      (around_way n r.0 r.2 y m r.3 (step_fits r.0 r.1 r.2 r.3 r.5) at r.6)
  around_way (suc n) path (suc k) y m stepped fits at r =
      ⊎_elim
      (λ own. name_way path r.0.reads y m (nodes.around path (suc k)) stepped at own (λ b e. (is.of_conditions path (suc k) b stepped fits).1 (r.0, r.1, inr e)))
      (λ out.
      goes_first graph nodes.count (nodes.around path (suc k)) (nodes.around path r.0.around) m ((is.of_conditions path (suc k) (nodes.around path r.0.around) stepped fits).1 (r.0, r.1, inl refl)) (is.around_behind path r.0.around stepped)
      (around_way n path r.0.around y m stepped (context_fits path k r.0 stepped r.1) at out))
      r.2

  read_numbered : (n : ℕ) (path : List ℕ) (k y : ℕ) → Stepped path → IsReadIn system acts n path k y → (m : ℕ) × (nodes.cell y ≡ Some m)
  unfolding IsReadIn
  read_numbered zero path k y stepped r = absurd r
  read_numbered (suc n) path zero y stepped r = read_numbered n r.0 r.2 y r.3 r.6
  read_numbered (suc n) path (suc k) y stepped r =
      ⊎_elim
      (λ own. let x = among_back (λ x. primed system acts graph nodes path x) y r.0.reads own in is.numbered path x.0 y stepped x.2)
      (λ out. read_numbered n path r.0.around y stepped out)
      r.2

  numbered_by : (path : List ℕ) (w : WritingStatement) (y : ℕ) → Stepped path → ReadsPrimed system acts path w y → (m : ℕ) × (nodes.cell y ≡ Some m)
  numbered_by path w y stepped r =
      ⊎_elim
      (λ own. let x = among_back (λ x. primed system acts graph nodes path x) y w.reads own in is.numbered path x.0 y stepped x.2)
      (λ out. read_numbered out.0 path w.around y stepped out.1)
      r

  statement_way : (path : List ℕ) (a : ℕ) (w : WritingStatement) (y m : ℕ) → Stepped path → slice_get (acts path).acts a ≡ Some (Writes w) → nodes.cell y ≡ Some m → ReadsPrimed system acts path w y → Way (nodes.doing path a) m
  statement_way path a w y m stepped there at r =
      ⊎_elim
      (λ own. name_way path w.reads y m (nodes.doing path a) stepped at own (λ b e. (is.of_statements path a w b stepped there).1 (inr e)))
      (λ out.
      goes_first graph nodes.count (nodes.doing path a) (nodes.around path w.around) m ((is.of_statements path a w (nodes.around path w.around) stepped there).1 (inl refl)) (is.around_behind path w.around stepped)
      (around_way out.0 path w.around y m stepped (statement_fits path w stepped (get_among (acts path).acts a (Writes w) there)) at out.1))
      r

  cell_way : (x y n : ℕ) → nodes.cell x ≡ Some n → IsAmong y (depends_on system x) → (m : ℕ) × (nodes.cell y ≡ Some m) × Passes graph nodes.count n m
  cell_way x y n at among =
      let d = depends system acts known x y among in
      let a = among_get (acts d.path).acts (Writes d.statement) d.stands.there in
      let m = numbered_by d.path d.statement y d.stands.stepped d.reads in
      let w = statement_way d.path a.0 d.statement y m.0 d.stands.stepped a.1 m.1 d.reads in
      let e = (is.of_cells n (nodes.doing d.path a.0) (is.within x n at)).1
      (record { path = d.path; act = a.0; statement = d.statement; stepped = d.stands.stepped; there = a.1; cell = x; writes = d.writes; is_cell = at; is = refl }) in
      let g = goes_first graph nodes.count n (nodes.doing d.path a.0) m.0 e (is.doing_behind d.path a.0 d.stands.stepped) w in
      (m.0, m.1, (g.0, from_out graph nodes.count g.0 n m.0 g.1))

  pub carries : Carries graph nodes.count nodes.cell (depends_on system)
  carries = record {
    within = is.within;
    alone = is.alone;
    there = λ x y n at among. cell_way x y n at among;
    only = λ x n m at inside p. cell_out p.0 x n m at inside (to_out graph nodes.count p.0 n m p.1);
  }

  bounded : (x y : ℕ) → IsAmong y (depends_on system x) → x < length (cells_of system)
  bounded x y among =
      let d = depends system acts known x y among in
      let n = is.written d.path d.statement x d.stands.stepped d.writes in
      is.bound x n.0 n.1

  pub cycles : (x n : ℕ) → nodes.cell x ≡ Some n → (on_step_cycle system x ≡ true) ↔ LiesOnCycle graph n
  cycles x n at = cycles_are_passed graph nodes.count (length (cells_of system)) nodes.cell (depends_on system) carries bounded x n at

pub graphs_carry_steps : GraphsCarrySteps
graphs_carry_steps system acts graph nodes known is = (carries system acts graph nodes known is, cycles system acts graph nodes known is)
