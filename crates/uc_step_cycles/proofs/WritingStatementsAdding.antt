-- What code does is added part by part.
use Rattle.std.proofs.Common.{◌≡◌, ℕ, ◌+◌, ◌<◌, ◌≤◌, List, [], ◌∷◌, ◌++◌, length, take, get_or, refl, ap, sym, subst, ◌∙◌, append_assoc, arith}
use Rattle.std.specs.Borrow.{Bor}
use Rattle.std.specs.List.{flat_map}
use Rattle.std.specs.Option.{option_and_then}
use Rattle.std.proofs.lemmas.List.{take_all}
use Rattle.std.proofs.lemmas.Grind.{flat_map-append}
use Rattle.uc_syntax.specs.declared.statement.Arm.{Arm}
use Rattle.uc_syntax.specs.declared.statement.Stmt.{Stmt}
use Rattle.uc_syntax.specs.declared.declaration.Decl.{Decl}
use Rattle.uc_syntax.specs.declared.declaration.Module.{Module}
use Rattle.uc_syntax.specs.declared.declaration.Procedure.{Procedure as ProcedureParts}
use Rattle.uc_syntax.proofs.Added.{append_nil}
use Rattle.uc_syntax.proofs.Labels.{flat_map_map}
use Rattle.uc_rules.proofs.Lists.{take_turn}
use Rattle.uc_meaning.specs.Lookup.{module_at, next_in, next_of, procedure_of}
use Rattle.uc_names.specs.declared.firsts.Firsts.{Firsts}
use Rattle.uc_order_rules.specs.Reads.{cells_primed}
use Rattle.uc_order_rules.specs.Writes.{modified_names}
use Rattle.uc_order_rules.specs.Dependence.{Piece, stepped_piece, writing_by}
use Rattle.uc_step_cycles.specs.declared.acts.Act.{Act}
use Rattle.uc_step_cycles.specs.declared.acts.Act.TheVariants.{Writes, Steps}
use Rattle.uc_step_cycles.specs.declared.acts.Acts.{Acts}
use Rattle.uc_step_cycles.specs.declared.acts.Context.{Context}
use Rattle.uc_step_cycles.specs.Procedures.{KnowsProcedures}
use Rattle.uc_step_cycles.specs.Acts.{ActsFit, AreActs, ContextsFit, IsNested, Setting, act_around, act_writings, around_of, cells_of_primed, cells_of_written, none_yet, primed_names, writings_of}
use Rattle.uc_step_cycles.specs.Walks.{Added, Adds, AddsArms, IsKnown, arms_around, arms_piece, code_piece, statement_piece}
use Rattle.uc_step_cycles.proofs.Named.{condition_cells}
use Rattle.uc_step_cycles.proofs.Contexts.{acts_more, acts_push, around_block, around_kept, around_new, contexts_push, length_one}

-- what statements did stays when a condition is added
stays : (s : Setting) (cs : List Context) (c : Context) (as' : List Act) → ActsFit (length cs) as' → flat_map (act_writings s (cs ++ c ∷ [])) as' ≡ flat_map (act_writings s cs) as'
unfolding ActsFit
stays s cs c [] fit = refl
stays s cs c (Writes w ∷ as') fit =
    (λ k. record { place = w.place; written = cells_of_written s w.written; reads = around_kept s cs c w.around fit.0 k ++ cells_of_primed s w.reads } ∷ [] ++ stays s cs c as' fit.1 k)
stays s cs c (Steps i n ∷ as') fit =
    (λ k. stepped_piece s.blocks (s.path ++ i ∷ []) (module_at s.system (s.path ++ i ∷ [])) (around_kept s cs c n fit.0 k) ++ stays s cs c as' fit.1 k)

code_join : (s : Setting) (xs ys : List Stmt) (around : List ℕ) → code_piece s (xs ++ ys) around ≡ code_piece s xs around ++ code_piece s ys around
unfolding code_piece
code_join s xs ys around = flat_map-append (λ st. statement_piece s st around) xs ys

code_one : (s : Setting) (st : Stmt) (around : List ℕ) → code_piece s (st ∷ []) around ≡ statement_piece s st around
unfolding code_piece
code_one s st around = append_nil (statement_piece s st around)

arms_push : (s : Setting) (as' : List (Arm Stmt)) (a : Arm Stmt) (around : List ℕ) →
    arms_piece s (as' ++ a ∷ []) around ≡ arms_piece s as' around ++ code_piece s a.body (arms_around s as' around ++ cells_primed s.system s.path a.condition)
unfolding arms_piece arms_around
arms_push s [] a around = append_nil (code_piece s a.body (around ++ cells_primed s.system s.path a.condition))
arms_push s (b ∷ as') a around =
    ap (λ ws. code_piece s b.body (around ++ cells_primed s.system s.path b.condition) ++ ws) (arms_push s as' a (around ++ cells_primed s.system s.path b.condition))
    ∙ sym (append_assoc (code_piece s b.body (around ++ cells_primed s.system s.path b.condition)) (arms_piece s as' (around ++ cells_primed s.system s.path b.condition)) _)

arounds_push : (s : Setting) (as' : List (Arm Stmt)) (a : Arm Stmt) (around : List ℕ) → arms_around s (as' ++ a ∷ []) around ≡ arms_around s as' around ++ cells_primed s.system s.path a.condition
unfolding arms_around
arounds_push s [] a around = refl
arounds_push s (b ∷ as') a around = arounds_push s as' a (around ++ cells_primed s.system s.path b.condition)

module _ (t : Firsts (Bor ProcedureParts)) where
  pub adds_none : (old : Acts) (n : ℕ) (piece : Setting → Piece) → ((s : Setting) (around : List ℕ) → piece s around ≡ []) → Adds t old old n piece
  unfolding Adds
  adds_none old n piece is nested within = record {
    nested = nested;
    more = omega arith;
    kept = λ s k h. refl;
    writings = λ s known. sym (ap (λ ws. writings_of s old ++ ws) (is s (around_of s old.contexts n)) ∙ append_nil (writings_of s old));
  }

  pub adds_same : (old new : Acts) (n : ℕ) (f g : Setting → Piece) → Adds t old new n f → ((s : Setting) → IsKnown t s → (around : List ℕ) → g s around ≡ f s around) → Adds t old new n g
  unfolding Adds
  adds_same old new n f g adds is nested within =
      let a = adds nested within in
      record {
        nested = a.nested;
        more = a.more;
        kept = a.kept;
        writings = λ s known. a.writings s known ∙ ap (λ ws. writings_of s old ++ ws) (sym (is s known (around_of s old.contexts n)));
      }

  pub adds_two : (old mid new : Acts) (n : ℕ) (f g h : Setting → Piece) → Adds t old mid n f → Adds t mid new n g → ((s : Setting) (around : List ℕ) → h s around ≡ f s around ++ g s around) → Adds t old new n h
  unfolding Adds
  adds_two old mid new n f g h first second is nested within =
      let a = first nested within in
      let b = second a.nested (omega (arith, a.more, within)) in
      record {
        nested = b.nested;
        more = omega (arith, a.more, b.more);
        kept = λ s k l. b.kept s k (omega (arith, l, a.more)) ∙ a.kept s k l;
        writings = λ s known.
            b.writings s known
            ∙ (λ k. a.writings s known k ++ g s (a.kept s n within k))
            ∙ append_assoc (writings_of s old) (f s (around_of s old.contexts n)) (g s (around_of s old.contexts n))
            ∙ ap (λ ws. writings_of s old ++ ws) (sym (is s (around_of s old.contexts n)));
      }

  pub adds_act : (old new : Acts) (n : ℕ) (a : Act) (piece : Setting → Piece) → new.contexts ≡ old.contexts → new.acts ≡ old.acts ++ a ∷ [] → act_around a ≡ n →
      ((s : Setting) → IsKnown t s → (cs : List Context) → act_writings s cs a ≡ piece s (around_of s cs n)) → Adds t old new n piece
  unfolding Adds writings_of
  adds_act old new n a piece same pushed at is nested within = record {
    nested = record {
      contexts_fit = subst (ContextsFit 0) (sym same) nested.contexts_fit;
      acts_fit = subst (λ as'. ActsFit (length new.contexts) as') (sym pushed)
          (subst (λ cs. ActsFit (length cs) (old.acts ++ a ∷ [])) (sym same) (acts_push (length old.contexts) old.acts a nested.acts_fit (omega (arith, at, within))));
    };
    more = let l = ap length same in omega (arith, l);
    kept = λ s k h. ap (λ cs. around_of s cs k) same;
    writings = λ s known.
        (λ k. flat_map (act_writings s (same k)) (pushed k))
        ∙ flat_map-append (act_writings s old.contexts) old.acts (a ∷ [])
        ∙ ap (λ ws. flat_map (act_writings s old.contexts) old.acts ++ ws) (append_nil (act_writings s old.contexts a) ∙ is s known old.contexts);
  }

  -- ---- the first k statements of some

  pub record CodeUpTo (old : Acts) (n : ℕ) (code : List Stmt) (k : ℕ) (now : Acts) : Type 0 where
    pub is : Adds t old now n (λ s. code_piece s (take k code))

  pub code_begin : (old : Acts) (n : ℕ) (code : List Stmt) → CodeUpTo old n code 0 old
  unfolding code_piece
  code_begin old n code = record { is = adds_none old n (λ s. code_piece s (take 0 code)) (λ s around. refl) }

  pub code_more : (old now after : Acts) (n : ℕ) (code : List Stmt) (k : ℕ) (st d : Stmt) → CodeUpTo old n code k now → k < length code → st ≡ get_or code k d → Adds t now after n (λ s. statement_piece s st) →
      CodeUpTo old n code (k + 1) after
  code_more old now after n code k st d held within at adds = record {
    is = adds_two old now after n (λ s. code_piece s (take k code)) (λ s. statement_piece s st) (λ s. code_piece s (take (k + 1) code)) held.is adds
        (λ s around.
        ap (λ ys. code_piece s ys around) (take_turn code k st d within at)
        ∙ code_join s (take k code) (st ∷ []) around
        ∙ ap (λ ws. code_piece s (take k code) around ++ ws) (code_one s st around));
  }

  pub code_end : (old now : Acts) (n : ℕ) (code : List Stmt) (k : ℕ) → CodeUpTo old n code k now → length code ≤ k → Adds t old now n (λ s. code_piece s code)
  code_end old now n code k held past =
      adds_same old now n (λ s. code_piece s (take k code)) (λ s. code_piece s code) held.is (λ s known around. sym (ap (λ ys. code_piece s ys around) (take_all k code past)))

  -- ---- the next blocks of the first k declarations of some

  pub record NextsUpTo (old : Acts) (ds : List Decl) (k : ℕ) (now : Acts) : Type 0 where
    pub is : Adds t old now 0 (λ s. code_piece s (flat_map next_in (take k ds)))

  pub nexts_begin : (old : Acts) (ds : List Decl) → NextsUpTo old ds 0 old
  unfolding code_piece
  nexts_begin old ds = record { is = adds_none old 0 (λ s. code_piece s (flat_map next_in (take 0 ds))) (λ s around. refl) }

  pub nexts_more : (old now after : Acts) (ds : List Decl) (k : ℕ) (d e : Decl) (shown : List Stmt) → NextsUpTo old ds k now → k < length ds → d ≡ get_or ds k e → shown ≡ next_in d →
      Adds t now after 0 (λ s. code_piece s shown) → NextsUpTo old ds (k + 1) after
  nexts_more old now after ds k d e shown held within at same adds = record {
    is = adds_two old now after 0 (λ s. code_piece s (flat_map next_in (take k ds))) (λ s. code_piece s shown) (λ s. code_piece s (flat_map next_in (take (k + 1) ds))) held.is adds
        (λ s around.
        ap (λ ys. code_piece s ys around)
        (ap (flat_map next_in) (take_turn ds k d e within at) ∙ flat_map-append next_in (take k ds) (d ∷ []) ∙ ap (λ ys. flat_map next_in (take k ds) ++ ys) (append_nil (next_in d) ∙ sym same))
        ∙ code_join s (flat_map next_in (take k ds)) shown around);
  }

  pub nexts_end : (old now : Acts) (ds : List Decl) (k : ℕ) → NextsUpTo old ds k now → length ds ≤ k → Adds t old now 0 (λ s. code_piece s (flat_map next_in ds))
  nexts_end old now ds k held past =
      adds_same old now 0 (λ s. code_piece s (flat_map next_in (take k ds))) (λ s. code_piece s (flat_map next_in ds)) held.is
      (λ s known around. sym (ap (λ ys. code_piece s (flat_map next_in ys) around) (take_all k ds past)))

  -- ---- the first k arms of some

  pub record ArmsUpTo (old : Acts) (n : ℕ) (as' : List (Arm Stmt)) (k last : ℕ) (now : Acts) : Type 0 where
    pub is : AddsArms t old now n last (take k as')

  pub arms_begin : (old : Acts) (n : ℕ) (as' : List (Arm Stmt)) → ArmsUpTo old n as' 0 n old
  unfolding AddsArms Adds arms_piece arms_around
  arms_begin old n as' = record {
    is = λ nested within. record {
      added = adds_none old n (λ s. arms_piece s (take 0 as')) (λ s around. refl) nested within;
      within = within;
      last_is = λ s. refl;
    };
  }

  pub arms_more : (old now mid after : Acts) (n last here : ℕ) (as' : List (Arm Stmt)) (k : ℕ) (a d : Arm Stmt) (shown : List Stmt) → ArmsUpTo old n as' k last now → k < length as' → a ≡ get_or as' k d →
      here ≡ length mid.contexts → mid.contexts ≡ now.contexts ++ record { reads = primed_names (a.condition ∷ []); around = last } ∷ [] → mid.acts ≡ now.acts → shown ≡ a.body →
      Adds t mid after here (λ s. code_piece s shown) → ArmsUpTo old n as' (k + 1) here after
  unfolding AddsArms Adds writings_of
  arms_more old now mid after n last here as' k a d shown held turn at number entered same body adds = record {
    is = λ nested within.
        let x = held.is nested within in
        let b : Context = record { reads = primed_names (a.condition ∷ []); around = last } in
        let l = length_one now.contexts b in
        let m = ap length entered in
        let fits : IsNested mid = record {
          contexts_fit = subst (ContextsFit 0) (sym entered) (contexts_push 0 now.contexts b x.added.nested.contexts_fit (omega (arith, x.within)));
          acts_fit = subst (λ ys. ActsFit (length mid.contexts) ys) (sym same) (acts_more (length now.contexts) (length mid.contexts) now.acts (omega (arith, l, m)) x.added.nested.acts_fit);
        } in
        let y = adds fits (omega (arith, number)) in
        let kept : (s : Setting) (j : ℕ) → j ≤ length now.contexts → around_of s mid.contexts j ≡ around_of s now.contexts j = λ s j h. ap (λ cs. around_of s cs j) entered ∙ around_kept s now.contexts b j h in
        let around_is : (s : Setting) → around_of s mid.contexts here ≡ arms_around s (take k as') (around_of s old.contexts n) ++ cells_primed s.system s.path a.condition =
        λ s.
        ap (λ cs. around_of s cs here) entered
        ∙ around_new s now.contexts b here (number ∙ m)
        ∙ (λ j. x.last_is s j ++ condition_cells s a.condition j) in
        record {
          added = record {
            nested = y.nested;
            more = omega (arith, x.added.more, y.more, l, m);
            kept = λ s j h. y.kept s j (omega (arith, h, x.added.more, l, m)) ∙ kept s j (omega (arith, h, x.added.more)) ∙ x.added.kept s j h;
            writings = λ s known.
                y.writings s known
                ∙ (λ j. ((λ i. flat_map (act_writings s (entered i)) (same i)) ∙ stays s now.contexts b now.acts x.added.nested.acts_fit ∙ x.added.writings s known) j ++ code_piece s (body j) (around_is s j))
                ∙ append_assoc (writings_of s old) (arms_piece s (take k as') (around_of s old.contexts n)) _
                ∙ ap (λ ws. writings_of s old ++ ws)
                (sym (ap (λ ys. arms_piece s ys (around_of s old.contexts n)) (take_turn as' k a d turn at) ∙ arms_push s (take k as') a (around_of s old.contexts n)));
          };
          within = omega (arith, y.more, number);
          last_is = λ s.
              y.kept s here (omega (arith, number)) ∙ around_is s
              ∙ sym (ap (λ ys. arms_around s ys (around_of s old.contexts n)) (take_turn as' k a d turn at) ∙ arounds_push s (take k as') a (around_of s old.contexts n));
        };
  }

  pub arms_end : (old now : Acts) (n last : ℕ) (as' : List (Arm Stmt)) (k : ℕ) → ArmsUpTo old n as' k last now → length as' ≤ k → AddsArms t old now n last as'
  arms_end old now n last as' k held past = subst (λ ys. AddsArms t old now n last ys) (take_all k as' past) held.is

  pub arms_alone : (old new : Acts) (n last : ℕ) (as' : List (Arm Stmt)) (g : Setting → Piece) → AddsArms t old new n last as' → ((s : Setting) (around : List ℕ) → g s around ≡ arms_piece s as' around) → Adds t old new n g
  unfolding AddsArms Adds
  arms_alone old new n last as' g adds is =
      adds_same old new n (λ s. arms_piece s as') g (λ nested within. (adds nested within).added) (λ s known around. is s around)

  pub arms_then : (old mid new : Acts) (n last : ℕ) (as' : List (Arm Stmt)) (code : List Stmt) (g : Setting → Piece) → AddsArms t old mid n last as' → Adds t mid new last (λ s. code_piece s code) →
      ((s : Setting) (around : List ℕ) → g s around ≡ arms_piece s as' around ++ code_piece s code (arms_around s as' around)) → Adds t old new n g
  unfolding AddsArms Adds
  arms_then old mid new n last as' code g first second is nested within =
      let x = first nested within in
      let y = second x.added.nested x.within in
      record {
        nested = y.nested;
        more = omega (arith, x.added.more, y.more);
        kept = λ s j h. y.kept s j (omega (arith, h, x.added.more)) ∙ x.added.kept s j h;
        writings = λ s known.
            y.writings s known
            ∙ (λ j. x.added.writings s known j ++ code_piece s code (x.last_is s j))
            ∙ append_assoc (writings_of s old) (arms_piece s as' (around_of s old.contexts n)) _
            ∙ ap (λ ws. writings_of s old ++ ws) (sym (is s (around_of s old.contexts n)));
      }

-- ---- the whole

block_is : (s : Setting) (code : List Stmt) → writing_by s.system s.blocks s.path code s.around ≡ code_piece s code s.around
unfolding writing_by code_piece statement_piece
block_is s code = flat_map_map (λ (p : Piece). p s.around) _ code

pub whole_acts : (m : Module) (t : Firsts (Bor ProcedureParts)) (ds : List Decl) (none new : Acts) → ds ≡ m.decls → KnowsProcedures ds t → none ≡ none_yet → Adds t none new 0 (λ s. code_piece s (flat_map next_in ds)) → AreActs m new
unfolding Adds KnowsProcedures IsKnown writings_of ActsFit ContextsFit
whole_acts m t ds none new shown knows is adds =
    let start : IsNested none_yet = record { contexts_fit = tt; acts_fit = tt } in
    let a = subst (λ x. Added t x new 0 (λ s. code_piece s (flat_map next_in ds))) is (adds (subst IsNested (sym is) start) (omega arith)) in
    record {
      nested = a.nested;
      same = λ s at.
          block_is s (next_of m)
          ∙ sym (a.writings s (λ f. ap modified_names (knows f ∙ (λ k. procedure_of (record m { decls = shown k }) f)) ∙ sym (ap (λ o. modified_names (option_and_then (λ x. procedure_of x f) o)) at))
          ∙ (λ k. code_piece s (flat_map next_in (shown k)) (around_block s k)));
    }
