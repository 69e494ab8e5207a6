-- The blocks that are stepped, with what the conditions around them read, and the statements that they have.
use Rattle.std.proofs.Common.{◌≡◌, ℕ, zero, suc, ◌+◌, ◌-◌, ◌≤◌, List, [], ◌∷◌, ◌++◌, length, Option, Some, None, refl, ap, sym, subst, ◌∙◌, inl, ⊎_elim, arith}
use Rattle.std.specs.List.{flat_map}
use Rattle.uc_syntax.specs.declared.declaration.Module.{Module}
use Rattle.uc_syntax.proofs.Added.{append_nil}
use Rattle.uc_meaning.specs.Lookup.{System, module_at, module_from, next_of}
use Rattle.std.specs.Option.{option_and_then}
use Rattle.uc_meaning.specs.Cells.{as_list, longest_chain}
use Rattle.uc_meaning.specs.Steps.{main_next}
use Rattle.uc_declared_types.specs.AliasLaw.{IsAmong}
use Rattle.uc_declared_types.proofs.Among.{among_back, among_flat}
use Rattle.uc_order_rules.specs.Dependence.{Blocks, Writing, stepped_piece, writing_through, writings}
use Rattle.uc_step_cycles.specs.declared.acts.Act.{Act}
use Rattle.uc_step_cycles.specs.declared.acts.Act.TheVariants.{Writes, Steps}
use Rattle.uc_step_cycles.specs.declared.acts.Acts.{Acts}
use Rattle.uc_step_cycles.specs.declared.acts.Writing.{Writing as WritingStatement}
use Rattle.uc_step_cycles.specs.Acts.{ActsFit, Setting, act_around, act_writings, around_of, cells_of_primed, cells_of_written, writings_of}
use Rattle.uc_step_cycles.specs.Stepping.{IsSteppedIn, KnowsBlocks, primed_at, written_at}
use Rattle.uc_step_cycles.proofs.Around.{around_same, setting}

abbrev pub no_blocks : Blocks
no_blocks path code around = []

pub some_module : (m n : Module) → Some m ≡ Some n → m ≡ n
some_module m n h = ap (λ o. module_or o) h
  where
    module_or : Option Module → Module
    module_or (Some x) = x
    module_or None = m

pub length_push : {A : Type 0} (xs : List A) (y : A) → length (xs ++ y ∷ []) ≡ suc (length xs)
length_push [] y = refl
length_push (x ∷ xs) y = let e = length_push xs y in omega (arith, e)

pub fit_among : (n : ℕ) (as' : List Act) (a : Act) → ActsFit n as' → IsAmong a as' → act_around a ≤ n
unfolding ActsFit IsAmong
fit_among n [] a fit h = absurd h
fit_among n (b ∷ as') a fit h = ⊎_elim (λ e. subst (λ x. act_around x ≤ n) (sym e) fit.0) (λ r. fit_among n as' a fit.1 r) h

module _ (system : System) (acts : List ℕ → Acts) (known : KnowsBlocks system acts) where
  -- what the conditions of a number read, where these cells are read around the block
  abbrev pub around : List ℕ → List ℕ → ℕ → List ℕ
  around path a k = around_of (setting system no_blocks path a) (acts path).contexts k

  -- a block at a path so deep is stepped, where these cells are read around it
  unfoldable pub Visits : ℕ → List ℕ → List ℕ → Type 0
  Visits zero path a = (path ≡ []) × (a ≡ [])
  Visits (suc d) path a =
      (q : List ℕ) × (i : ℕ) × (k : ℕ) × (b : List ℕ) × (m : Module) × Visits d q b × (path ≡ q ++ i ∷ []) × IsAmong (Steps i k) (acts q).acts × (module_at system path ≡ Some m) × (a ≡ around q b k)

  root_at : module_at system [] ≡ Some known.root
  unfolding module_from
  root_at = ap (λ o. option_and_then (λ m. module_from system m []) o) known.is_root

  pub visit_module : (d : ℕ) (path a : List ℕ) → Visits d path a → (m : Module) × (module_at system path ≡ Some m)
  unfolding Visits
  visit_module zero path a v = (known.root, subst (λ p. module_at system p ≡ Some known.root) (sym v.0) root_at)
  visit_module (suc d) path a v = (v.4, v.8)

  pub visit_depth : (d : ℕ) (path a : List ℕ) → Visits d path a → length path ≡ d
  unfolding Visits
  visit_depth zero path a v = ap length v.0
  visit_depth (suc d) path a v = ap length v.6 ∙ length_push v.0 v.1 ∙ ap suc (visit_depth d v.0 v.3 v.5)

  pub visit_stepped : (d : ℕ) (path a : List ℕ) → Visits d path a → IsSteppedIn system acts d path
  unfolding Visits IsSteppedIn
  visit_stepped zero path a v = v.0
  visit_stepped (suc d) path a v = (v.0, v.1, v.2, v.4, visit_stepped d v.0 v.3 v.5, v.6, v.7, v.8)

  pub stepped_visit : (d : ℕ) (path : List ℕ) → IsSteppedIn system acts d path → (a : List ℕ) × Visits d path a
  unfolding Visits IsSteppedIn
  stepped_visit zero path s = ([], (s, refl))
  stepped_visit (suc d) path s = let v = stepped_visit d s.0 s.4 in (around s.0 v.0 s.2, (s.0, s.1, s.2, v.0, s.3, v.1, s.5, s.6, s.7, refl))

  -- a statement, where it is stepped so
  abbrev pub writing_of : List ℕ → List ℕ → WritingStatement → Writing
  writing_of path a w = record { place = w.place; written = written_at system path w.written; reads = around path a w.around ++ primed_at system path w.reads }

  abbrev pub Found : Writing → Type 0
  Found w = (d : ℕ) × (path : List ℕ) × (a : List ℕ) × (st : WritingStatement) × Visits d path a × IsAmong (Writes st) (acts path).acts × (w ≡ writing_of path a st)

  abbrev deep : ℕ → List ℕ → List ℕ → Setting
  deep n path a = setting system (writing_through n system) path a

  -- the statement of the definition is the one here
  same_writing : (n : ℕ) (path a : List ℕ) (st : WritingStatement) → act_writings (deep n path a) (acts path).contexts (Writes st) ≡ writing_of path a st ∷ []
  unfolding cells_of_primed cells_of_written
  same_writing n path a st =
      (λ k. record { place = st.place; written = written_at system path st.written; reads = around_same system path a (writing_through n system) no_blocks (acts path).contexts st.around k ++ primed_at system path st.reads } ∷ [])

  one_is : (w v : Writing) → IsAmong w (v ∷ []) → w ≡ v
  unfolding IsAmong
  one_is w v h = ⊎_elim (λ e. e) (λ r. absurd r) h

  one_there : (w : Writing) → IsAmong w (w ∷ [])
  unfolding IsAmong
  one_there w = inl refl

  block_same : (n : ℕ) (path a : List ℕ) (m : Module) → module_at system path ≡ Some m → writing_through (suc n) system path (next_of m) a ≡ flat_map (act_writings (deep n path a) (acts path).contexts) (acts path).acts
  unfolding writing_through writings_of
  block_same n path a m at = (known.acts_are path m at).same (deep n path a) at

  module _ (w : Writing) where
    abbrev More : ℕ → Type 0
    More n = (d : ℕ) (path a : List ℕ) (m : Module) → module_at system path ≡ Some m → Visits d path a → IsAmong w (writing_through n system path (next_of m) a) → Found w

    below : (n d : ℕ) (q b path a : List ℕ) (i k : ℕ) → More n → Visits d q b → path ≡ q ++ i ∷ [] → IsAmong (Steps i k) (acts q).acts → a ≡ around q b k → (o : Option Module) → module_at system path ≡ o →
        IsAmong w (stepped_piece (writing_through n system) path o a) → Found w
    unfolding Visits IsAmong
    below n d q b path a i k more v is there same None at h = absurd h
    below n d q b path a i k more v is there same (Some m) at h = more (suc d) path a m at (q, i, k, b, m, v, is, there, at, same) h

    by_act : (n d : ℕ) (path a : List ℕ) → More n → Visits d path a → (x : Act) → IsAmong x (acts path).acts → IsAmong w (act_writings (deep n path a) (acts path).contexts x) → Found w
    by_act n d path a more v (Writes st) there h = (d, path, a, st, v, there, one_is w (writing_of path a st) (subst (λ ws. IsAmong w ws) (same_writing n path a st) h))
    by_act n d path a more v (Steps i k) there h =
        below n d path a (path ++ i ∷ []) (around_of (deep n path a) (acts path).contexts k) i k more v refl there (around_same system path a (writing_through n system) no_blocks (acts path).contexts k) (module_at system (path ++ i ∷ [])) refl h

    found : (n : ℕ) → More n
    unfolding writing_through IsAmong
    found zero d path a m at v h = absurd h
    found (suc n) d path a m at v h =
        let r = among_back (act_writings (deep n path a) (acts path).contexts) w (acts path).acts (subst (λ ws. IsAmong w ws) (block_same n path a m at) h) in
        by_act n d path a (found n) v r.0 r.1 r.2

    -- what a block does, what steps it does
    into : (n : ℕ) (path a : List ℕ) (m : Module) (x : Act) → module_at system path ≡ Some m → IsAmong x (acts path).acts → IsAmong w (act_writings (deep n path a) (acts path).contexts x) →
        IsAmong w (writing_through (suc n) system path (next_of m) a)
    into n path a m x at there h =
        subst (λ ws. IsAmong w ws) (sym (block_same n path a m at)) (among_flat (act_writings (deep n path a) (acts path).contexts) x w (acts path).acts there h)

    as_step : (n : ℕ) (q b path a : List ℕ) (i k : ℕ) (m : Module) → path ≡ q ++ i ∷ [] → a ≡ around q b k → module_at system path ≡ Some m → IsAmong w (writing_through n system path (next_of m) a) →
        IsAmong w (act_writings (deep n q b) (acts q).contexts (Steps i k))
    as_step n q b path a i k m is same at h =
        subst (λ ws. IsAmong w ws)
        ((λ j. writing_through n system (is j) (next_of m) ((same ∙ sym (around_same system q b (writing_through n system) no_blocks (acts q).contexts k)) j))
        ∙ (λ j. stepped_piece (writing_through n system) (q ++ i ∷ []) (sym (ap (module_at system) (sym is) ∙ at) j) (around_of (deep n q b) (acts q).contexts k)))
        h

    up : (d n t : ℕ) (path a : List ℕ) (m : Module) → Visits d path a → module_at system path ≡ Some m → t ≡ suc (n + d) → IsAmong w (writing_through (suc n) system path (next_of m) a) →
        IsAmong w (writing_through t system [] (main_next system) [])
    unfolding Visits
    up zero n t path a m v at is h =
        let whole : main_next system ≡ next_of m = ap (λ o. flat_map next_of (as_list o)) (known.is_root ∙ sym root_at ∙ sym (ap (module_at system) v.0) ∙ at) ∙ append_nil (next_of m) in
        let count : suc n ≡ t = omega (arith, is) in
        subst (λ ws. IsAmong w ws) (λ j. writing_through (count j) system (v.0 j) (sym whole j) (v.1 j)) h
    up (suc d) n t path a m v at is h =
        let b = visit_module d v.0 v.3 v.5 in
        up d (suc n) t v.0 v.3 b.0 v.5 b.1 (omega (arith, is)) (into (suc n) v.0 v.3 b.0 (Steps v.1 v.2) b.1 v.7 (as_step (suc n) v.0 v.3 path a v.1 v.2 m v.6 v.9 at h))

  pub writing_found : (w : Writing) → IsAmong w (writings system) → Found w
  unfolding writings Visits
  writing_found w h =
      found w longest_chain zero [] [] known.root root_at (refl, refl)
      (subst (λ ws. IsAmong w ws) (λ j. writing_through longest_chain system [] ((ap (λ o. flat_map next_of (as_list o)) known.is_root ∙ append_nil (next_of known.root)) j) []) h)

  pub found_writing : (d : ℕ) (path a : List ℕ) (st : WritingStatement) → Visits d path a → IsAmong (Writes st) (acts path).acts → IsAmong (writing_of path a st) (writings system)
  unfolding writings
  found_writing d path a st v there =
      let b = visit_module d path a v in
      let depth = visit_depth d path a v in
      let shallow = known.shallow path b.0 b.1 in
      up (writing_of path a st) d (31 - d) longest_chain path a b.0 v b.1 (omega (arith, depth, shallow))
      (into (writing_of path a st) (31 - d) path a b.0 (Writes st) b.1 there (subst (λ ws. IsAmong (writing_of path a st) ws) (sym (same_writing (31 - d) path a st)) (one_there (writing_of path a st))))
