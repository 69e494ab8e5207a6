-- Modules, each after those of its instances.
use Rattle.std.proofs.Common.{◌≡◌, ℕ, zero, suc, ◌+◌, ◌<◌, ◌≤◌, Bool, true, false, List, [], ◌∷◌, ◌++◌, length, take, get_or, map, Option, Some, None, refl, ap, ◌∙◌, sym, subst, arith, append_assoc, inl, inr, ⊎_elim}
use Rattle.std.specs.Prelude.{◌||◌, nat_eq, if◌then◌else◌, slice_index_or}
use Rattle.std.specs.List.{flat_map}
use Rattle.std.specs.Option.{option_and_then}
use Rattle.std.proofs.lemmas.List.{take_all}
use Rattle.std.proofs.lemmas.Grind.{flat_map-append}
use Rattle.uc_syntax.proofs.Added.{append_nil}
use Rattle.uc_syntax.specs.declared.declaration.Module.{Module}
use Rattle.uc_meaning.specs.Lookup.{InstanceParts, System, instances_of, module_named}
use Rattle.uc_rules.specs.declared.fault.Fault.{Fault}
use Rattle.uc_rules.specs.Faults.{first_of, IsIn}
use Rattle.uc_rules.specs.Cycles.{instance_steps, instance_steps_from}
use Rattle.uc_rules.proofs.Chains.{first_of_append}
use Rattle.uc_rules.proofs.Lists.{take_turn}
use Rattle.uc_names.specs.Senses.{module_in}
use Rattle.uc_graph.specs.Order.{EachAfter, IsNeededFirst, has, needs}
use Rattle.uc_module_writes.proofs.Members.{has_cons, has_first, has_split}
use Rattle.uc_order_rules.proofs.SameFaults.{in_either, in_left, in_right, same_first}
use Rattle.uc_declared_types.specs.AliasLaw.{IsAmong}
use Rattle.uc_declared_types.proofs.WayLawsAliases.{find_name}
use Rattle.uc_declared_types.proofs.Among.{find_among}
use Rattle.uc_declared_types.proofs.Instances.{module_names}
use Rattle.uc_order_rules.specs.Writes.{twice_in_step, written_through}
use Rattle.uc_module_writes.specs.declared.written.WrittenPairs.{WrittenPairs}
use Rattle.uc_module_writes.specs.Found.{FindsBlock}
use Rattle.uc_module_writes.specs.declared.places.ModulePlaces.{ModulePlaces}
use Rattle.uc_module_writes.specs.declared.summaries.Summaries.{Summaries}
use Rattle.uc_module_writes.specs.Places.{place_by, place_named, places_in}
use Rattle.uc_module_writes.specs.Premise.{NoInstanceCycles}
use Rattle.uc_module_writes.specs.Stepped.{MeetsAmong, IsReady, KnowsModule, NotesModule, summary_at, summary_by}
use Rattle.uc_module_writes.proofs.Placed.{named_nowhere, named_there, needed_by, needed_there}
use Rattle.uc_module_writes.proofs.Ranks.{rank, rank_falls, rank_less}

equal : (n m : ℕ) → nat_eq n m ≡ true → n ≡ m
equal n m h = grind (arith, h)

some_same : {A : Type 0} (x y : A) → Some x ≡ Some y → x ≡ y
some_same x y h = cc

-- ---- lists by places

module_among : (ms : List Module) (p : ℕ) → p < length ms → IsAmong (module_in ms p) ms
unfolding IsAmong
module_among [] p h = absurd (omega (arith, h))
module_among (m ∷ ms) zero h = inl refl
module_among (m ∷ ms) (suc p) h = inr (module_among ms p (omega (arith, h)))

mapped_at : (f : Module → List ℕ) (ms : List Module) (p : ℕ) → p < length ms → slice_index_or (map f ms) p [] ≡ f (module_in ms p)
mapped_at f [] p h = absurd (omega (arith, h))
mapped_at f (m ∷ ms) zero h = refl
mapped_at f (m ∷ ms) (suc p) h = mapped_at f ms p (omega (arith, h))

mapped_length : (f : Module → List ℕ) (ms : List Module) → length (map f ms) ≡ length ms
mapped_length f [] = refl
mapped_length f (m ∷ ms) = ap suc (mapped_length f ms)

among_names : (m : Module) (ms : List Module) → IsAmong m ms → IsAmong m.name (map {B = ℕ} (λ k. k.name) ms)
unfolding IsAmong
among_names m [] h = absurd h
among_names m (k ∷ ms) h = ⊎_elim (λ e. inl (ap (λ (q : Module). q.name) e)) (λ r. inr (among_names m ms r)) h

among_modules : (i : InstanceParts) (is : List InstanceParts) → IsAmong i is → IsAmong i.module_name (map {B = ℕ} (λ j. j.module_name) is)
unfolding IsAmong
among_modules i [] h = absurd h
among_modules i (j ∷ is) h = ⊎_elim (λ e. inl (ap (λ (q : InstanceParts). q.module_name) e)) (λ r. inr (among_modules i is r)) h

place_has : (ns : List ℕ) (k n d : ℕ) → k < length ns → n ≡ get_or ns k d → has ns n ≡ true
place_has [] k n d h e = absurd (omega (arith, h))
place_has (x ∷ ns) zero n d h e = subst (λ y. has (x ∷ ns) y ≡ true) (sym e) (has_first x ns)
place_has (x ∷ ns) (suc k) n d h e = right (nat_eq n x) (place_has ns k n d (omega (arith, h)) e)
  where
    right : (b : Bool) → has ns n ≡ true → (b || has ns n) ≡ true
    right true i = refl
    right false i = i

-- what a node needs came before it
needs_before : (graph : List (List ℕ)) (before order : List ℕ) (k n d m : ℕ) → EachAfter graph before order → k < length order → n ≡ get_or order k d → has (needs graph n) m ≡ true → has (before ++ take k order) m ≡ true
unfolding EachAfter
needs_before graph before [] k n d m after h e i = absurd (omega (arith, h))
needs_before graph before (x ∷ order) zero n d m after h e i =
    subst (λ ns. has ns m ≡ true) (sym (append_nil before)) (after.0.1 m (subst (λ y. has (needs graph y) m ≡ true) e i))
needs_before graph before (x ∷ order) (suc k) n d m after h e i =
    subst (λ ns. has ns m ≡ true) (append_assoc before (x ∷ []) (take k order)) (needs_before graph (before ++ x ∷ []) order k n d m after.1 (omega (arith, h)) e i)

-- ---- faults by places

in_flat : (f : ℕ → List Fault) (ns : List ℕ) (p : ℕ) (x : Fault) → has ns p ≡ true → IsIn x (f p) → IsIn x (flat_map f ns)
in_flat f [] p x h i = absurd cc
in_flat f (n ∷ ns) p x h i =
    ⊎_elim (λ e. in_left x (f n) (flat_map f ns) (subst (λ q. IsIn x (f q)) e i)) (λ r. in_right x (f n) (flat_map f ns) (in_flat f ns p x r i)) (has_cons n ns p h)

out_flat : (f : ℕ → List Fault) (ns : List ℕ) (x : Fault) → IsIn x (flat_map f ns) → (p : ℕ) × (has ns p ≡ true) × IsIn x (f p)
unfolding IsIn
out_flat f [] x h = absurd h
out_flat f (n ∷ ns) x h = ⊎_elim (λ l. (n, has_first n ns, l)) (λ r. let q = out_flat f ns x r in (q.0, later (nat_eq q.0 n) (has ns q.0) q.1, q.2)) (in_either x (f n) (flat_map f ns) h)
  where
    later : (b c : Bool) → c ≡ true → (b || c) ≡ true
    later true c i = refl
    later false c i = i

in_modules : (g : Module → List Fault) (ms : List Module) (p : ℕ) (x : Fault) → p < length ms → IsIn x (g (module_in ms p)) → IsIn x (flat_map g ms)
in_modules g [] p x h i = absurd (omega (arith, h))
in_modules g (m ∷ ms) zero x h i = in_left x (g m) (flat_map g ms) i
in_modules g (m ∷ ms) (suc p) x h i = in_right x (g m) (flat_map g ms) (in_modules g ms p x (omega (arith, h)) i)

out_modules : (g : Module → List Fault) (ms : List Module) (x : Fault) → IsIn x (flat_map g ms) → (p : ℕ) × (p < length ms) × IsIn x (g (module_in ms p))
unfolding IsIn
out_modules g [] x h = absurd h
out_modules g (m ∷ ms) x h = ⊎_elim (λ l. (0, omega arith, l)) (λ r. let q = out_modules g ms x r in (suc q.0, omega (arith, q.1), q.2)) (in_either x (g m) (flat_map g ms) h)

module _ (system : System) (names : List ℕ) (t : ModulePlaces) where
  abbrev ms : List Module
  ms = system.modules

  abbrev at : ℕ → Module
  at p = module_in ms p

  abbrev needed : Module → List ℕ
  needed m = places_in t m.decls

  -- So many modules deep there is an end to a module's instances.
  pub record Deep (n : ℕ) (m : Module) : Type 0 where
    pub some : 0 < n
    pub below : (i : InstanceParts) → IsAmong i (instances_of m) → (q : ℕ) → place_by t i.module_name ≡ Some q → suc (rank system i.module_name) < n

  -- What is known of modules is right.
  abbrev AllKnown : Summaries → Type 0
  AllKnown s = (p : ℕ) (w : WrittenPairs) → summary_at s p ≡ Some w → (n : ℕ) → Deep n (at p) → FindsBlock names (λ meets. written_through n system meets (at p)) w

  abbrev Covers : Summaries → Module → Type 0
  Covers s m = (i : InstanceParts) → IsAmong i (instances_of m) → (q : ℕ) → place_by t i.module_name ≡ Some q → (w : WrittenPairs) × (summary_at s q ≡ Some w)

  module _ (ends : NoInstanceCycles system) (placed : (x : ℕ) → place_by t x ≡ place_named ms x) where
    is_named : (y q : ℕ) → place_by t y ≡ Some q → IsAmong y (module_names system)
    is_named y q e =
        let found = (named_there ms t placed y q e).1 in
        subst (λ x. IsAmong x (module_names system)) (find_name system y ms (at q) found) (among_names (at q) ms (find_among (λ k. nat_eq k.name y) ms (at q) found))

    step_of : (y q : ℕ) (j : InstanceParts) → place_by t y ≡ Some q → IsAmong j (instances_of (at q)) → IsAmong j.module_name (instance_steps system y)
    step_of y q j e inside =
        subst (λ o. IsAmong j.module_name (instance_steps_from o)) (sym (named_there ms t placed y q e).1) (among_modules j (instances_of (at q)) inside)

    deep_child : (n : ℕ) (m : Module) → Deep (suc n) m → (i : InstanceParts) → IsAmong i (instances_of m) → (q : ℕ) → place_by t i.module_name ≡ Some q → Deep n (at q)
    deep_child n m deep i inside q e =
        let h = deep.below i inside q e in
        record {
          some = omega (arith, h);
          below = λ j within r f. let less = rank_falls system ends i.module_name j.module_name (step_of i.module_name q j e within) (is_named j.module_name r f) in omega (arith, h, less);
        }

    deep_top : (m : Module) → Deep (suc (length ms)) m
    deep_top m = record { some = omega arith; below = λ i inside q e. let less = rank_less system ends i.module_name (is_named i.module_name q e) in omega (arith, less) }

    ready : (s : Summaries) (m : Module) → AllKnown s → Covers s m → (n : ℕ) → Deep (suc n) m → IsReady names (summary_by t s) n system m
    ready s m all covers n deep i inside = by (place_by t i.module_name) refl
      where
        by : (o : Option ℕ) → place_by t i.module_name ≡ o → KnowsModule names n system (option_and_then (summary_at s) (place_by t i.module_name)) (module_named system i.module_name)
        by None e =
            subst (λ o. KnowsModule names n system (option_and_then (summary_at s) o) (module_named system i.module_name)) (sym e)
            (subst (λ p. KnowsModule names n system None p) (sym (named_nowhere ms t placed i.module_name e)) tt)
        by (Some q) e =
            let c = covers i inside q e in
            subst (λ o. KnowsModule names n system (option_and_then (summary_at s) o) (module_named system i.module_name)) (sym e)
            (subst (λ p. KnowsModule names n system (summary_at s q) p) (sym (named_there ms t placed i.module_name q e).1)
            (subst (λ o. KnowsModule names n system o (Some (at q))) (sym c.1) (all q c.0 c.1 n (deep_child n m deep i inside q e))))

    module _ (bind : (m : Module) → IsAmong m ms → MeetsAmong names m) (graph : List (List ℕ)) (order : List ℕ) (first : IsNeededFirst graph order) (graph-is : graph ≡ map needed ms) where
      node_within : (p : ℕ) → has order p ≡ true → p < length ms
      node_within p h = let l = first.nodes p h in let e : length graph ≡ length ms = ap length graph-is ∙ mapped_length needed ms in omega (arith, l, e)

      needs_are : (p : ℕ) → p < length ms → needs graph p ≡ needed (at p)
      needs_are p h = ap (λ g. slice_index_or g p []) graph-is ∙ mapped_at needed ms p h

      -- a node that is left out needs one that is left out
      not_left : (p : ℕ) → p < length ms → ((i : InstanceParts) → IsAmong i (instances_of (at p)) → (s : ℕ) → place_by t i.module_name ≡ Some s → has order s ≡ true) → has order p ≡ true
      not_left p within below = by (has order p) refl
        where
          inside : p < length graph
          inside = let f : length graph ≡ length ms = ap length graph-is ∙ mapped_length needed ms in omega (arith, within, f)

          out : (m : ℕ) × (has (needs graph p) m ≡ true) × (has order m ≡ false) → has order p ≡ true
          out r =
              let need = needed_by t (at p).decls r.0 (subst (λ ns. has ns r.0 ≡ true) (needs_are p within) r.1) in
              let bad : true ≡ false = sym (below need.0 need.1 r.0 need.2) ∙ r.2 in absurd cc

          by : (b : Bool) → has order p ≡ b → has order p ≡ true
          by true is = is
          by false is = out (first.left p inside is)

      -- every module that is named is in the order
      named_ordered : (r y q : ℕ) → rank system y ≤ r → place_by t y ≡ Some q → has order q ≡ true
      named_ordered zero y q small e =
          not_left q (named_there ms t placed y q e).0
          (λ i inside s f. let less = rank_falls system ends y i.module_name (step_of y q i e inside) (is_named i.module_name s f) in absurd (omega (arith, small, less)))
      named_ordered (suc r) y q small e =
          not_left q (named_there ms t placed y q e).0
          (λ i inside s f.
          let less = rank_falls system ends y i.module_name (step_of y q i e inside) (is_named i.module_name s f) in
          let fits : rank system i.module_name ≤ r = omega (arith, small, less) in named_ordered r i.module_name s fits f)

      all_ordered : (p : ℕ) → p < length ms → has order p ≡ true
      all_ordered p within = not_left p within (λ i inside s f. let fits : rank system i.module_name ≤ rank system i.module_name = omega arith in named_ordered (rank system i.module_name) i.module_name s fits f)

      -- The modules before place k of the order are known, and their faults were noted.
      pub record InOrder (old : Option Fault) (k : ℕ) (s : Summaries) (now : Option Fault) : Type 0 where
        pub known : AllKnown s
        pub covered : (p : ℕ) → has (take k order) p ≡ true → (w : WrittenPairs) × (summary_at s p ≡ Some w)
        pub faults : now ≡ first_of old (flat_map (λ p. twice_in_step system (at p)) (take k order))

      pub order_begin : (old : Option Fault) (s : Summaries) → ((p : ℕ) → summary_at s p ≡ None) → InOrder old 0 s old
      unfolding first_of
      order_begin old s none = record {
        known = λ p w h. let bad : None ≡ Some w = sym (none p) ∙ h in absurd cc;
        covered = λ p h. absurd (nothing order p h);
        faults = sym (ap (λ ps. first_of old (flat_map (λ p. twice_in_step system (at p)) ps)) (taken order));
      }
        where
          taken : (ps : List ℕ) → take 0 ps ≡ []
          taken [] = refl
          taken (x ∷ ps) = refl

          nothing : (ps : List ℕ) (p : ℕ) → has (take 0 ps) p ≡ true → ⊥
          nothing [] p h = cc
          nothing (x ∷ ps) p h = cc

      module _ (old : Option Fault) (k : ℕ) (s u : Summaries) (was now : Option Fault) (p d : ℕ) (held : InOrder old k s was) (within : k < length order) (is : p ≡ get_or order k d) (notes : NotesModule names t system p s u was now) where
        there : has order p ≡ true
        there = place_has order k p d within is

        inside : p < length ms
        inside = node_within p there

        binds : MeetsAmong names (at p)
        binds = bind (at p) (module_among ms p inside)

        covers : Covers s (at p)
        covers i among q e =
            held.covered q (needs_before graph [] order k p d q first.after within is (subst (λ ns. has ns q ≡ true) (sym (needs_are p inside)) (needed_there t (at p).decls i q among e)))

        own : (n : ℕ) → Deep n (at p) → FindsBlock names (λ meets. written_through n system meets (at p)) notes.written
        own zero deep = let h = deep.some in absurd (omega (arith, h))
        own (suc n) deep = notes.right n binds (ready s (at p) held.known covers n deep)

        known_now : AllKnown u
        known_now q w h n deep = by (nat_eq p q) refl (sym (notes.entered q) ∙ h)
          where
            by : (b : Bool) → nat_eq p q ≡ b → (if b then Some notes.written else summary_at s q) ≡ Some w → FindsBlock names (λ meets. written_through n system meets (at q)) w
            by true e i =
                let same : p ≡ q = equal p q e in
                subst (λ x. FindsBlock names (λ meets. written_through n system meets (at q)) x) (some_same notes.written w i)
                (subst (λ x. FindsBlock names (λ meets. written_through n system meets (at x)) notes.written) same (own n (subst (λ x. Deep n (at x)) (sym same) deep)))
            by false e i = held.known q w i n deep

        entered : (q : ℕ) (o : Option WrittenPairs) → summary_at u q ≡ o → (w : WrittenPairs) × (o ≡ Some w) → (w : WrittenPairs) × (summary_at u q ≡ Some w)
        entered q o e found = (found.0, e ∙ found.1)

        covered_now : (q : ℕ) → has (take (k + 1) order) q ≡ true → (w : WrittenPairs) × (summary_at u q ≡ Some w)
        covered_now q h =
            ⊎_elim (λ l. entered q (if nat_eq p q then Some notes.written else summary_at s q) (notes.entered q) (by (nat_eq p q) (held.covered q l)))
            (λ r. entered q (if nat_eq p q then Some notes.written else summary_at s q) (notes.entered q) (last (nat_eq p q) refl r))
            (has_split (take k order) (p ∷ []) q (subst (λ ns. has ns q ≡ true) (take_turn order k p d within is) h))
          where
            by : (b : Bool) → (w : WrittenPairs) × (summary_at s q ≡ Some w) → (w : WrittenPairs) × ((if b then Some notes.written else summary_at s q) ≡ Some w)
            by true c = (notes.written, refl)
            by false c = c

            last : (b : Bool) → nat_eq p q ≡ b → has (p ∷ []) q ≡ true → (w : WrittenPairs) × ((if b then Some notes.written else summary_at s q) ≡ Some w)
            last true e r = (notes.written, refl)
            last false e r =
                ⊎_elim (λ f. let same : nat_eq p q ≡ true = grind (arith, f) in let bad : true ≡ false = sym same ∙ e in absurd cc) (λ f. let bad : false ≡ true = f in absurd cc) (has_cons p [] q r)

        pub order_more : InOrder old (k + 1) u now
        order_more = record {
          known = known_now;
          covered = covered_now;
          faults =
              notes.faults (length ms) binds (ready s (at p) held.known covers (length ms) (deep_top (at p)))
              ∙ ap (λ o. first_of o (twice_in_step system (at p))) held.faults
              ∙ sym (first_of_append old (flat_map (λ q. twice_in_step system (at q)) (take k order)) (twice_in_step system (at p)))
              ∙ ap (λ fs. first_of old (flat_map (λ q. twice_in_step system (at q)) (take k order) ++ fs)) (sym (append_nil (twice_in_step system (at p))))
              ∙ ap (first_of old) (sym (flat_map-append (λ q. twice_in_step system (at q)) (take k order) (p ∷ [])))
              ∙ ap (λ ps. first_of old (flat_map (λ q. twice_in_step system (at q)) ps)) (sym (take_turn order k p d within is));
        }

      pub order_end : (old : Option Fault) (k : ℕ) (s : Summaries) (now : Option Fault) → InOrder old k s now → length order ≤ k → now ≡ first_of old (flat_map (twice_in_step system) ms)
      order_end old k s now held past =
          held.faults ∙ ap (λ ps. first_of old (flat_map (λ p. twice_in_step system (at p)) ps)) (take_all k order past)
          ∙ same_first old (flat_map (λ p. twice_in_step system (at p)) order) (flat_map (twice_in_step system) ms) (
            λ f h. let q = out_flat (λ p. twice_in_step system (at p)) order f h in in_modules (twice_in_step system) ms q.0 f (node_within q.0 q.1) q.2,
            λ f h. let q = out_modules (twice_in_step system) ms f h in in_flat (λ p. twice_in_step system (at p)) order q.0 f (all_ordered q.0 q.1) q.2,
          )
