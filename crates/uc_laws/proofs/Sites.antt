-- Sites in order, and the sites of the initial code.
use Rattle.std.proofs.Common.{◌≡◌, List, [], ◌∷◌, ◌++◌, map, refl, ap, ◌∙◌, sym, subst, ◌⊎◌, inl, inr, ℕ, zero, suc, Bool, true, false, ◌&&◌, ◌||◌}
use Rattle.std.specs.Prelude.{if◌then◌else◌, nat_eq}
use Rattle.std.specs.List.{flat_map, list_any}
use Rattle.std.proofs.lemmas.Bool.{eqb-true}
use Rattle.std.proofs.lemmas.List.Concat.{flat_map-append}
use Rattle.uc_lexer.specs.declared.place.Place.{Place}
use Rattle.uc_meaning.specs.declared.scope.Site.{Site}
use Rattle.uc_meaning.specs.Lookup.{System, same_place, init_of, main_module}
use Rattle.uc_meaning.specs.Cells.{same_path, longest_chain, as_list, InstanceAt, instances, instances_from, instances_below, main_instance}
use Rattle.uc_meaning.specs.Expressions.{at_path}
use Rattle.uc_meaning.specs.Code.{Running, Ending, Goes, Stopped, Unfit, Execution, then_run, run_each, in_scope, same_site, run}
use Rattle.uc_meaning.specs.Steps.{init_from, init}
use Rattle.uc_meaning.specs.Runs.{lists_site}
use Rattle.uc_meaning.specs.Lines.{sites_in, site_before, insert_site, in_order, init_sites}
use Rattle.uc_laws.proofs.Among.{Among, among_left, among_right, among_split}
use Rattle.uc_laws.proofs.Grows.{Within}
use Rattle.uc_laws.proofs.CheckForms.{code_lists}

both : (a b : Bool) → (a && b) ≡ true → (a ≡ true) × (b ≡ true)
both true b e = (refl, e)
both false b e = absurd (cc)

path_same : (p q : List ℕ) → same_path p q ≡ true → p ≡ q
unfolding same_path
path_same [] [] e = refl
path_same [] (j ∷ q) e = absurd (cc)
path_same (i ∷ p) [] e = absurd (cc)
path_same (i ∷ p) (j ∷ q) e =
    let h = both (nat_eq i j) (same_path p q) e in
    ap (λ x. x ∷ p) (eqb-true i j h.0) ∙ ap (λ x. j ∷ x) (path_same p q h.1)

place_same : (p q : Place) → same_place p q ≡ true → p ≡ q
place_same p q e =
    let h = both (nat_eq p.file q.file) (nat_eq p.line q.line && nat_eq p.col q.col) e in
    let k = both (nat_eq p.line q.line) (nat_eq p.col q.col) h.1 in
    ap (λ f. record { file = f; line = p.line; col = p.col }) (eqb-true p.file q.file h.0)
    ∙ ap (λ l. record { file = q.file; line = l; col = p.col }) (eqb-true p.line q.line k.0)
    ∙ ap (λ c. record { file = q.file; line = q.line; col = c }) (eqb-true p.col q.col k.1)

pub site_same : (a b : Site) → same_site a b ≡ true → a ≡ b
site_same a b e =
    let h = both (same_path a.path b.path) (same_place a.place b.place && nat_eq a.requires_ b.requires_) e in
    let k = both (same_place a.place b.place) (nat_eq a.requires_ b.requires_) h.1 in
    ap (λ p. record { path = p; place = a.place; requires_ = a.requires_ }) (path_same a.path b.path h.0)
    ∙ ap (λ p. record { path = b.path; place = p; requires_ = a.requires_ }) (place_same a.place b.place k.0)
    ∙ ap (λ n. record { path = b.path; place = b.place; requires_ = n }) (eqb-true a.requires_ b.requires_ k.1)

either : (a b : Bool) → (a || b) ≡ true → (a ≡ true) ⊎ (b ≡ true)
either true b e = inl refl
either false b e = inr e

-- a listed site stands in the list
pub site_among : (site : Site) (listed : List Site) → lists_site listed site ≡ true → Among site listed
site_among site [] e = absurd (cc)
site_among site (a ∷ listed) e = elim (either (same_site site a) (list_any (same_site site) listed) e) [
  | inl h ↦ inl (site_same site a h)
  | inr h ↦ inr (site_among site listed h)
]

inserted : (system : System) (s a b : Site) (bs : List Site) (same before : Bool) → same_site a b ≡ same →
    ((s ≡ a) ⊎ Among s bs → Among s (insert_site system a bs)) → (s ≡ a) ⊎ Among s (b ∷ bs) →
    Among s (if same then b ∷ bs else (if before then a ∷ (b ∷ bs) else b ∷ insert_site system a bs))
inserted system s a b bs true before e rest (inl h) = inl (h ∙ site_same a b e)
inserted system s a b bs true before e rest (inr h) = h
inserted system s a b bs false true e rest h = h
inserted system s a b bs false false e rest (inl h) = inr (rest (inl h))
inserted system s a b bs false false e rest (inr (inl h)) = inl h
inserted system s a b bs false false e rest (inr (inr h)) = inr (rest (inr h))

insert_keeps : (system : System) (s a : Site) (bs : List Site) → (s ≡ a) ⊎ Among s bs → Among s (insert_site system a bs)
unfolding insert_site
insert_keeps system s a [] h = h
insert_keeps system s a (b ∷ bs) h = inserted system s a b bs (same_site a b) (site_before system a b) refl (insert_keeps system s a bs) h

moved : {A B C : Type 0} → (B → C) → A ⊎ B → A ⊎ C
moved f (inl a) = inl a
moved f (inr b) = inr (f b)

pub order_keeps : (system : System) (s : Site) (xs : List Site) → Among s xs → Among s (in_order system xs)
unfolding in_order
order_keeps system s [] h = h
order_keeps system s (a ∷ xs) h = insert_keeps system s a (in_order system xs) (moved (order_keeps system s xs) h)

-- what is listed where paths change
abbrev pub Lists : List Site → List Site → Ending → Type 0
Lists before inside (Goes r) = (s : Site) → Among s r.sites → Among s before ⊎ Among s inside
Lists before inside Stopped = Unit {0}
Lists before inside (Unfit left) = Unit {0}

abbrev pub Adds : List Site → Execution → Type 0
Adds inside x = (r : Running) → Lists r.sites inside (x r)

lists_more : (before inside more : List Site) (e : Ending) → ((s : Site) → Among s inside → Among s more) → Lists before inside e → Lists before more e
lists_more before inside more (Goes r) wider l = λ s h. moved (wider s) (l s h)
lists_more before inside more Stopped wider l = tt
lists_more before inside more (Unfit left) wider l = tt

joined : {A B C : Type 0} → (A → B ⊎ C) → A ⊎ C → B ⊎ C
joined f (inl a) = f a
joined f (inr c) = inr c

lists_after : (before inside mid : List Site) (e : Ending) → ((s : Site) → Among s mid → Among s before ⊎ Among s inside) → Lists mid inside e → Lists before inside e
lists_after before inside mid (Goes r) g l = λ s h. joined (g s) (l s h)
lists_after before inside mid Stopped g l = tt
lists_after before inside mid (Unfit left) g l = tt

lists_then : (before inside : List Site) (e : Ending) (next : Execution) → Lists before inside e → ((r : Running) → Lists r.sites inside (next r)) → Lists before inside (then_run e next)
lists_then before inside (Goes r) next l after = lists_after before inside r.sites (next r) l (after r)
lists_then before inside Stopped next l after = tt
lists_then before inside (Unfit left) next l after = tt

lists_within : (p : List ℕ) (before inside : List Site) (e : Ending) → Within p before inside e → Lists before inside e
lists_within p before inside (Goes r) w = w.listed
lists_within p before inside Stopped w = tt
lists_within p before inside (Unfit left) w = tt

abbrev code_sites : System → InstanceAt → List Site
code_sites system here = sites_in system (init_of here.code) here.path

each_adds : {A : Type 0} (F : A → List Site) (G : A → Execution) → ((a : A) → Adds (F a) (G a)) → (xs : List A) → Adds (flat_map F xs) (run_each (map G xs))
unfolding run_each
each_adds F G all [] r = λ s h. inl h
each_adds F G all (x ∷ xs) r =
    lists_then r.sites (flat_map F (x ∷ xs)) (G x r) (run_each (map G xs))
    (lists_more r.sites (F x) (flat_map F (x ∷ xs)) (G x r) (λ s h. among_left s (F x) (flat_map F xs) h) (all x r))
    (λ r'. lists_more r'.sites (flat_map F xs) (flat_map F (x ∷ xs)) (run_each (map G xs) r') (λ s h. among_right s (F x) (flat_map F xs) h) (each_adds F G all xs r'))

nested : {A B C : Type 0} (f : A → List B) (g : B → List C) (c : C) (xs : List A) → Among c (flat_map (λ a. flat_map g (f a)) xs) → Among c (flat_map g (flat_map f xs))
nested f g c [] h = h
nested f g c (x ∷ xs) h = subst (Among c) (sym (flat_map-append g (f x) (flat_map f xs))) (elim (split_at h) [
  | inl k ↦ among_left c (flat_map g (f x)) (flat_map g (flat_map f xs)) k
  | inr k ↦ among_right c (flat_map g (f x)) (flat_map g (flat_map f xs)) (nested f g c xs k)
])
  where
    split_at : Among c (flat_map g (f x) ++ flat_map (λ a. flat_map g (f a)) xs) → Among c (flat_map g (f x)) ⊎ Among c (flat_map (λ a. flat_map g (f a)) xs)
    split_at h = among_split c (flat_map g (f x)) (flat_map (λ a. flat_map g (f a)) xs) h

from_adds : (n : ℕ) (system : System) (here : InstanceAt) → Adds (flat_map (code_sites system) (instances_from n system here)) (init_from n system here)
unfolding init_from instances_from
from_adds zero system here r = tt
from_adds (suc n) system here r =
    let own = code_sites system here in
    let below = flat_map (instances_from n system) (instances_below system here) in
    let rest = flat_map (code_sites system) below in
    lists_then r.sites (own ++ rest) (run_each (map (init_from n system) (instances_below system here)) r) _
    (lists_more r.sites (flat_map (λ i. flat_map (code_sites system) (instances_from n system i)) (instances_below system here)) (own ++ rest) _
    (λ s h. among_right s own rest (nested (instances_from n system) (code_sites system) s (instances_below system here) h))
    (each_adds (λ i. flat_map (code_sites system) (instances_from n system i)) (init_from n system) (from_adds n system) (instances_below system here) r))
    (λ r'. lists_more r'.sites own (own ++ rest) _ (λ s h. among_left s own rest h)
    (lists_within here.path r'.sites own (run system (init_of here.code) (in_scope r' (at_path r'.scope here.path))) (code_lists system (init_of here.code) (in_scope r' (at_path r'.scope here.path)))))

-- what the initial code lists is among its sites
pub init_lists : (system : System) → Adds (init_sites system) (init system)
unfolding init init_sites instances
init_lists system r =
    lists_more r.sites _ (init_sites system) (init system r)
    (λ s h. order_keeps system s _ (nested (λ m. instances_from longest_chain system (main_instance m)) (code_sites system) s (as_list (main_module system)) h))
    (each_adds (λ m. flat_map (code_sites system) (instances_from longest_chain system (main_instance m))) (λ m. init_from longest_chain system (main_instance m)) (λ m. from_adds longest_chain system (main_instance m)) (as_list (main_module system)) r)
