-- A name that is given a value, as a local or as a cell.
use Rattle.std.proofs.Common.{◌≡◌, ℕ, suc, ◌+◌, ◌<◌, ◌≤◌, Bool, true, false, List, [], ◌∷◌, ◌++◌, length, take, drop, get_or, set, nat_eq, refl, ap, ◌∙◌, sym, arith, append_assoc}
use Rattle.std.specs.Prelude.{if◌then◌else◌, ◌||◌, cond, Option, Some, None}
use Rattle.std.specs.List.{find}
use Rattle.std.proofs.lemmas.List.{append-nil, take_more, drop_all, take_all, set_split}
use Rattle.std.proofs.lemmas.Bool.Decides.{nat_tests}
use Rattle.uc_values.specs.declared.value.Value.{Value}
use Rattle.uc_meaning.specs.declared.scope.Scope.{Scope}
use Rattle.uc_meaning.specs.declared.scope.Local.{Local}
use Rattle.uc_meaning.specs.Lookup.{System}
use Rattle.uc_meaning.specs.Code.{set_local, set_found, set_name, set_cell, written_cell}
use Rattle.uc_meaning.proofs.Lists.{drop_turn}
use Rattle.uc_runs.specs.Writes.{has_local, with_cell}

module _ (system : System) (s : Scope) (x : ℕ) (v : Value) where
  found_some : (ls : List Local) → has_local ls x ≡ true → set_found system s x v (find (λ l. nat_eq l.name x) ls) ≡ record s { locals = set_local s.locals x v }
  found_some [] has = absurd (cc)
  found_some (l ∷ ls) has = here (nat_eq l.name x) has (found_some ls)
    where
      here : (b : Bool) → (b || has_local ls x) ≡ true → (has_local ls x ≡ true → set_found system s x v (find (λ l. nat_eq l.name x) ls) ≡ record s { locals = set_local s.locals x v }) →
          set_found system s x v (cond b (Some l) (find (λ l. nat_eq l.name x) ls)) ≡ record s { locals = set_local s.locals x v }
      here true has more = refl
      here false has more = more has

  found_none : (ls : List Local) → has_local ls x ≡ false → set_found system s x v (find (λ l. nat_eq l.name x) ls) ≡ record s { before = set_cell s.before (written_cell system s.path x) v }
  found_none [] has = refl
  found_none (l ∷ ls) has = here (nat_eq l.name x) has (found_none ls)
    where
      here : (b : Bool) → (b || has_local ls x) ≡ false → (has_local ls x ≡ false → set_found system s x v (find (λ l. nat_eq l.name x) ls) ≡ record s { before = set_cell s.before (written_cell system s.path x) v }) →
          set_found system s x v (cond b (Some l) (find (λ l. nat_eq l.name x) ls)) ≡ record s { before = set_cell s.before (written_cell system s.path x) v }
      here true has more = absurd (cc)
      here false has more = more has

  pub names_local : has_local s.locals x ≡ true → record s { locals = set_local s.locals x v } ≡ set_name system s x v
  unfolding set_name
  names_local has = sym (found_some s.locals has)

  pub names_cell : has_local s.locals x ≡ false → record s { before = set_cell s.before (written_cell system s.path x) v } ≡ set_name system s x v
  unfolding set_name
  names_cell has = sym (found_none s.locals has)

-- the cells of a state whose cell is given a value
pub cell_changed : (s : Scope) (c : Option ℕ) (v : Value) (cells : List Value) → cells ≡ with_cell s.before.cells c v → record s { before = record { cells = cells } } ≡ record s { before = set_cell s.before c v }
cell_changed s None v cells is = ap (λ cs. record s { before = record { cells = cs } }) is
cell_changed s (Some k) v cells is = ap (λ cs. record s { before = record { cells = cs } }) is

same_name : (a x : ℕ) → a ≡ x → nat_eq a x ≡ true
same_name a x is = grind (arith, nat_tests)

other_name : (a x : ℕ) → (a ≡ x → ⊥) → nat_eq a x ≡ false
other_name a x is = grind (arith, nat_tests)

-- the locals before a place, none of which has the name, and those from the place on with the newest of the name changed
module _ (ls : List Local) (x : ℕ) (v : Value) (k : ℕ) where
  abbrev pub ChangedFrom : Type 0
  ChangedFrom = take k ls ++ set_local (drop k ls) x v ≡ set_local ls x v

  pub local_here : (l : Local) → k < length ls → l ≡ get_or ls k l → l.name ≡ x → ChangedFrom → set ls k (record l { value = v }) ≡ set_local ls x v
  unfolding set_local
  local_here l within is named from =
      set_split ls k (record l { value = v }) within
      ∙ ap (λ n. take k ls ++ (record l { value = v } ∷ drop n ls)) (add-suc k)
      ∙ ap (λ b. take k ls ++ (if b then record l { value = v } ∷ drop (k + 1) ls else l ∷ set_local (drop (k + 1) ls) x v)) (sym (same_name l.name x named))
      ∙ ap (λ ys. take k ls ++ set_local ys x v) (sym (drop_turn ls k l within is))
      ∙ from
    where
      add-suc : (n : ℕ) → suc n ≡ n + 1
      add-suc n = omega arith

  pub local_turn : (l : Local) → k < length ls → l ≡ get_or ls k l → (l.name ≡ x → ⊥) → ChangedFrom → take (k + 1) ls ++ set_local (drop (k + 1) ls) x v ≡ set_local ls x v
  unfolding set_local
  local_turn l within is other from =
      ap (λ ys. ys ++ set_local (drop (k + 1) ls) x v) (take_more ls k l within ∙ ap (λ y. take k ls ++ y ∷ []) (sym is))
      ∙ append_assoc (take k ls) (l ∷ []) (set_local (drop (k + 1) ls) x v)
      ∙ ap (λ b. take k ls ++ (if b then record l { value = v } ∷ drop (k + 1) ls else l ∷ set_local (drop (k + 1) ls) x v)) (sym (other_name l.name x other))
      ∙ ap (λ ys. take k ls ++ set_local ys x v) (sym (drop_turn ls k l within is))
      ∙ from

  pub local_end : length ls ≤ k → ChangedFrom → ls ≡ set_local ls x v
  unfolding set_local
  local_end past from =
      sym (append-nil ls)
      ∙ ap (λ ys. ys ++ []) (sym (take_all k ls past))
      ∙ ap (λ ys. take k ls ++ set_local ys x v) (sym (drop_all k ls past))
      ∙ from
