-- The places of the cells of main, from the last cell to the first.
use Rattle.std.proofs.Common.{◌≡◌, ◌≢◌, ℕ, zero, suc, ◌+◌, ◌-◌, ◌<◌, ◌≤◌, Bool, true, false, ◌&&◌, cond, List, [], ◌∷◌, ◌++◌, length, get_or, drop, refl, sym, ap, ◌∙◌, arith, inl, inr}
use Rattle.std.specs.Prelude.{nat_eq, slice_set, Option, Some, None}
use Rattle.std.specs.List.{position_from}
use Rattle.std.proofs.lemmas.List.{drop_all, length-set, get_or-set_same, get_or-set_other, get_or-append-add}
use Rattle.std.proofs.lemmas.Bool.Decides.{eqb_tells}
use Rattle.uc_flat.specs.declared.flat.Cell.{Cell as FlatCell}
use Rattle.uc_meaning.specs.Cells.{same_path}
use Rattle.uc_meaning.proofs.Lists.{drop_turn}
use Rattle.uc_report.specs.TraceTables.{is_mains, AreNone, IsEntered, ArePlaces}

-- the first cell of main for each name, of the cells from a place on
abbrev pub ArePlacesFrom : List FlatCell → ℕ → List (Option ℕ) → Type 0
ArePlacesFrom cells k places = (x : ℕ) → x < length places → get_or places x None ≡ position_from (is_mains x) k (drop k cells)

pub none_yet : (cells : List FlatCell) (places : List (Option ℕ)) → AreNone places → ArePlacesFrom cells (length cells) places
none_yet cells places none x within = none x within ∙ sym (ap (position_from (is_mains x) (length cells)) (drop_all (length cells) cells (omega arith)))

pub one_more : (cells : List FlatCell) (k : ℕ) (c : FlatCell) (before after : List (Option ℕ)) → k < length cells → c ≡ get_or cells k c → IsEntered k c before after → ArePlacesFrom cells (k + 1) before → ArePlacesFrom cells k after
one_more cells k c before after within is entered so_far x there =
    entered.1 x there
    ∙ ap (λ o. cond (is_mains x c) (Some k) o) (so_far x (omega (arith, there, entered.0)))
    ∙ sym (ap (position_from (is_mains x) k) (drop_turn cells k c within is))

-- ---- a cell is entered

differs : (x y : ℕ) → x ≢ y → nat_eq x y ≡ false
differs x y n = elim (eqb_tells x y) [ inl e ↦ absurd (n e.1) | inr e ↦ e.0 ]

same : (x y : ℕ) → nat_eq x y ≡ true → x ≡ y
same x y t = elim (eqb_tells x y) [ inl e ↦ e.1 | inr e ↦ absurd (apart (sym t ∙ e.0)) ]
  where
    apart : true ≡ false → ⊥
    apart e = cc

pub entered_set : (place name : ℕ) (c : FlatCell) (before after : List (Option ℕ)) → name ≡ c.name → c.path ≡ [] → name < length before → after ≡ slice_set before name (Some place) → IsEntered place c before after
unfolding same_path
entered_set place name c before after n main within is = (ap length is ∙ length-set before name (Some place), λ x there. by_name x (nat_eq c.name x) refl)
  where
    mains : (x : ℕ) → is_mains x c ≡ nat_eq c.name x
    mains x = ap (λ p. same_path p [] && nat_eq c.name x) main

    by_name : (x : ℕ) (b : Bool) → nat_eq c.name x ≡ b → get_or after x None ≡ cond (is_mains x c) (Some place) (get_or before x None)
    by_name x true e =
        let own : name ≡ x = n ∙ same c.name x e in
        ap (λ ps. get_or ps x None) is ∙ ap (λ y. get_or (slice_set before name (Some place)) y None) (sym own) ∙ get_or-set_same before name (Some place) None within
        ∙ sym (ap (λ b. cond b (Some place) (get_or before x None)) (mains x ∙ e))
    by_name x false e =
        ap (λ ps. get_or ps x None) is ∙ get_or-set_other before name x (Some place) None (λ own. apart (sym e ∙ ap (λ y. nat_eq c.name y) (own ∙ n) ∙ refl_is c.name))
        ∙ sym (ap (λ b. cond b (Some place) (get_or before x None)) (mains x ∙ e))
      where
        apart : false ≡ true → ⊥
        apart e = cc

        refl_is : (y : ℕ) → nat_eq y y ≡ true
        refl_is y = elim (eqb_tells y y) [ inl e ↦ e.0 | inr e ↦ absurd (e.1 refl) ]

pub entered_elsewhere : (place : ℕ) (c : FlatCell) (before after : List (Option ℕ)) → c.path ≢ [] → after ≡ before → IsEntered place c before after
unfolding same_path
entered_elsewhere place c before after below is = (ap length is, λ x there. ap (λ ps. get_or ps x None) is ∙ sym (ap (λ b. cond b (Some place) (get_or before x None)) (ap (λ b. b && nat_eq c.name x) (not_main c.path below))))
  where
    not_main : (path : List ℕ) → path ≢ [] → same_path path [] ≡ false
    not_main [] n = absurd (n refl)
    not_main (i ∷ path) n = refl

pub entered_past : (place name : ℕ) (c : FlatCell) (before after : List (Option ℕ)) → name ≡ c.name → c.path ≡ [] → length before ≤ name → after ≡ before → IsEntered place c before after
unfolding same_path
entered_past place name c before after n main past is = (ap length is, λ x there. ap (λ ps. get_or ps x None) is ∙ sym (ap (λ b. cond b (Some place) (get_or before x None)) (other x there)))
  where
    other : (x : ℕ) → x < length after → is_mains x c ≡ false
    other x there = ap (λ p. same_path p [] && nat_eq c.name x) main ∙ differs c.name x (λ e. impossible (omega (arith, n, e, there, ap length is, past)))
      where
        impossible : ⊥ → ⊥
        impossible e = e

pub never : false ≡ true → ⊥
never e = cc
