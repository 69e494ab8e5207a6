-- Cells are entered one by one.
use Rattle.std.proofs.Common.{◌≡◌, ℕ, ◌+◌, ◌<◌, ◌≤◌, Bool, true, false, List, [], ◌∷◌, ◌++◌, length, take, get_or, Option, Some, None, refl, ap, sym, subst, ◌∙◌, inl, inr, ⊎_elim, arith}
use Rattle.std.specs.Prelude.{slice_get, nat_eq, ◌||◌, ◌&&◌}
use Rattle.std.specs.List.{list_any}
use Rattle.std.proofs.lemmas.List.{take_all}
use Rattle.std.proofs.lemmas.List.Folds.{list_any-append}
use Rattle.indexmap.specs.IndexMap.{get}
use Rattle.uc_syntax.specs.declared.place.Identifier.{Identifier}
use Rattle.uc_syntax.specs.declared.declaration.VariableKind.{VariableKind}
use Rattle.uc_syntax.specs.declared.declaration.Decl.{Decl}
use Rattle.uc_rules.specs.Names.{only_if}
use Rattle.uc_rules.proofs.Lists.{take_turn}
use Rattle.uc_meaning.specs.Lookup.{is_named, names_one, or_else}
use Rattle.uc_names.specs.declared.firsts.Firsts.{Firsts}
use Rattle.uc_uses.specs.declared.tree.Step.{Step}
use Rattle.uc_uses.specs.Trees.{step}
use Rattle.uc_uses.proofs.Lists.{get_cases, get_left, get_next, none_some, or_none}
use Rattle.uc_step_cycles.specs.Cells.{Enters, HasCell, declares_cell, is_cell_kind}

equal : (n m : ℕ) → nat_eq n m ≡ true → n ≡ m
equal n m h = grind (arith, h)

same : (n : ℕ) → nat_eq n n ≡ true
same n = grind arith

clash : {A : Type 0} → false ≡ true → A
clash h = cc

pub has_grows : (old new : List Step) → ((i : ℕ) (s : Step) → slice_get old i ≡ Some s → slice_get new i ≡ Some s) → (s : Step) (o : Option ℕ) (b : Bool) → HasCell old s o b → HasCell new s o b
has_grows old new grows s None false h = h
has_grows old new grows s None true h = h
has_grows old new grows s (Some i) false h = h
has_grows old new grows s (Some i) true h = grows i s h

some_has : (cells : List Step) (s : Step) (i : ℕ) (o : Option ℕ) (b : Bool) → o ≡ Some i → HasCell cells s o b → b ≡ true
some_has cells s i None b is h = none_some i is
some_has cells s i (Some j) true is h = refl
some_has cells s i (Some j) false is h = absurd h

none_has : (cells : List Step) (s : Step) (o : Option ℕ) (b : Bool) → o ≡ None → HasCell cells s o b → b ≡ false
none_has cells s None false is h = refl
none_has cells s None true is h = absurd h
none_has cells s (Some i) b is h = cc

module _ (k : ℕ) (before : List Step) where
  pub enters_by : (expect other : ℕ → Bool) (own : Firsts ℕ) (cells : List Step) → ((x : ℕ) → expect x ≡ other x) → Enters k before expect own cells → Enters k before other own cells
  enters_by expect other own cells is h = record { kept = h.kept; there = λ x. subst (HasCell cells (step k x) (get nat_eq own.things x)) (is x) (h.there x); new = h.new }

  pub enters_begin : (own : Firsts ℕ) (expect : ℕ → Bool) → ((x : ℕ) → get nat_eq own.things x ≡ None) → ((x : ℕ) → expect x ≡ false) → Enters k before expect own before
  enters_begin own expect none nothing = record {
    kept = λ i s h. h;
    there = λ x. subst (λ o. HasCell before (step k x) o (expect x)) (sym (none x)) (subst (HasCell before (step k x) None) (sym (nothing x)) tt);
    new = λ i s h. inl h;
  }

  module _ (expect : ℕ → Bool) where
    pub enters_not : (own : Firsts ℕ) (cells : List Step) (name : ℕ) (is_cell : Bool) → is_cell ≡ false → Enters k before expect own cells → Enters k before (λ x. expect x || (nat_eq name x && is_cell)) own cells
    enters_not own cells name is_cell not h = enters_by expect (λ x. expect x || (nat_eq name x && is_cell)) own cells (λ x. by (expect x) (nat_eq name x) is_cell not) h
      where
        by : (a b c : Bool) → c ≡ false → a ≡ (a || (b && c))
        by true b c h = refl
        by false true c h = sym h
        by false false c h = refl

    pub enters_known : (own : Firsts ℕ) (cells : List Step) (name j : ℕ) (is_cell : Bool) → is_cell ≡ true → get nat_eq own.things name ≡ Some j → Enters k before expect own cells → Enters k before (λ x. expect x || (nat_eq name x && is_cell)) own cells
    enters_known own cells name j is_cell is known h = enters_by expect (λ x. expect x || (nat_eq name x && is_cell)) own cells (λ x. by x (nat_eq name x) refl) h
      where
        left : (a b : Bool) → a ≡ true → a ≡ (a || b)
        left true b h = refl
        left false b h = clash h

        none : (a : Bool) → a ≡ (a || false)
        none true = refl
        none false = refl

        by : (x : ℕ) (b : Bool) → nat_eq name x ≡ b → expect x ≡ (expect x || (nat_eq name x && is_cell))
        by x false e = none (expect x) ∙ ap (λ b. expect x || (b && is_cell)) (sym e)
        by x true e = left (expect x) (nat_eq name x && is_cell) (some_has cells (step k x) j (get nat_eq own.things x) (expect x) (ap (get nat_eq own.things) (sym (equal name x e)) ∙ known) (h.there x))

    pub enters_new : (old new : Firsts ℕ) (cells more : List Step) (name j : ℕ) (is_cell : Bool) → is_cell ≡ true → get nat_eq old.things name ≡ None →
        ((x : ℕ) → get nat_eq new.things x ≡ or_else (get nat_eq old.things x) (only_if (nat_eq name x) (Some j))) → j ≡ length cells → more ≡ cells ++ step k name ∷ [] →
        Enters k before expect old cells → Enters k before (λ x. expect x || (nat_eq name x && is_cell)) new more
    enters_new old new cells more name j is_cell is free says number pushed h = record {
      kept = λ i s at. grows i s (h.kept i s at);
      there = λ x. has x (nat_eq name x) refl;
      new = λ i s at.
          ⊎_elim
          (λ l. ⊎_elim (λ b. inl b) (λ r. inr (r.0, r.1, says r.0 ∙ ap (λ o. or_else o (only_if (nat_eq name r.0) (Some j))) r.2)) (h.new i s l))
          (λ r. inr (name, r.1, entered name (same name) ∙ ap (λ q. Some q) (number ∙ sym r.0)))
          (get_cases cells (step k name) i s (sym (ap (λ us. slice_get us i) pushed) ∙ at));
    }
      where
        grows : (i : ℕ) (s : Step) → slice_get cells i ≡ Some s → slice_get more i ≡ Some s
        grows i s at = ap (λ us. slice_get us i) pushed ∙ get_left cells (step k name ∷ []) i s at

        last : slice_get more j ≡ Some (step k name)
        last = ap (slice_get more) number ∙ ap (λ us. slice_get us (length cells)) pushed ∙ get_next cells (step k name)

        entered : (x : ℕ) → nat_eq name x ≡ true → get nat_eq new.things x ≡ Some j
        entered x e = says x ∙ ap (λ b. or_else (get nat_eq old.things x) (only_if b (Some j))) e ∙ ap (λ r. or_else r (Some j)) (ap (get nat_eq old.things) (sym (equal name x e)) ∙ free)

        other : (x : ℕ) → nat_eq name x ≡ false → get nat_eq new.things x ≡ get nat_eq old.things x
        other x e = says x ∙ ap (λ b. or_else (get nat_eq old.things x) (only_if b (Some j))) e ∙ or_none (get nat_eq old.things x)

        always : (a b c : Bool) → b ≡ true → c ≡ true → true ≡ (a || (b && c))
        always true b c h g = refl
        always false true true h g = refl
        always false true false h g = clash g
        always false false c h g = clash h

        never : (a b c : Bool) → b ≡ false → a ≡ (a || (b && c))
        never true b c h = refl
        never false true c h = clash (sym h)
        never false false c h = refl

        has : (x : ℕ) (b : Bool) → nat_eq name x ≡ b → HasCell more (step k x) (get nat_eq new.things x) (expect x || (nat_eq name x && is_cell))
        has x true e =
            subst (λ o. HasCell more (step k x) o (expect x || (nat_eq name x && is_cell))) (sym (entered x e))
            (subst (HasCell more (step k x) (Some j)) (always (expect x) (nat_eq name x) is_cell e is) (last ∙ ap (λ y. Some (step k y)) (equal name x e)))
        has x false e =
            subst (λ o. HasCell more (step k x) o (expect x || (nat_eq name x && is_cell))) (sym (other x e))
            (subst (HasCell more (step k x) (get nat_eq old.things x)) (never (expect x) (nat_eq name x) is_cell e) (has_grows cells more grows (step k x) (get nat_eq old.things x) (expect x) (h.there x)))

-- ---- the names of one declaration

any_push : {A : Type 0} (f : A → Bool) (xs : List A) (y : A) → list_any f (xs ++ y ∷ []) ≡ (list_any f xs || f y)
any_push f xs y = list_any-append f xs (y ∷ []) ∙ ap (λ b. list_any f xs || b) (last (f y))
  where
    last : (b : Bool) → (b || false) ≡ b
    last true = refl
    last false = refl

module _ (root : Bool) (bound : Firsts (Option ℕ)) where
  one_kind : (kind : VariableKind) (name x : ℕ) (is_cell : Bool) → is_cell ≡ is_cell_kind root bound kind name → (nat_eq name x && is_cell) ≡ (nat_eq name x && is_cell_kind root bound kind x)
  one_kind kind name x is_cell is = by (nat_eq name x) refl
    where
      by : (b : Bool) → nat_eq name x ≡ b → (b && is_cell) ≡ (b && is_cell_kind root bound kind x)
      by true e = is ∙ ap (is_cell_kind root bound kind) (equal name x e)
      by false e = refl

  regroup : (e a b c : Bool) → ((e || (a && c)) || (b && c)) ≡ (e || ((a || b) && c))
  regroup true a b c = refl
  regroup false true b true = refl
  regroup false true true false = refl
  regroup false true false false = refl
  regroup false false b c = refl

  pub names_more : (expect : ℕ → Bool) (kind : VariableKind) (names : List Identifier) (k : ℕ) (i d : Identifier) (is_cell : Bool) → k < length names → i ≡ get_or names k d → is_cell ≡ is_cell_kind root bound kind i.name →
      (x : ℕ) → ((expect x || (names_one x (take k names) && is_cell_kind root bound kind x)) || (nat_eq i.name x && is_cell)) ≡ (expect x || (names_one x (take (k + 1) names) && is_cell_kind root bound kind x))
  names_more expect kind names k i d is_cell within at is x =
      ap (λ b. (expect x || (names_one x (take k names) && is_cell_kind root bound kind x)) || b) (one_kind kind i.name x is_cell is)
      ∙ regroup (expect x) (names_one x (take k names)) (nat_eq i.name x) (is_cell_kind root bound kind x)
      ∙ ap (λ b. expect x || (b && is_cell_kind root bound kind x)) (sym (ap (names_one x) (take_turn names k i d within at) ∙ any_push (is_named x) (take k names) i))

  pub names_none : (expect : ℕ → Bool) (kind : VariableKind) (x : ℕ) → expect x ≡ (expect x || (names_one x [] && is_cell_kind root bound kind x))
  names_none expect kind x = by (expect x)
    where
      by : (b : Bool) → b ≡ (b || false)
      by true = refl
      by false = refl

  pub names_all : (expect : ℕ → Bool) (kind : VariableKind) (names : List Identifier) (k : ℕ) → length names ≤ k →
      (x : ℕ) → (expect x || (names_one x (take k names) && is_cell_kind root bound kind x)) ≡ (expect x || (names_one x names && is_cell_kind root bound kind x))
  names_all expect kind names k past x = ap (λ ns. expect x || (names_one x ns && is_cell_kind root bound kind x)) (take_all k names past)

  pub declared_more : (ds : List Decl) (k : ℕ) (d e : Decl) → k < length ds → d ≡ get_or ds k e →
      (x : ℕ) → (list_any (declares_cell root bound x) (take k ds) || declares_cell root bound x d) ≡ list_any (declares_cell root bound x) (take (k + 1) ds)
  declared_more ds k d e within at x = sym (ap (list_any (declares_cell root bound x)) (take_turn ds k d e within at) ∙ any_push (declares_cell root bound x) (take k ds) d)

  pub declared_all : (ds : List Decl) (k : ℕ) → length ds ≤ k → (x : ℕ) → list_any (declares_cell root bound x) (take k ds) ≡ list_any (declares_cell root bound x) ds
  declared_all ds k past x = ap (list_any (declares_cell root bound x)) (take_all k ds past)
