-- Uses are entered one by one.
use Rattle.std.proofs.Common.{◌≡◌, ℕ, Bool, true, false, List, [], ◌∷◌, ◌++◌, length, Option, Some, None, refl, ap, sym, subst, ◌∙◌, inl, inr, ⊎_elim, arith}
use Rattle.std.specs.Prelude.{slice_get, nat_eq}
use Rattle.indexmap.specs.IndexMap.{get}
use Rattle.uc_meaning.specs.Lookup.{or_else, some_if}
use Rattle.uc_rules.specs.Names.{only_if}
use Rattle.uc_names.specs.declared.firsts.Firsts.{Firsts}
use Rattle.uc_uses.proofs.Lists.{get_cases, get_left, get_next, none_some}
use Rattle.uc_uses.specs.declared.uses.UseKind.{UseKind}
use Rattle.uc_uses.specs.declared.uses.UseName.{UseName}
use Rattle.uc_uses.specs.declared.uses.Entry.{Entry}
use Rattle.uc_uses.specs.declared.uses.NumberedUse.{NumberedUse}
use Rattle.uc_uses.specs.Sources.{SourceMeant, said_by, source_meant}
use Rattle.uc_uses.specs.Entering.{Enters}
use Rattle.uc_uses.specs.Tables.{HasSource, use_name}
use Rattle.uc_uses.proofs.Firsts.{or_none}

equal : (n m : ℕ) → nat_eq n m ≡ true → n ≡ m
equal n m h = grind (arith, h)

same : (n : ℕ) → nat_eq n n ≡ true
same n = grind arith

pub has_grows : (old new : List NumberedUse) → ((i : ℕ) (e : NumberedUse) → slice_get old i ≡ Some e → slice_get new i ≡ Some e) → (name : UseName) (o : Option ℕ) (s : Option SourceMeant) → HasSource old name o s → HasSource new name o s
has_grows old new grows name None None h = h
has_grows old new grows name None (Some s) h = h
has_grows old new grows name (Some i) None h = h
has_grows old new grows name (Some i) (Some s) h = (h.0, grows i h.0 h.1, h.2, h.3)

none_has : (uses : List NumberedUse) (name : UseName) (o : Option ℕ) (s : Option SourceMeant) → o ≡ None → HasSource uses name o s → s ≡ None
none_has uses name None None is h = refl
none_has uses name None (Some s) is h = absurd h
none_has uses name (Some i) s is h = cc

some_has : (uses : List NumberedUse) (name : UseName) (i : ℕ) (o : Option ℕ) (s : Option SourceMeant) → o ≡ Some i → HasSource uses name o s → (m : SourceMeant) × (s ≡ Some m)
some_has uses name i None s is h = none_some i is
some_has uses name i (Some j) None is h = absurd h
some_has uses name i (Some j) (Some m) is h = (m, refl)

module _ (kind : UseKind) (k : ℕ) (before : List NumberedUse) where
  pub enters_by : (expect other : ℕ → Option SourceMeant) (table : Firsts ℕ) (uses : List NumberedUse) → ((x : ℕ) → expect x ≡ other x) → Enters kind k before expect table uses → Enters kind k before other table uses
  enters_by expect other table uses same h = record { kept = h.kept; sources = λ x. subst (HasSource uses (use_name kind k x) (get nat_eq table.things x)) (same x) (h.sources x); new = h.new }

  pub enters_begin : (table : Firsts ℕ) (expect : ℕ → Option SourceMeant) → ((x : ℕ) → get nat_eq table.things x ≡ None) → ((x : ℕ) → expect x ≡ None) → Enters kind k before expect table before
  enters_begin table expect none nothing = record {
    kept = λ i e h. h;
    sources = λ x. subst (λ o. HasSource before (use_name kind k x) o (expect x)) (sym (none x)) (subst (HasSource before (use_name kind k x) None) (sym (nothing x)) tt);
    new = λ i e h. inl h;
  }

  module _ (expect : ℕ → Option SourceMeant) where
    pub enters_none : (table : Firsts ℕ) (uses : List NumberedUse) (entry : Option Entry) → entry ≡ None → Enters kind k before expect table uses → Enters kind k before (λ x. or_else (expect x) (said_by entry x)) table uses
    enters_none table uses entry none h = enters_by expect (λ x. or_else (expect x) (said_by entry x)) table uses (λ x. sym (ap (λ e. or_else (expect x) (said_by e x)) none ∙ or_none (expect x))) h

    pub enters_known : (table : Firsts ℕ) (uses : List NumberedUse) (entry : Entry) (j : ℕ) → get nat_eq table.things entry.name ≡ Some j → Enters kind k before expect table uses → Enters kind k before (λ x. or_else (expect x) (said_by (Some entry) x)) table uses
    enters_known table uses entry j known h = enters_by expect (λ x. or_else (expect x) (said_by (Some entry) x)) table uses (λ x. sym (by x (nat_eq entry.name x) refl)) h
      where
        by : (x : ℕ) (b : Bool) → nat_eq entry.name x ≡ b → or_else (expect x) (some_if b (source_meant entry.source)) ≡ expect x
        by x false e = or_none (expect x)
        by x true e =
            let f = some_has uses (use_name kind k x) j (get nat_eq table.things x) (expect x) (ap (get nat_eq table.things) (sym (equal entry.name x e)) ∙ known) (h.sources x) in
            ap (λ o. or_else o (Some (source_meant entry.source))) f.1 ∙ sym f.1

    pub enters_new : (old new : Firsts ℕ) (uses more : List NumberedUse) (entry : Entry) (u : NumberedUse) (j : ℕ) → get nat_eq old.things entry.name ≡ None →
        ((x : ℕ) → get nat_eq new.things x ≡ or_else (get nat_eq old.things x) (only_if (nat_eq entry.name x) (Some j))) → j ≡ length uses → more ≡ uses ++ u ∷ [] →
        u.owner ≡ use_name kind k entry.name → u.source ≡ entry.source → Enters kind k before expect old uses → Enters kind k before (λ x. or_else (expect x) (said_by (Some entry) x)) new more
    enters_new old new uses more entry u j free says number pushed owner source h = record {
      kept = λ i e at. grows i e (h.kept i e at);
      sources = λ x. has x (nat_eq entry.name x) refl;
      new = λ i e at.
          ⊎_elim
          (λ l. ⊎_elim (λ b. inl b) (λ r. inr (r.0, r.1, says r.0 ∙ ap (λ o. or_else o (only_if (nat_eq entry.name r.0) (Some j))) r.2)) (h.new i e l))
          (λ r. inr (entry.name, ap (λ (q : NumberedUse). q.owner) r.1 ∙ owner, entered entry.name (same entry.name) ∙ ap (λ q. Some q) (number ∙ sym r.0)))
          (get_cases uses u i e (sym (ap (λ us. slice_get us i) pushed) ∙ at));
    }
      where
        grows : (i : ℕ) (e : NumberedUse) → slice_get uses i ≡ Some e → slice_get more i ≡ Some e
        grows i e at = ap (λ us. slice_get us i) pushed ∙ get_left uses (u ∷ []) i e at

        last : slice_get more j ≡ Some u
        last = ap (slice_get more) number ∙ ap (λ us. slice_get us (length uses)) pushed ∙ get_next uses u

        entered : (x : ℕ) → nat_eq entry.name x ≡ true → get nat_eq new.things x ≡ Some j
        entered x e = says x ∙ ap (λ b. or_else (get nat_eq old.things x) (only_if b (Some j))) e ∙ ap (λ r. or_else r (Some j)) (ap (get nat_eq old.things) (sym (equal entry.name x e)) ∙ free)

        other : (x : ℕ) → nat_eq entry.name x ≡ false → get nat_eq new.things x ≡ get nat_eq old.things x
        other x e = says x ∙ ap (λ b. or_else (get nat_eq old.things x) (only_if b (Some j))) e ∙ or_none (get nat_eq old.things x)

        has : (x : ℕ) (b : Bool) → nat_eq entry.name x ≡ b → HasSource more (use_name kind k x) (get nat_eq new.things x) (or_else (expect x) (some_if (nat_eq entry.name x) (source_meant entry.source)))
        has x true e =
            let none = none_has uses (use_name kind k x) (get nat_eq old.things x) (expect x) (ap (get nat_eq old.things) (sym (equal entry.name x e)) ∙ free) (h.sources x) in
            subst (λ o. HasSource more (use_name kind k x) o (or_else (expect x) (some_if (nat_eq entry.name x) (source_meant entry.source)))) (sym (entered x e))
            (subst (HasSource more (use_name kind k x) (Some j)) (sym (ap (λ o. or_else o (some_if (nat_eq entry.name x) (source_meant entry.source))) none ∙ ap (λ c. some_if c (source_meant entry.source)) e))
            (u, last, owner ∙ ap (use_name kind k) (equal entry.name x e), ap source_meant source))
        has x false e =
            subst (λ o. HasSource more (use_name kind k x) o (or_else (expect x) (some_if (nat_eq entry.name x) (source_meant entry.source)))) (sym (other x e))
            (subst (HasSource more (use_name kind k x) (get nat_eq old.things x)) (sym (ap (λ c. or_else (expect x) (some_if c (source_meant entry.source))) e ∙ or_none (expect x)))
            (has_grows uses more grows (use_name kind k x) (get nat_eq old.things x) (expect x) (h.sources x)))
