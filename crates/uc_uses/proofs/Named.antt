-- The table of modules as it is made.
use Rattle.std.proofs.Common.{◌≡◌, ℕ, ◌+◌, ◌<◌, ◌≤◌, List, [], ◌∷◌, ◌++◌, length, take, get_or, Some, None, refl, ap, sym, ◌∙◌, subst}
use Rattle.std.specs.Prelude.{nat_eq}
use Rattle.std.specs.Borrow.{Bor}
use Rattle.std.proofs.lemmas.List.{take_all, take_more}
use Rattle.indexmap.specs.IndexMap.{get}
use Rattle.uc_syntax.specs.declared.declaration.Module.{Module}
use Rattle.uc_meaning.specs.Lookup.{or_else}
use Rattle.uc_rules.specs.Names.{only_if}
use Rattle.uc_names.specs.Tables.{AreFirst}
use Rattle.uc_names.specs.declared.firsts.Firsts.{Firsts}
use Rattle.uc_names.proofs.FirstEntries.{first_begin, first_found, first_more}
use Rattle.uc_uses.specs.Modules.{AreNamed}

abbrev pub NamedTo : List Module → ℕ → Firsts (Bor Module) → Type 0
NamedTo ms k t = AreFirst {A = Module} (λ x m. nat_eq m.name x) (λ (r : Bor Module). r.now) (λ m. Some m) (get nat_eq t.things) (take k ms)

pub named_begin : (ms : List Module) (t : Firsts (Bor Module)) → ((x : ℕ) → get nat_eq t.things x ≡ None) → NamedTo ms 0 t
named_begin ms t none = first_begin (λ x m. nat_eq m.name x) (λ (r : Bor Module). r.now) (λ m. Some m) (get nat_eq t.things) none

pub named_more : (ms : List Module) (old new : Firsts (Bor Module)) (k : ℕ) (m : Bor Module) (d : Module) → NamedTo ms k old → k < length ms → m.now ≡ get_or ms k d →
    ((x : ℕ) → get nat_eq new.things x ≡ or_else (get nat_eq old.things x) (only_if (nat_eq m.now.name x) (Some m))) → NamedTo ms (k + 1) new
named_more ms old new k m d held within at says =
    subst (AreFirst {A = Module} (λ x m. nat_eq m.name x) (λ (r : Bor Module). r.now) (λ m. Some m) (get nat_eq new.things)) (sym (take_more ms k d within ∙ ap (λ y. take k ms ++ y ∷ []) (sym at)))
    (first_more (λ x m. nat_eq m.name x) (λ (r : Bor Module). r.now) (λ m. Some m) (get nat_eq old.things) (get nat_eq new.things) (take k ms) m.now (Some m) held refl says)

pub named_end : (ms : List Module) (t : Firsts (Bor Module)) (k : ℕ) → NamedTo ms k t → length ms ≤ k → AreNamed ms t
unfolding AreNamed
named_end ms t k held past x =
    first_found (λ y m. nat_eq m.name y) (λ (r : Bor Module). r.now) (get nat_eq t.things) ms x (get nat_eq t.things x)
    (subst (AreFirst {A = Module} (λ y m. nat_eq m.name y) (λ (r : Bor Module). r.now) (λ m. Some m) (get nat_eq t.things)) (take_all k ms past) held) refl
