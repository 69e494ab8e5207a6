-- The turns of a loop over declarations, of which the blocks of one kind are taken.
use Rattle.std.proofs.Common.{◌≡◌, ℕ, ◌+◌, ◌<◌, ◌≤◌, Bool, true, false, List, [], ◌++◌, map, length, drop, get_or, Option, Some, None, refl, ap, ◌∙◌, sym}
use Rattle.std.specs.Prelude.{◌||◌}
use Rattle.std.specs.Option.{is_some}
use Rattle.std.specs.List.{filter_map, cons_option}
use Rattle.std.proofs.lemmas.List.{drop_all}
use Rattle.uc_lexer.specs.declared.place.Place.{Place}
use Rattle.uc_syntax.specs.declared.declaration.Decl.{Decl}
use Rattle.uc_rules.specs.declared.fault.Fault.{Fault}
use Rattle.uc_rules.specs.declared.rule.Rule.TheVariants.{DuplicateName}
use Rattle.uc_rules.specs.Faults.{broken, first_of}
use Rattle.uc_rules.proofs.Chains.{first_of_append}
use Rattle.uc_rules.proofs.Lists.{drop_turn}
use Rattle.uc_type_names.specs.Blocks.{again_at}

-- the faults at the places of blocks, of which the first one is none where no block was before
pub repeated : Bool → List Place → List Fault
repeated true ps = map (broken DuplicateName) ps
repeated false ps = map (broken DuplicateName) (drop 1 ps)

repeated_turn : (there : Bool) (o : Option Place) (ps : List Place) → repeated there (cons_option o ps) ≡ again_at there o ++ repeated (there || is_some o) ps
unfolding repeated
repeated_turn true None ps = refl
repeated_turn true (Some p) ps = refl
repeated_turn false None ps = refl
repeated_turn false (Some p) ps = refl

repeated_none : (there : Bool) → repeated there [] ≡ []
unfolding repeated
repeated_none true = refl
repeated_none false = refl

-- Before turn k, the faults of the rest are still to come.
pub record BlocksFrom (which : Decl → Option Place) (ds : List Decl) (old : Option Fault) (k : ℕ) (there : Bool) (first : Option Fault) : Type 0 where
  pub found : first_of first (repeated there (filter_map which (drop k ds))) ≡ first_of old (map (broken DuplicateName) (drop 1 (filter_map which ds)))

pub blocks_begin : (which : Decl → Option Place) (ds : List Decl) (old : Option Fault) → BlocksFrom which ds old 0 false old
unfolding repeated
blocks_begin which ds old = record { found = refl }

pub blocks_more : (which : Decl → Option Place) (ds : List Decl) (old : Option Fault) (k : ℕ) (there : Bool) (first : Option Fault) (d d0 : Decl) (there' : Bool) (first' : Option Fault) →
    BlocksFrom which ds old k there first → k < length ds → d ≡ get_or ds k d0 →
    there' ≡ (there || is_some (which d)) → first' ≡ first_of first (again_at there (which d)) →
    BlocksFrom which ds old (k + 1) there' first'
blocks_more which ds old k there first d d0 there' first' held within at there-is first-is = record {
  found =
      ap (λ b. first_of first' (repeated b (filter_map which (drop (k + 1) ds)))) there-is
      ∙ ap (λ o. first_of o (repeated (there || is_some (which d)) (filter_map which (drop (k + 1) ds)))) first-is
      ∙ sym (first_of_append first (again_at there (which d)) (repeated (there || is_some (which d)) (filter_map which (drop (k + 1) ds))))
      ∙ sym (ap (first_of first) (repeated_turn there (which d) (filter_map which (drop (k + 1) ds))))
      ∙ sym (ap (λ xs. first_of first (repeated there (filter_map which xs))) (drop_turn ds k d d0 within at))
      ∙ held.found;
}

pub blocks_end : (which : Decl → Option Place) (ds : List Decl) (old : Option Fault) (k : ℕ) (there : Bool) (first : Option Fault) →
    BlocksFrom which ds old k there first → length ds ≤ k → first ≡ first_of old (map (broken DuplicateName) (drop 1 (filter_map which ds)))
unfolding first_of
blocks_end which ds old k there first held past =
    sym (ap (first_of first) (repeated_none there))
    ∙ sym (ap (λ xs. first_of first (repeated there (filter_map which xs))) (drop_all k ds past))
    ∙ held.found
