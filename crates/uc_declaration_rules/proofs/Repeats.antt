-- The turns of a loop over the entries of a module.
use Rattle.std.proofs.Common.{◌≡◌, ℕ, ◌+◌, ◌<◌, ◌≤◌, List, [], ◌∷◌, ◌++◌, length, drop, take, get_or, Option, refl, ap, ◌∙◌, sym, subst}
use Rattle.std.proofs.lemmas.List.{drop_all, get_or-map, length-map}
use Rattle.uc_syntax.specs.declared.declaration.Module.{Module}
use Rattle.uc_meaning.specs.Lookup.{System}
use Rattle.uc_rules.specs.declared.fault.Fault.{Fault}
use Rattle.uc_rules.specs.Faults.{first_of}
use Rattle.uc_rules.specs.Names.{Entry as Meant, repeated_names}
use Rattle.uc_names.specs.declared.senses.Entry.{Entry}
use Rattle.uc_names.specs.Senses.{entries_meant, entry_meant}
use Rattle.uc_rules.proofs.Chains.{first_of_append}
use Rattle.uc_rules.proofs.Lists.{drop_turn, take_turn}
use Rattle.uc_declaration_rules.specs.declared.seen.SeenNames.{SeenNames}
use Rattle.uc_declaration_rules.specs.Seen.{HasSeen, name_faults}

-- Before turn k, the first entries were seen, and the faults of the rest are still to come.
pub record SeenUpTo (s : System) (es : List Meant) (old : Option Fault) (k : ℕ) (seen : SeenNames) (first : Option Fault) : Type 0 where
  pub held : HasSeen s.modules seen (take k es)
  pub found : first_of first (repeated_names s (take k es) (drop k es)) ≡ first_of old (repeated_names s [] es)

pub seen_begin : (s : System) (es : List Meant) (old : Option Fault) (seen : SeenNames) → HasSeen s.modules seen [] → SeenUpTo s es old 0 seen old
seen_begin s es old seen held = record { held = held; found = refl }

turn : (s : System) (earlier : List Meant) (e : Meant) (es : List Meant) → repeated_names s earlier (e ∷ es) ≡ name_faults s earlier e ++ repeated_names s (earlier ++ e ∷ []) es
unfolding repeated_names
turn s earlier e es = refl

pub seen_more : (s : System) (es : List Meant) (old : Option Fault) (k : ℕ) (seen : SeenNames) (first : Option Fault) (e d : Meant) (seen' : SeenNames) (first' : Option Fault) →
    SeenUpTo s es old k seen first → k < length es → e ≡ get_or es k d →
    ((xs : List Meant) → HasSeen s.modules seen xs → first' ≡ first_of first (name_faults s xs e)) →
    ((xs : List Meant) → HasSeen s.modules seen xs → HasSeen s.modules seen' (xs ++ e ∷ [])) →
    SeenUpTo s es old (k + 1) seen' first'
seen_more s es old k seen first e d seen' first' before within at noted added =
    let before_e : List Meant = take k es in
    let rest : List Meant = drop (k + 1) es in
    let taken = take_turn es k e d within at in record {
      held = subst (HasSeen s.modules seen') (sym taken) (added before_e before.held);
      found =
          ap (λ xs. first_of first' (repeated_names s xs rest)) taken
          ∙ ap (λ o. first_of o (repeated_names s (before_e ++ e ∷ []) rest)) (noted before_e before.held)
          ∙ sym (first_of_append first (name_faults s before_e e) (repeated_names s (before_e ++ e ∷ []) rest))
          ∙ sym (ap (first_of first) (turn s before_e e rest))
          ∙ sym (ap (λ xs. first_of first (repeated_names s before_e xs)) (drop_turn es k e d within at))
          ∙ before.found;
    }

pub seen_end : (s : System) (es : List Meant) (old : Option Fault) (k : ℕ) (seen : SeenNames) (first : Option Fault) →
    SeenUpTo s es old k seen first → length es ≤ k → first ≡ first_of old (repeated_names s [] es)
unfolding repeated_names first_of
seen_end s es old k seen first before past =
    sym (ap (λ xs. first_of first (repeated_names s (take k es) xs)) (drop_all k es past)) ∙ before.found

meant_within : (ms : List Module) (xs : List Entry) (k : ℕ) → k < length xs → k < length (entries_meant ms xs)
unfolding entries_meant
meant_within ms xs k within = subst (λ n. k < n) (sym (length-map xs (entry_meant ms))) within

meant_at : (ms : List Module) (xs : List Entry) (k : ℕ) (x d : Entry) → k < length xs → x ≡ get_or xs k d → entry_meant ms x ≡ get_or (entries_meant ms xs) k (entry_meant ms d)
unfolding entries_meant
meant_at ms xs k x d within at = ap (entry_meant ms) at ∙ sym (get_or-map (entry_meant ms) xs k d (entry_meant ms d) within)

meant_past : (ms : List Module) (xs : List Entry) (k : ℕ) → length xs ≤ k → length (entries_meant ms xs) ≤ k
unfolding entries_meant
meant_past ms xs k past = subst (λ n. n ≤ k) (sym (length-map xs (entry_meant ms))) past

-- the same for entries as the program has them
pub entries_more : (s : System) (xs : List Entry) (old : Option Fault) (k : ℕ) (seen : SeenNames) (first : Option Fault) (x d : Entry) (seen' : SeenNames) (first' : Option Fault) →
    SeenUpTo s (entries_meant s.modules xs) old k seen first → k < length xs → x ≡ get_or xs k d →
    ((es : List Meant) → HasSeen s.modules seen es → first' ≡ first_of first (name_faults s es (entry_meant s.modules x))) →
    ((es : List Meant) → HasSeen s.modules seen es → HasSeen s.modules seen' (es ++ entry_meant s.modules x ∷ [])) →
    SeenUpTo s (entries_meant s.modules xs) old (k + 1) seen' first'
entries_more s xs old k seen first x d seen' first' before within at =
    seen_more s (entries_meant s.modules xs) old k seen first (entry_meant s.modules x) (entry_meant s.modules d) seen' first' before (meant_within s.modules xs k within) (meant_at s.modules xs k x d within at)

pub entries_end : (s : System) (xs : List Entry) (old : Option Fault) (k : ℕ) (seen : SeenNames) (first : Option Fault) →
    SeenUpTo s (entries_meant s.modules xs) old k seen first → length xs ≤ k → first ≡ first_of old (repeated_names s [] (entries_meant s.modules xs))
entries_end s xs old k seen first before past = seen_end s (entries_meant s.modules xs) old k seen first before (meant_past s.modules xs k past)
