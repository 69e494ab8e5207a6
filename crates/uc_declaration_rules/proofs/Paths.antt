-- The turns of a loop along a path of instances.
use Rattle.std.proofs.Common.{◌≡◌, ℕ, ◌+◌, ◌-◌, ◌<◌, ◌≤◌, Bool, true, false, List, [], ◌∷◌, length, take, drop, get_or, Option, Some, None, refl, ap, ◌∙◌, sym, arith, length-drop}
use Rattle.std.proofs.lemmas.List.{drop_all, take_all}
use Rattle.uc_syntax.specs.declared.place.Identifier.{Identifier}
use Rattle.uc_syntax.specs.declared.declaration.Module.{Module}
use Rattle.uc_meaning.specs.Lookup.{System}
use Rattle.uc_rules.specs.Declarations.{home_of_instance, path_is_there}
use Rattle.uc_rules.specs.Names.{instance_named, value_named}
use Rattle.uc_rules.specs.Reads.{is_state}
use Rattle.uc_rules.proofs.Lists.{drop_turn}

-- Before turn k, the rest of the path leads from here where the whole leads from the start.
pub record PathFrom (s : System) (start : Option (Option Module)) (path : List Identifier) (k : ℕ) (here : Option (Option Module)) : Type 0 where
  pub leads : path_is_there s here (drop k path) ≡ path_is_there s start path

pub path_begin : (s : System) (start : Option (Option Module)) (path : List Identifier) → PathFrom s start path 0 start
path_begin s start path = record { leads = refl }

none_there : (s : System) (path : List Identifier) → path_is_there s None path ≡ false
unfolding path_is_there
none_there s [] = refl
none_there s (i ∷ path) = refl

pub path_lost : (s : System) (start : Option (Option Module)) (path : List Identifier) (k : ℕ) (here : Option (Option Module)) → PathFrom s start path k here → here ≡ None → false ≡ path_is_there s start path
path_lost s start path k here before is = sym (none_there s (drop k path)) ∙ ap (λ o. path_is_there s o (drop k path)) (sym is) ∙ before.leads

nothing_there : (s : System) (here : Option (Option Module)) → path_is_there s here [] ≡ false
unfolding path_is_there
nothing_there s None = refl
nothing_there s (Some None) = refl
nothing_there s (Some (Some m)) = refl

pub path_past : (s : System) (start : Option (Option Module)) (path : List Identifier) (k : ℕ) (here : Option (Option Module)) → PathFrom s start path k here → length path ≤ k → false ≡ path_is_there s start path
path_past s start path k here before past = sym (nothing_there s here) ∙ sym (ap (path_is_there s here) (drop_all k path past)) ∙ before.leads

open_there : (s : System) (i : Identifier) (path : List Identifier) → path_is_there s (Some None) (i ∷ path) ≡ true
unfolding path_is_there
open_there s i path = refl

pub path_open : (s : System) (start : Option (Option Module)) (path : List Identifier) (k : ℕ) (here : Option (Option Module)) (i d : Identifier) → PathFrom s start path k here → here ≡ Some None → k < length path → i ≡ get_or path k d →
    true ≡ path_is_there s start path
path_open s start path k here i d before is within at =
    sym (open_there s i (drop (k + 1) path))
    ∙ sym (ap (path_is_there s (Some None)) (drop_turn path k i d within at))
    ∙ ap (λ o. path_is_there s o (drop k path)) (sym is) ∙ before.leads

last_there : (s : System) (m : Module) (i : Identifier) → path_is_there s (Some (Some m)) (i ∷ []) ≡ is_state (value_named s m i.name)
unfolding path_is_there
last_there s m i = refl

more_there : (s : System) (m : Module) (i j : Identifier) (path : List Identifier) → path_is_there s (Some (Some m)) (i ∷ (j ∷ path)) ≡ path_is_there s (home_of_instance s (instance_named s m i.name)) (j ∷ path)
unfolding path_is_there
more_there s m i j path = refl

pub path_last : (s : System) (start : Option (Option Module)) (path : List Identifier) (k : ℕ) (here : Option (Option Module)) (m : Module) (i d : Identifier) (b : Bool) → PathFrom s start path k here → here ≡ Some (Some m) → k < length path → i ≡ get_or path k d →
    k + 1 ≡ length path → b ≡ is_state (value_named s m i.name) → b ≡ path_is_there s start path
path_last s start path k here m i d b before is within at end b-is =
    let past : length path ≤ k + 1 = omega (arith, end) in
    b-is ∙ sym (last_there s m i)
    ∙ sym (ap (λ xs. path_is_there s (Some (Some m)) (i ∷ xs)) (drop_all (k + 1) path past))
    ∙ sym (ap (path_is_there s (Some (Some m))) (drop_turn path k i d within at))
    ∙ ap (λ o. path_is_there s o (drop k path)) (sym is) ∙ before.leads

tail_there : (s : System) (m : Module) (i : Identifier) (rest : List Identifier) (n : ℕ) → n < length rest → path_is_there s (Some (Some m)) (i ∷ rest) ≡ path_is_there s (home_of_instance s (instance_named s m i.name)) rest
tail_there s m i [] n h = absurd (omega (arith, h))
tail_there s m i (j ∷ rest) n h = more_there s m i j rest

pub path_more : (s : System) (start : Option (Option Module)) (path : List Identifier) (k : ℕ) (here there : Option (Option Module)) (m : Module) (i d : Identifier) → PathFrom s start path k here → here ≡ Some (Some m) → k < length path → i ≡ get_or path k d →
    (k + 1 ≡ length path → ⊥) → there ≡ home_of_instance s (instance_named s m i.name) → PathFrom s start path (k + 1) there
path_more s start path k here there m i d before is within at more there-is =
    let left : 0 < length (drop (k + 1) path) = grind (arith, length-drop (k + 1) path, within, more) in record {
      leads =
          ap (λ o. path_is_there s o (drop (k + 1) path)) there-is
          ∙ sym (tail_there s m i (drop (k + 1) path) 0 left)
          ∙ sym (ap (path_is_there s (Some (Some m))) (drop_turn path k i d within at))
          ∙ ap (λ o. path_is_there s o (drop k path)) (sym is)
          ∙ before.leads;
    }

-- ---- a path by how long it is

-- what stands for an identifier where there is none
abbrev pub no_identifier : Identifier
no_identifier = record { place = record { file = 0; line = 0; col = 0 }; name = 0 }

pub path_none : (s : System) (m : Module) (path : List Identifier) → length path < 1 → false ≡ path_is_there s (Some (Some m)) path
unfolding path_is_there
path_none s m [] short = refl
path_none s m (i ∷ path) short = absurd (omega (arith, short))

pub path_one : (s : System) (m : Module) (path : List Identifier) (b : Bool) → 1 ≤ length path → length path < 2 → b ≡ is_state (value_named s m (get_or path 0 no_identifier).name) → b ≡ path_is_there s (Some (Some m)) path
path_one s m [] b long short b-is = absurd (omega (arith, long))
path_one s m (i ∷ []) b long short b-is = b-is ∙ sym (last_there s m i)
path_one s m (i ∷ (j ∷ path)) b long short b-is = absurd (omega (arith, short))

path_split : (s : System) (m : Module) (path : List Identifier) (there : Option (Option Module)) (b : Bool) → 2 ≤ length path → there ≡ home_of_instance s (instance_named s m (get_or path 0 no_identifier).name) →
    b ≡ path_is_there s there (drop 1 path) → b ≡ path_is_there s (Some (Some m)) path
path_split s m [] there b long there-is b-is = absurd (omega (arith, long))
path_split s m (i ∷ []) there b long there-is b-is = absurd (omega (arith, long))
path_split s m (i ∷ (j ∷ path)) there b long there-is b-is = b-is ∙ ap (λ o. path_is_there s o (j ∷ path)) there-is ∙ sym (more_there s m i j path)

pub path_longer : (s : System) (m : Module) (path : List Identifier) (there : Option (Option Module)) (b : Bool) → 2 ≤ length path → there ≡ home_of_instance s (instance_named s m (get_or path 0 no_identifier).name) →
    b ≡ path_is_there s there (take (length path - 1) (drop 1 path)) → b ≡ path_is_there s (Some (Some m)) path
path_longer s m path there b long there-is b-is =
    let all : length (drop 1 path) ≤ length path - 1 = omega (arith, length-drop 1 path) in
    path_split s m path there b long there-is (b-is ∙ ap (path_is_there s there) (take_all (length path - 1) (drop 1 path) all))
