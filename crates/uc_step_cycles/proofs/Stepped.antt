-- The names that acts step, one by one.
use Rattle.std.proofs.Common.{◌≡◌, ℕ, ◌+◌, ◌<◌, ◌≤◌, Bool, true, false, List, [], ◌∷◌, length, take, get_or, Option, Some, None, refl, ap, sym, ◌∙◌}
use Rattle.std.specs.Prelude.{nat_eq, is_some, ◌||◌}
use Rattle.std.specs.List.{list_any}
use Rattle.std.proofs.lemmas.List.{take_all}
use Rattle.std.proofs.lemmas.List.Folds.{list_any-append}
use Rattle.indexmap.specs.IndexMap.{get}
use Rattle.uc_rules.specs.Names.{only_if}
use Rattle.uc_rules.proofs.Lists.{take_turn}
use Rattle.uc_meaning.specs.Lookup.{or_else}
use Rattle.uc_names.specs.declared.firsts.Firsts.{Firsts}
use Rattle.uc_step_cycles.specs.declared.acts.Act.{Act}
use Rattle.uc_step_cycles.specs.declared.acts.Act.TheVariants.{Steps}
use Rattle.uc_step_cycles.specs.Steps.{KnowsSteps, steps_name}

right_none : (b : Bool) → (b || false) ≡ b
right_none true = refl
right_none false = refl

pub steps_begin : (as' : List Act) (t : Firsts Bool) → ((x : ℕ) → get nat_eq t.things x ≡ None) → KnowsSteps (take 0 as') t
unfolding KnowsSteps
steps_begin as' t none x = ap is_some (none x)

pub steps_more : (as' : List Act) (t u : Firsts Bool) (k : ℕ) (a d : Act) → KnowsSteps (take k as') t → k < length as' → a ≡ get_or as' k d →
    ((x : ℕ) → is_some (get nat_eq u.things x) ≡ (is_some (get nat_eq t.things x) || steps_name x a)) → KnowsSteps (take (k + 1) as') u
unfolding KnowsSteps
steps_more as' t u k a d held within at entered x =
    entered x
    ∙ ap (λ b. b || steps_name x a) (held x)
    ∙ sym (ap (list_any (steps_name x)) (take_turn as' k a d within at) ∙ list_any-append (steps_name x) (take k as') (a ∷ []) ∙ ap (λ b. list_any (steps_name x) (take k as') || b) (right_none (steps_name x a)))

pub steps_end : (as' : List Act) (t : Firsts Bool) (k : ℕ) → KnowsSteps (take k as') t → length as' ≤ k → KnowsSteps as' t
unfolding KnowsSteps
steps_end as' t k held past x = held x ∙ ap (list_any (steps_name x)) (take_all k as' past)

-- an act that steps nothing
pub not_entered : (t : Firsts Bool) (a b : Act) (x : ℕ) → a ≡ b → steps_name x b ≡ false → is_some (get nat_eq t.things x) ≡ (is_some (get nat_eq t.things x) || steps_name x a)
not_entered t a b x is none = sym (ap (λ c. is_some (get nat_eq t.things x) || steps_name x c) is ∙ ap (λ c. is_some (get nat_eq t.things x) || c) none ∙ right_none (is_some (get nat_eq t.things x)))

pub step_entered : (t u : Firsts Bool) (a : Act) (i n x : ℕ) → a ≡ Steps i n → get nat_eq u.things x ≡ or_else (get nat_eq t.things x) (only_if (nat_eq i x) (Some true)) →
    is_some (get nat_eq u.things x) ≡ (is_some (get nat_eq t.things x) || steps_name x a)
step_entered t u a i n x is entered = ap is_some entered ∙ by (get nat_eq t.things x) (nat_eq i x) ∙ sym (ap (λ c. is_some (get nat_eq t.things x) || steps_name x c) is)
  where
    by : (o : Option Bool) (b : Bool) → is_some (or_else o (only_if b (Some true))) ≡ (is_some o || b)
    by None true = refl
    by None false = refl
    by (Some z) b = refl
