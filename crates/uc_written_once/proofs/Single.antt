-- What single statements write.
use Rattle.std.proofs.Common.{◌≡◌, ℕ, ◌+◌, ◌<◌, ◌≤◌, length, drop, get_or, append_assoc, arith, Bool, true, false, List, [], ◌∷◌, ◌++◌, map, Option, refl, ap, ◌∙◌, sym}
use Rattle.std.specs.Prelude.{◌||◌, ◌&&◌, not, nat_lt}
use Rattle.std.specs.List.{flat_map}
use Rattle.uc_lexer.specs.declared.place.Place.{Place}
use Rattle.uc_syntax.specs.declared.place.Identifier.{Identifier}
use Rattle.uc_syntax.specs.declared.expression.Expr.{Expr}
use Rattle.uc_syntax.specs.declared.statement.TargetPart.{TargetPart}
use Rattle.uc_syntax.specs.declared.statement.TargetPart.TheVariants.{Field, Element}
use Rattle.uc_meaning.specs.Steps.{fields_before}
use Rattle.uc_rules.proofs.Lists.{drop_turn}
use Rattle.std.proofs.lemmas.List.{drop_all}
use Rattle.uc_syntax.specs.declared.declaration.Clause.{Clause}
use Rattle.uc_syntax.proofs.Added.{append_nil}
use Rattle.uc_meaning.specs.Code.{modifies_in}
use Rattle.uc_rules.specs.declared.fault.Fault.{Fault}
use Rattle.uc_rules.specs.declared.rule.Rule.TheVariants.{TwiceAssigned}
use Rattle.uc_rules.specs.Faults.{breaks_where, first_of}
use Rattle.uc_order_rules.specs.Writes.{Part, Stepping, is_empty, no_step}
use Rattle.uc_order_rules.specs.Walks.{Walk, after, walk_each}
use Rattle.uc_written_once.specs.Walks.{is_stepped_twice, one_clause, one_name, walk_step, Went}
use Rattle.uc_written_once.proofs.WrittenOnceTurns.{each_join, went_as, went_join}
use Rattle.std.proofs.lemmas.List.{map-append}

each_turn : {A : Type 0} (w : Walk A) (ws : List (Walk A)) (again : Bool) (seen : List A) → walk_each (w ∷ ws) again seen ≡ after (w again seen).faults (walk_each ws again (w again seen).seen)
unfolding walk_each
each_turn w ws again seen = refl

pub twice_mapped : {A B C : Type 0} (f : A → B) (g : B → C) (xs : List A) → map (λ x. g (f x)) xs ≡ map g (map f xs)
twice_mapped f g [] = refl
twice_mapped f g (x ∷ xs) = ap (λ ys. g (f x) ∷ ys) (twice_mapped f g xs)

-- the names of a clause
pub clause_went : (place : Place) (names : List Identifier) (clause : Clause) (again : Bool) (seen : List Part) (old : Option Fault) (now : List Part) (first : Option Fault) → map (λ i. i.name) names ≡ modifies_in clause →
    Went (walk_each (map (λ (i : Identifier). one_name place i.name) names) again seen) old now first → Went (one_clause place clause again seen) old now first
clause_went place names clause again seen old now first same went =
    went_as _ _ old now first (ap (λ ws. walk_each ws again seen) (twice_mapped (λ (i : Identifier). i.name) (one_name place) names ∙ ap (map (one_name place)) same)) went

-- what a list gives, element by element
flat_walks : {A X Y : Type 0} (w : Y → Walk A) (f : X → List Y) (xs : List X) (again : Bool) (seen : List A) → walk_each (map (λ x. walk_each (map w (f x))) xs) again seen ≡ walk_each (map w (flat_map f xs)) again seen
flat_walks {Y = Y} w f [] again seen = refl
flat_walks {Y = Y} w f (x ∷ xs) again seen =
    let one = walk_each (map w (f x)) in
    each_turn one (map (λ y. walk_each (map w (f y))) xs) again seen
    ∙ ap (after (one again seen).faults) (flat_walks w f xs again (one again seen).seen)
    ∙ sym (each_join (map w (f x)) (map w (flat_map f xs)) again seen)
    ∙ ap (λ ws. walk_each ws again seen) (sym (map-append w (f x) (flat_map f xs)))

pub flat_went : {X Y : Type 0} (w : Y → Walk Part) (f : X → List Y) (xs : List X) (again : Bool) (seen : List Part) (old : Option Fault) (now : List Part) (first : Option Fault) →
    Went (walk_each (map (λ x. walk_each (map w (f x))) xs) again seen) old now first → Went (walk_each (map w (flat_map f xs)) again seen) old now first
flat_went w f xs again seen old now first went = went_as _ _ old now first (flat_walks w f xs again seen) went

pub call_none : (g : ℕ → Walk Part) (ws : List (Walk Part)) (xs : List ℕ) (again : Bool) (seen : List Part) (old : Option Fault) (now : List Part) (first : Option Fault) → [] ≡ xs →
    Went (walk_each ws again seen) old now first → Went (walk_each (ws ++ map g xs) again seen) old now first
call_none g ws xs again seen old now first none went =
    went_as _ _ old now first (ap (λ vs. walk_each vs again seen) (sym (append_nil ws) ∙ ap (λ ys. ws ++ map g ys) none)) went

pub call_some : (place : Place) (ws : List (Walk Part)) (shown cs : List Clause) (xs : List ℕ) (again : Bool) (before seen later : List Part) (old mid now : Option Fault) → shown ≡ cs → flat_map modifies_in cs ≡ xs →
    Went (walk_each ws again before) old seen mid → Went (walk_each (map (one_name place) (flat_map modifies_in shown)) again seen) mid later now → Went (walk_each (ws ++ map (one_name place) xs) again before) old later now
call_some place ws shown cs xs again before seen later old mid now same is a b =
    went_join ws (map (one_name place) xs) again before seen later old mid now a
    (went_as _ _ mid later now (ap (λ ys. walk_each (map (one_name place) ys) again seen) (ap (flat_map modifies_in) same ∙ is)) b)

no_fault : (again : Bool) → (again && false) ≡ false
no_fault true = refl
no_fault false = refl

-- an instance that is none is stepped
pub step_none : (place : Place) (s : Stepping) (again : Bool) (seen : List Part) (old : Option Fault) → no_step ≡ s → Went (walk_step place s again seen) old seen old
unfolding first_of
step_none place s again seen old is = went_as (walk_step place no_step again seen) _ old seen old (ap (λ r. walk_step place r again seen) is) (record {
  seen = sym (append_nil seen);
  faults = sym (ap (λ b. first_of old (breaks_where (b || false) TwiceAssigned place)) (no_fault again));
})

pub step_some : (place : Place) (t s : Stepping) (again : Bool) (seen shown now : List Part) (old first : Option Fault) (b : Bool) → t ≡ s → b ≡ is_stepped_twice again seen t →
    first ≡ first_of old (breaks_where b TwiceAssigned place) → shown ≡ t.parts → now ≡ seen ++ shown → Went (walk_step place s again seen) old now first
step_some place t s again seen shown now old first b is twice noted same added = went_as (walk_step place t again seen) _ old now first (ap (λ r. walk_step place r again seen) is) (record {
  seen = added ∙ ap (λ ps. seen ++ ps) same;
  faults = noted ∙ ap (λ c. first_of old (breaks_where c TwiceAssigned place)) twice;
})

pub has_parts : {A : Type 0} (xs : List A) → nat_lt 0 (length xs) ≡ not (is_empty xs)
has_parts [] = refl
has_parts (x ∷ xs) = grind arith

-- The fields of a target, of which those behind place k are still to be added.
pub record FieldsFrom (parts : List TargetPart) (before : List ℕ) (k : ℕ) (now : List ℕ) : Type 0 where
  pub rest : now ++ fields_before (drop k parts) ≡ before ++ fields_before parts

module _ (parts : List TargetPart) (before : List ℕ) where
  pub fields_begin : FieldsFrom parts before 0 before
  fields_begin = record { rest = refl }

  module _ (k : ℕ) (now : List ℕ) (x d : TargetPart) (held : FieldsFrom parts before k now) (within : k < length parts) (at : x ≡ get_or parts k d) where
    turn : fields_before (drop k parts) ≡ fields_before (x ∷ drop (k + 1) parts)
    turn = ap fields_before (drop_turn parts k x d within at)

    pub fields_more : (later : List ℕ) (place : Place) (f : Identifier) → x ≡ Field place f → later ≡ now ++ f.name ∷ [] → FieldsFrom parts before (k + 1) later
    unfolding fields_before
    fields_more later place f is added = record {
      rest =
          ap (λ ns. ns ++ fields_before (drop (k + 1) parts)) added ∙ append_assoc now (f.name ∷ []) (fields_before (drop (k + 1) parts))
          ∙ sym (ap (λ ns. now ++ ns) (turn ∙ ap (λ y. fields_before (y ∷ drop (k + 1) parts)) is)) ∙ held.rest;
    }

    pub fields_stop : (place : Place) (e : Expr) → x ≡ Element place e → now ≡ before ++ fields_before parts
    unfolding fields_before
    fields_stop place e is = sym (append_nil now) ∙ sym (ap (λ ns. now ++ ns) (turn ∙ ap (λ y. fields_before (y ∷ drop (k + 1) parts)) is)) ∙ held.rest

  pub fields_end : (k : ℕ) (now : List ℕ) → FieldsFrom parts before k now → length parts ≤ k → now ≡ before ++ fields_before parts
  unfolding fields_before
  fields_end k now held past = sym (append_nil now) ∙ sym (ap (λ ps. now ++ fields_before ps) (drop_all k parts past)) ∙ held.rest
