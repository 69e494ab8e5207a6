-- The analysis of a conflict walks back over the trail: one lemma for each kind of step.
use Rattle.std.proofs.Common.{◌≡◌, ◌≢◌, ℕ, ◌<◌, inl, inr, Bool, true, false, not, List, [], ◌∷◌, ◌++◌, Option, None, Some, length, get_or, refl, sym, ◌∙◌, ap, subst, arith, get_or-set_same, get_or-set_other}
use Rattle.std.specs.Prelude.{All}
use Rattle.std.proofs.lemmas.Bool.{cases_eq}
use Rattle.std.proofs.lemmas.List.{length-set, length-append, get_or_append_left, get_or_push}
use Rattle.std.proofs.lemmas.List.Elements.{All-push}
use Rattle.uc_circuit.specs.declared.literal.Lit.{Lit}
use Rattle.uc_circuit.specs.Literals.{negate}
use Rattle.uc_circuit.specs.Values.{assign, IsFalse, IsFalsified, HasNoValue, Forces}
use Rattle.uc_learner.specs.Analysis.{Explains}

-- the parts of what holds of a list with one more element
pub All-front : {X : Type 0} (P : X → Type 0) (xs : List X) (x : X) → All P (xs ++ x ∷ []) → All P xs
All-front P xs x all k d h =
    subst P (get_or_append_left xs (x ∷ []) d k h) (all k d (simp length-append (omega arith)))

pub All-last : {X : Type 0} (P : X → Type 0) (xs : List X) (x : X) → All P (xs ++ x ∷ []) → P x
All-last P xs x all =
    subst P (get_or_push xs x x (length xs) refl) (all (length xs) x (simp length-append (omega arith)))

-- reads after an assignment
pub assign_here : (v : List (Option Bool)) (t : Lit) → t.var < length v → get_or (assign v t) t.var None ≡ Some (not t.neg)
assign_here v t h = get_or-set_same v t.var (Some (not t.neg)) None h

pub assign_elsewhere : (v : List (Option Bool)) (t : Lit) (x : ℕ) → x ≢ t.var → get_or (assign v t) x None ≡ get_or v x None
assign_elsewhere v t x h = get_or-set_other v t.var x (Some (not t.neg)) None h

-- a value that was there stays, since the literal had none
pub assign_keeps : (v : List (Option Bool)) (t : Lit) (x : ℕ) (b : Bool) → HasNoValue v t → get_or v x None ≡ Some b → get_or (assign v t) x None ≡ Some b
assign_keeps v t x b unset is =
    assign_elsewhere v t x (λ same. let e : get_or v x None ≡ None = ap (λ k. get_or v k None) same ∙ unset in cc) ∙ is

-- what has no value after an assignment had none before, and is another variable
pub unset_before : (v : List (Option Bool)) (t : Lit) (x : ℕ) → t.var < length v → get_or (assign v t) x None ≡ None → (x ≢ t.var) × (get_or v x None ≡ None)
unset_before v t x inside is =
    let ne : x ≢ t.var = λ same. let e : get_or (assign v t) x None ≡ Some (not t.neg) = ap (λ k. get_or (assign v t) k None) same ∙ assign_here v t inside in cc in
    (ne, sym (assign_elsewhere v t x ne) ∙ is)

pub walk_conflict :
    (clauses : List (List Lit)) (w : List (Option Bool)) (marks : List Bool) (n : ℕ)
    → n < length clauses
    → IsFalsified w (get_or clauses n [])
    → All (λ l. get_or marks l.var false ≡ true) (get_or clauses n [])
    → Explains clauses w marks [] (n ∷ [])
walk_conflict clauses w marks n inside false' all = record {
  from = λ v between. (inside, inl (refl, λ k d h. between.marked _ _ (all k d h) (false' k d h)));
}

-- a step that nothing needs
pub walk_unmarked :
    (clauses : List (List Lit)) (w : List (Option Bool)) (t : Lit) (marks : List Bool) (kept : List Lit) (hints : List ℕ)
    → t.var < length w
    → get_or marks t.var false ≡ false
    → HasNoValue w t
    → Explains clauses (assign w t) marks kept hints
    → Explains clauses w marks kept hints
walk_unmarked clauses w t marks kept hints inside unmarked unset explains = record {
  from = λ v between. explains.from v (record {
    same_length = between.same_length ∙ sym (length-set w t.var (Some (not t.neg)));
    marked = λ x b is_marked is.
        elim (cases_eq x t.var) [
          | inl same ↦ absurd (let e : get_or marks x false ≡ false = ap (λ k. get_or marks k false) same ∙ unmarked in cc)
          | inr ne ↦ between.marked x b is_marked (sym (assign_elsewhere w t x ne) ∙ is)
        ];
    kept_false = between.kept_false;
    unset = λ x is away. between.unset x ((unset_before w t x inside is).1) away;
  });
}

-- a step that is resolved away by its reason
pub walk_resolved :
    (clauses : List (List Lit)) (w : List (Option Bool)) (t : Lit) (marks after : List Bool) (kept : List Lit) (hints : List ℕ) (n : ℕ)
    → t.var < length w
    → n < length clauses
    → Forces w (get_or clauses n []) t
    → ((x : ℕ) → get_or marks x false ≡ true → get_or after x false ≡ true)
    → All (λ l. get_or after l.var false ≡ true) (get_or clauses n [])
    → All (HasNoValue (assign w t)) kept
    → Explains clauses (assign w t) marks kept hints
    → Explains clauses w after kept (n ∷ hints)
walk_resolved clauses w t marks after kept hints n inside in_clauses forces grows all unvalued explains = record {
  from = λ v between.
      let away : All (λ l. l.var ≢ t.var) kept = λ k d h. (unset_before w t _ inside (unvalued k d h)).0 in
      let v_unset : get_or v t.var None ≡ None = between.unset t.var forces.unset away in
      let v_inside : t.var < length v = rw between.same_length inside in (
        in_clauses,
        inr (
          t,
          record {
            there = forces.there;
            unset = v_unset;
            rest = λ k d h. elim (forces.rest k d h) [
              | inl same ↦ inl same
              | inr is_false ↦ inr (between.marked _ _ (all k d h) is_false)
            ];
          },
          explains.from (assign v t) (record {
            same_length = length-set v t.var (Some (not t.neg)) ∙ between.same_length ∙ sym (length-set w t.var (Some (not t.neg)));
            marked = λ x b is_marked is.
                elim (cases_eq x t.var) [
                  | inl same ↦
                      let e : get_or (assign w t) x None ≡ Some (not t.neg) = ap (λ k. get_or (assign w t) k None) same ∙ assign_here w t inside in
                      let f : get_or (assign v t) x None ≡ Some (not t.neg) = ap (λ k. get_or (assign v t) k None) same ∙ assign_here v t v_inside in
                      f ∙ sym e ∙ is
                  | inr ne ↦
                      assign_elsewhere v t x ne ∙ between.marked x b (grows x is_marked) (sym (assign_elsewhere w t x ne) ∙ is)
                ];
            kept_false = λ k d h. assign_elsewhere v t _ (away k d h) ∙ between.kept_false k d h;
            unset = λ x is others.
                let before : (x ≢ t.var) × (get_or w x None ≡ None) = unset_before w t x inside is in
                assign_elsewhere v t x before.0 ∙ between.unset x before.1 others;
          }),
        ),
      );
}

-- a step whose negation goes into the learnt clause
pub walk_kept :
    (clauses : List (List Lit)) (w : List (Option Bool)) (t : Lit) (marks : List Bool) (kept : List Lit) (hints : List ℕ)
    → t.var < length w
    → HasNoValue w t
    → Explains clauses (assign w t) marks kept hints
    → Explains clauses w marks (kept ++ negate t ∷ []) hints
walk_kept clauses w t marks kept hints inside unset explains = record {
  from = λ v between.
      let t_false : IsFalse v (negate t) = All-last (IsFalse v) kept (negate t) between.kept_false in
      explains.from v (record {
        same_length = between.same_length ∙ sym (length-set w t.var (Some (not t.neg)));
        marked = λ x b is_marked is.
            elim (cases_eq x t.var) [
              | inl same ↦
                  let e : get_or (assign w t) x None ≡ Some (not t.neg) = ap (λ k. get_or (assign w t) k None) same ∙ assign_here w t inside in
                  ap (λ k. get_or v k None) same ∙ t_false ∙ sym e ∙ is
              | inr ne ↦ between.marked x b is_marked (sym (assign_elsewhere w t x ne) ∙ is)
            ];
        kept_false = All-front (IsFalse v) kept (negate t) between.kept_false;
        unset = λ x is others.
            let before : (x ≢ t.var) × (get_or w x None ≡ None) = unset_before w t x inside is in
            between.unset x before.1 (All-push (λ (l : Lit). l.var ≢ x) kept (negate t) others (λ same. before.0 (sym same)));
      });
}
