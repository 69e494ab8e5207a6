-- Lists that grow in loops.
use Rattle.std.proofs.Common.{◌≡◌, ◌≢◌, ℕ, zero, suc, ◌+◌, ◌<◌, ◌≤◌, List, [], ◌∷◌, ◌++◌, map, length, drop, get_or, refl, sym, ap, ◌∙◌, true, false, Bool, Some, None, append_assoc, arith, drop-cons}
use Rattle.std.specs.Prelude.{slice_get}
use Rattle.uc_lexer.specs.declared.place.Place.{Place}
use Rattle.uc_syntax.proofs.Added.{append_nil}
use Rattle.uc_syntax.specs.declared.expression.Expr.{Expr}
use Rattle.uc_syntax.specs.declared.statement.Arm.{Arm}
use Rattle.uc_syntax.specs.declared.statement.Target.{Target}
use Rattle.uc_syntax.specs.declared.statement.Stmt.{Stmt}
use Rattle.uc_syntax.specs.declared.statement.Stmt.TheVariants.{Assign}
use Rattle.std.specs.List.{flat_map}
use Rattle.std.proofs.lemmas.Grind.{flat_map-append}
use Rattle.uc_flat_order.specs.declared.wanted.Wanted.{Wanted}
use Rattle.uc_flat_order.specs.declared.wanted.Wanted.TheVariants.{Only, NoneOf}
use Rattle.uc_flat_order.specs.Slices.{with_name, each_once, wants, if_wanted, assigned, with_bodies, in_front, up_to_last, names_written, kept, each_wanted, slices}

past : {A : Type 0} (xs : List A) (k : ℕ) → length xs ≤ k → drop k xs ≡ []
past [] zero l = refl
past [] (suc k) l = refl
past (x ∷ xs) zero l = absurd (omega (arith, l))
past (x ∷ xs) (suc k) l = past xs k (omega (arith, l))

dropped : {A : Type 0} (xs : List A) (k : ℕ) (x : A) → k < length xs → x ≡ get_or xs k x → drop k xs ≡ x ∷ drop (k + 1) xs
dropped xs k x l h = drop-cons xs k x l ∙ ap (λ y. y ∷ drop (suc k) xs) (sym h) ∙ ap (λ n. x ∷ drop n xs) (more k)
  where
    more : (n : ℕ) → suc n ≡ n + 1
    more n = omega arith

-- ---- names

pub record OnceUpTo (xs : List ℕ) (k : ℕ) (now : List ℕ) : Type 0 where
  pub is : each_once now (drop k xs) ≡ each_once [] xs

pub once_begin : (xs : List ℕ) → OnceUpTo xs 0 []
once_begin xs = record { is = refl }

pub once_more : (xs : List ℕ) (k : ℕ) (now after : List ℕ) → OnceUpTo xs k now → k < length xs → after ≡ with_name now (get_or xs k 0) → OnceUpTo xs (k + 1) after
unfolding each_once
once_more xs k now after so_far l e = record { is = ap (λ ns. each_once ns (drop (k + 1) xs)) e ∙ ap (λ n. each_once (with_name now (get_or xs k 0)) (drop n xs)) (sym (after_it k)) ∙ sym (ap (each_once now) (drop-cons xs k 0 l)) ∙ so_far.is }
  where
    after_it : (n : ℕ) → suc n ≡ n + 1
    after_it n = omega arith

pub once_end : (xs : List ℕ) (k : ℕ) (now : List ℕ) → OnceUpTo xs k now → length xs ≤ k → now ≡ each_once [] xs
unfolding each_once
once_end xs k now so_far l = ap (each_once now) (sym (past xs k l)) ∙ so_far.is

-- ---- assignments

pub record AssignedUpTo (w : Wanted) (place : Place) (ts : List Target) (es : List Expr) (k : ℕ) (now : List Stmt) : Type 0 where
  pub is : now ++ assigned w place (drop k ts) (drop k es) ≡ assigned w place ts es

pub assigned_begin : (w : Wanted) (place : Place) (ts : List Target) (es : List Expr) → AssignedUpTo w place ts es 0 []
assigned_begin w place ts es = record { is = refl }

pub assigned_more : (w : Wanted) (place : Place) (ts : List Target) (es : List Expr) (k : ℕ) (t : Target) (e : Expr) (now after : List Stmt) → AssignedUpTo w place ts es k now → k < length ts → k < length es → t ≡ get_or ts k t → e ≡ get_or es k e
    → after ≡ now ++ if_wanted (wants w (Some t.name)) (Assign place (t ∷ []) (e ∷ [])) → AssignedUpTo w place ts es (k + 1) after
unfolding assigned
assigned_more w place ts es k t e now after so_far lt le tt' ee grows = record {
  is = ap (λ xs. xs ++ assigned w place (drop (k + 1) ts) (drop (k + 1) es)) grows
      ∙ append_assoc now (if_wanted (wants w (Some t.name)) (Assign place (t ∷ []) (e ∷ []))) (assigned w place (drop (k + 1) ts) (drop (k + 1) es))
      ∙ sym (ap (λ xs. now ++ assigned w place xs (drop k es)) (dropped ts k t lt tt') ∙ ap (λ xs. now ++ assigned w place (t ∷ drop (k + 1) ts) xs) (dropped es k e le ee))
      ∙ so_far.is;
}

none_left : (w : Wanted) (place : Place) (ts : List Target) → assigned w place ts [] ≡ []
unfolding assigned
none_left w place [] = refl
none_left w place (t ∷ ts) = refl

pub assigned_end : (w : Wanted) (place : Place) (ts : List Target) (es : List Expr) (k : ℕ) (now : List Stmt) → AssignedUpTo w place ts es k now → length ts ≤ k → now ≡ assigned w place ts es
unfolding assigned
assigned_end w place ts es k now so_far l = sym (append_nil now) ∙ ap (λ xs. now ++ assigned w place xs (drop k es)) (sym (past ts k l)) ∙ so_far.is

pub sources_end : (w : Wanted) (place : Place) (ts : List Target) (es : List Expr) (k : ℕ) (now : List Stmt) → AssignedUpTo w place ts es k now → length es ≤ k → now ≡ assigned w place ts es
sources_end w place ts es k now so_far l = sym (append_nil now) ∙ ap (λ xs. now ++ xs) (sym (none_left w place (drop k ts))) ∙ ap (λ xs. now ++ assigned w place (drop k ts) xs) (sym (past es k l)) ∙ so_far.is

pub unwanted : (b : Bool) (s : Stmt) → b ≡ false → [] ≡ if_wanted b s
unwanted b s h = sym (ap (λ c. if_wanted c s) h)

pub is_wanted : (b : Bool) (s : Stmt) → b ≡ true → s ∷ [] ≡ if_wanted b s
is_wanted b s h = sym (ap (λ c. if_wanted c s) h)

-- ---- bodies

-- the last of them counts where it is not empty
pub last_empty : (front : List (List Stmt)) (b : List Stmt) → b ≡ [] → up_to_last (front ++ b ∷ []) ≡ up_to_last front
unfolding up_to_last
last_empty [] b h = ap (λ c. in_front c []) h
last_empty (c ∷ front) b h = ap (in_front c) (last_empty front b h)

pub last_full : (front : List (List Stmt)) (b : List Stmt) → b ≢ [] → up_to_last (front ++ b ∷ []) ≡ front ++ b ∷ []
unfolding up_to_last
last_full [] [] h = absurd (h refl)
last_full [] (s ∷ ss) h = refl
last_full (c ∷ front) b h = ap (in_front c) (last_full front b h) ∙ behind c front
  where
    behind : (d : List Stmt) (xs : List (List Stmt)) → in_front d (xs ++ b ∷ []) ≡ d ∷ (xs ++ b ∷ [])
    behind [] [] = refl
    behind [] (x ∷ xs) = refl
    behind (s ∷ ss) xs = refl

module _ (arms : List (Arm Stmt)) (bodies : List (List Stmt)) where
  pub record BodiesUpTo (rest : List (List Stmt)) (now : List (Arm Stmt)) : Type 0 where
    pub is : now ++ with_bodies (drop (length now) arms) rest ≡ with_bodies arms bodies

  pub bodies_more : (a : Arm Stmt) (b : List Stmt) (rest : List (List Stmt)) (now after : List (Arm Stmt)) → BodiesUpTo (b ∷ rest) now → slice_get arms (length now) ≡ Some a → after ≡ now ++ record { condition = a.condition; body = b } ∷ [] → BodiesUpTo rest after
  unfolding with_bodies
  bodies_more a b rest now after so_far at e = record {
    is = ap (λ xs. xs ++ with_bodies (drop (length xs) arms) rest) e
        ∙ append_assoc now (record { condition = a.condition; body = b } ∷ []) (with_bodies (drop (length (now ++ record { condition = a.condition; body = b } ∷ [])) arms) rest)
        ∙ ap (λ n. now ++ record { condition = a.condition; body = b } ∷ with_bodies (drop n arms) rest) (longer now (record { condition = a.condition; body = b }))
        ∙ ap (λ xs. now ++ with_bodies xs (b ∷ rest)) (sym (there arms (length now) at ∙ ap (λ n. a ∷ drop n arms) (after_it (length now)))) ∙ so_far.is;
  }
    where
      longer : (xs : List (Arm Stmt)) (x : Arm Stmt) → length (xs ++ x ∷ []) ≡ length xs + 1
      longer [] x = refl
      longer (y ∷ xs) x = let e : length (xs ++ x ∷ []) ≡ length xs + 1 = longer xs x in omega (arith, e)

      there : (xs : List (Arm Stmt)) (k : ℕ) → slice_get xs k ≡ Some a → drop k xs ≡ a ∷ drop (suc k) xs
      there [] k h = absurd (cc)
      there (x ∷ xs) zero h = let e : x ≡ a = cc in ap (λ y. y ∷ xs) e
      there (x ∷ xs) (suc k) h = there xs k h

      after_it : (n : ℕ) → suc n ≡ n + 1
      after_it n = omega arith

  pub bodies_begin : BodiesUpTo bodies []
  bodies_begin = record { is = refl }

  pub bodies_end : (rest : List (List Stmt)) (now : List (Arm Stmt)) → BodiesUpTo rest now → rest ≡ [] → now ≡ with_bodies arms bodies
  unfolding with_bodies
  bodies_end rest now so_far gone = sym (append_nil now) ∙ ap (λ xs. now ++ xs) (sym (no_bodies (drop (length now) arms))) ∙ ap (λ bs. now ++ with_bodies (drop (length now) arms) bs) (sym gone) ∙ so_far.is
    where
      no_bodies : (xs : List (Arm Stmt)) → with_bodies xs [] ≡ []
      no_bodies [] = refl
      no_bodies (x ∷ xs) = refl

  pub bodies_done : (rest : List (List Stmt)) (now : List (Arm Stmt)) (n : ℕ) → BodiesUpTo rest now → n ≡ length rest → n ≡ 0 → now ≡ with_bodies arms bodies
  bodies_done rest now n so_far l z = bodies_end rest now so_far (empty rest (sym l ∙ z))
    where
      empty : (bs : List (List Stmt)) → length bs ≡ 0 → bs ≡ []
      empty [] h = refl
      empty (b ∷ bs) h = absurd (omega (arith, h))

  pub arms_end : (rest : List (List Stmt)) (now : List (Arm Stmt)) → BodiesUpTo rest now → slice_get arms (length now) ≡ None → now ≡ with_bodies arms bodies
  unfolding with_bodies
  arms_end rest now so_far h = sym (append_nil now) ∙ ap (λ xs. now ++ xs) (sym (no_arms rest)) ∙ ap (λ xs. now ++ with_bodies xs rest) (sym (gone arms (length now) h)) ∙ so_far.is
    where
      no_arms : (bs : List (List Stmt)) → with_bodies {A = Stmt} [] bs ≡ []
      no_arms [] = refl
      no_arms (b ∷ bs) = refl

      gone : (xs : List (Arm Stmt)) (k : ℕ) → slice_get xs k ≡ None → drop k xs ≡ []
      gone [] zero e = refl
      gone [] (suc k) e = refl
      gone (x ∷ xs) zero e = absurd (cc)
      gone (x ∷ xs) (suc k) e = gone xs k e

pub none_last : (all bodies now : List (List Stmt)) → all ≡ [] → now ≡ [] → up_to_last all ≡ up_to_last bodies → now ≡ up_to_last bodies
unfolding up_to_last
none_last all bodies now h g e = g ∙ ap up_to_last (sym h) ∙ e

-- ---- slices

pub sliced_end : (s : Stmt) (names : List ℕ) (first last all : List Stmt) → first ≡ flat_map (λ x. kept (Only x) s) names → last ≡ kept (NoneOf names) s → all ≡ first ++ last → all ≡ flat_map (λ w. kept w s) (each_wanted names)
sliced_end s names first last all f l e =
    e ∙ ap (λ xs. xs ++ last) f ∙ ap (λ xs. flat_map (λ x. kept (Only x) s) names ++ xs) (l ∙ sym (append_nil (kept (NoneOf names) s)))
    ∙ sym (flat_map-append (λ w. kept w s) (map Only names) (NoneOf names ∷ []) ∙ ap (λ xs. xs ++ (kept (NoneOf names) s ++ [])) (each_name names))
  where
    each_name : (xs : List ℕ) → flat_map (λ w. kept w s) (map Only xs) ≡ flat_map (λ x. kept (Only x) s) xs
    each_name [] = refl
    each_name (x ∷ xs) = ap (λ ys. kept (Only x) s ++ ys) (each_name xs)

pub slices_end : (s : Stmt) (written slice names : List ℕ) (all : List Stmt) → written ≡ names_written s → slice ≡ written → names ≡ each_once [] slice → all ≡ flat_map (λ w. kept w s) (each_wanted names) → all ≡ slices s
slices_end s written slice names all w e n a = a ∙ ap (λ xs. flat_map (λ v. kept v s) (each_wanted xs)) (n ∙ ap (each_once []) (e ∙ w))
