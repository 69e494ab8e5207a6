-- Code in order, as far as a walk has come.
use Rattle.std.proofs.Common.{◌≡◌, ℕ, suc, ◌+◌, ◌<◌, ◌≤◌, Bool as Truth, true, false, List, [], ◌∷◌, ◌++◌, length, map, drop, get_or, refl, sym, ap, ◌∙◌, subst, Option, Some, None, arith, append_assoc, drop-cons, add-one, length-append}
use Rattle.std.specs.Prelude.{if◌then◌else◌, Result, Ok, Err, IfOk, OnOk, slice_set}
use Rattle.std.specs.Option.{option_map, option_and_then}
use Rattle.std.proofs.lemmas.List.{drop_all}
use Rattle.uc_syntax.specs.declared.place.Identifier.{Identifier}
use Rattle.uc_syntax.specs.declared.statement.Arm.{Arm}
use Rattle.uc_syntax.specs.declared.statement.Stmt.{Stmt}
use Rattle.uc_values.specs.declared.ty.Ty.{Ty}
use Rattle.uc_flat.specs.declared.expression.Expression.{Expression}
use Rattle.uc_flat.specs.declared.statement.Statement.TheVariants.{Havoc as HavocCell}
use Rattle.uc_flat_expressions.specs.declared.typed.Meant.{Meant}
use Rattle.uc_flat_expressions.specs.declared.typed.Meant.TheVariants.{Cell}
use Rattle.uc_flat_expressions.specs.declared.typed.FlatError.{FlatError}
use Rattle.uc_flat_expressions.specs.declared.typed.FlatError.TheVariants.{NoMemory, NotBuilt}
use Rattle.uc_flat_expressions.specs.declared.typed.TypedExpression.{TypedExpression}
use Rattle.uc_flat_expressions.specs.Answers.{IsAnswer}
use Rattle.uc_flat_expressions.specs.Types.{is_boolean}
use Rattle.uc_flat_expressions.specs.Expressions.{flat_of}
use Rattle.uc_flat_code.specs.Code.{each_arm}
use Rattle.uc_flat_code.specs.declared.made.MadeCode.{MadeCode}
use Rattle.uc_flat_code.specs.declared.made.MadeArms.{MadeArms}
use Rattle.uc_flat_code.specs.Zero.{zero_of}
use Rattle.uc_flat_code.specs.Init.{Made, Making, alone, then_made, in_order, ended, in_block, declared, arm_by, arm_with, arm_made, then_arms, arms_made}
use Rattle.uc_flat_code.specs.FlatInitWalk.{with_names, IsWalked, undone}
use Rattle.uc_flat_code.specs.declared.locals.Shadowed.{Shadowed}
use Rattle.uc_flat_code.proofs.Names.{undone_none}

-- what was made so far, before what is still to be made
abbrev pub behind : MadeCode → Option Made → Option Made
behind all o = option_map (then_made (with_names all [])) o

abbrev pub nothing_made : MadeCode
nothing_made = record { code = []; further = [] }

abbrev pub appended : MadeCode → MadeCode → MadeCode
appended a b = record { code = a.code ++ b.code; further = a.further ++ b.further }

pub behind_nothing : (o : Option Made) → o ≡ behind nothing_made o
behind_nothing None = refl
behind_nothing (Some a) = refl

nil : {A : Type 0} (xs : List A) → xs ++ [] ≡ xs
nil [] = refl
nil (x ∷ xs) = ap (λ ys. x ∷ ys) (nil xs)

pub behind_all : (all : MadeCode) (names : List Meant) → behind all (Some (alone names [])) ≡ Some (with_names all names)
behind_all all names =
    ap (λ c. Some (record { code = c; further = all.further ++ []; names = names })) (nil all.code)
    ∙ ap (λ f. Some (record { code = all.code; further = f; names = names })) (nil all.further)

behind_more : (all more : MadeCode) (names : List Meant) (o : Option Made) → behind all (option_map (then_made (with_names more names)) o) ≡ behind (appended all more) o
behind_more all more names None = refl
behind_more all more names (Some a) =
    ap (λ c. Some (record { code = c; further = all.further ++ (more.further ++ a.further); names = a.names })) (sym (append_assoc all.code more.code a.code))
    ∙ ap (λ f. Some (record { code = (all.code ++ more.code) ++ a.code; further = f; names = a.names })) (sym (append_assoc all.further more.further a.further))

count : (first : ℕ) (a b : List Expression) → (first + length a) + length b ≡ first + length (a ++ b)
count first a b = omega (arith, length-append a b)

from_next : {A : Type 0} (xs : List A) (n : ℕ) (x : A) → n < length xs → x ≡ get_or xs n x → drop n xs ≡ x ∷ drop (n + 1) xs
from_next xs n x l is = drop-cons xs n x l ∙ ap (λ y. y ∷ drop (suc n) xs) (sym is) ∙ ap (λ m. x ∷ drop m xs) (sym (add-one n))

-- ---- statements

abbrev pub left : (Stmt → Making) → List Stmt → ℕ → List Meant → ℕ → Option Made
left f code k names n = in_order (map f (drop k code)) names n

left_is : (f : Stmt → Making) (code : List Stmt) (k : ℕ) (s : Stmt) (names : List Meant) (n : ℕ) → k < length code → s ≡ get_or code k s
    → left f code k names n ≡ option_and_then (λ a. option_map (then_made a) (left f code (k + 1) a.names (n + length a.further))) (f s names n)
unfolding in_order
left_is f code k s names n l is = ap (λ xs. in_order (map f xs) names n) (from_next code k s l is)

-- the number of the cell that is next
pub number_is : {E : Type 0} (r : Result ℕ E) (k first count : ℕ) (xs : List Expression) → r ≡ Ok k → IfOk r (λ j. j ≡ first + count) → count ≡ length xs → k ≡ first + length xs
number_is r k first count xs is h c = subst (λ x. IfOk x (λ j. j ≡ first + count)) is h ∙ ap (λ m. first + m) c

pub walk_step : (f : Stmt → Making) (block : List Stmt) (k first n : ℕ) (s : Stmt) (names after : List Meant) (all held more whole : MadeCode) (total : Option Made) (r : Result MadeCode FlatError) → k < length block → s ≡ get_or block k s
    → total ≡ behind all (left f block k names (first + length all.further)) → n ≡ first + length all.further → IsWalked (f s names n) after r → r ≡ Ok more → held ≡ all → whole ≡ appended held more
    → total ≡ behind whole (left f block (k + 1) after (first + length whole.further))
walk_step f block k first n s names after all held more whole total r l is inv e h m a w =
    let own : f s names (first + length all.further) ≡ Some (with_names more after) = subst (λ j. f s names j ≡ Some (with_names more after)) e (subst (IsWalked (f s names n) after) m h) in
    inv
    ∙ ap (behind all) (left_is f block k s names (first + length all.further) l is ∙ ap (option_and_then (λ b. option_map (then_made b) (left f block (k + 1) b.names ((first + length all.further) + length b.further)))) own)
    ∙ behind_more all more after (left f block (k + 1) after ((first + length all.further) + length more.further))
    ∙ ap (λ j. behind (appended all more) (left f block (k + 1) after j)) (count first all.further more.further)
    ∙ ap (λ z. behind z (left f block (k + 1) after (first + length z.further))) (ap (λ y. appended y more) (sym a) ∙ sym w)

pub walk_err : (f : Stmt → Making) (block : List Stmt) (k first n : ℕ) (s : Stmt) (names after end : List Meant) (all : MadeCode) (total : Option Made) (r : Result MadeCode FlatError) (err : FlatError) → k < length block → s ≡ get_or block k s
    → total ≡ behind all (left f block k names (first + length all.further)) → n ≡ first + length all.further → IsWalked (f s names n) after r → r ≡ Err err → IsWalked total end (Err err)
walk_err f block k first n s names after end all total r NoMemory l is inv e h x = tt
walk_err f block k first n s names after end all total r NotBuilt l is inv e h x =
    let own : f s names (first + length all.further) ≡ None = subst (λ j. f s names j ≡ None) e (subst (IsWalked (f s names n) after) x h) in
    inv ∙ ap (behind all) (left_is f block k s names (first + length all.further) l is ∙ ap (option_and_then (λ b. option_map (then_made b) (left f block (k + 1) b.names ((first + length all.further) + length b.further)))) own)

pub walk_end : (f : Stmt → Making) (code : List Stmt) (k n : ℕ) (names : List Meant) (all : MadeCode) (total : Option Made) → length code ≤ k → total ≡ behind all (left f code k names n) → total ≡ Some (with_names all names)
unfolding in_order
walk_end f code k n names all total l inv = inv ∙ ap (λ xs. behind all (in_order (map f xs) names n)) (drop_all k code l) ∙ behind_all all names

-- ---- locals

pub declare_step : (ty : Ty) (ids : List Identifier) (k cell next : ℕ) (d : Identifier) (names after : List Meant) (all whole : MadeCode) (total : Option Made) → k < length ids → total ≡ behind all (declared ty (drop k ids) names cell)
    → after ≡ slice_set names (get_or ids k d).name (Cell cell None ty) → whole ≡ record { code = all.code ++ HavocCell cell true ∷ []; further = all.further ++ zero_of ty ∷ [] } → next ≡ cell + 1 → total ≡ behind whole (declared ty (drop (k + 1) ids) after next)
unfolding declared
declare_step ty ids k cell next d names after all whole total l inv a w m =
    let x = get_or ids k d in
    inv
    ∙ ap (λ xs. behind all (declared ty xs names cell)) (drop-cons ids k d l ∙ ap (λ j. x ∷ drop j ids) (sym (add-one k)))
    ∙ behind_more all (record { code = HavocCell cell true ∷ []; further = zero_of ty ∷ [] }) names (declared ty (drop (k + 1) ids) (slice_set names x.name (Cell cell None ty)) (cell + 1))
    ∙ ap (λ z. behind z (declared ty (drop (k + 1) ids) (slice_set names x.name (Cell cell None ty)) (cell + 1))) (sym w)
    ∙ ap (λ ns. behind whole (declared ty (drop (k + 1) ids) ns (cell + 1))) (sym a)
    ∙ ap (λ j. behind whole (declared ty (drop (k + 1) ids) after j)) (sym m)

pub declare_end : (ty : Ty) (ids : List Identifier) (k cell : ℕ) (names : List Meant) (all : MadeCode) (total : Option Made) → length ids ≤ k → total ≡ behind all (declared ty (drop k ids) names cell) → total ≡ Some (with_names all names)
unfolding declared
declare_end ty ids k cell names all total l inv = inv ∙ ap (λ xs. behind all (declared ty xs names cell)) (drop_all k ids l) ∙ behind_all all names

-- ---- arms

abbrev pub behind_arms : MadeArms → Option MadeArms → Option MadeArms
behind_arms all o = option_map (then_arms all) o

abbrev pub no_arms : MadeArms
no_arms = record { arms = []; further = [] }

pub behind_no_arms : (o : Option MadeArms) → o ≡ behind_arms no_arms o
behind_no_arms None = refl
behind_no_arms (Some a) = refl

behind_more_arms : (all more : MadeArms) (o : Option MadeArms) → behind_arms all (behind_arms more o) ≡ behind_arms (then_arms all more) o
behind_more_arms all more None = refl
behind_more_arms all more (Some a) =
    ap (λ c. Some (record { arms = c; further = all.further ++ (more.further ++ a.further) })) (sym (append_assoc all.arms more.arms a.arms))
    ∙ ap (λ f. Some (record { arms = (all.arms ++ more.arms) ++ a.arms; further = f })) (sym (append_assoc all.further more.further a.further))

abbrev pub left_arms : (Stmt → Making) → List (Arm Stmt) → ℕ → List Meant → ℕ → Option MadeArms
left_arms f arms k names n = arms_made names n (map (each_arm f) (drop k arms))

left_arms_is : (f : Stmt → Making) (arms : List (Arm Stmt)) (k : ℕ) (a : Arm Stmt) (names : List Meant) (n : ℕ) → k < length arms → a ≡ get_or arms k a
    → left_arms f arms k names n ≡ option_and_then (λ b. option_map (then_arms b) (left_arms f arms (k + 1) names (n + length b.further))) (arm_made names n (each_arm f a))
unfolding arms_made
left_arms_is f arms k a names n l is = ap (λ xs. arms_made names n (map (each_arm f) xs)) (from_next arms k a l is)

pub arms_step : (f : Stmt → Making) (arms : List (Arm Stmt)) (k first n : ℕ) (a : Arm Stmt) (names now : List Meant) (all held more whole : MadeArms) (total : Option MadeArms) (r : Result MadeArms FlatError) → k < length arms → a ≡ get_or arms k a
    → total ≡ behind_arms all (left_arms f arms k names (first + length all.further)) → n ≡ first + length all.further → now ≡ names → IsAnswer (arm_made now n (each_arm f a)) r → r ≡ Ok more → held ≡ all → whole ≡ then_arms held more
    → total ≡ behind_arms whole (left_arms f arms (k + 1) names (first + length whole.further))
arms_step f arms k first n a names now all held more whole total r l is inv e same h m b w =
    let own : arm_made names (first + length all.further) (each_arm f a) ≡ Some more = subst (λ ns. arm_made ns (first + length all.further) (each_arm f a) ≡ Some more) same (subst (λ j. arm_made now j (each_arm f a) ≡ Some more) e (subst (IsAnswer (arm_made now n (each_arm f a))) m h)) in
    inv
    ∙ ap (behind_arms all) (left_arms_is f arms k a names (first + length all.further) l is ∙ ap (option_and_then (λ c. option_map (then_arms c) (left_arms f arms (k + 1) names ((first + length all.further) + length c.further)))) own)
    ∙ behind_more_arms all more (left_arms f arms (k + 1) names ((first + length all.further) + length more.further))
    ∙ ap (λ j. behind_arms (then_arms all more) (left_arms f arms (k + 1) names j)) (count first all.further more.further)
    ∙ ap (λ z. behind_arms z (left_arms f arms (k + 1) names (first + length z.further))) (ap (λ y. then_arms y more) (sym b) ∙ sym w)

pub arms_err : (f : Stmt → Making) (arms : List (Arm Stmt)) (k first n : ℕ) (a : Arm Stmt) (names now : List Meant) (all : MadeArms) (total : Option MadeArms) (r : Result MadeArms FlatError) (err : FlatError) → k < length arms → a ≡ get_or arms k a
    → total ≡ behind_arms all (left_arms f arms k names (first + length all.further)) → n ≡ first + length all.further → now ≡ names → IsAnswer (arm_made now n (each_arm f a)) r → r ≡ Err err → IsAnswer {A = MadeArms} total (Err err)
arms_err f arms k first n a names now all total r NoMemory l is inv e same h x = tt
arms_err f arms k first n a names now all total r NotBuilt l is inv e same h x =
    let own : arm_made names (first + length all.further) (each_arm f a) ≡ None = subst (λ ns. arm_made ns (first + length all.further) (each_arm f a) ≡ None) same (subst (λ j. arm_made now j (each_arm f a) ≡ None) e (subst (IsAnswer (arm_made now n (each_arm f a))) x h)) in
    inv ∙ ap (behind_arms all) (left_arms_is f arms k a names (first + length all.further) l is ∙ ap (option_and_then (λ c. option_map (then_arms c) (left_arms f arms (k + 1) names ((first + length all.further) + length c.further)))) own)

pub arms_end : (f : Stmt → Making) (arms : List (Arm Stmt)) (k n : ℕ) (names : List Meant) (all : MadeArms) (total : Option MadeArms) → length arms ≤ k → total ≡ behind_arms all (left_arms f arms k names n) → total ≡ Some all
unfolding arms_made
arms_end f arms k n names all total l inv =
    inv ∙ ap (λ xs. behind_arms all (arms_made names n (map (each_arm f) xs))) (drop_all k arms l)
    ∙ ap (λ c. Some (record { arms = c; further = all.further ++ [] })) (nil all.arms)
    ∙ ap (λ f. Some (record { arms = all.arms; further = f })) (nil all.further)

abbrev arm_own : List Meant → ℕ → List Making → Option TypedExpression → Option MadeArms
arm_own names n body o = option_and_then (arm_with names n body) o

-- an arm whose block is not made
pub arm_err : (f : Stmt → Making) (a : Arm Stmt) (names after : List Meant) (n : ℕ) (t u : TypedExpression) (b : Truth) (r : Result MadeCode FlatError) (err : FlatError) → flat_of names a.condition ≡ Some t → b ≡ is_boolean t.ty
    → (if b then Some t else None) ≡ Some u → IsWalked (in_block (map f a.body) names n) after r → r ≡ Err err → IsAnswer {A = MadeArms} (arm_made names n (each_arm f a)) (Err err)
arm_err f a names after n t u b r NoMemory h i j k x = tt
arm_err f a names after n t u b r NotBuilt h i j k x = ap (arm_own names n (map f a.body)) h ∙ by_test b i j
  where
    by_test : (c : Truth) → c ≡ is_boolean t.ty → (if c then Some t else None) ≡ Some u → arm_with names n (map f a.body) t ≡ None
    by_test true p q = ap (λ d. if d then option_map (arm_by t.expression) (in_block (map f a.body) names n) else None) (sym p) ∙ ap (option_map (arm_by t.expression)) (subst (IsWalked (in_block (map f a.body) names n) after) x k)
    by_test false p q = absurd (cc)

-- ---- blocks

-- a block whose names got back what they stood for
pub block_kept : (names mid after : List Meant) (made : MadeCode) (r : Result MadeCode FlatError) (none put left : List Shadowed) → r ≡ Ok made → OnOk r (undone put mid ≡ undone none names) → none ≡ [] → left ≡ put → after ≡ undone left mid → after ≡ names
block_kept names mid after made r none put left is h n l a =
    a ∙ ap (λ ss. undone ss mid) l ∙ subst (λ x. OnOk x (undone put mid ≡ undone none names)) is h ∙ ap (λ ss. undone ss names) n ∙ undone_none names

pub block_made : (o : Option Made) (names mid after : List Meant) (made : MadeCode) (r : Result MadeCode FlatError) (none put left : List Shadowed) → IsWalked o mid r → r ≡ Ok made → OnOk r (undone put mid ≡ undone none names) → none ≡ [] → left ≡ put → after ≡ undone left mid
    → option_map (ended names) o ≡ Some (with_names made after)
block_made o names mid after made r none put left w is h n l a =
    ap (option_map (ended names)) (subst (IsWalked o mid) is w) ∙ ap (λ ns. Some (with_names made ns)) (sym (block_kept names mid after made r none put left is h n l a))
