-- What each form of statement writes, in one list with what was written before.
use Rattle.std.proofs.Common.{◌≡◌, ℕ, zero, suc, ◌+◌, ◌<◌, ◌≤◌, Bool, List, [], ◌∷◌, ◌++◌, length, take, drop, get_or, map, refl, sym, ap, ◌∙◌, Option, Some, None, arith}
use Rattle.std.specs.Prelude.{slice_get, Result, Ok, Err, IfOk}
use Rattle.std.specs.Option.{option_map, option_and_then}
use Rattle.std.specs.List.{flat_map}
use Rattle.std.proofs.lemmas.List.{drop_all}
use Rattle.uc_lexer.specs.declared.place.Place.{Place}
use Rattle.uc_syntax.specs.declared.place.Identifier.{Identifier}
use Rattle.uc_syntax.specs.declared.expression.Expr.{Expr}
use Rattle.uc_syntax.specs.declared.type_expression.TypeExpr.{TypeExpr}
use Rattle.uc_syntax.specs.declared.statement.Arm.{Arm}
use Rattle.uc_syntax.specs.declared.statement.RangeBound.{RangeBound}
use Rattle.uc_syntax.specs.declared.statement.Target.{Target}
use Rattle.uc_syntax.specs.declared.statement.Stmt.{Stmt}
use Rattle.uc_syntax.specs.declared.statement.Stmt.TheOpen.{Stmt-F}
use Rattle.uc_syntax.specs.declared.statement.Stmt.TheOpen.Stmt-F.{Local as LocalForm, Skip as SkipForm, Block as BlockForm, Assume as AssumeForm, Havoc as HavocForm, Assign as AssignForm, If as IfForm, Case as CaseForm, Assert as AssertForm, For as ForForm, Call as CallForm, Next as NextForm}
use Rattle.uc_syntax.specs.declared.statement.Stmt.TheViews.{roll-Stmt, Block, If, Case, For}
use Rattle.uc_syntax.specs.declared.statement.Stmt.TheVariants.{Local, Skip, Assert, Assume, Havoc, Assign, Call, Next}
use Rattle.uc_syntax.specs.declared.statement.Stmt.TheFolds.{map-Stmt, fold-roll-Stmt}
use Rattle.uc_meaning.specs.Code.{else_block}
use Rattle.uc_flat_expressions.specs.declared.typed.Meant.{Meant}
use Rattle.uc_flat_code.specs.Code.{each_arm}
use Rattle.uc_flat_code.specs.declared.once.Part.{Part}
use Rattle.uc_flat_code.specs.Once.{read_by, Writer, each_writes, either_writes, arms_write, reads_first, writer_of, target_writer, conditions_read, choice_writer, writer_form, writer}
use Rattle.uc_flat_code.specs.FlatOnceWalk.{after_one, each_after, arms_only, pair, beside}

regrouped : {A : Type 0} (xs ys zs : List A) → (xs ++ ys) ++ zs ≡ xs ++ (ys ++ zs)
regrouped [] ys zs = refl
regrouped (x ∷ xs) ys zs = ap (λ us. x ∷ us) (regrouped xs ys zs)

with_none : {A : Type 0} (xs : List A) → xs ++ [] ≡ xs
with_none [] = refl
with_none (x ∷ xs) = ap (λ us. x ∷ us) (with_none xs)

-- one after another, in one list
pub each_told : (ws : List Writer) (before : List Part) → each_after ws before ≡ after_one (each_writes ws) before
unfolding each_after each_writes
each_told [] before = ap Some (sym (with_none before))
each_told (w ∷ ws) before = onward (λ more. each_told ws more) (w before)
  where
    moved : (xs : List Part) (o : Option (List Part)) → option_map (λ ys. (before ++ xs) ++ ys) o ≡ option_map (λ ys. before ++ ys) (option_map (λ ys. xs ++ ys) o)
    moved xs None = refl
    moved xs (Some ys) = ap Some (regrouped before xs ys)

    onward : ((more : List Part) → each_after ws more ≡ after_one (each_writes ws) more) → (o : Option (List Part))
        → option_and_then (each_after ws) (option_map (λ xs. before ++ xs) o) ≡ option_map (λ xs. before ++ xs) (option_and_then (λ xs. option_map (λ ys. xs ++ ys) (each_writes ws (before ++ xs))) o)
    onward rest None = refl
    onward rest (Some xs) = rest (before ++ xs) ∙ moved xs (each_writes ws (before ++ xs))

-- what is read first stands behind what was there
read_first : (reads : List Part) (w : Writer) (before : List Part) → after_one w (before ++ reads) ≡ after_one (reads_first reads w) before
read_first reads w before = onward (w (before ++ reads))
  where
    onward : (o : Option (List Part)) → option_map (λ xs. (before ++ reads) ++ xs) o ≡ option_map (λ xs. before ++ xs) (option_map (λ xs. reads ++ xs) o)
    onward None = refl
    onward (Some xs) = ap Some (regrouped before reads xs)

if_ok : {E : Type 0} (r : Result (Option (List Part)) E) (p q : Option (List Part)) → p ≡ q → IfOk r (λ o. o ≡ p) → IfOk r (λ o. o ≡ q)
if_ok (Ok o) p q e h = h ∙ e
if_ok (Err x) p q e h = tt

pub alone_told : {E : Type 0} (names : List Meant) (first : ℕ) (s : Stmt) (before : List Part) (r : Result (Option (List Part)) E) → before ≡ [] → IfOk r (λ o. o ≡ after_one (writer names first s) before) → IfOk r (λ o. o ≡ writer names first s [])
alone_told names first s before r e h = if_ok r (after_one (writer names first s) before) (writer names first s []) (ap (after_one (writer names first s)) e ∙ kept (writer names first s [])) h
  where
    kept : (p : Option (List Part)) → option_map (λ xs. [] ++ xs) p ≡ p
    kept None = refl
    kept (Some xs) = refl

-- ---- statements

nothing_told : (names : List Meant) (first : ℕ) (s : Stmt) (before : List Part) → writer names first s ≡ (λ b. Some []) → Some before ≡ after_one (writer names first s) before
nothing_told names first s before h = ap Some (sym (with_none before)) ∙ sym (ap (λ w. after_one w before) h)

pub block_told : {E : Type 0} (names : List Meant) (first : ℕ) (s : Stmt) (place : Place) (block slice : List Stmt) (before : List Part) (r : Result (Option (List Part)) E) → s ≡ Block place block → slice ≡ block → IfOk r (λ o. o ≡ each_after (map (writer names first) slice) before) → IfOk r (λ o. o ≡ after_one (writer names first s) before)
unfolding writer roll-Stmt denote.Hole.Carrier.roll
block_told names first s place block slice before r is e h =
    if_ok r (each_after (map (writer names first) slice) before) (after_one (writer names first s) before)
    (ap (λ b. each_after (map (writer names first) b) before) e ∙ each_told (map (writer names first) block) before ∙ sym (ap (λ w. after_one w before) (ap (writer names first) is ∙ fold-roll-Stmt Writer (writer_form names first) (BlockForm place block)))) h

pub havoc_told : {E : Type 0} (names : List Meant) (first : ℕ) (s : Stmt) (place : Place) (x : Identifier) (primed : Bool) (before : List Part) (fields : List ℕ) (r : Result (Option (List Part)) E) → s ≡ Havoc place x primed → fields ≡ [] → IfOk r (λ o. o ≡ after_one (writer_of (slice_get names x.name) fields) before)
    → IfOk r (λ o. o ≡ after_one (writer names first s) before)
unfolding writer roll-Stmt denote.Hole.Carrier.roll
havoc_told names first s place x primed before fields r is e h =
    if_ok r (after_one (writer_of (slice_get names x.name) fields) before) (after_one (writer names first s) before)
    (ap (λ fs. after_one (writer_of (slice_get names x.name) fs) before) e ∙ sym (ap (λ w. after_one w before) (ap (writer names first) is ∙ fold-roll-Stmt Writer (writer_form names first) (HavocForm place x primed)))) h

pub assign_told : {E : Type 0} (names : List Meant) (first : ℕ) (s : Stmt) (place : Place) (targets slice : List Target) (sources others : List Expr) (before read : List Part) (r : Result (Option (List Part)) E) → s ≡ Assign place targets sources → slice ≡ targets → others ≡ sources
    → read ≡ before ++ flat_map (read_by names first) others → IfOk r (λ o. o ≡ each_after (map (target_writer names) slice) read) → IfOk r (λ o. o ≡ after_one (writer names first s) before)
unfolding writer roll-Stmt denote.Hole.Carrier.roll
assign_told names first s place targets slice sources others before read r is e f g h =
    let reads = flat_map (read_by names first) sources in
    if_ok r (each_after (map (target_writer names) slice) read) (after_one (writer names first s) before)
    (ap (λ b. each_after (map (target_writer names) b) read) e
    ∙ each_told (map (target_writer names) targets) read
    ∙ ap (after_one (each_writes (map (target_writer names) targets))) (g ∙ ap (λ es. before ++ flat_map (read_by names first) es) f)
    ∙ read_first reads (each_writes (map (target_writer names) targets)) before
    ∙ sym (ap (λ w. after_one w before) (ap (writer names first) is ∙ fold-roll-Stmt Writer (writer_form names first) (AssignForm place targets sources)))) h

abbrev arms_in : {X : Type 0} → Stmt-F X → List (Arm X)
arms_in (IfForm p arms otherwise) = arms
arms_in (CaseForm p arms otherwise) = arms
arms_in other = []

abbrev else_in : {X : Type 0} → Stmt-F X → Option (List X)
else_in (IfForm p arms otherwise) = otherwise
else_in (CaseForm p arms otherwise) = otherwise
else_in other = None

arms_if : (f : Stmt → Writer) (p : Place) (arms : List (Arm Stmt)) (z : Option (List Stmt)) → arms_in (map-Stmt Stmt Writer f (IfForm p arms z)) ≡ map (each_arm f) arms
arms_if f p [] z = refl
arms_if f p (a ∷ arms) z = ap (λ xs. each_arm f a ∷ xs) (arms_if f p arms z)

arms_case : (f : Stmt → Writer) (p : Place) (arms : List (Arm Stmt)) (z : Option (List Stmt)) → arms_in (map-Stmt Stmt Writer f (CaseForm p arms z)) ≡ map (each_arm f) arms
arms_case f p [] z = refl
arms_case f p (a ∷ arms) z = ap (λ xs. each_arm f a ∷ xs) (arms_case f p arms z)

else_if : (f : Stmt → Writer) (p : Place) (arms : List (Arm Stmt)) (z : Option (List Stmt)) → else_block (else_in (map-Stmt Stmt Writer f (IfForm p arms z))) ≡ map f (else_block z)
else_if f p arms None = refl
else_if f p arms (Some block) = refl

else_case : (f : Stmt → Writer) (p : Place) (arms : List (Arm Stmt)) (z : Option (List Stmt)) → else_block (else_in (map-Stmt Stmt Writer f (CaseForm p arms z))) ≡ map f (else_block z)
else_case f p arms None = refl
else_case f p arms (Some block) = refl

same_conditions : (names : List Meant) (first : ℕ) (f : Stmt → Writer) (arms : List (Arm Stmt)) → conditions_read names first (map (each_arm f) arms) ≡ conditions_read names first arms
same_conditions names first f [] = refl
same_conditions names first f (a ∷ arms) = ap (λ xs. read_by names first a.condition ++ xs) (same_conditions names first f arms)

abbrev IsChoice : List Meant → ℕ → Stmt → List (Arm Stmt) → Option (List Stmt) → Type 0
IsChoice names first s arms z = writer names first s ≡ reads_first (conditions_read names first arms) (arms_write (map (each_arm (writer names first)) arms) (map (writer names first) (else_block z)))

choice_is : (names : List Meant) (first : ℕ) (f : Stmt → Writer) (arms : List (Arm Stmt)) (mapped : List (Arm Writer)) (block : Option (List Writer)) (z : Option (List Stmt)) → mapped ≡ map (each_arm f) arms → else_block block ≡ map f (else_block z)
    → choice_writer names first mapped block ≡ reads_first (conditions_read names first arms) (arms_write (map (each_arm f) arms) (map f (else_block z)))
choice_is names first f arms mapped block z e h =
    ap (λ xs. choice_writer names first xs block) e
    ∙ ap (λ rs. reads_first rs (arms_write (map (each_arm f) arms) (else_block block))) (same_conditions names first f arms)
    ∙ ap (λ ws. reads_first (conditions_read names first arms) (arms_write (map (each_arm f) arms) ws)) h

writer_if : (names : List Meant) (first : ℕ) (p : Place) (arms : List (Arm Stmt)) (z : Option (List Stmt)) → IsChoice names first (If p arms z) arms z
unfolding writer roll-Stmt denote.Hole.Carrier.roll
writer_if names first p arms z =
    let f = writer names first in
    fold-roll-Stmt Writer (writer_form names first) (IfForm p arms z)
    ∙ choice_is names first f arms (arms_in (map-Stmt Stmt Writer f (IfForm p arms z))) (else_in (map-Stmt Stmt Writer f (IfForm p arms z))) z (arms_if f p arms z) (else_if f p arms z)

writer_case : (names : List Meant) (first : ℕ) (p : Place) (arms : List (Arm Stmt)) (z : Option (List Stmt)) → IsChoice names first (Case p arms z) arms z
unfolding writer roll-Stmt denote.Hole.Carrier.roll
writer_case names first p arms z =
    let f = writer names first in
    fold-roll-Stmt Writer (writer_form names first) (CaseForm p arms z)
    ∙ choice_is names first f arms (arms_in (map-Stmt Stmt Writer f (CaseForm p arms z))) (else_in (map-Stmt Stmt Writer f (CaseForm p arms z))) z (arms_case f p arms z) (else_case f p arms z)

take_front : (xs ys : List Part) (n : ℕ) → n ≡ length xs → take n (xs ++ ys) ≡ xs
take_front [] ys n h = ap (λ k. take k ys) h
take_front (x ∷ xs) ys zero h = absurd (omega (arith, h))
take_front (x ∷ xs) ys (suc n) h = ap (λ zs. x ∷ zs) (take_front xs ys n (omega (arith, h)))

drop_front : (xs ys : List Part) (n : ℕ) → n ≡ length xs → drop n (xs ++ ys) ≡ ys
drop_front [] ys n h = ap (λ k. drop k ys) h
drop_front (x ∷ xs) ys zero h = absurd (omega (arith, h))
drop_front (x ∷ xs) ys (suc n) h = drop_front xs ys n (omega (arith, h))

front_long : (xs ys : List Part) → length xs ≤ length (xs ++ ys)
front_long [] ys = omega arith
front_long (x ∷ xs) ys = omega (arith, front_long xs ys)

-- what code writes, behind what was written before
written_more : (ws : List Writer) (before after : List Part) → Some after ≡ each_after ws before → (xs : List Part) × (each_writes ws before ≡ Some xs) × (after ≡ before ++ xs)
written_more ws before after h = found (each_writes ws before) refl (h ∙ each_told ws before)
  where
    found : (o : Option (List Part)) → each_writes ws before ≡ o → Some after ≡ option_map (λ xs. before ++ xs) o → (xs : List Part) × (each_writes ws before ≡ Some xs) × (after ≡ before ++ xs)
    found None e q = absurd (cc)
    found (Some xs) e q = (xs, e, cc)

written_none : (ws : List Writer) (before : List Part) → None ≡ each_after ws before → each_writes ws before ≡ None
written_none ws before h = found (each_writes ws before) refl (h ∙ each_told ws before)
  where
    found : (o : Option (List Part)) → each_writes ws before ≡ o → None ≡ option_map (λ xs. before ++ xs) o → each_writes ws before ≡ None
    found None e q = e
    found (Some xs) e q = absurd (cc)

-- all arms, and then what is run where no condition is true
arms_told : (arms : List (Arm Writer)) (us : List Writer) (before : List Part) → arms_write arms us before ≡ either_writes (arms_only arms before) (each_writes us before)
unfolding arms_write arms_only
arms_told [] us before = alone (each_writes us before)
  where
    alone : (o : Option (List Part)) → o ≡ option_map (λ ys. [] ++ ys) o
    alone None = refl
    alone (Some ys) = refl
arms_told (a ∷ arms) us before = ap (either_writes (each_writes a.body before)) (arms_told arms us before) ∙ grouped (each_writes a.body before) (arms_only arms before) (each_writes us before)
  where
    grouped : (p q r : Option (List Part)) → either_writes p (either_writes q r) ≡ either_writes (either_writes p q) r
    grouped None q r = refl
    grouped (Some xs) None r = refl
    grouped (Some xs) (Some ys) None = refl
    grouped (Some xs) (Some ys) (Some zs) = ap Some (sym (regrouped xs ys zs))

abbrev Both : List Meant → ℕ → List (Arm Stmt) → List Stmt → List Part → Option (List Part)
Both names first arms block before = after_one (arms_write (map (each_arm (writer names first)) arms) (map (writer names first) block)) before

arms_again : (names : List Meant) (first : ℕ) (arms : List (Arm Stmt)) (block : List Stmt) (before : List Part) → None ≡ beside before (arms_only (map (each_arm (writer names first)) arms) before) → None ≡ Both names first arms block before
arms_again names first arms block before h =
    sym (ap (option_map (λ xs. before ++ xs)) (arms_told (map (each_arm (writer names first)) arms) (map (writer names first) block) before ∙ ap (λ o. either_writes o (each_writes (map (writer names first) block) before)) (none (arms_only (map (each_arm (writer names first)) arms) before) h)))
  where
    none : (o : Option (List Part)) → None ≡ beside before o → o ≡ None
    none None q = refl
    none (Some xs) q = absurd (cc)

-- what the arms and the rest write
joined_told : (names : List Meant) (first : ℕ) (arms : List (Arm Stmt)) (block : List Stmt) (before now found after : List Part) (start : ℕ) → start ≡ length before → Some (pair now found) ≡ beside before (arms_only (map (each_arm (writer names first)) arms) before)
    → Some after ≡ each_after (map (writer names first) block) now → Some ((take start after ++ found) ++ drop start after) ≡ Both names first arms block before
joined_told names first arms block before now found after start s h e =
    let g = given (arms_only (map (each_arm (writer names first)) arms) before) refl h in
    let w = written_more (map (writer names first) block) before after (e ∙ ap (each_after (map (writer names first) block)) g.0) in
    ap Some
    (ap (λ xs. (take start xs ++ found) ++ drop start xs) w.2
    ∙ ap (λ xs. (xs ++ found) ++ drop start (before ++ w.0)) (take_front before w.0 start s)
    ∙ ap (λ xs. (before ++ found) ++ xs) (drop_front before w.0 start s)
    ∙ regrouped before found w.0)
    ∙ sym (ap (option_map (λ xs. before ++ xs)) (arms_told (map (each_arm (writer names first)) arms) (map (writer names first) block) before ∙ ap (λ o. either_writes o (each_writes (map (writer names first) block) before)) g.1 ∙ ap (option_map (λ ys. found ++ ys)) w.1))
  where
    given : (o : Option (List Part)) → arms_only (map (each_arm (writer names first)) arms) before ≡ o → Some (pair now found) ≡ beside before o → (now ≡ before) × (arms_only (map (each_arm (writer names first)) arms) before ≡ Some found)
    given None e' q = absurd (cc)
    given (Some xs) e' q =
        let p : pair now found ≡ pair before xs = pair_same q in
        (ap (λ (z : List Part × List Part). z.0) p, e' ∙ ap Some (sym (ap (λ (z : List Part × List Part). z.1) p)))
      where
        pair_same : Some (pair now found) ≡ Some (pair before xs) → pair now found ≡ pair before xs
        pair_same z = cc

rest_none : (names : List Meant) (first : ℕ) (arms : List (Arm Stmt)) (block : List Stmt) (before now found : List Part) → Some (pair now found) ≡ beside before (arms_only (map (each_arm (writer names first)) arms) before)
    → None ≡ each_after (map (writer names first) block) now → None ≡ Both names first arms block before
rest_none names first arms block before now found h e =
    let none = written_none (map (writer names first) block) before (e ∙ ap (each_after (map (writer names first) block)) (given (arms_only (map (each_arm (writer names first)) arms) before) h)) in
    sym (ap (option_map (λ xs. before ++ xs)) (arms_told (map (each_arm (writer names first)) arms) (map (writer names first) block) before ∙ ap (either_writes (arms_only (map (each_arm (writer names first)) arms) before)) none ∙ nothing (arms_only (map (each_arm (writer names first)) arms) before)))
  where
    given : (o : Option (List Part)) → Some (pair now found) ≡ beside before o → now ≡ before
    given None q = absurd (cc)
    given (Some xs) q = let p : pair now found ≡ pair before xs = cc in ap (λ (z : List Part × List Part). z.0) p

    nothing : (o : Option (List Part)) → either_writes o None ≡ None
    nothing None = refl
    nothing (Some xs) = refl

nothing_after : (names : List Meant) (first : ℕ) (now : List Part) → Some now ≡ each_after (map (writer names first) []) now
unfolding each_after
nothing_after names first now = refl

-- what the conditions read, by another list of the same arms
pub conditions_of : (names : List Meant) (first : ℕ) (arms slice : List (Arm Stmt)) (before read : List Part) → slice ≡ arms → read ≡ before ++ conditions_read names first slice → read ≡ before ++ conditions_read names first arms
conditions_of names first arms slice before read e h = h ∙ ap (λ xs. before ++ conditions_read names first xs) e

as_choice : (names : List Meant) (first : ℕ) (s : Stmt) (arms : List (Arm Stmt)) (z : Option (List Stmt)) (block : List Stmt) (before read : List Part) (o : Option (List Part)) → IsChoice names first s arms z → read ≡ before ++ conditions_read names first arms → else_block z ≡ block
    → o ≡ Both names first arms block read → o ≡ after_one (writer names first s) before
as_choice names first s arms z block before read o is g e h =
    let w = arms_write (map (each_arm (writer names first)) arms) (map (writer names first) (else_block z)) in
    h
    ∙ ap (λ b. Both names first arms b read) (sym e)
    ∙ ap (after_one w) g
    ∙ read_first (conditions_read names first arms) w before
    ∙ sym (ap (λ w'. after_one w' before) is)

pub if_none : (names : List Meant) (first : ℕ) (s : Stmt) (p : Place) (arms slice : List (Arm Stmt)) (z : Option (List Stmt)) (before read : List Part) (o : Option (List Part × List Part)) → s ≡ If p arms z → slice ≡ arms → read ≡ before ++ conditions_read names first arms
    → o ≡ beside read (arms_only (map (each_arm (writer names first)) slice) read) → o ≡ None → None ≡ after_one (writer names first s) before
if_none names first s p arms slice z before read o is e c h n =
    as_choice names first s arms z (else_block z) before read None (ap (writer names first) is ∙ writer_if names first p arms z) c refl (arms_again names first arms (else_block z) read (sym n ∙ h ∙ ap (λ xs. beside read (arms_only (map (each_arm (writer names first)) xs) read)) e))

pub if_alone : {E : Type 0} (names : List Meant) (first : ℕ) (s : Stmt) (p : Place) (arms slice : List (Arm Stmt)) (z : Option (List Stmt)) (before read now found : List Part) (start : ℕ) (o : Option (List Part × List Part)) (r : Result (Option (List Part)) E) → s ≡ If p arms z → slice ≡ arms → read ≡ before ++ conditions_read names first arms → z ≡ None → start ≡ length read
    → o ≡ beside read (arms_only (map (each_arm (writer names first)) slice) read) → o ≡ Some (pair now found) → IfOk r (λ x. x ≡ Some ((take start now ++ found) ++ drop start now)) → IfOk r (λ x. x ≡ after_one (writer names first s) before)
if_alone names first s p arms slice z before read now found start o r is e c none l h g j =
    if_ok r (Some ((take start now ++ found) ++ drop start now)) (after_one (writer names first s) before)
    (as_choice names first s arms z [] before read (Some ((take start now ++ found) ++ drop start now)) (ap (writer names first) is ∙ writer_if names first p arms z) c (ap else_block none)
    (joined_told names first arms [] read now found now start l (sym g ∙ h ∙ ap (λ xs. beside read (arms_only (map (each_arm (writer names first)) xs) read)) e) (nothing_after names first now))) j

pub if_else_none : (names : List Meant) (first : ℕ) (s : Stmt) (p : Place) (arms slice : List (Arm Stmt)) (z : Option (List Stmt)) (block rest : List Stmt) (before read now found : List Part) (o : Option (List Part × List Part)) (q : Option (List Part)) → s ≡ If p arms z → slice ≡ arms → read ≡ before ++ conditions_read names first arms → z ≡ Some block → rest ≡ block
    → o ≡ beside read (arms_only (map (each_arm (writer names first)) slice) read) → o ≡ Some (pair now found) → q ≡ each_after (map (writer names first) rest) now → q ≡ None → None ≡ after_one (writer names first s) before
if_else_none names first s p arms slice z block rest before read now found o q is e c some f h g k n =
    as_choice names first s arms z block before read None (ap (writer names first) is ∙ writer_if names first p arms z) c (ap else_block some)
    (rest_none names first arms block read now found (sym g ∙ h ∙ ap (λ xs. beside read (arms_only (map (each_arm (writer names first)) xs) read)) e) (sym n ∙ k ∙ ap (λ b. each_after (map (writer names first) b) now) f))

pub if_else : {E : Type 0} (names : List Meant) (first : ℕ) (s : Stmt) (p : Place) (arms slice : List (Arm Stmt)) (z : Option (List Stmt)) (block rest : List Stmt) (before read now found after : List Part) (start : ℕ) (o : Option (List Part × List Part)) (q : Option (List Part)) (r : Result (Option (List Part)) E) → s ≡ If p arms z → slice ≡ arms → read ≡ before ++ conditions_read names first arms → z ≡ Some block
    → rest ≡ block → start ≡ length read → o ≡ beside read (arms_only (map (each_arm (writer names first)) slice) read) → o ≡ Some (pair now found) → q ≡ each_after (map (writer names first) rest) now → q ≡ Some after
    → IfOk r (λ x. x ≡ Some ((take start after ++ found) ++ drop start after)) → IfOk r (λ x. x ≡ after_one (writer names first s) before)
if_else names first s p arms slice z block rest before read now found after start o q r is e c some f l h g k n j =
    if_ok r (Some ((take start after ++ found) ++ drop start after)) (after_one (writer names first s) before)
    (as_choice names first s arms z block before read (Some ((take start after ++ found) ++ drop start after)) (ap (writer names first) is ∙ writer_if names first p arms z) c (ap else_block some)
    (joined_told names first arms block read now found after start l (sym g ∙ h ∙ ap (λ xs. beside read (arms_only (map (each_arm (writer names first)) xs) read)) e) (sym n ∙ k ∙ ap (λ b. each_after (map (writer names first) b) now) f))) j

pub case_none : (names : List Meant) (first : ℕ) (s : Stmt) (p : Place) (arms slice : List (Arm Stmt)) (z : Option (List Stmt)) (before read : List Part) (o : Option (List Part × List Part)) → s ≡ Case p arms z → slice ≡ arms → read ≡ before ++ conditions_read names first arms
    → o ≡ beside read (arms_only (map (each_arm (writer names first)) slice) read) → o ≡ None → None ≡ after_one (writer names first s) before
case_none names first s p arms slice z before read o is e c h n =
    as_choice names first s arms z (else_block z) before read None (ap (writer names first) is ∙ writer_case names first p arms z) c refl (arms_again names first arms (else_block z) read (sym n ∙ h ∙ ap (λ xs. beside read (arms_only (map (each_arm (writer names first)) xs) read)) e))

pub case_alone : {E : Type 0} (names : List Meant) (first : ℕ) (s : Stmt) (p : Place) (arms slice : List (Arm Stmt)) (z : Option (List Stmt)) (before read now found : List Part) (start : ℕ) (o : Option (List Part × List Part)) (r : Result (Option (List Part)) E) → s ≡ Case p arms z → slice ≡ arms → read ≡ before ++ conditions_read names first arms → z ≡ None → start ≡ length read
    → o ≡ beside read (arms_only (map (each_arm (writer names first)) slice) read) → o ≡ Some (pair now found) → IfOk r (λ x. x ≡ Some ((take start now ++ found) ++ drop start now)) → IfOk r (λ x. x ≡ after_one (writer names first s) before)
case_alone names first s p arms slice z before read now found start o r is e c none l h g j =
    if_ok r (Some ((take start now ++ found) ++ drop start now)) (after_one (writer names first s) before)
    (as_choice names first s arms z [] before read (Some ((take start now ++ found) ++ drop start now)) (ap (writer names first) is ∙ writer_case names first p arms z) c (ap else_block none)
    (joined_told names first arms [] read now found now start l (sym g ∙ h ∙ ap (λ xs. beside read (arms_only (map (each_arm (writer names first)) xs) read)) e) (nothing_after names first now))) j

pub case_else_none : (names : List Meant) (first : ℕ) (s : Stmt) (p : Place) (arms slice : List (Arm Stmt)) (z : Option (List Stmt)) (block rest : List Stmt) (before read now found : List Part) (o : Option (List Part × List Part)) (q : Option (List Part)) → s ≡ Case p arms z → slice ≡ arms → read ≡ before ++ conditions_read names first arms → z ≡ Some block → rest ≡ block
    → o ≡ beside read (arms_only (map (each_arm (writer names first)) slice) read) → o ≡ Some (pair now found) → q ≡ each_after (map (writer names first) rest) now → q ≡ None → None ≡ after_one (writer names first s) before
case_else_none names first s p arms slice z block rest before read now found o q is e c some f h g k n =
    as_choice names first s arms z block before read None (ap (writer names first) is ∙ writer_case names first p arms z) c (ap else_block some)
    (rest_none names first arms block read now found (sym g ∙ h ∙ ap (λ xs. beside read (arms_only (map (each_arm (writer names first)) xs) read)) e) (sym n ∙ k ∙ ap (λ b. each_after (map (writer names first) b) now) f))

pub case_else : {E : Type 0} (names : List Meant) (first : ℕ) (s : Stmt) (p : Place) (arms slice : List (Arm Stmt)) (z : Option (List Stmt)) (block rest : List Stmt) (before read now found after : List Part) (start : ℕ) (o : Option (List Part × List Part)) (q : Option (List Part)) (r : Result (Option (List Part)) E) → s ≡ Case p arms z → slice ≡ arms → read ≡ before ++ conditions_read names first arms → z ≡ Some block
    → rest ≡ block → start ≡ length read → o ≡ beside read (arms_only (map (each_arm (writer names first)) slice) read) → o ≡ Some (pair now found) → q ≡ each_after (map (writer names first) rest) now → q ≡ Some after
    → IfOk r (λ x. x ≡ Some ((take start after ++ found) ++ drop start after)) → IfOk r (λ x. x ≡ after_one (writer names first s) before)
case_else names first s p arms slice z block rest before read now found after start o q r is e c some f l h g k n j =
    if_ok r (Some ((take start after ++ found) ++ drop start after)) (after_one (writer names first s) before)
    (as_choice names first s arms z block before read (Some ((take start after ++ found) ++ drop start after)) (ap (writer names first) is ∙ writer_case names first p arms z) c (ap else_block some)
    (joined_told names first arms block read now found after start l (sym g ∙ h ∙ ap (λ xs. beside read (arms_only (map (each_arm (writer names first)) xs) read)) e) (sym n ∙ k ∙ ap (λ b. each_after (map (writer names first) b) now) f))) j

pub local_told : (names : List Meant) (first : ℕ) (s : Stmt) (p : Place) (xs : List Identifier) (ty : TypeExpr) (before : List Part) → s ≡ Local p xs ty → Some before ≡ after_one (writer names first s) before
unfolding writer roll-Stmt denote.Hole.Carrier.roll
local_told names first s p xs ty before is = nothing_told names first s before (ap (writer names first) is ∙ fold-roll-Stmt Writer (writer_form names first) (LocalForm p xs ty))

pub skip_told : (names : List Meant) (first : ℕ) (s : Stmt) (p : Place) (before : List Part) → s ≡ Skip p → Some before ≡ after_one (writer names first s) before
unfolding writer roll-Stmt denote.Hole.Carrier.roll
skip_told names first s p before is = nothing_told names first s before (ap (writer names first) is ∙ fold-roll-Stmt Writer (writer_form names first) (SkipForm p))

pub assert_told : (names : List Meant) (first : ℕ) (s : Stmt) (p : Place) (label : Option Identifier) (e : Expr) (before : List Part) → s ≡ Assert p label e → Some before ≡ after_one (writer names first s) before
unfolding writer roll-Stmt denote.Hole.Carrier.roll
assert_told names first s p label e before is = nothing_told names first s before (ap (writer names first) is ∙ fold-roll-Stmt Writer (writer_form names first) (AssertForm p label e))

pub assume_told : (names : List Meant) (first : ℕ) (s : Stmt) (p : Place) (e : Expr) (before read : List Part) → s ≡ Assume p e → read ≡ before ++ read_by names first e → Some read ≡ after_one (writer names first s) before
unfolding writer roll-Stmt denote.Hole.Carrier.roll
assume_told names first s p e before read is h = ap Some h ∙ sym (ap (λ w. after_one w before) (ap (writer names first) is ∙ fold-roll-Stmt Writer (writer_form names first) (AssumeForm p e)))

pub for_told : (names : List Meant) (first : ℕ) (s : Stmt) (p : Place) (x : Identifier) (ty : Option TypeExpr) (from to : RangeBound) (block : List Stmt) (before : List Part) → s ≡ For p x ty from to block → Some before ≡ after_one (writer names first s) before
unfolding writer roll-Stmt denote.Hole.Carrier.roll
for_told names first s p x ty from to block before is = nothing_told names first s before (ap (writer names first) is ∙ fold-roll-Stmt Writer (writer_form names first) (ForForm p x ty from to block))

pub call_told : (names : List Meant) (first : ℕ) (s : Stmt) (p : Place) (targets : List Target) (f : Identifier) (arguments : List Expr) (before : List Part) → s ≡ Call p targets f arguments → Some before ≡ after_one (writer names first s) before
unfolding writer roll-Stmt denote.Hole.Carrier.roll
call_told names first s p targets f arguments before is = nothing_told names first s before (ap (writer names first) is ∙ fold-roll-Stmt Writer (writer_form names first) (CallForm p targets f arguments))

pub next_told : (names : List Meant) (first : ℕ) (s : Stmt) (p : Place) (i : Identifier) (before : List Part) → s ≡ Next p i → Some before ≡ after_one (writer names first s) before
unfolding writer roll-Stmt denote.Hole.Carrier.roll
next_told names first s p i before is = nothing_told names first s before (ap (writer names first) is ∙ fold-roll-Stmt Writer (writer_form names first) (NextForm p i))

-- ---- arms

pub take_all : (xs : List Part) (n : ℕ) → length xs < n → xs ≡ take n xs
take_all [] zero h = absurd (omega (arith, h))
take_all [] (suc n) h = refl
take_all (x ∷ xs) zero h = absurd (omega (arith, h))
take_all (x ∷ xs) (suc n) h = ap (λ ys. x ∷ ys) (take_all xs n (omega (arith, h)))

pub drop_none : (xs : List Part) (n : ℕ) → length xs < n → [] ≡ drop n xs
drop_none xs n h = sym (drop_all n xs (omega (arith, h)))

arm_at : (arms : List (Arm Stmt)) (k : ℕ) (a : Arm Stmt) → k < length arms → a ≡ get_or arms k a → drop k arms ≡ a ∷ drop (k + 1) arms
arm_at [] k a l e = absurd (omega (arith, l))
arm_at (b ∷ arms) zero a l e = ap (λ z. z ∷ arms) (sym e)
arm_at (b ∷ arms) (suc k) a l e = arm_at arms k a (omega (arith, l)) e ∙ ap (λ n. a ∷ drop n (b ∷ arms)) (moved k)
  where
    moved : (n : ℕ) → suc (n + 1) ≡ suc n + 1
    moved n = omega arith

step_is : (names : List Meant) (first : ℕ) (arms : List (Arm Stmt)) (k : ℕ) (a : Arm Stmt) (before : List Part) → drop k arms ≡ a ∷ drop (k + 1) arms
    → arms_only (map (each_arm (writer names first)) (drop k arms)) before ≡ either_writes (each_writes (map (writer names first) a.body) before) (arms_only (map (each_arm (writer names first)) (drop (k + 1) arms)) before)
unfolding arms_only
step_is names first arms k a before e = ap (λ xs. arms_only (map (each_arm (writer names first)) xs) before) e

abbrev Found : List Meant → ℕ → List (Arm Stmt) → List Part → List Part → ℕ → Type 0
Found names first arms before found k = arms_only (map (each_arm (writer names first)) arms) before ≡ option_map (λ ys. found ++ ys) (arms_only (map (each_arm (writer names first)) (drop k arms)) before)

stmt_at : (block : List Stmt) (k : ℕ) (s : Stmt) → k < length block → s ≡ get_or block k s → drop k block ≡ s ∷ drop (k + 1) block
stmt_at [] k s l e = absurd (omega (arith, l))
stmt_at (b ∷ block) zero s l e = ap (λ z. z ∷ block) (sym e)
stmt_at (b ∷ block) (suc k) s l e = stmt_at block k s (omega (arith, l)) e ∙ ap (λ n. s ∷ drop n (b ∷ block)) (moved k)
  where
    moved : (n : ℕ) → suc (n + 1) ≡ suc n + 1
    moved n = omega arith

pub statement_none : (names : List Meant) (first : ℕ) (block whole : List Stmt) (now before : List Part) (k : ℕ) (s : Stmt) (o : Option (List Part)) → block ≡ whole → k < length block → s ≡ get_or block k s → each_after (map (writer names first) (drop k block)) now ≡ each_after (map (writer names first) block) before
    → o ≡ after_one (writer names first s) now → o ≡ None → None ≡ each_after (map (writer names first) whole) before
unfolding each_after
statement_none names first block whole now before k s o w l e inv h n =
    let rest = each_after (map (writer names first) (drop (k + 1) block)) in
    ap (option_and_then rest) (sym n ∙ h) ∙ ap (λ xs. each_after (map (writer names first) xs) now) (sym (stmt_at block k s l e)) ∙ inv ∙ ap (λ b. each_after (map (writer names first) b) before) w

pub block_done : (names : List Meant) (first : ℕ) (block whole : List Stmt) (now before : List Part) (k : ℕ) → block ≡ whole → length block ≤ k → each_after (map (writer names first) (drop k block)) now ≡ each_after (map (writer names first) block) before → Some now ≡ each_after (map (writer names first) whole) before
unfolding each_after
block_done names first block whole now before k w l inv = ap (λ xs. each_after (map (writer names first) xs) now) (sym (drop_all k block l)) ∙ inv ∙ ap (λ b. each_after (map (writer names first) b) before) w

-- An arm that writes a part again.
pub arm_none : (names : List Meant) (first : ℕ) (arms : List (Arm Stmt)) (before found : List Part) (k : ℕ) (a : Arm Stmt) → k < length arms → a ≡ get_or arms k a → Found names first arms before found k → None ≡ each_after (map (writer names first) a.body) before
    → None ≡ beside before (arms_only (map (each_arm (writer names first)) arms) before)
arm_none names first arms before found k a l e inv h =
    let none = written_none (map (writer names first) a.body) before h in
    let rest = arms_only (map (each_arm (writer names first)) (drop (k + 1) arms)) before in
    sym (ap (beside before) (inv ∙ ap (option_map (λ ys. found ++ ys)) (step_is names first arms k a before (arm_at arms k a l e) ∙ ap (λ o. either_writes o rest) none)))

-- One arm more: the front is what was there before, and what is behind it is added.
pub arm_front : (names : List Meant) (first : ℕ) (before after front : List Part) (a : Arm Stmt) (start : ℕ) → start ≡ length before → Some after ≡ each_after (map (writer names first) a.body) before → front ≡ take start after → front ≡ before
arm_front names first before after front a start s h f = let w = written_more (map (writer names first) a.body) before after h in f ∙ ap (take start) w.2 ∙ take_front before w.0 start s

pub arm_step : (names : List Meant) (first : ℕ) (arms : List (Arm Stmt)) (before after more found whole : List Part) (k start : ℕ) (a : Arm Stmt) → k < length arms → a ≡ get_or arms k a → start ≡ length before → Found names first arms before found k
    → Some after ≡ each_after (map (writer names first) a.body) before → more ≡ drop start after → whole ≡ found ++ more → Found names first arms before whole (k + 1)
arm_step names first arms before after more found whole k start a l e s inv h m t =
    let w = written_more (map (writer names first) a.body) before after h in
    let rest = arms_only (map (each_arm (writer names first)) (drop (k + 1) arms)) before in
    let own : w.0 ≡ more = sym (m ∙ ap (drop start) w.2 ∙ drop_front before w.0 start s) in
    inv
    ∙ ap (option_map (λ ys. found ++ ys)) (step_is names first arms k a before (arm_at arms k a l e) ∙ ap (λ o. either_writes o rest) w.1)
    ∙ ap (λ xs. option_map (λ ys. found ++ ys) (option_map (λ ys. xs ++ ys) rest)) own
    ∙ both rest
    ∙ ap (λ zs. option_map (λ ys. zs ++ ys) rest) (sym t)
  where
    both : (o : Option (List Part)) → option_map (λ ys. found ++ ys) (option_map (λ ys. more ++ ys) o) ≡ option_map (λ ys. (found ++ more) ++ ys) o
    both None = refl
    both (Some ys) = ap Some (sym (regrouped found more ys))

pub arms_done : (names : List Meant) (first : ℕ) (arms : List (Arm Stmt)) (before now found : List Part) (k : ℕ) → length arms ≤ k → now ≡ before → Found names first arms before found k
    → Some (pair now found) ≡ beside before (arms_only (map (each_arm (writer names first)) arms) before)
unfolding arms_only
arms_done names first arms before now found k l is inv =
    ap (λ xs. Some (pair xs found)) is
    ∙ ap (λ ys. Some (pair before ys)) (sym (with_none found))
    ∙ sym (ap (beside before) (inv ∙ ap (λ xs. option_map (λ ys. found ++ ys) (arms_only (map (each_arm (writer names first)) xs) before)) (drop_all k arms l)))

pub arms_begin : (names : List Meant) (first : ℕ) (arms : List (Arm Stmt)) (before : List Part) → Found names first arms before [] 0
arms_begin names first arms before = begun (arms_only (map (each_arm (writer names first)) arms) before)
  where
    begun : (o : Option (List Part)) → o ≡ option_map (λ ys. [] ++ ys) o
    begun None = refl
    begun (Some ys) = refl
