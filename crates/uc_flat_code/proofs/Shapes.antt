-- What a statement writes and reads does not depend on what was written and read before: this decides only whether it may stand there.
use Rattle.std.proofs.Common.{◌≡◌, ℕ, List, [], ◌∷◌, ◌++◌, map, refl, sym, ap, ◌∙◌, subst, true, false, Bool, Option, Some, None}
use Rattle.std.specs.Prelude.{if◌then◌else◌, ◌&&◌, ◌||◌, not, slice_get}
use Rattle.std.specs.Option.{option_map, option_and_then}
use Rattle.std.specs.List.{flat_map, list_all}
use Rattle.std.proofs.lemmas.List.Folds.{list_all-append}
use Rattle.uc_lexer.specs.declared.place.Place.{Place}
use Rattle.uc_syntax.specs.declared.statement.Arm.{Arm}
use Rattle.uc_syntax.specs.declared.statement.Target.{Target}
use Rattle.uc_syntax.specs.declared.statement.Stmt.{Stmt}
use Rattle.uc_syntax.specs.declared.statement.Stmt.TheOpen.{Stmt-F}
use Rattle.uc_syntax.specs.declared.statement.Stmt.TheOpen.Stmt-F.{Local as Declare, Skip, Block, Assert, Assume, Havoc, Assign, If, Case, For, Call, Next}
use Rattle.uc_syntax.specs.declared.statement.Stmt.TheViews.{roll-Stmt}
use Rattle.uc_syntax.specs.declared.statement.Stmt.TheFolds.{fold-Stmt, map-Stmt, fold-roll-Stmt, ind-Stmt}
use Rattle.uc_meaning.specs.Code.{else_block}
use Rattle.uc_meaning.specs.Steps.{fields_before}
use Rattle.uc_flat_expressions.specs.declared.typed.Meant.{Meant}
use Rattle.uc_flat_expressions.specs.declared.typed.Meant.TheVariants.{Unknown, Cell, Label, Constant}
use Rattle.uc_flat_code.specs.declared.once.Part.{Part}
use Rattle.uc_flat_code.specs.Once.{overlaps, touched, read_by, Writer, writes_part, each_writes, either_writes, arms_write, reads_first, writer_of, target_writer, conditions_read, choice_writer, writer_form, writer}
use Rattle.uc_flat_code.specs.Written.{parts_of, target_parts, arm_parts, same_parts, written_form, written_parts}

-- no part of the second list overlaps one of the first
abbrev pub spared : List Part → List Part → Bool
spared before ps = list_all (λ p. not (touched before p)) ps

abbrev pub as_writer : Bool → List Part → List Part → Writer
as_writer fine parts writes before = if fine && spared before writes then Some parts else None

-- A writer gives always the same parts, or none: where it is at odds with itself, or writes what overlaps a part from before.
pub record Shape (w : Writer) (writes : List Part) : Type 0 where
  pub fine : Bool
  pub parts : List Part
  pub is : (before : List Part) → w before ≡ as_writer fine parts writes before

touched_append : (xs ys : List Part) (p : Part) → touched (xs ++ ys) p ≡ (touched xs p || touched ys p)
unfolding touched
touched_append [] ys p = refl
touched_append (x ∷ xs) ys p = ap (λ b. overlaps x p || b) (touched_append xs ys p) ∙ grouped (overlaps x p) (touched xs p) (touched ys p)
  where
    grouped : (a b c : Bool) → (a || (b || c)) ≡ ((a || b) || c)
    grouped true b c = refl
    grouped false b c = refl

-- parts that two lists spare
pub spared_both : (xs ys ps : List Part) → spared (xs ++ ys) ps ≡ (spared xs ps && spared ys ps)
spared_both xs ys [] = refl
spared_both xs ys (p ∷ ps) =
    ap (λ b. not b && spared (xs ++ ys) ps) (touched_append xs ys p) ∙ ap (λ b. not (touched xs p || touched ys p) && b) (spared_both xs ys ps)
    ∙ grouped (touched xs p) (touched ys p) (spared xs ps) (spared ys ps)
  where
    grouped : (a b c d : Bool) → (not (a || b) && (c && d)) ≡ ((not a && c) && (not b && d))
    grouped true b c d = refl
    grouped false true true d = refl
    grouped false true false d = refl
    grouped false false c d = refl

pub spared_none : (ps : List Part) → spared [] ps ≡ true
unfolding touched
spared_none [] = refl
spared_none (p ∷ ps) = spared_none ps

-- ---- one part, nothing, and what is read first

pub nothing_shape : (parts : List Part) → Shape (λ before. Some parts) []
nothing_shape parts = record { fine = true; parts = parts; is = λ before. refl }

part_shape : (p : Part) → Shape (writes_part p) (p ∷ [])
part_shape p = record { fine = true; parts = p ∷ []; is = λ before. by_test (touched before p) }
  where
    by_test : (b : Bool) → (if b then None else Some (p ∷ [])) ≡ (if true && (not b && true) then Some (p ∷ []) else None)
    by_test true = refl
    by_test false = refl

name_shape : (o : Option Meant) (fields : List ℕ) → Shape (writer_of o fields) (parts_of o fields)
name_shape None fields = nothing_shape []
name_shape (Some Unknown) fields = nothing_shape []
name_shape (Some (Cell k new ty)) fields = part_shape (record { cell = k; fields = fields })
name_shape (Some (Label a b c)) fields = nothing_shape []
name_shape (Some (Constant a ty)) fields = nothing_shape []

reads_shape : (reads : List Part) (w : Writer) (writes : List Part) → Shape w writes → Shape (reads_first reads w) writes
reads_shape reads w writes a = record {
  fine = a.fine && spared reads writes;
  parts = reads ++ a.parts;
  is = λ before.
      ap (option_map (λ xs. reads ++ xs)) (a.is (before ++ reads) ∙ ap (λ b. if a.fine && b then Some a.parts else None) (spared_both before reads writes))
      ∙ by_test a.fine (spared before writes) (spared reads writes);
}
  where
    by_test : (f b c : Bool) → option_map (λ xs. reads ++ xs) (if f && (b && c) then Some a.parts else None) ≡ (if (f && c) && b then Some (reads ++ a.parts) else None)
    by_test true true true = refl
    by_test true true false = refl
    by_test true false true = refl
    by_test true false false = refl
    by_test false b c = refl

-- ---- one after another, and one or the other

abbrev pub AllShaped : List Writer → List (List Part) → Type 0
AllShaped [] [] = Unit {0}
AllShaped (w ∷ ws) (ps ∷ pss) = Shape w ps × AllShaped ws pss
AllShaped ws pss = ⊥

pub one_more_is : (w : Writer) (ws : List Writer) (ps qs : List Part) (a : Shape w ps) (b : Shape (each_writes ws) qs) (before : List Part)
    → each_writes (w ∷ ws) before ≡ as_writer (a.fine && (b.fine && spared a.parts qs)) (a.parts ++ b.parts) (ps ++ qs) before
unfolding each_writes
one_more_is w ws ps qs a b before =
    ap (option_and_then (λ xs. option_map (λ ys. xs ++ ys) (each_writes ws (before ++ xs)))) (a.is before)
    ∙ by_first a.fine (spared before ps)
    ∙ ap (λ c. if (a.fine && (b.fine && spared a.parts qs)) && c then Some (a.parts ++ b.parts) else None) (sym (list_all-append (λ p. not (touched before p)) ps qs))
  where
    by_second : (c d e : Bool) → option_map (λ ys. a.parts ++ ys) (if c && (d && e) then Some b.parts else None) ≡ (if (c && e) && d then Some (a.parts ++ b.parts) else None)
    by_second true true true = refl
    by_second true true false = refl
    by_second true false true = refl
    by_second true false false = refl
    by_second false d e = refl

    no_way : (c : Bool) → None ≡ (if c && false then Some (a.parts ++ b.parts) else None)
    no_way true = refl
    no_way false = refl

    by_first : (f s : Bool) → option_and_then (λ xs. option_map (λ ys. xs ++ ys) (each_writes ws (before ++ xs))) (if f && s then Some a.parts else None)
        ≡ (if (f && (b.fine && spared a.parts qs)) && (s && spared before qs) then Some (a.parts ++ b.parts) else None)
    by_first true true =
        ap (option_map (λ ys. a.parts ++ ys)) (b.is (before ++ a.parts) ∙ ap (λ c. if b.fine && c then Some b.parts else None) (spared_both before a.parts qs))
        ∙ by_second b.fine (spared before qs) (spared a.parts qs)
    by_first true false = no_way (b.fine && spared a.parts qs)
    by_first false s = refl

one_more : (w : Writer) (ws : List Writer) (ps qs : List Part) → Shape w ps → Shape (each_writes ws) qs → Shape (each_writes (w ∷ ws)) (ps ++ qs)
one_more w ws ps qs a b = record { fine = a.fine && (b.fine && spared a.parts qs); parts = a.parts ++ b.parts; is = one_more_is w ws ps qs a b }

pub each_shape : (ws : List Writer) (pss : List (List Part)) → AllShaped ws pss → Shape (each_writes ws) (flat_map same_parts pss)
unfolding each_writes
each_shape [] [] h = nothing_shape []
each_shape [] (ps ∷ pss) h = absurd h
each_shape (w ∷ ws) [] h = absurd h
each_shape (w ∷ ws) (ps ∷ pss) h = one_more w ws ps (flat_map same_parts pss) h.0 (each_shape ws pss h.1)

either_shape : (v w : Writer) (ps qs : List Part) → Shape v ps → Shape w qs → Shape (λ before. either_writes (v before) (w before)) (ps ++ qs)
either_shape v w ps qs a b = record {
  fine = a.fine && b.fine;
  parts = a.parts ++ b.parts;
  is = λ before.
      ap (λ o. either_writes o (w before)) (a.is before)
      ∙ ap (either_writes (as_writer a.fine a.parts ps before)) (b.is before)
      ∙ by_test a.fine (spared before ps) b.fine (spared before qs)
      ∙ ap (λ c. if (a.fine && b.fine) && c then Some (a.parts ++ b.parts) else None) (sym (list_all-append (λ p. not (touched before p)) ps qs));
}
  where
    by_test : (f s g t : Bool) → either_writes (if f && s then Some a.parts else None) (if g && t then Some b.parts else None) ≡ (if (f && g) && (s && t) then Some (a.parts ++ b.parts) else None)
    by_test true true true true = refl
    by_test true true true false = refl
    by_test true true false t = refl
    by_test true false true t = refl
    by_test true false false t = refl
    by_test false s g t = refl

abbrev pub ArmsShaped : List (Arm Writer) → List (Arm (List Part)) → Type 0
ArmsShaped [] [] = Unit {0}
ArmsShaped (a ∷ arms) (b ∷ others) = AllShaped a.body b.body × ArmsShaped arms others
ArmsShaped arms others = ⊥

arms_shape : (arms : List (Arm Writer)) (others : List (Arm (List Part))) (us : List Writer) (pss : List (List Part)) → ArmsShaped arms others → AllShaped us pss → Shape (arms_write arms us) (flat_map (arm_parts same_parts) others ++ flat_map same_parts pss)
unfolding arms_write
arms_shape [] [] us pss h g = each_shape us pss g
arms_shape [] (b ∷ others) us pss h g = absurd h
arms_shape (a ∷ arms) [] us pss h g = absurd h
arms_shape (a ∷ arms) (b ∷ others) us pss h g =
    subst (Shape (λ before. either_writes (each_writes a.body before) (arms_write arms us before))) (sym (regrouped (arm_parts same_parts b) (flat_map (arm_parts same_parts) others) (flat_map same_parts pss)))
    (either_shape (each_writes a.body) (arms_write arms us) (arm_parts same_parts b) (flat_map (arm_parts same_parts) others ++ flat_map same_parts pss) (each_shape a.body b.body h.0) (arms_shape arms others us pss h.1 g))
  where
    regrouped : (xs ys zs : List Part) → (xs ++ ys) ++ zs ≡ xs ++ (ys ++ zs)
    regrouped [] ys zs = refl
    regrouped (x ∷ xs) ys zs = ap (λ us. x ∷ us) (regrouped xs ys zs)

abbrev pub ElseShaped : Option (List Writer) → Option (List (List Part)) → Type 0
ElseShaped None None = Unit {0}
ElseShaped (Some us) (Some pss) = AllShaped us pss
ElseShaped us pss = ⊥

else_shaped : (us : Option (List Writer)) (pss : Option (List (List Part))) → ElseShaped us pss → AllShaped (else_block us) (else_block pss)
else_shaped None None h = tt
else_shaped (Some us) (Some pss) h = h
else_shaped None (Some pss) h = absurd h
else_shaped (Some us) None h = absurd h

choice_shape : (names : List Meant) (n : ℕ) (arms : List (Arm Writer)) (others : List (Arm (List Part))) (us : Option (List Writer)) (pss : Option (List (List Part))) → ArmsShaped arms others → ElseShaped us pss
    → Shape (λ before. choice_writer names n arms us before) (flat_map (arm_parts same_parts) others ++ flat_map same_parts (else_block pss))
choice_shape names n arms others us pss h g = reads_shape (conditions_read names n arms) (arms_write arms (else_block us)) _ (arms_shape arms others (else_block us) (else_block pss) h (else_shaped us pss g))

targets_shaped : (names : List Meant) (targets : List Target) → AllShaped (map (target_writer names) targets) (map (target_parts names) targets)
targets_shaped names [] = tt
targets_shaped names (t ∷ targets) = (name_shape (slice_get names t.name) (fields_before t.parts), targets_shaped names targets)

all_targets : (names : List Meant) (targets : List Target) → flat_map same_parts (map (target_parts names) targets) ≡ flat_map (target_parts names) targets
all_targets names [] = refl
all_targets names (t ∷ targets) = ap (λ ps. target_parts names t ++ ps) (all_targets names targets)

-- ---- all forms

module _ (names : List Meant) (n : ℕ) where
  module _ {A D : Type 0} (d : D → A) (g : A → Writer) (u : A → List Part) (each : (e : D) → Shape (g (d e)) (u (d e))) where
    list_shaped : (es : List D) → AllShaped (map g (map d es)) (map u (map d es))
    list_shaped [] = tt
    list_shaped (e ∷ es) = (each e, list_shaped es)

    abbrev right : Stmt-F D → Stmt-F Writer
    right y = map-Stmt A Writer g (map-Stmt D A d y)

    abbrev middle : Stmt-F D → Stmt-F (List Part)
    middle y = map-Stmt A (List Part) u (map-Stmt D A d y)

    abbrev arms_in : {X : Type 0} → Stmt-F X → List (Arm X)
    arms_in (If p arms otherwise) = arms
    arms_in (Case p arms otherwise) = arms
    arms_in other = []

    abbrev else_in : {X : Type 0} → Stmt-F X → Option (List X)
    else_in (If p arms otherwise) = otherwise
    else_in (Case p arms otherwise) = otherwise
    else_in other = None

    if_layer : (place : Place) (arms : List (Arm D)) (o : Option (List D)) → ArmsShaped (arms_in (right (If place arms o))) (arms_in (middle (If place arms o))) × ElseShaped (else_in (right (If place arms o))) (else_in (middle (If place arms o)))
    if_layer place [] None = (tt, tt)
    if_layer place [] (Some es) = (tt, list_shaped es)
    if_layer place (a ∷ arms) o = ((list_shaped a.body, (if_layer place arms o).0), (if_layer place arms o).1)

    case_layer : (place : Place) (arms : List (Arm D)) (o : Option (List D)) → ArmsShaped (arms_in (right (Case place arms o))) (arms_in (middle (Case place arms o))) × ElseShaped (else_in (right (Case place arms o))) (else_in (middle (Case place arms o)))
    case_layer place [] None = (tt, tt)
    case_layer place [] (Some es) = (tt, list_shaped es)
    case_layer place (a ∷ arms) o = ((list_shaped a.body, (case_layer place arms o).0), (case_layer place arms o).1)

    layer : (y : Stmt-F D) → Shape (writer_form names n (right y)) (written_form names (middle y))
    layer (Declare place ids type) = nothing_shape []
    layer (Skip place) = nothing_shape []
    layer (Block place block) = each_shape _ _ (list_shaped block)
    layer (Assert place label e) = nothing_shape []
    layer (Assume place x) = nothing_shape (read_by names n x)
    layer (Havoc place x primed) = name_shape (slice_get names x.name) []
    layer (Assign place targets sources) =
        reads_shape (flat_map (read_by names n) sources) (each_writes (map (target_writer names) targets)) (flat_map (target_parts names) targets)
        (subst (Shape (each_writes (map (target_writer names) targets))) (all_targets names targets) (each_shape (map (target_writer names) targets) (map (target_parts names) targets) (targets_shaped names targets)))
    layer (If place arms o) = choice_shape names n _ _ _ _ (if_layer place arms o).0 (if_layer place arms o).1
    layer (Case place arms o) = choice_shape names n _ _ _ _ (case_layer place arms o).0 (case_layer place arms o).1
    layer (For place x type from to block) = nothing_shape []
    layer (Call place targets callee arguments) = nothing_shape []
    layer (Next place x) = nothing_shape []

  pub statement_shape : (s : Stmt) → Shape (writer names n s) (written_parts names s)
  unfolding writer written_parts
  statement_shape =
      ind-Stmt (λ s. Shape (fold-Stmt Writer (writer_form names n) s) (fold-Stmt (List Part) (written_form names) s))
      (λ x y is.
      let U = fold-Stmt Writer (writer_form names n) in
      let P = fold-Stmt (List Part) (written_form names) in
      let way = layer (λ e. e.0) U P (λ e. e.1) y in
      let way' = subst (λ z. Shape (writer_form names n (map-Stmt Stmt Writer U z)) (written_form names (map-Stmt Stmt (List Part) P z))) is way in
      let right' = subst (Shape (writer_form names n (map-Stmt Stmt Writer U x))) (sym (fold-roll-Stmt (List Part) (written_form names) x)) way' in
      subst (λ X. Shape X (P (roll-Stmt x))) (sym (fold-roll-Stmt Writer (writer_form names n) x)) right')
