-- The turns of the walk's loops.
use Rattle.std.proofs.Common.{◌≡◌, ℕ, ◌+◌, ◌<◌, ◌≤◌, Bool, false, List, [], ◌∷◌, ◌++◌, length, map, take, drop, get_or, Option, refl, ap, ◌∙◌, sym, append_assoc}
use Rattle.std.specs.List.{flat_map}
use Rattle.std.proofs.lemmas.List.{drop_all, map-append}
use Rattle.uc_syntax.specs.declared.statement.Arm.{Arm}
use Rattle.uc_syntax.specs.declared.statement.Stmt.{Stmt}
use Rattle.uc_syntax.specs.declared.declaration.Decl.{Decl}
use Rattle.uc_meaning.specs.Lookup.{next_in}
use Rattle.uc_rules.specs.declared.fault.Fault.{Fault}
use Rattle.uc_rules.specs.Faults.{first_of}
use Rattle.uc_rules.proofs.Chains.{first_of_append}
use Rattle.uc_rules.proofs.Lists.{drop_turn}
use Rattle.uc_written_once.specs.SteppedOnceWalks.{Passed, Parted, Walk, after, parted_after, walk_arm, walk_arms, walk_block, walk_decls, walk_each, walk_of}

turn : (w : Walk) (ws : List Walk) (again : Bool) (seen : List ℕ) → walk_each (w ∷ ws) again seen ≡ after (w again seen).faults (walk_each ws again (w again seen).seen)
unfolding walk_each
turn w ws again seen = refl

block_turn : (block : List Stmt) (again : Bool) (seen : List ℕ) (k : ℕ) (s d : Stmt) → k < length block → s ≡ get_or block k d →
    walk_block (drop k block) again seen ≡ after (walk_of s again seen).faults (walk_block (drop (k + 1) block) again (walk_of s again seen).seen)
block_turn block again seen k s d within at =
    ap (λ b. walk_block b again seen) (drop_turn block k s d within at) ∙ turn (walk_of s) (map walk_of (drop (k + 1) block)) again seen

-- Before turn k of a loop over statements, the rest of them gives what the whole gives.
pub record BlockFrom (block : List Stmt) (again : Bool) (before : List ℕ) (old : Option Fault) (k : ℕ) (seen : List ℕ) (first : Option Fault) : Type 0 where
  pub all : (walk_block (drop k block) again seen).seen ≡ (walk_block block again before).seen
  pub found : first_of first (walk_block (drop k block) again seen).faults ≡ first_of old (walk_block block again before).faults

module _ (block : List Stmt) (again : Bool) (before : List ℕ) (old : Option Fault) where
  pub block_begin : BlockFrom block again before old 0 before old
  block_begin = record { all = refl; found = refl }

  pub block_more : (k : ℕ) (seen seen' : List ℕ) (first first' : Option Fault) (s d : Stmt) → BlockFrom block again before old k seen first → k < length block → s ≡ get_or block k d →
      seen' ≡ (walk_of s again seen).seen → first' ≡ first_of first (walk_of s again seen).faults → BlockFrom block again before old (k + 1) seen' first'
  block_more k seen seen' first first' s d held within at seen-is first-is =
      let step = block_turn block again seen k s d within at in
      let rest = drop (k + 1) block in
      record {
        all = ap (λ x. (walk_block rest again x).seen) seen-is ∙ sym (ap (λ (p : Passed). p.seen) step) ∙ held.all;
        found =
            (λ j. first_of (first-is j) (walk_block rest again (seen-is j)).faults)
            ∙ sym (first_of_append first (walk_of s again seen).faults (walk_block rest again (walk_of s again seen).seen).faults)
            ∙ sym (ap (λ (p : Passed). first_of first p.faults) step) ∙ held.found;
      }

  module _ (k : ℕ) (seen : List ℕ) (first : Option Fault) (held : BlockFrom block again before old k seen first) (past : length block ≤ k) where
    pub block_end_seen : seen ≡ (walk_block block again before).seen
    unfolding walk_each
    block_end_seen = sym (ap (λ b. (walk_block b again seen).seen) (drop_all k block past)) ∙ held.all

    pub block_end_faults : first ≡ first_of old (walk_block block again before).faults
    unfolding walk_each first_of
    block_end_faults = sym (ap (λ b. first_of first (walk_block b again seen).faults) (drop_all k block past)) ∙ held.found

-- The same of a loop over arms.
pub record ArmsFrom (arms : List (Arm Stmt)) (again : Bool) (before put : List ℕ) (old : Option Fault) (k : ℕ) (seen aside : List ℕ) (first : Option Fault) : Type 0 where
  pub seen-all : (walk_arms (map walk_arm (drop k arms)) again seen aside).seen ≡ (walk_arms (map walk_arm arms) again before put).seen
  pub aside-all : (walk_arms (map walk_arm (drop k arms)) again seen aside).aside ≡ (walk_arms (map walk_arm arms) again before put).aside
  pub found : first_of first (walk_arms (map walk_arm (drop k arms)) again seen aside).faults ≡ first_of old (walk_arms (map walk_arm arms) again before put).faults

module _ (arms : List (Arm Stmt)) (again : Bool) (before put : List ℕ) (old : Option Fault) where
  pub arms_begin : ArmsFrom arms again before put old 0 before put old
  arms_begin = record { seen-all = refl; aside-all = refl; found = refl }

  arm_turn : (w : Walk) (ws : List Walk) (seen aside : List ℕ) → walk_arms (w ∷ ws) again seen aside ≡
      parted_after (w again seen).faults (walk_arms ws again (take (length seen) (w again seen).seen) (aside ++ drop (length seen) (w again seen).seen))
  unfolding walk_arms
  arm_turn w ws seen aside = refl

  pub arms_more : (k : ℕ) (seen aside last seen' aside' : List ℕ) (first first' : Option Fault) (start : ℕ) (a d : Arm Stmt) (block : List Stmt) → ArmsFrom arms again before put old k seen aside first → k < length arms → a ≡ get_or arms k d →
      start ≡ length seen → block ≡ a.body → last ≡ (walk_block block again seen).seen → first' ≡ first_of first (walk_block block again seen).faults → seen' ≡ take start last → aside' ≡ aside ++ drop start last →
      ArmsFrom arms again before put old (k + 1) seen' aside' first'
  arms_more k seen aside last seen' aside' first first' start a d block held within at start-is block-is last-is first-is seen-is aside-is =
      let one = walk_arm a again seen in
      let rest = map walk_arm (drop (k + 1) arms) in
      let l : last ≡ one.seen = last-is ∙ ap (λ b. (walk_block b again seen).seen) block-is in
      let s : seen' ≡ take (length seen) one.seen = seen-is ∙ (λ j. take (start-is j) (l j)) in
      let p : aside' ≡ aside ++ drop (length seen) one.seen = aside-is ∙ (λ j. aside ++ drop (start-is j) (l j)) in
      let f : first' ≡ first_of first one.faults = first-is ∙ ap (λ b. first_of first (walk_block b again seen).faults) block-is in
      let step = ap (λ as'. walk_arms (map walk_arm as') again seen aside) (drop_turn arms k a d within at) ∙ arm_turn (walk_arm a) rest seen aside in
      record {
        seen-all = (λ j. (walk_arms rest again (s j) (p j)).seen) ∙ sym (ap (λ (q : Parted). q.seen) step) ∙ held.seen-all;
        aside-all = (λ j. (walk_arms rest again (s j) (p j)).aside) ∙ sym (ap (λ (q : Parted). q.aside) step) ∙ held.aside-all;
        found =
            (λ j. first_of (f j) (walk_arms rest again (s j) (p j)).faults)
            ∙ sym (first_of_append first one.faults (walk_arms rest again (take (length seen) one.seen) (aside ++ drop (length seen) one.seen)).faults)
            ∙ sym (ap (λ (q : Parted). first_of first q.faults) step) ∙ held.found;
      }

  module _ (k : ℕ) (seen aside : List ℕ) (first : Option Fault) (held : ArmsFrom arms again before put old k seen aside first) (past : length arms ≤ k) where
    pub arms_end_seen : seen ≡ (walk_arms (map walk_arm arms) again before put).seen
    unfolding walk_arms
    arms_end_seen = sym (ap (λ as'. (walk_arms (map walk_arm as') again seen aside).seen) (drop_all k arms past)) ∙ held.seen-all

    pub arms_end_aside : aside ≡ (walk_arms (map walk_arm arms) again before put).aside
    unfolding walk_arms
    arms_end_aside = sym (ap (λ as'. (walk_arms (map walk_arm as') again seen aside).aside) (drop_all k arms past)) ∙ held.aside-all

    pub arms_end_faults : first ≡ first_of old (walk_arms (map walk_arm arms) again before put).faults
    unfolding walk_arms first_of
    arms_end_faults = sym (ap (λ as'. first_of first (walk_arms (map walk_arm as') again seen aside).faults) (drop_all k arms past)) ∙ held.found

-- The same of a loop over declarations.
pub record DeclsFrom (ds : List Decl) (before : List ℕ) (old : Option Fault) (k : ℕ) (seen : List ℕ) (first : Option Fault) : Type 0 where
  pub found : first_of first (walk_decls (drop k ds) false seen).faults ≡ first_of old (walk_decls ds false before).faults

each_join : (ws vs : List Walk) (again : Bool) (seen : List ℕ) → walk_each (ws ++ vs) again seen ≡ after (walk_each ws again seen).faults (walk_each vs again (walk_each ws again seen).seen)
unfolding walk_each
each_join [] vs again seen = refl
each_join (w ∷ ws) vs again seen =
    let one = w again seen in
    let rest = walk_each vs again (walk_each ws again one.seen).seen in
    ap (after one.faults) (each_join ws vs again one.seen) ∙ ap (λ fs. record { seen = rest.seen; faults = fs }) (sym (append_assoc one.faults (walk_each ws again one.seen).faults rest.faults))

module _ (ds : List Decl) (before : List ℕ) (old : Option Fault) where
  pub decls_begin : DeclsFrom ds before old 0 before old
  decls_begin = record { found = refl }

  pub decls_more : (k : ℕ) (seen seen' : List ℕ) (first first' : Option Fault) (d x : Decl) (block : List Stmt) → DeclsFrom ds before old k seen first → k < length ds → d ≡ get_or ds k x → block ≡ next_in d →
      seen' ≡ (walk_block block false seen).seen → first' ≡ first_of first (walk_block block false seen).faults → DeclsFrom ds before old (k + 1) seen' first'
  decls_more k seen seen' first first' d x block held within at block-is seen-is first-is =
      let one = walk_block (next_in d) false seen in
      let rest = drop (k + 1) ds in
      let s : seen' ≡ one.seen = seen-is ∙ ap (λ b. (walk_block b false seen).seen) block-is in
      let f : first' ≡ first_of first one.faults = first-is ∙ ap (λ b. first_of first (walk_block b false seen).faults) block-is in
      let step =
      ap (λ xs. walk_decls xs false seen) (drop_turn ds k d x within at)
      ∙ ap (λ ws. walk_each ws false seen) (map-append walk_of (next_in d) (flat_map next_in rest))
      ∙ each_join (map walk_of (next_in d)) (map walk_of (flat_map next_in rest)) false seen in
      record {
        found =
            (λ j. first_of (f j) (walk_decls rest false (s j)).faults) ∙ sym (first_of_append first one.faults (walk_decls rest false one.seen).faults)
            ∙ sym (ap (λ (p : Passed). first_of first p.faults) step) ∙ held.found;
      }

  pub decls_end : (k : ℕ) (seen : List ℕ) (first : Option Fault) → DeclsFrom ds before old k seen first → length ds ≤ k → first ≡ first_of old (walk_decls ds false before).faults
  unfolding walk_each first_of
  decls_end k seen first held past = sym (ap (λ xs. first_of first (walk_decls xs false seen).faults) (drop_all k ds past)) ∙ held.found
