-- What is read through so many uses, use by use.
use Rattle.std.proofs.Common.{◌≡◌, ◌↔◌, ℕ, zero, suc, ◌≤◌, Bool, true, false, List, [], ◌∷◌, ◌++◌, length, Option, Some, None, refl, ap, sym, subst, ◌∙◌, ◌⊎◌, inl, inr, ⊎_elim, arith}
use Rattle.std.specs.Prelude.{nat_eq, ◌&&◌, ◌||◌, if◌then◌else◌}
use Rattle.std.specs.List.{flat_map}
use Rattle.std.specs.Option.{option_and_then}
use Rattle.uc_syntax.specs.declared.expression.Expr.{Expr}
use Rattle.uc_syntax.proofs.Added.{append_nil}
use Rattle.uc_meaning.specs.Lookup.{System, Defined, module_at, define_of}
use Rattle.uc_meaning.specs.Cells.{as_list, same_path}
use Rattle.uc_meaning.specs.Expressions.{binding_of}
use Rattle.uc_meaning.specs.Code.{written_cell}
use Rattle.uc_rules.specs.Cycles.{leads_to}
use Rattle.uc_declared_types.specs.AliasLaw.{IsAmong}
use Rattle.uc_declared_types.proofs.Along.{any_by, any_there, either, nothing, or_left, or_right}
use Rattle.uc_declared_types.proofs.Among.{among_back, among_flat, among_left, among_right, among_split}
use Rattle.uc_order_rules.specs.Roots.{NameAt, name_at, led, is_bound_input}
use Rattle.uc_order_rules.specs.Mentions.{Mention, Reads, Applies, ReadsOld, mentions}
use Rattle.uc_order_rules.specs.Uses.{Used, UsedDefine, UsedProcedure, UsedInput, all_uses, body_uses, binding_uses, define_uses, expression_uses, mention_uses, name_uses, same_name_at, same_use, uses_of}
use Rattle.uc_order_rules.specs.Reads.{Elsewhere, binding_reads, body_reads, cells_read, mention_reads, name_reads, reads_through}
use Rattle.uc_order_rules.specs.Reading.{InputsReadUses, ReadsByUses, UseLeads, UsesEnd, cells_named, mentioned_cells, named_cell, named_in_binding, named_in_body, own_cells}

-- ---- uses that are the same

both_left : (b c : Bool) → (b && c) ≡ true → b ≡ true
both_left true c h = refl
both_left false c h = nothing (sym h)

both_right : (b c : Bool) → (b && c) ≡ true → c ≡ true
both_right true c h = h
both_right false c h = nothing (sym h)

equal : (n m : ℕ) → nat_eq n m ≡ true → n ≡ m
equal n m h = grind (arith, h)

same : (n : ℕ) → nat_eq n n ≡ true
same n = grind arith

path_equal : (p q : List ℕ) → same_path p q ≡ true → p ≡ q
unfolding same_path
path_equal [] [] h = refl
path_equal [] (j ∷ q) h = nothing (sym h)
path_equal (i ∷ p) [] h = nothing (sym h)
path_equal (i ∷ p) (j ∷ q) h = (λ k. equal i j (both_left (nat_eq i j) (same_path p q) h) k ∷ path_equal p q (both_right (nat_eq i j) (same_path p q) h) k)

path_same : (p : List ℕ) → same_path p p ≡ true
unfolding same_path
path_same [] = refl
path_same (i ∷ p) = ap (λ b. b && same_path p p) (same i) ∙ path_same p

name_equal : (a b : NameAt) → same_name_at a b ≡ true → a ≡ b
name_equal a b h =
    (λ k. name_at (path_equal a.path b.path (both_left (same_path a.path b.path) (nat_eq a.name b.name) h) k) (equal a.name b.name (both_right (same_path a.path b.path) (nat_eq a.name b.name) h) k))

name_same : (a : NameAt) → same_name_at a a ≡ true
name_same a = ap (λ b. b && nat_eq a.name a.name) (path_same a.path) ∙ same a.name

pub use_equal : (u v : Used) → same_use u v ≡ true → u ≡ v
use_equal (UsedDefine a) (UsedDefine b) h = ap UsedDefine (name_equal a b h)
use_equal (UsedProcedure a) (UsedProcedure b) h = ap UsedProcedure (name_equal a b h)
use_equal (UsedInput a) (UsedInput b) h = ap UsedInput (name_equal a b h)
use_equal (UsedDefine a) (UsedProcedure b) h = nothing (sym h)
use_equal (UsedDefine a) (UsedInput b) h = nothing (sym h)
use_equal (UsedProcedure a) (UsedDefine b) h = nothing (sym h)
use_equal (UsedProcedure a) (UsedInput b) h = nothing (sym h)
use_equal (UsedInput a) (UsedDefine b) h = nothing (sym h)
use_equal (UsedInput a) (UsedProcedure b) h = nothing (sym h)

pub use_same : (u : Used) → same_use u u ≡ true
use_same (UsedDefine a) = name_same a
use_same (UsedProcedure a) = name_same a
use_same (UsedInput a) = name_same a

-- a define or an input, not a procedure
abbrev pub IsExpression : Used → Type 0
IsExpression (UsedDefine n) = Unit {0}
IsExpression (UsedInput n) = Unit {0}
IsExpression (UsedProcedure n) = ⊥

module _ (system : System) where
  -- what a use reads, where it is known how expressions elsewhere are read
  use_reads : Elsewhere → Used → List ℕ
  use_reads elsewhere (UsedDefine n) = body_reads elsewhere n.path (option_and_then (λ m. define_of m n.name) (module_at system n.path))
  use_reads elsewhere (UsedInput n) = binding_reads elsewhere (binding_of system n.path n.name)
  use_reads elsewhere (UsedProcedure n) = []

  module _ (elsewhere : Elsewhere) where
    by_bound : (n : NameAt) (b : Bool) →
        (if b then binding_reads elsewhere (binding_of system n.path n.name) else as_list (written_cell system n.path n.name))
        ≡ (if b then [] else as_list (written_cell system n.path n.name)) ++ flat_map (use_reads elsewhere) (if b then UsedInput n ∷ [] else [])
    unfolding use_reads
    by_bound n true = sym (append_nil (binding_reads elsewhere (binding_of system n.path n.name)))
    by_bound n false = sym (append_nil (as_list (written_cell system n.path n.name)))

    by_name : (n : NameAt) → name_reads system elsewhere n ≡ named_cell system n ++ flat_map (use_reads elsewhere) (name_uses system n)
    by_name n = by_bound n (is_bound_input system n)

    by_define : (path : List ℕ) (f : ℕ) (o : Option Defined) → option_and_then (λ m. define_of m f) (module_at system path) ≡ o → body_reads elsewhere path o ≡ flat_map (use_reads elsewhere) (define_uses path f o)
    unfolding use_reads
    by_define path f None is = refl
    by_define path f (Some d) is = sym (append_nil _ ∙ ap (body_reads elsewhere path) is)

    by_mention : (path : List ℕ) (m : Mention) → mention_reads system elsewhere path m ≡ mentioned_cells system path m ++ flat_map (use_reads elsewhere) (mention_uses system path m)
    by_mention path (Reads x primed ys) = by_name (led system path x ys)
    by_mention path (Applies f) = by_define path f (option_and_then (λ m. define_of m f) (module_at system path)) refl
    by_mention path (ReadsOld x) = by_name (name_at path x)

    abbrev Either : ℕ → List ℕ → List Used → Type 0
    Either y cells us = IsAmong y cells ⊎ ((u : Used) × IsAmong u us × IsAmong y (use_reads elsewhere u))

    split_expression : (y : ℕ) (path : List ℕ) (e : Expr) → IsAmong y (flat_map (mention_reads system elsewhere path) (mentions e)) → Either y (cells_named system path e) (expression_uses system path e)
    split_expression y path e h =
        let m = among_back (mention_reads system elsewhere path) y (mentions e) h in
        ⊎_elim
        (λ own. inl (among_flat (mentioned_cells system path) m.0 y (mentions e) m.1 own))
        (λ used.
        let u = among_back (use_reads elsewhere) y (mention_uses system path m.0) used in
        inr (u.0, among_flat (mention_uses system path) m.0 u.0 (mentions e) m.1 u.1, u.2))
        (among_split y (mentioned_cells system path m.0) (flat_map (use_reads elsewhere) (mention_uses system path m.0)) (subst (λ ys. IsAmong y ys) (by_mention path m.0) m.2))

    join_expression : (y : ℕ) (path : List ℕ) (e : Expr) → Either y (cells_named system path e) (expression_uses system path e) → IsAmong y (flat_map (mention_reads system elsewhere path) (mentions e))
    join_expression y path e h =
        ⊎_elim
        (λ own.
        let m = among_back (mentioned_cells system path) y (mentions e) own in
        among_flat (mention_reads system elsewhere path) m.0 y (mentions e) m.1
        (subst (λ ys. IsAmong y ys) (sym (by_mention path m.0)) (among_left y (mentioned_cells system path m.0) (flat_map (use_reads elsewhere) (mention_uses system path m.0)) m.2)))
        (λ used.
        let m = among_back (mention_uses system path) used.0 (mentions e) used.1 in
        among_flat (mention_reads system elsewhere path) m.0 y (mentions e) m.1
        (subst (λ ys. IsAmong y ys) (sym (by_mention path m.0))
        (among_right y (mentioned_cells system path m.0) (flat_map (use_reads elsewhere) (mention_uses system path m.0)) (among_flat (use_reads elsewhere) used.0 y (mention_uses system path m.0) m.2 used.2))))
        h

  abbrev deep : ℕ → Used → List ℕ
  deep n u = use_reads (reads_through n system) u

  abbrev One : ℕ → ℕ → Used → Type 0
  One n y u = IsAmong y (own_cells system u) ⊎ ((v : Used) × IsAmong v (uses_of system u) × IsAmong y (deep n v))

  split_body : (n y : ℕ) (path : List ℕ) (o : Option Defined) → IsAmong y (body_reads (reads_through (suc n) system) path o) → Either (reads_through n system) y (named_in_body system path o) (body_uses system path o)
  unfolding reads_through IsAmong
  split_body n y path None h = absurd h
  split_body n y path (Some d) h = split_expression (reads_through n system) y path d.body h

  split_binding : (n y : ℕ) (o : Option (List ℕ × Expr)) → IsAmong y (binding_reads (reads_through (suc n) system) o) → Either (reads_through n system) y (named_in_binding system o) (binding_uses system o)
  unfolding reads_through IsAmong
  split_binding n y None h = absurd h
  split_binding n y (Some b) h = split_expression (reads_through n system) y b.0 b.1 h

  split : (n y : ℕ) (u : Used) → IsAmong y (deep (suc n) u) → One n y u
  unfolding use_reads IsAmong
  split n y (UsedDefine m) h = split_body n y m.path (option_and_then (λ c. define_of c m.name) (module_at system m.path)) h
  split n y (UsedInput m) h = split_binding n y (binding_of system m.path m.name) h
  split n y (UsedProcedure m) h = absurd h

  join_body : (n y : ℕ) (path : List ℕ) (o : Option Defined) → Either (reads_through n system) y (named_in_body system path o) (body_uses system path o) → IsAmong y (body_reads (reads_through (suc n) system) path o)
  unfolding reads_through IsAmong
  join_body n y path None h = ⊎_elim (λ a. a) (λ b. b.1) h
  join_body n y path (Some d) h = join_expression (reads_through n system) y path d.body h

  join_binding : (n y : ℕ) (o : Option (List ℕ × Expr)) → Either (reads_through n system) y (named_in_binding system o) (binding_uses system o) → IsAmong y (binding_reads (reads_through (suc n) system) o)
  unfolding reads_through IsAmong
  join_binding n y None h = ⊎_elim (λ a. a) (λ b. b.1) h
  join_binding n y (Some b) h = join_expression (reads_through n system) y b.0 b.1 h

  join : (n y : ℕ) (u : Used) → IsExpression u → One n y u → IsAmong y (deep (suc n) u)
  unfolding use_reads
  join n y (UsedDefine m) e h = join_body n y m.path (option_and_then (λ c. define_of c m.name) (module_at system m.path)) h
  join n y (UsedInput m) e h = join_binding n y (binding_of system m.path m.name) h
  join n y (UsedProcedure m) e h = absurd e

  -- what an expression uses is read by an expression too

  name_kind : (n : NameAt) (v : Used) (b : Bool) → IsAmong v (if b then UsedInput n ∷ [] else []) → IsExpression v
  unfolding IsAmong
  name_kind n v true h = ⊎_elim (λ e. subst (λ u. IsExpression u) (sym e) tt) (λ r. absurd r) h
  name_kind n v false h = absurd h

  define_kind : (path : List ℕ) (f : ℕ) (o : Option Defined) (v : Used) → IsAmong v (define_uses path f o) → IsExpression v
  unfolding IsAmong
  define_kind path f None v h = absurd h
  define_kind path f (Some d) v h = ⊎_elim (λ e. subst (λ u. IsExpression u) (sym e) tt) (λ r. absurd r) h

  mention_kind : (path : List ℕ) (m : Mention) (v : Used) → IsAmong v (mention_uses system path m) → IsExpression v
  mention_kind path (Reads x primed ys) v h = name_kind (led system path x ys) v (is_bound_input system (led system path x ys)) h
  mention_kind path (Applies f) v h = define_kind path f (option_and_then (λ m. define_of m f) (module_at system path)) v h
  mention_kind path (ReadsOld x) v h = name_kind (name_at path x) v (is_bound_input system (name_at path x)) h

  expression_kind : (path : List ℕ) (e : Expr) (v : Used) → IsAmong v (expression_uses system path e) → IsExpression v
  expression_kind path e v h = let m = among_back (mention_uses system path) v (mentions e) h in mention_kind path m.0 v m.2

  body_kind : (path : List ℕ) (o : Option Defined) (v : Used) → IsAmong v (body_uses system path o) → IsExpression v
  unfolding IsAmong
  body_kind path None v h = absurd h
  body_kind path (Some d) v h = expression_kind path d.body v h

  binding_kind : (o : Option (List ℕ × Expr)) (v : Used) → IsAmong v (binding_uses system o) → IsExpression v
  unfolding IsAmong
  binding_kind None v h = absurd h
  binding_kind (Some b) v h = expression_kind b.0 b.1 v h

  pub use_kind : (u v : Used) → IsExpression u → IsAmong v (uses_of system u) → IsExpression v
  use_kind (UsedDefine m) v e h = body_kind m.path (option_and_then (λ c. define_of c m.name) (module_at system m.path)) v h
  use_kind (UsedInput m) v e h = binding_kind (binding_of system m.path m.name) v h
  use_kind (UsedProcedure m) v e h = absurd e

  -- ---- ways of uses

  module _ (y : ℕ) where
    abbrev step : Used → ℕ → Used → Bool
    step v k x = same_use v x || leads_to k (uses_of system) (same_use v) x

    pub first : (u x v : Used) → IsAmong x (uses_of system u) → (x ≡ v) ⊎ UseLeads system x v → UseLeads system u v
    unfolding leads_to
    first u x v among h =
        ⊎_elim
        (λ is. (1, any_there (step v 0) (uses_of system u) x among (or_left (same_use v x) (leads_to 0 (uses_of system) (same_use v) x) (ap (λ z. same_use v z) is ∙ use_same v))))
        (λ w. (suc w.0, any_there (step v w.0) (uses_of system u) x among (or_right (same_use v x) (leads_to w.0 (uses_of system) (same_use v) x) w.1)))
        h

    by_uses : (n : ℕ) (u : Used) → IsAmong y (deep n u) → ReadsByUses system u y
    unfolding reads_through IsAmong use_reads
    by_uses zero u h = none u h
      where
        none_body : (path : List ℕ) (o : Option Defined) → IsAmong y (body_reads (reads_through 0 system) path o) → ⊥
        none_body path None h = h
        none_body path (Some d) h = h

        none_binding : (o : Option (List ℕ × Expr)) → IsAmong y (binding_reads (reads_through 0 system) o) → ⊥
        none_binding None h = h
        none_binding (Some b) h = h

        none : {A : Type 0} (u : Used) → IsAmong y (deep 0 u) → A
        none (UsedDefine m) h = absurd (none_body m.path (option_and_then (λ c. define_of c m.name) (module_at system m.path)) h)
        none (UsedInput m) h = absurd (none_binding (binding_of system m.path m.name) h)
        none (UsedProcedure m) h = absurd h
    by_uses (suc n) u h =
        ⊎_elim
        (λ own. (u, inl refl, own))
        (λ used. let r = by_uses n used.0 used.2 in (r.0, inr (first u used.0 r.0 used.1 r.1), r.2))
        (split n y u h)

    back : (k n : ℕ) (u v : Used) → IsExpression u → k ≤ n → leads_to k (uses_of system) (same_use v) u ≡ true → IsAmong y (own_cells system v) → IsAmong y (deep (suc n) u)
    unfolding leads_to
    back zero n u v e less h own = nothing (sym h)
    back (suc k) zero u v e less h own = absurd (omega (arith, less))
    back (suc k) (suc n) u v e less h own =
        let x = any_by (step v k) (uses_of system u) h in
        let kind = use_kind u x.0 e x.1 in
        join (suc n) y u e
        (inr (
          x.0,
          x.1,
          ⊎_elim
              (λ here. join n y x.0 kind (inl (subst (λ z. IsAmong y (own_cells system z)) (use_equal v x.0 here) own)))
              (λ later. back k n x.0 v kind (omega (arith, less)) later own)
              (either (same_use v x.0) (leads_to k (uses_of system) (same_use v) x.0) x.2),
        ))

  input_reads : (n : NameAt) → is_bound_input system n ≡ true → name_reads system (cells_read system) n ≡ use_reads (cells_read system) (UsedInput n)
  unfolding use_reads
  input_reads n is = ap (λ b. if b then binding_reads (cells_read system) (binding_of system n.path n.name) else as_list (written_cell system n.path n.name)) is

  pub reads : UsesEnd system → (n : NameAt) → is_bound_input system n ≡ true → (y : ℕ) → IsAmong y (name_reads system (cells_read system) n) ↔ ReadsByUses system (UsedInput n) y
  reads ends n is y = (
    (λ h. by_uses y (suc (length (all_uses system))) (UsedInput n) (subst (λ ys. IsAmong y ys) (input_reads n is) h)),
    (λ r.
        subst (λ ys. IsAmong y ys) (sym (input_reads n is))
        (⊎_elim
        (λ own. join (length (all_uses system)) y (UsedInput n) tt (inl (subst (λ v. IsAmong y (own_cells system v)) (sym own) r.2)))
        (λ w. back y (length (all_uses system)) (length (all_uses system)) (UsedInput n) r.0 tt (omega arith) (ends n r.0 is w) r.2)
        r.1)),
  )

pub inputs_read_uses : InputsReadUses
inputs_read_uses system ends n is y = reads system ends n is y
