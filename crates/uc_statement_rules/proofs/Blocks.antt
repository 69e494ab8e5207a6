-- The turns of loops over the statements of a block, and the end of a block.
use Rattle.std.proofs.Common.{rules, ◌≡◌, ℕ, ◌+◌, ◌-◌, ◌<◌, ◌≤◌, List, [], ◌∷◌, ◌++◌, length, map, drop, get_or, Option, refl, ap, ◌∙◌, sym, subst, arith, length-append, append_assoc}
use Rattle.std.proofs.lemmas.List.{drop_all}
use Rattle.std.proofs.Math.Seq.{drop-append_seam}
use Rattle.uc_syntax.specs.declared.place.Identifier.{Identifier}
use Rattle.uc_syntax.specs.declared.statement.Stmt.{Stmt}
use Rattle.uc_syntax.specs.declared.statement.Stmt.TheOpen.{Stmt-F}
use Rattle.uc_syntax.specs.declared.statement.Stmt.TheOpen.Stmt-F.{Local as LocalForm, Skip as SkipForm, Block as BlockForm, Assert as AssertForm, Assume as AssumeForm, Havoc as HavocForm, Assign as AssignForm, If as IfForm, Case as CaseForm, For as ForForm, Call as CallForm, Next as NextForm}
use Rattle.uc_syntax.specs.declared.statement.Stmt.TheViews.{roll-Stmt, out-Stmt, the_lemmas}
use Rattle.uc_syntax.specs.declared.statement.Stmt.TheFolds.{fold-roll-Stmt}
use Rattle.uc_values.specs.declared.ty.Ty.{Ty}
use Rattle.uc_rules.specs.declared.fault.Fault.{Fault}
use Rattle.uc_rules.specs.declared.known.Known.{Known}
use Rattle.uc_rules.specs.declared.known.Role.{Role}
use Rattle.uc_rules.specs.declared.known.Role.TheVariants.{Local as LocalRole}
use Rattle.uc_rules.specs.Faults.{first_of}
use Rattle.uc_rules.specs.Expressions.{Context}
use Rattle.uc_rules.specs.Statements.{Piece, block_faults, code_faults, found, found_form, with_names}
use Rattle.uc_rules.specs.Types.{type_of}
use Rattle.uc_rules.proofs.Chains.{first_of_append}
use Rattle.uc_rules.proofs.Lists.{drop_turn}
use Rattle.uc_statement_rules.specs.Judging.{JudgesBlock, JudgesStatement}

-- A scope with more names in front.
pub record Grown (c now : Context) : Type 0 where
  pub added : List Known
  pub is : now ≡ record c { bound = added ++ c.bound }

pub grown_same : (c : Context) → Grown c c
grown_same c = record { added = []; is = refl }

-- names in front of what is known
names_added : (role : Role) (is : List Identifier) (t : Option Ty) (bound : List Known) → with_names role is t bound ≡ with_names role is t [] ++ bound
names_added role [] t bound = refl
names_added role (i ∷ is) t bound =
    let k : Known = record { name = i.name; role = role; ty = t } in
    names_added role is t (k ∷ bound)
    ∙ sym (append_assoc (with_names role is t []) (k ∷ []) bound)
    ∙ ap (λ ks. ks ++ bound) (sym (names_added role is t (k ∷ [])))

-- what a form adds: a local alone adds names
grown_form : (x : Stmt-F Piece) (c : Context) → Grown c (found_form x c).after
grown_form (LocalForm place is type) c =
    record { added = with_names LocalRole is (type_of c.system c.home type) []; is = ap (λ b. record c { bound = b }) (names_added LocalRole is (type_of c.system c.home type) c.bound) }
grown_form (SkipForm place) c = grown_same c
grown_form (BlockForm place block) c = grown_same c
grown_form (AssertForm place name e) c = grown_same c
grown_form (AssumeForm place e) c = grown_same c
grown_form (HavocForm place i primed) c = grown_same c
grown_form (AssignForm place targets sources) c = grown_same c
grown_form (IfForm place arms otherwise) c = grown_same c
grown_form (CaseForm place arms otherwise) c = grown_same c
grown_form (ForForm place i type from to block) c = grown_same c
grown_form (CallForm place targets i arguments) c = grown_same c
grown_form (NextForm place i) c = grown_same c

rolled : (s : Stmt) → roll-Stmt (out-Stmt s) ≡ s
rolled s = search (rules, the_lemmas)

grown_after : (s : Stmt) (c : Context) → Grown c (found s c).after
unfolding found
grown_after s c =
    subst (λ (t : Stmt). Grown c (found t c).after) (rolled s)
    (subst (λ (p : Piece). Grown c (p c).after) (sym (fold-roll-Stmt Piece found_form (out-Stmt s))) (grown_form _ c))

grown_twice : (a b c : Context) → Grown a b → Grown b c → Grown a c
grown_twice a b c g h = record {
  added = h.added ++ g.added;
  is =
      h.is ∙ ap (λ (q : Context). record q { bound = h.added ++ q.bound }) g.is
      ∙ ap (λ ks. record a { bound = ks }) (sym (append_assoc h.added g.added a.bound));
}

-- Before turn k, the faults of the rest of the block are still to come.
pub record BlockFrom (c : Context) (block : List Stmt) (old : Option Fault) (k : ℕ) (now : Context) (first : Option Fault) : Type 0 where
  pub grown : Grown c now
  pub found_still : first_of first (code_faults (drop k block) now) ≡ first_of old (code_faults block c)

pub block_begin : (c : Context) (block : List Stmt) (old : Option Fault) → BlockFrom c block old 0 c old
block_begin c block old = record { grown = grown_same c; found_still = refl }

turn : (c : Context) (s : Stmt) (block : List Stmt) → code_faults (s ∷ block) c ≡ (found s c).faults ++ code_faults block (found s c).after
unfolding block_faults
turn c s block = refl

pub block_more : (c : Context) (block : List Stmt) (old : Option Fault) (k : ℕ) (now after : Context) (first new : Option Fault) (s d : Stmt) →
    BlockFrom c block old k now first → k < length block → s ≡ get_or block k d → JudgesStatement now s first new after → BlockFrom c block old (k + 1) after new
block_more c block old k now after first new s d before within is one = record {
  grown = subst (Grown c) (sym one.scope) (grown_twice c now (found s now).after before.grown (grown_after s now));
  found_still =
      ap (λ (q : Context). first_of new (code_faults (drop (k + 1) block) q)) one.scope
      ∙ ap (λ o. first_of o (code_faults (drop (k + 1) block) (found s now).after)) one.noted
      ∙ sym (first_of_append first (found s now).faults (code_faults (drop (k + 1) block) (found s now).after))
      ∙ sym (ap (first_of first) (turn now s (drop (k + 1) block)))
      ∙ sym (ap (λ xs. first_of first (code_faults xs now)) (drop_turn block k s d within is))
      ∙ before.found_still;
}

none : (c : Context) (first : Option Fault) → first_of first (code_faults [] c) ≡ first
unfolding block_faults first_of
none c first = refl

-- the names in front are left again
left : (ks bound : List Known) → drop (length (ks ++ bound) - length bound) (ks ++ bound) ≡ bound
left ks bound =
    let n : length (ks ++ bound) - length bound ≡ length ks = omega (arith, length-append ks bound) in
    ap (λ m. drop m (ks ++ bound)) n ∙ drop-append_seam ks bound

pub grown_left : (c now after : Context) (depth : ℕ) → Grown c now → depth ≡ length c.bound → after ≡ record now { bound = drop (length now.bound - depth) now.bound } → after ≡ c
grown_left c now after depth g depth-is after-is =
    after-is
    ∙ ap (λ d. record now { bound = drop (length now.bound - d) now.bound }) depth-is
    ∙ ap (λ (q : Context). record q { bound = drop (length q.bound - length c.bound) q.bound }) g.is
    ∙ ap (λ b. record c { bound = b }) (left g.added c.bound)

pub block_end : (c : Context) (block : List Stmt) (old : Option Fault) (k : ℕ) (now after : Context) (first : Option Fault) (depth : ℕ) →
    BlockFrom c block old k now first → length block ≤ k → depth ≡ length c.bound → after ≡ record now { bound = drop (length now.bound - depth) now.bound } → JudgesBlock c block old first after
block_end c block old k now after first depth before past depth-is after-is = record {
  noted = sym (ap (λ xs. first_of first (code_faults xs now)) (drop_all k block past) ∙ none now first) ∙ before.found_still;
  scope = grown_left c now after depth before.grown depth-is after-is;
}
