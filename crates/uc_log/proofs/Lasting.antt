-- Conditions stay met where there are more terms.
use Rattle.std.proofs.Common.{◌≡◌, ℕ, ◌+◌, ◌<◌, List, [], ◌∷◌, ◌++◌, length, sym, ◌∙◌, ap, subst, arith}
use Rattle.std.specs.Prelude.{All, ℤ, IsTrue}
use Rattle.std.proofs.lemmas.List.{length-append}
use Rattle.std.proofs.lemmas.List.Elements.{All-weaker}
use Rattle.uc_values.specs.declared.ty.Ty.{Ty}
use Rattle.uc_values.specs.declared.ty.Ty.TheVariants.{Int}
use Rattle.uc_ops.specs.declared.node.Node.{Node}
use Rattle.uc_ops.specs.Typing.{type_at}
use Rattle.uc_terms.proofs.Grown.{type-keeps}
use Rattle.uc_log.specs.declared.atom.Atom.{Atom}
use Rattle.uc_log.specs.declared.atom.Atom.TheVariants.{Free, Bit, Le, Eq}
use Rattle.uc_log.specs.declared.entry.Entry.{Entry}
use Rattle.uc_log.specs.declared.entry.Entry.TheVariants.{Gate as GateEntry, Atom as AtomEntry, Learnt}
use Rattle.uc_log.specs.Atoms.{IsMeant, IsBitOf, is_opaque}
use Rattle.uc_log.specs.Entries.{Known, add, Meets, AllMeet}
use Rattle.uc_log.specs.Lasting.{NewEntryKeepsValid, NewClauseIsNewEntry, LastEmptyClauseIsNewHint, MoreTermsKeepConditions}
use Rattle.uc_log.proofs.Growth.{valid_push, new_clause, new_empty}

inside : (nodes more : List Node) (t : ℕ) → t < length nodes → t < length (nodes ++ more)
inside nodes more t h = omega (arith, length-append nodes more)

meant_kept : (nodes more : List Node) (a : Atom) → IsMeant nodes a → IsMeant (nodes ++ more) a
meant_kept nodes more Free is = is
meant_kept nodes more (Bit t k) is = (inside nodes more t is.0, subst (λ (ty : Ty). IsBitOf ty k) (sym (type-keeps nodes more t is.0)) is.1)
meant_kept nodes more (Le f) is =
    All-weaker (λ (p : ℕ × ℤ). (p.0 < length nodes) × (type_at nodes p.0 ≡ Int)) (λ (p : ℕ × ℤ). (p.0 < length (nodes ++ more)) × (type_at (nodes ++ more) p.0 ≡ Int))
    (λ p h. (inside nodes more p.0 h.0, type-keeps nodes more p.0 h.0 ∙ h.1)) f.pairs is
meant_kept nodes more (Eq s t) is = (
  inside nodes more s is.0,
  inside nodes more t is.1,
  type-keeps nodes more t is.1 ∙ is.2 ∙ sym (type-keeps nodes more s is.0),
  subst (λ (ty : Ty). IsTrue (is_opaque ty)) (sym (type-keeps nodes more s is.0)) is.3,
)

meets_kept : (nodes more : List Node) (k : Known) (e : Entry) → Meets nodes k e → Meets (nodes ++ more) k e
meets_kept nodes more k (GateEntry g) is = is
meets_kept nodes more k (AtomEntry a) is = meant_kept nodes more a is
meets_kept nodes more k (Learnt clause hints) is = is

pub more_terms : MoreTermsKeepConditions
more_terms nodes more k [] all = tt
more_terms nodes more k (e ∷ entries) all = (meets_kept nodes more k e all.0, more_terms nodes more (add k e) entries all.1)

pub new_entry : NewEntryKeepsValid
new_entry = valid_push

pub new_clauses : NewClauseIsNewEntry
new_clauses = new_clause

pub new_hint : LastEmptyClauseIsNewHint
new_hint = new_empty
