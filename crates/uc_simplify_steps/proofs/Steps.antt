-- Steps after one another, and what is made of them.
use Rattle.std.specs.Prelude.{◌≡◌, ℕ, ◌<◌, IsTrue, List, [], length, All, Result, Ok, Err, IfOk}
use Rattle.std.proofs.Common.{refl, sym, ap, ◌∙◌, subst, inl, inr, get_or}
use Rattle.std.proofs.lemmas.List.{get_or_default}
use Rattle.std.proofs.lemmas.List.Elements.{All-contains, All-nil}
use Rattle.uc_values.specs.Values.{fits}
use Rattle.uc_values.specs.declared.ty.Ty.{Ty}
use Rattle.uc_values.specs.declared.value.Value.{Value}
use Rattle.uc_ops.specs.declared.model.Model.{Model}
use Rattle.uc_ops.specs.declared.op.Op.{Op}
use Rattle.uc_ops.specs.declared.op.Op.TheVariants.{Const, Symbol, App, Diff}
use Rattle.uc_ops.specs.declared.node.Node.{Node}
use Rattle.uc_ops.specs.Typing.{Suits, Valid, is_constant, type_of, type_at, types_at}
use Rattle.uc_ops.specs.Meaning.{apply}
use Rattle.uc_terms.specs.Tables.{WellTyped, HasOp}
use Rattle.uc_terms.specs.Values.{values_at}
use Rattle.uc_terms.specs.Subterms.{itself, IsBelow}
use Rattle.uc_terms.proofs.Grown.{type-node}
use Rattle.uc_terms.proofs.Values.{value-node}
use Rattle.uc_simplify_steps.specs.Features.{Feature, symbol, function, integer, array, difference, Shows, OneBrings}
use Rattle.uc_simplify_steps.specs.Steps.{IsKnown, Replaces, IsRight, IsConstant}
use Rattle.uc_simplify_steps.specs.declared.step.Step.{Step}
use Rattle.uc_simplify_steps.specs.declared.step.Step.TheVariants.{Known, Other}
use Rattle.uc_simplify_steps.proofs.Features.{sub-trans, brings-below, node_of_op}

pub below-itself : (nodes : List Node) (parts : List ℕ) → All (IsBelow nodes parts) parts
below-itself nodes parts = λ k d l. record { root = get_or parts k d; listed = (k, l, get_or_default parts k (get_or parts k d) d l); below = itself }

pub Replaces-itself : (nodes : List Node) (op : Op) (parts : List ℕ) → All (λ p. p < length nodes) parts → Suits op (types_at nodes parts) → Replaces nodes op parts op parts
Replaces-itself nodes op parts b s = record {
  there = b;
  suits = s;
  same = λ m. refl;
  ty = refl;
  shows = λ f h. inl h;
  below = below-itself nodes parts;
}

pub below-trans : (nodes : List Node) (parts others : List ℕ) (k : ℕ) → All (IsBelow nodes others) parts → IsBelow nodes parts k → IsBelow nodes others k
below-trans nodes parts others k a b =
    let r = All-contains (IsBelow nodes others) parts b.root a b.listed in
    record { root = r.root; listed = r.listed; below = sub-trans nodes r.root b.root r.below k b.below }

pub one_brings-below : (nodes : List Node) (parts others : List ℕ) (f : Feature) → All (IsBelow nodes others) parts → OneBrings nodes parts f → OneBrings nodes others f
one_brings-below nodes parts others f a o =
    let r = All-contains (IsBelow nodes others) parts o.one a o.listed in
    record { one = r.root; listed = r.listed; brings = brings-below nodes r.root o.one f r.below o.brings }

pub Replaces-trans : (nodes : List Node) (a b c : Op) (ps qs rs : List ℕ) → Replaces nodes a ps b qs → Replaces nodes b qs c rs → Replaces nodes a ps c rs
Replaces-trans nodes a b c ps qs rs x y = record {
  there = x.there;
  suits = x.suits;
  same = λ m. x.same m ∙ y.same m;
  ty = x.ty ∙ y.ty;
  shows = λ f h. elim (x.shows f h) [ inl i ↦ y.shows f i | inr o ↦ inr (one_brings-below nodes qs rs f y.below o) ];
  below = λ k d l. below-trans nodes qs rs (get_or ps k d) y.below (x.below k d l);
}

pub IsKnown-after : (nodes : List Node) (t : ℕ) (b c : Op) (qs rs : List ℕ) → IsKnown nodes t b qs → Replaces nodes b qs c rs → IsKnown nodes t c rs
IsKnown-after nodes t b c qs rs x y = record {
  there = x.there;
  same = λ m. x.same m ∙ y.same m;
  ty = x.ty ∙ y.ty;
  below = below-trans nodes qs rs t y.below x.below;
}

pub IsRight-after : (nodes : List Node) (step : Step) (b c : Op) (qs rs : List ℕ) → IsRight nodes b qs step → Replaces nodes b qs c rs → IsRight nodes c rs step
IsRight-after nodes (Known t) b c qs rs x y = IsKnown-after nodes t b c qs rs x y
IsRight-after nodes (Other a ps) b c qs rs x y = Replaces-trans nodes a b c ps qs rs x y

-- an operation that is no symbol, function or `Diff`
abbrev pub IsPlain : Op → Type 0
IsPlain (Symbol number ty) = ⊥
IsPlain (App number ty) = ⊥
IsPlain Diff = ⊥
IsPlain other = Unit {0}

-- an operation without a name shows no more than another of its type
pub plain-shows : (op other : Op) (types others : List Ty) (ty own : Ty) (f : Feature) → IsPlain op → ty ≡ own → Shows op types ty f → Shows other others own f
plain-shows op other types others ty own (symbol number s) p e h = absurd (subst IsPlain h p)
plain-shows op other types others ty own (function number arguments s) p e h = absurd (subst IsPlain h.0 p)
plain-shows op other types others ty own integer p e h = subst (λ t. Shows other others t integer) e h
plain-shows op other types others ty own array p e h = subst (λ t. Shows other others t array) e h
plain-shows op other types others ty own difference p e h = absurd (subst IsPlain h p)

-- a constant of the type of the operation
pub constant_replaces : (nodes : List Node) (op : Op) (parts none : List ℕ) (ty : Ty) (v : Value) → ty ≡ type_of op (types_at nodes parts) → Valid ty → IsTrue (is_constant ty) → IsTrue (fits ty v)
    → ((m : Model) → apply m op (types_at nodes parts) (values_at m nodes parts) ≡ v) → none ≡ [] → Replaces nodes (Const ty v) none op parts
constant_replaces nodes op parts none ty v e valid constant fit same n =
    subst (λ ns. Replaces nodes (Const ty v) ns op parts) (sym n) (record {
      there = All-nil (λ p. p < length nodes);
      suits = (refl, valid, constant, fit);
      same = λ m. sym (same m);
      ty = e;
      shows = λ f h. inl (plain-shows (Const ty v) op [] (types_at nodes parts) ty (type_of op (types_at nodes parts)) f tt e h);
      below = All-nil (IsBelow nodes parts);
    })

-- another operation without a name, of the same type
pub plain_replaces : (nodes : List Node) (next op : Op) (own parts : List ℕ) → IsPlain next → All (λ p. p < length nodes) own → Suits next (types_at nodes own)
    → ((m : Model) → apply m next (types_at nodes own) (values_at m nodes own) ≡ apply m op (types_at nodes parts) (values_at m nodes parts))
    → type_of next (types_at nodes own) ≡ type_of op (types_at nodes parts) → All (IsBelow nodes parts) own → Replaces nodes next own op parts
plain_replaces nodes next op own parts p b s same e below = record {
  there = b;
  suits = s;
  same = same;
  ty = e;
  shows = λ f h. inl (plain-shows next op (types_at nodes own) (types_at nodes parts) (type_of next (types_at nodes own)) (type_of op (types_at nodes parts)) f p e h);
  below = below;
}

-- a constant of a table
pub constant_found : (nodes : List Node) (t : ℕ) (ty : Ty) (v : Value) → WellTyped nodes → HasOp nodes t (Const ty v) → IsConstant nodes t v
constant_found nodes t ty v w h =
    let r = node_of_op nodes t (Const ty v) h in
    let fine = w t r.0 r.1 in
    let suits = subst (λ o. Suits o (types_at nodes r.0.parts)) r.2 fine.suits in
    let typed : type_at nodes t ≡ ty = type-node nodes t r.0 r.1 ∙ fine.typed ∙ ap (λ o. type_of o (types_at nodes r.0.parts)) r.2 in
    record {
      constant = subst (λ s. IsTrue (is_constant s)) (sym typed) suits.2;
      fit = subst (λ s. IsTrue (fits s v)) (sym typed) suits.3;
      same = λ m. value-node m nodes t r.0 w r.1 ∙ ap (λ o. apply m o (types_at nodes r.0.parts) (values_at m nodes r.0.parts)) r.2;
    }

pub after_call : {E : Type 0} (nodes : List Node) (o : Result Step E) (b c : Op) (qs rs : List ℕ) → IfOk o (IsRight nodes b qs) → Replaces nodes b qs c rs → IfOk o (IsRight nodes c rs)
after_call nodes (Err e) b c qs rs x y = tt
after_call nodes (Ok s) b c qs rs x y = IsRight-after nodes s b c qs rs x y
