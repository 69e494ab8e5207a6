use Rattle.std.proofs.Common.{◌≡◌, ◌∙◌, sym, ap, subst}
use Rattle.uc_ops.specs.Typing.{Suits, types_at}
use Rattle.uc_terms.specs.Tables.{parts_at}
use Rattle.uc_lower.specs.Made.{Within, IsMade}
use Rattle.uc_lower.specs.Steps.{IsLowOf, joined_lows}
use Rattle.uc_lower.proofs.Inner.{joined_within, plain_suits, plain_low}
use Rattle.uc_lower.proofs.nodes.plain.Goals as goal

pub made-requires-clause-there : goal.made-requires-clause-there
made-requires-clause-there c =
    let is : c.as_slice.result.now ≡ joined_lows c.args.lowered.now (parts_at c.args.terms.now c.args.t) = c.as_slice.ensures.value ∙ c.in_ok-parts.ensures ∙ ap (joined_lows c.args.lowered.now) c.parts.ensures.parts in
    subst (Within c.args.terms.now) (sym is) (joined_within c.args.terms.now c.args.lowered.now (parts_at c.args.terms.now c.args.t) c.requires.ready.low)

pub made-requires-clause-suits : goal.made-requires-clause-suits
made-requires-clause-suits c =
    let is : c.as_slice.result.now ≡ joined_lows c.args.lowered.now (parts_at c.args.terms.now c.args.t) = c.as_slice.ensures.value ∙ c.in_ok-parts.ensures ∙ ap (joined_lows c.args.lowered.now) c.parts.ensures.parts in
    subst (λ op. Suits op (types_at c.args.terms.now c.as_slice.result.now)) (sym c.in_ok-op.ensures) (subst (λ us. Suits c.args.op.now (types_at c.args.terms.now us)) (sym is) (plain_suits c.args.terms.now c.args.lowered.now c.args.t c.args.op.now c.requires.well c.requires.ready c.requires.plain))

pub returns-clause-low : goal.returns-clause-low
returns-clause-low c =
    let is : c.as_slice.result.now ≡ joined_lows c.args.lowered.now (parts_at c.args.terms.now c.args.t) = c.as_slice.ensures.value ∙ c.in_ok-parts.ensures ∙ ap (joined_lows c.args.lowered.now) c.parts.ensures.parts in
    subst (IsLowOf c.args.terms.now c.made.new.terms c.args.lowered.now c.args.t) (sym c.in_ok-low.ensures)
    (plain_low c.args.terms.now c.made.new.terms c.args.lowered.now c.args.t c.in_ok-same.same c.args.op.now c.requires.well c.requires.ready c.requires.plain (subst (IsMade c.args.terms.now c.made.new.terms c.in_ok-same.same c.args.op.now) is (subst (λ op. IsMade c.args.terms.now c.made.new.terms c.in_ok-same.same op c.as_slice.result.now) c.in_ok-op.ensures c.in_ok-same.ensures.made)))
