use Rattle.std.proofs.Common.{◌≡◌, ◌∙◌, sym, ap, subst, refl, All}
use Rattle.uc_ops.specs.Typing.{AllValid, Valid, type_at}
use Rattle.uc_lower.specs.Fields.{leaves}
use Rattle.uc_lower.specs.Steps.{IsBitsType}
use Rattle.uc_lower.specs.Symbols.{is_low, AreSymbols, itself, symbols}
use Rattle.uc_lower.proofs.Standing.{is_low-low, leaves_bits, leaves_all_valid}
use Rattle.uc_lower.proofs.symbols.stand_ins.Goals as goal

pub symbols-requires-clause-leaves : goal.symbols-requires-clause-leaves
symbols-requires-clause-leaves c =
    let is : c.as_slice.result.now ≡ leaves (type_at c.args.terms.now c.args.t) = c.as_slice.ensures.value ∙ c.in_ok-leaves.ensures ∙ ap leaves c.ty-2.ensures.ty in
    subst (All IsBitsType) (sym is) (leaves_bits (type_at c.args.terms.now c.args.t) c.requires.bits)

pub symbols-requires-clause-valid : goal.symbols-requires-clause-valid
symbols-requires-clause-valid c =
    let is : c.as_slice.result.now ≡ leaves (type_at c.args.terms.now c.args.t) = c.as_slice.ensures.value ∙ c.in_ok-leaves.ensures ∙ ap leaves c.ty-2.ensures.ty in
    subst AllValid (sym is) (leaves_all_valid (type_at c.args.terms.now c.args.t) c.requires.bits (subst Valid c.ty-2.ensures.ty c.ty-2.ensures.valid))

pub returns-then-is_kept-clause-stands : goal.returns-then-is_kept-clause-stands
returns-then-is_kept-clause-stands c =
    itself (is_low-low (type_at c.args.terms.now c.args.t) (ap is_low (sym c.ty.ensures.ty) ∙ sym c.is_kept.ensures ∙ c.if-is_kept.true)) c.in_ok-kept.ensures refl refl refl

pub returns-clause-stands : goal.returns-clause-stands
returns-clause-stands c =
    let is : c.as_slice.result.now ≡ leaves (type_at c.args.terms.now c.args.t) = c.as_slice.ensures.value ∙ c.in_ok-leaves.ensures ∙ ap leaves c.ty-2.ensures.ty in
    symbols (subst (λ ls. AreSymbols c.args.terms.now c.symbols.new.terms c.args.next.now c.symbols.new.next ls c.in_ok-symbols.symbols.items c.args.conditions.now.items c.symbols.new.conditions.items) is c.in_ok-symbols.ensures.symbols)
