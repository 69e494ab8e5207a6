use Rattle.std.proofs.Common.{◌≡◌, ◌∙◌, ℕ, List, All, ap, sym, subst}
use Rattle.uc_values.specs.declared.ty.Ty.{Ty}
use Rattle.uc_ops.specs.Typing.{Suits, type_of, types_at}
use Rattle.uc_blast.specs.Words.{is_bits}
use Rattle.uc_solve_rows.specs.Low.{IsLow}
use Rattle.uc_solve_rows.proofs.comparing.applied.Goals as goal

pub made-requires-clause-suits : goal.made-requires-clause-suits
made-requires-clause-suits c =
    let same = ap (types_at c.symbols.new.terms) c.as_slice.ensures.value ∙ c.in_ok-parts.ensures.types in
    subst (Suits c.args.op) (sym same) c.requires.suits

pub made-requires-clause-parts : goal.made-requires-clause-parts
made-requires-clause-parts c = subst (λ (ts : List ℕ). All (IsLow c.symbols.new.terms) ts) (sym c.as_slice.ensures.value) c.in_ok-parts.ensures.low

pub made-requires-clause-bits : goal.made-requires-clause-bits
made-requires-clause-bits c =
    let same = ap (types_at c.symbols.new.terms) c.as_slice.ensures.value ∙ c.in_ok-parts.ensures.types in
    ap (λ (ts : List Ty). is_bits (type_of c.args.op ts)) same ∙ c.requires.bits
