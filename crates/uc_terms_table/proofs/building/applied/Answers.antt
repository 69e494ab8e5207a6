use Rattle.std.proofs.Common.{◌∙◌, ap, sym, subst}
use Rattle.uc_ops.specs.Typing.{Suits, types_at}
use Rattle.uc_terms_table.proofs.Symbols.{AllIn}
use Rattle.uc_terms_table.proofs.building.applied.Goals as goal

pub made-requires-clause-there : goal.made-requires-clause-there
made-requires-clause-there c = subst (AllIn c.symbols.new.terms) (sym c.as_slice.ensures.value) c.in_ok-parts.ensures.there

pub made-requires-clause-suits : goal.made-requires-clause-suits
made-requires-clause-suits c =
    let same = ap (types_at c.symbols.new.terms) c.as_slice.ensures.value ∙ c.in_ok-parts.ensures.types in
    subst (Suits c.args.op) (sym same) c.requires.suits
