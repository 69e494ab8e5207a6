use Rattle.std.proofs.Common.{◌<◌, sym, subst, length}
use Rattle.uc_ops.specs.Typing.{fields_of}
use Rattle.uc_lower.proofs.Chosen.{field_ready, field_some, field_made}
use Rattle.uc_lower.proofs.nodes.field.Goals as goal

pub bounds-parts-0 : goal.bounds-parts-0
bounds-parts-0 c = field_some c.args.terms.now c.args.lowered.now c.args.t c.args.place c.parts.result.now c.requires.well c.requires.ready c.parts.ensures.parts

pub ty-requires : goal.ty-requires
ty-requires c = (field_ready c.args.terms.now c.args.lowered.now c.args.t c.args.place c.parts.result.now c.index-parts-0.result c.requires.well c.requires.ready c.parts.ensures.parts c.index-parts-0.is).there

pub low_field-low-requires : goal.low_field-low-requires
low_field-low-requires c =
    subst (λ ty. c.args.place < length (fields_of ty)) (sym c.ty.ensures.ty) (field_ready c.args.terms.now c.args.lowered.now c.args.t c.args.place c.parts.result.now c.index-parts-0.result c.requires.well c.requires.ready c.parts.ensures.parts c.index-parts-0.is).within

pub returns : goal.returns
returns c =
    field_made c.args.terms.now c.args.lowered.now c.args.t c.args.place c.index-parts-0.result c.ty.result.now c.low_of.result.now c.parts.result.now c.low_field-low.result.now c.in_ok-low.low.items c.requires.well c.requires.ready c.parts.ensures.parts c.index-parts-0.is
    c.ty.ensures.ty c.low_of.ensures c.low_field-low.ensures c.in_ok-low.ensures.items
