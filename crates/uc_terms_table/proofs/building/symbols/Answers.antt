use Rattle.std.proofs.Common.{◌≡◌, ◌<◌, ◌∙◌, arith, length, get_or}
use Rattle.std.proofs.lemmas.Grind.{common_steps}
use Rattle.uc_terms_table.proofs.Symbols.{valid_at, there_more, types_more}
use Rattle.uc_terms_table.proofs.building.symbols.Goals as goal

pub symbol-requires : goal.symbol-requires
symbol-requires c =
    let inside : c.loop-place.place < length c.args.types.now = grind (arith, common_steps) in
    let is : c.in_ok-ty.ty ≡ get_or c.args.types.now c.loop-place.place c.in_ok-ty.ty = grind (arith, common_steps) in
    valid_at c.args.types.now c.loop-place.place c.in_ok-ty.ty c.requires.valid inside is

pub loop-place-preserved : goal.loop-place-preserved
loop-place-preserved c =
    let inside : c.loop-place.place < length c.args.types.now = grind (arith, common_steps) in
    let is : c.in_ok-ty.ty ≡ get_or c.args.types.now c.loop-place.place c.in_ok-ty.ty = grind (arith, common_steps) in
    record {
      there =
          rw c.in_ok-push.ensures.items
          (there_more c.loop-place.terms c.symbol.new.terms c.loop-place.symbols.items c.in_ok-added.added c.in_ok-added.ensures.keeps c.loop-place.invariant.there c.in_ok-added.ensures.there);
      types =
          rw c.in_ok-push.ensures.items
          (types_more c.loop-place.terms c.symbol.new.terms c.loop-place.symbols.items c.in_ok-added.added c.args.types.now c.loop-place.place c.in_ok-ty.ty c.in_ok-added.ensures.keeps c.loop-place.invariant.there c.loop-place.invariant.types (c.in_ok-added.ensures.ty ∙ is) inside);
    }
