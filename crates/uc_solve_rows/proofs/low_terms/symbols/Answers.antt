use Rattle.std.proofs.Common.{◌≡◌, ◌<◌, ◌∙◌, arith, length, get_or}
use Rattle.std.proofs.lemmas.Grind.{common_steps}
use Rattle.uc_solve_rows.proofs.Symbols.{fine_at, low_more, types_more}
use Rattle.uc_solve_rows.proofs.low_terms.symbols.Goals as goal

pub symbol-requires : goal.symbol-requires
symbol-requires c =
    let inside : c.loop-place.place < length c.args.types.now = grind (arith, common_steps) in
    let is : c.in_ok-ty.ty ≡ get_or c.args.types.now c.loop-place.place c.in_ok-ty.ty = grind (arith, common_steps) in
    fine_at c.args.types.now c.loop-place.place c.in_ok-ty.ty c.requires.fine inside is

pub loop-place-preserved : goal.loop-place-preserved
loop-place-preserved c =
    let inside : c.loop-place.place < length c.args.types.now = grind (arith, common_steps) in
    let is : c.in_ok-ty.ty ≡ get_or c.args.types.now c.loop-place.place c.in_ok-ty.ty = grind (arith, common_steps) in
    record {
      low =
          rw c.in_ok-push.ensures.items
          (low_more c.loop-place.terms c.symbol.new.terms c.loop-place.symbols.items c.in_ok-added.added c.in_ok-added.ensures.kept c.loop-place.invariant.low c.in_ok-added.ensures.low);
      types =
          rw c.in_ok-push.ensures.items
          (types_more c.loop-place.terms c.symbol.new.terms c.loop-place.symbols.items c.in_ok-added.added c.args.types.now c.loop-place.place c.in_ok-ty.ty c.in_ok-added.ensures.keeps c.loop-place.invariant.low c.loop-place.invariant.types (c.in_ok-added.ensures.ty ∙ is) inside);
    }
