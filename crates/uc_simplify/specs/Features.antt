-- What a term brings with it, which the simplifier does not add to.
pub use Rattle.uc_simplify_steps.specs.Features.{integer_form, holds_integer, array_form, is_array, Feature, symbol, function, integer, array, difference, Shows, Bears, Brings, OneBrings, BringsNoMore}
