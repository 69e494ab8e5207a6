use Rattle.std.proofs.Common.{ap, ◌∙◌}
use Rattle.uc_layout.specs.declared.symbols.SymbolKind.TheVariants.{Constant, Function}
use Rattle.uc_layout.specs.Listing.{cells_at, code_at, listed}
use Rattle.uc_layout.specs.Symbols.{symbols_listed}
use Rattle.uc_layout.proofs.Tables.{are_tables}
use Rattle.uc_layout.proofs.layout.Layout.of.Goals as goal

pub invariant_of-result : goal.invariant_of-result
invariant_of-result c =
    let view = c.system-view.ensures in
    are_tables c.in_ok-tables.tables c.in_ok-listing.listing.cells c.in_ok-listing.listing.codes c.in_ok-constants.constants c.in_ok-functions.functions
    (c.in_ok-listing.ensures.cells ∙ ap (listed cells_at) view)
    (c.in_ok-listing.ensures.codes ∙ ap (listed code_at) view)
    (c.in_ok-constants.ensures ∙ ap (λ cs. symbols_listed Constant cs c.system-view.result.modules.now) c.as_slice-codes.ensures ∙ ap (λ q. symbols_listed Constant c.in_ok-listing.listing.codes q.modules) view)
    (c.in_ok-functions.ensures ∙ ap (λ cs. symbols_listed Function cs c.system-view.result.modules.now) c.as_slice-codes.ensures ∙ ap (λ q. symbols_listed Function c.in_ok-listing.listing.codes q.modules) view)
