use Rattle.std.proofs.Common.{sym, ◌∙◌, arith}
use Rattle.std.proofs.lemmas.List.{length-map}
use Rattle.uc_values.specs.declared.ty.Field.{Field}
use Rattle.uc_values.specs.declared.ty.Ty.{Ty}
use Rattle.uc_values.specs.Values.{Test, tests, fits}
use Rattle.uc_values.proofs.Fitting.{fits-Arr, fit_parts-lengths, last_counts}
use Rattle.uc_values.proofs.fit.+fits.Goals as goal

pub fit_parts-returns-then-fields-parts : goal.fit_parts-returns-then-fields-parts
fit_parts-returns-then-fields-parts t c =
    sym (fit_parts-lengths (tests c.args.fields.now) c.args.parts.now
    (λ e. c.if-fields-parts.true (omega (arith, e, length-map c.args.fields.now (λ (f : Field Ty). let g : Field Test = record { name = f.name; ty = fits f.ty } in g)))))

pub fits-returns-else-not-fit_elements : goal.fits-returns-else-not-fit_elements
fits-returns-else-not-fit_elements t c =
    let index = c.in-Arr.index in
    let element = c.in-Arr.element in
    let default = simp (c.get.ensures, c.get-in-Arr.ensures) at c.if-not-fits.ensures in
    let indices = simp (c.get-in-Arr-2.ensures, c.as_slice-in-Arr.ensures) at c.if-not-fit_indices.ensures in
    let elements = simp (c.get-in-Arr-3.ensures, c.as_slice-in-Arr-2.ensures) at c.if-not-fit_elements.ensures in
    let apart = simp c.as_slice-in-Arr-3.ensures at c.distinct.ensures in
    rw (c.in-Arr.is, c.in-Arr-value.is)
    (apart ∙ sym (fits-Arr index element c.in-Arr-value.default c.in-Arr-value.rows ∙ last_counts _ _ _ _ (sym default) (sym indices) (sym elements)))
