use Rattle.std.proofs.Common.{◌≡◌, ◌<◌, length, arith, true, false, get_or, refl, ap, ◌∙◌, sym, rules}
use Rattle.uc_layout.specs.Kept.{lent, KeepsField}
use Rattle.uc_layout.proofs.Touching.{keeps_covered, keeps_whole, keeps_all, no_field, by_fields, record_fields, fields_more, to_field}
use Rattle.uc_layout.proofs.parts.+keeps.Goals as goal

pub keeps_fields-loop-field-preserved : goal.keeps_fields-loop-field-preserved
keeps_fields-loop-field-preserved t c =
    let held : c.in_ok-keeps.keeps ≡ true = search rules in
    let some : 0 < length c.args.fields.now = omega arith in
    let within : c.field_number-place.result < length c.args.fields.now = c.field_number-place.ensures.within some in
    let item : c.index-fields-place.result ≡ get_or c.args.fields.now c.field_number-place.result c.index-fields-place.result = search rules in
    record {
      missing = c.loop-field.invariant.missing;
      keeps = fields_more c.args.fields.now (KeepsField c.args.fields.now c.args.old.now c.args.new.now (lent c.args.written.now)) c.loop-field.field-index c.field-item.result c.loop-field-test.true c.field-item.is c.loop-field.invariant.keeps
          (to_field c.args.fields.now c.args.old.now c.args.new.now (lent c.args.written.now) c.field-item.result.name c.field_number-place.result c.field_number-place.ensures.is (get_or c.args.fields.now c.field_number-place.result c.index-fields-place.result) within (ap (get_or c.args.fields.now c.field_number-place.result) item) _ c.loop-field.invariant.missing
          _ _ c.part_or.ensures c.part_or-in-loop-field.ensures (lent c.as_slice.result.now) (ap lent c.as_slice.ensures ∙ c.in_ok-inside.ensures) (c.in_ok-keeps.ensures.0 held));
    }

pub keeps_parts-returns-then-is_covered : goal.keeps_parts-returns-then-is_covered
keeps_parts-returns-then-is_covered t c =
    let covered : c.is_covered.result ≡ true = search rules in
    (λ _. keeps_covered c.args.ty.now c.args.old.now c.args.new.now (lent c.args.written.now) (sym c.is_covered.ensures ∙ covered), λ _. refl)

pub keeps_parts-returns-then-not-keeps_whole : goal.keeps_parts-returns-then-not-keeps_whole
keeps_parts-returns-then-not-keeps_whole t c =
    let failed : c.keeps_whole.result ≡ false = search rules in
    (λ h. let no : ⊥ = cc in absurd no, λ keeps. sym failed ∙ c.keeps_whole.ensures.1 (keeps_whole c.args.ty.now c.args.old.now c.args.new.now (lent c.args.written.now) keeps))

pub keeps_parts-returns-in-Rec : goal.keeps_parts-returns-in-Rec
keeps_parts-returns-in-Rec t c =
    let held : c.keeps_whole.result ≡ true = search rules in
    let open_parts : c.is_covered.result ≡ false = search rules in
    by_fields c.args.ty.now c.args.old.now c.args.new.now (lent c.args.written.now) (sym c.is_covered.ensures ∙ open_parts) (c.keeps_whole.ensures.0 held)
    c.as_slice-fields.result.now (record_fields c.args.ty.now c.in-Rec.fields c.in-Rec.is ∙ sym c.as_slice-fields.ensures)
    c.parts_of.result.now c.parts_of.ensures c.parts_of-in-Rec.result.now c.parts_of-in-Rec.ensures c.keeps_fields.result c.keeps_fields.ensures

pub keeps_parts-returns-in_default : goal.keeps_parts-returns-in_default
keeps_parts-returns-in_default t c =
    let held : c.keeps_whole.result ≡ true = search rules in
    let open_parts : c.is_covered.result ≡ false = search rules in (
      λ _. keeps_all c.args.ty.now c.args.old.now c.args.new.now (lent c.args.written.now) (sym c.is_covered.ensures ∙ open_parts) (c.keeps_whole.ensures.0 held)
          (λ f there. no_field c.args.ty.now c.in_default.not-Rec f there),
      λ _. refl,
    )
