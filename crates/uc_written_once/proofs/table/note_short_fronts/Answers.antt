use Rattle.std.proofs.Common.{◌≡◌, take, below_more, ap, ◌∙◌, subst, true}
use Rattle.uc_meaning.specs.Steps.{is_prefix}
use Rattle.uc_written_once.specs.Places.{AreNoted}
use Rattle.uc_written_once.proofs.KnownPlaces.{notes_front, notes_more}
use Rattle.uc_written_once.proofs.Overlaps.{front_taken}
use Rattle.uc_written_once.proofs.table.note_short_fronts.Goals as goal

pub loop-end-preserved : goal.loop-end-preserved
loop-end-preserved c =
    let passes : is_prefix c.front_of.result.now c.args.path.now ≡ true = ap (λ p. is_prefix p c.args.path.now) c.front_of.ensures ∙ front_taken c.loop-end.end c.args.path.now in
    record {
      known = λ h. c.in_ok-note_front.ensures.known (c.loop-end.invariant.known h);
      noted =
          below_more _ _
          (λ k less. notes_more is_prefix c.args.parts.now c.loop-end.places c.note_front.new.places c.front_of.result.now c.in_ok-note_front.ensures.ok c.args.path.now passes (take k c.args.path.now) (c.loop-end.invariant.noted k less))
          (subst (λ p. AreNoted is_prefix c.note_front.new.places c.args.parts.now c.args.path.now p) c.front_of.ensures
          (notes_front is_prefix c.args.parts.now c.loop-end.places c.note_front.new.places c.front_of.result.now c.in_ok-note_front.ensures.ok c.args.path.now passes));
    }
