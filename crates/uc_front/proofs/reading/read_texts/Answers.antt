use Rattle.std.proofs.Common.{rules, refl}
use Rattle.uc_front.specs.Sources.{words_of}
use Rattle.uc_front.proofs.Lists.{word_at, room_more, count_more}
use Rattle.uc_front.proofs.Texts.{told_more}
use Rattle.uc_front.proofs.reading.read_texts.Goals as goal

pub loop-number-preserved : goal.loop-number-preserved
loop-number-preserved g c =
    let so_far = c.loop-number.invariant in
    let read = c.in_ok-text.ensures in
    record {
      each = told_more _ _ _ _ (words_of c.args.files.now) c.loop-number.number c.loop-number.found c.push.new.self _ c.in_ok-text.text so_far.telling so_far.holding (word_at c.args.files.now c.loop-number.number _ _ c.loop-number-test.true refl) so_far.each read.read c.in_ok-push.ensures.ok;
      count = count_more c.loop-number.found c.push.new.self c.in_ok-text.text c.loop-number.number c.in_ok-push.ensures.ok so_far.count;
      room = room_more c.loop-number.found c.push.new.self c.in_ok-text.text c.loop-number.room c.len.result _ c.in_ok-push.ensures.ok c.len.ensures read.within so_far.room;
      no_fault = search rules;
      telling = search rules;
      holding = search rules;
    }
