use Rattle.uc_front.specs.Sources.{words_of}
use Rattle.uc_front.proofs.Lists.{word_at}
use Rattle.uc_front.proofs.Names.{files_more, numbers_pushed}
use Rattle.uc_front.proofs.parsing.intern_all.Goals as goal

pub loop-file-preserved : goal.loop-file-preserved
loop-file-preserved c =
    let so_far = c.loop-file.invariant in
    let added = c.in_ok-number.ensures in
    let at = word_at c.args.files.now c.loop-file.file-index _ c.as_bytes.result.now c.loop-file-test.true c.as_bytes.ensures.value in
    record {
      names = files_more c.args.names.now c.loop-file.names c.intern.new.self (words_of c.args.files.now) c.loop-file.file-index c.as_bytes.result.now at so_far.names added.names;
      numbers = numbers_pushed c.loop-file.names c.intern.new.self c.loop-file.numbers c.push.new.self c.in_ok-number.number (words_of c.args.files.now) c.loop-file.file-index c.as_bytes.result.now at added.kept so_far.numbers added.text c.in_ok-push.ensures.ok;
    }
