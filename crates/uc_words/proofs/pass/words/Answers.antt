use Rattle.std.proofs.Common.{◌+◌, Result, Ok, Err, OnErr, refl}
use Rattle.uc_words.specs.Words.{HasFrontOf}
use Rattle.uc_words.proofs.Names.{kept_twice}
use Rattle.uc_words.proofs.TokenByToken.{within_at, words_more, names_more, all_words}
use Rattle.uc_words.proofs.Below.{names_below, files_below}
use Rattle.uc_words.proofs.pass.words.Goals as goal

on_err : {A E P : Type 0} (r : Result A E) → P → OnErr r P
on_err (Ok a) p = tt
on_err (Err e) p = p

pub kind_of-requires-clause-start : goal.kind_of-requires-clause-start
kind_of-requires-clause-start c = (within_at c.args.text.now c.args.tokens.now c.loop-token.token-index _ c.requires c.loop-token-test.true).0

pub kind_of-requires-clause-end : goal.kind_of-requires-clause-end
kind_of-requires-clause-end c = (within_at c.args.text.now c.args.tokens.now c.loop-token.token-index _ c.requires c.loop-token-test.true).1

pub loop-token-preserved : goal.loop-token-preserved
loop-token-preserved c =
    let so_far = c.loop-token.invariant in
    let within = c.loop-token-test.true in
    let kind = c.in_ok-kind.ensures in
    record {
      words = words_more c.loop-token.names c.kind_of.new.names c.args.text.now c.args.tokens.now c.loop-token.words.items c.push.new.self.items c.loop-token.token-index _ _ so_far.words kind.kept within refl kind.kind c.in_ok-push.ensures.items;
      names = names_more c.args.names.now c.loop-token.names c.kind_of.new.names c.args.text.now c.args.tokens.now c.loop-token.token-index _ so_far.names within kind.names;
      kept = kept_twice c.args.names.now c.loop-token.names c.kind_of.new.names so_far.kept kind.kept;
    }

pub returns-clause-names_known : goal.returns-clause-names_known
returns-clause-names_known c =
    names_below c.loop-token.names c.args.text.now c.args.tokens.now c.loop-token.words.items
    (all_words c.loop-token.names c.args.text.now c.args.tokens.now c.loop-token.words.items c.loop-token.token-index c.loop-token.invariant.words c.loop-token-test.false)

pub returns-clause-files_known : goal.returns-clause-files_known
returns-clause-files_known c =
    λ n. files_below n c.loop-token.names c.args.text.now c.args.tokens.now c.loop-token.words.items
    (all_words c.loop-token.names c.args.text.now c.args.tokens.now c.loop-token.words.items c.loop-token.token-index c.loop-token.invariant.words c.loop-token-test.false)

pub returns-in_err-push-clause-err : goal.returns-in_err-push-clause-err
returns-in_err-push-clause-err c =
    let front : HasFrontOf c.args.names.now c.args.text.now c.args.tokens.now c.kind_of.new.names = (
      c.loop-token.token-index + 1,
      names_more c.args.names.now c.loop-token.names c.kind_of.new.names c.args.text.now c.args.tokens.now c.loop-token.token-index _ c.loop-token.invariant.names c.loop-token-test.true c.in_ok-kind.ensures.names,
    ) in
    on_err _ front
