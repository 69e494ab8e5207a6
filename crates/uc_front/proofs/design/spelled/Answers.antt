use Rattle.std.proofs.Common.{◌≡◌, length, map, slice_get, Some, refl, sym, subst, ◌∙◌}
use Rattle.uc_syntax.specs.Contents.{Contents, design_of}
use Rattle.std.proofs.lemmas.List.{length-map}
use Rattle.uc_front.specs.Sources.{words_of}
use Rattle.uc_front.proofs.Names.{kept_to_end, numbers_stay, numbers_below, numbers_count}
use Rattle.uc_front.proofs.Modules.{modules_below}
use Rattle.uc_front.proofs.design.spelled.Goals as goal

pub of-requires-clause-files_named : goal.of-requires-clause-files_named
of-requires-clause-files_named c =
    let kept = kept_to_end c.intern_all.new.names c.parse_all.new.names c.args.sources.now (sym c.in_ok-modules.ensures.names) in
    numbers_below c.parse_all.new.names c.in_ok-files.files (words_of c.args.files.now) (numbers_stay c.intern_all.new.names c.parse_all.new.names c.in_ok-files.files (words_of c.args.files.now) kept c.in_ok-files.ensures.numbers)

pub of-requires-clause-names_known : goal.of-requires-clause-names_known
of-requires-clause-names_known c =
    (modules_below c.parse_all.new.names (length c.args.sources.now) c.args.sources.now c.in_ok-modules.modules (λ _. length c.args.sources.now) c.requires.lexed c.in_ok-modules.ensures.spelled).0

pub of-requires-clause-files_known : goal.of-requires-clause-files_known
of-requires-clause-files_known c =
    let count = numbers_count c.intern_all.new.names c.in_ok-files.files (words_of c.args.files.now) c.in_ok-files.ensures.numbers ∙ length-map c.args.files.now (λ w. w.now) ∙ sym c.requires.count in
    (modules_below c.parse_all.new.names (length c.in_ok-files.files) c.args.sources.now c.in_ok-modules.modules count c.requires.lexed c.in_ok-modules.ensures.spelled).1

pub returns-clause-files : goal.returns-clause-files
returns-clause-files c =
    let kept = kept_to_end c.intern_all.new.names c.parse_all.new.names c.args.sources.now (sym c.in_ok-modules.ensures.names) in
    let stays = numbers_stay c.intern_all.new.names c.parse_all.new.names c.in_ok-files.files (words_of c.args.files.now) kept c.in_ok-files.ensures.numbers in
    subst (λ (d : Contents). map (slice_get d.names) d.files ≡ map (λ f. Some f) (words_of c.args.files.now)) (sym c.in_ok-of.ensures) stays

pub returns-clause-whole : goal.returns-clause-whole
returns-clause-whole c = subst (λ (d : Contents). d ≡ design_of d.names d.files d.modules) (sym c.in_ok-of.ensures) refl
