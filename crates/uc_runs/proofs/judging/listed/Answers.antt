use Rattle.std.proofs.Common.{◌≡◌, ◌∙◌, true, false, ap, rules}
use Rattle.uc_meaning.specs.Code.{list_site}
use Rattle.uc_runs.proofs.Sites.{lists_none, lists_one}
use Rattle.uc_runs.proofs.judging.listed.Goals as goal

pub returns-then-is_kept : goal.returns-then-is_kept
returns-then-is_kept c =
    let here : c.args.is_kept ≡ true = search rules in
    lists_none c.args.run c.args.is_kept c.args.place c.args.number here

pub returns : goal.returns
returns c =
    let here : c.args.is_kept ≡ false = search rules in
    lists_one c.args.run c.args.is_kept c.args.place c.args.number c.in_ok-violated.violated here
    (c.in_ok-violated.ensures ∙ ap (λ p. list_site c.args.run.violated (record { path = p; place = c.args.place; requires_ = c.args.number })) (c.in_ok-path.ensures ∙ c.as_slice.ensures))
