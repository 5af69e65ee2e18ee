use Rattle.std.proofs.Common.{◌≡◌, List, Some, None, not, map, ◌++◌, sym, ap, ◌∙◌}
use Rattle.std.specs.List.{find}
use Rattle.carton_base.specs.declared.ids.EdgeId.{EdgeId}
use Rattle.carton_text.specs.declared.job.Setting.{Setting}
use Rattle.carton_text.specs.declared.job.TeamLine.{TeamLine}
use Rattle.carton_text.specs.JobRules.{members}
use Rattle.carton_text.specs.Tasks.{is_among}
use Rattle.carton_text.proofs.Finding.{in_first, in_second}
use Rattle.carton_text.proofs.strangers.first_stranger.Goals as goal

abbrev edge_of : Setting → EdgeId
edge_of s = s.edge

pub returns-in-Some : goal.returns-in-Some
returns-in-Some c =
    let p = λ (e : EdgeId). not (is_among e c.args.creases.now) in
    let starts = map edge_of c.args.job.now.starts in
    let targets = map edge_of c.args.job.now.targets in
    let found : find p starts ≡ Some c.in-Some.edge =
    ap (λ (ss : List Setting). find p (map edge_of ss)) (sym c.as_slice.ensures)
    ∙ sym c.in-Some.ensures in
    sym (in_first p (starts ++ targets) (members c.args.job.now.teams) _ (in_first p starts targets _ found))

pub returns-in-Some-first_set : goal.returns-in-Some-first_set
returns-in-Some-first_set c =
    let p = λ (e : EdgeId). not (is_among e c.args.creases.now) in
    let starts = map edge_of c.args.job.now.starts in
    let targets = map edge_of c.args.job.now.targets in
    let none : find p starts ≡ None =
    ap (λ (ss : List Setting). find p (map edge_of ss)) (sym c.as_slice.ensures)
    ∙ sym c.in_default.ensures in
    let found : find p targets ≡ Some c.in-Some-first_set.edge =
    ap (λ (ss : List Setting). find p (map edge_of ss)) (sym c.as_slice-2.ensures)
    ∙ sym c.in-Some-first_set.ensures in
    sym (in_first p (starts ++ targets) (members c.args.job.now.teams) _ (in_second p starts targets none
    ∙ found))

pub returns : goal.returns
returns c =
    let p = λ (e : EdgeId). not (is_among e c.args.creases.now) in
    let starts = map edge_of c.args.job.now.starts in
    let targets = map edge_of c.args.job.now.targets in
    let none : find p starts ≡ None =
    ap (λ (ss : List Setting). find p (map edge_of ss)) (sym c.as_slice.ensures)
    ∙ sym c.in_default.ensures in
    let neither : find p targets ≡ None =
    ap (λ (ss : List Setting). find p (map edge_of ss)) (sym c.as_slice-2.ensures)
    ∙ sym c.in_default-first_set.ensures in
    c.first_member.ensures ∙ ap (λ (ts : List TeamLine). find p (members ts)) c.as_slice-3.ensures
    ∙ sym (in_second p (starts ++ targets) (members c.args.job.now.teams) (in_second p starts targets none
    ∙ neither))
