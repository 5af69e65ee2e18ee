use Rattle.std.proofs.Common.{◌≡◌, List, [], ◌∷◌, ◌++◌, false, length, refl, ap, sym, ◌∙◌, subst}
use Rattle.carton_search.specs.declared.known.Entry.{Entry}
use Rattle.carton_search.specs.Knowledge.{Knowledge, with_priority}
use Rattle.carton_search.specs.Turns.{Going}
use Rattle.carton_search.proofs.Outcomes.{started}
use Rattle.carton_search.proofs.finding.begin.Goals as goal

pub returns : goal.returns
returns c = λ carton.
    let task = c.args.task.now in
    let k = c.args.known.now in
    let e : Entry = record { state = task.start; parent = 0; moves = 0; tried = false } in
    let number = c.in_ok-number.number in
    let none = c.requires.blank.entries in
    let added : c.add.new.self ≡ record k { entries = e ∷ [] } = c.in_ok-number.ensures.added
    ∙ ap (λ (es : List Entry). record k { entries = es ++ e ∷ [] }) none in
    subst (λ (m : Knowledge). Going task carton m 0 0)
    (sym (c.put.ensures ∙ ap (λ (m : Knowledge). with_priority m number c.estimate.result) added))
    (started task carton c.requires.rules k c.requires.blank e refl refl refl number c.estimate.result
    (c.in_ok-number.ensures.number ∙ ap length none) c.estimate.ensures.value)
