use Rattle.std.proofs.Common.{List, map, ◌∙◌, ap, subst}
use Rattle.std.specs.Prelude.{option_map}
use Rattle.carton_tool.proofs.Answering.{answered, told_long}
use Rattle.carton_tool.specs.Reading.{AreAllRead, IsUnread}
use Rattle.carton_tool.specs.Saying.{IsSaidOf}
use Rattle.carton_words.specs.Asked.{asked, named}
use Rattle.carton_words.specs.Commands.{IsFound, files_of}
use Rattle.carton_words.specs.Words.{texts}
use Rattle.carton_words.specs.declared.givens.Wanted.{Wanted}
use Rattle.carton_tool.proofs.tool.said_to.Goals as goal

pub returns-in-Ok-clause-said : goal.returns-in-Ok-clause-said
returns-in-Ok-clause-said g c =
    let holds = g.S.Shelf.holds c.args.shelf.now in
    let had = g.S.Shelf.had c.read_all.new.shelf in
    let words = texts c.args.words.now in
    let command = asked c.in-Some.command in
    let files = c.in-Ok.files.items in
    let said = c.in_ok-said_of-in-Ok.field-0 in
    let is = subst (λ o. IsFound words (option_map asked o)) c.in-Some.is c.in_ok-command.ensures in
    let names = ap (λ (ws : List Wanted). map named ws) c.deref.ensures.value ∙ c.in_ok-wanted.ensures in
    let read = subst (λ ns. AreAllRead holds had ns files) names c.in-Ok.ensures.all in
    answered holds had words command files said is read
    (subst (λ fs. IsSaidOf command fs said) c.deref-in-Ok.ensures.value c.in_ok-said_of-in-Ok.ensures)

pub returns-in-Err-TooLong-clause-said : goal.returns-in-Err-TooLong-clause-said
returns-in-Err-TooLong-clause-said g c =
    let holds = g.S.Shelf.holds c.args.shelf.now in
    let had = g.S.Shelf.had c.read_all.new.shelf in
    let words = texts c.args.words.now in
    let command = asked c.in-Some.command in
    let said = c.in_ok-refused-in-Err-TooLong.field-0 in
    let is = subst (λ o. IsFound words (option_map asked o)) c.in-Some.is c.in_ok-command.ensures in
    let names = ap (λ (ws : List Wanted). map named ws) c.deref.ensures.value ∙ c.in_ok-wanted.ensures in
    let unread = subst (λ ns. IsUnread holds had ns c.in-Err-TooLong.field-0) names
    c.in-Err-TooLong.ensures.unread in
    told_long holds had words command c.in-Err-TooLong.kind said is
    (subst (λ u. IsUnread holds had (files_of command) u) c.in-Err-TooLong.field-0-is unread)
    c.in_ok-refused-in-Err-TooLong.ensures
