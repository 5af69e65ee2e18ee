use Rattle.std.proofs.Common.{Err, IsErrOf, refl, sym, ap, ◌∙◌}
use Rattle.std.specs.Io.KnownBytes.{Appends}
use Rattle.carton_tool.proofs.Answering.{bad_words_where_none}
use Rattle.carton_tool.proofs.Determined.{determined}
use Rattle.carton_tool.proofs.Ends.{bad_or_fault}
use Rattle.carton_tool.proofs.Fixtures.{tells_made, tells_good, tells_why_not_made, tells_fault}
use Rattle.carton_tool.proofs.Headline.{tells_safe, tells_least, found_in_reach}
use Rattle.carton_tool.proofs.Sound.{sound_where_done, made_where_told}
use Rattle.carton_tool.specs.Saying.{status_of}
use Rattle.carton_tool.specs.declared.halt.Halt.{Halt}
use Rattle.carton_tool.specs.declared.halt.Halt.TheVariants.{ReadFault}
use Rattle.carton_words.specs.Words.{texts}
use Rattle.carton_tool.proofs.tool.run.Goals as goal

pub returns-in-Ok-clause-no_command : goal.returns-in-Ok-clause-no_command
returns-in-Ok-clause-no_command g c = λ none.
    let a = c.in-Ok.ensures.said in
    bad_or_fault c.say.result c.in-Ok.said.ended (λ whole. (c.say.ensures.said whole).0)
    (bad_words_where_none (texts c.args.words.now) a.0 c.in-Ok.said a.2 none)

pub returns-in-Ok-clause-wrote_part : goal.returns-in-Ok-clause-wrote_part
returns-in-Ok-clause-wrote_part g c = λ fault.
    let a = c.in-Ok.ensures.said in (
      status_of c.in-Ok.said.ended,
      (
        a.0,
        a.1,
        c.in-Ok.said.text,
        (c.in-Ok.said, a.2, refl, refl),
        c.say.ensures.part fault,
      ),
    )

pub returns-in-Ok-clause-safe : goal.returns-in-Ok-clause-safe
returns-in-Ok-clause-safe g c = λ done.
    let a = c.in-Ok.ensures.said in
    let told = c.say.ensures.said (λ e. absurd (cc)) in
    tells_safe (g.S.Shelf.holds c.args.shelf.now) _ (texts c.args.words.now) a.0 c.in-Ok.said
    (Appends (g.K.Sink.written c.args.sink.now) (g.K.Sink.written c.say.new.sink)) a.1 a.2
    (sym told.0 ∙ done) told.1

pub returns-in-Ok-clause-least : goal.returns-in-Ok-clause-least
returns-in-Ok-clause-least g c = λ done.
    let a = c.in-Ok.ensures.said in
    let told = c.say.ensures.said (λ e. absurd (cc)) in
    tells_least (g.S.Shelf.holds c.args.shelf.now) _ (texts c.args.words.now) a.0 c.in-Ok.said
    (Appends (g.K.Sink.written c.args.sink.now) (g.K.Sink.written c.say.new.sink)) a.1 a.2
    (sym told.0 ∙ done) told.1

pub returns-in-Ok-clause-found : goal.returns-in-Ok-clause-found
returns-in-Ok-clause-found g c =
    let a = c.in-Ok.ensures.said in
    found_in_reach (g.S.Shelf.holds c.args.shelf.now) _ (texts c.args.words.now) a.0 c.in-Ok.said c.say.result
    a.1 a.2 (λ whole. (c.say.ensures.said whole).0)

pub returns-in-Ok-clause-holds_sound : goal.returns-in-Ok-clause-holds_sound
returns-in-Ok-clause-holds_sound g c = λ done.
    let a = c.in-Ok.ensures.said in
    let told = c.say.ensures.said (λ e. absurd (cc)) in
    sound_where_done (g.S.Shelf.holds c.args.shelf.now) _ (texts c.args.words.now) a.0 c.in-Ok.said a.1 a.2
    (sym told.0 ∙ done)

pub returns-in-Ok-clause-made_sound : goal.returns-in-Ok-clause-made_sound
returns-in-Ok-clause-made_sound g c = λ done.
    let a = c.in-Ok.ensures.said in
    let told = c.say.ensures.said (λ e. absurd (cc)) in
    made_where_told (texts c.args.words.now) a.0 c.in-Ok.said
    (Appends (g.K.Sink.written c.args.sink.now) (g.K.Sink.written c.say.new.sink)) a.2 told.1

pub returns-in-Ok-clause-fixture_good : goal.returns-in-Ok-clause-fixture_good
returns-in-Ok-clause-fixture_good g c = λ done.
    let a = c.in-Ok.ensures.said in
    let told = c.say.ensures.said (λ e. absurd (cc)) in
    tells_made (g.S.Shelf.holds c.args.shelf.now) _ (texts c.args.words.now) a.0 c.in-Ok.said
    (Appends (g.K.Sink.written c.args.sink.now) (g.K.Sink.written c.say.new.sink)) a.1 a.2
    (sym told.0 ∙ done) told.1

pub returns-in-Ok-clause-verified_good : goal.returns-in-Ok-clause-verified_good
returns-in-Ok-clause-verified_good g c = λ done.
    let a = c.in-Ok.ensures.said in
    let told = c.say.ensures.said (λ e. absurd (cc)) in
    tells_good (g.S.Shelf.holds c.args.shelf.now) _ (texts c.args.words.now) a.0 c.in-Ok.said
    (Appends (g.K.Sink.written c.args.sink.now) (g.K.Sink.written c.say.new.sink)) a.1 a.2
    (sym told.0 ∙ done) told.1

pub returns-in-Ok-clause-refused_cause : goal.returns-in-Ok-clause-refused_cause
returns-in-Ok-clause-refused_cause g c = λ refused.
    let a = c.in-Ok.ensures.said in
    let told = c.say.ensures.said (λ e. absurd (cc)) in
    tells_why_not_made (g.S.Shelf.holds c.args.shelf.now) _ (texts c.args.words.now) a.0 c.in-Ok.said
    (Appends (g.K.Sink.written c.args.sink.now) (g.K.Sink.written c.say.new.sink)) a.1 a.2
    (sym told.0 ∙ refused) told.1

pub returns-in-Ok-clause-fault_cause : goal.returns-in-Ok-clause-fault_cause
returns-in-Ok-clause-fault_cause g c = λ refused.
    let a = c.in-Ok.ensures.said in
    let told = c.say.ensures.said (λ e. absurd (cc)) in
    tells_fault (g.S.Shelf.holds c.args.shelf.now) _ (texts c.args.words.now) a.0 c.in-Ok.said
    (Appends (g.K.Sink.written c.args.sink.now) (g.K.Sink.written c.say.new.sink)) a.1 a.2
    (sym told.0 ∙ refused) told.1

pub returns-in-Ok-clause-determined : goal.returns-in-Ok-clause-determined
returns-in-Ok-clause-determined g c = determined (texts c.args.words.now)

pub returns-in-Err-ReadFault-clause-no_command : goal.returns-in-Err-ReadFault-clause-no_command
returns-in-Err-ReadFault-clause-no_command g c = λ none.
    let was : IsErrOf (Err c.in-Err-ReadFault.field-0) ReadFault = ap (λ (e : Halt). Err e)
    c.in-Err-ReadFault.field-0-is in
    let known = c.in-Err-ReadFault.ensures.command was in
    absurd (none known.0 known.1)

pub returns-in-Err-ReadFault-clause-determined : goal.returns-in-Err-ReadFault-clause-determined
returns-in-Err-ReadFault-clause-determined g c = determined (texts c.args.words.now)

pub returns-in-Err-NoMemory-clause-determined : goal.returns-in-Err-NoMemory-clause-determined
returns-in-Err-NoMemory-clause-determined g c = determined (texts c.args.words.now)
