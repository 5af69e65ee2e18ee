use Rattle.std.proofs.Common.{◌∙◌, ap, [], Err, IsErrOf}
use Rattle.carton_io.specs.declared.shelf.ShelfError.{ShelfError}
use Rattle.carton_io.specs.declared.shelf.ShelfError.TheVariants.{TooLong}
use Rattle.carton_words.specs.declared.kinds.FileKind.TheVariants.{Dieline}
use Rattle.carton_words.specs.declared.givens.Wanted.{Wanted}
use Rattle.carton_tool.proofs.Reaching.{read_next, long_next, read_to_end, last_length}
use Rattle.carton_tool.proofs.files.read_all.Goals as goal

abbrev any_file : Wanted
any_file = record { kind = Dieline; name = record { ref_ptr = (0, 0); now = [] } }

pub returns-in-Err-TooLong-clause-unread : goal.returns-in-Err-TooLong-clause-unread
returns-in-Err-TooLong-clause-unread g c =
    let holds = g.S.Shelf.holds in
    let was : IsErrOf (Err c.in-Err-TooLong.field-0) TooLong = ap (λ (e : ShelfError). Err e)
    c.in-Err-TooLong.field-0-is in
    long_next (holds c.args.shelf.now) (holds c.loop-file.shelf) c.args.wanted.now c.loop-file.file-index
    any_file c.loop-file.files.items (g.S.Shelf.had c.read.new.self) c.limit.result
    c.loop-file-test.true c.loop-file.invariant.front c.limit.ensures.value c.loop-file.invariant.stays
    (c.in-Err-TooLong.ensures.too_long was) (c.in-Err-TooLong.ensures.had_more was)

pub loop-file-preserved : goal.loop-file-preserved
loop-file-preserved g c =
    let holds = g.S.Shelf.holds in
    let files = c.loop-file.files.items in
    let bytes = c.in-Ok.bytes.items in
    rw (c.in_ok-push-in-Ok.ensures.items, c.from_vec.ensures) (record {
      front = read_next (holds c.args.shelf.now) (holds c.loop-file.shelf) c.args.wanted.now
          c.loop-file.file-index any_file files bytes c.limit.result
          c.loop-file-test.true c.loop-file.invariant.front c.limit.ensures.value c.loop-file.invariant.stays
          c.in-Ok.ensures.told c.in-Ok.ensures.short;
      last = last_length (g.S.Shelf.had c.read.new.self) files bytes c.in-Ok.ensures.had_all;
      faults = c.in-Ok.ensures.steady (λ e. absurd (cc)) ∙ c.loop-file.invariant.faults;
      unnamed = c.in-Ok.ensures.unnamed (λ e. absurd (cc)) ∙ c.loop-file.invariant.unnamed;
      stays = λ name. c.in-Ok.ensures.stays name ∙ c.loop-file.invariant.stays name;
    })

pub returns-clause-all : goal.returns-clause-all
returns-clause-all g c =
    read_to_end (g.S.Shelf.holds c.args.shelf.now) (g.S.Shelf.had c.loop-file.shelf) c.args.wanted.now
    c.loop-file.file-index c.loop-file.files.items
    c.loop-file-test.false c.loop-file.invariant.front c.loop-file.invariant.last
