use Rattle.std.proofs.Common.{◌∙◌, ◌<◌, ◌+◌, ◌≡◌, [], ◌∷◌, ◌++◌, length, ap, arith}
use Rattle.carton_queue.specs.Blanks.{filled}
use Rattle.carton_queue.proofs.Filling.{filled_push}
use Rattle.carton_queue.proofs.entries.write_up_to.Goals as goal

pub loop-blank-preserved : goal.loop-blank-preserved
loop-blank-preserved g c =
    let xs = c.loop-blank.written.items in
    let k = c.loop-blank.invariant in
    let short : length xs < c.args.room =
    omega (arith, c.len.ensures, c.loop-blank-test.true, c.requires.at, c.loop-blank.written.ok.0) in
    let more : length c.push.new.self.items ≡ length xs + 1 =
    omega (arith, c.in-Ok.ensures.len, c.push.new.self.ok.0, c.loop-blank.written.ok.0) in
    record {
      space =
          record {
            few = omega (arith, more, short);
            enough = omega (arith, k.space.enough, c.in-Ok.ensures.capacity);
          };
      same = ap (filled c.args.room c.args.blank) {y = xs ++ c.args.blank ∷ []} c.in-Ok.ensures.items
          ∙ filled_push c.args.blank c.args.room xs short ∙ k.same;
    }
