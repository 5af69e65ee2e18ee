use Rattle.std.proofs.Common.{arith}
use Rattle.carton_stroke.proofs.Noted.{none_past}
use Rattle.carton_stroke.proofs.clearing.note_moves.Goals as goal

pub returns : goal.returns
returns c =
    let h = c.loop-i.invariant in
    record {
      count = h.count;
      each = λ k b m lt. none_past c.args.carton.now c.args.states.now c.args.stroke
          c.args.slack c.loop-i.i _ _ _ (omega (arith, c.loop-i-test.false)) (h.each k b m lt);
    }
