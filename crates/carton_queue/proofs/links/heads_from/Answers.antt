use Rattle.std.proofs.Common.{◌≡◌, ◌+◌, List, length, ap, ◌∙◌, arith}
use Rattle.carton_queue.specs.declared.links.Link.{Link}
use Rattle.carton_queue.specs.Linked.{next_of, previous_of}
use Rattle.carton_queue.proofs.Places.{part_push}
use Rattle.carton_queue.proofs.links.heads_from.Goals as goal

pub loop-i-preserved : goal.loop-i-preserved
loop-i-preserved c =
    let xs = c.loop-i.heads.items in
    let s = c.args.start in
    let x : Link = record { next = s + c.loop-i.i; previous = s + c.loop-i.i } in
    let long : length xs ≡ c.loop-i.i = c.loop-i.invariant.long in
    let n : length c.push.new.self.items ≡ length xs + 1 =
    omega (arith, c.in_ok-push.ensures.len, c.push.new.self.ok.0, c.loop-i.heads.ok.0) in
    record {
      long = omega (arith, n, long);
      next = λ k l. ap (λ (ys : List Link). next_of ys k) c.in_ok-push.ensures.items
          ∙ part_push (λ x. x.next) s xs x c.loop-i.invariant.next
          (omega (arith, long)) k (omega (arith, l, n));
      previous = λ k l. ap (λ (ys : List Link). previous_of ys k) c.in_ok-push.ensures.items
          ∙ part_push (λ x. x.previous) s xs x c.loop-i.invariant.previous
          (omega (arith, long)) k (omega (arith, l, n));
    }
