use Rattle.std.proofs.Common.{ap, sym, ◌∙◌, arith}
use Rattle.carton_queue.specs.Waits.{priority_of}
use Rattle.carton_search.specs.Knowledge.{Knowledge}
use Rattle.carton_search.proofs.Priorities.{few_queued}
use Rattle.carton_search.proofs.known.Known.lower.Goals as goal

pub lower-requires : goal.lower-requires
lower-requires c = (
  c.args.old,
  ap (λ (k : Knowledge). priority_of k.waiting c.args.number) c.self.view_is ∙ c.requires.waits
      ∙ sym (few_queued c.args.old (omega (arith, c.if-old-lt-BUCKETS.true))),
  c.requires.less,
)
