use Rattle.std.proofs.Common.{◌≡◌, ◌∙◌, ap}
use Rattle.carton_io.proofs.memory_shelf.MemoryShelf.is_failing.Goals as goal

pub returns-clause-due : goal.returns-clause-due
returns-clause-due c =
    let numbers : c.deref.result.now ≡ c.args.self.now.failing = c.deref.ensures.value
    ∙ ap (λ v. v.failing) c.self.view_is in
    let reads : c.self.inside.reads ≡ c.args.self.now.reads = ap (λ v. v.reads) c.self.view_is in
    rw (numbers, reads) at c.is_listed.ensures
