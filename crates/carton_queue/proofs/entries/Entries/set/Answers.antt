use Rattle.std.proofs.Common.{◌∙◌, ap}
use Rattle.std.proofs.Math.ListN.{set}
use Rattle.carton_queue.proofs.Filling.{filled_set}
use Rattle.carton_queue.proofs.entries.Entries.set.Goals as goal

pub returns : goal.returns
returns g c =
    let s = c.self.inside in
    filled_set s.blank s.room c.write_up_to.new.written.items c.args.at c.args.entry
    c.write_up_to.ensures.there ∙ ap (λ xs. set xs c.args.at c.args.entry) (c.write_up_to.ensures.same
    ∙ c.self.view_is)
