use Rattle.std.proofs.Common.{◌≡◌, Some, None, refl, sym, ◌∙◌, ap}
use Rattle.carton_tree.specs.Trees.{Tree, path, first_shared, number_or, parting}
use Rattle.carton_tree.proofs.Meeting.{shared_in, root_above}
use Rattle.carton_tree.proofs.carton.Carton.parting.Goals as goal

pub returns-in-Some-clause-parting : goal.returns-in-Some-clause-parting
unfolding parting
returns-in-Some-clause-parting c =
    let t : Tree = c.args.self.now in
    let told : first_shared (path t.joints c.args.a.0) (path t.joints c.args.b.0) ≡ Some c.in-Some.p = cc in
    sym (ap (number_or t.root) told)

pub returns-in-Some-clause-above_a : goal.returns-in-Some-clause-above_a
returns-in-Some-clause-above_a c =
    let t : Tree = c.args.self.now in
    let told : first_shared (path t.joints c.args.a.0) (path t.joints c.args.b.0) ≡ Some c.in-Some.p = cc in
    (shared_in (path t.joints c.args.a.0) (path t.joints c.args.b.0) c.in-Some.p told).0

pub returns-in-Some-clause-above_b : goal.returns-in-Some-clause-above_b
returns-in-Some-clause-above_b c =
    let t : Tree = c.args.self.now in
    let told : first_shared (path t.joints c.args.a.0) (path t.joints c.args.b.0) ≡ Some c.in-Some.p = cc in
    (shared_in (path t.joints c.args.a.0) (path t.joints c.args.b.0) c.in-Some.p told).1

pub returns-in-None-clause-parting : goal.returns-in-None-clause-parting
unfolding parting
returns-in-None-clause-parting c =
    let t : Tree = c.args.self.now in
    let told : first_shared (path t.joints c.args.a.0) (path t.joints c.args.b.0) ≡ None = cc in
    ap (λ (x : Tree). x.root) c.self.view_is ∙ sym (ap (number_or t.root) told)

pub returns-in-None-clause-above_a : goal.returns-in-None-clause-above_a
returns-in-None-clause-above_a c = root_above _ c.args.self.now c.self.inside.root c.args.a.0 c.self.view_is
    refl c.self.invariant.0 c.requires.a

pub returns-in-None-clause-above_b : goal.returns-in-None-clause-above_b
returns-in-None-clause-above_b c = root_above _ c.args.self.now c.self.inside.root c.args.b.0 c.self.view_is
    refl c.self.invariant.0 c.requires.b
