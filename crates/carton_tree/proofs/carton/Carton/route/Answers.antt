use Rattle.std.proofs.Common.{◌≡◌, List, ◌++◌, map, reverse, ◌∙◌, ap, subst}
use Rattle.carton_base.specs.declared.motion.Turn.{Turn}
use Rattle.carton_model.specs.Turning.{turned_back}
use Rattle.carton_tree.specs.Trees.{Tree, IsRoute, parting, turns_between, turns_up}
use Rattle.carton_tree.proofs.carton.Carton.route.Goals as goal

pub returns : goal.returns
unfolding turns_between
returns c =
    let t : Tree = c.args.self.now in
    let up : c.turns.result.now ≡ turns_up t.joints c.args.p.0 (parting t c.args.p.0 c.args.frame.0) =
    c.turns.ensures.turns ∙ ap (turns_up t.joints c.args.p.0) c.parting-top.ensures.parting in
    let down : c.turns-2.result.now ≡ turns_up t.joints c.args.frame.0 (parting t c.args.p.0 c.args.frame.0) =
    c.turns-2.ensures.turns ∙ ap (turns_up t.joints c.args.frame.0) c.parting-top.ensures.parting in
    let whole = ap (λ (x : List Turn). x ++ reverse (map turned_back c.turns-2.result.now)) up
    ∙ ap (λ (y : List Turn). turns_up t.joints c.args.p.0 (parting t c.args.p.0 c.args.frame.0)
    ++ reverse (map turned_back y)) down in
    record { route = subst (λ (x : List Turn). IsRoute x c.route_of.result) whole c.route_of.ensures }
