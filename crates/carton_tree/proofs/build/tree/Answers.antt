use Rattle.std.proofs.Common.{inl, inr, subst}
use Rattle.std.proofs.lemmas.Result.{err_from_is_err_and}
use Rattle.carton_panels.specs.DielinePanels.{ArePanels}
use Rattle.carton_panels.proofs.DielinePanels.{are_panels}
use Rattle.carton_tree.specs.Rules.{KeepsPanels, KeepsAxes, KeepsShallow}
use Rattle.carton_tree.specs.Trees.{Tree}
use Rattle.carton_tree.proofs.Answering.{answered}
use Rattle.carton_tree.proofs.Climbing.{carton_from, few_hinges, is_hung, tree_from}
use Rattle.carton_tree.proofs.Tying.{no_loops}
use Rattle.carton_tree.proofs.build.tree.Goals as goal

pub returns-in_err-besides : goal.returns-in_err-besides
returns-in_err-besides c =
    let p = err_from_is_err_and c.from_residual-in_err-besides.result
    c.from_residual-in_err-besides.ensures.1 in
    let panels : KeepsPanels c.args.margin c.args.raw.now =
    subst (λ n. ArePanels c.args.margin c.args.raw.now n) c.in_ok-shapes.ensures.whole
    (are_panels c.args.margin c.args.raw.now c.in_ok-shapes.shapes.items c.in_ok-shapes.ensures.shapes) in
    rw (p.1, p.2) (inr (inl (panels, c.in_err-besides.ensures.refused)))

pub returns-in_err-spots : goal.returns-in_err-spots
returns-in_err-spots c =
    let p = err_from_is_err_and c.from_residual-in_err-spots.result c.from_residual-in_err-spots.ensures.1 in
    let panels : KeepsPanels c.args.margin c.args.raw.now =
    subst (λ n. ArePanels c.args.margin c.args.raw.now n) c.in_ok-shapes.ensures.whole
    (are_panels c.args.margin c.args.raw.now c.in_ok-shapes.shapes.items c.in_ok-shapes.ensures.shapes) in
    let axes : KeepsAxes c.args.raw.now = (
      ((c.in_ok-besides.ensures.sides, c.in_ok-besides.ensures.edges), c.in_ok-besides.ensures.ways),
      c.in_ok-besides.ensures.axes,
    ) in
    rw (p.1, p.2) (inr (inr (panels, axes, c.in_err-spots.ensures.refused)))

pub joints_of-requires-clause-few : goal.joints_of-requires-clause-few
joints_of-requires-clause-few c =
    let hinges = c.in_ok-hinges.hinges in
    few_hinges c.args.raw.now hinges.creases.items hinges.all.items c.in_ok-spots.spots c.args.root.0
    c.requires.dieline
    c.in_ok-hinges.ensures.hinges c.in_ok-spots.ensures.open c.in_ok-spots.ensures.spots
    c.in_ok-spots.ensures.deep

pub carton_of-requires : goal.carton_of-requires
carton_of-requires c =
    let hinges = c.in_ok-hinges.hinges in
    let hung = is_hung c.args.raw.now hinges.creases.items hinges.all.items c.in_ok-spots.spots c.args.root.0
    c.requires.dieline c.in_ok-hinges.ensures.hinges c.in_ok-spots.ensures.open c.in_ok-spots.ensures.spots
    c.in_ok-spots.ensures.deep c.in_ok-joints.joints.items c.in_ok-hinges.ensures.creases
    c.in_ok-spots.ensures.root c.in_ok-joints.ensures.joints c.in_ok-joints.ensures.whole in
    record {
      carton = carton_from c.args.raw.now hinges.creases.items hinges.all.items c.in_ok-spots.spots
          c.in_ok-joints.joints.items c.args.root.0 hung c.in_ok-shapes.shapes.items c.in_ok-shapes.ensures.whole;
    }

pub returns : goal.returns
returns c =
    let d = c.args.raw.now in
    let hs = c.in_ok-hinges.hinges.all.items in
    let cs = c.in_ok-hinges.hinges.creases.items in
    let js = c.in_ok-joints.joints.items in
    let hung = is_hung d cs hs c.in_ok-spots.spots c.args.root.0 c.requires.dieline
    c.in_ok-hinges.ensures.hinges c.in_ok-spots.ensures.open c.in_ok-spots.ensures.spots
    c.in_ok-spots.ensures.deep js c.in_ok-hinges.ensures.creases c.in_ok-spots.ensures.root
    c.in_ok-joints.ensures.joints c.in_ok-joints.ensures.whole in
    let panels : KeepsPanels c.args.margin d = subst (λ n. ArePanels c.args.margin d n)
    c.in_ok-shapes.ensures.whole
    (are_panels c.args.margin d c.in_ok-shapes.shapes.items c.in_ok-shapes.ensures.shapes) in
    let axes : KeepsAxes d = (
      ((c.in_ok-besides.ensures.sides, c.in_ok-besides.ensures.edges), c.in_ok-besides.ensures.ways),
      c.in_ok-besides.ensures.axes,
    ) in
    let shallow : KeepsShallow d c.args.root.0 = (
      (
        (
          no_loops d cs hs c.in_ok-hinges.ensures.hinges c.in_ok-spots.ensures.open,
          c.in_ok-spots.ensures.root,
        ),
        c.in_ok-spots.ensures.apart,
      ),
      c.in_ok-spots.ensures.deep,
    ) in
    let t : Tree = record {
      panels = c.in_ok-shapes.shapes.items;
      root = c.args.root.0;
      joints = js;
      creases = cs;
    } in
    answered c.args.margin d c.args.root.0 t c.carton_of.result c.carton_of.ensures.value
    c.carton_of.ensures.err panels axes shallow
    (tree_from d cs hs c.in_ok-spots.spots js c.args.root.0 hung c.args.margin c.in_ok-shapes.shapes.items
    c.in_ok-shapes.ensures.whole c.in_ok-shapes.ensures.shapes)
