use Rattle.carton_reach.specs.Spots.{no_shape}
use Rattle.carton_reach.proofs.Starts.{starts_taken}
use Rattle.carton_reach.proofs.corners.starts_of.Goals as goal

pub slice_bounds-result-end : goal.slice_bounds-result-end
slice_bounds-result-end c =
    (starts_taken c.args.carton.now.panels c.args.panel.0 c.panel.result.now c.shrunk-corners.result.now
    c.starts.result.now c.panel.ensures c.shrunk-corners.ensures.shape c.shrunk-corners.ensures.corners
    (c.starts.ensures no_shape)).many

pub returns-clause-starts : goal.returns-clause-starts
returns-clause-starts c =
    (starts_taken c.args.carton.now.panels c.args.panel.0 c.panel.result.now c.shrunk-corners.result.now
    c.starts.result.now c.panel.ensures c.shrunk-corners.ensures.shape c.shrunk-corners.ensures.corners
    (c.starts.ensures no_shape)).each

pub returns-clause-some : goal.returns-clause-some
returns-clause-some c =
    (starts_taken c.args.carton.now.panels c.args.panel.0 c.panel.result.now c.shrunk-corners.result.now
    c.starts.result.now c.panel.ensures c.shrunk-corners.ensures.shape c.shrunk-corners.ensures.corners
    (c.starts.ensures no_shape)).some

pub returns-clause-near : goal.returns-clause-near
returns-clause-near c =
    (starts_taken c.args.carton.now.panels c.args.panel.0 c.panel.result.now c.shrunk-corners.result.now
    c.starts.result.now c.panel.ensures c.shrunk-corners.ensures.shape c.shrunk-corners.ensures.corners
    (c.starts.ensures no_shape)).near
