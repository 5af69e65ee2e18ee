use Rattle.std.proofs.Common.{◌≤◌, ◌^◌, arith}
use Rattle.std.proofs.Math.Pow.{pow_mono}
use Rattle.carton_base.proofs.moments.Piece.pieces.Goals as goal

pub returns-clause-bound : goal.returns-clause-bound
returns-clause-bound c =
    let p : 2 ^ c.args.self.depth ≤ 2 ^ 36 = pow_mono c.args.self.shallow in
    omega (arith, p)
