use Rattle.std.proofs.Common.{◌≡◌, arith, true, false}
use Rattle.carton_plan_commands.proofs.Judged.{skip, add}
use Rattle.carton_panels.proofs.DielinePanels.{shape_at}
use Rattle.carton_plan_commands.proofs.Parted.{panels_parted, shapes_parted}
use Rattle.carton_plan_commands.proofs.flat.judge_row.Goals as goal

pub loop-b-preserved-then-share_crease : goal.loop-b-preserved-then-share_crease
loop-b-preserved-then-share_crease c =
    skip c.args.margin c.args.raw.now c.args.a c.loop-b.b c.loop-b.count c.loop-b.invariant
    (λ j. let alone : c.share_crease.result ≡ false = c.share_crease.ensures.1 j.2 in
    let shared : c.share_crease.result ≡ true = c.if-share_crease.true in cc)

pub returns-then-not-flat_parted : goal.returns-then-not-flat_parted
returns-then-not-flat_parted c =
    let s = shape_at c.args.margin c.args.raw.now c.args.shapes.now c.args.a c.index-shapes-a.result
    c.requires.shapes (omega (arith, c.requires.whole, c.requires.first)) c.index-shapes-a.is in
    let t = shape_at c.args.margin c.args.raw.now c.args.shapes.now c.loop-b.b c.index-shapes-b.result
    c.requires.shapes (omega arith) c.index-shapes-b.is in (
      (omega arith, omega (arith, c.requires.whole), c.share_crease.ensures.0 c.if-share_crease.false),
      (λ p. let parted : c.flat_parted.result
          ≡ true =
          c.flat_parted.ensures.1 (shapes_parted c.args.margin c.args.raw.now c.args.a c.loop-b.b
          c.index-shapes-a.result c.index-shapes-b.result s t p) in
          let blocked : c.flat_parted.result ≡ false = c.if-not-flat_parted.true in cc),
      c.loop-b.invariant.parted,
    )

pub loop-b-preserved : goal.loop-b-preserved
loop-b-preserved c =
    let s = shape_at c.args.margin c.args.raw.now c.args.shapes.now c.args.a c.index-shapes-a.result
    c.requires.shapes (omega (arith, c.requires.whole, c.requires.first)) c.index-shapes-a.is in
    let t = shape_at c.args.margin c.args.raw.now c.args.shapes.now c.loop-b.b c.index-shapes-b.result
    c.requires.shapes (omega arith) c.index-shapes-b.is in
    add c.args.margin c.args.raw.now c.args.a c.loop-b.b c.loop-b.count c.loop-b.invariant
    (omega arith, omega (arith, c.requires.whole), c.share_crease.ensures.0 c.if-share_crease.false)
    (panels_parted c.args.margin c.args.raw.now c.args.a c.loop-b.b c.index-shapes-a.result
    c.index-shapes-b.result s t (c.flat_parted.ensures.0 c.if-not-flat_parted.false))
