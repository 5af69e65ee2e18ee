use Rattle.std.proofs.Common.{◌≡◌, ℕ, ◌+◌, ◌-◌, List, length, ◌++◌, take, drop, rules, sym, ap, ◌∙◌, subst}
use Rattle.std.specs.Io.KnownBytes.{Appends}
use Rattle.std.proofs.KnownBytes.{Appends-trans}
use Rattle.std.proofs.Math.Seq.{take-add}
use Rattle.std.proofs.lemmas.List.{take_rest}
use Rattle.carton_io.proofs.out_sink.OutSinkSink.put.Goals as goal

-- a front of a piece, and then a front of what is left of it
longer_front : (at n : ℕ) (piece : List ℕ)
    → take at piece ++ take n (take (length piece - at) (drop at piece)) ≡ take (at + n) piece
longer_front at n piece = ap (λ rest. take at piece ++ take n rest) (take_rest piece at)
    ∙ sym (take-add at n piece)

pub loop-at-preserved : goal.loop-at-preserved
loop-at-preserved g c =
    let joined = Appends-trans _ _ _ _ _ c.loop-at.invariant.2 c.in_ok-at.ensures.ok in (
      search rules,
      search rules,
      subst (Appends _ _)
          (longer_front c.loop-at.at c.in_ok-at.field-0 c.args.piece.now) joined,
    )
