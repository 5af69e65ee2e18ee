-- What is known of how far panels reach during a move.
use Rattle.std.proofs.Common.{ℕ, ◌<◌, List, length, set, Option, ◌∙◌}
use Rattle.std.specs.Prelude.{IfSome}
use Rattle.std.proofs.lemmas.List.{length-set}
use Rattle.carton_base.specs.declared.motion.Motion.{Motion}
use Rattle.carton_reach.specs.declared.reach.Reaches.{Reaches}
use Rattle.carton_tree.specs.Trees.{Tree}
use Rattle.carton_part.specs.Looks.{IsReachIn}
use Rattle.carton_part.proofs.Closed.{after_set}
use Rattle.carton_stroke.specs.Steps.{AreKnown}

-- a reach is learned
pub with_reach : (t : Tree) (motion : Motion) (f p : ℕ) (known : List (Option Reaches)) (o : Option Reaches)
    → AreKnown t motion f known → p < length known → IfSome o (IsReachIn t motion p f 0 0)
    → AreKnown t motion f (set known p o)
with_reach t motion f p known o h lt r = record {
  count = length-set known p o ∙ h.count;
  each = λ q d l. after_set (λ k x. IfSome x (IsReachIn t motion k f 0 0)) known p q o d lt r
      (λ _. h.each q d l);
}
