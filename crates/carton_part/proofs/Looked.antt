-- What the reaches of two panels in a frame tell of their parting.
use Rattle.std.proofs.Common.{◌≡◌, ℕ, ◌<◌, ◌≤◌, ℤ, ◌+ℤ◌, ◌*ℤ◌, ◌≤ℤ◌, arith, inl, inr, Option, None, Some, ◌↔◌}
use Rattle.std.proofs.Common.{length, sym, subst}
use Rattle.std.specs.Prelude.{IfSome, slice_get}
use Rattle.std.proofs.lemmas.Option.{get_or_from_slice_get, none-some}
use Rattle.std.proofs.lemmas.Bool.{cases_lt}
use Rattle.carton_base.specs.declared.motion.Motion.{Motion}
use Rattle.carton_base.specs.declared.limits.TheConstants.{LONGEST_PATH}
use Rattle.carton_model.specs.Moves.{fold_at}
use Rattle.carton_panels.specs.Shapes.{Shape, IsShape}
use Rattle.carton_reach.specs.declared.reach.Reaches.{Reaches}
use Rattle.carton_reach.specs.Reaches.{Within, AreReaches, SomeApart, AllNear, half}
use Rattle.carton_reach.specs.Spots.{corners_in, no_shape, spots_in}
use Rattle.carton_reach.proofs.Parted.{parted, not_parted, close_enough}
use Rattle.carton_reach.proofs.Positions.{spots_positive}
use Rattle.carton_tree.specs.Trees.{Tree, turns_between}
use Rattle.carton_part.specs.Frames.{IsOnWay}
use Rattle.carton_part.specs.Looks.{IsReachIn}
use Rattle.carton_part.specs.Parted.{ArePartedBy, ArePartedIn}
use Rattle.carton_part.proofs.Corners.{parted_in, corners_parted}

-- an axis along which their corners are apart parts them
pub parted_by : (t : Tree) (motion : Motion) (a b f index depth : ℕ) (p q : Reaches) (halves : ℤ)
    → IsOnWay t a b f → IsReachIn t motion a f index depth p → IsReachIn t motion b f index depth q
    → SomeApart (halves *ℤ half) p.axes q.axes
    → Within index depth (λ n d. ArePartedBy t (fold_at motion n d) a b halves)
parted_by t motion a b f index depth p q halves way hp hq some n d m i = (
  f,
  record { way = way; near_a = hp.near; near_b = hq.near },
  parted_in t motion a b f halves n d hp.shape hq.shape m
      (parted (spots_in t motion a f) (spots_in t motion b f) (corners_in t a) (corners_in t b) index depth
      p.axes q.axes halves (spots_positive t motion a f) (spots_positive t motion b f) hp.reaches
      hq.reaches some n d m i),
)

-- where their corners are near along each axis, the frame doesn't part them
pub unparted_in : (t : Tree) (motion : Motion) (a b f index depth : ℕ) (p q : Reaches) (halves : ℤ)
    → IsReachIn t motion a f index depth p → IsReachIn t motion b f index depth q
    → AllNear (halves *ℤ half) p.axes q.axes
    → Within index depth (λ n d. ¬ (ArePartedIn t (fold_at motion n d) a b halves f))
unparted_in t motion a b f index depth p q halves hp hq near n d m i h =
    not_parted (spots_in t motion a f) (spots_in t motion b f) (corners_in t a) (corners_in t b) index depth
    p.axes q.axes halves (spots_positive t motion a f) (spots_positive t motion b f) hp.reaches hq.reaches
    near n d m i
    (corners_parted t motion a b f halves n d hp.shape hq.shape m h)

-- a piece that tells neither has halves
pub has_halves : (t : Tree) (motion : Motion) (a b f index depth : ℕ) (p q : Reaches) (room more : ℤ)
    → IsReachIn t motion a f index depth p → IsReachIn t motion b f index depth q
    → depth ≤ 36 → (room +ℤ half) ≤ℤ more → ¬ (SomeApart room p.axes q.axes) → ¬ (AllNear more p.axes q.axes)
    → depth < 36
has_halves t motion a b f index depth p q room more hp hq shallow wide apart near = elim (cases_lt depth 36) [
  | inl l ↦ l
  | inr le ↦
      let e : depth ≡ 36 = omega (arith, le, shallow) in
      absurd (near (close_enough (spots_in t motion a f) (spots_in t motion b f) (corners_in t a)
      (corners_in t b) index depth p.axes q.axes room more e wide hp.reaches hq.reaches apart))
]

-- what is known of a reach that was found
pub reach_in : (t : Tree) (motion : Motion) (p f index depth : ℕ) (s : Shape) (o : Option Reaches)
    → p < length t.panels → Some s ≡ slice_get t.panels p → IsShape s
    → IfSome o (λ r. AreReaches (spots_in t motion p f) 0 (corners_in t p) index depth r.axes) → (o ≡ None)
    ↔ (LONGEST_PATH < length (turns_between t p f)) → IfSome o (IsReachIn t motion p f index depth)
reach_in t motion p f index depth s None l e h r far = tt
reach_in t motion p f index depth s (Some x) l e h r far = record {
  near = elim (cases_lt LONGEST_PATH (length (turns_between t p f))) [
    | inl k ↦
        absurd (none-some x (sym (far.1 k)))
    | inr k ↦ k
  ];
  shape = subst IsShape (sym (get_or_from_slice_get t.panels p s no_shape (sym e))) h;
  reaches = r;
}
