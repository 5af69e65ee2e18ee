-- The same stops give the same folds, the same angles and so the same positions.
use Rattle.std.proofs.Common.{◌≡◌, refl, ℕ, suc, Option, None, Some, List, [], ◌∷◌, arith}
use Rattle.std.specs.Prelude.{All}
use Rattle.carton_base.specs.declared.motion.Motion.{Motion}
use Rattle.carton_base.specs.declared.motion.Turn.{Turn}
use Rattle.carton_model.specs.HalfTurns.{joint_fold}
use Rattle.carton_model.specs.Moves.{fold_at}
use Rattle.carton_model.specs.Turning.{fold_of, angle_of, angles_of}
use Rattle.carton_place.specs.Dependence.{AreAlikeAt}

same_fold : (a b : Motion) (n d : ℕ) (place : Option ℕ) → a.from.grid ≡ b.from.grid → AreAlikeAt a b place
    → fold_of (fold_at a n d) place ≡ fold_of (fold_at b n d) place
same_fold a b n d None g h = refl
same_fold a b n d (Some k) g h = λ i. joint_fold (h.0 i) (h.1 i) (g i) n d

pub same_angles : (a b : Motion) (n d : ℕ) (ts : List Turn) → a.from.grid ≡ b.from.grid
    → All (λ t. AreAlikeAt a b t.place) ts → angles_of (fold_at a n d) ts ≡ angles_of (fold_at b n d) ts
same_angles a b n d [] g h = refl
same_angles a b n d (t ∷ ts) g h =
    let first = same_fold a b n d t.place g (h 0 t (omega arith)) in
    let others = same_angles a b n d ts g (λ k u l. h (suc k) u (omega (arith, l))) in
    λ i. angle_of (first i) ∷ others i
