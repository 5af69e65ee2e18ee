-- Turns of positions about the joints of a carton, in exact homogeneous numbers: the rotation of a textbook,
-- by the cosine and
-- the sine of the fold as fractions over one number.
use Rattle.std.specs.Prelude.{◌≡◌, ℕ, zero, suc, ◌≤◌, ◌<◌, List, [], ◌∷◌, map, if◌then◌else◌, Option, None}
use Rattle.std.specs.Prelude.{Some, IfSome, ℤ, pos, negsuc, neg_ℤ, ◌+ℤ◌, ◌-ℤ◌, ◌*ℤ◌, unsigned_abs}
use Rattle.carton_base.specs.declared.numbers.Triple.{Triple}
use Rattle.carton_base.specs.declared.motion.Turn.{Turn}
use Rattle.carton_base.specs.declared.limits.TheConstants.{FARTHEST, MOST_JOINTS}
use Rattle.carton_model.specs.HalfTurns.{Fold, cosine, sine, square_sum}
use Rattle.carton_model.specs.Parting.{Position}

-- a turn about a line of the dieline, of the joint at a place of the states, or of a locked joint
pub record IsTurn (t : Turn) : Type 0 where
  pub near : unsigned_abs t.at ≤ FARTHEST
  pub place : IfSome t.place (λ k. k < MOST_JOINTS)

-- a sign turned round is a sign
pub sign_back : (s : ℤ) → unsigned_abs s ≡ 1 → unsigned_abs (neg_ℤ s) ≡ 1
sign_back (pos zero) h = h
sign_back (pos (suc n)) h = h
sign_back (negsuc n) h = h

-- the turn the other way, from the parent's side: the same joint with its sign changed
abbrev pub turned_back : Turn → Turn
turned_back t = record {
  place = t.place;
  upright = t.upright;
  at = t.at;
  sign = neg_ℤ t.sign;
  signed = sign_back t.sign t.signed;
}

-- the position of a flat point at height 0
abbrev pub laid : Triple → Position
laid t = record { x = t.x; y = t.y; z = pos 0; w = t.w }

-- an angle by its cosine and its sine, both over one number
pub record Angle : Type 0 where
  pub cos : ℤ
  pub sin : ℤ
  pub over : ℕ

-- the angle of a fold
abbrev pub angle_of : Fold → Angle
angle_of f = record { cos = cosine f.num f.den; sin = sine f.num f.den; over = square_sum f.num f.den }

-- the angle as a joint of this sign turns: 1 raises what lies at the greater coordinate, -1 what lies at the
-- smaller
abbrev pub with_side : ℤ → Angle → Angle
with_side sign a = record { cos = a.cos; sin = sign *ℤ a.sin; over = a.over }

-- the position after a turn about the upright line x = at: the part that lies off the line turns with the
-- height
unfoldable pub turned_about : ℤ → Angle → Position → Position
turned_about at a p = let off = p.x -ℤ at *ℤ p.w in record {
  x = (at *ℤ p.w) *ℤ pos a.over +ℤ (a.cos *ℤ off -ℤ a.sin *ℤ p.z);
  y = p.y *ℤ pos a.over;
  z = a.sin *ℤ off +ℤ a.cos *ℤ p.z;
  w = p.w *ℤ pos a.over;
}

-- the position with its two flat parts exchanged
abbrev pub exchanged : Position → Position
exchanged p = record { x = p.y; y = p.x; z = p.z; w = p.w }

-- the position after the turn by an angle: about x = at where the joint is upright, else about y = at
unfoldable pub turned_by : Turn → Angle → Position → Position
turned_by t a p = if t.upright then turned_about t.at (with_side t.sign a) p else exchanged
    (turned_about t.at (with_side t.sign a) (exchanged p))

-- the position after turns by angles, the first one first
unfoldable pub turned_through : List Turn → List Angle → Position → Position
turned_through [] angles p = p
turned_through (t ∷ ts) [] p = p
turned_through (t ∷ ts) (a ∷ angles) p = turned_through ts angles (turned_by t a p)

-- the fold of a joint, where the free joints stand at these folds: a locked joint stays flat
abbrev pub fold_of : (ℕ → Fold) → Option ℕ → Fold
fold_of folds None = record { num = pos 0; den = 1 }
fold_of folds (Some k) = folds k

-- the angles of joints, where the free ones stand at these folds
abbrev pub angles_of : (ℕ → Fold) → List Turn → List Angle
angles_of folds ts = map (λ t. angle_of (fold_of folds t.place)) ts

-- the position after turns, the first one first, where the free joints stand at these folds
abbrev pub placed : (ℕ → Fold) → List Turn → Position → Position
placed folds ts p = turned_through ts (angles_of folds ts) p
