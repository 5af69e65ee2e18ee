-- The text of a pose: where the corners of all panels stand in the world, each coordinate between two numbers
-- of thousandths.
use Rattle.std.specs.Prelude.{◌≡◌, ℕ, ◌+◌, List, [], ◌∷◌, ◌++◌, codes, ℤ, pos, ◌+ℤ◌, ◌*ℤ◌, ◌≤ℤ◌, ◌<ℤ◌}
use Rattle.std.specs.Fmt.{decimal, signed_decimal}
use Rattle.carton_base.specs.declared.motion.State.{State}
use Rattle.carton_base.specs.declared.numbers.Triple.{Triple}
use Rattle.carton_model.specs.Parting.{Position}
use Rattle.carton_model.specs.Turning.{laid, placed}
use Rattle.carton_panels.specs.Shapes.{Shape}
use Rattle.carton_place.specs.States.{fold_in}
use Rattle.carton_tree.specs.Trees.{Tree, turns_up}
use Rattle.carton_text.specs.declared.spot.Spot.{Spot}
use Rattle.carton_text.specs.declared.spot.Thousandths.{Thousandths}

-- where a flat point of panel p stands in the world: laid at height 0, and turned by the joints from p up to
-- the root
abbrev pub stands_at : Tree → State → ℕ → Triple → Position
stands_at t s p point = placed (fold_in s) (turns_up t.joints p t.root) (laid point)

-- the coordinate c / w lies between two numbers of thousandths, which are at most 2 apart
pub record AreThousandths (b : Thousandths) (c w : ℤ) : Type 0 where
  pub from : (b.low *ℤ w) ≤ℤ (pos 1000 *ℤ c)
  pub upto : (pos 1000 *ℤ c) ≤ℤ (b.high *ℤ w)
  pub narrow : b.high ≤ℤ (b.low +ℤ pos 2)

-- so does each coordinate of the position
pub record IsSpotOf (s : Spot) (p : Position) : Type 0 where
  pub positive : pos 0 <ℤ p.w
  pub x : AreThousandths s.x p.x p.w
  pub y : AreThousandths s.y p.y p.w
  pub z : AreThousandths s.z p.z p.w

-- the two numbers, with '-' before each that is negative
abbrev pub both : Thousandths → List ℕ
both b = signed_decimal b.low ++ 32 ∷ signed_decimal b.high

-- the three pairs of a spot
unfoldable pub spot_text : Spot → List ℕ
spot_text s = codes "x " ++ both s.x ++ codes " y " ++ both s.y ++ codes " z " ++ both s.z

-- what is told of corner k of panel p
abbrev pub spot_line : ℕ → ℕ → Spot → List ℕ
spot_line p k s = codes "panel " ++ decimal p ++ codes " corner " ++ decimal k ++ codes " " ++ spot_text s
    ++ 10 ∷ []

-- the text is a line that tells where corner k of panel p stands
abbrev pub IsSpotLine : ℕ → ℕ → Position → List ℕ → Type 0
IsSpotLine p k place text = (s : Spot) × IsSpotOf s place × (text ≡ spot_line p k s)

-- the text has a piece for each element of a list, in order, and nothing else; the first element has the
-- number k, and IsPiece tells
-- by an element and its number which texts are a piece for it
abbrev pub ArePieces : {A : Type 0} → (ℕ → A → List ℕ → Type 0) → ℕ → List A → List ℕ → Type 0
ArePieces IsPiece k [] text = text ≡ []
ArePieces IsPiece k (x ∷ xs) text = (piece rest : List ℕ) × IsPiece k x piece × (text ≡ piece ++ rest)
    × ArePieces IsPiece (k + 1) xs rest

-- the text tells of all corners of panel p
abbrev pub ArePanelLines : Tree → State → ℕ → Shape → List ℕ → Type 0
ArePanelLines t s p shape text = ArePieces (λ k corner. IsSpotLine p k (stands_at t s p corner)) 0
    shape.corners text

-- the text is a pose of the carton in the state: it tells of all corners of all panels
abbrev pub IsPose : Tree → State → List ℕ → Type 0
IsPose t s text = ArePieces (ArePanelLines t s) 0 t.panels text
