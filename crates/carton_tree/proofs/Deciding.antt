-- Which panels are apart from the root, and which hang too deep, by groups and spots.
use Rattle.std.proofs.Common.{◌≡◌, ◌≢◌, ℕ, ◌<◌, ◌≤◌, List, length, Option, Some, None, false, refl, sym}
use Rattle.std.proofs.Common.{subst, arith}
use Rattle.std.specs.Prelude.{IfSome, IsSome, is_some}
use Rattle.std.proofs.lemmas.Bool.{false≢true}
use Rattle.carton_base.specs.declared.dieline.RawDieline.{RawDieline}
use Rattle.carton_base.specs.declared.ids.EdgeId.{EdgeId}
use Rattle.carton_base.specs.declared.limits.TheConstants.{MOST_PANELS, LONGEST_PATH}
use Rattle.carton_tree.specs.declared.error.TreeError.{TreeError}
use Rattle.carton_tree.specs.declared.error.TreeError.TheVariants.{Panel, SideNoEdge, ThreeFaces, SameSide}
use Rattle.carton_tree.specs.declared.error.TreeError.TheVariants.{Slanted, Loop, NoRoot, Apart, TooDeep}
use Rattle.carton_tree.specs.declared.error.TreeError.TheVariants.{Memory}
use Rattle.carton_base.specs.declared.ids.PanelId.{PanelId}
use Rattle.carton_tree.specs.declared.hinges.Hinge.{Hinge}
use Rattle.carton_tree.specs.declared.spots.Spot.{Spot}
use Rattle.carton_tree.specs.Answers.{IsEdgesAnswer}
use Rattle.carton_tree.specs.Rules.{Never, IsBare, IsSooner, IsApart, IsDeep}
use Rattle.carton_tree.specs.Steps.{AreGroups, IsSpot, AreSpots, spot_at}
use Rattle.carton_tree.proofs.Merging.{group_of}
use Rattle.carton_tree.proofs.Tying.{AreAll, leads_iff, near_from, near_to}

pub apart : (d : RawDieline) (cs : List EdgeId) (hs : List Hinge) (groups : List ℕ) (p r : ℕ) → AreAll d cs hs
    → AreGroups hs MOST_PANELS (length hs) groups → length d.faces ≤ MOST_PANELS → p < length d.faces
    → r < length d.faces → ¬ (group_of groups p ≡ group_of groups r) → IsApart d r p
apart d cs hs groups p r all are le pl rl off =
    (pl, λ leads. off ((are p r (omega arith) (omega arith)).1 ((leads_iff d cs hs all p r).0 leads)))

pub not_apart : (d : RawDieline) (cs : List EdgeId) (hs : List Hinge) (groups : List ℕ) (p r : ℕ)
    → AreAll d cs hs → AreGroups hs MOST_PANELS (length hs) groups → length d.faces ≤ MOST_PANELS
    → r < length d.faces → group_of groups p ≡ group_of groups r → ¬ (IsApart d r p)
not_apart d cs hs groups p r all are le rl same far =
    far.1 ((leads_iff d cs hs all p r).1 ((are p r (omega (arith, far.0)) (omega arith)).0 same))

pub deep : (d : RawDieline) (cs : List EdgeId) (hs : List Hinge) (spots : List (Option Spot)) (p r : ℕ)
    → AreAll d cs hs → AreSpots hs r LONGEST_PATH spots → length d.faces ≤ MOST_PANELS → p < length d.faces
    → spot_at spots p ≡ None → IsDeep d r p
deep d cs hs spots p r all are le pl none = (
  pl,
  λ near.
      let w = near_to d cs hs all p r near in
      false≢true (subst IsSome none (are.whole p w.0 (omega arith) w.1 w.2)),
)

pub not_deep : (d : RawDieline) (cs : List EdgeId) (hs : List Hinge) (spots : List (Option Spot)) (p r : ℕ)
    → AreAll d cs hs → AreSpots hs r LONGEST_PATH spots → IsSome (spot_at spots p) → ¬ (IsDeep d r p)
not_deep d cs hs spots p r all are some far = at (spot_at spots p) some (are.known p)
  where
    at : (o : Option Spot) → IsSome o → IfSome o (λ s. IsSpot hs spots r p s × (s.depth ≤ LONGEST_PATH)) → ⊥
    at None some h = false≢true some
    at (Some s) some h = far.1 (near_from d cs hs all s.depth p r h.1 h.0.leads)

-- where none hangs too deep, all hang
pub all_hang : (d : RawDieline) (cs : List EdgeId) (hs : List Hinge) (spots : List (Option Spot)) (p r : ℕ)
    → AreAll d cs hs → AreSpots hs r LONGEST_PATH spots → length d.faces ≤ MOST_PANELS → Never (IsDeep d r)
    → p < length d.faces → IsSome (spot_at spots p)
all_hang d cs hs spots p r all are le none lt = at (spot_at spots p) refl
  where
    at : (o : Option Spot) → spot_at spots p ≡ o → IsSome o
    at None e = absurd (none p (deep d cs hs spots p r all are le lt e))
    at (Some s) e = refl

-- the first bare side, as an answer
pub bare_answer : (d : RawDieline) (e : TreeError)
    → (e ≢ Memory → (f : PanelId) × (i : ℕ) × (e ≡ SideNoEdge f i) × IsBare d f.0 i
    × ((g j : ℕ) → IsSooner g j f.0 i → ¬ (IsBare d g j))) → IsEdgesAnswer d e
bare_answer d Memory h = tt
bare_answer d (Panel x) h = let r = h (λ e. cc) in subst (IsEdgesAnswer d) (sym r.2) (r.3, r.4)
bare_answer d (SideNoEdge x y) h = let r = h (λ e. cc) in subst (IsEdgesAnswer d) (sym r.2) (r.3, r.4)
bare_answer d (ThreeFaces x) h = let r = h (λ e. cc) in subst (IsEdgesAnswer d) (sym r.2) (r.3, r.4)
bare_answer d (SameSide x) h = let r = h (λ e. cc) in subst (IsEdgesAnswer d) (sym r.2) (r.3, r.4)
bare_answer d (Slanted x) h = let r = h (λ e. cc) in subst (IsEdgesAnswer d) (sym r.2) (r.3, r.4)
bare_answer d (Loop x) h = let r = h (λ e. cc) in subst (IsEdgesAnswer d) (sym r.2) (r.3, r.4)
bare_answer d (NoRoot x) h = let r = h (λ e. cc) in subst (IsEdgesAnswer d) (sym r.2) (r.3, r.4)
bare_answer d (Apart x) h = let r = h (λ e. cc) in subst (IsEdgesAnswer d) (sym r.2) (r.3, r.4)
bare_answer d (TooDeep x) h = let r = h (λ e. cc) in subst (IsEdgesAnswer d) (sym r.2) (r.3, r.4)

pub none_from : (o : Option Spot) → is_some o ≡ false → o ≡ None
none_from None e = refl
none_from (Some s) e = absurd (false≢true (sym e))
