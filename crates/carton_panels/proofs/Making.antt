-- From the tests of a face to the panel, or to what is wrong with it.
use Rattle.std.proofs.Common.{rules, ◌≡◌, ℕ, ◌<◌, ◌≤◌, List, [], ◌∷◌, length, get_or, map, subst, arith, ℤ}
use Rattle.std.proofs.Common.{pos, ◌≤ℤ◌, ◌<ℤ◌}
use Rattle.std.specs.Prelude.{All, Any, Contains}
use Rattle.std.proofs.lemmas.Int.{ints, by_lt_z}
use Rattle.std.proofs.lemmas.List.{length-map, get_or_default}
use Rattle.std.proofs.lemmas.List.Elements.{All-map}
use Rattle.carton_base.specs.declared.dieline.RawDieline.{RawDieline}
use Rattle.carton_base.specs.declared.dieline.Point.{Point}
use Rattle.carton_base.specs.declared.numbers.Triple.{Triple}
use Rattle.carton_model.specs.Dielines.{IsDieline, IsNear, IsFace}
use Rattle.carton_base.specs.declared.limits.TheConstants.{LEAST_CORNERS, MOST_CORNERS, WIDEST_MARGIN}
use Rattle.carton_panels.specs.Panels.{Side, sides_of, places_of, face_at, origin, IsConvex, IsDistinct}
use Rattle.carton_panels.specs.Panels.{corners_of}
use Rattle.carton_panels.specs.Shrinking.{IsThin}
use Rattle.carton_panels.specs.Shapes.{IsShape, place_of}
use Rattle.carton_panels.specs.Insets.{inset}
use Rattle.carton_panels.specs.Crossings.{CoversRow, IsGathered}
use Rattle.carton_panels.proofs.Steps.{length-around}
use Rattle.carton_panels.proofs.Generating.{IsComplete, generates, has_room, thin_without_corners}
use Rattle.carton_panels.proofs.Generating.{thin_along_a_side}
use Rattle.carton_panels.proofs.Pairs.{complete_by_pairs, members_shrunk, members_near}

-- a face of a dieline that keeps its rules
pub is_face : (d : RawDieline) (k : ℕ) → IsDieline d → k < length d.faces
    → IsFace (length d.vertices) (face_at d k)
is_face d k h l = h.corners k (record { corners = [] }) l

pub places_near : (d : RawDieline) (k : ℕ) → IsDieline d → k < length d.faces
    → All IsNear (places_of d (face_at d k))
places_near d k h l = All-map IsNear (λ c. get_or d.vertices c origin) (face_at d k).corners
    (λ j e i. h.near (get_or (face_at d k).corners j e) origin ((is_face d k h l).corners j e i))

pub places_some : (d : RawDieline) (k : ℕ) → IsDieline d → k < length d.faces
    → LEAST_CORNERS ≤ length (places_of d (face_at d k))
places_some d k h l =
    omega (arith, length-map (face_at d k).corners (λ c. get_or d.vertices c origin), (is_face d k h l).some)

pub places_few : (d : RawDieline) (k : ℕ) → IsDieline d → k < length d.faces
    → length (places_of d (face_at d k)) ≤ MOST_CORNERS
places_few d k h l =
    omega (arith, length-map (face_at d k).corners (λ c. get_or d.vertices c origin), (is_face d k h l).few)

pub complete_from_rows : (m : ℕ) (ps : List Point) (ts : List Triple) → IsGathered m ps ts
    → ((i : ℕ) → i < length ps → CoversRow m ps ts i (length ps)) → IsComplete m ps ts
complete_from_rows m ps ts g rows =
    complete_by_pairs m ps ts g.members
    (λ i j d h l. let l' : j < length ps = omega (arith, length-around ps, l) in
    rows i (omega arith) j d h l')

-- no corner is left, or all lie on one side's line
pub thin_if_empty : (m : ℕ) (ps : List Point) (ts : List Triple) → 0 < length ps → IsConvex ps
    → IsComplete m ps ts → length ts ≡ 0 → IsThin m ps
thin_if_empty m ps [] some convex complete e = thin_without_corners m ps some convex complete
thin_if_empty m ps (t ∷ ts) some convex complete e = absurd (omega arith)

pub thin_if_level : (m : ℕ) (ps : List Point) (ts : List Triple) → IsConvex ps → IsComplete m ps ts
    → Any (λ s. ¬ (Any (λ (t : Triple). pos 0 <ℤ inset m s t.x t.y t.w) ts)) (sides_of ps) → IsThin m ps
thin_if_level m ps ts convex complete a =
    let s = a.1 in
    let at : Contains (sides_of ps) s = (a.0, a.2, a.3) in
    thin_along_a_side m ps ts convex complete s at (λ k d h.
    let t = get_or ts k d in
    level (inset m s t.x t.y t.w)
    (subst (λ (x : Side). pos 0 ≤ℤ inset m x t.x t.y t.w) a.3 (complete.members k d h a.0 s a.2))
    (λ p. a.4 (k, t, h, get_or_default ts k t d h, p)))
  where
    level : (z : ℤ) → pos 0 ≤ℤ z → ¬ (pos 0 <ℤ z) → z ≡ pos 0
    level z h n = by_lt_z (pos 0) z (λ p. absurd (n p)) (λ p. omega (arith, ints, h, p))

-- all that holds of a panel
pub shape_made : (m : ℕ) (ps : List Point) (cs ts : List Triple) → LEAST_CORNERS ≤ length ps
    → length ps ≤ MOST_CORNERS → All IsNear ps → IsDistinct ps → IsConvex ps → m ≤ WIDEST_MARGIN
    → map place_of cs ≡ corners_of ps → All (λ (t : Triple). t.w ≡ pos 1) cs → IsGathered m ps ts
    → IsComplete m ps ts → 0 < length ts
    → All (λ s. Any (λ (t : Triple). pos 0 <ℤ inset m s t.x t.y t.w) ts) (sides_of ps)
    → IsShape (record { places = ps; margin = m; corners = cs; shrunk = ts })
shape_made m ps cs ts some few near distinct convex margin corners whole gathered complete found free =
    let positive : 0 < length ps = omega arith in
    let room = has_room m ps ts complete found free in
    let members = members_shrunk m ps ts gathered.members in
    let corners_generate = generates m ps ts positive convex complete in
    let shrunk_near = members_near m ps ts positive near convex gathered.members in
    search (rules, gathered.once, gathered.small, gathered.corners)
