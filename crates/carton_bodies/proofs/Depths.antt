-- How deep spots lie in half-spaces, and in bodies of several.
use Rattle.std.proofs.Common.{◌≡◌, ◌∙◌, sym, subst, ℕ, ◌+◌, ◌*◌, ◌<◌, ◌≤◌, ◌^◌, List, length, get_or, ℤ, pos}
use Rattle.std.proofs.Common.{◌+ℤ◌, ◌-ℤ◌, ◌*ℤ◌, ◌≤ℤ◌, ◌<ℤ◌, unsigned_abs, arith}
use Rattle.std.specs.Int.{int_min}
use Rattle.std.proofs.lemmas.Int.{ints, clamps, by_lt_z}
use Rattle.std.proofs.lemmas.List.{get_or-map, get_or_default, length-map}
use Rattle.std.proofs.lemmas.List.Elements.{All-map}
use Rattle.carton_base.proofs.Loops.{AllBelow, all_more, all_end}
use Rattle.carton_base.specs.Moments.{IsMoment}
use Rattle.carton_base.specs.Rounding.{IsBetween, unit}
use Rattle.carton_base.specs.declared.numbers.Bounds.{Bounds}
use Rattle.carton_bodies.specs.Bodies.{stroke_along, IsInSide, IsDeeperInSide}
use Rattle.carton_model.specs.Parting.{Position, along}
use Rattle.carton_bodies.specs.declared.half_space.HalfSpace.{HalfSpace}
use Rattle.carton_bodies.specs.declared.spot.Spot.{Spot}
use Rattle.carton_bodies.specs.Depths.{IsDepth, IsDepthAt, IsDepthIn}
use Rattle.carton_bodies.specs.HalfSpaces.{side_of, sides_of}
use Rattle.carton_bodies.specs.Shifts.{IsShift}
use Rattle.carton_bodies.specs.Spots.{IsAt, IsNarrow}
use Rattle.carton_bodies.proofs.Numbers.{within_side, shallow_side}

unit_some : pos 0 <ℤ unit
unit_some = omega (arith, ints)

some_den : (n d : ℕ) → IsMoment n d → pos 0 <ℤ pos d
some_den n d m = let s = m.some in omega (arith, ints, s)

-- the place lies between these units along the normal, each told of its w
lies : (low high a : ℤ) (w : ℤ) → pos 0 <ℤ w → IsBetween low high a (unsigned_abs w)
    → ((low *ℤ w) ≤ℤ (a *ℤ unit)) × ((a *ℤ unit) ≤ℤ (high *ℤ w))
lies low high a w p b =
    let e : pos (unsigned_abs w) ≡ w = omega (arith, ints, p) in
    (subst (λ z. (low *ℤ z) ≤ℤ (a *ℤ unit)) e b.from, subst (λ z. (a *ℤ unit) ≤ℤ (high *ℤ z)) e b.upto)

-- the depth in one half-space, by how far it shifts and how far the spot lies along its normal
pub depth_at_face : (f : HalfSpace) (stroke : List ℤ) (i index depth : ℕ) (spot : Spot)
    (shift place b : Bounds)
    → IsShift (stroke_along f.u f.v f.s stroke) i index depth shift
    → ((q : Position) → IsAt spot q → IsBetween place.lo place.hi (along f.u f.v f.s q) (unsigned_abs q.w))
    → (IsNarrow spot → place.hi ≤ℤ (place.lo +ℤ pos (6912 * 2 ^ 27)))
    → b.lo ≡ f.offset *ℤ unit +ℤ shift.lo -ℤ place.hi → b.hi ≡ f.offset *ℤ unit +ℤ shift.hi -ℤ place.lo
    → IsDepthAt (side_of f) stroke i spot index depth b
depth_at_face f stroke i index depth spot shift place b moves stands narrow low high = record {
  inside = λ h n d m ip q at.
      let s = moves.within n d m ip in
      let l = lies place.lo place.hi (along f.u f.v f.s q) q.w at.positive (stands q at) in
      within_side (along f.u f.v f.s q) q.w (pos d) f.offset
      (stroke_along f.u f.v f.s stroke *ℤ pos (i * d + n)) place.hi shift.lo unit at.positive
      (some_den n d m) unit_some l.1 s.from (omega (arith, ints, h, low));
  shallow = λ gap h n d m ip q at deep.
      let s = moves.within n d m ip in
      let l = lies place.lo place.hi (along f.u f.v f.s q) q.w at.positive (stands q at) in
      let not = shallow_side (along f.u f.v f.s q) q.w (pos d) f.offset
      (stroke_along f.u f.v f.s stroke *ℤ pos (i * d + n)) place.lo shift.hi gap unit at.positive
      (some_den n d m) unit_some l.0 s.upto (omega (arith, ints, h, high)) in
      omega (arith, ints, not, deep);
  close = λ e k. let a = narrow k in let s = moves.close e in omega (arith, ints, a, s, low, high);
}

-- the depth in two things at once is the lesser one
pub depth_in_both : (spot : Spot) (index depth : ℕ) (InA InB In : ℕ → ℕ → Position → Type 0)
    (DeepA DeepB Deep : ℤ → ℕ → ℕ → Position → Type 0) (a b r : Bounds)
    → ((n d : ℕ) (q : Position) → InA n d q → InB n d q → In n d q)
    → ((g : ℤ) (n d : ℕ) (q : Position) → Deep g n d q → DeepA g n d q × DeepB g n d q)
    → r.lo ≡ int_min a.lo b.lo → r.hi ≡ int_min a.hi b.hi → IsDepth spot index depth InA DeepA a
    → IsDepth spot index depth InB DeepB b → IsDepth spot index depth In Deep r
depth_in_both spot index depth InA InB In DeepA DeepB Deep a b r join split low high ha hb = record {
  inside = λ h n d m ip q at. join n d q (ha.inside (omega (arith, ints, clamps, h, low)) n d m ip q at)
      (hb.inside (omega (arith, ints, clamps, h, low)) n d m ip q at);
  shallow = λ gap h n d m ip q at deep. by_lt_z a.hi b.hi
      (λ l. let k : a.hi ≤ℤ (gap *ℤ unit) = omega (arith, ints, clamps, h, high, l) in
      ha.shallow gap k n d m ip q at (split gap n d q deep).0)
      (λ l. let k : b.hi ≤ℤ (gap *ℤ unit) = omega (arith, ints, clamps, h, high, l) in
      hb.shallow gap k n d m ip q at (split gap n d q deep).1);
  close = λ e k. let x = ha.close e k in let y = hb.close e k in omega (arith, ints, clamps, x, y, low, high);
}

-- the position lies in each of the first faces, or deeper in each than the gap
abbrev pub InFirst : List HalfSpace → ℕ → List ℤ → ℕ → ℕ → ℕ → Position → Type 0
InFirst faces k stroke i n d q = AllBelow (λ (f : HalfSpace). IsInSide stroke i n d q (side_of f)) faces k

abbrev pub DeepInFirst : List HalfSpace → ℕ → List ℤ → ℕ → ℤ → ℕ → ℕ → Position → Type 0
DeepInFirst faces k stroke i gap n d q =
    AllBelow (λ (f : HalfSpace). IsDeeperInSide gap stroke i n d q (side_of f)) faces k

-- how deep the spot lies in the first faces
abbrev pub IsDepthInFirst : List HalfSpace → ℕ → List ℤ → ℕ → Spot → ℕ → ℕ → Bounds → Type 0
IsDepthInFirst faces k stroke i spot index depth b =
    IsDepth spot index depth (InFirst faces k stroke i) (DeepInFirst faces k stroke i) b

-- a face at its place in the list, whatever the default
at_face : (P : HalfSpace → Type 0) (faces : List HalfSpace) (j k : ℕ) (f d : HalfSpace) → j ≡ k
    → k < length faces → f ≡ get_or faces k f → P f → P (get_or faces j d)
at_face P faces j k f d e l is p =
    subst (λ j. P (get_or faces j d)) (sym e) (subst P (is ∙ get_or_default faces k f d l) p)

pub depth_in_one : (faces : List HalfSpace) (stroke : List ℤ) (i index depth : ℕ) (spot : Spot)
    (f : HalfSpace) (b : Bounds) → 0 < length faces → f ≡ get_or faces 0 f
    → IsDepthAt (side_of f) stroke i spot index depth b → IsDepthInFirst faces 1 stroke i spot index depth b
depth_in_one faces stroke i index depth spot f b some is h = record {
  inside = λ p n d m ip q at j e lt l. at_face (λ (f : HalfSpace). IsInSide stroke i n d q (side_of f)) faces j
      0 f e (omega (arith, lt)) some is (h.inside p n d m ip q at);
  shallow =
      λ gap p n d m ip q at deep. h.shallow gap p n d m ip q at
      (subst (λ (f : HalfSpace). IsDeeperInSide gap stroke i n d q (side_of f)) (sym is)
      (deep 0 f (omega arith) some));
  close = h.close;
}

-- one face more
pub depth_in_more : (faces : List HalfSpace) (stroke : List ℤ) (i index depth : ℕ) (spot : Spot) (k : ℕ)
    (f : HalfSpace) (a b r : Bounds) → k < length faces → f ≡ get_or faces k f
    → r.lo ≡ int_min a.lo b.lo → r.hi ≡ int_min a.hi b.hi → IsDepthInFirst faces k stroke i spot index depth a
    → IsDepthAt (side_of f) stroke i spot index depth b
    → IsDepthInFirst faces (k + 1) stroke i spot index depth r
depth_in_more faces stroke i index depth spot k f a b r lt is low high ha hb =
    depth_in_both spot index depth (InFirst faces k stroke i) (λ n d q. IsInSide stroke i n d q (side_of f))
    (InFirst faces (k + 1) stroke i) (DeepInFirst faces k stroke i)
    (λ gap n d q. IsDeeperInSide gap stroke i n d q (side_of f)) (DeepInFirst faces (k + 1) stroke i) a b
    r
    (λ n d q below here. all_more (λ (f : HalfSpace). IsInSide stroke i n d q (side_of f)) faces k f lt is
    here below)
    (λ gap n d q deep. (
      (λ j d l m. deep j d (omega (arith, l)) m),
      subst (λ (f : HalfSpace). IsDeeperInSide gap stroke i n d q (side_of f)) (sym is)
          (deep k f (omega arith) lt),
    ))
    low high ha hb

-- all faces
pub depth_in_all : (faces : List HalfSpace) (stroke : List ℤ) (i index depth : ℕ) (spot : Spot) (k : ℕ)
    (b : Bounds) → length faces ≤ k → IsDepthInFirst faces k stroke i spot index depth b
    → IsDepthIn (sides_of faces) stroke i spot index depth b
depth_in_all faces stroke i index depth spot k b all h = record {
  inside =
      λ p n d m ip q at. record {
        positive = at.positive;
        inside =
            All-map (IsInSide stroke i n d q) side_of faces
            (all_end (λ (f : HalfSpace). IsInSide stroke i n d q (side_of f)) faces k all
            (h.inside p n d m ip q at));
      };
  shallow =
      λ gap p n d m ip q at deep. h.shallow gap p n d m ip q at
      (λ j d' l m'. subst (IsDeeperInSide gap stroke i n d q) (get_or-map side_of faces j d' (side_of d') m')
      (deep.inside j (side_of d') (rw length-map m')));
  close = h.close;
}

-- some faces, where the spot lies outside throughout
pub depth_in_some : (faces : List HalfSpace) (stroke : List ℤ) (i index depth : ℕ) (spot : Spot) (k : ℕ)
    (b : Bounds) → b.hi <ℤ pos 0 → IsDepthInFirst faces k stroke i spot index depth b
    → IsDepthIn (sides_of faces) stroke i spot index depth b
depth_in_some faces stroke i index depth spot k b out h = record {
  inside = λ p. let o = b.ordered in absurd (omega (arith, ints, p, o, out));
  shallow =
      λ gap p n d m ip q at deep. h.shallow gap p n d m ip q at
      (λ j d' l m'. subst (IsDeeperInSide gap stroke i n d q) (get_or-map side_of faces j d' (side_of d') m')
      (deep.inside j (side_of d') (rw length-map m')));
  close = h.close;
}
