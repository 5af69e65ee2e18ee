-- How panels hang, and one joint more that was looked at.
use Rattle.std.proofs.Common.{◌≡◌, ℕ, zero, suc, ◌+◌, ◌<◌, ◌≤◌, inl, inr, List, length, get_or, set}
use Rattle.std.proofs.Common.{replicate, Option, Some, None, cond, refl, sym, ◌∙◌, ap, subst, arith}
use Rattle.std.specs.Prelude.{IsSome, IsSomeAnd}
use Rattle.std.proofs.lemmas.Bool.{cases_eq, cases_order, eq-eqb, ne_eqb, false≢true}
use Rattle.std.proofs.lemmas.Option.{IfSome_then, none-some}
use Rattle.std.proofs.lemmas.List.{get_or-set_same, get_or-set_other, set-get_or, length-set}
use Rattle.carton_base.specs.declared.ids.PanelId.{PanelId}
use Rattle.carton_base.specs.declared.limits.TheConstants.{MOST_PANELS}
use Rattle.carton_tree.specs.declared.hinges.Hinge.{Hinge}
use Rattle.carton_tree.specs.declared.spots.Spot.{Spot}
use Rattle.carton_tree.specs.Steps.{HingeJoins, IsWay, IsSpot, IsKnown, AreKnown, AreReached}
use Rattle.carton_tree.specs.Steps.{AreSpots, spot_at, hung_from}
use Rattle.carton_tree.proofs.Chains.{JoinsOnly, at_those}

-- what comes of looking at the joint at i from panel c to panel p
pub record IsHung (hs : List Hinge) (root r c p : ℕ) (old new : List (Option Spot)) : Type 0 where
  pub known : AreKnown hs root r new
  pub kept : (q : ℕ) → IsSome (spot_at old q) → IsSome (spot_at new q)
  pub reached : IsWay hs root r p → IsSome (spot_at new c)

-- a way to the root that starts with the joint at i
way_by : (hs : List Hinge) (root n i c p : ℕ) → HingeJoins hs i c p → IsWay hs root n p
    → IsWay hs root (suc n) c
way_by hs root n i c p j w = (i, p, j.0, j, w)

-- where nothing changes
stays : (hs : List Hinge) (root r c p : ℕ) (spots : List (Option Spot)) (s : Option Spot)
    → AreKnown hs root r spots → s ≡ spot_at spots c → (IsWay hs root r p → IsSome s)
    → IsHung hs root r c p spots (set spots c s)
stays hs root r c p spots s known e way =
    subst (λ x. IsHung hs root r c p spots x) (sym (ap (λ x. set spots c x) e ∙ set-get_or spots c None))
    (record { known = known; kept = λ q h. h; reached = λ w. subst IsSome e (way w) })

-- how a child hangs by the joint at i from a panel r joints below the root, and all panels then
abbrev below : ℕ → ℕ → PanelId → Spot
below r i p = record { depth = r + 1; hinge = i; parent = p }

abbrev grown : List (Option Spot) → ℕ → ℕ → ℕ → PanelId → List (Option Spot)
grown spots c r i p = set spots c (Some (below r i p))

-- the panel above hangs one joint less below the root
abbrev IsAbove : ℕ → Option Spot → Type 0
IsAbove depth o = IsSomeAnd o (λ t. suc t.depth ≡ depth)

-- where the child hangs now
module _ (hs : List Hinge) (root r i c : ℕ) (p : PanelId) (spots : List (Option Spot)) (a : Spot)
    (known : AreKnown hs root r spots) (j : HingeJoins hs i c p.0) (lt : c < MOST_PANELS)
    (none : spot_at spots c ≡ None) (above : spot_at spots p.0 ≡ Some a) (at : a.depth ≡ r) where
  here : spot_at (grown spots c r i p) c ≡ Some (below r i p)
  here = get_or-set_same spots c (Some (below r i p)) None (omega (arith, lt, known.count))

  other : (q : ℕ) → ¬ (q ≡ c) → spot_at (grown spots c r i p) q ≡ spot_at spots q
  other q n = get_or-set_other spots c q (Some (below r i p)) None n

  kept : (q : ℕ) → IsSome (spot_at spots q) → IsSome (spot_at (grown spots c r i p) q)
  kept q h = elim (cases_eq q c) [
    | inl e ↦ subst (λ x. IsSome (spot_at (grown spots c r i p) x)) (sym e) (subst IsSome (sym here) refl)
    | inr n ↦ subst IsSome (sym (other q n)) h
  ]

  new_spot : IsSpot hs (grown spots c r i p) root c (below r i p)
  new_spot =
      let way = subst (λ n. IsWay hs root n p.0) at (subst (IsKnown hs spots root (r + 1) p.0) above
      (known.known p.0)).0.leads in
      let parent_is = other p.0 (λ e. none-some a (sym none ∙ ap (spot_at spots) (sym e) ∙ above)) ∙ above in
      let step : suc r ≡ r + 1 = omega arith in
      record {
        leads = subst (λ n. IsWay hs root n c) step (way_by hs root r i c p.0 j way);
        least = λ n less w. false≢true (subst IsSome none (known.whole c n lt (omega (arith, less)) w));
        joins = λ l. j;
        parent = λ l. subst (IsAbove (r + 1)) (sym parent_is) (omega (arith, at));
      }

  -- a panel that hung before still does, as its parent does
  old_spot : (q : ℕ) (x : Spot) → IsSpot hs spots root q x → IsSpot hs (grown spots c r i p) root q x
  old_spot q x is = record {
    leads = is.leads;
    least = is.least;
    joins = is.joins;
    parent = λ l. elim (cases_eq x.parent.0 c) [
      | inl e ↦ absurd (subst (IsAbove x.depth) (ap (spot_at spots) e ∙ none) (is.parent l))
      | inr n ↦ subst (IsAbove x.depth) (sym (other x.parent.0 n)) (is.parent l)
    ];
  }

  each : (q : ℕ) → IsKnown hs (grown spots c r i p) root (r + 1) q (spot_at (grown spots c r i p) q)
  each q = elim (cases_eq q c) [
    | inl e ↦ subst (λ y. IsKnown hs (grown spots c r i p) root (r + 1) y (spot_at (grown spots c r i p) y)) (sym e)
        (subst (IsKnown hs (grown spots c r i p) root (r + 1) c) (sym here) (new_spot, omega arith))
    | inr n ↦ subst (IsKnown hs (grown spots c r i p) root (r + 1) q) (sym (other q n))
        (IfSome_then (spot_at spots q) (known.known q) (λ x h. (old_spot q x h.0, h.1)))
  ]

  hangs : IsHung hs root r c p.0 spots (grown spots c r i p)
  hangs = record {
    known = record {
      count = length-set spots c (Some (below r i p)) ∙ known.count;
      known = each;
      whole = λ q n l m w. kept q (known.whole q n l m w);
    };
    kept = kept;
    reached = λ w. subst IsSome (sym here) refl;
  }

-- one joint looked at from one of its panels
module _ (hs : List Hinge) (root r i c : ℕ) (p : PanelId) (spots : List (Option Spot))
    (known : AreKnown hs root r spots) (j : HingeJoins hs i c p.0) (lt : c < MOST_PANELS)
    (pl : p.0 < MOST_PANELS) where
  -- where the parent hangs elsewhere, the child hangs already, or the parent isn't so near
  elsewhere : (a : Spot) → IsSpot hs spots root p.0 a → ¬ (a.depth ≡ r) → IsWay hs root r p.0
      → IsSome (spot_at spots c)
  elsewhere a is off w = elim (cases_order a.depth r) [
    | inl e ↦ absurd (off e)
    | inr (inl less) ↦
        known.whole c (suc a.depth) lt (omega arith) (way_by hs root a.depth i c p.0 j is.leads)
    | inr (inr more) ↦ absurd (is.least r more w)
  ]

  looked_at : (child above : Option Spot) → child ≡ spot_at spots c → above ≡ spot_at spots p.0
      → IsHung hs root r c p.0 spots (set spots c (hung_from child above p i r))
  looked_at (Some s) above e f = stays hs root r c p.0 spots (Some s) known e (λ w. refl)
  looked_at None None e f = stays hs root r c p.0 spots None known e
      (λ w. subst IsSome (sym f) (known.whole p.0 r pl (omega arith) w))
  looked_at None (Some a) e f = elim (cases_eq a.depth r) [
    | inl at ↦
        subst (λ t. IsHung hs root r c p.0 spots (set spots c (cond t (Some (below r i p)) None)))
        (sym (eq-eqb a.depth r at)) (hangs hs root r i c p spots a known j lt (sym e) (sym f) at)
    | inr off ↦
        let is = subst (IsKnown hs spots root (r + 1) p.0) (sym f) (known.known p.0) in
        subst (λ t. IsHung hs root r c p.0 spots (set spots c (cond t (Some (below r i p)) None)))
        (sym (ne_eqb a.depth r off)) (stays hs root r c p.0 spots None known e
        (λ w. subst IsSome (sym e) (elsewhere a is.0 off w)))
  ]

-- and from both
pub hung_both : (hs : List Hinge) (root r i : ℕ) (f g : PanelId) (old mid new : List (Option Spot))
    → JoinsOnly (HingeJoins hs) i f.0 g.0 → HingeJoins hs i f.0 g.0 → HingeJoins hs i g.0 f.0
    → f.0 < MOST_PANELS → g.0 < MOST_PANELS
    → mid ≡ set old f.0 (hung_from (spot_at old f.0) (spot_at old g.0) g i r)
    → new ≡ set mid g.0 (hung_from (spot_at mid g.0) (spot_at mid f.0) f i r)
    → AreReached hs root r i old → AreReached hs root r (i + 1) new
hung_both hs root r i f g old mid new only there back fl gl first second h =
    let one : IsHung hs root r f.0 g.0 old mid = subst (λ x. IsHung hs root r f.0 g.0 old x) (sym first)
    (looked_at hs root r i f.0 g old h.known there fl gl (spot_at old f.0) (spot_at old g.0) refl refl) in
    let two : IsHung hs root r g.0 f.0 mid new = subst (λ x. IsHung hs root r g.0 f.0 mid x) (sym second)
    (looked_at hs root r i g.0 f mid one.known back gl fl (spot_at mid g.0) (spot_at mid f.0) refl refl) in
    record {
      known = two.known;
      reached = λ j a b lt al joins w. elim (cases_eq j i) [
        | inl e ↦ at_those (λ x y. IsWay hs root r y → IsSome (spot_at new x)) a b f.0 g.0
            (only a b (subst (λ k. HingeJoins hs k a b) e joins)) (λ w. two.kept f.0 (one.reached w))
            (λ w. two.reached w) w
        | inr n ↦ two.kept a (one.kept a (h.reached j a b (omega (arith, lt, n)) al joins w))
      ];
    }

-- a round begins
pub round_begins : (hs : List Hinge) (root r : ℕ) (spots : List (Option Spot)) → AreSpots hs root r spots
    → AreReached hs root r 0 spots
round_begins hs root r spots h = record {
  known = record {
    count = h.count;
    known = λ p. IfSome_then (spot_at spots p) (h.known p) (λ s k. (k.0, omega (arith, k.1)));
    whole = h.whole;
  };
  reached = λ j f g lt l joins w. absurd (omega (arith, lt));
}

-- and ends
pub round_ends : (hs : List Hinge) (root r i : ℕ) (spots : List (Option Spot)) → length hs ≤ i
    → AreReached hs root r i spots → AreSpots hs root (r + 1) spots
round_ends hs root r i spots all h = record {
  count = h.known.count;
  known = h.known.known;
  whole = λ p n l m w. elim (cases_eq n (r + 1)) [
    | inl e ↦
        let same : n ≡ suc r = omega (arith, e) in
        let last : IsWay hs root (suc r) p = subst (λ k. IsWay hs root k p) same w in
        h.reached last.0 p last.1 (omega (arith, last.2)) l last.3 last.4
    | inr off ↦ h.known.whole p n l (omega (arith, m, off)) w
  ];
}

-- only the root hangs by no joint
pub root_hangs : (hs : List Hinge) (root : ℕ) (spots : List (Option Spot)) (s : Spot)
    → length spots ≡ MOST_PANELS → root < MOST_PANELS → s.depth ≡ 0 → spot_at spots root ≡ Some s
    → ((p : ℕ) → ¬ (p ≡ root) → spot_at spots p ≡ None) → AreSpots hs root 0 spots
root_hangs hs root spots s count lt flat here others = record {
  count = count;
  known = λ p. elim (cases_eq p root) [
    | inl e ↦ subst (λ x. IsKnown hs spots root 0 x (spot_at spots x)) (sym e)
        (subst (IsKnown hs spots root 0 root) (sym here) (spot, omega (arith, flat)))
    | inr n ↦ subst (IsKnown hs spots root 0 p) (sym (others p n)) tt
  ];
  whole = known_root;
}
  where
    spot : IsSpot hs spots root root s
    spot = record {
      leads = subst (λ n. IsWay hs root n root) (sym flat) refl;
      least = λ n less. absurd (omega (arith, less, flat));
      joins = λ l. absurd (omega (arith, l, flat));
      parent = λ l. absurd (omega (arith, l, flat));
    }

    known_root : (p n : ℕ) → p < MOST_PANELS → n ≤ 0 → IsWay hs root n p → IsSome (spot_at spots p)
    known_root p zero l m w = subst (λ x. IsSome (spot_at spots x)) (sym w) (subst IsSome (sym here) refl)
    known_root p (suc n) l m w = absurd (omega (arith, m))

-- places where nothing is known yet
pub nones : (n p : ℕ) → get_or {A = Option Spot} (replicate n None) p None ≡ None
nones zero p = refl
nones (suc n) zero = refl
nones (suc n) (suc p) = nones n p
