-- The corners of a face, gathered vertex by vertex.
use Rattle.std.proofs.Common.{◌≡◌, ℕ, ◌+◌, ◌<◌, ◌≤◌, List, [], ◌∷◌, ◌++◌, length, get_or, take, map, sym, ◌∙◌}
use Rattle.std.proofs.Common.{ap, arith, Bool, true, false, not}
use Rattle.std.specs.Prelude.{filter, if◌then◌else◌}
use Rattle.std.proofs.lemmas.List.{map-append, append-nil, take_more, take_all}
use Rattle.std.proofs.lemmas.List.Elements.{filter_more}
use Rattle.carton_base.specs.declared.dieline.Point.{Point}
use Rattle.carton_base.specs.declared.numbers.Triple.{Triple}
use Rattle.carton_panels.specs.Around.{Step}
use Rattle.carton_panels.specs.Panels.{Side, origin, bends_of, is_straight, corners_of}
use Rattle.carton_panels.specs.Shapes.{place_of}
use Rattle.carton_panels.proofs.Steps.{length-bends_of, vertex_at}

abbrev pub no_bend : Step Side
no_bend = record { from = record { from = origin; to = origin }; to = record { from = origin; to = origin } }

-- the corners among the first vertices
abbrev pub corners_before : List Point → ℕ → List Point
corners_before ps k = map (λ b. b.to.from) (filter (λ b. not (is_straight b)) (take k (bends_of ps)))

-- one vertex more, which is straight or not
more : (ps : List Point) (k : ℕ) (s : Bool) → k < length ps → is_straight (get_or (bends_of ps) k no_bend) ≡ s
    → corners_before ps (k + 1) ≡ corners_before ps k ++ (if s then [] else (get_or ps k origin ∷ []))
more ps k s h e =
    let bends = bends_of ps in
    let b = get_or bends k no_bend in
    let vertex : Step Side → Point = λ b. b.to.from in
    let kept : List (Step Side) → List Point = map vertex in
    let first = filter (λ b. not (is_straight b)) (take k bends) in
    ap kept (filter_more (λ b. not (is_straight b)) bends k no_bend (omega (arith, h, length-bends_of ps)))
    ∙ map-append vertex first _
    ∙ ap (λ l. kept first ++ l) (one b s e (vertex_at ps k no_bend origin h))
  where
    one : (b : Step Side) (s : Bool) {p : Point} → is_straight b ≡ s → b.to.from ≡ p
        → map (λ (b : Step Side). b.to.from) (if not (is_straight b) then (b ∷ []) else [])
        ≡ (if s then [] else (p ∷ []))
    one b true e v = ap (λ t. map (λ (b : Step Side). b.to.from) (if not t then (b ∷ []) else [])) e
    one b false e v = ap (λ t. map (λ (b : Step Side). b.to.from) (if not t then (b ∷ []) else [])) e
        ∙ ap (λ p. p ∷ []) v

pub straight_more : (ps : List Point) (k : ℕ) (ts : List Triple) → k < length ps
    → is_straight (get_or (bends_of ps) k no_bend) ≡ true → map place_of ts ≡ corners_before ps k
    → map place_of ts ≡ corners_before ps (k + 1)
straight_more ps k ts h s e = e ∙ sym (append-nil (corners_before ps k)) ∙ sym (more ps k true h s)

pub corner_more : (ps : List Point) (k : ℕ) (ts : List Triple) (t : Triple) → k < length ps
    → is_straight (get_or (bends_of ps) k no_bend) ≡ false → place_of t ≡ get_or ps k origin
    → map place_of ts ≡ corners_before ps k → map place_of (ts ++ t ∷ []) ≡ corners_before ps (k + 1)
corner_more ps k ts t h s p e = map-append place_of ts (t ∷ []) ∙ ap (λ l. l ++ place_of t ∷ []) e
    ∙ ap (λ q. corners_before ps k ++ q ∷ []) p ∙ sym (more ps k false h s)

pub all_corners : (ps : List Point) (k : ℕ) (ts : List Triple) → length ps ≤ k
    → map place_of ts ≡ corners_before ps k → map place_of ts ≡ corners_of ps
all_corners ps k ts h e =
    let vertex : Step Side → Point = λ b. b.to.from in
    e ∙ ap (λ bs. map vertex (filter (λ b. not (is_straight b)) bs)) (take_all k (bends_of ps)
    (omega (arith, h, length-bends_of ps)))

-- the place of a vertex as a triple
pub same_place : (t : Triple) (q : Point) → t.x ≡ q.x → t.y ≡ q.y → place_of t ≡ q
same_place t q e f = λ i. record { x = e i; y = f i }

-- one vertex more of those whose places are listed
pub places_more : (places : List Point) (vertices : List ℕ) (k : ℕ) (ps : List Point) → k < length vertices
    → ps ≡ map (λ c. get_or places c origin) (take k vertices)
    → ps ++ get_or places (get_or vertices k 0) origin ∷ []
    ≡ map (λ c. get_or places c origin) (take (k + 1) vertices)
places_more places vertices k ps h e =
    let f : ℕ → Point = λ c. get_or places c origin in
    ap (λ l. l ++ f (get_or vertices k 0) ∷ []) e
    ∙ sym (map-append f (take k vertices) (get_or vertices k 0 ∷ []))
    ∙ ap (map f) (sym (take_more vertices k 0 h))
