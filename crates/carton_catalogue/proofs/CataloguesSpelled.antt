-- The canonical spelling of a catalogue reads back as that catalogue.
use Rattle.std.proofs.Common.{◌≡◌, ℕ, ◌+◌, ◌*◌, ◌%◌, ◌<◌, ◌≤◌, ◌<ℤ◌, int_lt, ℤ, true, false, eqb}
use Rattle.std.proofs.Common.{unsigned_abs, List, [], ◌∷◌, ◌++◌, length, length-append, map, Some, Ok}
use Rattle.std.proofs.Common.{refl, sym, ap, subst, ◌∙◌, append_assoc, arith, codes}
use Rattle.std.specs.List.{AllByRecursion}
use Rattle.std.proofs.lemmas.Bool.{le-leb, lt-leb, le-ltb, eq-eqb, ne_eqb}
use Rattle.std.proofs.lemmas.Int.{ints}
use Rattle.std.proofs.lemmas.List.{append-nil}
use Rattle.std.proofs.lemmas.List.Elements.{recursion_from_All}
use Rattle.carton_base.specs.declared.bodies.Cuboid.{Cuboid}
use Rattle.carton_base.specs.declared.bodies.Guide.{Guide}
use Rattle.carton_base.specs.declared.dieline.Point.{Point}
use Rattle.carton_base.specs.declared.limits.TheConstants.{FARTHEST}
use Rattle.carton_model.specs.Dielines.{IsNear}
use Rattle.carton_lines.specs.Lines.{next_number}
use Rattle.carton_lines.specs.Spellings.{take_all}
use Rattle.carton_lines.proofs.SpelledLines.{Lacks, AreSmall, lacks, words_apart, numbers_spelled}
use Rattle.carton_lines.proofs.Spellings.{one_taken}
use Rattle.carton_lines.proofs.FreeSpellings.{IsTelling, IsFree, both_free, each_free, freely_told}
use Rattle.carton_text.specs.JobSpelling.{numbers_line}
use Rattle.carton_text.proofs.JobsSpelled.{within_told, free_line}
use Rattle.carton_text.proofs.PlanEntries.{stops_near}
use Rattle.carton_catalogue.specs.declared.catalogue.Catalogue.{Catalogue}
use Rattle.carton_catalogue.specs.declared.draft.CatalogueDraft.{CatalogueDraft}
use Rattle.carton_catalogue.specs.declared.lines.Keyword.{Keyword}
use Rattle.carton_catalogue.specs.declared.lines.Keyword.TheVariants.{Stroke, Body, Guide as GuideWord}
use Rattle.carton_catalogue.specs.declared.limits.TheConstants.{FARTHEST_CORNER, LAST_EDGE, LAST_MOVE}
use Rattle.carton_catalogue.specs.declared.limits.TheConstants.{MOST_BODIES, MOST_GUIDES, MOST_PROBES}
use Rattle.carton_catalogue.specs.declared.limits.TheConstants.{WIDEST_BAND}
use Rattle.carton_catalogue.specs.CatalogueLines.{coordinates_in, stroke_in, is_span, is_body, cuboid_of}
use Rattle.carton_catalogue.specs.CatalogueLines.{bodies_in, points_of, probes_in, guide_in, keyword_in}
use Rattle.carton_catalogue.specs.CatalogueLines.{numbered, worded, line_in}
use Rattle.carton_catalogue.specs.Catalogues.{new_draft, with_stroke, with_bodies, with_guide, add}
use Rattle.carton_catalogue.specs.Catalogues.{later_line}
use Rattle.carton_catalogue.specs.Catalogues.{catalogue_lines, catalogue_of}
use Rattle.carton_catalogue.specs.CatalogueRules.{IsCoordinate, IsSpan, IsBody, IsStroke, IsGuide}
use Rattle.carton_catalogue.specs.CatalogueRules.{IsCatalogue}
use Rattle.carton_catalogue.specs.CatalogueSpelling.{box_numbers, point_numbers, guide_numbers, body_line}
use Rattle.carton_catalogue.specs.CatalogueSpelling.{guide_line, later_lines, IsReadOfItsSpelling}

-- numbers within a million are small
all_small : (most : ℕ) (zs : List ℤ) → most ≤ 1000000 → AllByRecursion (λ z. unsigned_abs z ≤ most) zs
    → AreSmall zs
all_small most [] few h = tt
all_small most (z ∷ zs) few h = (omega (arith, few, h.0), all_small most zs few h.1)

-- a line of a keyword and numbers
line_told : (word : List ℕ) (keyword : Keyword) (zs : List ℤ) → Lacks 32 word → AreSmall zs
    → keyword_in word ≡ Some keyword → line_in (numbers_line word zs) ≡ numbered keyword zs
unfolding line_in worded
line_told word keyword zs w small k = rw (words_apart word zs w small, k, numbers_spelled 0 zs small) refl

coordinates_told : (count : ℕ) (zs : List ℤ) → length zs ≡ count → AllByRecursion IsCoordinate zs
    → coordinates_in count zs ≡ Ok zs
unfolding coordinates_in
coordinates_told count zs e h = rw (eq-eqb (length zs) count e) (stops_near FARTHEST_CORNER 0 zs h)

small_coordinates : (zs : List ℤ) → AllByRecursion IsCoordinate zs → AreSmall zs
small_coordinates zs h = all_small FARTHEST_CORNER zs (omega arith) h

is_less : (a b : ℤ) → a <ℤ b → int_lt a b ≡ true
is_less a b h = grind (arith, ints)

span_true : (low high : ℤ) → IsSpan low high → is_span low high ≡ true
unfolding is_span
span_true low high h =
    rw (
      le-leb (unsigned_abs low) FARTHEST_CORNER h.from,
      le-leb (unsigned_abs high) FARTHEST_CORNER h.upto,
      is_less low high h.ordered,
    ) refl

body_true : (b : Cuboid) → IsBody b → is_body b ≡ true
unfolding is_body
body_true b h = rw (span_true b.x0 b.x1 h.x, span_true b.y0 b.y1 h.y, span_true b.z0 b.z1 h.z) refl

box_coordinates : (b : Cuboid) → IsBody b → AllByRecursion IsCoordinate (box_numbers b)
box_coordinates b h = (h.x.from, (h.x.upto, (h.y.from, (h.y.upto, (h.z.from, (h.z.upto, tt))))))

body_told : (b : Cuboid) → IsBody b → bodies_in (box_numbers b) ≡ Ok (b ∷ [])
unfolding bodies_in cuboid_of
body_told b h = rw (coordinates_told 6 (box_numbers b) refl (box_coordinates b h), body_true b h) refl

body_line_told : (d : CatalogueDraft) (b : Cuboid) (n : ℕ) → IsBody b → length d.bodies < MOST_BODIES
    → later_line d n (body_line b) ≡ Ok (record d { bodies = d.bodies ++ b ∷ [] })
unfolding numbered add with_bodies keyword_in
body_line_told d b n h few =
    let word = codes "body" in
    let room = le-ltb MOST_BODIES (length d.bodies + 1) (omega (arith, few)) in
    rw (
      line_told word Body (box_numbers b) (lacks 32 word refl)
          (small_coordinates (box_numbers b) (box_coordinates b h)) refl,
      body_told b h,
      room,
    ) refl

bodies_read : (d e : CatalogueDraft) (bs : List Cuboid) (lines : List (List ℕ)) → AllByRecursion IsBody bs
    → length (d.bodies ++ bs) ≤ MOST_BODIES
    → ((m : ℕ) → take_all catalogue_lines (record d { bodies = d.bodies ++ bs }) m lines ≡ Ok e)
    → (n : ℕ) → take_all catalogue_lines d n (map body_line bs ++ lines) ≡ Ok e
bodies_read d e [] lines each few rest n =
    subst (λ xs. take_all catalogue_lines (record d { bodies = xs }) n lines ≡ Ok e) (append-nil d.bodies)
    (rest n)
bodies_read d e (b ∷ bs) lines each few rest n =
    let more : CatalogueDraft = record d { bodies = d.bodies ++ b ∷ [] } in
    let all = append_assoc d.bodies (b ∷ []) bs in
    let here : length d.bodies < MOST_BODIES =
    omega (arith, few, length-append d.bodies (b ∷ bs)) in
    one_taken catalogue_lines d more n (body_line b) (map body_line bs ++ lines)
    (body_line_told d b (next_number n) each.0 here)
    ∙ bodies_read more e bs lines each.1 (subst (λ xs. length xs ≤ MOST_BODIES) (sym all) few)
    (λ m. subst (λ xs. take_all catalogue_lines (record d { bodies = xs }) m lines ≡ Ok e) (sym all) (rest m))
    (next_number n)

point_count : (ps : List Point) → length (point_numbers ps) ≡ 2 * length ps
point_count [] = refl
point_count (p ∷ ps) = let more = point_count ps in omega (arith, more)

points_back : (ps : List Point) → points_of (point_numbers ps) ≡ ps
points_back [] = refl
points_back (p ∷ ps) = ap (λ (qs : List Point). p ∷ qs) (points_back ps)

near_points : (ps : List Point) → AllByRecursion IsNear ps
    → AllByRecursion (λ z. unsigned_abs z ≤ FARTHEST) (point_numbers ps)
near_points [] h = tt
near_points (p ∷ ps) h = (h.0.x, (h.0.y, near_points ps h.1))

probes_told : (ps : List Point) → 1 ≤ length ps → length ps ≤ MOST_PROBES → AllByRecursion IsNear ps
    → probes_in (point_numbers ps) ≡ Ok ps
unfolding probes_in
probes_told ps some few h =
    let zs = point_numbers ps in
    let count = point_count ps in
    let any : eqb (length zs) 0 ≡ false = ne_eqb (length zs) 0 (λ e. omega (arith, e, count, some)) in
    let even : eqb (length zs % 2) 0 ≡ true = eq-eqb (length zs % 2) 0 (omega (arith, count)) in
    let room = le-ltb (2 * MOST_PROBES) (length zs) (omega (arith, count, few)) in
    rw (any, even, room, stops_near FARTHEST 0 zs (near_points ps h))
    (ap (λ (qs : List Point). Ok qs) (points_back ps))

small_guide : (g : Guide) → IsGuide g → AreSmall (guide_numbers g)
small_guide g h =
    let probes = all_small FARTHEST (point_numbers g.probes) (omega arith)
    (near_points g.probes (recursion_from_All IsNear g.probes h.near)) in (
      omega (arith, h.edge),
      (omega (arith, h.first), (omega (arith, h.last), (omega (arith, h.band.upto), probes))),
    )

guide_told : (g : Guide) → IsGuide g → guide_in (guide_numbers g) ≡ Ok g
unfolding guide_in
guide_told g h =
    rw (
      probes_told g.probes h.some h.few (recursion_from_All IsNear g.probes h.near),
      within_told 0 LAST_EDGE g.edge.0 (omega arith) (omega (arith, h.edge)),
      within_told 0 LAST_MOVE g.first (omega arith) h.first,
      within_told 0 LAST_MOVE g.last (omega arith) h.last,
      within_told 1 WIDEST_BAND g.band h.band.from h.band.upto,
    ) refl

guide_line_told : (d : CatalogueDraft) (g : Guide) (n : ℕ) → IsGuide g → length d.guides < MOST_GUIDES
    → later_line d n (guide_line g) ≡ Ok (record d { guides = d.guides ++ g ∷ [] })
unfolding numbered add with_guide keyword_in
guide_line_told d g n h few =
    let word = codes "guide" in
    rw (
      line_told word GuideWord (guide_numbers g) (lacks 32 word refl) (small_guide g h) refl,
      guide_told g h,
      lt-leb MOST_GUIDES (length d.guides) few,
    ) refl

guides_read : (d : CatalogueDraft) (gs : List Guide) (n : ℕ) → AllByRecursion IsGuide gs
    → length (d.guides ++ gs) ≤ MOST_GUIDES
    → take_all catalogue_lines d n (map guide_line gs) ≡ Ok (record d { guides = d.guides ++ gs })
unfolding take_all
guides_read d [] n each few = λ i. Ok (record d { guides = sym (append-nil d.guides) i })
guides_read d (g ∷ gs) n each few =
    let more : CatalogueDraft = record d { guides = d.guides ++ g ∷ [] } in
    let all = append_assoc d.guides (g ∷ []) gs in
    let here : length d.guides < MOST_GUIDES =
    omega (arith, few, length-append d.guides (g ∷ gs)) in
    one_taken catalogue_lines d more n (guide_line g) (map guide_line gs)
    (guide_line_told d g (next_number n) each.0 here)
    ∙ guides_read more gs (next_number n) each.1 (subst (λ xs. length xs ≤ MOST_GUIDES) (sym all) few)
    ∙ (λ i. Ok (record d { guides = all i }))

stroke_line_told : (stroke : List ℤ) (n : ℕ) → IsStroke stroke
    → later_line new_draft n (numbers_line (codes "stroke") stroke)
    ≡ Ok (record new_draft { stroke = Some stroke })
unfolding numbered add with_stroke stroke_in keyword_in
stroke_line_told stroke n h =
    let word = codes "stroke" in
    let each = recursion_from_All IsCoordinate stroke h.each in
    rw (
      line_told word Stroke stroke (lacks 32 word refl) (small_coordinates stroke each) refl,
      coordinates_told 3 stroke h.three each,
    ) refl

lines_free : (c : Catalogue) → IsCatalogue c → AllByRecursion IsFree (later_lines c)
lines_free c h =
    let a = codes "stroke" in
    let b = codes "body" in
    let g = codes "guide" in
    let stroke = small_coordinates c.stroke (recursion_from_All IsCoordinate c.stroke h.stroke.each) in
    let bodies = each_free body_line IsBody
    (λ x is. free_line b (box_numbers x) (lacks 10 b refl) (lacks 13 b refl)
    (small_coordinates (box_numbers x) (box_coordinates x is)) refl refl) c.bodies
    (recursion_from_All IsBody c.bodies h.bodies.each) in
    let guides = each_free guide_line IsGuide
    (λ x is. free_line g (guide_numbers x) (lacks 10 g refl) (lacks 13 g refl) (small_guide x is) refl refl)
    c.guides (recursion_from_All IsGuide c.guides h.guides.each) in (
      free_line a c.stroke (lacks 10 a refl) (lacks 13 a refl) stroke refl refl,
      both_free (map body_line c.bodies) (map guide_line c.guides) bodies guides,
    )

-- each catalogue that keeps its rules
pub read_back : (c : Catalogue) → IsCatalogue c → IsReadOfItsSpelling c
unfolding catalogue_of
read_back c h =
    let first = codes "carton catalogue 1" in
    let d : CatalogueDraft = record new_draft { stroke = Some c.stroke } in
    let e : CatalogueDraft = record d { bodies = c.bodies; guides = c.guides } in
    let rest = bodies_read d e c.bodies (map guide_line c.guides)
    (recursion_from_All IsBody c.bodies h.bodies.each) h.bodies.few
    (λ m. guides_read (record d { bodies = c.bodies }) c.guides m
    (recursion_from_All IsGuide c.guides h.guides.each) h.guides.few) in
    let n = next_number 0 in
    let lines = one_taken catalogue_lines new_draft d n (numbers_line (codes "stroke") c.stroke)
    (map body_line c.bodies ++ map guide_line c.guides) (stroke_line_told c.stroke (next_number n) h.stroke)
    ∙ rest (next_number n) in
    let telling : IsTelling first =
    record { feed = lacks 10 first refl; return = lacks 13 first refl; told = refl } in
    let free = lines_free c h in
    let all = freely_told catalogue_lines first (later_lines c) new_draft e telling free refl lines refl in
    let some : eqb (length c.guides) 0 ≡ false =
    ne_eqb (length c.guides) 0 (λ q. omega (arith, q, h.guides.some)) in
    rw (all, some) refl
