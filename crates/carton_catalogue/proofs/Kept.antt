-- A line of a catalogue that was read keeps the rules of its form.
use Rattle.std.proofs.Common.{◌≡◌, ℕ, ◌+◌, ◌*◌, ◌≤◌, ◌<◌, ◌<ℤ◌, ℤ, unsigned_abs, int_lt, Bool, true, false}
use Rattle.std.proofs.Common.{not, ◌&&◌, leb, ltb, eqb, List, [], ◌∷◌, length, Result, Ok, Err, IfOk, refl}
use Rattle.std.proofs.Common.{sym, ◌∙◌, subst, All, arith, ok_or}
use Rattle.std.specs.List.{range_with_len, AllByRecursion}
use Rattle.std.proofs.lemmas.Bool.{leb-true, ltb-false}
use Rattle.std.proofs.lemmas.Bool.Decides.{nat_tests}
use Rattle.std.proofs.lemmas.Int.{ints}
use Rattle.std.proofs.lemmas.List.Elements.{All-nil, All-cons, All-from_recursion, recursion_from_All}
use Rattle.carton_base.specs.declared.bodies.Cuboid.{Cuboid}
use Rattle.carton_base.specs.declared.bodies.Guide.{Guide}
use Rattle.carton_base.specs.declared.dieline.Point.{Point}
use Rattle.carton_base.specs.declared.limits.TheConstants.{FARTHEST}
use Rattle.carton_base.specs.Steps.{◌>>=◌, refuse_if, entries_from}
use Rattle.carton_base.proofs.Steps.{both, same_ok, not_refused, only_if, count_entries, all_entries}
use Rattle.carton_model.specs.Dielines.{IsNear}
use Rattle.carton_lines.specs.declared.fault.Fault.{Fault}
use Rattle.carton_lines.specs.declared.fault.Fault.TheVariants.{BadLine, Range}
use Rattle.carton_lines.specs.Lines.{Gives, words_of}
use Rattle.carton_lines.specs.Numbers.{numbers_in, from_to, at_most}
use Rattle.carton_text.proofs.Kept.{within}
use Rattle.carton_catalogue.specs.declared.limits.TheConstants.{FARTHEST_CORNER, LAST_EDGE, LAST_MOVE}
use Rattle.carton_catalogue.specs.declared.limits.TheConstants.{MOST_BODIES, MOST_PROBES, WIDEST_BAND}
use Rattle.carton_catalogue.specs.declared.lines.Keyword.{Keyword}
use Rattle.carton_catalogue.specs.declared.lines.Keyword.TheVariants as word
use Rattle.carton_catalogue.specs.declared.lines.CatalogueLine.{CatalogueLine}
use Rattle.carton_catalogue.specs.declared.lines.CatalogueLine.TheVariants.{Stroke, Bodies}
use Rattle.carton_catalogue.specs.declared.lines.CatalogueLine.TheVariants.{Guide as GuideLine}
use Rattle.carton_catalogue.specs.CatalogueLines.{coordinates_in, stroke_in, is_span, is_body, body}
use Rattle.carton_catalogue.specs.CatalogueLines.{cuboid_of, bodies_in, body_of_row, row_in, points_of}
use Rattle.carton_catalogue.specs.CatalogueLines.{are_pairs, probes_in, guide_in, keyword_in, numbered}
use Rattle.carton_catalogue.specs.CatalogueLines.{worded, line_in}
use Rattle.carton_catalogue.specs.CatalogueRules.{IsCoordinate, IsSpan, IsBody, IsStroke, IsGuide}

-- what holds of all that the rules give holds of what was returned
pub if_given : {X : Type 0} (items : X → List ℤ) (P : List ℤ → Type 0) (r : Result X Fault)
    (rules : Result (List ℤ) Fault) → Gives items r rules → ((xs : List ℤ) → rules ≡ Ok xs → P xs)
    → IfOk r (λ x. P (items x))
if_given items P (Ok x) rules h f = f (items x) h
if_given items P (Err e) rules h f = tt

both_true : (a b : Bool) → (a && b) ≡ true → (a ≡ true) × (b ≡ true)
both_true true b h = (refl, h)
both_true false b h = cc

pub sized : (most : ℕ) (i : ℕ) (z s : ℤ) → at_most most z ≡ Ok s → unsigned_abs s ≤ most
sized most i z s h =
    let p = only_if (leb (unsigned_abs z) most) Range z s h in
    rw p.1 (leb-true (unsigned_abs z) most p.0)

same_count : (m n : ℕ) → not (eqb m n) ≡ false → m ≡ n
same_count m n h = grind (arith, nat_tests)

-- coordinates that were read
pub record AreCoordinates (count : ℕ) (zs : List ℤ) : Type 0 where
  pub count_is : length zs ≡ count
  pub each : All IsCoordinate zs

pub are_coordinates : (count : ℕ) (zs xs : List ℤ) → coordinates_in count zs ≡ Ok xs → AreCoordinates count xs
unfolding coordinates_in
are_coordinates count zs xs h =
    let fine = both (refuse_if (not (eqb (length zs) count)) BadLine) _ xs h in
    let entry = λ (i : ℕ). at_most FARTHEST_CORNER in
    record {
      count_is = count_entries entry 0 zs xs fine.2
          ∙ same_count (length zs) count (not_refused _ BadLine fine.0 fine.1);
      each = all_entries IsCoordinate entry (sized FARTHEST_CORNER) 0 zs xs fine.2;
    }

less : (a b : ℤ) → int_lt a b ≡ true → a <ℤ b
less a b h = grind (arith, ints)

span : (low high : ℤ) → is_span low high ≡ true → IsSpan low high
unfolding is_span
span low high h =
    let p = both_true (leb (unsigned_abs low) FARTHEST_CORNER) _ h in
    let q = both_true (leb (unsigned_abs high) FARTHEST_CORNER) _ p.1 in
    record {
      from = leb-true (unsigned_abs low) FARTHEST_CORNER p.0;
      upto = leb-true (unsigned_abs high) FARTHEST_CORNER q.0;
      ordered = less low high q.1;
    }

made_body : (b c : Cuboid) → body b ≡ Ok c → IsBody c
unfolding is_body
made_body b c h =
    let made = only_if (is_body b) Range b c h in
    let p = both_true (is_span b.x0 b.x1) _ made.0 in
    let q = both_true (is_span b.y0 b.y1) _ p.1 in
    subst IsBody (sym made.1) (record {
      x = span b.x0 b.x1 p.0;
      y = span b.y0 b.y1 q.0;
      z = span b.z0 b.z1 q.1;
    })

is_stroke : (zs xs : List ℤ) → stroke_in zs ≡ Ok xs → IsStroke xs
unfolding stroke_in
is_stroke zs xs h =
    let a = are_coordinates 3 zs xs h in
    record { three = a.count_is; each = a.each }

one_body : (zs : List ℤ) (bodies : List Cuboid) → bodies_in zs ≡ Ok bodies → All IsBody bodies
unfolding bodies_in
one_body zs bodies h =
    let sides = both (coordinates_in 6 zs) _ bodies h in
    let b = both (body (cuboid_of sides.0)) _ bodies sides.2 in
    subst (All IsBody) (same_ok (b.0 ∷ []) bodies _ refl b.2)
    (All-cons IsBody b.0 [] (made_body _ b.0 b.1) (All-nil IsBody))

row_bodies : (zs : List ℤ) (bodies : List Cuboid) → row_in zs ≡ Ok bodies → All IsBody bodies
unfolding row_in
row_bodies [] bodies h = cc
row_bodies (n ∷ zs) bodies h =
    let numbers = both (coordinates_in 9 zs) _ bodies h in
    let count = both (from_to 1 MOST_BODIES n) _ bodies numbers.2 in
    all_entries IsBody (λ i. body_of_row numbers.0) (λ i k b e. made_body _ b e) 0 (range_with_len 0 count.0)
    bodies count.2

near_points : (zs : List ℤ) → AllByRecursion (λ z. unsigned_abs z ≤ FARTHEST) zs
    → AllByRecursion IsNear (points_of zs)
near_points [] h = tt
near_points (x ∷ []) h = tt
near_points (x ∷ y ∷ zs) h = (record { x = h.0; y = h.1.0 }, near_points zs h.1.1)

few_points : (zs : List ℤ) → 2 * length (points_of zs) ≤ length zs
few_points [] = omega arith
few_points (x ∷ []) = omega arith
few_points (x ∷ y ∷ zs) = let h = few_points zs in omega (arith, h)

some_points : (zs : List ℤ) → length zs < 2 * length (points_of zs) + 2
some_points [] = omega arith
some_points (x ∷ []) = omega arith
some_points (x ∷ y ∷ zs) = let h = some_points zs in omega (arith, h)

-- probes that were read
record AreProbes (ps : List Point) : Type 0 where
  some : 1 ≤ length ps
  few : length ps ≤ MOST_PROBES
  near : All IsNear ps

are_probes : (zs : List ℤ) (ps : List Point) → probes_in zs ≡ Ok ps → AreProbes ps
unfolding probes_in
are_probes zs ps h =
    let pairs = both (refuse_if (not (are_pairs zs)) BadLine) _ ps h in
    let few = both (refuse_if (ltb (2 * MOST_PROBES) (length zs)) Range) _ ps pairs.2 in
    let entry = λ (i : ℕ). at_most FARTHEST in
    let xs = both (entries_from entry 0 zs) _ ps few.2 in
    let count = count_entries entry 0 zs xs.0 xs.1 in
    let least = few_points xs.0 in
    let most = some_points xs.0 in
    let upto = ltb-false (2 * MOST_PROBES) (length zs) (not_refused _ Range few.0 few.1) in
    let two = enough zs (not_refused _ BadLine pairs.0 pairs.1) in
    subst AreProbes (same_ok (points_of xs.0) ps _ refl xs.2) (record {
      some = omega (arith, most, count, two);
      few = omega (arith, least, count, upto);
      near = All-from_recursion IsNear (points_of xs.0)
          (near_points xs.0
          (recursion_from_All (λ z. unsigned_abs z ≤ FARTHEST) xs.0
          (all_entries (λ z. unsigned_abs z ≤ FARTHEST) entry (sized FARTHEST) 0 zs xs.0 xs.1)));
    })
  where
    enough : (zs : List ℤ) → not (are_pairs zs) ≡ false → 2 ≤ length zs
    enough [] e = cc
    enough (x ∷ []) e = cc
    enough (x ∷ y ∷ zs) e = omega arith

is_guide : (zs : List ℤ) (g : Guide) → guide_in zs ≡ Ok g → IsGuide g
unfolding guide_in
is_guide [] g h = cc
is_guide (e ∷ []) g h = cc
is_guide (e ∷ f ∷ []) g h = cc
is_guide (e ∷ f ∷ l ∷ []) g h = cc
is_guide (e ∷ f ∷ l ∷ b ∷ zs) g h =
    let probes = both (probes_in zs) _ g h in
    let edge = both (from_to 0 LAST_EDGE e) _ g probes.2 in
    let first = both (from_to 0 LAST_MOVE f) _ g edge.2 in
    let last = both (from_to 0 LAST_MOVE l) _ g first.2 in
    let band = both (from_to 1 WIDEST_BAND b) _ g last.2 in
    let are = are_probes zs probes.0 probes.1 in
    let numbered_edge = within 0 LAST_EDGE e edge.0 edge.1 in
    let upto : edge.0 ≤ LAST_EDGE = numbered_edge.upto in
    subst IsGuide (same_ok _ g _ refl band.2) (record {
      edge = omega (arith, upto);
      first = (within 0 LAST_MOVE f first.0 first.1).upto;
      last = (within 0 LAST_MOVE l last.0 last.1).upto;
      band = within 1 WIDEST_BAND b band.0 band.1;
      some = are.some;
      few = are.few;
      near = are.near;
    })

-- what a line by itself tells
abbrev pub IsLine : CatalogueLine → Type 0
IsLine (Stroke stroke) = IsStroke stroke
IsLine (Bodies bodies) = All IsBody bodies
IsLine (GuideLine guide) = IsGuide guide

-- the line that is made of what a step gave keeps what that step keeps
made_line : {A : Type 0} (r : Result A Fault) (make : A → CatalogueLine) (l : CatalogueLine)
    → (r >>= λ x. Ok (make x)) ≡ Ok l → ((x : A) → r ≡ Ok x → IsLine (make x)) → IsLine l
made_line (Ok x) make l h kept = subst IsLine (same_ok (make x) l _ refl h) (kept x refl)
made_line (Err e) make l h kept = cc

numbered_line : (keyword : Keyword) (zs : List ℤ) (l : CatalogueLine) → numbered keyword zs ≡ Ok l → IsLine l
unfolding numbered
numbered_line word.Stroke zs l h = made_line (stroke_in zs) Stroke l h (is_stroke zs)
numbered_line word.Body zs l h = made_line (bodies_in zs) Bodies l h (one_body zs)
numbered_line word.Row zs l h = made_line (row_in zs) Bodies l h (row_bodies zs)
numbered_line word.Guide zs l h = made_line (guide_in zs) GuideLine l h (is_guide zs)

-- a line between the first and the last
pub line_kept : (line : List ℕ) (l : CatalogueLine) → line_in line ≡ Ok l → IsLine l
unfolding line_in worded
line_kept line l h = of_words (words_of line) h
  where
    of_words : (words : List (List ℕ)) → worded words ≡ Ok l → IsLine l
    of_words [] e = cc
    of_words (w ∷ ws) e =
        let keyword = both (ok_or (keyword_in w) BadLine) _ l e in
        let numbers = both (numbers_in ws) _ l keyword.2 in
        numbered_line keyword.0 numbers.0 l numbers.2
