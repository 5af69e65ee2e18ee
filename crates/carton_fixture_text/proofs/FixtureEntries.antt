-- The stroke and the bodies of a fixture that was read, and their numbers.
use Rattle.std.proofs.Common.{◌≡◌, ℕ, ◌≤◌, ◌<◌, ℤ, pos, negsuc, ◌<ℤ◌, int_lt, unsigned_abs, true, ◌&&◌, not}
use Rattle.std.proofs.Common.{leb, List, [], ◌∷◌, All, Ok, refl, sym, ap, subst, ◌∙◌, arith}
use Rattle.std.specs.List.{AllByRecursion}
use Rattle.std.proofs.lemmas.Bool.{leb-true, le-leb, lt-ltb, ltb-true, and_parts, not-false}
use Rattle.std.proofs.lemmas.Int.{ints}
use Rattle.std.proofs.lemmas.List.Elements.{All-from_recursion, recursion_from_All}
use Rattle.std.proofs.lemmas.List.Sums.{AllPass-from_list_all, list_all-from_AllPass}
use Rattle.carton_base.specs.Steps.{refuse_if}
use Rattle.carton_base.proofs.Steps.{both, same_ok, not_refused, only_if}
use Rattle.carton_lines.specs.declared.fault.Fault.TheVariants.{BadLine, Range}
use Rattle.carton_lines.specs.Numbers.{from_to}
use Rattle.carton_lines.proofs.SpelledLines.{AreSmall}
use Rattle.carton_catalogue.specs.declared.limits.TheConstants.{FARTHEST_CORNER}
use Rattle.carton_catalogue.specs.CatalogueRules.{IsCoordinate, IsStroke, IsSpan}
use Rattle.carton_fixture_text.specs.declared.fixture.TheConstants.{LAST_BODY}
use Rattle.carton_fixture_text.specs.declared.fixture.FixtureBody.{FixtureBody}
use Rattle.carton_fixture_text.specs.FixtureRules.{IsFixtureBody}
use Rattle.carton_fixture_text.specs.FixtureTexts.{near, way_of, span_of, comes_after, box_between, body_of}
use Rattle.carton_fixture_text.specs.FixtureTexts.{numbers_of}

near_is : (z y : ℤ) → near z ≡ Ok y → (z ≡ y) × IsCoordinate y
near_is z y h =
    let p = only_if (leb (unsigned_abs z) FARTHEST_CORNER) Range z y h in
    (sym p.1, subst IsCoordinate (sym p.1) (leb-true (unsigned_abs z) FARTHEST_CORNER p.0))

near_told : (z : ℤ) → IsCoordinate z → near z ≡ Ok z
near_told z h =
    let test : leb (unsigned_abs z) FARTHEST_CORNER ≡ true = le-leb _ _ h in
    rw test refl

abbrev three : ℤ → ℤ → ℤ → List ℤ
three x y z = x ∷ y ∷ z ∷ []

-- a stroke that was read
pub way_is : (zs way : List ℤ) → way_of zs ≡ Ok way → (zs ≡ way) × IsStroke way
unfolding way_of
way_is [] way h = cc
way_is (a ∷ []) way h = cc
way_is (a ∷ b ∷ []) way h = cc
way_is (a ∷ b ∷ c ∷ []) way h =
    let x = both (near a) _ way h in
    let y = both (near b) _ way x.2 in
    let z = both (near c) _ way y.2 in
    let is : three x.0 y.0 z.0 ≡ way = same_ok (three x.0 y.0 z.0) way _ refl z.2 in
    let p = near_is a x.0 x.1 in
    let q = near_is b y.0 y.1 in
    let r = near_is c z.0 z.1 in (
      (λ i. three (p.0 i) (q.0 i) (r.0 i))
          ∙ is,
      subst IsStroke is (record {
        three = refl;
        each = All-from_recursion IsCoordinate (three x.0 y.0 z.0) (p.1, (q.1, (r.1, tt)));
      }),
    )
way_is (a ∷ b ∷ c ∷ d ∷ zs) way h = cc

-- and one that was written
pub way_told : (way : List ℤ) → IsStroke way → way_of way ≡ Ok way
unfolding way_of
way_told [] h = let n = h.three in absurd (omega arith)
way_told (x ∷ []) h = let n = h.three in absurd (omega arith)
way_told (x ∷ y ∷ []) h = let n = h.three in absurd (omega arith)
way_told (x ∷ y ∷ z ∷ []) h =
    let n = recursion_from_All IsCoordinate (three x y z) h.each in
    rw (near_told x n.0, near_told y n.1.0, near_told z n.1.1.0) refl
way_told (x ∷ y ∷ z ∷ w ∷ way) h = let n = h.three in absurd (omega arith)

less : (a b : ℤ) → int_lt a b ≡ true → a <ℤ b
less a b h = grind (arith, ints)

is_less : (a b : ℤ) → a <ℤ b → int_lt a b ≡ true
is_less a b h = grind (arith, ints)

record AreSides (a b : ℤ) (p : ℤ × ℤ) : Type 0 where
  low : a ≡ p.0
  high : b ≡ p.1
  are : IsSpan p.0 p.1

span_is : (a b : ℤ) (p : ℤ × ℤ) → span_of a b ≡ Ok p → AreSides a b p
unfolding span_of
span_is a b p h =
    let x = both (near a) _ p h in
    let y = both (near b) _ p x.2 in
    let room = both (refuse_if (not (int_lt x.0 y.0)) Range) _ p y.2 in
    let is : (x.0, y.0) ≡ p = same_ok (x.0, y.0) p _ refl room.2 in
    let low = near_is a x.0 x.1 in
    let high = near_is b y.0 y.1 in
    let up = less x.0 y.0 (not-false (int_lt x.0 y.0) (not_refused _ Range room.0 room.1)) in
    subst (AreSides a b) is
    (record { low = low.0; high = high.0; are = record { from = low.1; upto = high.1; ordered = up } })

span_told : (a b : ℤ) → IsSpan a b → span_of a b ≡ Ok (a, b)
unfolding span_of
span_told a b h = rw (near_told a h.from, near_told b h.upto, is_less a b h.ordered) refl

id_is : (z : ℤ) (id : ℕ) → from_to 0 LAST_BODY z ≡ Ok id → (z ≡ pos id) × (id ≤ LAST_BODY)
id_is (pos n) id h =
    let p = only_if (leb 0 n && leb n LAST_BODY) Range n id h in (
      ap pos (sym p.1),
      subst (λ m. m ≤ LAST_BODY) (sym p.1)
          (leb-true n LAST_BODY (and_parts (leb 0 n) (leb n LAST_BODY) p.0).1),
    )
id_is (negsuc n) id h = cc

id_told : (id : ℕ) → id ≤ LAST_BODY → from_to 0 LAST_BODY (pos id) ≡ Ok id
id_told id h =
    let low : leb 0 id ≡ true = le-leb 0 id (omega arith) in
    let high : leb id LAST_BODY ≡ true = le-leb id LAST_BODY h in
    rw (low, high) refl

-- a body that was read after these
pub record IsNext (bodies : List FixtureBody) (zs : List ℤ) (b : FixtureBody) : Type 0 where
  pub is : IsFixtureBody b
  pub later : comes_after bodies (pos b.id) ≡ true
  pub numbers : zs ≡ numbers_of b

seven : (bodies : List FixtureBody) (i a b c d e f : ℤ) (body : FixtureBody)
    → body_of bodies (i ∷ a ∷ b ∷ c ∷ d ∷ e ∷ f ∷ []) ≡ Ok body
    → IsNext bodies (i ∷ a ∷ b ∷ c ∷ d ∷ e ∷ f ∷ []) body
unfolding body_of
seven bodies i a b c d e f body h =
    let up = both (refuse_if (not (comes_after bodies i)) BadLine) _ body h in
    let n = both (from_to 0 LAST_BODY i) _ body up.2 in
    let x = both (span_of a b) _ body n.2 in
    let y = both (span_of c d) _ body x.2 in
    let z = both (span_of e f) _ body y.2 in
    let made : FixtureBody = record { id = n.0; shape = box_between x.0 y.0 z.0 } in
    let is : made ≡ body = same_ok made body _ refl z.2 in
    let id = id_is i n.0 n.1 in
    let xs = span_is a b x.0 x.1 in
    let ys = span_is c d y.0 y.1 in
    let zs = span_is e f z.0 z.1 in
    let after = not-false (comes_after bodies i) (not_refused _ BadLine up.0 up.1) in
    subst (IsNext bodies (i ∷ a ∷ b ∷ c ∷ d ∷ e ∷ f ∷ [])) is (record {
      is = record { id = id.1; shape = record { x = xs.are; y = ys.are; z = zs.are } };
      later = ap (comes_after bodies) (sym id.0) ∙ after;
      numbers = λ j. id.0 j ∷ xs.low j ∷ xs.high j ∷ ys.low j ∷ ys.high j ∷ zs.low j ∷ zs.high j ∷ [];
    })

pub body_is : (bodies : List FixtureBody) (zs : List ℤ) (body : FixtureBody) → body_of bodies zs ≡ Ok body
    → IsNext bodies zs body
unfolding body_of
body_is bodies [] body h = cc
body_is bodies (i ∷ []) body h = cc
body_is bodies (i ∷ a ∷ []) body h = cc
body_is bodies (i ∷ a ∷ b ∷ []) body h = cc
body_is bodies (i ∷ a ∷ b ∷ c ∷ []) body h = cc
body_is bodies (i ∷ a ∷ b ∷ c ∷ d ∷ []) body h = cc
body_is bodies (i ∷ a ∷ b ∷ c ∷ d ∷ e ∷ []) body h = cc
body_is bodies (i ∷ a ∷ b ∷ c ∷ d ∷ e ∷ f ∷ []) body h = seven bodies i a b c d e f body h
body_is bodies (i ∷ a ∷ b ∷ c ∷ d ∷ e ∷ f ∷ g ∷ zs) body h = cc

-- and one that was written
pub body_told : (bodies : List FixtureBody) (b : FixtureBody) → IsFixtureBody b
    → comes_after bodies (pos b.id) ≡ true → body_of bodies (numbers_of b) ≡ Ok b
unfolding body_of
body_told bodies b is later =
    let x = is.shape.x in
    let y = is.shape.y in
    let z = is.shape.z in
    rw (
      later,
      id_told b.id is.id,
      span_told b.shape.x0 b.shape.x1 x,
      span_told b.shape.y0 b.shape.y1 y,
      span_told b.shape.z0 b.shape.z1 z,
    ) refl

-- the test that a number comes after those of the bodies
pub later_bodies : (bodies : List FixtureBody) (n : ℕ) → comes_after bodies (pos n) ≡ true
    → All (λ c. c.id < n) bodies
later_bodies bodies n h =
    λ k d lt. ltb-true _ _ (AllPass-from_list_all (λ c. int_lt (pos c.id) (pos n)) bodies h k d lt)

pub comes_later : (bodies : List FixtureBody) (n : ℕ) → All (λ c. c.id < n) bodies
    → comes_after bodies (pos n) ≡ true
comes_later bodies n h =
    list_all-from_AllPass (λ c. int_lt (pos c.id) (pos n)) bodies (λ k d lt. lt-ltb _ _ (h k d lt))

small_near : (z : ℤ) → IsCoordinate z → AreSmall (z ∷ [])
small_near z h = (omega arith, tt)

pub way_small : (way : List ℤ) → IsStroke way → AreSmall way
way_small way h = all way (recursion_from_All IsCoordinate way h.each)
  where
    all : (zs : List ℤ) → AllByRecursion IsCoordinate zs → AreSmall zs
    all [] n = tt
    all (z ∷ zs) n = ((small_near z n.0).0, all zs n.1)

span_small : (a b : ℤ) → IsSpan a b → AreSmall (a ∷ b ∷ [])
span_small a b h = ((small_near a h.from).0, ((small_near b h.upto).0, tt))

pub numbers_small : (b : FixtureBody) → IsFixtureBody b → AreSmall (numbers_of b)
numbers_small b h =
    let x = span_small b.shape.x0 b.shape.x1 h.shape.x in
    let y = span_small b.shape.y0 b.shape.y1 h.shape.y in
    let z = span_small b.shape.z0 b.shape.z1 h.shape.z in
    let id : b.id ≤ LAST_BODY = h.id in
    (omega arith, (x.0, (x.1.0, (y.0, (y.1.0, (z.0, (z.1.0, tt)))))))
