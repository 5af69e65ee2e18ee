-- What the rules accept keeps them.
use Rattle.std.proofs.Common.{◌≡◌, ℕ, ◌≤◌, ◌<◌, ltb, eqb, ℤ, pos, negsuc, unsigned_abs, Bool, true, false}
use Rattle.std.proofs.Common.{not, cond, ◌||◌, ◌&&◌, List, [], ◌∷◌, length, map, Option, Some, None, Result}
use Rattle.std.proofs.Common.{Ok, Err, refl, sym, ap, ◌∙◌, arith, rules, codes, replicate, get_or, neg_ℤ}
use Rattle.std.proofs.Common.{option_and_then, ok_or, IfOk, IfSome}
use Rattle.std.specs.Ordering.{int_eq}
use Rattle.std.specs.List.{list_all}
use Rattle.std.proofs.lemmas.Bool.{ltb-true, ltb-false, eqb-true, eqb-false}
use Rattle.std.proofs.lemmas.List.{length-replicate, length-map}
use Rattle.std.proofs.lemmas.List.Elements.{All-map}
use Rattle.serde_json.specs.Data.{Data}
use Rattle.serde_json.specs.Find.{get, as_object}
use Rattle.carton_base.specs.declared.dieline.RawDieline.{RawDieline}
use Rattle.carton_base.specs.declared.dieline.Point.{Point}
use Rattle.carton_base.specs.declared.dieline.Ends.{Ends}
use Rattle.carton_base.specs.declared.dieline.Face.{Face}
use Rattle.carton_base.specs.declared.dieline.Letter.{Letter}
use Rattle.carton_base.specs.declared.dieline.Letter.TheVariants.{Unassigned}
use Rattle.carton_base.specs.declared.ids.Stop.{Stop}
use Rattle.carton_model.specs.Dielines.{IsNear, IsEdge, IsFace, IsRightAngled, AreAngles, IsDieline}
use Rattle.carton_base.specs.declared.limits.TheConstants.{MOST_VERTICES, MOST_EDGES, MOST_PANELS}
use Rattle.carton_base.specs.declared.limits.TheConstants.{LEAST_CORNERS, MOST_CORNERS, FARTHEST}
use Rattle.carton_fold.specs.declared.error.Key.TheVariants.{Vertices, Edges, Assignment, Faces}
use Rattle.carton_fold.specs.declared.error.FoldError.{FoldError}
use Rattle.carton_fold.specs.declared.error.FoldError.TheVariants.{TooFar, NotFlat, BadVertex, BadShape}
use Rattle.carton_fold.specs.declared.error.FoldError.TheVariants.{TooMany, NotWhole, NotObject, Memory}
use Rattle.carton_base.specs.Steps.{◌>>=◌, Gives, refuse_if, entries_from}
use Rattle.carton_fold.specs.Values.{value_in, list_in, list_at, whole, is_number, needed, name_of}
use Rattle.carton_fold.specs.Vertices.{is_far, vertex_at, point_in_plane, point_in_space, point_of_parts}
use Rattle.carton_fold.specs.Vertices.{point_of, vertices_in}
use Rattle.carton_fold.specs.Edges.{vertex_among, edge_between, edge_of_parts, edge_of, edges_in}
use Rattle.carton_fold.specs.Letters.{letter_of, letters_told, letters_in}
use Rattle.carton_fold.specs.Faces.{corner_of, is_whole, face_of_parts, face_of, faces_in}
use Rattle.carton_fold.specs.Angles.{stop_at, stop_of, stops_of, angles_in}
use Rattle.carton_fold.specs.Dieline.{dieline_in, dieline_of}
use Rattle.carton_base.proofs.Steps.{both, was_some, not_refused, unless, only_if, some_if, neither, same_ok}
use Rattle.carton_base.proofs.Steps.{count_entries, all_entries}
use Rattle.carton_fold.proofs.Lists.{few_at}

near_vertex : (i : ℕ) (x y : ℤ) (p : Point) → vertex_at i x y ≡ Ok p → IsNear p
near_vertex i x y p h =
    let a = unless (is_far x || is_far y) (TooFar i) _ p h in
    let b = neither (is_far x) (is_far y) a.0 in
    rw a.1 (record {
      x = ltb-false FARTHEST (unsigned_abs x) b.0;
      y = ltb-false FARTHEST (unsigned_abs y) b.1;
    })

near_parts : (i : ℕ) (parts : List Data) (p : Point) → point_of_parts i parts ≡ Ok p → IsNear p
unfolding point_in_plane point_in_space
near_parts i [] p h = cc
near_parts i (a ∷ []) p h = cc
near_parts i (a ∷ b ∷ []) p h =
    let s = both (refuse_if (not (is_number a && is_number b)) (BadShape Vertices)) _ p h in
    let x = both (ok_or (whole a) (NotWhole Vertices i)) _ p s.2 in
    let y = both (ok_or (whole b) (NotWhole Vertices i)) _ p x.2 in
    near_vertex i x.0 y.0 p y.2
near_parts i (a ∷ b ∷ c ∷ []) p h =
    let s = both (refuse_if (not (is_number a && is_number b && is_number c)) (BadShape Vertices)) _ p h in
    let x = both (ok_or (whole a) (NotWhole Vertices i)) _ p s.2 in
    let y = both (ok_or (whole b) (NotWhole Vertices i)) _ p x.2 in
    let z = both (ok_or (whole c) (NotWhole Vertices i)) _ p y.2 in
    let q = both (vertex_at i x.0 y.0) _ p z.2 in
    let same = only_if (int_eq z.0 (pos 0)) (NotFlat i) q.0 p q.2 in
    rw same.1 (near_vertex i x.0 y.0 q.0 q.1)
near_parts i (a ∷ b ∷ c ∷ d ∷ rest) p h = cc

near_point : (i : ℕ) (d : Data) (p : Point) → point_of i d ≡ Ok p → IsNear p
near_point i d p h =
    let s = both (ok_or (list_in d) (BadShape Vertices)) (point_of_parts i) p h in
    near_parts i s.0 p s.2

among : (vertices : ℕ) (z : ℤ) (n : ℕ) → vertex_among vertices z ≡ Some n → n < vertices
among vertices (pos m) n h =
    let s = some_if (ltb m vertices) m n h in
    rw s.1 (ltb-true m vertices s.0)
among vertices (negsuc m) n h = cc

edge_parts : (vertices i : ℕ) (parts : List Data) (e : Ends) → edge_of_parts vertices i parts ≡ Ok e
    → IsEdge vertices e
unfolding edge_between
edge_parts vertices i [] e h = cc
edge_parts vertices i (a ∷ []) e h = cc
edge_parts vertices i (a ∷ b ∷ []) e h =
    let s = both (refuse_if (not (is_number a && is_number b)) (BadShape Edges)) _ e h in
    let from = both (ok_or (whole a) (NotWhole Edges i)) _ e s.2 in
    let to = both (ok_or (whole b) (NotWhole Edges i)) _ e from.2 in
    let p = both (ok_or (vertex_among vertices from.0) (BadVertex Edges i)) _ e to.2 in
    let q = both (ok_or (vertex_among vertices to.0) (BadVertex Edges i)) _ e p.2 in
    let last = unless (eqb p.0 q.0) (BadVertex Edges i) _ e q.2 in
    rw last.1 (record {
      p = among vertices from.0 p.0 (was_some (vertex_among vertices from.0) (BadVertex Edges i) p.0 p.1);
      q = among vertices to.0 q.0 (was_some (vertex_among vertices to.0) (BadVertex Edges i) q.0 q.1);
      apart = eqb-false p.0 q.0 last.0;
    })
edge_parts vertices i (a ∷ b ∷ c ∷ rest) e h = cc

is_edge : (vertices i : ℕ) (d : Data) (e : Ends) → edge_of vertices i d ≡ Ok e → IsEdge vertices e
is_edge vertices i d e h =
    let s = both (ok_or (list_in d) (BadShape Edges)) (edge_of_parts vertices i) e h in
    edge_parts vertices i s.0 e s.2

-- a test that refuses nothing
passes : (b : Bool) → not b ≡ false → b ≡ true
passes true n = refl
passes false n = cc

-- there is a letter for each edge
letter_each : (edges : ℕ) (d : Option Data) (letters : List Letter) → letters_in edges d ≡ Ok letters
    → length letters ≡ edges
unfolding letters_told
letter_each edges None letters h =
    let same : letters ≡ replicate edges Unassigned = cc in
    ap (length {A = Letter}) same ∙ length-replicate edges Unassigned
letter_each edges (Some d) letters h =
    let list = both (list_at Assignment MOST_EDGES d) _ letters h in
    let fine = both (refuse_if (not (eqb (length list.0) edges)) (BadShape Assignment)) _ letters list.2 in
    count_entries letter_of 0 list.0 letters fine.2
    ∙ eqb-true (length list.0) edges (passes _ (not_refused _ (BadShape Assignment) fine.0 fine.1))

corner_among : (vertices i place : ℕ) (d : Data) (n : ℕ) → corner_of vertices i place d ≡ Ok n → n < vertices
corner_among vertices i place d n h =
    by_number (whole d) (was_some (option_and_then (vertex_among vertices) (whole d)) (BadVertex Faces i) n h)
  where
    by_number : (o : Option ℤ) → option_and_then (vertex_among vertices) o ≡ Some n → n < vertices
    by_number None e = cc
    by_number (Some z) e = among vertices z n e

face_parts : (vertices i : ℕ) (parts : List Data) (f : Face) → face_of_parts vertices i parts ≡ Ok f
    → IsFace vertices f
unfolding face_of_parts
face_parts vertices i parts f h =
    let shape = both (refuse_if (ltb (length parts) LEAST_CORNERS || not (list_all is_number parts))
    (BadShape Faces)) _ f h in
    let few = both (refuse_if (ltb MOST_CORNERS (length parts)) (TooMany Faces)) _ f shape.2 in
    let numbers = both (refuse_if (not (list_all is_whole parts)) (NotWhole Faces i)) _ f few.2 in
    let corners = both (entries_from (corner_of vertices i) 0 parts) _ f numbers.2 in
    let made : record { corners = corners.0 } ≡ f = cc in
    let count = count_entries (corner_of vertices i) 0 parts corners.0 corners.1 in
    let three = ltb-false (length parts) LEAST_CORNERS
    (neither _ _ (not_refused _ (BadShape Faces) shape.0 shape.1)).0 in
    let most = ltb-false MOST_CORNERS (length parts) (not_refused _ (TooMany Faces) few.0 few.1) in
    rw (sym made) (record {
      some = rw count three;
      few = rw count most;
      corners = all_entries (λ c. c < vertices) (corner_of vertices i) (corner_among vertices i) 0 parts
          corners.0 corners.1;
    })

is_face : (vertices i : ℕ) (d : Data) (f : Face) → face_of vertices i d ≡ Ok f → IsFace vertices f
is_face vertices i d f h =
    let s = both (ok_or (list_in d) (BadShape Faces)) (face_of_parts vertices i) f h in
    face_parts vertices i s.0 f s.2

-- one more angle at which a stop stands
right_at : (b : Bool) (s : Stop) (rest : Option Stop) → IsRightAngled s → IfSome rest IsRightAngled
    → IfSome (cond b (Some s) rest) IsRightAngled
right_at true s rest one others = one
right_at false s rest one others = others

right_stop : (o : Option ℤ) → IfSome (option_and_then stop_at o) IsRightAngled
unfolding stop_at
right_stop None = tt
right_stop (Some z) =
    right_at (int_eq z (neg_ℤ (pos 180))) _ _ (search rules) (
    right_at (int_eq z (neg_ℤ (pos 90))) _ _ (search rules) (
    right_at (int_eq z (pos 0)) _ _ (search rules) (
    right_at (int_eq z (pos 90)) _ _ (search rules) (
    right_at (int_eq z (pos 180)) _ None (search rules) tt))))

right_angles : (edges : ℕ) (o : Option (List Data))
    → IfSome (option_and_then (stops_of edges) o) (AreAngles edges)
right_angles edges None = tt
right_angles edges (Some list) = by_length (eqb (length list) edges) refl
  where
    by_length : (b : Bool) → eqb (length list) edges ≡ b
        → IfSome (cond b (Some (map stop_of list)) None) (AreAngles edges)
    by_length true e = (
      length-map list stop_of
          ∙ eqb-true (length list) edges e,
      All-map (λ o. IfSome o IsRightAngled) stop_of list (λ k d lt.
          right_stop (whole (get_or list k d))),
    )
    by_length false e = tt

at_least_one : (n : ℕ) → (n ≡ 0 → ⊥) → 1 ≤ n
at_least_one n several = omega arith

-- what the reading of a value accepts keeps every rule
value_accepted : (d : Data) (raw : RawDieline) → dieline_in d ≡ Ok raw → IsDieline raw
unfolding dieline_in faces_in
value_accepted d raw h =
    let members = both (ok_or (as_object d) NotObject) _ raw h in
    let v = both (needed Vertices d) _ raw members.2 in
    let e = both (needed Edges d) _ raw v.2 in
    let f = both (needed Faces d) _ raw e.2 in
    let vertices = both (vertices_in v.0) _ raw f.2 in
    let edges = both (edges_in (length vertices.0) e.0) _ raw vertices.2 in
    let letters = both (letters_in (length edges.0) (get (name_of Assignment) d)) _ raw edges.2 in
    let faces = both (faces_in (length vertices.0) f.0) _ raw letters.2 in
    let vs = both (list_at Vertices MOST_VERTICES v.0) _ vertices.0 vertices.1 in
    let es = both (list_at Edges MOST_EDGES e.0) _ edges.0 edges.1 in
    let fs = both (list_at Faces MOST_PANELS f.0) _ faces.0 faces.1 in
    let some = both (refuse_if (eqb (length fs.0) 0) (BadShape Faces)) _ faces.0 fs.2 in
    let several = eqb-false (length fs.0) 0 (not_refused _ (BadShape Faces) some.0 some.1) in
    let face_count = count_entries (face_of (length vertices.0)) 0 fs.0 faces.0 some.2 in
    let made : record {
      vertices = vertices.0;
      edges = edges.0;
      letters = letters.0;
      faces = faces.0;
      angles = angles_in (length edges.0) (get (codes "edges_foldAngle") d);
    } ≡ raw =
    same_ok _ raw _ refl faces.2 in
    rw (sym made) (record {
      vertices =
          rw (count_entries point_of 0 vs.0 vertices.0 vs.2) (few_at Vertices MOST_VERTICES v.0 vs.0 vs.1);
      near = all_entries IsNear point_of near_point 0 vs.0 vertices.0 vs.2;
      edges = rw (count_entries (edge_of (length vertices.0)) 0 es.0 edges.0 es.2)
          (few_at Edges MOST_EDGES e.0 es.0 es.1);
      ends = all_entries (IsEdge (length vertices.0)) (edge_of (length vertices.0))
          (is_edge (length vertices.0)) 0 es.0 edges.0 es.2;
      letters = letter_each (length edges.0) (get (name_of Assignment) d) letters.0 letters.1;
      some_face = rw face_count (at_least_one (length fs.0) several);
      faces = rw face_count (few_at Faces MOST_PANELS f.0 fs.0 fs.1);
      corners = all_entries (IsFace (length vertices.0)) (face_of (length vertices.0))
          (is_face (length vertices.0)) 0 fs.0 faces.0 some.2;
      angles = right_angles (length edges.0) (option_and_then list_in (get (codes "edges_foldAngle") d));
    })

-- what the reading of a file accepts keeps every rule
pub accepted : (bytes : List ℕ) (raw : RawDieline) → dieline_of bytes ≡ Ok raw → IsDieline raw
unfolding dieline_of
accepted bytes raw h =
    let d = both (value_in bytes) dieline_in raw h in
    value_accepted d.0 raw d.2

-- so does what a function returned that gives the reading of the file's value
pub keeps_rules : (bytes : List ℕ) (d : Data) (r : Result RawDieline FoldError) → value_in bytes ≡ Ok d
    → Gives Memory (λ raw. raw) r (dieline_in d) → IfOk r IsDieline
unfolding dieline_of
keeps_rules bytes d (Ok raw) v h =
    let read : dieline_of bytes ≡ Ok raw = ap (λ (r : Result Data FoldError). r >>= dieline_in) v ∙ h in
    accepted bytes raw read
keeps_rules bytes d (Err e) v h = tt
