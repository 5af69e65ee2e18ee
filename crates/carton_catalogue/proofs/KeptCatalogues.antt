-- A catalogue that was read keeps every rule of its text.
use Rattle.std.proofs.Common.{◌≡◌, ◌≤◌, ◌+◌, ℕ, ℤ, pos, false, leb, ltb, eqb, is_some, List, [], ◌∷◌, ◌++◌}
use Rattle.std.proofs.Common.{length, Option, Some, None, IfSome, unwrap_or, Result, Ok, Err, IfOk, refl, sym}
use Rattle.std.proofs.Common.{subst, All, arith, length-append, codes, bytes_eq}
use Rattle.std.proofs.lemmas.Bool.{leb-false, ltb-false}
use Rattle.std.proofs.lemmas.Bool.Decides.{nat_tests}
use Rattle.std.proofs.lemmas.List.Elements.{All-nil, All-push, All-append, All-from_recursion}
use Rattle.carton_base.specs.declared.bodies.Cuboid.{Cuboid}
use Rattle.carton_base.specs.declared.bodies.Guide.{Guide}
use Rattle.carton_base.proofs.Steps.{both, unless, only_if}
use Rattle.carton_lines.specs.declared.fault.Fault.TheVariants.{BadLine, Range, Duplicate}
use Rattle.carton_lines.specs.Readings.{freely_read}
use Rattle.carton_lines.proofs.Readings.{freely_kept}
use Rattle.carton_catalogue.specs.declared.catalogue.Catalogue.{Catalogue}
use Rattle.carton_catalogue.specs.declared.catalogue_error.CatalogueError.{CatalogueError}
use Rattle.carton_catalogue.specs.declared.catalogue_error.CatalogueError.TheVariants.{NoGuide}
use Rattle.carton_catalogue.specs.declared.lines.CatalogueLine.{CatalogueLine}
use Rattle.carton_catalogue.specs.declared.lines.CatalogueLine.TheVariants.{Stroke, Bodies}
use Rattle.carton_catalogue.specs.declared.lines.CatalogueLine.TheVariants.{Guide as GuideLine}
use Rattle.carton_catalogue.specs.declared.draft.CatalogueDraft.{CatalogueDraft}
use Rattle.carton_catalogue.specs.declared.limits.TheConstants.{MOST_BODIES, MOST_GUIDES}
use Rattle.carton_catalogue.specs.CatalogueLines.{line_in}
use Rattle.carton_catalogue.specs.Catalogues.{new_draft, with_stroke, with_bodies, with_guide, add, begun}
use Rattle.carton_catalogue.specs.Catalogues.{later_line, catalogue_lines, told}
use Rattle.carton_catalogue.specs.CatalogueRules.{IsCoordinate, IsBody, IsStroke, IsGuide, AreBodies}
use Rattle.carton_catalogue.specs.CatalogueRules.{IsCatalogue}
use Rattle.carton_catalogue.proofs.Kept.{IsLine, line_kept}

-- what the lines so far have told keeps the rules
record IsDraft (d : CatalogueDraft) : Type 0 where
  stroke : IfSome d.stroke IsStroke
  bodies : AreBodies d.bodies
  few : length d.guides ≤ MOST_GUIDES
  guides : All IsGuide d.guides

stroke_added : (d e : CatalogueDraft) (stroke : List ℤ) → IsDraft d → IsStroke stroke
    → with_stroke d stroke ≡ Ok e → IsDraft e
unfolding with_stroke
stroke_added d e stroke k is h =
    let new = unless (is_some d.stroke) Duplicate (record d { stroke = Some stroke }) e h in
    subst IsDraft (sym new.1) (record { stroke = is; bodies = k.bodies; few = k.few; guides = k.guides })

bodies_added : (d e : CatalogueDraft) (more : List Cuboid) → IsDraft d → All IsBody more
    → with_bodies d more ≡ Ok e → IsDraft e
unfolding with_bodies
bodies_added d e more k are h =
    let new =
    unless (ltb MOST_BODIES (length d.bodies + length more)) Range (record d { bodies = d.bodies ++ more }) e
    h in
    let room = ltb-false MOST_BODIES (length d.bodies + length more) new.0 in
    subst IsDraft (sym new.1) (record {
      stroke = k.stroke;
      bodies =
          record { few = rw length-append room; each = All-append IsBody d.bodies more k.bodies.each are };
      few = k.few;
      guides = k.guides;
    })

guide_added : (d e : CatalogueDraft) (guide : Guide) → IsDraft d → IsGuide guide → with_guide d guide ≡ Ok e
    → IsDraft e
unfolding with_guide
guide_added d e guide k is h =
    let new =
    unless (leb MOST_GUIDES (length d.guides)) Range (record d { guides = d.guides ++ guide ∷ [] }) e h in
    let room = leb-false MOST_GUIDES (length d.guides) new.0 in
    subst IsDraft (sym new.1) (record {
      stroke = k.stroke;
      bodies = k.bodies;
      few = rw length-append (omega (arith, room));
      guides = All-push IsGuide d.guides guide k.guides is;
    })

line_added : (d e : CatalogueDraft) (l : CatalogueLine) → IsDraft d → IsLine l → add d l ≡ Ok e → IsDraft e
unfolding add
line_added d e (Stroke stroke) k is h = stroke_added d e stroke k is h
line_added d e (Bodies more) k are h = bodies_added d e more k are h
line_added d e (GuideLine guide) k is h = guide_added d e guide k is h

new_one : IsDraft new_draft
new_one = record {
  stroke = tt;
  bodies = record { few = omega arith; each = All-nil IsBody };
  few = omega arith;
  guides = All-nil IsGuide;
}

first_told : (line : List ℕ) (d : CatalogueDraft) → begun line ≡ Ok d → IsDraft d
first_told line d h =
    let first = only_if (bytes_eq line (codes "carton catalogue 1")) BadLine new_draft d h in
    subst IsDraft (sym first.1) new_one

later_told : (d e : CatalogueDraft) (n : ℕ) (line : List ℕ) → IsDraft d → later_line d n line ≡ Ok e
    → IsDraft e
later_told d e n line k h =
    let l = both (line_in line) (add d) e h in
    line_added d e l.0 k (line_kept line l.0 l.1) l.2

no_stroke : IsStroke (pos 0 ∷ pos 0 ∷ pos 0 ∷ [])
no_stroke = record {
  three = refl;
  each = All-from_recursion IsCoordinate (pos 0 ∷ pos 0 ∷ pos 0 ∷ [])
      (omega arith, (omega arith, (omega arith, tt)));
}

stroke_told : (o : Option (List ℤ)) → IfSome o IsStroke → IsStroke (unwrap_or o (pos 0 ∷ pos 0 ∷ pos 0 ∷ []))
stroke_told None k = no_stroke
stroke_told (Some stroke) k = k

told_catalogue : (d : CatalogueDraft) (c : Catalogue) → IsDraft d → told d ≡ Ok c → IsCatalogue c
told_catalogue d c k h =
    let some =
    unless (eqb (length d.guides) 0) NoGuide
    (record {
      stroke = unwrap_or d.stroke (pos 0 ∷ pos 0 ∷ pos 0 ∷ []);
      bodies = d.bodies;
      guides = d.guides;
    }) c h in
    subst IsCatalogue (sym some.1) (record {
      stroke = stroke_told d.stroke k.stroke;
      bodies = k.bodies;
      guides = record { some = positive (length d.guides) some.0; few = k.few; each = k.guides };
    })
  where
    positive : (n : ℕ) → eqb n 0 ≡ false → 1 ≤ n
    positive n e = grind (arith, nat_tests)

kept : (d : CatalogueDraft) (result : Result Catalogue CatalogueError) → IsDraft d → result ≡ told d
    → IfOk result IsCatalogue
kept d (Ok c) k h = told_catalogue d c k (sym h)
kept d (Err e) k h = tt

-- what was read of all the lines, and told
pub keeps_rules : (bytes : List ℕ) (d : CatalogueDraft) (result : Result Catalogue CatalogueError)
    → freely_read catalogue_lines bytes ≡ Ok d → result ≡ told d → IfOk result IsCatalogue
keeps_rules bytes d result read h =
    kept d result (freely_kept catalogue_lines IsDraft first_told later_told bytes d read) h
