-- The canonical spelling of a catalogue: its stroke, its bodies one by one, and its guides.
use Rattle.std.specs.Prelude.{◌≡◌, ℕ, ℤ, pos, ◌++◌, List, [], ◌∷◌, map, Ok, codes}
use Rattle.std.specs.List.{concat, flat_map}
use Rattle.carton_base.specs.declared.bodies.Cuboid.{Cuboid}
use Rattle.carton_base.specs.declared.bodies.Guide.{Guide}
use Rattle.carton_base.specs.declared.dieline.Point.{Point}
use Rattle.carton_lines.specs.Spellings.{fed}
use Rattle.carton_text.specs.JobSpelling.{numbers_line}
use Rattle.carton_catalogue.specs.declared.catalogue.Catalogue.{Catalogue}
use Rattle.carton_catalogue.specs.Catalogues.{catalogue_of}

-- the sides of a box, axis by axis
abbrev pub box_numbers : Cuboid → List ℤ
box_numbers b = b.x0 ∷ b.x1 ∷ b.y0 ∷ b.y1 ∷ b.z0 ∷ b.z1 ∷ []

-- points one after the other
abbrev pub point_numbers : List Point → List ℤ
point_numbers points = flat_map (λ p. p.x ∷ p.y ∷ []) points

-- a guide's edge, its first and its last move, its band and its probes
abbrev pub guide_numbers : Guide → List ℤ
guide_numbers g = pos g.edge.0 ∷ pos g.first ∷ pos g.last ∷ pos g.band ∷ point_numbers g.probes

-- the line of a body
abbrev pub body_line : Cuboid → List ℕ
body_line b = numbers_line (codes "body") (box_numbers b)

-- the line of a guide
abbrev pub guide_line : Guide → List ℕ
guide_line g = numbers_line (codes "guide") (guide_numbers g)

-- the lines after the first
abbrev pub later_lines : Catalogue → List (List ℕ)
later_lines c = numbers_line (codes "stroke") c.stroke ∷ map body_line c.bodies ++ map guide_line c.guides

-- the first line, the lines after it and the end
abbrev pub catalogue_spelling : Catalogue → List ℕ
catalogue_spelling c = concat (map fed (codes "carton catalogue 1" ∷ later_lines c)) ++ codes "end\n"

-- the canonical spelling of the catalogue reads back as that catalogue
abbrev pub IsReadOfItsSpelling : Catalogue → Type 0
IsReadOfItsSpelling c = catalogue_of (catalogue_spelling c) ≡ Ok c
