-- The lines on bodies and on the ends of guides.
use Rattle.std.specs.Prelude.{ℕ, suc, List, [], ◌∷◌, ◌++◌, codes}
use Rattle.carton_base.specs.declared.ids.PanelId.{PanelId}
use Rattle.carton_base.specs.declared.moments.Moment.{Moment}
use Rattle.carton_fixture.specs.declared.answers.UnheldEnd.{UnheldEnd}
use Rattle.carton_guide.specs.declared.note.End.{End}
use Rattle.carton_guide.specs.declared.note.End.TheVariants.{Under, Over}
use Rattle.carton_setup.specs.Printed.{line, spaced, moment_text}
use Rattle.carton_stroke.specs.declared.note.BodyNote.{BodyNote}
use Rattle.carton_stroke.specs.declared.note.BodyNote.TheVariants.{Clears, Touches}

-- a panel touches a body at a moment of a move
abbrev pub touching_text : PanelId → ℕ → Moment → List ℕ
touching_text panel step m =
    codes " touches panel" ++ spaced panel.0
    ++ (codes " move" ++ spaced step ++ (codes " moment " ++ moment_text m))

-- the line of the body with this number that it touches
abbrev pub touch_line : ℕ → PanelId → ℕ → Moment → List ℕ
touch_line id panel step m = codes "body" ++ (spaced id ++ line (touching_text panel step m))

-- the line of a candidate
abbrev pub note_line : ℕ → BodyNote → List ℕ
note_line id Clears = codes "body" ++ (spaced id ++ line (codes " clear"))
note_line id (Touches panel step m) = touch_line id panel step m

-- the lines of candidates, of which the first has this number
abbrev pub note_lines : ℕ → List BodyNote → List ℕ
note_lines id [] = []
note_lines id (note ∷ notes) = note_line id note ++ note_lines (suc id) notes

-- the word for an end of a band
abbrev pub band_end : End → List ℕ
band_end Under = codes "under"
band_end Over = codes "over"

-- an end of a guide isn't held at a moment of a move
abbrev pub unheld_text : UnheldEnd → List ℕ
unheld_text u =
    codes "unheld guide" ++ spaced u.guide
    ++ (codes " " ++ band_end u.end
    ++ (codes " move" ++ spaced u.step ++ (codes " moment " ++ moment_text u.moment)))
