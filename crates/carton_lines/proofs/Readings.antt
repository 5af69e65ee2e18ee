-- What the lines of a text keep, all that was read keeps.
use Rattle.std.specs.Prelude.{⊤}
use Rattle.std.proofs.Common.{◌≡◌, ℕ, Bool, true, false, cond, List, Ok, Err, refl, sym, subst}
use Rattle.carton_base.specs.Steps.{◌>>=◌}
use Rattle.carton_base.proofs.Steps.{both, same_ok, only_if}
use Rattle.carton_lines.specs.declared.fault.Fault.TheVariants.{BadLine}
use Rattle.bstr.specs.Text.{lines_of, without_terminator}
use Rattle.carton_lines.specs.declared.way.Way.TheVariants.{Free}
use Rattle.carton_lines.specs.declared.reading.Reading.{Reading}
use Rattle.carton_lines.specs.declared.reading.Reading.TheVariants.{Before, Within, Ended}
use Rattle.carton_lines.specs.Lines.{is_passed_over, told_at}
use Rattle.carton_lines.specs.Grammars.{Grammar}
use Rattle.carton_lines.specs.Readings.{is_end, next_line, step, read_lines, finished, freely_read}
use Rattle.carton_lines.proofs.Lines.{told_well, all_kept}

-- what was told so far, if anything was
abbrev IfTold : {D : Type 0} → (D → Type 0) → Reading D → Type 0
IfTold P Before = ⊤
IfTold P (Within d) = P d
IfTold P (Ended d) = P d

module _ {D : Type 0} (g : Grammar D) (P : D → Type 0)
    (first : (line : List ℕ) (d : D) → g.begin line ≡ Ok d → P d)
    (later : (d e : D) (n : ℕ) (line : List ℕ) → P d → g.take d n line ≡ Ok e → P e) where
  line_kept : (r s : Reading D) (n : ℕ) (line : List ℕ) → IfTold P r → next_line g r n line ≡ Ok s
      → IfTold P s
  line_kept Before s n line k h =
      let d = both (g.begin line) _ s h in
      subst (IfTold P) (same_ok (Within d.0) s _ refl d.2) (first line d.0 d.1)
  line_kept (Within d) s n line k h = by_end (is_end line) h
    where
      by_end : (b : Bool)
          → cond b (cond (g.may_end d) (Ok (Ended d)) (Err BadLine)) (g.take d n line >>= λ e. Ok (Within e))
          ≡ Ok s
          → IfTold P s
      by_end true e = subst (IfTold P) (sym (only_if (g.may_end d) BadLine (Ended d) s e).1) k
      by_end false e =
          let x = both (g.take d n line) _ s e in
          subst (IfTold P) (same_ok (Within x.0) s _ refl x.2) (later d x.0 n line k x.1)
  line_kept (Ended d) s n line k h = cc

  step_kept : (r s : Reading D) (n : ℕ) (piece : List ℕ) → IfTold P r → step g Free r n piece ≡ Ok s
      → IfTold P s
  step_kept r s n piece k h = by_test (without_terminator piece) (is_passed_over (without_terminator piece)) h
    where
      by_test : (line : List ℕ) (b : Bool) → cond b (Ok r) (told_at n (next_line g r n line)) ≡ Ok s
          → IfTold P s
      by_test line true e = subst (IfTold P) (same_ok r s _ refl e) k
      by_test line false e = line_kept r s n line k (told_well n (next_line g r n line) s e)

  -- what the bytes of a free text told
  pub freely_kept : (bytes : List ℕ) (d : D) → freely_read g bytes ≡ Ok d → P d
  unfolding freely_read
  freely_kept bytes d h =
      let a = both (read_lines (step g Free) Before 0 (lines_of bytes)) finished d h in
      by_reading a.0 (all_kept (step g Free) (IfTold P) step_kept Before a.0 0 (lines_of bytes) tt a.1) a.2
    where
      by_reading : (r : Reading D) → IfTold P r → finished r ≡ Ok d → P d
      by_reading Before k e = cc
      by_reading (Within x) k e = cc
      by_reading (Ended x) k e = subst P (same_ok x d _ refl e) k
