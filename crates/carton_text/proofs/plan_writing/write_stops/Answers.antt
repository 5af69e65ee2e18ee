use Rattle.std.proofs.Common.{◌≡◌, ◌++◌, ◌∙◌, ap, sym, List, ℕ, pos, get_or, append_assoc, SFits, rules}
use Rattle.std.proofs.Common.{string_bytes}
use Rattle.std.specs.Int.{w8}
use Rattle.std.specs.List.{flat_map}
use Rattle.std.proofs.lemmas.Int.{to_z-of_z}
use Rattle.carton_model.specs.Moves.{stop_of}
use Rattle.carton_lines.specs.StrictLines.{spaced}
use Rattle.carton_text.specs.Plans.{joint_stops}
use Rattle.carton_text.proofs.PlanStops.{one_more}
use Rattle.carton_text.proofs.plan_writing.write_stops.Goals as goal

pub loop-place-preserved : goal.loop-place-preserved
loop-place-preserved c =
    let s = c.args.state.now in
    let k = c.loop-place.place in
    let f : SFits w8 (get_or s.stops k (pos 0)) = search rules in
    let wrote : string_bytes c.write.new.self ≡ string_bytes c.loop-place.text ++ spaced (stop_of s k) =
    simp to_z-of_z at c.in_ok-write.ensures.bytes in
    wrote ∙ ap (λ (bs : List ℕ). bs ++ spaced (stop_of s k)) c.loop-place.invariant
    ∙ append_assoc (string_bytes c.args.text.now) (flat_map spaced (joint_stops k s)) (spaced
    (stop_of s k))
    ∙ ap (λ (bs : List ℕ). string_bytes c.args.text.now ++ bs) (sym (one_more s k))
