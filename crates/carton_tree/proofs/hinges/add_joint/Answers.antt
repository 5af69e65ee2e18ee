use Rattle.std.proofs.Common.{rules, SFits, ◌≡◌, ◌+◌, [], ◌∷◌, ◌++◌, refl, sym, ◌∙◌, ap, subst, arith}
use Rattle.std.specs.Int.{w32}
use Rattle.std.proofs.lemmas.Int.{to_z-of_z}
use Rattle.std.proofs.lemmas.List.{append-nil}
use Rattle.carton_base.specs.declared.ids.EdgeId.{EdgeId}
use Rattle.carton_base.proofs.Loops.{at_yes, at_no}
use Rattle.carton_tree.specs.declared.hinges.Hinge.{Hinge}
use Rattle.carton_tree.specs.declared.hinges.Hinges.{Hinges}
use Rattle.carton_tree.specs.Joints.{IsFree, IsPlace}
use Rattle.carton_tree.specs.Steps.{AreCreasesBelow}
use Rattle.carton_tree.proofs.Gathering.{creases_stay, creases_grow, hinges_add, last_place}
use Rattle.carton_tree.proofs.hinges.add_joint.Goals as goal
use Rattle.carton_tree.proofs.hinges.add_joint.Goals.{then-is_locked, else-is_locked+in_ok-push}

pub returns-clause-creases : goal.returns-clause-creases
returns-clause-creases c =
    let d = c.args.raw.now in
    let k = c.args.k in
    let cs = c.args.found.now.creases.items in
    elim c.if-is_locked.branch [
      | then-is_locked w ↦
          let same : c.if-is_locked.found.creases.items ≡ cs =
          ap (λ (f : Hinges). f.creases.items) w.found-is in
          subst (AreCreasesBelow d (k + 1)) (sym same)
          (creases_stay d k cs (λ f. f.loose (at_yes w.if-is_locked.true c.is_locked.ensures))
          c.requires.creases)
      | else-is_locked+in_ok-push w ↦
          let grown : c.if-is_locked.found.creases.items ≡ cs ++ (record { 0 = k }) ∷ [] =
          ap (λ (f : Hinges). f.creases.items) w.found-is ∙ w.in_ok-push.ensures.items in
          let free : IsFree d k =
          record {
            joint = (c.in-Some.first.0, c.in-Some.second.0, c.in-Some.ensures.joins);
            loose = at_no w.if-is_locked.false c.is_locked.ensures;
          } in
          subst (AreCreasesBelow d (k + 1)) (sym grown)
          (creases_grow d k cs (record { 0 = k }) refl free c.requires.creases)
    ]

pub returns-clause-hinges : goal.returns-clause-hinges
returns-clause-hinges c =
    let d = c.args.raw.now in
    let k = c.args.k in
    let cs = c.args.found.now.creases.items in
    let hs = c.args.found.now.all.items in
    let f : SFits w32 c.line_at-upright.result.1 = search rules in
    let x : Hinge = record {
      edge = record { 0 = k };
      first = c.in-Some.first;
      second = c.in-Some.second;
      crease = c.if-is_locked.crease;
      upright = c.line_at-upright.result.0;
      at =
          c.line_at-upright.result.1;
    } in
    rw c.in_ok-push-2.ensures.items (simp to_z-of_z (elim c.if-is_locked.branch [
      | then-is_locked w ↦
          let same : c.if-is_locked.found.creases.items ≡ cs ++ [] =
          ap (λ (f : Hinges). f.creases.items) w.found-is ∙ sym (append-nil cs) in
          let place = subst (IsPlace d c.if-is_locked.found.creases.items k) (sym w.crease-is)
          (at_yes w.if-is_locked.true c.is_locked.ensures) in
          hinges_add d k cs [] c.if-is_locked.found.creases.items hs c.if-is_locked.found.all.items x same
          (ap (λ (f : Hinges). f.all.items) w.found-is) refl (omega arith)
          (record {
            pair = c.in-Some.ensures;
            place = place;
            upright = c.line_at-upright.ensures.upright;
            at = c.line_at-upright.ensures.at;
          }) c.requires.hinges
      | else-is_locked+in_ok-push w ↦
          let e : EdgeId = record { 0 = k } in
          let grown : c.if-is_locked.found.creases.items ≡ cs ++ e ∷ [] =
          ap (λ (f : Hinges). f.creases.items) w.found-is ∙ w.in_ok-push.ensures.items in
          let place = subst (IsPlace d c.if-is_locked.found.creases.items k) (sym w.crease-is)
          (last_place d k w.len-place.result cs c.if-is_locked.found.creases.items e refl
          (omega (arith, w.len-place.ensures, c.args.found.now.creases.ok.0)) grown) in
          hinges_add d k cs (e ∷ []) c.if-is_locked.found.creases.items hs c.if-is_locked.found.all.items x
          grown (ap (λ (f : Hinges). f.all.items) w.found-is) refl (omega arith)
          (record {
            pair = c.in-Some.ensures;
            place = place;
            upright = c.line_at-upright.ensures.upright;
            at = c.line_at-upright.ensures.at;
          }) c.requires.hinges
    ]))
