-- The turns of a panel into the world are those of its joints up to the root.
use Rattle.std.proofs.Common.{◌≡◌, ◌∙◌, refl, sym, ap, subst, ℕ, zero, suc, ◌<◌, List, [], ◌∷◌, ◌++◌, take}
use Rattle.std.proofs.Common.{map, reverse, length, get_or, arith}
use Rattle.std.specs.Prelude.{Contains}
use Rattle.std.proofs.lemmas.List.{append-nil}
use Rattle.carton_base.specs.declared.ids.PanelId.{PanelId}
use Rattle.carton_base.specs.declared.motion.Turn.{Turn}
use Rattle.carton_model.specs.Turning.{turned_back}
use Rattle.carton_tree.specs.declared.joint.Joint.{Joint}
use Rattle.carton_tree.specs.Cartons.{IsCarton}
use Rattle.carton_tree.specs.Trees.{Tree, beyond, path, path_by, turns_up, turns_between, steps_to, parting}
use Rattle.carton_part.specs.Frames.{IsOnPath}
use Rattle.carton_part.proofs.Upward.{no_turns, parting_on}

only_one : (r x : PanelId) → Contains (r ∷ []) x → r ≡ x
only_one r x h = at h.0 h.1 h.2
  where
    at : (k : ℕ) → k < 1 → get_or (r ∷ []) k x ≡ x → r ≡ x
    at zero l e = e
    at (suc k) l e = absurd (omega (arith, l))

-- the path of the root is the root alone
root_alone : (t : Tree) (x : ℕ) → IsCarton t → IsOnPath t t.root x → x ≡ t.root
unfolding path path_by
root_alone t x c h =
    let only : path t.joints t.root ≡ (record { 0 = t.root }) ∷ [] =
    ap (λ o. (record { 0 = t.root }) ∷ beyond (λ (j : Joint). path_by 7 t.joints j.parent.0) o) c.top in
    sym (ap (λ (p : PanelId). p.0)
    (only_one (record { 0 = t.root }) (record { 0 = x })
    (subst (λ ps. Contains ps (record { 0 = x })) only h)))

abbrev none : List Turn
none = []

take_none : (n : ℕ) → take n none ≡ none
take_none zero = refl
take_none (suc n) = refl

no_turns_up : (t : Tree) (x : ℕ) → IsCarton t → turns_up t.joints t.root x ≡ []
unfolding turns_up
no_turns_up t x c = ap (take (steps_to x (path t.joints t.root))) (no_turns t c)
    ∙ take_none (steps_to x (path t.joints t.root))

pub to_world : (t : Tree) (p : ℕ) → IsCarton t → p < length t.panels → turns_between t p t.root
    ≡ turns_up t.joints p t.root
unfolding turns_between
to_world t p c l =
    let top = parting t p t.root in
    let e : top ≡ t.root = root_alone t top c (parting_on t p t.root c l c.root).1 in
    ap (λ ts. turns_up t.joints p top ++ reverse (map turned_back ts)) (no_turns_up t top c)
    ∙ append-nil (turns_up t.joints p top) ∙ ap (turns_up t.joints p) e
