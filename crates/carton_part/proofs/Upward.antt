-- The turns from a panel to the root: those up to a panel on its path, and then those of that panel.
use Rattle.std.proofs.Common.{◌≡◌, ◌∙◌, refl, sym, ap, inl, inr, ℕ, zero, suc, ◌<◌, ◌≤◌, List, [], ◌∷◌, ◌++◌}
use Rattle.std.proofs.Common.{length, get_or, take, true, false, cond, nat_eq, Option, None, Some, arith}
use Rattle.std.specs.Prelude.{Contains}
use Rattle.std.proofs.lemmas.Bool.{cases_Bool, eqb-true, eq-eqb, both_ways}
use Rattle.carton_base.specs.declared.ids.PanelId.{PanelId}
use Rattle.carton_base.specs.declared.limits.TheConstants.{LONGEST_PATH}
use Rattle.carton_base.specs.declared.motion.Turn.{Turn}
use Rattle.carton_tree.specs.declared.joint.Joint.{Joint}
use Rattle.carton_tree.specs.Trees.{Tree, joint_of, beyond, path, path_by, turns_by, turns_up, steps_to}
use Rattle.carton_tree.specs.Trees.{first_shared, number_or, parting}
use Rattle.carton_tree.specs.Cartons.{IsCarton}
use Rattle.carton_tree.proofs.Ascents.{EndsAt, only_panel, last_of_path}
use Rattle.carton_tree.proofs.Meeting.{shared_in, root_on}
use Rattle.carton_part.specs.Frames.{IsOnPath}

-- past the root there are no more turns
more_turns : (js : List (Option Joint)) (root : ℕ) → joint_of js root ≡ None → (n m p : ℕ) → n ≤ m
    → EndsAt root (path_by n js p) → turns_by n js p ≡ turns_by m js p
unfolding path_by turns_by
more_turns js root top zero zero p le e = refl
more_turns js root top zero (suc m) p le e =
    let none : joint_of js p ≡ None = ap (joint_of js) (only_panel p root e) ∙ top in
    sym (ap (λ o. beyond (λ (j : Joint). j.turn ∷ turns_by m js j.parent.0) o) none)
more_turns js root top (suc n) zero p le e = absurd (omega (arith, le))
more_turns js root top (suc n) (suc m) p le e =
    at (joint_of js p) e (λ q h. more_turns js root top n m q (omega (arith, le)) h)
  where
    at : (o : Option Joint)
        → EndsAt root (record { 0 = p } ∷ beyond (λ (j : Joint). path_by n js j.parent.0) o)
        → ((q : ℕ) → EndsAt root (path_by n js q) → turns_by n js q ≡ turns_by m js q)
        → beyond (λ (j : Joint). j.turn ∷ turns_by n js j.parent.0) o
        ≡ beyond (λ (j : Joint). j.turn ∷ turns_by m js j.parent.0) o
    at None h go = refl
    at (Some j) h go =
        ap (λ ts. j.turn ∷ ts) (go j.parent.0 (sym (last_of_path (Some (record { 0 = p })) n js j.parent.0)
        ∙ h))

in_rest : (p x : PanelId) (ps : List PanelId) → nat_eq p.0 x.0 ≡ false → Contains (p ∷ ps) x → Contains ps x
in_rest p x ps other h = at h.0 h.1 h.2
  where
    at : (k : ℕ) → k < suc (length ps) → get_or (p ∷ ps) k x ≡ x → Contains ps x
    at zero lt e = absurd (both_ways (nat_eq p.0 x.0) other (eq-eqb p.0 x.0 (ap (λ (q : PanelId). q.0) e)))
    at (suc k) lt e = (k, omega (arith, lt), e)

in_none : (x : PanelId) → Contains [] x → ⊥
in_none x h = omega (arith, h.1)

-- at the panel itself
here : (js : List (Option Joint)) (root : ℕ) → joint_of js root ≡ None → (n m p x : ℕ) (ps : List PanelId)
    → nat_eq p x ≡ true → n ≤ m → EndsAt root (path_by n js p)
    → turns_by n js p ≡ take (steps_to x (record { 0 = p } ∷ ps)) (turns_by n js p) ++ turns_by m js x
here js root top n m p x ps same le e =
    let nought : steps_to x (record { 0 = p } ∷ ps) ≡ 0 = ap (λ b. cond b 0 (suc (steps_to x ps))) same in
    more_turns js root top n m p le e ∙ ap (turns_by m js) (eqb-true p x same)
    ∙ sym (ap (λ k. take k (turns_by n js p) ++ turns_by m js x) nought)

up_then : (js : List (Option Joint)) (root : ℕ) → joint_of js root ≡ None → (n m p x : ℕ) → n ≤ m
    → EndsAt root (path_by n js p) → Contains (path_by n js p) (record { 0 = x })
    → turns_by n js p ≡ take (steps_to x (path_by n js p)) (turns_by n js p) ++ turns_by m js x
unfolding path_by turns_by
up_then js root top zero m p x le e h = elim (cases_Bool (nat_eq p x)) [
  | inl same ↦ here js root top zero m p x [] same le e
  | inr other ↦ absurd (in_none (record { 0 = x }) (in_rest (record { 0 = p }) (record { 0 = x }) [] other h))
]
up_then js root top (suc n) m p x le e h = elim (cases_Bool (nat_eq p x)) [
  | inl same ↦
      here js root top (suc n) m p x (beyond (λ (j : Joint). path_by n js j.parent.0) (joint_of js p)) same le
      e
  | inr other ↦ at (joint_of js p) other e h (λ q f g. up_then js root top n m q x (omega (arith, le)) f g)
]
  where
    at : (o : Option Joint) → nat_eq p x ≡ false
        → EndsAt root (record { 0 = p } ∷ beyond (λ (j : Joint). path_by n js j.parent.0) o)
        → Contains (record { 0 = p } ∷ beyond (λ (j : Joint). path_by n js j.parent.0) o) (record { 0 = x })
        → ((q : ℕ) → EndsAt root (path_by n js q) → Contains (path_by n js q) (record { 0 = x })
        → turns_by n js q ≡ take (steps_to x (path_by n js q)) (turns_by n js q) ++ turns_by m js x)
        → beyond (λ (j : Joint). j.turn ∷ turns_by n js j.parent.0) o
        ≡ take (steps_to x (record { 0 = p } ∷ beyond (λ (j : Joint). path_by n js j.parent.0) o)) (beyond
        (λ (j : Joint). j.turn ∷ turns_by n js j.parent.0) o) ++ turns_by m js x
    at None other f g go =
        absurd (in_none (record { 0 = x }) (in_rest (record { 0 = p }) (record { 0 = x }) [] other g))
    at (Some j) other f g go =
        let rest = path_by n js j.parent.0 in
        let more : steps_to x (record { 0 = p } ∷ rest) ≡ suc (steps_to x rest) =
        ap (λ b. cond b 0 (suc (steps_to x rest))) other in
        let above = go j.parent.0 (sym (last_of_path (Some (record { 0 = p })) n js j.parent.0) ∙ f)
        (in_rest (record { 0 = p }) (record { 0 = x }) rest other g) in
        ap (λ ts. j.turn ∷ ts) above
        ∙ sym (ap (λ k. take k (j.turn ∷ turns_by n js j.parent.0) ++ turns_by m js x) more)

-- the turns from panel p to the root
abbrev pub turns_of : Tree → ℕ → List Turn
turns_of t p = turns_by LONGEST_PATH t.joints p

pub way_up : (t : Tree) (p x : ℕ) → IsCarton t → p < length t.panels → IsOnPath t p x
    → turns_of t p ≡ turns_up t.joints p x ++ turns_of t x
unfolding turns_up path
way_up t p x c lt h = up_then t.joints t.root c.top LONGEST_PATH LONGEST_PATH p x (omega arith) (c.ends p lt)
    h

-- the root has none
pub no_turns : (t : Tree) → IsCarton t → turns_of t t.root ≡ []
unfolding turns_by
no_turns t c = ap (λ o. beyond (λ (j : Joint). j.turn ∷ turns_by 7 t.joints j.parent.0) o) c.top

-- the parting panel is on both paths
pub parting_on : (t : Tree) (a b : ℕ) → IsCarton t → a < length t.panels → b < length t.panels
    → IsOnPath t a (parting t a b) × IsOnPath t b (parting t a b)
unfolding parting
parting_on t a b c la lb = at (first_shared (path t.joints a) (path t.joints b)) refl
  where
    at : (o : Option PanelId) → first_shared (path t.joints a) (path t.joints b) ≡ o
        → IsOnPath t a (number_or t.root o) × IsOnPath t b (number_or t.root o)
    at None e = (root_on t a c la, root_on t b c lb)
    at (Some x) e = shared_in (path t.joints a) (path t.joints b) x e
