-- Folds that are written in finer parts: all positions are positive multiples of what they were, so panels
-- are parted alike.
-- So it is at each moment of a move that stands still, against the state.
use Rattle.std.proofs.Common.{◌≡◌, ◌∙◌, refl, sym, ap, subst, ℕ, ◌*◌, ◌<◌, List, [], ◌∷◌, Bool, true, false}
use Rattle.std.proofs.Common.{cond, Option, None, Some, ℤ, pos, ◌+ℤ◌, ◌-ℤ◌, ◌*ℤ◌, ◌<ℤ◌, arith}
use Rattle.std.proofs.lemmas.Int.{ints}
use Rattle.carton_base.proofs.Identities.{◌⊕◌, ◌⊖◌, ◌⊗◌, ◌⊜◌, by7, by9}
use Rattle.carton_base.proofs.Polynomials.{laid_out, sums, positive_product}
use Rattle.carton_base.proofs.Products.{mul_sub_right, mul_assoc_ℤ}
use Rattle.carton_base.specs.declared.motion.Motion.{Motion}
use Rattle.carton_base.specs.declared.motion.State.{State}
use Rattle.carton_base.specs.declared.motion.Turn.{Turn}
use Rattle.carton_halfturn.proofs.Peaks.{scaled_lt}
use Rattle.carton_halfturn.proofs.Scaling.{cosine_scaled, sine_scaled, square_sum_scaled}
use Rattle.carton_model.specs.HalfTurns.{Fold, joint_fold}
use Rattle.carton_model.specs.Moves.{stop_of, fold_at}
use Rattle.carton_model.specs.Parting.{Position, along}
use Rattle.carton_model.specs.Turning.{Angle, angle_of, with_side, turned_about, turned_by, turned_through}
use Rattle.carton_model.specs.Turning.{exchanged, fold_of, placed}
use Rattle.carton_place.specs.States.{fold_in}
use Rattle.carton_reach.specs.Beyond.{IsBeyond}
use Rattle.carton_tree.specs.Trees.{Tree, turns_between}
use Rattle.carton_part.specs.Parted.{ArePartedBy}
use Rattle.carton_part.specs.Points.{IsPointOf, flat_at}

-- each fold in d times finer parts
abbrev pub finer : (ℕ → Fold) → ℕ → ℕ → Fold
finer folds d k = record { num = (folds k).num *ℤ pos d; den = (folds k).den * d }

-- the angle h is the angle g over q times its number
record IsSameAngle (q : ℤ) (g h : Angle) : Type 0 where
  cos : h.cos ≡ g.cos *ℤ q
  sin : h.sin ≡ g.sin *ℤ q
  over : pos h.over ≡ pos g.over *ℤ q

-- the position r has k times the parts of p
record IsTimes (k : ℤ) (p r : Position) : Type 0 where
  x : r.x ≡ p.x *ℤ k
  y : r.y ≡ p.y *ℤ k
  z : r.z ≡ p.z *ℤ k
  w : r.w ≡ p.w *ℤ k

one_time : (a : ℤ) → a ≡ a *ℤ pos 1
one_time a = omega (arith, ints)

finer_angle : (folds : ℕ → Fold) (d : ℕ) (o : Option ℕ) → 0 < d → (q : ℤ) × (pos 0 <ℤ q)
    × IsSameAngle q (angle_of (fold_of folds o)) (angle_of (fold_of (finer folds d) o))
finer_angle folds d None h =
    (pos 1, omega (arith, ints), record { cos = one_time _; sin = one_time _; over = one_time _ })
finer_angle folds d (Some k) h = (
  pos d *ℤ pos d,
  positive_product (pos d) (pos d) (omega (arith, ints, h)) (omega (arith, ints, h)),
  record {
    cos = cosine_scaled (folds k).num (folds k).den d h;
    sin = sine_scaled (folds k).num (folds k).den d h;
    over = square_sum_scaled (folds k).num (folds k).den d h;
  },
)

-- the parts of a position that was turned about a line
turned_x : (at o cos sin x z w k q : ℤ)
    → (at *ℤ (w *ℤ k)) *ℤ (o *ℤ q) +ℤ ((cos *ℤ q) *ℤ (x *ℤ k -ℤ at *ℤ (w *ℤ k)) -ℤ (sin *ℤ q) *ℤ (z *ℤ k))
    ≡ ((at *ℤ w) *ℤ o +ℤ (cos *ℤ (x -ℤ at *ℤ w) -ℤ sin *ℤ z)) *ℤ (k *ℤ q)
turned_x =
    by9 (λ at o cos sin x z w k q. (at ⊗ (w ⊗ k)) ⊗ (o ⊗ q)
    ⊕ ((cos ⊗ q) ⊗ (x ⊗ k ⊖ at ⊗ (w ⊗ k)) ⊖ (sin ⊗ q) ⊗ (z ⊗ k))
    ⊜ ((at ⊗ w) ⊗ o ⊕ (cos ⊗ (x ⊖ at ⊗ w) ⊖ sin ⊗ z)) ⊗ (k ⊗ q)) refl

turned_z : (at cos sin x z w k q : ℤ) → (sin *ℤ q) *ℤ (x *ℤ k -ℤ at *ℤ (w *ℤ k)) +ℤ (cos *ℤ q) *ℤ (z *ℤ k)
    ≡ (sin *ℤ (x -ℤ at *ℤ w) +ℤ cos *ℤ z) *ℤ (k *ℤ q)
turned_z at cos sin x z w k q =
    by9 (λ at o cos sin x z w k q. (sin ⊗ q) ⊗ (x ⊗ k ⊖ at ⊗ (w ⊗ k)) ⊕ (cos ⊗ q) ⊗ (z ⊗ k)
    ⊜ (sin ⊗ (x ⊖ at ⊗ w) ⊕ cos ⊗ z) ⊗ (k ⊗ q)) refl at (pos 0) cos sin x z w k q

both_times : (a b k q : ℤ) → (a *ℤ k) *ℤ (b *ℤ q) ≡ (a *ℤ b) *ℤ (k *ℤ q)
both_times a b k q = simp laid_out (omega (arith, sums))

times_about : (at : ℤ) (g h : Angle) (k q : ℤ) (p r : Position) → IsSameAngle q g h → IsTimes k p r
    → IsTimes (k *ℤ q) (turned_about at g p) (turned_about at h r)
unfolding turned_about
times_about at g h k q p r a t = record {
  x = (λ i. (at *ℤ t.w i) *ℤ a.over i +ℤ (a.cos i *ℤ (t.x i -ℤ at *ℤ t.w i) -ℤ a.sin i *ℤ t.z i))
      ∙ turned_x at (pos g.over) g.cos g.sin p.x p.z p.w k q;
  y = (λ i. t.y i *ℤ a.over i) ∙ both_times p.y (pos g.over) k q;
  z = (λ i. a.sin i *ℤ (t.x i -ℤ at *ℤ t.w i) +ℤ a.cos i *ℤ t.z i) ∙ turned_z at g.cos g.sin p.x p.z p.w k q;
  w = (λ i. t.w i *ℤ a.over i) ∙ both_times p.w (pos g.over) k q;
}

same_side : (sign q : ℤ) (g h : Angle) → IsSameAngle q g h
    → IsSameAngle q (with_side sign g) (with_side sign h)
same_side sign q g h a =
    record { cos = a.cos; sin = ap (λ z. sign *ℤ z) a.sin ∙ sym (mul_assoc_ℤ sign g.sin q); over = a.over }

times_exchanged : (k : ℤ) (p r : Position) → IsTimes k p r → IsTimes k (exchanged p) (exchanged r)
times_exchanged k p r t = record { x = t.y; y = t.x; z = t.z; w = t.w }

times_by : (t : Turn) (g h : Angle) (k q : ℤ) (p r : Position) → IsSameAngle q g h → IsTimes k p r
    → IsTimes (k *ℤ q) (turned_by t g p) (turned_by t h r)
unfolding turned_by
times_by t g h k q p r a e = at t.upright
  where
    about : (p r : Position) → IsTimes k p r
        → IsTimes (k *ℤ q) (turned_about t.at (with_side t.sign g) p)
        (turned_about t.at (with_side t.sign h) r)
    about p r e = times_about t.at (with_side t.sign g) (with_side t.sign h) k q p r
        (same_side t.sign q g h a) e

    at : (u : Bool)
        → IsTimes (k *ℤ q) (cond u (turned_about t.at (with_side t.sign g) p) (exchanged
        (turned_about t.at (with_side t.sign g) (exchanged p))))
        (cond u (turned_about t.at (with_side t.sign h) r)
        (exchanged (turned_about t.at (with_side t.sign h) (exchanged r))))
    at true = about p r e
    at false = times_exchanged (k *ℤ q) _ _ (about (exchanged p) (exchanged r) (times_exchanged k p r e))

-- all positions are positive multiples of what they were
times_placed : (folds : ℕ → Fold) (d : ℕ) (ts : List Turn) (k : ℤ) (p r : Position) → 0 < d → pos 0 <ℤ k
    → IsTimes k p r
    → (l : ℤ) × (pos 0 <ℤ l) × IsTimes l (placed folds ts p) (placed (finer folds d) ts r)
unfolding turned_through
times_placed folds d [] k p r h s e = (k, s, e)
times_placed folds d (t ∷ ts) k p r h s e =
    let a = finer_angle folds d t.place h in
    let g = angle_of (fold_of folds t.place) in
    let b = angle_of (fold_of (finer folds d) t.place) in
    times_placed folds d ts (k *ℤ a.0) (turned_by t g p) (turned_by t b r) h (positive_product k a.0 s a.1)
    (times_by t g b k a.0 p r a.2 e)

times_self : (p : Position) → IsTimes (pos 1) p p
times_self p = record { x = one_time _; y = one_time _; z = one_time _; w = one_time _ }

along_times : (u v t x y z k : ℤ) → u *ℤ (x *ℤ k) +ℤ v *ℤ (y *ℤ k) +ℤ t *ℤ (z *ℤ k)
    ≡ (u *ℤ x +ℤ v *ℤ y +ℤ t *ℤ z) *ℤ k
along_times = by7 (λ u v t x y z k. u ⊗ (x ⊗ k) ⊕ v ⊗ (y ⊗ k) ⊕ t ⊗ (z ⊗ k) ⊜ (u ⊗ x ⊕ v ⊗ y ⊕ t ⊗ z) ⊗ k)
    refl

far_times : (halves a v w k l : ℤ) → pos 2 *ℤ ((a *ℤ k) *ℤ (w *ℤ l)) +ℤ halves *ℤ ((v *ℤ k) *ℤ (w *ℤ l))
    ≡ (pos 2 *ℤ (a *ℤ w) +ℤ halves *ℤ (v *ℤ w)) *ℤ (k *ℤ l)
far_times halves a v w k l = simp laid_out (omega (arith, sums))

near_times : (b v k l : ℤ) → pos 2 *ℤ ((b *ℤ l) *ℤ (v *ℤ k)) ≡ (pos 2 *ℤ (b *ℤ v)) *ℤ (k *ℤ l)
near_times b v k l = simp laid_out (omega (arith, sums))

along_is : (u v t k : ℤ) (p r : Position) → IsTimes k p r → along u v t r ≡ along u v t p *ℤ k
along_is u v t k p r e = (λ i. u *ℤ e.x i +ℤ v *ℤ e.y i +ℤ t *ℤ e.z i) ∙ along_times u v t p.x p.y p.z k

-- what lies beyond does so when both positions are multiplied
beyond_times : (halves u v t k l : ℤ) (p q r s : Position) → pos 0 <ℤ k → pos 0 <ℤ l → IsTimes k p r
    → IsTimes l q s → IsBeyond halves u v t p q → IsBeyond halves u v t r s
beyond_times halves u v t k l p q r s k0 l0 e f h =
    let ar = along_is u v t k p r e in
    let at = along_is u v t l q s f in
    let from = (λ i. pos 2 *ℤ (ar i *ℤ f.w i) +ℤ halves *ℤ (e.w i *ℤ f.w i))
    ∙ far_times halves (along u v t p) p.w q.w k l in
    let to = (λ i. pos 2 *ℤ (at i *ℤ e.w i)) ∙ near_times (along u v t q) p.w k l in
    subst (λ z. z <ℤ (pos 2 *ℤ (along u v t s *ℤ r.w))) (sym from)
    (subst (λ z. ((pos 2 *ℤ (along u v t p *ℤ q.w) +ℤ halves *ℤ (p.w *ℤ q.w)) *ℤ (k *ℤ l)) <ℤ z) (sym to)
    (scaled_lt _ _ (k *ℤ l) (positive_product k l k0 l0) h))

-- a point in the finer folds, and the multiple that it is of where the point stands in the others
record IsMultiple (t : Tree) (folds : ℕ → Fold) (p f : ℕ) (r : Position) : Type 0 where
  at : Position
  point : IsPointOf t folds p f at
  k : ℤ
  some : pos 0 <ℤ k
  times : IsTimes k at r

multiple_of : (t : Tree) (folds : ℕ → Fold) (d p f : ℕ) (r : Position) → 0 < d
    → IsPointOf t (finer folds d) p f r → IsMultiple t folds p f r
multiple_of t folds d p f r h e =
    let flat = flat_at e.x e.y e.w in
    let ts = turns_between t p f in
    let m = times_placed folds d ts (pos 1) flat flat h (omega (arith, ints)) (times_self flat) in
    record {
      at = placed folds ts flat;
      point = record { x = e.x; y = e.y; w = e.w; positive = e.positive; inside = e.inside; at = refl };
      k = m.0;
      some = m.1;
      times = subst (λ q. IsTimes m.0 (placed folds ts flat) q) (sym e.at) m.2;
    }

parted_finer : (t : Tree) (folds : ℕ → Fold) (d a b : ℕ) (halves : ℤ) → 0 < d → ArePartedBy t folds a b halves
    → ArePartedBy t (finer folds d) a b halves
parted_finer t folds d a b halves h e =
    let f = e.0 in
    let i = e.2 in (
      f,
      e.1,
      (
        i.0,
        i.1,
        i.2,
        i.3,
        λ p q hp hq.
            let m = multiple_of t folds d a f p h hp in
            let n = multiple_of t folds d b f q h hq in
            beyond_times halves i.0 i.1 i.2 m.k n.k m.at n.at p q m.some n.some m.times n.times
            (i.4 m.at n.at m.point n.point),
      ),
    )

-- the folds at a moment of a move that stands still
still_fold : (a : ℤ) (grid n d : ℕ) → joint_fold a a grid n d ≡ record { num = a *ℤ pos d; den = grid * d }
still_fold a grid n d =
    let none : (a -ℤ a) *ℤ pos n ≡ pos 0 = omega (arith, ints, mul_sub_right a a (pos n)) in
    let num : a *ℤ pos d +ℤ (a -ℤ a) *ℤ pos n ≡ a *ℤ pos d = omega (arith, ints, none) in
    λ i. record { num = num i; den = grid * d }

-- the move that stands still in a state
abbrev pub still : State → Motion
still s = record { from = s; to = s; one_grid = refl }

still_folds : (s : State) (n d : ℕ) → fold_at (still s) n d ≡ finer (fold_in s) d
still_folds s n d = λ i k. still_fold (stop_of s k) s.grid n d i

-- what is parted in a state is parted at each moment of the move that stands still in it
pub parted_while_still : (t : Tree) (s : State) (n d a b : ℕ) (halves : ℤ) → 0 < d
    → ArePartedBy t (fold_in s) a b halves → ArePartedBy t (fold_at (still s) n d) a b halves
parted_while_still t s n d a b halves h e =
    subst (λ folds. ArePartedBy t folds a b halves) (sym (still_folds s n d))
    (parted_finer t (fold_in s) d a b halves h e)
