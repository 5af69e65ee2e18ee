-- Lists of stops in which one stop stands in all places but the second.
use Rattle.std.proofs.Common.{◌≡◌, sym, subst, ℕ, zero, suc, ◌<◌, List, replicate, set, get_or, ℤ, pos}
use Rattle.std.proofs.Common.{slice_index_or, arith}
use Rattle.std.proofs.lemmas.List.{get_or-replicate}
use Rattle.carton_base.specs.declared.limits.TheConstants.{MOST_JOINTS}
use Rattle.carton_base.specs.declared.motion.Motion.{Motion}
use Rattle.carton_model.specs.Moves.{IsStop, IsStep, IsMotion}

abbrev stops_list : ℤ → ℤ → List ℤ
stops_list a b = set (replicate MOST_JOINTS a) 1 b

stop_lies : (grid : ℕ) (a b : ℤ) → IsStop grid a → IsStop grid b → (k : ℕ) → k < MOST_JOINTS
    → IsStop grid (slice_index_or (stops_list a b) k (pos 0))
stop_lies grid a b p q zero l = p
stop_lies grid a b p q (suc zero) l = q
stop_lies grid a b p q (suc (suc j)) l =
    subst (IsStop grid) (sym (get_or-replicate 22 j a (pos 0) (omega (arith, l)))) p

step_lies : (a b c d : ℤ) → IsStep a c → IsStep b d → (k : ℕ) → k < MOST_JOINTS
    → IsStep (slice_index_or (stops_list a b) k (pos 0)) (slice_index_or (stops_list c d) k (pos 0))
step_lies a b c d p q zero l = p
step_lies a b c d p q (suc zero) l = q
step_lies a b c d p q (suc (suc j)) l =
    subst (λ s. IsStep s (get_or (replicate 22 c) j (pos 0)))
    (sym (get_or-replicate 22 j a (pos 0) (omega (arith, l))))
    (subst (IsStep a) (sym (get_or-replicate 22 j c (pos 0) (omega (arith, l)))) p)

pub is_motion : (m : Motion) (a b c d : ℤ) → m.from.stops ≡ set (replicate MOST_JOINTS a) 1 b
    → m.to.stops ≡ set (replicate MOST_JOINTS c) 1 d
    → IsStop m.from.grid a → IsStop m.from.grid b → IsStop m.to.grid c → IsStop m.to.grid d → IsStep a c
    → IsStep b d → IsMotion MOST_JOINTS m
is_motion m a b c d p q ha hb hc hd e f = record {
  from = record {
    stops = λ k l. subst (λ s. IsStop m.from.grid (slice_index_or s k (pos 0))) (sym p)
        (stop_lies m.from.grid a b ha hb k l);
    others = λ k l u. absurd (omega (arith, l, u));
  };
  to = record {
    stops = λ k l. subst (λ s. IsStop m.to.grid (slice_index_or s k (pos 0))) (sym q)
        (stop_lies m.to.grid c d hc hd k l);
    others = λ k l u. absurd (omega (arith, l, u));
  };
  steps = λ k l. subst (λ s. IsStep (slice_index_or s k (pos 0)) (slice_index_or m.to.stops k (pos 0)))
      (sym p)
      (subst (λ s. IsStep (slice_index_or (stops_list a b) k (pos 0)) (slice_index_or s k (pos 0))) (sym q)
      (step_lies a b c d e f k l));
}
