-- Tables of pairs that are still to be judged, and of reaches that are known.
use Rattle.std.proofs.Common.{◌≡◌, ℕ, ◌<◌, List, [], length, get_or, set, Bool, false, IsTrue, ◌↔◌, ℤ, refl}
use Rattle.std.proofs.Common.{Option, None, Some, pos, arith, sym, ◌∙◌, subst, inl, inr}
use Rattle.std.specs.Prelude.{IfSome}
use Rattle.std.proofs.lemmas.Bool.{false≢true, cases_eq}
use Rattle.std.proofs.lemmas.List.{get_or-set_same, get_or-set_other, length-set}
use Rattle.std.proofs.lemmas.Int.{ints, clamps}
use Rattle.carton_base.specs.declared.limits.TheConstants.{MOST_JOINTS}
use Rattle.carton_base.specs.declared.motion.Motion.{Motion}
use Rattle.carton_base.specs.declared.motion.State.{State}
use Rattle.carton_model.specs.Moves.{IsMotion}
use Rattle.carton_reach.specs.Ranges.{IsMotionBetween, IsRange}
use Rattle.carton_part.specs.declared.closing.Placed.{Placed}
use Rattle.carton_tree.specs.Trees.{Tree}
use Rattle.carton_part.specs.Answers.{IsPartingOf, StayParted}
use Rattle.carton_base.specs.declared.moments.Moment.{Moment}
use Rattle.carton_part.specs.declared.over.Parting.{Parting}
use Rattle.carton_part.specs.declared.over.Parting.TheVariants.{Parted, Undecided}
use Rattle.carton_part.specs.Closing.{AreKnown, AreKnownApart, AreRowsOf, ForMoves, IsRowOf, IsTable}
use Rattle.carton_part.specs.Closing.{StayPartedBetween, TellAsMuch, TellsAsMuch, is_open}
use Rattle.carton_part.specs.Frames.{IsOnWay}
use Rattle.carton_part.specs.Looks.{IsReachIn}
use Rattle.carton_part.specs.Parted.{AreStrangers}
use Rattle.carton_part.proofs.Looked.{parted_by}

-- what holds of an element that was set, and of the others before, holds of all after
pub after_set : {X : Type 0} (P : ℕ → X → Type 0) (xs : List X) (i j : ℕ) (x d : X) → i < length xs → P i x
    → (¬ (j ≡ i) → P j (get_or xs j d)) → P j (get_or (set xs i x) j d)
after_set P xs i j x d h p others = elim (cases_eq j i) [
  | inl e ↦
      subst (λ k. P k (get_or (set xs i x) k d)) (sym e) (subst (P i) (sym (get_or-set_same xs i x d h)) p)
  | inr n ↦ subst (P j) (sym (get_or-set_other xs i j x d n)) (others n)
]

-- a row all of whose open places are strangers, and no others
pub row_of_strangers : (t : Tree) (motion : Motion) (a : ℕ) (row : List Bool) → length row ≡ 24
    → ((b : ℕ) → IsTrue (is_open row b) ↔ AreStrangers t a b) → IsRowOf t motion a row
row_of_strangers t motion a row count are = record {
  count = count;
  open_are = λ b o. (are b).0 o;
  others = λ b s e. absurd (false≢true (sym e ∙ (are b).1 s));
}

-- a place is closed where the two stay parted
close_one : (t : Tree) (motion : Motion) (a b : ℕ) (row : List Bool) → IsRowOf t motion a row → b < length row
    → StayParted t motion a b (pos 0) → IsRowOf t motion a (set row b false)
close_one t motion a b row h lt parted = record {
  count = length-set row b false ∙ h.count;
  open_are = λ c. after_set (λ k o. IsTrue o → AreStrangers t a k) row b c false false lt
      (λ o. absurd (false≢true o)) (λ _. h.open_are c);
  others = λ c s. after_set (λ k o. o ≡ false → StayParted t motion a k (pos 0)) row b c false false lt
      (λ _. parted) (λ _. h.others c s);
}

pub close_between : (t : Tree) (low high : State) (a b : ℕ) (before row : List Bool)
    → TellsAsMuch t low high a before row → b < length row → StayPartedBetween t low high a b
    → TellsAsMuch t low high a before (set row b false)
close_between t low high a b before row h lt parted motion m was =
    close_one t motion a b row (h motion m was) lt (parted motion m)

-- a row of the table is replaced by one that tells as much
with_row : (t : Tree) (motion : Motion) (a : ℕ) (rows : List (List Bool)) (row : List Bool)
    → AreRowsOf t motion rows → a < length rows → IsRowOf t motion a row → AreRowsOf t motion (set rows a row)
with_row t motion a rows row h lt r = record {
  count = length-set rows a row ∙ h.count;
  each = λ b l. after_set (IsRowOf t motion) rows a b row [] lt r (λ _. h.each b l);
}

pub row_between : (t : Tree) (low high : State) (a : ℕ) (before rows : List (List Bool)) (row : List Bool)
    → TellAsMuch t low high before rows → a < length rows → a < 24
    → TellsAsMuch t low high a (get_or rows a []) row
    → TellAsMuch t low high before (set rows a row)
row_between t low high a before rows row h lt few r motion m was = let now = h motion m was in
    with_row t motion a rows row now lt (r motion m (now.each a few))

pub table_with : (a : ℕ) (rows : List (List Bool)) (row : List Bool) → IsTable rows → a < length rows
    → length row ≡ 24 → IsTable (set rows a row)
table_with a rows row h lt r = record {
  count = length-set rows a row ∙ h.count;
  each = λ b l. after_set (λ _ (x : List Bool). length x ≡ 24) rows a b row [] lt r (λ _. h.each b l);
}

-- what is known of a panel at its place
abbrev IsPlacedAt : Tree → State → State → ℕ → Option Placed → Type 0
IsPlacedAt t low high p o =
    IfSome o (λ e. ForMoves low high (λ motion. IsReachIn t motion p e.frame.0 0 0 e.reaches))

-- a reach is learned
pub with_reach : (t : Tree) (low high : State) (p : ℕ) (known : List (Option Placed)) (o : Option Placed)
    → AreKnown t low high known → p < length known → IsPlacedAt t low high p o
    → AreKnown t low high (set known p o)
with_reach t low high p known o h lt r = record {
  count = length-set known p o ∙ h.count;
  each = λ q d l. after_set (IsPlacedAt t low high) known p q o d lt r (λ _. h.each q d l);
}

apart_parted : (t : Tree) (low high : State) (a b f : ℕ) (x y : Option Placed) → IsOnWay t a b f
    → IsPlacedAt t low high a x → IsPlacedAt t low high b y → AreKnownApart f x y
    → StayPartedBetween t low high a b
apart_parted t low high a b f None y way hx hy apart = absurd apart
apart_parted t low high a b f (Some x) None way hx hy apart = absurd apart
apart_parted t low high a b f (Some x) (Some y) way hx hy apart = λ motion m n d i.
    let p = subst (λ k. IsReachIn t motion a k 0 0 x.reaches) apart.first (hx motion m) in
    let q = subst (λ k. IsReachIn t motion b k 0 0 y.reaches) apart.second (hy motion m) in
    parted_by t motion a b f 0 0 x.reaches y.reaches (pos 0) way p q apart.apart n d i
    (record { from = omega arith; upto = omega (arith, i.within) })

-- two panels whose known reaches are apart stay parted
pub known_parted : (t : Tree) (low high : State) (a b f : ℕ) (known : List (Option Placed))
    (d e : Option Placed) → IsOnWay t a b f → AreKnown t low high known → a < 24 → b < 24
    → AreKnownApart f (get_or known a d) (get_or known b e) → StayPartedBetween t low high a b
known_parted t low high a b f known d e way h ha hb apart =
    apart_parted t low high a b f (get_or known a d) (get_or known b e) way (h.each a d ha) (h.each b e hb)
    apart

-- a move goes between its own ends
pub own_range : (motion : Motion) → IsMotion MOST_JOINTS motion → IsRange motion.from motion.to
own_range motion m = record { first = m.from; second = m.to; grid = motion.one_grid }

pub between_ends : (motion : Motion) → IsMotionBetween motion.from motion.to motion
between_ends motion = record {
  grid = refl;
  from = λ k l. record { from = omega (arith, ints, clamps); upto = omega (arith, ints, clamps) };
  to = λ k l. record { from = omega (arith, ints, clamps); upto = omega (arith, ints, clamps) };
}

-- the table that tells of a move is one
pub rows_table : (t : Tree) (motion : Motion) (rows : List (List Bool)) → AreRowsOf t motion rows
    → IsTable rows
rows_table t motion rows h = record { count = h.count; each = λ a l. (h.each a l).count }

-- what isn't undecided stays parted
pub parting_known : (t : Tree) (motion : Motion) (a b : ℕ) (gap : ℤ) (slack : ℕ) (r : Parting)
    → IsPartingOf t motion a b gap slack r → ((m : Moment) → ¬ (r ≡ Undecided m))
    → StayParted t motion a b gap
parting_known t motion a b gap slack Parted h n = h
parting_known t motion a b gap slack (Undecided m) h n = absurd (n m refl)
