-- Steps along rings, on plain functions.
use Rattle.std.proofs.Common.{◌≡◌, ℕ, zero, suc, ◌+◌, ◌<◌, Option, Some, None, ◌⊎◌, inl, inr, refl, ap, sym}
use Rattle.std.proofs.Common.{◌∙◌, arith}
use Rattle.std.proofs.lemmas.Bool.{cases_eq}
use Rattle.carton_queue.specs.Linked.{IsSet, AreSet, InRing, IsWay, IsRing}

-- another entry for one node
pub record IsEntry (old new : ℕ → Option ℕ) (n : ℕ) (x : Option ℕ) : Type 0 where
  pub here : new n ≡ x
  pub rest : (i : ℕ) → (i ≡ n → ⊥) → new i ≡ old i

abbrev pub IsInside : ℕ → (ℕ → Option ℕ) → Type 0
IsInside nodes at = (n p : ℕ) → at n ≡ Some p → n < nodes

module _ (nodes : ℕ) (at : ℕ → Option ℕ) where
  -- the same slot in the same ring
  pub moved : (b c i j : ℕ) → InRing nodes at b i → b ≡ c → i ≡ j → InRing nodes at c j
  moved b c i j w e f = elim w [ inl p ↦ inl (cc) | inr q ↦ inr (cc) ]

  -- a slot is in one ring
  pub one_ring : (b c i : ℕ) → IsInside nodes at → InRing nodes at b i → InRing nodes at c i → b ≡ c
  one_ring b c i h v w = elim v [
    | inl p ↦ elim w [ inl q ↦ cc | inr q ↦ absurd (let l : i < nodes = h i b p in omega (arith, l, q)) ]
    | inr p ↦ elim w [
      | inl q ↦ absurd (let l : i < nodes = h i c q in omega (arith, l, p))
      | inr q ↦
          omega (arith, p, q)
    ]
  ]

  -- a node that isn't there is in no ring
  pub apart : (n b i : ℕ) → n < nodes → at n ≡ None → InRing nodes at b i → i ≡ n → ⊥
  apart n b i l h w e = elim w [ inl p ↦ (cc) | inr q ↦ omega (arith, l, e, q) ]

module _ (nodes : ℕ) (at now : ℕ → Option ℕ) (n : ℕ) (x : Option ℕ) (s : IsEntry at now n x) where
  -- the rings of the other slots
  pub kept : (b i : ℕ) → InRing nodes at b i → (i ≡ n → ⊥) → InRing nodes now b i
  kept b i w o = elim w [ inl p ↦ inl (s.rest i o ∙ p) | inr q ↦ inr q ]

  pub before : (b i : ℕ) → InRing nodes now b i → (i ≡ n → ⊥) → InRing nodes at b i
  before b i w o = elim w [ inl p ↦ inl (sym (s.rest i o) ∙ p) | inr q ↦ inr q ]

-- a node enters a ring between a and h
pub way_added : (nodes buckets : ℕ) (at now : ℕ → Option ℕ) (go come go2 come2 : ℕ → ℕ) (n b a h : ℕ)
    → IsInside nodes at → n < nodes → b < buckets → at n ≡ None → IsEntry at now n (Some b)
    → InRing nodes at b a → InRing nodes at b h → go a ≡ h → come h ≡ a
    → AreSet go go2 n h a n → AreSet come come2 n a h n
    → IsWay nodes buckets at go come → IsWay nodes buckets now go2 come2
way_added nodes buckets at now go come go2 come2 n b a h inside ln lb none s wa wh ea eh sg sc way =
    record { goes = goes; back = back }
  where
    goes : (c i : ℕ) → c < buckets → InRing nodes now c i → InRing nodes now c (go2 i)
    goes c i l w = elim (cases_eq i n) [
      | inl e ↦
          moved nodes now b c h (go2 i)
          (kept nodes at now n (Some b) s b h wh (apart nodes at n b h ln none wh))
          (elim w [
            | inl p ↦ (let q : now n ≡ Some b = s.here in cc)
            | inr q ↦
                absurd (omega (arith, ln, e, q))
          ]) (let q : go2 n ≡ h = sg.here in cc)
      | inr o ↦ elim (cases_eq i a) [
        | inl e ↦
            moved nodes now c c n (go2 i)
            (inl (s.here
            ∙ ap (λ (k : ℕ). Some k) (one_ring nodes at b c a inside wa
            (moved nodes at c c i a (before nodes at now n (Some b) s c i w o) refl e)))) refl
            (let q : go2 a ≡ n = sg.there in cc)
        | inr o2 ↦
            (let w0 : InRing nodes at c (go i) = way.goes c i l (before nodes at now n (Some b) s c i w o) in
            moved nodes now c c (go i) (go2 i)
            (kept nodes at now n (Some b) s c (go i) w0 (apart nodes at n c (go i) ln none w0)) refl
            (sym (sg.rest i o o2)))
      ]
    ]

    back : (c i : ℕ) → c < buckets → InRing nodes now c i → come2 (go2 i) ≡ i
    back c i l w = elim (cases_eq i n) [
      | inl e ↦ (let p : go2 n ≡ h = sg.here in let q : come2 h ≡ n = sc.there in cc)
      | inr o ↦ elim (cases_eq i a) [
        | inl e ↦ (let p : go2 a ≡ n = sg.there in let q : come2 n ≡ a = sc.here in cc)
        | inr o2 ↦ (let v : InRing nodes at c i = before nodes at now n (Some b) s c i w o in
            let w0 : InRing nodes at c (go i) = way.goes c i l v in
            let r : come (go i) ≡ i = way.back c i l v in
            let p : go2 i ≡ go i = sg.rest i o o2 in
            let q : come2 (go i) ≡ come (go i) = sc.rest (go i) (apart nodes at n c (go i) ln none w0) (λ e.
            o2 (sym r ∙ ap come e ∙ eh)) in
            cc)
      ]
    ]

-- a node leaves a ring from between a and h
pub way_removed : (nodes buckets : ℕ) (at now : ℕ → Option ℕ) (go come go2 come2 : ℕ → ℕ) (n b a h : ℕ)
    → IsInside nodes at → n < nodes → at n ≡ Some b → IsEntry at now n None
    → InRing nodes at b a → InRing nodes at b h → (a ≡ n → ⊥) → (h ≡ n → ⊥) → come n ≡ a → come h ≡ n
    → IsSet go go2 a h → IsSet come come2 h a
    → IsWay nodes buckets at go come → IsWay nodes buckets now go2 come2
way_removed nodes buckets at now go come go2 come2 n b a h inside ln is s wa wh oa oh en eh sg sc way =
    record { goes = goes; back = back }
  where
    goes : (c i : ℕ) → c < buckets → InRing nodes now c i → InRing nodes now c (go2 i)
    goes c i l w =
        let o : i ≡ n → ⊥ = apart nodes now n c i ln s.here w in
        let v : InRing nodes at c i = before nodes at now n None s c i w o in
        elim (cases_eq i a) [
          | inl e ↦ moved nodes now b c h (go2 i) (kept nodes at now n None s b h wh oh)
              (one_ring nodes at b c a inside wa (moved nodes at c c i a v refl e))
              (let q : go2 a ≡ h = sg.here in cc)
          | inr o2 ↦ (let w0 : InRing nodes at c (go i) = way.goes c i l v in
              let r : come (go i) ≡ i = way.back c i l v in
              moved nodes now c c (go i) (go2 i)
              (kept nodes at now n None s c (go i) w0 (λ e. o2 (sym r ∙ ap come e ∙ en))) refl
              (sym (sg.rest i o2)))
        ]

    back : (c i : ℕ) → c < buckets → InRing nodes now c i → come2 (go2 i) ≡ i
    back c i l w =
        let o : i ≡ n → ⊥ = apart nodes now n c i ln s.here w in
        let v : InRing nodes at c i = before nodes at now n None s c i w o in
        elim (cases_eq i a) [
          | inl e ↦ (let p : go2 a ≡ h = sg.here in let q : come2 h ≡ a = sc.here in cc)
          | inr o2 ↦ (let r : come (go i) ≡ i = way.back c i l v in
              let p : go2 i ≡ go i = sg.rest i o2 in
              let q : come2 (go i) ≡ come (go i) = sc.rest (go i) (λ e. o (sym r ∙ ap come e ∙ eh)) in
              cc)
        ]

abbrev choose : {k n : ℕ} → (k ≡ n) ⊎ (k ≡ n → ⊥) → ℕ → ℕ → ℕ
choose (inl e) v w = v
choose (inr o) v w = w

-- a rank with another value at one place
pub ranked : (f : ℕ → ℕ) (n v : ℕ) → (g : ℕ → ℕ) × IsSet f g n v
ranked f n v = (
  λ k. choose (cases_eq k n) v (f k),
  record {
    here = yes_at n n (cases_eq n n) refl (f n);
    rest = λ i o. no_at i n (cases_eq i n) o (f i);
  },
)
  where
    yes_at : (k n : ℕ) (d : (k ≡ n) ⊎ (k ≡ n → ⊥)) → k ≡ n → (w : ℕ) → choose d v w ≡ v
    yes_at k n (inl e) h w = refl
    yes_at k n (inr o) h w = absurd (o h)

    no_at : (k n : ℕ) (d : (k ≡ n) ⊎ (k ≡ n → ⊥)) → (k ≡ n → ⊥) → (w : ℕ) → choose d v w ≡ w
    no_at k n (inl e) o w = absurd (o e)
    no_at k n (inr p) o w = refl

pub ring_added : (nodes buckets : ℕ) (at now : ℕ → Option ℕ) (next previous next2 previous2 : ℕ → ℕ) (n b : ℕ)
    → n < nodes → b < buckets → at n ≡ None → IsEntry at now n (Some b)
    → AreSet next next2 n (next (nodes + b)) (nodes + b) n
    → AreSet previous previous2 n (nodes + b) (next (nodes + b)) n
    → IsRing nodes buckets at next previous → IsRing nodes buckets now next2 previous2
ring_added nodes buckets at now next previous next2 previous2 n b ln lb none s sn sp ring =
    let a = nodes + b in
    let h = next a in
    let wa : InRing nodes at b a = inr refl in
    let wh : InRing nodes at b h = ring.forth.goes b a lb wa in
    let back : previous h ≡ a = ring.forth.back b a lb wa in
    let g = ranked ring.rank n (suc (ring.rank h)) in
    record {
      within = λ m p e. elim (cases_eq m n) [
        | inl q ↦ omega (arith, ln, q)
        | inr o ↦
            ring.within m p (sym (s.rest m o) ∙ e)
      ];
      below =
          λ m p e. elim (cases_eq m n) [
            | inl q ↦
                (let r : p ≡ b = (let t : now n ≡ Some b = s.here in cc) in omega (arith, lb, r))
            | inr o ↦
                ring.below m p (sym (s.rest m o) ∙ e)
          ];
      forth = way_added nodes buckets at now next previous next2 previous2 n b a h ring.within ln lb none s wa
          wh refl back sn sp ring.forth;
      back = way_added nodes buckets at now previous next previous2 next2 n b h a ring.within ln lb none s wh
          wa back refl sp sn ring.back;
      rank = g.0;
      falls = λ m p e f. elim (cases_eq m n) [
        | inl q ↦ (
            let o : h ≡ n → ⊥ = apart nodes at n b h ln none wh in
            let t : next2 m ≡ h = (let u : next2 n ≡ h = sn.here in cc) in
            let r : g.0 (next2 m) ≡ ring.rank h = ap g.0 t ∙ g.1.rest h o in
            let v : g.0 m ≡ suc (ring.rank h) = ap g.0 q ∙ g.1.here in
            omega (arith, r, v))
        | inr o ↦ (
            let c : at m ≡ Some p = sym (s.rest m o) ∙ e in
            let lm : m < nodes = ring.within m p c in
            let t : next2 m ≡ next m = sn.rest m o (λ q. omega (arith, lm, q)) in
            let w : InRing nodes at p (next m) = ring.forth.goes p m (ring.below m p c) (inl c) in
            let o2 : next m ≡ n → ⊥ = apart nodes at n p (next m) ln none w in
            let d : at (next m) ≡ Some p = sym (s.rest (next m) o2) ∙ sym (ap now t) ∙ f in
            let r : g.0 (next2 m) ≡ ring.rank (next m) = ap g.0 t ∙ g.1.rest (next m) o2 in
            let v : g.0 m ≡ ring.rank m = g.1.rest m o in
            omega (arith, r, v, ring.falls m p c d))
      ];
    }

-- a node doesn't follow itself
pub next_apart : (nodes buckets : ℕ) (at : ℕ → Option ℕ) (next previous : ℕ → ℕ) (n b : ℕ) → at n ≡ Some b
    → IsRing nodes buckets at next previous → next n ≡ n → ⊥
next_apart nodes buckets at next previous n b is ring e =
    let l = ring.falls n b is (ap at e ∙ is) in
    omega (arith, l, ap ring.rank e)

pub previous_apart : (nodes buckets : ℕ) (at : ℕ → Option ℕ) (next previous : ℕ → ℕ) (n b : ℕ) → at n ≡ Some b
    → IsRing nodes buckets at next previous → previous n ≡ n → ⊥
previous_apart nodes buckets at next previous n b is ring e =
    next_apart nodes buckets at next previous n b is ring (sym (ap next e)
    ∙ ring.back.back b n (ring.below n b is) (inl is))

pub ring_removed : (nodes buckets : ℕ) (at now : ℕ → Option ℕ) (next previous next2 previous2 : ℕ → ℕ)
    (n b : ℕ)
    → at n ≡ Some b → IsEntry at now n None
    → IsSet next next2 (previous n) (next n) → IsSet previous previous2 (next n) (previous n)
    → IsRing nodes buckets at next previous → IsRing nodes buckets now next2 previous2
ring_removed nodes buckets at now next previous next2 previous2 n b is s sn sp ring =
    let a = previous n in
    let h = next n in
    let ln : n < nodes = ring.within n b is in
    let lb : b < buckets = ring.below n b is in
    let wa : InRing nodes at b a = ring.back.goes b n lb (inl is) in
    let wh : InRing nodes at b h = ring.forth.goes b n lb (inl is) in
    let oa : a ≡ n → ⊥ = previous_apart nodes buckets at next previous n b is ring in
    let oh : h ≡ n → ⊥ = next_apart nodes buckets at next previous n b is ring in
    let ea : next a ≡ n = ring.back.back b n lb (inl is) in
    let eh : previous h ≡ n = ring.forth.back b n lb (inl is) in
    let apart_now : (m p : ℕ) → now m ≡ Some p → m ≡ n
    → ⊥ = λ m p e q. (let t : now n ≡ None = s.here in let u : now n ≡ Some p = sym (ap now q) ∙ e in cc)
    in
    record {
      within = λ m p e. ring.within m p (sym (s.rest m (apart_now m p e)) ∙ e);
      below = λ m p e. ring.below m p (sym (s.rest m (apart_now m p e)) ∙ e);
      forth = way_removed nodes buckets at now next previous next2 previous2 n b a h ring.within ln is s wa wh
          oa oh refl eh sn sp ring.forth;
      back = way_removed nodes buckets at now previous next previous2 next2 n b h a ring.within ln is s wh wa
          oh oa refl ea sp sn ring.back;
      rank = ring.rank;
      falls = λ m p e f.
          let c : at m ≡ Some p = sym (s.rest m (apart_now m p e)) ∙ e in
          let d : at (next2 m) ≡ Some p = sym (s.rest (next2 m) (apart_now (next2 m) p f)) ∙ f in
          elim (cases_eq m a) [
            | inl q ↦ (
                let pb : b ≡ p =
                one_ring nodes at b p m ring.within (moved nodes at b b a m wa refl (sym q)) (inl c) in
                let t : next2 m ≡ h = ap next2 q ∙ sn.here in
                let u : next m ≡ n = ap next q ∙ ea in
                let one : ring.rank h < ring.rank n = ring.falls n b is (sym (ap at t) ∙ d
                ∙ ap (λ (k : ℕ). Some k) (sym pb)) in
                let two : ring.rank (next m) < ring.rank m =
                ring.falls m p c (ap at u ∙ is ∙ ap (λ (k : ℕ). Some k) pb) in
                omega (arith, one, two, ap ring.rank t, ap ring.rank u))
            | inr o ↦ (
                let t : next2 m ≡ next m = sn.rest m o in
                omega (arith, ring.falls m p c (sym (ap at t) ∙ d), ap ring.rank t))
          ];
    }

-- where a bucket's slot follows itself, no node has that priority
pub none_there : (nodes buckets : ℕ) (at : ℕ → Option ℕ) (next previous : ℕ → ℕ) (b : ℕ) → b < buckets
    → IsRing nodes buckets at next previous → next (nodes + b) ≡ nodes + b → (n : ℕ) → at n ≡ Some b → ⊥
none_there nodes buckets at next previous b lb ring e n is = up_to (suc (ring.rank n)) n (omega arith) is
  where
    up_to : (k n : ℕ) → ring.rank n < k → at n ≡ Some b → ⊥
    up_to zero n l is = omega arith
    up_to (suc k) n l is = elim (ring.forth.goes b n lb (inl is)) [
      | inl q ↦ up_to k (next n) (omega (arith, l, ring.falls n b is q)) q
      | inr q ↦ (
          let p : previous (next n) ≡ n = ring.forth.back b n lb (inl is) in
          let r : previous (next (nodes + b)) ≡ nodes + b = ring.forth.back b (nodes + b) lb (inr refl) in
          let t : n ≡ nodes + b = sym p ∙ ap previous q ∙ sym (ap previous e) ∙ r in
          omega (arith, t, ring.within n b is))
    ]

-- what follows a bucket's slot, if it isn't that slot, is a node with that priority
pub first_there : (nodes buckets : ℕ) (at : ℕ → Option ℕ) (next previous : ℕ → ℕ) (b : ℕ) → b < buckets
    → IsRing nodes buckets at next previous → (next (nodes + b) ≡ nodes + b → ⊥) → at (next (nodes + b))
    ≡ Some b
first_there nodes buckets at next previous b lb ring o =
    elim (ring.forth.goes b (nodes + b) lb (inr refl)) [ inl p ↦ p | inr q ↦ absurd (o q) ]

-- rings with no node
pub ring_empty : (nodes buckets : ℕ) (at : ℕ → Option ℕ) (next previous : ℕ → ℕ) → ((n : ℕ) → at n ≡ None)
    → ((b : ℕ) → b < buckets → next (nodes + b) ≡ nodes + b)
    → ((b : ℕ) → b < buckets → previous (nodes + b) ≡ nodes + b) → IsRing nodes buckets at next previous
ring_empty nodes buckets at next previous none self_next self_previous = record {
  within = λ n p e. absurd (no n p e);
  below = λ n p e. absurd (no n p e);
  forth = way next previous self_next self_previous;
  back = way previous next self_previous self_next;
  rank = λ n. n;
  falls = λ n p e f. absurd (no n p e);
}
  where
    no : (n p : ℕ) → at n ≡ Some p → ⊥
    no n p e = (let t : at n ≡ None = none n in cc)

    way : (go come : ℕ → ℕ) → ((b : ℕ) → b < buckets → go (nodes + b) ≡ nodes + b)
        → ((b : ℕ) → b < buckets → come (nodes + b) ≡ nodes + b) → IsWay nodes buckets at go come
    way go come f g = record {
      goes = λ b i l w. elim w [ inl p ↦ absurd (no i b p) | inr q ↦ inr (ap go q ∙ f b l) ];
      back = λ b i l w. elim w [
        | inl p ↦ absurd (no i b p)
        | inr q ↦ ap come (ap go q ∙ f b l) ∙ g b l
            ∙ sym q
      ];
    }
