-- The places of teams: each within the joints, and none twice.
use Rattle.std.proofs.Common.{◌≡◌, ◌≢◌, ℕ, suc, ◌+◌, ◌<◌, ◌≤◌, Bool, true, false, cond, not, ◌&&◌, ◌||◌, List}
use Rattle.std.proofs.Common.{[], ◌∷◌, ◌++◌, length, Some, Ok, filter_map, All, AllPairs, refl, sym, ap, ◌∙◌}
use Rattle.std.proofs.Common.{subst, arith, ltb, eq-eqb}
use Rattle.std.specs.List.{AllByRecursion, list_any}
use Rattle.std.proofs.lemmas.Bool.{ltb-false, eqb-true}
use Rattle.std.proofs.lemmas.List.Elements.{All-from_recursion, filter_map-append}
use Rattle.std.proofs.lemmas.Grind.{flat_map-append}
use Rattle.carton_base.specs.declared.ids.EdgeId.{EdgeId}
use Rattle.carton_base.specs.declared.limits.TheConstants.{MOST_TEAMS}
use Rattle.carton_base.specs.Steps.{refuse_if, entries_from}
use Rattle.carton_base.proofs.Steps.{both, same_ok, unless}
use Rattle.carton_text.specs.declared.course.Course.{Course}
use Rattle.carton_text.specs.declared.job.TeamLine.{TeamLine}
use Rattle.carton_text.specs.declared.task.Team.{Team}
use Rattle.carton_text.specs.declared.job_error.JobError.TheVariants.{EmptyTeam, TooManyTeams}
use Rattle.carton_text.specs.Jobs.{is_same}
use Rattle.carton_text.specs.JobRules.{members}
use Rattle.carton_text.specs.Tasks.{is_among, moves, has_to_move, place_from, places, team_of, lone_teams}
use Rattle.carton_text.specs.Tasks.{teams_of}
use Rattle.carton_text.specs.TaskRules.{all_places, AreTeamsOf}
use Rattle.carton_text.proofs.Apart.{Apart, apart_from_pairs, pairs_from_apart, all_joined, apart_joined}
use Rattle.carton_text.proofs.Apart.{all_of, found, found_apart}

pub same_edge : (d e : EdgeId) → is_same d e ≡ true → d ≡ e
same_edge d e h =
    let make : ℕ → EdgeId = λ n. record { 0 = n } in
    ap make (eqb-true d.0 e.0 h)

-- a place from k on, among so many joints
record IsFrom (k joints place : ℕ) : Type 0 where
  from : k ≤ place
  upto : place < k + joints

placed : (k : ℕ) (courses : List Course) (e : EdgeId) (place : ℕ) → place_from k courses e ≡ Some place
    → IsFrom k (length courses) place
placed k [] e place h = cc
placed k (c ∷ courses) e place h = by_test (is_same c.edge e) (placed (k + 1) courses e place) h
  where
    by_test : (b : Bool) → (place_from (k + 1) courses e ≡ Some place → IsFrom (k + 1) (length courses) place)
        → cond b (Some k) (place_from (k + 1) courses e) ≡ Some place → IsFrom k (suc (length courses)) place
    by_test true later q = let is : k ≡ place = cc in record { from = omega arith; upto = omega arith }
    by_test false later q = let r = later q in
        record { from = omega (arith, r.from); upto = omega (arith, r.upto) }

-- two edges in one place are one
one_place : (k : ℕ) (courses : List Course) (d e : EdgeId) (place : ℕ) → place_from k courses d ≡ Some place
    → place_from k courses e ≡ Some place → d ≡ e
one_place k [] d e place g h = cc
one_place k (c ∷ courses) d e place g h =
    by_tests (is_same c.edge d) (is_same c.edge e) refl refl (one_place (k + 1) courses d e place) g h
  where
    later : (x : EdgeId) → place_from (k + 1) courses x ≡ Some place → k ≢ place
    later x q is = let r = placed (k + 1) courses x place q in absurd (omega (arith, r.from, is))

    by_tests : (a b : Bool) → is_same c.edge d ≡ a → is_same c.edge e ≡ b
        → (place_from (k + 1) courses d ≡ Some place → place_from (k + 1) courses e ≡ Some place → d ≡ e)
        → cond a (Some k) (place_from (k + 1) courses d) ≡ Some place
        → cond b (Some k) (place_from (k + 1) courses e) ≡ Some place → d ≡ e
    by_tests true true p q rest u v = sym (same_edge c.edge d p) ∙ same_edge c.edge e q
    by_tests true false p q rest u v = let is : k ≡ place = cc in absurd (later e v is)
    by_tests false true p q rest u v = let is : k ≡ place = cc in absurd (later d u is)
    by_tests false false p q rest u v = rest u v

-- the places of the lines' teams are those of the edges that they name
told_places : (courses : List Course) (i : ℕ) (lines : List TeamLine) (told : List Team)
    → entries_from (λ i. team_of courses) i lines ≡ Ok told
    → all_places told ≡ filter_map (place_from 0 courses) (members lines)
unfolding entries_from team_of
told_places courses i [] told h =
    let none : told ≡ [] = cc in
    ap all_places none
told_places courses i (t ∷ lines) told h =
    let a = both (team_of courses t) _ told h in
    let b = both (entries_from (λ i. team_of courses) (i + 1) lines) _ told a.2 in
    let more : told ≡ a.0 ∷ b.0 = cc in
    let fine = both (refuse_if (not (list_any (has_to_move courses) t.edges)) (EmptyTeam t.line)) _ a.0 a.1 in
    let team : record { places = places courses t.edges } ≡ a.0 = same_ok _ a.0 _ refl fine.2 in
    ap all_places more ∙ ap (λ (m : Team). m.places ++ all_places b.0) (sym team)
    ∙ ap (λ (ks : List ℕ). places courses t.edges ++ ks) (told_places courses (i + 1) lines b.0 b.1)
    ∙ sym (filter_map-append (place_from 0 courses) t.edges (members lines))

-- the place of a joint from k on that none of the named edges has
record IsLone (named : List EdgeId) (k : ℕ) (courses : List Course) (place : ℕ) : Type 0 where
  from : k ≤ place
  upto : place < k + length courses
  alone : (e : EdgeId) → is_among e named ≡ true → place_from k courses e ≢ Some place

later_lone : (named : List EdgeId) (k : ℕ) (c : Course) (courses : List Course) (place : ℕ)
    → IsLone named (k + 1) courses place → IsLone named k (c ∷ courses) place
later_lone named k c courses place h = record {
  from = omega (arith, h.from);
  upto = omega (arith, h.upto);
  alone = λ e among q. by_test e among (is_same c.edge e) q;
}
  where
    by_test : (e : EdgeId) → is_among e named ≡ true → (b : Bool)
        → cond b (Some k) (place_from (k + 1) courses e) ≡ Some place → ⊥
    by_test e among true q = let is : k ≡ place = cc in absurd (omega (arith, h.from, is))
    by_test e among false q = h.alone e among q

first_lone : (named : List EdgeId) (k : ℕ) (c : Course) (courses : List Course) → is_among c.edge named
    ≡ false → IsLone named k (c ∷ courses) k
first_lone named k c courses new =
    record {
      from = omega arith;
      upto = omega arith;
      alone = λ e among q. by_test e among (is_same c.edge e) refl q;
    }
  where
    by_test : (e : EdgeId) → is_among e named ≡ true → (b : Bool) → is_same c.edge e ≡ b
        → cond b (Some k) (place_from (k + 1) courses e) ≡ Some k → ⊥
    by_test e among true s q = let is = ap (λ x. is_among x named) (same_edge c.edge e s) in cc
    by_test e among false s q = let r = placed (k + 1) courses e k q in absurd (omega (arith, r.from))

-- the teams of single joints have different places, which no named edge has
record AreLone (named : List EdgeId) (k : ℕ) (courses : List Course) (ks : List ℕ) : Type 0 where
  each : AllByRecursion (IsLone named k courses) ks
  apart : Apart ks

is_new : (a b : Bool) → (a && not b) ≡ true → b ≡ false
is_new true false h = refl
is_new true true h = cc
is_new false b h = cc

lone : (named : List EdgeId) (k : ℕ) (courses : List Course)
    → AreLone named k courses (all_places (lone_teams named k courses))
lone named k [] = record { each = tt; apart = tt }
lone named k (c ∷ courses) =
    by_test (moves c && not (is_among c.edge named)) refl (lone named (k + 1) courses)
  where
    by_test : (b : Bool) → (moves c && not (is_among c.edge named)) ≡ b
        → AreLone named (k + 1) courses (all_places (lone_teams named (k + 1) courses))
        → AreLone named k (c ∷ courses)
        (all_places (cond b ((record { places = k ∷ [] }) ∷ lone_teams named (k + 1) courses)
        (lone_teams named (k + 1) courses)))
    by_test true t rest = record {
      each = (
        first_lone named k c courses (is_new (moves c) (is_among c.edge named) t),
        all_of
            (IsLone named (k + 1) courses) (IsLone named k (c ∷ courses)) _ (later_lone named k c courses)
            rest.each,
      );
      apart = (
        all_of (IsLone named (k + 1) courses) (λ y. k ≢ y) _ (λ y l is. absurd (omega (arith, l.from, is)))
            rest.each,
        rest.apart,
      );
    }
    by_test false t rest = record {
      each = all_of (IsLone named (k + 1) courses) (IsLone named k (c ∷ courses)) _
          (later_lone named k c courses) rest.each;
      apart = rest.apart;
    }

all_among : (es all : List EdgeId) → ((e : EdgeId) → is_among e es ≡ true → is_among e all ≡ true)
    → AllByRecursion (λ e. is_among e all ≡ true) es
all_among [] all within = tt
all_among (e ∷ es) all within = (
  within e (ap (λ b. b || is_among e es) (eq-eqb e.0 e.0 refl)),
  all_among es all
      (λ d h. within d (either (is_same e d) (is_among d es) h)),
)
  where
    either : (a b : Bool) → b ≡ true → (a || b) ≡ true
    either true b h = refl
    either false b h = h

-- the places of all teams: those of the named edges, and after them those of single joints
pub joined_places : (lines : List TeamLine) (courses : List Course) (teams : List Team)
    → teams_of lines courses ≡ Ok teams → all_places teams
    ≡ filter_map (place_from 0 courses) (members lines) ++ all_places (lone_teams (members lines) 0 courses)
unfolding teams_of
joined_places lines courses teams h =
    let t = both (entries_from (λ i. team_of courses) 0 lines) _ teams h in
    let lones = lone_teams (members lines) 0 courses in
    let all = t.0 ++ lones in
    let few = unless (ltb MOST_TEAMS (length all)) (TooManyTeams (length all)) all teams t.2 in
    ap all_places few.1 ∙ flat_map-append (λ (m : Team). m.places) t.0 lones
    ∙ ap (λ (ns : List ℕ). ns ++ all_places lones) (told_places courses 0 lines t.0 t.1)

-- the teams that a job gives have no place twice
pub placed_teams : (lines : List TeamLine) (courses : List Course) (teams : List Team)
    → AllPairs ◌≢◌ (members lines) → teams_of lines courses ≡ Ok teams → AreTeamsOf (length courses) teams
unfolding teams_of
placed_teams lines courses teams pairs h =
    let t = both (entries_from (λ i. team_of courses) 0 lines) _ teams h in
    let all = t.0 ++ lone_teams (members lines) 0 courses in
    let few = unless (ltb MOST_TEAMS (length all)) (TooManyTeams (length all)) all teams t.2 in
    let f = place_from 0 courses in
    let lones = lone (members lines) 0 courses in
    let ks = all_places (lone_teams (members lines) 0 courses) in
    let named = all_among (members lines) (members lines) (λ e h. h) in
    let joined = joined_places lines courses teams h in
    let within = all_joined (λ k. k < length courses) (filter_map f (members lines)) ks
    (found (λ e. is_among e (members lines) ≡ true) (λ k. k < length courses) f (members lines)
    (λ e k among q. let r = placed 0 courses e k q in omega (arith, r.upto)) named)
    (all_of (IsLone (members lines) 0 courses) (λ k. k < length courses) ks (λ k l. omega (arith, l.upto))
    lones.each) in
    let differ = apart_joined (filter_map f (members lines)) ks
    (found_apart f (members lines) (one_place 0 courses) (apart_from_pairs (members lines) pairs)) lones.apart
    (found (λ e. is_among e (members lines) ≡ true) (λ k. AllByRecursion (λ y. k ≢ y) ks) f (members lines)
    (λ e k among q. all_of (IsLone (members lines) 0 courses) (λ y. k ≢ y) ks
    (λ y l is. l.alone e among (q ∙ ap (λ (n : ℕ). Some n) is)) lones.each) named) in
    record {
      few = rw few.1 (ltb-false MOST_TEAMS (length all) few.0);
      each = subst (All (λ k. k < length courses)) (sym joined)
          (All-from_recursion (λ k. k < length courses) _ within);
      apart = subst (AllPairs ◌≢◌) (sym joined) (pairs_from_apart _ differ);
    }
