-- Done is told only of a fixture that is made, and of one that is good, and else the cause is told.
use Rattle.std.proofs.Common.{◌≡◌, ℕ, List, inl, inr, refl, sym, ◌∙◌, ap, subst, Ok}
use Rattle.carton_fixture.specs.declared.answers.Verified.{Verified}
use Rattle.carton_fixture.specs.declared.answers.Verified.TheVariants.{PlanFails as PlanFailsOf, OtherStroke}
use Rattle.carton_fixture.specs.declared.answers.Verified.TheVariants.{NotCandidate, Touches, Unheld, Holds}
use Rattle.carton_setup.proofs.Outcomes.{passed, same_value}
use Rattle.carton_setup.specs.Outcomes.{Outcomes, ◌>>=◌, gives, values}
use Rattle.carton_setup.specs.Supplies.{supplies}
use Rattle.carton_setup.specs.declared.supply.Supply.{Supply}
use Rattle.carton_setup.specs.declared.told.Ending.{Ending}
use Rattle.carton_setup.specs.declared.told.Ending.TheVariants.{Done, Refused}
use Rattle.carton_setup.specs.declared.told.Told.{Told}
use Rattle.carton_fixture_commands.specs.Fixture.{IsMadeFor, told_fixture, tells_fixture, IsSpellingOfMade}
use Rattle.carton_fixture_commands.specs.Fixture.{IsTextOfRefusal}
use Rattle.carton_fixture_commands.specs.Verify.{claims, IsVerifiedFor, told_verified, tells_verify}
use Rattle.carton_fixture_commands.specs.Verify.{AreOfGood, IsTextOfFault}
use Rattle.carton_fixture_commands.specs.declared.fixture.MadeFixture.{MadeFixture}
use Rattle.carton_fixture_commands.specs.declared.fixture.MadeFixture.TheVariants.{Made, PlanFails, NotHeld}
use Rattle.carton_fixture_commands.specs.declared.verify.Claim.{Claim}

-- what is told is told of a value that was found for what was taken
pub told_of : {G X : Type 0} (taken : Outcomes G) (Is : G → X → Type 0) (tell : G → X → Told) (told : Told)
    → (taken >>= λ g. values (Is g) >>= λ x. gives (tell g x)) (Ok told)
    → (g : G) × (x : X) × taken (Ok g) × Is g x × (told ≡ tell g x)
told_of taken Is tell told h =
    let g = passed taken (λ g. values (Is g) >>= λ x. gives (tell g x)) told h in
    let x = passed (values (Is g.0)) (λ x. gives (tell g.0 x)) told g.2 in
    (g.0, x.0, g.1, x.1, same_value told (tell g.0 x.0) x.2)

-- so where it ends so, P holds of its text, if it does for each such value
of_found : {G X : Type 0} (taken : Outcomes G) (Is : G → X → Type 0) (tell : G → X → Told) (ending : Ending)
    (P : List ℕ → Type 0)
    → ((g : G) (x : X) → taken (Ok g) → Is g x → (tell g x).ending ≡ ending → P (tell g x).text)
    → (told : Told) → (taken >>= λ g. values (Is g) >>= λ x. gives (tell g x)) (Ok told)
    → told.ending ≡ ending → P told.text
of_found taken Is tell ending P each told h ended =
    let t = told_of taken Is tell told h in
    subst P (sym (ap (λ (t : Told). t.text) t.4))
    (each t.0 t.1 t.2 t.3 (sym (ap (λ (t : Told). t.ending) t.4) ∙ ended))

of_made : (files : List (List ℕ)) (ending : Ending) (P : List ℕ → Type 0)
    → ((s : Supply) (made : MadeFixture) → supplies files (Ok s) → IsMadeFor s made
    → (told_fixture s.setup.task.stride made).ending ≡ ending
    → P (told_fixture s.setup.task.stride made).text)
    → (told : Told) → tells_fixture files (Ok told) → told.ending ≡ ending → P told.text
of_made files = of_found (supplies files) IsMadeFor (λ s. told_fixture s.setup.task.stride)

of_verified : (files : List (List ℕ)) (ending : Ending) (P : List ℕ → Type 0)
    → ((c : Claim) (verified : Verified) → claims files (Ok c) → IsVerifiedFor c verified
    → (told_verified c.supply.setup.task.stride verified).ending ≡ ending
    → P (told_verified c.supply.setup.task.stride verified).text)
    → (told : Told) → tells_verify files (Ok told) → told.ending ≡ ending → P told.text
of_verified files = of_found (claims files) IsVerifiedFor (λ c. told_verified c.supply.setup.task.stride)

by_made : (files : List (List ℕ)) (s : Supply) (made : MadeFixture) → supplies files (Ok s) → IsMadeFor s made
    → (told_fixture s.setup.task.stride made).ending ≡ Done
    → IsSpellingOfMade files (told_fixture s.setup.task.stride made).text
by_made files s (Made f) of_bytes is done = (s, f, of_bytes, is, refl)
by_made files s (PlanFails checked) of_bytes is done = absurd (cc)
by_made files s (NotHeld bodies unheld) of_bytes is done = absurd (cc)

pub made_where_done : (files : List (List ℕ)) (told : Told) → tells_fixture files (Ok told)
    → told.ending ≡ Done → IsSpellingOfMade files told.text
made_where_done files = of_made files Done (IsSpellingOfMade files) (by_made files)

by_refusal : (files : List (List ℕ)) (s : Supply) (made : MadeFixture) → supplies files (Ok s)
    → IsMadeFor s made → (told_fixture s.setup.task.stride made).ending ≡ Refused
    → IsTextOfRefusal files (told_fixture s.setup.task.stride made).text
by_refusal files s (Made f) of_bytes is refused = absurd (cc)
by_refusal files s (PlanFails checked) of_bytes is refused = (s, of_bytes, inl (checked, is, refl))
by_refusal files s (NotHeld bodies unheld) of_bytes is refused = (s, of_bytes, inr (bodies, unheld, is, refl))

pub cause_where_refused : (files : List (List ℕ)) (told : Told) → tells_fixture files (Ok told)
    → told.ending ≡ Refused → IsTextOfRefusal files told.text
cause_where_refused files = of_made files Refused (IsTextOfRefusal files) (by_refusal files)

by_verified : (files : List (List ℕ)) (c : Claim) (verified : Verified) → claims files (Ok c)
    → IsVerifiedFor c verified → (told_verified c.supply.setup.task.stride verified).ending ≡ Done
    → AreOfGood files
by_verified files c (Holds bodies) of_bytes is done = (c, of_bytes, is.0)
by_verified files c (PlanFailsOf checked) of_bytes is done = absurd (cc)
by_verified files c OtherStroke of_bytes is done = absurd (cc)
by_verified files c (NotCandidate place) of_bytes is done = absurd (cc)
by_verified files c (Touches id panel step m) of_bytes is done = absurd (cc)
by_verified files c (Unheld u) of_bytes is done = absurd (cc)

pub good_where_done : (files : List (List ℕ)) (told : Told) → tells_verify files (Ok told)
    → told.ending ≡ Done → AreOfGood files
good_where_done files = of_verified files Done (λ text. AreOfGood files) (by_verified files)

by_fault : (files : List (List ℕ)) (c : Claim) (fault : Verified) → claims files (Ok c)
    → IsVerifiedFor c fault → (told_verified c.supply.setup.task.stride fault).ending ≡ Refused
    → IsTextOfFault files (told_verified c.supply.setup.task.stride fault).text
by_fault files c (Holds bodies) of_bytes is refused = absurd (cc)
by_fault files c (PlanFailsOf checked) of_bytes is refused =
    (c, PlanFailsOf checked, of_bytes, tt, is, refl)
by_fault files c OtherStroke of_bytes is refused = (c, OtherStroke, of_bytes, tt, is, refl)
by_fault files c (NotCandidate place) of_bytes is refused = (c, NotCandidate place, of_bytes, tt, is, refl)
by_fault files c (Touches id panel step m) of_bytes is refused =
    (c, Touches id panel step m, of_bytes, tt, is, refl)
by_fault files c (Unheld u) of_bytes is refused = (c, Unheld u, of_bytes, tt, is, refl)

pub fault_where_refused : (files : List (List ℕ)) (told : Told) → tells_verify files (Ok told)
    → told.ending ≡ Refused → IsTextOfFault files told.text
fault_where_refused files = of_verified files Refused (IsTextOfFault files) (by_fault files)
