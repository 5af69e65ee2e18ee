-- The bytes of a dieline, a job, a plan and a catalogue determine by which rule one of them is refused.
use Rattle.std.proofs.Common.{◌≡◌, ℕ, List, sym, ap, subst, refl, Result, Ok, Err}
use Rattle.carton_base.proofs.Steps.{same_ok}
use Rattle.carton_catalogue.proofs.OneFit.{one_refusal, not_refused}
use Rattle.carton_catalogue.proofs.SameFit.{refusal_too}
use Rattle.carton_catalogue.specs.Catalogues.{catalogue_of}
use Rattle.carton_catalogue.specs.Fits.{IsFit, IsRefusal}
use Rattle.carton_catalogue.specs.declared.catalogue.Catalogue.{Catalogue}
use Rattle.carton_catalogue.specs.declared.catalogue_error.CatalogueError.TheVariants.{Memory}
use Rattle.carton_catalogue.specs.declared.fit_error.FitError.{FitError}
use Rattle.carton_text.specs.PlainPlans.{plain}
use Rattle.carton_text.specs.Tasks.{Outline}
use Rattle.carton_text.specs.declared.plan.Plan.{Plan}
use Rattle.carton_words.specs.declared.kinds.FileKind.TheVariants.{Catalogue as CatalogueFile}
use Rattle.carton_setup.specs.Files.{file_at}
use Rattle.carton_setup.specs.Outcomes.{Outcomes, ◌>>=◌, gives, results, Exclude}
use Rattle.carton_setup.specs.Rules.{catalogue_rule, guides_rule}
use Rattle.carton_setup.specs.Supplies.{catalogues, fitted, supplies}
use Rattle.carton_setup.specs.declared.proposal.Proposal.{Proposal}
use Rattle.carton_setup.specs.declared.setup.Setup.{Setup}
use Rattle.carton_setup.specs.declared.supply.Supply.{Supply}
use Rattle.carton_setup.proofs.OneSetup.{AreAlike, excludes_after_proposal}
use Rattle.carton_setup.proofs.Outcomes.{excludes_after, excludes_results, excludes_reads, excludes_given}
use Rattle.carton_setup.proofs.Outcomes.{Forces, err_of}

-- a rule that a catalogue breaks with one setup and plan it breaks with alike ones, and no other
forces_fit : (s u : Setup) (p q : Plan) (c : Catalogue) → AreAlike s u → plain p ≡ plain q
    → Forces {X = Unit {0}} guides_rule (IsFit s.carton s.task p c) (IsFit u.carton u.task q c)
forces_fit s u p q c alike same e r ruled is told other =
    let tasks : s.task.creases ≡ u.task.creases = ap (λ (o : Outline). o.creases) alike.outline in
    by_result r (refusal_too s.carton u.carton s.task u.task p q c e alike.same alike.whole tasks same is)
    other
  where
    by_result : (r : Result (Unit {0}) FitError) → IsRefusal u.carton u.task q c e
        → IsFit u.carton u.task q c r → r ≡ Err e
    by_result (Ok x) over fits = absurd (not_refused u.carton u.task q c e fits over)
    by_result (Err f) over refused =
        ap (λ (x : FitError). err_of (Unit {0}) x) (one_refusal u.carton u.task q c f e refused over)

alike_back : (s u : Setup) → AreAlike s u → AreAlike u s
alike_back s u alike = record {
  creases = sym alike.creases;
  outline = sym alike.outline;
  same = alike.back;
  back = alike.same;
  whole = alike.whole_too;
  whole_too = alike.whole;
}

excludes_fitted : (s u : Setup) (p q : Plan) (c : Catalogue) → AreAlike s u → plain p ≡ plain q
    → Exclude (fitted s p c) (fitted u q c)
excludes_fitted s u p q c alike same =
    let P = results {X = Unit {0}} CatalogueFile guides_rule (IsFit s.carton s.task p c) in
    let Q = results {X = Unit {0}} CatalogueFile guides_rule (IsFit u.carton u.task q c) in
    let first : Supply = record { setup = s; plan = p; catalogue = c } in
    let second : Supply = record { setup = u; plan = q; catalogue = c } in
    excludes_after P Q (λ fits. gives first) (λ fits. gives second)
    (excludes_results CatalogueFile guides_rule (IsFit s.carton s.task p c) (IsFit u.carton u.task q c)
    (forces_fit s u p q c alike same) (forces_fit u s q p c (alike_back s u alike) (sym same)))
    (λ x y h k. excludes_given first second)

-- what is left to be done after the plan
abbrev pub after_proposal : List (List ℕ) → Proposal → Outcomes Supply
after_proposal files p = catalogues files >>= fitted p.setup p.plan

excludes_after_both : (files : List (List ℕ)) (s u : Setup) (p q : Plan) → AreAlike s u → plain p ≡ plain q
    → Exclude (catalogues files >>= fitted s p) (catalogues files >>= fitted u q)
excludes_after_both files s u p q alike same =
    excludes_after (catalogues files) (catalogues files) (fitted s p) (fitted u q)
    (excludes_reads CatalogueFile catalogue_rule Memory (λ c. c) (catalogue_of (file_at 3 files)) refl)
    (λ c c' h k. subst (λ x. Exclude (fitted s p c) (fitted u q x))
    (same_ok c c' (catalogue_of (file_at 3 files)) h k) (excludes_fitted s u p q c alike same))

-- where one of the four files is refused, nothing else is allowed
pub excludes_supplies : (files : List (List ℕ)) → Exclude (supplies files) (supplies files)
excludes_supplies files =
    excludes_after_proposal files (after_proposal files) (after_proposal files)
    (λ p q alike same. excludes_after_both files p.setup q.setup p.plan q.plan alike same)
