-- The bytes of a dieline's file and the margin determine what `flat` tells.
use Rattle.std.proofs.Common.{◌≡◌, ℕ, inl, inr, List, length, arith, sym, ◌∙◌, subst, refl, ap, Result, Ok}
use Rattle.std.proofs.Common.{Err}
use Rattle.carton_base.specs.declared.dieline.RawDieline.{RawDieline}
use Rattle.carton_fold.specs.Dieline.{dieline_of}
use Rattle.carton_fold.specs.declared.error.FoldError.TheVariants.{Memory as NoMemoryForDieline}
use Rattle.carton_panels.specs.declared.error.PanelError.{PanelError}
use Rattle.carton_panels.specs.declared.error.PanelError.TheVariants.{Memory}
use Rattle.carton_setup.specs.Files.{file_at}
use Rattle.carton_setup.specs.Outcomes.{Outcomes, ◌>>=◌, gives, Exclude}
use Rattle.carton_setup.specs.Rules.{fold_rule, panel_rule}
use Rattle.carton_setup.specs.Setups.{dielines}
use Rattle.carton_setup.specs.declared.refusal.BadFile.{BadFile}
use Rattle.carton_setup.specs.declared.told.Told.{Told}
use Rattle.carton_setup.proofs.OneSetup.{one_dieline}
use Rattle.carton_setup.proofs.Outcomes.{passed, excludes_after, excludes_results, excludes_reads}
use Rattle.carton_setup.proofs.Outcomes.{excludes_given, same_value, IsRuled, Forces, err_of, ok_of}
use Rattle.carton_tree.proofs.OneRefusal.{sooner_cases}
use Rattle.carton_tree.proofs.Ordered.{IsStrict, one_list}
use Rattle.carton_tree.proofs.RefusedFaces.{same_panel, none_refused, one_first_refused}
use Rattle.carton_words.specs.declared.kinds.FileKind.TheVariants.{Dieline}
use Rattle.carton_plan_commands.specs.Flat.{AreJudged, IsBefore, IsAllPairs, IsVerdict, IsJudged, verdicts}
use Rattle.carton_plan_commands.specs.Flat.{told_verdict, tells_flat}
use Rattle.carton_plan_commands.specs.declared.flat.FlatVerdict.{FlatVerdict}
use Rattle.carton_plan_commands.specs.declared.flat.FlatVerdict.TheVariants.{Clear, Blocked}

-- no two pairs are before each other
not_both : IsStrict IsBefore
not_both p q h k = elim h [
  | inl a ↦ elim k [ inl b ↦ omega (arith, a, b) | inr b ↦ omega (arith, a, b.0) ]
  | inr a ↦ elim k [ inl b ↦ omega (arith, a.0, b) | inr b ↦ omega (arith, a.1, b.1) ]
]

-- the number of pairs is one
one_count : (d : RawDieline) (ps qs : List (ℕ × ℕ)) → IsAllPairs d ps → IsAllPairs d qs
    → length ps ≡ length qs
one_count d ps qs h k =
    ap (λ (l : List (ℕ × ℕ)). length l) (one_list IsBefore ps qs not_both h.ordered k.ordered
    (λ p has. k.whole p.0 p.1 (subst (λ q. AreJudged d q.0 q.1) has.2 (h.judged has.0 p has.1)))
    (λ p has. h.whole p.0 p.1 (subst (λ q. AreJudged d q.0 q.1) has.2 (k.judged has.0 p has.1))))

-- the verdict on a dieline is one
one_verdict : (m : ℕ) (d : RawDieline) (a b : FlatVerdict) → IsVerdict m d a → IsVerdict m d b → a ≡ b
one_verdict m d (Clear n) (Clear o) h k =
    ap (λ (x : ℕ). Clear x) (h.1.2 ∙ one_count d h.1.0 k.1.0 h.1.1 k.1.1 ∙ sym k.1.2)
one_verdict m d (Clear n) (Blocked p q) h k = absurd (k.1 (h.0 p.0 q.0 k.0))
one_verdict m d (Blocked p q) (Clear o) h k = absurd (h.1 (k.0 p.0 q.0 h.0))
one_verdict m d (Blocked p q) (Blocked r s) h k = elim (sooner_cases p.0 q.0 r.0 s.0) [
  | inl same ↦ (λ i. Blocked (same_panel p r same.0 i) (same_panel q s same.1 i))
  | inr other ↦ elim other [
    | inl before ↦ absurd (h.1 (k.2 p.0 q.0 before h.0))
    | inr after ↦ absurd (k.1 (h.2 r.0 s.0 after k.0))
  ]
]

not_memory : (e : PanelError) → IsRuled {X = FlatVerdict} panel_rule (Err e) → ¬ (e ≡ Memory)
not_memory e ruled = λ is. let same = ap panel_rule is in let some = ruled.1 in cc

forces_judged : (m : ℕ) (d : RawDieline) → Forces panel_rule (IsJudged m d) (IsJudged m d)
forces_judged m d e (Ok verdict) ruled is told other =
    absurd (none_refused m d e other.0 (is (not_memory e ruled)))
forces_judged m d e (Err f) ruled is told other =
    ap (λ (x : PanelError). err_of FlatVerdict x)
    (one_first_refused m d f e (other (not_memory f told)) (is (not_memory e ruled)))

-- what is left to be done after the dieline
abbrev pub after_dieline : ℕ → RawDieline → Outcomes Told
after_dieline m d = verdicts m d >>= λ verdict. gives (told_verdict verdict)

excludes_after_dieline : (m : ℕ) (d : RawDieline) → Exclude (after_dieline m d) (after_dieline m d)
excludes_after_dieline m d =
    excludes_after (verdicts m d) (verdicts m d) (λ v. gives (told_verdict v)) (λ v. gives (told_verdict v))
    (excludes_results Dieline panel_rule (IsJudged m d) (IsJudged m d) (forces_judged m d)
    (forces_judged m d))
    (λ v w h k. excludes_given (told_verdict v) (told_verdict w))

-- where the dieline is refused, nothing else is allowed
pub excludes_flat : (m : ℕ) (files : List (List ℕ)) → Exclude (tells_flat m files) (tells_flat m files)
excludes_flat m files =
    excludes_after (dielines files) (dielines files) (after_dieline m) (after_dieline m)
    (excludes_reads Dieline fold_rule NoMemoryForDieline (λ d. d) (dieline_of (file_at 0 files)) refl)
    (λ d e h k. subst (λ x. Exclude (after_dieline m d) (after_dieline m x)) (one_dieline files d e h k)
    (excludes_after_dieline m d))

same_told : (m : ℕ) (d e : RawDieline) (v w : FlatVerdict) (a b : Told) → d ≡ e → IsVerdict m d v
    → IsVerdict m e w → ok_of a ≡ ok_of (told_verdict v) → ok_of b ≡ ok_of (told_verdict w) → a ≡ b
same_told m d e v w a b same h k first second =
    same_value a (told_verdict v) first
    ∙ ap told_verdict (one_verdict m e v w (subst (λ x. IsVerdict m x v) same h) k)
    ∙ sym (same_value b (told_verdict w) second)

-- what is told is one
pub one_flat : (m : ℕ) (files : List (List ℕ)) (a b : Result Told BadFile) → tells_flat m files a
    → tells_flat m files b → a ≡ b
one_flat m files (Err bad) b h k = sym ((excludes_flat m files).first bad b h k)
one_flat m files (Ok a) (Err bad) h k = (excludes_flat m files).first bad (Ok a) k h
one_flat m files (Ok a) (Ok b) h k =
    let d = passed (dielines files) (after_dieline m) a h in
    let e = passed (dielines files) (after_dieline m) b k in
    let v = passed (verdicts m d.0) (λ v. gives (told_verdict v)) a d.2 in
    let w = passed (verdicts m e.0) (λ v. gives (told_verdict v)) b e.2 in
    ap (λ (x : Told). Ok x) (same_told m d.0 e.0 v.0 w.0 a b (one_dieline files d.0 e.0 d.1 e.1) v.1.1 w.1.1
    v.2 w.2)
