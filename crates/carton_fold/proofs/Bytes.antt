-- When bytes are a JSON value.
use Rattle.std.proofs.Common.{◌≡◌, ℕ, List, Bool, true, false, cond, Ok, Err, Some, None, refl, ap, ◌∙◌}
use Rattle.std.proofs.Common.{ok_or}
use Rattle.std.specs.Str.{IsUtf8, is_utf8}
use Rattle.std.proofs.lemmas.Str.{IsUtf8-from_is_utf8, is_utf8-from_IsUtf8}
use Rattle.serde_json.specs.Data.{Data}
use Rattle.serde_json.specs.Read.{read}
use Rattle.carton_fold.specs.declared.error.FoldError.TheVariants.{NotJson}
use Rattle.carton_fold.specs.Values.{value_in}

pub reads : (bytes : List ℕ) (d : Data) → IsUtf8 bytes → read bytes ≡ Some d → value_in bytes ≡ Ok d
unfolding value_in
reads bytes d u r = ap (λ b. ok_or (cond b (read bytes) None) NotJson) (is_utf8-from_IsUtf8 bytes u)
    ∙ ap (λ o. ok_or o NotJson) r

pub refuses : (bytes : List ℕ) → (IsUtf8 bytes → read bytes ≡ None) → value_in bytes ≡ Err NotJson
unfolding value_in
refuses bytes h = by_test (is_utf8 bytes) refl
  where
    by_test : (b : Bool) → is_utf8 bytes ≡ b → ok_or (cond b (read bytes) None) NotJson ≡ Err NotJson
    by_test true e = ap (λ o. ok_or o NotJson) (h (IsUtf8-from_is_utf8 bytes e))
    by_test false e = refl
