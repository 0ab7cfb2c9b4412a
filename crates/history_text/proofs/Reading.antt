-- What the definitions make of bytes once they have been read, or refused.
use Rattle.std.proofs.Common.{◌≡◌, List, ℕ, ◌≤◌, length, Bool, true, false}
use Rattle.std.proofs.Common.{Option, Some, None, Err, cond, refl, arith}
use Rattle.std.specs.Prelude.{nat_lt}
use Rattle.std.proofs.lemmas.Bool.Decides.{nat_tests}
use Rattle.std.specs.Str.{IsUtf8, is_utf8}
use Rattle.std.proofs.lemmas.Str.{IsUtf8-from_is_utf8, is_utf8-from_IsUtf8}
use Rattle.serde_json.specs.Data.{Data}
use Rattle.serde_json.specs.Read.{read}
use Rattle.history_text.specs.declared.event.Operations.{Operations}
use Rattle.history_text.specs.declared.fault.LineKind.TheVariants.{NotJson}
use Rattle.history_text.specs.Limits.{MAX_LINE}
use Rattle.history_text.specs.Reading.{json_of, event_of, line_form}

pub json_of-read : (bytes : List ℕ) (d : Data) → IsUtf8 bytes → read bytes ≡ Some d → json_of bytes ≡ Some d
unfolding json_of
json_of-read bytes d valid e = rw (is_utf8-from_IsUtf8 bytes valid) e

-- either way of a test
none_either : (b : Bool) (o : Option Data) → (b ≡ true → o ≡ None) → cond b o None ≡ None
none_either true o h = h refl
none_either false o h = refl

pub json_of-refused : (bytes : List ℕ) → (IsUtf8 bytes → read bytes ≡ None) → json_of bytes ≡ None
unfolding json_of
json_of-refused bytes h = none_either (is_utf8 bytes) (read bytes) (λ e. h (IsUtf8-from_is_utf8 bytes e))

-- the line is not too long
pub short : (bytes : List ℕ) → length bytes ≤ MAX_LINE → nat_lt MAX_LINE (length bytes) ≡ false
short bytes le = grind (arith, nat_tests)

pub line_form-read : (taken : Operations) (n : ℕ) (bytes : List ℕ) (d : Data) → length bytes ≤ MAX_LINE
    → json_of bytes ≡ Some d → line_form taken n bytes ≡ event_of taken n d
line_form-read taken n bytes d le e = rw (short bytes le, e) refl

pub line_form-refused : (taken : Operations) (n : ℕ) (bytes : List ℕ) → length bytes ≤ MAX_LINE
    → json_of bytes ≡ None → line_form taken n bytes ≡ Err NotJson
line_form-refused taken n bytes le e = rw (short bytes le, e) refl
