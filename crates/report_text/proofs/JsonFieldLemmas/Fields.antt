-- Fields that are sent one after another make an object, which has no float if none of them has.
use Rattle.std.proofs.Common.{◌≡◌, ℕ, ◌+◌, List, [], ◌∷◌, ◌++◌, length, map, Bool, true, false, Option}
use Rattle.std.proofs.Common.{Some, None, refl, sym, ◌∙◌, ap, subst, arith, length-append}
use Rattle.std.specs.Prelude.{is_some, if◌then◌else◌}
use Rattle.std.proofs.lemmas.Bool.{or_from, or_parts}
use Rattle.serde.specs.Event.{Log, Logs, map_begins, map_ends}
use Rattle.serde_json.specs.Data.{Data}
use Rattle.serde_json.specs.Events.{SendsValue, SendsMembers, members_len, items_len}
use Rattle.serde_json.specs.Written.{has_float, members_have_float}
use Rattle.report_text.specs.JsonFields.Fields.{Field, fields_of, members_of, items_of, number_json}
use Rattle.report_text.specs.JsonFields.Fields.{numbers_json, object_json, pair_json, yes_or_no, always}
use Rattle.report_text.specs.JsonFields.Fields.{shown}
use Rattle.report_text.specs.JsonFields.Sends.{SendsFields, SendsParts}

sends_append : (xs ys : List Field) (old mid new : Log) → SendsFields xs old mid → SendsFields ys mid new
    → SendsFields (xs ++ ys) old new
sends_append [] ys old mid new e h = subst (λ l. SendsFields ys l new) e h
sends_append (x ∷ xs) ys old mid new h k = (h.0, h.1, h.2, h.3, sends_append xs ys h.1 mid new h.4 k)

pub sends_parts : (ps : List (List Field)) (old new : Log) → SendsParts ps old new
    → SendsFields (fields_of ps) old new
sends_parts [] old new e = e
sends_parts (p ∷ ps) old new h = sends_append p (fields_of ps) old h.0 new h.1 (sends_parts ps h.0 new h.2)

sends_members : (fs : List Field) (old mid new : Log) → SendsFields fs old mid → Logs mid new map_ends
    → SendsMembers (members_of fs) old new
sends_members [] old mid new e h = subst (λ l. Logs l new map_ends) e h
sends_members (f ∷ fs) old mid new h k = (h.0, h.1, h.2, h.3, sends_members fs h.1 mid new h.4 k)

members_len-members_of : (fs : List Field) → members_len (members_of fs) ≡ length fs
members_len-members_of [] = refl
members_len-members_of (f ∷ fs) = let e = members_len-members_of fs in grind arith

-- a map that was opened, given its parts, and closed
pub sends_object : (ps : List (List Field)) (n : ℕ) (old first mid new : Log) → n ≡ length (fields_of ps)
    → Logs old first (map_begins (Some n)) → SendsParts ps first mid → Logs mid new map_ends
    → SendsValue (object_json ps) old new
sends_object ps n old first mid new count begun sent ended = (
  first,
  subst (λ k. Logs old first (map_begins (Some k))) (count
      ∙ sym (members_len-members_of (fields_of ps))) begun,
  sends_members (fields_of ps) first mid new (sends_parts ps first mid sent) ended,
)

pub items_len-numbers : (ns : List ℕ) → items_len (items_of (map number_json ns)) ≡ length ns
items_len-numbers [] = refl
items_len-numbers (n ∷ ns) = let e = items_len-numbers ns in grind arith

-- ---- how many fields there are

unfoldable pub parts_len : List (List Field) → ℕ
parts_len [] = 0
parts_len (p ∷ ps) = length p + parts_len ps

pub length-fields_of : (ps : List (List Field)) → length (fields_of ps) ≡ parts_len ps
unfolding parts_len
length-fields_of [] = refl
length-fields_of (p ∷ ps) = length-append p (fields_of ps) ∙ ap (λ n. length p + n) (length-fields_of ps)

pub shown_len : {A : Type 0} (key : List ℕ) (json : A → Data) (o : Option A)
    → length (shown key json o) ≡ (if is_some o then 1 else 0)
shown_len key json None = refl
shown_len key json (Some x) = refl

abbrev pub one_when : Bool → ℕ
one_when b = if b then 1 else 0

pub one_of : {A : Type 0} (o : Option A) (b : Bool) (n : ℕ) → b ≡ is_some o → n ≡ one_when b
    → n ≡ one_when (is_some o)
one_of o b n e h = h ∙ ap one_when e

-- ---- no floats

pub ArePlain : List Field → Type 0
ArePlain fs = members_have_float (members_of fs) ≡ false

plain_append : (xs ys : List Field) → ArePlain xs → ArePlain ys → ArePlain (xs ++ ys)
unfolding ArePlain
plain_append [] ys a b = b
plain_append (x ∷ xs) ys a b =
    let parts =
    or_parts (has_float x.1) (members_have_float (members_of xs)) a in
    or_from (has_float x.1) (members_have_float (members_of (xs ++ ys))) parts.0
    (plain_append xs ys parts.1 b)

abbrev pub AllPlain : List (List Field) → Type 0
AllPlain [] = Unit {0}
AllPlain (p ∷ ps) = ArePlain p × AllPlain ps

pub plain_fields : (ps : List (List Field)) → AllPlain ps → ArePlain (fields_of ps)
unfolding ArePlain
plain_fields [] h = refl
plain_fields (p ∷ ps) h = plain_append p (fields_of ps) h.0 (plain_fields ps h.1)

pub plain_parts : (ps : List (List Field)) → AllPlain ps → has_float (object_json ps) ≡ false
unfolding ArePlain
plain_parts ps h = plain_fields ps h

pub plain_always : (key : List ℕ) (d : Data) → has_float d ≡ false → ArePlain (always key d)
unfolding ArePlain
plain_always key d h = or_from (has_float d) false h refl

pub plain_shown : {A : Type 0} (key : List ℕ) (json : A → Data) (o : Option A)
    → ((x : A) → has_float (json x) ≡ false) → ArePlain (shown key json o)
unfolding ArePlain
plain_shown key json None h = refl
plain_shown key json (Some x) h = or_from (has_float (json x)) false (h x) refl

pub plain_numbers : (ns : List ℕ) → has_float (numbers_json ns) ≡ false
plain_numbers [] = refl
plain_numbers (n ∷ ns) = plain_numbers ns

pub plain_pair : (p : ℕ × ℕ) → has_float (pair_json p) ≡ false
plain_pair p = plain_numbers (p.0 ∷ p.1 ∷ [])

pub plain_number : (n : ℕ) → has_float (number_json n) ≡ false
plain_number n = refl

pub plain_yes : (b : Bool) → has_float (yes_or_no b) ≡ false
plain_yes true = refl
plain_yes false = refl
