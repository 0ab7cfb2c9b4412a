-- The fields of a JSON object (RFC 8259), and a line of compact JSON.
use Rattle.std.specs.Prelude.{ℕ, codes, List, [], ◌∷◌, ◌++◌, map, Bool, true, false, Option, Some, None}
use Rattle.serde_json.specs.Data.{Data, number, unsigned, string, array, object, Items}
use Rattle.serde_json.specs.Data.{no_items, item, Members, no_members, member}
use Rattle.serde_json.specs.Written.{compact_text}

-- a key and its value
abbrev pub Field : Type 0
Field = List ℕ × Data

-- an object of fields, in this order
abbrev pub members_of : List Field → Members
members_of [] = no_members
members_of (f ∷ fs) = member f.0 f.1 (members_of fs)

abbrev pub items_of : List Data → Items
items_of [] = no_items
items_of (d ∷ ds) = item d (items_of ds)

abbrev pub number_json : ℕ → Data
number_json n = number (unsigned n)

abbrev pub numbers_json : List ℕ → Data
numbers_json ns = array (items_of (map number_json ns))

abbrev pub pair_json : ℕ × ℕ → Data
pair_json p = numbers_json (p.0 ∷ p.1 ∷ [])

abbrev pub yes_or_no : Bool → Data
yes_or_no true = string (codes "yes")
yes_or_no false = string (codes "no")

-- a key that is always there, and one that is there with a value
abbrev pub always : List ℕ → Data → List Field
always key d = (key, d) ∷ []

abbrev pub shown : {A : Type 0} → List ℕ → (A → Data) → Option A → List Field
shown key json None = []
shown key json (Some x) = always key (json x)

-- parts of an object, one after another
abbrev pub fields_of : List (List Field) → List Field
fields_of [] = []
fields_of (p ∷ ps) = p ++ fields_of ps

abbrev pub object_json : List (List Field) → Data
object_json parts = object (members_of (fields_of parts))

-- a value's compact text, and a line feed
abbrev pub line_text : Data → List ℕ
line_text d = compact_text d ++ 10 ∷ []
