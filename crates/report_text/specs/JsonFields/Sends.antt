-- What is sent to a serializer for some fields of an object that is open.
use Rattle.std.specs.Prelude.{◌≡◌, List, [], ◌∷◌}
use Rattle.serde.specs.Event.{Log, Logs, field_key}
use Rattle.serde.specs.declared.name.Case.TheVariants.{AsIs}
use Rattle.serde_json.specs.Events.{SendsValue}
use Rattle.report_text.specs.JsonFields.Fields.{Field}

abbrev pub SendsFields : List Field → Log → Log → Type 0
SendsFields [] old new = new ≡ old
SendsFields (f ∷ fs) old new =
    (named mid : Log) × Logs old named (field_key f.0 AsIs) × SendsValue f.1 named mid
    × SendsFields fs mid new

-- the same for parts, one after another
abbrev pub SendsParts : List (List Field) → Log → Log → Type 0
SendsParts [] old new = new ≡ old
SendsParts (p ∷ ps) old new = (mid : Log) × SendsFields p old mid × SendsParts ps mid new
