-- What the name of a register is as bytes.
use Rattle.std.specs.Prelude.{ℕ, List, string_bytes}
use Rattle.history_text.specs.declared.name.Text.{Text}
use Rattle.history_text.specs.declared.name.Text.TheVariants.{Short, Long}

-- the UTF-8 bytes of a text, wherever they lie
abbrev pub bytes_of : Text → List ℕ
bytes_of (Short text) = text.bytes
bytes_of (Long text) = string_bytes text
