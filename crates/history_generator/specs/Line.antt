-- The line of each event, as docs/format.md lays it out, with its line feed.
use Rattle.std.specs.Prelude.{ℕ, List, ◌++◌, Some, None, codes, decimal}
use Rattle.history_generator.specs.declared.event.Event.{Event}
use Rattle.history_generator.specs.declared.event.Event.TheVariants.{ReadCall, ReadReply, WriteCall}
use Rattle.history_generator.specs.declared.event.Event.TheVariants.{WriteReply, Fail, Crash}

abbrev pub line_of : Event → List ℕ
line_of (ReadCall process register) =
    codes "{\"process\":"
    ++ (decimal process
    ++ (codes ",\"event\":\"call\",\"op\":\"read\",\"register\":\"r"
    ++ (decimal register ++ codes "\"}\n")))
line_of (ReadReply process (Some write)) =
    codes "{\"process\":"
    ++ (decimal process ++ (codes ",\"event\":\"reply\",\"value\":" ++ (decimal write ++ codes "}\n")))
line_of (ReadReply process None) =
    codes "{\"process\":" ++ (decimal process ++ codes ",\"event\":\"reply\",\"value\":null}\n")
line_of (WriteCall process register write) =
    codes "{\"process\":"
    ++ (decimal process
    ++ (codes ",\"event\":\"call\",\"op\":\"write\",\"register\":\"r"
    ++ (decimal register ++ (codes "\",\"value\":" ++ (decimal write ++ codes "}\n")))))
line_of (WriteReply process) =
    codes "{\"process\":" ++ (decimal process ++ codes ",\"event\":\"reply\"}\n")
line_of (Fail process) =
    codes "{\"process\":" ++ (decimal process ++ codes ",\"event\":\"fail\"}\n")
line_of (Crash process) =
    codes "{\"process\":" ++ (decimal process ++ codes ",\"event\":\"crash\"}\n")
