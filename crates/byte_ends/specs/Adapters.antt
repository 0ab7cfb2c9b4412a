-- What a source over a reader and a sink over a writer are made of.
use Rattle.byte_ends.specs.declared.adapters.FromReader.{FromReader}
use Rattle.byte_ends.specs.declared.adapters.FromWriter.{FromWriter}

-- the source over this reader that hasn't failed
abbrev pub source_over : {R : Type 0} → R → FromReader R
source_over reader = record { inner = reader; failures = 0 }

-- the sink over this writer that hasn't failed
abbrev pub sink_over : {W : Type 0} → W → FromWriter W
sink_over writer = record { inner = writer; failures = 0 }
