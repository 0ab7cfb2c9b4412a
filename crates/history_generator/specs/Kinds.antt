-- The name of each kind.
use Rattle.std.specs.Prelude.{ℕ, List, codes}
use Rattle.history_generator.specs.declared.kind.Kind.{Kind}
use Rattle.history_generator.specs.declared.kind.Kind.TheVariants.{Sequential, Atomic, Inversion, Stale, Lost}
use Rattle.history_generator.specs.declared.kind.Kind.TheVariants.{Pending, Failing, Crashing, Registers}
use Rattle.history_generator.specs.declared.kind.Kind.TheVariants.{Processes, Hot, HotReverse, Writes, Zones}

abbrev pub name_of : Kind → List ℕ
name_of Sequential = codes "sequential"
name_of Atomic = codes "atomic"
name_of Inversion = codes "inversion"
name_of Stale = codes "stale"
name_of Lost = codes "lost"
name_of Pending = codes "pending"
name_of Failing = codes "failing"
name_of Crashing = codes "crashing"
name_of Registers = codes "registers"
name_of Processes = codes "processes"
name_of Hot = codes "hot"
name_of HotReverse = codes "hot-reverse"
name_of Writes = codes "writes"
name_of Zones = codes "zones"
