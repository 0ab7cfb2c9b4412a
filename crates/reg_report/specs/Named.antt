-- The operations that a fault names are there.
use Rattle.history_model.specs.History.{History}
use Rattle.history_model.specs.Naming.{IsOper}
use Rattle.history_model.specs.declared.ids.Oper.{Oper}
use Rattle.reg_zones.specs.declared.fault.Fault.{Fault}
use Rattle.reg_zones.specs.declared.fault.Fault.TheVariants.{Unwritten, Early, Zones}

abbrev pub AreOpers : History → (Oper × Oper) → Type 0
AreOpers h names = IsOper h names.0 × IsOper h names.1

-- each operation that the fault names is one of the history
abbrev pub HasOpers : History → Fault → Type 0
HasOpers h (Unwritten read) = IsOper h read
HasOpers h (Early read write) = IsOper h read × IsOper h write
HasOpers h (Zones writes first second) = AreOpers h writes × AreOpers h first × AreOpers h second
