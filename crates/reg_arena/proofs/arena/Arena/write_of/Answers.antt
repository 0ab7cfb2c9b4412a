use Rattle.std.proofs.Common.{Option, sym, subst, ◌∙◌, Some, None, option_map}
use Rattle.history_model.specs.History.{History, IsRecorded}
use Rattle.history_model.specs.OfValue.{IsWriteOf}
use Rattle.reg_arena.specs.Lists.EventLists.{IsKeptWrite}
use Rattle.history_model.specs.declared.ids.Oper.TheVariants.{Called, Initial}
use Rattle.history_model.specs.declared.ids.EvId.{EvId}
use Rattle.reg_arena.proofs.Mapped.{named-by}
use Rattle.reg_arena.proofs.OfValue.{write-is, write-none, write-initial}
use Rattle.reg_arena.proofs.Times.{null-int}
use Rattle.reg_arena.proofs.arena.Arena.write_of.Goals as goal

pub returns-in-Null : goal.returns-in-Null
returns-in-Null c =
    subst (λ v. IsWriteOf c.args.self.now c.args.register.0 v (Some (Initial c.args.register)))
    (sym c.in-Null.is)
    (write-initial c.args.self.now (subst IsRecorded c.self.view_is c.self.invariant.2) c.args.register
    c.requires)

pub returns-in-Int : goal.returns-in-Int
returns-in-Int c =
    subst (IsWriteOf c.args.self.now c.args.register.0 c.args.value)
    (sym (named-by c.write.result c.map.result c.map.ensures.cases)) (go c.write.result
    (subst (λ (h : History). IsKeptWrite h.events (c.args.register.0, c.args.value) c.write.result)
    c.self.view_is c.write.ensures))
  where
    rec : IsRecorded c.args.self.now
    rec = subst IsRecorded c.self.view_is c.self.invariant.2

    go : (o : Option EvId) → IsKeptWrite c.args.self.now.events (c.args.register.0, c.args.value) o
        → IsWriteOf c.args.self.now c.args.register.0 c.args.value (option_map Called o)
    go None kept =
        write-none c.args.self.now rec c.args.register.0 c.args.value
        (λ z. null-int _ (sym c.in-Int.is ∙ z)) kept
    go (Some id) kept = write-is c.args.self.now rec c.args.register.0 c.args.value id kept
