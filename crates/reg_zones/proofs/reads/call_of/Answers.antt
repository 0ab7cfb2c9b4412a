use Rattle.std.proofs.Common.{subst, arith}
use Rattle.std.proofs.lemmas.Option.{slice_get_within}
use Rattle.history_model.specs.Naming.{IsOper}
use Rattle.reg_zones.proofs.reads.call_of.Goals as goal

pub time-requires : goal.time-requires
time-requires c =
    let h = c.args.arena.now in
    let e = subst (IsOper h) c.in-Called.is c.requires in
    let within = slice_get_within h.events c.in-Called.id.0 e.0 e.1 in
    omega (arith, within, c.event_count-count.ensures.bound)
