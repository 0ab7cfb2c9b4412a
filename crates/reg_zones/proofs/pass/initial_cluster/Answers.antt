use Rattle.std.proofs.Common.{refl, inl}
use Rattle.history_model.specs.Operations.{operations, initial_write}
use Rattle.reg_zones.proofs.Known.{facts}
use Rattle.reg_zones.proofs.pass.initial_cluster.Goals as goal
use Rattle.history_model.proofs.Recorded.{of_register-In}

pub zone_of-zone-requires : goal.zone_of-zone-requires
zone_of-zone-requires c =
    let r = c.args.register.id.0 in
    let i = (facts c.args.register).initial in (
      initial_write r,
      record {
        one = (of_register-In r (operations c.args.register.arena.now) (initial_write r) i).0;
        named = refl;
      },
      record { within = i; write = refl; kept = inl refl },
    )

pub returns : goal.returns
returns c =
    let r = c.args.register.id.0 in
    let i = (facts c.args.register).initial in
    record {
      kept = record { within = i; write = refl; kept = inl refl };
      write = refl;
      zone = c.zone_of-zone.ensures (initial_write r) (record {
        one = (of_register-In r (operations c.args.register.arena.now) (initial_write r) i).0;
        named = refl;
      });
    }
