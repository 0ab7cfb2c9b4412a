use Rattle.std.proofs.Common.{rules}
use Rattle.reg_zones.specs.declared.entry.Entry.{Entry}
use Rattle.reg_zones.proofs.Ranked.{from_sort}
use Rattle.reg_zones.proofs.canonical.rank.Goals as goal

pub returns-clause-ascending : goal.returns-clause-ascending
returns-clause-ascending c =
    from_sort (λ (x : Entry). x.low) (λ (x : Entry). x.turn) c.args.entries.now.items
    c.sort_unstable_by_key.new.self.items c.sort_unstable_by_key.ensures.sorted (λ a r q k.
    search rules) c.sort_unstable_by_key.ensures.permutation c.requires
