-- A number that isn't below the count of the names is that count, and the name is new.
use Rattle.std.proofs.Common.{bytes_eq, length, ap, arith}
use Rattle.reg_arena.proofs.ListLemmas.Keys.{place-within}
use Rattle.reg_arena.proofs.arena.Arena.known.Goals as goal

pub returns-else-number-len : goal.returns-else-number-len
returns-else-number-len c =
    λ name place. omega (
      arith,
      place,
      place-within (bytes_eq name) c.args.self.now.names,
      c.if-number-len.false,
      c.len.ensures,
      ap (λ h. length h.names) c.self.view_is,
    )
