-- What one pass over a register's calls keeps, and how a call changes it.
use Rattle.std.specs.Prelude.{ℕ, ◌||◌, cond, nat_lt, nat_le, List, [], ◌∷◌, ◌++◌}
use Rattle.std.specs.Prelude.{length, map, take, drop, Option, Some, None, unwrap_or}
use Rattle.history_model.specs.Operations.{writes}
use Rattle.history_model.specs.declared.ids.EvId.{EvId}
use Rattle.history_model.specs.declared.ids.RegId.{RegId}
use Rattle.history_model.specs.declared.ids.Oper.{Oper}
use Rattle.history_model.specs.declared.ids.Oper.TheVariants.{Initial, Called}
use Rattle.history_model.specs.declared.op.Op.{Op}
use Rattle.reg_lamport.specs.declared.gathering.ReadEntry.{ReadEntry}

-- the completed reads met, how many of them were called before the last write, that
-- write with its reply, and the one before it
pub record Gathered : Type 0 where
  pub entries : List ReadEntry
  pub settled : ℕ
  pub last : Oper
  pub last_reply : ℕ
  pub before_last : Oper

-- before the first call
abbrev pub nothing_met : RegId → Gathered
nothing_met r = record {
  entries = [];
  settled = 0;
  last = Initial r;
  last_reply = 1;
  before_last = Initial r;
}

-- a read after the call of a write at time t
abbrev pub settled : ℕ → ReadEntry → ReadEntry
settled t e = record e { is_overlapped = e.is_overlapped || nat_lt t e.reply }

-- after the call of a write
abbrev pub write_met : Gathered → EvId → ℕ → ℕ → Gathered
write_met g id call reply = record {
  entries = take g.settled g.entries ++ map (settled call) (drop g.settled g.entries);
  settled = length g.entries;
  last = Called id;
  last_reply = reply;
  before_last = g.last;
}

-- a read called now: the last write overlaps it unless it has replied
abbrev pub entry_of : Gathered → EvId → ℕ → ℕ → ReadEntry
entry_of g id call reply = record {
  read = id;
  reply = reply;
  old_write = cond (nat_le call g.last_reply) g.before_last g.last;
  is_overlapped = nat_le call g.last_reply;
}

-- after the call of a completed read
abbrev pub read_met : Gathered → EvId → ℕ → ℕ → Gathered
read_met g id call reply = record g { entries = g.entries ++ entry_of g id call reply ∷ [] }

-- after the call of a read, pending or not
abbrev pub any_read_met : Gathered → EvId → ℕ → Option ℕ → Gathered
any_read_met g id call None = g
any_read_met g id call (Some reply) = read_met g id call reply

-- after a call; a missing reply has the time `end`
abbrev pub call_met : ℕ → Gathered → EvId → Op → Gathered
call_met end g id op =
    cond (writes op.kind) (write_met g id op.call (unwrap_or op.reply end))
    (any_read_met g id op.call op.reply)
