-- A cas without a reply that is taken for a write.
use Rattle.std.specs.Prelude.{cond, nat_lt}
use Rattle.configurations.specs.declared.op.Op.{Op}
use Rattle.configurations.specs.declared.op.Kind.{Kind}
use Rattle.configurations.specs.declared.op.Kind.TheVariants.{Read, Write, Cas, CasUnless, Miss}
use Rattle.configurations.specs.declared.op.TheConstants.{NEVER}

-- a write of what the operation gives
abbrev pub written : Op → Op
written o = record { kind = Write; from = o.to; to = o.to; rank = o.rank }

abbrev pub ease_kind : Kind → Op → Op
ease_kind Read o = o
ease_kind Write o = o
ease_kind Cas o = cond (nat_lt o.rank NEVER) o (written o)
ease_kind CasUnless o = cond (nat_lt o.rank NEVER) o (written o)
ease_kind Miss o = o

-- the operation, but that it is a write if it's a cas without a reply
abbrev pub ease : Op → Op
ease o = ease_kind o.kind o
