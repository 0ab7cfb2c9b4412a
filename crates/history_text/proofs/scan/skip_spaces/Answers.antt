use Rattle.std.proofs.Common.{sym, ◌∙◌}
use Rattle.history_text.proofs.Lexed.{spaced_more}
use Rattle.history_text.proofs.scan.skip_spaces.Goals as goal

pub loop-byte-preserved : goal.loop-byte-preserved
loop-byte-preserved c =
    spaced_more c.args.text.now c.loop-byte.rest.now c.in-Some.next.now c.in-Some.byte c.loop-byte.invariant
    c.in-Some.ensures (sym c.is_space.ensures ∙ c.if-not-is_space.false)
