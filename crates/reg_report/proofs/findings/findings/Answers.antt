use Rattle.std.proofs.Common.{◌≡◌, ◌<◌, ℕ, length, refl, subst, arith}
use Rattle.std.proofs.lemmas.Option.{slice_get-get_or}
use Rattle.reg_report.specs.Registers.{AreFirstFindings}
use Rattle.reg_report.proofs.Found.{one-finding-more}
use Rattle.reg_report.proofs.findings.findings.Goals as goal

pub loop-number-preserved : goal.loop-number-preserved
loop-number-preserved c =
    let h = c.args.arena.now in
    let l = c.loop-number in
    let n = l.number in
    let tallies = c.args.tallies.now in
    let within : n < length tallies =
    omega (
      arith,
      c.loop-number-test.true,
      c.register_count-count.ensures.count,
      c.requires.tallies.count,
    ) in
    let tally = c.requires.tallies.each n _ (slice_get-get_or tallies n _ within) in
    record {
      findings =
          rw c.in_ok-push.ensures.items
          (one-finding-more h n l.findings.items _ l.invariant.findings refl
          (record {
            inside = omega (arith, c.loop-number-test.true, c.register_count-count.ensures.count);
            judged =
                c.register_pieces-judged.ensures.judged;
            levels =
                c.register_pieces-judged.ensures.levels;
            tally = tally;
          }));
      done = c.register_pieces-judged.ensures.done;
      tasks = c.register_pieces-judged.ensures.tasks;
    }

pub returns : goal.returns
returns c =
    let h = c.args.arena.now in
    let l = c.loop-number in
    let whole : l.number ≡ length h.names =
    omega (arith, l.auto.number-end, c.loop-number-test.false, c.register_count-count.ensures.count) in
    subst (λ (n : ℕ). AreFirstFindings h n l.findings.items) whole l.invariant.findings
