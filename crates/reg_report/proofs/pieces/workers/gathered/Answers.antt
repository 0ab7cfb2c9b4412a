use Rattle.std.proofs.Common.{◌≡◌, ◌∙◌, false, length, sym, ap, subst, arith}
use Rattle.std.proofs.lemmas.Bool.{false≢true}
use Rattle.reg_report.specs.Pieces.Slots.{AreWithin, PiecesShown}
use Rattle.reg_report.specs.Pieces.Workers.{IsHandedBack, IsJoined, weight_back}
use Rattle.reg_report.proofs.PieceLemmas.Gathering.{all-done, back-push, closed-full, first-ones}
use Rattle.reg_report.proofs.PieceLemmas.Gathering.{last-one, one-joined, weight-with}
use Rattle.reg_report.proofs.PieceLemmas.Putting.{all-judgements-count, all-reads-count, pieces-within}
use Rattle.reg_report.proofs.pieces.workers.gathered.Goals as goal
use Rattle.reg_report.proofs.pieces.workers.gathered.Goals.{then-refused, else-refused}

pub put_all-requires-clause-judgements : goal.put_all-requires-clause-judgements
put_all-requires-clause-judgements c =
    let h = c.args.arena.now in
    let l = c.loop-worked in
    let w = c.in-Some.worked in
    let one =
    last-one (IsHandedBack h c.args.plan.now c.args.board) l.back.items c.pop.new.self.items w
    c.in-Some.ensures.items l.invariant.back in
    subst (λ n. AreWithin n w.done.items) (sym l.invariant.judgements)
    (pieces-within h c.args.plan.now.tasks w.done.items one.pieces)

pub put_all-requires-clause-reads : goal.put_all-requires-clause-reads
put_all-requires-clause-reads c =
    let h = c.args.arena.now in
    let l = c.loop-worked in
    let w = c.in-Some.worked in
    let one =
    last-one (IsHandedBack h c.args.plan.now c.args.board) l.back.items c.pop.new.self.items w
    c.in-Some.ensures.items l.invariant.back in
    subst (λ n. AreWithin n w.done.items) (sym l.invariant.reads)
    (pieces-within h c.args.plan.now.tasks w.done.items one.pieces)

pub loop-worked-preserved : goal.loop-worked-preserved
loop-worked-preserved c =
    let h = c.args.arena.now in
    let plan = c.args.plan.now in
    let board = c.args.board in
    let l = c.loop-worked in
    let w = c.in-Some.worked in
    let rest = c.pop.new.self.items in
    let popped = c.in-Some.ensures.items in
    let put = c.put_all.ensures in
    let seat = c.joined.result in
    let one = last-one (IsHandedBack h plan board) l.back.items rest w popped l.invariant.back in
    let both : c.if-refused.refused ≡ false → (l.refused ≡ false) × (w.refused ≡ false) =
    λ f. elim c.if-refused.branch [
      | then-refused k ↦ absurd (false≢true (sym f ∙ (k.refused-is ∙ k.if-refused.true)))
      | else-refused k ↦ (k.if-refused.false, sym k.refused-is ∙ f)
    ] in
    record {
      back = first-ones (IsHandedBack h plan board) l.back.items rest w popped l.invariant.back;
      weight =
          omega (
            arith,
            ap (λ v. v.weight) c.joined.ensures.view,
            weight-with l.whole w.seat,
            ap weight_back popped,
            back-push rest w,
            l.invariant.weight,
          );
      judgements =
          ap (λ (x : PiecesShown). length x.judgements) put
          ∙ (all-judgements-count l.pieces w.done.items ∙ l.invariant.judgements);
      reads =
          ap (λ (x : PiecesShown). length x.reads) put
          ∙ (all-reads-count l.pieces w.done.items ∙ l.invariant.reads);
      whole = subst (λ (x : PiecesShown). IsJoined h plan.tasks board x c.if-refused.refused seat) (sym put)
          (one-joined h plan board l.pieces l.refused l.whole w seat c.if-refused.refused one
          l.invariant.judgements l.invariant.reads l.invariant.whole c.joined.ensures.board
          c.joined.ensures.view both);
    }

pub returns-else-refused-2 : goal.returns-else-refused-2
returns-else-refused-2 c =
    let h = c.args.arena.now in
    let plan = c.args.plan.now in
    let l = c.loop-worked in
    let full =
    closed-full h plan c.args.board l.pieces l.refused l.whole c.args.board.jobs c.closed.result
    l.invariant.whole c.closed.ensures c.if-refused-2.false in
    all-done h plan.tasks l.pieces (λ n inside. full n (omega (arith, inside, c.requires.jobs)))
