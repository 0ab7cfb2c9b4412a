use Rattle.std.proofs.Common.{◌∙◌, length, sym, ap, subst}
use Rattle.reg_report.specs.Pieces.Slots.{AreWithin, PiecesShown, with_pieces}
use Rattle.reg_report.proofs.PieceLemmas.Putting.{judgements-count, put-one-more, reads-count, rest-within}
use Rattle.reg_report.proofs.pieces.kept.Pieces.put_all.Goals as goal

pub loop-number-preserved : goal.loop-number-preserved
loop-number-preserved c =
    let l = c.loop-number in
    let n = c.in-Some.number in
    let p = c.in-Some.piece in
    let rest = c.pop.new.self.items in
    let put = c.put.ensures in
    let popped = c.in-Some.ensures.items in
    record {
      judgements =
          subst (λ k. AreWithin k rest) (sym (ap (λ (x : PiecesShown). length x.judgements) put
          ∙ judgements-count l.self n p)) (rest-within (length l.self.judgements) l.done.items rest (
            n,
            p,
          ) popped l.invariant.judgements);
      reads =
          subst (λ k. AreWithin k rest)
          (sym (ap (λ (x : PiecesShown). length x.reads) put ∙ reads-count l.self n p))
          (rest-within (length l.self.reads) l.done.items rest (n, p) popped l.invariant.reads);
      put =
          ap (λ (x : PiecesShown). with_pieces x rest) put
          ∙ (sym (put-one-more l.self rest n p)
          ∙ (sym (ap (with_pieces l.self) popped) ∙ l.invariant.put));
    }
