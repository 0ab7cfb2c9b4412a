use Rattle.std.proofs.Common.{rules, subst}
use Rattle.std.specs.List.{AllZip}
use Rattle.std.proofs.lemmas.List.{take_all}
use Rattle.register_search.specs.ByNumbers.{IsByNumber, number_in}
use Rattle.register_search.proofs.ByNumbers.{each-more}
use Rattle.register_search.proofs.Numbers.{none-yet, numbering}
use Rattle.register_search.proofs.numbered.by_numbers.Goals as goal

pub loop-op-init : goal.loop-op-init
loop-op-init c = record {
  numbers = none-yet c.new-numbers.result c.new-numbers.ensures.none c.new-numbers.ensures.next;
  each = search rules;
}

pub loop-op-preserved : goal.loop-op-preserved
loop-op-preserved c =
    let more = c.in_ok-one.ensures.more in
    let so_far = c.loop-op.invariant in
    record {
      numbers = more.numbers so_far.numbers;
      each = each-more c.loop-op.numbers c.by_number.new.numbers c.args.ops.now c.loop-op.op-index _
          c.loop-op.numbered.items c.push.new.self.items c.in_ok-one.one c.loop-op-test.true
          more c.in_ok-one.ensures.op c.in_ok-push.ensures.items so_far.each;
    }

pub returns : goal.returns
returns c =
    let number = number_in c.loop-op.numbers in
    let all = take_all c.loop-op.op-index c.args.ops.now c.loop-op-test.false in
    record {
      number = number;
      numbering = numbering c.loop-op.numbers c.loop-op.invariant.numbers;
      each =
          subst (λ ops. AllZip (IsByNumber number) ops c.loop-op.numbered.items) all c.loop-op.invariant.each;
    }
