use Rattle.reg_lamport.proofs.Numbered.{inside-of, placed, found, passed}
use Rattle.reg_lamport.proofs.breaks.first_bad.Goals as goal

pub keeps-requires : goal.keeps-requires
keeps-requires c =
    let list = c.args.list.now in
    let register = c.list.inside.register.0 in
    let xs = c.deref.result.now in
    let inside =
    inside-of list register c.list.inside.entries.items xs c.list.view_is c.deref.ensures.value in
    (placed c.args.arena.now list c.requires.list c.requires.writer register xs inside c.args.from c.args.to
    c.loop-entry.entry-index _ c.requires.order c.requires.end c.loop-entry-test.true).listed

pub returns-then-not-keeps : goal.returns-then-not-keeps
returns-then-not-keeps c =
    let h = c.args.arena.now in
    let list = c.args.list.now in
    let register = c.list.inside.register.0 in
    let xs = c.deref.result.now in
    let inside =
    inside-of list register c.list.inside.entries.items xs c.list.view_is c.deref.ensures.value in
    found h list c.requires.list c.requires.writer register xs inside c.args.level c.args.from c.args.to
    c.loop-entry.entry-index _ c.keeps.result
    (placed h list c.requires.list c.requires.writer register xs inside c.args.from c.args.to
    c.loop-entry.entry-index _ c.requires.order c.requires.end c.loop-entry-test.true)
    c.keeps.ensures c.loop-entry.invariant c.if-not-keeps.true

pub loop-entry-preserved : goal.loop-entry-preserved
loop-entry-preserved c =
    let h = c.args.arena.now in
    let list = c.args.list.now in
    let register = c.list.inside.register.0 in
    let xs = c.deref.result.now in
    let inside =
    inside-of list register c.list.inside.entries.items xs c.list.view_is c.deref.ensures.value in
    passed h list c.requires.list c.requires.writer register xs inside c.args.level c.args.from c.args.to
    c.loop-entry.entry-index _ c.keeps.result
    (placed h list c.requires.list c.requires.writer register xs inside c.args.from c.args.to
    c.loop-entry.entry-index _ c.requires.order c.requires.end c.loop-entry-test.true)
    c.keeps.ensures c.loop-entry.invariant c.if-not-keeps.false
