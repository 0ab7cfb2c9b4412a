use Rattle.std.proofs.Common.{◌∙◌, refl, sym}
use Rattle.std.proofs.lemmas.Option.{slice_get-get_or}
use Rattle.configurations.proofs.Calling.{content_idle, free_able, idle_run, owed_able}
use Rattle.configurations.proofs.call.add_call.Goals as goal

pub returns-then-is_content-clause-able : goal.returns-then-is_content-clause-able
returns-then-is_content-clause-able g c = λ es _ _ l.
    idle_run c.args.table.now.ops.items c.args.config.now.value _ _ _ es
    (content_idle c.args.table.now.ops.items _ c.args.op.now c.args.config.now.value c.requires.op
    (sym c.is_content.ensures ∙ c.if-is_content.true)) l

pub returns-then-is_free-clause-able : goal.returns-then-is_free-clause-able
returns-then-is_free-clause-able g c = λ es _ none l.
    let s = c.requires.table.each c.args.slot c.requires.slot in
    free_able c.args.table.now c.args.config.now (record c.args.config.now {
      free = c.insert.new.self;
    }) c.args.slot es (slice_get-get_or c.args.table.now.calls.items c.args.slot 0 s.placed) none
    (c.insert.ensures.same s.small) c.insert.ensures.others refl refl l

pub returns-else-is_free-clause-able : goal.returns-else-is_free-clause-able
returns-else-is_free-clause-able g c = λ es none _ l.
    let s = c.requires.table.each c.args.slot c.requires.slot in
    owed_able c.args.table.now c.args.config.now (record c.args.config.now {
      owed = c.insert-else-is_free.new.self;
    }) c.args.slot es (slice_get-get_or c.args.table.now.calls.items c.args.slot 0 s.placed) none
    (c.insert-else-is_free.ensures.same s.small) c.insert-else-is_free.ensures.others refl refl l
