use Rattle.std.proofs.Common.{◌∙◌, inl, inr, refl, sym}
use Rattle.slot_sets.specs.Sets.{has}
use Rattle.configurations.specs.declared.config.Config.{Config}
use Rattle.configurations.specs.Configs.{free_of, lacking, owed_by}
use Rattle.configurations.specs.Tables.{call_at}
use Rattle.configurations.proofs.Replying.{ahead, dropped_able, dropped_held}
use Rattle.configurations.proofs.Replying.{not_member, owing_able, owing_held}
use Rattle.configurations.proofs.Unseen.{settled_by}
use Rattle.configurations.proofs.reply.put_down.Goals as goal

pub returns-in_ok-admit-clause-apart : goal.returns-in_ok-admit-clause-apart
returns-in_ok-admit-clause-apart g c = record {
  work_held =
      c.in_ok-admit.ensures.all (has c.args.table.now.used) c.requires.held c.requires.apart.work_held;
  work_owe =
      c.in_ok-admit.ensures.owing c.args.reply (sym c.has.ensures ∙ c.if-has.true) c.requires.apart.work_owe;
  next_held = c.requires.apart.next_held;
}

pub returns-in_ok-admit-clause-goes : goal.returns-in_ok-admit-clause-goes
returns-in_ok-admit-clause-goes g c = λ es n to_come l.
    let s = c.in_ok-admit.ensures.there in
    inl (s.0, s.1, s.2, s.3.able_by (call_at c.args.table.now c.args.reply) es n l)

pub returns-in_ok-admit-3-clause-apart : goal.returns-in_ok-admit-3-clause-apart
returns-in_ok-admit-3-clause-apart g c =
    let t = c.args.table.now in
    let before = c.args.config.now in
    let dropped : Config g.row.W = record before { free = c.remove.new.self } in
    let owing : Config g.row.W = record before { owed = c.insert.new.self; free = c.remove.new.self } in
    let none = sym c.has.ensures ∙ c.if-has.false in
    record {
      work_held =
          c.in_ok-admit-3.ensures.all (has t.used)
          (owing_held t c.requires.table c.args.reply c.requires.reply before owing c.requires.held
          c.insert.ensures.others c.remove.ensures.same c.remove.ensures.others)
          c.requires.apart.work_held;
      work_owe =
          c.in_ok-admit-3.ensures.owing c.args.reply
          (c.insert.ensures.same (c.requires.table.each c.args.reply c.requires.reply).small)
          c.requires.apart.work_owe;
      next_held =
          c.in_ok-admit-2.ensures.all (lacking (has t.used) c.args.reply)
          (dropped_held t c.requires.table c.args.reply c.requires.reply before dropped c.requires.held
          refl none c.remove.ensures.same c.remove.ensures.others) c.requires.apart.next_held;
    }

pub returns-in_ok-admit-3-clause-goes : goal.returns-in_ok-admit-3-clause-goes
returns-in_ok-admit-3-clause-goes g c = λ es n to_come l.
    let t = c.args.table.now in
    let i = c.requires.table in
    let reply = c.args.reply in
    let before = c.args.config.now in
    let dropped : Config g.row.W = record before { free = c.remove.new.self } in
    let owing : Config g.row.W = record before { owed = c.insert.new.self; free = c.remove.new.self } in
    let none = sym c.has.ensures ∙ c.if-has.false in
    elim (settled_by t.ops.items es (call_at t reply) n before.value (owed_by t before) (free_of t before)
    (not_member t i before.owed reply c.requires.held.0 c.requires.reply none)
    (ahead t i reply c.requires.reply before es c.requires.held to_come) l) [
      | inl r ↦
          let s = c.in_ok-admit-2.ensures.there in
          inr (
            s.0,
            s.1,
            s.2,
            s.3.able es
                (dropped_able t i reply c.requires.reply before dropped es refl refl c.remove.ensures.others
                r),
          )
      | inr r ↦
          let s = c.in_ok-admit-3.ensures.there in
          inl (
            s.0,
            s.1,
            s.2,
            s.3.able_by (call_at t reply) es n
                (owing_able t i reply c.requires.reply before owing es n refl none
                (c.insert.ensures.same (i.each reply c.requires.reply).small) c.insert.ensures.others
                c.remove.ensures.others r.1),
          )
    ]

pub returns-else-has-2-clause-apart : goal.returns-else-has-2-clause-apart
returns-else-has-2-clause-apart g c =
    let t = c.args.table.now in
    let before = c.args.config.now in
    let dropped : Config g.row.W = record before { free = c.remove.new.self } in
    let none = sym c.has.ensures ∙ c.if-has.false in
    record {
      work_held = c.requires.apart.work_held;
      work_owe = c.requires.apart.work_owe;
      next_held =
          c.in_ok-admit-2.ensures.all (lacking (has t.used) c.args.reply)
          (dropped_held t c.requires.table c.args.reply c.requires.reply before dropped c.requires.held
          refl none c.remove.ensures.same c.remove.ensures.others) c.requires.apart.next_held;
    }

pub returns-else-has-2-clause-goes : goal.returns-else-has-2-clause-goes
returns-else-has-2-clause-goes g c = λ es n to_come l.
    let t = c.args.table.now in
    let i = c.requires.table in
    let reply = c.args.reply in
    let before = c.args.config.now in
    let dropped : Config g.row.W = record before { free = c.remove.new.self } in
    let none = sym c.has.ensures ∙ c.if-has.false in
    elim (settled_by t.ops.items es (call_at t reply) n before.value (owed_by t before) (free_of t before)
    (not_member t i before.owed reply c.requires.held.0 c.requires.reply none)
    (ahead t i reply c.requires.reply before es c.requires.held to_come) l) [
      | inl r ↦
          let s = c.in_ok-admit-2.ensures.there in
          inr (
            s.0,
            s.1,
            s.2,
            s.3.able es
                (dropped_able t i reply c.requires.reply before dropped es refl refl c.remove.ensures.others
                r),
          )
      | inr r ↦
          absurd (not_member t i before.free reply c.requires.held.1 c.requires.reply
          (sym c.has-else-has.ensures ∙ c.if-has-2.false) r.0)
    ]
