-- An append keeps each part of the invariant.
use Rattle.std.proofs.Common.{◌≡◌, ℕ, ◌∷◌, ◌++◌, [], length, length-append, slice_get}
use Rattle.std.proofs.Common.{arith, option_map, option_and_then, ap, ◌∙◌, Some, None}
use Rattle.history_text.specs.declared.event.Val.{Val}
use Rattle.history_model.specs.declared.ids.EvId.{EvId}
use Rattle.reg_arena.specs.declared.event_lists.list_ends.Entry.{Entry}
use Rattle.history_model.specs.Walking.{key_at, by_register, by_process, by_value}
use Rattle.reg_arena.specs.Lists.EventLists.{value_entry, value_number}
use Rattle.reg_arena.specs.Lists.Rows.{Columns}
use Rattle.reg_arena.proofs.ListLemmas.Append.{ends-within, family}
use Rattle.reg_arena.proofs.ListLemmas.AppendEntries.{end-known, calls-push, calls-length}
use Rattle.reg_arena.proofs.ListLemmas.AppendEntries.{fail-within, entries-push, numbers-push}
use Rattle.reg_arena.proofs.ListLemmas.RowWritten.{events-value, process-register, row-appended}
use Rattle.reg_arena.proofs.ListLemmas.RowWritten.{value-process}
use Rattle.reg_arena.proofs.event_lists.lists.EventLists.append.Goals as goal

pub join_register-requires-clause-within : goal.join_register-requires-clause-within
join_register-requires-clause-within c = ends-within by_register _ _ _ c.requires.lists.registers _

pub join_process-requires-clause-within : goal.join_process-requires-clause-within
join_process-requires-clause-within c = λ e h.
    let w = ends-within by_process _ _ _ c.requires.lists.processes _ e h in
    let same = ap (λ (k : Columns). length k.events) c.in_ok-join_register.ensures.others in
    omega arith

pub join_value-requires-clause-within : goal.join_value-requires-clause-within
join_value-requires-clause-within c = λ k e h.
    let w = ends-within by_value _ _ _ c.requires.lists.values k e h in
    let register = ap (λ (k : Columns). length k.events) c.in_ok-join_register.ensures.others in
    let process = ap (λ (k : Columns). length k.events) c.in_ok-join_process.ensures.others in
    omega arith

pub join_call-call-requires-clause-fail : goal.join_call-call-requires-clause-fail
join_call-call-requires-clause-fail c = λ f.
    let l = fail-within c.args.self.now.rows.events c.args.event.now c.args.call c.requires.call f in
    let same =
    ap length (events-value c.args.self.now.rows c.join_register.new.rows c.join_process.new.rows
    c.join_value.new.rows c.join_value.new.rows c.in_ok-join_register.ensures.others
    c.in_ok-join_process.ensures.others c.in_ok-number.ensures.others) in
    omega arith

pub returns-clause-lists : goal.returns-clause-lists
returns-clause-lists c =
    let before = c.args.self.now.rows in
    let es = before.events in
    let e = c.args.event.now in
    let t = c.requires.lists in
    let at : c.len.result ≡ length es = omega (arith, c.len.ensures) in
    let n : EvId = record { 0 = c.len.result } in
    let r = c.in_ok-join_register.ensures.others in
    let p = c.in_ok-join_process.ensures.others in
    let v = c.in_ok-number.ensures.others in
    let register = c.join_register.new.rows in
    let process = c.join_process.new.rows in
    let value = c.join_value.new.rows in
    let own = c.join_call-call.new.rows in
    let all =
    c.in_ok-push.ensures
    ∙ row-appended before register process value own r p v e c.args.call c.join_call-call.result
    c.in_ok-number.number c.join_call-call.ensures.others c.join_call-call.ensures.calls in
    let none : (k : ℕ × Val) → value_entry c.args.self.now.pairs c.args.self.now.entries.items k ≡ None
    → (i : ℕ) → key_at by_value es i ≡ Some k → ⊥ =
    λ k h i q. t.values.none k (ap (option_map (λ (y : Entry). y.ends)) h) i q in
    let no_number : (k : ℕ × Val) → value_number c.args.self.now.pairs k ≡ None → (i : ℕ)
    → key_at by_value es i ≡ Some k → ⊥ =
    λ k h i q. none k (ap (option_and_then (slice_get c.args.self.now.entries.items)) h) i q in
    rw all (record {
      registers =
          family by_register es e n before.in_register (register.in_register
          ++ None ∷ []) _ _ at t.register_column t.registers c.in_ok-join_register.ensures.joined;
      processes =
          family by_process es e n before.in_process (process.in_process
          ++ None ∷ []) _ _ at t.process_column t.processes
          (rw (process-register before register process value own r p v) at
          c.in_ok-join_process.ensures.joined);
      values =
          family by_value es e n before.in_value (value.in_value ++ None ∷ []) _ _ at t.value_column t.values
          (rw (value-process before register process value own r p v) at c.in_ok-number.ensures.joined);
      calls = calls-push es e n before.calls c.args.call at t.call_column c.requires.call t.calls;
      entries =
          entries-push es e n before.calls c.args.call at t.call_column c.requires.call _ _ none t.entries
          c.in_ok-number.ensures.entered;
      numbered = c.in_ok-number.ensures.numbered;
      numbers =
          numbers-push es e before.numbers c.in_ok-number.number (value_number c.args.self.now.pairs)
          (value_number c.join_value.new.pairs) t.number_column t.numbers no_number
          c.in_ok-number.ensures.kept c.in_ok-number.ensures.number;
      register_column =
          omega (
            arith,
            length-append es (e ∷ []),
            length-append register.in_register (None ∷ []),
            c.in_ok-join_register.ensures.count,
            t.register_column,
          );
      process_column =
          omega (
            arith,
            length-append es (e ∷ []),
            length-append process.in_process (None ∷ []),
            c.in_ok-join_process.ensures.count,
            ap length (process-register before register process value own r p v),
            t.process_column,
          );
      value_column =
          omega (
            arith,
            length-append es (e ∷ []),
            length-append value.in_value (None ∷ []),
            c.in_ok-number.ensures.count,
            ap length (value-process before register process value own r p v),
            t.value_column,
          );
      call_column =
          omega (
            arith,
            length-append es (e ∷ []),
            calls-length before.calls e.what c.args.call,
            t.call_column,
          );
      number_column =
          omega (
            arith,
            length-append es (e ∷ []),
            length-append before.numbers (c.in_ok-number.number ∷ []),
            t.number_column,
          );
      known =
          omega (
            arith,
            length-append es (e ∷ []),
            c.in_ok-join_register.ensures.registers,
            end-known e.register,
            c.requires.register,
            t.known,
          );
      few = omega (arith, length-append es (e ∷ []), c.in_ok-number.ensures.few, t.few);
      room = omega (arith, length-append es (e ∷ []), c.requires.room);
    })
