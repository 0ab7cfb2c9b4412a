-- The operation that a call begins, from what the code finds of it.
use Rattle.std.proofs.Common.{◌≡◌, ℕ, ◌&&◌, cond, not, Bool, true, false, List, is_some, unwrap_or}
use Rattle.std.proofs.Common.{Option, Some, None, sym, ap, ◌∙◌, bytes_eq, option_map}
use Rattle.std.specs.List.{position_or_len}
use Rattle.history_text.specs.declared.event.AnyEvent.{AnyEvent}
use Rattle.history_model.specs.declared.act.Act.{Act}
use Rattle.history_model.specs.declared.operation.Operation.{Operation}
use Rattle.history_model.specs.Calls.{begins, has_failed, operation, reply_in}
use Rattle.reg_intake.specs.CasHistory.Events.{Called, called_by}
use Rattle.reg_intake.specs.CasHistory.History.{act_of, any_calls}
use Rattle.reg_intake.specs.CasHistory.Kept.{operation_at}

module _ (names : List (List ℕ)) (n t : ℕ) (e : AnyEvent) (call : Called)
    (calls : called_by e.kind ≡ Some call)
  where
    abbrev made : ℕ → Bool → ℕ → Act → Operation
    made time completed register act = record {
      line = e.line;
      call = t;
      reply = time;
      completed = completed;
      process = Some e.process;
      register = register;
      act = act;
    }

    by_reply : (o : Option (ℕ × AnyEvent))
        → made (unwrap_or (option_map (λ (r : ℕ × AnyEvent). r.0) o) n) (is_some o)
        (position_or_len (bytes_eq call.register) names)
        (act_of (Some call) (option_map (λ (r : ℕ × AnyEvent). r.1) o)) ≡ operation (any_calls names) n t e o
    by_reply None = cc calls
    by_reply (Some r) = cc calls

    pub begun : (next o : Option (ℕ × AnyEvent)) → has_failed (any_calls names) next ≡ false
        → o ≡ reply_in (any_calls names) next → (time : ℕ) (completed : Bool) (register : ℕ) (act : Act)
        → time ≡ unwrap_or (option_map (λ (r : ℕ × AnyEvent). r.0) o) n → completed ≡ is_some o
        → register ≡ position_or_len (bytes_eq call.register) names
        → act ≡ act_of (Some call) (option_map (λ (r : ℕ × AnyEvent). r.1) o)
        → Some (made time completed register act) ≡ operation_at (any_calls names) n t e next
    begun next o kept is time completed register act u v w x =
        let begins_one : begins (any_calls names) e next ≡ true =
        ap (λ k. is_some k && not (has_failed (any_calls names) next)) calls
        ∙ ap (λ f. true && not f) kept in
        let found = by_reply o in
        let same : made time completed register act ≡ operation (any_calls names) n t e o =
        cc (u, v, w, x, found) in
        ap Some (same ∙ ap (operation (any_calls names) n t e) is)
        ∙ sym (ap (λ b. cond b (Some (operation (any_calls names) n t e
        (reply_in (any_calls names) next))) None)
        begins_one)
