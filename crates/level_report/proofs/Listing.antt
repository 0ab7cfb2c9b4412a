-- A walk over the events of a register lists its operations.
use Rattle.std.proofs.Common.{◌≡◌, ℕ, ◌+◌, ◌<◌, ◌==◌, cond, Bool, true, false, List, [], ◌∷◌}
use Rattle.std.proofs.Common.{◌++◌, length, Option, Some, None, refl, sym, ap, ◌∙◌}
use Rattle.std.proofs.Common.{append_assoc, append-nil, is_some, unwrap_or, slice_get}
use Rattle.std.proofs.lemmas.List.Elements.{filter-append}
use Rattle.history_model.specs.Acts.{is_plain, kind_of_act, plain_act, value_of_act}
use Rattle.history_model.specs.History.{History, IsRecorded}
use Rattle.history_model.proofs.Initials.{one-initial}
use Rattle.history_model.specs.Operations.{calls, initial_write, initial_writes, of_register, operation}
use Rattle.history_model.specs.Operations.{operations, register_of, reply_of}
use Rattle.history_model.specs.Naming.{begins_at, op_shown, IsNamed}
use Rattle.history_model.specs.Walking.{called_at, calls_at, by_register, IsFirstOf, IsNextOf, IsOnWalk}
use Rattle.history_model.specs.declared.act.Act.{Act}
use Rattle.history_model.specs.declared.act.Act.TheVariants.{Read, Write, Cas, CasUnless, Miss}
use Rattle.history_model.specs.declared.event.Event.{Event}
use Rattle.history_model.specs.declared.ids.EvId.{EvId}
use Rattle.history_model.specs.declared.ids.Oper.TheVariants.{Initial}
use Rattle.history_model.specs.declared.ids.RegId.{RegId}
use Rattle.history_model.specs.declared.op.Op.{Op}
use Rattle.history_model.specs.declared.operation.Operation.{Operation}
use Rattle.history_model.proofs.Named.{calls-have-registers, initial-there, one-named}
use Rattle.history_model.proofs.Plain.{plain-plain}
use Rattle.history_model.proofs.Recorded.{of_register-In}
use Rattle.history_model.proofs.Walking.{walk-begins, walk-first, walk-goes, walk-next}
use Rattle.level_report.specs.Shown.{operation_shown}

-- ---- an operation and what is shown of it

plain-again : (a : Act) → is_plain a ≡ true → plain_act (kind_of_act a) (value_of_act a) ≡ a
plain-again (Read v) h = refl
plain-again (Write v) h = refl
plain-again (Cas from to) h = absurd (cc h)
plain-again (CasUnless except to) h = absurd (cc h)
plain-again (Miss from) h = absurd (cc h)

-- its reply and whether it is completed can be read off the reply that is shown
reply-again : (end : ℕ) (o : Operation) → (o.completed ≡ false → o.reply ≡ end)
    → (unwrap_or (reply_of o) end ≡ o.reply) × (is_some (reply_of o) ≡ o.completed)
reply-again end o missing = go o.completed refl
  where
    go : (b : Bool) → o.completed ≡ b → (unwrap_or (cond o.completed (Some o.reply) None) end ≡ o.reply)
        × (is_some (cond o.completed (Some o.reply) None) ≡ o.completed)
    go true q = rw q (refl, refl)
    go false q = rw q (sym (missing q), refl)

made-again : (end : ℕ) (o : Operation) (reply : ℕ) (completed : Bool) (act : Act) → reply ≡ o.reply
    → completed ≡ o.completed → act ≡ o.act → (record {
      line = o.line;
      call = o.call;
      reply = reply;
      completed = completed;
      process = o.process;
      register = o.register;
      act = act;
    }) ≡ o
made-again end o reply completed act p q s = rw p (rw q (rw s refl))

pub shown-again : (end : ℕ) (o : Operation) → is_plain o.act ≡ true → (o.completed ≡ false → o.reply ≡ end)
    → operation_shown end (op_shown o) ≡ o
shown-again end o plain missing =
    let r = reply-again end o missing in
    made-again end o _ _ _ r.0 r.1 (plain-again o.act plain)

called-plain : (n t : ℕ) (e : Event) (next : Option (ℕ × Event)) → is_plain (operation n t e next).act ≡ true
called-plain n t e None = plain-plain _ _
called-plain n t e (Some r) = plain-plain _ _

called-missing : (n t : ℕ) (e : Event) (next : Option (ℕ × Event)) → (operation n t e next).completed ≡ false
    → (operation n t e next).reply ≡ n
called-missing n t e None h = refl
called-missing n t e (Some r) h = absurd (cc h)

-- what is shown of a call
pub called-again : (es : List Event) (i : ℕ) (e : Event) (o : Operation) → o ≡ called_at es i e
    → operation_shown (length es + 2) (op_shown o) ≡ o
called-again es i e o is = rw is (shown-again (length es + 2) (called_at es i e)
    (called-plain (length es + 2) (i + 2) e _) (called-missing (length es + 2) (i + 2) e _))

-- ---- the register's operations

-- the initial write of a register among those of the registers below n
pub register-of : (h : History) (r : ℕ) → r < length h.names
    → register_of h r ≡ initial_write r ∷ of_register r (calls h.events)
register-of h r below =
    filter-append (λ (a : Operation). a.register == r) (initial_writes (length h.names)) (calls h.events)
    ∙ ap (λ xs. xs ++ of_register r (calls h.events)) (one-initial (length h.names) r below)

-- what is shown of the initial write
pub initial-again : (h : History) (r : RegId) (end : ℕ) (o : Operation) (op : Op) → r.0 < length h.names
    → IsNamed h (Initial r) o → op ≡ op_shown o → operation_shown end op ≡ initial_write r.0
initial-again h r end o op below named shown =
    let there = initial-there h r.0 below in
    let one =
    one-named h (Initial r) o (initial_write r.0) named
    (record { one = (of_register-In r.0 (operations h) (initial_write r.0) there).0; named = refl }) in
    ap (operation_shown end) (shown ∙ ap op_shown one)

-- ---- the walk

-- the operations that were listed before the walk's place
pub record IsListing (h : History) (r : ℕ) (listed : List Operation) (next : Option EvId) : Type 0 where
  pub on : IsOnWalk h.events r next
  pub all : register_of h r ≡ listed ++ calls_at h.events r next

module _ (h : History) (rec : IsRecorded h) (r : ℕ) where
  pub listing-begins : (next : Option EvId) → r < length h.names → IsFirstOf by_register h.events r next
      → IsListing h r (initial_write r ∷ []) next
  listing-begins next below first = record {
    on = walk-first r h.events next first;
    all =
        register-of h r below
        ∙ ap (λ xs. initial_write r ∷ xs) (walk-begins r h.events next (calls-have-registers h rec) first);
  }

  pub listing-goes : (listed : List Operation) (i : EvId) (e : Event) (next : Option EvId)
      → IsListing h r listed (Some i) → slice_get h.events i.0 ≡ Some e → by_register e ≡ Some r
      → IsNextOf by_register h.events i.0 next → (b : Bool) → begins_at h.events i.0 e ≡ b
      → IsListing h r (cond b (listed ++ called_at h.events i.0 e ∷ []) listed) next
  listing-goes listed i e next so_far at own n true q = record {
    on = walk-next r h.events i next so_far.on n;
    all =
        so_far.all
        ∙ (ap (λ xs. listed ++ xs) (walk-goes r h.events i e next (calls-have-registers h rec) at own n
        ∙ ap (λ b. cond b (called_at h.events i.0 e ∷ calls_at h.events r next)
        (calls_at h.events r next)) q)
        ∙ sym (append_assoc listed (called_at h.events i.0 e ∷ []) (calls_at h.events r next)));
  }
  listing-goes listed i e next so_far at own n false q = record {
    on = walk-next r h.events i next so_far.on n;
    all =
        so_far.all
        ∙ ap (λ xs. listed ++ xs) (walk-goes r h.events i e next (calls-have-registers h rec) at own n
        ∙ ap (λ b. cond b (called_at h.events i.0 e ∷ calls_at h.events r next)
        (calls_at h.events r next)) q);
  }

  pub listing-ends : (listed : List Operation) → IsListing h r listed None → listed ≡ register_of h r
  listing-ends listed so_far = sym (so_far.all ∙ append-nil listed)
