-- The operations of an accepted history are whole (the law `recorded_is_whole`), and what follows of those of
-- several registers.
use Rattle.std.proofs.Common.{◌≡◌, ◌+◌, ◌<◌, List, [], ◌∷◌, length, false, inl, inr, refl, sym, ap, subst}
use Rattle.std.proofs.Common.{◌∙◌, arith}
use Rattle.std.proofs.lemmas.Bool.{cases_Bool, false≢true}
use Rattle.history_text.specs.declared.event.LineEvent.{LineEvent}
use Rattle.history_model.specs.History.{History, IsRecorded, events_after, register_names}
use Rattle.history_model.specs.Legal.{IsBeforeInSession}
use Rattle.history_model.specs.Lists.{In}
use Rattle.history_model.specs.Operations.{IsCompleted, IsWrite, Precedes, of_register, operations}
use Rattle.history_model.specs.Refusals.{AreAccepted}
use Rattle.history_model.specs.declared.operation.Operation.{Operation}
use Rattle.history_model.proofs.Belonging.{called-one}
use Rattle.history_model.proofs.Recorded.{In-of_register, Known, accepted-history, known-whole}
use Rattle.history_model.proofs.Recorded.{operations-take-turns, times}
use Rattle.level_laws.specs.Causal.{IsKeptWrite, IsSource, IsWay, IsWhole, Knows, Learns}
use Rattle.level_laws.proofs.CausalLemmas.Knowing.{way-first}

-- ---- accepted histories

module _ (es : List LineEvent) (acc : AreAccepted es) where
  -- a missing reply has the time after all events
  missing-reply : (a : Operation) → Known (events_after [] es) a → a.completed ≡ false
      → a.reply ≡ length (events_after [] es) + 2
  missing-reply a (inl (j, e)) d = absurd (false≢true (sym d ∙ ap (λ (o : Operation). o.completed) e))
  missing-reply a (inr i) d = elim (called-one (events_after [] es) a i).2.ends [
    | inl p ↦ p.reply
    | inr r ↦ absurd (false≢true (sym d ∙ r.2.completed))
  ]

  -- and a call has one before it
  call-below : (a : Operation) → Known (events_after [] es) a → a.call < length (events_after [] es) + 2
  call-below a (inl (j, e)) = omega (arith, ap (λ (o : Operation). o.call) e)
  call-below a (inr i) = (times es acc a i).2

pub recorded-whole : (h : History) → IsRecorded h → IsWhole (operations h)
recorded-whole h rec = record {
  each = accepted-history h rec;
  turns = operations-take-turns h rec;
  pending =
      subst (λ (g : History). (a b : Operation) → In a (operations g) → In b (operations g)
      → a.completed ≡ false → b.call < a.reply) (sym rec.is) (λ a b i j d.
      let es = rec.events in
      let n = length (register_names es) in
      let p = missing-reply es rec.accepted a (known-whole es rec.accepted n a i) d in
      let q = call-below es rec.accepted b (known-whole es rec.accepted n b j) in
      omega (arith, p, q));
}

-- ---- whole histories

module _ (ops : List Operation) (y : IsWhole ops) where
  -- each operation is one of its register's
  pub own : (a : Operation) → In a ops → In a (of_register a.register ops)
  own a i = In-of_register a.register ops a i refl

  -- a read has one source, since no value is written twice to a register
  pub one-source : (v w r : Operation) → In v ops → In w ops → IsSource v r → IsSource w r → v ≡ w
  one-source v w r i j s t =
      (y.each r.register).values v w (In-of_register r.register ops v i s.register)
      (In-of_register r.register ops w j t.register) s.write t.write (sym s.read.value ∙ t.read.value)

  pub source-kept : (w r : Operation) → In w ops → In r ops → IsSource w r → IsKeptWrite ops w
  source-kept w r i j s = record { within = i; write = s.write; kept = inr (r, j, s) }

  -- what comes first in a session precedes, whatever the registers
  pub session-precedes : (a b : Operation) → In a ops → In b ops → IsBeforeInSession a b → Precedes a b
  session-precedes a b i j (inl (p, s, t, lt)) = elim (y.turns a b p i j s t) [
    | inl e ↦ absurd (omega (arith, lt, ap (λ (o : Operation). o.call) e))
    | inr r ↦ elim r [
      | inl q ↦ q
      | inr q ↦ absurd (omega (arith, lt, q, (y.each b.register).life b (own b j)))
    ]
  ]
  session-precedes a b i j (inr (n, s)) =
      let e = (y.each a.register).initial a (own a i) n in
      omega (arith, ap (λ (o : Operation). o.reply) e, (y.each b.register).called b s.0 (own b j) s.1)

  -- so a pending operation is the last of its session
  pub session-completed : (a b : Operation) → In a ops → In b ops → IsBeforeInSession a b → IsCompleted a
  session-completed a b i j s = elim (cases_Bool a.completed) [
    | inl d ↦ d
    | inr n ↦ absurd (omega (arith, y.pending a b i j n, session-precedes a b i j s))
  ]

  learned-kept : (v b : Operation) → IsWrite v → In v ops → In b ops → Learns v b → IsKeptWrite ops v
  learned-kept v b u i j (inl s) =
      record { within = i; write = u; kept = inl (session-completed v b i j s) }
  learned-kept v b u i j (inr s) = source-kept v b i j s

  way-kept : (v b : Operation) (way : List Operation) → IsWrite v → IsWay ops v way b → IsKeptWrite ops v
  way-kept v b [] u w = learned-kept v b u w.0 w.1 w.2
  way-kept v b (c ∷ way) u w = learned-kept v c u w.0 (way-first ops c b way w.2) w.1

  -- a write that another operation knows of is kept
  pub known-kept : (v b : Operation) → IsWrite v → Knows ops v b → IsKeptWrite ops v
  known-kept v b u k = way-kept v b k.0 u k.1
