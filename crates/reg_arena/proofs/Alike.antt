-- An event of the same register and value as another.
use Rattle.std.proofs.Common.{◌≡◌, ℕ, length, slice_get, Option, Some}
use Rattle.std.proofs.Common.{None, refl, ap, ◌∙◌, arith}
use Rattle.std.proofs.Common.{option_and_then, option_map, unwrap_or, sym, subst, List}
use Rattle.history_text.specs.declared.event.Val.{Val}
use Rattle.history_model.specs.declared.event.Event.{Event}
use Rattle.history_model.specs.declared.event.What.TheVariants.{Fail}
use Rattle.history_model.specs.History.{History, IsRecorded}
use Rattle.history_model.proofs.Named.{event-register}
use Rattle.history_model.specs.Walking.{by_value}
use Rattle.std.specs.Option.{option_and}
use Rattle.history_text.specs.declared.event.LineEvent.{LineEvent}
use Rattle.reg_arena.specs.declared.process_standing.Open.{Open}
use Rattle.reg_arena.specs.Step.{IsLastWith, IsOpenCall}
use Rattle.history_model.specs.declared.ids.EvId.{EvId}
use Rattle.history_model.specs.declared.ids.RegId.{RegId}
use Rattle.reg_arena.specs.Lists.EventLists.{IsAlike}
use Rattle.reg_arena.specs.Lists.EventLists.{IsLastOf}
use Rattle.reg_arena.proofs.ListLemmas.ByValue.{key-by, key-none, key-parts, key-register}

-- the last event of an event's register and value is like it
alike-last : (es : List Event) (e : Event) (r : RegId) (o : Option EvId) → e.register ≡ Some r
    → ((v : Val) → e.value ≡ Some v → IsLastOf by_value es (r.0, v) o) → (e.value ≡ None → o ≡ None)
    → IsAlike es e o
alike-last es e r o reg some none = go e.value refl o refl
  where
    go : (w : Option Val) → e.value ≡ w → (p : Option EvId) → o ≡ p → IsAlike es e p
    go None q p h =
        subst (IsAlike es e) (sym (none q) ∙ h) (λ k x. absurd (let z = key-none e q in cc (x, z)))
    go (Some v) q None h =
        λ k x. let z =
        key-by e r v reg q in let same : (r.0, v) ≡ k =
        cc (z, x) in subst (λ k. IsLastOf by_value es k None) same
        (subst (IsLastOf by_value es (r.0, v)) h (some v q))
    go (Some v) q (Some j) h =
        ((r.0, v), key-by e r v reg q, (subst (IsLastOf by_value es (r.0, v)) h (some v q)).0)

-- no event is like one without a value
pub alike-none : (es : List Event) (e : Event) → e.value ≡ None → IsAlike es e None
alike-none es e q = λ k x. absurd (let z = key-none e q in cc (x, z))

-- so is the last event with what a call asks for; a new register has no event
pub alike-call : (h : History) → IsRecorded h → (e : Event) (r : RegId) (number : Option ℕ) (o : Option EvId)
    → e.register ≡ Some r → r.0 ≡ unwrap_or number (length h.names) → IsLastWith h.events number e.value o
    → IsAlike h.events e o
alike-call h rec e r None o reg q l =
    subst (IsAlike h.events e) (sym l) (λ k x i y.
    let known =
    event-register h rec i k.0 (key-register h.events i k y) in
    omega (arith, number-of_key k x, q, known))
  where
    number-of_key : (k : ℕ × Val) → by_value e ≡ Some k → r.0 ≡ k.0
    number-of_key k x =
        let p =
        (key-parts e k x).0 in let w =
        ap (option_map {U = ℕ} (λ (r : RegId). r.0)) reg in let z : Some r.0 ≡ Some k.0 =
        sym w ∙ p in cc (z)
alike-call h rec e r (Some n) o reg q l = alike-last h.events e r o reg (λ v z. some v z l) (λ z. none z l)
  where
    some : (v : Val) → e.value ≡ Some v → IsLastWith h.events (Some n) e.value o
        → IsLastOf by_value h.events (r.0, v) o
    some v z l =
        subst (λ m. IsLastOf by_value h.events (m, v) o) (sym q)
        (subst (λ w. IsLastWith h.events (Some n) w o) z l)

    none : e.value ≡ None → IsLastWith h.events (Some n) e.value o → o ≡ None
    none z l = subst (λ w. IsLastWith h.events (Some n) w o) z l

-- an event of the same register and value
pub alike-same : (es : List Event) (e f : Event) (j : EvId) (r : RegId) (v : Val) → slice_get es j.0 ≡ Some f
    → f.register ≡ Some r → f.value ≡ Some v → e.register ≡ Some r → e.value ≡ Some v → IsAlike es e (Some j)
alike-same es e f j r v at reg has register value =
    ((r.0, v), key-by e r v register value, ap (option_and_then by_value) at ∙ key-by f r v reg has)

-- a fail is like its call
pub fail-alike : (es : List Event) (e : LineEvent) (o : Open) → IsOpenCall es e.process o
    → IsAlike es (record {
      line = e.line;
      process = e.process;
      register = Some o.register;
      what = Fail o.kind;
      value = o.value;
    }) (option_and o.value (Some o.call))
fail-alike es e o h = go o.value refl
  where
    go : (v : Option Val) → o.value ≡ v
        → IsAlike es (record {
          line = e.line;
          process = e.process;
          register = Some o.register;
          what = Fail o.kind;
          value = o.value;
        }) (option_and v (Some o.call))
    go None q =
        alike-none es (record {
          line = e.line;
          process = e.process;
          register = Some o.register;
          what = Fail o.kind;
          value = o.value;
        }) q
    go (Some v) q =
        alike-same es (record {
          line = e.line;
          process = e.process;
          register = Some o.register;
          what = Fail o.kind;
          value = o.value;
        }) h.event o.call o.register v h.there h.register (h.value
        ∙ q) refl q
