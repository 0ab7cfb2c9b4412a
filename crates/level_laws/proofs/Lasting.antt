-- Operations that are recorded as lasting longer keep what they kept.
use Rattle.std.proofs.Common.{◌≡◌, ◌<◌, List, map, sym, ap, subst, ◌∙◌}
use Rattle.history_model.specs.Acts.{asks, changes}
use Rattle.history_model.specs.Lists.{In}
use Rattle.history_model.specs.Legal.{HasOrderFor, IsMet, MustKeep}
use Rattle.history_model.specs.Operations.{IsAsking, IsCompleted}
use Rattle.history_model.specs.declared.guarantee.Guarantee.{Guarantee}
use Rattle.history_model.specs.declared.operation.Operation.{Operation}
use Rattle.history_model.proofs.Lists.{In-map, map-In, map-Before, Before-first, Before-second}
use Rattle.level_laws.specs.Lasting.{IsLongRecordOf}
use Rattle.level_laws.proofs.Keeping.{must-longer}
use Rattle.level_laws.proofs.Moved.{IsMove, move-met, move-once}

pub recorded : (g : Guarantee) (ops : List Operation) (f : Operation → Operation)
    → ((a : Operation) → In a ops → a.call < a.reply) → ((a : Operation) → In a ops → IsLongRecordOf a (f a))
    → ((a b : Operation) → In a ops → In b ops → f a ≡ f b → a ≡ b) → HasOrderFor g ops
    → HasOrderFor g (map f ops)
recorded g ops f life long one o =
    let order = o.0 in
    let l = o.1 in
    let there = l.completion.only in
    let move : IsMove f order = record {
      act = λ a i. (long a (there a i)).act;
      register = λ a i. (long a (there a i)).register;
      one = λ a b i j. one a b (there a i) (there b j);
    } in (
      map f order,
      record {
        completion = record {
          once = move-once f order move l.completion.once;
          only = λ a i.
              let k = map-In f a order i in
              subst (λ z. In z (map f ops)) (sym k.2) (In-map f k.0 ops (there k.0 k.1));
          all = λ a i d.
              let k = map-In f a ops i in
              let r = sym (long k.0 k.1).completed ∙ subst (λ (z : Operation). IsCompleted z) k.2 d in
              subst (λ z. In z (map f order)) (sym k.2) (In-map f k.0 order (l.completion.all k.0 k.1 r));
        };
        keeps = λ a b s m.
            let k = map-Before f a b order s in
            let i = there k.0 (Before-first k.0 k.1 order k.2) in
            let j = there k.1 (Before-second k.0 k.1 order k.2) in
            let p = long k.0 i in
            let q = long k.1 j in
            l.keeps k.0 k.1 k.2 (must-longer k.1 k.0 (f k.1) (f k.0) (sym q.process) (sym p.process)
            (ap changes (sym q.act)) (ap changes (sym p.act)) q.reply p.call (life k.1 j) g
            (subst (λ z. MustKeep g z (f k.0)) k.4 (subst (MustKeep g b) k.3 m)));
        met = λ a i y.
            let k = map-In f a order i in
            subst (IsMet (map f order)) (sym k.2)
            (move-met f order move k.0 k.1
            (l.met k.0 k.1 (ap asks (sym (long k.0 (there k.0 k.1)).act)
            ∙ subst (λ (z : Operation). IsAsking z) k.2 y)));
      },
    )
