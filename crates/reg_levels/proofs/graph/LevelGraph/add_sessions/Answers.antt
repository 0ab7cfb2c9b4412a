use Rattle.std.proofs.Common.{◌≡◌, ℕ, ◌+◌, nat_eq, arith, rules, sym, ◌∙◌, subst}
use Rattle.std.specs.HashMap.{get}
use Rattle.std.proofs.lemmas.Option.{slice_get-get_or}
use Rattle.reg_levels.proofs.ClusterLemmas.Places.{nothing}
use Rattle.reg_levels.specs.Clusters.Places.{IsAt}
use Rattle.reg_levels.specs.LevelGraph.{IsLatestOf}
use Rattle.reg_levels.proofs.Latest.{AreSessionsBelow, latest_lasting, latest_none, latest_passing}
use Rattle.reg_levels.proofs.Latest.{next_below, none_below}
use Rattle.reg_levels.proofs.graph.LevelGraph.add_sessions.Goals.{in-Some+in_ok-join_next+else-is_lasting}
use Rattle.reg_levels.proofs.graph.LevelGraph.add_sessions.Goals.{in_default}
use Rattle.reg_levels.proofs.graph.LevelGraph.add_sessions.Goals as goal

pub loop-place-preserved : goal.loop-place-preserved
loop-place-preserved c =
    let place = c.loop-place.place in
    let before = c.loop-place.invariant in
    let at : IsAt c.args.ops.now place _ =
    slice_get-get_or c.args.ops.now place nothing (omega (arith, c.loop-place-test.true)) in
    elim c.match-session_at.branch [
      | goal.in-Some+in_ok-join_next+then-is_lasting+in_ok-insert w ↦
          let earlier : w.copied-earlier.result ≡ get nat_eq c.loop-place.latest w.in-Some.session = search
          rules in
          let latest = subst (IsLatestOf c.args.guarantee c.args.ops.now c.args.numbers.now
          w.in-Some.session place) (sym earlier)
          (before.latest w.in-Some.session) in
          record {
            sessions =
                subst (AreSessionsBelow c.args.guarantee c.args.ops.now c.args.numbers.now (place + 1)
                c.args.self.now)
                (sym w.self-is)
                (next_below c.args.guarantee c.args.ops.now c.args.numbers.now c.requires.history
                c.requires.by_call
                c.requires.sessions w.in-Some.session place w.in-Some.ensures.some.0 w.copied-earlier.result
                c.args.self.now c.loop-place.self w.join_next.new.self latest w.in-Some.ensures.some.1
                w.in_ok-join_next.ensures before.sessions);
            latest =
                subst (λ (m : _). (q : ℕ) → IsLatestOf c.args.guarantee c.args.ops.now c.args.numbers.now q
                (place + 1)
                (get nat_eq m q)) (sym w.latest-is)
                (latest_lasting c.args.guarantee c.args.ops.now c.args.numbers.now w.in-Some.session place
                w.in-Some.ensures.some.0 _ (get nat_eq c.loop-place.latest) (get nat_eq w.insert.new.self)
                w.in-Some.ensures.some.1 at (sym w.is_lasting.ensures ∙ w.if-is_lasting.true)
                w.in_ok-insert.ensures.updates.0 before.latest);
          }
      | in-Some+in_ok-join_next+else-is_lasting w ↦
          let earlier : w.copied-earlier.result ≡ get nat_eq c.loop-place.latest w.in-Some.session = search
          rules in
          let latest = subst (IsLatestOf c.args.guarantee c.args.ops.now c.args.numbers.now
          w.in-Some.session place) (sym earlier)
          (before.latest w.in-Some.session) in
          record {
            sessions =
                subst (AreSessionsBelow c.args.guarantee c.args.ops.now c.args.numbers.now (place + 1)
                c.args.self.now)
                (sym w.self-is)
                (next_below c.args.guarantee c.args.ops.now c.args.numbers.now c.requires.history
                c.requires.by_call
                c.requires.sessions w.in-Some.session place w.in-Some.ensures.some.0 w.copied-earlier.result
                c.args.self.now c.loop-place.self w.join_next.new.self latest w.in-Some.ensures.some.1
                w.in_ok-join_next.ensures before.sessions);
            latest =
                subst (λ (m : _). (q : ℕ) → IsLatestOf c.args.guarantee c.args.ops.now c.args.numbers.now q
                (place + 1)
                (get nat_eq m q)) (sym w.latest-is)
                (latest_passing c.args.guarantee c.args.ops.now c.args.numbers.now place _
                (get nat_eq c.loop-place.latest) at (sym w.is_lasting.ensures ∙ w.if-is_lasting.false)
                before.latest);
          }
      | in_default w ↦ record {
        sessions =
            subst (AreSessionsBelow c.args.guarantee c.args.ops.now c.args.numbers.now (place + 1)
            c.args.self.now)
            (sym w.self-is)
            (none_below c.args.guarantee c.args.ops.now c.args.numbers.now place c.args.self.now
            c.loop-place.self
            w.in_default.ensures.none before.sessions);
        latest =
            subst (λ (m : _). (q : ℕ) → IsLatestOf c.args.guarantee c.args.ops.now c.args.numbers.now q
            (place + 1)
            (get nat_eq m q)) (sym w.latest-is)
            (latest_none c.args.guarantee c.args.ops.now c.args.numbers.now place (get nat_eq
            c.loop-place.latest)
            w.in_default.ensures.none before.latest);
      }
    ]

pub returns-clause-reaches : goal.returns-clause-reaches
returns-clause-reaches c = λ q p r x y l m.
    c.loop-place.invariant.sessions.reaches q p r x y l (omega (arith, m, c.loop-place-test.false))
