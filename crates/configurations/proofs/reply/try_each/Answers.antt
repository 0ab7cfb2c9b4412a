use Rattle.std.proofs.Common.{◌∙◌, arith, inl, inr, subst, sym}
use Rattle.std.proofs.lemmas.Bool.{cases_eq, cases_lt, false≢true}
use Rattle.configurations.specs.Configs.{IsTried}
use Rattle.configurations.proofs.Replying.{kept_both, still_tried}
use Rattle.configurations.proofs.reply.try_each.Goals as goal

pub loop-slot-preserved : goal.loop-slot-preserved
loop-slot-preserved g c =
    let t = c.args.table.now in
    let now = c.loop-slot.lists in
    let after = c.try_slot.new.lists in
    let kept = c.in_ok-try_slot.ensures.kept in
    record {
      apart = c.in_ok-try_slot.ensures.apart;
      kept =
          kept_both c.args.lists.now.work c.args.lists.now.next now.work now.next after.work after.next
          c.loop-slot.invariant.kept kept;
      tried = λ q lt b. elim (cases_eq q c.in-Some.slot) [
        | inl e ↦
            subst (λ x. IsTried t c.args.config.now x c.args.reply after.work after.next) (sym e)
            c.in_ok-try_slot.ensures.goes
        | inr n ↦ elim (cases_lt q c.loop-slot.at) [
          | inl below ↦
              still_tried t c.args.config.now q c.args.reply now.work now.next after.work after.next kept
              (c.loop-slot.invariant.tried q below b)
          | inr above ↦ absurd (false≢true (sym (c.in-Some.ensures.4 q above (omega (arith, lt, n))) ∙ b))
        ]
      ];
    }

pub returns-clause-goes : goal.returns-clause-goes
returns-clause-goes g c = λ q b. elim (cases_lt q c.loop-slot.at) [
  | inl below ↦ c.loop-slot.invariant.tried q below b
  | inr above ↦ absurd (false≢true (sym (c.in_default.ensures q above) ∙ b))
]
