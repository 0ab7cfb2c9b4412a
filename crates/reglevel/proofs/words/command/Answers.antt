-- Each call of `arg` adds the rule of its argument.
use Rattle.std.proofs.Common.{◌≡◌, ◌∙◌, ap₂, codes, rules}
use Rattle.std.proofs.lemmas.Result.{IfOk-weaker}
use Rattle.clap.specs.Words.{app_of, rule_of, with_rule}
use Rattle.command_words.specs.Words.{file_rule, flag_rule, program}
use Rattle.reglevel.specs.Words.{require_rule, workers_rule}
use Rattle.reglevel.proofs.words.command.Goals as goal

pub returns : goal.returns
returns c =
    let require_is : rule_of c.help.result ≡ require_rule c.args.levels = search rules in
    let workers_is : rule_of c.help-2.result ≡ workers_rule = search rules in
    let stale_is : rule_of c.help-3.result ≡ flag_rule (codes "stale") = search rules in
    let orders_is : rule_of c.help-4.result ≡ flag_rule (codes "orders") = search rules in
    let named = program (codes "reglevel") in
    let with_file : app_of c.in_ok-arg.field-0 ≡ with_rule named file_rule =
    c.in_ok-arg.ensures.shape c.file.ensures.local ∙ ap₂ with_rule c.named.ensures c.file.ensures.rule in
    let with_require : app_of c.in_ok-arg-2.field-0
    ≡ with_rule (with_rule named file_rule) (require_rule c.args.levels) =
    c.in_ok-arg-2.ensures.shape (search rules) ∙ ap₂ with_rule with_file require_is in
    let with_workers : app_of c.in_ok-arg-3.field-0
    ≡ with_rule (with_rule (with_rule named file_rule) (require_rule c.args.levels)) workers_rule =
    c.in_ok-arg-3.ensures.shape (search rules) ∙ ap₂ with_rule with_require workers_is in
    let with_stale = c.in_ok-arg-4.ensures.shape (search rules) ∙ ap₂ with_rule with_workers stale_is in
    IfOk-weaker c.arg-5.result _ _ (λ command added. added.shape (search rules)
    ∙ ap₂ with_rule with_stale orders_is) c.arg-5.ensures
