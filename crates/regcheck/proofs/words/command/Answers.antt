-- Each call of `arg` adds the rule of its argument.
use Rattle.std.proofs.Common.{◌≡◌, ◌∙◌, ap₂, codes, rules}
use Rattle.std.proofs.lemmas.Result.{IfOk-weaker}
use Rattle.clap.specs.Words.{app_of, rule_of, with_rule}
use Rattle.command_words.specs.Words.{file_rule, program}
use Rattle.regcheck.specs.Words.{cut_rule, first_rule, workers_rule}
use Rattle.regcheck.proofs.words.command.Goals as goal

pub returns : goal.returns
returns c =
    let workers_is : rule_of c.help.result ≡ workers_rule = search rules in
    let cut_is : rule_of c.help-2.result ≡ cut_rule = search rules in
    let named = program (codes "regcheck") in
    let begun : app_of c.after_help.result ≡ named = search rules in
    let with_file : app_of c.in_ok-arg.field-0 ≡ with_rule named file_rule =
    c.in_ok-arg.ensures.shape c.file.ensures.local ∙ ap₂ with_rule begun c.file.ensures.rule in
    let with_workers : app_of c.in_ok-arg-2.field-0 ≡ with_rule (with_rule named file_rule) workers_rule =
    c.in_ok-arg-2.ensures.shape (search rules) ∙ ap₂ with_rule with_file workers_is in
    let with_cut : app_of c.in_ok-arg-3.field-0
    ≡ with_rule (with_rule (with_rule named file_rule) workers_rule) cut_rule =
    c.in_ok-arg-3.ensures.shape (search rules) ∙ ap₂ with_rule with_workers cut_is in
    let first_is : rule_of c.help-3.result ≡ first_rule = search rules in
    IfOk-weaker c.arg-4.result _ _ (λ command added. added.shape (search rules)
    ∙ ap₂ with_rule with_cut first_is) c.arg-4.ensures
