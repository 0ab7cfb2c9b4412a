-- The numbers that the getters read are those that the parser promises, and the settings have them.
use Rattle.std.proofs.Common.{◌≤◌, ◌∙◌, ap, arith, is_some, map, string_bytes, subst, sym, Some}
use Rattle.std.proofs.lemmas.Option.{same_Some}
use Rattle.configurations.specs.declared.bounds.TheConstants.{MAX_CONFIGURATIONS, MAX_STEPS}
use Rattle.search_report.specs.declared.settings.Settings.{Settings}
use Rattle.command_words.proofs.Found.{file_found}
use Rattle.command_words.proofs.Numbers.{unsigned_is, unsigned_is_some}
use Rattle.regsearch.specs.Words.{command_line}
use Rattle.regsearch.proofs.Numbers.{configurations_found, steps_found, workers_found}
use Rattle.regsearch.proofs.words.read_words.Goals as goal

pub unwrap-workers-requires : goal.unwrap-workers-requires
unwrap-workers-requires c =
    let read = c.in_ok-matches.ensures in
    unsigned_is_some
    (workers_found _ _ (map string_bytes c.args.words.now) read.parsed c.in_ok-command.ensures read.rows)
    c.get_one.result c.get_one.ensures.value

pub unwrap-steps-requires : goal.unwrap-steps-requires
unwrap-steps-requires c =
    let read = c.in_ok-matches.ensures in
    unsigned_is_some
    (steps_found _ _ (map string_bytes c.args.words.now) read.parsed c.in_ok-command.ensures read.rows)
    c.get_one-2.result c.get_one-2.ensures.value

pub unwrap-configurations-requires : goal.unwrap-configurations-requires
unwrap-configurations-requires c =
    let read = c.in_ok-matches.ensures in
    unsigned_is_some
    (configurations_found _ _ (map string_bytes c.args.words.now) read.parsed c.in_ok-command.ensures
    read.rows)
    c.get_one-3.result c.get_one-3.ensures.value

pub overflow_cast-workers : goal.overflow_cast-workers
overflow_cast-workers c =
    let read = c.in_ok-matches.ensures in
    let workers =
    unsigned_is (workers_found _ _ (map string_bytes c.args.words.now) read.parsed c.in_ok-command.ensures
    read.rows)
    c.get_one.result c.get_one.ensures.value c.unwrap-workers.result c.unwrap-workers.ensures in
    omega (arith, workers.2)

pub unwrap-requires : goal.unwrap-requires
unwrap-requires c =
    let read = c.in_ok-matches.ensures in
    let workers =
    unsigned_is (workers_found _ _ (map string_bytes c.args.words.now) read.parsed c.in_ok-command.ensures
    read.rows)
    c.get_one.result c.get_one.ensures.value c.unwrap-workers.result c.unwrap-workers.ensures in
    ap is_some (c.new.ensures.some workers.1 workers.2)

pub returns-clause-file : goal.returns-clause-file
returns-clause-file c =
    let read = c.in_ok-matches.ensures in
    c.in_ok-file_in.ensures
    ∙ file_found _ _ command_line (map string_bytes c.args.words.now) c.in_ok-command.ensures read.rows

pub returns-clause-workers : goal.returns-clause-workers
returns-clause-workers c =
    let read = c.in_ok-matches.ensures in
    let workers =
    unsigned_is (workers_found _ _ (map string_bytes c.args.words.now) read.parsed c.in_ok-command.ensures
    read.rows)
    c.get_one.result c.get_one.ensures.value c.unwrap-workers.result c.unwrap-workers.ensures in
    let is = same_Some _ _ (sym c.unwrap.ensures ∙ c.new.ensures.some workers.1 workers.2) in
    ap (λ (s : Settings). Some s.workers) is ∙ workers.0

pub returns-clause-steps : goal.returns-clause-steps
returns-clause-steps c =
    let read = c.in_ok-matches.ensures in
    let workers =
    unsigned_is (workers_found _ _ (map string_bytes c.args.words.now) read.parsed c.in_ok-command.ensures
    read.rows)
    c.get_one.result c.get_one.ensures.value c.unwrap-workers.result c.unwrap-workers.ensures in
    let steps =
    unsigned_is (steps_found _ _ (map string_bytes c.args.words.now) read.parsed c.in_ok-command.ensures
    read.rows)
    c.get_one-2.result c.get_one-2.ensures.value c.unwrap-steps.result c.unwrap-steps.ensures in
    let is = same_Some _ _ (sym c.unwrap.ensures ∙ c.new.ensures.some workers.1 workers.2) in
    ap (λ (s : Settings). Some s.bounds.steps) is ∙ steps.0

pub returns-clause-configurations : goal.returns-clause-configurations
returns-clause-configurations c =
    let read = c.in_ok-matches.ensures in
    let workers =
    unsigned_is (workers_found _ _ (map string_bytes c.args.words.now) read.parsed c.in_ok-command.ensures
    read.rows)
    c.get_one.result c.get_one.ensures.value c.unwrap-workers.result c.unwrap-workers.ensures in
    let configurations =
    unsigned_is (configurations_found _ _ (map string_bytes c.args.words.now) read.parsed
    c.in_ok-command.ensures read.rows)
    c.get_one-3.result c.get_one-3.ensures.value c.unwrap-configurations.result
    c.unwrap-configurations.ensures in
    let is = same_Some _ _ (sym c.unwrap.ensures ∙ c.new.ensures.some workers.1 workers.2) in
    ap (λ (s : Settings). Some s.bounds.configurations) is ∙ configurations.0

pub returns-clause-steps_limits : goal.returns-clause-steps_limits
returns-clause-steps_limits c =
    let read = c.in_ok-matches.ensures in
    let workers =
    unsigned_is (workers_found _ _ (map string_bytes c.args.words.now) read.parsed c.in_ok-command.ensures
    read.rows)
    c.get_one.result c.get_one.ensures.value c.unwrap-workers.result c.unwrap-workers.ensures in
    let steps =
    unsigned_is (steps_found _ _ (map string_bytes c.args.words.now) read.parsed c.in_ok-command.ensures
    read.rows)
    c.get_one-2.result c.get_one-2.ensures.value c.unwrap-steps.result c.unwrap-steps.ensures in
    let is = same_Some _ _ (sym c.unwrap.ensures ∙ c.new.ensures.some workers.1 workers.2) in
    subst (λ (s : Settings). (1 ≤ s.bounds.steps) × (s.bounds.steps ≤ MAX_STEPS)) (sym is) (steps.1, steps.2)

pub returns-clause-configurations_limits : goal.returns-clause-configurations_limits
returns-clause-configurations_limits c =
    let read = c.in_ok-matches.ensures in
    let workers =
    unsigned_is (workers_found _ _ (map string_bytes c.args.words.now) read.parsed c.in_ok-command.ensures
    read.rows)
    c.get_one.result c.get_one.ensures.value c.unwrap-workers.result c.unwrap-workers.ensures in
    let configurations =
    unsigned_is (configurations_found _ _ (map string_bytes c.args.words.now) read.parsed
    c.in_ok-command.ensures read.rows)
    c.get_one-3.result c.get_one-3.ensures.value c.unwrap-configurations.result
    c.unwrap-configurations.ensures in
    let is = same_Some _ _ (sym c.unwrap.ensures ∙ c.new.ensures.some workers.1 workers.2) in
    subst (λ (s : Settings). (1 ≤ s.bounds.configurations) × (s.bounds.configurations ≤ MAX_CONFIGURATIONS))
    (sym is) (configurations.1, configurations.2)
