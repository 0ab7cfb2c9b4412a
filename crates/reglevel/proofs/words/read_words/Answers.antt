-- The level, the number and the flags that the getters read are those that the parser promises, and the
-- settings have them.
use Rattle.std.proofs.Common.{◌≡◌, ◌∙◌, ap, arith, codes, is_some, map, refl, string_bytes, subst, sym}
use Rattle.std.proofs.Common.{IsSome, None, Option, Some}
use Rattle.std.proofs.lemmas.Option.{same_Some}
use Rattle.clap.specs.Words.{ReadsOne}
use Rattle.clap.proofs.TakesLemmas.{passed_up}
use Rattle.command_words.specs.declared.fault.WordsFault.{WordsFault}
use Rattle.command_words.specs.Words.{text_given, IsFaultless, IsTaken}
use Rattle.command_words.proofs.Found.{file_found, text_named}
use Rattle.command_words.proofs.Numbers.{signed_is, signed_is_some}
use Rattle.level_report.specs.declared.settings.Settings.{Settings}
use Rattle.report_text.specs.Level.Words.{required_word, IsLevelRead}
use Rattle.report_text.specs.declared.level.report.Required.{Required}
use Rattle.reglevel.specs.Words.{command_line}
use Rattle.reglevel.proofs.Named.{level_named}
use Rattle.reglevel.proofs.Numbers.{require_found, workers_found}
use Rattle.reglevel.proofs.words.read_words.Goals as goal

-- a level is read where the text is that of one
some_level : (text : _) (level : Required) → text ≡ required_word level → (r : Option Required)
    → ReadsOne IsLevelRead text r → IsSome r
some_level text level is (Some l) reads = refl
some_level text level is None reads = absurd (reads.1 level is)

pub returns-in_err-matches-clause-taken : goal.returns-in_err-matches-clause-taken
returns-in_err-matches-clause-taken c =
    passed_up c.from_residual-in_err-matches.result c.in_err-matches.field-0.0
    (λ fault. IsTaken (command_line c.args.levels) (map string_bytes c.args.words.now)
    → fault ≡ WordsFault.Memory)
    c.from_residual-in_err-matches.ensures.1
    (λ taken. c.in_err-matches.ensures.taken (subst (λ app. IsTaken app (map string_bytes c.args.words.now))
    (sym c.in_ok-command.ensures) taken))

pub unwrap-required-requires : goal.unwrap-required-requires
unwrap-required-requires c =
    let read = c.in_ok-matches.ensures in
    let has =
    require_found c.args.levels _ _ (map string_bytes c.args.words.now) read.parsed c.in_ok-command.ensures
    read.rows in
    let level = level_named c.args.levels has.text c.requires has.accepted in
    some_level has.text level.0 level.1 c.get_one.result (c.get_one.ensures.value has.text has.found_text)

pub unwrap-workers-requires : goal.unwrap-workers-requires
unwrap-workers-requires c =
    let read = c.in_ok-matches.ensures in
    signed_is_some
    (workers_found c.args.levels _ _ (map string_bytes c.args.words.now) read.parsed c.in_ok-command.ensures
    read.rows)
    (omega arith) c.get_one-2.result c.get_one-2.ensures.value

pub unwrap-requires : goal.unwrap-requires
unwrap-requires c =
    let read = c.in_ok-matches.ensures in
    let workers =
    signed_is (workers_found c.args.levels _ _ (map string_bytes c.args.words.now) read.parsed
    c.in_ok-command.ensures read.rows) (omega arith)
    c.get_one-2.result c.get_one-2.ensures.value c.unwrap-workers.result c.unwrap-workers.ensures in
    ap is_some (c.new.ensures.some workers.1 workers.2)

pub returns-clause-file : goal.returns-clause-file
returns-clause-file c =
    let read = c.in_ok-matches.ensures in
    c.in_ok-file_in.ensures
    ∙ file_found _ _ (command_line c.args.levels) (map string_bytes c.args.words.now) c.in_ok-command.ensures
    read.rows

pub returns-clause-required : goal.returns-clause-required
unfolding text_given
returns-clause-required c =
    let read = c.in_ok-matches.ensures in
    let words = map string_bytes c.args.words.now in
    let has = require_found c.args.levels _ _ words read.parsed c.in_ok-command.ensures read.rows in
    let workers =
    signed_is (workers_found c.args.levels _ _ words read.parsed c.in_ok-command.ensures read.rows)
    (omega arith)
    c.get_one-2.result c.get_one-2.ensures.value c.unwrap-workers.result c.unwrap-workers.ensures in
    let is = same_Some _ _ (sym c.unwrap.ensures ∙ c.new.ensures.some workers.1 workers.2) in
    let given = text_named _ _ (command_line c.args.levels) words c.in_ok-command.ensures read.rows
    (codes "require") in
    let level = subst (ReadsOne IsLevelRead has.text) c.unwrap-required.ensures
    (c.get_one.ensures.value has.text has.found_text) in
    ap (λ (s : Settings). Some (required_word s.required)) is ∙ ap Some (sym level) ∙ sym has.found_text
    ∙ given

pub returns-clause-workers : goal.returns-clause-workers
returns-clause-workers c =
    let read = c.in_ok-matches.ensures in
    let workers =
    signed_is (workers_found c.args.levels _ _ (map string_bytes c.args.words.now) read.parsed
    c.in_ok-command.ensures read.rows) (omega arith)
    c.get_one-2.result c.get_one-2.ensures.value c.unwrap-workers.result c.unwrap-workers.ensures in
    let is = same_Some _ _ (sym c.unwrap.ensures ∙ c.new.ensures.some workers.1 workers.2) in
    ap (λ (s : Settings). Some s.workers) is ∙ workers.0

pub returns-clause-stale : goal.returns-clause-stale
unfolding text_given
returns-clause-stale c =
    let read = c.in_ok-matches.ensures in
    let words = map string_bytes c.args.words.now in
    let workers =
    signed_is (workers_found c.args.levels _ _ words read.parsed c.in_ok-command.ensures read.rows)
    (omega arith)
    c.get_one-2.result c.get_one-2.ensures.value c.unwrap-workers.result c.unwrap-workers.ensures in
    let is = ap (λ (s : Settings). s.asked.stale)
    (same_Some _ _ (sym c.unwrap.ensures ∙ c.new.ensures.some workers.1 workers.2)) in
    let given = text_named _ _ (command_line c.args.levels) words c.in_ok-command.ensures read.rows
    (codes "stale") in
    let flag = c.get_flag.ensures in
    (λ e. is ∙ flag.value (given ∙ e), λ e. is ∙ flag.other (given ∙ e), λ e. is ∙ flag.none (given ∙ e))

pub returns-clause-orders : goal.returns-clause-orders
unfolding text_given
returns-clause-orders c =
    let read = c.in_ok-matches.ensures in
    let words = map string_bytes c.args.words.now in
    let workers =
    signed_is (workers_found c.args.levels _ _ words read.parsed c.in_ok-command.ensures read.rows)
    (omega arith)
    c.get_one-2.result c.get_one-2.ensures.value c.unwrap-workers.result c.unwrap-workers.ensures in
    let is = ap (λ (s : Settings). s.asked.orders)
    (same_Some _ _ (sym c.unwrap.ensures ∙ c.new.ensures.some workers.1 workers.2)) in
    let given = text_named _ _ (command_line c.args.levels) words c.in_ok-command.ensures read.rows
    (codes "orders") in
    let flag = c.get_flag-2.ensures in
    (λ e. is ∙ flag.value (given ∙ e), λ e. is ∙ flag.other (given ∙ e), λ e. is ∙ flag.none (given ∙ e))

pub returns-clause-faultless : goal.returns-clause-faultless
returns-clause-faultless c =
    subst (λ app. IsFaultless app (map string_bytes c.args.words.now)) c.in_ok-command.ensures
    c.in_ok-matches.ensures.faultless
