-- The numbers and the flag that the getters read are those that the
-- parser promises, and the settings have them.
use Rattle.std.proofs.Common.{◌≡◌, ◌∙◌, ap, arith, codes, map, string_bytes, subst, Option, Some}
use Rattle.std.specs.Prelude.{IfSome}
use Rattle.reg_report.specs.Pieces.Settings.{SettingsShown}
use Rattle.command_words.proofs.Found.{file_found, text_named}
use Rattle.command_words.proofs.Numbers.{signed_is, signed_is_some}
use Rattle.command_words.specs.Words.{text_given}
use Rattle.regcheck.specs.Words.{command_line}
use Rattle.regcheck.proofs.Numbers.{cut_found, workers_found}
use Rattle.regcheck.proofs.words.read_words.Goals as goal

settings_are : (made : Option SettingsShown) (settings given : SettingsShown) → IfSome made (λ s. s ≡ given)
    → made ≡ Some settings → settings ≡ given
settings_are made settings given some is = subst (λ o. IfSome o (λ s. s ≡ given)) is some

pub unwrap-workers-requires : goal.unwrap-workers-requires
unwrap-workers-requires c =
    let read = c.in_ok-matches.ensures in
    signed_is_some
    (workers_found _ _ (map string_bytes c.args.words.now) read.parsed c.in_ok-command.ensures read.rows)
    (omega arith) c.get_one.result c.get_one.ensures.value

pub unwrap-cut-requires : goal.unwrap-cut-requires
unwrap-cut-requires c =
    let read = c.in_ok-matches.ensures in
    signed_is_some
    (cut_found _ _ (map string_bytes c.args.words.now) read.parsed c.in_ok-command.ensures read.rows)
    (omega arith) c.get_one-2.result c.get_one-2.ensures.value

pub unwrap-requires : goal.unwrap-requires
unwrap-requires c =
    let read = c.in_ok-matches.ensures in
    let workers =
    signed_is (workers_found _ _ (map string_bytes c.args.words.now) read.parsed c.in_ok-command.ensures
    read.rows) (omega arith)
    c.get_one.result c.get_one.ensures.value c.unwrap-workers.result c.unwrap-workers.ensures in
    let cut =
    signed_is (cut_found _ _ (map string_bytes c.args.words.now) read.parsed c.in_ok-command.ensures
    read.rows) (omega arith)
    c.get_one-2.result c.get_one-2.ensures.value c.unwrap-cut.result c.unwrap-cut.ensures in
    c.new.ensures.limits.1 (workers.1, workers.2, cut.1, cut.2)

pub returns-clause-file : goal.returns-clause-file
returns-clause-file c =
    let read = c.in_ok-matches.ensures in
    c.in_ok-file_in.ensures
    ∙ file_found _ _ command_line (map string_bytes c.args.words.now) c.in_ok-command.ensures read.rows

pub returns-clause-workers : goal.returns-clause-workers
returns-clause-workers c =
    let read = c.in_ok-matches.ensures in
    let workers =
    signed_is (workers_found _ _ (map string_bytes c.args.words.now) read.parsed c.in_ok-command.ensures
    read.rows) (omega arith)
    c.get_one.result c.get_one.ensures.value c.unwrap-workers.result c.unwrap-workers.ensures in
    ap (λ (s : SettingsShown). Some s.workers) (settings_are _ _ _ c.new.ensures.some c.unwrap.ensures)
    ∙ workers.0

pub returns-clause-cut : goal.returns-clause-cut
returns-clause-cut c =
    let read = c.in_ok-matches.ensures in
    let cut =
    signed_is (cut_found _ _ (map string_bytes c.args.words.now) read.parsed c.in_ok-command.ensures
    read.rows) (omega arith)
    c.get_one-2.result c.get_one-2.ensures.value c.unwrap-cut.result c.unwrap-cut.ensures in
    ap (λ (s : SettingsShown). Some s.cut) (settings_are _ _ _ c.new.ensures.some c.unwrap.ensures) ∙ cut.0

pub returns-clause-first : goal.returns-clause-first
unfolding text_given
returns-clause-first c =
    let read = c.in_ok-matches.ensures in
    let words = map string_bytes c.args.words.now in
    let given = text_named _ _ command_line words c.in_ok-command.ensures read.rows (codes "first") in
    let flag = c.get_flag.ensures in
    let is = ap (λ (s : SettingsShown). s.first) (settings_are _ _ _ c.new.ensures.some c.unwrap.ensures) in
    (λ e. is ∙ flag.value (given ∙ e), λ e. is ∙ flag.other (given ∙ e), λ e. is ∙ flag.none (given ∙ e))
