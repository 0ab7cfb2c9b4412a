-- A word that the option takes is that of a level.
use Rattle.std.proofs.Common.{◌≡◌, ◌||◌, ◌∙◌, ap, map, refl, subst, sym, Bool, List, [], ◌∷◌, false, true}
use Rattle.std.proofs.Common.{Bor, true≢false}
use Rattle.std.specs.List.{list_any}
use Rattle.std.specs.Str.{bytes_eq}
use Rattle.std.proofs.lemmas.Slice.Eq.{bytes_eq-Decides}
use Rattle.clap.specs.Words.{Text}
use Rattle.report_text.specs.Level.Words.{required_word}
use Rattle.report_text.specs.declared.level.report.Required.{Required}
use Rattle.reglevel.specs.Words.{all_levels, AreLevelWords, Borrowed}

abbrev is_word : Text → Text → Bool
is_word text word = bytes_eq word text

any_now : (text : Text) (words : List (Bor Text))
    → list_any (λ (word : Bor Text). bytes_eq word.now text) words
    ≡ list_any (is_word text) (map (λ (word : Bor Text). word.now) words)
any_now text [] = refl
any_now text (word ∷ words) = ap (λ b. bytes_eq word.now text || b) (any_now text words)

found_among : (levels : List Required) (text : Text)
    → list_any (is_word text) (map required_word levels) ≡ true
    → (level : Required) × (text ≡ required_word level)
found_among [] text any = absurd (true≢false (sym any))
found_among (level ∷ levels) text any =
    go (bytes_eq (required_word level) text) refl (found_among levels text)
  where
    go : (b : Bool) → bytes_eq (required_word level) text ≡ b
        → (list_any (is_word text) (map required_word levels) ≡ true
        → (l : Required) × (text ≡ required_word l))
        → (l : Required) × (text ≡ required_word l)
    go true is rest = (level, sym ((bytes_eq-Decides _ _).0 is))
    go false is rest = rest (rw is at any)

pub level_named : (words : Borrowed) (text : Text) → AreLevelWords words
    → list_any (λ (word : Bor Text). bytes_eq word.now text) words.now ≡ true
    → (level : Required) × (text ≡ required_word level)
level_named words text are any =
    found_among all_levels text
    (subst (λ ws. list_any (is_word text) ws ≡ true) are (sym (any_now text words.now) ∙ any))
