-- An option with a number has a text of one, and reads as that number.
use Rattle.std.proofs.Common.{◌≡◌, ◌∙◌, ◌<◌, ◌≤◌, ◌^◌, ap, arith, codes, inl, inr, length, map, option_map}
use Rattle.std.proofs.Common.{pos, refl, subst, suc, sym, zero, ℕ, List, [], ◌∷◌, Bool, IsSome, Option}
use Rattle.std.proofs.Common.{Result, is_some, unwrap_or, Some, None, false, true, true≢false}
use Rattle.std.specs.List.{list_all, slice_index_or}
use Rattle.std.specs.Str.{bytes_eq}
use Rattle.std.specs.Str.Parse.{ExplainsUnsignedError, HasUnsignedDigitsIfOk, ParsesUnsigned}
use Rattle.std.specs.declared.num.ParseIntError.{ParseIntError}
use Rattle.std.proofs.lemmas.List.{get_or-map, length-map}
use Rattle.std.proofs.lemmas.Slice.Eq.{bytes_eq-Decides}
use Rattle.clap.specs.Built.{IsParsedFrom}
use Rattle.clap.specs.Facts.{args_of, unwrap_or_range}
use Rattle.clap.specs.Texts.{items_of}
use Rattle.clap.specs.Simple.{IsSimple, is_ready, is_ready_leaf}
use Rattle.clap.specs.Values.{Accepts, read_as, reading_of}
use Rattle.clap.specs.Words.{App, ReadsOne, Rule, Text, app_of, found_of, matches_of}
use Rattle.clap.specs.Words.{one_text, rows_of, rule_of, without_minus}
use Rattle.clap.specs.declared.builder.arg.Arg.{Arg}
use Rattle.clap.specs.declared.builder.command.Command.{Command}
use Rattle.clap.specs.declared.builder.value_parser.ValueParser.{ValueParser}
use Rattle.clap.specs.declared.builder.value_parser.ValueParser.TheVariants.{Signed, Unsigned}
use Rattle.clap.specs.declared.parser.matches.ArgMatches.{ArgMatches}
use Rattle.clap.specs.declared.parser.matches.Found.{Found}
use Rattle.clap.proofs.CallerReads.{signed_reads}
use Rattle.clap.proofs.SimpleLemmas.{ready_simple, simple_groups}
use Rattle.command_words.specs.Words.{number_in, number_named, option_rule}
use Rattle.command_words.proofs.DefaultReads.{default_reads}
use Rattle.command_words.proofs.Found.{text_named}

-- the option has a text that the parser takes, and it is of this number
pub record HasNumber (found : Found) (name : Text) (parser : ValueParser) (number : Option ℕ) : Type 0 where
  pub text : Text
  pub found_text : one_text found name ≡ Some (read_as (reading_of parser) text)
  pub accepted : Accepts false parser text
  pub value : number ≡ Some (number_in (read_as (reading_of parser) text))

-- ---- one place alone

abbrev pub IsNowhere : (Rule → Bool) → List Rule → Type 0
IsNowhere f [] = Unit {0}
IsNowhere f (x ∷ xs) = (f x ≡ false) × IsNowhere f xs

-- of the places from k on, it is at place k alone
abbrev pub IsOnlyAt : (Rule → Bool) → List Rule → ℕ → Type 0
IsOnlyAt f [] k = ⊥
IsOnlyAt f (x ∷ xs) zero = IsNowhere f xs
IsOnlyAt f (x ∷ xs) (suc k) = (f x ≡ false) × IsOnlyAt f xs k

nowhere : (f : Rule → Bool) (xs : List Rule) (j : ℕ) (d : Rule) → IsNowhere f xs → j < length xs
    → f (slice_index_or xs j d) ≡ true → ⊥
nowhere f [] j d none lt there = omega arith
nowhere f (x ∷ xs) zero d none lt there = true≢false (sym there ∙ none.0)
nowhere f (x ∷ xs) (suc j) d none lt there = nowhere f xs j d none.1 (omega arith) there

only_place : (f : Rule → Bool) (xs : List Rule) (k j : ℕ) (d : Rule) → IsOnlyAt f xs k → j < length xs
    → f (slice_index_or xs j d) ≡ true → j ≡ k
only_place f [] k j d only lt there = absurd only
only_place f (x ∷ xs) zero zero d only lt there = refl
only_place f (x ∷ xs) zero (suc j) d only lt there = absurd (nowhere f xs j d only (omega arith) there)
only_place f (x ∷ xs) (suc k) zero d only lt there = absurd (true≢false (sym there ∙ only.0))
only_place f (x ∷ xs) (suc k) (suc j) d only lt there =
    ap suc (only_place f xs k j d only.1 (omega arith) there)

only_within : (f : Rule → Bool) (xs : List Rule) (k : ℕ) → IsOnlyAt f xs k → k < length xs
only_within f [] k only = absurd only
only_within f (x ∷ xs) zero only = omega arith
only_within f (x ∷ xs) (suc k) only = let l = only_within f xs k only.1 in omega (arith, l)

-- ---- what is found of an option

-- the command line is one of which definitions give the matches
pub record IsReady (app : App) : Type 0 where
  pub top : is_ready app.top ≡ true
  pub leaves : list_all is_ready_leaf app.subs ≡ true
  pub simple : list_all (λ r. r.is_simple) app.top.rules ≡ true

not_same : (a b : Text) → bytes_eq a b ≡ false → a ≡ b → ⊥
not_same a b other same = true≢false (sym ((bytes_eq-Decides a b).1 same) ∙ other)

some_arg : (xs : List Arg) (k : ℕ) → k < length xs → Arg
some_arg [] k some = absurd (omega arith)
some_arg (x ∷ xs) k some = x

-- the name is none that the parser adds
pub record IsOwnName (name : Text) : Type 0 where
  pub some : bytes_eq name [] ≡ false
  pub no_help : bytes_eq name (codes "help") ≡ false
  pub no_version : bytes_eq name (codes "version") ≡ false

-- of a command whose option at place k alone has this name
module _ (old : Command) (m : ArgMatches) (app : App) (p : IsParsedFrom old m) (ours : app_of old ≡ app)
    (ready : IsReady app)
    (k : ℕ) (name : Text) (parser : ValueParser) (default : Text)
    (is : (d : Rule) → slice_index_or app.top.rules k d ≡ option_rule name parser default)
    (only : IsOnlyAt (λ r. bytes_eq r.id name) app.top.rules k) (own : IsOwnName name) where
  all_rules : map rule_of (args_of old) ≡ app.top.rules
  all_rules = ap (λ (a : App). a.top.rules) ours

  as_many : length (args_of old) ≡ length app.top.rules
  as_many = sym (length-map (args_of old) rule_of) ∙ ap length all_rules

  simple : IsSimple old
  simple =
      ready_simple old (ap (λ (a : App). is_ready a.top) ours
      ∙ ready.top) (ap (λ (a : App). list_all is_ready_leaf a.subs) ours ∙ ready.leaves)

  rule_at : (j : ℕ) (d : Arg) → j < length (args_of old)
      → rule_of (slice_index_or (args_of old) j d) ≡ slice_index_or app.top.rules j (rule_of d)
  rule_at j d lt =
      sym (get_or-map rule_of (args_of old) j d (rule_of d) lt)
      ∙ ap (λ l. slice_index_or l j (rule_of d)) all_rules

  in_args : k < length (args_of old)
  in_args = rw as_many (only_within (λ r. bytes_eq r.id name) app.top.rules k only)

  -- the option has a text that the parser takes
  text_found : (text : Text) × (one_text (found_of m) name ≡ Some (read_as (reading_of parser) text))
      × Accepts false parser text
  text_found =
      let d = some_arg (args_of old) k in_args in
      let arg = slice_index_or (args_of old) k d in
      let rule : rule_of arg ≡ option_rule name parser default = rule_at k d in_args ∙ is (rule_of d) in
      let id : arg.id.now ≡ name = ap (λ (r : Rule). r.id) rule in
      let range : arg.num_vals ≡ None = ap (λ (r : Rule). r.range) rule in
      let defaults : length (items_of arg.default_vals) ≡ 1 =
      sym (length-map (items_of arg.default_vals) (λ s. s.now))
      ∙ ap (λ (r : Rule). length r.defaults) rule in
      let case : arg.ignore_case ≡ false = ap (λ (r : Rule). r.ignore_case) rule in
      let unique : (j : ℕ) (x : Arg) → j < length (args_of old)
      → bytes_eq (slice_index_or (args_of old) j x).id.now arg.id.now ≡ true → j ≡ k =
      λ j x low same.
      let at : (slice_index_or (args_of old) j x).id.now ≡ (slice_index_or app.top.rules j (rule_of x)).id =
      ap (λ (r : Rule). r.id) (rule_at j x low) in
      only_place (λ r. bytes_eq r.id name) app.top.rules k j (rule_of x) only (rw as_many at low)
      (rw (at, id) at same) in
      let read =
      default_reads old m p simple
      (simple_groups old (ap (λ (a : App). list_all (λ r. r.is_simple) a.top.rules) ours
      ∙ ready.simple)) k d in_args unique
      (λ empty. not_same name [] own.some (sym id ∙ empty))
      (λ auto. elim auto [
        | inl h ↦ not_same name _ own.no_help (sym id ∙ h)
        | inr h ↦ not_same name _ own.no_version (sym id ∙ h)
      ])
      (rw defaults (omega arith)) (ap (λ (r : Rule). r.action) rule)
      (subst (λ o. 1 ≤ (unwrap_or_range o).start_inclusive) (sym range) (omega arith))
      parser (ap (λ (r : Rule). r.parser) rule) in (
        read.0,
        subst (λ w. one_text (found_of m) w ≡ Some (read_as (reading_of parser) read.0)) id read.1,
        subst (λ c. Accepts c parser read.0) case read.2,
      )

  pub number_found : (words : List Text) → rows_of (found_of m) ≡ matches_of (app_of old) words
      → HasNumber (found_of m) name parser (number_named app name words)
  unfolding number_named
  number_found words rows =
      let named = sym (text_named old m app words ours rows name) ∙ text_found.1 in
      record {
        text = text_found.0;
        found_text = text_found.1;
        accepted = text_found.2;
        value = ap (option_map number_in) named;
      }

-- ---- what the getters read

-- the results that an unsigned type of so many bits may read from a text
abbrev pub reads_bits : ℕ → List ℕ → Result ℕ ParseIntError → Type 0
reads_bits bits text r =
    ParsesUnsigned bits 10 text r × ExplainsUnsignedError 10 text r × HasUnsignedDigitsIfOk text r

-- as `u32`, of a parser of `i64`
module _ {found : Found} {name : Text} {most : ℕ} {number : Option ℕ}
    (has : HasNumber found name (Signed (pos 1) (pos most)) number) (fits : most < 2 ^ 32)
    (r : Option ℕ) (reads : (text : List ℕ) → one_text found name ≡ Some text
    → ReadsOne (reads_bits 32) text r) where
  read_signed : ReadsOne (reads_bits 32) (without_minus has.text) r
  read_signed = reads (without_minus has.text) has.found_text

  some_signed : (n : ℕ) × (r ≡ Some n) × (1 ≤ n) × (n ≤ most)
  some_signed =
      signed_reads ParseIntError (reads_bits 32) 32 1 most has.text r read_signed (λ text x parses.
      parses.0) fits has.accepted

  -- the getter reads some number
  pub signed_is_some : IsSome r
  signed_is_some = ap is_some some_signed.1

  -- and it is the one that is named, and in its limits
  pub signed_is : (n : ℕ) → r ≡ Some n → (Some n ≡ number) × (1 ≤ n) × (n ≤ most)
  signed_is n is =
      let same : some_signed.0 ≡ n = ap (λ o. unwrap_or o 0) (sym some_signed.1 ∙ is) in
      let parses = subst (ReadsOne (reads_bits 32) (without_minus has.text)) is read_signed in (
        ap Some parses.0.1 ∙ sym has.value,
        omega (arith, same, some_signed.2),
        omega (arith, same, some_signed.3),
      )

-- as `u64`, of a parser of `u64`
module _ {found : Found} {name : Text} {most : ℕ} {number : Option ℕ}
    (has : HasNumber found name (Unsigned 1 most) number)
    (r : Option ℕ) (reads : (text : List ℕ) → one_text found name ≡ Some text
    → ReadsOne (reads_bits 64) text r) where
  read_unsigned : ReadsOne (reads_bits 64) has.text r
  read_unsigned = reads has.text has.found_text

  -- the getter reads some number
  pub unsigned_is_some : IsSome r
  unsigned_is_some = go r refl read_unsigned
    where
      go : (o : Option ℕ) → r ≡ o → ReadsOne (reads_bits 64) has.text o → IsSome r
      go (Some n) is read = ap is_some is
      go None is read = absurd (read.1.0 (has.accepted.0, has.accepted.1))

  -- and it is the one that is named, and in its limits
  pub unsigned_is : (n : ℕ) → r ≡ Some n → (Some n ≡ number) × (1 ≤ n) × (n ≤ most)
  unsigned_is n is =
      let parses = subst (ReadsOne (reads_bits 64) has.text) is read_unsigned in
      let value : n ≡ number_in has.text = parses.0.1 in
      (ap Some value ∙ sym has.value, rw value has.accepted.2, rw value has.accepted.3)
