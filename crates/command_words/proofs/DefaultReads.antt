-- A parse gives an argument with a default a text that the argument's parser takes.
use Rattle.std.proofs.Common.{◌≡◌, ◌∙◌, ◌<◌, ◌≤◌, ap, ℕ, suc, zero, Bool, true, false, List, [], ◌∷◌, length}
use Rattle.std.proofs.Common.{Some, refl, sym, subst, inl, inr, arith, find, option_map, slice_get}
use Rattle.std.specs.Borrow.{Bor}
use Rattle.std.specs.List.{All, slice_index_or}
use Rattle.std.specs.Str.{bytes_eq}
use Rattle.std.proofs.lemmas.List.Elements.{All-get_or}
use Rattle.std.proofs.lemmas.Slice.Eq.{bytes_eq-Decides}
use Rattle.clap.specs.Built.{IsAuto, IsParsedFrom, NamesNoGroup, SameRules}
use Rattle.clap.specs.Facts.{Entry, EntryPasses, HasIn, PassesArg, args_of}
use Rattle.clap.specs.Facts.{groups_of, least_values, parser_of_value}
use Rattle.clap.specs.Matches.{found_of, matched_of, one_text}
use Rattle.clap.specs.Simple.{IsSimple}
use Rattle.clap.specs.Texts.{items_of}
use Rattle.clap.specs.Values.{Accepts, read_as, reading_of}
use Rattle.clap.specs.declared.builder.action.ArgAction.TheVariants.{Count, Set}
use Rattle.clap.specs.declared.builder.arg.Arg.{Arg}
use Rattle.clap.specs.declared.builder.command.Command.{Command}
use Rattle.clap.specs.declared.builder.value_parser.Reading.{Reading}
use Rattle.clap.specs.declared.builder.value_parser.ValueParser.{ValueParser}
use Rattle.clap.specs.declared.parser.matches.ArgMatches.{ArgMatches}
use Rattle.clap.specs.declared.parser.matches.Found.{Found}
use Rattle.clap.proofs.CallerLemmas.{default_present, entry_by_id, same_rules_by_id}

-- where an entry has the id, one is found
found_entry : (xs : List Entry) (id : List ℕ) → HasIn xs id
    → (e : Entry) × (find (λ e. bytes_eq e.0.now id) xs ≡ Some e)
found_entry [] id has = absurd (omega arith)
found_entry (x ∷ xs) id has = go (bytes_eq x.0.now id) refl (λ rest. found_entry xs id rest)
  where
    later : (i : ℕ) → i < suc (length xs) → bytes_eq x.0.now id ≡ false
        → ((d : Entry) → bytes_eq (slice_index_or (x ∷ xs) i d).0.now id ≡ true) → HasIn xs id
    later zero lt other same =
        let bad : false ≡ true = rw other at same x in
        cc
    later (suc i) lt other same = (i, omega arith, same)

    go : (b : Bool) → bytes_eq x.0.now id ≡ b
        → (HasIn xs id → (e : Entry) × (find (λ e. bytes_eq e.0.now id) xs ≡ Some e))
        → (e : Entry) × (find (λ e. bytes_eq e.0.now id) (x ∷ xs) ≡ Some e)
    go true is rest = (x, rw is refl)
    go false is rest =
        let e = rest (later has.0 has.1 is has.2) in
        (e.0, rw is e.1)

-- the entry of the id, with what holds of each entry
entry_of : (P : Entry → Type 0) (found : Found) (id : List ℕ) → All P found.entries.items
    → HasIn found.entries.items id
    → (e : Entry) × (matched_of found id ≡ Some e.1) × (e.0.now ≡ id) × P e
entry_of P found id all has =
    let e = found_entry found.entries.items id has in
    let at : matched_of found id ≡ Some e.0.1 = ap (option_map (λ (x : Entry). x.1)) e.1 in
    let kept = entry_by_id P found.entries.items id e.0.1 all at in
    (kept.0, at ∙ ap Some (sym kept.1), (bytes_eq-Decides _ _).0 kept.2, kept.3)

-- the first of some values, of which each passes
first_text : (P : Bor (List ℕ) → Type 0) (how : Reading) (vals : List (Bor (List ℕ))) → 0 < length vals
    → All P vals
    → (v : Bor (List ℕ))
    × (option_map (λ s. read_as how s.now) (slice_get vals 0) ≡ Some (read_as how v.now)) × P v
first_text P how [] some all = absurd (omega arith)
first_text P how (v ∷ vals) some all = (v, refl, All-get_or P (v ∷ vals) 0 v (omega arith) all)

-- of the argument at place k, whose id no other has
module _ (old : Command) (m : ArgMatches) (p : IsParsedFrom old m) (simple : IsSimple old)
    (apart : NamesNoGroup old) (k : ℕ) (d : Arg) where
  abbrev arg : Arg
  arg = slice_index_or (args_of old) k d

  abbrev id : List ℕ
  id = arg.id.now

  -- the arguments of the built command with this id have its rules
  abbrev AreOurs : Type 0
  AreOurs =
      (j : ℕ) (x : Arg) → j < length (args_of p.built) → slice_index_or (args_of p.built) j x ≡ x
      → bytes_eq x.id.now id ≡ true → SameRules arg x

  no_groups : groups_of p.built ≡ []
  no_groups = (p.from.same_groups apart).1 ∙ simple.groups

  no_group_entry : (e : Entry) → e.0.now ≡ id → (id ≡ [] → ⊥) → EntryPasses p.built e
      → e.1.is_group ≡ true → ⊥
  no_group_entry e is named passes group = elim (passes.3 group) [
    | inl empty ↦ named (sym is ∙ empty)
    | inr lots ↦
        let bad : 0 < 0 = rw no_groups at lots in
        absurd (omega arith)
  ]

  -- the entry has a value
  some_value : AreOurs → arg.action ≡ Some Set → 1 ≤ least_values arg → (e : Entry) → e.0.now ≡ id
      → (e.1.is_group ≡ true → ⊥)
      → k < length (args_of old) → EntryPasses p.built e → 0 < length e.1.vals.items
  some_value ours set least e is not_group lt passes = elim passes.1 [
    | inl group ↦ absurd (not_group group.0)
    | inr (inl some) ↦ some
    | inr (inr (inl counts)) ↦
        let any = counts.1 in
        let same = ours any.0 any.1 any.2 any.3 (rw is at any.4.0) in
        let bad : Set ≡ Count = rw (same.action Set set) at any.4.1 in
        cc
    | inr (inr (inr none)) ↦
        let same = ours none.0 none.1 none.2 none.3 (rw is at none.4.0) in
        elim none.4.1 [
          | inl zero_values ↦
              let one = same.least set least in
              absurd (omega arith)
          | inr splits ↦
              let bad : false ≡ true = rw (same.val_delim, (simple.args k d lt).delimiter) at splits in
              cc
        ]
  ]

  -- and reads it as its parser says
  reads_as : AreOurs → (q : ValueParser) → arg.value_parser ≡ Some q → (e : Entry) → e.0.now ≡ id
      → (e.1.is_group ≡ true → ⊥)
      → EntryPasses p.built e → e.1.reading ≡ reading_of q
  reads_as ours q parser e is not_group passes = elim passes.4 [
    | inl group ↦ absurd (not_group group)
    | inr any ↦
        let same = ours any.0 any.1 any.2 any.3 (rw is at any.4.0) in
        sym any.4.1 ∙ ap (λ o. reading_of (parser_of_value o)) (same.parser q parser)
  ]

  -- a value that passes an argument with this id passes its parser
  accepts_as : AreOurs → (q : ValueParser) → arg.value_parser ≡ Some q → (text : List ℕ)
      → PassesArg p.built id text → Accepts arg.ignore_case q text
  accepts_as ours q parser text any =
      let same = ours any.0 any.1 any.2 any.3 any.4.0 in
      rw (same.ignore_case, same.parser q parser) at any.4.1

  all_accepted : (e : Entry) → e.0.now ≡ id → (e.1.is_group ≡ true → ⊥) → EntryPasses p.built e
      → All (λ v. PassesArg p.built id v.now) e.1.vals.items
  all_accepted e is not_group passes = elim passes.0 [
    | inl group ↦ absurd (not_group group)
    | inr all ↦ subst (λ (w : List ℕ). All (λ v. PassesArg p.built w v.now) e.1.vals.items) is all
  ]

  -- the text of the argument, given or by default
  pub default_reads : k < length (args_of old)
      → ((j : ℕ) (x : Arg) → j < length (args_of old)
      → bytes_eq (slice_index_or (args_of old) j x).id.now id ≡ true → j ≡ k)
      → (id ≡ [] → ⊥) → (IsAuto arg → ⊥) → 0 < length (items_of arg.default_vals) → arg.action ≡ Some Set
      → 1 ≤ least_values arg
      → (q : ValueParser) → arg.value_parser ≡ Some q
      → (text : List ℕ) × (one_text (found_of m) id ≡ Some (read_as (reading_of q) text))
      × Accepts arg.ignore_case q text
  default_reads lt unique named own default set least q parser =
      let parsed = p.parsed (p.from.globals ∙ simple.globals) in
      let has = default_present old m p simple.globals k d lt ((simple.args k d lt).default_ifs, default) in
      let ours : AreOurs = same_rules_by_id old m p k d lt unique own in
      let e = entry_of (EntryPasses p.built) (found_of m) id parsed.values has in
      let not_group = no_group_entry e.0 e.2 named e.3 in
      let some = some_value ours set least e.0 e.2 not_group lt e.3 in
      let first =
      first_text (λ v. PassesArg p.built id v.now) e.0.1.reading e.0.1.vals.items some
      (all_accepted e.0 e.2 not_group e.3) in
      let how = reads_as ours q parser e.0 e.2 not_group e.3 in
      (first.0.now, rw (e.1, ← how) first.1, accepts_as ours q parser first.0.now first.2)
