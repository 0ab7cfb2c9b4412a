-- One member more: what an object with it holds, and how its name and its value are lexed.
use Rattle.std.proofs.Common.{◌≡◌, ℕ, ◌≤◌, Bool, true, false, List, ◌∷◌, ◌++◌, Some}
use Rattle.std.proofs.Common.{codes, refl, sym, ap, ◌∙◌, subst, bytes_eq}
use Rattle.std.proofs.lemmas.Bool.{false≢true}
use Rattle.std.proofs.lemmas.Slice.Eq.{bytes_eq-Decides}
use Rattle.std.specs.Str.{IsUtf8}
use Rattle.json.specs.Token.{Token}
use Rattle.json.specs.Text.{content}
use Rattle.json.specs.Lex.{token, colon, lex, between}
use Rattle.json.proofs.Printed.Utf8.{are_ascii}
use Rattle.serde_json.specs.Data.{Data, boolean, string, Members, put}
use Rattle.serde_json.specs.Find.{get_member}
use Rattle.serde_json.proofs.Views.{get_member-put, get_member-put_other}
use Rattle.history_text.specs.declared.flat_members.FlatMembers.{FlatMembers}
use Rattle.history_text.specs.declared.event.Val.{Val}
use Rattle.history_text.specs.declared.event.Operations.{Operations}
use Rattle.history_text.specs.declared.event.OpWord.{OpWord}
use Rattle.history_text.specs.declared.event.EventWord.{EventWord}
use Rattle.history_text.specs.Limits.{MAX_PROCESS}
use Rattle.history_text.specs.Members.{takes}
use Rattle.history_text.specs.Flat.{Scalar, Named, HasNoOther, Holds, Adds, Passes, whole_data}
use Rattle.history_text.specs.Flat.{event_data, op_data, value_data}
use Rattle.history_text.proofs.Lexed.{ascii_front}
use denote.Ref.{Bor}

-- a member stays as it was if one of another name is put
other : (k j : List ℕ) (d : Data) (ms : Members) → bytes_eq k j ≡ false
    → get_member k (put j d ms) ≡ get_member k ms
other k j d ms h = get_member-put_other k j d ms (λ e. false≢true (sym h ∙ (bytes_eq-Decides k j).1 e))

-- the members that no flat object has stay absent if one of another name is put
still_without : (j : List ℕ) (d : Data) (ms : Members) → HasNoOther ms
    → bytes_eq (codes "unless") j ≡ false → bytes_eq (codes "old") j ≡ false
    → bytes_eq (codes "found") j ≡ false → HasNoOther (put j d ms)
still_without j d ms without unless old found = record {
  unless = other (codes "unless") j d ms unless ∙ without.unless;
  old = other (codes "old") j d ms old ∙ without.old;
  found = other (codes "found") j d ms found ∙ without.found;
}

-- a name that is none of those that have a part, and of which no flat object has a member
record AreOther (k : List ℕ) : Type 0 where
  process : bytes_eq (codes "process") k ≡ false
  event : bytes_eq (codes "event") k ≡ false
  op : bytes_eq (codes "op") k ≡ false
  register : bytes_eq (codes "register") k ≡ false
  value : bytes_eq (codes "value") k ≡ false
  from : bytes_eq (codes "from") k ≡ false
  to : bytes_eq (codes "to") k ≡ false
  ok : bytes_eq (codes "ok") k ≡ false
  unless : bytes_eq (codes "unless") k ≡ false
  old : bytes_eq (codes "old") k ≡ false
  found : bytes_eq (codes "found") k ≡ false

module _ (taken : Operations) (f : FlatMembers) (ms : Members) (h : Holds taken ms f) where
  put_process : (p : ℕ) → p ≤ MAX_PROCESS → Holds taken (put (codes "process") (whole_data p) ms) (record f {
    process = Some p;
  })
  put_process p fits = record {
    process = get_member-put (codes "process") (whole_data p) ms;
    limit = fits;
    event = other (codes "event") (codes "process") (whole_data p) ms refl ∙ h.event;
    op = other (codes "op") (codes "process") (whole_data p) ms refl ∙ h.op;
    takes = h.takes;
    register = other (codes "register") (codes "process") (whole_data p) ms refl ∙ h.register;
    value = other (codes "value") (codes "process") (whole_data p) ms refl ∙ h.value;
    from = other (codes "from") (codes "process") (whole_data p) ms refl ∙ h.from;
    to = other (codes "to") (codes "process") (whole_data p) ms refl ∙ h.to;
    ok = other (codes "ok") (codes "process") (whole_data p) ms refl ∙ h.ok;
    without = still_without (codes "process") (whole_data p) ms h.without refl refl refl;
  }

  put_event : (w : EventWord) → Holds taken (put (codes "event") (event_data w) ms) (record f {
    event = Some w;
  })
  put_event w = record {
    process = other (codes "process") (codes "event") (event_data w) ms refl ∙ h.process;
    limit = h.limit;
    event = get_member-put (codes "event") (event_data w) ms;
    op = other (codes "op") (codes "event") (event_data w) ms refl ∙ h.op;
    takes = h.takes;
    register = other (codes "register") (codes "event") (event_data w) ms refl ∙ h.register;
    value = other (codes "value") (codes "event") (event_data w) ms refl ∙ h.value;
    from = other (codes "from") (codes "event") (event_data w) ms refl ∙ h.from;
    to = other (codes "to") (codes "event") (event_data w) ms refl ∙ h.to;
    ok = other (codes "ok") (codes "event") (event_data w) ms refl ∙ h.ok;
    without = still_without (codes "event") (event_data w) ms h.without refl refl refl;
  }

  put_op : (w : OpWord) → takes taken w ≡ true → Holds taken (put (codes "op") (op_data w) ms) (record f {
    op = Some w;
  })
  put_op w fits = record {
    process = other (codes "process") (codes "op") (op_data w) ms refl ∙ h.process;
    limit = h.limit;
    event = other (codes "event") (codes "op") (op_data w) ms refl ∙ h.event;
    op = get_member-put (codes "op") (op_data w) ms;
    takes = fits;
    register = other (codes "register") (codes "op") (op_data w) ms refl ∙ h.register;
    value = other (codes "value") (codes "op") (op_data w) ms refl ∙ h.value;
    from = other (codes "from") (codes "op") (op_data w) ms refl ∙ h.from;
    to = other (codes "to") (codes "op") (op_data w) ms refl ∙ h.to;
    ok = other (codes "ok") (codes "op") (op_data w) ms refl ∙ h.ok;
    without = still_without (codes "op") (op_data w) ms h.without refl refl refl;
  }

  put_register : (s : Bor (List ℕ)) → Holds taken (put (codes "register") (string s.now) ms) (record f {
    register = Some s;
  })
  put_register s = record {
    process = other (codes "process") (codes "register") (string s.now) ms refl ∙ h.process;
    limit = h.limit;
    event = other (codes "event") (codes "register") (string s.now) ms refl ∙ h.event;
    op = other (codes "op") (codes "register") (string s.now) ms refl ∙ h.op;
    takes = h.takes;
    register = get_member-put (codes "register") (string s.now) ms;
    value = other (codes "value") (codes "register") (string s.now) ms refl ∙ h.value;
    from = other (codes "from") (codes "register") (string s.now) ms refl ∙ h.from;
    to = other (codes "to") (codes "register") (string s.now) ms refl ∙ h.to;
    ok = other (codes "ok") (codes "register") (string s.now) ms refl ∙ h.ok;
    without = still_without (codes "register") (string s.now) ms h.without refl refl refl;
  }

  put_value : (v : Val) → Holds taken (put (codes "value") (value_data v) ms) (record f { value = Some v })
  put_value v = record {
    process = other (codes "process") (codes "value") (value_data v) ms refl ∙ h.process;
    limit = h.limit;
    event = other (codes "event") (codes "value") (value_data v) ms refl ∙ h.event;
    op = other (codes "op") (codes "value") (value_data v) ms refl ∙ h.op;
    takes = h.takes;
    register = other (codes "register") (codes "value") (value_data v) ms refl ∙ h.register;
    value = get_member-put (codes "value") (value_data v) ms;
    from = other (codes "from") (codes "value") (value_data v) ms refl ∙ h.from;
    to = other (codes "to") (codes "value") (value_data v) ms refl ∙ h.to;
    ok = other (codes "ok") (codes "value") (value_data v) ms refl ∙ h.ok;
    without = still_without (codes "value") (value_data v) ms h.without refl refl refl;
  }

  put_from : (v : Val) → Holds taken (put (codes "from") (value_data v) ms) (record f { from = Some v })
  put_from v = record {
    process = other (codes "process") (codes "from") (value_data v) ms refl ∙ h.process;
    limit = h.limit;
    event = other (codes "event") (codes "from") (value_data v) ms refl ∙ h.event;
    op = other (codes "op") (codes "from") (value_data v) ms refl ∙ h.op;
    takes = h.takes;
    register = other (codes "register") (codes "from") (value_data v) ms refl ∙ h.register;
    value = other (codes "value") (codes "from") (value_data v) ms refl ∙ h.value;
    from = get_member-put (codes "from") (value_data v) ms;
    to = other (codes "to") (codes "from") (value_data v) ms refl ∙ h.to;
    ok = other (codes "ok") (codes "from") (value_data v) ms refl ∙ h.ok;
    without = still_without (codes "from") (value_data v) ms h.without refl refl refl;
  }

  put_to : (v : Val) → Holds taken (put (codes "to") (value_data v) ms) (record f { to = Some v })
  put_to v = record {
    process = other (codes "process") (codes "to") (value_data v) ms refl ∙ h.process;
    limit = h.limit;
    event = other (codes "event") (codes "to") (value_data v) ms refl ∙ h.event;
    op = other (codes "op") (codes "to") (value_data v) ms refl ∙ h.op;
    takes = h.takes;
    register = other (codes "register") (codes "to") (value_data v) ms refl ∙ h.register;
    value = other (codes "value") (codes "to") (value_data v) ms refl ∙ h.value;
    from = other (codes "from") (codes "to") (value_data v) ms refl ∙ h.from;
    to = get_member-put (codes "to") (value_data v) ms;
    ok = other (codes "ok") (codes "to") (value_data v) ms refl ∙ h.ok;
    without = still_without (codes "to") (value_data v) ms h.without refl refl refl;
  }

  put_ok : (b : Bool) → Holds taken (put (codes "ok") (boolean b) ms) (record f { ok = Some b })
  put_ok b = record {
    process = other (codes "process") (codes "ok") (boolean b) ms refl ∙ h.process;
    limit = h.limit;
    event = other (codes "event") (codes "ok") (boolean b) ms refl ∙ h.event;
    op = other (codes "op") (codes "ok") (boolean b) ms refl ∙ h.op;
    takes = h.takes;
    register = other (codes "register") (codes "ok") (boolean b) ms refl ∙ h.register;
    value = other (codes "value") (codes "ok") (boolean b) ms refl ∙ h.value;
    from = other (codes "from") (codes "ok") (boolean b) ms refl ∙ h.from;
    to = other (codes "to") (codes "ok") (boolean b) ms refl ∙ h.to;
    ok = get_member-put (codes "ok") (boolean b) ms;
    without = still_without (codes "ok") (boolean b) ms h.without refl refl refl;
  }

  -- a member of another name
  put_other : (k : List ℕ) (d : Data) → AreOther k → Holds taken (put k d ms) f
  put_other k d o = record {
    process = other (codes "process") k d ms o.process ∙ h.process;
    limit = h.limit;
    event = other (codes "event") k d ms o.event ∙ h.event;
    op = other (codes "op") k d ms o.op ∙ h.op;
    takes = h.takes;
    register = other (codes "register") k d ms o.register ∙ h.register;
    value = other (codes "value") k d ms o.value ∙ h.value;
    from = other (codes "from") k d ms o.from ∙ h.from;
    to = other (codes "to") k d ms o.to ∙ h.to;
    ok = other (codes "ok") k d ms o.ok ∙ h.ok;
    without = still_without k d ms h.without o.unless o.old o.found;
  }

-- a member's name with its colon
abbrev IsKeyed : List ℕ → List ℕ → List ℕ → Type 0
IsKeyed k text rest =
    (lex between text ≡ token (Token.string k) ∷ colon ∷ lex between rest) × (IsUtf8 rest → IsUtf8 text)

keyed : (k name text rest : List ℕ)
    → ((behind : List ℕ) → lex between (name ++ behind) ≡ token (Token.string k) ∷ colon ∷ lex between behind)
    → are_ascii name ≡ true → Named name text rest → IsKeyed k text rest
keyed k name text rest lexed ascii named = (
  ap (lex between) named.begins ∙ lexed named.behind
      ∙ ap (λ l. token (Token.string k) ∷ colon ∷ l) named.gap.lexed,
  λ u. subst IsUtf8 (sym named.begins) (ascii_front name named.behind ascii (named.gap.utf8 u)),
)

adds_member : (taken : Operations) (k : List ℕ) (d : Data) (old new : FlatMembers) (text mid rest : List ℕ)
    → IsKeyed k text mid → Scalar mid d rest
    → ((ms : Members) → Holds taken ms old → Holds taken (put k d ms) new) → Adds taken text old new rest
adds_member taken k d old new text mid rest front scalar put_holds ended =
    let s = scalar ended in (
      k,
      d,
      s.0,
      front.0 ∙ ap (λ l. token (Token.string k) ∷ colon ∷ l) s.1,
      s.2,
      λ u. front.1 (s.3 u),
      put_holds,
    )

module _ (taken : Operations) (f : FlatMembers) (text mid rest : List ℕ) where
  pub adds_process : (p : ℕ) → p ≤ MAX_PROCESS → Named (codes "\"process\":") text mid
      → Scalar mid (whole_data p) rest
      → Adds taken text f (record f { process = Some p }) rest
  unfolding lex content
  adds_process p fits named scalar =
      adds_member taken (codes "process") (whole_data p) f _ text mid rest
      (keyed (codes "process") _ text mid (λ behind. refl) refl named) scalar
      (λ ms h. put_process taken f ms h p fits)

  pub adds_event : (w : EventWord) → Named (codes "\"event\":") text mid → Scalar mid (event_data w) rest
      → Adds taken text f (record f { event = Some w }) rest
  unfolding lex content
  adds_event w named scalar =
      adds_member taken (codes "event") (event_data w) f _ text mid rest
      (keyed (codes "event") _ text mid (λ behind. refl) refl named) scalar (λ ms h. put_event taken f ms h w)

  pub adds_op : (w : OpWord) → takes taken w ≡ true → Named (codes "\"op\":") text mid
      → Scalar mid (op_data w) rest
      → Adds taken text f (record f { op = Some w }) rest
  unfolding lex content
  adds_op w fits named scalar =
      adds_member taken (codes "op") (op_data w) f _ text mid rest
      (keyed (codes "op") _ text mid (λ behind. refl) refl named) scalar (λ ms h. put_op taken f ms h w fits)

  pub adds_register : (s : Bor (List ℕ)) → Named (codes "\"register\":") text mid
      → Scalar mid (string s.now) rest
      → Adds taken text f (record f { register = Some s }) rest
  unfolding lex content
  adds_register s named scalar =
      adds_member taken (codes "register") (string s.now) f _ text mid rest
      (keyed (codes "register") _ text mid (λ behind. refl) refl named) scalar
      (λ ms h. put_register taken f ms h s)

  pub adds_value : (v : Val) → Named (codes "\"value\":") text mid → Scalar mid (value_data v) rest
      → Adds taken text f (record f { value = Some v }) rest
  unfolding lex content
  adds_value v named scalar =
      adds_member taken (codes "value") (value_data v) f _ text mid rest
      (keyed (codes "value") _ text mid (λ behind. refl) refl named) scalar (λ ms h. put_value taken f ms h v)

  pub adds_from : (v : Val) → Named (codes "\"from\":") text mid → Scalar mid (value_data v) rest
      → Adds taken text f (record f { from = Some v }) rest
  unfolding lex content
  adds_from v named scalar =
      adds_member taken (codes "from") (value_data v) f _ text mid rest
      (keyed (codes "from") _ text mid (λ behind. refl) refl named) scalar (λ ms h. put_from taken f ms h v)

  pub adds_to : (v : Val) → Named (codes "\"to\":") text mid → Scalar mid (value_data v) rest
      → Adds taken text f (record f { to = Some v }) rest
  unfolding lex content
  adds_to v named scalar =
      adds_member taken (codes "to") (value_data v) f _ text mid rest
      (keyed (codes "to") _ text mid (λ behind. refl) refl named) scalar (λ ms h. put_to taken f ms h v)

  pub adds_ok : (b : Bool) → Named (codes "\"ok\":") text mid → Scalar mid (boolean b) rest
      → Adds taken text f (record f { ok = Some b }) rest
  unfolding lex content
  adds_ok b named scalar =
      adds_member taken (codes "ok") (boolean b) f _ text mid rest
      (keyed (codes "ok") _ text mid (λ behind. refl) refl named) scalar (λ ms h. put_ok taken f ms h b)

module _ (taken : Operations) (text mid rest : List ℕ) where
  pub passes_client : (s : Bor (List ℕ)) → Named (codes "\"client\":") text mid
      → Scalar mid (string s.now) rest
      → Passes taken text rest
  unfolding lex content
  passes_client s named scalar f =
      adds_member taken (codes "client") (string s.now) f f text mid rest
      (keyed (codes "client") _ text mid (λ behind. refl) refl named) scalar
      (λ ms h. put_other taken f ms h (codes "client") _ (record {
        process = refl;
        event = refl;
        op = refl;
        register = refl;
        value = refl;
        from = refl;
        to = refl;
        ok = refl;
        unless = refl;
        old = refl;
        found = refl;
      }))

  pub passes_node : (s : Bor (List ℕ)) → Named (codes "\"node\":") text mid → Scalar mid (string s.now) rest
      → Passes taken text rest
  unfolding lex content
  passes_node s named scalar f =
      adds_member taken (codes "node") (string s.now) f f text mid rest
      (keyed (codes "node") _ text mid (λ behind. refl) refl named) scalar
      (λ ms h. put_other taken f ms h (codes "node") _ (record {
        process = refl;
        event = refl;
        op = refl;
        register = refl;
        value = refl;
        from = refl;
        to = refl;
        ok = refl;
        unless = refl;
        old = refl;
        found = refl;
      }))

  pub passes_time : (n : ℕ) → Named (codes "\"time\":") text mid → Scalar mid (whole_data n) rest
      → Passes taken text rest
  unfolding lex content
  passes_time n named scalar f =
      adds_member taken (codes "time") (whole_data n) f f text mid rest
      (keyed (codes "time") _ text mid (λ behind. refl) refl named) scalar
      (λ ms h. put_other taken f ms h (codes "time") _ (record {
        process = refl;
        event = refl;
        op = refl;
        register = refl;
        value = refl;
        from = refl;
        to = refl;
        ok = refl;
        unless = refl;
        old = refl;
        found = refl;
      }))
