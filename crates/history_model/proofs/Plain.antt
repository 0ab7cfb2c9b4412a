-- Acts of reads and writes alone.
use Rattle.std.proofs.Common.{◌≡◌, is_some, true, false, Option, Some, None, refl, sym, ap}
use Rattle.std.proofs.lemmas.Bool.{false≢true}
use Rattle.history_text.specs.declared.event.Val.{Val}
use Rattle.history_text.specs.declared.event.OpKind.{OpKind}
use Rattle.history_text.specs.declared.event.OpKind.TheVariants.{ReadOp, WriteOp}
use Rattle.history_model.specs.Acts.{asks, changes, is_plain, kind_of_act, plain_act, value_of_act}
use Rattle.history_model.specs.Operations.{writes}
use Rattle.history_model.specs.declared.act.Act.{Act}
use Rattle.history_model.specs.declared.act.Act.TheVariants.{Read, Write, Cas, CasUnless, Miss}

pub changes-kind : (a : Act) → changes a ≡ writes (kind_of_act a)
changes-kind (Read given) = refl
changes-kind (Write written) = refl
changes-kind (Cas from to) = refl
changes-kind (CasUnless unless to) = refl
changes-kind (Miss from) = refl

pub plain-kind : (k : OpKind) (v : Option Val) → kind_of_act (plain_act k v) ≡ k
plain-kind ReadOp v = refl
plain-kind WriteOp v = refl

pub plain-changes : (k : OpKind) (v : Option Val) → changes (plain_act k v) ≡ writes k
plain-changes ReadOp v = refl
plain-changes WriteOp v = refl

pub plain-plain : (k : OpKind) (v : Option Val) → is_plain (plain_act k v) ≡ true
plain-plain ReadOp v = refl
plain-plain WriteOp v = refl

pub reading : (k : OpKind) → writes k ≡ false → k ≡ ReadOp
reading ReadOp r = refl
reading WriteOp r = absurd (false≢true (sym r))

-- a read has the value that there is, and a write, where there is one
pub read-gives : (k : OpKind) (v : Option Val) → writes k ≡ false → value_of_act (plain_act k v) ≡ v
read-gives ReadOp v r = refl
read-gives WriteOp v r = absurd (false≢true (sym r))

pub written-value : (k : OpKind) (v : Option Val) (u : Val) → writes k ≡ true → v ≡ Some u
    → value_of_act (plain_act k v) ≡ Some u
written-value ReadOp v u w e = absurd (false≢true w)
written-value WriteOp v u w e = ap (λ o. value_of_act (plain_act WriteOp o)) e

-- a read asks something if it has a value
pub read-asks : (a : Act) → is_plain a ≡ true → changes a ≡ false → asks a ≡ is_some (value_of_act a)
read-asks (Read None) p r = refl
read-asks (Read (Some u)) p r = refl
read-asks (Write u) p r = absurd (false≢true (sym r))
read-asks (Cas from to) p r = absurd (false≢true p)
read-asks (CasUnless unless to) p r = absurd (false≢true p)
read-asks (Miss from) p r = absurd (false≢true p)
