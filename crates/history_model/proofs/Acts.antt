-- What an act that changes the register gives, and what suits one that asks nothing.
use Rattle.std.proofs.Common.{◌≡◌, is_some, unwrap_or, true, false, Option, Some, None, refl, sym}
use Rattle.std.specs.Prelude.{IsSomeAnd}
use Rattle.std.proofs.lemmas.Bool.{false≢true}
use Rattle.history_text.specs.declared.event.Val.{Val}
use Rattle.history_model.specs.Acts.{suits, asks}
use Rattle.history_model.specs.declared.act.Act.{Act}
use Rattle.history_model.specs.declared.act.Act.TheVariants.{Read, Write, Cas, CasUnless, Miss}

-- what suits the value after an act that gives one suits the given one, and the other way round
pub given-suits : (P : Val → Type 0) (o : Option Val) (v : Val) → is_some o ≡ true → P (unwrap_or o v)
    → IsSomeAnd o P
given-suits P None v c p = absurd (false≢true c)
given-suits P (Some u) v c p = p

pub suits-given : (P : Val → Type 0) (o : Option Val) (v : Val) → IsSomeAnd o P → P (unwrap_or o v)
suits-given P None v p = absurd p
suits-given P (Some u) v p = p

-- an act that gives none leaves the value
pub left-same : (o : Option Val) (v : Val) → is_some o ≡ false → unwrap_or o v ≡ v
left-same None v c = refl
left-same (Some u) v c = absurd (false≢true (sym c))

-- whoever asks nothing is suited by any value
pub unasking-suits : (a : Act) (v : Val) → asks a ≡ false → suits a v ≡ true
unasking-suits (Read None) v n = refl
unasking-suits (Read (Some given)) v n = absurd (false≢true (sym n))
unasking-suits (Write written) v n = refl
unasking-suits (Cas from to) v n = absurd (false≢true (sym n))
unasking-suits (CasUnless unless to) v n = absurd (false≢true (sym n))
unasking-suits (Miss from) v n = absurd (false≢true (sym n))
