-- Without a report the exit status is neither 0 nor 1.
use Rattle.std.proofs.Common.{◌≡◌, ◌&&◌, ℕ, nat_le, Bool, true, false, refl, if◌then◌else◌}
use Rattle.command_words.specs.Status.{status_of, HasNoReport}
use Rattle.command_words.specs.declared.ending.Ended.{Ended}
use Rattle.command_words.specs.declared.ending.Ended.TheVariants.{Yes, No, Unknown}
use Rattle.command_words.specs.declared.ending.Ended.TheVariants.{Refused, BadWords}

neither : (b : Bool) (n : ℕ) → (if b then 4 else 2) ≡ n → n ≡ 0 → ⊥
neither true n e z = cc (e, z)
neither false n e z = cc (e, z)

nor : (b : Bool) (n : ℕ) → (if b then 4 else 2) ≡ n → n ≡ 1 → ⊥
nor true n e z = cc (e, z)
nor false n e z = cc (e, z)

pub not-0 : (ended : Ended) → HasNoReport ended → status_of ended ≡ 0 → ⊥
not-0 Yes none e = none
not-0 No none e = none
not-0 Unknown none e = none
not-0 (Refused number) none e = neither (nat_le 16 number && nat_le number 18) 0 e refl
not-0 BadWords none e = cc (e)

pub not-1 : (ended : Ended) → HasNoReport ended → status_of ended ≡ 1 → ⊥
not-1 Yes none e = none
not-1 No none e = none
not-1 Unknown none e = none
not-1 (Refused number) none e = nor (nat_le 16 number && nat_le number 18) 1 e refl
not-1 BadWords none e = cc (e)
