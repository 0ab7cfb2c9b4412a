-- The operations that an answer names are there, and their lines are their
-- own; a fault's inversion is shown by them.
use Rattle.std.proofs.Common.{◌≡◌, ℕ, Some, refl, sym, ap, subst, ◌∙◌}
use Rattle.history_model.specs.Lists.{In}
use Rattle.history_model.specs.History.{History}
use Rattle.history_model.specs.Operations.{operations, of_register}
use Rattle.history_model.specs.declared.operation.Operation.{Operation}
use Rattle.history_model.specs.Naming.{IsNamed, IsOper, name_of}
use Rattle.history_model.specs.declared.ids.Oper.{Oper}
use Rattle.history_model.proofs.Named.{has-oper, one-named}
use Rattle.history_model.proofs.Recorded.{of_register-In}
use Rattle.reg_zones.specs.Faults.{IsFault}
use Rattle.reg_zones.specs.Inversions.{IsInversion, inversion_named}
use Rattle.reg_zones.specs.declared.fault.Fault.{Fault}
use Rattle.reg_zones.specs.declared.fault.Fault.TheVariants.{Unwritten, Early, Zones}
use Rattle.reg_report.specs.Meaning.{HasLine, HaveLines, IsInversionShown}
use Rattle.reg_report.specs.Named.{AreOpers, HasOpers}

-- the line of a named operation is its own
pub line-own : (h : History) (name : Oper) (o : Operation) (line : ℕ) → IsNamed h name o → HasLine h name line
    → line ≡ o.line
line-own h name o line n l = l.2 ∙ ap (λ (x : Operation). x.line) (one-named h name l.0 o l.1 n)

-- an operation of a register has a name
register-oper : (h : History) (r : ℕ) (o : Operation) (name : Oper) → In o (of_register r (operations h))
    → name_of o ≡ name → IsOper h name
register-oper h r o name i q = subst (IsOper h) q (has-oper h o (of_register-In r (operations h) o i).0)

pair-opers : (h : History) (r : ℕ) (a b : Operation) (names : Oper × Oper)
    → In a (of_register r (operations h)) → In b (of_register r (operations h))
    → names ≡ (name_of a, name_of b) → AreOpers h names
pair-opers h r a b names i j q =
    subst (AreOpers h) (sym q) (
      register-oper h r a (name_of a) i refl,
      register-oper h r b (name_of b) j refl,
    )

-- so the operations of a fault are there
pub fault-opers : (h : History) (r : ℕ) (fault : Fault) → IsFault (of_register r (operations h)) fault
    → HasOpers h fault
fault-opers h r (Unwritten read) f = register-oper h r f.0 read f.1.fault.within f.2
fault-opers h r (Early read write) f =
    (register-oper h r f.0 read f.2.fault.within f.3, register-oper h r f.1 write f.2.fault.write_within f.4)
fault-opers h r (Zones writes first second) f = (
  pair-opers h r f.0 f.1 writes f.6.conflict.conflict.left.within f.6.conflict.conflict.right.within f.9,
  pair-opers h r f.2 f.3 first f.7.reply.member.within f.7.call.member.within f.10,
  pair-opers h r f.4 f.5 second f.8.reply.member.within f.8.call.member.within f.11,
)

-- ---- an inversion

module _ (h : History) (r : ℕ) (fault : Fault) (pair : Oper
    × Oper) (a b : Operation) (i : IsInversion (of_register r (operations h)) a b)
    (named : inversion_named fault ≡ Some (name_of a, name_of b))
    (is : inversion_named fault ≡ Some pair) where
  names : pair ≡ (name_of a, name_of b)
  names = let q : Some pair ≡ Some (name_of a, name_of b) = sym is ∙ named in cc (q)

  -- its two operations are there
  pub inversion-opers : AreOpers h pair
  inversion-opers = pair-opers h r a b pair i.gives_newer.within i.gives_older.within names

  -- and their lines show it
  pub inversion-shown : IsFault (of_register r (operations h)) fault → (lines : ℕ × ℕ)
      → HaveLines h pair lines → IsInversionShown h (of_register r (operations h)) lines
  inversion-shown f lines s = record {
    fault = fault;
    is_fault = f;
    first = a;
    second = b;
    inversion = i;
    named = named;
    shown = subst (λ (n : Oper × Oper). HaveLines h n lines) names s;
  }
