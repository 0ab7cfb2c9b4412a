-- Worked rows: clusters, zones, a conflict and points of small registers, by computation.
use Rattle.std.proofs.Common.{◌≡◌, ℕ, true, List, [], ◌∷◌, Option, Some}
use Rattle.std.proofs.Common.{None, map, pos, inl, inr, refl, arith}
use Rattle.history_text.specs.declared.event.Val.{Val}
use Rattle.history_text.specs.declared.event.Val.TheVariants.{Null, Int}
use Rattle.history_text.specs.declared.event.OpKind.TheVariants.{ReadOp, WriteOp}
use Rattle.history_model.specs.declared.event.Event.{Event}
use Rattle.history_model.specs.declared.event.What.TheVariants.{Call, Reply}
use Rattle.history_model.specs.declared.ids.Oper.TheVariants.{Initial, Called}
use Rattle.history_model.specs.Operations.{of_register, operations, initial_write}
use Rattle.history_model.specs.declared.operation.Operation.{Operation}
use Rattle.history_model.specs.declared.act.Act.TheVariants.{Read, Write}
use Rattle.history_model.specs.Placed.{placed}
use Rattle.reg_zones.specs.declared.placed.Placed.{Placed}
use Rattle.reg_zones.specs.Clusters.{first_reply, last_call, low_end, IsConflict}
use Rattle.reg_zones.specs.Order.{shown}

abbrev written : ℕ → Option Val
written n = Some (Int (pos n))

-- the calls and replies of a process on one register
abbrev write : ℕ → ℕ → Event
write p n = record {
  line = 0;
  process = p;
  register = Some (record { 0 = 0 });
  what = Call WriteOp;
  value = written n;
}

abbrev wrote : ℕ → ℕ → Event
wrote p n = record {
  line = 0;
  process = p;
  register = Some (record { 0 = 0 });
  what = Reply WriteOp;
  value = written n;
}

abbrev read : ℕ → Event
read p = record {
  line = 0;
  process = p;
  register = Some (record { 0 = 0 });
  what = Call ReadOp;
  value = None;
}

abbrev got : ℕ → ℕ → Event
got p n = record {
  line = 0;
  process = p;
  register = Some (record { 0 = 0 });
  what = Reply ReadOp;
  value = written n;
}

abbrev register : List Event → List Operation
register events = of_register 0 (operations (record { names = (120 ∷ []) ∷ []; events = events }))

-- 1 is written, then 2; within the write of 2 a read gets 2, and after it a read gets 1
abbrev inverted : List Operation
inverted = register (write 1 1 ∷ wrote 1 1 ∷ write 1 2 ∷ read 2 ∷ got 2 2 ∷ read 2 ∷ got 2 1 ∷ wrote 1 2 ∷ [])

-- the zone of 1 is forward from 3 to 7, that of 2 is backward with the
-- low end 5, that of null has the low end 0
pub zone_of_1 : (first_reply inverted (written 1) ≡ 3) × (last_call inverted (written 1) ≡ 7)
zone_of_1 = (refl, refl)

pub zone_of_2 : (first_reply inverted (written 2) ≡ 6) × (last_call inverted (written 2) ≡ 5)
zone_of_2 = (refl, refl)

pub low_ends : (low_end inverted (Some Null) ≡ 0) × (low_end inverted (written 1) ≡ 3)
    × (low_end inverted (written 2) ≡ 5)
low_ends = (refl, refl, refl)

abbrev first : Operation
first = record {
  line = 0;
  call = 2;
  reply = 3;
  completed = true;
  process = Some 1;
  register = 0;
  act = Write (Int (pos 1));
}

abbrev second : Operation
second = record {
  line = 0;
  call = 4;
  reply = 9;
  completed = true;
  process = Some 1;
  register = 0;
  act = Write (Int (pos 2));
}

-- they conflict
pub conflict : IsConflict inverted first second
conflict = record {
  left = record { within = inr (inl refl); write = refl; kept = inl refl };
  right = record { within = inr (inr (inl refl)); write = refl; kept = inl refl };
  differ = λ e. let q : ◌≡◌ {A = ℕ} 1 2 = cc e in omega (arith, q);
  one = omega arith;
  other = omega arith;
}

-- a read is called, then 5 is written and the write replies, then the read gets 5
abbrev waiting : Operation
waiting = record {
  line = 0;
  call = 2;
  reply = 5;
  completed = true;
  process = Some 2;
  register = 0;
  act = Read (written 5);
}

abbrev within : Operation
within = record {
  line = 0;
  call = 3;
  reply = 4;
  completed = true;
  process = Some 1;
  register = 0;
  act = Write (Int (pos 5));
}

pub operations_of_it : register (read 2 ∷ write 1 5 ∷ wrote 1 5 ∷ got 2 5 ∷ []) ≡ initial_write 0 ∷ waiting
    ∷ within ∷ []
operations_of_it = refl

-- the write comes first, and both have the point of its call
abbrev shown_points : List Placed
shown_points =
    record { oper = Initial (record { 0 = 0 }); point = 0 } ∷ record {
      oper = Called (record { 0 = 1 });
      point = 3;
    } ∷ record { oper = Called (record { 0 = 0 }); point = 3 } ∷ []

pub points : map shown (placed (initial_write 0 ∷ within ∷ waiting ∷ [])) ≡ shown_points
points = refl
