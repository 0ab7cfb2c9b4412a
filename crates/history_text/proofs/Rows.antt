-- The forms of lines, computed on lines that are written out: each row is an
-- input and what the definitions make of it.
use Rattle.std.proofs.Common.{◌≡◌, pos, negsuc, codes, [], ◌∷◌, Some, None}
use Rattle.std.proofs.Common.{Ok, Err, true, false, refl, replicate}
use Rattle.std.specs.Str.{is_utf8, chars}
use Rattle.serde_json.proofs.OnLiterals.{serde_json_on_literals}
use Rattle.serde_json.specs.Data.{string}
use Rattle.history_text.specs.Limits.{MAX_INPUT, MAX_LINE, MAX_EVENTS, MAX_NAME}
use Rattle.history_text.specs.Lines.{numbered_lines, line_spans}
use Rattle.history_text.specs.Members.{name_form}
use Rattle.history_text.specs.Reading.{json_of, event_reading, line_reading, history_lines}
use Rattle.history_text.specs.Values.{same_value}
use Rattle.history_text.specs.declared.event.Val.TheVariants.{Null, Int}
use Rattle.history_text.specs.declared.event.Operations.TheVariants.{ReadsAndWrites, WithCas}
use Rattle.history_text.specs.declared.event.OpWord.TheVariants as op
use Rattle.history_text.specs.declared.event.AnyKind.TheVariants.{Plain, CallOther, Telling}
use Rattle.history_text.specs.declared.event.OtherCall.TheVariants.{Cas, CasOf, Delete, Swap}
use Rattle.history_text.specs.declared.event.Compared.TheVariants.{From, Unless}
use Rattle.history_text.specs.declared.event.Kind.TheVariants.{CallRead, CallWrite, Reply, Fail, Crash}
use Rattle.history_text.specs.declared.fault.LineKind.TheVariants.{NotJson, NotObject, BadProcess, BadEvent}
use Rattle.history_text.specs.declared.fault.LineKind.TheVariants.{BadOp, BadRegister, BadValue}
use Rattle.history_text.specs.declared.fault.LineKind.TheVariants.{BadFromOrTo}

-- lines: blank ones are skipped and still count, and the last may lack its line feed

empty_input : numbered_lines [] ≡ []
empty_input = refl

blank_lines : numbered_lines (codes "a\n \t\r\n\nb") ≡ (1, codes "a") ∷ (4, codes "b") ∷ []
blank_lines = refl

spans : line_spans (codes "a\n \r\n\nbc\n") ≡ record { line = 1; from = 0; to = 1 } ∷ record {
  line = 4;
  from = 6;
  to = 8;
} ∷ []
spans = refl

-- the forms of an event

write_call : line_reading 1
    (codes "{\"process\":1,\"event\":\"call\",\"op\":\"write\",\"register\":\"x\",\"value\":5}")
    ≡ Ok (record { line = 1; process = 1; kind = CallWrite (codes "x") (pos 5) })
unfolding json_of serde_json_on_literals is_utf8 chars
write_call = refl

read_call : line_reading 3 (codes "{\"process\":2,\"event\":\"call\",\"op\":\"read\",\"register\":\"x\"}")
    ≡ Ok (record { line = 3; process = 2; kind = CallRead (codes "x") })
unfolding json_of serde_json_on_literals is_utf8 chars
read_call = refl

bare_reply : line_reading 2 (codes "{\"process\":1,\"event\":\"reply\"}") ≡ Ok (record {
  line = 2;
  process = 1;
  kind = Reply (record { op = None; register = None; value = None; ok = None });
})
unfolding json_of serde_json_on_literals is_utf8 chars
bare_reply = refl

full_reply : line_reading 2
    (codes "{\"process\":1,\"event\":\"reply\",\"op\":\"write\",\"register\":\"x\",\"value\":null}")
    ≡ Ok (record {
      line = 2;
      process = 1;
      kind = Reply (record { op = Some op.Write; register = Some (codes "x"); value = Some Null; ok = None });
    })
unfolding json_of serde_json_on_literals is_utf8 chars
full_reply = refl

bare_fail : line_reading 2 (codes "{\"process\":1,\"event\":\"fail\"}") ≡ Ok (record {
  line = 2;
  process = 1;
  kind = Fail (record { op = None; register = None; value = None; ok = None });
})
unfolding json_of serde_json_on_literals is_utf8 chars
bare_fail = refl

full_fail : line_reading 2
    (codes "{\"process\":1,\"event\":\"fail\",\"op\":\"write\",\"register\":\"x\",\"value\":5}")
    ≡ Ok (record {
      line = 2;
      process = 1;
      kind =
          Fail (record {
            op = Some op.Write;
            register = Some (codes "x");
            value = Some (Int (pos 5));
            ok = None;
          });
    })
unfolding json_of serde_json_on_literals is_utf8 chars
full_fail = refl

-- of a crash no other member is read
crash : line_reading 2 (codes "{\"process\":1,\"event\":\"crash\",\"op\":0,\"register\":\"\",\"value\":true}")
    ≡ Ok (record { line = 2; process = 1; kind = Crash })
unfolding json_of serde_json_on_literals is_utf8 chars
crash = refl

-- space around the JSON, unknown members, and of two equal names the last

spaces : line_reading 4 (codes " {\"process\":2,\"event\":\"reply\",\"value\":-5} \r") ≡ Ok (record {
  line = 4;
  process = 2;
  kind = Reply (record { op = None; register = None; value = Some (Int (negsuc 4)); ok = None });
})
unfolding json_of serde_json_on_literals is_utf8 chars
spaces = refl

unknown_member : line_reading 4 (codes "{\"process\":2,\"event\":\"reply\",\"clock\":[{}]}") ≡ Ok (record {
  line = 4;
  process = 2;
  kind = Reply (record { op = None; register = None; value = None; ok = None });
})
unfolding json_of serde_json_on_literals is_utf8 chars
unknown_member = refl

named_twice : line_reading 3 (codes "{\"process\":2,\"event\":\"reply\",\"process\":7}") ≡ Ok (record {
  line = 3;
  process = 7;
  kind = Reply (record { op = None; register = None; value = None; ok = None });
})
unfolding json_of serde_json_on_literals is_utf8 chars
named_twice = refl

-- the faults, each on a line that has no lesser one

torn : line_reading 3 (codes "{\"process\":2,\"ev") ≡ Err (record { line = 3; kind = NotJson })
unfolding json_of serde_json_on_literals is_utf8 chars
torn = refl

not_text : line_reading 1 (255 ∷ []) ≡ Err (record { line = 1; kind = NotJson })
unfolding json_of serde_json_on_literals is_utf8 chars
not_text = refl

list : line_reading 3 (codes "[]") ≡ Err (record { line = 3; kind = NotObject })
unfolding json_of serde_json_on_literals is_utf8 chars
list = refl

fraction : line_reading 3 (codes "{\"process\":1.0,\"event\":\"reply\"}")
    ≡ Err (record { line = 3; kind = BadProcess })
unfolding json_of serde_json_on_literals is_utf8 chars
fraction = refl

last_process : line_reading 3 (codes "{\"process\":4294967295,\"event\":\"reply\"}") ≡ Ok (record {
  line = 3;
  process = 4_294_967_295;
  kind = Reply (record { op = None; register = None; value = None; ok = None });
})
unfolding json_of serde_json_on_literals is_utf8 chars
last_process = refl

process_past_32_bits : line_reading 3 (codes "{\"process\":4294967296,\"event\":\"reply\"}")
    ≡ Err (record { line = 3; kind = BadProcess })
unfolding json_of serde_json_on_literals is_utf8 chars
process_past_32_bits = refl

other_event : line_reading 3 (codes "{\"process\":2,\"event\":\"Call\"}")
    ≡ Err (record { line = 3; kind = BadEvent })
unfolding json_of serde_json_on_literals is_utf8 chars
other_event = refl

longer_word : line_reading 3 (codes "{\"process\":2,\"event\":\"failed\"}")
    ≡ Err (record { line = 3; kind = BadEvent })
unfolding json_of serde_json_on_literals is_utf8 chars
longer_word = refl

op_of_a_fail : line_reading 3 (codes "{\"process\":2,\"event\":\"fail\",\"op\":\"cas\"}")
    ≡ Err (record { line = 3; kind = BadOp ReadsAndWrites })
unfolding json_of serde_json_on_literals is_utf8 chars
op_of_a_fail = refl

null_op : line_reading 3 (codes "{\"process\":2,\"event\":\"reply\",\"op\":null}")
    ≡ Err (record { line = 3; kind = BadOp ReadsAndWrites })
unfolding json_of serde_json_on_literals is_utf8 chars
null_op = refl

empty_name : line_reading 3 (codes "{\"process\":2,\"event\":\"reply\",\"register\":\"\"}")
    ≡ Err (record { line = 3; kind = BadRegister })
unfolding json_of serde_json_on_literals is_utf8 chars
empty_name = refl

value_past_64_bits : line_reading 3
    (codes
    "{\"process\":2,\"event\":\"call\",\"op\":\"write\",\"register\":\"x\",\"value\":9223372036854775808}")
    ≡ Err (record { line = 3; kind = BadValue })
unfolding json_of serde_json_on_literals is_utf8 chars
value_past_64_bits = refl

least_value : line_reading 3 (codes "{\"process\":2,\"event\":\"reply\",\"value\":-9223372036854775808}")
    ≡ Ok (record {
      line = 3;
      process = 2;
      kind =
          Reply (record {
            op = None;
            register = None;
            value = Some (Int (negsuc 9_223_372_036_854_775_807));
            ok = None;
          });
    })
unfolding json_of serde_json_on_literals is_utf8 chars
least_value = refl

value_of_a_read_call : line_reading 3
    (codes "{\"process\":2,\"event\":\"call\",\"op\":\"read\",\"register\":\"x\",\"value\":1}")
    ≡ Err (record { line = 3; kind = BadValue })
unfolding json_of serde_json_on_literals is_utf8 chars
value_of_a_read_call = refl

-- of several faults the least number: every member is of another form here
least_of_all : line_reading 3 (codes "{\"process\":-1,\"event\":0,\"op\":0,\"register\":0,\"value\":true}")
    ≡ Err (record { line = 3; kind = BadProcess })
unfolding json_of serde_json_on_literals is_utf8 chars
least_of_all = refl

op_before_register : line_reading 3
    (codes "{\"process\":1,\"event\":\"reply\",\"op\":0,\"register\":0,\"value\":true}")
    ≡ Err (record { line = 3; kind = BadOp ReadsAndWrites })
unfolding json_of serde_json_on_literals is_utf8 chars
op_before_register = refl

-- lines of a cas, where cas are taken

cas_call : event_reading WithCas 1
    (codes
    "{\"process\":1,\"event\":\"call\",\"op\":\"cas\",\"register\":\"x\",\"from\":null,\"to\":2,\"value\":null,\"ok\":1}")
    ≡ Ok (record { line = 1; process = 1; kind = CallOther (codes "x") (Cas Null (pos 2)) })
unfolding json_of serde_json_on_literals is_utf8 chars
cas_call = refl

cas_took_place : event_reading WithCas 2
    (codes "{\"process\":1,\"event\":\"reply\",\"op\":\"cas\",\"from\":1.5,\"ok\":true}") ≡ Ok (record {
      line = 2;
      process = 1;
      kind = Plain (Reply (record { op = Some op.Cas; register = None; value = None; ok = Some true }));
    })
unfolding json_of serde_json_on_literals is_utf8 chars
cas_took_place = refl

-- null says neither that the cas took place nor that it missed
null_ok : event_reading WithCas 2 (codes "{\"process\":1,\"event\":\"reply\",\"ok\":null}") ≡ Ok (record {
  line = 2;
  process = 1;
  kind = Plain (Reply (record { op = None; register = None; value = None; ok = None }));
})
unfolding json_of serde_json_on_literals is_utf8 chars
null_ok = refl

-- of several faults the least number: the register before the value, and the value before from and to
register_before_value : event_reading WithCas 1
    (codes "{\"process\":1,\"event\":\"call\",\"op\":\"cas\",\"value\":3}")
    ≡ Err (record { line = 1; kind = BadRegister })
unfolding json_of serde_json_on_literals is_utf8 chars
register_before_value = refl

value_before_from : event_reading WithCas 1
    (codes "{\"process\":1,\"event\":\"call\",\"op\":\"cas\",\"register\":\"x\",\"value\":3}")
    ≡ Err (record { line = 1; kind = BadValue })
unfolding json_of serde_json_on_literals is_utf8 chars
value_before_from = refl

to_is_absent : event_reading WithCas 1
    (codes "{\"process\":1,\"event\":\"call\",\"op\":\"cas\",\"register\":\"x\",\"from\":1}")
    ≡ Err (record { line = 1; kind = BadFromOrTo })
unfolding json_of serde_json_on_literals is_utf8 chars
to_is_absent = refl

from_and_unless : event_reading WithCas 1
    (codes
    "{\"process\":1,\"event\":\"call\",\"op\":\"cas\",\"register\":\"x\",\"from\":1,\"unless\":2,\"to\":3}")
    ≡ Err (record { line = 1; kind = BadFromOrTo })
unfolding json_of serde_json_on_literals is_utf8 chars
from_and_unless = refl

-- cas of other forms, deletes and swaps

cas_to_null : event_reading WithCas 1
    (codes "{\"process\":1,\"event\":\"call\",\"op\":\"cas\",\"register\":\"x\",\"from\":1,\"to\":null}")
    ≡ Ok (record {
      line = 1;
      process = 1;
      kind =
          CallOther (codes "x")
          (CasOf (record { compared = From (Int (pos 1)); to = Null; asks_old = false }));
    })
unfolding json_of serde_json_on_literals is_utf8 chars
cas_to_null = refl

cas_unless : event_reading WithCas 1
    (codes "{\"process\":1,\"event\":\"call\",\"op\":\"cas\",\"register\":\"x\",\"unless\":null,\"to\":2}")
    ≡ Ok (record {
      line = 1;
      process = 1;
      kind =
          CallOther (codes "x")
          (CasOf (record { compared = Unless Null; to = Int (pos 2); asks_old = false }));
    })
unfolding json_of serde_json_on_literals is_utf8 chars
cas_unless = refl

cas_asks_old : event_reading WithCas 1
    (codes
    "{\"process\":1,\"event\":\"call\",\"op\":\"cas\",\"register\":\"x\",\"from\":1,\"to\":2,\"old\":true}")
    ≡ Ok (record {
      line = 1;
      process = 1;
      kind =
          CallOther (codes "x")
          (CasOf (record { compared = From (Int (pos 1)); to = Int (pos 2); asks_old = true }));
    })
unfolding json_of serde_json_on_literals is_utf8 chars
cas_asks_old = refl

-- in a call, `old` counts only if it is true
old_of_another_form : event_reading WithCas 1
    (codes
    "{\"process\":1,\"event\":\"call\",\"op\":\"cas\",\"register\":\"x\",\"from\":1,\"to\":2,\"old\":1}")
    ≡ Ok (record { line = 1; process = 1; kind = CallOther (codes "x") (Cas (Int (pos 1)) (pos 2)) })
unfolding json_of serde_json_on_literals is_utf8 chars
old_of_another_form = refl

delete : event_reading WithCas 1
    (codes "{\"process\":1,\"event\":\"call\",\"op\":\"delete\",\"register\":\"x\",\"value\":null}")
    ≡ Ok (record { line = 1; process = 1; kind = CallOther (codes "x") Delete })
unfolding json_of serde_json_on_literals is_utf8 chars
delete = refl

delete_of_a_value : event_reading WithCas 1
    (codes "{\"process\":1,\"event\":\"call\",\"op\":\"delete\",\"register\":\"x\",\"value\":1}")
    ≡ Err (record { line = 1; kind = BadValue })
unfolding json_of serde_json_on_literals is_utf8 chars
delete_of_a_value = refl

swap : event_reading WithCas 1
    (codes "{\"process\":1,\"event\":\"call\",\"op\":\"swap\",\"register\":\"x\",\"value\":7}")
    ≡ Ok (record { line = 1; process = 1; kind = CallOther (codes "x") (Swap (pos 7)) })
unfolding json_of serde_json_on_literals is_utf8 chars
swap = refl

swap_without_a_value : event_reading WithCas 1
    (codes "{\"process\":1,\"event\":\"call\",\"op\":\"swap\",\"register\":\"x\",\"value\":null}")
    ≡ Err (record { line = 1; kind = BadValue })
unfolding json_of serde_json_on_literals is_utf8 chars
swap_without_a_value = refl

-- what a reply tells of the value that its operation met

reply_tells : event_reading WithCas 2
    (codes "{\"process\":1,\"event\":\"reply\",\"found\":false,\"old\":null}") ≡ Ok (record {
      line = 2;
      process = 1;
      kind =
          Telling (record { op = None; register = None; value = None; ok = None })
          (record { found = Some (Some false); old = Some (Some Null) });
    })
unfolding json_of serde_json_on_literals is_utf8 chars
reply_tells = refl

reply_of_another_form : event_reading WithCas 2
    (codes "{\"process\":1,\"event\":\"reply\",\"found\":null,\"old\":1.5}") ≡ Ok (record {
      line = 2;
      process = 1;
      kind =
          Telling (record { op = None; register = None; value = None; ok = None })
          (record { found = None; old = None });
    })
unfolding json_of serde_json_on_literals is_utf8 chars
reply_of_another_form = refl

-- where reads and writes alone are taken, the words are none, and `ok`, `found` and `old` say nothing
cas_not_taken : line_reading 1
    (codes "{\"process\":1,\"event\":\"call\",\"op\":\"cas\",\"register\":\"x\",\"from\":null,\"to\":2}")
    ≡ Err (record { line = 1; kind = BadOp ReadsAndWrites })
unfolding json_of serde_json_on_literals is_utf8 chars
cas_not_taken = refl

delete_not_taken : line_reading 1
    (codes "{\"process\":1,\"event\":\"call\",\"op\":\"delete\",\"register\":\"x\"}")
    ≡ Err (record { line = 1; kind = BadOp ReadsAndWrites })
unfolding json_of serde_json_on_literals is_utf8 chars
delete_not_taken = refl

found_not_taken : line_reading 2
    (codes "{\"process\":1,\"event\":\"reply\",\"found\":true,\"old\":1}") ≡ Ok (record {
      line = 2;
      process = 1;
      kind = Reply (record { op = None; register = None; value = None; ok = None });
    })
unfolding json_of serde_json_on_literals is_utf8 chars
found_not_taken = refl

ok_not_taken : line_reading 2 (codes "{\"process\":1,\"event\":\"reply\",\"ok\":true}") ≡ Ok (record {
  line = 2;
  process = 1;
  kind = Reply (record { op = None; register = None; value = None; ok = None });
})
unfolding json_of serde_json_on_literals is_utf8 chars
ok_not_taken = refl

-- the limits in numbers, and names of 255 and of 256 bytes

limits : (MAX_INPUT ≡ 67_108_864) × (MAX_LINE ≡ 65_536) × (MAX_EVENTS ≡ 1_048_576) × (MAX_NAME ≡ 255)
limits = (refl, refl, refl, refl)

longest_name : name_form (Some (string (replicate 255 120))) ≡ Some (replicate 255 120)
longest_name = refl

longer_name : name_form (Some (string (replicate 256 120))) ≡ None
longer_name = refl

-- an input of two lines, of which the second is torn
torn_input : history_lines (codes "\r\n{\"process\":1,\"event\":\"reply\"}\r\n{\"pro")
    ≡ Ok (record {
      line = 2;
      process = 1;
      kind =
          Reply (record { op = None; register = None; value = None; ok = None });
    }) ∷ Err (record {
      line =
          3;
      kind = NotJson;
    }) ∷ []
unfolding json_of serde_json_on_literals is_utf8 chars
torn_input = refl

-- the comparison of values
values : same_value (Some (Int (pos 5))) (Some (Int (pos 5))) ≡ true
values = refl

absent_is_not_null : same_value None (Some Null) ≡ false
absent_is_not_null = refl
