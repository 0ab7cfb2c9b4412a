-- What is written in each case is the event's line.
use Rattle.history_generator.proofs.event.push_line.Goals as goal

pub returns-in-ReadCall : goal.returns-in-ReadCall
returns-in-ReadCall c = rw c.in-ReadCall.is c.writeln.ensures.bytes

pub returns-in-WriteCall : goal.returns-in-WriteCall
returns-in-WriteCall c = rw c.in-WriteCall.is c.writeln-in-WriteCall.ensures.bytes

pub returns-in-WriteReply : goal.returns-in-WriteReply
returns-in-WriteReply c = rw c.in-WriteReply.is c.writeln-in-WriteReply.ensures.bytes

pub returns-in-Fail : goal.returns-in-Fail
returns-in-Fail c = rw c.in-Fail.is c.writeln-in-Fail.ensures.bytes

pub returns-in-Crash : goal.returns-in-Crash
returns-in-Crash c = rw c.in-Crash.is c.writeln-in-Crash.ensures.bytes
