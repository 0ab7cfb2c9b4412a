-- The lines of an input are read with ascending numbers, from 1 on.
use Rattle.std.proofs.Common.{ℕ, ◌+◌, ◌<◌, ◌≤◌, List, [], ◌∷◌, map, Bool, true, false, cond}
use Rattle.std.proofs.Common.{Result, arith}
use Rattle.std.specs.Prelude.{not}
use Rattle.std.specs.List.{All, AllPairs}
use Rattle.std.proofs.lemmas.List.Elements.{All-nil, All-cons, All-weaker}
use Rattle.std.proofs.lemmas.List.Kept.{AllPairs-cons}
use Rattle.history_text.specs.declared.event.LineEvent.{LineEvent}
use Rattle.history_text.specs.declared.fault.LineFault.{LineFault}
use Rattle.history_text.specs.Lines.{lines, is_blank}
use Rattle.history_text.specs.Reading.{line_reading, line_number, history_lines, IsAscending}
use Rattle.history_text.proofs.Numbered.{kept}
use Rattle.history_text.proofs.Plain.{own-number}

-- what a numbered line means
abbrev reading : ℕ × List ℕ → Result LineEvent LineFault
reading l = line_reading l.0 l.1

-- the lines from number `n` on
record Rises (n : ℕ) (read : List (Result LineEvent LineFault)) : Type 0 where
  pub least : All (λ l. n ≤ line_number l) read
  pub pairs : AllPairs (λ l m. line_number l < line_number m) read

-- the same, of a line before
weaker : (n : ℕ) (read : List (Result LineEvent LineFault)) → All (λ l. n + 1 ≤ line_number l) read
    → All (λ l. n ≤ line_number l) read
weaker n read all =
    All-weaker (λ l. n + 1 ≤ line_number l) (λ l. n ≤ line_number l) (λ l h. omega (arith, h)) read all

one_more : (n : ℕ) (l : List ℕ) (b : Bool) (later : List (ℕ × List ℕ)) → Rises (n + 1) (map reading later)
    → Rises n (map reading (cond (not b) ((n, l) ∷ later) later))
one_more n l true later rest = record { least = weaker n (map reading later) rest.least; pairs = rest.pairs }
one_more n l false later rest =
    let number = own-number n l in
    let after =
    All-weaker (λ m. n + 1 ≤ line_number m) (λ m. line_number (line_reading n l) < line_number m)
    (λ m h. omega (arith, h, number)) (map reading later) rest.least in
    record {
      least =
          All-cons (λ l. n ≤ line_number l) (line_reading n l) (map reading later) (omega (arith, number))
          (weaker n (map reading later) rest.least);
      pairs =
          AllPairs-cons (λ l m. line_number l < line_number m) (line_reading n l)
          (map reading later) after rest.pairs;
    }

rises : (n : ℕ) (ls : List (List ℕ)) → Rises n (map reading (kept n ls))
rises n [] = record { least = All-nil _; pairs = λ i j d lt short. absurd (omega arith) }
rises n (l ∷ ls) = one_more n l (is_blank l) (kept (n + 1) ls) (rises (n + 1) ls)

pub lines-ascend : (input : List ℕ) → IsAscending (history_lines input)
lines-ascend input = let all = rises 1 (lines input) in (all.least, all.pairs)
