-- What is printed of one response, from its counts and its block of the results. Document 02, P1. Assumes nothing.
use Rattle.std.specs.Prelude.{List, ◌++◌, ℕ, eqb, Float}
use Rattle.base.specs.Sum.{◌!◌, ◌!!◌}
use Rattle.model.specs.declared.ends.Answer.{Answer}
use Rattle.model.specs.declared.sizes.Settings.{Settings}
use Rattle.lines.specs.Lines.{response_line}
use Rattle.report.specs.Report.{answer_text}
use Rattle.respond.specs.Flat.{lists_of}

-- the answer that counts and a block tell: every count in its place, deviance and phi in front of the block
unfoldable pub answer_from : List ℕ → List Float → Answer
answer_from c xs =
    record {
      number = c !! 0;
      deviance = xs ! 0;
      phi = xs ! 1;
      order = c !! 1;
      why = c !! 9;
      converged = eqb (c !! 2) 1;
      iterations = c !! 3;
      account = record { fits = c !! 4; solves = c !! 5; tries = c !! 6; points = c !! 7; eta = c !! 10; mean = c !! 11; pwrss = c !! 12; ok = c !! 13 };
    }

-- the line of response i, and behind it what is printed of that answer
unfoldable pub response_text : ℕ → Settings → List ℕ → List Float → List ℕ
response_text i t c xs = response_line i ++ answer_text (answer_from c xs) (lists_of t.n t.p t.rows xs)

-- the bytes that a caller lends for it: the line, and any answer
abbrev pub response_room : ℕ
response_room = 131136
