use Rattle.std.proofs.Common.{◌≡◌, ℕ, List, map, string_bytes, Some, None, Ok, ap}
use Rattle.frp_words.specs.Steps.{line_of}
use Rattle.frp_words.proofs.Meaning.{line-is, line_of-line}
use Rattle.frp_words.proofs.parser.line.Goals as goal

pub returns-in-Some-clause-ok : goal.returns-in-Some-clause-ok
returns-in-Some-clause-ok c =
    let words : List (List ℕ) = map string_bytes c.args.words.now in
    let read : line_of words ≡ Some c.in-Some.line = cc (c.read.ensures, c.in-Some.is) in
    line-is words c.in-Some.line read

pub returns-in-Some-clause-only : goal.returns-in-Some-clause-only
returns-in-Some-clause-only c = λ l is_line.
    let words : List (List ℕ) = map string_bytes c.args.words.now in
    let read : line_of words ≡ Some c.in-Some.line = cc (c.read.ensures, c.in-Some.is) in
    let wanted : line_of words ≡ Some l = line_of-line words l is_line in
    let same : c.in-Some.line ≡ l = cc in
    ap Ok same

pub returns-in-None-clause-only : goal.returns-in-None-clause-only
returns-in-None-clause-only c = λ l is_line.
    let words : List (List ℕ) = map string_bytes c.args.words.now in
    let read : line_of words ≡ None = cc (c.read.ensures, c.in-None.is) in
    let wanted : line_of words ≡ Some l = line_of-line words l is_line in
    absurd cc
