use Rattle.std.proofs.Common.{◌≡◌, ◌≤◌, take}
use Rattle.cli_text.specs.Questions.{number_read}
use Rattle.cli_text.proofs.query_type.number_read.Given as goal

-- the number of the digits so far
abbrev pub invariant-loop-digit : goal.invariant-loop-digit
invariant-loop-digit l = record {
  within : l.number ≤ 65536;
  read : l.number ≡ number_read (take l.digit-index l.digits);
}
