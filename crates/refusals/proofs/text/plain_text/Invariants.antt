use Rattle.std.proofs.Common.{◌≡◌, take}
use Rattle.std.specs.Prelude.{map, string_bytes}
use Rattle.refusals.specs.Tables.{row_of}
use Rattle.refusals.specs.Texts.{text_of}
use Rattle.refusals.proofs.text.plain_text.Given as goal

abbrev pub invariant-loop-row : goal.invariant-loop-row
invariant-loop-row l = string_bytes l.text ≡ text_of (map row_of (take l.row-index l.rows))
