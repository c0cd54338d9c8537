use Rattle.std.proofs.Common.{◌≡◌, ◌≤◌, ◌+◌, length, map, true}
use Rattle.dns_master.specs.Lines.{Marks}
use Rattle.dns_master.specs.Tokens.{token_of}
use Rattle.dns_master.proofs.TokenLemmas.{SoFar}
use Rattle.dns_master.proofs.token.placed_tokens.Given as goal

abbrev pub invariant-reading : goal.invariant-reading
invariant-reading l = record {
  room : l.place.depth + length l.place.rest.now ≤ length l.text;
  fits : l.entry + length l.place.rest.now ≤ length l.text;
  fits_filled : l.filled ≡ true → l.entry + 1 + length l.place.rest.now ≤ length l.text;
  marks : Marks l.text l.mark;
  so_far : SoFar l.text (map token_of l.tokens.items) l.entry l.filled l.place;
}

abbrev pub decreases-reading : goal.decreases-reading
decreases-reading l = length l.place.rest.now
