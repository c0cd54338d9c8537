use Rattle.std.proofs.Common.{◌≡◌, ℕ, Bool, sym, ◌∷◌, [], take, map, eqb, ltb, refl, ap, ◌∙◌, length, length-append, arith}
use Rattle.std.specs.Prelude.{◌||◌, min}
use Rattle.std.specs.List.{list_any}
use Rattle.std.proofs.lemmas.List.{length-map, length-set}
use Rattle.dns_names.specs.Reading.{is_empty, is_long}
use Rattle.dns_names.specs.Rows.{kept_len}
use Rattle.dns_names.proofs.KeptLemmas.{keep_more, octets_ended, lengths_more, any_more}
use Rattle.dns_names.proofs.pieces.PieceRows.end_label.Goals as goal

pub returns : goal.returns
returns c = λ given kept.
    let lengths = map kept_len given.ended in
    let len : c.min.result ≡ kept_len given.last = c.min.ensures ∙ ap (λ (n : ℕ). min n 255) kept.last in
    record {
      octets = kept.octets ∙ ap (take 254) (octets_ended given.ended given.last);
      octets_room = kept.octets_room;
      lengths = rw (c.keep.ensures, len) (keep_more 127 c.args.self.now.ended c.args.self.now.lengths lengths (kept_len given.last) kept.lengths_room (kept.ended ∙ sym (length-map given.ended kept_len)) kept.lengths ∙ ap (take 127) (lengths_more given.ended given.last));
      lengths_room = rw c.keep.ensures (length-set c.args.self.now.lengths c.args.self.now.ended c.min.result ∙ kept.lengths_room);
      total = kept.total ∙ ap (length {A = ℕ}) (octets_ended given.ended given.last);
      ended = omega (arith, kept.ended, length-append given.ended (given.last ∷ []));
      last = refl;
      has_empty = ap (λ (b : Bool). b || eqb c.args.self.now.last 0) kept.has_empty ∙ ap (λ (n : ℕ). list_any is_empty given.ended || eqb n 0) kept.last ∙ any_more is_empty given.ended given.last;
      has_long = ap (λ (b : Bool). b || ltb 63 c.args.self.now.last) kept.has_long ∙ ap (λ (n : ℕ). list_any is_long given.ended || ltb 63 n) kept.last ∙ any_more is_long given.ended given.last;
    }
