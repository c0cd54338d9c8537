use Rattle.std.proofs.Common.{ℕ, ◌++◌, ◌∷◌, [], take, ap, ◌∙◌, length, length-append, arith}
use Rattle.std.specs.List.{concat}
use Rattle.std.proofs.lemmas.List.{length-set}
use Rattle.dns_names.proofs.KeptLemmas.{keep_more, octets_more}
use Rattle.dns_names.proofs.pieces.PieceRows.push.Goals as goal

pub returns : goal.returns
returns c = λ given kept.
    let o = c.args.octet in
    let octets = concat given.ended ++ given.last in
    record {
      octets = rw c.keep.ensures (keep_more 254 c.args.self.now.total c.args.self.now.octets octets o kept.octets_room kept.total kept.octets ∙ ap (take 254) (octets_more given.ended given.last o));
      octets_room = rw c.keep.ensures (length-set c.args.self.now.octets c.args.self.now.total o ∙ kept.octets_room);
      lengths = kept.lengths;
      lengths_room = kept.lengths_room;
      total = omega (arith, kept.total, ap (length {A = ℕ}) (octets_more given.ended given.last o), length-append octets (o ∷ []));
      ended = kept.ended;
      last = omega (arith, kept.last, length-append given.last (o ∷ []));
      has_empty = kept.has_empty;
      has_long = kept.has_long;
    }
