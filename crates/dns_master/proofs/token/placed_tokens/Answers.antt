use Rattle.std.proofs.Common.{◌≡◌, ◌∙◌, sym, ap, map, length, [], ◌∷◌, refl, arith}
use Rattle.std.proofs.lemmas.List.{map-append}
use Rattle.dns_master.specs.Lines.{line_at}
use Rattle.dns_master.specs.Tokens.{TokenText, token_of}
use Rattle.dns_master.proofs.TokenLemmas.{begins, one_item, blank_entry, filled_entry, all_read, no_octets}
use Rattle.dns_master.proofs.token.placed_tokens.Goals as goal

pub reading-init : goal.reading-init
reading-init c = rw c.new-tokens.ensures.items (record {
  room = omega (arith, ap length c.new-place.ensures.rest);
  fits = omega (arith, ap length c.new-place.ensures.rest);
  fits_filled = λ e. absurd cc;
  marks = record { within = omega arith; line = refl };
  so_far = begins c.args.text.now _ c.new-place.ensures.rest c.new-place.ensures.depth c.new-place.ensures.outermost;
})

pub returns-then-is_empty : goal.returns-then-is_empty
returns-then-is_empty c =
    let l = c.reading in
    let after = c.next_item.new.self in
    let next = rw c.in_default.is at c.in_ok-item.ensures.exact in
    let size : length after.rest.now ≡ 0 = grind (arith, c.is_empty.ensures, c.if-is_empty.true) in
    all_read c.args.text.now (map token_of l.tokens.items) l.entry l.place after l.filled l.invariant.so_far next (no_octets after.rest.now size)

pub reading-preserved-then-filled : goal.reading-preserved-then-filled
reading-preserved-then-filled c =
    let l = c.reading in
    let after = c.next_item.new.self in
    let next = rw c.in_default.is at c.in_ok-item.ensures.exact in
    let shrunk = c.in_ok-item.ensures.shrinks in
    let fits = l.invariant.fits_filled c.if-filled.true in
    let so_far = rw c.if-filled.true at l.invariant.so_far in
    record {
      room = omega (arith, shrunk.room, l.invariant.room);
      fits = omega (arith, shrunk.no_longer, fits);
      fits_filled = λ e. absurd cc;
      marks = l.invariant.marks;
      so_far = filled_entry c.args.text.now (map token_of l.tokens.items) l.entry l.place after so_far next;
    }

pub reading-preserved-else-filled : goal.reading-preserved-else-filled
reading-preserved-else-filled c =
    let l = c.reading in
    let after = c.next_item.new.self in
    let next = rw c.in_default.is at c.in_ok-item.ensures.exact in
    let shrunk = c.in_ok-item.ensures.shrinks in
    let so_far = rw c.if-filled.false at l.invariant.so_far in
    record {
      room = omega (arith, shrunk.room, l.invariant.room);
      fits = omega (arith, shrunk.no_longer, l.invariant.fits);
      fits_filled = λ e. absurd (let no = c.if-filled.false in cc);
      marks = l.invariant.marks;
      so_far = rw c.if-filled.false (blank_entry c.args.text.now (map token_of l.tokens.items) l.entry l.place after so_far next);
    }

pub reading-preserved : goal.reading-preserved
reading-preserved c =
    let l = c.reading in
    let after = c.next_item.new.self in
    let item = c.in-Some.item in
    let token = c.token_before-token.result in
    let next = rw c.in-Some.is at c.in_ok-item.ensures.exact in
    let shrunk = rw c.in-Some.is at c.in_ok-item.ensures.shrinks in
    let exact = c.token_before-token.ensures.exact in
    rw c.in_ok-push.ensures.items (record {
      room = omega (arith, shrunk.room, l.invariant.room);
      fits = omega (arith, shrunk.shorter, l.invariant.fits);
      fits_filled = λ e. omega (arith, shrunk.shorter, l.invariant.fits);
      marks = record {
        within = c.token_before-token.ensures.within;
        line = ap (λ (t : TokenText). t.line) exact ∙ ap (line_at c.args.text.now) (sym (ap (λ (t : TokenText). t.start) exact));
      };
      so_far = rw (map-append token_of l.tokens.items (token ∷ [])) (one_item c.args.text.now (map token_of l.tokens.items) l.entry l.filled l.place item after (token_of token) exact l.invariant.so_far next);
    })
