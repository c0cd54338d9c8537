use Rattle.std.proofs.Common.{◌≡◌, ◌<◌, length, map, subst, arith}
use Rattle.std.proofs.lemmas.Result.{err_from_is_err_and}
use Rattle.std.proofs.lemmas.List.{length-map}
use Rattle.dns_data.specs.Faults.{Reads}
use Rattle.dns_data.specs.Items.{item_of}
use Rattle.dns_data.specs.Digests.{digest_of}
use Rattle.dns_data.proofs.JoinedLaws.{digest_missing, digest_refused, digest_of_joined}
use Rattle.dns_data.proofs.fields.digest.Goals as goal

pub returns-then-is_empty : goal.returns-then-is_empty
returns-then-is_empty c =
    let items = c.args.items.now in
    let none : length items ≡ 0 = grind (arith, c.is_empty.ensures, c.if-is_empty.true) in
    digest_missing (map item_of items) (omega (arith, length-map items item_of))

pub returns-in_err-joined : goal.returns-in_err-joined
returns-in_err-joined c =
    let p = err_from_is_err_and c.from_residual.result c.from_residual.ensures.1 in
    let items = c.args.items.now in
    let some : 0 < length items = grind (arith, c.is_empty.ensures, c.if-is_empty.false) in
    rw (p.1, p.2) (digest_refused (map item_of items) c.in_err-joined.field-0.0 (omega (arith, length-map items item_of)) c.in_err-joined.ensures)

pub returns : goal.returns
returns c =
    let items = c.args.items.now in
    let some : 0 < length items = grind (arith, c.is_empty.ensures, c.if-is_empty.false) in
    let text = c.in_ok-joined.field-0.items in
    let read : Reads (λ digest. digest) c.read.result (digest_of text) = rw c.deref.ensures.value at c.read.ensures in
    subst (Reads (λ digest. digest) c.read.result) (digest_of_joined (map item_of items) text (omega (arith, length-map items item_of)) c.in_ok-joined.ensures) read
