use Rattle.std.proofs.Common.{◌≡◌, ◌≤◌, ◌<◌, ◌-◌, length, sym, take, drop, arith, ◌∙◌, subst, ℕ, List, length-take, length-drop}
use Rattle.std.proofs.lemmas.List.{take_all}
use Rattle.httparse.specs.Grammar.{HasNoRequest, MayBecomeRequest}
use Rattle.office_wire.specs.Exchange.{IsHead}
use Rattle.office_wire.proofs.HeadLemmas.{never_from_window, never_from_none, waits_from_none, waits_from_short, waits_up_to_none, waits_up_to_body, same_number, reads_whole}
use Rattle.office_wire.proofs.framing.framing_of.Goals as goal

pub read_head-requires : goal.read_head-requires
read_head-requires c = rw c.window_of.ensures (simp length-take (omega arith))

pub overflow_sub-bytes : goal.overflow_sub-bytes
overflow_sub-bytes c =
    let is = rw c.window_of.ensures at c.in-Whole.ensures in
    let within : c.in-Whole.heading.len ≤ length (take 16384 c.args.bytes.now) = is.3 in
    let k = length-take 16384 c.args.bytes.now in
    omega arith

pub returns-in-Hopeless : goal.returns-in-Hopeless
returns-in-Hopeless c = never_from_window c.args.bytes.now (rw c.window_of.ensures at c.in-Hopeless.ensures)

pub returns-in-Partial : goal.returns-in-Partial
returns-in-Partial c =
    let bytes = c.args.bytes.now in
    let fits : length bytes ≤ 16384 = omega arith in
    let whole = take_all 16384 bytes fits in
    let is = rw c.window_of.ensures at c.in-Partial.ensures in
    let short : length bytes < 16384 = c.if-bytes-lt-HEAD_MAX.true in
    (waits_from_none bytes (subst (λ (l : List ℕ). HasNoRequest l) whole is.0) short (subst (λ (l : List ℕ). MayBecomeRequest l) whole is.1), omega arith, waits_up_to_none bytes, omega arith)

pub returns-in-Partial-2 : goal.returns-in-Partial-2
returns-in-Partial-2 c =
    let bytes = c.args.bytes.now in
    let many : 16384 ≤ length bytes = c.if-bytes-lt-HEAD_MAX.false in
    never_from_none bytes many (rw c.window_of.ensures at c.in-Partial-2.ensures).0

pub returns-in-Refused : goal.returns-in-Refused
returns-in-Refused c =
    let bytes = c.args.bytes.now in
    let is = rw c.window_of.ensures at c.in-Whole.ensures in
    let reads = reads_whole bytes _ is.0 c.in-Whole.heading.len is.2 is.1.len in
    let k = length-take 16384 bytes in
    let within : c.in-Whole.heading.len ≤ length (take 16384 bytes) = is.3 in
    let len = is.1.len in
    (is.0, _, record { valid = is.2.0; short = omega arith }, is.1.asked.method, sym is.1.ask ∙ c.in-Refused.is, reads.1)

pub returns-in-Body : goal.returns-in-Body
returns-in-Body c =
    let bytes = c.args.bytes.now in
    let is = rw c.window_of.ensures at c.in-Whole.ensures in
    let reads = reads_whole bytes _ is.0 c.in-Whole.heading.len is.2 is.1.len in
    let k = length-take 16384 bytes in
    let within : c.in-Whole.heading.len ≤ length (take 16384 bytes) = is.3 in
    let small : c.in-Body.n ≤ 65536 = rw c.in-Body.is at is.4 in
    let left : length (drop c.in-Whole.heading.len bytes) < c.in-Body.n = simp length-drop (omega arith) in
    let asks = sym is.1.ask ∙ c.in-Body.is in
    let len = is.1.len in
    let head : IsHead is.0 = record { valid = is.2.0; short = omega arith } in
    (waits_from_short bytes _ is.0 c.in-Body.n head reads asks left, omega arith, waits_up_to_body bytes is.0 c.in-Whole.heading.len c.in-Body.n head reads (omega arith) asks, omega arith)

pub returns-in-Body-2 : goal.returns-in-Body-2
returns-in-Body-2 c =
    let bytes = c.args.bytes.now in
    let is = rw c.window_of.ensures at c.in-Whole.ensures in
    let reads = reads_whole bytes _ is.0 c.in-Whole.heading.len is.2 is.1.len in
    let k = length-take 16384 bytes in
    let within : c.in-Whole.heading.len ≤ length (take 16384 bytes) = is.3 in
    let len = is.1.len in
    let asks = sym c.in-Body.is ∙ c.in-Body-2.is in
    let one : c.in-Body.n ≡ c.in-Body-2.n = same_number _ _ asks in
    let many : c.in-Body.n ≤ length bytes - c.in-Whole.heading.len = c.if-bytes-heading.false in
    (is.0, is.1, record { valid = is.2.0; short = omega arith }, sym is.1.ask ∙ c.in-Body-2.is, reads.1, omega arith)
