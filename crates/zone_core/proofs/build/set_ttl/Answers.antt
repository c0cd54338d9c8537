use Rattle.std.proofs.Common.{◌≡◌, ◌<◌, ◌-◌, ◌+◌, length, take, drop, get_or, false, ap, sym, ◌∙◌, arith}
use Rattle.std.proofs.lemmas.List.{get_or_default}
use Rattle.dns_data.specs.declared.record.Record.{Record}
use Rattle.zone_core.specs.Sets.{key_of}
use Rattle.zone_core.specs.Views.{set_ttl}
use Rattle.zone_core.specs.Zones.{beside}
use Rattle.zone_core.proofs.MinTtlLemmas.{known_before, ttl_beside}
use Rattle.zone_core.proofs.RangeLemmas.{rest_is}
use Rattle.zone_core.proofs.BesideLemmas.{set_from}
use Rattle.zone_core.proofs.build.set_ttl.Goals as goal
use Rattle.zone_core.proofs.build.set_ttl.Goals.{else-i-gt0-via-then-i-gt0+else-are_beside, else-i-gt0-via-else-i-gt0}

pub returns-then-are_beside : goal.returns-then-are_beside
returns-then-are_beside c = λ d.
    let rs = c.args.records.now in
    let i = c.args.i in
    let before = c.index-records-i-then-i-gt0.result in
    let here = c.index-records-i.result in
    known_before (set_ttl rs) rs c.args.known.now i c.index-known-i.result before c.requires.known c.if-i-gt0.true c.requires.within c.index-known-i.is c.index-records-i-then-i-gt0.is
    ∙ sym (ttl_beside rs here before (sym c.are_beside.ensures ∙ c.if-are_beside.true))
    ∙ ap (set_ttl rs) (c.index-records-i.is ∙ get_or_default rs i here d c.requires.within)

pub returns : goal.returns
returns c = λ d.
    let rs = c.args.records.now in
    let i = c.args.i in
    let here = c.index-records-i.result in
    let others = take (length rs - (i + 1)) (drop (i + 1) rs) in
    let before : (b : Record) → 0 < i → beside (key_of here) (key_of (get_or rs (i - 1) b)) ≡ false =
    λ b some. elim c.else-i-gt0.branch [
      | else-i-gt0-via-then-i-gt0+else-are_beside w ↦
          let last = w.index-records-i-then-i-gt0.result in
          ap (λ r. beside (key_of here) (key_of r)) (sym (w.index-records-i-then-i-gt0.is ∙ get_or_default rs (i - 1) last b (omega (arith, c.requires.within)))) ∙ sym w.are_beside.ensures ∙ w.if-are_beside.false
      | else-i-gt0-via-else-i-gt0 w ↦ absurd (omega (arith, some, w.if-i-gt0.false))
    ] in
    c.least_below.ensures
    ∙ sym (set_from rs c.requires.order i here c.requires.within c.index-records-i.is others c.count_beside.result (rest_is rs (i + 1)) c.count_beside.ensures before)
    ∙ ap (set_ttl rs) (c.index-records-i.is ∙ get_or_default rs i here d c.requires.within)
