use Rattle.std.proofs.Common.{◌≡◌, take, length, sym, ap, ◌∙◌}
use Rattle.std.specs.List.{filter}
use Rattle.std.proofs.lemmas.List.{take_all}
use Rattle.zone_core.specs.Sets.{key_of}
use Rattle.zone_core.specs.Zones.{is_soa}
use Rattle.zone_core.proofs.RowLemmas.{count_is}
use Rattle.zone_core.proofs.build.soas.Goals as goal

pub returns : goal.returns
returns c =
    let rs = c.args.records.now in
    let all : take c.loop-record.record-index rs ≡ rs = take_all c.loop-record.record-index rs c.loop-record-test.false in
    c.loop-record.invariant.0 ∙ ap (λ xs. length (filter (λ r. is_soa (key_of r)) xs)) all ∙ sym (count_is is_soa rs c.requires)
