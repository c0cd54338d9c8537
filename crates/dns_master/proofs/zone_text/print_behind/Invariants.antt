use Rattle.std.proofs.Common.{◌≡◌, ◌++◌, take}
use Rattle.std.specs.List.{flat_map}
use Rattle.std.specs.Option.{option_map}
use Rattle.std.specs.Prelude.{string_bytes}
use Rattle.dns_master.specs.ZoneText.{line_in}
use Rattle.dns_master.proofs.DeviceLemmas.{IsLeft}
use Rattle.dns_master.proofs.zone_text.print_behind.Given as goal

abbrev pub invariant-loop-rr : goal.invariant-loop-rr
invariant-loop-rr g l = record {
  left : IsLeft (g.W.Sink.contents l.initial.writer) (g.W.Sink.contents l.writer) (string_bytes l.fn.text ++ flat_map (line_in (option_map (λ f. f.now) l.form)) (take l.rr-index l.records)) (string_bytes l.text);
  fine : g.W.FaultCount.failures l.writer ≡ g.W.FaultCount.failures l.initial.writer;
}
