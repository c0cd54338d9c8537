use Rattle.std.proofs.Common.{length}
use Rattle.dns_master.specs.Entries.{entries}
use Rattle.dns_master.specs.FileViews.{force_of}
use Rattle.dns_master.specs.AnyRecords.{any_file_from}
use Rattle.dns_master.specs.Parting.{with_lines}
use Rattle.dns_master.proofs.PartingLemmas.{Continues}
use Rattle.dns_master.proofs.parting.Parting.take_entries.Given as goal

abbrev pub invariant-loop-rest : goal.invariant-loop-rest
invariant-loop-rest l =
    Continues (with_lines l.initial.self.text.items l.initial.self.part l.initial.self.origin (any_file_from (force_of l.initial.self.file) (entries l.text)))
    (force_of l.self.file) l.self.text.items l.self.part l.self.origin l.rest

abbrev pub decreases-loop-rest : goal.decreases-loop-rest
decreases-loop-rest l = length l.rest
