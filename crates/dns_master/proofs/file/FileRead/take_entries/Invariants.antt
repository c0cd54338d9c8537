use Rattle.std.proofs.Common.{length}
use Rattle.dns_master.specs.Entries.{entries}
use Rattle.dns_master.specs.Files.{with_records, file_from}
use Rattle.dns_master.specs.FileViews.{force_of}
use Rattle.dns_master.proofs.FileLemmas.{Continues}
use Rattle.dns_master.proofs.file.FileRead.take_entries.Given as goal

abbrev pub invariant-loop-rest : goal.invariant-loop-rest
invariant-loop-rest l = Continues (with_records l.initial.self.records.items (file_from (force_of l.initial.self) (entries l.text))) (force_of l.self) l.self.records.items l.rest

abbrev pub decreases-loop-rest : goal.decreases-loop-rest
decreases-loop-rest l = length l.rest
