use Rattle.std.proofs.Common.{List, Vec, Global, inl, inr, refl}
use Rattle.cli_store.specs.declared.zone_files.ZoneFile.{ZoneFile}
use Rattle.cli_store.specs.ZoneFiles.{ZoneFileOf, zone_files_of}
use Rattle.cli_store.proofs.ZoneFileLemmas.{views, gives_same}
use Rattle.cli_store.proofs.import_list.import_text.Goals as goal

pub returns-in-Ok : goal.returns-in-Ok
returns-in-Ok g c = inr (views c.in-Ok.zones.items, c.in-Ok.ensures, rw c.deref.ensures.value at c.put_by.ensures)

pub returns-in-Err : goal.returns-in-Err
returns-in-Err g c = inl (
  c.in-Err.fault,
  gives_same (λ (zones : Vec ZoneFile Global). views zones.items) (λ (zones : List ZoneFileOf). zones) c.in-Err.fault (zone_files_of c.args.text.now) c.in-Err.ensures,
  c.write_refusal.ensures,
  refl,
)
