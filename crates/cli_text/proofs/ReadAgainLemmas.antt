-- A zone that is printed and read.
use Rattle.std.proofs.Common.{◌≡◌, ◌∙◌, ap, ℕ, suc, List, [], ◌∷◌, Ok, Some, refl, arith}
use Rattle.std.specs.FinMap.{find}
use Rattle.std.specs.List.{AllByRecursion, Contains}
use Rattle.dns_data.specs.declared.record.Record.{Record}
use Rattle.dns_master.specs.Files.{file_of}
use Rattle.dns_master.specs.FileGrammar.{IsFile}
use Rattle.dns_master.proofs.FileLaws.{text_only}
use Rattle.dns_master.proofs.RelativeLaws.{relative_read}
use Rattle.dns_master.proofs.ZoneLaws.{zone_read}
use Rattle.dns_names.specs.Labels.{IsName}
use Rattle.dns_data.specs.Rdata.{IsRecord}
use Rattle.cli_core.specs.declared.job.ZoneForm.{ZoneForm}
use Rattle.cli_core.specs.declared.job.ZoneForm.TheVariants.{Whole, Relative}
use Rattle.zone_core.specs.Sets.{InOrder, IsIn, key_cmp, key_of, keyed, set_of}
use Rattle.zone_core.specs.Views.{zone_in, AreOfZone}
use Rattle.zone_core.specs.Zones.{built}
use Rattle.zone_core.specs.Rebuilt.{AreAllOf}
use Rattle.zone_core.proofs.RebuiltLemmas.{zones_are_rebuilt}
use Rattle.zone_core.proofs.RowLemmas.{each_in, get-set_of, in_has}
use Rattle.cli_text.specs.Canon.{ZonesAreReadAgain, zone_text_in}
use Rattle.cli_core.specs.LineFaults.{◌>>=◌, of_masters, of_zones}

each : {X : Type 0} (P Q : X → Type 0) (xs : List X) → ((x : X) → P x → Q x) → AllByRecursion P xs → AllByRecursion Q xs
each P Q [] f all = tt
each P Q (x ∷ xs) f all = (f x all.0, each P Q xs f all.1)

contained : {X : Type 0} (xs : List X) → AllByRecursion (Contains xs) xs
contained [] = tt
contained (x ∷ xs) = ((0, omega arith, refl), each (Contains xs) (Contains (x ∷ xs)) xs (λ y c. (suc c.0, omega (arith, c.1), c.2)) (contained xs))

-- records in order are those of their set
all_of_set : (records : List Record) → InOrder records → AreAllOf records (set_of records)
all_of_set records order = record {
  inside = each (λ x. find key_cmp (key_of x) (keyed records) ≡ Some x) (λ r. IsIn r (set_of records)) records (λ r found. get-set_of records (key_of r) ∙ found) (each_in records order);
  whole = λ r h. in_has (Contains records) records r (contained records) h;
}

built_again : (origin : List (List ℕ)) (records : List Record) → AreOfZone origin records → built origin records ≡ Ok (zone_in origin records)
built_again origin records is = zones_are_rebuilt (zone_in origin records) records is.zone (all_of_set records is.order)

-- the text in either form has the records
text_read : (form : ZoneForm) (origin : List (List ℕ)) (records : List Record) → IsName origin → AllByRecursion IsRecord records → IsFile (zone_text_in form origin records) origin records
text_read Whole origin records name rows = zone_read origin origin records name rows
text_read Relative origin records name rows = relative_read origin origin records name rows

pub zones_read : ZonesAreReadAgain
zones_read form origin records is name rows short =
    let text = zone_text_in form origin records in
    let file : file_of text origin ≡ Ok records = text_only text origin records name (text_read form origin records name rows) short in
    ap (λ f. of_masters f >>= λ rs. of_zones (built origin rs)) file ∙ ap of_zones (built_again origin records is)
